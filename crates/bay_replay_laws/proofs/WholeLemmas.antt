-- A printed line is its words and its end.
use Rattle.std.proofs.Common.{◌≡◌, ℕ, List, [], ◌∷◌, ◌++◌, codes, ap, sym, ◌∙◌, append_assoc}

-- two words before others, and the end of the line
two-words : (x verb y end : List ℕ)
    → x ++ (32 ∷ (verb ++ 32 ∷ [])) ++ y ++ end ≡ (x ++ 32 ∷ (verb ++ 32 ∷ y)) ++ end
two-words x verb y end = simp append_assoc

three-words : (x verb y z end : List ℕ)
    → x ++ (32 ∷ (verb ++ 32 ∷ [])) ++ y ++ (32 ∷ []) ++ z ++ end
    ≡ (x ++ 32 ∷ (verb ++ 32 ∷ (y ++ 32 ∷ z))) ++ end
three-words x verb y z end = simp append_assoc

pub load-whole : (x y z : List ℕ)
    → codes "instructions=" ++ x ++ codes " depth=" ++ y ++ codes " budget=" ++ (z ++ codes "\n")
    ≡ ((codes "instructions=" ++ x) ++ 32 ∷ ((codes "depth=" ++ y) ++ 32 ∷ (codes "budget=" ++ z)))
    ++ 10 ∷ []
load-whole x y z =
    three (codes "instructions=") x (codes "depth=") y (codes "budget=") z (10 ∷ [])
  where
    three : (a x b y c z end : List ℕ)
        → a ++ x ++ (32 ∷ b) ++ y ++ (32 ∷ c) ++ (z ++ end)
        ≡ ((a ++ x) ++ 32 ∷ ((b ++ y) ++ 32 ∷ (c ++ z))) ++ end
    three a x b y c z end = simp append_assoc

pub scan-whole : (x y z : List ℕ)
    → x ++ codes " scan steps=" ++ y ++ z ++ codes "\n"
    ≡ (x ++ 32 ∷ (codes "scan" ++ 32 ∷ ((codes "steps=" ++ y) ++ z))) ++ 10 ∷ []
scan-whole x y z = parted x (codes "scan") (codes "steps=") y z (10 ∷ [])
  where
    parted : (x verb name y z end : List ℕ)
        → x ++ (32 ∷ (verb ++ 32 ∷ name)) ++ y ++ z ++ end
        ≡ (x ++ 32 ∷ (verb ++ 32 ∷ ((name ++ y) ++ z))) ++ end
    parted x verb name y z end = simp append_assoc

pub send-whole : (x y z : List ℕ)
    → x ++ codes " send " ++ y ++ codes " " ++ z ++ codes "\n"
    ≡ (x ++ 32 ∷ (codes "send" ++ 32 ∷ (y ++ 32 ∷ z))) ++ 10 ∷ []
send-whole x y z = three-words x (codes "send") y z (10 ∷ [])

pub command-whole : (x y z : List ℕ)
    → x ++ codes " command " ++ y ++ 32 ∷ (z ++ 10 ∷ [])
    ≡ (x ++ 32 ∷ (codes "command" ++ 32 ∷ (y ++ 32 ∷ z))) ++ 10 ∷ []
command-whole x y z = ended x (codes "command") y z (10 ∷ [])
  where
    ended : (x verb y z end : List ℕ)
        → x ++ (32 ∷ (verb ++ 32 ∷ [])) ++ y ++ 32 ∷ (z ++ end)
        ≡ (x ++ 32 ∷ (verb ++ 32 ∷ (y ++ 32 ∷ z))) ++ end
    ended x verb y z end = simp append_assoc

pub closed-whole : (x y z : List ℕ)
    → x ++ codes " closed " ++ y ++ codes " " ++ (z ++ 10 ∷ [])
    ≡ (x ++ 32 ∷ (codes "closed" ++ 32 ∷ (y ++ 32 ∷ z))) ++ 10 ∷ []
closed-whole x y z =
    sym (append_assoc (x ++ codes " closed " ++ y ++ codes " ") z (10 ∷ []))
    ∙ three-words x (codes "closed") y z (10 ∷ [])

pub refused-whole : (x y : List ℕ)
    → x ++ codes " refused " ++ y ++ codes "\n"
    ≡ (x ++ 32 ∷ (codes "refused" ++ 32 ∷ y)) ++ 10 ∷ []
refused-whole x y = two-words x (codes "refused") y (10 ∷ [])

pub word-whole : (x y z : List ℕ)
    → codes " " ++ x ++ codes "=" ++ y ++ z ≡ 32 ∷ ((x ++ 61 ∷ y) ++ z)
word-whole x y z = ap (λ t. 32 ∷ (t ++ z)) (append_assoc x (61 ∷ []) y)
