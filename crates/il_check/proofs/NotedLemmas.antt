-- Faults noted one after another.
use Rattle.std.proofs.Common.{◌≡◌, List, [], ◌∷◌, ◌++◌, Option, Some, None, refl, ap, sym, ◌∙◌}
use Rattle.il_check.specs.Faults.{first_of, least_of, least_fault, first_fault_of}
use Rattle.il_check.specs.declared.fault.CheckFault.{CheckFault}

least_of-append : (f : CheckFault) (xs ys : List CheckFault)
    → least_of f (xs ++ ys) ≡ least_of (least_of f xs) ys
least_of-append f [] ys = refl
least_of-append f (x ∷ xs) ys = least_of-append (first_of f x) xs ys

pub noted-append : (found : Option CheckFault) (xs ys : List CheckFault)
    → first_fault_of found (xs ++ ys) ≡ first_fault_of (first_fault_of found xs) ys
noted-append (Some f) xs ys = ap Some (least_of-append f xs ys)
noted-append None [] ys = refl
noted-append None (x ∷ xs) ys = ap Some (least_of-append x xs ys)

pub noted-nil : (found : Option CheckFault) → first_fault_of found [] ≡ found
noted-nil (Some f) = refl
noted-nil None = refl

-- where none is answered, none was found before
pub noted-none : (found : Option CheckFault) (faults : List CheckFault)
    → first_fault_of found faults ≡ None
    → found ≡ None
noted-none None faults none = refl
noted-none (Some f) faults none = absurd (cc)

-- tests one after another
pub noted-two : (found : Option CheckFault) (a b : List CheckFault)
    → first_fault_of found (a ++ b) ≡ first_fault_of (first_fault_of found a) b
noted-two = noted-append

pub noted-three : (found : Option CheckFault) (a b c : List CheckFault)
    → first_fault_of found (a ++ (b ++ c))
    ≡ first_fault_of (first_fault_of (first_fault_of found a) b) c
noted-three found a b c = noted-append found a (b ++ c) ∙ noted-append (first_fault_of found a) b c

pub noted-four : (found : Option CheckFault) (a b c d : List CheckFault)
    → first_fault_of found (a ++ (b ++ (c ++ d)))
    ≡ first_fault_of (first_fault_of (first_fault_of (first_fault_of found a) b) c) d
noted-four found a b c d =
    noted-append found a (b ++ (c ++ d)) ∙ noted-three (first_fault_of found a) b c d

-- where no fault is answered, there is none
pub least_fault-none : (faults : List CheckFault) → least_fault faults ≡ None → faults ≡ []
least_fault-none [] none = refl
least_fault-none (f ∷ faults) none = absurd (cc)

pub append-none : (xs ys : List CheckFault) → xs ++ ys ≡ [] → (xs ≡ []) × (ys ≡ [])
append-none [] ys none = (refl, none)
append-none (x ∷ xs) ys none = absurd (cc)

pub ruleset note_rules = (noted-two, noted-three, noted-four)

-- three lists one after another
pub noted-after : (a b c d : Option CheckFault) (xs ys zs : List CheckFault)
    → b ≡ first_fault_of a xs
    → c ≡ first_fault_of b ys → d ≡ first_fault_of c zs → d ≡ first_fault_of a (xs ++ (ys ++ zs))
noted-after a b c d xs ys zs e f g =
    g ∙ ap (λ (o : Option CheckFault). first_fault_of o zs)
    (f ∙ ap (λ (o : Option CheckFault). first_fault_of o ys) e) ∙ sym (noted-three a xs ys zs)
