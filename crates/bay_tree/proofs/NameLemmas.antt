-- The parent and the last word of a name, by its last `$`.
use Rattle.std.proofs.Common.{Option, ap, length, length-append, ◌+◌, ◌-◌, ◌≤◌, ◌≡◌, ◌≢◌, ℕ, suc, Some, None, List, [], ◌∷◌, ◌++◌, drop, refl, sym, ◌∙◌, arith, lit<, eqb, false, tests, rules}
use Rattle.std.proofs.lemmas.List.{take-append-drop}
use Rattle.std.proofs.lemmas.List.Elements.{All-from_get_or}
use Rattle.std.proofs.lemmas.Str.Pattern.{NoCharPasses-char, drop_at_char}
use Rattle.std.specs.Str.Pattern.{RFindsChar, SplitsAroundMatch}
use Rattle.bay_tree.specs.Names.{IsNamed, IsWord, parent_of, word_of}

IsWord-tail : (octet : ℕ) (word : List ℕ) → IsWord (octet ∷ word) → IsWord word
IsWord-tail octet word is = λ k d lt. is (suc k) d (omega arith)

not-dollar : (octet : ℕ) (word : List ℕ) → IsWord (octet ∷ word) → eqb octet 36 ≡ false
not-dollar octet word is = let other : octet ≢ 36 = is 0 0 (omega arith) in search (rules, tests)

pub parent_of-word : (word : List ℕ) → IsWord word → parent_of word ≡ None
parent_of-word [] is = refl
parent_of-word (octet ∷ word) is =
    rw (parent_of-word word (IsWord-tail octet word is), not-dollar octet word is)

pub word_of-word : (word : List ℕ) → IsWord word → word_of word ≡ word
word_of-word [] is = refl
word_of-word (octet ∷ word) is =
    rw (
      parent_of-word word (IsWord-tail octet word is),
      word_of-word word (IsWord-tail octet word is),
      not-dollar octet word is,
    )

pub parent_of-join : (parent word : List ℕ) → IsWord word
    → parent_of (parent ++ 36 ∷ word) ≡ Some parent
parent_of-join [] word is = rw (parent_of-word word is)
parent_of-join (octet ∷ parent) word is = rw (parent_of-join parent word is)

pub word_of-join : (parent word : List ℕ) → IsWord word → word_of (parent ++ 36 ∷ word) ≡ word
word_of-join [] word is = rw (parent_of-word word is, word_of-word word is)
word_of-join (octet ∷ parent) word is =
    rw (parent_of-join parent word is, word_of-join parent word is)

-- a text in which no `$` is found is a word
pub rsplit-none : (name : List ℕ) → RFindsChar 36 name None → IsWord name
rsplit-none name none =
    All-from_get_or (λ (octet : ℕ). octet ≢ 36) name 0
    (λ i lt. NoCharPasses-char 36 name i none (lit< tt) lt)

-- what stands after the last `$` is a word
pub rsplit-some : (name front word : List ℕ) → SplitsAroundMatch (RFindsChar 36) name front word
    → (name ≡ front ++ 36 ∷ word) × IsWord word
rsplit-some name front word found =
    let at : drop found.0 name ≡ 36 ∷ drop found.1 name =
    drop_at_char 36 name found.0 found.1 found.2.1 (lit< tt) in (
      sym (take-append-drop found.0 name) ∙ rw (at, found.3, found.4) refl,
      rw found.4 (rsplit-none (drop found.1 name) found.2.0),
    )

past-dollar : (parent word : List ℕ) → drop (suc (length parent)) (parent ++ 36 ∷ word) ≡ word
past-dollar [] word = refl
past-dollar (octet ∷ parent) word = past-dollar parent word

-- a last word is the end of its name
pub word-end : (o : Option (List ℕ)) (word name : List ℕ) → IsNamed o word name
    → (length word ≤ length name) × (drop (length name - length word) name ≡ word)
word-end None word name named =
    let long : length name ≡ length word = ap length named.0 in
    let start : length name - length word ≡ 0 = omega arith in
    (omega arith, rw start named.0)
word-end (Some parent) word name named =
    let long : length name ≡ length parent + suc (length word) =
    ap length named.0 ∙ length-append parent (36 ∷ word) in
    let start : length name - length word ≡ suc (length parent) = omega arith in
    (omega arith, rw (start, named.0) (past-dollar parent word))
