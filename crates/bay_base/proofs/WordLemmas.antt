-- A word is sought in the table of the code as in that of the definition.
use Rattle.std.proofs.Common.{◌≡◌, ◌∙◌, ℕ, List, [], ◌∷◌, Option, Some, None, map, find, option_map, Bor, refl, sym, ap}
use Rattle.bay_base.specs.Names.{upper, same_name}
use Rattle.bay_base.proofs.NameLemmas.{same-upper}
use Rattle.bay_base.specs.Words.{reserved_words, reserved_of}
use Rattle.bay_base.specs.declared.words.ReservedWord.{ReservedWord}
use Rattle.bay_base.proofs.ListLemmas.{find-map}

twice : (o : Option (Bor (List ℕ) × ReservedWord))
    → option_map (λ one. one.1) o
    ≡ option_map {T = List ℕ × ReservedWord} (λ r. r.1)
    (option_map (λ entry. (entry.0.now, entry.1)) o)
twice None = refl
twice (Some x) = refl

pub word-found : (w : List ℕ) (entries : List (Bor (List ℕ) × ReservedWord))
    → map (λ entry. (entry.0.now, entry.1)) entries ≡ reserved_words
    → option_map (λ one. one.1) (find (λ entry. same_name w entry.0.now) entries) ≡ reserved_of w
unfolding reserved_of
word-found w entries e =
    let seen : List ℕ × ReservedWord → ReservedWord = λ r. r.1 in
    twice (find (λ entry. same_name w entry.0.now) entries)
    ∙ ap (λ (o : Option (List ℕ × ReservedWord)). option_map seen o)
    (sym (find-map (λ (r : List ℕ × ReservedWord). same_name w r.0)
    (λ (entry : Bor (List ℕ) × ReservedWord). (entry.0.now, entry.1)) entries))
    ∙ ap (λ (rs : List (List ℕ × ReservedWord)). option_map seen
    (find (λ (r : List ℕ × ReservedWord). same_name w r.0) rs)) e

same-find : (w v : List ℕ) → ((r : List ℕ) → same_name w r ≡ same_name v r)
    → (entries : List (List ℕ × ReservedWord))
    → find (λ r. same_name w r.0) entries ≡ find (λ r. same_name v r.0) entries
same-find w v same [] = refl
same-find w v same (r ∷ rs) = rw (same r.0, same-find w v same rs) refl

-- a word in upper case is the same word
pub reserved-upper : (w : List ℕ) → reserved_of (upper w) ≡ reserved_of w
unfolding reserved_of
reserved-upper w =
    ap (λ (o : Option (List ℕ × ReservedWord)). option_map (λ r. r.1) o)
    (same-find (upper w) w (same-upper w) reserved_words)
