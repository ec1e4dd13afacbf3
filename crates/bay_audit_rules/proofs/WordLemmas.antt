-- Lemmas on the words and the tokens of a line.
use Rattle.std.proofs.Common.{◌≡◌, ◌∙◌, ℕ, ◌+◌, ◌-◌, ◌≤◌, Bool, true, false, nat_lt, List, [], ◌∷◌, ◌++◌, length, suc, take, drop, Option, Some, None, map, find, option_map, Bor, refl, sym, ap, subst, append_assoc, arith}
use Rattle.std.proofs.lemmas.Grind.{common_steps}
use Rattle.std.proofs.lemmas.Bool.Decides.{nat_tests}
use Rattle.std.proofs.lemmas.List.{take_all}
use Rattle.std.proofs.lemmas.List.Splits.{slice_split-cons_no, slice_split_first}
use Rattle.std.specs.List.{position, position_or_len, before_first, slice_split, onto_first}
use Rattle.bay_base.specs.Names.{same_name}
use Rattle.bay_base.proofs.ListLemmas.{find-map}
use Rattle.bay_config.specs.declared.bay.Bay.{Bay}
use Rattle.bay_audit_rules.specs.Meaning.{is_blank_piece, is_comment, tokens_of, line_tokens}
use Rattle.bay_audit_rules.specs.Pieces.{pieces}
use Rattle.bay_audit_rules.specs.declared.pieces.Cut.TheVariants.{Line}
use Rattle.bay_audit_rules.specs.Words.{words, reserved_token, token_of}
use Rattle.bay_audit_rules.specs.declared.token.RuleToken.{RuleToken}

twice : (o : Option (Bor (List ℕ) × RuleToken))
    → option_map (λ one. one.1) o
    ≡ option_map {T = List ℕ × RuleToken} (λ r. r.1)
    (option_map (λ entry. (entry.0.now, entry.1)) o)
twice None = refl
twice (Some x) = refl

-- a word is sought in the table of the code as in that of the definition
pub word-found : (w : List ℕ) (entries : List (Bor (List ℕ) × RuleToken))
    → map (λ entry. (entry.0.now, entry.1)) entries ≡ words
    → option_map (λ one. one.1) (find (λ entry. same_name w entry.0.now) entries) ≡ reserved_token w
unfolding reserved_token
word-found w entries e =
    let seen : List ℕ × RuleToken → RuleToken = λ r. r.1 in
    twice (find (λ entry. same_name w entry.0.now) entries)
    ∙ ap (λ (o : Option (List ℕ × RuleToken)). option_map seen o)
    (sym (find-map (λ (r : List ℕ × RuleToken). same_name w r.0)
    (λ (entry : Bor (List ℕ) × RuleToken). (entry.0.now, entry.1)) entries))
    ∙ ap (λ (rs : List (List ℕ × RuleToken)). option_map seen
    (find (λ (r : List ℕ × RuleToken). same_name w r.0) rs)) e

-- what stands before the first of a kind
pub before-some : (p : ℕ → Bool) (bs : List ℕ) (at : ℕ) → position p bs ≡ Some at
    → take at bs ≡ before_first p bs
before-some p bs at e = by_test (nat_lt (position_or_len p bs) (length bs)) refl
  where
    by_test : (v : Bool) → nat_lt (position_or_len p bs) (length bs) ≡ v
        → take at bs ≡ before_first p bs
    by_test true l =
        let some : Some (position_or_len p bs) ≡ Some at = rw l at e in
        let is : at ≡ position_or_len p bs = cc in ap (λ k. take k bs) is
    by_test false l = let none : None ≡ Some at = rw l at e in absurd cc

pub before-none : (p : ℕ → Bool) (bs : List ℕ) → position p bs ≡ None → bs ≡ before_first p bs
before-none p bs e = by_test (nat_lt (position_or_len p bs) (length bs)) refl
  where
    by_test : (v : Bool) → nat_lt (position_or_len p bs) (length bs) ≡ v → bs ≡ before_first p bs
    by_test true l = let some : Some (position_or_len p bs) ≡ None = rw l at e in absurd cc
    by_test false l = sym (take_all (position_or_len p bs) bs (grind (arith, nat_tests)))

onto-more : (ts : List RuleToken) (t : RuleToken) (x : Option (List RuleToken))
    → option_map (λ us. ts ++ us) (option_map (λ us. t ∷ us) x)
    ≡ option_map (λ us. (ts ++ (t ∷ [])) ++ us) x
onto-more ts t None = refl
onto-more ts t (Some us) = ap Some (sym (append_assoc ts (t ∷ []) us))

-- a piece moves to the tokens
pub token-more : (bay : Bay) (ts : List RuleToken) (t : RuleToken) (p : List ℕ)
    (ps qs : List (List ℕ))
    → qs ≡ p ∷ ps → is_blank_piece p ≡ false → token_of bay p ≡ Some t
    → option_map (λ us. ts ++ us) (tokens_of bay qs)
    ≡ option_map (λ us. (ts ++ (t ∷ [])) ++ us) (tokens_of bay ps)
token-more bay ts t p ps qs e blank is = rw (e, blank, is) (onto-more ts t (tokens_of bay ps))

pub token-init : (bay : Bay) (line said : List ℕ) (ts : List RuleToken) → said ≡ before_first
    is_comment line
    → ts ≡ [] → line_tokens bay line ≡ option_map (λ us. ts ++ us) (tokens_of bay (pieces Line
    said))
unfolding line_tokens
token-init bay line said ts e none =
    rw (e, none) (same (tokens_of bay (pieces Line (before_first is_comment line))))
  where
    same : (x : Option (List RuleToken)) → x ≡ option_map (λ us. [] ++ us) x
    same None = refl
    same (Some us) = refl

-- a text with a line end is the line before it and what follows
pub split-some : (p : ℕ → Bool) (bs : List ℕ) (at : ℕ) → position p bs ≡ Some at
    → slice_split p bs
    ≡ take at bs ∷ slice_split p (take (length bs - (at + 1)) (drop (at + 1) bs))
split-some p bs at e =
    rw (take_all (length bs - (at + 1)) (drop (at + 1) bs) (grind (arith, common_steps)))
    (by_test (nat_lt (position_or_len p bs) (length bs)) refl)
  where
    by_test : (v : Bool) → nat_lt (position_or_len p bs) (length bs) ≡ v
        → slice_split p bs ≡ take at bs ∷ slice_split p (drop (at + 1) bs)
    by_test true l =
        let is : position_or_len p bs ≡ at =
        let some : Some (position_or_len p bs) ≡ Some at = rw l at e in cc in
        subst (λ k. slice_split p bs ≡ take k bs ∷ slice_split p (drop (k + 1) bs)) is
        (slice_split_first p bs 0 (grind (arith, nat_tests)))
    by_test false l = let none : None ≡ Some at = rw l at e in absurd cc

alone : (p : ℕ → Bool) (bs : List ℕ) → length bs ≤ position_or_len p bs
    → slice_split p bs ≡ bs ∷ []
alone p [] l = refl
alone p (b ∷ bs) l = by_test (λ h. alone p bs h) (p b) refl
  where
    by_test : (length bs ≤ position_or_len p bs → slice_split p bs ≡ bs ∷ [])
        → (v : Bool) → p b ≡ v → slice_split p (b ∷ bs) ≡ (b ∷ bs) ∷ []
    by_test rest true e = absurd (let le : suc (length bs) ≤ 0 = rw e at l in omega (arith, le))
    by_test rest false e =
        let le : suc (length bs) ≤ 1 + position_or_len p bs = rw e at l in
        slice_split-cons_no p b bs e ∙ ap (onto_first b) (rest (omega (arith, le)))

-- a text without one is one line
pub split-none : (p : ℕ → Bool) (bs : List ℕ) → position p bs ≡ None → slice_split p bs ≡ bs ∷ []
split-none p bs e = by_test (nat_lt (position_or_len p bs) (length bs)) refl
  where
    by_test : (v : Bool) → nat_lt (position_or_len p bs) (length bs) ≡ v
        → slice_split p bs ≡ bs ∷ []
    by_test true l = let some : Some (position_or_len p bs) ≡ None = rw l at e in absurd cc
    by_test false l = alone p bs (grind (arith, nat_tests))
