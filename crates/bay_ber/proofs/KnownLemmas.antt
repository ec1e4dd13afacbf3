-- Of values read in turn, those whose tags are known.
use Rattle.std.proofs.Common.{◌≡◌, ℕ, ◌≤◌, Bool, true, false, cond, ltb, List, [], ◌∷◌, ◌++◌, length, filter, Option, Some, None, refl, sym, ap, ◌∙◌, arith}
use Rattle.std.proofs.lemmas.Bool.{lt-ltb, le-ltb}
use Rattle.std.proofs.lemmas.List.{length-append, append-nil}
use Rattle.std.proofs.lemmas.List.Elements.{filter-append}
use Rattle.bay_ber.specs.declared.tag.Tag.{Tag}
use Rattle.bay_base.specs.Options.{◌>>=◌}
use Rattle.bay_ber.specs.Values.{Part, prepend_values, values_in, at_most_five, has_tag_among, append_if_tagged, values_with_tags}
use Rattle.bay_ber.proofs.ListingLemmas.{onto-nil, onto-onto}

-- Values at the front were read, and those whose tags are known were kept.
pub record Known (tags : List Tag) (whole rest : List ℕ) (known : List Part) : Type 0 where
  pub front : List Part
  pub read : values_in whole ≡ prepend_values front (values_in rest)
  pub is : known ≡ filter (has_tag_among tags) front
  pub few : length known ≤ 5

abbrev kept : List Tag → Option (List Part) → Option (List Part)
kept tags o = o >>= λ parts. at_most_five (filter (has_tag_among tags) parts)

pub known-first : (tags : List Tag) (whole : List ℕ) → Known tags whole whole []
known-first tags whole =
    record { front = []; read = onto-nil (values_in whole); is = refl; few = omega arith }

filter-more : (is : Part → Bool) (front : List Part) (part : Part) (b : Bool) → is part ≡ b
    → cond b (filter is front ++ part ∷ []) (filter is front) ≡ filter is (front ++ part ∷ [])
filter-more is front part true e =
    sym (filter-append is front (part ∷ [])
    ∙ ap (λ (ps : List Part). filter is front ++ ps) (rw e refl))
filter-more is front part false e =
    sym (filter-append is front (part ∷ [])
    ∙ ap (λ (ps : List Part). filter is front ++ ps) (rw e refl) ∙ append-nil (filter is front))

pub known-more : (tags : List Tag) (whole rest new : List ℕ) (known more : List Part) (part : Part)
    → Known tags whole rest known → values_in rest ≡ prepend_values (part ∷ []) (values_in new)
    → more ≡ append_if_tagged tags known part → length more ≤ 5 → Known tags whole new more
known-more tags whole rest new known more part k step is few = record {
  front = k.front ++ part ∷ [];
  read = k.read ∙ ap (prepend_values k.front) step ∙ onto-onto k.front part (values_in new);
  is = is ∙ ap (λ (ps : List Part). append_if_tagged tags ps part) k.is
      ∙ filter-more (has_tag_among tags) k.front part (has_tag_among tags part) refl;
  few = few;
}

pub known-end : (tags : List Tag) (whole rest : List ℕ) (known : List Part)
    → Known tags whole rest known → values_in rest ≡ Some []
    → values_with_tags tags whole ≡ Some known
unfolding values_with_tags
known-end tags whole rest known k last =
    let short : ltb (length known) 6 ≡ true = lt-ltb _ _ (let f = k.few in omega arith) in
    ap (kept tags) (k.read ∙ ap (prepend_values k.front) last)
    ∙ ap (λ (ps : List Part). at_most_five (filter (has_tag_among tags) ps)) (append-nil k.front)
    ∙ ap at_most_five (sym k.is) ∙ rw short refl

full-at : (is : Part → Bool) (front : List Part) (part : Part) (o : Option (List Part))
    → is part ≡ true → 5 ≤ length (filter is front)
    → (prepend_values front (prepend_values (part ∷ []) o)
    >>= λ parts. at_most_five (filter is parts)) ≡ None
full-at is front part None e many = refl
full-at is front part (Some later) e many =
    let one : filter is (part ∷ later) ≡ part ∷ filter is later = rw e refl in
    let long : ltb (length (filter is (front ++ part ∷ later))) 6 ≡ false =
    le-ltb _ _
    (omega (
      arith,
      ap length (filter-append is front (part ∷ later)),
      length-append (filter is front) (filter is (part ∷ later)),
      ap length one,
    )) in
    rw long refl

pub known-full : (tags : List Tag) (whole rest new : List ℕ) (known : List Part) (part : Part)
    → Known tags whole rest known → values_in rest ≡ prepend_values (part ∷ []) (values_in new)
    → has_tag_among tags part ≡ true → 5 ≤ length known → values_with_tags tags whole ≡ None
unfolding values_with_tags
known-full tags whole rest new known part k step is full =
    ap (kept tags) (k.read ∙ ap (prepend_values k.front) step)
    ∙ full-at (has_tag_among tags) k.front part (values_in new) is (omega (arith, ap length k.is))

pub known-stop : (tags : List Tag) (whole rest : List ℕ) (known : List Part)
    → Known tags whole rest known → values_in rest ≡ None → values_with_tags tags whole ≡ None
unfolding values_with_tags
known-stop tags whole rest known k stop = ap (kept tags) (k.read ∙ ap (prepend_values k.front) stop)
