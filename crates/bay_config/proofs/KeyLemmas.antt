-- From the keys of a map to the members that it stands for, and what a check says of its parts.
use Rattle.std.proofs.Common.{◌≡◌, ◌⊎◌, inl, inr, ℕ, true, false, not, ◌||◌, cond, List, [], ◌∷◌, map, Option, None, Some, is_some, Result, Ok, Err, string_bytes, Bor, Ordering, Less, Equal, Greater, nat_cmp, refl, ap, ◌∙◌}
use Rattle.std.proofs.lemmas.Bool.{not-false, or_parts}
use Rattle.std.proofs.lemmas.Map.Lookups.{exact_bytes}
use Rattle.std.specs.Cmp.Lexicographic.{slice_cmp}
use Rattle.std.specs.List.{list_any}
use Rattle.std.specs.Map.{keys_of}
use Rattle.std.specs.Ordering.{match_ordering}
use Rattle.std.specs.Str.{bytes_eq}
use Rattle.toml.specs.Data.{Data, Members, no_members, member, get_member}
use Rattle.toml.specs.View.{members_view}
use Rattle.toml.proofs.Views.{Entry}
use Rattle.bay_config.specs.declared.fault.BayFault.{BayFault}
use Rattle.bay_config.specs.declared.fault.BayFault.TheVariants.{OutOfMemory}
use Rattle.bay_base.specs.Exact.{unless_refused}
use Rattle.bay_config.specs.Key.{first_fault, is_among, has_unknown, value_named}

pub among-map : (known : List (Bor (List ℕ))) (k : List ℕ)
    → list_any (λ o. bytes_eq k o.now) known ≡ is_among (map (λ o. o.now) known) k
among-map [] k = refl
among-map (o ∷ os) k = ap (λ b. bytes_eq k o.now || b) (among-map os k)

pub unknown-map : (known : List (Bor (List ℕ))) (es : List Entry)
    → list_any (λ k. not (list_any (λ o. bytes_eq (string_bytes k) o.now) known)) (keys_of es)
    ≡ has_unknown (map (λ o. o.now) known) (members_view es)
unknown-map known [] = refl
unknown-map known (e ∷ es) =
    ap (λ b. not b || list_any (λ k. not (list_any (λ o. bytes_eq (string_bytes k) o.now) known))
    (keys_of es)) (among-map known (string_bytes e.0))
    ∙ ap (λ b. not (is_among (map (λ o. o.now) known) (string_bytes e.0)) || b)
    (unknown-map known es)

-- a word is among those of a list exactly where the list gives it a value
pub among_named : {T : Type 0} (es : List (List ℕ × T)) (s : List ℕ)
    → is_among (map (λ e. e.0) es) s ≡ is_some (value_named es s)
among_named [] s = refl
among_named (e ∷ es) s =
    elim (bytes_eq s e.0) as
    (λ b. (b || is_among (map (λ x. x.0) es) s) ≡ is_some (cond b (Some e.1) (value_named es s)))
    [ true ↦ refl | false ↦ among_named es s ]

pub judged-Ok : {S : Type 0} (check : Option BayFault) (x y : S) → Ok y ≡ unless_refused check x
    → (check ≡ None) × (y ≡ x)
judged-Ok None x y h = (refl, cc)
judged-Ok (Some f) x y h = cc

-- `?`
abbrev pub then : {S R : Type 0} → Result S BayFault → (S → Result R BayFault) → Result R BayFault
then (Ok x) f = f x
then (Err e) f = Err e

-- what a step is refused for, or what it lacked, is what the whole is refused for
pub then-refused : {S R : Type 0} (r : Result S BayFault) (e : BayFault) (g : S → Result R BayFault)
    → ((e ≡ OutOfMemory) ⊎ (r ≡ Err e)) → (e ≡ OutOfMemory) ⊎ (then r g ≡ Err e)
then-refused r e g (inl m) = inl m
then-refused r e g (inr h) = inr (ap (λ x. then x g) h)

-- the first check, and then what the rest gives
pub judged-step : {S R : Type 0} (check : Option BayFault) (rest : List (Option BayFault)) (x : S)
    (v : R) (g : S → Result R BayFault) → unless_refused (first_fault rest) v ≡ g x
    → unless_refused (first_fault (check ∷ rest)) v ≡ then (unless_refused check x) g
judged-step None rest x v g e = e
judged-step (Some fault) rest x v g e = refl

-- the last checks, and then what their value gives
pub judged-last : {S R : Type 0} (check : Option BayFault) (x : S) (v : R)
    (g : S → Result R BayFault) → Ok v ≡ g x
    → unless_refused check v ≡ then (unless_refused check x) g
judged-last None x v g e = e
judged-last (Some fault) x v g e = refl

absent-at : (known : List (List ℕ)) (name key : List ℕ) (d : Data) (below : Option Data)
    → is_among known name ≡ false → not (is_among known key) ≡ false → below ≡ None → (o : Ordering)
    → slice_cmp nat_cmp name key ≡ o → match_ordering o below (Some d) below ≡ None
absent-at known name key d below out here none Less e = none
absent-at known name key d below out here none Greater e = none
absent-at known name key d below out here none Equal e =
    let same : name ≡ key = exact_bytes name key e in
    let among : is_among known key ≡ true = not-false (is_among known key) here in
    let moved : is_among known name ≡ is_among known key = ap (is_among known) same in
    cc

-- a key that is not known is not there, where no key is unknown
pub unknown-absent : (known : List (List ℕ)) (name : List ℕ) (ms : Members)
    → is_among known name ≡ false → has_unknown known ms ≡ false → get_member name ms ≡ None
unknown-absent known name no_members out none = refl
unknown-absent known name (member key d rest) out none =
    let parts = or_parts (not (is_among known key)) (has_unknown known rest) none in
    absent-at known name key d (get_member name rest) out parts.0
    (unknown-absent known name rest out parts.1) (slice_cmp nat_cmp name key) refl
