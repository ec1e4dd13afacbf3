-- The contexts that are offered.
use Rattle.std.proofs.Common.{◌≡◌, ℕ, ◌+◌, ◌-◌, ◌<◌, ◌||◌, ◌&&◌, Bool, true, false, not, List, [], ◌∷◌, ◌++◌, length, get_or, take, drop, Option, Some, None, option_map, refl, sym, ap, ◌∙◌}
use Rattle.std.specs.List.{list_any}
use Rattle.std.proofs.lemmas.List.{drop_more, length-drop}
use Rattle.std.proofs.Math.Seq.{take-length}
use Rattle.bay_ber.specs.Values.{Part, prepend_values, values_in}
use Rattle.bay_ber.proofs.ListingLemmas.{Passed, passed-first, passed-more, passed-end, passed-bad, passed-stop}
use Rattle.bay_assoc.specs.declared.presentation.Context.{Context}
use Rattle.bay_assoc.specs.Presentation.{transfer_syntax, transfer_syntaxes, has_id, are_distinct}

-- ---- transfer syntaxes

-- Transfer syntaxes at the front were read, and this says whether one of them is the Basic Encoding
-- Rules.
pub record Flags (whole rest : List ℕ) (found : Bool) : Type 0 where
  pub done : List Bool
  pub passed : Passed transfer_syntax.reads whole rest done
  pub is : found ≡ list_any (λ b. b) done

pub flags-first : (whole : List ℕ) → Flags whole whole false
flags-first whole =
    record { done = []; passed = passed-first transfer_syntax.reads whole; is = refl }

any-more : (done : List Bool) (one : Bool)
    → list_any (λ b. b) (done ++ one ∷ []) ≡ (list_any (λ b. b) done || one)
any-more [] true = refl
any-more [] false = refl
any-more (true ∷ done) one = refl
any-more (false ∷ done) one = any-more done one

pub flags-more : (whole rest new : List ℕ) (found one more : Bool) (part : Part)
    → Flags whole rest found → values_in rest ≡ prepend_values (part ∷ []) (values_in new)
    → transfer_syntax.reads part ≡ Some one → more ≡ (found || one) → Flags whole new more
flags-more whole rest new found one more part f step here is = record {
  done = f.done ++ one ∷ [];
  passed = passed-more transfer_syntax.reads whole rest new f.done part one f.passed step here;
  is = is ∙ ap (λ (b : Bool). b || one) f.is ∙ sym (any-more f.done one);
}

abbrev any_of : Option (List Bool) → Option Bool
any_of o = option_map (list_any (λ b. b)) o

pub flags-end : (whole rest : List ℕ) (found : Bool) → Flags whole rest found
    → values_in rest ≡ Some [] → transfer_syntaxes.reads whole ≡ Some found
unfolding transfer_syntaxes
flags-end whole rest found f last =
    ap any_of (passed-end transfer_syntax.reads whole rest f.done f.passed last)
    ∙ ap Some (sym f.is)

pub flags-bad : (whole rest new : List ℕ) (found : Bool) (part : Part) → Flags whole rest found
    → values_in rest ≡ prepend_values (part ∷ []) (values_in new)
    → transfer_syntax.reads part ≡ None
    → transfer_syntaxes.reads whole ≡ None
unfolding transfer_syntaxes
flags-bad whole rest new found part f step bad =
    ap any_of (passed-bad transfer_syntax.reads whole rest new f.done part f.passed step bad)

pub flags-stop : (whole rest : List ℕ) (found : Bool) → Flags whole rest found
    → values_in rest ≡ None → transfer_syntaxes.reads whole ≡ None
unfolding transfer_syntaxes
flags-stop whole rest found f stop =
    ap any_of (passed-stop transfer_syntax.reads whole rest f.done f.passed stop)

-- ---- identifiers

rest : (contexts : List Context) (at : ℕ)
    → take (length contexts - (at + 1)) (drop (at + 1) contexts) ≡ drop (at + 1) contexts
rest contexts at =
    ap (λ (n : ℕ). take n (drop (at + 1) contexts)) (sym (length-drop (at + 1) contexts))
    ∙ take-length (drop (at + 1) contexts)

step : (contexts : List Context) (at : ℕ) (d : Context) (b : Bool) → at < length contexts
    → b ≡ has_id (get_or contexts at d).id
    (take (length contexts - (at + 1)) (drop (at + 1) contexts))
    → are_distinct (drop at contexts) ≡ (not b && are_distinct (drop (at + 1) contexts))
step contexts at d b within is =
    ap are_distinct (drop_more contexts at d within)
    ∙ ap (λ (x : Bool). not x && are_distinct (drop (at + 1) contexts))
    (ap (has_id (get_or contexts at d).id) (sym (rest contexts at)) ∙ sym is)

pub distinct-more : (contexts : List Context) (at : ℕ) (d : Context) (b whole : Bool)
    → at < length contexts → whole ≡ are_distinct (drop at contexts)
    → b ≡ has_id (get_or contexts at d).id
    (take (length contexts - (at + 1)) (drop (at + 1) contexts)) → b ≡ false
    → whole ≡ are_distinct (drop (at + 1) contexts)
distinct-more contexts at d b whole within so is none =
    so ∙ step contexts at d b within is
    ∙ ap (λ (x : Bool). not x && are_distinct (drop (at + 1) contexts)) none

pub distinct-not : (contexts : List Context) (at : ℕ) (d : Context) (b whole : Bool)
    → at < length contexts → whole ≡ are_distinct (drop at contexts)
    → b ≡ has_id (get_or contexts at d).id
    (take (length contexts - (at + 1)) (drop (at + 1) contexts)) → b ≡ true → whole ≡ false
distinct-not contexts at d b whole within so is some =
    so ∙ step contexts at d b within is
    ∙ ap (λ (x : Bool). not x && are_distinct (drop (at + 1) contexts)) some
