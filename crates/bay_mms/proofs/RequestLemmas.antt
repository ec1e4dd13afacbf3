-- Requests, part by part.
use Rattle.std.proofs.Common.{◌≡◌, ℕ, suc, ◌-◌, ◌<◌, true, false, cond, ltb, option_map, Vec, Global, rules, ◌||◌, Bool, List, [], ◌∷◌, ◌++◌, length, map, Option, Some, None, Ok, Err, refl, sym, ap, ◌∙◌, arith, ◌⊎◌, inl, inr}
use Rattle.std.proofs.lemmas.Option.{same_Some}
use Rattle.std.specs.Option.{ok_or}
use Rattle.std.proofs.lemmas.List.{length-map, map-append}
use Rattle.std.proofs.lemmas.List.Folds.{list_any-append}
use Rattle.bay_base.specs.Exact.{ExactOr}
use Rattle.bay_base.specs.Options.{◌>>=◌}
use Rattle.bay_ber.specs.Forms.{form_result, or_bad, map_form, each}
use Rattle.bay_ber.specs.Judged.{or_fault}
use Rattle.bay_ber.specs.Tags.{same_tag, constructed}
use Rattle.bay_ber.specs.Values.{Part, values_in, prepend_values, read_each, each_in}
use Rattle.bay_ber.proofs.ListingLemmas.{Passed, passed-more, bind-some}
use Rattle.bay_mms.specs.RequestResults.{has_no_names}
use Rattle.bay_mms.specs.Data as mms
use Rattle.bay_mms.specs.Data.{Datum}
use Rattle.bay_mms.specs.Views.{data_before, datum_of, data_in}
use Rattle.bay_mms.specs.declared.data.Data as given
use Rattle.bay_mms.specs.Requests.{MmsName, VariableSpecification, variables}
use Rattle.bay_mms.specs.RequestViews.{object_name_view, variable_view as view}
use Rattle.bay_mms.specs.declared.access.VariableSpecification as code
use Rattle.bay_mms.specs.declared.request.ObjectName.{ObjectName}
use Rattle.bay_mms.specs.declared.fault.Refusal.{Refusal}
use Rattle.bay_mms.specs.declared.fault.Refusal.TheVariants.{Bad, Unknown, Many, OutOfMemory}
use Rattle.bay_mms.specs.Grammar.{variable, any_alternate, has_count, counted_names, requested_names, simple, datum_at}

-- ---- lists of variables

-- Variables were read at the front of octets: their names, and whether a part of one is asked for.
pub record Listing (octets rest : List ℕ) (names : List ObjectName) (alternate : Bool)
    : Type 0 where
  pub vs : List VariableSpecification
  pub passed : Passed variable.reads octets rest vs
  pub are : map object_name_view names ≡ map (λ v. v.name) vs
  pub any : alternate ≡ any_alternate vs

pub listing-more : (octets rest new : List ℕ) (names more : List ObjectName) (alternate both : Bool)
    (part : Part) (one : code.VariableSpecification) → Listing octets rest names alternate
    → values_in rest ≡ prepend_values (part ∷ []) (values_in new)
    → variable.reads part ≡ Some (view one)
    → map object_name_view more ≡ map object_name_view names ++ object_name_view one.name ∷ []
    → both ≡ (alternate || one.is_alternate) → Listing octets new more both
listing-more octets rest new names more alternate both part one l step is are any = record {
  vs = l.vs ++ view one ∷ [];
  passed = passed-more variable.reads octets rest new l.vs part (view one) l.passed step is;
  are = are ∙ ap (λ (ns : List MmsName). ns ++ object_name_view one.name ∷ []) l.are
      ∙ sym (map-append (λ (v : VariableSpecification). v.name) l.vs (view one ∷ []));
  any = any ∙ ap (λ (b : Bool). b || one.is_alternate) l.any
      ∙ sym (list_any-append (λ (v : VariableSpecification). v.is_alternate) l.vs
      (view one ∷ []) ∙ one-any (any_alternate l.vs) one.is_alternate);
}
  where
    one-any : (a b : Bool) → (a || (b || false)) ≡ (a || b)
    one-any true b = refl
    one-any false true = refl
    one-any false false = refl

pub listing-bad : (count : Option ℕ) (octets : List ℕ) → each_in variable.reads octets ≡ None
    → form_result Bad (map_form (λ vs. requested_names count (variables vs)) (each variable)) octets
    ≡ Err Bad
listing-bad count octets bad = rw bad refl

pub counted_is : (count : Option ℕ) (names : List ObjectName) (alternate : Bool)
    → counted_names count (map object_name_view names) alternate
    ≡ cond (has_count count (length names)) (cond alternate (Err Unknown)
    (cond (ltb 32 (length names)) (Err Many) (Ok (map object_name_view names)))) (Err Bad)
counted_is count names alternate = rw (length-map names object_name_view) refl

-- where a value stands, no list of them is read as empty
not-nil : {B : Type 0} (f : Part → Option B) (front : List Part) (part : Part)
    (o : Option (List Part))
    → (prepend_values front (prepend_values (part ∷ []) o) >>= read_each f) ≡ Some [] → ⊥
not-nil f front part None e = cc
not-nil f [] part (Some later) e =
    let x = bind-some (f part) _ [] e in
    let y = bind-some (read_each f later) _ [] x.2 in
    let no : x.0 ∷ y.0 ≡ [] = same_Some _ _ y.2 in cc
not-nil f (first ∷ front) part (Some later) e =
    let x = bind-some (f first) _ [] e in
    let y = bind-some (read_each f (front ++ part ∷ later)) _ [] x.2 in
    let no : x.0 ∷ y.0 ≡ [] = same_Some _ _ y.2 in cc

pub some-value : {B : Type 0} (f : Part → Option B) (whole rest new : List ℕ) (done : List B)
    (part : Part) → Passed f whole rest done
    → values_in rest ≡ prepend_values (part ∷ []) (values_in new)
    → each_in f whole ≡ Some [] → ⊥
some-value f whole rest new done part p step e =
    not-nil f p.front part (values_in new)
    (sym (ap (λ (o : Option (List Part)). o >>= read_each f)
    (p.read ∙ ap (prepend_values p.front) step)) ∙ e)

names-some : (vs : List VariableSpecification) (count : Option ℕ) → (vs ≡ [] → ⊥)
    → has_no_names (requested_names count (variables vs)) ≡ false
names-some [] count some = absurd (some refl)
names-some (v ∷ vs) count some = pick (has_count count (suc (length (map (λ w. w.name) vs))))
    (v.is_alternate || any_alternate vs) (ltb 32 (suc (length (map (λ w. w.name) vs))))
  where
    pick : (fits alternate many : Bool) → has_no_names (cond fits (cond alternate (Err Unknown)
        (cond many (Err Many) (Ok (v.name ∷ map (λ w. w.name) vs)))) (Err Bad)) ≡ false
    pick false alternate many = refl
    pick true true many = refl
    pick true false true = refl
    pick true false false = refl

pub listing-some : (count : Option ℕ) (octets : List ℕ)
    → (each_in variable.reads octets ≡ Some [] → ⊥)
    → has_no_names (form_result Bad
    (map_form (λ vs. requested_names count (variables vs)) (each variable))
    octets) ≡ false
listing-some count octets some = pick (each_in variable.reads octets) refl
  where
    pick : (o : Option (List VariableSpecification)) → each_in variable.reads octets ≡ o
        → has_no_names (or_bad Bad (option_map (λ vs. requested_names count (variables vs)) o))
        ≡ false
    pick None e = refl
    pick (Some vs) e = names-some vs count (λ none. some (e ∙ ap Some none))

-- ---- where a list of values stops

pub gives-option : {A B : Type 0} (view : A → B) (r : Option A) (o : Option B)
    → option_map view r ≡ o → ExactOr OutOfMemory view (ok_or r Bad) (or_fault Bad o)
gives-option view None o is = inr (ap (or_fault Bad) (sym is))
gives-option view (Some x) o is = ap (or_fault Bad) (sym is)

spelled-err : {A : Type 0} (o : Option A) (e : Refusal) → or_fault Bad o ≡ Err e
    → (o ≡ None) × (e ≡ Bad)
spelled-err None e is = (refl, let same : Bad ≡ e = cc in sym same)
spelled-err (Some x) e is = absurd cc

pub spelled-ok : {A : Type 0} (o : Option A) (x : A) → or_fault Bad o ≡ Ok x → o ≡ Some x
spelled-ok None x is = absurd cc
spelled-ok (Some y) x is = let same : y ≡ x = cc in ap Some same

-- one that is not read stops all
pub gives-stop : {A B : Type 0} (e : Refusal) (one : Option A) (all : Option B)
    → (e ≡ OutOfMemory) ⊎ (or_fault Bad one ≡ Err e) → (one ≡ None → all ≡ None)
    → (e ≡ OutOfMemory) ⊎ (or_fault Bad all ≡ Err e)
gives-stop e one all (inl memory) stop = inl memory
gives-stop e one all (inr is) stop = let p = spelled-err one e is in inr (rw (stop p.0, p.1) refl)

-- ---- data

-- the data of parts
abbrev pub structure_of : List Datum → Datum
structure_of ds = mms.structure (data_before ds mms.no_data)

datum-is : (depth : ℕ) (part : Part)
    → (datum_at (suc depth)).reads part
    ≡ cond (same_tag part.tag (constructed 2))
    (option_map structure_of (each_in (datum_at depth).reads part.content)) (simple.reads part)
unfolding datum_at
datum-is depth part = refl

before : (depth : ℕ) → 0 < depth → depth ≡ suc (depth - 1)
before depth some = omega arith

structure-is : (depth : ℕ) (part : Part) → 0 < depth → same_tag part.tag (constructed 2) ≡ true
    → (datum_at depth).reads part
    ≡ option_map structure_of (each_in (datum_at (depth - 1)).reads part.content)
structure-is depth part some is =
    ap (λ (n : ℕ). (datum_at n).reads part) (before depth some) ∙ datum-is (depth - 1) part
    ∙ rw is refl

pub simple-is : (depth : ℕ) (part : Part) → 0 < depth → same_tag part.tag (constructed 2) ≡ false
    → (datum_at depth).reads part ≡ simple.reads part
simple-is depth part some not =
    ap (λ (n : ℕ). (datum_at n).reads part) (before depth some) ∙ datum-is (depth - 1) part
    ∙ rw not refl

pub structure-ok : (depth : ℕ) (part : Part) (ds : List Datum) → 0 < depth
    → same_tag part.tag (constructed 2) ≡ true
    → or_fault Bad (each_in (datum_at (depth - 1)).reads part.content) ≡ Ok ds
    → or_fault Bad ((datum_at depth).reads part) ≡ Ok (structure_of ds)
structure-ok depth part ds some is read =
    ap (or_fault Bad) (structure-is depth part some is
    ∙ ap (option_map structure_of) (spelled-ok _ ds read))

pub structure-err : (depth : ℕ) (part : Part) (e : Refusal) → 0 < depth
    → same_tag part.tag (constructed 2) ≡ true
    → (e ≡ OutOfMemory) ⊎ (or_fault Bad (each_in (datum_at (depth - 1)).reads part.content) ≡ Err e)
    → (e ≡ OutOfMemory) ⊎ (or_fault Bad ((datum_at depth).reads part) ≡ Err e)
structure-err depth part e some is given =
    gives-stop e (each_in (datum_at (depth - 1)).reads part.content) ((datum_at depth).reads part)
    given (λ none. structure-is depth part some is ∙ ap (option_map structure_of) none)

pub view-structure : (parts : Vec given.Data Global)
    → datum_of (given.Structure parts) ≡ structure_of (data_in parts.items)
view-structure parts = search (rules, given.the_lemmas)

pub too_deep : (depth : ℕ) (part : Part) → depth ≡ 0
    → or_fault Bad ((datum_at depth).reads part) ≡ Err Bad
unfolding datum_at
too_deep depth part none = rw none refl
