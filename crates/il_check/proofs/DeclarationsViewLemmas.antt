-- One declaration more.
use Rattle.std.proofs.Common.{◌≡◌, ℕ, ◌+◌, ◌<◌, ◌≤◌, is_some, List, [], ◌∷◌, ◌++◌, length, map, take, drop, get_or, vec_len, Option, Some, None, refl, ap, sym, ◌∙◌, arith, add-one, drop-cons, append_assoc, append-nil, subst}
use Rattle.std.proofs.lemmas.Grind.{common_steps}
use Rattle.std.proofs.lemmas.List.{map_more}
use Rattle.std.specs.List.{filter_map, cons_option}
use Rattle.std.specs.Option.{option_to_list}
use Rattle.std.specs.BTreeMap.{get_by_text}
use Rattle.bay_base.specs.Names.{upper}
use Rattle.bay_base.specs.declared.point.Point.{Point}
use Rattle.il_text.specs.Listing as text
use Rattle.il_text.specs.Views.{declared_name}
use Rattle.il_text.specs.declared.program.Declaration.{Declaration}
use Rattle.il_check.specs.Faults.{first_fault_of, least_fault}
use Rattle.il_check.specs.NamesView.{with_value}
use Rattle.il_check.specs.Declaring.{Counts, externals_of, variables_of, declared_external, declared_variable, declared_timer, counts_of, meaning_at, point_of, meanings_from, meanings_of, looked_up, name_faults, is_full, declaration_faults, declarations_faults}
use Rattle.il_check.specs.DeclarationsView.{counts_in, IsAfterDeclaration, AreDeclarations}
use Rattle.il_check.specs.declared.declare.Declarations.{Declarations}
use Rattle.il_check.specs.declared.source_operand.Meaning.{Meaning}
use Rattle.il_check.specs.declared.fault.CheckFault.{CheckFault}
use Rattle.il_check.proofs.NotedLemmas.{noted-append, noted-nil}
use Rattle.il_check.proofs.NameLemmas.{with_value-more, with_value-same}

one-option : {X : Type 0} → (o : Option X) → cons_option o [] ≡ option_to_list o
one-option None = refl
one-option (Some x) = refl

option-ahead : {X : Type 0} → (o : Option X) (xs ys : List X)
    → cons_option o (xs ++ ys) ≡ cons_option o xs ++ ys
option-ahead None xs ys = refl
option-ahead (Some x) xs ys = refl

pub filter_map-more : {X Y : Type 0} → (f : X → Option Y) (xs : List X) (x : X)
    → filter_map f (xs ++ x ∷ []) ≡ filter_map f xs ++ option_to_list (f x)
filter_map-more f [] x = one-option (f x)
filter_map-more {X} {Y} f (y ∷ ys) x =
    ap (λ (zs : List Y). cons_option (f y) zs) (filter_map-more f ys x)
    ∙ option-ahead (f y) (filter_map f ys) (option_to_list (f x))

-- the meaning of one name more
pub meanings-more : (points : List Point) (before ds : List text.DeclaredName)
    (d : text.DeclaredName)
    → meanings_from points before (ds ++ d ∷ [])
    ≡ meanings_from points before ds
    ++ (
      upper d.name,
      meaning_at (counts_of points (before ++ ds)) d.scope d.kind
          (point_of points d.name),
    ) ∷ []
meanings-more points before [] d =
    let one : List text.DeclaredName
    → List (List ℕ × Meaning) =
    λ ds. (
      upper d.name,
      meaning_at (counts_of points ds) d.scope d.kind
          (point_of points d.name),
    ) ∷ [] in
    ap one (sym (append-nil before))
meanings-more points before (x ∷ xs) d =
    let entry : List ℕ × Meaning =
    (upper x.name, meaning_at (counts_of points before) x.scope x.kind (point_of points x.name))
    in
    let one : List text.DeclaredName
    → List (List ℕ × Meaning) =
    λ ds. (
      upper d.name,
      meaning_at (counts_of points ds) d.scope d.kind
          (point_of points d.name),
    ) ∷ [] in
    ap (λ (es : List (List ℕ × Meaning)). entry ∷ es)
    (meanings-more points (before ++ x ∷ []) xs d
    ∙ ap (λ (ds : List text.DeclaredName). meanings_from points (before ++ x ∷ []) xs ++ one ds)
    (append_assoc before (x ∷ []) xs))

counts-same : (points : List Point) (before : List text.DeclaredName) (d : Declarations)
    → AreDeclarations points before d → counts_in d ≡ counts_of points before
counts-same points before d known =
    let with_all : ℕ → ℕ → ℕ → Counts =
    λ a b c. record { externals = a; variables = b; timers = c } in
    ap (λ n. with_all n (vec_len d.variables) (vec_len d.timers))
    (d.externals.ok.0 ∙ ap length known.externals)
    ∙ ap (λ n. with_all (length (externals_of points before)) n (vec_len d.timers))
    (d.variables.ok.0 ∙ ap length known.variables)
    ∙ ap (λ n. with_all (length (externals_of points before)) (length (variables_of before)) n)
    (d.timers.ok.0 ∙ ap length known.timers)

grown : {X Y : Type 0} → (f : X → Option Y) (before : List X) (x : X) (old new : List Y)
    → old ≡ filter_map f before → new ≡ old ++ option_to_list (f x)
    → new ≡ filter_map f (before ++ x ∷ [])
grown {X} {Y} f before x old new was e =
    e ∙ ap (λ (ys : List Y). ys ++ option_to_list (f x)) was ∙ sym (filter_map-more f before x)

pub stands-more : (points : List Point) (before : List text.DeclaredName) (x : text.DeclaredName)
    (old new : Declarations)
    → AreDeclarations points before old → IsAfterDeclaration points x old new
    → AreDeclarations points (before ++ x ∷ []) new
stands-more points before x old new known taken = record {
  externals =
      grown (λ (d : text.DeclaredName). declared_external points d d.scope d.kind) before x _ _
      known.externals taken.externals;
  variables =
      grown (λ (d : text.DeclaredName). declared_variable d d.scope d.kind) before x _ _
      known.variables
      taken.variables;
  timers =
      grown (λ (d : text.DeclaredName). declared_timer d d.kind) before x _ _ known.timers
      taken.timers;
  meanings = λ name.
      let meant : Counts → Meaning = λ c. meaning_at c x.scope x.kind (point_of points x.name) in
      taken.meanings name
      ∙ ap (λ (c : Counts). with_value (λ q. get_by_text old.meanings q) (upper x.name) (meant c)
      name) (counts-same points before old known)
      ∙ with_value-same (λ q. get_by_text old.meanings q) (looked_up (meanings_of points before))
      (upper x.name) (meant (counts_of points before)) name known.meanings
      ∙ with_value-more (meanings_of points before) (upper x.name) (meant (counts_of points before))
      name
      ∙ ap (λ (es : List (List ℕ × Meaning)). looked_up es name)
      (sym (meanings-more points [] before x));
}

-- the faults so far and those to come are all that there are
found-more : (points : List Point) (before after : List text.DeclaredName) (x : text.DeclaredName)
    (old new : Declarations) (all : Option CheckFault)
    → AreDeclarations points before old → IsAfterDeclaration points x old new
    → first_fault_of old.found (declarations_faults points before (x ∷ after)) ≡ all
    → first_fault_of new.found (declarations_faults points (before ++ x ∷ []) after) ≡ all
found-more points before after x old new all known taken total =
    let here : new.found ≡ first_fault_of old.found (declaration_faults points before x) =
    taken.found
    ∙ ap (λ (o : Option Meaning). first_fault_of old.found
    (name_faults (point_of points x.name) (is_some o) (is_full (counts_in old) x.kind) x))
    (known.meanings (upper x.name))
    ∙ ap (λ (c : Counts). first_fault_of old.found
    (name_faults (point_of points x.name)
    (is_some (looked_up (meanings_of points before) (upper x.name))) (is_full c x.kind) x))
    (counts-same points before old known) in
    ap (λ (o : Option CheckFault). first_fault_of o
    (declarations_faults points (before ++ x ∷ []) after))
    here
    ∙ sym (noted-append old.found (declaration_faults points before x)
    (declarations_faults points (before ++ x ∷ []) after))
    ∙ total

none-left : {X : Type 0} → (xs : List X) (i : ℕ) → length xs ≤ i → drop i xs ≡ []
none-left xs i h = grind (arith, common_steps)

take-all : {X : Type 0} → (xs : List X) (i : ℕ) → length xs ≤ i → take i xs ≡ xs
take-all xs i h = grind (arith, common_steps)

-- what is known after so many declarations
pub record SoFar (points : List Point) (all : List Declaration) (i : ℕ) (d : Declarations)
    : Type 0 where
  pub stands : AreDeclarations points (map declared_name (take i all)) d
  pub found : first_fault_of d.found
      (declarations_faults points (map declared_name (take i all)) (map declared_name (drop i all)))
      ≡ least_fault (declarations_faults points [] (map declared_name all))

pub so_far-more : (points : List Point) (all : List Declaration) (i : ℕ) (other : Declaration)
    (old new : Declarations)
    → i < length all → SoFar points all i old
    → IsAfterDeclaration points (declared_name (get_or all i other)) old new
    → SoFar points all (i + 1) new
so_far-more points all i other old new within so_far taken =
    let x : Declaration = get_or all i other in
    let before : List text.DeclaredName = map declared_name (take i all) in
    let after : List text.DeclaredName = map declared_name (drop (i + 1) all) in
    let longer : before ++ declared_name x ∷ [] ≡ map declared_name (take (i + 1) all) =
    sym (map_more declared_name all i other within) in
    let front : drop i all ≡ x ∷ drop (i + 1) all = rw (add-one, drop-cons all i other) refl in
    let left : map declared_name (drop i all) ≡ declared_name x ∷ after =
    ap (map declared_name) front in
    let total : first_fault_of old.found
    (declarations_faults points before (declared_name x ∷ after))
    ≡ least_fault (declarations_faults points [] (map declared_name all)) =
    ap (λ (ds : List text.DeclaredName). first_fault_of old.found
    (declarations_faults points before ds))
    (sym left) ∙ so_far.found in
    record {
      stands =
          subst (λ (ds : List text.DeclaredName). AreDeclarations points ds new) longer
          (stands-more points before (declared_name x) old new so_far.stands taken);
      found = subst (λ (ds : List text.DeclaredName). first_fault_of new.found
          (declarations_faults points ds after)
          ≡ least_fault (declarations_faults points [] (map declared_name all))) longer
          (found-more points before after (declared_name x) old new _ so_far.stands taken total);
    }

pub so_far-none : (points : List Point) (all : List Declaration) (d : Declarations)
    → AreDeclarations points [] d → d.found ≡ None → SoFar points all 0 d
so_far-none points all d known none = record {
  stands = known;
  found = ap (λ (o : Option CheckFault). first_fault_of o
      (declarations_faults points [] (map declared_name all))) none;
}

-- after all declarations
pub so_far-stands : (points : List Point) (all : List Declaration) (i : ℕ) (d : Declarations)
    → length all ≤ i → SoFar points all i d → AreDeclarations points (map declared_name all) d
so_far-stands points all i d within so_far =
    subst (λ (ds : List Declaration). AreDeclarations points (map declared_name ds) d)
    (take-all all i within) so_far.stands

pub so_far-found : (points : List Point) (all : List Declaration) (i : ℕ) (d : Declarations)
    → length all ≤ i → SoFar points all i d
    → d.found ≡ least_fault (declarations_faults points [] (map declared_name all))
so_far-found points all i d within so_far =
    let left : drop i all ≡ [] = none-left all i within in
    sym (noted-nil d.found)
    ∙ ap (λ (ds : List Declaration). first_fault_of d.found
    (declarations_faults points (map declared_name (take i all)) (map declared_name ds))) (sym left)
    ∙ so_far.found
