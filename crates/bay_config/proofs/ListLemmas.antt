-- What is read of a list of tables, table by table, and what is judged of the list as a whole.
use Rattle.std.proofs.Common.{◌≡◌, ℕ, true, false, ◌&&◌, nat_lt, is_some, arith, ◌+◌, ◌<◌, ◌≤◌, length, get_or, drop, append_assoc, option_to_list, List, [], ◌∷◌, ◌++◌, map, Option, None, Some, Result, Ok, Err, refl, ap, sym, ◌∙◌}
use Rattle.std.proofs.lemmas.Bool.{lt-ltb}
use Rattle.std.proofs.lemmas.Bool.Decides.{nat_tests}
use Rattle.std.specs.List.{list_all}
use Rattle.toml.specs.Data.{Items, Members, as_table}
use Rattle.toml.specs.View.{view, items_view}
use Rattle.toml.specs.declared.value.Value.{Value}
use Rattle.toml.proofs.Views.{items_view-drop}
use Rattle.bay_base.specs.Exact.{unless_refused}
use Rattle.bay_config.specs.declared.fault.BayFault.{BayFault}
use Rattle.bay_config.specs.declared.fault.BayFault.TheVariants.{MissingKey, BadValue, TooMany}
use Rattle.bay_config.specs.Key.{first_fault}
use Rattle.bay_config.specs.Section.{are_tables, count_of, tables_of, list_checks}
use Rattle.bay_config.proofs.KeyLemmas.{then, judged-step, judged-last}

-- what some tables are, or the first refusal
abbrev pub read_all : {T : Type 0} → (Members → Option BayFault) → (Members → T) → List Members
    → Result (List T) BayFault
read_all check make tables = unless_refused (first_fault (map check tables)) (map make tables)

-- what was read so far, and then the rest
abbrev pub after : {T : Type 0} → List T → Result (List T) BayFault → Result (List T) BayFault
after done (Ok rest) = Ok (done ++ rest)
after done (Err e) = Err e

read_all-cons : {T : Type 0} (check : Members → Option BayFault) (make : Members → T) (t : Members)
    (ts : List Members) → read_all check make (t ∷ ts)
    ≡ then (unless_refused (check t) (make t))
    (λ s. then (read_all check make ts) (λ ss. Ok (s ∷ ss)))
read_all-cons check make t ts =
    judged-step (check t) (map check ts) (make t) (map make (t ∷ ts)) _
    (judged-last (first_fault (map check ts)) (map make ts) (map make (t ∷ ts)) _ refl)

after-push : {T : Type 0} (done : List T) (s : T) (r : Result (List T) BayFault)
    → after done (then r (λ ss. Ok (s ∷ ss))) ≡ after (done ++ s ∷ []) r
after-push done s (Ok rest) = ap Ok (sym (append_assoc done (s ∷ []) rest))
after-push done s (Err e) = refl

tables-at : (vs : List Value) (i : ℕ) (v : Value) (o : Option Members) → i < length vs
    → v ≡ get_or vs i v → o ≡ as_table (view v)
    → tables_of (items_view (drop i vs))
    ≡ option_to_list o ++ tables_of (items_view (drop (i + 1) vs))
tables-at vs i v o h at e =
    ap tables_of (items_view-drop vs i v h)
    ∙ ap (λ w. option_to_list (as_table (view w)) ++ tables_of (items_view (drop (i + 1) vs)))
    (sym at)
    ∙ ap (λ p. option_to_list p ++ tables_of (items_view (drop (i + 1) vs))) (sym e)

-- one turn: a value that is no table, a table that is read, and one that is refused
pub turn-none : {T : Type 0} (check : Members → Option BayFault) (make : Members → T)
    (vs : List Value) (i : ℕ) (v : Value) (done : List T) → i < length vs → v ≡ get_or vs i v
    → None ≡ as_table (view v)
    → after done (read_all check make (tables_of (items_view (drop i vs))))
    ≡ after done (read_all check make (tables_of (items_view (drop (i + 1) vs))))
turn-none check make vs i v done h at e =
    ap (λ ts. after done (read_all check make ts)) (tables-at vs i v None h at e)

pub turn-some : {T : Type 0} (check : Members → Option BayFault) (make : Members → T)
    (vs : List Value) (i : ℕ) (v : Value) (done : List T) (t : Members) (s : T) → i < length vs
    → v ≡ get_or vs i v → Some t ≡ as_table (view v) → unless_refused (check t) (make t) ≡ Ok s
    → after done (read_all check make (tables_of (items_view (drop i vs))))
    ≡ after (done ++ s ∷ []) (read_all check make (tables_of (items_view (drop (i + 1) vs))))
turn-some check make vs i v done t s h at e read =
    let rest = tables_of (items_view (drop (i + 1) vs)) in
    ap (λ ts. after done (read_all check make ts)) (tables-at vs i v (Some t) h at e)
    ∙ ap (after done) (read_all-cons check make t rest)
    ∙ ap (λ r. after done (then r (λ s. then (read_all check make rest) (λ ss. Ok (s ∷ ss))))) read
    ∙ after-push done s (read_all check make rest)

pub turn-refused : {T : Type 0} (check : Members → Option BayFault) (make : Members → T)
    (vs : List Value) (i : ℕ) (v : Value) (done : List T) (t : Members) (fault : BayFault)
    → i < length vs → v ≡ get_or vs i v → Some t ≡ as_table (view v)
    → unless_refused (check t) (make t) ≡ Err fault
    → after done (read_all check make (tables_of (items_view (drop i vs)))) ≡ Err fault
turn-refused check make vs i v done t fault h at e read =
    let rest = tables_of (items_view (drop (i + 1) vs)) in
    ap (λ ts. after done (read_all check make ts)) (tables-at vs i v (Some t) h at e)
    ∙ ap (after done) (read_all-cons check make t rest)
    ∙ ap (λ r. after done (then r (λ s. then (read_all check make rest) (λ ss. Ok (s ∷ ss))))) read

-- a list of values, as the tables that it has
pub are_tables-map : (vs : List Value)
    → list_all (λ v. is_some (as_table (view v))) vs ≡ are_tables (items_view vs)
are_tables-map [] = refl
are_tables-map (v ∷ vs) = ap (λ b. is_some (as_table (view v)) && b) (are_tables-map vs)

pub count-items : (vs : List Value) → count_of (items_view vs) ≡ length vs
count-items [] = refl
count-items (v ∷ vs) = let rest = count-items vs in omega arith

-- checks, and then what the rest gives
pub judged-append : {T : Type 0} (checks rest : List (Option BayFault)) (v : T)
    → unless_refused (first_fault (checks ++ rest)) v
    ≡ then (unless_refused {B = Unit {0}} (first_fault checks) tt)
    (λ _. unless_refused (first_fault rest) v)
judged-append [] rest v = refl
judged-append (None ∷ checks) rest v = judged-append checks rest v
judged-append (Some fault ∷ checks) rest v = refl

-- what is judged of a list as a whole
abbrev whole : ℕ → ℕ → Items → Result (Unit {0}) BayFault
whole least most items =
    unless_refused {B = Unit {0}} (first_fault (list_checks least most items)) tt

pub too-few : (least most : ℕ) (items : Items) → count_of items < least
    → Err MissingKey ≡ whole least most items
too-few least most items h =
    let short : nat_lt (count_of items) least ≡ true = lt-ltb (count_of items) least h in
    rw short

pub no-tables : (least most : ℕ) (items : Items) → least ≤ count_of items → are_tables items ≡ false
    → Err BadValue ≡ whole least most items
no-tables least most items enough none =
    let long : nat_lt (count_of items) least ≡ false = grind (arith, nat_tests) in
    rw (long, none)

pub too-many : (least most : ℕ) (items : Items) → least ≤ count_of items → are_tables items ≡ true
    → most < count_of items → Err TooMany ≡ whole least most items
too-many least most items enough tables h =
    let long : nat_lt (count_of items) least ≡ false = grind (arith, nat_tests) in
    let many : nat_lt most (count_of items) ≡ true = lt-ltb most (count_of items) h in
    rw (long, tables, many)

pub all-well : (least most : ℕ) (items : Items) → least ≤ count_of items → are_tables items ≡ true
    → count_of items ≤ most → Ok tt ≡ whole least most items
all-well least most items enough tables h =
    let long : nat_lt (count_of items) least ≡ false = grind (arith, nat_tests) in
    let few : nat_lt most (count_of items) ≡ false = grind (arith, nat_tests) in
    rw (long, tables, few)
