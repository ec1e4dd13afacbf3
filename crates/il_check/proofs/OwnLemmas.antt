-- A name means its own place.
use Rattle.std.proofs.Common.{◌≡◌, ℕ, zero, suc, ◌+◌, Bool, true, false, cond, ◌&&◌, ◌⊎◌, inl, inr, is_some, is_none, List, [], ◌∷◌, ◌++◌, length, slice_get, option_to_list, Option, None, Some, refl, ap, sym, subst, ◌∙◌, arith, append-nil, append_assoc}
use Rattle.std.proofs.lemmas.Option.{same_Some}
use Rattle.std.proofs.lemmas.Bool.{not-false}
use Rattle.std.specs.Prelude.{Ok}
use Rattle.std.specs.List.{cons_option, filter_map}
use Rattle.std.specs.Str.{bytes_eq}
use Rattle.std.proofs.lemmas.Slice.Eq.{bytes_eq-Decides}
use Rattle.bay_base.specs.Exact.{unless_refused}
use Rattle.bay_base.specs.Names.{upper}
use Rattle.bay_base.proofs.NameLemmas.{upper-upper}
use Rattle.bay_base.specs.declared.types.ElementaryType.{ElementaryType}
use Rattle.bay_base.specs.declared.point.Point.{Point}
use Rattle.il_text.specs.Listing as text
use Rattle.il_text.specs.declared.program.DeclaredType.{DeclaredType}
use Rattle.il_text.specs.declared.program.DeclaredType.TheVariants as type
use Rattle.il_text.specs.declared.program.VariableScope.{VariableScope}
use Rattle.il_text.specs.declared.program.VariableScope.TheVariants as scope
use Rattle.il_image.specs.Values.{type_of}
use Rattle.il_image.specs.declared.value.Value.{Value}
use Rattle.il_check.specs.Checking.{checked_of, checked_program, faults_of}
use Rattle.il_check.specs.Declaring.{counts_of, declaration_faults, declarations_faults, point_external, declared_external, externals_of, initial_value, is_external, is_typed, is_writable, labels_from, looked_up, meaning_at, meanings_of, names_in, point_of, declared_timer, timers_of, valued_variable, declared_variable, variables_of}
use Rattle.il_check.specs.Faults.{least_fault}
use Rattle.il_check.specs.OwnDeclarations.{IsOwnDeclaration, MeanOwnDeclarations}
use Rattle.il_check.specs.Program.{Checked, ProgramItem}
use Rattle.il_check.specs.declared.fault.CheckFault.{CheckFault}
use Rattle.il_check.specs.declared.source_operand.Meaning.{Meaning}
use Rattle.il_check.specs.declared.source_operand.Meaning.TheVariants as meaning
use Rattle.il_check.specs.declared.typed.External.{External}
use Rattle.il_check.specs.declared.typed.Slot.TheVariants as slot
use Rattle.il_check.specs.declared.typed.Timer.{Timer}
use Rattle.il_check.specs.declared.typed.Variable.{Variable}
use Rattle.il_check.proofs.DeclaredLemmas.{get-last, get-more, initial-is}
use Rattle.il_check.proofs.FaultlessLemmas.{both-none, if-none}
use Rattle.il_check.proofs.NameLemmas.{looked_up-more}
use Rattle.il_check.proofs.NotedLemmas.{least_fault-none}
use Rattle.il_check.proofs.DeclarationsViewLemmas.{filter_map-more, meanings-more}

-- ---- lists

get-old-or-last : {A : Type 0} (xs : List A) (x y : A) (n : ℕ) → slice_get (xs ++ x ∷ []) n ≡ Some y
    → (slice_get xs n ≡ Some y) ⊎ ((n ≡ length xs) × (x ≡ y))
get-old-or-last [] x y zero e = inr (refl, same_Some x y e)
get-old-or-last [] x y (suc n) e = absurd cc
get-old-or-last (z ∷ xs) x y zero e = inl e
get-old-or-last (z ∷ xs) x y (suc n) e =
    elim (get-old-or-last xs x y n e) [ inl h ↦ inl h | inr h ↦ inr (ap suc h.0, h.1) ]

-- ---- what is declared so far

-- the lists so far
record Lists : Type 0 where
  externals : List External
  variables : List Variable
  timers : List Timer

abbrev program_of : Lists → Checked
program_of l =
    record { externals = l.externals; variables = l.variables; timers = l.timers; items = [] }

abbrev joined : Lists → Lists → Lists
joined a b =
    record {
      externals = a.externals ++ b.externals;
      variables = a.variables ++ b.variables;
      timers = a.timers ++ b.timers;
    }

-- Each meaning is declared by its key, and each that is declared is meant by its name.
record Owns (l : Lists) (ms : List (List ℕ × Meaning)) : Type 0 where
  own : (key : List ℕ) (m : Meaning) → looked_up ms key ≡ Some m
      → IsOwnDeclaration (program_of l) key m
  externals : (n : ℕ) (e : External) → slice_get l.externals n ≡ Some e
      → looked_up ms e.name ≡ Some (meaning.Variable (slot.External n) e.kind e.writable)
  variables : (n : ℕ) (v : Variable) → slice_get l.variables n ≡ Some v
      → looked_up ms v.name ≡ Some (meaning.Variable (slot.Variable n) (type_of v.initial) true)
  timers : (n : ℕ) (t : Timer) → slice_get l.timers n ≡ Some t
      → looked_up ms t.name ≡ Some (meaning.Timer n)

own-more : (a b : Lists) (key : List ℕ) (m : Meaning) → IsOwnDeclaration (program_of a) key m
    → IsOwnDeclaration (program_of (joined a b)) key m
own-more a b key (meaning.Variable (slot.External n) kind writable) h =
    (h.0, get-more a.externals b.externals n h.0 h.1, h.2, h.3, h.4)
own-more a b key (meaning.Variable (slot.Variable n) kind writable) h =
    (h.0, get-more a.variables b.variables n h.0 h.1, h.2, h.3, h.4)
own-more a b key (meaning.Timer n) h = (h.0, get-more a.timers b.timers n h.0 h.1, h.2)

-- what one declaration adds: its name means it, and it alone is new
record Adds (a b : Lists) (name : List ℕ) (m : Meaning) : Type 0 where
  own : IsOwnDeclaration (program_of (joined a b)) name m
  externals : (n : ℕ) (e : External) → slice_get (a.externals ++ b.externals) n ≡ Some e
      → (slice_get a.externals n ≡ Some e)
      ⊎ ((e.name ≡ name) × (m ≡ meaning.Variable (slot.External n) e.kind e.writable))
  variables : (n : ℕ) (v : Variable) → slice_get (a.variables ++ b.variables) n ≡ Some v
      → (slice_get a.variables n ≡ Some v)
      ⊎ ((v.name ≡ name) × (m ≡ meaning.Variable (slot.Variable n) (type_of v.initial) true))
  timers : (n : ℕ) (t : Timer) → slice_get (a.timers ++ b.timers) n ≡ Some t
      → (slice_get a.timers n ≡ Some t) ⊎ ((t.name ≡ name) × (m ≡ meaning.Timer n))

none-more : {A : Type 0} (xs : List A) (n : ℕ) (x : A) → slice_get (xs ++ []) n ≡ Some x
    → slice_get xs n ≡ Some x
none-more xs n x e = ap (λ (ys : List _). slice_get ys n) (sym (append-nil xs)) ∙ e

abbrev with_external : Option External → Lists
with_external o = record { externals = option_to_list o; variables = []; timers = [] }

abbrev with_variable : Option Variable → Lists
with_variable o = record { externals = []; variables = option_to_list o; timers = [] }

abbrev with_timer : Timer → Lists
with_timer t = record { externals = []; variables = []; timers = t ∷ [] }

adds-external : (a : Lists) (name : List ℕ) (kind : ElementaryType) (o : Option Point)
    → is_none o ≡ false → Adds a (with_external (point_external name kind o)) (upper name)
    (meaning.Variable (slot.External (length a.externals)) kind (is_writable o))
adds-external a name kind None there = absurd cc
adds-external a name kind (Some p) there =
    let e : External =
    record { name = upper name; kind = kind; writable = p.writable; source = p.source } in
    record {
      own = (e, get-last a.externals e, refl, refl, refl);
      externals = λ n x h. elim (get-old-or-last a.externals e x n h) [
        | inl old ↦ inl old
        | inr new ↦ inr (
          ap (λ (y : External). y.name) (sym new.1),
          ap (λ (k : ℕ). meaning.Variable (slot.External k) kind p.writable) (sym new.0)
              ∙ ap (λ (y : External). meaning.Variable (slot.External n) y.kind y.writable) new.1,
        )
      ];
      variables = λ n x h. inl (none-more a.variables n x h);
      timers = λ n x h. inl (none-more a.timers n x h);
    }

adds-variable : (a : Lists) (name : List ℕ) (kind : ElementaryType) (o : Option Value)
    → is_some o ≡ true → ((v : Value) → o ≡ Some v → type_of v ≡ kind)
    → Adds a (with_variable (valued_variable name o)) (upper name)
    (meaning.Variable (slot.Variable (length a.variables)) kind true)
adds-variable a name kind None there typed = absurd cc
adds-variable a name kind (Some w) there typed =
    let v : Variable = record { name = upper name; initial = w } in
    record {
      own = (v, get-last a.variables v, refl, typed w refl, refl);
      externals = λ n x h. inl (none-more a.externals n x h);
      variables = λ n x h. elim (get-old-or-last a.variables v x n h) [
        | inl old ↦ inl old
        | inr new ↦ inr (
          ap (λ (y : Variable). y.name) (sym new.1),
          ap (λ (k : ℕ). meaning.Variable (slot.Variable k) kind true) (sym new.0)
              ∙ ap (λ (t : ElementaryType). meaning.Variable (slot.Variable n) t true)
              (sym (typed w refl))
              ∙ ap (λ (y : Variable). meaning.Variable (slot.Variable n) (type_of y.initial) true)
              new.1,
        )
      ];
      timers = λ n x h. inl (none-more a.timers n x h);
    }

adds-timer : (a : Lists) (t : Timer)
    → Adds a (with_timer t) t.name (meaning.Timer (length a.timers))
adds-timer a t = record {
  own = (t, get-last a.timers t, refl);
  externals = λ n x h. inl (none-more a.externals n x h);
  variables = λ n x h. inl (none-more a.variables n x h);
  timers = λ n x h. elim (get-old-or-last a.timers t x n h) [
    | inl old ↦ inl old
    | inr new ↦ inr (
      ap (λ (y : Timer). y.name) (sym new.1),
      ap (λ (k : ℕ). meaning.Timer k) (sym new.0),
    )
  ];
}

abbrev added_by : List Point → text.DeclaredName → VariableScope → DeclaredType → Lists
added_by points d s k =
    record {
      externals = option_to_list (declared_external points d s k);
      variables = option_to_list (declared_variable d s k);
      timers = option_to_list (declared_timer d k);
    }

adds-one : (points : List Point) (d : text.DeclaredName) (s : VariableScope) (k : DeclaredType)
    (a : Lists)
    → is_external s && is_none (point_of points d.name) ≡ false
    → is_typed s k (point_of points d.name) d.initial ≡ true
    → Adds a (added_by points d s k) (upper d.name)
    (meaning_at
    (record {
      externals = length a.externals;
      variables = length a.variables;
      timers = length a.timers;
    }) s k (point_of points d.name))
adds-one points d scope.External (type.Elementary kind) a there right =
    adds-external a d.name kind (point_of points d.name) there
adds-one points d scope.External (type.Timer kind) a there right =
    adds-timer a (record { name = upper d.name; kind = kind })
adds-one points d scope.Local (type.Elementary kind) a there right =
    adds-variable a d.name kind (initial_value kind d.initial) right
    (λ v e. (initial-is kind d.initial v e).1)
adds-one points d scope.Local (type.Timer kind) a there right =
    adds-timer a (record { name = upper d.name; kind = kind })

-- ---- one declaration more

self-same : (name : List ℕ) → bytes_eq name name ≡ true
self-same name = (bytes_eq-Decides name name).1 refl

old-stays : {A : Type 0} (o : Option A) (b : Bool) (x y : A) → o ≡ Some y
    → cond (is_some o) o (cond b (Some x) None) ≡ Some y
old-stays None b x y e = absurd cc
old-stays (Some z) b x y e = e

new-found : {A : Type 0} (o : Option A) (b : Bool) (x : A) → is_some o ≡ false → b ≡ true
    → cond (is_some o) o (cond b (Some x) None) ≡ Some x
new-found None true x e f = refl
new-found None false x e f = absurd cc
new-found (Some z) b x e f = absurd cc

either-way : {A : Type 0} (o : Option A) (b : Bool) (x y : A)
    → cond (is_some o) o (cond b (Some x) None) ≡ Some y → (o ≡ Some y) ⊎ ((b ≡ true) × (x ≡ y))
either-way (Some z) b x y e = inl e
either-way None true x y e = inr (refl, same_Some x y e)
either-way None false x y e = absurd cc

module _ (a b : Lists) (ms : List (List ℕ × Meaning)) (name : List ℕ) (m : Meaning)
    (known : Owns a ms) (more : Adds a b name m) (fresh : is_some (looked_up ms name) ≡ false) where
  found-old : (key : List ℕ) (x : Meaning) → looked_up ms key ≡ Some x
      → looked_up (ms ++ (name, m) ∷ []) key ≡ Some x
  found-old key x e =
      looked_up-more ms name m key ∙ old-stays (looked_up ms key) (bytes_eq name key) m x e

  found-new : looked_up (ms ++ (name, m) ∷ []) name ≡ Some m
  found-new =
      looked_up-more ms name m name
      ∙ new-found (looked_up ms name) (bytes_eq name name) m fresh (self-same name)

  found-named : (key : List ℕ) (x : Meaning) → key ≡ name → m ≡ x
      → looked_up (ms ++ (name, m) ∷ []) key ≡ Some x
  found-named key x e is =
      ap (looked_up (ms ++ (name, m) ∷ [])) e ∙ found-new ∙ ap (λ (y : Meaning). Some y) is

  owns-more : Owns (joined a b) (ms ++ (name, m) ∷ [])
  owns-more = record {
    own = λ key x e. elim (either-way (looked_up ms key) (bytes_eq name key) m x
        (sym (looked_up-more ms name m key) ∙ e)) [
          | inl old ↦ own-more a b key x (known.own key x old)
          | inr new ↦ subst (λ (k : List ℕ). IsOwnDeclaration (program_of (joined a b)) k x)
              ((bytes_eq-Decides name key).0 new.0)
              (subst (λ (y : Meaning). IsOwnDeclaration (program_of (joined a b)) name y) new.1
              more.own)
        ];
    externals =
        λ n e h. elim (more.externals n e h) [
          | inl old ↦ found-old e.name _ (known.externals n e old)
          | inr new ↦ found-named e.name _ new.0 new.1
        ];
    variables =
        λ n v h. elim (more.variables n v h) [
          | inl old ↦ found-old v.name _ (known.variables n v old)
          | inr new ↦ found-named v.name _ new.0 new.1
        ];
    timers =
        λ n t h. elim (more.timers n t h) [
          | inl old ↦ found-old t.name _ (known.timers n t old)
          | inr new ↦ found-named t.name _ new.0 new.1
        ];
  }

abbrev lists_of : List Point → List text.DeclaredName → Lists
lists_of points ds =
    record {
      externals = externals_of points ds;
      variables = variables_of ds;
      timers = timers_of ds;
    }

lists-same : (es fs : List External) (vs ws : List Variable) (ts us : List Timer) → es ≡ fs
    → vs ≡ ws → ts ≡ us → ◌≡◌ {A = Lists} (record { externals = es; variables = vs; timers = ts })
    (record { externals = fs; variables = ws; timers = us })
lists-same es fs vs ws ts us e v t =
    let made : List External → List Variable → List Timer → Lists =
    λ x y z. record { externals = x; variables = y; timers = z } in
    ap (λ x. made x vs ts) e ∙ ap (λ y. made fs y ts) v ∙ ap (λ z. made fs ws z) t

lists-more : (points : List Point) (before : List text.DeclaredName) (d : text.DeclaredName)
    → joined (lists_of points before) (added_by points d d.scope d.kind)
    ≡ lists_of points (before ++ d ∷ [])
lists-more points before d =
    lists-same _ _ _ _ _ _
    (sym (filter_map-more (λ (x : text.DeclaredName). declared_external points x x.scope x.kind)
    before d))
    (sym (filter_map-more (λ (x : text.DeclaredName). declared_variable x x.scope x.kind) before d))
    (sym (filter_map-more (λ (x : text.DeclaredName). declared_timer x x.kind) before d))

abbrev OwnsAll : List Point → List text.DeclaredName → Type 0
OwnsAll points ds = Owns (lists_of points ds) (meanings_of points ds)

owns-next : (points : List Point) (before : List text.DeclaredName) (d : text.DeclaredName)
    → OwnsAll points before → declaration_faults points before d ≡ []
    → OwnsAll points (before ++ d ∷ [])
owns-next points before d known none =
    let missing = both-none _ _ none in
    let twice = both-none _ _ missing.1 in
    let wrong = both-none _ _ twice.1 in
    let m : Meaning =
    meaning_at (counts_of points before) d.scope d.kind (point_of points d.name) in
    let more =
    adds-one points d d.scope d.kind (lists_of points before) (if-none _ _ missing.0)
    (not-false _ (if-none _ _ wrong.0)) in
    let is =
    owns-more (lists_of points before) (added_by points d d.scope d.kind)
    (meanings_of points before) (upper d.name) m known more (if-none _ _ twice.0) in
    subst (λ (l : Lists). Owns l (meanings_of points (before ++ d ∷ [])))
    (lists-more points before d)
    (subst (λ (xs : List (List ℕ × Meaning)). Owns
    (joined (lists_of points before) (added_by points d d.scope d.kind)) xs)
    (sym (meanings-more points [] before d)) is)

owns-from : (points : List Point) (before ds : List text.DeclaredName) → OwnsAll points before
    → declarations_faults points before ds ≡ [] → OwnsAll points (before ++ ds)
owns-from points before [] known none = subst (OwnsAll points) (sym (append-nil before)) known
owns-from points before (d ∷ ds) known none =
    let two = both-none _ _ none in
    subst (OwnsAll points) (append_assoc before (d ∷ []) ds)
    (owns-from points (before ++ d ∷ []) ds (owns-next points before d known two.0) two.1)

owns-none : (points : List Point) → OwnsAll points []
owns-none points =
    record {
      own = λ key m e. absurd (cc);
      externals = λ n e h. absurd (cc);
      variables = λ n v h. absurd (cc);
      timers = λ n t h. absurd (cc);
    }

-- ---- labels

label-case : (b : Bool) (here n : ℕ) (rest : Option ℕ) → cond b (Some here) rest ≡ Some n
    → ((b ≡ true) × (here ≡ n)) ⊎ (rest ≡ Some n)
label-case true here n rest e = inl (refl, same_Some here n e)
label-case false here n rest e = inr e

-- the label of a number stands as many labels behind the first
record Labelled (from : ℕ) (items : List text.Entry) (key : List ℕ) (n : ℕ) : Type 0 where
  behind : ℕ
  at : n ≡ from + behind
  is : slice_get (labels_from from items) behind ≡ Some (key, n)

labelled : (from : ℕ) (items : List text.Entry) (key : List ℕ) (n : ℕ)
    → looked_up (labels_from from items) key ≡ Some n → Labelled from items key n
labelled from [] key n e = absurd cc
labelled from (text.label line name ∷ items) key n e =
    elim (label-case (bytes_eq (upper name) key) from n
    (looked_up (labels_from (from + 1) items) key) e) [
      | inl h ↦ (let k : upper name ≡ key = (bytes_eq-Decides (upper name) key).0 h.0 in
          let same = h.1 in
          record {
            behind = 0;
            at = omega arith;
            is = ap (λ (x : List ℕ). Some (x, from)) k ∙ ap (λ (j : ℕ). Some (key, j)) h.1;
          })
      | inr h ↦ (let l = labelled (from + 1) items key n h in let at = l.at in
          record { behind = suc l.behind; at = omega arith; is = l.is })
    ]
labelled from (text.action line a ∷ items) key n e = let l =
    labelled from items key n e in record { behind = l.behind; at = l.at; is = l.is }
labelled from (text.block line operator negated es end ∷ items) key n e = let l =
    labelled from items key n e in record { behind = l.behind; at = l.at; is = l.is }

own-label : (items : List text.Entry) (key : List ℕ) (n : ℕ)
    → looked_up (labels_from 0 items) key ≡ Some n
    → slice_get (labels_from 0 items) n ≡ Some (key, n)
own-label items key n e =
    let l = labelled 0 items key n e in
    let at = l.at in
    let same : n ≡ l.behind = omega arith in
    ap (slice_get (labels_from 0 items)) same ∙ l.is

-- ---- a program

-- the names of what is declared are in upper case
record AreUpper (l : Lists) : Type 0 where
  externals : (n : ℕ) (e : External) → slice_get l.externals n ≡ Some e → upper e.name ≡ e.name
  variables : (n : ℕ) (v : Variable) → slice_get l.variables n ≡ Some v → upper v.name ≡ v.name
  timers : (n : ℕ) (t : Timer) → slice_get l.timers n ≡ Some t → upper t.name ≡ t.name

upper-external : (name : List ℕ) (kind : ElementaryType) (o : Option Point) (e : External)
    → point_external name kind o ≡ Some e → upper e.name ≡ e.name
upper-external name kind None e h = absurd cc
upper-external name kind (Some p) e h =
    subst (λ (x : External). upper x.name ≡ x.name) (same_Some _ e h) (upper-upper name)

upper-variable : (name : List ℕ) (o : Option Value) (v : Variable) → valued_variable name o ≡ Some v
    → upper v.name ≡ v.name
upper-variable name None v h = absurd cc
upper-variable name (Some w) v h =
    subst (λ (x : Variable). upper x.name ≡ x.name) (same_Some _ v h) (upper-upper name)

external-upper : (points : List Point) (d : text.DeclaredName) (s : VariableScope)
    (k : DeclaredType)
    (e : External) → declared_external points d s k ≡ Some e → upper e.name ≡ e.name
external-upper points d scope.External (type.Elementary kind) e h =
    upper-external d.name kind (point_of points d.name) e h
external-upper points d s k e h = absurd cc

variable-upper : (d : text.DeclaredName) (s : VariableScope) (k : DeclaredType) (v : Variable)
    → declared_variable d s k ≡ Some v → upper v.name ≡ v.name
variable-upper d scope.Local (type.Elementary kind) v h =
    upper-variable d.name (initial_value kind d.initial) v h
variable-upper d s k v h = absurd cc

timer-upper : (d : text.DeclaredName) (k : DeclaredType) (t : Timer) → declared_timer d k ≡ Some t
    → upper t.name ≡ t.name
timer-upper d (type.Timer kind) t h =
    subst (λ (x : Timer). upper x.name ≡ x.name) (same_Some _ t h) (upper-upper d.name)
timer-upper d (type.Elementary kind) t h = absurd cc

-- what holds of all that is kept of a list
kept_case : {X Y : Type 0} (f : X → Option Y) (P : Y → Type 0) (x : X) (rest : List Y) (y : Y)
    → ((z : Y) → f x ≡ Some z → P z) → ((n : ℕ) → slice_get rest n ≡ Some y → P y) → (o : Option Y)
    → f x ≡ o → (n : ℕ) → slice_get (cons_option o rest) n ≡ Some y → P y
kept_case f P x rest y h more None is n e = more n e
kept_case f P x rest y h more (Some z) is zero e = subst P (same_Some z y e) (h z is)
kept_case f P x rest y h more (Some z) is (suc n) e = more n e

kept_all : {X Y : Type 0} (f : X → Option Y) (P : Y → Type 0) (xs : List X)
    → ((x : X) (y : Y) → f x ≡ Some y → P y) → (n : ℕ) (y : Y)
    → slice_get (filter_map f xs) n ≡ Some y → P y
kept_all f P [] h n y e = absurd cc
kept_all f P (x ∷ xs) h n y e =
    kept_case f P x (filter_map f xs) y (h x) (λ k g. kept_all f P xs h k y g) (f x) refl n e

are-upper : (points : List Point) (ds : List text.DeclaredName) → AreUpper (lists_of points ds)
are-upper points ds = record {
  externals =
      kept_all (λ (x : text.DeclaredName). declared_external points x x.scope x.kind)
      (λ (e : External). upper e.name ≡ e.name) ds
      (λ d e h. external-upper points d d.scope d.kind e h);
  variables =
      kept_all (λ (x : text.DeclaredName). declared_variable x x.scope x.kind)
      (λ (v : Variable). upper v.name ≡ v.name) ds (λ d v h. variable-upper d d.scope d.kind v h);
  timers =
      kept_all (λ (x : text.DeclaredName). declared_timer x x.kind)
      (λ (t : Timer). upper t.name ≡ t.name) ds
      (λ d t h. timer-upper d d.kind t h);
}

with_items : (l : Lists) (items : List ProgramItem) (key : List ℕ) (m : Meaning)
    → IsOwnDeclaration (program_of l) key m
    → IsOwnDeclaration (record {
      externals = l.externals;
      variables = l.variables;
      timers = l.timers;
      items = items;
    }) key m
with_items l items key (meaning.Variable (slot.External n) kind writable) h = h
with_items l items key (meaning.Variable (slot.Variable n) kind writable) h = h
with_items l items key (meaning.Timer n) h = h

own-places : (points : List Point) (program : text.PlainProgram)
    → declarations_faults points [] program.declarations ≡ []
    → MeanOwnDeclarations (names_in points program) (checked_program points program) program.items
own-places points program none =
    let l = lists_of points program.declarations in
    let ms = meanings_of points program.declarations in
    let owns : Owns l ms = owns-from points [] program.declarations (owns-none points) none in
    let up = are-upper points program.declarations in
    record {
      own = λ name m e. with_items l (checked_program points program).items (upper name) m
          (owns.own (upper name) m e);
      externals = λ n e h. ap (looked_up ms) (up.externals n e h) ∙ owns.externals n e h;
      variables = λ n v h. ap (looked_up ms) (up.variables n v h) ∙ owns.variables n v h;
      timers = λ n t h. ap (looked_up ms) (up.timers n t h) ∙ owns.timers n t h;
      labels = λ name n e. own-label program.items (upper name) n e;
    }

judged-ok : (o : Option CheckFault) (x c : Checked) → unless_refused o x ≡ Ok c
    → (o ≡ None) × (x ≡ c)
judged-ok None x c e = (refl, (let p : x ≡ c = cc in p))
judged-ok (Some f) x c e = absurd cc

pub mean-own-places : (points : List Point) (program : text.PlainProgram) (c : Checked)
    → checked_of points program ≡ Ok c
    → MeanOwnDeclarations (names_in points program) c program.items
mean-own-places points program c e =
    let p = judged-ok (least_fault (faults_of points program)) (checked_program points program) c e
    in
    subst (λ (x : Checked). MeanOwnDeclarations (names_in points program) x program.items) p.1
    (own-places points program
    (both-none _ _ (least_fault-none (faults_of points program) p.0)).0)
