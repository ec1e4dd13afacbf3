-- What releases a command in small runs.
use Rattle.std.proofs.Common.{◌≡◌, ◌≤◌, ◌+◌, ◌++◌, ◌⊎◌, ℕ, Bool, true, false, cond, All, List, [], ◌∷◌, None, Some, inl, inr, refl, ap, sym, subst, ◌∙◌, ⊎_elim, option_and_then, arith}
use Rattle.std.specs.Cmp.Lexicographic.{bytes_decides}
use Rattle.std.specs.Prelude.{IfOk}
use Rattle.std.proofs.lemmas.List.Elements.{All-cons, All-head, All-nil}
use Rattle.bay_base.specs.declared.switch.Operation.TheVariants as operation
use Rattle.bay_process.specs.Values.{is_truth}
use Rattle.bay_tree.specs.Rows.{leaf_named}
use Rattle.bay_tree.specs.declared.leaf.Leaf.{Leaf}
use Rattle.bay_tree.specs.declared.leaf.Leaf.TheVariants as leaf
use Rattle.bay_tree.specs.declared.row.Row.{Row}
use Rattle.bay_mms_services.specs.Released.{enable_name}
use Rattle.bay_mms_services.specs.declared.answer.Command.{Command}
use Rattle.bay_device.specs.Device.{State}
use Rattle.bay_device.specs.Fresh.{IsSameProcess, PastEvent}
use Rattle.bay_device.specs.declared.event.Step.{Step}
use Rattle.cmd_serve.specs.Requests.{IsReleasedBy}
use Rattle.cmd_audit_laws.specs.Orders.{contact_past, with_enable_value, lost_past, open_command, scan_past}

-- ---- where a part of a list of one or two stands

module _ {X : Type 0} where
  none-there : (before behind : List X) (it : X) → [] ≡ before ++ it ∷ behind → ⊥
  none-there [] behind it h = absurd cc
  none-there (x ∷ before) behind it h = absurd cc

  one-there : (e : X) (before behind : List X) (it : X) → e ∷ [] ≡ before ++ it ∷ behind
      → (it ≡ e) × (before ≡ [])
  one-there e [] behind it h = (cc, refl)
  one-there e (x ∷ before) behind it h =
      let rest : [] ≡ before ++ it ∷ behind = cc in absurd (none-there before behind it rest)

  two-there : (e f : X) (before behind : List X) (it : X)
      → e ∷ f ∷ [] ≡ before ++ it ∷ behind → (it ≡ e) ⊎ (before ≡ e ∷ [])
  two-there e f [] behind it h = inl cc
  two-there e f (x ∷ before) behind it h =
      let rest : f ∷ [] ≡ before ++ it ∷ behind = cc in
      let alone : before ≡ [] = (one-there f before behind it rest).1 in inr cc

-- ---- what a scan releases

-- a row is found at its own name
at-own-name : (name : List ℕ) (value : Leaf)
    → leaf_named name (record { name = name; leaf = Some value } ∷ []) ≡ Some value
at-own-name name value =
    let row : Row = record { name = name; leaf = Some value } in
    ap (λ b. option_and_then (λ (r : Row). r.leaf) (cond b (Some row) None))
    ((bytes_decides name name).1 refl)

pub is-enabled : (b : Bool) (s : State)
    → is_truth true (leaf_named (enable_name 0 operation.Open) (with_enable_value b s).rows)
    ≡ is_truth true (Some (leaf.Truth b))
is-enabled b s =
    ap (is_truth true) (at-own-name (enable_name 0 operation.Open) (leaf.Truth b))

same-process : (s : State) → IsSameProcess s s
same-process s = record {
  positions = λ kind number. record { value = refl; quality = refl };
  inputs = refl;
  measures = λ k field. record { value = refl; quality = refl };
}

pub scan-releases : (s : State) (step : Step) (age : ℕ)
    → IsReleasedBy age age (scan_past (with_enable_value true s) step ∷ [])
    (with_enable_value true s) open_command
scan-releases s step age = record {
  scan = record {
    since = [];
    scan = scan_past (with_enable_value true s) step;
    earlier = [];
    split = refl;
    scanned = refl;
    done = refl;
    recent = omega arith;
    unchanged = All-nil (λ (p : PastEvent). IsSameProcess (with_enable_value true s) p.after);
    heard = refl;
  };
  last = All-nil (λ (p : PastEvent). IfOk p.answer (λ step. step.scan ≡ None));
  enabled = is-enabled true s;
  unchanged = same-process (with_enable_value true s);
}

pub unchanged-releases : (s t : State) (step : Step) (age : ℕ)
    → IsSameProcess (with_enable_value true s) t
    → IsReleasedBy age age (contact_past t step ∷ scan_past (with_enable_value true s) step ∷ []) t
    open_command
unchanged-releases s t step age same = record {
  scan = record {
    since = contact_past t step ∷ [];
    scan = scan_past (with_enable_value true s) step;
    earlier = [];
    split = refl;
    scanned = refl;
    done = refl;
    recent = omega arith;
    unchanged = All-cons (λ (p : PastEvent). IsSameProcess (with_enable_value true s) p.after)
        (contact_past t step) [] same
        (All-nil (λ (p : PastEvent). IsSameProcess (with_enable_value true s) p.after));
    heard = refl;
  };
  last = All-cons (λ (p : PastEvent). IfOk p.answer (λ step. step.scan ≡ None))
      (contact_past t step) []
      refl (All-nil (λ (p : PastEvent). IfOk p.answer (λ step. step.scan ≡ None)));
  enabled = is-enabled true s;
  unchanged = same;
}

pub none-releases : (s : State) (now age : ℕ) (command : Command)
    → IsReleasedBy now age [] s command → ⊥
none-releases s now age command h =
    none-there h.scan.since h.scan.earlier h.scan.scan h.scan.split

-- the scan that releases a command to open did not leave EnaOpn FALSE
not-blocked : (now age : ℕ) (past : List PastEvent) (s t : State) (step : Step)
    → (h : IsReleasedBy now age past t open_command)
    → h.scan.scan ≡ scan_past (with_enable_value false s) step → ⊥
not-blocked now age past s t step h is =
    let enabled : is_truth true
    (leaf_named (enable_name 0 operation.Open) (with_enable_value false s).rows)
    ≡ true =
    subst (λ (p : PastEvent). is_truth true (leaf_named (enable_name 0 operation.Open) p.after.rows)
    ≡ true)
    is
    h.enabled in
    let no : is_truth true (Some (leaf.Truth false)) ≡ true = sym (is-enabled false s) ∙ enabled in
    absurd cc

pub blocked-releases-none : (s t : State) (step : Step) (now age : ℕ)
    → IsReleasedBy now age (scan_past (with_enable_value false s) step ∷ []) t open_command → ⊥
blocked-releases-none s t step now age h =
    let p : PastEvent = scan_past (with_enable_value false s) step in
    not-blocked now age (p ∷ []) s t step h
    (one-there p h.scan.since h.scan.earlier h.scan.scan h.scan.split).0

pub earlier-releases-none : (s t : State) (step : Step) (now age : ℕ)
    → IsReleasedBy now age
    (scan_past (with_enable_value false s) step ∷ scan_past (with_enable_value true s) step ∷ []) t
    open_command → ⊥
earlier-releases-none s t step now age h =
    let p : PastEvent = scan_past (with_enable_value false s) step in
    let q : PastEvent = scan_past (with_enable_value true s) step in
    let Unscanned : PastEvent → Type 0 = λ r. IfOk r.answer (λ step. step.scan ≡ None) in
    ⊎_elim (λ (is : h.scan.scan ≡ p). not-blocked now age (p ∷ q ∷ []) s t step h is)
    (λ (is : h.scan.since ≡ p ∷ []).
    let no : Some 1 ≡ None =
    All-head Unscanned p [] (subst (λ (ps : List PastEvent). All Unscanned ps) is h.last) in
    absurd cc)
    (two-there p q h.scan.since h.scan.earlier h.scan.scan h.scan.split)

pub old-releases-none : (s t : State) (step : Step) (age : ℕ) (command : Command)
    → IsReleasedBy (age + 1) age (scan_past s step ∷ []) t command → ⊥
old-releases-none s t step age command h =
    let is : h.scan.scan ≡ scan_past s step =
    (one-there (scan_past s step) h.scan.since h.scan.earlier h.scan.scan h.scan.split).0 in
    let late : age + 1 ≤ 0 + age =
    subst (λ (p : PastEvent). age + 1 ≤ p.now + age) is h.scan.recent in
    omega (arith, late)

pub lost-releases-none : (s t : State) (step : Step) (now age : ℕ)
    → IsReleasedBy now age (lost_past t step ∷ scan_past s step ∷ []) t open_command → ⊥
lost-releases-none s t step now age h = let no : false ≡ true = h.scan.heard in absurd cc

pub changed-releases-none : (s t : State) (step : Step) (now age : ℕ) → (IsSameProcess s t → ⊥)
    → IsReleasedBy now age (scan_past s step ∷ []) t open_command → ⊥
changed-releases-none s t step now age differs h =
    let is : h.scan.scan ≡ scan_past s step =
    (one-there (scan_past s step) h.scan.since h.scan.earlier h.scan.scan h.scan.split).0 in
    differs (subst (λ (p : PastEvent). IsSameProcess p.after t) is h.unchanged)
