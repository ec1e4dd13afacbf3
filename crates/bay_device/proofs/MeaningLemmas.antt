-- A device that runs a text does what the text means.
use Rattle.std.proofs.Common.{◌≡◌, ℕ, Bool, true, false, not, cond, nat_lt, List, [], ◌∷◌, ◌++◌, length, map, take, drop, slice_get, Option, Some, None, Result, IfOk, refl, sym, ap, ap₂, subst, ◌∙◌, arith}
use Rattle.std.proofs.lemmas.List.{length-map, take-append-drop}
use Rattle.std.proofs.Math.Seq.{drop-append_seam, take-append_seam}
use Rattle.bay_base.specs.declared.types.ElementaryType.{ElementaryType}
use Rattle.bay_config.specs.Laws.{IsBay}
use Rattle.bay_config.specs.declared.bay.Bay.{Bay}
use Rattle.bay_base.specs.declared.point.Point.{Point}
use Rattle.bay_base.specs.declared.point.MeterField.{MeterField}
use Rattle.bay_base.specs.declared.point.Source.{Source}
use Rattle.bay_base.specs.declared.point.Source.TheVariants as source
use Rattle.bay_nodes.specs.declared.switch.Switch.{Switch}
use Rattle.bay_base.specs.declared.point.SwitchPoint.TheVariants.{Position, Open, Closed, EnableOpen, EnableClose}
use Rattle.il_image.specs.Machine.{Halted, run_from, initial_state}
use Rattle.il_image.specs.Values.{type_of}
use Rattle.il_image.proofs.ValueLemmas.{default-typed}
use Rattle.il_image.specs.declared.image.ImagePoint.{ImagePoint}
use Rattle.il_image.specs.declared.timer.TimerState.{TimerState}
use Rattle.il_image.specs.declared.value.Value.{Value}
use Rattle.il_check.specs.Program.{Checked}
use Rattle.il_check.specs.declared.typed.External.{External}
use Rattle.il_check.specs.declared.typed.Timer.{Timer as DeclaredTimer}
use Rattle.il_check.specs.declared.typed.Variable.{Variable}
use Rattle.il_image.specs.Images.{Each}
use Rattle.il_image.specs.Timers.{first_state}
use Rattle.bay_base.specs.declared.types.TimerKind.{TimerKind}
use Rattle.il_verify.specs.Verdicts.{IsVerified}
use Rattle.il_compile.specs.Compiled.{image_of, point_of}
use Rattle.il_compile.specs.Correct.{ImplementsText, ImplementsAt, HasTypes}
use Rattle.bay_device.specs.Load.{initial_device}
use Rattle.bay_process.proofs.SourceLemmas.{IsTyped, bay-typed, points-fit, reads-typed}
use Rattle.il_compile.specs.Meaning.{Memory}
use Rattle.il_scan.specs.Scans.{MachineData, first_input, first_slots, outputs_of, read_only, type_of_point, with_inputs}
use Rattle.bay_device.specs.Device.{State, RunResult, device_at, ending_at, inputs_of, point_value, run_result_at, run_result_of, after_scan}
use Rattle.bay_device.specs.Outcomes.{Outcome, contact_outcome, bad_measure_outcome, event_outcome, input_outcome, last_moment, lost_outcome, measure_outcome, outcome, refusal_outcome}
use Rattle.bay_device.specs.Steps.{OfAssociation, Steps}
use Rattle.bay_device.specs.declared.event.Step.{Step}
use Rattle.bay_device.specs.declared.fault.StepFault.{StepFault}
use Rattle.bay_device.specs.declared.fault.StepFault.TheVariants.{MomentTooLarge, TimeWentBack}
use Rattle.bay_process.specs.Values.{with_outputs}
use Rattle.bay_device.specs.Meaning.{Means, MeansAt, Runs, memory_before, memory_of}
use Rattle.bay_process.specs.Sources.{type_of_source}
use Rattle.bay_device.specs.declared.event.Event.{Event}
use Rattle.bay_device.specs.declared.event.Event.TheVariants.{Open, Recv, Close, Contact, Input, Measure, BadMeasure, Lost, Scan}
use Rattle.bay_device.proofs.LostLemmas.{Fixed, lost-fixed}
use Rattle.bay_device.proofs.SameLemmas.{Parts, Same, same-event}

-- ---- inputs have the types of what they stand for

value-typed : (s : State) (o : Source) → type_of (point_value s o) ≡ type_of_source o
value-typed s (source.Switch k Position) = refl
value-typed s (source.Switch k Open) = refl
value-typed s (source.Switch k Closed) = refl
value-typed s (source.Switch k EnableOpen) = refl
value-typed s (source.Switch k EnableClose) = refl
value-typed s (source.Input k) = refl
value-typed s (source.Meter k field) = refl

values-typed : (s : State) (os : List Source)
    → map type_of (map (point_value s) os) ≡ map type_of_source os
values-typed s [] = refl
values-typed s (o ∷ os) =
    ap₂ (λ (t : ElementaryType) (ts : List ElementaryType). t ∷ ts) (value-typed s o)
    (values-typed s os)

-- ---- slots with inputs

head-of : (a b : ElementaryType) (xs ys : List ElementaryType) → a ∷ xs ≡ b ∷ ys → a ≡ b
head-of a b xs ys e = cc

tail-of : (a b : ElementaryType) (xs ys : List ElementaryType) → a ∷ xs ≡ b ∷ ys → xs ≡ ys
tail-of a b xs ys e = cc

pub record Put (points : List ImagePoint) (inputs slots : List Value) : Type 0 where
  pub front : map type_of (take (length points) (with_inputs points inputs slots))
      ≡ map type_of_point points
  pub back : drop (length points) (with_inputs points inputs slots) ≡ drop (length points) slots

-- the slots of one point more
abbrev slots_with : Bool → ImagePoint → List ImagePoint → List Value → Value → List Value
    → List Value
slots_with w p points inputs slot slots =
    cond w slot (first_input inputs slot) ∷ with_inputs points (cond w inputs (drop 1 inputs)) slots

put-more : (p : ImagePoint) (points : List ImagePoint) (slot : Value) (slots : List Value)
    → type_of slot ≡ p.elementary
    → ((inputs : List Value) → map type_of inputs ≡ map type_of_point (read_only points)
    → Put points inputs slots)
    → (w : Bool) (inputs : List Value) → p.writable ≡ w
    → map type_of inputs ≡ map type_of_point
    (cond (not w) (p ∷ read_only points) (read_only points))
    → Put (p ∷ points) inputs (slot ∷ slots)
put-more p points slot slots here rest true inputs w g =
    let q = rest inputs g in
    record {
      front = ap (λ b. map type_of
          (take (length (p ∷ points)) (slots_with b p points inputs slot slots))) w
          ∙ ap₂ (λ (t : ElementaryType) (ts : List ElementaryType). t ∷ ts) here q.front;
      back = ap (λ b. drop (length (p ∷ points)) (slots_with b p points inputs slot slots)) w
          ∙ q.back;
    }
put-more p points slot slots here rest false [] w g = absurd cc
put-more p points slot slots here rest false (i ∷ inputs) w g =
    let q = rest inputs (tail-of _ _ _ _ g) in
    record {
      front = ap (λ b. map type_of
          (take (length (p ∷ points)) (slots_with b p points (i ∷ inputs) slot slots))) w
          ∙ ap₂ (λ (t : ElementaryType) (ts : List ElementaryType). t ∷ ts) (head-of _ _ _ _ g)
          q.front;
      back = ap (λ b. drop (length (p ∷ points)) (slots_with b p points (i ∷ inputs) slot slots)) w
          ∙ q.back;
    }

put : (points : List ImagePoint) (inputs slots : List Value)
    → map type_of (take (length points) slots) ≡ map type_of_point points
    → map type_of inputs ≡ map type_of_point (read_only points) → Put points inputs slots
put [] inputs slots e f = record { front = refl; back = refl }
put (p ∷ points) inputs [] e f = absurd cc
put (p ∷ points) inputs (slot ∷ slots) e f =
    put-more p points slot slots (head-of _ _ _ _ e)
    (λ others g. put points others slots (tail-of _ _ _ _ e) g) p.writable inputs refl f

points-kinds : (es : List External)
    → map type_of_point (map point_of es) ≡ map (λ (e : External). e.kind) es
points-kinds [] = refl
points-kinds (e ∷ es) = ap (λ (ts : List ElementaryType). e.kind ∷ ts) (points-kinds es)

-- the outputs are those of the points' slots
outputs-front : (points : List ImagePoint) (xs ys : List Value) → length xs ≡ length points
    → outputs_of points (xs ++ ys) ≡ outputs_of points xs
outputs-front [] xs ys e = refl
outputs-front (p ∷ points) [] ys e = absurd (omega arith)
outputs-front (p ∷ points) (x ∷ xs) ys e =
    ap (λ (os : List Value). cond p.writable (x ∷ os) os) (outputs-front points xs ys (omega arith))

-- ---- a scan

module _ (c : Checked) (s : State) (r : Runs c s) (now : ℕ) where
  abbrev count : ℕ
  count = length c.externals

  abbrev points : List ImagePoint
  points = s.machine.image.points

  many : length points ≡ count
  many = ap (λ (ps : List ImagePoint). length ps) r.points ∙ length-map c.externals point_of

  kinds : map type_of_point points ≡ map (λ (e : External). e.kind) c.externals
  kinds = ap (map type_of_point) r.points ∙ points-kinds c.externals

  slots-put : Put points (inputs_of s) s.machine.slots
  slots-put = put points (inputs_of s) s.machine.slots
      (ap (λ n. map type_of (take n s.machine.slots)) many ∙ r.types.externals ∙ sym kinds)
      (values-typed s s.reads ∙ r.reads)

  abbrev before : Memory
  before = memory_before c s

  typed-before : HasTypes c before
  typed-before = record {
    externals =
        ap (λ n. map type_of (take n (with_inputs points (inputs_of s) s.machine.slots))) (sym many)
        ∙ slots-put.front ∙ kinds;
    variables =
        ap (λ n. map type_of (drop n (with_inputs points (inputs_of s) s.machine.slots))) (sym many)
        ∙ ap (map type_of) slots-put.back ∙ ap (λ n. map type_of (drop n s.machine.slots)) many
        ∙ r.types.variables;
    timers = r.types.timers;
  }

  follows : ImplementsAt c s.machine.image.code now before
  follows = r.does now before typed-before

  abbrev after : Memory
  after = follows.means.after

  ends : ending_at now s ≡ Halted (after.externals ++ after.variables) after.timers follows.steps
  ends = ap (λ (slots : List Value). run_from s.machine.image.code now (length s.machine.image.code)
      (initial_state slots s.machine.timers) 0)
      (sym (take-append-drop count (with_inputs points (inputs_of s) s.machine.slots)))
      ∙ follows.halts

  ran : run_result_at now s ≡ record
      { slots = after.externals ++ after.variables; timers = after.timers; steps = follows.steps }
  ran = ap run_result_of ends

  sized : length after.externals ≡ count
  sized = sym (length-map after.externals type_of)
      ∙ ap (λ (ts : List ElementaryType). length ts) follows.means.typed.externals
      ∙ length-map c.externals (λ (e : External). e.kind)

  kept : memory_of c (after.externals ++ after.variables) after.timers ≡ after
  kept =
      let externals : take count (after.externals ++ after.variables) ≡ after.externals =
      ap (λ n. take n (after.externals ++ after.variables)) (sym sized)
      ∙ take-append_seam after.externals after.variables in
      let variables : drop count (after.externals ++ after.variables) ≡ after.variables =
      ap (λ n. drop n (after.externals ++ after.variables)) (sym sized)
      ∙ drop-append_seam after.externals after.variables in
      ap₂ (λ es vs. let m : Memory =
      record { externals = es; variables = vs; timers = after.timers } in m) externals variables

  keeps : memory_of c (after_scan now s).machine.slots (after_scan now s).machine.timers ≡ after
  keeps = ap (λ (x : RunResult). memory_of c x.slots x.timers) ran ∙ kept

  pub means-scan : Means c now s (after_scan now s)
  means-scan = record {
    after = after;
    is = follows.means.is;
    keeps = keeps;
    rows =
        ap (λ (x : RunResult). with_outputs s.switches s.writes (outputs_of points x.slots) now 0
        s.switches s.rows) ran
        ∙ ap (λ os. with_outputs s.switches s.writes os now 0 s.switches s.rows)
        (outputs-front points after.externals after.variables (sized ∙ sym many)
        ∙ ap (λ (ps : List ImagePoint). outputs_of ps after.externals) r.points);
  }

  -- the scan halts, and the device keeps what that leaves
  pub scan-halts : ending_at now s
      ≡ Halted (after_scan now s).machine.slots (after_scan now s).machine.timers
      (run_result_at now s).steps
  scan-halts = ends ∙ sym (ap (λ (x : RunResult). Halted x.slots x.timers x.steps) ran)

  pub runs-on : Runs c (after_scan now s)
  runs-on = record {
    points = r.points;
    does = r.does;
    types = subst (HasTypes c) (sym keeps) follows.means.typed;
    reads = r.reads;
  }

-- ---- an event

-- what the program's run hangs on stays
runs-as : (c : Checked) (s t : State) → Runs c s → t.machine ≡ s.machine → t.reads ≡ s.reads
    → Runs c t
runs-as c s t r machine reads = record {
  points = ap (λ (h : MachineData). h.image.points) machine ∙ r.points;
  does = subst (λ (h : MachineData). ImplementsText c h.image.code) (sym machine) r.does;
  types = subst (λ (h : MachineData). HasTypes c (memory_of c h.slots h.timers)) (sym machine)
      r.types;
  reads = ap (map type_of_source) reads ∙ r.reads
      ∙ sym (ap (λ (h : MachineData). map type_of_point (read_only h.image.points)) machine);
}

module _ (c : Checked) (s : State) (r : Runs c s) (now : ℕ) where
  runs-advanced : Runs c (device_at now s)
  runs-advanced = runs-as c s (device_at now s) r refl refl

  -- clients leave it as it is
  runs-same : (choice : Option ℕ) (event : Event) → OfAssociation event
      → Runs c (event_outcome choice now event s).after
  runs-same choice event of =
      let same : Same s (event_outcome choice now event s).after =
      same-event now s choice event of in
      runs-as c s _ r (ap (λ (p : Parts). p.machine) same) (ap (λ (p : Parts). p.reads) same)

  runs-contact : (k : ℕ) (position : _) (o : Option Switch)
      → Runs c (contact_outcome now k position s o).after
  runs-contact k position None = r
  runs-contact k position (Some switch) = runs-as c s _ r refl refl

  runs-input : (k : ℕ) (value : Bool) (o : Option Bool)
      → Runs c (input_outcome now k value s o).after
  runs-input k value None = r
  runs-input k value (Some old) = runs-as c s _ r refl refl

  runs-measure : (k : ℕ) (field : MeterField) (value : _) (o : Option (List ℕ))
      → Runs c (measure_outcome now k field value s o).after
  runs-measure k field value None = r
  runs-measure k field value (Some id) = runs-as c s _ r refl refl

  runs-doubt : (k : ℕ) (field : MeterField) (o : Option (List ℕ))
      → Runs c (bad_measure_outcome now k field s o).after
  runs-doubt k field None = r
  runs-doubt k field (Some id) = runs-as c s _ r refl refl

  runs-lost : Runs c (lost_outcome now s).after
  runs-lost =
      let fixed = lost-fixed now (device_at now s) in
      runs-as c s _ r (ap (λ (f : Fixed). f.machine) fixed) (ap (λ (f : Fixed). f.reads) fixed)

  runs-event : (choice : Option ℕ) (event : Event) → Runs c (event_outcome choice now event s).after
  runs-event choice (Open a) = runs-same choice (Open a) tt
  runs-event choice (Recv a octets) = runs-same choice (Recv a octets) tt
  runs-event choice (Close a) = runs-same choice (Close a) tt
  runs-event choice (Contact k position) = runs-contact k position (slice_get s.switches k)
  runs-event choice (Input k value) = runs-input k value (slice_get s.input_values k)
  runs-event choice (Measure k field value) = runs-measure k field value (slice_get s.meters k)
  runs-event choice (BadMeasure k field) = runs-doubt k field (slice_get s.meters k)
  runs-event choice Lost = runs-lost
  runs-event choice Scan = runs-on c (device_at now s) runs-advanced now

  runs-if : (b : Bool) (x y : Outcome) → Runs c x.after → Runs c y.after → Runs c (cond b x y).after
  runs-if true x y h k = h
  runs-if false x y h k = k

  runs-outcome : (choice : Option ℕ) (event : Event) → Runs c (outcome choice now event s).after
  runs-outcome choice event =
      runs-if (nat_lt last_moment now) _ _ r
      (runs-if (nat_lt now s.moment) _ _ r (runs-event choice event))

  -- a device that was left by a scan, if it was accepted
  abbrev Left : Outcome → Type 0
  Left o = IfOk o.answer (λ step. Means c now s o.after)

  left-if : (b : Bool) (x y : Outcome) → Left x → Left y → Left (cond b x y)
  left-if true x y p q = p
  left-if false x y p q = q

  left-scan : (choice : Option ℕ) → Left (outcome choice now Scan s)
  left-scan choice =
      let m = means-scan c (device_at now s) runs-advanced now in
      left-if (nat_lt last_moment now) (refusal_outcome MomentTooLarge s) _ tt
      (left-if (nat_lt now s.moment) (refusal_outcome TimeWentBack s)
      (event_outcome choice now Scan s)
      tt
      (record { after = m.after; is = m.is; keeps = m.keeps; rows = m.rows }))

-- a step on a device that runs the program
pub means-step : (c : Checked) (now : ℕ) (event : Event) (old : State)
    (answer : Result Step StepFault) (new : State) → Runs c old → Steps now event old answer new
    → MeansAt c now event old answer new × Runs c new
means-step c now event old answer new r steps = (
  λ is. subst (λ (a : Result Step StepFault). IfOk a (λ step. Means c now old new))
      (sym (steps.answered
      ∙ ap (λ (e : Event). (outcome steps.choice now e old).answer) is))
      (subst (λ (t : State). IfOk (outcome steps.choice now Scan old).answer
      (λ step. Means c now old t))
      (sym (steps.left ∙ ap (λ (e : Event). (outcome steps.choice now e old).after) is))
      (left-scan c old r now steps.choice)),
  subst (Runs c) (sym steps.left) (runs-outcome c old r now steps.choice event),
)

-- ---- before the first event

first-typed : (es : List External) (vs : List Value)
    → map type_of (take (length es) (first_slots (map point_of es) vs))
    ≡ map (λ (e : External). e.kind) es
first-typed [] vs = refl
first-typed (e ∷ es) vs =
    ap₂ (λ (t : ElementaryType) (ts : List ElementaryType). t ∷ ts) (default-typed e.kind).0
    (first-typed es vs)

first-behind : (es : List External) (vs : List Value)
    → drop (length es) (first_slots (map point_of es) vs) ≡ vs
first-behind [] vs = refl
first-behind (e ∷ es) vs = first-behind es vs

initial-types : (vs : List Variable)
    → map type_of (map (λ (v : Variable). v.initial) vs)
    ≡ map (λ (v : Variable). type_of v.initial) vs
initial-types [] = refl
initial-types (v ∷ vs) =
    ap (λ (ts : List ElementaryType). type_of v.initial ∷ ts) (initial-types vs)

timers-first : (ts : List DeclaredTimer)
    → map (λ (t : TimerState). t.kind) (map first_state (map (λ (t : DeclaredTimer). t.kind) ts))
    ≡ map (λ (t : DeclaredTimer). t.kind) ts
timers-first [] = refl
timers-first (t ∷ ts) = ap (λ (ks : List TimerKind). t.kind ∷ ks) (timers-first ts)

pub runs-first : (c : Checked) (bay : Bay) → IsBay bay → IsVerified bay.points (image_of c)
    → ImplementsText c (image_of c).code → Runs c (initial_device bay (image_of c))
runs-first c bay is verified does = record {
  points = refl;
  does = does;
  types = record {
    externals = first-typed c.externals (map (λ (v : Variable). v.initial) c.variables);
    variables =
        ap (map type_of) (first-behind c.externals (map (λ (v : Variable). v.initial) c.variables))
        ∙ initial-types c.variables;
    timers = timers-first c.timers;
  };
  reads = reads-typed bay.points
      (subst (λ (ps : List Point). Each IsTyped ps) (sym is.points)
      (bay-typed bay.switches bay.inputs bay.meters)) (image_of c).points
      (points-fit bay.points (image_of c) verified.fits);
}
