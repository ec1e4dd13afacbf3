-- What a pass tells of a rule.
use Rattle.std.proofs.Common.{◌≡◌, ◌⊎◌, inl, inr, ℕ, zero, suc, Bool, true, false, not, ◌&&◌, ◌||◌, cond, List, [], ◌∷◌, ◌++◌, map, replicate, slice_get, Option, Some, None, refl, sym, ap, subst, ◌∙◌, arith}
use Rattle.std.specs.Prelude.{is_none, is_some, position}
use Rattle.bay_process.specs.Values.{is_point, output_at}
use Rattle.bay_audit_rules.specs.Process.{Process, holds}
use Rattle.bay_audit_rules.specs.declared.rule.Rule.{Rule}
use Rattle.bay_audit_rules.specs.declared.rule.RuleKind.{RuleKind}
use Rattle.bay_audit_rules.specs.declared.rule.RuleKind.TheVariants.{Never, Always}
use Rattle.bay_audit_rules.specs.declared.rule.Timing.{Timing}
use Rattle.il_image.specs.declared.image.ImagePoint.{ImagePoint}
use Rattle.il_image.specs.declared.timer.TimerPhase.{TimerPhase}
use Rattle.il_image.specs.declared.timer.TimerPhase.TheVariants as phases
use Rattle.il_image.specs.declared.timer.TimerState.{TimerState}
use Rattle.il_image.specs.Timers.{first_state}
use Rattle.bay_base.specs.declared.switch.Operation.{Operation}
use Rattle.bay_audit.specs.declared.answer.CaseRelease.TheVariants.{Released, Refused}
use Rattle.il_image.specs.declared.value.Value.{Value}
use Rattle.il_image.specs.declared.value.Value.TheVariants.{Truth, Short, Long, Wide, Span}
use Rattle.bay_base.specs.declared.types.TimerKind.{TimerKind}
use Rattle.bay_base.specs.declared.types.TimerKind.TheVariants.{OnDelay}
use Rattle.il_range.specs.Effects.{value_range}
use Rattle.il_range.specs.Predictions.{AreDelays, First, PredictsScans, IsMemory, IsReached, ScanLeaves, delay_start, delay_start_at}
use Rattle.il_range.specs.Starts.{range_of_point}
use Rattle.il_range.proofs.StartLemmas.{firsts-in}
use Rattle.il_range.specs.Ranges.{AreIn, IsDelay, IsIn, Setting, delay_onset, delay_onset_at, is_by}
use Rattle.il_range.specs.declared.delay.KnownDelay.{KnownDelay}
use Rattle.il_range.specs.declared.delay.KnownDelay.TheVariants.{Unknown, Below, Begun, AtLeast}
use Rattle.il_range.specs.declared.range.Range.{Range}
use Rattle.il_range.specs.declared.range.Range.TheVariants.{Any, No, Yes, Either, Between, Among}
use Rattle.il_scan.specs.OutputValues.{is_true}
use Rattle.il_scan.specs.Scans.{first_machine, outputs_of}
use Rattle.il_scan.specs.Scans as scans
use Rattle.bay_audit.specs.Cases.{is_in, range_of}
use Rattle.bay_audit.specs.Conditions.{rule_truths, includes, negate_truths, condition_truths}
use Rattle.bay_audit.specs.Process.{IsProcess, process_value}
use Rattle.bay_audit.specs.Rules.{BoundProgram, ScansMeet, PredictsRanges, PredictsFirst, IsAnswer, IsDecision, IsMissed, IsAfterAnswer, IsFirstRelease, begun_range, decide, goal_range, idle_range, is_covered, is_obeyed, is_surely_missed, is_surely_obeyed, lasting_range, range_at, range_or_false, reaches, release_range, releases, releasing_point, sufficient_demand}
use Rattle.bay_audit.specs.declared.demand.Demand.{Demand}
use Rattle.bay_audit.specs.declared.demand.Goal.{Goal}
use Rattle.bay_audit.specs.declared.demand.Goal.TheVariants as goals
use Rattle.bay_audit.specs.declared.case.TestAnswer.{TestAnswer}
use Rattle.bay_audit.specs.declared.truth_set.TruthSet.{TruthSet}
use Rattle.bay_audit.specs.declared.answer.RuleAnswer.{RuleAnswer}
use Rattle.bay_audit.specs.declared.answer.RuleAnswer.TheVariants.{Broken, Holds, Open, Since, TooMany}
use Rattle.bay_audit.specs.declared.answer.RuleVerdict.{RuleVerdict}
use Rattle.bay_audit.specs.declared.answer.RuleVerdict.TheVariants as decision
use Rattle.bay_audit.proofs.CaseLemmas.{ranges-have, setting_of}
use Rattle.bay_audit.proofs.TruthSetLemmas.{condition-included, of-both, of-opposite}

-- ---- outputs

in-if : (w : Setting) (b : Bool) (v : Value) (r : Range) (values : List Value)
    (ranges : List Range) → IsIn w v r → AreIn w values ranges
    → AreIn w (cond b (v ∷ values) values) (cond b (r ∷ ranges) ranges)
in-if w true v r values ranges h k = (h, k)
in-if w false v r values ranges h k = k

outputs-in : (w : Setting) (points : List ImagePoint) (slots : List Value) (ranges : List Range)
    → AreIn w slots ranges → AreIn w (outputs_of points slots) (outputs_of points ranges)
outputs-in w [] slots ranges h = tt
outputs-in w (p ∷ points) [] [] h = tt
outputs-in w (p ∷ points) (v ∷ slots) (r ∷ ranges) h =
    in-if w p.writable v r (outputs_of points slots) (outputs_of points ranges) h.0
    (outputs-in w points slots ranges h.1)
outputs-in w (p ∷ points) [] (r ∷ ranges) h = absurd h
outputs-in w (p ∷ points) (v ∷ slots) [] h = absurd h

-- what a range tells of a truth value
abbrev Told : Range → Bool → Type 0
Told No b = b ≡ false
Told Yes b = b ≡ true
Told Any b = Unit {0}
Told Either b = Unit {0}
Told (Between low high) b = Unit {0}
Told (Among k s) b = Unit {0}

value-told : (w : Setting) (v : Value) (r : Range) → IsIn w v r → Told r (is_true (Some v))
value-told w (Truth false) No h = refl
value-told w (Truth true) No h = absurd h
value-told w (Truth true) Yes h = refl
value-told w (Truth false) Yes h = absurd h
value-told w (Short z) No h = absurd h
value-told w (Short z) Yes h = absurd h
value-told w (Long z) No h = absurd h
value-told w (Long z) Yes h = absurd h
value-told w (Wide z) No h = absurd h
value-told w (Wide z) Yes h = absurd h
value-told w (Span n) No h = absurd h
value-told w (Span n) Yes h = absurd h
value-told w v Any h = tt
value-told w v Either h = tt
value-told w v (Between low high) h = tt
value-told w v (Among k s) h = tt

there-told : (w : Setting) (values : List Value) (ranges : List Range) (n : ℕ)
    → AreIn w values ranges
    → Told (range_or_false (slice_get ranges n)) (is_true (slice_get values n))
there-told w [] [] n h = refl
there-told w (v ∷ values) (r ∷ ranges) zero h = value-told w v r h.0
there-told w (v ∷ values) (r ∷ ranges) (suc n) h = there-told w values ranges n h.1
there-told w [] (r ∷ ranges) n h = absurd h
there-told w (v ∷ values) [] n h = absurd h

place-told : (w : Setting) (values : List Value) (ranges : List Range) (place : Option ℕ)
    → AreIn w values ranges → Told (range_at ranges place) (is_true (output_at place values))
place-told w values ranges None h = refl
place-told w values ranges (Some n) h = there-told w values ranges n h

-- what is known of a delay tells of whether one runs, has begun, and began by the mark
idle-phase : (mark now : ℕ) (kind : TimerKind) (phase : TimerPhase) (d : KnownDelay)
    → IsDelay mark now kind phase d → Told (idle_range (Some d)) (is_none (delay_start phase))
idle-phase mark now kind phase Unknown y = tt
idle-phase mark now kind phase Begun y = tt
idle-phase mark now kind phase (AtLeast n) y = tt
idle-phase mark now kind phase (Below (suc n)) y = tt
idle-phase mark now kind phases.Idle (Below zero) y = refl
idle-phase mark now kind phases.Held (Below zero) y = refl
idle-phase mark now kind (phases.Since start) (Below zero) y = absurd (omega (arith, y))

by-some : (mark : ℕ) (o : Option ℕ) → is_by mark o ≡ true → is_some o ≡ true
by-some mark None h = absurd cc
by-some mark (Some start) h = refl

begun-phase : (mark now : ℕ) (kind : TimerKind) (phase : TimerPhase) (d : KnownDelay)
    → IsDelay mark now kind phase d
    → Told (begun_range (Some d)) (is_some (delay_onset kind phase))
begun-phase mark now kind phase Unknown y = tt
begun-phase mark now kind phase (Below n) y = tt
begun-phase mark now kind phase Begun y = y
begun-phase mark now kind phase (AtLeast n) y = by-some mark (delay_onset kind phase) y.0

lasting-phase : (mark now : ℕ) (kind : TimerKind) (phase : TimerPhase) (d : KnownDelay)
    → IsDelay mark now kind phase d
    → Told (lasting_range (Some d)) (is_by mark (delay_onset kind phase))
lasting-phase mark now kind phase Unknown y = tt
lasting-phase mark now kind phase (Below n) y = tt
lasting-phase mark now kind phase Begun y = tt
lasting-phase mark now kind phase (AtLeast n) y = y.0

-- ---- decisions

kept-obeyed : (kind : RuleKind) (r : Range) (b : Bool) → is_surely_obeyed kind r ≡ true → Told r b
    → is_obeyed kind true b ≡ true
kept-obeyed Never No b e told = ap not told
kept-obeyed Always Yes b e told = told
kept-obeyed Never Yes b e told = absurd cc
kept-obeyed Never Any b e told = absurd cc
kept-obeyed Never Either b e told = absurd cc
kept-obeyed Never (Between x y) b e told = absurd cc
kept-obeyed Always No b e told = absurd cc
kept-obeyed Always Any b e told = absurd cc
kept-obeyed Always Either b e told = absurd cc
kept-obeyed Always (Between x y) b e told = absurd cc
kept-obeyed Never (Among k s) b e told = absurd cc
kept-obeyed Always (Among k s) b e told = absurd cc

missed-broken : (kind : RuleKind) (r : Range) (b : Bool) → is_surely_missed kind r ≡ true → Told r b
    → is_obeyed kind true b ≡ false
missed-broken Never Yes b e told = ap not told
missed-broken Always No b e told = told
missed-broken Never No b e told = absurd cc
missed-broken Never Any b e told = absurd cc
missed-broken Never Either b e told = absurd cc
missed-broken Never (Between x y) b e told = absurd cc
missed-broken Always Yes b e told = absurd cc
missed-broken Always Any b e told = absurd cc
missed-broken Always Either b e told = absurd cc
missed-broken Always (Between x y) b e told = absurd cc
missed-broken Never (Among k s) b e told = absurd cc
missed-broken Always (Among k s) b e told = absurd cc

-- what each decision says of its tests
is-obeyed : (kept t missed f : Bool)
    → cond (kept || not t) decision.Obeyed (cond (missed && not f) decision.Missed decision.Unknown)
    ≡ decision.Obeyed
    → (kept ≡ true) ⊎ (t ≡ false)
is-obeyed true t missed f h = inl refl
is-obeyed false false missed f h = inr refl
is-obeyed false true true true h = absurd cc
is-obeyed false true true false h = absurd cc
is-obeyed false true false f h = absurd cc

is-missed : (kept t missed f : Bool)
    → cond (kept || not t) decision.Obeyed (cond (missed && not f) decision.Missed decision.Unknown)
    ≡ decision.Missed
    → (missed ≡ true) × (f ≡ false)
is-missed true t missed f h = absurd cc
is-missed false false missed f h = absurd cc
is-missed false true true true h = absurd cc
is-missed false true true false h = (refl, refl)
is-missed false true false f h = absurd cc

module _ (kind : RuleKind) (o : TruthSet) (r : Range) (b : Bool) (told : Told r b) where
  obeyed-so : (c : Bool) → includes o c ≡ true → decide kind o r ≡ decision.Obeyed
      → is_obeyed kind c b ≡ true
  obeyed-so false one e = refl
  obeyed-so true one e =
      elim (is-obeyed (is_surely_obeyed kind r) o.yes (is_surely_missed kind r) o.no e) [
        | inl kept ↦ kept-obeyed kind r b kept told
        | inr never ↦ absurd (let f : true ≡ false = sym one ∙ never in cc)
      ]

  broken-so : (c : Bool) → includes o c ≡ true → decide kind o r ≡ decision.Missed
      → is_obeyed kind c b ≡ false
  broken-so true one e =
      missed-broken kind r b (is-missed (is_surely_obeyed kind r) o.yes (is_surely_missed kind r)
      o.no e).0 told
  broken-so false one e =
      absurd (let f : true ≡ false =
      sym one ∙ (is-missed (is_surely_obeyed kind r) o.yes (is_surely_missed kind r) o.no e).1 in
      cc)

-- ---- goals

-- the same of a timer at a place
idle-told : (mark now : ℕ) (timers : List TimerState) (delays : List KnownDelay) (n : ℕ)
    → AreDelays mark now timers delays
    → Told (idle_range (slice_get delays n)) (is_none (delay_start_at n timers))
idle-told mark now timers [] n y = tt
idle-told mark now [] (d ∷ delays) zero y = idle-phase mark now OnDelay phases.Idle d y.0
idle-told mark now [] (d ∷ delays) (suc n) y = idle-told mark now [] delays n y.1
idle-told mark now (t ∷ timers) (d ∷ delays) zero y =
    idle-phase mark now t.kind t.phase d y.0
idle-told mark now (t ∷ timers) (d ∷ delays) (suc n) y =
    idle-told mark now timers delays n y.1

begun-told : (mark now : ℕ) (timers : List TimerState) (delays : List KnownDelay) (n : ℕ)
    → AreDelays mark now timers delays
    → Told (begun_range (slice_get delays n)) (is_some (delay_onset_at n timers))
begun-told mark now timers [] n y = tt
begun-told mark now [] (d ∷ delays) zero y = begun-phase mark now OnDelay phases.Idle d y.0
begun-told mark now [] (d ∷ delays) (suc n) y = begun-told mark now [] delays n y.1
begun-told mark now (t ∷ timers) (d ∷ delays) zero y =
    begun-phase mark now t.kind t.phase d y.0
begun-told mark now (t ∷ timers) (d ∷ delays) (suc n) y =
    begun-told mark now timers delays n y.1

lasting-told : (mark now : ℕ) (timers : List TimerState) (delays : List KnownDelay) (n : ℕ)
    → AreDelays mark now timers delays
    → Told (lasting_range (slice_get delays n)) (is_by mark (delay_onset_at n timers))
lasting-told mark now timers [] n y = tt
lasting-told mark now [] (d ∷ delays) zero y = lasting-phase mark now OnDelay phases.Idle d y.0
lasting-told mark now [] (d ∷ delays) (suc n) y = lasting-told mark now [] delays n y.1
lasting-told mark now (t ∷ timers) (d ∷ delays) zero y =
    lasting-phase mark now t.kind t.phase d y.0
lasting-told mark now (t ∷ timers) (d ∷ delays) (suc n) y =
    lasting-told mark now timers delays n y.1

-- what is known of whether a goal is reached tells it
pub goal-told : (w : Setting) (g : BoundProgram) (goal : Goal) (now : ℕ) (slots : List Value)
    (timers : List TimerState) (ranges : List Range) (delays : List KnownDelay)
    → AreIn w slots ranges → AreDelays w.mark now timers delays
    → Told (goal_range g.image.points g.writes ranges delays goal)
    (reaches g goal w.mark slots timers)
goal-told w g (goals.Release k operation) now slots timers ranges delays h y =
    place-told w (outputs_of g.image.points slots) (outputs_of g.image.points ranges)
    (position (is_point k (releasing_point operation)) g.writes)
    (outputs-in w g.image.points slots ranges h)
goal-told w g (goals.Idle n) now slots timers ranges delays h y =
    idle-told w.mark now timers delays n y
goal-told w g (goals.Begun n) now slots timers ranges delays h y =
    begun-told w.mark now timers delays n y
goal-told w g (goals.Lasting n) now slots timers ranges delays h y =
    lasting-told w.mark now timers delays n y

-- ---- what is asked

pub asked-included : (d : Demand) (p : Process) → IsProcess p → (case : List TestAnswer)
    → is_in case p ≡ true → includes (rule_truths case d.when d.unless) (is_covered d p) ≡ true
asked-included d p is case inside =
    of-both (condition_truths case d.when) (negate_truths (condition_truths case d.unless))
    (holds d.when p)
    (not (holds d.unless p)) (condition-included p is case inside d.when)
    (of-opposite (condition_truths case d.unless) (holds d.unless p)
    (condition-included p is case inside d.unless))

-- ---- a pass

-- What is foretold of all that the ranges of a program's memory hold is so of what it reaches.
pub foresees-by : (g : BoundProgram) (memory : List Range) (limits : List KnownDelay)
    (given : List Range) (last : List KnownDelay) (result : List Range) → IsMemory g.image memory
    → PredictsScans g.image memory limits given last result
    → PredictsRanges g limits given last result
foresees-by g memory limits given last result is predicts w machine inputs now slots timers image
    reached young inside leaves =
    predicts w machine inputs now slots timers image reached (is w machine image reached) young
    inside leaves

module _ (g : BoundProgram) (d : Demand) (case : List TestAnswer) (ranges : List Range)
    (limits : List KnownDelay)
    (foresees : PredictsRanges g d.limits (map (range_of case) g.reads) limits ranges)
    (asked : TruthSet) (r : Range) (is-asked : asked ≡ rule_truths case d.when d.unless)
    (is-range : r ≡ goal_range g.image.points g.writes ranges limits d.goal) where
  module _ (p : Process) (is : IsProcess p) (inside : is_in case p ≡ true)
      (mark : ℕ) (machine : scans.MachineData)
      (now : ℕ) (slots : List Value) (timers : List TimerState) (image : machine.image ≡ g.image)
      (kept : IsReached machine) (young : AreDelays mark now machine.timers d.limits)
      (leaves : ScanLeaves machine (map (process_value p) g.reads) now slots timers)
    where
      told : Told r (reaches g d.goal mark slots timers)
      told =
          let end =
          foresees (setting_of p mark) machine (map (process_value p) g.reads) now slots timers
          image kept
          young
          (ranges-have p mark is case inside g.reads) leaves in
          subst (λ (x : Range). Told x (reaches g d.goal mark slots timers)) (sym is-range)
          (goal-told (setting_of p mark) g d.goal now slots timers ranges limits end.0 end.1)

      included : includes asked (is_covered d p) ≡ true
      included = ap (λ (o : TruthSet). includes o (is_covered d p)) is-asked
          ∙ asked-included d p is case inside

  obeyed-by : decide d.kind asked r ≡ decision.Obeyed
      → (p : Process) → IsProcess p → is_in case p ≡ true → ScansMeet true g d p
  obeyed-by e p is inside mark machine now slots timers image kept young leaves =
      obeyed-so d.kind asked r (reaches g d.goal mark slots timers)
      (told p is inside mark machine now slots timers image kept young leaves) (is_covered d p)
      (included p is inside mark machine now slots timers image kept young leaves) e

  broken-by : decide d.kind asked r ≡ decision.Missed → IsMissed g d case
  broken-by e p is inside mark machine now slots timers image kept young leaves =
      broken-so d.kind asked r (reaches g d.goal mark slots timers)
      (told p is inside mark machine now slots timers image kept young leaves) (is_covered d p)
      (included p is inside mark machine now slots timers image kept young leaves) e

  pub decision-by : (x : RuleVerdict) → x ≡ decide d.kind asked r → IsDecision g d case x
  decision-by decision.Obeyed e = obeyed-by (sym e)
  decision-by decision.Missed e = broken-by (sym e)
  decision-by decision.Unknown e = tt

-- ---- the first scan

module _ (g : BoundProgram) (k : ℕ) (operation : Operation) (ranges : List Range)
    (foresees : PredictsFirst g (map (range_of []) g.reads) ranges) where
  start-told : (r : Range) → r ≡ release_range g.image.points g.writes ranges k operation
      → (p : Process) (now : ℕ) (slots : List Value) (timers : List TimerState) → IsProcess p
      → ScanLeaves (first_machine g.image) (map (process_value p) g.reads) now slots timers
      → Told r (releases g k operation slots)
  start-told r is p now slots timers ip leaves =
      subst (λ (x : Range). Told x (releases g k operation slots)) (sym is)
      (place-told (setting_of p 0) (outputs_of g.image.points slots)
      (outputs_of g.image.points ranges)
      (position (is_point k (releasing_point operation)) g.writes)
      (outputs-in (setting_of p 0) g.image.points slots ranges
      (foresees (setting_of p 0) (map (process_value p) g.reads) now slots timers
      (ranges-have p 0 ip [] refl g.reads) leaves)))

  pub start-released : (r : Range) → r ≡ release_range g.image.points g.writes ranges k operation
      → r ≡ Yes → IsFirstRelease g k operation Released
  start-released r is e p now slots timers ip leaves =
      start-told Yes (sym e ∙ is) p now slots timers ip leaves

  pub start-refused : (r : Range) → r ≡ release_range g.image.points g.writes ranges k operation
      → r ≡ No → IsFirstRelease g k operation Refused
  start-refused r is e p now slots timers ip leaves =
      start-told No (sym e ∙ is) p now slots timers ip leaves

-- no delay runs before the first scan
first-young : (mark now : ℕ) (kinds : List TimerKind) (n : ℕ)
    → AreDelays mark now (map first_state kinds) (replicate n (Below 0))
first-young mark now kinds zero = tt
first-young mark now [] (suc n) = (tt, first-young mark now [] n)
first-young mark now (kind ∷ kinds) (suc n) = (tt, first-young mark now kinds n)

pub foresees-first : (g : BoundProgram) (memory : List Range) (n : ℕ) (given : List Range)
    (last : List KnownDelay) (result : List Range)
    → memory ≡ map range_of_point g.image.points ++ map value_range g.image.variables
    → PredictsScans g.image memory (replicate n (Below 0)) given last result
    → PredictsFirst g given result
foresees-first g memory n given last result is predicts w inputs now slots timers inside leaves =
    (predicts w (first_machine g.image) inputs now slots timers refl (First g.image)
    (subst (AreIn w (first_machine g.image).slots) (sym is)
    (firsts-in w g.image.points g.image.variables))
    (first-young w.mark now g.image.timers n) inside leaves).0

-- a demand is met where nothing is asked
idle-so : (kind : RuleKind) (o : TruthSet) (c b : Bool) → o.yes ≡ false → includes o c ≡ true
    → is_obeyed kind c b ≡ true
idle-so kind o false b never one = refl
idle-so kind o true b never one = absurd (let f : true ≡ false = sym one ∙ never in cc)

pub idle-in : (g : BoundProgram) (d : Demand) (case : List TestAnswer)
    → (rule_truths case d.when d.unless).yes ≡ false → (p : Process) → IsProcess p
    → is_in case p ≡ true → ScansMeet true g d p
idle-in g d case never p is inside mark machine now slots timers image kept young leaves =
    idle-so d.kind (rule_truths case d.when d.unless) (is_covered d p)
    (reaches g d.goal mark slots timers)
    never (asked-included d p is case inside)

-- ---- rules with a time

-- the answer to the demand that the condition alone releases the switch is one to the rule
pub required-plain : (g : BoundProgram) (rule : Rule) (timing : Timing) (a : RuleAnswer)
    → IsAnswer g (sufficient_demand rule timing.condition) a → IsAfterAnswer g rule timing a
required-plain g rule timing (Holds cases) h = h
required-plain g rule timing (Broken case) h = h
required-plain g rule timing (Open case kept) h = h
required-plain g rule timing TooMany h = tt
required-plain g rule timing (Since n cases) h = absurd h
