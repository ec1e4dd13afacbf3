-- Which rules a program obeys, in every state that it can reach and for every process.
use Rattle.std.specs.Prelude.{ℕ, zero, suc, ◌+◌, ◌++◌, ◌≡◌, Bool, true, false, not, ◌&&◌, ◌||◌, ◌<◌, ◌⊎◌, All, List, [], ◌∷◌, map, position, replicate, MatchOption, Option, None, Some, is_none, is_some, slice_get, Result, Ok, Err, if◌then◌else◌}
use Rattle.std.specs.List.{count_by}
use Rattle.bay_config.specs.declared.bay.Bay.{Bay}
use Rattle.bay_base.specs.declared.point.Source.{Source}
use Rattle.bay_base.specs.declared.point.SwitchPoint.{SwitchPoint}
use Rattle.bay_base.specs.declared.point.SwitchPoint.TheVariants.{EnableOpen, EnableClose}
use Rattle.bay_process.specs.Sources.{sources_of}
use Rattle.bay_process.specs.Values.{is_point, output_at, output_of}
use Rattle.bay_audit_rules.specs.Process.{Process, holds}
use Rattle.bay_audit_rules.specs.declared.rule.ConditionItem.{ConditionItem}
use Rattle.bay_audit_rules.specs.declared.rule.ConditionItem.TheVariants as items
use Rattle.bay_audit_rules.specs.declared.rule.Rule.{Rule}
use Rattle.bay_audit_rules.specs.declared.rule.RuleKind.{RuleKind}
use Rattle.bay_audit_rules.specs.declared.rule.RuleKind.TheVariants.{Never, Always}
use Rattle.bay_audit_rules.specs.declared.rule.Timing.{Timing}
use Rattle.bay_base.specs.declared.switch.Operation.{Operation}
use Rattle.bay_base.specs.declared.switch.Operation.TheVariants as operations
use Rattle.il_image.specs.declared.image.ImagePoint.{ImagePoint}
use Rattle.il_image.specs.declared.timer.TimerState.{TimerState}
use Rattle.il_image.specs.declared.value.Value.{Value}
use Rattle.il_image.specs.Images.{Image}
use Rattle.il_range.specs.Predictions.{AreDelays, IsReached, ScanLeaves, delay_start_at}
use Rattle.il_range.specs.Ranges.{AreIn, Setting, delay_onset_at, is_by}
use Rattle.il_range.specs.declared.delay.KnownDelay.{KnownDelay}
use Rattle.il_range.specs.declared.delay.KnownDelay.TheVariants as delays
use Rattle.il_range.specs.declared.range.Range.{Range}
use Rattle.il_range.specs.declared.range.Range.TheVariants as range
use Rattle.il_scan.specs.Scans.{MachineData, first_machine, outputs_of}
use Rattle.il_scan.specs.OutputValues.{is_true}
use Rattle.bay_audit.specs.Cases.{example_of, is_in}
use Rattle.bay_audit.specs.Process.{IsLost, IsProcess, process_value}
use Rattle.bay_audit.specs.declared.answer.RuleAnswer.{RuleAnswer}
use Rattle.bay_audit.specs.declared.answer.RuleAnswer.TheVariants.{Holds, Broken, Open, TooMany, Since}
use Rattle.bay_audit.specs.declared.case.TestAnswer.{TestAnswer}
use Rattle.bay_audit.specs.declared.case.Test.{Test}
use Rattle.bay_audit.specs.declared.answer.Release.{Release}
use Rattle.bay_audit.specs.declared.demand.Demand.{Demand}
use Rattle.bay_audit.specs.declared.demand.Goal.{Goal}
use Rattle.bay_audit.specs.declared.demand.Goal.TheVariants as goals
use Rattle.bay_audit.specs.declared.answer.CaseRelease.{CaseRelease}
use Rattle.bay_audit.specs.declared.answer.CaseRelease.TheVariants.{Released, Refused, Depends}
use Rattle.bay_audit.specs.declared.answer.ReportedCase.{ReportedCase}
use Rattle.bay_audit.specs.declared.truth_set.TruthSet.{TruthSet}
use Rattle.bay_audit.specs.declared.answer.RuleVerdict.{RuleVerdict}
use Rattle.bay_audit.specs.declared.answer.RuleVerdict.TheVariants.{Obeyed, Missed, Unknown}
use Rattle.bay_audit.specs.declared.answer.Verdict.{Verdict}
use Rattle.bay_audit.specs.declared.answer.Verdict.TheVariants as verdict

-- ---- programs

-- a program on a bay: its image, and the sources of the points that it only reads, and of those
-- that it may write
pub record BoundProgram : Type 0 where
  pub image : Image
  pub reads : List Source
  pub writes : List Source

-- the program of an image with these sources
abbrev pub program : Image → List Source → List Source → BoundProgram
program image reads writes = record { image = image; reads = reads; writes = writes }

-- the program of an image on a bay, with the sources of its points
abbrev pub program_of : Bay → Image → BoundProgram
program_of bay image =
    program image (sources_of false bay.points image.points)
    (sources_of true bay.points image.points)

-- the point that releases an operation
abbrev pub releasing_point : Operation → SwitchPoint
releasing_point operations.Open = EnableOpen
releasing_point operations.Close = EnableClose

-- the slots release the switch in this direction; they do not if the program does not name the
-- point
abbrev pub releases : BoundProgram → ℕ → Operation → List Value → Bool
releases g k operation slots =
    output_of k (releasing_point operation) g.writes (outputs_of g.image.points slots)

-- ---- rules

-- a rule of this kind is obeyed, by the truth of its condition and of the release
abbrev pub is_obeyed : RuleKind → Bool → Bool → Bool
is_obeyed kind false release = true
is_obeyed Never true release = not release
is_obeyed Always true release = release

-- the slots and timers reach the goal: the switch is released; no delay of the timer runs; the
-- timer's delay has begun; or it began no later than a moment, the mark
abbrev pub reaches : BoundProgram → Goal → ℕ → List Value → List TimerState → Bool
reaches g (goals.Release k operation) mark slots timers = releases g k operation slots
reaches g (goals.Idle n) mark slots timers = is_none (delay_start_at n timers)
reaches g (goals.Begun n) mark slots timers = is_some (delay_onset_at n timers)
reaches g (goals.Lasting n) mark slots timers = is_by mark (delay_onset_at n timers)

-- the demand covers this process
abbrev pub is_covered : Demand → Process → Bool
is_covered d p = holds d.when p && not (holds d.unless p)

-- the slots and timers meet a demand, for this process and this mark
abbrev pub obeys : BoundProgram → Demand → Process → ℕ → List Value → List TimerState → Bool
obeys g d p mark slots timers =
    is_obeyed d.kind (is_covered d p) (reaches g d.goal mark slots timers)

-- Every scan that the demand covers, for this process and each mark, at any time and from any state
-- that the program can reach, meets the demand if b is true, and misses it if b is false.
abbrev pub ScansMeet : Bool → BoundProgram → Demand → Process → Type 0
ScansMeet b g d p =
    (mark : ℕ) (machine : MachineData) (now : ℕ) (slots : List Value) (timers : List TimerState)
    → machine.image ≡ g.image → IsReached machine → AreDelays mark now machine.timers d.limits
    → ScanLeaves machine (map (process_value p) g.reads) now slots timers
    → obeys g d p mark slots timers ≡ b

-- A demand is met: for every process, in each state.
abbrev pub IsMet : BoundProgram → Demand → Type 0
IsMet g d = (p : Process) → IsProcess p → ScansMeet true g d p

-- A demand is missed in a case: for each process of the case, in each state.
abbrev pub IsMissed : BoundProgram → Demand → List TestAnswer → Type 0
IsMissed g d case = (p : Process) → IsProcess p → is_in case p ≡ true → ScansMeet false g d p

-- the demand of a rule, without its time
abbrev pub plain_demand : Rule → Demand
plain_demand rule = record {
  kind = rule.kind;
  goal = goals.Release rule.switch rule.operation;
  when = rule.when;
  unless = [];
  limits = [];
}

-- A rule holds: it is obeyed for every process, in each state.
abbrev pub RuleHolds : BoundProgram → Rule → Type 0
RuleHolds g rule = IsMet g (plain_demand rule)

-- A rule is broken in a case: for each process of the case, in each state.
abbrev pub IsBroken : BoundProgram → Rule → List TestAnswer → Type 0
IsBroken g rule case = IsMissed g (plain_demand rule) case

-- ---- rules with a time

-- the limit of the delay of one timer
abbrev pub limit_of : ℕ → KnownDelay → List KnownDelay
limit_of n delay = replicate n delays.Unknown ++ delay ∷ []

-- the switch is not released unless a delay of the timer runs that began at least `time` ago
abbrev pub delay_demand : Rule → ℕ → ℕ → Demand
delay_demand rule time n = record {
  kind = Never;
  goal = goals.Release rule.switch rule.operation;
  when = rule.when;
  unless = [];
  limits = limit_of n (delays.Below time);
}

-- the switch is not released while the condition is FALSE
abbrev pub necessary_demand : Rule → List ConditionItem → Demand
necessary_demand rule condition = record {
  kind = Never;
  goal = goals.Release rule.switch rule.operation;
  when = rule.when;
  unless = condition;
  limits = [];
}

-- no delay of the timer runs while the condition is FALSE
abbrev pub idle_timer_demand : List ConditionItem → ℕ → Demand
idle_timer_demand condition n = record {
  kind = Always;
  goal = goals.Idle n;
  when = items.True ∷ [];
  unless = condition;
  limits = [];
}

-- the switch is released while the condition is TRUE, in scans before which delays are within the
-- limits
abbrev pub release_demand_within : Rule → List ConditionItem → List KnownDelay → Demand
release_demand_within rule condition limits = record {
  kind = Always;
  goal = goals.Release rule.switch rule.operation;
  when = rule.when;
  unless = condition ++ items.Not ∷ [];
  limits = limits;
}

-- the switch is released while the condition is TRUE, in each scan
abbrev pub sufficient_demand : Rule → List ConditionItem → Demand
sufficient_demand rule condition = release_demand_within rule condition []

-- the switch is released while the condition is TRUE, in scans before which the delay of the timer
-- began at least the rule's time ago
abbrev pub due_demand : Rule → Timing → ℕ → Demand
due_demand rule timing n =
    release_demand_within rule timing.condition (limit_of n (delays.AtLeast timing.time))

-- a scan with the condition TRUE reaches the goal, if delays are within the limits before it
abbrev pub running_demand : List ConditionItem → Goal → List KnownDelay → Demand
running_demand condition goal limits = record {
  kind = Always;
  goal = goal;
  when = condition;
  unless = [];
  limits = limits;
}

-- the delay of the timer has begun whenever the condition is TRUE
abbrev pub begun_demand : List ConditionItem → ℕ → Demand
begun_demand condition n = running_demand condition (goals.Begun n) []

-- whenever the condition is TRUE, a delay of the timer that began by a moment has still begun by it
abbrev pub lasting_demand : List ConditionItem → ℕ → Demand
lasting_demand condition n =
    running_demand condition (goals.Lasting n) (limit_of n (delays.AtLeast 0))

-- A timer establishes the rule that a switch is not released until a condition has held for a time:
-- its delay runs only while the condition is TRUE, and a release waits for it.
pub record IsByTimer (g : BoundProgram) (rule : Rule) (timing : Timing) (n : ℕ) : Type 0 where
  pub delay_met : IsMet g (delay_demand rule timing.time n)
  pub necessary_met : IsMet g (necessary_demand rule timing.condition)
  pub idle_met : IsMet g (idle_timer_demand timing.condition n)

-- A timer establishes the rule that a switch is released after a condition has held for a time: its
-- delay begins and lasts while the condition is TRUE, and lets the release through once it has
-- lasted for the time.
pub record IsDueByTimer (g : BoundProgram) (rule : Rule) (timing : Timing) (n : ℕ) : Type 0 where
  pub long : 0 < timing.time
  pub begun_met : IsMet g (begun_demand timing.condition n)
  pub lasting_met : IsMet g (lasting_demand timing.condition n)
  pub due_met : IsMet g (due_demand rule timing n)

-- ---- answers

-- The case has a process.
abbrev pub HasProcess : List TestAnswer → Type 0
HasProcess case = (p : Process) × IsProcess p × (is_in case p ≡ true)

-- The answer to a demand is right.
abbrev pub IsAnswer : BoundProgram → Demand → RuleAnswer → Type 0
IsAnswer g d (Holds cases) = IsMet g d
IsAnswer g d (Broken case) = IsMissed g d case × HasProcess case
IsAnswer g d (Open case depends_on) = HasProcess case
IsAnswer g d TooMany = Unit {0}
IsAnswer g d (Since n cases) = ⊥

-- A scan with these inputs takes the machine to its next state.
abbrev pub ScansTo : List Value → MachineData → ℕ → MachineData → Type 0
ScansTo inputs machine now next =
    (next.image ≡ machine.image) × ScanLeaves machine inputs now next.slots next.timers

-- A scan with these inputs at a time below `time`, from the first values or after a scan with the
-- same inputs at time 0, makes TRUE the writable point with this index.
pub record IsEarlyBy (inputs : List Value) (first : MachineData) (place : Option ℕ) (time : ℕ)
    : Type 0
  where
    pub before : MachineData
    pub starts : (before ≡ first) ⊎ ScansTo inputs first 0 before
    pub now : ℕ
    pub soon : now < time
    pub after : MachineData
    pub passes : ScansTo inputs before now after
    pub released : is_true (output_at place
        (outputs_of after.image.points after.slots)) ≡ true

-- the index of a release among the writable points
abbrev pub index_of_release : BoundProgram → Rule → Option ℕ
index_of_release g rule = position (is_point rule.switch (releasing_point rule.operation)) g.writes

-- For a process of the case that the rule covers and that does not change, such a run from the
-- program's first values releases the switch.
pub record IsEarlyIn (g : BoundProgram) (rule : Rule) (time : ℕ) (case : List TestAnswer) : Type 0
  where
    pub process : Process
    pub is : IsProcess process
    pub inside : is_in case process ≡ true
    pub covered : holds rule.when process ≡ true
    pub early : IsEarlyBy (map (process_value process) g.reads) (first_machine g.image)
        (index_of_release g rule) time

-- The answer to a rule that forbids until a condition has held for a time is right. It holds if the
-- switch is never released in a state that the rule covers, or if a timer establishes it; it is
-- broken if the switch is released without the condition, in each state, or by such a run.
abbrev pub IsUntilAnswer : BoundProgram → Rule → Timing → RuleAnswer → Type 0
IsUntilAnswer g rule timing (Holds cases) = IsMet g (plain_demand rule)
IsUntilAnswer g rule timing (Since n cases) = IsByTimer g rule timing n
IsUntilAnswer g rule timing (Broken case) =
    (IsMissed g (necessary_demand rule timing.condition) case × HasProcess case)
    ⊎ IsEarlyIn g rule timing.time case
IsUntilAnswer g rule timing (Open case depends_on) = HasProcess case
IsUntilAnswer g rule timing TooMany = Unit {0}

-- The answer to a rule that requires a release after a condition has held for a time is right. It
-- holds if the switch is released whenever the condition is TRUE, or if a timer establishes it; it
-- is broken if the switch is never released while the condition is TRUE.
abbrev pub IsAfterAnswer : BoundProgram → Rule → Timing → RuleAnswer → Type 0
IsAfterAnswer g rule timing (Holds cases) = IsMet g (sufficient_demand rule timing.condition)
IsAfterAnswer g rule timing (Since n cases) = IsDueByTimer g rule timing n
IsAfterAnswer g rule timing (Broken case) =
    IsMissed g (sufficient_demand rule timing.condition) case × HasProcess case
IsAfterAnswer g rule timing (Open case depends_on) = HasProcess case
IsAfterAnswer g rule timing TooMany = Unit {0}

-- The answer to a rule of this kind with a time is right.
abbrev pub IsTimedAnswerOf : RuleKind → BoundProgram → Rule → Timing → RuleAnswer → Type 0
IsTimedAnswerOf Never g rule timing answer = IsUntilAnswer g rule timing answer
IsTimedAnswerOf Always g rule timing answer = IsAfterAnswer g rule timing answer

-- The answer to a rule with a time is right.
abbrev pub IsTimedAnswer : BoundProgram → Rule → Timing → RuleAnswer → Type 0
IsTimedAnswer g rule timing answer = IsTimedAnswerOf rule.kind g rule timing answer

-- The answer to a rule is right.
abbrev pub IsRightAnswer : BoundProgram → Rule → RuleAnswer → Type 0
IsRightAnswer g rule answer =
    MatchOption rule.timed (IsAnswer g (plain_demand rule) answer)
    (λ timing. IsTimedAnswer g rule timing answer)

-- There is one answer for each rule, in their order, and it is right.
abbrev pub AreRightAnswers : BoundProgram → List Rule → List RuleAnswer → Type 0
AreRightAnswers g [] [] = Unit {0}
AreRightAnswers g (r ∷ rules) (a ∷ answers) = IsRightAnswer g r a × AreRightAnswers g rules answers
AreRightAnswers g [] (a ∷ answers) = ⊥
AreRightAnswers g (r ∷ rules) [] = ⊥

-- ---- releases

-- Every scan for this process, from any state that the program can reach, releases the switch in
-- this direction if b is true, and does not if b is false.
abbrev pub ReleaseIs : Bool → BoundProgram → ℕ → Operation → Process → Type 0
ReleaseIs b g k operation p =
    (machine : MachineData) (now : ℕ) (slots : List Value) (timers : List TimerState)
    → machine.image ≡ g.image → IsReached machine
    → ScanLeaves machine (map (process_value p) g.reads) now slots timers
    → releases g k operation slots ≡ b

-- The release is right for each of these processes.
abbrev pub IsRightFor : (Process → Type 0) → BoundProgram → ℕ → Operation → CaseRelease → Type 0
IsRightFor These g k operation Released =
    (p : Process) → IsProcess p → These p → ReleaseIs true g k operation p
IsRightFor These g k operation Refused =
    (p : Process) → IsProcess p → These p → ReleaseIs false g k operation p
IsRightFor These g k operation (Depends depends_on) = Unit {0}

-- The release in a case is right.
abbrev pub IsRightInCase : BoundProgram → ℕ → Operation → List TestAnswer → CaseRelease → Type 0
IsRightInCase g k operation case release =
    IsRightFor (λ p. is_in case p ≡ true) g k operation release

-- The release in each of the cases is right.
abbrev pub AreRightInCases : BoundProgram → ℕ → Operation → List ReportedCase → Type 0
AreRightInCases g k operation [] = Unit {0}
AreRightInCases g k operation (c ∷ cases) =
    IsRightInCase g k operation c.case c.release × AreRightInCases g k operation cases

-- the number of the cases that have this process
abbrev pub reported_count : List ReportedCase → Process → ℕ
reported_count cases p = count_by (λ c. is_in c.case p) cases

-- the number of the cases that have this process
abbrev pub case_count : List (List TestAnswer) → Process → ℕ
case_count cases p = count_by (λ case. is_in case p) cases

-- Each first scan of the program, with any process and at any time, releases the switch in this
-- direction if b is true, and does not if b is false.
abbrev pub FirstReleaseIs : Bool → BoundProgram → ℕ → Operation → Type 0
FirstReleaseIs b g k operation =
    (p : Process) (now : ℕ) (slots : List Value) (timers : List TimerState) → IsProcess p
    → ScanLeaves (first_machine g.image) (map (process_value p) g.reads) now slots timers
    → releases g k operation slots ≡ b

-- The release by the first scan is right.
abbrev pub IsFirstRelease : BoundProgram → ℕ → Operation → CaseRelease → Type 0
IsFirstRelease g k operation Released = FirstReleaseIs true g k operation
IsFirstRelease g k operation Refused = FirstReleaseIs false g k operation
IsFirstRelease g k operation (Depends depends_on) = Unit {0}

-- The release in each case is right, each case has a process, and each process is in exactly one of
-- the cases and of those that are left. The release while the process is lost is right too, and so
-- is that by the first scan.
pub record IsRelease (bay : Bay) (g : BoundProgram) (r : Release) : Type 0 where
  pub release : AreRightInCases g r.switch r.operation r.cases.items
  pub full : All (λ c. HasProcess c.case) r.cases.items
  pub one : (p : Process) → IsProcess p
      → reported_count r.cases.items p + case_count r.left.items p ≡ 1
  pub lost : IsRightFor (IsLost bay) g r.switch r.operation r.lost
  pub start : IsFirstRelease g r.switch r.operation r.start

-- Each of the releases is right.
abbrev pub AreReleases : Bay → BoundProgram → List Release → Type 0
AreReleases bay g [] = Unit {0}
AreReleases bay g (r ∷ releases) = IsRelease bay g r × AreReleases bay g releases

-- the releases of the first n switches: opening and closing of each
abbrev pub directions : ℕ → List (ℕ × Operation)
directions zero = []
directions (suc k) = directions k ++ (k, operations.Open) ∷ (k, operations.Close) ∷ []

-- the switch of a release and its direction
abbrev pub direction_of : Release → ℕ × Operation
direction_of r = (r.switch, r.operation)

-- the demand that a switch is always released in a direction
abbrev pub release_demand : ℕ → Operation → Demand
release_demand k operation = record {
  kind = Always;
  goal = goals.Release k operation;
  when = items.True ∷ [];
  unless = [];
  limits = [];
}

-- ---- verdicts

-- In any setting, from every state that the program can reach, a scan with inputs in the given
-- ranges, and with delays of timers as `limits` says, leaves slots in the resulting ranges, and
-- delays as `last` says.
abbrev pub PredictsRanges : BoundProgram → List KnownDelay → List Range → List KnownDelay
    → List Range
    → Type 0
PredictsRanges g limits given last result =
    (w : Setting) (machine : MachineData) (inputs : List Value) (now : ℕ) (slots : List Value)
    (timers : List TimerState) → machine.image ≡ g.image → IsReached machine
    → AreDelays w.mark now machine.timers limits → AreIn w inputs given
    → ScanLeaves machine inputs now slots timers
    → AreIn w slots result × AreDelays w.mark now timers last

-- In any setting, the first scan, with inputs in the given ranges, leaves slots in the resulting
-- ranges.
abbrev pub PredictsFirst : BoundProgram → List Range → List Range → Type 0
PredictsFirst g given result =
    (w : Setting) (inputs : List Value) (now : ℕ) (slots : List Value) (timers : List TimerState)
    → AreIn w inputs given → ScanLeaves (first_machine g.image) inputs now slots timers
    → AreIn w slots result

-- the verdict on a demand in a case is right
abbrev pub IsVerdict : BoundProgram → Demand → List TestAnswer → Verdict → Type 0
IsVerdict g d case verdict.Obeyed =
    (p : Process) → IsProcess p → is_in case p ≡ true → ScansMeet true g d p
IsVerdict g d case verdict.Broken = IsMissed g d case
IsVerdict g d case (verdict.Split test) = Unit {0}
IsVerdict g d case (verdict.Open depends_on) = Unit {0}

-- the decision on a demand in a case is right
abbrev pub IsDecision : BoundProgram → Demand → List TestAnswer → RuleVerdict → Type 0
IsDecision g d case Obeyed =
    (p : Process) → IsProcess p → is_in case p ≡ true → ScansMeet true g d p
IsDecision g d case Missed = IsMissed g d case
IsDecision g d case Unknown = Unit {0}

-- the verdict decides nothing
abbrev pub IsUndecided : Verdict → Type 0
IsUndecided verdict.Obeyed = ⊥
IsUndecided verdict.Broken = ⊥
IsUndecided (verdict.Split test) = Unit {0}
IsUndecided (verdict.Open depends_on) = Unit {0}

-- a release in this range obeys a rule of this kind for certain, if its condition is TRUE
abbrev pub is_surely_obeyed : RuleKind → Range → Bool
is_surely_obeyed Never range.No = true
is_surely_obeyed Always range.Yes = true
is_surely_obeyed kind r = false

-- a release in this range breaks a rule of this kind for certain, if its condition is TRUE
abbrev pub is_surely_missed : RuleKind → Range → Bool
is_surely_missed Never range.Yes = true
is_surely_missed Always range.No = true
is_surely_missed kind r = false

-- the decision on a rule, from the truth set of its condition and the range of the release
abbrev pub decide : RuleKind → TruthSet → Range → RuleVerdict
decide kind o r =
    if is_surely_obeyed kind r || not o.yes then Obeyed
    else if is_surely_missed kind r && not o.no then Missed else Unknown

-- the range, or FALSE if there is none
abbrev pub range_or_false : Option Range → Range
range_or_false None = range.No
range_or_false (Some r) = r

-- the range at an index; FALSE without an index
abbrev pub range_at : List Range → Option ℕ → Range
range_at outputs None = range.No
range_at outputs (Some place) = range_or_false (slice_get outputs place)

-- the range of a release
abbrev pub release_range : List ImagePoint → List Source → List Range → ℕ → Operation → Range
release_range points writes ranges k operation =
    range_at (outputs_of points ranges) (position (is_point k (releasing_point operation)) writes)

-- the range of whether no delay runs: no delay can have begun less than 0 ms ago
abbrev pub idle_range : Option KnownDelay → Range
idle_range None = range.Either
idle_range (Some delays.Unknown) = range.Either
idle_range (Some (delays.Below zero)) = range.Yes
idle_range (Some (delays.Below (suc n))) = range.Either
idle_range (Some delays.Begun) = range.Either
idle_range (Some (delays.AtLeast n)) = range.Either

-- the range of whether the delay has begun
abbrev pub begun_range : Option KnownDelay → Range
begun_range None = range.Either
begun_range (Some delays.Unknown) = range.Either
begun_range (Some (delays.Below n)) = range.Either
begun_range (Some delays.Begun) = range.Yes
begun_range (Some (delays.AtLeast n)) = range.Yes

-- the range of whether the delay began no later than the mark
abbrev pub lasting_range : Option KnownDelay → Range
lasting_range None = range.Either
lasting_range (Some delays.Unknown) = range.Either
lasting_range (Some (delays.Below n)) = range.Either
lasting_range (Some delays.Begun) = range.Either
lasting_range (Some (delays.AtLeast n)) = range.Yes

-- the range of whether a scan reaches a goal
abbrev pub goal_range : List ImagePoint → List Source → List Range → List KnownDelay → Goal → Range
goal_range points writes ranges limits (goals.Release k operation) =
    release_range points writes ranges k operation
goal_range points writes ranges limits (goals.Idle n) = idle_range (slice_get limits n)
goal_range points writes ranges limits (goals.Begun n) = begun_range (slice_get limits n)
goal_range points writes ranges limits (goals.Lasting n) = lasting_range (slice_get limits n)

-- the case, if it has a process
abbrev pub if_any : List TestAnswer → List (List TestAnswer)
if_any case = if is_in case (example_of case) then case ∷ [] else []

-- the part of a case in which a test has this answer
abbrev pub case_with_answer : List TestAnswer → Test → Bool → List TestAnswer
case_with_answer case test value = case ++ record { test = test; value = value } ∷ []

-- the parts of a case that have a process
abbrev pub parts_of : List TestAnswer → Test → List (List TestAnswer)
parts_of case test =
    if_any (case_with_answer case test false) ++ if_any (case_with_answer case test true)

-- The demand is met for each process that is in none of these cases.
abbrev pub IsMetOutside : BoundProgram → Demand → List (List TestAnswer) → Type 0
IsMetOutside g d cases = (p : Process) → IsProcess p → case_count cases p ≡ 0 → ScansMeet true g d p

-- the release that a verdict on its demand means, or the test by which to split the case
abbrev pub IsReleaseOrTest : Verdict → Result CaseRelease Test → Type 0
IsReleaseOrTest verdict.Obeyed r = r ≡ Ok Released
IsReleaseOrTest verdict.Broken r = r ≡ Ok Refused
IsReleaseOrTest (verdict.Open depends_on) r = r ≡ Ok (Depends depends_on)
IsReleaseOrTest (verdict.Split test) r = r ≡ Err test
