-- The lines of an audit.
use Rattle.std.specs.Prelude.{ℕ, ◌-◌, ◌==◌, ℤ, pos, negsuc, Bool, true, false, ◌&&◌, ◌||◌, List, [], ◌++◌, codes, Option, None, Some, slice_get, length, flat_map, if◌then◌else◌}
use Rattle.std.specs.Ordering.{int_eq}
use Rattle.std.specs.Fmt.{decimal, signed_decimal}
use Rattle.bay_audit.specs.declared.answer.RuleAnswer.{RuleAnswer}
use Rattle.bay_audit.specs.declared.answer.RuleAnswer.TheVariants as answer
use Rattle.bay_audit.specs.declared.answer.StateDependencies.{StateDependencies}
use Rattle.bay_audit.specs.declared.answer.Release.{Release}
use Rattle.bay_audit.specs.declared.answer.CaseRelease.{CaseRelease}
use Rattle.bay_audit.specs.declared.answer.CaseRelease.TheVariants as release
use Rattle.bay_audit.specs.declared.answer.ReportedCase.{ReportedCase}
use Rattle.bay_audit.specs.Cases.{may_be, input_may, low_of, high_of}
use Rattle.bay_audit.specs.declared.case.TestAnswer.{TestAnswer}
use Rattle.bay_config.specs.declared.bay.Bay.{Bay}
use Rattle.bay_base.specs.declared.point.MeterField.{MeterField}
use Rattle.bay_base.specs.declared.point.Point.{Point}
use Rattle.bay_base.specs.declared.point.Source.{Source}
use Rattle.bay_base.specs.declared.point.Source.TheVariants as source
use Rattle.bay_base.specs.declared.point.SwitchPoint.{SwitchPoint}
use Rattle.bay_base.specs.declared.point.SwitchPoint.TheVariants.{Position, Open, Closed, EnableOpen, EnableClose}
use Rattle.bay_base.specs.declared.switch.Operation.{Operation}
use Rattle.bay_base.specs.declared.switch.Operation.TheVariants as operations
use Rattle.bay_nodes.specs.declared.switch.Switch.{Switch}
use Rattle.bay_audit_rules.specs.Code.{code_of, line_of, words_of}
use Rattle.bay_audit_rules.specs.declared.fault.RuleFault.{RuleFault}
use Rattle.bay_audit_rules.specs.declared.rule.Rule.{Rule}
use Rattle.il_image.specs.declared.image.ImagePoint.{ImagePoint}
use Rattle.cmd_audit.specs.Names.{ProgramNames}
use Rattle.bay_base.specs.declared.position.Dbpos.TheVariants.{Intermediate, Off, On, Bad}

-- ---- a case

-- the digit of a position, if the switch may have it, after a bar if another digit precedes it
abbrev pub position_text : Bool → Bool → List ℕ → List ℕ
position_text false behind digit = []
position_text true behind digit = if behind then codes "|" ++ digit else digit

-- the positions that a switch may have: 0 intermediate, 1 open, 2 closed, 3 bad
abbrev pub positions_of : Bool → Bool → Bool → Bool → List ℕ
positions_of i o n b =
    position_text i false (codes "0") ++ (position_text o i (codes "1")
    ++ (position_text n (i || o) (codes "2") ++ position_text b (i || (o || n)) (codes "3")))

-- the positions that a case allows a switch
abbrev pub positions_text : List TestAnswer → ℕ → List ℕ
positions_text case k =
    positions_of (may_be case k Intermediate) (may_be case k Off) (may_be case k On)
    (may_be case k Bad)

-- a case allows a switch each position
abbrev pub is_any_position : List TestAnswer → ℕ → Bool
is_any_position case k =
    may_be case k Intermediate && (may_be case k Off && (may_be case k On && may_be case k Bad))

-- a name before its value
abbrev pub name_text : List ℕ → List ℕ
name_text name = codes " " ++ name ++ codes "="

-- the positions that a case allows a switch, with its id; nothing if it allows all
abbrev pub switch_positions : List TestAnswer → ℕ → List ℕ → List ℕ
switch_positions case k id =
    if is_any_position case k then [] else name_text id ++ positions_text case k

-- the same of a switch of the bay
abbrev pub switch_text : List TestAnswer → ℕ → Option Switch → List ℕ
switch_text case k None = []
switch_text case k (Some switch) = switch_positions case k switch.id

-- the value that a case allows an input, with its name; nothing if it allows both
abbrev pub input_text : List TestAnswer → ℕ → List ℕ → List ℕ
input_text case k name =
    if input_may case k true && input_may case k false then []
    else name_text name ++ (if input_may case k true then codes "1" else codes "0")

-- a range of numbers
abbrev pub range_text : ℤ → ℤ → List ℕ
range_text low high =
    if int_eq low high then signed_decimal low
    else signed_decimal low ++ codes ".." ++ signed_decimal high

-- a range with its name; nothing if it is that of all numbers
abbrev pub range_measure : ℤ → ℤ → List ℕ → List ℕ
range_measure low high name =
    if int_eq low (negsuc 2147483647) && int_eq high (pos 2147483647) then []
    else name_text name ++ range_text low high

-- the range that a case allows a measured value, with its name
abbrev pub measure_text : List TestAnswer → ℕ → MeterField → List ℕ → List ℕ
measure_text case k field name = range_measure (low_of case k field) (high_of case k field) name

-- the positions of a switch are written at the point of its position
abbrev pub switch_point_text : Bay → List TestAnswer → ℕ → SwitchPoint → List ℕ
switch_point_text bay case k Position = switch_text case k (slice_get bay.switches k)
switch_point_text bay case k Open = []
switch_point_text bay case k Closed = []
switch_point_text bay case k EnableOpen = []
switch_point_text bay case k EnableClose = []

-- what a case allows the source of a point
abbrev pub source_text : Bay → List TestAnswer → List ℕ → Source → List ℕ
source_text bay case name (source.Switch k point) = switch_point_text bay case k point
source_text bay case name (source.Input k) = input_text case k name
source_text bay case name (source.Meter k field) = measure_text case k field name

-- what a case allows a point
abbrev pub point_text : Bay → List TestAnswer → Point → List ℕ
point_text bay case point = source_text bay case point.name point.source

-- what a case allows the points of a bay
abbrev pub case_text : Bay → List TestAnswer → List ℕ
case_text bay case = flat_map (point_text bay case) bay.points

-- ---- what a program retains

-- a name, or, if there is none, a word and the number
abbrev pub named_text : List ℕ → ℕ → Option (List ℕ) → List ℕ
named_text word k None = codes " " ++ (word ++ decimal k)
named_text word k (Some name) = codes " " ++ name

-- the name of a variable
abbrev pub variable_text : ProgramNames → ℕ → List ℕ
variable_text names k = named_text (codes "variable") k (slice_get names.variables k)

-- a slot is that of a point, or of a variable after the points
abbrev pub slot_name : ProgramNames → ℕ → Option ImagePoint → List ℕ
slot_name names k None = variable_text names (k - length names.points)
slot_name names k (Some point) = codes " " ++ point.name

-- the name of a slot
abbrev pub slot_text : ProgramNames → ℕ → List ℕ
slot_text names k = slot_name names k (slice_get names.points k)

-- the name of a timer
abbrev pub timer_text : ProgramNames → ℕ → List ℕ
timer_text names k = named_text (codes "timer") k (slice_get names.timers k)

-- what an answer depends on, after a word, if anything is known
abbrev pub dependencies_text : List ℕ → ProgramNames → StateDependencies → List ℕ
dependencies_text word names kept =
    if length kept.slots.items == 0 && length kept.timers.items == 0 then []
    else word ++ (flat_map (slot_text names) kept.slots.items
    ++ flat_map (timer_text names) kept.timers.items)

-- ---- answers

-- an operation, in words
abbrev pub operation_text : Operation → List ℕ
operation_text operations.Open = codes " open"
operation_text operations.Close = codes " close"

-- a word, the id of a switch and an operation
abbrev pub switch_operation_text : List ℕ → List ℕ → Operation → List ℕ
switch_operation_text word id operation = word ++ (id ++ operation_text operation)

-- the id of a switch; no octets without one
abbrev pub id_of : Option Switch → List ℕ
id_of None = []
id_of (Some switch) = switch.id

-- the switch and the operation of a rule
abbrev pub rule_operation_text : Bay → Rule → List ℕ
rule_operation_text bay rule =
    switch_operation_text (codes " ") (id_of (slice_get bay.switches rule.switch)) rule.operation

-- the beginning of a line: the line of a rule, its switch and its operation
abbrev pub rule_start_text : Bay → Rule → List ℕ
rule_start_text bay rule = codes "rule " ++ (decimal rule.line ++ rule_operation_text bay rule)

-- that a rule holds, with the number of cases
abbrev pub holds_text : ℕ → List ℕ
holds_text cases = codes " holds cases=" ++ decimal cases

-- the answer on a rule: that it holds, by which timer, in which case it is broken or open, or that
-- there are too many cases
abbrev pub verdict_text : Bay → ProgramNames → RuleAnswer → List ℕ
verdict_text bay names (answer.Holds cases) = holds_text cases
verdict_text bay names (answer.Broken case) = codes " broken" ++ case_text bay case
verdict_text bay names (answer.Open case kept) =
    codes " open" ++ (case_text bay case ++ dependencies_text (codes " by") names kept)
verdict_text bay names (answer.Since n cases) =
    holds_text cases ++ (codes " by" ++ timer_text names n)
verdict_text bay names answer.TooMany = codes " many"

-- the line of a rule with its answer
abbrev pub answer_text : Bay → ProgramNames → Rule × RuleAnswer → List ℕ
answer_text bay names pair =
    rule_start_text bay pair.0 ++ (verdict_text bay names pair.1 ++ codes "\n")

-- the lines of rules with their answers
abbrev pub answers_text : Bay → ProgramNames → List (Rule × RuleAnswer) → List ℕ
answers_text bay names pairs = flat_map (answer_text bay names) pairs

-- a rule holds
abbrev pub is_passed : RuleAnswer → Bool
is_passed (answer.Holds cases) = true
is_passed (answer.Broken case) = false
is_passed (answer.Open case kept) = false
is_passed answer.TooMany = false
is_passed (answer.Since n cases) = true

-- ---- releases

-- a case in which a switch is released, in which it is not, or in which that depends on what the
-- program retains
abbrev pub case_release_text : Bay → ProgramNames → List TestAnswer → CaseRelease → List ℕ
case_release_text bay names case release.Released = codes "released" ++ case_text bay case
case_release_text bay names case release.Refused = codes "blocked" ++ case_text bay case
case_release_text bay names case (release.Depends kept) =
    codes "depends" ++ case_text bay case ++ dependencies_text (codes " on") names kept

-- the line of a case in which a switch is released
abbrev pub reported_case_text : Bay → ProgramNames → ReportedCase → List ℕ
reported_case_text bay names c = case_release_text bay names c.case c.release ++ codes "\n"

-- how many cases there are, and the line of each
abbrev pub cases_text : Bay → ProgramNames → List ReportedCase → List ℕ
cases_text bay names cases =
    codes " cases=" ++ decimal (length cases) ++ codes "\n"
    ++ flat_map (reported_case_text bay names) cases

-- the cases of a release, or that there are too many
abbrev pub release_cases_text : Bay → ProgramNames → Release → List ℕ
release_cases_text bay names r =
    if length r.left.items == 0 then cases_text bay names r.cases.items else codes " many\n"

-- the lines of a release
abbrev pub release_lines : Bay → ProgramNames → List ℕ → Release → List ℕ
release_lines bay names id r =
    switch_operation_text (codes "release ") id r.operation ++ release_cases_text bay names r

-- the lines of a release of a switch that the bay has
abbrev pub switch_release : Bay → ProgramNames → Release → Option Switch → List ℕ
switch_release bay names r None = []
switch_release bay names r (Some switch) = release_lines bay names switch.id r

-- the lines of a release; none if the bay does not have the switch
abbrev pub release_text : Bay → ProgramNames → Release → List ℕ
release_text bay names r = switch_release bay names r (slice_get bay.switches r.switch)

-- ---- the process is lost

-- a release while the process is lost or by the first scan, followed by what it depends on
abbrev pub lost_release_text : ProgramNames → CaseRelease → List ℕ
lost_release_text names release.Released = codes " released"
lost_release_text names release.Refused = codes " blocked"
lost_release_text names (release.Depends kept) =
    codes " depends" ++ dependencies_text (codes " on") names kept

-- the line of a release while the process is lost
abbrev pub lost_line : ProgramNames → List ℕ → Release → List ℕ
lost_line names id r =
    switch_operation_text (codes "lost ") id r.operation
    ++ (lost_release_text names r.lost ++ codes "\n")

-- the line of a release of a switch that the bay has
abbrev pub switch_lost : ProgramNames → Release → Option Switch → List ℕ
switch_lost names r None = []
switch_lost names r (Some switch) = lost_line names switch.id r

-- the line of a release while the process is lost; none if the bay does not have the switch
abbrev pub lost_text : Bay → ProgramNames → Release → List ℕ
lost_text bay names r = switch_lost names r (slice_get bay.switches r.switch)

-- ---- the first scan

-- the line of a release by the first scan
abbrev pub start_line : ProgramNames → List ℕ → Release → List ℕ
start_line names id r =
    switch_operation_text (codes "start ") id r.operation
    ++ (lost_release_text names r.start ++ codes "\n")

-- the line of a release by the first scan, of a switch that the bay has
abbrev pub switch_start : ProgramNames → Release → Option Switch → List ℕ
switch_start names r None = []
switch_start names r (Some switch) = start_line names switch.id r

-- the line of a release by the first scan; none if the bay does not have the switch
abbrev pub start_text : Bay → ProgramNames → Release → List ℕ
start_text bay names r = switch_start names r (slice_get bay.switches r.switch)

-- the lines of all releases while the process is lost, followed by those of all by the first scan
abbrev pub states_text : Bay → ProgramNames → List Release → List ℕ
states_text bay names releases =
    flat_map (lost_text bay names) releases ++ flat_map (start_text bay names) releases

-- the lines of all releases, followed by those of the releases while the process is lost and by the
-- first scan
abbrev pub releases_text : Bay → ProgramNames → List Release → List ℕ
releases_text bay names releases =
    flat_map (release_text bay names) releases ++ states_text bay names releases

-- ---- rules that are refused

-- the line of rules that are refused, with a number and a line
abbrev pub refused_text : ℕ → ℕ → List ℕ
refused_text code line =
    codes "rules refused " ++ (decimal code ++ (codes " line " ++ (decimal line ++ codes "\n")))

-- the line of a fault; out of memory has none
abbrev pub numbered_text : Option ℕ → ℕ → List ℕ
numbered_text None line = []
numbered_text (Some code) line = refused_text code line

-- the line of rules that are refused for a fault
abbrev pub refusal_text : RuleFault → List ℕ
refusal_text fault = numbered_text (code_of fault) (line_of fault)

-- ---- the log

-- the log line of rules that are refused
abbrev pub numbered_log : Option ℕ → ℕ → List ℕ → Option (List ℕ)
numbered_log None line words = None
numbered_log (Some code) line words =
    Some (codes "bayctl: rules refused " ++ (decimal code
    ++ (codes " line " ++ (decimal line ++ (codes ": " ++ (words ++ codes "\n"))))))

-- the log line of rules that are refused for a fault
abbrev pub refused_log : RuleFault → Option (List ℕ)
refused_log fault = numbered_log (code_of fault) (line_of fault) (words_of fault)
