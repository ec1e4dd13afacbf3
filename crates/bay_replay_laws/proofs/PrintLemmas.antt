-- What is printed for an event is lines: of a scan, of commands, and others.
use Rattle.std.proofs.Common.{◌≡◌, ℕ, ◌+◌, true, List, [], ◌∷◌, ◌++◌, codes, slice_get, zero, suc, Option, Some, None, Result, Ok, Err, ◌⊎◌, inl, inr, refl, ap, sym, subst, ◌∙◌, arith}
use Rattle.std.specs.Fmt.{decimal}
use Rattle.std.specs.List.{Contains}
use Rattle.hex.specs.Hex.{encode_lower}
use Rattle.bay_config.specs.Key.{is_identifier}
use Rattle.bay_base.specs.declared.switch.Operation.{Operation}
use Rattle.bay_base.specs.declared.switch.Operation.TheVariants as operations
use Rattle.bay_nodes.specs.declared.switch.Switch.{Switch}
use Rattle.bay_mms_services.specs.declared.answer.Command.{Command}
use Rattle.bay_device.specs.Code.{step_code_of}
use Rattle.bay_device.specs.Device.{State}
use Rattle.bay_device.specs.LookUps.{may_close, may_open, switches_text}
use Rattle.bay_device.specs.declared.event.Sent.{Sent}
use Rattle.bay_device.specs.declared.event.Step.{Step}
use Rattle.bay_device.specs.declared.event.Why.{Why}
use Rattle.bay_device.specs.declared.event.Why.TheVariants.{Ended, Fault, Memory}
use Rattle.bay_device.specs.declared.fault.StepFault.{StepFault}
use Rattle.bay_load.specs.declared.report.Report.{Report}
use Rattle.bay_report.specs.Report.{report_text}
use Rattle.bay_report.specs.Lines.{closed_text, closing_text, command_line, command_part, commands_text, accepted_text, ended_text, target_text, ran_text, refusal_line, scan_text, send_text, sends_text, step_text, why_text}
use Rattle.bay_process.specs.Releases.{digit_text}
use Rattle.bay_replay_laws.specs.Printed.{PrintedSwitch}
use Rattle.bay_replay_laws.specs.ReadBack.{HaveIds, switches_digits}
use Rattle.cmd_replay.proofs.KeptLemmas.{scan_told}
use Rattle.bay_replay_laws.proofs.LineLemmas.{AreLines, decimal-free, free, free-append, hex-free, more-lines, no-lines, one-line}
use Rattle.bay_replay_laws.proofs.NameLemmas.{name-plain}
use Rattle.bay_replay_laws.proofs.ReadLemmas.{AllPlain, IsOther, IsPlain, load_line, no-end, no-space, order_line, order_word, other-line, scan_line, told_text, word-free, word_of}
use Rattle.bay_replay_laws.proofs.WholeLemmas.{closed-whole, command-whole, load-whole, refused-whole, scan-whole, send-whole, word-whole}

-- ---- the lines of an answer

-- A line is that of the scan that the answer tells of.
pub record IsScanLine (now : ℕ) (answer : Result Step StepFault) (s : State) (line : List ℕ)
    : Type 0 where
  pub steps : ℕ
  pub reported : scan_told answer ≡ Some steps
  pub is : line ≡ scan_line now steps (switches_digits s 0 s.switches)

-- A line is that of one of its commands.
pub record IsCommandLine (now : ℕ) (answer : Result Step StepFault) (s : State) (line : List ℕ)
    : Type 0 where
  pub step : Step
  pub done : answer ≡ Ok step
  pub command : Command
  pub has : Contains step.commands command
  pub switch : Switch
  pub here : slice_get s.switches command.switch ≡ Some switch
  pub is : line ≡ order_line now switch.id command.operation

-- a line of an event: of its scan, of a command, or another
abbrev pub IsLineOf : ℕ → Result Step StepFault → State → List ℕ → Type 0
IsLineOf now answer s line =
    IsScanLine now answer s line ⊎ (IsCommandLine now answer s line ⊎ IsOther line)

-- ---- a load

pub load-is : (report : Report)
    → report_text report ≡ load_line report.instructions report.depth report.budget ++ 10 ∷ []
load-is report =
    load-whole (decimal report.instructions) (decimal report.depth) (decimal report.budget)

-- ---- a scan

told-is : (s : State) (k : ℕ) (switches : List Switch)
    → switches_text s k switches ≡ told_text (switches_digits s k switches)
told-is s k [] = refl
told-is s k (switch ∷ switches) =
    let p : PrintedSwitch =
    record { id = switch.id; opens = may_open s k; closes = may_close s k } in
    word-whole switch.id (digit_text (may_open s k) ++ digit_text (may_close s k))
    (switches_text s (k + 1) switches)
    ∙ ap (λ t. 32 ∷ (word_of p ++ t)) (told-is s (k + 1) switches)

pub scan-is : (now steps : ℕ) (s : State)
    → scan_text now steps s ≡ scan_line now steps (switches_digits s 0 s.switches) ++ 10 ∷ []
scan-is now steps s =
    ap (λ t. decimal now ++ codes " scan steps=" ++ decimal steps ++ t ++ codes "\n")
    (told-is s 0 s.switches)
    ∙ scan-whole (decimal now) (decimal steps) (told_text (switches_digits s 0 s.switches))

pub told-plain : (s : State) (k : ℕ) (switches : List Switch) → HaveIds switches
    → AllPlain (switches_digits s k switches)
told-plain s k [] ids = tt
told-plain s k (switch ∷ switches) ids =
    (name-plain 16 switch.id ids.0, told-plain s (k + 1) switches ids.1)

told-free : (ps : List PrintedSwitch) → AllPlain ps → free 10 (told_text ps) ≡ true
told-free [] all = refl
told-free (p ∷ ps) all =
    free-append 10 (word_of p) (told_text ps) (word-free 10 p all.0.no_end refl)
    (told-free ps all.1)

pub scan-free : (now steps : ℕ) (ps : List PrintedSwitch) → AllPlain ps
    → free 10 (scan_line now steps ps) ≡ true
scan-free now steps ps all =
    free-append 10 (decimal now)
    (32 ∷ (codes "scan" ++ 32 ∷ ((codes "steps=" ++ decimal steps) ++ told_text ps)))
    (decimal-free 10 now no-end)
    (free-append 10 (decimal steps) (told_text ps) (decimal-free 10 steps no-end)
    (told-free ps all))

-- ---- a command

order-is : (o : Operation) → target_text o ≡ 32 ∷ (order_word o ++ 10 ∷ [])
order-is operations.Open = refl
order-is operations.Close = refl

pub command-is : (now : ℕ) (id : List ℕ) (o : Operation)
    → command_line now id o ≡ order_line now id o ++ 10 ∷ []
command-is now id o =
    ap (λ t. decimal now ++ codes " command " ++ id ++ t) (order-is o)
    ∙ command-whole (decimal now) id (order_word o)

order-free : (o : Operation) → free 10 (order_word o) ≡ true
order-free operations.Open = refl
order-free operations.Close = refl

pub command-free : (now : ℕ) (id : List ℕ) (o : Operation) → IsPlain id
    → free 10 (order_line now id o) ≡ true
command-free now id o plain =
    free-append 10 (decimal now) (32 ∷ (codes "command" ++ 32 ∷ (id ++ 32 ∷ order_word o)))
    (decimal-free 10 now no-end)
    (free-append 10 id (32 ∷ order_word o) plain.no_end (order-free o))

pub id-at : (switches : List Switch) (k : ℕ) (switch : Switch) → HaveIds switches
    → slice_get switches k ≡ Some switch → is_identifier 16 switch.id ≡ true
id-at [] k switch ids here = absurd cc
id-at (x ∷ switches) zero switch ids here =
    let same : x ≡ switch = cc in subst (λ (y : Switch). is_identifier 16 y.id ≡ true) same ids.0
id-at (x ∷ switches) (suc k) switch ids here = id-at switches k switch ids.1 here

-- ---- what is printed for an answer

module _ {Is : List ℕ → Type 0} where
  -- a text that is one line
  whole-line : (text line : List ℕ) → text ≡ line ++ 10 ∷ [] → free 10 line ≡ true → Is line
      → AreLines Is text
  whole-line text line whole plain is = subst (AreLines Is) (sym whole) (one-line line plain is)

module _ (now : ℕ) (answer : Result Step StepFault) (s : State) (ids : HaveIds s.switches) where
  abbrev Is : List ℕ → Type 0
  Is line = IsLineOf now answer s line

  -- a line of others
  other-lines : (text verb rest : List ℕ)
      → text ≡ (decimal now ++ 32 ∷ (verb ++ 32 ∷ rest)) ++ 10 ∷ []
      → free 10 (32 ∷ (verb ++ 32 ∷ rest)) ≡ true
      → IsOther (decimal now ++ 32 ∷ (verb ++ 32 ∷ rest)) → AreLines Is text
  other-lines text verb rest whole plain other =
      whole-line text (decimal now ++ 32 ∷ (verb ++ 32 ∷ rest)) whole
      (free-append 10 (decimal now) (32 ∷ (verb ++ 32 ∷ rest)) (decimal-free 10 now no-end) plain)
      (inr (inr other))

  send-lines : (sent : Sent) → AreLines Is (send_text now sent)
  send-lines sent =
      let rest : List ℕ = decimal sent.association ++ 32 ∷ encode_lower sent.octets in
      other-lines (send_text now sent) (codes "send") rest
      (send-whole (decimal now) (decimal sent.association) (encode_lower sent.octets))
      (free-append 10 (decimal sent.association) (32 ∷ encode_lower sent.octets)
      (decimal-free 10 sent.association no-end) (hex-free 10 sent.octets refl))
      (other-line (decimal now) (codes "send") rest (decimal-free 32 now no-space) refl refl refl)

  pub sends-lines : (sent : List Sent) → AreLines Is (sends_text now sent)
  sends-lines [] = no-lines
  sends-lines (x ∷ sent) = more-lines (send-lines x) (sends-lines sent)

  pub ended-lines : (ended : Option Sent) → AreLines Is (ended_text now ended)
  ended-lines None = no-lines
  ended-lines (Some sent) = send-lines sent

  why-is : (why : Why) → (t : List ℕ) × (why_text why ≡ t ++ 10 ∷ []) × (free 10 t ≡ true)
  why-is Ended = (codes "0", refl, refl)
  why-is (Fault code) = (decimal code, refl, decimal-free 10 code no-end)
  why-is Memory = (codes "memory", refl, refl)

  closing-lines : (a : ℕ) (why : Why) → AreLines Is (closing_text now a why)
  closing-lines a why =
      let t = why-is why in
      let rest : List ℕ = decimal a ++ 32 ∷ t.0 in
      other-lines (closing_text now a why) (codes "closed") rest
      (ap (λ x. decimal now ++ codes " closed " ++ decimal a ++ codes " " ++ x) t.1
      ∙ closed-whole (decimal now) (decimal a) t.0)
      (free-append 10 (decimal a) (32 ∷ t.0) (decimal-free 10 a no-end) t.2)
      (other-line (decimal now) (codes "closed") rest (decimal-free 32 now no-space) refl refl refl)

  pub closed-lines : (closed : Option (ℕ × Why)) → AreLines Is (closed_text now closed)
  closed-lines None = no-lines
  closed-lines (Some closed) = closing-lines closed.0 closed.1

  refusal-lines : (code : ℕ) → AreLines Is (refusal_line now code)
  refusal-lines code =
      other-lines (refusal_line now code) (codes "refused") (decimal code)
      (refused-whole (decimal now) (decimal code)) (decimal-free 10 code no-end)
      (other-line (decimal now) (codes "refused") (decimal code) (decimal-free 32 now no-space) refl
      refl refl)

  pub ran-lines : (scan : Option ℕ) → scan_told answer ≡ scan → AreLines Is (ran_text now scan s)
  ran-lines None reported = no-lines
  ran-lines (Some steps) reported =
      let all = told-plain s 0 s.switches ids in
      whole-line (scan_text now steps s) (scan_line now steps (switches_digits s 0 s.switches))
      (scan-is now steps s) (scan-free now steps (switches_digits s 0 s.switches) all)
      (inl (record { steps = steps; reported = reported; is = refl }))

  module _ (step : Step) (done : answer ≡ Ok step) where
    command-lines : (command : Command) (o : Option Switch)
        → slice_get s.switches command.switch ≡ o → Contains step.commands command
        → AreLines Is (command_part now command.operation o)
    command-lines command None here has = no-lines
    command-lines command (Some switch) here has =
        whole-line (command_line now switch.id command.operation)
        (order_line now switch.id command.operation)
        (command-is now switch.id command.operation)
        (command-free now switch.id command.operation
        (name-plain 16 switch.id (id-at s.switches command.switch switch ids here)))
        (inr (inl (record {
          step = step;
          done = done;
          command = command;
          has = has;
          switch = switch;
          here = here;
          is = refl;
        })))

    pub commands-lines : (commands : List Command)
        → ((command : Command) → Contains commands command → Contains step.commands command)
        → AreLines Is (commands_text now s commands)
    commands-lines [] has = no-lines
    commands-lines (command ∷ more) has =
        more-lines
        (command-lines command (slice_get s.switches command.switch) refl
        (has command (0, omega arith, refl)))
        (commands-lines more (λ x at. has x (suc at.0, omega (arith, at.1), at.2)))

    done-lines : AreLines Is (accepted_text now step s)
    done-lines =
        more-lines (more-lines (more-lines (more-lines (ended-lines step.ended)
        (sends-lines step.sent)) (commands-lines step.commands (λ x at. at)))
        (ran-lines step.scan (ap scan_told done))) (closed-lines step.closed)

  by-answer : (r : Result Step StepFault) → answer ≡ r → AreLines Is (step_text now r s)
  by-answer (Err fault) is = refusal-lines (step_code_of fault)
  by-answer (Ok step) is = done-lines step is

  pub step-lines : AreLines Is (step_text now answer s)
  step-lines = by-answer answer refl
