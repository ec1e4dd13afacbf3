-- What a turn prints is lines: of its commands, and others.
use Rattle.std.proofs.Common.{◌≡◌, ◌⊎◌, ◌<◌, ◌≤◌, ◌^◌, ℕ, suc, List, [], ◌∷◌, ◌++◌, codes, slice_get, Option, Some, None, Result, Ok, Err, inl, inr, refl, ap, sym, subst, ◌∙◌, arith}
use Rattle.std.specs.Fmt.{decimal}
use Rattle.std.specs.List.{Contains}
use Rattle.bay_nodes.specs.declared.switch.Switch.{Switch}
use Rattle.bay_mms_services.specs.declared.answer.Command.{Command}
use Rattle.bay_device.specs.Device.{State}
use Rattle.bay_device.specs.Fresh.{PastEvent}
use Rattle.bay_device.specs.Load.{LoadsDevice}
use Rattle.bay_device.specs.Outcomes.{last_moment}
use Rattle.bay_device.specs.declared.event.Step.{Step}
use Rattle.bay_device.specs.declared.event.Why.TheVariants.{Fault, Memory}
use Rattle.bay_device.specs.declared.fault.StepFault.{StepFault}
use Rattle.bay_device.specs.declared.fault.StepFault.TheVariants.{NoSuchPoint}
use Rattle.bay_process_port.specs.ProcessOutput.{refusal_text, process_turn_text}
use Rattle.bay_report.specs.Lines.{command_part, commands_text}
use Rattle.bay_load.specs.Loads.{LoadData, LoadsTo}
use Rattle.bay_load.proofs.LoadLemmas.{load-made}
use Rattle.bay_load.specs.declared.load.Form.{Form}
use Rattle.cmd_replay.proofs.HistoryLemmas.{past-fixed}
use Rattle.bay_replay_laws.specs.Printed.{PrintedCommand, printed_command}
use Rattle.bay_replay_laws.specs.ReadBack.{HaveIds}
use Rattle.bay_replay_laws.proofs.LineLemmas.{AreLines, decimal-free, each-line, free-append, map-lines, more-lines, no-lines, one-line}
use Rattle.bay_replay_laws.proofs.NameLemmas.{bay-named, name-plain}
use Rattle.bay_replay_laws.proofs.PrintLemmas.{IsLineOf, closed-lines, command-free, command-is, id-at}
use Rattle.bay_replay_laws.proofs.ReadLemmas.{IsOther, command-read, no-end, no-space, order_line, other-line}
use Rattle.bay_replay_laws.proofs.WholeLemmas.{refused-whole}
use Rattle.bay_server_turn.specs.Code.{code_of}
use Rattle.bay_server_turn.specs.Turns.{ServerData}
use Rattle.bay_server_turn.specs.declared.turn_report.CloseReason.{CloseReason}
use Rattle.bay_server_turn.specs.declared.turn_report.Turn.{Turn}
use Rattle.bay_server_turn_laws.specs.Events.{ChosenEvent, turn_events}
use Rattle.bay_server_turn_laws.proofs.PartLemmas.{Part-turn}
use Rattle.bay_server.specs.TurnLines.{closings_text, memory_closings_text, turn_text}
use Rattle.cmd_serve.specs.Requests.{AreRequested, IsRequested}
use Rattle.cmd_serve.specs.Texts.{ArePrinted, IsPrintedFor, IsTurnLine}
use Rattle.cmd_serve.specs.Service.{AreTurns, DoneTurn, IsBegun, server_after, past_after}
use Rattle.cmd_serve.proofs.BeginLemmas.{ordered-from}
use Rattle.cmd_serve.proofs.HistoryLemmas.{Stands, stands-events, stands-first}
use Rattle.cmd_serve.proofs.OrderLemmas.{ordered-on-time}

-- ---- the lines of a turn

-- A line is that of one of these commands.
record IsCommandLine (now : ℕ) (commands : List Command) (s : State) (line : List ℕ)
    : Type 0 where
  command : Command
  has : Contains commands command
  switch : Switch
  here : slice_get s.switches command.switch ≡ Some switch
  is : line ≡ order_line now switch.id command.operation

module _ (now : ℕ) (commands : List Command) (s : State) (ids : HaveIds s.switches) where
  abbrev Is : List ℕ → Type 0
  Is line = IsCommandLine now commands s line ⊎ IsOther line

  command-lines : (command : Command) (o : Option Switch)
      → slice_get s.switches command.switch ≡ o → Contains commands command
      → AreLines Is (command_part now command.operation o)
  command-lines command None here has = no-lines
  command-lines command (Some switch) here has =
      subst (AreLines Is) (sym (command-is now switch.id command.operation))
      (one-line (order_line now switch.id command.operation)
      (command-free now switch.id command.operation
      (name-plain 16 switch.id (id-at s.switches command.switch switch ids here)))
      (inl (record { command = command; has = has; switch = switch; here = here; is = refl })))

  commands-lines : (cs : List Command)
      → ((command : Command) → Contains cs command → Contains commands command)
      → AreLines Is (commands_text now s cs)
  commands-lines [] has = no-lines
  commands-lines (command ∷ more) has =
      more-lines
      (command-lines command (slice_get s.switches command.switch) refl
      (has command (0, omega arith, refl)))
      (commands-lines more (λ x at. has x (suc at.0, omega (arith, at.1), at.2)))

  -- an answer without scan and command
  abbrev none : Result Step StepFault
  none = Err NoSuchPoint

  other-only : (line : List ℕ) → IsLineOf now none s line → Is line
  other-only line (inl scan) =
      absurd (let no : ◌≡◌ {A = Option ℕ} None (Some scan.steps) = scan.reported in cc)
  other-only line (inr (inl command)) =
      absurd (let no : none ≡ Ok command.step = command.done in cc)
  other-only line (inr (inr other)) = inr other

  closings-lines : (closed : List (ℕ × CloseReason)) → AreLines Is (closings_text now closed)
  closings-lines [] = no-lines
  closings-lines (c ∷ more) =
      more-lines
      (map-lines other-only (closed-lines now none s ids (Some (c.0, Fault (code_of c.1)))))
      (closings-lines more)

  memories-lines : (memory : List ℕ) → AreLines Is (memory_closings_text now memory)
  memories-lines [] = no-lines
  memories-lines (a ∷ more) =
      more-lines (map-lines other-only (closed-lines now none s ids (Some (a, Memory))))
      (memories-lines more)

  refusal-lines : (refused : Option ℕ) → AreLines Is (refusal_text now refused)
  refusal-lines None = no-lines
  refusal-lines (Some code) =
      subst (AreLines Is) (sym (refused-whole (decimal now) (decimal code)))
      (one-line (decimal now ++ 32 ∷ (codes "refused" ++ 32 ∷ decimal code))
      (free-append 10 (decimal now) (32 ∷ (codes "refused" ++ 32 ∷ decimal code))
      (decimal-free 10 now no-end) (decimal-free 10 code no-end))
      (inr (other-line (decimal now) (codes "refused") (decimal code)
      (decimal-free 32 now no-space) refl refl refl)))

told-lines : (now : ℕ) (turn : Turn) (s : State) (ids : HaveIds s.switches)
    → AreLines (Is now turn.commands s ids) (process_turn_text now turn s)
told-lines now turn s ids =
    more-lines (refusal-lines now turn.commands s ids turn.refused)
    (commands-lines now turn.commands s ids turn.commands (λ x at. at))

turn-lines : (now : ℕ) (turn : Turn) (s : State) (ids : HaveIds s.switches)
    → AreLines (Is now turn.commands s ids) (turn_text now turn s)
turn-lines now turn s ids =
    more-lines
    (more-lines (told-lines now turn s ids) (closings-lines now turn.commands s ids turn.closed))
    (memories-lines now turn.commands s ids turn.memory)

-- A line that reads as a command is that of one.
read-line : (t : DoneTurn) (s : State) → HaveIds s.switches → (line : List ℕ)
    (printed : PrintedCommand) → IsTurnLine t s line → printed_command line ≡ Some printed
    → IsCommandLine t.now t.reported.commands s line
read-line t s ids line printed has reads = elim has [
  | inl out ↦ by-kind (each-line (turn-lines t.now t.reported s ids) no line out)
  | inr reported ↦ by-kind (each-line (told-lines t.now t.reported s ids) no line reported)
]
  where
    no : Is t.now t.reported.commands s ids []
    no = inr (record { no_scan = refl; no_command = refl })

    by-kind : IsCommandLine t.now t.reported.commands s line ⊎ IsOther line
        → IsCommandLine t.now t.reported.commands s line
    by-kind (inl command) = command
    by-kind (inr other) =
        absurd (let no : ◌≡◌ {A = Option PrintedCommand} None (Some printed) =
        sym other.no_command ∙ reads in cc)

-- ---- the turns of a service

module _ (first : State) (ids : HaveIds first.switches) where
  switches-stay : (past : List PastEvent) (s : State) → Stands first past s
      → s.switches ≡ first.switches
  switches-stay past s at =
      ap (λ (d : State). d.switches) (sym at.last) ∙ (past-fixed first past at.steps).switches

  printed-for : (h : ServerData) (t : DoneTurn) (past : List PastEvent)
      → (server_after t h).device.switches ≡ first.switches
      → ((command : Command) → Contains t.reported.commands command
      → IsRequested first h t past command)
      → (line : List ℕ) (printed : PrintedCommand)
      → IsTurnLine t (server_after t h).device line → printed_command line ≡ Some printed
      → IsPrintedFor first h t past printed
  printed-for h t past same orders line printed has reads =
      let s : State = (server_after t h).device in
      let named : HaveIds s.switches = subst HaveIds (sym same) ids in
      let c : IsCommandLine t.now t.reported.commands s line =
      read-line t s named line printed has reads in
      let order : IsRequested first h t past c.command = orders c.command c.has in
      let within : t.now ≤ last_moment = ordered-on-time first h t past c.command order in
      let small : t.now < 2 ^ 64 = omega arith in
      let is : ◌≡◌ {A = Option PrintedCommand}
      (Some (record { moment = t.now; id = c.switch.id; operation = c.command.operation }))
      (Some printed) =
      sym (command-read t.now c.switch.id c.command.operation small
      (name-plain 16 c.switch.id (id-at s.switches c.command.switch c.switch named c.here)))
      ∙ sym (ap printed_command c.is) ∙ reads in
      let same_line : (let p : PrintedCommand =
      record { moment = t.now; id = c.switch.id; operation = c.command.operation } in p) ≡ printed =
      cc in
      record {
        command = c.command;
        reported = c.has;
        moment = sym (ap (λ (p : PrintedCommand). p.moment) same_line);
        switch = c.switch;
        here = ap (λ ss. slice_get ss c.command.switch) (sym same) ∙ c.here;
        named = sym (ap (λ (p : PrintedCommand). p.id) same_line);
        operation = sym (ap (λ (p : PrintedCommand). p.operation) same_line);
        ordered = order;
      }

  all-printed : (h : ServerData) (past : List PastEvent) (ts : List DoneTurn)
      → Stands first past h.device
      → AreRequested first h past ts → ArePrinted first h past ts
  all-printed h past [] at orders = tt
  all-printed h past (t ∷ ts) at orders =
      let events : List ChosenEvent = turn_events t.now t.given t.script h in
      let whole = Part-turn t.now t.given t.script h in
      let behind : List PastEvent = past_after t.now events h.device past in
      let next : Stands first behind (server_after t h).device =
      subst (Stands first behind) (sym whole.device)
      (stands-events first t.now events h.device past at) in (
        printed-for h t past (switches-stay behind (server_after t h).device next) orders.0,
        all-printed (server_after t h) behind ts next orders.1,
      )

pub printed-from : (begun : ServerData) (turns : List DoneTurn) → IsBegun begun
    → HaveIds begun.device.switches → AreTurns begun turns
    → ArePrinted begun.device begun [] turns
printed-from begun turns is ids are =
    all-printed begun.device ids begun [] turns (stands-first begun.device is.loaded)
    (ordered-from begun turns is are)

-- ---- the ids of a device that was loaded

pub loaded-named : (bay : List ℕ) (form : Form) (program : List ℕ) (l : LoadData)
    → LoadsTo bay form program (Ok l) → HaveIds l.bay.switches
loaded-named bay form program l loads =
    bay-named bay l.bay (load-made bay form program l loads).read

pub device-named : (bay : List ℕ) (form : Form) (program : List ℕ) (device : State)
    → LoadsDevice bay form program device → HaveIds device.switches
device-named bay form program device is =
    subst (λ (d : State). HaveIds d.switches) (sym is.2)
    (loaded-named bay form program is.0 is.1)
