-- A supervised process lives as each turn begins that tells a command.
use Rattle.std.proofs.Common.{◌≡◌, ◌≢◌, ◌≤◌, ◌⊎◌, ℕ, zero, suc, true, false, List, [], ◌∷◌, Option, None, Some, Result, Ok, Err, inl, inr, refl, ap, sym, subst, ◌∙◌, arith}
use Rattle.std.specs.List.{Contains}
use Rattle.bay_device.specs.Device.{State}
use Rattle.bay_device.specs.Fresh.{PastEvent}
use Rattle.bay_device.proofs.SameLemmas.{Parts}
use Rattle.bay_io.specs.Calls.{WriteCall}
use Rattle.bay_io.specs.Watched.{WriterState}
use Rattle.bay_io.specs.declared.outbox.WriteFault.{WriteFault}
use Rattle.bay_process_port.specs.Ports.{PortData, PortReading, lost_reading, empty_reading, presence_reading, port_reading}
use Rattle.bay_process_port.specs.Polling.{Script, poll_outcome}
use Rattle.bay_process_port.specs.Supervision.{IsLive}
use Rattle.bay_process_port.specs.ProcessOutput.{ReportedTurn, reported_turn}
use Rattle.bay_process_port.specs.Supervised.{SupervisionSettings, WatchData, settings_in}
use Rattle.bay_process_port.specs.declared.port.Presence.{Presence}
use Rattle.bay_process_port.specs.declared.port.Presence.TheVariants.{Absent, LossPending, Dismissed, Present}
use Rattle.bay_process_port.proofs.WatchLemmas.{IsKnown, Took, TookLoss, attended-owes, stays-known, took, took-owes}
use Rattle.bay_mms_services.specs.declared.answer.Command.{Command}
use Rattle.bay_server_turn.specs.Calls.{Call}
use Rattle.bay_server_turn.specs.Served.{report_in}
use Rattle.bay_server_turn.specs.Turns.{ServerData}
use Rattle.bay_server_turn_laws.specs.Events.{ChosenEvent, turn_events}
use Rattle.bay_server_turn_laws.specs.Flows.{IsTidy}
use Rattle.bay_server_turn_laws.proofs.PartLemmas.{Part-turn}
use Rattle.bay_server_turn_laws.proofs.ReadingLemmas.{few-read}
use Rattle.bay_server.specs.Clock.{jump_of}
use Rattle.bay_server.specs.Host.{HostCall}
use Rattle.bay_server.specs.ServeReport.{AfterTurn, AwaitsNext, ChosenInput, ProcessData, PollsProcess, ServiceState, ServesTurns, TurnServed, chosen_input, choose_input, input_from_port, moment_of, skips_after, skips_reads_of}
use Rattle.bay_server.specs.declared.clock.Clocks.{Clocks}
use Rattle.cmd_serve.specs.Live.{CommandsLive, HoldsLater, IsSupervised, IsLiveProcess}
use Rattle.cmd_serve.specs.Requests.{IsRequested}
use Rattle.cmd_serve.specs.Service.{DoneTurn, IsBegun, IsTurn, server_after, past_after, turn_in}
use Rattle.cmd_serve.proofs.BeginLemmas.{begun-tidy}
use Rattle.cmd_serve.proofs.FrontLemmas.{not-told, same-events, turn-ends-lost}
use Rattle.cmd_serve.proofs.HistoryLemmas.{Stands, stands-events, stands-first}
use Rattle.cmd_serve.proofs.OrderLemmas.{ordered, stays-tidy}
use Rattle.cmd_serve.proofs.TurnLemmas.{is-turn, paused-held, turned-to}

-- ---- a turn with a command

-- as such a turn begins the process is not lost, and the turn is not told that it is
pub record Heeds (h : ServerData) (t : DoneTurn) : Type 0 where
  pub heard : h.device.is_lost ≡ false
  pub not_told : t.given.is_lost ≡ false

-- a turn with a command that a client requested is such a turn
pub heeds : (first : State) (h : ServerData) (t : DoneTurn) (past : List PastEvent) (command : Command)
    → IsTurn h t → IsRequested first h t past command → Heeds h t
heeds first h t past command is o = record {
  heard =
      sym (ap (λ (p : Parts). p.lost)
      (same-events t.now o.heard.front h.device o.heard.first)) ∙ o.allowed.heard;
  not_told =
      not-told t.now t.given t.script h o.heard.front o.heard.choice o.heard.association
      o.heard.octets o.heard.back (few-read t.given _ is.all_read) is.all_offered o.heard.is
      o.heard.first;
}

pub some-command : (commands : List Command) → commands ≢ []
    → (command : Command) × Contains commands command
some-command [] some = absurd (some refl)
some-command (command ∷ more) some = (command, (0, omega arith, refl))

-- ---- what holds between turns

-- It is supervised by these settings; and it is lost in the next turn, or is lost, or it is
-- connected and has introduced itself.
record Stands-by (settings : SupervisionSettings) (d : State) (p : PortData) : Type 0 where
  owes : settings_in p.watch ≡ Some settings
  state : (p.presence ≡ LossPending) ⊎ ((d.is_lost ≡ true) ⊎ IsKnown p)

record Keeps {L H : Type 0} (settings : SupervisionSettings) (b : ServiceState L H) : Type 0 where
  process : ProcessData L
  is : b.process ≡ Some process
  stands : Stands-by settings b.held.device process.port
  alone : b.lines ≡ []

begins : {L H : Type 0} (settings : SupervisionSettings) (b : ServiceState L H)
    → IsSupervised settings b
    → Keeps settings b
begins settings b s = record {
  process = _;
  is = s.is;
  stands = record { owes = refl; state = inl refl };
  alone = s.alone;
}

-- ---- a turn

watch-of : (settings : SupervisionSettings) (watch : Option WatchData)
    → settings_in watch ≡ Some settings
    → (w : WatchData) × (watch ≡ Some w) × (w.settings ≡ settings)
watch-of settings None owes = absurd cc
watch-of settings (Some w) owes = (w, refl, cc)

-- what a turn is given, from a port
record Gives (given : DoneTurn) (taken : PortReading) : Type 0 where
  lost : given.given.is_lost ≡ taken.is_lost
  event : given.given.event ≡ taken.event

module _ (settings : SupervisionSettings) (h : ServerData) (t : DoneTurn) (is : IsTurn h t)
    (jump : ℕ) (p : PortData)
    (before : Stands-by settings h.device p)
    (gives : Gives t (port_reading h.device t.now jump p)) where
  abbrev last : State
  last = (server_after t h).device

  abbrev left : PortData
  left = (port_reading h.device t.now jump p).port

  owes-left : settings_in left.watch ≡ Some settings
  owes-left = took-owes h.device t.now jump p ∙ before.owes

  -- where nothing happened, the process is lost after the turn if it was before, or the turn took
  -- that it is
  ends-lost : t.given.event ≡ None → (h.device.is_lost ≡ true) ⊎ (t.given.is_lost ≡ true)
      → last.is_lost ≡ true
  ends-lost none lost =
      ap (λ (d : State). d.is_lost) (Part-turn t.now t.given t.script h).device
      ∙ turn-ends-lost t.now t.given t.script h (few-read t.given _ is.all_read) is.all_offered is.in_time none lost

  module _ (reported : ReportedTurn) (script : Script) where
    abbrev behind : PortData
    behind = (poll_outcome reported last script left).port

    owes-after : settings_in behind.watch ≡ Some settings
    owes-after =
        let w = watch-of settings left.watch owes-left in
        attended-owes reported last script left w.0 w.1
        ∙ ap (λ (d : SupervisionSettings). let o : Option SupervisionSettings = Some d in o) w.2

    by-lost : last.is_lost ≡ true → Stands-by settings last behind
    by-lost lost = record { owes = owes-after; state = inr (inl lost) }

    -- a connected process that is still believed
    by-took : (w : WatchData) → p.presence ≡ Present → p.watch ≡ Some w
        → Took t.now jump w (port_reading h.device t.now jump p) → Stands-by settings last behind
    by-took w here watched k = by-known k.known
      where
        live : left.watch ≡ Some k.later → k.later.introduced ≡ true
            → Stands-by settings last behind
        live watched known =
            elim (stays-known reported last script left k.later k.here watched known) [
              | inl gone ↦ record { owes = owes-after; state = inl gone }
              | inr known ↦ record { owes = owes-after; state = inr (inr known) }
            ]

        unknown : w.introduced ≡ false → t.given.event ≡ None → Stands-by settings last behind
        unknown new none = elim before.state [
          | inl gone ↦ absurd (let no : LossPending ≡ Present = sym gone ∙ here in cc)
          | inr (inl lost) ↦ by-lost (ends-lost none (inl lost))
          | inr (inr alive) ↦
              absurd (let both : Some w ≡ Some alive.watch = sym watched ∙ alive.watched in
              let same : w ≡ alive.watch = cc in
              let no : false ≡ true =
              sym new ∙ ap (λ (x : WatchData). x.introduced) same ∙ alive.introduced in cc)
        ]

        by-known : (k.later.introduced ≡ true)
            ⊎ ((w.introduced ≡ false) × ((port_reading h.device t.now jump p).event ≡ None))
            → Stands-by settings last behind
        by-known (inl known) = live k.watched known
        by-known (inr new) = unknown new.0 (gives.event ∙ new.1)

    -- a turn that took no event, of a process that was lost or is not connected
    by-nothing : (presence : Presence) → p.presence ≡ presence
        → port_reading h.device t.now jump p ≡ empty_reading p
        → (LossPending ≡ presence → ⊥) → (Present ≡ presence → ⊥) → Stands-by settings last behind
    by-nothing presence at taken no-leaving no-here = elim before.state [
      | inl gone ↦ absurd (no-leaving (sym gone ∙ at))
      | inr (inl lost) ↦
          by-lost (ends-lost (gives.event ∙ ap (λ (x : PortReading). x.event) taken) (inl lost))
      | inr (inr alive) ↦ absurd (no-here (sym alive.here ∙ at))
    ]

    by-standing : (presence : Presence) → p.presence ≡ presence → Stands-by settings last behind
    by-standing Absent at =
        by-nothing Absent at (ap (λ presence. presence_reading presence h.device t.now jump p) at)
        (λ no. let e : LossPending ≡ Absent = no in cc) (λ no. let e : Present ≡ Absent = no in cc)
    by-standing LossPending at =
        let taken : port_reading h.device t.now jump p ≡ lost_reading p =
        ap (λ presence. presence_reading presence h.device t.now jump p) at in
        by-lost (ends-lost (gives.event ∙ ap (λ (x : PortReading). x.event) taken)
        (inr (gives.lost ∙ ap (λ (x : PortReading). x.is_lost) taken)))
    by-standing (Dismissed why) at =
        by-nothing (Dismissed why) at
        (ap (λ presence. presence_reading presence h.device t.now jump p) at)
        (λ no. let e : LossPending ≡ Dismissed why = no in cc)
        (λ no. let e : Present ≡ Dismissed why = no in cc)
    by-standing Present at =
        let w = watch-of settings p.watch before.owes in
        elim (took h.device t.now jump p w.0 at w.1) [
          | inl loss ↦
              by-lost (ends-lost (gives.event ∙ loss.event) (inr (gives.lost ∙ loss.lost)))
          | inr k ↦ by-took w.0 at w.1 k
        ]

    stands-after : Stands-by settings last behind
    stands-after = by-standing p.presence refl

  -- the process is live in a turn that reports a command, and the clock has not jumped
  record LivesNow : Type 0 where
    live : IsLive t.now left
    no_jump : jump ≤ settings.limit

  lives-now : Heeds h t → LivesNow
  lives-now k = elim before.state [
    | inl gone ↦
        absurd (let taken : port_reading h.device t.now jump p ≡ lost_reading p =
        ap (λ presence. presence_reading presence h.device t.now jump p) gone in
        let no : true ≡ false =
        sym (ap (λ (x : PortReading). x.is_lost) taken) ∙ sym gives.lost ∙ k.not_told in cc)
    | inr (inl lost) ↦ absurd (let no : true ≡ false = sym lost ∙ k.heard in cc)
    | inr (inr alive) ↦ by-took-now alive
        (took h.device t.now jump p alive.watch alive.here alive.watched)
  ]
    where
      by-took-now : (alive : IsKnown p) → TookLoss (port_reading h.device t.now jump p)
          ⊎ Took t.now jump alive.watch (port_reading h.device t.now jump p) → LivesNow
      by-took-now alive (inl loss) =
          absurd (let no : true ≡ false = sym loss.lost ∙ sym gives.lost ∙ k.not_told in cc)
      by-took-now alive (inr m) =
          let w = watch-of settings left.watch owes-left in
          let both : Some m.later ≡ Some w.0 = sym m.watched ∙ w.1 in
          let same : m.later ≡ w.0 = cc in
          record {
            live = record {
              here = m.here;
              watch = m.later;
              watched = m.watched;
              introduced = by-known m.known;
              recent = m.recent;
            };
            no_jump =
                subst (λ (d : SupervisionSettings). jump ≤ d.limit)
                (ap (λ (x : WatchData). x.settings) same ∙ w.2) m.no_jump;
          }
        where
          by-known : (m.later.introduced ≡ true)
              ⊎ ((alive.watch.introduced ≡ false)
              × ((port_reading h.device t.now jump p).event ≡ None))
              → m.later.introduced ≡ true
          by-known (inl known) = known
          by-known (inr new) =
              absurd (let no : false ≡ true = sym new.0 ∙ alive.introduced in cc)

-- ---- all turns

later-live : (Ends Goes : Type 0) (reported : Result ℕ WriteFault)
    (rest : AfterTurn reported Ends Goes)
    (more : Goes → Type 0)
    → ((status : ℕ) → reported ≡ Ok status → (goes : Goes) → more goes)
    → HoldsLater Ends Goes reported rest more
later-live Ends Goes (Err fault) rest more each = tt
later-live Ends Goes (Ok status) goes more each = each status refl goes

module _ {L H W : Type 0} (step : L → Call → L → Type 0) (acts : H → HostCall L → H → Type 0)
    (contents : W → Option (List ℕ)) (asks : W → WriteCall → W → Type 0)
    (settings : SupervisionSettings) where
  -- with no line of a trace a turn is given what the port has
  port-chosen : (b : ServiceState L H) (k : Keeps settings b) (clocks : Clocks)
      → chosen_input clocks b
      ≡ input_from_port b.held.device (moment_of clocks b) (jump_of clocks b.clock) []
      (Some k.process)
  port-chosen b k clocks =
      let jump = jump_of clocks b.clock in
      ap (λ lines. choose_input b.held.device (moment_of clocks b) jump lines b.process) k.alone
      ∙ ap (λ process. choose_input b.held.device (moment_of clocks b) jump [] process) k.is

  module _ (before : ServiceState L H) (old : WriterState W) (after : ServiceState L H)
      (new : WriterState W)
      (answer : Result ℕ WriteFault)
      (goes : TurnServed step acts contents asks before old after new answer)
      (k : Keeps settings before) where
    abbrev t : DoneTurn
    t = turn_in step acts contents asks before old after new answer goes

    abbrev jump : ℕ
    jump = jump_of goes.clocks before.clock

    abbrev taken : PortReading
    taken = port_reading before.held.device t.now jump k.process.port

    gives-port : Gives t taken
    gives-port = record {
      lost =
          ap (λ (c : ChosenInput L). (report_in c.next.given).is_lost)
          (port-chosen before k goes.clocks);
      event =
          ap (λ (c : ChosenInput L). (report_in c.next.given).event)
          (port-chosen before k goes.clocks);
    }

    lives : Heeds before.held t
        → IsLiveProcess settings t.now (chosen_input goes.clocks before).process
        × (jump ≤ settings.limit)
    lives heeds =
        let is = is-turn step acts contents asks before old after new answer goes in
        let now =
        lives-now settings before.held t is jump k.process.port k.stands gives-port heeds in (
          subst (λ (c : ChosenInput L). IsLiveProcess settings t.now c.process)
              (sym (port-chosen before k goes.clocks)) (
                now.live,
                owes-left settings before.held t is jump k.process.port k.stands
                    gives-port,
              ),
          now.no_jump,
        )

    -- the process was attended to
    by-process : (process : Option (ProcessData L)) → after.process ≡ process
        → PollsProcess step contents asks t.now goes.turn after.held.device
        (Some (record {
          link = k.process.link;
          port = taken.port;
          skips_left = skips_after (skips_reads_of k.process) k.process.skips_left;
        })) process goes.reports.between goes.reported answer
        → Keeps settings after
    by-process None is polls = absurd polls
    by-process (Some process) is polls = record {
      process = process;
      is = is;
      stands =
          subst (Stands-by settings after.held.device) (sym polls.attends.port)
          (subst (λ d. Stands-by settings d
          (poll_outcome (reported_turn t.now goes.turn after.held.device)
          d polls.attends.script taken.port).port)
          (sym (ap (λ (h : ServerData). h.device) goes.serves.server))
          (stands-after settings before.held t (is-turn step acts contents asks before old after new
          answer goes) jump k.process.port k.stands gives-port
          (reported_turn t.now goes.turn after.held.device) polls.attends.script));
      alone = goes.lines ∙ ap (λ (c : ChosenInput L). c.lines) (port-chosen before k goes.clocks);
    }

    keeps-after : (status : ℕ) → answer ≡ Ok status → Keeps settings after
    keeps-after status ok = by-outcome goes.reports.outcome goes.reports.polls
      where
        by-outcome : (r : Result ℕ WriteFault)
            → AfterTurn r
            ((after.process ≡ (chosen_input goes.clocks before).process)
            × (goes.reported ≡ goes.reports.between) × (answer ≡ r))
            (PollsProcess step contents asks t.now goes.turn after.held.device
            (chosen_input goes.clocks before).process after.process goes.reports.between
            goes.reported
            answer)
            → Keeps settings after
        by-outcome (Err fault) ends =
            let reported : answer ≡ Err fault = ends.2 in
            absurd (let no : ◌≡◌ {A = Result ℕ WriteFault} (Ok status) (Err fault) =
            sym ok ∙ reported in cc)
        by-outcome (Ok reported) polls =
            by-process after.process refl
            (subst (λ (c : ChosenInput L). PollsProcess step contents asks t.now goes.turn
            after.held.device
            c.process after.process goes.reports.between goes.reported answer)
            (port-chosen before k goes.clocks)
            polls)

  paused-keeps : (after next : ServiceState L H) → AwaitsNext acts after next
      → Keeps settings after → Keeps settings next
  paused-keeps after next awaits k =
      subst (Keeps settings) (sym awaits.1)
      (record { process = k.process; is = k.is; stands = k.stands; alone = k.alone })

  live-turns : (first : State) (turns : ℕ) (before : ServiceState L H) (old : WriterState W)
      (host : H)
      (new : WriterState W) (answer : Result ℕ WriteFault)
      (serves : ServesTurns step acts contents asks turns before old host new answer)
      (past : List PastEvent) → Keeps settings before → IsTidy before.held
      → Stands first past before.held.device
      → CommandsLive step acts contents asks settings turns before old host new answer serves
  live-turns first zero before old host new answer serves past k tidy at = tt
  live-turns first (suc turns) before old host new answer (inl fails) past k tidy at = tt
  live-turns first (suc turns) before old host new answer (inr did) past k tidy at = (
    λ some.
        let c = some-command t.reported.commands some in
        lives before old did.0 did.1 did.2 did.3 k
        (heeds first before.held t past c.0 is
        (ordered first before.held t past c.0 is tidy at c.1)),
    later-live _ _ did.2 did.4 _ (λ status ok rest.
        let held : rest.0.held ≡ server_after t before.held =
        paused-held step acts contents asks did.0 rest.0 rest.1
        ∙ turned-to step acts contents asks before old did.0 did.1 did.2 did.3 in
        live-turns first turns rest.0 _ host new answer rest.2
        (past_after t.now events before.held.device past)
        (paused-keeps did.0 rest.0 rest.1
        (keeps-after before old did.0 did.1 did.2 did.3 k status ok))
        (subst IsTidy (sym held) (stays-tidy before.held t is tidy))
        (subst (λ (h : ServerData). Stands first (past_after t.now events before.held.device past)
        h.device) (sym held)
        (subst (Stands first (past_after t.now events before.held.device past))
        (sym (Part-turn t.now t.given t.script before.held).device)
        (stands-events first t.now events before.held.device past at)))),
  )
    where
      t : DoneTurn
      t = turn_in step acts contents asks before old did.0 did.1 did.2 did.3

      events : List ChosenEvent
      events = turn_events t.now t.given t.script before.held

      is : IsTurn before.held t
      is = is-turn step acts contents asks before old did.0 did.1 did.2 did.3

  -- so it is of a server as it was made
  pub commands-live : (turns : ℕ) (before : ServiceState L H) (old : WriterState W) (host : H)
      (new : WriterState W) (answer : Result ℕ WriteFault)
      (serves : ServesTurns step acts contents asks turns before old host new answer)
      → IsBegun before.held → IsSupervised settings before
      → CommandsLive step acts contents asks settings turns before old host new answer serves
  commands-live turns before old host new answer serves begun supervised =
      live-turns before.held.device turns before old host new answer serves []
      (begins settings before supervised) (begun-tidy before.held begun)
      (stands-first before.held.device begun.loaded)
