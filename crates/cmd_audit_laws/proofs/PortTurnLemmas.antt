-- The turns of a service use the port of a supervised process, which is of the bay.
use Rattle.std.proofs.Common.{◌≡◌, ◌≢◌, ◌⊎◌, ◌∙◌, ℕ, zero, suc, Bool, true, false, List, [], Option, None, Some, Result, Ok, Err, inl, inr, refl, ap, sym, subst}
use Rattle.bay_device.specs.Device.{State}
use Rattle.bay_device.specs.Fresh.{PastEvent}
use Rattle.bay_io.specs.Calls.{WriteCall}
use Rattle.bay_io.specs.Watched.{WriterState}
use Rattle.bay_io.specs.declared.outbox.WriteFault.{WriteFault}
use Rattle.bay_process_port.specs.Polling.{Script, poll_outcome}
use Rattle.bay_process_port.specs.Ports.{PortData, PortReading, empty_port, lost_reading, port_reading, presence_reading}
use Rattle.bay_process_port.specs.ProcessOutput.{ReportedTurn, reported_turn}
use Rattle.bay_process_port.specs.Supervised.{SupervisionSettings, WatchData}
use Rattle.bay_process_port.specs.Supervision.{IsOfThisBay}
use Rattle.bay_process_port.specs.Uses.{Polls, Takes, Use}
use Rattle.bay_process_port.specs.declared.port.Presence.TheVariants.{LossPending, Present}
use Rattle.bay_process_port.proofs.SupervisionLemmas.{is-of-this-bay}
use Rattle.bay_process_port.proofs.WatchLemmas.{Took, attended-here, took}
use Rattle.bay_server_turn.specs.Calls.{Call}
use Rattle.bay_server_turn.specs.Served.{report_in}
use Rattle.bay_server_turn.specs.Turns.{ServerData}
use Rattle.bay_server_turn.specs.declared.process_input.ProcessEvent.{ProcessEvent}
use Rattle.bay_server_turn_laws.specs.Events.{ChosenEvent, turn_events}
use Rattle.bay_server_turn_laws.specs.Flows.{IsTidy}
use Rattle.bay_server_turn_laws.proofs.PartLemmas.{Part-turn}
use Rattle.bay_server_turn_laws.proofs.ReadingLemmas.{few-read}
use Rattle.bay_server.specs.Clock.{jump_of}
use Rattle.bay_server.specs.Host.{HostCall}
use Rattle.bay_server.specs.ServeReport.{AfterTurn, AwaitsNext, ChosenInput, PollsProcess, ProcessData, ServiceState, ServesTurns, TurnServed, chosen_input, choose_input, input_from_port, moment_of, skips_after, skips_reads_of}
use Rattle.bay_server.specs.declared.clock.Clocks.{Clocks}
use Rattle.cmd_serve.specs.Live.{HoldsLater, IsSupervised}
use Rattle.cmd_serve.specs.Service.{DoneTurn, IsBegun, IsTurn, server_after, past_after, turn_in}
use Rattle.cmd_serve.proofs.BeginLemmas.{begun-tidy}
use Rattle.cmd_serve.proofs.FrontLemmas.{turn-ends-lost}
use Rattle.cmd_serve.proofs.HistoryLemmas.{Stands, stands-events, stands-first}
use Rattle.cmd_serve.proofs.LiveLemmas.{Heeds, heeds, some-command}
use Rattle.cmd_serve.proofs.OrderLemmas.{ordered, stays-tidy}
use Rattle.cmd_serve.proofs.TurnLemmas.{is-turn, paused-held, turned-to}
use Rattle.cmd_audit_laws.specs.PortUses.{TurnFinds, TurnUses, TurnsUsePort, uses_after, uses_if, uses_of_turn}
use Rattle.cmd_audit_laws.proofs.NamesKeptLemmas.{SameNames, names-events}
use Rattle.cmd_audit_laws.proofs.PortUseLemmas.{Follows, event-here, follows-first, follows-use, named-more, watch-in}

-- ---- what holds between turns

module _ (sends : Bool) (settings : SupervisionSettings) (domain revision : List ℕ) where
  -- It is lost in the next turn, or is lost, or it is connected and of this bay.
  abbrev State_of : List Use → State → PortData → Type 0
  State_of uses d p =
      (p.presence ≡ LossPending) ⊎ ((d.is_lost ≡ true)
      ⊎ ((p.presence ≡ Present) × IsOfThisBay sends settings domain revision uses))

  record Stands-by (uses : List Use) (d : State) (p : PortData) : Type 0 where
    follows : Follows sends settings domain revision uses p
    state : State_of uses d p
    domain_is : d.domain ≡ domain
    revision_is : d.revision ≡ revision

  record Keeps {L H : Type 0} (uses : List Use) (b : ServiceState L H) : Type 0 where
    process : ProcessData L
    is : b.process ≡ Some process
    stands : Stands-by uses b.held.device process.port
    alone : b.lines ≡ []

  -- ---- a turn

  module _ (h : ServerData) (t : DoneTurn) (is : IsTurn h t) (jump : ℕ) (p : PortData)
      (uses : List Use) (before : Stands-by uses h.device p)
      (lost : t.given.is_lost ≡ (port_reading h.device t.now jump p).is_lost)
      (event : t.given.event ≡ (port_reading h.device t.now jump p).event) where
    abbrev taken : PortReading
    taken = port_reading h.device t.now jump p

    abbrev left : PortData
    left = taken.port

    abbrev takes : Use
    takes = Takes h.device t.now jump

    abbrev with_takes : List Use
    with_takes = uses_after takes p uses

    follows-left : Follows sends settings domain revision with_takes left
    follows-left =
        follows-use sends settings domain revision uses takes p before.follows
        (before.domain_is, before.revision_is, tt)

    -- a turn that is given an event of the process
    named-by-event : (e : ProcessEvent) → taken.event ≡ Some e
        → IsOfThisBay sends settings domain revision uses
    named-by-event e given =
        let used = before.follows.used (event-here h.device t.now jump p e given) in
        is-of-this-bay sends settings domain revision uses h.device t.now jump e used.stays used.bay
        (ap (λ (q : PortData). (port_reading h.device t.now jump q).event) (sym used.port) ∙ given)

    -- a turn that reports a command
    named-by-command : Heeds h t → IsOfThisBay sends settings domain revision uses
    named-by-command k = elim before.state [
      | inl gone ↦
          absurd (let whole : taken ≡ lost_reading p =
          ap (λ presence. presence_reading presence h.device t.now jump p) gone in
          let no : true ≡ false =
          sym (ap (λ (x : PortReading). x.is_lost) whole) ∙ sym lost ∙ k.not_told in cc)
      | inr (inl was) ↦ absurd (let no : true ≡ false = sym was ∙ k.heard in cc)
      | inr (inr named) ↦ named.1
    ]

    -- where nothing happened, the process is lost after the turn if it was before, or the turn took
    -- that it is
    ends-lost : taken.event ≡ None → (h.device.is_lost ≡ true) ⊎ (taken.is_lost ≡ true)
        → (server_after t h).device.is_lost ≡ true
    ends-lost none was =
        ap (λ (d : State). d.is_lost) (Part-turn t.now t.given t.script h).device
        ∙ turn-ends-lost t.now t.given t.script h (few-read t.given _ is.all_read) is.all_offered
        is.in_time (event ∙ none) (by-kind was)
      where
        by-kind : (h.device.is_lost ≡ true) ⊎ (taken.is_lost ≡ true)
            → (h.device.is_lost ≡ true) ⊎ (t.given.is_lost ≡ true)
        by-kind (inl was) = inl was
        by-kind (inr now) = inr (lost ∙ now)

    names-last : SameNames h.device (server_after t h).device
    names-last =
        subst (SameNames h.device) (sym (Part-turn t.now t.given t.script h).device)
        (names-events t.now (turn_events t.now t.given t.script h) h.device)

    -- after the turn the process is attended to
    module _ (d : State) (last : d ≡ (server_after t h).device) (reported : ReportedTurn)
        (script : Script) where
      abbrev polls : Use
      polls = Polls reported d script

      abbrev behind : PortData
      behind = (poll_outcome reported d script left).port

      abbrev with_polls : List Use
      with_polls = uses_after polls left with_takes

      by-lost : (server_after t h).device.is_lost ≡ true → State_of with_polls d behind
      by-lost is_lost = inr (inl (ap (λ (d : State). d.is_lost) last ∙ is_lost))

      -- a process of this bay stays one, while it is connected
      goes-on : IsOfThisBay sends settings domain revision uses → left.presence ≡ Present
          → State_of with_polls d behind
      goes-on named here =
          let w = watch-in settings left.watch follows-left.owes in
          elim (attended-here w.0 reported d script left here w.1) [
            | inl gone ↦ inl gone
            | inr still ↦ inr (inr (still, on still))
          ]
        where
          on : behind.presence ≡ Present → IsOfThisBay sends settings domain revision with_polls
          on still =
              subst (IsOfThisBay sends settings domain revision)
              (sym (ap (λ presence. uses_if presence polls with_takes) still))
              (named-more sends settings domain revision with_takes polls
              (subst (IsOfThisBay sends settings domain revision)
              (sym (ap (λ presence. uses_if presence takes uses) here))
              (named-more sends settings domain revision uses takes named)))

      -- of a connected process
      by-took : p.presence ≡ Present
          → (taken.event ≡ None → taken.is_lost ≡ false
          → IsOfThisBay sends settings domain revision uses)
          → State_of with_polls d behind
      by-took here named =
          let w = watch-in settings p.watch before.follows.owes in
          elim (took h.device t.now jump p w.0 here w.1) [
            | inl loss ↦ by-lost (ends-lost loss.event (inr loss.lost))
            | inr k ↦ by-event taken.event refl w.0 k
          ]
        where
          by-event : (o : Option ProcessEvent) → taken.event ≡ o → (w : WatchData)
              → Took t.now jump w taken → State_of with_polls d behind
          by-event None none w k = goes-on (named none k.not_lost) k.here
          by-event (Some e) given w k = goes-on (named-by-event e given) k.here

      state-after : State_of with_polls d behind
      state-after = by-event taken.event refl
        where
          none-here : taken.event ≡ None → State_of with_polls d behind
          none-here none = elim before.state [
            | inl gone ↦
                by-lost (let whole : taken ≡ lost_reading p =
                ap (λ presence. presence_reading presence h.device t.now jump p) gone in
                ends-lost none (inr (ap (λ (x : PortReading). x.is_lost) whole)))
            | inr (inl was) ↦ by-lost (ends-lost none (inl was))
            | inr (inr named) ↦ by-took named.0 (λ none not_lost. named.1)
          ]

          by-event : (o : Option ProcessEvent) → taken.event ≡ o → State_of with_polls d behind
          by-event None none = none-here none
          by-event (Some e) given =
              by-took (event-here h.device t.now jump p e given)
              (λ none not_lost. named-by-event e given)

      stands-after : Stands-by with_polls d behind
      stands-after = record {
        follows =
            follows-use sends settings domain revision with_takes polls left follows-left tt;
        state = state-after;
        domain_is =
            ap (λ (d : State). d.domain) last ∙ names-last.domain ∙ before.domain_is;
        revision_is =
            ap (λ (d : State). d.revision) last ∙ names-last.revision ∙ before.revision_is;
      }

  begins : {L H : Type 0} (b : ServiceState L H) (s : IsSupervised settings b) → s.sends ≡ sends
      → b.held.device.domain ≡ domain → b.held.device.revision ≡ revision → Keeps [] b
  begins b s is d r =
      record {
        process = record {
          link = s.link;
          port = empty_port sends (Some settings) LossPending;
          skips_left = 0;
        };
        is = subst (λ sends. b.process ≡ Some (record {
          link = s.link;
          port = empty_port sends (Some settings) LossPending;
          skips_left = 0;
        })) is s.is;
        stands = record {
          follows = follows-first sends settings domain revision;
          state = inl refl;
          domain_is = d;
          revision_is = r;
        };
        alone = s.alone;
      }

-- ---- all turns

later-so : (Ends Goes : Type 0) (reported : Result ℕ WriteFault)
    (rest : AfterTurn reported Ends Goes)
    (more : Goes → Type 0)
    → ((status : ℕ) → reported ≡ Ok status → (goes : Goes) → more goes)
    → HoldsLater Ends Goes reported rest more
later-so Ends Goes (Err fault) rest more each = tt
later-so Ends Goes (Ok status) goes more each = each status refl goes

module _ {L H W : Type 0} (step : L → Call → L → Type 0) (acts : H → HostCall L → H → Type 0)
    (contents : W → Option (List ℕ)) (asks : W → WriteCall → W → Type 0) (sends : Bool)
    (settings : SupervisionSettings) (domain revision : List ℕ) where
  abbrev KeepsAll : List Use → ServiceState L H → Type 0
  KeepsAll uses b = Keeps sends settings domain revision uses b

  -- with no line of a trace a turn is given what the port has
  port-chosen : (uses : List Use) (b : ServiceState L H) (k : KeepsAll uses b) (clocks : Clocks)
      → chosen_input clocks b
      ≡ input_from_port b.held.device (moment_of clocks b) (jump_of clocks b.clock) []
      (Some k.process)
  port-chosen uses b k clocks =
      let jump = jump_of clocks b.clock in
      ap (λ lines. choose_input b.held.device (moment_of clocks b) jump lines b.process) k.alone
      ∙ ap (λ process. choose_input b.held.device (moment_of clocks b) jump [] process) k.is

  module _ (uses : List Use) (before : ServiceState L H) (old : WriterState W)
      (after : ServiceState L H)
      (new : WriterState W)
      (answer : Result ℕ WriteFault)
      (goes : TurnServed step acts contents asks before old after new answer)
      (k : KeepsAll uses before) where
    abbrev t : DoneTurn
    t = turn_in step acts contents asks before old after new answer goes

    abbrev jump : ℕ
    jump = jump_of goes.clocks before.clock

    abbrev had : PortReading
    had = port_reading before.held.device t.now jump k.process.port

    gives-lost : t.given.is_lost ≡ had.is_lost
    gives-lost =
        ap (λ (c : ChosenInput L). (report_in c.next.given).is_lost)
        (port-chosen uses before k goes.clocks)

    gives-event : t.given.event ≡ had.event
    gives-event =
        ap (λ (c : ChosenInput L). (report_in c.next.given).event)
        (port-chosen uses before k goes.clocks)

    is-done : IsTurn before.held t
    is-done = is-turn step acts contents asks before old after new answer goes

    finds : (goes.turn.commands ≢ [] → Heeds before.held t)
        → TurnFinds sends settings domain revision uses goes.clocks goes.turn before
    finds heeds = record {
      domain_is = k.stands.domain_is;
      revision_is = k.stands.revision_is;
      process = k.process;
      is = k.is;
      used = k.stands.follows.used;
      event = λ e given.
          named-by-event sends settings domain revision before.held t is-done jump k.process.port
          uses k.stands gives-lost gives-event e (sym gives-event ∙ given);
      command = λ some.
          named-by-command sends settings domain revision before.held t is-done jump k.process.port
          uses k.stands gives-lost gives-event (heeds some);
    }

    -- the uses of the turn, and what holds after them
    record Goes-on : Type 0 where
      turn_uses : TurnUses step acts contents asks sends settings domain revision k.process
          goes.clocks goes.turn before after
      keeps : KeepsAll
          (uses_of_turn goes.clocks before goes.turn after turn_uses.script k.process.port uses)
          after

    by-process : (process : Option (ProcessData L)) → after.process ≡ process
        → PollsProcess step contents asks t.now goes.turn after.held.device
        (Some (record {
          link = k.process.link;
          port = had.port;
          skips_left = skips_after (skips_reads_of k.process) k.process.skips_left;
        })) process goes.reports.between goes.reported answer
        → Goes-on
    by-process None is polls = absurd polls
    by-process (Some process) is polls = record {
      turn_uses = record {
        script = polls.attends.script;
        next = process;
        is = is;
        makes = polls.attends.makes;
        port = polls.attends.port;
      };
      keeps = record {
        process = process;
        is = is;
        stands =
            subst (Stands-by sends settings domain revision
            (uses_of_turn goes.clocks before goes.turn after polls.attends.script k.process.port
            uses) after.held.device) (sym polls.attends.port)
            (stands-after sends settings domain revision before.held t is-done jump k.process.port
            uses k.stands gives-lost gives-event after.held.device
            (ap (λ (h : ServerData). h.device)
            (turned-to step acts contents asks before old after new answer goes))
            (reported_turn t.now goes.turn after.held.device) polls.attends.script);
        alone =
            goes.lines ∙ ap (λ (c : ChosenInput L). c.lines)
            (port-chosen uses before k goes.clocks);
      };
    }

    goes-on-after : (status : ℕ) → answer ≡ Ok status → Goes-on
    goes-on-after status ok = by-outcome goes.reports.outcome goes.reports.polls
      where
        by-outcome : (r : Result ℕ WriteFault)
            → AfterTurn r
            ((after.process ≡ (chosen_input goes.clocks before).process)
            × (goes.reported ≡ goes.reports.between) × (answer ≡ r))
            (PollsProcess step contents asks t.now goes.turn after.held.device
            (chosen_input goes.clocks before).process after.process goes.reports.between
            goes.reported
            answer)
            → Goes-on
        by-outcome (Err fault) ends =
            let reported : answer ≡ Err fault = ends.2 in
            absurd (let no : ◌≡◌ {A = Result ℕ WriteFault} (Ok status) (Err fault) =
            sym ok ∙ reported in cc)
        by-outcome (Ok reported) polls =
            by-process after.process refl
            (subst (λ (c : ChosenInput L). PollsProcess step contents asks t.now goes.turn
            after.held.device
            c.process after.process goes.reports.between goes.reported answer)
            (port-chosen uses before k goes.clocks)
            polls)

  paused-keeps : (uses : List Use) (after next : ServiceState L H) → AwaitsNext acts after next
      → KeepsAll uses after → KeepsAll uses next
  paused-keeps uses after next awaits k =
      subst (KeepsAll uses) (sym awaits.1)
      (record { process = k.process; is = k.is; stands = k.stands; alone = k.alone })

  using-turns : (first : State) (uses : List Use) (turns : ℕ) (before : ServiceState L H)
      (old : WriterState W)
      (host : H)
      (new : WriterState W) (answer : Result ℕ WriteFault)
      (serves : ServesTurns step acts contents asks turns before old host new answer)
      (past : List PastEvent) → KeepsAll uses before → IsTidy before.held
      → Stands first past before.held.device
      → TurnsUsePort step acts contents asks sends settings domain revision uses turns before old
      host new answer serves
  unfolding finds
  using-turns first uses zero before old host new answer serves past k tidy at = tt
  using-turns first uses (suc turns) before old host new answer (inl fails) past k tidy at = tt
  using-turns first uses (suc turns) before old host new answer (inr did) past k tidy at = (
    finds uses before old did.0 did.1 did.2 did.3 k (λ some.
        let c = some-command t.reported.commands some in
        heeds first before.held t past c.0 is
        (ordered first before.held t past c.0 is tidy at c.1)),
    later-so _ _ did.2 did.4 _ (λ status ok rest.
        let held : rest.0.held ≡ server_after t before.held =
        paused-held step acts contents asks did.0 rest.0 rest.1
        ∙ turned-to step acts contents asks before old did.0 did.1 did.2 did.3 in
        let on = goes-on-after uses before old did.0 did.1 did.2 did.3 k status ok in (
          on.turn_uses,
          using-turns first
              (uses_of_turn did.3.clocks before did.3.turn did.0 on.turn_uses.script
              k.process.port uses) turns rest.0 _ host new answer rest.2
              (past_after t.now events before.held.device past)
              (paused-keeps _ did.0 rest.0 rest.1 on.keeps)
              (subst IsTidy (sym held) (stays-tidy before.held t is tidy))
              (subst (λ (h : ServerData). Stands first
              (past_after t.now events before.held.device past)
              h.device) (sym held)
              (subst (Stands first (past_after t.now events before.held.device past))
              (sym (Part-turn t.now t.given t.script before.held).device)
              (stands-events first t.now events before.held.device past at))),
        )),
  )
    where
      t : DoneTurn
      t = turn_in step acts contents asks before old did.0 did.1 did.2 did.3

      events : List ChosenEvent
      events = turn_events t.now t.given t.script before.held

      is : IsTurn before.held t
      is = is-turn step acts contents asks before old did.0 did.1 did.2 did.3

module _ {L H W : Type 0} (step : L → Call → L → Type 0) (acts : H → HostCall L → H → Type 0)
    (contents : W → Option (List ℕ)) (asks : W → WriteCall → W → Type 0) where
  -- so it is of a server as it was made
  pub turns-use-port : (settings : SupervisionSettings) (turns : ℕ) (before : ServiceState L H)
      (old : WriterState W) (host : H)
      (new : WriterState W) (answer : Result ℕ WriteFault)
      (serves : ServesTurns step acts contents asks turns before old host new answer)
      → IsBegun before.held → (supervised : IsSupervised settings before)
      → TurnsUsePort step acts contents asks supervised.sends settings before.held.device.domain
      before.held.device.revision [] turns before old host new answer serves
  turns-use-port settings turns before old host new answer serves begun supervised =
      using-turns step acts contents asks supervised.sends settings before.held.device.domain
      before.held.device.revision before.held.device [] turns before old host new answer serves []
      (begins supervised.sends settings before.held.device.domain before.held.device.revision before
      supervised refl refl refl) (begun-tidy before.held begun)
      (stands-first before.held.device begun.loaded)
