-- A history grows by an event, by those of a turn, and by those of all turns.
use Rattle.std.proofs.Common.{◌≡◌, ℕ, List, [], ◌∷◌, length, None, refl, ap, sym, subst, ◌∙◌}
use Rattle.bay_mms_services.specs.ObservedEntries.{AreNamedAlike}
use Rattle.bay_device.specs.Device.{State, bay_of}
use Rattle.bay_device.specs.Entries.{IsIdle}
use Rattle.bay_device.specs.Fresh.{IsHistory, PastEvent}
use Rattle.bay_device.specs.Load.{initial_device}
use Rattle.bay_device.specs.Outcomes.{outcome}
use Rattle.bay_device.specs.Steps.{Steps}
use Rattle.bay_device.specs.ObservedRuns.{HaveAgreedSize}
use Rattle.bay_device.proofs.EntryLemmas.{eight-places, leading}
use Rattle.bay_device.proofs.FreshLemmas.{Tracks, tracks-event, tracks-first}
use Rattle.bay_device.proofs.RemoteLemmas.{Follows, follows-first, follows-step}
use Rattle.bay_device.proofs.ToldLemmas.{idle-talks, telling}
use Rattle.cmd_replay.specs.History.{EachPast, device_after}
use Rattle.cmd_replay.proofs.HistoryLemmas.{past-fixed}
use Rattle.bay_server_turn_laws.specs.Events.{ChosenEvent, outcomes_at}
use Rattle.cmd_replay.specs.Runs.{IsGuardedRun}
use Rattle.cmd_replay.proofs.RunLemmas.{one-run as past-run}
use Rattle.cmd_serve.specs.Service.{past_after}

-- ---- a device, and all that has happened to it since it was the first

pub record Stands (first : State) (past : List PastEvent) (s : State) : Type 0 where
  pub steps : EachPast Steps first past
  pub last : device_after first past ≡ s
  pub unscanned : first.last_scan ≡ None
  pub alike : AreNamedAlike (bay_of first) (bay_of s)
  pub sized : HaveAgreedSize s.connections
  pub eight : length s.connections ≡ 8
  pub tracks : Tracks past s
  pub follows : Follows past s

idle : (first : State) → IsHistory [] first → IsIdle first
idle first came = let is : IsIdle (initial_device came.0 came.1) =
    record { unselected = refl; closed = refl } in subst IsIdle (sym came.2) is

pub stands-first : (first : State) → IsHistory [] first → Stands first [] first
stands-first first came = record {
  steps = tt;
  last = refl;
  unscanned = ap (λ (d : State). d.last_scan) came.2;
  alike = record { domain = refl; switches = refl; names = refl };
  sized = idle-talks first (idle first came);
  eight = ap (λ talks. length talks) (idle first came).closed;
  tracks = tracks-first first came;
  follows = follows-first first came;
}

-- the age that a scan may have is that of load
pub aged : (first : State) (past : List PastEvent) (s : State) → Stands first past s
    → s.scan_max_age_ms ≡ first.scan_max_age_ms
aged first past s at =
    ap (λ (d : State). d.scan_max_age_ms) (sym at.last) ∙ (past-fixed first past at.steps).age

module _ (first : State) (now : ℕ) where
  -- one event more
  stands-event : (e : ChosenEvent) (s : State) (past : List PastEvent) → Stands first past s
      → Stands first (past_after now (e ∷ []) s past) (outcome e.0 now e.1 s).after
  stands-event e s past at =
      let o = outcome e.0 now e.1 s in
      let steps : Steps now e.1 s o.answer o.after =
      record { choice = e.0; answered = refl; left = refl } in
      let reported = telling (bay_of first) now e.1 s o.answer o.after at.alike at.sized
      (leading now e.1 s o.answer o.after at.eight steps) in
      record {
        steps = (
          subst (λ (d : State). Steps now e.1 d o.answer o.after) (sym at.last) steps,
          at.steps,
        );
        last = refl;
        unscanned = at.unscanned;
        alike = reported.alike;
        sized = reported.sized;
        eight = eight-places now e.1 s o.answer o.after at.eight steps;
        tracks = tracks-event past s at.tracks now e.0 e.1;
        follows = follows-step
            (record { now = now; event = e.1; answer = o.answer; after = o.after }) past s
            at.follows steps;
      }

  -- those of a turn
  pub stands-events : (es : List ChosenEvent) (s : State) (past : List PastEvent)
      → Stands first past s
      → Stands first (past_after now es s past) (outcomes_at now es s).after
  stands-events [] s past at = at
  stands-events (e ∷ es) s past at =
      stands-events es (outcome e.0 now e.1 s).after (past_after now (e ∷ []) s past)
      (stands-event e s past at)

-- ---- one run

pub one-run : (first : State) (past : List PastEvent) (last : State) → IsHistory [] first
    → Stands first past last → IsGuardedRun first past last
one-run first past last begin at =
    subst (IsGuardedRun first past) at.last (past-run first past begin (idle first begin) at.steps)
