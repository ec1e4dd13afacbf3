-- The last scan behind a device releases what may be operated.
use Rattle.std.proofs.Common.{◌≡◌, ◌+◌, ◌≤◌, ℕ, true, not, List, [], ◌∷◌, ◌++◌, All, None, Result, Ok, Err, IsOk, IfOk, refl, ap, sym, subst, ◌∙◌, arith}
use Rattle.std.proofs.lemmas.List.Elements.{All-from_recursion, All-head}
use Rattle.std.specs.List.{AllByRecursion}
use Rattle.bay_base.specs.declared.switch.Operation.{Operation}
use Rattle.bay_base.specs.declared.switch.Operation.TheVariants as operations
use Rattle.bay_process.specs.Values.{is_truth}
use Rattle.bay_process.proofs.ToldLemmas.{Keeps}
use Rattle.bay_mms_services.specs.Released.{enable_name}
use Rattle.bay_mms_services.specs.declared.answer.Command.{Command}
use Rattle.bay_tree.specs.Rows.{leaf_named}
use Rattle.bay_tree.specs.declared.row.Row.{Row}
use Rattle.bay_device.specs.Commands.{IsReleasedAt}
use Rattle.bay_device.specs.Device.{State}
use Rattle.bay_device.specs.Fresh.{HasScan, IsSameProcess, PastEvent}
use Rattle.bay_device.specs.Remote.{IsAtRemote}
use Rattle.bay_device.specs.declared.event.Step.{Step}
use Rattle.bay_device.specs.declared.fault.StepFault.{StepFault}
use Rattle.bay_device.proofs.FreshLemmas.{ScannedAt, Since, fresh-at, has-since, process-same}
use Rattle.bay_device.proofs.RemoteLemmas.{remote-since, same-key, settings_of}
use Rattle.bay_device.proofs.SameLemmas.{Parts, Same}
use Rattle.cmd_replay.specs.History.{device_after}
use Rattle.cmd_replay.proofs.HistoryLemmas.{past-settings}
use Rattle.cmd_replay.proofs.KeptLemmas.{scan_told}
use Rattle.bay_replay_laws.proofs.ScanLemmas.{LastScan, last-scan, same-since}
use Rattle.cmd_serve.specs.Requests.{IsReleasedBy}
use Rattle.cmd_serve.proofs.HistoryLemmas.{Stands}

-- ---- no scan since

abbrev NoneDone : PastEvent → Type 0
NoneDone p = IfOk p.answer (λ step. step.scan ≡ None)

none-told : (r : Result Step StepFault) → scan_told r ≡ None
    → IfOk r (λ step. step.scan ≡ None)
none-told (Ok step) none = none
none-told (Err fault) none = tt

all-none : (ps : List PastEvent) → AllByRecursion (λ (p : PastEvent). scan_told p.answer ≡ None) ps
    → AllByRecursion NoneDone ps
all-none [] none = tt
all-none (p ∷ ps) none = (none-told p.answer none.0, all-none ps none.1)

-- ---- what stands since

enabled-by : (rows new : List Row) (k : ℕ) (operation : Operation) → Keeps rows new
    → is_truth true (leaf_named (enable_name k operation) new) ≡ true
    → is_truth true (leaf_named (enable_name k operation) rows) ≡ true
enabled-by rows new k operations.Open keeps enabled = ap (is_truth true) (sym (keeps k _)) ∙ enabled
enabled-by rows new k operations.Close keeps enabled =
    ap (is_truth true) (sym (keeps k _)) ∙ enabled

same-then : (a b c : State) → IsSameProcess a b → IsSameProcess b c → IsSameProcess a c
same-then a b c p q = record {
  positions =
      λ kind n. record {
        value = (q.positions kind n).value ∙ (p.positions kind n).value;
        quality = (q.positions kind n).quality ∙ (p.positions kind n).quality;
      };
  inputs = q.inputs ∙ p.inputs;
  measures =
      λ k field. record {
        value = (q.measures k field).value ∙ (p.measures k field).value;
        quality = (q.measures k field).quality ∙ (p.measures k field).quality;
      };
}

same-behind : (first : State) (since : List PastEvent) (scan : PastEvent) (earlier : List PastEvent)
    → All (λ (p : PastEvent). IsSameProcess scan.after p.after) since
    → IsSameProcess scan.after (device_after first (since ++ scan ∷ earlier))
same-behind first [] scan earlier all = process-same scan.after scan.after refl refl
same-behind first (p ∷ since) scan earlier all =
    All-head (λ (p : PastEvent). IsSameProcess scan.after p.after) p since all

-- ---- commands

-- Its key, if it has one, is at remote by the events behind.
pub remote-behind : (first : State) (past : List PastEvent) (old s : State) (now : ℕ)
    (command : Command) → Stands first past old → Same old s → IsReleasedAt now s command
    → IsAtRemote first past command
remote-behind first past old s now command stands same released =
    same-key old first
    (ap settings_of (sym stands.last) ∙ past-settings first past stands.steps) past command
    (remote-since old s past now command same stands.follows released)

-- A switch that may be operated, on a device that has changed only for its clients since, is
-- released by the last scan behind.
pub released-by : (first : State) (past : List PastEvent) (old s : State) (now age : ℕ)
    (command : Command) → Stands first past old → Same old s → s.scan_max_age_ms ≡ age
    → IsReleasedAt now s command → IsReleasedBy now age past s command
released-by first past old s now age command stands same aged released =
    let r : ScannedAt now s = fresh-at now s released.fresh in
    let noted = sym (ap (λ (p : Parts). p.scans) same) ∙ r.is in
    let w : Since r.at past old =
    stands.tracks.since_scan r.at noted (sym (ap (λ (p : Parts). p.stale) same) ∙ r.fresh) in
    let within : now ≤ r.at + s.scan_max_age_ms = r.within in
    let near : now ≤ r.at + age = omega arith in
    let rows : s.rows ≡ old.rows = ap (λ (p : Parts). p.rows) same in
    let some : HasScan now age past =
    has-since now age r.at past old w near
    (stands.tracks.heard ∙ ap not (sym (ap (λ (p : Parts). p.lost) same) ∙ released.heard)) in
    let l : LastScan first past r.at =
    last-scan first past r.at stands.unscanned stands.steps
    (ap (λ (d : State). d.last_scan) stands.last ∙ noted) in
    let unchanged = same-since first past now age r.at stands.steps some l in
    record {
      scan =
          record {
            since = l.since;
            scan = l.scan;
            earlier = l.earlier;
            split = l.split;
            scanned = l.done.event_is;
            done = subst IsOk (sym l.done.answered) refl;
            recent = omega (arith, l.at, near);
            unchanged = unchanged;
            heard = some.heard;
          };
      last = All-from_recursion NoneDone l.since (all-none l.since l.none);
      enabled =
          enabled-by l.scan.after.rows s.rows command.switch command.operation
          (subst (Keeps l.scan.after.rows) (ap (λ (d : State). d.rows) stands.last ∙ sym rows)
          l.keeps) released.enabled;
      unchanged =
          same-then l.scan.after old s
          (subst (IsSameProcess l.scan.after)
          (ap (device_after first) (sym l.split) ∙ stands.last)
          (same-behind first l.since l.scan l.earlier unchanged))
          (process-same old s rows (ap (λ (p : Parts). p.inputs) same));
    }
