use Rattle.std.proofs.Common.{◌≡◌, ◌++◌, drop}
use Rattle.std.specs.List.{flat_map}
use Rattle.cmd_audit.specs.Text.{lost_text, start_text}
use Rattle.cmd_audit.proofs.text.put_states.Given as goal

abbrev pub invariant-loop-release : goal.invariant-loop-release
invariant-loop-release l =
    l.fn.text.items ++ flat_map (lost_text l.bay l.names) l.releases
    ≡ l.text.items ++ flat_map (lost_text l.bay l.names) (drop l.release-index l.releases)

abbrev pub invariant-loop-release-2 : goal.invariant-loop-release-2
invariant-loop-release-2 l =
    (l.fn.text.items ++ flat_map (lost_text l.bay l.names) l.releases)
    ++ flat_map (start_text l.bay l.names) l.releases
    ≡ l.text.items ++ flat_map (start_text l.bay l.names) (drop l.release-index l.releases)
