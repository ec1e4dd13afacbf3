use Rattle.std.proofs.Common.{◌≡◌, ◌++◌, drop}
use Rattle.std.specs.List.{flat_map}
use Rattle.cmd_audit.specs.Text.{slot_text, timer_text}
use Rattle.cmd_audit.proofs.text.put_dependencies.Given as goal

abbrev pub invariant-loop-slot : goal.invariant-loop-slot
invariant-loop-slot l =
    l.fn.text.items ++ l.word ++ flat_map (slot_text l.names) l.depends_on.slots.items
    ≡ l.text.items ++ flat_map (slot_text l.names) (drop l.slot-index l.depends_on.slots.items)

abbrev pub invariant-loop-timer : goal.invariant-loop-timer
invariant-loop-timer l =
    l.fn.text.items ++ l.word ++ flat_map (slot_text l.names) l.depends_on.slots.items
    ++ flat_map (timer_text l.names) l.depends_on.timers.items
    ≡ l.text.items ++ flat_map (timer_text l.names) (drop l.timer-index l.depends_on.timers.items)
