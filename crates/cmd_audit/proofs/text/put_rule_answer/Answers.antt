use Rattle.std.proofs.Common.{◌++◌, codes}
use Rattle.cmd_audit.specs.Text.{holds_text, timer_text}
use Rattle.cmd_audit.proofs.TextLemmas.{after-ok}
use Rattle.cmd_audit.proofs.text.put_rule_answer.Goals as goal

pub returns-in_ok-extend_from_slice-in-Since : goal.returns-in_ok-extend_from_slice-in-Since
returns-in_ok-extend_from_slice-in-Since c =
    let timer = timer_text c.args.names.now c.in-Since.timer in
    rw c.in-Since.is
    (after-ok c.put_timer.result c.args.text.now.items c.put_holds-in-Since.new.text.items
    c.put_timer.new.text.items (holds_text c.in-Since.cases) (codes " by" ++ timer)
    c.in_ok-put_holds-in-Since.ensures
    (after-ok c.put_timer.result c.put_holds-in-Since.new.text.items
    c.extend_from_slice-in-Since.new.self.items c.put_timer.new.text.items (codes " by") timer
    c.in_ok-extend_from_slice-in-Since.ensures.items
    c.put_timer.ensures))
