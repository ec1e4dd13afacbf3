use Rattle.std.proofs.Common.{◌++◌, codes}
use Rattle.std.specs.Fmt.{decimal}
use Rattle.cmd_audit.specs.Text.{rule_operation_text}
use Rattle.cmd_audit.proofs.TextLemmas.{after, after-ok}
use Rattle.cmd_audit.proofs.text.put_rule_head.Goals as goal

pub returns : goal.returns
returns c =
    let line = decimal c.args.rule.now.line in
    after-ok c.put_switch_operation.result c.args.text.now.items c.put_number.new.text.items
    c.put_switch_operation.new.text.items (codes "rule " ++ line)
    (rule_operation_text c.args.bay.now c.args.rule.now)
    (after c.args.text.now.items c.extend_from_slice.new.self.items c.put_number.new.text.items
    (codes "rule ") line c.in_ok-extend_from_slice.ensures.items c.in_ok-put_number.ensures)
    c.put_switch_operation.ensures
