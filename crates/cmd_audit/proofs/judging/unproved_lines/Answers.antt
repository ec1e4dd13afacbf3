use Rattle.std.proofs.Common.{rules, ◌≡◌, ◌∙◌, ◌++◌, drop, sym, ap, zip, [], append-nil}
use Rattle.std.proofs.lemmas.List.{drop_all}
use Rattle.cmd_audit.specs.Judging.{unproved_text}
use Rattle.cmd_audit.proofs.TextLemmas.{zip-nil}
use Rattle.cmd_audit.proofs.judging.unproved_lines.Goals as goal

pub returns-in_default : goal.returns-in_default
returns-in_default c =
    let ends : drop c.loop-i.i c.args.answers.now ≡ [] =
    drop_all c.loop-i.i c.args.answers.now (search rules) in
    sym (c.loop-i.invariant
    ∙ ap (λ left. c.loop-i.text.items
    ++ unproved_text c.args.bay.now c.args.names.now (zip (drop c.loop-i.i c.args.rules.now) left))
    ends
    ∙ ap (λ ps. c.loop-i.text.items ++ unproved_text c.args.bay.now c.args.names.now ps)
    (zip-nil (drop c.loop-i.i c.args.rules.now))
    ∙ append-nil _)
