use Rattle.std.proofs.Common.{◌∙◌, ◌++◌, [], List, ℕ, ap, append-nil, length, sym}
use Rattle.bay_audit.specs.Rules.{directions}
use Rattle.cmd_audit.specs.Text.{states_text}
use Rattle.cmd_audit.proofs.WrittenLemmas.{cut-none, some-of, stopped-answers, stopped-releases, when-err, whole}
use Rattle.cmd_audit.proofs.written.write_audit.Goals as goal

pub returns-in_err-program : goal.returns-in_err-program
returns-in_err-program g c =
    when-err _ c.from_residual.result c.from_residual.ensures.0
    (cut-none c.args.loaded.now c.args.rules.now c.args.writer.now)

pub returns-in_err-passed : goal.returns-in_err-passed
returns-in_err-passed g c =
    let f = rw (c.bay-bay.ensures, c.verified.ensures) at c.in_ok-program.ensures in
    when-err _ c.from_residual-in_err-passed.result c.from_residual-in_err-passed.ensures.0
    (stopped-answers c.args.loaded.now c.args.rules.now c.of-names.result c.in_ok-program.program
    c.of-names.ensures f (rw c.bay-bay.ensures at c.in_err-passed.ensures))

pub returns-in_err-releases : goal.returns-in_err-releases
returns-in_err-releases g c =
    let f = rw (c.bay-bay.ensures, c.verified.ensures) at c.in_ok-program.ensures in
    when-err _ c.from_residual-in_err-releases.result c.from_residual-in_err-releases.ensures.0
    (stopped-releases c.args.loaded.now c.args.rules.now c.of-names.result c.in_ok-program.program
    c.of-names.ensures f c.in_ok-passed.passed (rw c.bay-bay.ensures at c.in_ok-passed.ensures)
    (rw c.bay-bay.ensures at c.in_err-releases.ensures))

pub returns-in_err-put_states : goal.returns-in_err-put_states
returns-in_err-put_states g c =
    let bay = c.args.loaded.now.bay in
    let f = rw (c.bay-bay.ensures, c.verified.ensures) at c.in_ok-program.ensures in
    let all = directions (length bay.switches) in
    when-err _ c.from_residual-in_err-put_states.result c.from_residual-in_err-put_states.ensures.0
    (stopped-releases c.args.loaded.now c.args.rules.now c.of-names.result c.in_ok-program.program
    c.of-names.ensures f c.in_ok-passed.passed (rw c.bay-bay.ensures at c.in_ok-passed.ensures)
    (some-of bay c.of-names.result c.in_ok-program.program all all []
    c.in_ok-releases.releases.items (sym (append-nil all))
    (rw c.bay-bay.ensures at c.in_ok-releases.ensures)))

pub returns : goal.returns
returns g c =
    let bay = c.args.loaded.now.bay in
    let f = rw (c.bay-bay.ensures, c.verified.ensures) at c.in_ok-program.ensures in
    whole c.args.loaded.now c.args.rules.now c.of-names.result c.in_ok-program.program
    c.of-names.ensures f c.in_ok-passed.passed c.in_ok-releases.releases.items
    c.as_slice-2.result.now (rw c.bay-bay.ensures at c.in_ok-passed.ensures)
    (rw c.bay-bay.ensures at c.in_ok-releases.ensures)
    (c.as_slice-2.ensures.value ∙ (rw c.bay-bay.ensures at c.in_ok-put_states.ensures)
    ∙ ap (λ (t : List ℕ). t ++ states_text bay c.of-names.result c.as_slice.result.now)
    c.new-text.ensures.items
    ∙ ap (states_text bay c.of-names.result) c.as_slice.ensures.value)
    c.put.ensures
