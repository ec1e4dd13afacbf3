use Rattle.std.proofs.Common.{refl}
use Rattle.il_check.specs.Program.{plain}
use Rattle.il_check.specs.ProgramViews.{entry_view}
use Rattle.il_compile.proofs.ContinuationLemmas.{on_success, put-settled}
use Rattle.il_compile.proofs.continuation.Continuation.put_plain.Goals as goal

pub returns : goal.returns
returns c is settled =
    on_success c.prepend_pending.result c.prepend_pending.ensures.counted
    c.prepend_pending.ensures.before
    c.prepend_pending.ensures.empty c.prepend_pending.ensures.label_octets
    (λ counted before empty label_octets. put-settled c.args.externals
    (plain (entry_view c.args.entry.now)) is _ c.args.self.now c.put_entry.new.code.items
    c.prepend_pending.new.self settled refl (λ l. refl) c.in_ok-put_entry.ensures before counted
    empty
    label_octets)
