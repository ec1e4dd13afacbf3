use Rattle.std.proofs.Common.{refl}
use Rattle.il_check.specs.Program.{transfer}
use Rattle.il_check.specs.declared.typed.Transfer.TheVariants as go
use Rattle.il_compile.proofs.ContinuationLemmas.{on_success, put-settled}
use Rattle.il_compile.proofs.continuation.Continuation.put_timer.Goals as goal

pub returns : goal.returns
returns c is settled =
    on_success c.prepend_pending.result c.prepend_pending.ensures.counted
    c.prepend_pending.ensures.before
    c.prepend_pending.ensures.empty c.prepend_pending.ensures.label_octets
    (λ counted before empty label_octets. put-settled c.args.externals
    (transfer (go.Call c.args.timer c.args.arguments)) is _ c.args.self.now
    c.put_call.new.code.items c.prepend_pending.new.self settled refl (λ l. refl)
    c.in_ok-put_call.ensures before counted empty label_octets)
