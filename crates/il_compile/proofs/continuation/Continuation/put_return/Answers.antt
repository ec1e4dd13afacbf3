use Rattle.std.proofs.Common.{◌≡◌, nat_eq, refl, ap, ◌∙◌}
use Rattle.std.specs.HashMap.{get}
use Rattle.il_image.specs.declared.instr.Instr.TheVariants.{Jump}
use Rattle.il_check.specs.Program.{transfer}
use Rattle.il_check.specs.declared.typed.Transfer.TheVariants as go
use Rattle.il_compile.specs.Code.{octets, items_code}
use Rattle.il_compile.specs.OperatorClasses.{when_of}
use Rattle.il_compile.proofs.ContinuationLemmas.{on_success, put-leap, to-end}
use Rattle.il_compile.proofs.continuation.Continuation.put_return.Goals as goal

pub returns : goal.returns
returns c n is settled =
    on_success c.prepend_pending.result c.prepend_pending.ensures.counted
    c.prepend_pending.ensures.before
    c.prepend_pending.ensures.empty c.prepend_pending.ensures.label_octets
    (λ counted before empty label_octets.
    put-leap n (transfer (go.Return c.args.condition)) is _
    (Jump (when_of c.args.condition) (octets (items_code n is))) c.args.self.now
    c.put.new.code.items c.prepend_pending.new.self settled refl refl refl (λ l. refl)
    (λ short.
    (let d : c.min-distance.result ≡ octets (items_code n is) =
    c.min-distance.ensures ∙ to-end n c.args.self.now.octets is c.args.self.now.instrs.items
    (get nat_eq c.args.self.now.label_octets) settled.continuation short in
    ap (λ w. Jump w c.min-distance.result) c.when_of.ensures
    ∙ ap (Jump (when_of c.args.condition)) d))
    c.in_ok-put.ensures before counted empty label_octets)
