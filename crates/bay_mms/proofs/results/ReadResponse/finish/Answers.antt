use Rattle.std.proofs.Common.{ℕ, List, Option, length, ap, arith, subst, pos}
use Rattle.bay_base.specs.Exact.{ExactOr}
use Rattle.bay_ber.specs.Tags.{int_tag}
use Rattle.bay_mms.specs.Writing.{or_too_long}
use Rattle.bay_mms.specs.declared.fault.EncodeFault.TheVariants.{OutOfMemory}
use Rattle.bay_mms.proofs.ResponseLemmas.{number-few, response-is}
use Rattle.bay_mms.proofs.results.ReadResponse.finish.Goals as goal

pub wrap-requires-3-clause-room : goal.wrap-requires-3-clause-room
wrap-requires-3-clause-room c =
    let none = ap length c.self.invariant.none in
    omega (
      arith,
      c.wrap.ensures.few,
      c.wrap-2.ensures.few,
      number-few c.wrap-2.new.self _ int_tag (pos c.args.id) c.prepend_id.ensures,
    )

pub returns : goal.returns
returns c =
    rw (← c.self.view_is) (
    subst
    (λ (m : Option (List ℕ)). ExactOr OutOfMemory (λ (octets : List ℕ). octets)
    c.finish.result (or_too_long m))
    (response-is c.args.id c.self.inside.results c.wrap.new.self c.wrap-2.new.self
    c.prepend_id.new.writer c.wrap-3.new.self c.self.invariant c.wrap.ensures.limit
    (rw c.context_constructed.ensures at c.wrap.ensures.message) c.wrap-2.ensures.limit
    (rw c.context_constructed-2.ensures at c.wrap-2.ensures.message) c.prepend_id.ensures
    (rw c.context_constructed-3.ensures at c.wrap-3.ensures.message)) c.finish.ensures)
