use Rattle.std.proofs.Common.{ap, refl, arith}
use Rattle.bay_ber.specs.EncoderBuffers.{EncoderBuffer}
use Rattle.bay_ber.proofs.SheetLemmas.{head-few, is-headed, length-element, past-wrapped, fits-wrapped}
use Rattle.bay_ber.proofs.writer.Writer.wrap.Goals as goal

pub returns-then-self-size-clause-message : goal.returns-then-self-size-clause-message
returns-then-self-size-clause-message c =
    let octets = c.in-Some.octets.now in
    let same = ap (λ (s : EncoderBuffer). s.limit) c.self.view_is in
    past-wrapped c.args.self.now _ c.args.tag octets c.in-Some.ensures refl
    (omega (arith, same, length-element c.args.tag octets))

pub returns-then-self-size-2-clause-message : goal.returns-then-self-size-2-clause-message
returns-then-self-size-2-clause-message c =
    let octets = c.in-Some.octets.now in
    let same = ap (λ (s : EncoderBuffer). s.limit) c.self.view_is in
    past-wrapped c.args.self.now _ c.args.tag octets c.in-Some.ensures refl
    (omega (arith, same, c.octets_more.ensures.more, length-element c.args.tag octets))

pub returns-clause-message : goal.returns-clause-message
returns-clause-message c =
    let octets = c.in-Some.octets.now in
    let same = ap (λ (s : EncoderBuffer). s.limit) c.self.view_is in
    fits-wrapped c.args.self.now _ c.args.tag octets c.in-Some.ensures
    (omega (arith, same, c.octets_more.ensures.more, length-element c.args.tag octets))
    (is-headed c.args.self.now _ c.args.tag _ octets c.in-Some.ensures refl c.head.ensures)

pub returns-clause-few : goal.returns-clause-few
returns-clause-few c = head-few c.args.self.now _ _ _ c.head.ensures
