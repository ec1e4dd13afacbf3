use Rattle.std.proofs.Common.{sym, ap}
use Rattle.bay_ber.specs.Reading.{TlvData}
use Rattle.bay_ber.specs.Values.{part_of_tlv}
use Rattle.bay_ber.proofs.ValueLemmas.{whole-begins, begins-whole, not-empty}
use Rattle.bay_ber.proofs.ListingLemmas.{one-is, one-more, one-stop, is-nothing}
use Rattle.bay_ber.proofs.values.whole_value.Goals as goal

pub returns-then-is_empty-clause-some : goal.returns-then-is_empty-clause-some
returns-then-is_empty-clause-some c =
    begins-whole c.args.octets.now _ (is-nothing c.in-Ok.tlv.rest.now c.if-is_empty.ensures)
    c.in-Ok.ensures.ok

pub returns-then-is_empty-clause-only : goal.returns-then-is_empty-clause-only
returns-then-is_empty-clause-only c =
    λ tag content s. ap part_of_tlv
    (c.in-Ok.ensures.only _ (whole-begins c.args.octets.now tag content s))

pub returns-else-is_empty-clause-only : goal.returns-else-is_empty-clause-only
returns-else-is_empty-clause-only c =
    λ tag content s. not-empty c.in-Ok.tlv.rest.now c.if-is_empty.ensures
    (ap (λ (r : TlvData). r.rest)
    (c.in-Ok.ensures.only _ (whole-begins c.args.octets.now tag content s)))

pub returns-in-Err-clause-only : goal.returns-in-Err-clause-only
returns-in-Err-clause-only c =
    λ tag content s. c.in-Err.ensures.only _ (whole-begins c.args.octets.now tag content s)

pub returns-then-is_empty-clause-exact : goal.returns-then-is_empty-clause-exact
returns-then-is_empty-clause-exact c =
    sym (one-is c.args.octets.now _ c.in-Ok.ensures.exact
    (is-nothing c.in-Ok.tlv.rest.now c.if-is_empty.ensures))

pub returns-else-is_empty-clause-exact : goal.returns-else-is_empty-clause-exact
returns-else-is_empty-clause-exact c =
    sym (one-more c.args.octets.now _ c.in-Ok.ensures.exact
    (not-empty c.in-Ok.tlv.rest.now c.if-is_empty.ensures))

pub returns-in-Err-clause-exact : goal.returns-in-Err-clause-exact
returns-in-Err-clause-exact c = sym (one-stop c.args.octets.now _ c.in-Err.ensures.exact)
