use Rattle.bay_ber.proofs.ContentLemmas.{whole-content, bits-only, bits-err, bits-exact}
use Rattle.bay_ber.proofs.content.bits_of.Goals as goal

pub returns-in-len1-up-clause-only : goal.returns-in-len1-up-clause-only
returns-in-len1-up-clause-only c =
    bits-only _ _ _ c.bits_of_octets.result
    (whole-content c.args.content.now c.in-len1-up.len_at_least) c.bits_of_octets.ensures.ok
    c.bits_of_octets.ensures.err

pub returns-in-len1-up-clause-err : goal.returns-in-len1-up-clause-err
returns-in-len1-up-clause-err c =
    bits-err _ _ _ c.bits_of_octets.result
    (whole-content c.args.content.now c.in-len1-up.len_at_least)
    c.bits_of_octets.ensures.err

pub returns-in-len1-up-clause-exact : goal.returns-in-len1-up-clause-exact
returns-in-len1-up-clause-exact c =
    bits-exact _ _ _ c.bits_of_octets.result
    (whole-content c.args.content.now c.in-len1-up.len_at_least) c.bits_of_octets.ensures.ok
    c.bits_of_octets.ensures.err
