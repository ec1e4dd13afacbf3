use Rattle.bay_ber.proofs.ContentLemmas.{integer-exact}
use Rattle.bay_ber.proofs.content.int_of.Goals as goal

pub returns-clause-exact : goal.returns-clause-exact
returns-clause-exact c =
    integer-exact c.args.content.now c.integer_of.result c.integer_of.ensures.ok
    c.integer_of.ensures.err
