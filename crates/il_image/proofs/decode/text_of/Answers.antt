use Rattle.il_image.proofs.NameLemmas.{name-text}
use Rattle.il_image.proofs.decode.text_of.Goals as goal

pub unreachable-requires : goal.unreachable-requires
unreachable-requires c = c.in-Err.ensures.cases.0 (name-text c.args.octets.now c.requires)
