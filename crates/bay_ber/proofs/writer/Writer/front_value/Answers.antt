use Rattle.bay_ber.proofs.SheetLemmas.{fronted-value}
use Rattle.bay_ber.proofs.writer.Writer.front_value.Goals as goal

pub returns : goal.returns
returns c =
    fronted-value c.args.self.now _ _ c.args.tag c.args.content.now c.front.ensures c.head.ensures
