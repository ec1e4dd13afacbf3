use Rattle.bay_ber.proofs.SheetLemmas.{short-value, open-value, long-value}
use Rattle.bay_ber.proofs.writer.Writer.octets.Goals as goal

pub returns-then-content-lt128 : goal.returns-then-content-lt128
returns-then-content-lt128 c =
    short-value c.args.self.now _ _ c.args.tag _ c.args.content.now c.octet.ensures
    c.if-content-lt128.true c.append.ensures c.append-then-content-lt128.ensures

pub close-requires : goal.close-requires
close-requires c =
    open-value c.args.self.now _ _ c.args.tag c.open-start.result c.args.content.now
    c.open-start.ensures.start c.open-start.ensures.tag c.append-2.ensures

pub returns : goal.returns
returns c =
    long-value c.args.self.now _ _ _ c.args.tag c.open-start.result c.args.content.now
    c.open-start.ensures.start c.open-start.ensures.tag c.append-2.ensures c.close.ensures
