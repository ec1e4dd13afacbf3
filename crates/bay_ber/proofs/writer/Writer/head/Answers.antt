use Rattle.std.proofs.Common.{◌≡◌, ◌-◌, take, drop, rules}
use Rattle.std.specs.Int.{bytes_high_first}
use Rattle.bay_ber.proofs.SheetLemmas.{head-short, head-long}
use Rattle.bay_ber.proofs.writer.Writer.head.Goals as goal

pub returns-then-count-lt128 : goal.returns-then-count-lt128
returns-then-count-lt128 c =
    head-short c.args.self.now _ c.args.tag _ c.args.count c.octet.ensures c.if-count-lt128.true
    c.front.ensures

pub returns : goal.returns
returns c =
    let k = c.octets_needed-needed.result in
    let high : take (4 - (4 - k)) (drop (4 - k) c.to_be_bytes.result)
    ≡ bytes_high_first k c.args.count = search rules in
    head-long c.args.self.now _ _ c.args.tag _ _ _ c.args.count c.octet-2.ensures
    c.if-count-lt128.false
    c.octets_needed-needed.ensures.needed high c.front-2.ensures c.front-3.ensures
