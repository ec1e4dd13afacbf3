use Rattle.std.proofs.Common.{◌∙◌, length, ap, arith}
use Rattle.std.proofs.lemmas.List.{length-append}
use Rattle.bay_ber.proofs.WriterLemmas.{over-put, past-put, fits-put}
use Rattle.bay_ber.proofs.writer.Writer.append.Goals as goal

pub returns-then-self : goal.returns-then-self
returns-then-self c = over-put c.self.inside _ _ c.self.view_is c.if-self.true

pub returns-then-self-len : goal.returns-then-self-len
returns-then-self-len c =
    past-put c.self.inside _ _ c.self.view_is c.if-self.false c.self.invariant.front
    c.self.invariant.within (omega arith)

pub extend-requires : goal.extend-requires
extend-requires c = omega arith

pub invariant_of-self-2 : goal.invariant_of-self-2
invariant_of-self-2 c =
    let n = ap length c.extend.ensures.items
    ∙ length-append c.self.inside.octets.items c.args.octets.now in
    record {
      headers = c.self.invariant.headers;
      front = omega arith;
      within = omega arith;
      room = omega arith;
      short = c.self.invariant.short;
    }

pub returns : goal.returns
returns c =
    fits-put c.self.inside _ _ _ c.self.view_is c.if-self.false c.self.invariant.front
    c.self.invariant.within (omega arith) c.extend.ensures.items
