use Rattle.std.proofs.Common.{◌+◌, ◌-◌, ◌≤◌, length, ap, arith}
use Rattle.bay_ber.specs.Writing.{length_octets}
use Rattle.bay_ber.proofs.WriterLemmas.{over-closed, past-closed, fits-closed, is_open, length-in_place}
use Rattle.bay_ber.proofs.writer.Writer.close.Goals as goal

pub returns-then-self : goal.returns-then-self
returns-then-self c = over-closed c.self.inside _ _ c.self.view_is c.if-self.true

pub overflow_add-count : goal.overflow_add-count
overflow_add-count c =
    omega (arith, is_open c.self.inside _ _ c.self.view_is c.if-self.false c.requires)

pub overflow_add-count-2 : goal.overflow_add-count-2
overflow_add-count-2 c =
    omega (arith, is_open c.self.inside _ _ c.self.view_is c.if-self.false c.requires)

pub overflow_sub-count : goal.overflow_sub-count
overflow_sub-count c =
    omega (arith, is_open c.self.inside _ _ c.self.view_is c.if-self.false c.requires)

pub returns-then-self-len : goal.returns-then-self-len
returns-then-self-len c =
    past-closed c.self.inside _ _ _ _ c.self.view_is c.if-self.false
    (is_open c.self.inside _ _ c.self.view_is c.if-self.false c.requires) c.self.invariant.within
    (omega arith) c.octets_more.ensures.more (omega arith)

pub overflow_add-start : goal.overflow_add-start
overflow_add-start c =
    omega (arith, is_open c.self.inside _ _ c.self.view_is c.if-self.false c.requires)

pub overflow_add-start-2 : goal.overflow_add-start-2
overflow_add-start-2 c =
    omega (arith, is_open c.self.inside _ _ c.self.view_is c.if-self.false c.requires)

pub write_length-requires-clause-place : goal.write_length-requires-clause-place
write_length-requires-clause-place c =
    omega (arith, is_open c.self.inside _ _ c.self.view_is c.if-self.false c.requires)

pub invariant_of-self-2 : goal.invariant_of-self-2
invariant_of-self-2 c =
    let two : 64 + c.args.start + 2 ≤ length c.self.inside.octets.items =
    is_open c.self.inside _ _ c.self.view_is c.if-self.false c.requires in
    let n = ap length c.write_length.ensures.items in
    let m =
    length-in_place c.self.inside.octets.items
    (length_octets (c.len.result - (64 + c.args.start + 2))) (64 + c.args.start + 1) (omega arith)
    in
    record {
      headers = c.self.invariant.headers;
      front = omega arith;
      within = omega arith;
      room = omega arith;
      short = c.self.invariant.short;
    }

pub returns : goal.returns
returns c =
    fits-closed c.self.inside _ _ _ _ _ _ c.self.view_is c.if-self.false
    (is_open c.self.inside _ _ c.self.view_is c.if-self.false c.requires) c.self.invariant.within
    (omega arith) c.octets_more.ensures.more (omega arith) (omega arith)
    c.write_length.ensures.items
