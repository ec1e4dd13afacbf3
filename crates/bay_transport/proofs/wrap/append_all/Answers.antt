use Rattle.std.proofs.Common.{arith}
use Rattle.bay_transport.specs.Wrap.{tpdus_of}
use Rattle.bay_transport.proofs.WrapLemmas.{wrapped-step, wrapped-end}
use Rattle.bay_transport.proofs.wrap.append_all.Goals as goal

pub loop-at-preserved : goal.loop-at-preserved
loop-at-preserved c = record {
  within = omega arith;
  text =
      wrapped-step c.args.size c.loop-at.at c.args.octets.now c.args.out.now.items
      c.loop-at.out.items c.append.new.out.items (tpdus_of c.args.size c.args.octets.now)
      (omega (arith, c.requires.some)) c.loop-at.invariant.within c.loop-at-test.true
      c.in_ok-append.ensures c.loop-at.invariant.text;
}

pub returns : goal.returns
returns c =
    wrapped-end c.args.size c.loop-at.at c.args.octets.now c.args.out.now.items c.loop-at.out.items
    c.append-2.new.out.items (tpdus_of c.args.size c.args.octets.now)
    (omega (arith, c.requires.some)) c.loop-at.invariant.within c.loop-at-test.false
    c.in_ok-append-2.ensures c.loop-at.invariant.text
