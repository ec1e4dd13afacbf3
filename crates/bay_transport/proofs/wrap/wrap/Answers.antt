use Rattle.std.proofs.Common.{◌≡◌, ◌++◌, ◌-◌, length, arith}
use Rattle.std.proofs.lemmas.List.{take_rest, length-append}
use Rattle.bay_transport.specs.Wrap.{tpdus_of}
use Rattle.bay_transport.proofs.WrapLemmas.{wrapped-front, wrapped-alone, carries}
use Rattle.bay_transport.proofs.wrap.wrap.Goals as goal

alone : (c : goal.In_ok-append)
    → c.append.new.out.items ≡ tpdus_of c.args.size (c.args.front.now ++ c.args.rest.now)
alone c =
    rw (c.in_ok-append.ensures, c.in_ok-out.ensures.items)
    (wrapped-alone c.args.size c.args.front.now c.args.rest.now
    (omega (arith, c.requires.size.some))
    (omega (arith, c.requires.size.some, c.requires.front)) c.if-rest-first.true)

several : (c : goal.In_ok-append_all)
    → c.append_all.new.out.items ≡ tpdus_of c.args.size (c.args.front.now ++ c.args.rest.now)
several c =
    wrapped-front c.args.size c.args.front.now c.args.rest.now c.append-2.new.out.items
    c.append_all.new.out.items (omega (arith, c.requires.size.some))
    (omega (arith, c.requires.size.some, c.requires.front)) c.if-rest-first.false
    (rw c.in_ok-out.ensures.items at c.in_ok-append-2.ensures)
    (rw (take_rest c.args.rest.now (c.args.size - 3 - length c.args.front.now)) at
    c.in_ok-append_all.ensures)

pub returns-then-rest-first-clause-exact : goal.returns-then-rest-first-clause-exact
returns-then-rest-first-clause-exact c = alone c

pub returns-clause-exact : goal.returns-clause-exact
returns-clause-exact c = several c

pub returns-then-rest-first-clause-carries : goal.returns-then-rest-first-clause-carries
returns-then-rest-first-clause-carries c short =
    carries c.args.size (c.args.front.now ++ c.args.rest.now) c.append.new.out.items
    (omega (arith, c.requires.size.some))
    (omega (arith, length-append c.args.front.now c.args.rest.now, short)) (alone c)

pub returns-clause-carries : goal.returns-clause-carries
returns-clause-carries c short =
    carries c.args.size (c.args.front.now ++ c.args.rest.now) c.append_all.new.out.items
    (omega (arith, c.requires.size.some))
    (omega (arith, length-append c.args.front.now c.args.rest.now, short))
    (several c)
