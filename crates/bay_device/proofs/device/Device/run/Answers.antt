use Rattle.std.proofs.Common.{◌≡◌, ◌≤◌, ◌<◌, ◌+◌, ◌∷◌, [], ℕ, List, length, drop, get_or, refl, arith}
use Rattle.std.proofs.Math.ListN.{drop_of_length-le}
use Rattle.std.proofs.lemmas.Grind.{common_steps}
use Rattle.std.proofs.lemmas.List.Elements.{All-nil, All-push}
use Rattle.bay_device.specs.Commands.{IsSingle}
use Rattle.bay_device.specs.Device.{bay_of}
use Rattle.bay_device.specs.Meaning.{Runs}
use Rattle.bay_device.specs.declared.event.Event.{Event}
use Rattle.bay_device.specs.declared.event.Event.TheVariants.{Open}
use Rattle.bay_device.proofs.CommandLemmas.{step-commanded}
use Rattle.bay_device.proofs.FreshLemmas.{step-fresh}
use Rattle.bay_device.proofs.MeaningLemmas.{means-step}
use Rattle.bay_device.proofs.RemoteLemmas.{step-remote}
use Rattle.bay_device.proofs.RunLemmas.{each-does, each-so, goes-all, goes-none, goes-step, tells, tells-backed}
use Rattle.bay_device.proofs.device.Device.run.Goals as goal

pub loop-now-init : goal.loop-now-init
loop-now-init c = record {
  counted = c.in_ok-answers.ensures.len;
  room = omega (arith, c.in_ok-answers.ensures.capacity);
  goes = rw c.in_ok-answers.ensures.items (goes-none c.args.events.now c.args.self.now);
  single = rw c.in_ok-answers.ensures.items (All-nil IsSingle);
}

rest-more : (events : List (ℕ × Event)) (i : ℕ) (d : ℕ × Event) → i < length events
    → drop i events ≡ get_or events i d ∷ drop (i + 1) events
rest-more events i d within = grind (arith, common_steps)

pub loop-now-preserved : goal.loop-now-preserved
loop-now-preserved c =
    let events = c.args.events.now in
    let i = c.loop-now.now-index in
    let e : ℕ × Event = get_or events i (0, Open 0) in
    let here = rest-more events i (0, Open 0) c.loop-now-test.true in
    let room = rw c.unwrap.ensures at c.push.ensures in
    record {
      counted = omega (arith, room.len, c.loop-now.invariant.counted);
      room = omega (arith, room.capacity, c.loop-now.invariant.room);
      goes = rw room.items (goes-step events c.args.self.now c.loop-now.answers.items e
          (drop (i + 1) events) c.loop-now.self c.step-answer.result c.step-answer.new.self
          (rw here at c.loop-now.invariant.goes) c.step-answer.ensures.steps
          c.step-answer.ensures.halts);
      single = rw room.items (All-push IsSingle c.loop-now.answers.items c.step-answer.result
          c.loop-now.invariant.single c.step-answer.ensures.single);
    }

pub returns-clause-ok : goal.returns-clause-ok
returns-clause-ok c =
    let events = c.args.events.now in
    let past : length events ≤ c.loop-now.now-index = omega (arith, c.loop-now-test.false) in
    let none : drop c.loop-now.now-index events ≡ [] = drop_of_length-le events past in
    goes-all events c.args.self.now c.loop-now.answers.items c.loop-now.self
    (rw none at c.loop-now.invariant.goes)

pub returns-clause-means : goal.returns-clause-means
returns-clause-means c program runs =
    (each-does _ (Runs program) (means-step program) c.args.events.now c.args.self.now
    c.loop-now.answers.items c.loop-now.self runs (returns-clause-ok c)).0

pub returns-clause-runs : goal.returns-clause-runs
returns-clause-runs c program runs =
    (each-does _ (Runs program) (means-step program) c.args.events.now c.args.self.now
    c.loop-now.answers.items c.loop-now.self runs (returns-clause-ok c)).1

pub returns-clause-commanded : goal.returns-clause-commanded
returns-clause-commanded c =
    each-so _ step-commanded c.args.events.now c.args.self.now c.loop-now.answers.items
    c.loop-now.self (returns-clause-ok c)

pub returns-clause-fresh : goal.returns-clause-fresh
returns-clause-fresh c =
    each-so _ step-fresh c.args.events.now c.args.self.now c.loop-now.answers.items c.loop-now.self
    (returns-clause-ok c)

pub returns-clause-remote : goal.returns-clause-remote
returns-clause-remote c =
    each-so _ step-remote c.args.events.now c.args.self.now c.loop-now.answers.items
    c.loop-now.self (returns-clause-ok c)

pub returns-clause-operates : goal.returns-clause-operates
returns-clause-operates c sized =
    (tells _ (bay_of c.args.self.now) c.args.events.now c.args.self.now c.loop-now.answers.items
    c.loop-now.self c.is_sound.ensures.slots
    (record { domain = refl; switches = refl; names = refl })
    sized (returns-clause-ok c)).operates

pub returns-clause-backed : goal.returns-clause-backed
returns-clause-backed c none sized =
    tells-backed (bay_of c.args.self.now) c.args.events.now c.args.self.now
    c.loop-now.answers.items c.loop-now.self none
    (tells _ (bay_of c.args.self.now) c.args.events.now c.args.self.now c.loop-now.answers.items
    c.loop-now.self c.is_sound.ensures.slots
    (record { domain = refl; switches = refl; names = refl })
    sized (returns-clause-ok c))
