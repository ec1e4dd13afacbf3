use Rattle.bay_device.specs.Commands.{CommandsReleased}
use Rattle.bay_device.specs.Fresh.{FreshAt}
use Rattle.bay_device.specs.Meaning.{HaltsAt}
use Rattle.bay_device.specs.Remote.{RemoteAt}
use Rattle.bay_device_example_laws.specs.Chains.{IsPromised, IsPromisedOf}
use Rattle.bay_device_example_laws.proofs.ChainLemmas.{Pair, answers-fix, join-chains}
use Rattle.bay_device_example_laws.proofs.laws.clauses_speak_of_one_chain.Goals as goal

pub returns-clause-fixed : goal.returns-clause-fixed
returns-clause-fixed c = answers-fix

pub returns-clause-ends : goal.returns-clause-ends
returns-clause-ends c events old answers new other a b =
    (join-chains (λ now event s answer t p q. p) events old answers new other a b).1

pub returns-clause-one : goal.returns-clause-one
returns-clause-one c events old answers new a b d e =
    let first = join-chains {Both = Pair HaltsAt CommandsReleased}
    (λ now event s answer t p q. (p, q)) events old answers new new a b in
    let second = join-chains {Both = Pair FreshAt RemoteAt}
    (λ now event s answer t p q. (p, q)) events old answers new new d e in
    (join-chains {Both = IsPromised} (λ now event s answer t p q. record {
      halts = p.0;
      released = p.1;
      fresh = q.0;
      remote = q.1;
    }) events old answers new new first.0 second.0).0

pub returns-clause-means : goal.returns-clause-means
returns-clause-means c checked events old answers new a b =
    (join-chains {Both = IsPromisedOf checked}
    (λ now event s answer t p q. record { promised = p; means = q }) events old answers new new a
    b).0
