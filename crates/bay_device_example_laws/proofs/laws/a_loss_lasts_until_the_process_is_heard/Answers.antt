use Rattle.std.proofs.Common.{refl}
use Rattle.bay_device_example_laws.proofs.laws.a_loss_lasts_until_the_process_is_heard.Goals as goal

pub returns-clause-contact : goal.returns-clause-contact
returns-clause-contact l k position s step = refl

pub returns-clause-input : goal.returns-clause-input
returns-clause-input l k value s step = refl

pub returns-clause-measure : goal.returns-clause-measure
returns-clause-measure l k field value s step = refl

pub returns-clause-doubt : goal.returns-clause-doubt
returns-clause-doubt l k field s step = refl

pub returns-clause-refused : goal.returns-clause-refused
returns-clause-refused l event fault s step = refl

pub returns-clause-client : goal.returns-clause-client
returns-clause-client l a octets s step = (refl, refl, refl)

pub returns-clause-scan : goal.returns-clause-scan
returns-clause-scan l s step = refl

pub returns-clause-again : goal.returns-clause-again
returns-clause-again l s step = refl
