use Rattle.cmd_audit_laws.proofs.ExampleLemmas.{blocked-obeys-never, released-breaks-never, earlier-breaks-never, released-obeys-always, blocked-breaks-always, opening-is-forbidden, closing-is-allowed, another-is-allowed, five-have-passed, four-are-too-few, false-interrupts, none-has-held, no-scan-has-held}
use Rattle.cmd_audit_laws.proofs.laws.a_rule_allows_only_what_obeys_it.Goals as goal

pub returns-clause-blocked : goal.returns-clause-blocked
returns-clause-blocked l = blocked-obeys-never

pub returns-clause-released : goal.returns-clause-released
returns-clause-released l = released-breaks-never

pub returns-clause-earlier : goal.returns-clause-earlier
returns-clause-earlier l = earlier-breaks-never

pub returns-clause-demanded : goal.returns-clause-demanded
returns-clause-demanded l = released-obeys-always

pub returns-clause-lacking : goal.returns-clause-lacking
returns-clause-lacking l = blocked-breaks-always

pub returns-clause-forbidden : goal.returns-clause-forbidden
returns-clause-forbidden l = opening-is-forbidden

pub returns-clause-closing : goal.returns-clause-closing
returns-clause-closing l = closing-is-allowed

pub returns-clause-of_another : goal.returns-clause-of_another
returns-clause-of_another l = another-is-allowed

pub returns-clause-waited : goal.returns-clause-waited
returns-clause-waited l = five-have-passed

pub returns-clause-soon : goal.returns-clause-soon
returns-clause-soon l = four-are-too-few

pub returns-clause-interrupted : goal.returns-clause-interrupted
returns-clause-interrupted l = false-interrupts

pub returns-clause-unseen : goal.returns-clause-unseen
returns-clause-unseen l = none-has-held

pub returns-clause-unscanned : goal.returns-clause-unscanned
returns-clause-unscanned l = no-scan-has-held
