use Rattle.cmd_audit_laws.proofs.OrderLemmas.{is-heard, closed-hears-none, silent-orders-none, part-orders-none, refused-orders-none, unscanned-orders-none, old-orders-none, lost-orders-none, told-lost-orders-none, quiet-are-ordered, unordered}
use Rattle.cmd_audit_laws.proofs.laws.a_reported_command_needs_each_of_its_parts.Goals as goal

pub returns-clause-heard : goal.returns-clause-heard
returns-clause-heard l = is-heard

pub returns-clause-closed : goal.returns-clause-closed
returns-clause-closed l = closed-hears-none

pub returns-clause-silent : goal.returns-clause-silent
returns-clause-silent l = silent-orders-none

pub returns-clause-part : goal.returns-clause-part
returns-clause-part l = part-orders-none

pub returns-clause-refused : goal.returns-clause-refused
returns-clause-refused l = refused-orders-none

pub returns-clause-unscanned : goal.returns-clause-unscanned
returns-clause-unscanned l = unscanned-orders-none

pub returns-clause-old : goal.returns-clause-old
returns-clause-old l = old-orders-none

pub returns-clause-lost : goal.returns-clause-lost
returns-clause-lost l = lost-orders-none

pub returns-clause-told_lost : goal.returns-clause-told_lost
returns-clause-told_lost l = told-lost-orders-none

pub returns-clause-quiet : goal.returns-clause-quiet
returns-clause-quiet l = quiet-are-ordered

pub returns-clause-unordered : goal.returns-clause-unordered
returns-clause-unordered l = unordered
