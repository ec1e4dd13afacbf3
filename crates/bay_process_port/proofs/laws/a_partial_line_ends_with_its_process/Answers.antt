use Rattle.bay_process_port.proofs.ExampleLemmas.{keeps-front, loses-front}
use Rattle.bay_process_port.proofs.laws.a_partial_line_ends_with_its_process.Goals as goal

pub returns-clause-here : goal.returns-clause-here
returns-clause-here l = keeps-front

pub returns-clause-gone : goal.returns-clause-gone
returns-clause-gone l = loses-front
