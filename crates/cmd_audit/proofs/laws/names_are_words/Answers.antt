use Rattle.cmd_audit.proofs.BayNameLemmas.{bays-have-words}
use Rattle.cmd_audit.proofs.DiagramNameLemmas.{diagrams-have-words}
use Rattle.cmd_audit.proofs.NameLemmas.{names-are-words}
use Rattle.cmd_audit.proofs.laws.names_are_words.Goals as goal

pub returns-clause-program : goal.returns-clause-program
returns-clause-program c = names-are-words

pub returns-clause-bay : goal.returns-clause-bay
returns-clause-bay c = bays-have-words

pub returns-clause-diagram : goal.returns-clause-diagram
returns-clause-diagram c = diagrams-have-words
