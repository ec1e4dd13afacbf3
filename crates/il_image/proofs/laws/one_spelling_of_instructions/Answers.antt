use Rattle.il_image.proofs.InstrLemmas.{back-instr}
use Rattle.il_image.proofs.PlaceLemmas.{newer-reads, spelled-so, stands-or-none}
use Rattle.il_image.proofs.laws.one_spelling_of_instructions.Goals as goal

pub returns-clause-written : goal.returns-clause-written
returns-clause-written c = back-instr

pub returns-clause-read : goal.returns-clause-read
returns-clause-read c = spelled-so

pub returns-clause-newer : goal.returns-clause-newer
returns-clause-newer c = newer-reads

pub returns-clause-places : goal.returns-clause-places
returns-clause-places c = stands-or-none
