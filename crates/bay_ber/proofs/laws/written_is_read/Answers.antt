use Rattle.bay_ber.proofs.TagLemmas.{identifier-of}
use Rattle.bay_ber.proofs.WriteLemmas.{element-begins, integer-is, bit-string-is, truth-is}
use Rattle.bay_ber.proofs.laws.written_is_read.Goals as goal

pub returns-clause-octet : goal.returns-clause-octet
returns-clause-octet c = identifier-of

pub returns-clause-value : goal.returns-clause-value
returns-clause-value c = element-begins

pub returns-clause-integer : goal.returns-clause-integer
returns-clause-integer c = integer-is

pub returns-clause-bits : goal.returns-clause-bits
returns-clause-bits c = bit-string-is

pub returns-clause-truth : goal.returns-clause-truth
returns-clause-truth c = truth-is
