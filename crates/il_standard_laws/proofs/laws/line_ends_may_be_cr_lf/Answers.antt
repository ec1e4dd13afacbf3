use Rattle.il_standard_laws.proofs.LineEndLemmas.{comments-crlf, files-crlf}
use Rattle.il_standard_laws.proofs.laws.line_ends_may_be_cr_lf.Goals as goal

pub returns-clause-comments : goal.returns-clause-comments
returns-clause-comments c = comments-crlf

pub returns-clause-files : goal.returns-clause-files
returns-clause-files c = files-crlf
