use Rattle.std.proofs.Common.{sym, ◌∙◌}
use Rattle.bay_report.proofs.ReportLemmas.{is-not}
use Rattle.bay_report.proofs.log.log_refusal.Goals as goal

pub returns-then-line-eq0 : goal.returns-then-line-eq0
returns-then-line-eq0 g c =
    rw (sym c.code.ensures ∙ c.in-Some.is, sym c.line-line.ensures, c.if-line-eq0.true)
    (rw (c.from.ensures, c.as_bytes.ensures.value, c.words.ensures) at c.log.ensures)

pub returns-else-line-eq0 : goal.returns-else-line-eq0
returns-else-line-eq0 g c =
    rw (
      sym c.code.ensures ∙ c.in-Some.is,
      sym c.line-line.ensures,
      is-not c.line-line.result c.if-line-eq0.false,
    )
    (rw (c.from.ensures, c.as_bytes.ensures.value, c.words.ensures) at
    c.log-else-line-eq0.ensures)
