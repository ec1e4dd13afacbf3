use Rattle.std.proofs.Common.{sym, ◌∙◌}
use Rattle.bay_trace.proofs.TextLemmas.{read-is_text}
use Rattle.bay_trace.proofs.trace.read_trace_line.Goals as goal

pub returns-clause-text : goal.returns-clause-text
returns-clause-text c =
    read-is_text c.parse_moment_line.result c.args.line.now
    (sym c.is_empty.ensures ∙ c.if-is_empty.false)
    c.parse_moment_line.ensures
