use Rattle.std.proofs.Common.{◌++◌, append_assoc, codes, sym}
use Rattle.std.specs.Fmt.{decimal}
use Rattle.bay_diagram_file.specs.Code.{words_of}
use Rattle.cmd_audit.proofs.refusal.log_diagram_fault.Goals as goal

pub returns-in-None : goal.returns-in-None
returns-in-None g c =
    rw (sym c.in-Some.ensures, sym c.in-None.ensures)
    (rw (c.from.ensures, c.as_bytes.ensures.value, c.words.ensures) at c.log.ensures)

pub returns-in-Some-table_of : goal.returns-in-Some-table_of
returns-in-Some-table_of g c =
    let rest = codes ": " ++ (words_of c.args.fault.kind ++ codes "\n") in
    rw (
      sym c.in-Some.ensures,
      sym c.in-Some-table_of.ensures,
      append_assoc c.in-Some-table_of.section.now (decimal c.in-Some-table_of.number) rest,
    )
    (rw (
      c.from.ensures,
      c.as_bytes.ensures.value,
      c.words.ensures,
      c.as_bytes-in-Some-table_of.ensures.value,
    ) at c.log-in-Some-table_of.ensures)
