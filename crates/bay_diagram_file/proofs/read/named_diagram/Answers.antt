use Rattle.std.proofs.Common.{◌≡◌, Option, None, Some, Ok, rules}
use Rattle.std.specs.Option.{ok_or}
use Rattle.toml.specs.Data.{Members}
use Rattle.toml.specs.View.{table_view}
use Rattle.bay_config.specs.Bay.{document_of}
use Rattle.bay_diagram_file.specs.Diagram.{file_fault}
use Rattle.bay_diagram_file.specs.declared.fault.FaultKind.TheVariants.{BadToml}
use Rattle.bay_diagram_file.proofs.read.named_diagram.Goals as goal

document-is : (o : Option Members) (m : Members) → ok_or o (file_fault BadToml) ≡ Ok m → o ≡ Some m
document-is None m is = absurd cc
document-is (Some n) m is = cc

pub returns : goal.returns
returns c =
    rw (document-is (document_of c.args.text.now) (table_view c.in_ok-file.file)
    c.in_ok-file.ensures) (search rules)
