-- What is printed is read back: the four lines.
use Rattle.std.proofs.Common.{refl}
use Rattle.std.specs.Fmt.{decimal}
use Rattle.hex.specs.Hex.{encode_lower}
use Rattle.bay_replay_laws.specs.ReadBack.{ReadsBudgets, ReadsCommands, ReadsScans, ReadsSends, switches_digits}
use Rattle.bay_replay_laws.proofs.LineLemmas.{hex-free}
use Rattle.bay_replay_laws.proofs.NameLemmas.{name-plain}
use Rattle.bay_replay_laws.proofs.PrintLemmas.{command-is, load-is, scan-is, told-plain}
use Rattle.bay_replay_laws.proofs.ReadLemmas.{budget-read, command-read, load_line, order_line, scan-read, scan_line, send-read, send_line}
use Rattle.bay_replay_laws.proofs.WholeLemmas.{send-whole}

pub reads-budgets : ReadsBudgets
reads-budgets report small = (
  load_line report.instructions report.depth report.budget,
  load-is report,
  budget-read report.instructions report.depth report.budget small,
)

pub reads-scans : ReadsScans
reads-scans now steps s early few ids = (
  scan_line now steps (switches_digits s 0 s.switches),
  scan-is now steps s,
  scan-read now steps (switches_digits s 0 s.switches) early few (told-plain s 0 s.switches ids),
)

pub reads-commands : ReadsCommands
reads-commands now id o early named = (
  order_line now id o,
  command-is now id o,
  command-read now id o early (name-plain 16 id named),
)

pub reads-sends : ReadsSends
reads-sends now sent = (
  send_line now sent.association (encode_lower sent.octets),
  send-whole (decimal now) (decimal sent.association) (encode_lower sent.octets),
  send-read now sent.association (encode_lower sent.octets) (hex-free 32 sent.octets refl),
)
