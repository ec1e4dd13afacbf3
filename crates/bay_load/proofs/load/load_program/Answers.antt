use Rattle.il_text.specs.Views.{plain_program}
use Rattle.bay_load.proofs.load.load_program.Goals as goal

pub load_checked-requires-clause-checked : goal.load_checked-requires-clause-checked
load_checked-requires-clause-checked c = (
  plain_program c.args.program.now,
  rw (c.as_slice.ensures, c.deref.ensures) at c.in_ok-typed.ensures.checked,
)
