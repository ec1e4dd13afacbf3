use Rattle.std.proofs.Common.{ap, ◌∙◌}
use Rattle.bay_load.specs.Errors.{verify_error}
use Rattle.bay_load.proofs.load.load_decoded.Goals as goal

pub returns-in-Err-clause-refused : goal.returns-in-Err-clause-refused
returns-in-Err-clause-refused c m =
    let refused = rw (c.as_slice.ensures, c.deref.ensures) at c.in-Err.ensures.refused in (
      c.in-Err.refused.fault,
      c.in-Err.refused.place,
      refused (λ e. m (c.from.ensures ∙ ap verify_error e)),
      c.from.ensures,
    )
