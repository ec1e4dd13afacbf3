use Rattle.std.proofs.Common.{rules}
use Rattle.bay_config.proofs.BayLemmas.{lists-by-check}
use Rattle.bay_config.proofs.read.derive_lists.Goals as goal

pub returns-in_err-check_names : goal.returns-in_err-check_names
returns-in_err-check_names c = rw (lists-by-check c.args.sections.now) (search rules)

pub returns-in_err-check_remotes : goal.returns-in_err-check_remotes
returns-in_err-check_remotes c = rw (lists-by-check c.args.sections.now) (search rules)

pub returns : goal.returns
returns c =
    rw (
      lists-by-check c.args.sections.now,
      c.in_ok-rows.ensures.rows,
      c.as_slice-switches.ensures,
      c.as_slice-inputs.ensures,
      c.as_slice-meters.ensures,
    ) (search rules)
