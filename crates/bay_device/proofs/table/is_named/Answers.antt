use Rattle.std.proofs.Common.{sym, ◌∙◌}
use Rattle.bay_device.proofs.TableLemmas.{same-spelled}
use Rattle.bay_device.proofs.table.is_named.Goals as goal

pub returns-then-eq : goal.returns-then-eq
returns-then-eq c = c.if-eq.true ∙ sym (same-spelled _ _ (sym c.eq.ensures ∙ c.if-eq.true))
