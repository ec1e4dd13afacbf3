use Rattle.std.proofs.Common.{refl}
use Rattle.bay_mms.specs.Views.{data_in}
use Rattle.bay_mms.proofs.ControlLemmas.{list-before}
use Rattle.bay_mms.proofs.RequestLemmas.{view-structure}
use Rattle.bay_mms.proofs.shape.parts_from_data.Goals as goal

pub returns-in-Structure : goal.returns-in-Structure
returns-in-Structure c =
    let parts = c.in-Structure.parts in
    rw (
      c.in-Structure.is,
      view-structure parts,
      list-before (data_in parts.items),
      c.as_slice.ensures.value,
    ) refl
