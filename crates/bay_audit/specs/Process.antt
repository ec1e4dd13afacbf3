-- The values that the points of a program read from the process, and a process that is lost.
use Rattle.std.specs.Prelude.{ℕ, ◌<◌, ◌≡◌, ◌≤ℤ◌, negsuc, pos, false, length, Some}
use Rattle.bay_config.specs.declared.bay.Bay.{Bay}
use Rattle.bay_base.specs.declared.point.MeterField.{MeterField}
use Rattle.bay_base.specs.declared.point.Source.{Source}
use Rattle.bay_base.specs.declared.point.Source.TheVariants as source
use Rattle.bay_process.specs.Values.{position_value}
use Rattle.bay_audit_rules.specs.Process.{Process}
use Rattle.bay_base.specs.declared.position.Dbpos.TheVariants.{Bad}
use Rattle.bay_tree.specs.declared.leaf.Leaf.TheVariants as leaf
use Rattle.il_image.specs.declared.value.Value.{Value}
use Rattle.il_image.specs.declared.value.Value.TheVariants.{Truth, Long}

-- Each measured value fits 32 bits, as a process can report it.
pub record IsProcess (p : Process) : Type 0 where
  pub least : (meter : ℕ) (field : MeterField) → negsuc 2147483647 ≤ℤ p.measure meter field
  pub greatest : (meter : ℕ) (field : MeterField) → p.measure meter field ≤ℤ pos 2147483647

-- The process is lost: the position of each of the bay's switches is bad, and each of its inputs is
-- FALSE. Its measured values may be anything.
pub record IsLost (bay : Bay) (p : Process) : Type 0 where
  pub positions : (k : ℕ) → k < length bay.switches → p.position k ≡ Bad
  pub inputs : (k : ℕ) → k < length bay.inputs → p.input k ≡ false

-- the value of a source for this process
abbrev pub process_value : Process → Source → Value
process_value p (source.Switch k point) = position_value point (Some (leaf.Dbpos (p.position k)))
process_value p (source.Input k) = Truth (p.input k)
process_value p (source.Meter k field) = Long (p.measure k field)
