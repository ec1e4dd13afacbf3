-- Reading and writing the memory of a program by name.
use Rattle.std.specs.Prelude.{◌≡◌, ℕ, Bool, List, map, slice_get, slice_set, Some, if◌then◌else◌}
use Rattle.std.specs.Str.{bytes_eq}
use Rattle.bay_base.specs.Names.{upper}
use Rattle.bay_base.specs.declared.types.ElementaryType.{ElementaryType}
use Rattle.il_image.specs.declared.timer.TimerState.{TimerState}
use Rattle.il_image.specs.declared.value.Value.{Value}
use Rattle.il_check.specs.SourceOperands.{ProgramNames}
use Rattle.il_check.specs.Program.{Checked}
use Rattle.il_check.specs.declared.source_operand.Meaning.TheVariants as meaning
use Rattle.il_check.specs.declared.typed.Slot.{Slot}
use Rattle.il_compile.specs.Meaning.{Memory, slot_value, with_value}

-- the memory in which each external, variable and timer has the value that a map has for its name
abbrev pub named_memory : Checked → (List ℕ → Value) → (List ℕ → TimerState) → Memory
named_memory c values timers = record {
  externals = map (λ e. values e.name) c.externals;
  variables = map (λ v. values v.name) c.variables;
  timers = map (λ t. timers t.name) c.timers;
}

-- a map with another value for a name
abbrev pub changed_at : {A : Type 0} → List ℕ → A → (List ℕ → A) → List ℕ → A
changed_at name x values other = if bytes_eq name other then x else values other

-- Reading a name results in the value that a map has for it, in upper case; and writing to a name
-- changes the map at this name and nowhere else.
pub record AccessesByName (names : ProgramNames) (c : Checked) (values : List ℕ → Value)
    (timers : List ℕ → TimerState) : Type 0 where
  pub reads : (name : List ℕ) (s : Slot) (kind : ElementaryType) (writable : Bool)
      → names.meaning name ≡ Some (meaning.Variable s kind writable) →
      slot_value s (named_memory c values timers) ≡ Some (values (upper name))
  pub writes : (name : List ℕ) (s : Slot) (kind : ElementaryType) (writable : Bool) (v : Value)
      → names.meaning name ≡ Some (meaning.Variable s kind writable) →
      with_value s v (named_memory c values timers)
      ≡ named_memory c (changed_at (upper name) v values) timers
  pub timer_reads : (name : List ℕ) (n : ℕ) → names.meaning name ≡ Some (meaning.Timer n)
      → slice_get (named_memory c values timers).timers n ≡ Some (timers (upper name))
  pub timer_writes : (name : List ℕ) (n : ℕ) (t : TimerState)
      → names.meaning name ≡ Some (meaning.Timer n) →
      slice_set (named_memory c values timers).timers n t
      ≡ (named_memory c values (changed_at (upper name) t timers)).timers
