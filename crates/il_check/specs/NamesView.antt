-- Inner: the names of a program in the code.
use Rattle.std.specs.Prelude.{ℕ, ◌&&◌, is_none, List, Option, Some, if◌then◌else◌}
use Rattle.std.specs.BTreeMap.{get_by_text}
use Rattle.std.specs.Str.{bytes_eq}
use Rattle.bay_base.specs.Names.{upper}
use Rattle.il_check.specs.SourceOperands as spec
use Rattle.il_check.specs.declared.names.ProgramNames.{ProgramNames}

-- ---- own: views of the code

-- the names of a program, looked up in upper case
abbrev pub names_of : ProgramNames → spec.ProgramNames
names_of n =
    record {
      meaning = λ name. get_by_text n.meanings (upper name);
      label = λ name. get_by_text n.labels (upper name);
    }

-- the values of names after a name gets a value; a name that has one already keeps it
abbrev pub with_value : {A : Type 0} → (List ℕ → Option A) → List ℕ → A → List ℕ → Option A
with_value values name value other =
    if bytes_eq name other && is_none (values name) then Some value else values other
