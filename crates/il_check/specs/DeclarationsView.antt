-- Inner: the declarations so far, in the code.
use Rattle.std.specs.Prelude.{◌≡◌, ℕ, List, ◌++◌, Option, None, Some, is_some, vec_len}
use Rattle.std.specs.Option.{option_to_list}
use Rattle.std.specs.BTreeMap.{get_by_text}
use Rattle.bay_base.specs.Names.{upper}
use Rattle.bay_base.specs.declared.types.ElementaryType.{ElementaryType}
use Rattle.bay_base.specs.declared.point.Point.{Point}
use Rattle.il_text.specs.Listing as text
use Rattle.il_text.specs.declared.program.DeclaredType.{DeclaredType}
use Rattle.il_text.specs.declared.program.DeclaredType.TheVariants as type
use Rattle.il_text.specs.declared.program.VariableScope.{VariableScope}
use Rattle.il_text.specs.declared.program.VariableScope.TheVariants as scope
use Rattle.il_image.specs.declared.value.Value.{Value}
use Rattle.il_check.specs.Faults.{first_fault_of}
use Rattle.il_check.specs.NamesView.{with_value}
use Rattle.il_check.specs.Declaring.{Counts, externals_of, variables_of, timers_of, meanings_of, looked_up, initial_value, meaning_at, is_full, name_faults, declared_external, declared_variable, declared_timer, point_of}
use Rattle.il_check.specs.declared.declare.Declarations.{Declarations}
use Rattle.il_check.specs.declared.typed.External.{External}
use Rattle.il_check.specs.declared.typed.Variable.{Variable}
use Rattle.il_check.specs.declared.typed.Timer.{Timer}

-- ---- own: views of the code

-- the numbers of externals, variables and timers so far
abbrev pub counts_in : Declarations → Counts
counts_in d =
    record {
      externals = vec_len d.externals;
      variables = vec_len d.variables;
      timers = vec_len d.timers;
    }

-- the external with a name in upper case, if it has a point
abbrev pub external_named : List ℕ → ElementaryType → Option Point → Option External
external_named name kind None = None
external_named name kind (Some p) =
    Some (record { name = name; kind = kind; writable = p.writable; source = p.source })

-- the variable of a name with its initial value, if it has one
abbrev pub variable_named : List ℕ → Option Value → Option Variable
variable_named name None = None
variable_named name (Some v) = Some (record { name = name; initial = v })

-- the external that a declaration adds, if any, given its name in upper case
abbrev pub external_added : List ℕ → VariableScope → DeclaredType → Option Point → Option External
external_added name scope.External (type.Elementary kind) point = external_named name kind point
external_added name declared_as kind point = None

-- the variable that a declaration adds, if any: a local name with an elementary type and a value
-- that fits
abbrev pub variable_added : List ℕ → text.DeclaredName → VariableScope → DeclaredType
    → Option Variable
variable_added name d scope.Local (type.Elementary kind) =
    variable_named name (initial_value kind d.initial)
variable_added name d declared_as kind = None

-- the timer that a declaration adds, if any: a name with the type of a timer
abbrev pub timer_added : List ℕ → DeclaredType → Option Timer
timer_added name (type.Timer kind) = Some (record { name = name; kind = kind })
timer_added name (type.Elementary kind) = None

-- Only the externals have changed.
pub record SameButExternals (old new : Declarations) : Type 0 where
  pub variables : new.variables ≡ old.variables
  pub timers : new.timers ≡ old.timers
  pub meanings : new.meanings ≡ old.meanings
  pub found : new.found ≡ old.found

-- Only the variables have changed.
pub record SameButVariables (old new : Declarations) : Type 0 where
  pub externals : new.externals ≡ old.externals
  pub timers : new.timers ≡ old.timers
  pub meanings : new.meanings ≡ old.meanings
  pub found : new.found ≡ old.found

-- Only the timers have changed.
pub record SameButTimers (old new : Declarations) : Type 0 where
  pub externals : new.externals ≡ old.externals
  pub variables : new.variables ≡ old.variables
  pub meanings : new.meanings ≡ old.meanings
  pub found : new.found ≡ old.found

-- The externals, variables and timers that a declaration adds are appended.
pub record AppendsParts (name : List ℕ) (d : text.DeclaredName) (point : Option Point)
    (old new : Declarations)
    : Type 0 where
  pub externals : new.externals.items
      ≡ old.externals.items ++ option_to_list (external_added name d.scope d.kind point)
  pub variables : new.variables.items
      ≡ old.variables.items ++ option_to_list (variable_added name d d.scope d.kind)
  pub timers : new.timers.items ≡ old.timers.items ++ option_to_list (timer_added name d.kind)
  pub meanings : new.meanings ≡ old.meanings
  pub found : new.found ≡ old.found

-- The new declarations are the old ones and one more.
pub record IsAfterDeclaration (points : List Point) (d : text.DeclaredName) (old new : Declarations)
    : Type 0 where
  pub externals : new.externals.items
      ≡ old.externals.items ++ option_to_list (declared_external points d d.scope d.kind)
  pub variables : new.variables.items
      ≡ old.variables.items ++ option_to_list (declared_variable d d.scope d.kind)
  pub timers : new.timers.items ≡ old.timers.items ++ option_to_list (declared_timer d d.kind)
  pub meanings : (other : List ℕ) → get_by_text new.meanings other
      ≡ with_value (λ q. get_by_text old.meanings q) (upper d.name)
      (meaning_at (counts_in old) d.scope d.kind (point_of points d.name)) other
  pub found : new.found
      ≡ first_fault_of old.found (name_faults (point_of points d.name)
      (is_some (get_by_text old.meanings (upper d.name))) (is_full (counts_in old) d.kind) d)

-- These are the declarations `declared`, in order.
pub record AreDeclarations (points : List Point) (declared : List text.DeclaredName)
    (d : Declarations)
    : Type 0 where
  pub externals : d.externals.items ≡ externals_of points declared
  pub variables : d.variables.items ≡ variables_of declared
  pub timers : d.timers.items ≡ timers_of declared
  pub meanings : (name : List ℕ)
      → get_by_text d.meanings name ≡ looked_up (meanings_of points declared) name
