-- The meaning of a program's declarations (IEC 61131-3:2003, 2.4.3), and their faults.
use Rattle.std.specs.Prelude.{ℕ, ◌+◌, Bool, true, false, not, ◌&&◌, nat_lt, nat_le, is_some, is_none, List, [], ◌∷◌, ◌++◌, length, find, filter_map, Option, None, Some, if◌then◌else◌}
use Rattle.std.specs.Char.{to_ascii_uppercase}
use Rattle.std.specs.List.{list_all}
use Rattle.std.specs.Str.{bytes_eq}
use Rattle.bay_base.specs.Names.{upper, same_name}
use Rattle.bay_base.specs.Types.{same_type}
use Rattle.bay_base.specs.declared.types.ElementaryType.{ElementaryType}
use Rattle.bay_base.specs.declared.point.Point.{Point}
use Rattle.il_text.specs.Listing as text
use Rattle.il_text.specs.declared.program.DeclaredType.{DeclaredType}
use Rattle.il_text.specs.declared.program.DeclaredType.TheVariants.{Elementary, Timer}
use Rattle.il_text.specs.declared.program.Literal.{Literal}
use Rattle.il_text.specs.declared.program.Literal.TheVariants as literal
use Rattle.il_text.specs.declared.program.VariableScope.{VariableScope}
use Rattle.il_text.specs.declared.program.VariableScope.TheVariants.{Local, External}
use Rattle.il_image.specs.declared.value.Value.{Value}
use Rattle.il_image.specs.Images.{is_name_octet}
use Rattle.il_image.specs.Values.{default_value, type_of}
use Rattle.il_image.specs.Machine.{most_slots, most_timers}
use Rattle.il_check.specs.Faults.{fault_if}
use Rattle.il_check.specs.SourceOperands.{ProgramNames, typed_value}
use Rattle.il_check.specs.Rules.{typed_number}
use Rattle.il_check.specs.declared.typed.External as given
use Rattle.il_check.specs.declared.typed.Variable.{Variable}
use Rattle.il_check.specs.declared.typed.Timer as own
use Rattle.il_check.specs.declared.typed.Slot.TheVariants as slot
use Rattle.il_check.specs.declared.source_operand.Meaning.{Meaning}
use Rattle.il_check.specs.declared.source_operand.Meaning.TheVariants as meaning
use Rattle.il_check.specs.declared.fault.CheckFault.{CheckFault}
use Rattle.il_check.specs.declared.fault.CheckFault.TheVariants.{UnknownName, DuplicateName, TypeMismatch, TooMany}

-- ---- IEC 61131-3 2.4.3: declarations

-- whether the declaration is in a VAR_EXTERNAL block
abbrev pub is_external : VariableScope → Bool
is_external Local = false
is_external External = true

-- whether an octet may be in a name, letters in either case (IEC 61131-3, 2.1.2)
abbrev pub may_be_in_name : ℕ → Bool
may_be_in_name octet = is_name_octet (to_ascii_uppercase octet)

-- whether a name is 1 to 64 letters, digits and underscores (IEC 61131-3, 2.1.2)
abbrev pub is_name : List ℕ → Bool
is_name name = (nat_lt 0 (length name) && nat_le (length name) 64) && list_all may_be_in_name name

-- ---- own: points of the bay

-- the first point with this name, letters in either case
abbrev pub named_point : List Point → List ℕ → Option Point
named_point points name = find (λ p. same_name p.name name) points

-- the point with this name; a malformed name has none
abbrev pub point_of : List Point → List ℕ → Option Point
point_of points name = if is_name name then named_point points name else None

-- ---- IEC 61131-3 2.4.3.2: initial values

-- the value, if it is one of this type (own)
abbrev pub of_type : ElementaryType → Option Value → Option Value
of_type kind None = None
of_type kind (Some v) = if same_type (type_of v) kind then Some v else None

-- the value of a literal as one of this type, if it is one
abbrev pub literal_value : ElementaryType → Literal → Option Value
literal_value kind (literal.Truth b) = of_type kind (typed_value (literal.Truth b))
literal_value kind (literal.Number z) = typed_number kind z
literal_value kind (literal.Int z) = of_type kind (typed_value (literal.Int z))
literal_value kind (literal.Dint z) = of_type kind (typed_value (literal.Dint z))
literal_value kind (literal.Lint z) = of_type kind (typed_value (literal.Lint z))
literal_value kind (literal.Time n) = of_type kind (typed_value (literal.Time n))

-- the initial value of a variable of a type, if the literal fits it
abbrev pub initial_value : ElementaryType → Option Literal → Option Value
initial_value kind None = Some (default_value kind)
initial_value kind (Some given) = literal_value kind given

-- whether the point has this type; true if there is no point (own)
abbrev pub point_has_type : Option Point → ElementaryType → Bool
point_has_type None kind = true
point_has_type (Some p) kind = same_type p.kind kind

-- ---- IEC 61131-3 2.4.3.1: types

-- whether a declaration fits its type: an external has its point's type, a variable's literal fits
-- it, and no point is declared as a timer
abbrev pub is_typed : VariableScope → DeclaredType → Option Point → Option Literal → Bool
is_typed Local (Elementary kind) point given = is_some (initial_value kind given)
is_typed Local (Timer kind) point given = true
is_typed External (Elementary kind) point given = point_has_type point kind
is_typed External (Timer kind) point given = is_none point

-- whether there is a point and the program may write it (own)
abbrev pub is_writable : Option Point → Bool
is_writable None = false
is_writable (Some p) = p.writable

-- ---- own: what is declared, in order, and the meanings of names

-- the external of a name with a type, if it has a point
abbrev pub point_external : List ℕ → ElementaryType → Option Point → Option given.External
point_external name kind None = None
point_external name kind (Some p) =
    Some (record { name = upper name; kind = kind; writable = p.writable; source = p.source })

-- the external that a declaration adds, if any
abbrev pub declared_external : List Point → text.DeclaredName → VariableScope → DeclaredType
    → Option given.External
declared_external points d External (Elementary kind) =
    point_external d.name kind (point_of points d.name)
declared_external points d scope kind = None

-- the variable of a name with its initial value, if it has one
abbrev pub valued_variable : List ℕ → Option Value → Option Variable
valued_variable name None = None
valued_variable name (Some v) = Some (record { name = upper name; initial = v })

-- the variable that a declaration adds, if any: a local name with an elementary type and a value
-- that fits
abbrev pub declared_variable : text.DeclaredName → VariableScope → DeclaredType → Option Variable
declared_variable d Local (Elementary kind) = valued_variable d.name (initial_value kind d.initial)
declared_variable d scope kind = None

-- the timer that a declaration adds, if any: a name with the type of a timer
abbrev pub declared_timer : text.DeclaredName → DeclaredType → Option own.Timer
declared_timer d (Timer kind) = Some (record { name = upper d.name; kind = kind })
declared_timer d (Elementary kind) = None

-- the externals that declarations add, in their order
abbrev pub externals_of : List Point → List text.DeclaredName → List given.External
externals_of points declared = filter_map (λ d. declared_external points d d.scope d.kind) declared

-- the variables that declarations add, in their order
abbrev pub variables_of : List text.DeclaredName → List Variable
variables_of declared = filter_map (λ d. declared_variable d d.scope d.kind) declared

-- the timers that declarations add, in their order
abbrev pub timers_of : List text.DeclaredName → List own.Timer
timers_of declared = filter_map (λ d. declared_timer d d.kind) declared

-- numbers of externals, variables and timers
pub record Counts : Type 0 where
  pub externals : ℕ
  pub variables : ℕ
  pub timers : ℕ

-- the numbers of these that the declarations add
abbrev pub counts_of : List Point → List text.DeclaredName → Counts
counts_of points declared = record {
  externals = length (externals_of points declared);
  variables = length (variables_of declared);
  timers = length (timers_of declared);
}

-- the meaning of a name that is declared after these numbers of others
abbrev pub meaning_at : Counts → VariableScope → DeclaredType → Option Point → Meaning
meaning_at counts Local (Elementary kind) point =
    meaning.Variable (slot.Variable counts.variables) kind true
meaning_at counts External (Elementary kind) point =
    meaning.Variable (slot.External counts.externals) kind (is_writable point)
meaning_at counts scope (Timer kind) point = meaning.Timer counts.timers

-- the meaning of each declared name, after other declarations
abbrev pub meanings_from : List Point → List text.DeclaredName → List text.DeclaredName
    → List (List ℕ × Meaning)
meanings_from points before [] = []
meanings_from points before (d ∷ ds) =
    (upper d.name, meaning_at (counts_of points before) d.scope d.kind (point_of points d.name))
    ∷ meanings_from points (before ++ d ∷ []) ds

-- the meaning of each declared name
abbrev pub meanings_of : List Point → List text.DeclaredName → List (List ℕ × Meaning)
meanings_of points declared = meanings_from points [] declared

-- the value of the first entry with this name, in upper case
abbrev pub looked_up : {A : Type 0} → List (List ℕ × A) → List ℕ → Option A
looked_up [] name = None
looked_up (e ∷ es) name = if bytes_eq e.0 name then Some e.1 else looked_up es name

-- each label's name and number, counted from `number`
abbrev pub labels_from : ℕ → List text.Entry → List (List ℕ × ℕ)
labels_from number [] = []
labels_from number (text.label line name ∷ es) = (upper name, number) ∷ labels_from (number + 1) es
labels_from number (text.action line a ∷ es) = labels_from number es
labels_from number (text.block line operator negated items end ∷ es) = labels_from number es

-- the meanings of the names of a program
abbrev pub names_in : List Point → text.PlainProgram → ProgramNames
names_in points program = record {
  meaning = λ name. looked_up (meanings_of points program.declarations) (upper name);
  label = λ name. looked_up (labels_from 0 program.items) (upper name);
}

-- whether one more variable or timer is too many: a machine has no slot or no timer for it
abbrev pub is_full : Counts → DeclaredType → Bool
is_full counts (Elementary kind) = nat_le most_slots (counts.externals + counts.variables)
is_full counts (Timer kind) = nat_le most_timers counts.timers

-- ---- own: faults of declarations

-- the faults of a declaration; `is_known`: its name was declared before; `is_beyond`: it is one too
-- many
abbrev pub name_faults : Option Point → Bool → Bool → text.DeclaredName → List CheckFault
name_faults point is_known is_beyond d =
    fault_if (is_external d.scope && is_none point) (UnknownName d.line)
    ++ (fault_if is_known (DuplicateName d.line)
    ++ (fault_if (not (is_typed d.scope d.kind point d.initial)) (TypeMismatch d.line)
    ++ fault_if is_beyond (TooMany d.line)))

-- the faults of a declaration after others
abbrev pub declaration_faults : List Point → List text.DeclaredName → text.DeclaredName
    → List CheckFault
declaration_faults points before d =
    name_faults (point_of points d.name)
    (is_some (looked_up (meanings_of points before) (upper d.name)))
    (is_full (counts_of points before) d.kind) d

-- the faults of declarations after others
abbrev pub declarations_faults : List Point → List text.DeclaredName → List text.DeclaredName
    → List CheckFault
declarations_faults points before [] = []
declarations_faults points before (d ∷ ds) =
    declaration_faults points before d ++ declarations_faults points (before ++ d ∷ []) ds
