-- The names that a program declares.
use Rattle.std.specs.Prelude.{ℕ, List, [], ◌∷◌, ◌++◌}
use Rattle.std.specs.List.{flat_map}
use Rattle.il_text.specs.Listing.{DeclaredName}
use Rattle.il_text.specs.declared.program.DeclaredType.{DeclaredType}
use Rattle.il_text.specs.declared.program.DeclaredType.TheVariants.{Elementary, Timer}
use Rattle.il_text.specs.declared.program.VariableScope.{VariableScope}
use Rattle.il_text.specs.declared.program.VariableScope.TheVariants.{Local, External}

-- the names of a program's variables and of its timers
pub record NamesData : Type 0 where
  pub variables : List (List ℕ)
  pub timers : List (List ℕ)

-- the name, if it is that of a variable of the program
abbrev pub variable_in : VariableScope → DeclaredType → List ℕ → List (List ℕ)
variable_in Local (Elementary kind) name = name ∷ []
variable_in Local (Timer kind) name = []
variable_in External kind name = []

-- the name, if it is that of a timer
abbrev pub timer_in : VariableScope → DeclaredType → List ℕ → List (List ℕ)
timer_in Local (Elementary kind) name = []
timer_in Local (Timer kind) name = name ∷ []
timer_in External kind name = []

-- the names of the variables that are declared, in their order
abbrev pub variable_names : List DeclaredName → List (List ℕ)
variable_names = flat_map (λ d. variable_in d.scope d.kind d.name)

-- the names of the timers that are declared, in their order
abbrev pub timer_names : List DeclaredName → List (List ℕ)
timer_names = flat_map (λ d. timer_in d.scope d.kind d.name)

-- the names of the variables and of the timers that are declared
abbrev pub names_of : List DeclaredName → NamesData
names_of declared =
    record { variables = variable_names declared; timers = timer_names declared }

-- an image has no names of variables and timers
abbrev pub no_names : NamesData
no_names = names_of []

-- the name of a declaration is added after these names
abbrev pub with_declared : NamesData → DeclaredName → NamesData
with_declared names d = record {
  variables = names.variables ++ variable_in d.scope d.kind d.name;
  timers = names.timers ++ timer_in d.scope d.kind d.name;
}
