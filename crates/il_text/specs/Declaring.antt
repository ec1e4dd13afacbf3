-- Inner: the declarations of a list of names, after others.
use Rattle.std.specs.Prelude.{ℕ, Bool, List, ◌++◌, map, Option, option_map}
use Rattle.il_text.specs.TokenForms.{names_from}
use Rattle.il_text.specs.Listing.{DeclaredName}
use Rattle.il_text.specs.Steps.{declared_in}
use Rattle.il_text.specs.Tokens.{Symbol}
use Rattle.il_text.specs.declared.form.Tail.{Tail}
use Rattle.il_text.specs.declared.program.VariableScope.{VariableScope}

-- ---- own: views of the code

-- the declarations before, and one for each name of the list; none if the tokens are no list of
-- names; `after_name`: a comma or the end comes next
unfoldable pub declared_from : ℕ → VariableScope → Tail → List DeclaredName → Bool → List Symbol
    → Option (List DeclaredName)
declared_from line scope tail before after_name ss =
    option_map (λ ns. before ++ map (declared_in line scope tail.kind tail.initial) ns)
    (names_from after_name ss)
