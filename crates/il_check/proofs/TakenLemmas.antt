-- What taking one declaration changes.
use Rattle.std.proofs.Common.{◌≡◌, ℕ, Bool, is_some, List, ◌++◌, Option, Some, None, refl, ap, ◌∙◌}
use Rattle.std.specs.Option.{option_to_list}
use Rattle.std.specs.BTreeMap.{get_by_text}
use Rattle.bay_base.specs.Names.{upper}
use Rattle.bay_base.specs.declared.types.ElementaryType.{ElementaryType}
use Rattle.bay_base.specs.declared.point.Point.{Point}
use Rattle.il_text.specs.Listing as text
use Rattle.il_text.specs.declared.program.DeclaredType.{DeclaredType}
use Rattle.il_text.specs.declared.program.DeclaredType.TheVariants as type
use Rattle.il_text.specs.declared.program.VariableScope.{VariableScope}
use Rattle.il_text.specs.declared.program.VariableScope.TheVariants as scope
use Rattle.il_image.specs.declared.value.Value.{Value}
use Rattle.il_check.specs.Faults.{first_fault_of}
use Rattle.il_check.specs.NamesView.{with_value}
use Rattle.il_check.specs.Declaring.{point_external, declared_external, valued_variable, declared_variable, declared_timer, initial_value, meaning_at, point_of, name_faults, is_full}
use Rattle.il_check.specs.DeclarationsView.{counts_in, external_named, variable_named, external_added, variable_added, timer_added, AppendsParts, IsAfterDeclaration}
use Rattle.il_check.specs.declared.declare.Declarations.{Declarations}
use Rattle.il_check.specs.declared.source_operand.Meaning.{Meaning}
use Rattle.il_check.specs.declared.typed.External.{External}
use Rattle.il_check.specs.declared.typed.Variable.{Variable}
use Rattle.il_check.specs.declared.typed.Timer.{Timer}

same-external : (name : List ℕ) (kind : ElementaryType) (point : Option Point)
    → external_named (upper name) kind point ≡ point_external name kind point
same-external name kind None = refl
same-external name kind (Some p) = refl

external-same : (points : List Point) (d : text.DeclaredName) (as_declared : VariableScope)
    (kind : DeclaredType)
    → external_added (upper d.name) as_declared kind (point_of points d.name)
    ≡ declared_external points d as_declared kind
external-same points d scope.External (type.Elementary kind) =
    same-external d.name kind (point_of points d.name)
external-same points d scope.External (type.Timer kind) = refl
external-same points d scope.Local (type.Elementary kind) = refl
external-same points d scope.Local (type.Timer kind) = refl

same-variable : (name : List ℕ) (value : Option Value)
    → variable_named (upper name) value ≡ valued_variable name value
same-variable name None = refl
same-variable name (Some v) = refl

variable-same : (d : text.DeclaredName) (as_declared : VariableScope) (kind : DeclaredType)
    → variable_added (upper d.name) d as_declared kind ≡ declared_variable d as_declared kind
variable-same d scope.Local (type.Elementary kind) =
    same-variable d.name (initial_value kind d.initial)
variable-same d scope.Local (type.Timer kind) = refl
variable-same d scope.External (type.Elementary kind) = refl
variable-same d scope.External (type.Timer kind) = refl

timer-same : (d : text.DeclaredName) (kind : DeclaredType)
    → timer_added (upper d.name) kind ≡ declared_timer d kind
timer-same d (type.Timer kind) = refl
timer-same d (type.Elementary kind) = refl

-- what is noted of a declaration
pub record Noted (d : text.DeclaredName) (name : List ℕ) (point : Option Point)
    (is_known is_beyond : Bool) (meaning : Meaning) (old middle : Declarations) : Type 0 where
  pub beyond : is_beyond ≡ is_full (counts_in old) d.kind
  pub meant : meaning ≡ meaning_at (counts_in old) d.scope d.kind point
  pub known : is_known ≡ is_some (get_by_text old.meanings name)
  pub meanings : (other : List ℕ)
      → get_by_text middle.meanings other
      ≡ with_value (λ q. get_by_text old.meanings q) name meaning other
  pub found : middle.found ≡ first_fault_of old.found (name_faults point is_known is_beyond d)
  pub externals : middle.externals ≡ old.externals
  pub variables : middle.variables ≡ old.variables
  pub timers : middle.timers ≡ old.timers

-- a declaration that is noted and added is taken
pub taken : (points : List Point) (d : text.DeclaredName) (old middle new : Declarations)
    (name copy : List ℕ) (point : Option Point) (is_known is_beyond : Bool) (meaning : Meaning)
    → name ≡ upper d.name → copy ≡ name → point ≡ point_of points d.name
    → Noted d name point is_known is_beyond meaning old middle
    → AppendsParts copy d point middle new
    → IsAfterDeclaration points d old new
taken points d old middle new name copy point is_known is_beyond meaning named copied pointed so
    added = record {
      externals =
          added.externals
          ∙ ap (λ es. es.items ++ option_to_list (external_added copy d.scope d.kind point))
          so.externals
          ∙ ap (λ (n : List ℕ). old.externals.items
          ++ option_to_list (external_added n d.scope d.kind point)) (copied ∙ named)
          ∙ ap (λ (p : Option Point). old.externals.items
          ++ option_to_list (external_added (upper d.name) d.scope d.kind p)) pointed
          ∙ ap (λ (o : Option External). old.externals.items ++ option_to_list o)
          (external-same points d d.scope d.kind);
      variables =
          added.variables
          ∙ ap (λ vs. vs.items ++ option_to_list (variable_added copy d d.scope d.kind))
          so.variables
          ∙ ap (λ (n : List ℕ). old.variables.items
          ++ option_to_list (variable_added n d d.scope d.kind)) (copied ∙ named)
          ∙ ap (λ (o : Option Variable). old.variables.items ++ option_to_list o)
          (variable-same d d.scope d.kind);
      timers =
          added.timers
          ∙ ap (λ ts. ts.items ++ option_to_list (timer_added copy d.kind)) so.timers
          ∙ ap (λ (n : List ℕ). old.timers.items ++ option_to_list (timer_added n d.kind))
          (copied ∙ named)
          ∙ ap (λ (o : Option Timer). old.timers.items ++ option_to_list o) (timer-same d d.kind);
      meanings = λ other.
          ap (λ m. get_by_text m other) added.meanings
          ∙ so.meanings other
          ∙ ap (λ (m : Meaning). with_value (λ q. get_by_text old.meanings q) name m other)
          (so.meant ∙ ap (λ (p : Option Point). meaning_at (counts_in old) d.scope d.kind p)
          pointed)
          ∙ ap (λ (n : List ℕ). with_value (λ q. get_by_text old.meanings q) n
          (meaning_at (counts_in old) d.scope d.kind (point_of points d.name)) other) named;
      found =
          added.found
          ∙ so.found
          ∙ ap (λ (p : Option Point). first_fault_of old.found (name_faults p is_known is_beyond d))
          pointed
          ∙ ap (λ (b : Bool). first_fault_of old.found
          (name_faults (point_of points d.name) b is_beyond d))
          (so.known ∙ ap (λ (n : List ℕ). is_some (get_by_text old.meanings n)) named)
          ∙ ap (λ (b : Bool). first_fault_of old.found
          (name_faults (point_of points d.name) (is_some (get_by_text old.meanings (upper d.name)))
          b d)) so.beyond;
    }
