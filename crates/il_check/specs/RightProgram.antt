-- Which programs are valid, with the points of a bay (IEC 61131-3:2003, 2.4.3 and 3.2).
use Rattle.std.specs.Prelude.{◌≡◌, true, false, IsSome, List, ◌∷◌, ◌++◌}
use Rattle.std.specs.List.{list_any}
use Rattle.bay_base.specs.Names.{same_name}
use Rattle.bay_base.specs.declared.point.Point.{Point}
use Rattle.il_text.specs.Listing as text
use Rattle.il_check.specs.Declaring.{counts_of, is_external, is_full, is_typed, names_in, point_of}
use Rattle.il_check.specs.Labelling.{IsWellTyped}

-- ---- IEC 61131-3 2.4.3: declarations

-- A declaration is valid after others: an external's name is a point's; no name is declared twice;
-- an external has its point's type, a literal fits its variable, and no point is declared as a
-- timer; and there are not too many declarations.
pub record IsRightDeclaration (points : List Point) (before : List text.DeclaredName)
    (d : text.DeclaredName) : Type 0 where
  pub known : is_external d.scope ≡ true → IsSome (point_of points d.name)
  pub own : list_any (λ e. same_name e.name d.name) before ≡ false
  pub typed : is_typed d.scope d.kind (point_of points d.name) d.initial ≡ true
  pub few : is_full (counts_of points before) d.kind ≡ false

-- Each declaration is valid after those before it.
abbrev pub AreRightDeclarations : List Point → List text.DeclaredName → Type 0
AreRightDeclarations points declared =
    (before : List text.DeclaredName) (d : text.DeclaredName) (after : List text.DeclaredName)
    → declared ≡ before ++ d ∷ after → IsRightDeclaration points before d

-- ---- IEC 61131-3 2.4.3, 3.2: programs

-- Each declaration is valid after those before it, and some labelling (a type of the current
-- result, or unset, for each label) makes every instruction reached and valid.
pub record IsRightProgram (points : List Point) (program : text.PlainProgram) : Type 0 where
  pub declarations : AreRightDeclarations points program.declarations
  pub instructions : IsWellTyped (names_in points program) program.items
