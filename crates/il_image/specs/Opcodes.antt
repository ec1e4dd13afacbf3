-- The table of the instructions' first octets, and of the octets of widths.
use Rattle.std.specs.Prelude.{ℕ, ◌==◌, Bool, true, false, List, [], ◌∷◌, find, Option, Some, None, if◌then◌else◌}
use Rattle.bay_base.specs.declared.types.ElementaryType.TheVariants as elementary
use Rattle.il_image.specs.declared.arithmetic.Width.{Width}
use Rattle.il_image.specs.declared.arithmetic.Width.TheVariants as width
use Rattle.il_image.specs.declared.arithmetic.ArithmeticOperation.TheVariants.{Add, Sub, Mul, Div, Mod}
use Rattle.il_image.specs.declared.arithmetic.Comparison.TheVariants.{Gt, Ge, Eq, Ne, Le, Lt}
use Rattle.il_image.specs.declared.opcode.Connective.TheVariants.{And, Or, Xor}
use Rattle.il_image.specs.declared.opcode.SlotUse.TheVariants.{Load, Store, SetIf, ResetIf}
use Rattle.il_image.specs.declared.opcode.Widening.TheVariants.{IntToDint, DintToLint}
use Rattle.il_image.specs.declared.opcode.When.TheVariants.{Always, IfTrue, IfFalse}
use Rattle.il_image.specs.declared.opcode.TimerUse.TheVariants.{SetInput, SetPreset, Run, LoadOutput, LoadElapsed}
use Rattle.il_image.specs.declared.opcode.Opcode.{Opcode}
use Rattle.il_image.specs.declared.opcode.Opcode.TheVariants.{Halt, Push, Drop, Slot, Not, Combine, Compute, Compare, Widen, Jump, Timer}
use Rattle.il_image.specs.declared.opcode.Version.{Version}
use Rattle.il_image.specs.declared.opcode.Version.TheVariants.{One, Two}

-- ---- own: the format of images (docs/IMAGE.md)

-- the octet of an opcode
abbrev pub octet_of : Opcode → ℕ
octet_of Halt = 0x01
octet_of (Push elementary.Bool) = 0x02
octet_of (Push elementary.Int) = 0x03
octet_of (Push elementary.Dint) = 0x04
octet_of (Push elementary.Time) = 0x05
octet_of (Push elementary.Lint) = 0x23
octet_of Drop = 0x06
octet_of (Slot Load) = 0x07
octet_of (Slot Store) = 0x08
octet_of (Slot SetIf) = 0x09
octet_of (Slot ResetIf) = 0x0A
octet_of Not = 0x0B
octet_of (Combine And) = 0x0C
octet_of (Combine Or) = 0x0D
octet_of (Combine Xor) = 0x0E
octet_of (Compute Add) = 0x0F
octet_of (Compute Sub) = 0x10
octet_of (Compute Mul) = 0x11
octet_of (Compute Div) = 0x12
octet_of (Compute Mod) = 0x13
octet_of (Compare Gt) = 0x14
octet_of (Compare Ge) = 0x15
octet_of (Compare Eq) = 0x16
octet_of (Compare Ne) = 0x17
octet_of (Compare Le) = 0x18
octet_of (Compare Lt) = 0x19
octet_of (Widen IntToDint) = 0x1A
octet_of (Widen DintToLint) = 0x24
octet_of (Jump Always) = 0x1B
octet_of (Jump IfTrue) = 0x1C
octet_of (Jump IfFalse) = 0x1D
octet_of (Timer SetInput) = 0x1E
octet_of (Timer SetPreset) = 0x1F
octet_of (Timer Run) = 0x20
octet_of (Timer LoadOutput) = 0x21
octet_of (Timer LoadElapsed) = 0x22

-- every opcode
abbrev pub opcodes : List Opcode
opcodes =
    Halt ∷ Push elementary.Bool ∷ Push elementary.Int ∷ Push elementary.Dint ∷ Push elementary.Time
    ∷ Drop ∷
    Slot Load ∷ Slot Store ∷ Slot SetIf ∷ Slot ResetIf ∷ Not ∷ Combine And ∷ Combine Or
    ∷ Combine Xor ∷
    Compute Add ∷ Compute Sub ∷ Compute Mul ∷ Compute Div ∷ Compute Mod ∷
    Compare Gt ∷ Compare Ge ∷ Compare Eq ∷ Compare Ne ∷ Compare Le ∷ Compare Lt ∷ Widen IntToDint ∷
    Jump Always ∷ Jump IfTrue ∷ Jump IfFalse ∷
    Timer SetInput ∷ Timer SetPreset ∷ Timer Run ∷ Timer LoadOutput ∷ Timer LoadElapsed ∷
    Push elementary.Lint ∷ Widen DintToLint ∷ []

-- the opcode with this octet, if there is one
unfoldable pub opcode_of : ℕ → Option Opcode
opcode_of octet = find (λ o. octet == octet_of o) opcodes

-- whether the version has the opcode: version 1 has no LINT
abbrev pub is_known : Version → Opcode → Bool
is_known One (Push elementary.Lint) = false
is_known One (Widen DintToLint) = false
is_known version opcode = true

-- the octet of a width
abbrev pub width_octet : Width → ℕ
width_octet width.Int = 0x02
width_octet width.Dint = 0x03
width_octet width.Lint = 0x05

-- the width with this octet in a version, if there is one
abbrev pub width_of : Version → ℕ → Option Width
width_of One octet =
    if octet == 0x02 then Some width.Int else (if octet == 0x03 then Some width.Dint else None)
width_of Two octet =
    if octet == 0x02 then Some width.Int
    else (if octet == 0x03 then Some width.Dint
    else (if octet == 0x05 then Some width.Lint else None))
