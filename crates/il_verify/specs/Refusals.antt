-- What is known before each instruction of code, and why code is refused at an offset. An offset
-- counts octets of the code from 0.
use Rattle.std.specs.Prelude.{ℕ, ◌≡◌, ◌+◌, ◌<◌, ◌⊎◌, true, false, List, [], length, Option, Some, None}
use Rattle.bay_base.specs.declared.point.Point.{Point}
use Rattle.il_image.specs.declared.instr.Instr.{Instr}
use Rattle.il_image.specs.declared.instr.Instr.TheVariants.{Halt, Push, Drop, Slot, Not, Combine, Compute, Compare, Widen, Jump, Timer}
use Rattle.il_image.specs.declared.kind.CellKind.{CellKind}
use Rattle.il_image.specs.Effects.{kinds_after}
use Rattle.il_image.specs.Images.{Image}
use Rattle.il_image.specs.Kinds.{AreWithin}
use Rattle.il_image.specs.Reading.{instr_at}
use Rattle.il_image.specs.Tables.{InstrBegins, LeadsTo, Table, slot_types}
use Rattle.il_verify.specs.declared.fault.VerifyFault.{VerifyFault}
use Rattle.il_verify.specs.declared.fault.VerifyFault.TheVariants.{StackEmpty, StackFull, WrongKind, ZeroDivisor, NoSlot, NoTimer, BadTarget, Unreachable, DepthClash, NoHalt, BadBinding, OutOfMemory}
use Rattle.il_verify.specs.Binding.{fits}
use Rattle.il_verify.specs.Judging.{fault_of}
use Rattle.il_verify.specs.Slots.{slots_of}

-- ---- the kinds at an offset

-- the kinds after an instruction of the image, if it is allowed
abbrev pub kinds_after_instr : Image → Instr → List CellKind → Option (List CellKind)
kinds_after_instr image instr kinds =
    kinds_after (slot_types image) (length image.timers) instr kinds

-- The table has kinds before the instruction at the offset `from`; the instruction leads to the
-- offset `to`, and these are the kinds after it.
pub record KindsReachFrom (image : Image) (table : Table) (from to : ℕ) (kinds : List CellKind)
    : Type 0 where
  pub instr : Instr
  pub next : ℕ
  pub before : List CellKind
  pub here : instr_at image.code from ≡ Some (instr, next)
  pub known : table from ≡ Some before
  pub gives : kinds_after_instr image instr before ≡ Some kinds
  pub leads : LeadsTo instr next to

-- These kinds reach the offset `to`: an empty list at the start of the code, and the kinds after
-- each instruction before `done` that leads there.
abbrev pub KindsReach : Image → Table → ℕ → ℕ → List CellKind → Type 0
KindsReach image table done to kinds =
    ((to ≡ 0) × (kinds ≡ []))
    ⊎ ((from : ℕ) × (from < done) × KindsReachFrom image table from to kinds)

-- Some kinds reach the offset `to`, and these are the join of all that do: the least kinds that
-- include them.
pub record IsJoin (image : Image) (table : Table) (done to : ℕ) (kinds : List CellKind)
    : Type 0 where
  pub some : (first : List CellKind) × KindsReach image table done to first
  pub above : (others : List CellKind) → KindsReach image table done to others
      → AreWithin others kinds
  pub least : (top : List CellKind)
      → ((others : List CellKind) → KindsReach image table done to others → AreWithin others top)
      → AreWithin kinds top

-- There is no fault at the offset: its instruction has none on the kinds before it, leads only to
-- instructions, and leaves as many kinds as reach each of these from earlier offsets.
pub record IsFaultless (image : Image) (table : Table) (place : ℕ) : Type 0 where
  pub instr : Instr
  pub next : ℕ
  pub kinds : List CellKind
  pub gives : List CellKind
  pub here : instr_at image.code place ≡ Some (instr, next)
  pub known : table place ≡ Some kinds
  pub faultless : fault_of (slots_of image) (length image.timers) instr kinds ≡ None
  pub effect : kinds_after_instr image instr kinds ≡ Some gives
  pub targets : (to : ℕ) → LeadsTo instr next to → InstrBegins image.code to
  pub depths : (to : ℕ) → LeadsTo instr next to → (others : List CellKind)
      → KindsReach image table place to others → length others ≡ length gives

-- The table has the least kinds at each offset below `done`, and none elsewhere; and there is no
-- fault at these offsets.
pub record IsTableUpTo (image : Image) (table : Table) (done : ℕ) : Type 0 where
  pub only : (place : ℕ) (kinds : List CellKind) → table place ≡ Some kinds
      → (place < done) × InstrBegins image.code place
  pub joined : (place : ℕ) (kinds : List CellKind) → table place ≡ Some kinds
      → IsJoin image table place place kinds
  pub passes : (place : ℕ) → place < done → InstrBegins image.code place
      → IsFaultless image table place

-- ---- the faults at an offset, of which at most one is the first

-- the instruction at an offset, and the least kinds before it
pub record ReachedInstr (image : Image) (table : Table) (place : ℕ) : Type 0 where
  pub instr : Instr
  pub next : ℕ
  pub kinds : List CellKind
  pub here : instr_at image.code place ≡ Some (instr, next)
  pub joined : IsJoin image table place place kinds

-- the fault that the instruction at the offset has of its own, on the kinds before it
abbrev pub own_fault : {image : Image} {table : Table} {place : ℕ} → ReachedInstr image table place
    → Option VerifyFault
own_fault {image} a = fault_of (slots_of image) (length image.timers) a.instr a.kinds

-- The instruction jumps to this offset.
abbrev pub JumpsTo : Instr → ℕ → ℕ → Type 0
JumpsTo (Jump when distance) next to = to ≡ next + distance
JumpsTo Halt next to = ⊥
JumpsTo (Push v) next to = ⊥
JumpsTo Drop next to = ⊥
JumpsTo (Slot slot_use n) next to = ⊥
JumpsTo Not next to = ⊥
JumpsTo (Combine c) next to = ⊥
JumpsTo (Compute o w) next to = ⊥
JumpsTo (Compare c) next to = ⊥
JumpsTo (Widen w) next to = ⊥
JumpsTo (Timer timer_use n) next to = ⊥

-- The instruction has no fault of its own, but jumps to an offset at which no instruction begins.
pub record HasBadJump (image : Image) (table : Table) (place : ℕ) : Type 0 where
  pub at : ReachedInstr image table place
  pub faultless : own_fault at ≡ None
  pub to : ℕ
  pub jumps : JumpsTo at.instr at.next to
  pub bad : InstrBegins image.code to → ⊥

-- The instruction has no fault of its own and jumps only to instructions, but falls through past
-- the end of the code.
pub record RunsPastEnd (image : Image) (table : Table) (place : ℕ) : Type 0 where
  pub at : ReachedInstr image table place
  pub faultless : own_fault at ≡ None
  pub jumps : (to : ℕ) → JumpsTo at.instr at.next to → InstrBegins image.code to
  pub leads : LeadsTo at.instr at.next at.next
  pub past : at.next ≡ length image.code

-- The instruction has no fault of its own and leads only to instructions, but leaves another number
-- of kinds than reaches one of these from an earlier offset.
pub record HasDepthClash (image : Image) (table : Table) (place : ℕ) : Type 0 where
  pub at : ReachedInstr image table place
  pub gives : List CellKind
  pub faultless : own_fault at ≡ None
  pub effect : kinds_after_instr image at.instr at.kinds ≡ Some gives
  pub targets : (to : ℕ) → LeadsTo at.instr at.next to → InstrBegins image.code to
  pub to : ℕ
  pub leads : LeadsTo at.instr at.next to
  pub others : List CellKind
  pub comes : KindsReach image table place to others
  pub unequal : length others ≡ length gives → ⊥

-- The instruction at the offset has this fault of its own.
abbrev pub HasOwnFault : Image → Table → ℕ → VerifyFault → Type 0
HasOwnFault image table place fault =
    (a : ReachedInstr image table place) × (own_fault a ≡ Some fault)

-- This is the first fault at the offset.
abbrev pub IsFaultAt : Image → Table → ℕ → VerifyFault → Type 0
IsFaultAt image table place Unreachable =
    (kinds : List CellKind) → KindsReach image table place place kinds → ⊥
IsFaultAt image table place BadTarget = HasBadJump image table place
IsFaultAt image table place NoHalt = RunsPastEnd image table place
IsFaultAt image table place DepthClash = HasDepthClash image table place
IsFaultAt image table place OutOfMemory = ⊥
IsFaultAt image table place StackEmpty = HasOwnFault image table place StackEmpty
IsFaultAt image table place StackFull = HasOwnFault image table place StackFull
IsFaultAt image table place WrongKind = HasOwnFault image table place WrongKind
IsFaultAt image table place ZeroDivisor = HasOwnFault image table place ZeroDivisor
IsFaultAt image table place NoSlot = HasOwnFault image table place NoSlot
IsFaultAt image table place NoTimer = HasOwnFault image table place NoTimer
IsFaultAt image table place BadBinding = HasOwnFault image table place BadBinding

-- ---- the refusal of an image

-- The image does not fit the bay.
abbrev pub DoesNotFit : List Point → Image → VerifyFault → ℕ → Type 0
DoesNotFit bay image fault place = (fits bay image ≡ false) × (fault ≡ BadBinding) × (place ≡ 0)

-- The image has no code.
abbrev pub IsWithoutCode : Image → VerifyFault → ℕ → Type 0
IsWithoutCode image fault place = (image.code ≡ []) × (fault ≡ NoHalt) × (place ≡ 0)

-- This offset is the first one with a fault, and this is the first fault there.
abbrev pub FailsAt : Image → VerifyFault → ℕ → Type 0
FailsAt image fault place =
    (table : Table) × IsTableUpTo image table place × InstrBegins image.code place
    × IsFaultAt image table place fault

-- The image fits the bay and has code. Verifying another image does not run out of memory.
abbrev pub Allocates : List Point → Image → Type 0
Allocates bay image = (fits bay image ≡ true) × (0 < length image.code)

-- This is the image's first fault, at this offset.
abbrev pub IsRefusal : List Point → Image → VerifyFault → ℕ → Type 0
IsRefusal bay image fault place =
    DoesNotFit bay image fault place
    ⊎ ((fits bay image ≡ true) × (IsWithoutCode image fault place ⊎ FailsAt image fault place))
