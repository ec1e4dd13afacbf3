-- Inner: the pending frames, those of offsets that the pass has yet to reach, and how one
-- instruction changes them. An offset counts octets of the code from 0.
use Rattle.std.specs.Prelude.{ℕ, ◌≡◌, ◌≢◌, ◌+◌, ◌<◌, ◌≤◌, ◌==◌, ◌⊎◌, ◌↔◌, Bool, true, false, List, [], ◌∷◌, length, reverse, Option, Some, None, option_and_then, option_map, slice_get, if◌then◌else◌}
use Rattle.il_image.specs.declared.instr.Instr.{Instr}
use Rattle.il_image.specs.declared.instr.Instr.TheVariants.{Halt, Push, Drop, Slot, Not, Combine, Compute, Compare, Widen, Jump, Timer}
use Rattle.il_image.specs.declared.kind.CellKind.{CellKind}
use Rattle.il_image.specs.declared.opcode.When.TheVariants.{Always, IfTrue, IfFalse}
use Rattle.il_image.specs.Effects.{kinds_after}
use Rattle.il_image.specs.Images.{Image}
use Rattle.il_image.specs.Kinds.{AreWithin, join}
use Rattle.il_image.specs.Tables.{InstrBegins}
use Rattle.il_verify.specs.declared.fault.VerifyFault.{VerifyFault}
use Rattle.il_verify.specs.declared.fault.VerifyFault.TheVariants.{BadTarget, DepthClash, NoHalt}
use Rattle.il_verify.specs.declared.frame.Frame.{Frame}
use Rattle.il_verify.specs.declared.plan.Plan.{Plan}
use Rattle.il_verify.specs.Judging.{fault_of}
use Rattle.il_verify.specs.Refusals.{JumpsTo}
use Rattle.il_verify.specs.Slots.{slots_of, types_of}

-- ---- what the pass looks up

-- The list is true exactly at the offsets of the code's instructions.
abbrev pub MarksInstrs : List ℕ → List Bool → Type 0
MarksInstrs code starts =
    (place : ℕ) → (slice_get starts place ≡ Some true) ↔ InstrBegins code place

-- The plan is that of the image.
pub record IsPlan (image : Image) (plan : Plan) : Type 0 where
  pub slots : plan.slots.items ≡ slots_of image
  pub timers : plan.timers ≡ length image.timers
  pub starts : MarksInstrs image.code plan.starts.items
  pub size : length plan.starts.items ≡ length image.code

-- ---- plain frames

-- the kinds at an offset, the top first, and the number of offsets on a longest path to it
pub record PlainFrame : Type 0 where
  pub kinds : List CellKind
  pub longest : ℕ

-- a frame of the code, whose kinds have the top last, as a plain frame
abbrev pub plain_frame : Frame → PlainFrame
plain_frame f = record { kinds = reverse f.kinds.items; longest = f.longest }

-- the plain frame at each offset, if a path has led there so far
abbrev pub PlainFrames : Type 0
PlainFrames = ℕ → Option PlainFrame

-- the frame pending at an offset, if there is one
abbrev pub frame_at : List (Option Frame) → ℕ → Option Frame
frame_at pending place = option_and_then (λ o. o) (slice_get pending place)

-- the pending frames as plain frames
unfoldable pub plain_frames : List (Option Frame) → PlainFrames
plain_frames pending place = option_map plain_frame (frame_at pending place)

-- the values `others`, with the value `known` at one index
abbrev pub with_value_at : {A : Type 0} → ℕ → Option A → (ℕ → Option A) → ℕ → Option A
with_value_at place known others q = if q == place then known else others q

-- Another path leads to an offset: the new frame is the join of the old one, if there is one, and
-- of `come`, the frame that the path brings.
pub record JoinsFrame (come : PlainFrame) (old : Option PlainFrame) (new : PlainFrame)
    : Type 0 where
  pub over : AreWithin come.kinds new.kinds
  pub keeps : (m : PlainFrame) → old ≡ Some m → AreWithin m.kinds new.kinds
  pub least : (top : List CellKind) → AreWithin come.kinds top
      → ((m : PlainFrame) → old ≡ Some m → AreWithin m.kinds top) → AreWithin new.kinds top
  pub longer : come.longest ≤ new.longest
  pub keeps_longer : (m : PlainFrame) → old ≡ Some m → m.longest ≤ new.longest
  pub from : (new.longest ≡ come.longest)
      ⊎ ((m : PlainFrame) × (old ≡ Some m) × (new.longest ≡ m.longest))

-- If P holds, a path brings the frame `come`; otherwise the frame is unchanged.
abbrev pub JoinsFrameIf : Type 0 → PlainFrame → Option PlainFrame → Option PlainFrame → Type 0
JoinsFrameIf P come old new =
    (P × ((frame : PlainFrame) × (new ≡ Some frame) × JoinsFrame come old frame))
    ⊎ ((P → ⊥) × (new ≡ old))

-- There is an old frame, and it has another number of kinds.
abbrev pub HasOtherDepth : Option PlainFrame → List CellKind → Type 0
HasOtherDepth old kinds = (m : PlainFrame) × (old ≡ Some m) × (length m.kinds ≢ length kinds)

-- the join of both, index by index: the least kinds that include both
abbrev pub join_all : List CellKind → List CellKind → List CellKind
join_all [] others = []
join_all (a ∷ kinds) [] = a ∷ kinds
join_all (a ∷ kinds) (b ∷ others) = join a b ∷ join_all kinds others

-- A path brings a frame to this offset; the frames at all other offsets are unchanged.
pub record JoinsFrameAt (old new : PlainFrames) (place : ℕ) (come : PlainFrame) : Type 0 where
  pub frame : PlainFrame
  pub is : new place ≡ Some frame
  pub grows : JoinsFrame come (old place) frame
  pub others : (q : ℕ) → (q ≡ place → ⊥) → new q ≡ old q

-- ---- one instruction

-- whether the next instruction may run after this one
abbrev pub falls_through : Instr → Bool
falls_through Halt = false
falls_through (Jump Always distance) = false
falls_through (Jump IfTrue distance) = true
falls_through (Jump IfFalse distance) = true
falls_through (Push v) = true
falls_through Drop = true
falls_through (Slot slot_use n) = true
falls_through Not = true
falls_through (Combine c) = true
falls_through (Compute o w) = true
falls_through (Compare c) = true
falls_through (Widen w) = true
falls_through (Timer timer_use n) = true

-- The instruction falls through to this offset.
abbrev pub FallsTo : Instr → ℕ → ℕ → Type 0
FallsTo instr next to = (falls_through instr ≡ true) × (to ≡ next)

-- The instruction leads only to offsets at which instructions begin.
pub record LeadsToInstrs (code : List ℕ) (instr : Instr) (next : ℕ) : Type 0 where
  pub jumps : (to : ℕ) → JumpsTo instr next to → InstrBegins code to
  pub falls : falls_through instr ≡ true → next < length code

-- The instruction jumps to an offset at which no instruction begins.
pub record JumpsToNoInstr (code : List ℕ) (instr : Instr) (next : ℕ) : Type 0 where
  pub to : ℕ
  pub jumps : JumpsTo instr next to
  pub bad : InstrBegins code to → ⊥

-- The instruction jumps only to instructions, but falls through past the end of the code.
pub record FallsPastEnd (code : List ℕ) (instr : Instr) (next : ℕ) : Type 0 where
  pub jumps : (to : ℕ) → JumpsTo instr next to → InstrBegins code to
  pub falls : falls_through instr ≡ true
  pub past : length code ≤ next

-- The instruction leads to an offset at which no instruction begins. The fault of a wrong jump
-- comes before that of the end of the code.
abbrev pub HasTargetFault : List ℕ → Instr → ℕ → VerifyFault → Type 0
HasTargetFault code instr next fault = ((fault ≡ BadTarget) × JumpsToNoInstr code instr next)
    ⊎ ((fault ≡ NoHalt) × FallsPastEnd code instr next)

-- The instruction brings a frame to the offset that it jumps to; other frames are unchanged.
abbrev pub Jumps : Instr → ℕ → PlainFrame → PlainFrames → PlainFrames → Type 0
Jumps instr next come old new =
    (to : ℕ) → JoinsFrameIf (JumpsTo instr next to) come (old to) (new to)

-- The instruction jumps to an offset whose frame has another number of kinds.
abbrev pub JumpClash : Instr → ℕ → PlainFrames → List CellKind → Type 0
JumpClash instr next old kinds = (to : ℕ) × JumpsTo instr next to × HasOtherDepth (old to) kinds

-- The instruction brings a frame to the offset that it falls through to; other frames are
-- unchanged.
abbrev pub Falls : Instr → ℕ → PlainFrame → PlainFrames → PlainFrames → Type 0
Falls instr next come old new =
    (to : ℕ) → JoinsFrameIf (FallsTo instr next to) come (old to) (new to)

-- The instruction of the image has no fault on the kinds before it, and brings the kinds after it
-- to the offsets that it leads to.
pub record Visits (image : Image) (instr : Instr) (next : ℕ) (come : PlainFrame)
    (old new : PlainFrames) : Type 0 where
  pub gives : List CellKind
  pub faultless : fault_of (slots_of image) (length image.timers) instr come.kinds ≡ None
  pub effect : kinds_after (types_of (slots_of image)) (length image.timers) instr come.kinds
      ≡ Some gives
  pub right : LeadsToInstrs image.code instr next
  pub mid : PlainFrames
  pub jumps : Jumps instr next (record { kinds = gives; longest = come.longest + 1 }) old mid
  pub falls : Falls instr next (record { kinds = gives; longest = come.longest + 1 }) mid new

-- The instruction has no fault of its own, but leads to an offset at which no instruction begins.
pub record FailsTargets (image : Image) (instr : Instr) (next : ℕ) (come : PlainFrame)
    (fault : VerifyFault) : Type 0 where
  pub faultless : fault_of (slots_of image) (length image.timers) instr come.kinds ≡ None
  pub wrong : HasTargetFault image.code instr next fault

-- The instruction has no fault of its own and leads only to instructions, but the frame of one of
-- these has another number of kinds.
pub record FailsDepths (image : Image) (instr : Instr) (next : ℕ) (come : PlainFrame)
    (old : PlainFrames) : Type 0 where
  pub gives : List CellKind
  pub faultless : fault_of (slots_of image) (length image.timers) instr come.kinds ≡ None
  pub effect : kinds_after (types_of (slots_of image)) (length image.timers) instr come.kinds
      ≡ Some gives
  pub right : LeadsToInstrs image.code instr next
  pub to : ℕ
  pub leads : JumpsTo instr next to ⊎ FallsTo instr next to
  pub clash : HasOtherDepth (old to) gives

-- The first fault of an instruction with this frame before it: its own, that of a target, or that
-- of stacks of different depths.
abbrev pub FailsVisit : Image → Instr → ℕ → PlainFrame → PlainFrames → VerifyFault → Type 0
FailsVisit image instr next come old fault =
    (fault_of (slots_of image) (length image.timers) instr come.kinds ≡ Some fault)
    ⊎ (FailsTargets image instr next come fault
    ⊎ ((fault ≡ DepthClash) × FailsDepths image instr next come old))
