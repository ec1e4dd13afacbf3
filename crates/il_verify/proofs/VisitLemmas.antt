-- What the visit of a place comes to.
use Rattle.std.proofs.Common.{◌≡◌, ℕ, ◌+◌, Bool, true, false, List, length, refl, sym, ap, subst, ◌∙◌, Option, Some, inl, inr}
use Rattle.std.proofs.lemmas.Option.{same_Some}
use Rattle.std.specs.Prelude.{slice_get, IsTrue, ◌↔◌}
use Rattle.std.specs.Bool.{OnFalse}
use Rattle.il_image.specs.declared.instr.Instr.{Instr}
use Rattle.il_image.specs.declared.instr.Instr.TheVariants.{Jump}
use Rattle.il_image.specs.declared.kind.CellKind.{CellKind}
use Rattle.il_image.specs.declared.opcode.When.{When}
use Rattle.il_image.specs.Effects.{kinds_after}
use Rattle.il_image.specs.Images.{Image}
use Rattle.il_verify.specs.declared.fault.VerifyFault.{VerifyFault}
use Rattle.il_verify.specs.declared.slots.SlotType.{SlotType}
use Rattle.il_verify.specs.Frames.{HasOtherDepth, Jumps, JumpsToNoInstr, PlainFrame, PlainFrames, MarksInstrs}
use Rattle.il_verify.specs.Judging.{fault_of}
use Rattle.il_verify.specs.Slots.{slots_of, types_of}
use Rattle.il_verify.proofs.WithinLemmas.{within-length}

pub fault-there : (image : Image) (slots : List SlotType) (timers : ℕ) (instr : Instr)
    (kinds : List CellKind) (o : Option VerifyFault) → slots ≡ slots_of image
    → timers ≡ length image.timers → fault_of slots timers instr kinds ≡ o
    → fault_of (slots_of image) (length image.timers) instr kinds ≡ o
fault-there image slots timers instr kinds o e f is =
    sym (ap (λ (s : List SlotType). fault_of s timers instr kinds) e
    ∙ ap (λ (n : ℕ). fault_of (slots_of image) n instr kinds) f) ∙ is

pub effect-so : (image : Image) (slots : List SlotType) (timers : ℕ) (instr : Instr)
    (kinds : List CellKind) (o : Option (List CellKind)) → slots ≡ slots_of image
    → timers ≡ length image.timers → kinds_after (types_of slots) timers instr kinds ≡ o
    → kinds_after (types_of (slots_of image)) (length image.timers) instr kinds ≡ o
effect-so image slots timers instr kinds o e f is =
    sym (ap (λ (s : List SlotType). kinds_after (types_of s) timers instr kinds) e
    ∙ ap (λ (n : ℕ). kinds_after (types_of (slots_of image)) n instr kinds) f) ∙ is

-- A clash after the jump was one before it: what the jump brought has as many kinds.
pub clash-before : (instr : Instr) (next : ℕ) (come : PlainFrame) (old mid : PlainFrames)
    → Jumps instr next come old mid → HasOtherDepth (mid next) come.kinds
    → HasOtherDepth (old next) come.kinds
clash-before instr next come old mid jumps clash = elim (jumps next) [
  | inl c ↦
      absurd (let same : c.1.0 ≡ clash.0 = same_Some c.1.0 clash.0 (sym c.1.1 ∙ clash.1) in
      clash.2 (ap (λ (m : PlainFrame). length m.kinds) (sym same)
      ∙ sym (within-length come.kinds c.1.0.kinds c.1.2.over)))
  | inr c ↦ (clash.0, sym c.1 ∙ clash.1, clash.2)
]

on_false : (b : Bool) (P : Type 0) → (b ≡ false → P) → OnFalse b P
on_false true P f = tt
on_false false P f = f refl

pub jumps_wrong : (code : List ℕ) (starts : List Bool) (instr : Instr) (when : When)
    (next distance : ℕ) (b : Bool) → MarksInstrs code starts → instr ≡ Jump when distance → IsTrue b
    ↔ (slice_get starts (next + distance) ≡ Some true)
    → OnFalse b (JumpsToNoInstr code instr next)
jumps_wrong code starts instr when next distance b marks is says =
    on_false b (JumpsToNoInstr code instr next) (λ off.
    subst (λ (i : Instr). JumpsToNoInstr code i next) (sym is)
    (record {
      to = next + distance;
      jumps = refl;
      bad = λ place. let on : b ≡ true = says.1 ((marks (next + distance)).1 place) in cc;
    }))
