-- The frames of the map of frames.
use Rattle.std.proofs.Common.{◌≡◌, ℕ, ◌<◌, Bool, true, false, cond, List, [], ◌∷◌, ◌++◌, length, slice_get, slice_index_or, slice_set, refl, sym, ap, subst, ◌∙◌, arith, Option, Some, None, inl, inr}
use Rattle.std.specs.Prelude.{zero, suc, option_and_then, option_map, ◌==◌}
use Rattle.std.proofs.lemmas.Bool.Decides.{nat_tests}
use Rattle.std.proofs.lemmas.Bool.{cases_eq}
use Rattle.std.proofs.lemmas.Option.{slice_get-get_or}
use Rattle.il_image.specs.declared.instr.Instr.{Instr}
use Rattle.il_image.specs.declared.kind.CellKind.{CellKind}
use Rattle.il_verify.specs.declared.frame.Frame.{Frame}
use Rattle.il_image.proofs.SetLemmas.{set-elsewhere, set-here}
use Rattle.il_verify.specs.Frames.{HasOtherDepth, Falls, JoinsFrame, PlainFrame, JoinsFrameAt, with_value_at, frame_at, falls_through, plain_frame, plain_frames}

here-is : (p q : ℕ) → q ≡ p → (q == p) ≡ true
here-is p q e = grind (arith, nat_tests)

not-here : (p q : ℕ) → (q ≡ p → ⊥) → (q == p) ≡ false
not-here p q ne = grind (arith, nat_tests)

pub beside-here : {A : Type 0} (p q : ℕ) (frame : Option A) (frames : ℕ → Option A) → q ≡ p
    → with_value_at p frame frames q ≡ frame
beside-here p q frame frames e = ap (λ (b : Bool). cond b frame (frames q)) (here-is p q e)

pub beside-other : {A : Type 0} (p q : ℕ) (frame : Option A) (frames : ℕ → Option A) → (q ≡ p → ⊥)
    → with_value_at p frame frames q ≡ frames q
beside-other p q frame frames ne = ap (λ (b : Bool). cond b frame (frames q)) (not-here p q ne)

none-more : {A : Type 0} (xs : List (Option A)) (q : ℕ)
    → option_and_then (λ o. o) (slice_get (xs ++ None ∷ []) q)
    ≡ option_and_then (λ o. o) (slice_get xs q)
none-more [] zero = refl
none-more [] (suc q) = refl
none-more (x ∷ xs) zero = refl
none-more (x ∷ xs) (suc q) = none-more xs q

pub plain-at : (m : List (Option Frame)) (place : ℕ) (o : Option Frame) → o ≡ frame_at m place
    → plain_frames m place ≡ option_map plain_frame o
unfolding plain_frames
plain-at m place o e = ap (option_map plain_frame) (sym e)

pub no-frames : (m : List (Option Frame)) (place : ℕ) → m ≡ [] → plain_frames m place ≡ None
unfolding plain_frames
no-frames m place e = ap (λ (l : List (Option Frame)). option_map plain_frame (frame_at l place)) e

pub others-stay : (old : List (Option Frame)) (place : ℕ) (w : Option Frame) (q : ℕ)
    → (q ≡ place → ⊥) → plain_frames (slice_set old place w) q ≡ plain_frames old q
unfolding plain_frames
others-stay old place w q ne =
    ap (λ (o : Option (Option Frame)). option_map plain_frame (option_and_then (λ x. x) o))
    (set-elsewhere old place q w ne)

now-is : (old : List (Option Frame)) (place : ℕ) (w : Option Frame) → place < length old
    → plain_frames (slice_set old place w) place ≡ option_map plain_frame w
unfolding plain_frames
now-is old place w less =
    ap (λ (o : Option (Option Frame)). option_map plain_frame (option_and_then (λ x. x) o))
    (set-here old place w less)

-- a place behind the others, where nothing is pending
pub one-more : (old : List (Option Frame)) (q : ℕ)
    → plain_frames (old ++ None ∷ []) q ≡ plain_frames old q
unfolding plain_frames
one-more old q = ap (option_map plain_frame) (none-more old q)

-- a slot of a list is the frame at its place
pub slot_at : (m : List (Option Frame)) (place : ℕ) (o : Option Frame) → place < length m
    → o ≡ slice_index_or m place o → o ≡ frame_at m place
slot_at m place o less e =
    sym (ap (option_and_then (λ x. x))
    (slice_get-get_or m place o less ∙ ap (λ (x : Option Frame). Some x) (sym e)))

-- a frame that is written at a place is pending there
pub pended : (old grown : List (Option Frame)) (place : ℕ) (o w : Option Frame) (frame : Frame)
    (come : PlainFrame) → ((q : ℕ) → plain_frames grown q ≡ plain_frames old q)
    → place < length grown → o ≡ frame_at grown place
    → w ≡ Some frame → JoinsFrame come (option_map plain_frame o) (plain_frame frame)
    → JoinsFrameAt (plain_frames old) (plain_frames (slice_set grown place w)) place come
pended old grown place o w frame come same less was is grows = record {
  frame = plain_frame frame;
  is = now-is grown place w less ∙ ap (option_map plain_frame) is;
  grows = subst (λ (v : Option PlainFrame). JoinsFrame come v (plain_frame frame))
      (sym (plain-at grown place o was) ∙ same place) grows;
  others = λ q ne. others-stay grown place w q ne ∙ same q;
}

pub clash-at : (old : List (Option Frame)) (place : ℕ) (o : Option Frame) (kinds : List CellKind)
    → o ≡ frame_at old place → HasOtherDepth (option_map plain_frame o) kinds
    → HasOtherDepth (plain_frames old place) kinds
clash-at old place o kinds was c =
    subst (λ (v : Option PlainFrame). HasOtherDepth v kinds) (sym (plain-at old place o was)) c

-- ---- to the next place

pub falls-to : (instr : Instr) (next : ℕ) (come : PlainFrame) (old mid : List (Option Frame))
    (o : Option Frame) (m : PlainFrame) → falls_through instr ≡ true → o ≡ frame_at old next
    → ((q : ℕ) → (q ≡ next → ⊥) → plain_frames mid q ≡ plain_frames old q)
    → JoinsFrame come (option_map plain_frame o) m
    → Falls instr next come (plain_frames old) (with_value_at next (Some m) (plain_frames mid))
falls-to instr next come old mid o m on was gone grows to = elim (cases_eq to next) [
  | inl e ↦ inl (
    (on, e),
    (
      m,
      beside-here next to (Some m) (plain_frames mid) e,
      subst (λ (v : Option PlainFrame). JoinsFrame come v m)
          (sym (plain-at old next o was) ∙ ap (plain_frames old) (sym e)) grows,
    ),
  )
  | inr ne ↦ inr ((λ h. ne h.1), beside-other next to (Some m) (plain_frames mid) ne ∙ gone to ne)
]

pub stays-so : (instr : Instr) (next : ℕ) (come : PlainFrame) (old mid : List (Option Frame))
    (o : Option Frame) → falls_through instr ≡ false → o ≡ frame_at old next
    → ((q : ℕ) → (q ≡ next → ⊥) → plain_frames mid q ≡ plain_frames old q)
    → Falls instr next come (plain_frames old)
    (with_value_at next (option_map plain_frame o) (plain_frames mid))
stays-so instr next come old mid o off was gone to = inr (
  (λ h. let on : falls_through instr ≡ true = h.0 in cc),
  (elim (cases_eq to next) [
    | inl e ↦ beside-here next to (option_map plain_frame o) (plain_frames mid) e
        ∙ (sym (plain-at old next o was) ∙ ap (plain_frames old) (sym e))
    | inr ne ↦ beside-other next to (option_map plain_frame o) (plain_frames mid) ne ∙ gone to ne
  ]),
)

-- ---- by a jump
