-- Values on the stack, slots and timers that are as their kinds and types say.
use Rattle.std.proofs.Common.{◌≡◌, ℕ, zero, suc, ◌<◌, ◌≤◌, Bool, true, false, cond, List, [], ◌∷◌, length, refl, sym, ap, subst, ◌∙◌, arith, Option, Some, None}
use Rattle.std.specs.Prelude.{slice_get, slice_set}
use Rattle.std.proofs.lemmas.List.{length-map}
use Rattle.std.proofs.lemmas.Option.{slice_get-get_or, same_Some}
use Rattle.bay_base.specs.declared.types.ElementaryType.{ElementaryType}
use Rattle.il_image.specs.declared.kind.CellKind.{CellKind}
use Rattle.il_image.specs.declared.timer.TimerPhase.{TimerPhase}
use Rattle.il_image.specs.declared.timer.TimerPhase.TheVariants.{Idle, Held, Since}
use Rattle.il_image.specs.declared.timer.TimerState.{TimerState}
use Rattle.bay_base.specs.declared.types.TimerKind.TheVariants.{OnDelay}
use Rattle.il_image.specs.declared.value.Value.{Value}
use Rattle.il_image.specs.Effects.{below}
use Rattle.il_image.specs.Images.{Each, IsValue}
use Rattle.il_image.specs.Kinds.{HasKind, is_within}
use Rattle.il_image.specs.Machine.{StepResult, Traps, MissingSlot, MissingTimer}
use Rattle.il_image.specs.Timers.{after_call, elapsed_of, first_state, phase_after}
use Rattle.il_image.specs.Values.{number_of, type_of}
use Rattle.il_image.proofs.KindLemmas.{kind-above}
use Rattle.il_scan.specs.MachineStates.{HaveKinds, IsTimer}
use Rattle.il_scan.specs.Words.{AreTyped, slot_at, words_of}
use Rattle.il_scan.specs.WordEffects.{timer_at}

-- ---- values on the stack

pub fit-length : (values : List Value) (kinds : List CellKind) → HaveKinds values kinds
    → length values ≡ length kinds
fit-length [] [] h = refl
fit-length [] (k ∷ kinds) h = absurd h
fit-length (v ∷ values) [] h = absurd h
fit-length (v ∷ values) (k ∷ kinds) h = ap suc (fit-length values kinds h.1)

pub depth_of : (values : List Value) (kinds : List CellKind) → HaveKinds values kinds
    → length (words_of values) ≡ length kinds
depth_of values kinds h = length-map values number_of ∙ fit-length values kinds h

-- a value of the wanted kind is on top
pub on-top : (wanted : CellKind) (kinds rest : List CellKind) (P : List Value → Type 0)
    → below wanted kinds ≡ Some rest
    → ((v : Value) (others : List Value) → HasKind v wanted → IsValue v → HaveKinds others rest
    → HaveKinds (v ∷ others) kinds → P (v ∷ others))
    → (cells : List Value) → HaveKinds cells kinds → P cells
on-top wanted [] rest P e does cells fit = absurd cc
on-top wanted (k ∷ kinds) rest P e does [] fit = absurd fit
on-top wanted (k ∷ kinds) rest P e does (v ∷ others) fit = go (is_within k wanted) refl e
  where
    go : (b : Bool) → is_within k wanted ≡ b → cond b (Some kinds) None ≡ Some rest
        → P (v ∷ others)
    go true f g =
        does v others (kind-above v k wanted f fit.0.0) fit.0.1
        (subst (HaveKinds others) (same_Some kinds rest g) fit.1) fit
    go false f g = absurd cc

-- ---- slots

pub record SlotThere (types : List ElementaryType) (slots : List Value) (n : ℕ) (t : ElementaryType)
    : Type 0 where
  pub value : Value
  pub get : slice_get slots n ≡ Some value
  pub type : type_of value ≡ t
  pub is_value : IsValue value
  pub word : slot_at (words_of slots) n ≡ number_of value
  pub below : n < length (words_of slots)

pub slot-there : (types : List ElementaryType) (slots : List Value) (n : ℕ) (t : ElementaryType)
    → slice_get types n ≡ Some t → AreTyped types slots → SlotThere types slots n t
slot-there [] slots n t e typed = absurd cc
slot-there (s ∷ types) [] n t e typed = absurd typed
slot-there (s ∷ types) (v ∷ slots) zero t e typed =
    record {
      value = v;
      get = refl;
      type = typed.0.0 ∙ same_Some s t e;
      is_value = typed.0.1;
      word = refl;
      below = omega arith;
    }
slot-there (s ∷ types) (v ∷ slots) (suc n) t e typed =
    let more = slot-there types slots n t e typed.1 in
    let b : n < length (words_of slots) = more.below in
    record {
      value = more.value;
      get = more.get;
      type = more.type;
      is_value = more.is_value;
      word = more.word;
      below = omega arith;
    }

pub slot-set : (types : List ElementaryType) (slots : List Value) (n : ℕ) (t : ElementaryType)
    (v : Value) → slice_get types n ≡ Some t → AreTyped types slots → type_of v ≡ t → IsValue v
    → AreTyped types (slice_set slots n v)
slot-set [] slots n t v e typed is value = absurd cc
slot-set (s ∷ types) [] n t v e typed is value = absurd typed
slot-set (s ∷ types) (u ∷ slots) zero t v e typed is value =
    ((is ∙ sym (same_Some s t e), value), typed.1)
slot-set (s ∷ types) (u ∷ slots) (suc n) t v e typed is value =
    (typed.0, slot-set types slots n t v e typed.1 is value)

pub with-slot-is : (slots : List Value) (n : ℕ) (v : Value) (act_on : Value → StepResult)
    → slice_get slots n ≡ Some v
    → elim (slice_get slots n) [ None ↦ Traps MissingSlot | Some u ↦ act_on u ] ≡ act_on v
with-slot-is slots n v act_on e =
    ap (λ (o : Option Value). elim o [ None ↦ Traps MissingSlot | Some u ↦ act_on u ]) e

pub with-timer-is : (timers : List TimerState) (n : ℕ) (t : TimerState)
    (act_on : TimerState → StepResult)
    → slice_get timers n ≡ Some t
    → elim (slice_get timers n) [ None ↦ Traps MissingTimer | Some u ↦ act_on u ] ≡ act_on t
with-timer-is timers n t act_on e =
    ap (λ (o : Option TimerState). elim o [ None ↦ Traps MissingTimer | Some u ↦ act_on u ]) e

-- ---- timers

pub timer-is : (timers : List TimerState) (n : ℕ) → n < length timers
    → slice_get timers n ≡ Some (timer_at timers n)
timer-is timers n h = slice_get-get_or timers n (first_state OnDelay) h

pub timer-good : (timers : List TimerState) (n : ℕ) → Each IsTimer timers
    → IsTimer (timer_at timers n)
timer-good [] n h = (omega arith, omega arith)
timer-good (t ∷ timers) zero h = h.0
timer-good (t ∷ timers) (suc n) h = timer-good timers n h.1

pub timers-set : (timers : List TimerState) (n : ℕ) (t : TimerState) → Each IsTimer timers
    → IsTimer t
    → Each IsTimer (slice_set timers n t)
timers-set [] n t h g = tt
timers-set (u ∷ timers) zero t h g = (g, h.1)
timers-set (u ∷ timers) (suc n) t h g = (h.0, timers-set timers n t h.1 g)

elapsed-within : (preset : ℕ) (phase : TimerPhase) (m : ℕ) → preset ≤ 0x7FFF_FFFF
    → elapsed_of preset phase m ≤ 0x7FFF_FFFF
elapsed-within preset Idle m h = omega arith
elapsed-within preset Held m h = omega arith
elapsed-within preset (Since start) m h = omega arith

pub call-good : (t : TimerState) (m : ℕ) → IsTimer t → IsTimer (after_call t m)
call-good t m h = (h.0, elapsed-within t.preset (phase_after t.kind t.input t.phase m) m h.0)
