-- Words of slots and the values that they stand for.
use Rattle.std.proofs.Common.{◌≡◌, ℤ, List, [], ◌∷◌, length, refl, sym, ap, subst, ◌∙◌}
use Rattle.bay_base.specs.declared.types.ElementaryType.{ElementaryType}
use Rattle.il_image.specs.declared.timer.TimerState.{TimerState}
use Rattle.il_image.specs.declared.value.Value.{Value}
use Rattle.il_image.specs.Images.{Image}
use Rattle.il_image.specs.Tables.{slot_types}
use Rattle.il_scan.specs.MachineStates.{EncodesMemory, HaveTypes}
use Rattle.il_scan.specs.Words.{AreTyped, EncodeValues, values_of, words_of}
use Rattle.il_scan.proofs.ValueLemmas.{value-again}

values-again : (types : List ElementaryType) (values : List Value) → AreTyped types values
    → values_of types (words_of values) ≡ values
values-again [] [] h = refl
values-again [] (v ∷ values) h = absurd h
values-again (t ∷ types) [] h = absurd h
values-again (t ∷ types) (v ∷ values) h =
    ap (λ (u : Value). u ∷ values_of types (words_of values)) (value-again t v h.0.0 h.0.1)
    ∙ ap (λ (us : List Value). v ∷ us) (values-again types values h.1)

-- Words stand for one list of values of given types.
pub stand-again : (types : List ElementaryType) (words : List ℤ) (values : List Value)
    → EncodeValues types words values → values_of types words ≡ values
stand-again types words values s = ap (values_of types) s.are ∙ values-again types values s.typed

pub stand-itself : (types : List ElementaryType) (words : List ℤ) (values : List Value)
    → EncodeValues types words values → EncodeValues types words (values_of types words)
stand-itself types words values s =
    subst (EncodeValues types words) (sym (stand-again types words values s)) s

pub held-by : (image : Image) (words : List ℤ) (values : List Value) (timers : List TimerState)
    → words ≡ words_of values → HaveTypes (slot_types image) (length image.timers) values timers
    → EncodesMemory image words timers
held-by image words values timers are typed = record {
  stand = stand-itself (slot_types image) words values
      (record { are = are; typed = typed.of_types });
  timer_count = typed.timer_count;
  times = typed.times;
}

pub held-typed : (image : Image) (words : List ℤ) (timers : List TimerState)
    → EncodesMemory image words timers
    → HaveTypes (slot_types image) (length image.timers) (values_of (slot_types image) words) timers
held-typed image words timers h =
    record { of_types = h.stand.typed; timer_count = h.timer_count; times = h.times }
