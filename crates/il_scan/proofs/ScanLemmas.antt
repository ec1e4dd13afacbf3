-- A scan of words is a scan of the values that they stand for.
use Rattle.std.proofs.Common.{◌≡◌, ℕ, ℤ, List, ◌++◌, length, map, pos, refl, sym, ap, subst, ◌∙◌}
use Rattle.std.specs.Prelude.{slice_get}
use Rattle.std.proofs.lemmas.List.{length-map}
use Rattle.il_image.specs.declared.image.ImagePoint.{ImagePoint}
use Rattle.il_image.specs.declared.timer.TimerState.{TimerState}
use Rattle.il_image.specs.declared.value.Value.{Value}
use Rattle.il_image.specs.Images.{Image, IsImage}
use Rattle.il_image.specs.Machine.{State, run_from, initial_state}
use Rattle.il_image.specs.Timers as time
use Rattle.il_image.specs.Tables.{slot_types}
use Rattle.il_image.specs.Values.{type_of}
use Rattle.il_scan.specs.Scans.{AreInputs, MachineData, IsWithin, Scans, first_slots, first_machine, scan_start, with_inputs}
use Rattle.il_scan.specs.MachineStates.{AreWords, EncodesMemory, RunsTo, first_state, outputs_by}
use Rattle.il_scan.specs.Scans.{machine_data}
use Rattle.il_scan.specs.Words.{EncodeValues, values_of, words_of}
use Rattle.il_scan.proofs.SlotLemmas.{first-stand, held-words, only-read, outputs_are, same-slot, taken-stand, times-first}
use Rattle.il_scan.proofs.EncodingLemmas.{stand-again, stand-itself}

module _ (image : Image) (points : List ImagePoint) (is : points ≡ image.points) where
  pub points-words : (slots : List ℤ) (timers : List TimerState) → EncodesMemory image slots timers
      → AreWords points slots
  points-words slots timers h =
      subst (λ (ps : List ImagePoint). AreWords ps slots) (sym is) (held-words image slots timers h)

  module _ (inputs : List Value) (now : ℕ) (slots : List ℤ) (timers : List TimerState)
      (h : EncodesMemory image slots timers) (are : AreInputs image.points inputs) (taken : List ℤ)
      (e : taken ≡ with_inputs points (words_of inputs) slots) where
    stand : EncodeValues (slot_types image) taken
        (with_inputs image.points inputs (values_of (slot_types image) slots))
    stand = subst (λ (w : List ℤ). EncodeValues (slot_types image) w
        (with_inputs image.points inputs (values_of (slot_types image) slots)))
        (sym (e ∙ ap (λ (ps : List ImagePoint). with_inputs ps (words_of inputs) slots) is))
        (taken-stand image slots timers inputs h are)

    pub held-taken : EncodesMemory image taken timers
    held-taken =
        record {
          stand = stand-itself (slot_types image) taken
              (with_inputs image.points inputs (values_of (slot_types image) slots)) stand;
          timer_count = h.timer_count;
          times = h.times;
        }

    values-taken : values_of (slot_types image) taken
        ≡ with_inputs image.points inputs (values_of (slot_types image) slots)
    values-taken =
        stand-again (slot_types image) taken
        (with_inputs image.points inputs (values_of (slot_types image) slots)) stand

    first-is : first_state image taken timers ≡ scan_start (machine_data image slots timers) inputs
    first-is = ap (λ (v : List Value). initial_state v timers) values-taken

    pub scanned : (new_slots : List ℤ) (new_timers : List TimerState) (steps : ℕ)
        (outputs : List Value) → RunsTo image now taken timers new_slots new_timers steps
        → outputs ≡ outputs_by points new_slots
        → Scans (machine_data image slots timers) inputs now
        (machine_data image new_slots new_timers) steps
        outputs
    scanned new_slots new_timers steps outputs r given = record {
      image = refl;
      halts = λ most least. ap (λ (s : State). run_from image.code now most s 0) (sym first-is)
          ∙ r.halts most least;
      within = r.within;
      few = r.few;
      depth = λ most count d. subst (IsWithin image.code now most count) first-is
          (r.depth most count d);
      keeps = λ n p get only. same-slot (slot_types image) new_slots taken n
          (r.keeps n (only-read image n p get only))
          ∙ ap (λ (v : List Value). slice_get v n) values-taken;
      given = given ∙ ap (λ (ps : List ImagePoint). outputs_by ps new_slots) is
          ∙ outputs_are image.points (map type_of image.variables) new_slots;
    }

module _ (image : Image) (kept : IsImage image) (slots : List ℤ) (timers : List TimerState)
    (e : slots ≡ map (λ (p : ImagePoint). pos 0) image.points ++ words_of image.variables)
    (f : timers ≡ map time.first_state image.timers) where
  pub held-at-first : EncodesMemory image slots timers
  held-at-first = record {
    stand = stand-itself (slot_types image) slots (first_slots image.points image.variables)
        (first-stand image slots kept.values e);
    timer_count =
        ap (λ (ts : List TimerState). length ts) f ∙ length-map image.timers time.first_state;
    times = times-first timers image.timers f;
  }

  pub first-held : machine_data image slots timers ≡ first_machine image
  first-held =
      let values =
      stand-again (slot_types image) slots (first_slots image.points image.variables)
      (first-stand image slots kept.values e) in
      ap (λ (v : List Value). let h : MachineData =
      record { image = image; slots = v; timers = timers } in
      h) values
      ∙ ap (λ (ts : List TimerState). let h : MachineData =
      record { image = image; slots = first_slots image.points image.variables; timers = ts } in
      h) f
