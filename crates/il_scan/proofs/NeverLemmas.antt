-- Verified code ends in each scan.
use Rattle.std.proofs.Common.{◌≡◌, ℕ, zero, suc, ◌+◌, ◌<◌, ◌≤◌, ℤ, List, length, refl, sym, subst, arith, Option, Some, None, map}
use Rattle.il_image.specs.declared.timer.TimerState.{TimerState}
use Rattle.il_image.specs.declared.value.Value.{Value}
use Rattle.il_image.specs.Images.{Image}
use Rattle.il_image.specs.Octets.{AreOctets}
use Rattle.il_image.specs.Tables.{slot_types}
use Rattle.il_image.specs.Values.{type_of}
use Rattle.il_verify.specs.Verdicts.{IsSafe}
use Rattle.il_scan.specs.Laws.{ScanEnds, NeverGoesWrong}
use Rattle.il_scan.specs.Scans.{AreInputs, with_inputs}
use Rattle.il_scan.specs.MachineStates.{EncodesMemory, RunsTo, StepsTo, first_state, words_at}
use Rattle.il_scan.specs.Scans.{machine_data}
use Rattle.il_scan.specs.Words.{values_of, words_of}
use Rattle.il_scan.specs.WordEffects.{Words, next_offset, words_after}
use Rattle.il_scan.proofs.RunLemmas.{Comes, comes-next, forward, run-ends, starts}
use Rattle.il_scan.proofs.ScanLemmas.{held-taken, scanned}
use Rattle.il_scan.proofs.SlotLemmas.{outputs_are}
use Rattle.il_scan.proofs.EncodingLemmas.{held-by, stand-again}
use Rattle.il_scan.proofs.StepLemmas.{place-within, turned}

-- the run from these slots and timers ends somewhere
record RunEnds (image : Image) (now : ℕ) (slots : List ℤ) (timers : List TimerState) : Type 0 where
  new_slots : List ℤ
  new_timers : List TimerState
  steps : ℕ
  runs : RunsTo image now slots timers new_slots new_timers steps

module _ (image : Image) (now : ℕ) (slots : List ℤ) (timers : List TimerState) (safe : IsSafe image)
    (is-held : EncodesMemory image slots timers) where
  -- a run that has come to a place goes on to its end
  goes_on : (left offset steps : ℕ) (w : Words)
      (c : Comes image now (first_state image slots timers) offset steps w)
      → length image.code ≤ offset + left → RunEnds image now slots timers
  goes_on zero offset steps w c past =
      let within = place-within image now c.state c.stands.allowed in
      let there : c.state.offset ≡ offset = c.stands.there in
      absurd (omega arith)
  goes_on (suc left) offset steps w c past =
      let h = c.stands.allowed in
      let a = h.agrees.allowed c.state.offset h.kinds h.here in
      let within = place-within image now c.state h in
      let there : c.state.offset ≡ offset = c.stands.there in
      let less : offset < length image.code = omega arith in
      let after : Words = words_after now a.instr (words_at c.state) in
      let turn =
      turned image now c.state h a.instr a.next a.here c.octets
      (next_offset a.instr a.next (words_at c.state).stack) after refl refl in
      next-turn left offset steps w c past less after
      (next_offset a.instr a.next (words_at c.state).stack)
      turn (λ to later. goes_on left to (steps + 1) after later)
    where
      next-turn : (left offset steps : ℕ) (w : Words)
          (c : Comes image now (first_state image slots timers) offset steps w)
          → length image.code ≤ offset + suc left → offset < length image.code
          → (after : Words) (to : Option ℕ) → StepsTo image now c.state to after
          → ((q : ℕ) → Comes image now (first_state image slots timers) q (steps + 1) after
          → length image.code ≤ q + left → RunEnds image now slots timers)
          → RunEnds image now slots timers
      next-turn left offset steps w c past less after None turn more = record {
        new_slots = after.slots;
        new_timers = after.timers;
        steps = steps + 1;
        runs = run-ends image now slots timers offset steps w c less safe is-held after turn;
      }
      next-turn left offset steps w c past less after (Some to) turn more =
          let on : offset < to =
          forward image now (first_state image slots timers) offset steps w c less to after turn
          in
          more to (comes-next image now (first_state image slots timers) offset steps w c less to
          after turn) (omega arith)

  run-ends-somewhere : AreOctets image.code → RunEnds image now slots timers
  run-ends-somewhere octets =
      goes_on (length image.code) 0 0 _ (starts image now slots timers octets safe is-held)
      (omega arith)

-- a scan of words, from words that are held
scan-ends : (image : Image) (inputs : List Value) (now : ℕ) (slots : List ℤ)
    (timers : List TimerState) → AreOctets image.code → IsSafe image
    → EncodesMemory image slots timers
    → AreInputs image.points inputs → ScanEnds (machine_data image slots timers) inputs now
scan-ends image inputs now slots timers octets safe is-held are =
    let taken : List ℤ = with_inputs image.points (words_of inputs) slots in
    let before : EncodesMemory image taken timers =
    held-taken image image.points refl inputs now slots timers is-held are taken refl in
    let e = run-ends-somewhere image now taken timers safe before octets in
    record {
      new = machine_data image e.new_slots e.new_timers;
      steps = e.steps;
      scans = scanned image image.points refl inputs now slots timers is-held are taken refl
          e.new_slots e.new_timers e.steps _ e.runs
          (sym (outputs_are image.points (map type_of image.variables) e.new_slots));
    }

pub never_goes_wrong : NeverGoesWrong
never_goes_wrong image slots timers inputs now octets safe typed are =
    let is-held : EncodesMemory image (words_of slots) timers =
    held-by image (words_of slots) slots timers refl typed in
    let same : values_of (slot_types image) (words_of slots) ≡ slots =
    stand-again (slot_types image) (words_of slots) slots
    (record { are = refl; typed = typed.of_types }) in
    subst (λ (values : List Value). ScanEnds
    (record { image = image; slots = values; timers = timers })
    inputs now) same (scan-ends image inputs now (words_of slots) timers octets safe is-held
    are)
