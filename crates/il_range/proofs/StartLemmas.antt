-- What a scan starts from, what all scans keep, and what foretells a scan and a memory.
use Rattle.std.proofs.Common.{◌≡◌, ◌+◌, length, ℕ, zero, suc, Bool, true, false, cond, List, [], ◌∷◌, ◌++◌, refl, sym, ap, subst, ◌∙◌, map, drop, replicate, ◌≤◌, arith}
use Rattle.bay_base.specs.declared.types.TimerKind.{TimerKind}
use Rattle.il_image.specs.declared.image.ImagePoint.{ImagePoint}
use Rattle.il_image.specs.declared.timer.TimerState.{TimerState}
use Rattle.il_image.specs.declared.value.Value.{Value}
use Rattle.il_image.specs.Images.{Image}
use Rattle.il_image.specs.Timers.{first_state}
use Rattle.il_image.specs.Values.{default_value}
use Rattle.il_scan.specs.Scans.{MachineData, Scans, first_input, first_slots, first_machine, scan_start, with_inputs}
use Rattle.il_range.specs.declared.range.Range.{Range}
use Rattle.il_range.specs.declared.range.Range.TheVariants.{Any}
use Rattle.il_range.specs.declared.delay.KnownDelay.{KnownDelay}
use Rattle.il_range.specs.declared.timer.KnownTimer.{KnownTimer}
use Rattle.il_range.specs.Effects.{are_within, value_range, join_lists, widen_range}
use Rattle.il_range.specs.Predictions.{PredictsScans, IsMemory, IsReached, First, Next, ScanLeaves, with_memory}
use Rattle.il_range.specs.Laws.{DelaysContinue, ReachesByScan}
use Rattle.il_range.specs.Outcomes.{PredictsMemory, PredictsRun, PredictsReached}
use Rattle.il_range.specs.Ranges.{AreDelays, AreIn, AreTimersIn, IsDelay, IsIn, Setting, kind_of}
use Rattle.il_range.specs.Starts.{first_delay, known_of_kinds, range_of_point}
use Rattle.il_range.proofs.KeepLemmas.{Keeps, run-keeps}
use Rattle.il_range.proofs.ListLemmas.{each-left, each-size}
use Rattle.il_range.proofs.RangeLemmas.{are-within, in-exactly, in-widened}

-- ---- the start of a scan

first-in : (w : Setting) (inputs : List Value) (given : List Range) (v : Value) (r : Range)
    → AreIn w inputs given → IsIn w v r → IsIn w (first_input inputs v) (first_input given r)
first-in w [] [] v r h k = k
first-in w [] (s ∷ given) v r h k = absurd h
first-in w (u ∷ inputs) [] v r h k = absurd h
first-in w (u ∷ inputs) (s ∷ given) v r h k = h.0

behind-in : (w : Setting) (inputs : List Value) (given : List Range) → AreIn w inputs given
    → AreIn w (drop 1 inputs) (drop 1 given)
behind-in w [] [] h = tt
behind-in w [] (r ∷ given) h = absurd h
behind-in w (u ∷ inputs) [] h = absurd h
behind-in w (u ∷ inputs) (r ∷ given) h = h.1

points-in : (w : Setting) (points : List ImagePoint) (inputs : List Value) (given : List Range)
    (slots : List Value) (memory : List Range) → AreIn w inputs given → AreIn w slots memory
    → AreIn w (with_inputs points inputs slots) (with_inputs points given memory)
points-in w [] inputs given slots memory h k = k
points-in w (p ∷ points) inputs given [] [] h k = tt
points-in w (p ∷ points) inputs given [] (r ∷ memory) h k = absurd k
points-in w (p ∷ points) inputs given (v ∷ slots) [] h k = absurd k
points-in w (p ∷ points) inputs given (v ∷ slots) (r ∷ memory) h k = (
  now p.writable,
  points-in w points (cond p.writable inputs (drop 1 inputs))
      (cond p.writable given (drop 1 given)) slots memory (later p.writable) k.1,
)
  where
    now : (b : Bool) → IsIn w (cond b v (first_input inputs v)) (cond b r (first_input given r))
    now true = k.0
    now false = first-in w inputs given v r h k.0

    later : (b : Bool) → AreIn w (cond b inputs (drop 1 inputs)) (cond b given (drop 1 given))
    later true = h
    later false = behind-in w inputs given h

-- whatever the inputs are, where nothing is known of so many
free-in : (w : Setting) (points : List ImagePoint) (inputs : List Value) (n : ℕ)
    (slots : List Value)
    (memory : List Range) → length points ≤ n → AreIn w slots memory
    → AreIn w (with_inputs points inputs slots) (with_inputs points (replicate n Any) memory)
free-in w [] inputs n slots memory few k = k
free-in w (p ∷ points) inputs zero slots memory few k = absurd (omega arith)
free-in w (p ∷ points) inputs (suc n) [] [] few k = tt
free-in w (p ∷ points) inputs (suc n) [] (r ∷ memory) few k = absurd k
free-in w (p ∷ points) inputs (suc n) (v ∷ slots) [] few k = absurd k
free-in w (p ∷ points) inputs (suc n) (v ∷ slots) (r ∷ memory) few k =
    go p.writable (free-in w points inputs (suc n) slots memory (omega arith) k.1)
    (free-in w points (drop 1 inputs) n slots memory (omega arith) k.1)
  where
    go : (b : Bool)
        → AreIn w (with_inputs points inputs slots)
        (with_inputs points (replicate (suc n) Any) memory)
        → AreIn w (with_inputs points (drop 1 inputs) slots)
        (with_inputs points (replicate n Any) memory)
        → AreIn w
        (cond b v (first_input inputs v) ∷ with_inputs points (cond b inputs (drop 1 inputs)) slots)
        (cond b r (first_input (replicate (suc n) Any) r)
        ∷ with_inputs points (cond b (replicate (suc n) Any) (drop 1 (replicate (suc n) Any)))
        memory)
    go true written read = (k.0, written)
    go false written read = (tt, read)

delay-first : (mark now : ℕ) (t : TimerState) (timers : List TimerState)
    (delays : List KnownDelay) → AreDelays mark now (t ∷ timers) delays
    → IsDelay mark now t.kind t.phase (first_delay delays)
delay-first mark now t timers [] y = tt
delay-first mark now t timers (d ∷ delays) y = y.0

delays-later : (mark now : ℕ) (t : TimerState) (timers : List TimerState)
    (delays : List KnownDelay) → AreDelays mark now (t ∷ timers) delays
    → AreDelays mark now timers (drop 1 delays)
delays-later mark now t timers [] y = tt
delays-later mark now t timers (d ∷ delays) y = y.1

pub timers-start : (w : Setting) (now : ℕ) (timers : List TimerState) (kinds : List TimerKind)
    (delays : List KnownDelay) → map kind_of timers ≡ kinds → AreDelays w.mark now timers delays
    → AreTimersIn w now timers (known_of_kinds kinds delays)
timers-start w now [] [] delays e y = tt
timers-start w now [] (k ∷ kinds) delays e y = absurd (cc)
timers-start w now (t ∷ timers) [] delays e y = absurd (cc)
timers-start w now (t ∷ timers) (k ∷ kinds) delays e y =
    let is : t.kind ≡ k = cc in let are : map kind_of timers ≡ kinds = cc in (
      record {
        of_kind = is;
        in_input = tt;
        in_preset = tt;
        in_output = tt;
        in_elapsed = tt;
        in_delay = delay-first w.mark now t timers delays y;
      },
      timers-start w now timers kinds (drop 1 delays) are
          (delays-later w.mark now t timers delays y),
    )

-- what is known of the delays of timers
pub delays-known : (w : Setting) (now : ℕ) (timers : List TimerState) (known : List KnownTimer)
    → AreTimersIn w now timers known → AreDelays w.mark now timers (map (λ u. u.delay) known)
delays-known w now [] [] h = tt
delays-known w now [] (u ∷ known) h = absurd h
delays-known w now (t ∷ timers) [] h = absurd h
delays-known w now (t ∷ timers) (u ∷ known) h = (h.0.in_delay, delays-known w now timers known h.1)

-- ---- what each scan keeps

leaves-keep : (machine : MachineData) (inputs : List Value) (now : ℕ) (slots : List Value)
    (timers : List TimerState) → ScanLeaves machine inputs now slots timers
    → Keeps now slots timers (scan_start machine inputs)
leaves-keep machine inputs now slots timers l =
    run-keeps machine.image.code now l.most (scan_start machine inputs) 0 slots timers l.steps
    l.halts

pub delays-continue : DelaysContinue
delays-continue machine inputs now slots timers l =
    (leaves-keep machine inputs now slots timers l).begins

-- What `scan` does is a run.
pub leaves-by-scan : (old new : MachineData) (inputs outputs : List Value) (now steps : ℕ)
    → Scans old inputs now new steps outputs → ScanLeaves old inputs now new.slots new.timers
leaves-by-scan old new inputs outputs now steps s =
    record { most = steps; steps = steps; halts = s.halts steps (omega arith) }

-- It leads from a machine that is reached to another.
pub reaches-by-scan : ReachesByScan
reaches-by-scan old new inputs outputs now steps s r =
    subst IsReached
    (ap (λ (i : Image). with_memory new.slots new.timers (record new { image = i })) (sym s.image))
    (Next old inputs now new.slots new.timers r
    (leaves-by-scan old new inputs outputs now steps s))

first-kinds : (kinds : List TimerKind) → map kind_of (map first_state kinds) ≡ kinds
first-kinds [] = refl
first-kinds (k ∷ kinds) = ap (λ (l : List TimerKind). k ∷ l) (first-kinds kinds)

kinds-stay : (machine : MachineData) → IsReached machine
    → map kind_of machine.timers ≡ machine.image.timers
kinds-stay machine (First image) = first-kinds image.timers
kinds-stay machine (Next before inputs now slots timers r l) =
    (leaves-keep before inputs now slots timers l).kinds ∙ kinds-stay before r

inputs-size : (points : List ImagePoint) (inputs slots : List Value)
    → length (with_inputs points inputs slots) ≡ length slots
inputs-size [] inputs slots = refl
inputs-size (p ∷ points) inputs [] = refl
inputs-size (p ∷ points) inputs (v ∷ slots) =
    ap suc (inputs-size points (cond p.writable inputs (drop 1 inputs)) slots)

first-size : (points : List ImagePoint) (variables : List Value)
    → length (first_slots points variables) ≡ length points + length variables
first-size [] variables = omega arith
first-size (p ∷ points) variables = let less = first-size points variables in omega arith

-- the number of the slots of an image
abbrev pub slot_count : Image → ℕ
slot_count image = length image.points + length image.variables

size-stays : (machine : MachineData) → IsReached machine
    → length machine.slots ≡ slot_count machine.image
size-stays machine (First image) = first-size image.points image.variables
size-stays machine (Next before inputs now slots timers r l) =
    (leaves-keep before inputs now slots timers l).size
    ∙ inputs-size before.image.points inputs before.slots ∙ size-stays before r

-- ---- what foretells a scan

any-in : (w : Setting) (slots : List Value) (n : ℕ) → length slots ≡ n
    → AreIn w slots (replicate n Any)
any-in w [] zero e = tt
any-in w [] (suc n) e = absurd (omega arith)
any-in w (v ∷ slots) zero e = absurd (omega arith)
any-in w (v ∷ slots) (suc n) e = (tt, any-in w slots n (omega arith))

-- Nothing that is known holds of each machine that is reached.
pub any-memory : (image : Image) → IsMemory image (replicate (slot_count image) Any)
any-memory image w machine is r =
    any-in w machine.slots (slot_count image) (size-stays machine r ∙ ap slot_count is)

pub any-tells : (image : Image) (start : List Range) (delays last : List KnownDelay)
    (result : List Range) → last ≡ [] → result ≡ replicate (slot_count image) Any
    → PredictsReached image start delays last result
any-tells image start delays last result none all w machine inputs now slots timers is r h y l = (
  subst (AreIn w slots) (sym all)
      (any-memory image w (with_memory slots timers machine) is
      (Next machine inputs now slots timers r l)),
  subst (AreDelays w.mark now timers) (sym none) tt,
)

-- The result of the pass tells it.
pub pass-tells : (image : Image) (start : List Range) (delays : List KnownDelay)
    (last : List KnownTimer) (result : List Range)
    → PredictsRun image.code (known_of_kinds image.timers delays) start last result
    → PredictsReached image start delays (map (λ u. u.delay) last) result
pass-tells image start delays last result p w machine inputs now slots timers is r h y l =
    let q : PredictsRun machine.image.code (known_of_kinds machine.image.timers delays) start last
    result =
    subst
    (λ (i : Image). PredictsRun i.code (known_of_kinds i.timers delays) start last result) (sym is)
    p in
    let end =
    q w (scan_start machine inputs).slots slots h
    (record {
      timers = machine.timers;
      now = now;
      most = l.most;
      timers_after = timers;
      steps = l.steps;
      halts = l.halts;
    })
    (timers-start w now machine.timers machine.image.timers delays (kinds-stay machine r) y) in
    (end.0, delays-known w now timers last end.1)

-- From given inputs.
pub tells-given : (image : Image) (start memory : List Range) (delays : List KnownDelay)
    (given : List Range) (last : List KnownDelay) (result : List Range)
    → start ≡ with_inputs image.points given memory → PredictsReached image start delays last result
    → PredictsScans image memory delays given last result
tells-given image start memory delays given last result at t w machine inputs now slots timers is
    r
    k
    y
    h l =
    t w machine inputs now slots timers is r
    (rw (at, ← is) (points-in w machine.image.points inputs given machine.slots memory h k)) y l

-- From any inputs.
pub tells-any : (image : Image) (start memory : List Range) (last : List KnownDelay)
    (result : List Range)
    → start ≡ with_inputs image.points (replicate (length image.points) Any) memory
    → PredictsReached image start [] last result → PredictsMemory image memory result
tells-any image start memory last result at t w machine inputs now slots timers is r k l =
    (t w machine inputs now slots timers is r
    (rw (at, ← is) (free-in w machine.image.points inputs (length machine.image.points)
    machine.slots memory (omega arith) k)) tt l).0

-- ---- what foretells a memory

-- The first values are in their ranges.
pub firsts-in : (w : Setting) (points : List ImagePoint) (variables : List Value)
    → AreIn w (first_slots points variables)
    (map range_of_point points ++ map value_range variables)
firsts-in w (p ∷ points) variables =
    (in-exactly w (default_value p.elementary), firsts-in w points variables)
firsts-in w [] [] = tt
firsts-in w [] (v ∷ variables) = (in-exactly w v, firsts-in w [] variables)

-- There is a range for each slot.
pub firsts-size : (w : Setting) (image : Image) (ranges : List Range)
    → AreIn w (first_machine image).slots ranges
    → length ranges ≡ slot_count image
firsts-size w image ranges h =
    sym (each-size (IsIn w) (first_machine image).slots ranges h)
    ∙ first-size image.points image.variables

-- What ranges stand for, they stand for where they are widened.
pub grows : (w : Setting) (is_late : Bool) (slots : List Value) (ranges left : List Range)
    → AreIn w slots ranges
    → AreIn w slots (join_lists (widen_range is_late) ranges left)
grows w is_late slots ranges left h =
    each-left (IsIn w) (widen_range is_late) (in-widened w is_late) slots ranges left h

-- Ranges of the first values, within which a scan stays, are those of the memory.
pub settled : (image : Image) (ranges left : List Range)
    → ((w : Setting) → AreIn w (first_machine image).slots ranges)
    → PredictsMemory image ranges left → are_within left ranges ≡ true → IsMemory image ranges
settled image ranges left first carries inside w machine is r = go machine r is
  where
    go : (machine : MachineData) → IsReached machine → machine.image ≡ image
        → AreIn w machine.slots ranges
    go machine (First i) is =
        subst (λ (j : Image). AreIn w (first_machine j).slots ranges) (sym is) (first w)
    go machine (Next before inputs now slots timers r l) is =
        are-within w slots left ranges inside
        (carries w before inputs now slots timers is r (go before r is) l)
