-- Scans that stand behind a command, and those that don't; a program of HALT alone.
use Rattle.std.proofs.Common.{◌≡◌, ◌≢◌, ℕ, ◌≤◌, ◌+◌, true, false, List, [], ◌∷◌, Option, Ok, Err, Some, None, refl, ap, subst, ⊎_elim, arith}
use Rattle.std.specs.Prelude.{All, IsOk, IsSomeAnd}
use Rattle.il_image.specs.Machine.{Ending, Halted, Unfinished, act, run_from}
use Rattle.il_image.specs.Opcodes.{opcode_of}
use Rattle.il_image.specs.Offsets.{is_instruction_offset}
use Rattle.il_image.specs.Reading.{instr_at, instr_from}
use Rattle.il_image.specs.declared.value.Value.TheVariants.{Truth}
use Rattle.il_compile.specs.Meaning.{Memory}
use Rattle.bay_device.specs.Device.{State}
use Rattle.bay_device.specs.Fresh.{HasScan, IsSameProcess, PastEvent}
use Rattle.bay_device.specs.Meaning.{Halts, HaltsAt, MeansAt, memory_of}
use Rattle.bay_device.specs.declared.event.Event.TheVariants.{Contact, Scan}
use Rattle.bay_device.specs.declared.event.Step.{Step}
use Rattle.bay_device.specs.declared.fault.StepFault.{StepFault}
use Rattle.bay_tree.specs.declared.row.Row.{Row}
use Rattle.bay_base.specs.declared.position.Dbpos.TheVariants.{Off}
use Rattle.bay_device_example_laws.specs.Scans.{contact_past, halting_device, lost_past, empty_program, refused_past, scan_past, with_code, with_slot}
use Rattle.bay_device_example_laws.proofs.SplitLemmas.{all-one, none-there, one-there, two-there}

pub recent-stands : (s : State) (step : Step) (age : ℕ) → HasScan age age (scan_past s step ∷ [])
recent-stands s step age = record {
  since = [];
  scan = scan_past s step;
  earlier = [];
  split = refl;
  scanned = refl;
  done = refl;
  recent = omega arith;
  unchanged = λ k d lt. absurd (omega arith);
  heard = refl;
}

pub old-falls : (s : State) (step : Step) (age : ℕ)
    → HasScan (age + 1) age (scan_past s step ∷ []) → ⊥
old-falls s step age h =
    let is : h.scan ≡ scan_past s step =
    one-there (scan_past s step) h.since h.earlier h.scan h.split in
    let late : age + 1 ≤ 0 + age = subst (λ (p : PastEvent). age + 1 ≤ p.now + age) is h.recent in
    omega (arith, late)

pub none-stands : (now age : ℕ) → HasScan now age [] → ⊥
none-stands now age h = none-there h.since h.earlier h.scan h.split

pub other-falls : (s : State) (step : Step) (age : ℕ)
    → HasScan age age (contact_past s step ∷ []) → ⊥
other-falls s step age h =
    let is : h.scan ≡ contact_past s step =
    one-there (contact_past s step) h.since h.earlier h.scan h.split in
    let no : Contact 0 Off ≡ Scan =
    subst (λ (p : PastEvent). p.event ≡ Scan) is h.scanned in absurd cc

pub refused-falls : (s : State) (fault : StepFault) (age : ℕ)
    → HasScan age age (refused_past s fault ∷ []) → ⊥
refused-falls s fault age h =
    let is : h.scan ≡ refused_past s fault =
    one-there (refused_past s fault) h.since h.earlier h.scan h.split in
    let no : false ≡ true = subst (λ (p : PastEvent). IsOk p.answer) is h.done in absurd cc

pub unchanged-stands : (s t : State) (step : Step) (age : ℕ) → IsSameProcess s t
    → HasScan age age (contact_past t step ∷ scan_past s step ∷ [])
unchanged-stands s t step age same = record {
  since = contact_past t step ∷ [];
  scan = scan_past s step;
  earlier = [];
  split = refl;
  scanned = refl;
  done = refl;
  recent = omega arith;
  unchanged = all-one (λ (p : PastEvent). IsSameProcess s p.after) (contact_past t step) same;
  heard = refl;
}

pub changed-falls : (s t : State) (step : Step) (age : ℕ) → (IsSameProcess s t → ⊥)
    → HasScan age age (contact_past t step ∷ scan_past s step ∷ []) → ⊥
changed-falls s t step age differs h =
    ⊎_elim (λ (is : (h.scan ≡ contact_past t step) × (h.earlier ≡ scan_past s step ∷ [])).
    let no : Contact 0 Off ≡ Scan = subst (λ (p : PastEvent). p.event ≡ Scan) is.0 h.scanned in
    absurd cc)
    (λ (is : (h.scan ≡ scan_past s step) × (h.since ≡ contact_past t step ∷ [])).
    let all : All (λ (p : PastEvent). IsSameProcess h.scan.after p.after)
    (contact_past t step ∷ []) =
    subst (λ (ps : List PastEvent). All (λ (p : PastEvent). IsSameProcess h.scan.after p.after) ps)
    is.1
    h.unchanged in
    differs (subst (λ (p : PastEvent). IsSameProcess p.after t) is.0
    (all 0 (contact_past t step) (omega arith))))
    (two-there (contact_past t step) (scan_past s step) h.since h.earlier h.scan h.split)

pub lost-falls : (s t : State) (step : Step) (age : ℕ)
    → HasScan age age (lost_past t step ∷ scan_past s step ∷ []) → ⊥
lost-falls s t step age h = let no : false ≡ true = h.heard in absurd cc

pub one-step : (s : State) (step : Step)
    → HaltsAt 0 Scan (halting_device s) (Ok (record step { scan = Some 1 })) (halting_device s)
unfolding run_from act is_instruction_offset instr_at instr_from opcode_of
one-step s step = λ _ _. record {
  halts = refl;
  within = λ budget is. is.most 1 (0, refl, (1, refl));
}

pub no-step : (s : State) (step : Step)
    → HaltsAt 0 Scan (halting_device s) (Ok (record step { scan = None })) (halting_device s) → ⊥
no-step s step h = h refl refl

pub two-steps : (s : State) (step : Step)
    → HaltsAt 0 Scan (halting_device s) (Ok (record step { scan = Some 2 })) (halting_device s) → ⊥
unfolding run_from act is_instruction_offset instr_at instr_from opcode_of
two-steps s step h =
    let no : (let e : Ending = Halted [] [] 1 in e) ≡ Halted [] [] 2 =
    (h refl refl).halts in absurd cc

pub no-refusal : (s : State) (fault : StepFault)
    → HaltsAt 0 Scan (halting_device s) (Err fault) (halting_device s) → ⊥
no-refusal s fault h = h refl refl

never-ends : (s : State) (scan : Option ℕ)
    → IsSomeAnd scan (λ steps. Halts 0 (with_code [] s) steps (with_code [] s)) → ⊥
unfolding run_from act is_instruction_offset instr_at instr_from opcode_of
never-ends s None h = h
never-ends s (Some n) h =
    let no : (let e : Ending = Unfinished in e) ≡ Halted [] [] n = h.halts in absurd cc

pub no-end : (s : State) (step : Step)
    → HaltsAt 0 Scan (with_code [] s) (Ok step) (with_code [] s) → ⊥
no-end s step h = never-ends s step.scan (h refl refl)

pub same-means : (s : State) (step : Step)
    → MeansAt empty_program 0 Scan (halting_device s) (Ok step) (halting_device s)
same-means s step = λ _. record {
  after = memory_of empty_program [] [];
  is = refl;
  keeps = refl;
  rows = refl;
}

pub no-slot : (s : State) (step : Step)
    → MeansAt empty_program 0 Scan (halting_device s) (Ok step) (with_slot s) → ⊥
no-slot s step h =
    let is : Some (memory_of empty_program [] []) ≡ Some (h refl).after = (h refl).is in
    let keeps : memory_of empty_program (Truth true ∷ []) [] ≡ (h refl).after = (h refl).keeps in
    let same : memory_of empty_program (Truth true ∷ []) [] ≡ memory_of empty_program [] [] = cc in
    let no : Truth true ∷ [] ≡ [] = ap (λ (m : Memory). m.variables) same in absurd cc

pub no-rows : (s : State) (step : Step) (rows : List Row) → rows ≢ s.rows
    → MeansAt empty_program 0 Scan (halting_device s) (Ok step)
    (record (halting_device s) { rows = rows }) → ⊥
no-rows s step rows other h = other (h refl).rows
