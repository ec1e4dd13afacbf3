-- Each scan of a device with a verified image halts, whoever wrote the image.
use Rattle.std.proofs.Common.{◌≡◌, ℕ, ℤ, suc, pos, negsuc, ◌≤◌, ◌||◌, ◌⊎◌, nat_lt, Bool, true, false, cond, List, [], ◌∷◌, ◌++◌, length, map, Some, None, Result, Ok, IsOkAnd, IsSomeAnd, inl, inr, refl, sym, ap, subst, ◌∙◌, arith}
use Rattle.std.specs.Prelude.{IsSome, ◌≤ℤ◌}
use Rattle.std.proofs.lemmas.Int.{ints}
use Rattle.std.proofs.lemmas.List.{length-map}
use Rattle.bay_audit.specs.Process.{IsProcess, process_value}
use Rattle.bay_audit_laws.specs.Laws.{process_of}
use Rattle.bay_audit_laws.proofs.LawLemmas.{Turned}
use Rattle.bay_audit_laws.proofs.ProcessLemmas.{inputs-read}
use Rattle.bay_base.specs.declared.point.Point.{Point}
use Rattle.bay_base.specs.declared.point.Source.{Source}
use Rattle.bay_base.specs.declared.point.Source.TheVariants as source
use Rattle.bay_base.specs.declared.point.SwitchPoint.{SwitchPoint}
use Rattle.bay_base.specs.declared.point.SwitchPoint.TheVariants.{Position, Open, Closed, EnableOpen, EnableClose}
use Rattle.bay_base.specs.declared.types.ElementaryType.{ElementaryType}
use Rattle.bay_config.specs.Laws.{IsBay}
use Rattle.bay_config.specs.declared.bay.Bay.{Bay}
use Rattle.bay_device.specs.Device.{RunResult, State, after_scan, device_at, ending_at, inputs_of, run_result_at, run_result_of}
use Rattle.bay_device.specs.Load.{initial_device}
use Rattle.bay_device.specs.Meaning.{Halts, HaltsAt, Runs}
use Rattle.bay_device.specs.Outcomes.{Outcome, last_moment, outcome, refusal_outcome, scan_outcome}
use Rattle.bay_device.specs.Steps.{Steps}
use Rattle.bay_device.specs.declared.event.Event.{Event}
use Rattle.bay_device.specs.declared.event.Event.TheVariants.{Scan}
use Rattle.bay_device.specs.declared.event.Step.{Step}
use Rattle.bay_device.specs.declared.fault.StepFault.{StepFault}
use Rattle.bay_device.specs.declared.fault.StepFault.TheVariants.{MomentTooLarge, TimeWentBack}
use Rattle.bay_process.specs.Sources.{type_of_source}
use Rattle.bay_process.specs.Values.{is_position, position_value}
use Rattle.bay_process.proofs.SourceLemmas.{IsTyped, bay-typed, points-fit, reads-typed}
use Rattle.bay_audit_rules.specs.Process.{Process}
use Rattle.bay_base.specs.declared.position.Dbpos.{Dbpos}
use Rattle.bay_base.specs.declared.position.Dbpos.TheVariants.{Intermediate, Off, On, Bad}
use Rattle.bay_tree.specs.declared.leaf.Leaf.TheVariants as leaf
use Rattle.cmd_replay.proofs.BudgetLemmas.{step-halts}
use Rattle.il_check.specs.Program.{Checked}
use Rattle.il_image.specs.Decoding.{decoded_image}
use Rattle.il_image.specs.Images.{Each, Image, IsImage, IsValue, count_and_items, image_octets, mark, point_octets, timer_octets, variable_octets, version_octet}
use Rattle.il_image.proofs.ImageLemmas.{spelled-image}
use Rattle.il_image.specs.declared.opcode.Version.{Version}
use Rattle.il_image.specs.Machine.{Halted}
use Rattle.il_image.specs.Octets.{AreOctets, number_octets}
use Rattle.il_image.specs.Tables.{slot_types}
use Rattle.il_image.specs.Timers.{first_state}
use Rattle.il_image.specs.Values.{is_between, type_of}
use Rattle.il_image.specs.declared.value.Value.TheVariants.{Long}
use Rattle.il_scan.specs.Scans.{AreInputs, MachineData, read_only, type_of_point}
use Rattle.il_scan.specs.MachineStates.{HaveTypes}
use Rattle.il_scan.specs.Words.{AreTyped}
use Rattle.il_scan.proofs.SlotLemmas.{first-stand, times-first}
use Rattle.il_scan.proofs.ValueLemmas.{truth-value}
use Rattle.il_verify.specs.Verdicts.{IsSafe, IsVerified}
use Rattle.cmd_audit_laws.proofs.RestLemmas.{Rests, scan-rests}

-- ---- what is read

some-value : {A : Type 0} (b : Bool) (x : A) → b ≡ true → IsSome (cond b (Some x) None)
some-value true x e = refl
some-value false x e = absurd cc

long-between : (z : ℤ) → negsuc 2147483647 ≤ℤ z → z ≤ℤ pos 2147483647
    → is_between (negsuc 0x7FFF_FFFF) (pos 0x7FFF_FFFF) z ≡ true
long-between z least greatest = grind (arith, ints)

-- A value that a source gives has its type, and is one of this type.
abbrev IsOf : Process → Source → Type 0
IsOf p o = (type_of (process_value p o) ≡ type_of_source o) × IsValue (process_value p o)

switch-of : (p : Process) (k : ℕ) (point : SwitchPoint) → IsOf p (source.Switch k point)
switch-of p k Position = by-position (p.position k)
  where
    by-position : (d : Dbpos)
        → (type_of (position_value Position (Some (leaf.Dbpos d)))
        ≡ type_of_source (source.Switch k Position))
        × IsValue (position_value Position (Some (leaf.Dbpos d)))
    by-position Intermediate = (refl, refl)
    by-position Off = (refl, refl)
    by-position On = (refl, refl)
    by-position Bad = (refl, refl)
switch-of p k Open = (refl, truth-value (is_position Off (Some (leaf.Dbpos (p.position k)))))
switch-of p k Closed = (refl, truth-value (is_position On (Some (leaf.Dbpos (p.position k)))))
switch-of p k EnableOpen = (refl, refl)
switch-of p k EnableClose = (refl, refl)

source-of : (p : Process) → IsProcess p → (o : Source) → IsOf p o
source-of p is (source.Switch k point) = switch-of p k point
source-of p is (source.Input k) = (refl, truth-value (p.input k))
source-of p is (source.Meter k field) = (
  refl,
  some-value _ (Long (p.measure k field))
      (long-between (p.measure k field) (is.least k field) (is.greatest k field)),
)

sources-typed : (p : Process) → IsProcess p → (os : List Source) (types : List ElementaryType)
    → map type_of_source os ≡ types → AreTyped types (map (process_value p) os)
sources-typed p is [] [] e = tt
sources-typed p is [] (t ∷ types) e = absurd cc
sources-typed p is (o ∷ os) [] e = absurd cc
sources-typed p is (o ∷ os) (t ∷ types) e =
    let one = source-of p is o in
    let same : type_of_source o ≡ t = cc in
    let rest : map type_of_source os ≡ types = cc in
    ((one.0 ∙ same, one.1), sources-typed p is os types rest)

-- ---- a device with a verified image

-- The code is safe, slots and timers are of their types, and so is what is read.
pub record Sound (s : State) : Type 0 where
  pub octets : AreOctets s.machine.image.code
  pub safe : IsSafe s.machine.image
  pub typed : HaveTypes (slot_types s.machine.image) (length s.machine.image.timers) s.machine.slots
      s.machine.timers
  pub reads : map type_of_source s.reads
      ≡ map type_of_point (read_only s.machine.image.points)

module _ (s : State) (sound : Sound s) (is : IsProcess (process_of s)) (now : ℕ) where
  rests : Rests s.machine (inputs_of s) now
  rests =
      scan-rests s.machine.image s.machine.slots s.machine.timers (inputs_of s) now sound.octets
      sound.safe sound.typed
      (subst (AreInputs s.machine.image.points) (sym (inputs-read s s.reads refl))
      (sources-typed (process_of s) is s.reads _ sound.reads))

  ends : ending_at now s
      ≡ Halted rests.ends.new.slots rests.ends.new.timers rests.ends.steps
  ends = rests.ends.scans.halts (length s.machine.image.code) rests.ends.scans.few

  ran : run_result_at now s ≡ record {
    slots = rests.ends.new.slots;
    timers = rests.ends.new.timers;
    steps = rests.ends.steps;
  }
  ran = ap run_result_of ends

  scan-halts : Halts now s (run_result_at now s).steps (after_scan now s)
  scan-halts = record {
    halts = ends ∙ sym (ap (λ (x : RunResult). Halted x.slots x.timers x.steps) ran);
    within = λ budget b. subst (λ (x : RunResult). x.steps ≤ budget) (sym ran)
        (rests.ends.scans.within budget b);
  }

  scan-sound : Sound (after_scan now s)
  scan-sound = record {
    octets = sound.octets;
    safe = sound.safe;
    typed = subst (λ (x : RunResult). HaveTypes (slot_types s.machine.image)
        (length s.machine.image.timers) x.slots x.timers) (sym ran) rests.typed;
    reads = sound.reads;
  }

  halts-if : (late early : Bool) → late || early ≡ false
      → let o : Outcome = cond late (refusal_outcome MomentTooLarge s)
      (cond early (refusal_outcome TimeWentBack s) (scan_outcome now s)) in
      IsOkAnd o.answer (λ step. IsSomeAnd step.scan (λ steps. Halts now s steps o.after))
  halts-if true early h = absurd cc
  halts-if false true h = absurd cc
  halts-if false false h = record { halts = scan-halts.halts; within = scan-halts.within }

abbrev HaltsTo : ℕ → State → Result Step StepFault → State → Type 0
HaltsTo now old answer new =
    IsOkAnd answer (λ step. IsSomeAnd step.scan (λ steps. Halts now old steps new))

sound-as : (s t : State) → t.machine ≡ s.machine → t.reads ≡ s.reads → Sound s → Sound t
sound-as s t machine reads sound = record {
  octets = subst (λ (h : MachineData). AreOctets h.image.code) (sym machine) sound.octets;
  safe = subst (λ (h : MachineData). IsSafe h.image) (sym machine) sound.safe;
  typed = subst (λ (h : MachineData). HaveTypes (slot_types h.image) (length h.image.timers) h.slots
      h.timers)
      (sym machine) sound.typed;
  reads = ap (map type_of_source) reads ∙ sound.reads
      ∙ sym (ap (λ (h : MachineData). map type_of_point (read_only h.image.points)) machine);
}

pub sound-halts : (now : ℕ) (event : Event) (old : State) (answer : Result Step StepFault)
    (new : State) → IsProcess (process_of old) → Sound old → Steps now event old answer new
    → HaltsAt now event old answer new
sound-halts now event old answer new is sound steps scan on_time =
    let e = ap (λ (e : Event). outcome steps.choice now e old) scan in
    subst (λ (s : State). HaltsTo now old answer s)
    (sym (steps.left ∙ ap (λ (o : Outcome). o.after) e))
    (subst (λ (r : Result Step StepFault). HaltsTo now old r
    (outcome steps.choice now Scan old).after)
    (sym (steps.answered ∙ ap (λ (o : Outcome). o.answer) e))
    (halts-if old sound is now (nat_lt last_moment now) (nat_lt now old.moment) on_time))

pub sound-on : (now : ℕ) (event : Event) (old : State) (answer : Result Step StepFault)
    (new : State) → IsProcess (process_of old) → Sound old → Turned now event old answer new
    → Sound new
sound-on now event old answer new is sound (inl same) = subst Sound (sym same.2) sound
sound-on now event old answer new is sound (inr (inl quiet)) =
    sound-as old new quiet.1.machine quiet.1.reads sound
sound-on now event old answer new is sound (inr (inr scan)) =
    subst Sound (sym scan.1)
    (scan-sound (device_at now old) (sound-as old (device_at now old) refl refl sound)
    (record { least = is.least; greatest = is.greatest }) now)

-- ---- a device that runs a text, or has a verified image

-- It runs what a text means, or is sound.
abbrev pub Steady : State → Type 0
Steady s = ((c : Checked) × Runs c s) ⊎ Sound s

-- each scan of it halts
pub steady-halts : (now : ℕ) (event : Event) (old : State) (answer : Result Step StepFault)
    (new : State) → IsProcess (process_of old) → Steady old → Steps now event old answer new
    → HaltsAt now event old answer new
steady-halts now event old answer new is (inl text) steps =
    (step-halts text.0 now event old answer new text.1 steps).0
steady-halts now event old answer new is (inr sound) steps =
    sound-halts now event old answer new is sound steps

-- and it stays so
pub steady-on : (now : ℕ) (event : Event) (old : State) (answer : Result Step StepFault)
    (new : State) → IsProcess (process_of old) → Steady old → Steps now event old answer new
    → Turned now event old answer new → Steady new
steady-on now event old answer new is (inl text) steps turn =
    inl (text.0, (step-halts text.0 now event old answer new text.1 steps).1)
steady-on now event old answer new is (inr sound) steps turn =
    inr (sound-on now event old answer new is sound turn)

-- ---- before the first event

-- the code of an image stands at the end of its octets
behind : (xs ys : List ℕ) → AreOctets (xs ++ ys) → AreOctets ys
behind [] ys octets = octets
behind (x ∷ xs) ys octets = behind xs ys (λ i. octets (suc i))

code-octets : (version : Version) (i : Image) → AreOctets (image_octets version i)
    → AreOctets i.code
unfolding image_octets
code-octets version i octets =
    let sized = number_octets (length i.code) ++ i.code in
    let timers = count_and_items (timer_octets version) i.timers ++ sized in
    let variables = count_and_items (variable_octets version) i.variables ++ timers in
    let points = count_and_items point_octets i.points ++ variables in
    behind (number_octets (length i.code)) i.code
    (behind (count_and_items (timer_octets version) i.timers) sized
    (behind (count_and_items (variable_octets version) i.variables) timers
    (behind (count_and_items point_octets i.points) variables
    (behind (mark ++ (version_octet version ∷ [])) points octets))))

sound-first : (bay : Bay) (image : Image) → IsBay bay → IsVerified bay.points image
    → IsImage image → AreOctets image.code → Sound (initial_device bay image)
sound-first bay image is verified kept octets = record {
  octets = octets;
  safe = verified.safe;
  typed = record {
    of_types = (first-stand image _ kept.values refl).typed;
    timer_count = length-map image.timers first_state;
    times = times-first _ image.timers refl;
  };
  reads = reads-typed bay.points
      (subst (λ (ps : List Point). Each IsTyped ps) (sym is.points)
      (bay-typed bay.switches bay.inputs bay.meters)) image.points
      (points-fit bay.points image verified.fits);
}

-- a device that was loaded from octets of an image
pub image-sound : (program : List ℕ) (bay : Bay) (image : Image) → IsBay bay → AreOctets program
    → decoded_image program ≡ Ok image → IsVerified bay.points image
    → Sound (initial_device bay image)
image-sound program bay image is octets spelled verified =
    let read = spelled-image program image octets spelled in
    sound-first bay image is verified read.0
    (code-octets read.1.0 image (subst AreOctets read.1.1 octets))
