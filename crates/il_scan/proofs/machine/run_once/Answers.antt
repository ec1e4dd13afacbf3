use Rattle.std.proofs.Common.{◌≡◌, ℕ, List, length, map, refl, sym, ap, subst, ◌∙◌, arith}
use Rattle.std.proofs.lemmas.List.{length-map}
use Rattle.bay_base.specs.declared.types.ElementaryType.{ElementaryType}
use Rattle.il_scan.proofs.HoldLemmas.{all-held}
use Rattle.il_image.specs.Values.{type_of}
use Rattle.il_image.specs.declared.image.ImagePoint.{ImagePoint}
use Rattle.il_image.specs.declared.value.Value.{Value}
use Rattle.il_scan.specs.OutputValues.{output_value}
use Rattle.il_scan.specs.PointIndices.{AllBelow}
use Rattle.il_scan.specs.Scans.{Scans, read_only, type_of_point}
use Rattle.il_scan.specs.Scans.{machine_data}
use Rattle.il_scan.proofs.PlaceLemmas.{are-values, outputs-placed, so-many-types, so-many-writes, types_of, writes-below}
use Rattle.il_scan.proofs.ScanLemmas.{points-words}
use Rattle.il_scan.proofs.SlotLemmas.{held-points, outputs_are}
use Rattle.il_scan.proofs.machine.run_once.Goals as goal

pub invariant_of-inputs : goal.invariant_of-inputs
invariant_of-inputs c =
    record {
      are = are-values (map type_of_point (read_only c.args.image.now.points))
          c.args.inputs.now c.requires.inputs;
    }

pub run_points-steps-requires-clause-types : goal.run_points-steps-requires-clause-types
run_points-steps-requires-clause-types c =
    types_of (map type_of_point (read_only c.args.image.now.points)) c.args.inputs.now
    c.requires.inputs

pub run_points-steps-requires-clause-hold : goal.run_points-steps-requires-clause-hold
run_points-steps-requires-clause-hold c =
    let image = c.args.image.now in
    let inputs = c.args.inputs.now in
    let types : List ElementaryType = map type_of_point (read_only image.points) in
    let same : length inputs ≡ length types =
    sym (length-map inputs type_of)
    ∙ ap (λ (ts : List ElementaryType). length ts) (types_of types inputs c.requires.inputs) in
    let many = so-many-types 0 image.points in
    let indices = ap (λ (ns : List ℕ). length ns)
    (c.as_slice-reads.ensures.value ∙ c.requires.kept.read) in
    all-held _ inputs _ refl (omega (arith, same, many, indices))

pub copy_outputs-requires-clause-words : goal.copy_outputs-requires-clause-words
copy_outputs-requires-clause-words c =
    points-words c.args.image.now c.points.result.now c.points.ensures.value
    c.run_points-steps.new.slots c.run_points-steps.new.timers c.run_points-steps.ensures.held

pub copy_outputs-requires-clause-within : goal.copy_outputs-requires-clause-within
copy_outputs-requires-clause-within c =
    let image = c.args.image.now in
    let below = writes-below (length image.points) 0 image.points (omega arith) in
    rw c.points.ensures.value
    (subst (AllBelow (length image.points))
    (sym (c.as_slice.ensures.value ∙ c.requires.kept.written)) below)

pub copy_outputs-requires-clause-room : goal.copy_outputs-requires-clause-room
copy_outputs-requires-clause-room c =
    c.requires.kept.room ∙ so-many-writes 0 c.args.image.now.points
    ∙ sym (ap (λ (ns : List ℕ). length ns)
    (c.as_slice.ensures.value ∙ c.requires.kept.written))

pub returns-clause-scans : goal.returns-clause-scans
returns-clause-scans c =
    let image = c.args.image.now in
    let new = c.run_points-steps.new.slots in
    let enough =
    held-points image new c.run_points-steps.new.timers c.run_points-steps.ensures.held in
    let given =
    c.copy_outputs.ensures ∙ ap
    (λ (ps : List ImagePoint). map (output_value ps new) c.as_slice.result.now)
    c.points.ensures.value
    ∙ ap (λ (ns : List ℕ). map (output_value image.points new) ns)
    (c.as_slice.ensures.value ∙ c.requires.kept.written)
    ∙ outputs-placed image.points new enough
    ∙ outputs_are image.points (map type_of image.variables) new in
    subst (λ (os : List Value). Scans (machine_data image c.args.slots.now c.args.timers.now)
    c.args.inputs.now c.args.now (machine_data image new c.run_points-steps.new.timers)
    c.run_points-steps.result os) (sym given) c.run_points-steps.ensures.scans
