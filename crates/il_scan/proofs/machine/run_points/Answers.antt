use Rattle.std.proofs.Common.{ℕ, List, length, map, refl, sym, ap, subst, ◌∙◌, arith}
use Rattle.bay_base.specs.declared.types.ElementaryType.{ElementaryType}
use Rattle.il_image.specs.Values.{type_of}
use Rattle.il_scan.specs.PointIndices.{AllBelow, IsRising}
use Rattle.il_scan.specs.Scans.{machine_data, outputs_of}
use Rattle.il_image.specs.Tables.{slot_types}
use Rattle.il_scan.specs.Words.{AreTyped, values_of, words_of}
use Rattle.il_scan.proofs.HoldLemmas.{enough-values, held-put, reads-rise, scan-keeps}
use Rattle.il_scan.proofs.PlaceLemmas.{inputs-taken, reads_below, so-many-types}
use Rattle.il_scan.proofs.ScanLemmas.{held-taken, scanned}
use Rattle.il_scan.proofs.SlotLemmas.{held-points, outputs_are}
use Rattle.il_scan.proofs.machine.run_points.Goals as goal

pub read_inputs-requires-clause-within : goal.read_inputs-requires-clause-within
read_inputs-requires-clause-within g c =
    let image = c.args.image.now in
    let few = held-points image c.args.slots.now c.args.timers.now c.requires.held in
    subst (AllBelow (length c.args.slots.now)) (sym c.requires.read)
    (reads_below (length c.args.slots.now) 0 image.points (omega (arith, few)))

pub read_inputs-requires-clause-sized : goal.read_inputs-requires-clause-sized
read_inputs-requires-clause-sized g c =
    ap (λ (ts : List ElementaryType). length ts) c.requires.types
    ∙ so-many-types 0 c.args.image.now.points
    ∙ sym (ap (λ (ns : List ℕ). length ns) c.requires.read)

pub read_inputs-requires-clause-rising : goal.read_inputs-requires-clause-rising
read_inputs-requires-clause-rising g c =
    subst IsRising (sym c.requires.read) (reads-rise 0 c.args.image.now.points)

pub read_inputs-requires-clause-put : goal.read_inputs-requires-clause-put
read_inputs-requires-clause-put g c =
    held-put c.args.image.now c.args.slots.now c.args.timers.now c.requires.held c.args.reads.now
    (g.I.Inputs.types c.args.inputs.now) (g.I.Inputs.values c.args.inputs.now) c.args.span
    c.requires.read c.requires.types c.requires.hold

pub run-requires-clause-held : goal.run-requires-clause-held
run-requires-clause-held g c =
    let image = c.args.image.now in
    let values = g.I.Inputs.values c.args.inputs.now in
    let few = held-points image c.args.slots.now c.args.timers.now c.requires.held in
    let are =
    subst (λ (ts : List ElementaryType). AreTyped ts values) c.requires.types
    c.read_inputs.ensures.typed in
    let taken =
    inputs-taken image.points c.args.reads.now (words_of values) c.args.slots.now
    c.read_inputs.new.slots few c.requires.read c.read_inputs.ensures.slots in
    held-taken image image.points refl values c.args.now c.args.slots.now c.args.timers.now
    c.requires.held are c.read_inputs.new.slots taken

pub returns-clause-scans : goal.returns-clause-scans
returns-clause-scans g c =
    let image = c.args.image.now in
    let values = g.I.Inputs.values c.args.inputs.now in
    let few = held-points image c.args.slots.now c.args.timers.now c.requires.held in
    let are =
    subst (λ (ts : List ElementaryType). AreTyped ts values) c.requires.types
    c.read_inputs.ensures.typed in
    let taken =
    inputs-taken image.points c.args.reads.now (words_of values) c.args.slots.now
    c.read_inputs.new.slots few c.requires.read c.read_inputs.ensures.slots in
    scanned image image.points refl values c.args.now c.args.slots.now c.args.timers.now
    c.requires.held are c.read_inputs.new.slots taken
    c.run.new.slots c.run.new.timers c.run.result _ c.run.ensures
    (sym (outputs_are image.points (map type_of image.variables) c.run.new.slots))

pub returns-clause-kept : goal.returns-clause-kept
returns-clause-kept g c =
    let image = c.args.image.now in
    let values = g.I.Inputs.values c.args.inputs.now in
    let are =
    subst (λ (ts : List ElementaryType). AreTyped ts values) c.requires.types
    c.read_inputs.ensures.typed in
    let new = c.run.new.slots in
    scan-keeps (machine_data image c.args.slots.now c.args.timers.now)
    (machine_data image new c.run.new.timers) values c.args.now c.run.result
    (outputs_of image.points (values_of (slot_types image) new)) (returns-clause-scans g c) are
    (enough-values image c.args.slots.now c.args.timers.now c.requires.held)
    (enough-values image new c.run.new.timers c.run.ensures.held)
