use Rattle.std.proofs.Common.{ℕ, ℤ, List, length, map, sym, ap, subst, ◌∙◌, arith}
use Rattle.il_image.specs.Images.{Image}
use Rattle.il_image.specs.Values.{type_of}
use Rattle.il_image.specs.declared.image.ImagePoint.{ImagePoint}
use Rattle.il_scan.specs.OutputValues.{output_value}
use Rattle.il_scan.specs.PointIndices.{AllBelow}
use Rattle.il_scan.specs.Scans.{MachineData, outputs_of}
use Rattle.il_scan.specs.MachineStates.{AreWords}
use Rattle.il_scan.proofs.PlaceLemmas.{outputs-placed, writes-below}
use Rattle.il_scan.proofs.ScanLemmas.{points-words}
use Rattle.il_scan.proofs.SlotLemmas.{held-points, outputs_are}
use Rattle.il_scan.proofs.machine.Machine.outputs.Goals as goal

pub new-requires-clause-words : goal.new-requires-clause-words
new-requires-clause-words c =
    let m = c.self.inside in
    let points = c.points.ensures.value ∙ ap (λ (i : Image). i.points) c.image.ensures.value in
    subst (AreWords c.points.result.now) (sym c.as_slice-2.ensures.value)
    (points-words m.verified c.points.result.now points m.slots.items m.timers.items
    c.self.invariant.held)

pub new-requires-clause-within : goal.new-requires-clause-within
new-requires-clause-within c =
    let image = c.self.inside.verified in
    let points = c.points.ensures.value ∙ ap (λ (i : Image). i.points) c.image.ensures.value in
    let below = writes-below (length image.points) 0 image.points (omega arith) in
    rw points (subst (AllBelow (length image.points))
    (sym (c.as_slice.ensures.value ∙ c.self.invariant.written)) below)

pub returns : goal.returns
returns c =
    let m = c.self.inside in
    let image = m.verified in
    let points = c.points.ensures.value ∙ ap (λ (i : Image). i.points) c.image.ensures.value in
    let enough = held-points image m.slots.items m.timers.items c.self.invariant.held in
    c.new.ensures ∙ ap (λ (ps : List ImagePoint). map (output_value ps c.as_slice-2.result.now)
    c.as_slice.result.now) points
    ∙ ap (λ (ws : List ℤ). map (output_value image.points ws) c.as_slice.result.now)
    c.as_slice-2.ensures.value
    ∙ ap (λ (ns : List ℕ). map (output_value image.points m.slots.items) ns)
    (c.as_slice.ensures.value ∙ c.self.invariant.written)
    ∙ outputs-placed image.points m.slots.items enough
    ∙ outputs_are image.points (map type_of image.variables) m.slots.items
    ∙ ap (λ (h : MachineData). outputs_of h.image.points h.slots) c.self.view_is
