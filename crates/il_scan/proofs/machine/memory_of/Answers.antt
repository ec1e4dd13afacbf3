use Rattle.std.proofs.Common.{ap, ◌∙◌, List}
use Rattle.std.specs.Prelude.{map}
use Rattle.il_image.specs.declared.image.ImagePoint.{ImagePoint}
use Rattle.bay_base.specs.declared.types.TimerKind.{TimerKind}
use Rattle.il_image.specs.Timers.{first_state}
use Rattle.il_scan.specs.PointIndices.{read_indices, write_indices}
use Rattle.il_scan.specs.PointIndices.{writable_count}
use Rattle.il_scan.proofs.ScanLemmas.{first-held, held-at-first}
use Rattle.il_scan.proofs.machine.memory_of.Goals as goal

pub returns-clause-first : goal.returns-clause-first
returns-clause-first c =
    first-held c.args.image.now c.timers.ensures.kept c.in_ok-slots.slots.items
    c.in_ok-timers.timers.items c.in_ok-slots.ensures.ok
    (c.in_ok-timers.ensures.ok
    ∙ ap (λ (kinds : List TimerKind). map first_state kinds) c.timers.ensures.value)

pub returns-clause-kept : goal.returns-clause-kept
returns-clause-kept c = record {
  held =
      held-at-first c.args.image.now c.timers.ensures.kept c.in_ok-slots.slots.items
      c.in_ok-timers.timers.items c.in_ok-slots.ensures.ok
      (c.in_ok-timers.ensures.ok
      ∙ ap (λ (kinds : List TimerKind). map first_state kinds) c.timers.ensures.value);
  read = c.in_ok-indices.ensures.reads
      ∙ ap (λ (ps : List ImagePoint). read_indices 0 ps) c.points.ensures.value;
  written =
      c.in_ok-indices.ensures.writes
      ∙ ap (λ (ps : List ImagePoint). write_indices 0 ps) c.points.ensures.value;
  room = c.in_ok-outputs.ensures.ok
      ∙ ap (λ (ps : List ImagePoint). writable_count ps) c.points-2.ensures.value;
}
