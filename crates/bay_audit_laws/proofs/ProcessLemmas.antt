-- What the process reports, and what goes by it.
use Rattle.std.proofs.Math.Path.{fun_ext}
use Rattle.std.proofs.Common.{◌≡◌, ℕ, ℤ, Bool, false, List, [], ◌∷◌, map, slice_get, unwrap_or, Option, Some, None, refl, ap, ap₂, ◌∙◌}
use Rattle.bay_base.specs.declared.point.MeterField.{MeterField}
use Rattle.bay_base.specs.declared.point.Source.{Source}
use Rattle.bay_base.specs.declared.point.Source.TheVariants as source
use Rattle.bay_base.specs.declared.point.SwitchPoint.{SwitchPoint}
use Rattle.bay_base.specs.declared.point.SwitchPoint.TheVariants.{Position, Open, Closed, EnableOpen, EnableClose}
use Rattle.bay_nodes.specs.Names.{meter_names}
use Rattle.bay_nodes.specs.Node.{node_number}
use Rattle.bay_nodes.specs.declared.switch.Switch.{Switch}
use Rattle.bay_process.specs.Names.{field_names}
use Rattle.bay_process.specs.Values.{measure_leaf, number_of_leaf, position_leaf, position_value, with_outputs}
use Rattle.bay_process.proofs.ToldLemmas.{IsAway, away-position, field-away}
use Rattle.bay_base.specs.declared.position.Dbpos.{Dbpos}
use Rattle.bay_audit_rules.specs.Process.{Process}
use Rattle.bay_mms_services.specs.Controls.{dbpos_of}
use Rattle.bay_tree.specs.Rows.{leaf_named}
use Rattle.bay_tree.specs.declared.leaf.Leaf.{Leaf}
use Rattle.bay_tree.specs.declared.leaf.Leaf.TheVariants as leaf
use Rattle.il_image.specs.declared.value.Value.{Value}
use Rattle.bay_device.specs.Device.{State, inputs_of, point_value}
use Rattle.bay_audit.specs.Process.{process_value}
use Rattle.bay_audit_laws.specs.Laws.{process_of}
use Rattle.bay_audit_laws.proofs.RowLemmas.{away-outputs}

-- two processes that report the same
pub process-alike : (p q : Process) → ((k : ℕ) → p.position k ≡ q.position k)
    → ((k : ℕ) → p.input k ≡ q.input k)
    → ((k : ℕ) (field : MeterField) → p.measure k field ≡ q.measure k field) → p ≡ q
process-alike p q positions inputs measures =
    let process : (ℕ → Dbpos) → (ℕ → Bool) → (ℕ → MeterField → ℤ) → Process =
    λ x y z. record { position = x; input = y; measure = z } in
    ap (λ x. process x p.input p.measure) (fun_ext positions)
    ∙ ap (λ y. process q.position y p.measure) (fun_ext inputs)
    ∙ ap (process q.position q.input) (fun_ext (λ k. fun_ext (measures k)))

-- ---- what a program reads

position-read : (point : SwitchPoint) (o : Option Leaf)
    → position_value point o ≡ position_value point (Some (leaf.Dbpos (dbpos_of o)))
position-read point (Some (leaf.Dbpos position)) = refl
position-read Position None = refl
position-read Position (Some (leaf.Truth b)) = refl
position-read Position (Some (leaf.Quality q)) = refl
position-read Position (Some (leaf.Int8 n)) = refl
position-read Position (Some (leaf.Int32 n)) = refl
position-read Position (Some (leaf.Unsigned8 n)) = refl
position-read Position (Some (leaf.Unsigned32 n)) = refl
position-read Position (Some (leaf.Float n)) = refl
position-read Position (Some (leaf.Octets n)) = refl
position-read Position (Some (leaf.Reference n)) = refl
position-read Position (Some (leaf.Text n)) = refl
position-read Position (Some (leaf.Utc n)) = refl
position-read Open None = refl
position-read Open (Some (leaf.Truth b)) = refl
position-read Open (Some (leaf.Quality q)) = refl
position-read Open (Some (leaf.Int8 n)) = refl
position-read Open (Some (leaf.Int32 n)) = refl
position-read Open (Some (leaf.Unsigned8 n)) = refl
position-read Open (Some (leaf.Unsigned32 n)) = refl
position-read Open (Some (leaf.Float n)) = refl
position-read Open (Some (leaf.Octets n)) = refl
position-read Open (Some (leaf.Reference n)) = refl
position-read Open (Some (leaf.Text n)) = refl
position-read Open (Some (leaf.Utc n)) = refl
position-read Closed None = refl
position-read Closed (Some (leaf.Truth b)) = refl
position-read Closed (Some (leaf.Quality q)) = refl
position-read Closed (Some (leaf.Int8 n)) = refl
position-read Closed (Some (leaf.Int32 n)) = refl
position-read Closed (Some (leaf.Unsigned8 n)) = refl
position-read Closed (Some (leaf.Unsigned32 n)) = refl
position-read Closed (Some (leaf.Float n)) = refl
position-read Closed (Some (leaf.Octets n)) = refl
position-read Closed (Some (leaf.Reference n)) = refl
position-read Closed (Some (leaf.Text n)) = refl
position-read Closed (Some (leaf.Utc n)) = refl
position-read EnableOpen o = refl
position-read EnableClose o = refl

point-read : (s : State) (point : Source) → point_value s point ≡ process_value (process_of s) point
point-read s (source.Switch k point) =
    position-read point (position_leaf s.switches s.rows k (slice_get s.switches k))
point-read s (source.Input k) = refl
point-read s (source.Meter k field) = refl

points-read : (s : State) (points : List Source)
    → map (point_value s) points ≡ map (process_value (process_of s)) points
points-read s [] = refl
points-read s (point ∷ points) =
    ap₂ (λ (v : Value) (vs : List Value). v ∷ vs) (point-read s point) (points-read s points)

pub inputs-read : (s : State) (reads : List Source) → s.reads ≡ reads
    → inputs_of s ≡ map (process_value (process_of s)) reads
inputs-read s reads is = points-read s s.reads ∙ ap (map (process_value (process_of s))) is

-- ---- what a scan leaves

module _ (s t : State) (writes : List Source) (outputs : List Value) (now : ℕ)
    (rows : t.rows ≡ with_outputs s.switches writes outputs now 0 s.switches s.rows)
    (switches : t.switches ≡ s.switches) (inputs : t.input_values ≡ s.input_values)
    (meters : t.meters ≡ s.meters) where
  name-kept : (name : List ℕ) → IsAway name → leaf_named name t.rows ≡ leaf_named name s.rows
  name-kept name away =
      ap (leaf_named name) rows ∙ away-outputs name away s.switches writes outputs now 0 s.switches
      s.rows

  position-kept : (k : ℕ) (o : Option Switch)
      → position_leaf s.switches t.rows k o ≡ position_leaf s.switches s.rows k o
  position-kept k None = refl
  position-kept k (Some switch) =
      name-kept _ (away-position switch.kind (node_number s.switches switch k) _)

  measure-kept : (k : ℕ) (field : MeterField) (o : Option (List ℕ))
      → measure_leaf t.rows k field o ≡ measure_leaf s.rows k field o
  measure-kept k field None = refl
  measure-kept k field (Some id) =
      name-kept (field_names field (meter_names k)).value (field-away k field).value_away

  pub scan-alike : process_of t ≡ process_of s
  scan-alike =
      process-alike (process_of t) (process_of s)
      (λ k. ap (λ ss. dbpos_of (position_leaf ss t.rows k (slice_get ss k))) switches
      ∙ ap dbpos_of (position-kept k (slice_get s.switches k)))
      (λ k. ap (λ vs. unwrap_or (slice_get vs k) false) inputs)
      (λ k field. ap (λ ms. number_of_leaf (measure_leaf t.rows k field (slice_get ms k))) meters
      ∙ ap number_of_leaf (measure-kept k field (slice_get s.meters k)))
