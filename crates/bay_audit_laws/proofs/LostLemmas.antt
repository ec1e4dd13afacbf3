-- While the process is lost, each position is bad and each input FALSE.
use Rattle.std.proofs.Common.{◌≡◌, ◌≢◌, ℕ, zero, suc, ◌+◌, ◌<◌, Bool, true, false, cond, nat_lt, List, [], ◌∷◌, ◌++◌, codes, get_or, length, map, slice_get, unwrap_or, Option, Some, None, Result, refl, ap, sym, subst, ◌∙◌, arith}
use Rattle.std.proofs.lemmas.Bool.{not-false}
use Rattle.bay_base.specs.declared.point.MeterField.{MeterField}
use Rattle.bay_base.specs.declared.point.Source.{Source}
use Rattle.bay_config.specs.Laws.{IsBay}
use Rattle.bay_config.specs.declared.bay.Bay.{Bay}
use Rattle.bay_config.proofs.NamedLemmas.{names-position}
use Rattle.bay_nodes.specs.Names.{StatusNames, cswi_name, cilo_name, meter_names, switch_node, position_names, switch_names, float_names}
use Rattle.bay_nodes.specs.Node.{class_of, node_name, node_number}
use Rattle.bay_nodes.specs.declared.switch.Switch.{Switch}
use Rattle.bay_base.specs.declared.switch.SwitchKind.{SwitchKind}
use Rattle.bay_base.specs.declared.switch.SwitchKind.TheVariants.{Breaker, Disconnector, Earthing}
use Rattle.bay_process.specs.Names.{field_float, field_names}
use Rattle.bay_process.specs.Values.{position_leaf, position_value, has_position, with_enabled, with_outputs, with_status}
use Rattle.bay_process.proofs.ModelLemmas.{KeepsOthers, health-keeps-others, input-keeps-others, lost-inputs-keep-others, unmodelled-position}
use Rattle.bay_process.proofs.ToldLemmas.{IsAway, away-position, leaf-other}
use Rattle.bay_mms_services.specs.Bay.{rows_with_selection}
use Rattle.bay_tree.specs.Rows.{leaf_named, with_leaf_named}
use Rattle.bay_base.specs.declared.position.Dbpos.{Dbpos}
use Rattle.bay_base.specs.declared.position.Dbpos.TheVariants.{Bad}
use Rattle.bay_tree.specs.declared.leaf.Leaf.{Leaf}
use Rattle.bay_tree.specs.declared.leaf.Leaf.TheVariants as leaf
use Rattle.bay_tree.specs.declared.leaf.Quality.TheVariants.{Good}
use Rattle.bay_tree.specs.declared.row.Row.{Row}
use Rattle.il_image.specs.Images.{Image}
use Rattle.il_image.specs.declared.value.Value.{Value}
use Rattle.il_image.specs.declared.value.Value.TheVariants.{Truth}
use Rattle.bay_device.specs.Device.{State, device_after_bad_measure, device_after_contact, device_after_input, device_after_measure, device_at, inputs_lost, device_after_loss, positions_lost, with_health}
use Rattle.bay_device.specs.Fresh.{PastEvent}
use Rattle.bay_device.specs.Load.{initial_device}
use Rattle.bay_device.specs.Outcomes.{Outcome, contact_outcome, bad_measure_outcome, event_outcome, input_outcome, last_moment, measure_outcome, outcome, refusal_outcome}
use Rattle.bay_device.specs.Steps.{Steps}
use Rattle.bay_device.specs.declared.event.Event.{Event}
use Rattle.bay_device.specs.declared.event.Event.TheVariants.{Open, Recv, Close, Contact, Input, Measure, BadMeasure, Lost, Scan}
use Rattle.bay_device.specs.declared.event.Step.{Step}
use Rattle.bay_device.specs.declared.fault.StepFault.{StepFault}
use Rattle.bay_device.specs.declared.fault.StepFault.TheVariants.{MomentTooLarge, TimeWentBack}
use Rattle.bay_device.proofs.FreshLemmas.{Tracks, tracks-event, tracks-first}
use Rattle.bay_device.proofs.LostLemmas.{Fixed, loss-passes, lost-fixed, measures-pass, positions-pass}
use Rattle.bay_device.proofs.ProcessLemmas.{there-is}
use Rattle.bay_device.proofs.SameLemmas.{Parts, Same, same-event}
use Rattle.bay_audit_laws.specs.Lost.{IsRunFrom, LostIsBlind}
use Rattle.bay_audit_laws.proofs.BadLemmas.{AreThere, BadAt, bad-if, contact-bad, doubt-bad, written-there}
use Rattle.bay_audit_laws.proofs.LoadLemmas.{contains-leaf}
use Rattle.bay_audit_laws.proofs.WrittenLemmas.{contact-passes, doubt-passes, measure-passes, outputs-pass}

-- ---- the loss

-- the positions of all switches are there
abbrev HavePositions : List Switch → List Row → Type 0
HavePositions switches rows = (k : ℕ) (switch : Switch) → slice_get switches k ≡ Some switch
    → AreThere (switch_node switches k switch) rows

written-have : (switches : List Switch) (name : List ℕ) (value : Leaf) (rows : List Row)
    → HavePositions switches rows → HavePositions switches (with_leaf_named name value rows)
written-have switches name value rows have k switch here =
    written-there (switch_node switches k switch) name value rows (have k switch here)

-- so they are where only rows of profile 2 change
others-have : (switches : List Switch) (rows new : List Row) → KeepsOthers rows new
    → HavePositions switches rows → HavePositions switches new
others-have switches rows new keeps have k switch here =
    let names = position_names (switch_node switches k switch) in
    let own = unmodelled-position switch.kind (node_number switches switch k) in
    let there = have k switch here in
    record {
      value = λ none. there.value (sym (keeps names.value own.value_other) ∙ none);
      quality = λ none. there.quality (sym (keeps names.quality own.quality_other) ∙ none);
    }

-- and so are bad ones
others-bad : (switches : List Switch) (k : ℕ) (switch : Switch) (rows new : List Row)
    → KeepsOthers rows new → BadAt (switch_node switches k switch) rows
    → BadAt (switch_node switches k switch) new
others-bad switches k switch rows new keeps is =
    let names = position_names (switch_node switches k switch) in
    let own = unmodelled-position switch.kind (node_number switches switch k) in
    record {
      value = keeps names.value own.value_other ∙ is.value;
      quality = keeps names.quality own.quality_other ∙ is.quality;
    }

lost-bad : (now : ℕ) (ss : List Switch) (k : ℕ) (s : State) (j i : ℕ) (switch : Switch)
    → slice_get ss j ≡ Some switch → k + j ≡ i
    → AreThere (switch_node s.switches i switch) s.rows
    → BadAt (switch_node s.switches i switch) (positions_lost now k ss s).rows
lost-bad now [] k s j i switch here at there = absurd cc
lost-bad now (x ∷ ss) k s zero i switch here at there =
    let first : k ≡ i = omega (arith, at) in
    let same : x ≡ switch = cc in
    let node = switch_node s.switches i switch in
    let there-own : AreThere (switch_node s.switches k x) s.rows =
    subst (λ m. AreThere (switch_node s.switches m x) s.rows) (sym first)
    (subst (λ (y : Switch). AreThere (switch_node s.switches i y) s.rows) (sym same) there) in
    let own : BadAt (switch_node s.switches k x) (device_after_contact now k x Bad s).rows =
    bad-if (has_position (position_names (switch_node s.switches k x)) Bad s.rows)
    (switch_node s.switches k x) (cswi_name k) now s.rows refl there-own in
    let bad : BadAt node (device_after_contact now k x Bad s).rows =
    subst (λ (y : Switch). BadAt (switch_node s.switches i y)
    (device_after_contact now k x Bad s).rows)
    same
    (subst (λ m. BadAt (switch_node s.switches m x) (device_after_contact now k x Bad s).rows) first
    own) in
    positions-pass (λ t. BadAt node t.rows) now
    (λ m y t p. contact-bad node t.switches m y now t.rows p)
    (λ m field t p. doubt-bad node m field now t.rows p) (k + 1) ss
    (device_after_contact now k x Bad s)
    bad
lost-bad now (x ∷ ss) k s (suc j) i switch here at there =
    let next : k + 1 + j ≡ i = omega (arith, at) in
    lost-bad now ss (k + 1) (device_after_contact now k x Bad s) j i switch here next
    (contact-passes (AreThere (switch_node s.switches i switch))
    (written-there (switch_node s.switches i switch)) (switch_names s.switches k x) Bad now s.rows
    there)

-- what a program reads of the process
record Seen : Type 0 where
  switches : List Switch
  rows : List Row
  inputs : List Bool
  lost : Bool

abbrev seen_of : State → Seen
seen_of s =
    record { switches = s.switches; rows = s.rows; inputs = s.input_values; lost = s.is_lost }

record Blind (switches : List Switch) (rows : List Row) (inputs : List Bool) : Type 0 where
  positions : (k : ℕ) (switch : Switch) → slice_get switches k ≡ Some switch
      → BadAt (switch_node switches k switch) rows
  all_false : (k : ℕ) → unwrap_or (slice_get inputs k) false ≡ false

-- the positions are there, and while the process is lost nothing is believed
record IsWary (s : Seen) : Type 0 where
  have : HavePositions s.switches s.rows
  blind : s.lost ≡ true → Blind s.switches s.rows s.inputs

cleared : (values : List Bool) (k : ℕ)
    → unwrap_or (slice_get (map (λ _. false) values) k) false ≡ false
cleared [] k = refl
cleared (v ∷ values) zero = refl
cleared (v ∷ values) (suc k) = cleared values k

module _ (now : ℕ) (s : State) (have : HavePositions s.switches s.rows) where
  blind-lost : Blind s.switches (device_after_loss now s).rows
      (device_after_loss now s).input_values
  blind-lost =
      let u : State = positions_lost now 0 s.switches s in
      let t : State = inputs_lost now u in
      record {
        positions = λ k switch here.
            let node = switch_node s.switches k switch in
            let none : 0 + k ≡ k = omega arith in
            measures-pass (λ v. BadAt node v.rows) now
            (λ m y v p. contact-bad node v.switches m y now v.rows p)
            (λ m field v p. doubt-bad node m field now v.rows p) 0 s.meters t
            (others-bad s.switches k switch u.rows t.rows
            (lost-inputs-keep-others u.profile u.inputs u.switches now u.rows)
            (lost-bad now s.switches 0 s k k switch here none (have k switch here)));
        all_false =
            measures-pass (λ v. (k : ℕ) → unwrap_or (slice_get v.input_values k) false ≡ false)
            now (λ m y v p. p) (λ m field v p. p) 0 s.meters t (cleared u.input_values);
      }

  have-lost : HavePositions s.switches (device_after_loss now s).rows
  have-lost =
      loss-passes (λ t. HavePositions s.switches t.rows) now
      (λ k switch t p. contact-passes (HavePositions s.switches) (written-have s.switches)
      (switch_names t.switches k switch) Bad now t.rows p)
      (λ k field t p. doubt-passes (HavePositions s.switches) (written-have s.switches)
      (field_names field (meter_names k)) now t.rows p)
      (λ t p. others-have s.switches t.rows _
      (lost-inputs-keep-others t.profile t.inputs t.switches now t.rows) p)
      (λ t p. p) s have

  wary-lost : IsWary (seen_of (device_after_loss now s))
  wary-lost =
      let same : (device_after_loss now s).switches ≡ s.switches =
      ap (λ (f : Fixed). f.switches) (lost-fixed now s) in
      subst (λ (ss : List Switch). IsWary (let seen : Seen = record {
        switches = ss;
        rows = (device_after_loss now s).rows;
        inputs = (device_after_loss now s).input_values;
        lost = true;
      } in seen)) (sym same) (record { have = have-lost; blind = λ lost. blind-lost })

-- ---- the health

wary-health : (now : ℕ) (s : State) → IsWary (seen_of s) → IsWary (seen_of (with_health now s))
wary-health now s w =
    let keeps = health-keeps-others s.profile s.is_lost now s.rows in
    record {
      have = others-have s.switches s.rows _ keeps w.have;
      blind = λ is.
          let before = w.blind is in
          record {
            positions = λ k switch here.
                others-bad s.switches k switch s.rows _ keeps (before.positions k switch here);
            all_false = before.all_false;
          };
    }

-- ---- a scan

-- it writes nothing at a position
enabled-away : (n : List ℕ) (k : ℕ) (value quality time : List ℕ) (b : Bool) (now : ℕ)
    (rows : List Row) → IsAway n
    → let names : StatusNames = record {
      value = cilo_name k ++ value;
      quality = cilo_name k ++ quality;
      time = cilo_name k ++ time;
    } in leaf_named n (with_enabled names b now rows) ≡ leaf_named n rows
enabled-away n k value quality time b now rows away =
    let names : StatusNames = record {
      value = cilo_name k ++ value;
      quality = cilo_name k ++ quality;
      time = cilo_name k ++ time;
    } in
    let changed : leaf_named n (with_status names (leaf.Truth b) Good now rows)
    ≡ leaf_named n rows =
    leaf-other _ n names.time (leaf.Utc now) (λ e. away k time (sym e))
    ∙ leaf-other _ n names.quality (leaf.Quality Good) (λ e. away k quality (sym e))
    ∙ leaf-other rows n names.value (leaf.Truth b) (λ e. away k value (sym e)) in
    either-leaf _ rows (with_status names (leaf.Truth b) Good now rows) refl changed
  where
    either-leaf : (c : Bool) (x y : List Row) → leaf_named n x ≡ leaf_named n rows
        → leaf_named n y ≡ leaf_named n rows → leaf_named n (cond c x y) ≡ leaf_named n rows
    either-leaf true x y p q = p
    either-leaf false x y p q = q

outputs-away : (n : List ℕ) → IsAway n → (switches : List Switch) (writes : List Source)
    (outputs : List Value) (now k : ℕ) (ss : List Switch) (rows : List Row)
    → leaf_named n (with_outputs switches writes outputs now k ss rows) ≡ leaf_named n rows
outputs-away n away switches writes outputs now k [] rows = refl
outputs-away n away switches writes outputs now k (s ∷ ss) rows =
    outputs-away n away switches writes outputs now (k + 1) ss _
    ∙ enabled-away n k _ _ _ _ now _ away ∙ enabled-away n k _ _ _ _ now rows away

outputs-bad : (switches : List Switch) (j : ℕ) (switch : Switch) (writes : List Source)
    (outputs : List Value) (now : ℕ) (rows : List Row)
    → BadAt (switch_node switches j switch) rows
    → BadAt (switch_node switches j switch)
    (with_outputs switches writes outputs now 0 switches rows)
outputs-bad switches j switch writes outputs now rows is =
    let away : (t : List ℕ) → IsAway (switch_node switches j switch ++ t) =
    away-position switch.kind (node_number switches switch j) in
    record {
      value =
          outputs-away _ (away _) switches writes outputs now 0 switches rows ∙ is.value;
      quality =
          outputs-away _ (away _) switches writes outputs now 0 switches rows ∙ is.quality;
    }

wary-scan : (switches : List Switch) (inputs : List Bool) (lost : Bool) (writes : List Source)
    (outputs : List Value) (now : ℕ) (rows : List Row)
    → IsWary (record { switches = switches; rows = rows; inputs = inputs; lost = lost })
    → IsWary (record {
      switches = switches;
      rows = with_outputs switches writes outputs now 0 switches rows;
      inputs = inputs;
      lost = lost;
    })
wary-scan switches inputs lost writes outputs now rows w = record {
  have = outputs-pass (HavePositions switches) (written-have switches) switches writes outputs now
      0 switches rows w.have;
  blind = λ is.
      let before = w.blind is in
      record {
        positions = λ k switch here.
            outputs-bad switches k switch writes outputs now rows (before.positions k switch here);
        all_false = before.all_false;
      };
}

-- ---- events

abbrev Wary : State → Type 0
Wary s = IsWary (seen_of s)

module _ (now : ℕ) (s : State) (w : Wary s) where
  -- nothing is lost behind this
  believed : (rows : List Row) (inputs : List Bool) → HavePositions s.switches rows
      → IsWary (record { switches = s.switches; rows = rows; inputs = inputs; lost = false })
  believed rows inputs have = record { have = have; blind = λ lost. absurd cc }

  wary-same : (t : State) → Same s t → Wary t
  wary-same t same =
      subst IsWary (sym (ap (λ (p : Parts). let seen : Seen = record {
        switches = p.switches;
        rows = p.rows;
        inputs = p.inputs;
        lost = p.lost;
      } in seen) same)) w

  wary-contact : (k : ℕ) (position : Dbpos) (o : Option Switch)
      → Wary (contact_outcome now k position s o).after
  wary-contact k position None = w
  wary-contact k position (Some switch) =
      wary-health now (device_after_contact now k switch position (device_at now s))
      (believed _ s.input_values
      (contact-passes (HavePositions s.switches) (written-have s.switches)
      (switch_names s.switches k switch) position now s.rows w.have))

  wary-input : (k : ℕ) (value : Bool) (o : Option Bool)
      → Wary (input_outcome now k value s o).after
  wary-input k value None = w
  wary-input k value (Some before) =
      wary-health now (device_after_input now k value before (device_at now s))
      (believed _ _
      (others-have s.switches s.rows _
      (input-keeps-others s.profile s.inputs s.switches k value now s.rows) w.have))

  wary-measure : (k : ℕ) (field : MeterField) (value : _) (o : Option (List ℕ))
      → Wary (measure_outcome now k field value s o).after
  wary-measure k field value None = w
  wary-measure k field value (Some id) =
      wary-health now (device_after_measure now k field value (device_at now s))
      (believed _ s.input_values
      (measure-passes (HavePositions s.switches) (written-have s.switches)
      (field_names field (meter_names k)) (field_float field (float_names k)) value now s.rows
      w.have))

  wary-doubt : (k : ℕ) (field : MeterField) (o : Option (List ℕ))
      → Wary (bad_measure_outcome now k field s o).after
  wary-doubt k field None = w
  wary-doubt k field (Some id) =
      wary-health now (device_after_bad_measure now k field (device_at now s))
      (believed _ s.input_values
      (doubt-passes (HavePositions s.switches) (written-have s.switches)
      (field_names field (meter_names k)) now s.rows w.have))

  wary-event : (choice : Option ℕ) (event : Event) → Wary (event_outcome choice now event s).after
  wary-event choice (Open a) =
      wary-same (event_outcome choice now (Open a) s).after
      (same-event now s choice (Open a) tt)
  wary-event choice (Recv a octets) =
      wary-same (event_outcome choice now (Recv a octets) s).after
      (same-event now s choice (Recv a octets) tt)
  wary-event choice (Close a) =
      wary-same (event_outcome choice now (Close a) s).after
      (same-event now s choice (Close a) tt)
  wary-event choice (Contact k position) = wary-contact k position (slice_get s.switches k)
  wary-event choice (Input k value) = wary-input k value (slice_get s.input_values k)
  wary-event choice (Measure k field value) =
      wary-measure k field value (slice_get s.meters k)
  wary-event choice (BadMeasure k field) = wary-doubt k field (slice_get s.meters k)
  wary-event choice Lost =
      wary-health now (device_after_loss now (device_at now s))
      (wary-lost now (device_at now s) w.have)
  wary-event choice Scan = wary-scan s.switches s.input_values s.is_lost s.writes _ now s.rows w

  wary-if : (late early : Bool) (o : Outcome) → Wary o.after
      → Wary (cond late (refusal_outcome MomentTooLarge s)
      (cond early (refusal_outcome TimeWentBack s) o)).after
  wary-if true early o p = w
  wary-if false true o p = w
  wary-if false false o p = p

  wary-outcome : (choice : Option ℕ) (event : Event) → Wary (outcome choice now event s).after
  wary-outcome choice event =
      wary-if (nat_lt last_moment now) (nat_lt now s.moment) (event_outcome choice now event s)
      (wary-event choice event)

-- ---- since load

-- stSeld of a control is no row of a position's node
node-apart : (kind : SwitchKind) (n j : ℕ) (s t : List ℕ)
    → node_name (class_of kind) n ++ s ≢ node_name (codes "CSWI") j ++ t
node-apart Breaker n j s t e = let first : 88 ≡ 67 = ap (λ l. get_or l 0 0) e in
    omega (arith, first)
node-apart Disconnector n j s t e = let first : 88 ≡ 67 = ap (λ l. get_or l 0 0) e in
    omega (arith, first)
node-apart Earthing n j s t e = let first : 88 ≡ 67 = ap (λ l. get_or l 0 0) e in
    omega (arith, first)

shown-there : (count : ℕ) (kind : SwitchKind) (number : ℕ) (t : List ℕ) (rows : List Row)
    → leaf_named (node_name (class_of kind) number ++ t) (rows_with_selection None count rows)
    ≡ leaf_named (node_name (class_of kind) number ++ t) rows
shown-there zero kind number t rows = refl
shown-there (suc count) kind number t rows =
    leaf-other (rows_with_selection None count rows) _ _ _ (node-apart kind number (count + 1) t _)
    ∙ shown-there count kind number t rows

first-have : (bay : Bay) → IsBay bay
    → HavePositions bay.switches (rows_with_selection None (length bay.switches) bay.rows)
first-have bay is_bay k switch here =
    let number = node_number bay.switches switch k in
    let has =
    ((names-position bay k switch (switch_node bay.switches k switch) here refl).rows
    is_bay).position
    in
    record {
      value = λ none. contains-leaf bay.rows _ _ is_bay.tree has.value_there
          (sym (shown-there (length bay.switches) switch.kind number _ bay.rows) ∙ none);
      quality = λ none. contains-leaf bay.rows _ _ is_bay.tree has.quality_there
          (sym (shown-there (length bay.switches) switch.kind number _ bay.rows) ∙ none);
    }

first-wary : (bay : Bay) (image : Image) → IsBay bay → Wary (initial_device bay image)
first-wary bay image is_bay =
    record { have = first-have bay is_bay; blind = λ lost. absurd cc }

-- what is so of a device that came so far
record Goes (past : List PastEvent) (s : State) : Type 0 where
  wary : Wary s
  tracks : Tracks past s

goes-on : (p : PastEvent) (past : List PastEvent) (before : State) → Goes past before
    → Steps p.now p.event before p.answer p.after → Goes (p ∷ past) p.after
goes-on p past before goes steps =
    let o : Outcome = outcome steps.choice p.now p.event before in
    let made : Tracks (record { now = p.now; event = p.event; answer = o.answer; after = o.after }
    ∷ past) o.after =
    tracks-event past before goes.tracks p.now steps.choice p.event in
    let answered : Tracks (record
    { now = p.now; event = p.event; answer = p.answer; after = o.after } ∷ past) o.after =
    subst (λ (r : Result Step StepFault). Tracks (record
    { now = p.now; event = p.event; answer = r; after = o.after } ∷ past) o.after)
    (sym steps.answered) made in
    record {
      wary = subst Wary (sym steps.left)
          (wary-outcome p.now before goes.wary steps.choice p.event);
      tracks = subst (λ (u : State). Tracks (record
          { now = p.now; event = p.event; answer = p.answer; after = u } ∷ past) u)
          (sym steps.left) answered;
    }

goes : (bay : Bay) (image : Image) → IsBay bay → (past : List PastEvent) (s : State)
    → IsRunFrom (initial_device bay image) past s → Goes past s
goes bay image is_bay [] s came = record {
  wary = subst Wary (sym came) (first-wary bay image is_bay);
  tracks = tracks-first s (bay, image, came);
}
goes bay image is_bay (p ∷ past) s came =
    subst (λ (u : State). Goes (p ∷ past) u) (sym came.0)
    (goes-on p past came.1.0 (goes bay image is_bay past came.1.0 came.1.1) came.1.2)

-- ---- what is read

read-at : (switches : List Switch) (rows : List Row) (inputs : List Bool)
    → Blind switches rows inputs → (k : ℕ) (o : Option Switch) → slice_get switches k ≡ o
    → k < length switches → position_leaf switches rows k o ≡ Some (leaf.Dbpos Bad)
read-at switches rows inputs blind k (Some switch) here lt =
    (blind.positions k switch here).value
read-at switches rows inputs blind k None here lt =
    let there = there-is switches k lt in
    let no : None ≡ Some there.0 = sym here ∙ there.1 in absurd cc

pub lost-is-blind : LostIsBlind
lost-is-blind bay image is_bay past s came lost =
    let g = goes bay image is_bay past s came in
    let is : s.is_lost ≡ true = not-false s.is_lost (sym g.tracks.heard ∙ lost) in
    let blind = g.wary.blind is in (
      record {
        positions = λ k switch here. (blind.positions k switch here).value;
        qualities = λ k switch here. (blind.positions k switch here).quality;
        inputs = blind.all_false;
      },
      record {
        switches = λ k point lt. ap (position_value point)
            (read-at s.switches s.rows s.input_values blind k (slice_get s.switches k) refl lt);
        inputs = λ k. ap (λ (b : Bool). let v : Value = Truth b in v) (blind.all_false k);
      },
    )
