-- What each value that is written to a row passes on, the events of the process and scans pass on.
use Rattle.std.proofs.Common.{ℕ, ℤ, pos, ◌+◌, Bool, true, false, cond, List, [], ◌∷◌, Option, Some, None}
use Rattle.std.specs.Prelude.{int_lt}
use Rattle.bay_base.specs.declared.point.Source.{Source}
use Rattle.bay_base.specs.declared.point.SwitchPoint.TheVariants.{EnableOpen, EnableClose}
use Rattle.bay_nodes.specs.Names.{StatusNames, SwitchNames, switch_names}
use Rattle.bay_nodes.specs.declared.switch.Switch.{Switch}
use Rattle.bay_process.specs.Values.{is_float, is_operation, rows_after_operation, output_of, position_quality, rows_after_change, rows_after_contact, rows_after_bad_measure, rows_after_measure, has_position, has_invalid_measure, has_measure, with_count, with_enabled, with_outputs, with_status}
use Rattle.bay_tree.specs.Rows.{leaf_named, with_leaf_named}
use Rattle.bay_base.specs.declared.position.Dbpos.{Dbpos}
use Rattle.bay_tree.specs.declared.leaf.Leaf.{Leaf}
use Rattle.bay_tree.specs.declared.leaf.Leaf.TheVariants as leaf
use Rattle.bay_tree.specs.declared.leaf.Quality.{Quality}
use Rattle.bay_tree.specs.declared.leaf.Quality.TheVariants.{Good}
use Rattle.bay_tree.specs.declared.row.Row.{Row}
use Rattle.il_image.specs.declared.value.Value.{Value}

module _ (P : List Row → Type 0)
    (write : (name : List ℕ) (value : Leaf) (rows : List Row) → P rows
    → P (with_leaf_named name value rows)) where
  if-passes : (b : Bool) (x y : List Row) → P x → P y → P (cond b x y)
  if-passes true x y p q = p
  if-passes false x y p q = q

  status-passes : (names : StatusNames) (value : Leaf) (q : Quality) (now : ℕ) (rows : List Row)
      → P rows → P (with_status names value q now rows)
  status-passes names value q now rows p =
      write names.time _ _ (write names.quality _ _ (write names.value _ rows p))

  counted-passes : (names : StatusNames) (o : Option Leaf) (now : ℕ) (rows : List Row) → P rows
      → P (with_count names o now rows)
  counted-passes names (Some (leaf.Int32 n)) now rows p =
      if-passes (int_lt n (pos 2147483647)) _ rows
      (write names.time _ _ (write names.value _ rows p)) p
  counted-passes names None now rows p = p
  counted-passes names (Some (leaf.Truth b)) now rows p = p
  counted-passes names (Some (leaf.Dbpos d)) now rows p = p
  counted-passes names (Some (leaf.Quality q)) now rows p = p
  counted-passes names (Some (leaf.Int8 n)) now rows p = p
  counted-passes names (Some (leaf.Unsigned8 n)) now rows p = p
  counted-passes names (Some (leaf.Unsigned32 n)) now rows p = p
  counted-passes names (Some (leaf.Float n)) now rows p = p
  counted-passes names (Some (leaf.Octets n)) now rows p = p
  counted-passes names (Some (leaf.Reference n)) now rows p = p
  counted-passes names (Some (leaf.Text n)) now rows p = p
  counted-passes names (Some (leaf.Utc n)) now rows p = p

  pub contact-passes : (names : SwitchNames) (position : Dbpos) (now : ℕ) (rows : List Row)
      → P rows → P (rows_after_contact names position now rows)
  contact-passes names position now rows p =
      let told =
      with_status names.position (leaf.Dbpos position) (position_quality position) now rows in
      let after =
      with_status names.control (leaf.Dbpos position) (position_quality position) now told in
      let both : P after =
      status-passes names.control _ _ now told (status-passes names.position _ _ now rows p) in
      if-passes (has_position names.position position rows) rows
      (rows_after_change names position now rows) p
      (if-passes (is_operation position (leaf_named names.position.value rows))
      (rows_after_operation names.operations now after) after
      (counted-passes names.operations (leaf_named names.operations.value after) now after both)
      both)

  pub measure-passes : (names : StatusNames) (float : List ℕ) (value : ℤ) (now : ℕ)
      (rows : List Row) → P rows → P (rows_after_measure names float value now rows)
  measure-passes names float value now rows p =
      let told = with_status names (leaf.Int32 value) Good now rows in
      let status : P told = status-passes names (leaf.Int32 value) Good now rows p in
      if-passes (has_measure names value rows) rows _ p
      (if-passes (is_float (leaf_named float told)) _ told (write float _ told status) status)

  pub doubt-passes : (names : StatusNames) (now : ℕ) (rows : List Row) → P rows
      → P (rows_after_bad_measure names now rows)
  doubt-passes names now rows p =
      if-passes (has_invalid_measure names rows) rows _ p
      (write names.time _ _ (write names.quality _ rows p))

  enabled-passes : (names : StatusNames) (value : Bool) (now : ℕ) (rows : List Row) → P rows
      → P (with_enabled names value now rows)
  enabled-passes names value now rows p =
      if-passes _ rows _ p (status-passes names (leaf.Truth value) Good now rows p)

  pub outputs-pass : (switches : List Switch) (writes : List Source) (outputs : List Value)
      (now k : ℕ) (ss : List Switch) (rows : List Row) → P rows
      → P (with_outputs switches writes outputs now k ss rows)
  outputs-pass switches writes outputs now k [] rows p = p
  outputs-pass switches writes outputs now k (s ∷ ss) rows p =
      let names = switch_names switches k s in
      outputs-pass switches writes outputs now (k + 1) ss _
      (enabled-passes names.ena_cls (output_of k EnableClose writes outputs) now _
      (enabled-passes names.ena_opn (output_of k EnableOpen writes outputs) now rows p))
