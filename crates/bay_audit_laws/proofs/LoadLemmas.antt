-- The rows of the interlocking values of a bay, as load makes them.
use Rattle.std.proofs.Common.{◌≡◌, ◌≢◌, ℕ, zero, suc, ◌+◌, ◌<◌, List, ◌++◌, codes, length, get_or, Option, Some, None, Contains, refl, ap, sym, subst, ◌∙◌, arith}
use Rattle.std.proofs.lemmas.List.{get_or_default}
use Rattle.bay_config.specs.Laws.{HasEnable, HasMeasured, HasMeter, IsBay}
use Rattle.bay_base.specs.declared.point.MeterField.{MeterField}
use Rattle.bay_base.specs.declared.point.MeterField.TheVariants.{TotW, TotVAr, Hz, PhaseA, PhaseB, PhaseC}
use Rattle.bay_config.specs.declared.bay.Bay.{Bay}
use Rattle.bay_config.proofs.NamedLemmas.{names-interlocking, names-meter}
use Rattle.bay_nodes.specs.Names.{StatusNames, closing_names_at, cilo_name, meter_names, opening_names_at}
use Rattle.bay_nodes.specs.Node.{node_name, row}
use Rattle.bay_process.specs.Names.{field_names}
use Rattle.bay_process.specs.ReportedRows.{AreValued}
use Rattle.bay_process.proofs.ToldLemmas.{leaf-other}
use Rattle.bay_mms_services.specs.Bay.{rows_with_selection}
use Rattle.bay_tree.specs.Rows.{IsTree, leaf_named, row_at}
use Rattle.bay_tree.specs.declared.leaf.Leaf.{Leaf}
use Rattle.bay_tree.specs.declared.row.Row.{Row}
use Rattle.bay_tree.proofs.NamedLemmas.{leaf-named}
use Rattle.bay_audit_laws.proofs.MeasureLemmas.{AllFit, Fits, zero-fits}
use Rattle.bay_audit_laws.proofs.RowLemmas.{AreBoth}

-- a row that a tree contains gives its name its value
contains-is : (rows : List Row) (name : List ℕ) (value : Leaf) → IsTree rows
    → Contains rows (row name (Some value)) → leaf_named name rows ≡ Some value
contains-is rows name value tree w =
    let is : row_at rows w.0 ≡ row name (Some value) =
    get_or_default rows w.0 _ (row name (Some value)) w.1 ∙ w.2 in
    ap (λ n. leaf_named n rows) (sym (ap (λ (r : Row). r.name) is))
    ∙ sym (leaf-named rows w.0 tree w.1) ∙ ap (λ (r : Row). r.leaf) is

pub contains-leaf : (rows : List Row) (name : List ℕ) (value : Leaf) → IsTree rows
    → Contains rows (row name (Some value)) → leaf_named name rows ≢ None
contains-leaf rows name value tree w none =
    let both : Some value ≡ None = sym (contains-is rows name value tree w) ∙ none in cc

-- stSeld of a control is no row of an interlocking node
selected-apart : (k j : ℕ) (x t : List ℕ)
    → cilo_name k ++ x ≢ node_name (codes "CSWI") (j + 1) ++ t
selected-apart k j x t e = let second : 73 ≡ 83 = ap (λ l. get_or l 1 0) e in
    omega (arith, second)

shown-same : (selected : Option ℕ) (count : ℕ) (rows : List Row) (k : ℕ) (x : List ℕ)
    → leaf_named (cilo_name k ++ x) (rows_with_selection selected count rows)
    ≡ leaf_named (cilo_name k ++ x) rows
shown-same selected zero rows k x = refl
shown-same selected (suc count) rows k x =
    leaf-other (rows_with_selection selected count rows) (cilo_name k ++ x) _ _
    (selected-apart k count x _) ∙ shown-same selected count rows k x

shown-valued : (bay : Bay) (is_bay : IsBay bay) (k : ℕ) (names : StatusNames)
    → HasEnable bay.rows names
    → (leaf_named names.value (rows_with_selection None (length bay.switches) bay.rows)
    ≡ leaf_named names.value bay.rows)
    → (leaf_named names.quality (rows_with_selection None (length bay.switches) bay.rows)
    ≡ leaf_named names.quality bay.rows)
    → AreValued (rows_with_selection None (length bay.switches) bay.rows) names
shown-valued bay is_bay k names has value quality = record {
  value_there = λ none. contains-leaf bay.rows names.value _ is_bay.tree has.value_there
      (sym value ∙ none);
  quality_there = λ none. contains-leaf bay.rows names.quality _ is_bay.tree has.quality_there
      (sym quality ∙ none);
}

pub first-both : (bay : Bay) (is_bay : IsBay bay) (k : ℕ) → k < length bay.switches
    → AreBoth (rows_with_selection None (length bay.switches) bay.rows) k
first-both bay is_bay k lt =
    let named = names-interlocking bay k (cilo_name k) lt refl in
    record {
      opening = shown-valued bay is_bay k (opening_names_at k) (named.open_rows is_bay)
          (shown-same None (length bay.switches) bay.rows k _)
          (shown-same None (length bay.switches) bay.rows k _);
      closing = shown-valued bay is_bay k (closing_names_at k) (named.close_rows is_bay)
          (shown-same None (length bay.switches) bay.rows k _)
          (shown-same None (length bay.switches) bay.rows k _);
    }

-- ---- the measured values

-- stSeld of a control is no row of a meter
meter-apart : (j k : ℕ) (t s : List ℕ)
    → node_name (codes "MMXU") j ++ s ≢ node_name (codes "CSWI") k ++ t
meter-apart j k t s e = let first : 77 ≡ 67 = ap (λ l. get_or l 0 0) e in omega (arith, first)

shown-meter : (count j : ℕ) (s : List ℕ) (rows : List Row)
    → leaf_named (node_name (codes "MMXU") j ++ s) (rows_with_selection None count rows)
    ≡ leaf_named (node_name (codes "MMXU") j ++ s) rows
shown-meter zero j s rows = refl
shown-meter (suc count) j s rows =
    leaf-other (rows_with_selection None count rows) _ _ _ (meter-apart j (count + 1) _ s)
    ∙ shown-meter count j s rows

measured-fits : (rows : List Row) (names : StatusNames) → IsTree rows → HasMeasured rows names
    → Fits (leaf_named names.value rows)
measured-fits rows names tree h =
    subst Fits (sym (contains-is rows names.value _ tree h.value_there)) zero-fits

field-fits : (rows : List Row) (k : ℕ) (field : MeterField) → IsTree rows
    → HasMeter rows (meter_names k)
    → Fits (leaf_named (field_names field (meter_names k)).value rows)
field-fits rows k TotW tree m = measured-fits rows _ tree m.tot_w
field-fits rows k TotVAr tree m = measured-fits rows _ tree m.tot_var
field-fits rows k Hz tree m = measured-fits rows _ tree m.hz
field-fits rows k PhaseA tree m = measured-fits rows _ tree m.phase_a
field-fits rows k PhaseB tree m = measured-fits rows _ tree m.phase_b
field-fits rows k PhaseC tree m = measured-fits rows _ tree m.phase_c

field-shown : (count k : ℕ) (field : MeterField) (rows : List Row)
    → leaf_named (field_names field (meter_names k)).value (rows_with_selection None count rows)
    ≡ leaf_named (field_names field (meter_names k)).value rows
field-shown count k TotW rows = shown-meter count (k + 1) _ rows
field-shown count k TotVAr rows = shown-meter count (k + 1) _ rows
field-shown count k Hz rows = shown-meter count (k + 1) _ rows
field-shown count k PhaseA rows = shown-meter count (k + 1) _ rows
field-shown count k PhaseB rows = shown-meter count (k + 1) _ rows
field-shown count k PhaseC rows = shown-meter count (k + 1) _ rows

pub first-fits : (bay : Bay) → IsBay bay
    → AllFit (length bay.meters) (rows_with_selection None (length bay.switches) bay.rows)
first-fits bay is_bay k field lt =
    subst Fits (sym (field-shown (length bay.switches) k field bay.rows))
    (field-fits bay.rows k field is_bay.tree
    ((names-meter bay k (node_name (codes "MMXU") (k + 1)) lt refl).rows is_bay))
