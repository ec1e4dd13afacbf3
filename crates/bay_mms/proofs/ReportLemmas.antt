-- The texts of reports, by their data and part by part.
use Rattle.std.proofs.Common.{◌≡◌, ℕ, List, [], ◌∷◌, ◌++◌, refl, sym, ◌∙◌}
use Rattle.std.proofs.lemmas.List.{append-nil, append_assoc}
use Rattle.bay_mms.specs.declared.control.OperateData.{OperateData}
use Rattle.bay_mms.specs.declared.report.LastApplError.{LastApplError}
use Rattle.bay_mms.specs.Data.{Datum, no_data, datum, datum_text}
use Rattle.bay_mms.specs.Controls.{operate_datum}
use Rattle.bay_mms.specs.ControlViews.{operate_view}
use Rattle.bay_mms.specs.Reports.{variable_text, report_text, failure_name, item_name, failure_datum, failure_data, operate_text, last_appl_error_text, termination_text, failed_termination_text}
use Rattle.bay_ber.specs.Tags.{constructed}
use Rattle.bay_ber.specs.EncoderBuffers.{EncoderBuffer, buffer_with, close_value, IsTextEnd}
use Rattle.bay_ber.specs.Writing.{element}
use Rattle.bay_ber.proofs.SheetLemmas.{put-twice, long-value}

-- the names of variables, and the data of these
abbrev pub report_of : List ℕ → List ℕ → List ℕ
report_of names values =
    element (constructed 3) (element (constructed 0)
    (element (constructed 0) names ++ element (constructed 0) values))

pub operate-is : (o : OperateData) → datum_text (operate_datum (operate_view o)) ≡ operate_text o
operate-is o = simp (append-nil, append_assoc)

pub failure-is : (e : LastApplError) → datum_text (failure_datum e) ≡ failure_data e
failure-is e = simp (append-nil, append_assoc)

one-report : (name text : List ℕ) (d : Datum) → datum_text d ≡ text
    → report_text (name ∷ []) (datum d no_data) ≡ report_of (variable_text name) text
one-report name text d is =
    let a : variable_text name ++ [] ≡ variable_text name = append-nil (variable_text name) in
    let b : datum_text d ++ [] ≡ text = append-nil (datum_text d) ∙ is in
    rw (a, b) refl

two-reports : (name other first second : List ℕ) (d e : Datum) → datum_text d ≡ first
    → datum_text e ≡ second → report_text (name ∷ other ∷ []) (datum d (datum e no_data))
    ≡ report_of (variable_text name ++ variable_text other) (first ++ second)
two-reports name other first second d e is then =
    let a : variable_text other ++ [] ≡ variable_text other = append-nil (variable_text other) in
    let b : datum_text e ++ [] ≡ second = append-nil (datum_text e) ∙ then in
    rw (a, b, is) refl

pub refused-is : (e : LastApplError)
    → report_of (variable_text failure_name) (failure_data e) ≡ last_appl_error_text e
refused-is e = sym (one-report failure_name (failure_data e) (failure_datum e) (failure-is e))

pub ended-is : (domain item : List ℕ) (o : OperateData)
    → report_of (variable_text (item_name domain item)) (operate_text o)
    ≡ termination_text domain item o
ended-is domain item o =
    sym (one-report (item_name domain item) (operate_text o) (operate_datum (operate_view o))
    (operate-is o))

pub failed_is : (e : LastApplError) (domain item : List ℕ) (o : OperateData)
    → report_of (variable_text failure_name ++ variable_text (item_name domain item))
    (failure_data e ++ operate_text o) ≡ failed_termination_text e domain item o
failed_is e domain item o =
    sym (two-reports failure_name (item_name domain item) (failure_data e) (operate_text o)
    (failure_datum e) (operate_datum (operate_view o)) (failure-is e) (operate-is o))

-- ---- a report that was opened, written and closed

-- a report written part by part is its spelling
pub reported : (old a b d e f g h new : EncoderBuffer) (report information results : ℕ)
    (names values : List ℕ) → IsTextEnd report old → a ≡ buffer_with old (0xA3 ∷ 0 ∷ [])
    → IsTextEnd information a → b ≡ buffer_with a (0xA0 ∷ 0 ∷ [])
    → d ≡ buffer_with b (element (constructed 0) names)
    → IsTextEnd results d → e ≡ buffer_with d (0xA0 ∷ 0 ∷ []) → f ≡ buffer_with e values
    → g ≡ close_value f results
    → h ≡ close_value g information → new ≡ close_value h report
    → new ≡ buffer_with old (report_of names values)
reported old a b d e f g h new report information results names values at_report is_a at_information
    is_b is_d at_results is_e is_f is_g is_h is_new =
    let list = element (constructed 0) names in
    let told = element (constructed 0) values in
    let inner : g ≡ buffer_with d told =
    long-value d e f g (constructed 0) results values at_results is_e is_f is_g in
    let both : g ≡ buffer_with b (list ++ told) = put-twice b d g list told is_d inner in
    let outer : h ≡ buffer_with a (element (constructed 0) (list ++ told)) =
    long-value a b g h (constructed 0) information (list ++ told) at_information is_b both is_h in
    long-value old a h new (constructed 3) report (element (constructed 0) (list ++ told)) at_report
    is_a outer is_new
