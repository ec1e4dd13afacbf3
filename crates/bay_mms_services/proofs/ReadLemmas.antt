-- What reads come to.
use Rattle.std.proofs.Common.{◌≡◌, ◌≤◌, ℕ, List, [], ◌∷◌, ◌++◌, length, drop, drop-cons, get_or, map, ◌<◌, ◌+◌, add-one, Option, Result, refl, ap, ◌∙◌, arith}
use Rattle.std.proofs.lemmas.List.{length-append}
use Rattle.bay_mms.specs.Responses.{text_result}
use Rattle.bay_control.specs.declared.cause.AddCause.{AddCause}
use Rattle.bay_control.specs.Decisions.{Outcome, State}
use Rattle.bay_mms_services.specs.Bay.{Bay}
use Rattle.bay_mms_services.specs.Controls.{object_of, read_decision}
use Rattle.bay_mms.specs.RequestViews.{object_name_view}
use Rattle.bay_mms.specs.Requests.{MmsName}
use Rattle.bay_mms.specs.declared.request.ObjectName.{ObjectName}
use Rattle.bay_mms_services.specs.Reads.{ReadState, read_all, read_one, read_row, read_after_select, selected_text}
use Rattle.bay_mms_services.specs.Rows.{row_named}
use Rattle.bay_mms_services.specs.declared.answer.ControlDecision.{ControlDecision}
use Rattle.bay_mms_services.specs.declared.client.ClientContext.{ClientContext}
use Rattle.bay_mms_services.proofs.WalkLemmas.{read-by}

-- a select that was answered
pub selected : (c : ClientContext) (b : Bay) (k : ℕ) (item : List ℕ) (r : ReadState) (o : Outcome)
    (after : State) (answer : Result (Unit {0}) AddCause) (decisions : List ControlDecision)
    (text results : List ℕ) → after ≡ o.after → answer ≡ o.answer
    → decisions ≡ r.decisions ++ read_decision c k answer ∷ []
    → text ≡ selected_text (object_of b item) answer
    → results ≡ r.results ++ text_result text
    → record { controls = after; decisions = decisions; results = results }
    ≡ read_after_select c b k item r o
selected c b k item r o after answer decisions text results stands is decided told has =
    rw (stands, decided, has, told, is) refl

pub selected-long : (c : ClientContext) (b : Bay) (k : ℕ) (item : List ℕ) (r : ReadState)
    (o : Outcome)
    (answer : Result (Unit {0}) AddCause) (text : List ℕ) (size : ℕ)
    → answer ≡ o.answer → text ≡ selected_text (object_of b item) answer
    → size < length (r.results ++ text_result text)
    → size < length (read_after_select c b k item r o).results
selected-long c b k item r o answer text size is told long = rw (told, is) at long

-- ---- results grow

more : (xs ys : List ℕ) → length xs ≤ length (xs ++ ys)
more xs ys = omega (arith, length-append xs ys)

module _ (c : ClientContext) (b : Bay) where
  grows-row : (r : ReadState) (place : Option ℕ)
      → length r.results ≤ length (read_row c b r place).results
  grows-row r place =
      read-by c b r (λ asks asked next. length r.results ≤ length next.results)
      (λ _. more r.results _) (more r.results _) (λ _ k. more r.results _) place

  grows-all : (names : List MmsName) (r : ReadState)
      → length r.results ≤ length (read_all c b names r).results
  grows-all [] r = omega arith
  grows-all (name ∷ names) r =
      omega (arith, grows-row r (row_named b name), grows-all names (read_one c b name r))

  -- a variable whose results are too long makes all too long
  pub long-all : (size : ℕ) (names : List ObjectName) (i : ℕ) (d : ObjectName)
      (first r : ReadState)
      → read_all c b (map object_name_view names) first
      ≡ read_all c b (map object_name_view (drop i names)) r
      → i < length names
      → size < length (read_one c b (object_name_view (get_or names i d)) r).results
      → size < length (read_all c b (map object_name_view names) first).results
  long-all size names i d first r so within long =
      let name = object_name_view (get_or names i d) in
      let rest = map object_name_view (drop (i + 1) names) in
      let is : map object_name_view (drop i names) ≡ name ∷ rest =
      rw add-one (ap (map object_name_view) (drop-cons names i d within)) in
      let whole : read_all c b (map object_name_view names) first
      ≡ read_all c b rest (read_one c b name r) =
      so ∙ ap (λ (ns : List MmsName). read_all c b ns r) is in
      omega (
        arith,
        ap (λ (x : ReadState). length x.results) whole,
        grows-all rest (read_one c b name r),
        long,
      )
