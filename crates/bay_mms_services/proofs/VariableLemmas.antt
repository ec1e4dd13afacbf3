-- What the result of a variable that is read or written tells is what was accepted of it.
use Rattle.std.proofs.Common.{◌≡◌, ◌<◌, ℕ, Bool, true, cond, List, [], ◌∷◌, ◌++◌, length, codes, Option, Some, None, Result, Ok, Err, refl, ap, ap₂, sym, ◌∙◌, arith, append-nil, append_assoc, length-append}
use Rattle.std.specs.Prelude.{pos, is_ok}
use Rattle.std.specs.Str.{bytes_eq}
use Rattle.bay_ber.specs.Spelling.{Spells}
use Rattle.bay_ber.specs.Values.{Part, SpellAll, value}
use Rattle.bay_ber.specs.Writing.{element, integer_octets}
use Rattle.bay_ber.specs.declared.tag.Tag.{Tag}
use Rattle.bay_ber.proofs.WriteLemmas.{element-spells}
use Rattle.bay_nodes.specs.declared.switch.Switch.{Switch}
use Rattle.bay_tree.specs.Rows.{name_at, row_index}
use Rattle.bay_tree.specs.declared.leaf.Leaf.{Leaf}
use Rattle.bay_tree.specs.declared.leaf.Leaf.TheVariants as leaf
use Rattle.bay_tree.specs.declared.row.Row.{Row}
use Rattle.bay_tree.proofs.ArenaLemmas.{name_at-same, place_of-same}
use Rattle.bay_control.specs.Acts as act
use Rattle.bay_control.specs.Acts.{Act, Entry}
use Rattle.bay_control.specs.Decisions.{Outcome, State, select_outcome}
use Rattle.bay_control.specs.TimedCalls.{Call, act_of, entries_of, outcome_of}
use Rattle.bay_control.specs.declared.cause.AddCause.{AddCause}
use Rattle.bay_mms.specs.Code.{access_code_of}
use Rattle.bay_mms.specs.Data.{Datum, datum_text}
use Rattle.bay_mms.specs.Laws.{datum_tag, datum_content}
use Rattle.bay_mms.specs.Nodes.{Node, data_at, node_at, node_datum, value as leaf-node, structure as rows-node}
use Rattle.bay_mms.specs.Requests.{MmsName, vmd, domain, association}
use Rattle.bay_mms.specs.Responses.{failure_result, text_result}
use Rattle.bay_ber.specs.Tags.{context}
use Rattle.bay_mms.specs.declared.fault.DataAccessError.{DataAccessError}
use Rattle.bay_mms.specs.declared.fault.DataAccessError.TheVariants.{ObjectAccessDenied, ObjectNonExistent}
use Rattle.bay_mms.proofs.LawLemmas.{datum-spells}
use Rattle.bay_mms_services.specs.ObservedEntries.{AreNamedAlike, act_of_read, act_of_write, is_granted, is_some_text, is_success, observed_in_read, observed_in_write}
use Rattle.bay_mms_services.specs.Bay.{Bay, client_rows}
use Rattle.bay_mms_services.specs.Controls.{object_of}
use Rattle.bay_mms_services.specs.Entries.{call_of_read, call_of_write, read_entries, entries_on_call, target_of_row, write_entries}
use Rattle.bay_mms_services.specs.Reads.{ReadState, read_all, read_one, read_row, selected_text, read_after_value}
use Rattle.bay_mms_services.specs.Rows.{row_named}
use Rattle.bay_mms_services.specs.Targets.{target_of}
use Rattle.bay_mms_services.specs.Writes.{WriteState, write_cancel, decision_result, write_operate, write_select_with, write_all, write_after_error, write_one, write_row}
use Rattle.bay_mms_services.specs.declared.client.ClientContext.{ClientContext}
use Rattle.bay_mms_services.proofs.ReplyLemmas.{element-more}
use Rattle.bay_mms_services.proofs.WalkLemmas.{read-by, write-by}

-- ---- the names of variables

row-alike : (b d : Bay) (name : MmsName) → AreNamedAlike b d → row_named d name ≡ row_named b name
row-alike b d (vmd name) alike = refl
row-alike b d (domain e item) alike =
    ap (λ (n : List ℕ). cond (bytes_eq e n) (row_index d.rows item) None) alike.domain
    ∙ ap (λ (o : Option ℕ). cond (bytes_eq e b.domain) o None)
    (place_of-same d.rows b.rows item alike.names)
row-alike b d (association name) alike = refl

target-alike : (b d : Bay) (row : Option ℕ) → AreNamedAlike b d
    → target_of_row d row ≡ target_of_row b row
target-alike b d None alike = refl
target-alike b d (Some place) alike =
    ap (λ (switches : List Switch). target_of (length switches) (name_at d.rows place))
    alike.switches
    ∙ ap (target_of (length b.switches)) (name_at-same d.rows b.rows place alike.names)

-- the variable that is named is the same part of a control
named-target : (b d : Bay) (name : MmsName) → AreNamedAlike b d
    → target_of_row d (row_named d name) ≡ target_of_row b (row_named b name)
named-target b d name alike =
    ap (target_of_row d) (row-alike b d name alike) ∙ target-alike b d (row_named b name) alike

-- ---- results are spelled

leaf-small : (l : Leaf) → (datum_tag (node_datum (leaf-node l))).number < 31
leaf-small (leaf.Truth v) = omega arith
leaf-small (leaf.Dbpos v) = omega arith
leaf-small (leaf.Quality v) = omega arith
leaf-small (leaf.Int8 v) = omega arith
leaf-small (leaf.Int32 v) = omega arith
leaf-small (leaf.Unsigned8 v) = omega arith
leaf-small (leaf.Unsigned32 v) = omega arith
leaf-small (leaf.Float v) = omega arith
leaf-small (leaf.Octets v) = omega arith
leaf-small (leaf.Reference v) = omega arith
leaf-small (leaf.Text v) = omega arith
leaf-small (leaf.Utc v) = omega arith

node-small : (n : Node) → (datum_tag (node_datum n)).number < 31
node-small (leaf-node l) = leaf-small l
node-small (rows-node parts) = omega arith

pub spells-element : (tag : Tag) (content : List ℕ) → tag.number < 31
    → length (element tag content) < 4294967296 → Spells (element tag content) tag content
spells-element tag content small short =
    element-spells tag content small (omega (arith, element-more tag content))

pub spell-one : (tag : Tag) (content : List ℕ) → tag.number < 31
    → length (element tag content) < 4294967296
    → SpellAll (element tag content) (value tag content ∷ [])
spell-one tag content small short = (
  element tag content,
  [],
  sym (append-nil (element tag content)),
  spells-element tag content small short,
  refl,
)

abbrev failure-part : DataAccessError → Part
failure-part error = value (context 0) (integer_octets (pos (access_code_of error)))

failure-spelled : (error : DataAccessError) → length (failure_result error) < 4294967296
    → Spells (failure_result error) (failure-part error).tag (failure-part error).content
failure-spelled error short =
    spells-element (context 0) (failure-part error).content (omega arith) short

-- ---- a variable that is read

-- The result of one variable more, which tells what is seen of it.
record OneTold (c : ClientContext) (tells : Part → Bool) (asks : Option Act) (asked : Option Call)
    (controls : State) (before after : List ℕ) : Type 0 where
  part : Part
  front : List ℕ
  is : after ≡ before ++ front
  spelled : length front < 4294967296 → Spells front part.tag part.content
  told : entries_of c.now asks (tells part) ≡ entries_on_call c controls asked

-- a variable that asks for nothing is answered with an error
failure-told : (c : ClientContext) (tells : Part → Bool) (error : DataAccessError)
    (controls : State)
    (before : List ℕ)
    → OneTold c tells None None controls before (before ++ failure_result error)
failure-told c tells error controls before = record {
  part = failure-part error;
  front = failure_result error;
  is = refl;
  spelled = failure-spelled error;
  told = refl;
}

abbrev OneRead : ClientContext → Option Act → Option Call → ReadState → ReadState → Type 0
OneRead c asks asked r next =
    OneTold c is_granted asks asked r.controls r.results next.results

data-read : (c : ClientContext) (b : Bay) (place : ℕ) (r : ReadState)
    → OneRead c None None r (read_after_value b place r)
data-read c b place r =
    let rows : List Row = client_rows b r.controls in
    record {
      part = value (datum_tag (data_at rows place)) (datum_content (data_at rows place));
      front = datum_text (data_at rows place);
      is = refl;
      spelled = datum-spells (data_at rows place) (node-small (node_at rows place));
      told = refl;
    }

some-text : (xs ys : List ℕ) → is_some_text (xs ++ (codes "/" ++ ys)) ≡ true
some-text [] ys = refl
some-text (x ∷ xs) ys = refl

granted-by : (b : Bay) (item : List ℕ) (answer : Result (Unit {0}) AddCause)
    → is_granted (value (context 10) (selected_text (object_of b item) answer)) ≡ is_ok answer
granted-by b item (Ok done) = some-text b.domain item
granted-by b item (Err why) = refl

read-row-is : (c : ClientContext) (b : Bay) (r : ReadState) (row : Option ℕ)
    → OneRead c (act_of_read c.association (target_of_row b row))
    (call_of_read c (target_of_row b row)) r (read_row c b r row)
read-row-is c b r row =
    read-by c b r (λ asks asked next. OneRead c asks asked r next) (λ place. data-read c b place r)
    (failure-told c is_granted ObjectNonExistent r.controls r.results)
    (λ place k. let o : Outcome = select_outcome c.association k c.now r.controls in
    let text : List ℕ = selected_text (object_of b (name_at b.rows place)) o.answer in
    record {
      part = value (context 10) text;
      front = text_result text;
      is = refl;
      spelled = spells-element (context 10) text (omega arith);
      told = ap (λ (granted : Bool). entries_of c.now (Some (act.Select c.association k)) granted)
          (granted-by b (name_at b.rows place) o.answer);
    }) row

-- ---- all variables

-- The results of some variables, which tell what is seen of them.
pub record AllTold (accepted : List Part → List Entry) (entries : List Entry)
    (before after : List ℕ) : Type 0 where
  pub parts : List Part
  pub more : List ℕ
  pub is : after ≡ before ++ more
  pub spelled : length more < 4294967296 → SpellAll more parts
  pub told : accepted parts ≡ entries

none-told : (accepted : List Part → List Entry) (before : List ℕ) → accepted [] ≡ []
    → AllTold accepted [] before before
none-told accepted before none =
    record {
      parts = [];
      more = [];
      is = sym (append-nil before);
      spelled = λ short. refl;
      told = none;
    }

one-more : (c : ClientContext) (tells : Part → Bool) (asks named : Option Act) (asked : Option Call)
    (controls : State) (before next after : List ℕ) (whole accepted : List Part → List Entry)
    (entries : List Entry)
    → ((part : Part) (parts : List Part)
    → whole (part ∷ parts) ≡ entries_of c.now named (tells part) ++ accepted parts)
    → named ≡ asks → OneTold c tells asks asked controls before next
    → AllTold accepted entries next after
    → AllTold whole (entries_on_call c controls asked ++ entries) before after
one-more c tells asks named asked controls before next after whole accepted entries first same one
    rest =
    record {
      parts = one.part ∷ rest.parts;
      more = one.front ++ rest.more;
      is = rest.is ∙ ap (λ (xs : List ℕ). xs ++ rest.more) one.is
          ∙ append_assoc before one.front rest.more;
      spelled = λ short.
          let size = length-append one.front rest.more in (
            one.front,
            rest.more,
            refl,
            one.spelled (omega (arith, size, short)),
            rest.spelled (omega (arith, size, short)),
          );
      told = first one.part rest.parts
          ∙ ap₂ (λ (xs ys : List Entry). xs ++ ys)
          (ap (λ (a : Option Act). entries_of c.now a (tells one.part)) same ∙ one.told) rest.told;
    }

-- what is accepted of variables that are read is told in their results
abbrev pub AllRead : ClientContext → Bay → Bay → List MmsName → ReadState → Type 0
AllRead c n b ns r =
    AllTold (observed_in_read c.now c.association n ns) (read_entries c b ns r) r.results
    (read_all c b ns r).results

pub all-read : (c : ClientContext) (n b : Bay) (ns : List MmsName) (r : ReadState)
    → AreNamedAlike n b
    → AllRead c n b ns r
all-read c n b [] r alike = none-told _ r.results refl
all-read c n b (name ∷ ns) r alike =
    one-more c is_granted _ _ _ _ _ _ _ _ _ _ (λ part parts. refl)
    (ap (act_of_read c.association) (sym (named-target n b name alike)))
    (read-row-is c b r (row_named b name))
    (all-read c n b ns (read_one c b name r) alike)

-- ---- a variable that is written

abbrev OneWritten : ClientContext → Option Act → Option Call → WriteState → WriteState → Type 0
OneWritten c asks asked w next =
    OneTold c is_success asks asked w.controls w.results next.results

nothing-done : (c : ClientContext) (error : DataAccessError) (w : WriteState)
    → OneWritten c None None w (write_after_error error w)
nothing-done c error w = failure-told c is_success error w.controls w.results

decision-part : Result (Unit {0}) AddCause → Part
decision-part (Ok done) = value (context 1) []
decision-part (Err why) = failure-part ObjectAccessDenied

decision-spelled : (answer : Result (Unit {0}) AddCause)
    → length (decision_result answer) < 4294967296
    → Spells (decision_result answer) (decision-part answer).tag (decision-part answer).content
unfolding decision-part
decision-spelled (Ok done) short = spells-element (context 1) [] (omega arith) short
decision-spelled (Err why) short = failure-spelled ObjectAccessDenied short

decision-success : (answer : Result (Unit {0}) AddCause)
    → is_success (decision-part answer) ≡ is_ok answer
unfolding decision-part
decision-success (Ok done) = refl
decision-success (Err why) = refl

-- what a decision answers tells whether it was accepted
decided-is : (c : ClientContext) (asks : Act) (asked : Call) (w next : WriteState)
    → act_of asked ≡ Some asks
    → next.results ≡ w.results ++ decision_result (outcome_of asked c.now w.controls).answer
    → OneWritten c (Some asks) (Some asked) w next
decided-is c asks asked w next by is =
    let answer : Result (Unit {0}) AddCause = (outcome_of asked c.now w.controls).answer in
    record {
      part = decision-part answer;
      front = decision_result answer;
      is = is;
      spelled = decision-spelled answer;
      told = ap₂ (λ (a : Option Act) (x : Bool). entries_of c.now a x) (sym by)
          (decision-success answer);
    }

write-row-is : (c : ClientContext) (b : Bay) (given : Datum) (w : WriteState) (row : Option ℕ)
    → OneWritten c (act_of_write c.association given (target_of_row b row))
    (call_of_write c b given (target_of_row b row)) w (write_row c b given w row)
write-row-is c b given w row =
    write-by c b w (λ asks asked next. OneWritten c asks asked w next)
    (λ error. nothing-done c error w)
    (λ k item o. decided-is c _ _ w (write_select_with c b k item w (Ok o)) refl refl)
    (λ k item o. decided-is c _ _ w (write_operate c b k item w (Ok o)) refl refl)
    (λ k item control. decided-is c _ _ w (write_cancel c b k item w (Ok control)) refl refl)
    given row

-- ---- all variables that are written

-- what is accepted of variables that are written is told in their results
abbrev pub AllWritten : ClientContext → Bay → Bay → List MmsName → List Datum → WriteState → Type 0
AllWritten c n b ns values w =
    AllTold (observed_in_write c.now c.association n ns values) (write_entries c b ns values w)
    w.results (write_all c b ns values w).results

pub all-written : (c : ClientContext) (n b : Bay) (ns : List MmsName) (values : List Datum)
    (w : WriteState)
    → AreNamedAlike n b → AllWritten c n b ns values w
all-written c n b [] values w alike = none-told _ w.results refl
all-written c n b (name ∷ ns) [] w alike = none-told _ w.results refl
all-written c n b (name ∷ ns) (given ∷ values) w alike =
    one-more c is_success _ _ _ _ _ _ _ _ _ _ (λ part parts. refl)
    (ap (act_of_write c.association given) (sym (named-target n b name alike)))
    (write-row-is c b given w (row_named b name))
    (all-written c n b ns values (write_one c b name given w) alike)
