-- Each command is released, and there is one at most; no client changes what releases it.
use Rattle.std.proofs.Common.{◌≡◌, ◌≢◌, ◌≤◌, ℕ, zero, suc, ◌+◌, Bool, true, false, not, cond, nat_eq, nat_le, List, [], ◌∷◌, ◌++◌, All, length, Option, Some, None, Result, Ok, Err, is_ok, refl, ap, sym, subst, ◌∙◌, append-nil, arith}
use Rattle.std.proofs.lemmas.Bool.{not-false}
use Rattle.std.specs.List.{AllByRecursion}
use Rattle.std.proofs.lemmas.Bool.Decides.{nat_tests}
use Rattle.bay_tree.specs.Rows.{leaf_named}
use Rattle.bay_base.specs.declared.switch.Operation.{Operation}
use Rattle.bay_base.specs.declared.switch.Operation.TheVariants.{Open, Close}
use Rattle.bay_process.specs.Values.{is_truth}
use Rattle.bay_control.specs.Decisions.{Outcome, State, controls_at, answer_of, cancel_outcome, execution_at, is_executing, is_expired_at, operate_outcome, other_is_executing, rows_of_operate, select_with_outcome}
use Rattle.bay_control.specs.Decisions.{Row as DecisionRow}
use Rattle.bay_control.specs.Requests.{control_of, is_controlled, is_released}
use Rattle.bay_control.specs.declared.cause.AddCause.{AddCause}
use Rattle.bay_control.specs.declared.control.SwitchControl.{SwitchControl}
use Rattle.bay_control.specs.declared.request.Ask.{Ask}
use Rattle.bay_control.specs.declared.request.View.{View}
use Rattle.bay_control.specs.declared.selection.Execution.{Execution}
use Rattle.bay_mms.specs.Controls as asked
use Rattle.bay_mms.specs.Controls.{Control}
use Rattle.bay_mms.specs.Data.{Datum}
use Rattle.bay_mms.specs.Grammar.{request_in}
use Rattle.bay_mms.specs.Requests.{MmsName, MmsRequest}
use Rattle.bay_mms.specs.declared.fault.MmsFault.{MmsFault}
use Rattle.bay_mms_services.specs.Answers.{AnswerData, answer_of as answer-of, pdu_answer}
use Rattle.bay_mms_services.specs.Bay.{Bay, with_controls}
use Rattle.bay_mms_services.specs.Controls.{control_request_of, operation_of, decision_view}
use Rattle.bay_mms_services.specs.Reads.{ReadState, initial_read, read_all, read_one, read_row}
use Rattle.bay_mms_services.specs.Released.{HaveTravelTime, IsReleased, ChangesNoValue, enable_name}
use Rattle.bay_mms_services.specs.Rows.{row_named}
use Rattle.bay_mms_services.specs.Writes.{WriteState, initial_write, operate_commands, after_decision, write_operate, write_all, write_one, write_row}
use Rattle.bay_mms_services.specs.declared.answer.Command.{Command}
use Rattle.bay_mms_services.specs.declared.client.ClientContext.{ClientContext}
use Rattle.bay_mms_services.proofs.WalkLemmas.{answer-by, read-by, write-by}
use Rattle.bay_mms_services.specs.declared.target.ControlPart.{ControlPart}
use Rattle.bay_mms_services.specs.declared.target.ControlPart.TheVariants.{SelectWith, Cancel}

-- ---- an execution that lasts

lasting-if : (now : ℕ) (controls : List SwitchControl) (x e : Execution) (over : Bool)
    → is_expired_at now controls x ≡ over → cond over None (Some x) ≡ Some e
    → execution_at now controls (Some e) ≡ Some e
lasting-if now controls x e true is h = absurd (cc)
lasting-if now controls x e false is h =
    let same : x ≡ e = cc in
    subst (λ (y : Execution). execution_at now controls (Some y) ≡ Some y) same
    (ap (λ (b : Bool). let o : Option Execution = cond b None (Some x) in o) is)

pub lasting : (now : ℕ) (controls : List SwitchControl) (o : Option Execution) (e : Execution)
    → execution_at now controls o ≡ Some e → execution_at now controls (Some e) ≡ Some e
lasting now controls None e h = absurd (cc)
lasting now controls (Some x) e h =
    lasting-if now controls x e (is_expired_at now controls x) refl h

-- no row of an answer that accepts refuses
row-passed : (refuses : Bool) (cause : AddCause) (rest : Result (Unit {0}) AddCause)
    → is_ok (cond refuses (Err cause) rest) ≡ true → (refuses ≡ false) × (is_ok rest ≡ true)
row-passed true cause rest e = absurd cc
row-passed false cause rest e = (refl, e)

all-passed : (rows : List DecisionRow) → is_ok (answer_of rows) ≡ true
    → AllByRecursion (λ (r : DecisionRow). r.refuses ≡ false) rows
all-passed [] ok = tt
all-passed (r ∷ rows) ok = let p =
    row-passed r.refuses r.cause (answer_of rows) ok in (p.0, all-passed rows p.1)

not-both : (b : Bool) → b ≡ false → not b ≡ false → ⊥
not-both true p q = cc
not-both false p q = cc

-- no switch is operated while one is operating
idle-if : (k : ℕ) (o : Option Execution) → is_executing k o ≡ false → other_is_executing k o ≡ false
    → o ≡ None
idle-if k None p q = refl
idle-if k (Some e) p q = absurd (not-both (nat_eq e.switch k) p q)

-- what an accepted operate saw
record Saw (k : ℕ) (ask : Ask) (view : View) (t : State) : Type 0 where
  controlled : not (is_controlled (control_of t.controls k).model) ≡ false
  idle : t.execution ≡ None
  heard : view.lost ≡ false
  remote : view.local ≡ false
  fresh : not view.fresh ≡ false
  released : not (is_released ask.operation view) ≡ false

saw : (a k : ℕ) (ask : Ask) (view : View) (t : State)
    → is_ok (answer_of (rows_of_operate a k ask view t)) ≡ true → Saw k ask view t
saw a k ask view t ok =
    let all = all-passed (rows_of_operate a k ask view t) ok in
    record {
      controlled = all.0;
      idle = idle-if k t.execution all.1.1.1.0 all.1.1.1.1.0;
      heard = all.1.1.1.1.1.1.0;
      remote = all.1.1.1.1.1.1.1.0;
      fresh = all.1.1.1.1.1.1.1.1.0;
      released = all.1.1.1.1.1.1.1.1.1.0;
    }

-- ---- what an answer to a control leaves operating

abbrev pub Busies : ℕ → State → State → Type 0
Busies now s t =
    (e : Execution) → (controls_at now s).execution ≡ Some e
    → (controls_at now t).execution ≡ Some e

pub busy-still : (now : ℕ) (s : State) → Busies now s (controls_at now s)
busy-still now s e h = ap (execution_at now s.controls) h ∙ lasting now s.controls s.execution e h

busy-operated : (now k a : ℕ) (ask : Ask) (view : View) (s : State) (ok : Bool)
    → is_ok (operate_outcome a k ask view now s).answer ≡ ok
    → Busies now s (operate_outcome a k ask view now s).after
busy-operated now k a ask view s true is e h =
    let none : (controls_at now s).execution ≡ None =
    (saw a k ask view (controls_at now s) is).idle in
    absurd (let no : None ≡ (let o : Option Execution = Some e in o) = sym none ∙ h in cc)
busy-operated now k a ask view s false is e h =
    let stays : (operate_outcome a k ask view now s).after.execution ≡ Some e =
    ap (λ (b : Bool). let o : Option Execution =
    cond b (Some (record { switch = k; start = now; operation = ask.operation }))
    (controls_at now s).execution
    in o) is ∙ h in
    ap (execution_at now s.controls) stays ∙ lasting now s.controls s.execution e h

-- ---- one command at most

abbrev IsBusy : ℕ → State → Type 0
IsBusy now s = (e : Execution) × ((controls_at now s).execution ≡ Some e)

abbrev IsIdle : ℕ → State → Type 0
IsIdle now s = (controls_at now s).execution ≡ None

-- after a command a switch is operating, and there is no second one
abbrev pub Single : ℕ → List Command → State → Type 0
Single now [] s = Unit {0}
Single now (x ∷ []) s = IsBusy now s
Single now (x ∷ y ∷ more) s = ⊥

idle-or-busy : (now : ℕ) (s : State) → IsIdle now s → IsBusy now s → ⊥
idle-or-busy now s idle busy = let no : None ≡ (let o : Option Execution = Some busy.0 in o) =
    sym idle ∙ busy.1 in cc

single-still : (now : ℕ) (commands : List Command) (s t : State) → Busies now s t
    → Single now commands s → Single now commands t
single-still now [] s t busy single = tt
single-still now (x ∷ []) s t busy single = (single.0, busy single.0 single.1)
single-still now (x ∷ y ∷ more) s t busy single = absurd single

-- commands, and then others, each of which was given while no switch was operating
pub single-joined : (now : ℕ) (first more : List Command) (s t : State) → Busies now s t
    → AllByRecursion (λ (x : Command). IsIdle now s) more → Single now first s
    → Single now more t → Single now (first ++ more) t
single-joined now first [] s t busy idle before after =
    rw (append-nil first) (single-still now first s t busy before)
single-joined now [] (x ∷ more) s t busy idle before after = after
single-joined now (y ∷ []) (x ∷ more) s t busy idle before after =
    absurd (idle-or-busy now s idle.0 before)
single-joined now (y ∷ z ∷ first) (x ∷ more) s t busy idle before after = absurd before

pub at-most-one : (now : ℕ) (commands : List Command) (s : State) → Single now commands s
    → length commands ≤ 1
at-most-one now [] s single = omega arith
at-most-one now (x ∷ []) s single = omega arith
at-most-one now (x ∷ y ∷ more) s single = absurd single

-- where each switch takes some time
pub record Sole (now : ℕ) (commands : List Command) (s : State) : Type 0 where
  pub timed : HaveTravelTime s.controls
  pub single : Single now commands s

sole-still : (now : ℕ) (commands : List Command) (s t : State) → s.controls ≡ t.controls
    → Busies now s t → Sole now commands s → Sole now commands t
sole-still now commands s t same busy sole =
    record {
      timed = rw (← same) sole.timed;
      single = single-still now commands s t busy sole.single;
    }

-- an operate lasts beyond its moment
starting : (now k : ℕ) (operation : Operation) (controls : List SwitchControl)
    → HaveTravelTime controls
    → is_controlled (control_of controls k).model ≡ true
    → execution_at now controls (Some (record { switch = k; start = now; operation = operation }))
    ≡ Some (record { switch = k; start = now; operation = operation })
starting now k operation controls timed controlled =
    let some = timed k controlled in
    let lasts : nat_le (now + (control_of controls k).travel_ms) now ≡ false =
    grind (arith, nat_tests) in
    ap (λ (over : Bool). let o : Option Execution =
    cond over None (Some (record { switch = k; start = now; operation = operation })) in o) lasts

-- ---- bays

pub leaves-none : (now : ℕ) (b : Bay) → ChangesNoValue now b b
leaves-none now b = record { rows = refl; busy = λ e h. h }

pub leaves-with : (now : ℕ) (b : Bay) (x : State) → Busies now b.controls x
    → ChangesNoValue now b (with_controls x b)
leaves-with now b x busy = record { rows = refl; busy = busy }

pub leaves-then : (now : ℕ) (b d e : Bay) → ChangesNoValue now b d → ChangesNoValue now d e
    → ChangesNoValue now b e
leaves-then now b d e p q =
    record { rows = q.rows ∙ p.rows; busy = λ x h. q.busy x (p.busy x h) }

-- ---- a read

-- what a select keeps: what the bay file says of controls, and what operates
record Selects (now : ℕ) (s t : State) : Type 0 where
  same : s.controls ≡ t.controls
  busy : Busies now s t

selects-none : (now : ℕ) (s : State) → Selects now s s
selects-none now s = record { same = refl; busy = λ e h. h }

module _ (c : ClientContext) (b : Bay) where
  read-row-selects : (s : State) (r : ReadState) (row : Option ℕ) → Selects c.now s r.controls
      → Selects c.now s (read_row c b r row).controls
  read-row-selects s r row p =
      read-by c b r (λ asks asked next. Selects c.now s next.controls) (λ place. p) p
      (λ place k. record {
        same = p.same;
        busy = λ e h. busy-still c.now r.controls e (p.busy e h);
      }) row

  read-all-selects : (s : State) (ns : List MmsName) (r : ReadState) → Selects c.now s r.controls
      → Selects c.now s (read_all c b ns r).controls
  read-all-selects s [] r p = p
  read-all-selects s (name ∷ ns) r p =
      read-all-selects s ns (read_one c b name r) (read-row-selects s r (row_named b name) p)

-- ---- a write

record Kept (c : ClientContext) (b : Bay) (w : WriteState) : Type 0 where
  busy : Busies c.now b.controls w.controls
  released : AllByRecursion (IsReleased c b) w.commands
  sole : HaveTravelTime b.controls.controls → Sole c.now w.commands w.controls

both : (c : ClientContext) (b : Bay) (first more : List Command)
    → AllByRecursion (IsReleased c b) first
    → AllByRecursion (IsReleased c b) more → AllByRecursion (IsReleased c b) (first ++ more)
both c b [] more p q = q
both c b (x ∷ first) more p q = (p.0, both c b first more p.1 q)

-- what a decision saw released stands in the tree
enabled-now : (c : ClientContext) (b : Bay) (k : ℕ) (operation : Operation)
    → is_released operation (decision_view c k b) ≡ true
    → is_truth true (leaf_named (enable_name k operation) b.rows) ≡ true
enabled-now c b k Open h = h
enabled-now c b k Close h = h

pub idle-now : (now : ℕ) (s t : State) (o : Option Execution) → Busies now s t
    → (controls_at now t).execution ≡ None → (controls_at now s).execution ≡ o
    → (controls_at now s).execution ≡ None
idle-now now s t None busy none is = is
idle-now now s t (Some e) busy none is =
    absurd (let no : None ≡ (let o : Option Execution = Some e in o) = sym none ∙ busy e is in cc)

module _ (c : ClientContext) (b : Bay) (s : State) (k : ℕ) (o : asked.Operate) where
  outcome : Outcome
  outcome = operate_outcome c.association k (control_request_of o) (decision_view c k b) c.now s

  released-by : Busies c.now b.controls s → is_ok outcome.answer ≡ true
      → IsReleased c b (record { switch = k; operation = operation_of o.control.ctl_val })
  unfolding outcome
  released-by busy ok =
      let seen =
      saw c.association k (control_request_of o) (decision_view c k b) (controls_at c.now s) ok in
      record {
        heard = seen.heard;
        remote = seen.remote;
        fresh = not-false c.fresh seen.fresh;
        enabled =
            enabled-now c b k (operation_of o.control.ctl_val)
            (not-false (is_released (operation_of o.control.ctl_val) (decision_view c k b))
            seen.released);
        idle = idle-now c.now b.controls s (controls_at c.now b.controls).execution busy seen.idle
            refl;
      }

  commands-released : (answer : Result (Unit {0}) AddCause) → Busies c.now b.controls s
      → outcome.answer ≡ answer → AllByRecursion (IsReleased c b) (operate_commands k o answer)
  commands-released (Ok done) busy is = (released-by busy (ap is_ok is), tt)
  commands-released (Err why) busy is = tt

  idle-operated : (answer : Result (Unit {0}) AddCause) → outcome.answer ≡ answer
      → AllByRecursion (λ (x : Command). IsIdle c.now s) (operate_commands k o answer)
  unfolding outcome
  idle-operated (Ok done) is = (
    (saw c.association k (control_request_of o) (decision_view c k b) (controls_at c.now s)
        (ap is_ok is)).idle,
    tt,
  )
  idle-operated (Err why) is = tt

  single-operated : (answer : Result (Unit {0}) AddCause) → HaveTravelTime s.controls
      → outcome.answer ≡ answer → Single c.now (operate_commands k o answer) outcome.after
  unfolding outcome
  single-operated (Ok done) timed is =
      let seen =
      saw c.association k (control_request_of o) (decision_view c k b) (controls_at c.now s)
      (ap is_ok is)
      in
      let e : Execution =
      record { switch = k; start = c.now; operation = operation_of o.control.ctl_val } in
      let starts : outcome.after.execution ≡ Some e =
      ap (λ (t : Bool). let x : Option Execution =
      cond t (Some e) (controls_at c.now s).execution in x) (ap is_ok is) in (
        e,
        ap (execution_at c.now s.controls) starts
            ∙ starting c.now k (operation_of o.control.ctl_val) s.controls timed
            (not-false (is_controlled (control_of s.controls k).model) seen.controlled),
      )
  single-operated (Err why) timed is = tt

kept-nothing : (c : ClientContext) (b : Bay) → Kept c b (initial_write b)
kept-nothing c b =
    record {
      busy = λ e h. h;
      released = tt;
      sole = λ timed. record { timed = timed; single = tt };
    }

kept-decided : (c : ClientContext) (b : Bay) (k : ℕ) (part : ControlPart) (item : List ℕ)
    (control : Control) (o : Outcome) (w : WriteState) → w.controls.controls ≡ o.after.controls
    → Kept c b w → Busies c.now w.controls o.after
    → Kept c b (after_decision c b k part item control o w)
kept-decided c b k part item control o w same kept busy = record {
  busy = λ e h. busy e (kept.busy e h);
  released = kept.released;
  sole = λ timed. sole-still c.now w.commands w.controls o.after same busy (kept.sole timed);
}

kept-operate : (c : ClientContext) (b : Bay) (k : ℕ) (item : List ℕ) (w : WriteState)
    (o : asked.Operate)
    → Kept c b w → Kept c b (write_operate c b k item w (Ok o))
unfolding outcome
kept-operate c b k item w o kept =
    let out =
    operate_outcome c.association k (control_request_of o) (decision_view c k b) c.now w.controls in
    let busy : Busies c.now w.controls out.after =
    busy-operated c.now k c.association (control_request_of o) (decision_view c k b) w.controls
    (is_ok out.answer) refl in
    record {
      busy = λ e h. busy e (kept.busy e h);
      released =
          both c b w.commands (operate_commands k o out.answer) kept.released
          (commands-released c b w.controls k o out.answer kept.busy refl);
      sole = λ timed.
          let before = kept.sole timed in
          record {
            timed = before.timed;
            single =
                single-joined c.now w.commands (operate_commands k o out.answer) w.controls
                out.after busy (idle-operated c b w.controls k o out.answer refl) before.single
                (single-operated c b w.controls k o out.answer before.timed refl);
          };
    }

kept-row : (c : ClientContext) (b : Bay) (given : Datum) (w : WriteState) (row : Option ℕ)
    → Kept c b w
    → Kept c b (write_row c b given w row)
kept-row c b given w row kept =
    write-by c b w (λ asks asked next. Kept c b next)
    (λ error. record { busy = kept.busy; released = kept.released; sole = kept.sole })
    (λ k item o. kept-decided c b k SelectWith item o.control
    (select_with_outcome c.association k (control_request_of o) c.now w.controls) w refl kept
    (busy-still c.now w.controls))
    (λ k item o. kept-operate c b k item w o kept)
    (λ k item control. kept-decided c b k Cancel item control
    (cancel_outcome c.association k c.now w.controls) w refl kept (busy-still c.now w.controls))
    given row

kept-all : (c : ClientContext) (b : Bay) (ns : List MmsName) (values : List Datum) (w : WriteState)
    → Kept c b w → Kept c b (write_all c b ns values w)
kept-all c b [] values w kept = kept
kept-all c b (name ∷ ns) [] w kept = kept
kept-all c b (name ∷ ns) (given ∷ values) w kept =
    kept-all c b ns values (write_one c b name given w)
    (kept-row c b given w (row_named b name) kept)

-- ---- an answer

record Does (c : ClientContext) (b : Bay) (x : AnswerData) : Type 0 where
  leaves : ChangesNoValue c.now b x.after
  released : AllByRecursion (IsReleased c b) x.commands
  sole : HaveTravelTime b.controls.controls → Sole c.now x.commands x.after.controls

does-answer : (c : ClientContext) (b : Bay) (m : Result MmsRequest MmsFault)
    → Does c b (answer-of c b m)
does-answer c b m =
    answer-by c b (λ entries x. Does c b x)
    (λ pdu few. record {
      leaves = leaves-none c.now b;
      released = tt;
      sole = λ timed. record { timed = timed; single = tt };
    })
    (λ id ns is. let kept =
    read-all-selects c b b.controls ns (initial_read b) (selects-none c.now b.controls) in
    record {
      leaves = leaves-with c.now b _ kept.busy;
      released = tt;
      sole = λ timed. record { timed = rw (← kept.same) timed; single = tt };
    })
    (λ id ns values is. let kept =
    kept-all c b ns values (initial_write b) (kept-nothing c b) in
    record {
      leaves = leaves-with c.now b _ kept.busy;
      released = kept.released;
      sole = kept.sole;
    }) m

pub all-of : {A : Type 0} (P : A → Type 0) (xs : List A) → AllByRecursion P xs → All P xs
all-of P [] h k d lt = absurd (omega (arith, lt))
all-of P (x ∷ xs) h zero d lt = h.0
all-of P (x ∷ xs) h (suc k) d lt = all-of P xs h.1 k d (omega (arith, lt))

pub request-leaves : (c : ClientContext) (pdu : List ℕ) (b : Bay)
    → ChangesNoValue c.now b (pdu_answer c pdu b).after
request-leaves c pdu b = (does-answer c b (request_in pdu)).leaves

pub commands-each : (c : ClientContext) (pdu : List ℕ) (b : Bay)
    → AllByRecursion (IsReleased c b) (pdu_answer c pdu b).commands
commands-each c pdu b = (does-answer c b (request_in pdu)).released

pub commands-sole : (c : ClientContext) (pdu : List ℕ) (b : Bay)
    → HaveTravelTime b.controls.controls
    → Sole c.now (pdu_answer c pdu b).commands (pdu_answer c pdu b).after.controls
commands-sole c pdu b timed = (does-answer c b (request_in pdu)).sole timed

-- each was given while no switch was operating
idle-each : (c : ClientContext) (b : Bay) (commands : List Command)
    → AllByRecursion (IsReleased c b) commands
    → AllByRecursion (λ (x : Command). IsIdle c.now b.controls) commands
idle-each c b [] released = tt
idle-each c b (x ∷ commands) released = (released.0.idle, idle-each c b commands released.1)

-- those of an answer, behind commands that were given before
pub sole-said : (c : ClientContext) (pdu : List ℕ) (b : Bay) (before : List Command)
    → Sole c.now before b.controls
    → Sole c.now (before ++ (pdu_answer c pdu b).commands) (pdu_answer c pdu b).after.controls
sole-said c pdu b before sole =
    let x = pdu_answer c pdu b in
    let later = commands-sole c pdu b sole.timed in
    record {
      timed = later.timed;
      single =
          single-joined c.now before x.commands b.controls x.after.controls
          (request-leaves c pdu b).busy (idle-each c b x.commands (commands-each c pdu b))
          sole.single later.single;
    }

pub one-command : (c : ClientContext) (pdu : List ℕ) (b : Bay) → HaveTravelTime b.controls.controls
    → length (pdu_answer c pdu b).commands ≤ 1
one-command c pdu b timed =
    at-most-one c.now (pdu_answer c pdu b).commands (pdu_answer c pdu b).after.controls
    (commands-sole c pdu b timed).single

pub commands-are : (c : ClientContext) (pdu : List ℕ) (b : Bay)
    → All (IsReleased c b) (pdu_answer c pdu b).commands
commands-are c pdu b = all-of (IsReleased c b) (pdu_answer c pdu b).commands (commands-each c pdu b)

-- ---- something is answered

snoc-some : (xs : List (List ℕ)) (x : List ℕ) → xs ++ x ∷ [] ≢ []
snoc-some [] x e = cc
snoc-some (y ∷ xs) x e = cc

one-sent : (pdu : List ℕ) → pdu ∷ [] ≢ []
one-sent pdu e = cc

pub answer-sent : (c : ClientContext) (pdu : List ℕ) (b : Bay) → (pdu_answer c pdu b).sent ≢ []
answer-sent c pdu b =
    answer-by c b (λ entries x. x.sent ≢ []) (λ pdu few. one-sent pdu) (λ id ns is. one-sent _)
    (λ id ns values is. snoc-some _ _) (request_in pdu)
