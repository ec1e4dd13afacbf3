-- Each accepted operate of an SBO switch is backed.
use Rattle.std.proofs.Common.{◌≡◌, ℕ, ◌<◌, ◌+◌, Bool, true, false, not, ◌&&◌, ◌||◌, List, [], ◌∷◌, ◌++◌, Option, None, Some, Result, Err, refl, ap, sym, ◌∙◌, subst, append_assoc, append-nil}
use Rattle.std.specs.Prelude.{ℤ, nat_le, if◌then◌else◌, is_ok}
use Rattle.std.specs.Cmp.Lexicographic.{same_text}
use Rattle.std.proofs.lemmas.Bool.Decides.{Decides-int_eq}
use Rattle.std.proofs.lemmas.Bool.{eqb-true, leb-false}
use Rattle.bay_base.specs.declared.switch.Operation.{Operation}
use Rattle.bay_base.specs.declared.switch.Operation.TheVariants as operation
use Rattle.bay_control.specs.Acts.{Act, Entry}
use Rattle.bay_control.specs.Acts as act
use Rattle.bay_control.specs.Backing.{AreBacked, AreBackedAfter, IsBacked}
use Rattle.bay_control.specs.TimedCalls.{AreOrderly, Call, Open, Close, Select, SelectWith, Operate, Cancel, Contact, Advance, TimedCall, LeadsControls, act_of, state_after_calls, entries_of, entries_of_calls, is_open_after, outcome_of}
use Rattle.bay_control.specs.Decisions.{State, is_choice, is_chosen, is_selected_by, operate_outcome, selection_at}
use Rattle.bay_control.specs.Requests.{requested_choice, control_of, is_enhanced, is_sbo, same_choice, same_operation}
use Rattle.bay_control.specs.declared.cause.AddCause.{AddCause}
use Rattle.bay_control.specs.declared.control.SwitchControl.{SwitchControl}
use Rattle.bay_control.specs.declared.request.Ask.{Ask}
use Rattle.bay_control.specs.declared.request.Choice.{Choice}
use Rattle.bay_control.specs.declared.request.View.{View}
use Rattle.bay_control.specs.declared.selection.Selection.{Selection}
use Rattle.bay_control.proofs.SelectionLemmas.{Holds, Stands, seen_of, step-holds}

-- ---- tests

and-left : (a b : Bool) → (a && b) ≡ true → a ≡ true
and-left true b e = refl
and-left false b e = absurd cc

and-right : (a b : Bool) → (a && b) ≡ true → b ≡ true
and-right true b e = e
and-right false b e = absurd cc

-- where x and not y does not hold, but x does
but-not : (x y : Bool) → x ≡ true → (x && not y) ≡ false → y ≡ true
but-not true true e f = refl
but-not true false e f = absurd cc
but-not false y e f = absurd cc

or-else : (x y : Bool) → x ≡ true → (not x || y) ≡ true → y ≡ true
or-else true y e f = f
or-else false y e f = absurd cc

-- a row that does not refuse, in an answer that accepts
passed : (refuses : Bool) (cause : AddCause) (rest : Result (Unit {0}) AddCause)
    → is_ok (if refuses then Err cause else rest) ≡ true → (refuses ≡ false) × (is_ok rest ≡ true)
passed true cause rest e = absurd cc
passed false cause rest e = (refl, e)

same-operation : (c d : Operation) → same_operation c d ≡ true → c ≡ d
same-operation operation.Open operation.Open e = refl
same-operation operation.Open operation.Close e = absurd cc
same-operation operation.Close operation.Open e = absurd cc
same-operation operation.Close operation.Close e = refl

same-choice : (c d : Choice) → same_choice c d ≡ true → d ≡ c
same-choice c d e =
    let does : c.operation ≡ d.operation =
    same-operation c.operation d.operation (and-left _ _ e) in
    let origin = and-right (same_operation c.operation d.operation) _ e in
    let cat : c.origin.cat ≡ d.origin.cat =
    (Decides-int_eq c.origin.cat d.origin.cat).0 (and-left _ _ origin) in
    let ident : c.origin.ident ≡ d.origin.ident =
    same_text _ _ (sym (and-right _ _ origin)) in
    ap (λ (o : Operation). record d { operation = o }) (sym does)
    ∙ ap (λ (n : ℤ). record c { origin = record { cat = n; ident = d.origin.ident } }) (sym cat)
    ∙ ap (λ (os : List ℕ). record c
    { origin = record { cat = c.origin.cat; ident = os } }) (sym ident)

is-choice : (c : Choice) (chosen : Option Choice) → is_choice c chosen ≡ true → chosen ≡ Some c
is-choice c None e = absurd cc
is-choice c (Some d) e = ap (λ (x : Choice). Some x) (same-choice c d e)

-- ---- a standing selection backs

-- what an accepted operate of an SBO switch finds selected
record Finds (controls : List SwitchControl) (a k : ℕ) (choice : Choice) (now : ℕ) (s : Selection)
    : Type 0 where
  owner : s.association ≡ a
  switch : s.switch ≡ k
  in_time : now < s.since + (control_of controls s.switch).sbo_timeout_ms
  chosen : is_enhanced (control_of controls k).model ≡ true → s.choice ≡ Some choice

backed-by : (controls : List SwitchControl) (past : List Entry) (s : Selection) (choice : Choice)
    (now : ℕ)
    → Stands past s → now < s.since + (control_of controls s.switch).sbo_timeout_ms
    → (is_enhanced (control_of controls s.switch).model ≡ true → s.choice ≡ Some choice)
    → IsBacked controls s.association s.switch choice now past
backed-by controls past s choice now t in_time chosen = record {
  earlier = t.earlier;
  select = t.select;
  between = t.between;
  split = t.split;
  granted = t.granted;
  not_undone = t.not_undone;
  in_time = rw t.since in_time;
  matched = λ e. record { last = t.last; same = t.choice ∙ chosen e };
}

backed : (controls : List SwitchControl) (past : List Entry) (a k : ℕ) (choice : Choice) (now : ℕ)
    (s : Selection)
    → Stands past s → Finds controls a k choice now s → IsBacked controls a k choice now past
backed controls past a k choice now s t f =
    let chosen : is_enhanced (control_of controls s.switch).model ≡ true → s.choice ≡ Some choice =
    λ e. f.chosen (ap (λ (j : ℕ). is_enhanced (control_of controls j).model) (sym f.switch) ∙ e) in
    subst (λ (b : ℕ). IsBacked controls b k choice now past) f.owner
    (subst (λ (j : ℕ). IsBacked controls s.association j choice now past) f.switch
    (backed-by controls past s choice now t f.in_time chosen))

-- a selection that is not over
finds-one : (controls : List SwitchControl) (a k : ℕ) (choice : Choice) (now : ℕ) (s : Selection)
    (over : Bool)
    → nat_le (s.since + (control_of controls s.switch).sbo_timeout_ms) now ≡ over
    → is_selected_by a k (if over then None else Some s) ≡ true
    → (is_enhanced (control_of controls k).model ≡ true
    → is_chosen choice (if over then None else Some s) ≡ true)
    → Finds controls a k choice now s
finds-one controls a k choice now s true o e f = absurd cc
finds-one controls a k choice now s false o e f = record {
  owner = eqb-true s.association a (and-left _ _ e);
  switch = eqb-true s.switch k (and-right _ _ e);
  in_time = leb-false (s.since + (control_of controls s.switch).sbo_timeout_ms) now o;
  chosen = λ x. is-choice choice s.choice (f x);
}

found : (controls : List SwitchControl) (is_open : ℕ → Bool) (past : List Entry) (a k : ℕ)
    (choice : Choice) (now : ℕ) (selection : Option Selection)
    → Holds is_open past selection
    → is_selected_by a k (selection_at now controls selection) ≡ true
    → (is_enhanced (control_of controls k).model ≡ true
    → is_chosen choice (selection_at now controls selection) ≡ true)
    → IsBacked controls a k choice now past
found controls is_open past a k choice now None h e f = absurd cc
found controls is_open past a k choice now (Some s) h e f =
    backed controls past a k choice now s h.1
    (finds-one controls a k choice now s
    (nat_le (s.since + (control_of controls s.switch).sbo_timeout_ms) now) refl e f)

operate-backed : (is_open : ℕ → Bool) (past : List Entry) (a k : ℕ) (ask : Ask) (view : View)
    (now : ℕ) (s : State)
    → Holds is_open past s.selection
    → is_ok (operate_outcome a k ask view now s).answer ≡ true
    → is_sbo (control_of s.controls k).model ≡ true
    → IsBacked s.controls a k (requested_choice ask) now past
operate-backed is_open past a k ask view now s h ok sbo =
    let selection : Option Selection = selection_at now s.controls s.selection in
    let first = passed _ _ _ ok in
    let second = passed _ _ _ first.1 in
    let selected = but-not (is_sbo (control_of s.controls k).model) _ sbo second.0 in
    found s.controls is_open past a k (requested_choice ask) now s.selection h
    (and-left _ _ selected)
    (λ e. or-else (is_enhanced (control_of s.controls k).model) _ e (and-right _ _ selected))

-- ---- whole runs

pub after-controls : (call : Call) (now : ℕ) (s : State)
    → (outcome_of call now s).after.controls ≡ s.controls
after-controls (Open a) now s = refl
after-controls (Close a) now s = refl
after-controls (Select a k) now s = refl
after-controls (SelectWith a k ask) now s = refl
after-controls (Operate a k ask view) now s = refl
after-controls (Cancel a k) now s = refl
after-controls (Contact k position) now s = refl
after-controls Advance now s = refl

-- no call changes the settings of the controls
pub all-controls : (hs : List TimedCall) (s : State)
    → (state_after_calls hs s).controls ≡ s.controls
all-controls [] s = refl
all-controls (h ∷ hs) s =
    all-controls hs (outcome_of h.call h.now s).after ∙ after-controls h.call h.now s

-- an accepted operate that was seen of a call
call-backed : (is_open : ℕ → Bool) (past : List Entry) (call : Call) (now : ℕ) (s : State)
    → Holds is_open past s.selection
    → (a k : ℕ) (choice : Choice) → act_of call ≡ Some (act.Operate a k choice)
    → is_ok (outcome_of call now s).answer ≡ true
    → is_sbo (control_of s.controls k).model ≡ true → IsBacked s.controls a k choice now past
call-backed is_open past (Open b) now s h a k choice e ok sbo = absurd cc
call-backed is_open past (Close b) now s h a k choice e ok sbo = absurd cc
call-backed is_open past (Select b j) now s h a k choice e ok sbo = absurd cc
call-backed is_open past (SelectWith b j ask) now s h a k choice e ok sbo = absurd cc
call-backed is_open past (Operate b j ask view) now s h a k choice e ok sbo =
    let by : b ≡ a = cc in
    let of : j ≡ k = cc in
    let for : requested_choice ask ≡ choice = cc in
    let sbo-here : is_sbo (control_of s.controls j).model ≡ true =
    ap (λ (i : ℕ). is_sbo (control_of s.controls i).model) of ∙ sbo in
    subst (λ (c : ℕ). IsBacked s.controls c k choice now past) by
    (subst (λ (i : ℕ). IsBacked s.controls b i choice now past) of
    (subst (λ (c : Choice). IsBacked s.controls b j c now past) for
    (operate-backed is_open past b j ask view now s h ok sbo-here)))
call-backed is_open past (Cancel b j) now s h a k choice e ok sbo = absurd cc
call-backed is_open past (Contact j position) now s h a k choice e ok sbo = absurd cc
call-backed is_open past Advance now s h a k choice e ok sbo = absurd cc

head-of : (x y : Entry) (xs ys : List Entry) → x ∷ xs ≡ y ∷ ys → x ≡ y
head-of x y xs ys e = cc

tail-of : (x y : Entry) (xs ys : List Entry) → x ∷ xs ≡ y ∷ ys → xs ≡ ys
tail-of x y xs ys e = cc

-- what is seen of a call, before what is seen of the rest
entries-backed : (controls : List SwitchControl) (past : List Entry) (at : ℕ) (what : Option Act)
    (ok : Bool) (rest : List Entry)
    → ((a k : ℕ) (choice : Choice) → what ≡ Some (act.Operate a k choice) → ok ≡ true
    → is_sbo (control_of controls k).model ≡ true
    → IsBacked controls a k choice at past)
    → AreBackedAfter controls (past ++ entries_of at what ok) rest
    → AreBackedAfter controls past (entries_of at what ok ++ rest)
entries-backed controls past at None ok rest here later before after now a k choice e sbo =
    subst (λ (es : List Entry). IsBacked controls a k choice now (es ++ before)) (append-nil past)
    (later before after now a k choice e sbo)
entries-backed controls past at (Some what) ok rest here later [] after now a k choice e sbo =
    let first = head-of (record { now = at; act = what; is_accepted = ok }) _ _ _ e in
    let backed-at : IsBacked controls a k choice at past =
    here a k choice (ap (λ (x : Entry). Some x.act) first) (ap (λ (x : Entry). x.is_accepted) first)
    sbo in
    subst (λ (n : ℕ). IsBacked controls a k choice n (past ++ [])) (ap (λ (x : Entry). x.now) first)
    (subst (λ (es : List Entry). IsBacked controls a k choice at es) (sym (append-nil past))
    backed-at)
entries-backed controls past at (Some what) ok rest here later (b ∷ before) after now a k choice e
    sbo =
    let seam : (past ++ record { now = at; act = what; is_accepted = ok } ∷ []) ++ before
    ≡ past ++ b ∷ before =
    append_assoc past (record { now = at; act = what; is_accepted = ok } ∷ []) before
    ∙ ap (λ (x : Entry). past ++ x ∷ before) (head-of _ _ _ _ e) in
    subst (λ (es : List Entry). IsBacked controls a k choice now es) seam
    (later before after now a k choice (tail-of _ _ _ _ e) sbo)

none-backed : (controls : List SwitchControl) (past : List Entry) → AreBackedAfter controls past []
none-backed controls past [] after now a k choice e sbo = absurd cc
none-backed controls past (b ∷ before) after now a k choice e sbo = absurd cc

-- from any past that the selection goes with
run-backed : (hs : List TimedCall) (s : State) (controls : List SwitchControl) (is_open : ℕ → Bool)
    (past : List Entry)
    → s.controls ≡ controls → Holds is_open past s.selection → AreOrderly is_open hs
    → AreBackedAfter controls past (entries_of_calls hs s)
run-backed [] s controls is_open past same h o = none-backed controls past
run-backed (d ∷ hs) s controls is_open past same h o =
    entries-backed controls past d.now (act_of d.call) (is_ok (outcome_of d.call d.now s).answer)
    (entries_of_calls hs (outcome_of d.call d.now s).after)
    (λ a k choice e ok sbo. subst (λ (cs : List SwitchControl). IsBacked cs a k choice d.now past)
    same
    (call-backed is_open past d.call d.now s h a k choice e ok
    (ap (λ (cs : List SwitchControl). is_sbo (control_of cs k).model) same ∙ sbo)))
    (run-backed hs (outcome_of d.call d.now s).after controls (is_open_after is_open d.call)
    (past ++ seen_of d.call d.now s)
    (after-controls d.call d.now s ∙ same) (step-holds is_open past d.call d.now s o.0 h) o.1)

-- from controls with no selection
pub all-backed : (entries : List Entry) (open_before open_after : ℕ → Bool) (before after : State)
    → LeadsControls entries open_before before open_after after → before.selection ≡ None
    → AreBacked before.controls entries
all-backed entries open_before open_after before after leads none =
    let holds : Holds open_before [] before.selection =
    subst (λ (x : Option Selection). Holds open_before [] x) (sym none) tt in
    let backed-of : AreBacked before.controls (entries_of_calls leads.timed_calls before) =
    run-backed leads.timed_calls before before.controls open_before [] refl holds leads.orderly in
    subst (λ (es : List Entry). AreBacked before.controls es) (sym leads.seen) backed-of
