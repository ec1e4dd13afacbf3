-- What the kept selection says of what was before: the last granted select of its switch by its
-- association stands.
use Rattle.std.proofs.Common.{◌≡◌, ℕ, ◌+◌, Bool, true, false, not, ◌&&◌, inl, inr, List, [], ◌∷◌, ◌++◌, Option, None, Some, Result, Ok, Err, refl, ap, sym, ◌∙◌, append_assoc, append-nil, subst}
use Rattle.std.specs.Prelude.{All, ◌==◌, nat_le, if◌then◌else◌, is_ok}
use Rattle.std.proofs.lemmas.Bool.Decides.{eqb_tells}
use Rattle.std.proofs.lemmas.Bool.{eq-eqb, not-true, or_right}
use Rattle.std.proofs.lemmas.List.Elements.{All-nil, All-push}
use Rattle.std.proofs.Math.Bool.{and-false}
use Rattle.bay_control.specs.Acts.{Act, Entry}
use Rattle.bay_control.specs.Acts as act
use Rattle.bay_control.specs.Backing.{choice_of, grants, selects, undoes, act_undoes}
use Rattle.bay_control.specs.TimedCalls.{Call, Open, Close, Select, SelectWith, Operate, Cancel, Contact, Advance, act_of, entries_of, is_open_after, is_orderly_call, outcome_of}
use Rattle.bay_control.specs.Decisions.{State, controls_at, answer_of, cancel_effect, is_selected_by, rows_of_cancel, rows_of_operate, rows_of_select, rows_of_select_with, select_effect, selection_at, selection_without}
use Rattle.bay_control.specs.Requests.{requested_choice, control_of}
use Rattle.bay_control.specs.declared.cause.AddCause.{AddCause}
use Rattle.bay_control.specs.declared.control.SwitchControl.{SwitchControl}
use Rattle.bay_control.specs.declared.request.Choice.{Choice}
use Rattle.bay_control.specs.declared.selection.Selection.{Selection}

-- the select that a selection comes from, and what came after it
pub record Stands (past : List Entry) (s : Selection) : Type 0 where
  pub earlier : List Entry
  pub select : Entry
  pub between : List Entry
  pub split : past ≡ earlier ++ select ∷ between
  pub granted : grants s.association s.switch select ≡ true
  pub since : select.now ≡ s.since
  pub choice : choice_of select.act ≡ s.choice
  pub not_undone : All (λ (e : Entry). undoes s.association s.switch e ≡ false) between
  pub last : All (λ (e : Entry). grants s.association s.switch e ≡ false) between

-- the selection, if there is one, is that of an association that is open, and it stands
abbrev pub Holds : (ℕ → Bool) → List Entry → Option Selection → Type 0
Holds is_open past None = Unit {0}
Holds is_open past (Some s) = (is_open s.association ≡ true) × Stands past s

-- ---- one entry more

kept : (past : List Entry) (s : Selection) (e : Entry)
    → undoes s.association s.switch e ≡ false → grants s.association s.switch e ≡ false
    → Stands past s → Stands (past ++ e ∷ []) s
kept past s e undone granted t = record {
  earlier = t.earlier;
  select = t.select;
  between = t.between ++ e ∷ [];
  split = ap (λ (es : List Entry). es ++ e ∷ []) t.split
      ∙ append_assoc t.earlier (t.select ∷ t.between) (e ∷ []);
  granted = t.granted;
  since = t.since;
  choice = t.choice;
  not_undone =
      All-push (λ (x : Entry). undoes s.association s.switch x ≡ false) t.between e t.not_undone
      undone;
  last = All-push (λ (x : Entry). grants s.association s.switch x ≡ false) t.between e t.last
      granted;
}

fresh : (past : List Entry) (s : Selection) (e : Entry)
    → grants s.association s.switch e ≡ true → e.now ≡ s.since → choice_of e.act ≡ s.choice
    → Stands (past ++ e ∷ []) s
fresh past s e granted since choice = record {
  earlier = past;
  select = e;
  between = [];
  split = refl;
  granted = granted;
  since = since;
  choice = choice;
  not_undone = All-nil (λ (x : Entry). undoes s.association s.switch x ≡ false);
  last = All-nil (λ (x : Entry). grants s.association s.switch x ≡ false);
}

-- an entry that leaves every selection as it is
record Leaves (is_open after : ℕ → Bool) (e : Entry) : Type 0 where
  stays_open : (a : ℕ) → is_open a ≡ true → after a ≡ true
  undoes_none : (a k : ℕ) → is_open a ≡ true → undoes a k e ≡ false
  grants_none : (a k : ℕ) → grants a k e ≡ false

left : (is_open after : ℕ → Bool) (past : List Entry) (e : Entry) (selection : Option Selection)
    → Leaves is_open after e → Holds is_open past selection → Holds after (past ++ e ∷ []) selection
left is_open after past e None l h = tt
left is_open after past e (Some s) l h = (
  l.stays_open s.association h.0,
  kept past s e (l.undoes_none s.association s.switch h.0)
      (l.grants_none s.association s.switch) h.1,
)

-- what has run out is gone
stood : (is_open : ℕ → Bool) (past : List Entry) (s : Selection) (over : Bool)
    → Holds is_open past (Some s) → Holds is_open past (if over then None else Some s)
stood is_open past s true h = tt
stood is_open past s false h = h

pub advanced-holds : (is_open : ℕ → Bool) (past : List Entry) (now : ℕ)
    (controls : List SwitchControl) (selection : Option Selection)
    → Holds is_open past selection → Holds is_open past (selection_at now controls selection)
advanced-holds is_open past now controls None h = tt
advanced-holds is_open past now controls (Some s) h =
    stood is_open past s (nat_le (s.since + (control_of controls s.switch).sbo_timeout_ms) now) h

-- ---- each request

abbrev seen : ℕ → Act → Bool → Entry
seen now what is_accepted = record { now = now; act = what; is_accepted = is_accepted }

select-holds : (is_open : ℕ → Bool) (past : List Entry) (a k now : ℕ) (choice : Option Choice)
    (what : Act) (t : State)
    → is_open a ≡ true → selects a k what ≡ true → choice_of what ≡ choice
    → ((b j : ℕ) → act_undoes b j false what ≡ false)
    → Holds is_open past t.selection
    → (answer : Result (Unit {0}) AddCause)
    → Holds is_open (past ++ seen now what (is_ok answer) ∷ [])
    (select_effect a k now choice answer t).after.selection
select-holds is_open past a k now choice what t o s c u h (Ok x) = (
  o,
  fresh past (record { switch = k; association = a; since = now; choice = choice })
      (seen now what true) (ap (λ (b : Bool). b && true) s) refl c,
)
select-holds is_open past a k now choice what t o s c u h (Err cause) =
    left is_open is_open past (seen now what false) t.selection
    (record {
      stays_open = λ b x. x;
      undoes_none = λ b j x. u b j;
      grants_none = λ b j. and-false (selects b j what);
    }) h

own-select : (a k : ℕ) → ((a == a) && (k == k)) ≡ true
own-select a k = ap (λ (b : Bool). b && (k == k)) (eq-eqb a a refl) ∙ eq-eqb k k refl

cancel-holds : (is_open : ℕ → Bool) (past : List Entry) (a k now : ℕ) (t : State)
    → Holds is_open past t.selection
    → (answer : Result (Unit {0}) AddCause)
    → Holds is_open (past ++ seen now (act.Cancel a k) (is_ok answer) ∷ [])
    (cancel_effect answer t).after.selection
cancel-holds is_open past a k now t h (Ok x) = tt
cancel-holds is_open past a k now t h (Err cause) =
    left is_open is_open past (seen now (act.Cancel a k) false) t.selection
    (record { stays_open = λ b x. x; undoes_none = λ b j x. refl; grants_none = λ b j. refl }) h

-- a selection that is ended, or kept by an entry that does not undo it
ended-or-kept : (is_open after : ℕ → Bool) (past : List Entry) (s : Selection) (e : Entry)
    (ended : Bool)
    → (ended ≡ false → undoes s.association s.switch e ≡ false)
    → grants s.association s.switch e ≡ false
    → (ended ≡ false → after s.association ≡ true)
    → Holds is_open past (Some s) → Holds after (past ++ e ∷ []) (if ended then None else Some s)
ended-or-kept is_open after past s e true u g o h = tt
ended-or-kept is_open after past s e false u g o h = (o refl, kept past s e (u refl) g h.1)

operate-holds : (is_open : ℕ → Bool) (past : List Entry) (a k : ℕ) (choice : Choice) (now : ℕ)
    (accepted : Bool) (selection : Option Selection)
    → Holds is_open past selection
    → Holds is_open (past ++ seen now (act.Operate a k choice) accepted ∷ [])
    (if is_selected_by a k selection then None else selection)
operate-holds is_open past a k choice now accepted None h = tt
operate-holds is_open past a k choice now accepted (Some s) h =
    ended-or-kept is_open is_open past s (seen now (act.Operate a k choice) accepted)
    (s.association == a && s.switch == k)
    (λ e. e) refl (λ e. h.0) h

-- ---- openings and closings

-- an association that is opened is no open one
other-opened : (is_open : ℕ → Bool) (a b : ℕ) → is_open a ≡ true → not (is_open b) ≡ true
    → (a == b) ≡ false
other-opened is_open a b o c =
    elim (eqb_tells a b) [
      | inl p
          ↦ absurd (let d = not-true (is_open b) c in let e = ap is_open p.1 in cc)
      | inr p ↦ p.0
    ]

opened-leaves : (is_open : ℕ → Bool) (a now : ℕ) → not (is_open a) ≡ true
    → Leaves is_open (is_open_after is_open (Open a)) (seen now (act.Opened a) true)
opened-leaves is_open a now c = record {
  stays_open = λ b o. or_right (b == a) (is_open b) o;
  undoes_none = λ b k o. other-opened is_open b a o c;
  grants_none = λ b k. refl;
}

closed-holds : (is_open : ℕ → Bool) (past : List Entry) (a now : ℕ) (selection : Option Selection)
    → Holds is_open past selection
    → Holds (is_open_after is_open (Close a)) (past ++ seen now (act.Closed a) true ∷ [])
    (selection_without a selection)
closed-holds is_open past a now None h = tt
closed-holds is_open past a now (Some s) h =
    ended-or-kept is_open (is_open_after is_open (Close a)) past s (seen now (act.Closed a) true)
    (s.association == a)
    (λ e. e) refl (λ e. ap (λ (b : Bool). not b && is_open s.association) e ∙ h.0) h

-- ---- what happens keeps it

abbrev pub seen_of : Call → ℕ → State → List Entry
seen_of call now s = entries_of now (act_of call) (is_ok (outcome_of call now s).answer)

pub step-holds : (is_open : ℕ → Bool) (past : List Entry) (call : Call) (now : ℕ) (s : State)
    → is_orderly_call is_open call ≡ true → Holds is_open past s.selection
    → Holds (is_open_after is_open call) (past ++ seen_of call now s)
    (outcome_of call now s).after.selection
step-holds is_open past (Open a) now s o h =
    left is_open (is_open_after is_open (Open a)) past (seen now (act.Opened a) true) s.selection
    (opened-leaves is_open a now o) h
step-holds is_open past (Close a) now s o h = closed-holds is_open past a now s.selection h
step-holds is_open past (Select a k) now s o h =
    select-holds is_open past a k now None (act.Select a k) (controls_at now s) o (own-select a k)
    refl
    (λ b j. refl)
    (advanced-holds is_open past now s.controls s.selection h)
    (answer_of (rows_of_select a k (controls_at now s)))
step-holds is_open past (SelectWith a k ask) now s o h =
    select-holds is_open past a k now (Some (requested_choice ask))
    (act.SelectWith a k (requested_choice ask)) (controls_at now s) o (own-select a k) refl
    (λ b j. refl)
    (advanced-holds is_open past now s.controls s.selection h)
    (answer_of (rows_of_select_with a k ask (controls_at now s)))
step-holds is_open past (Operate a k ask view) now s o h =
    operate-holds is_open past a k (requested_choice ask) now
    (is_ok (answer_of (rows_of_operate a k ask view (controls_at now s))))
    (controls_at now s).selection
    (advanced-holds is_open past now s.controls s.selection h)
step-holds is_open past (Cancel a k) now s o h =
    cancel-holds is_open past a k now (controls_at now s)
    (advanced-holds is_open past now s.controls s.selection h)
    (answer_of (rows_of_cancel a k (controls_at now s)))
step-holds is_open past (Contact k position) now s o h =
    subst (λ (es : List Entry). Holds is_open es s.selection) (sym (append-nil past)) h
step-holds is_open past Advance now s o h =
    subst (λ (es : List Entry). Holds is_open es (selection_at now s.controls s.selection))
    (sym (append-nil past))
    (advanced-holds is_open past now s.controls s.selection h)
