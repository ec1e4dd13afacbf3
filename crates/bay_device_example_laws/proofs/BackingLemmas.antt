-- What backs an operate in small runs, and what does not.
use Rattle.std.proofs.Common.{ℕ, ◌≡◌, ◌≢◌, ◌<◌, ◌+◌, true, false, None, Some, List, [], ◌∷◌, refl, subst, ◌⊎◌, ⊎_elim, arith}
use Rattle.std.specs.Prelude.{All, not}
use Rattle.std.proofs.lemmas.Bool.{not-true}
use Rattle.std.proofs.lemmas.List.Sums.{AllPass-from_list_all}
use Rattle.bay_control.specs.Acts.{Closed, Entry, Opened, Select, SelectWith}
use Rattle.bay_control.specs.Backing.{IsBacked, choice_of, grants, undoes}
use Rattle.bay_control.specs.declared.control.SwitchControl.{SwitchControl}
use Rattle.bay_device_example_laws.specs.Selects.{IsBackedAfter, IsMatchedAfter, accepted_entry, cancel_entry, enhanced_switch, unrelated_entries, one_switch, operate_entry, refused_select, selected_by, selected_with}
use Rattle.bay_device_example_laws.proofs.SplitLemmas.{none-there, one-there, two-there}
use Rattle.bay_control.specs.declared.request.Choice.{Choice}

pub own-backs : (choice : Choice) → IsBackedAfter choice 1999 (selected_by 1 ∷ [])
own-backs choice = record {
  earlier = [];
  select = selected_by 1;
  between = [];
  split = refl;
  granted = refl;
  not_undone = λ k d lt. absurd (omega arith);
  in_time = omega arith;
  matched = λ e. absurd cc;
}

-- none of these undoes the select
stays : (choice : Choice) → All (λ (e : Entry). undoes 1 0 e ≡ false) (unrelated_entries choice)
stays choice k d lt = not-true _
    (AllPass-from_list_all (λ (e : Entry). not (undoes 1 0 e)) (unrelated_entries choice) refl k d
    lt)

pub left-backs : (choice : Choice)
    → IsBackedAfter choice 1999 (selected_by 1 ∷ unrelated_entries choice)
left-backs choice = record {
  earlier = [];
  select = selected_by 1;
  between = unrelated_entries choice;
  split = refl;
  granted = refl;
  not_undone = stays choice;
  in_time = omega arith;
  matched = λ e. absurd cc;
}

pub over-backs-none : (choice : Choice) → IsBackedAfter choice 2000 (selected_by 1 ∷ []) → ⊥
over-backs-none choice h =
    let same : h.select ≡ selected_by 1 =
    one-there (selected_by 1) h.earlier h.between h.select h.split in
    let late : 2000 < 0 + 2000 = subst (λ (e : Entry). 2000 < e.now + 2000) same h.in_time in
    omega (arith, late)

pub nothing-backs : (choice : Choice) → IsBackedAfter choice 1999 [] → ⊥
nothing-backs choice h = none-there h.earlier h.between h.select h.split

pub refused-backs-none : (choice : Choice) → IsBackedAfter choice 1999 (refused_select ∷ []) → ⊥
refused-backs-none choice h =
    let same : h.select ≡ refused_select =
    one-there refused_select h.earlier h.between h.select h.split in
    let own : false ≡ true = subst (λ (e : Entry). grants 1 0 e ≡ true) same h.granted in
    absurd cc

pub another-backs-none : (choice : Choice) → IsBackedAfter choice 1999 (selected_by 2 ∷ []) → ⊥
another-backs-none choice h =
    let same : h.select ≡ selected_by 2 =
    one-there (selected_by 2) h.earlier h.between h.select h.split in
    let own : false ≡ true = subst (λ (e : Entry). grants 1 0 e ≡ true) same h.granted in
    absurd cc

-- what undoes a select, and is none, leaves nothing that backs
undone : (controls : List SwitchControl) (choice : Choice) (now : ℕ) (e f : Entry)
    → undoes 1 0 f ≡ true → grants 1 0 f ≡ false
    → IsBacked controls 1 0 choice now (e ∷ f ∷ []) → ⊥
undone controls choice now e f undoing other h =
    ⊎_elim (λ (is : (h.select ≡ e) × (h.between ≡ f ∷ [])).
    let kept : undoes 1 0 f ≡ false =
    subst (λ (es : List Entry). All (λ (g : Entry). undoes 1 0 g ≡ false) es) is.1 h.not_undone 0 f
    (omega arith) in absurd cc)
    (λ (is : (h.select ≡ f) × (h.earlier ≡ e ∷ [])).
    let granted : grants 1 0 f ≡ true = subst (λ (g : Entry). grants 1 0 g ≡ true) is.0 h.granted in
    absurd cc)
    (two-there e f h.earlier h.between h.select h.split)

pub cancelled-backs-none : (choice : Choice)
    → IsBackedAfter choice 1999 (selected_by 1 ∷ cancel_entry ∷ []) → ⊥
cancelled-backs-none choice h =
    undone one_switch choice 1999 (selected_by 1) cancel_entry refl refl h

pub used-backs-none : (choice : Choice)
    → IsBackedAfter choice 1999 (selected_by 1 ∷ operate_entry choice ∷ []) → ⊥
used-backs-none choice h =
    undone one_switch choice 1999 (selected_by 1) (operate_entry choice) refl refl h

pub closed-backs-none : (choice : Choice)
    → IsBackedAfter choice 1999 (selected_by 1 ∷ accepted_entry (Closed 1) ∷ []) → ⊥
closed-backs-none choice h =
    undone one_switch choice 1999 (selected_by 1) (accepted_entry (Closed 1)) refl refl h

pub opened-backs-none : (choice : Choice)
    → IsBackedAfter choice 1999 (selected_by 1 ∷ accepted_entry (Opened 1) ∷ []) → ⊥
opened-backs-none choice h =
    undone one_switch choice 1999 (selected_by 1) (accepted_entry (Opened 1)) refl refl h

pub taken-backs-none : (choice : Choice)
    → IsBackedAfter choice 1999 (selected_by 1 ∷ selected_by 2 ∷ []) → ⊥
taken-backs-none choice h =
    undone one_switch choice 1999 (selected_by 1) (selected_by 2) refl refl h

pub moved-backs-none : (choice : Choice)
    → IsBackedAfter choice 1999 (selected_by 1 ∷ accepted_entry (Select 1 1) ∷ []) → ⊥
moved-backs-none choice h =
    undone one_switch choice 1999 (selected_by 1) (accepted_entry (Select 1 1)) refl refl h

-- ---- enhanced security

pub matched-backs : (choice : Choice) → IsMatchedAfter choice (selected_with choice ∷ [])
matched-backs choice = record {
  earlier = [];
  select = selected_with choice;
  between = [];
  split = refl;
  granted = refl;
  not_undone = λ k d lt. absurd (omega arith);
  in_time = omega arith;
  matched = λ e. record { last = λ k d lt. absurd (omega arith); same = refl };
}

-- the select that backs asked for what is operated
asks-for : (choice : Choice) (before : List Entry) (select : Entry)
    → (h : IsMatchedAfter choice before) → h.select ≡ select → choice_of select.act ≡ Some choice
asks-for choice before select h is =
    subst (λ (e : Entry). choice_of e.act ≡ Some choice) is (h.matched refl).same

pub other-backs-none : (asked choice : Choice) → asked ≢ choice
    → IsMatchedAfter choice (selected_with asked ∷ []) → ⊥
other-backs-none asked choice differs h =
    let is : h.select ≡ selected_with asked =
    one-there (selected_with asked) h.earlier h.between h.select h.split in
    let same : Some asked ≡ Some choice =
    asks-for choice (selected_with asked ∷ []) (selected_with asked) h is in
    differs cc

pub plain-backs-none : (choice : Choice) → IsMatchedAfter choice (selected_by 1 ∷ []) → ⊥
plain-backs-none choice h =
    let is : h.select ≡ selected_by 1 =
    one-there (selected_by 1) h.earlier h.between h.select h.split in
    let no : None ≡ Some choice = asks-for choice (selected_by 1 ∷ []) (selected_by 1) h is in
    absurd cc

pub earlier-backs-none : (asked choice : Choice) → asked ≢ choice
    → IsMatchedAfter choice (selected_with choice ∷ selected_with asked ∷ []) → ⊥
earlier-backs-none asked choice differs h =
    let before : List Entry = selected_with choice ∷ selected_with asked ∷ [] in
    ⊎_elim (λ (is : (h.select ≡ selected_with choice) × (h.between ≡ selected_with asked ∷ [])).
    let no : true ≡ false =
    subst (λ (es : List Entry). All (λ (e : Entry). grants 1 0 e ≡ false) es) is.1
    (h.matched refl).last 0 (selected_with asked) (omega arith) in absurd cc)
    (λ (is : (h.select ≡ selected_with asked) × (h.earlier ≡ selected_with choice ∷ [])).
    let same : Some asked ≡ Some choice =
    asks-for choice before (selected_with asked) h is.0 in differs cc)
    (two-there (selected_with choice) (selected_with asked) h.earlier h.between h.select h.split)

pub taken-matches-none : (choice : Choice)
    → IsMatchedAfter choice (selected_with choice ∷ accepted_entry (SelectWith 2 0 choice) ∷ [])
    → ⊥
taken-matches-none choice h =
    undone enhanced_switch choice 1999 (selected_with choice)
    (accepted_entry (SelectWith 2 0 choice))
    refl
    refl h

pub moved-matches-none : (choice : Choice)
    → IsMatchedAfter choice (selected_with choice ∷ accepted_entry (SelectWith 1 1 choice) ∷ [])
    → ⊥
moved-matches-none choice h =
    undone enhanced_switch choice 1999 (selected_with choice)
    (accepted_entry (SelectWith 1 1 choice))
    refl
    refl h

pub another-matches-none : (choice : Choice)
    → IsMatchedAfter choice (accepted_entry (SelectWith 2 0 choice) ∷ []) → ⊥
another-matches-none choice h =
    let same : h.select ≡ accepted_entry (SelectWith 2 0 choice) =
    one-there (accepted_entry (SelectWith 2 0 choice)) h.earlier h.between h.select h.split in
    let own : false ≡ true = subst (λ (e : Entry). grants 1 0 e ≡ true) same h.granted in
    absurd cc
