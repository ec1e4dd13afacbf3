-- One item more.
use Rattle.std.proofs.Common.{◌≡◌, ℕ, ◌+◌, ◌<◌, ◌≤◌, ◌==◌, Bool, true, false, cond, List, [], ◌∷◌, ◌++◌, length, map, drop, get_or, Option, Some, None, refl, ap, sym, ◌∙◌, arith, append_assoc, append-nil}
use Rattle.std.proofs.lemmas.Bool.Decides.{nat_tests}
use Rattle.std.proofs.lemmas.Grind.{common_steps}
use Rattle.std.specs.List.{cons_option}
use Rattle.std.specs.Option.{option_to_list}
use Rattle.bay_base.specs.declared.types.ElementaryType.{ElementaryType}
use Rattle.il_text.specs.Listing as text
use Rattle.il_text.specs.Views.{entry_of}
use Rattle.il_text.specs.declared.program.Item.{Item}
use Rattle.il_text.proofs.ListingLemmas.{front-item}
use Rattle.il_check.specs.Faults.{first_fault_of}
use Rattle.il_check.specs.SourceOperands.{ProgramNames}
use Rattle.il_check.specs.Program as plain
use Rattle.il_check.specs.ProgramViews.{entry_view, item_view}
use Rattle.il_check.specs.WalkView.{progress_of}
use Rattle.il_check.specs.WellTyped.{Progress, type_after_entry, type_after_entries, entry_faults, entries_faults, typed_entry_of, typed_entries_of, progress_after_entry, item_faults, items_faults, typed_item_of, typed_items_of}
use Rattle.il_check.specs.declared.walk.Walk.{Walk}
use Rattle.il_check.specs.declared.walk.CheckedEntries.{CheckedEntries}
use Rattle.il_check.specs.declared.typed.TypedEntry.{TypedEntry}
use Rattle.il_check.specs.declared.fault.CheckFault.{CheckFault}
use Rattle.il_check.specs.declared.fault.CheckFault.TheVariants.{TooMany}
use Rattle.il_check.proofs.NotedLemmas.{noted-append, noted-nil, noted-none}

pub nothing-left : {X : Type 0} → (xs : List X) (i : ℕ) → length xs ≤ i → drop i xs ≡ []
nothing-left xs i h = grind (arith, common_steps)

no-room : (room : ℕ) → room ≡ 0 → (room == 0) ≡ true
no-room room e = grind (arith, nat_tests)

some-room : (room : ℕ) → (room ≡ 0 → ⊥) → (room == 0) ≡ false
some-room room ne = grind (arith, nat_tests)

-- the faults of a parenthesis that is too deep, and of one that is not
pub deep-found : (a b d : Option CheckFault) (room line : ℕ) (xs ys : List CheckFault) → room ≡ 0
    → b ≡ first_fault_of a xs → d ≡ first_fault_of b (TooMany line ∷ [])
    → d ≡ first_fault_of a (xs ++ cond (room == 0) (TooMany line ∷ []) ys)
deep-found a b d room line xs ys none e f =
    f ∙ ap (λ (o : Option CheckFault). first_fault_of o (TooMany line ∷ [])) e
    ∙ sym (noted-append a xs (TooMany line ∷ []))
    ∙ ap (λ (t : Bool). first_fault_of a (xs ++ cond t (TooMany line ∷ []) ys))
    (sym (no-room room none))

pub looked-found : (a d : Option CheckFault) (room line : ℕ) (xs ys : List CheckFault)
    → (room ≡ 0 → ⊥) → d ≡ first_fault_of a (xs ++ ys)
    → d ≡ first_fault_of a (xs ++ cond (room == 0) (TooMany line ∷ []) ys)
looked-found a d room line xs ys some e =
    e ∙ ap (λ (t : Bool). first_fault_of a (xs ++ cond t (TooMany line ∷ []) ys))
    (sym (some-room room some))

-- entries before others
abbrev pub ahead : List plain.Entry → plain.Entries → plain.Entries
ahead [] es = es
ahead (x ∷ xs) es = plain.entry x (ahead xs es)

ahead-option : (xs : List plain.Entry) (o : Option plain.Entry) (es : plain.Entries)
    → ahead (xs ++ option_to_list o) es ≡ ahead xs (plain.entry_before o es)
ahead-option [] None es = refl
ahead-option [] (Some e) es = refl
ahead-option (x ∷ xs) o es = ap (plain.entry x) (ahead-option xs o es)

ahead-none : (xs : List plain.Entry) → ahead xs plain.no_entries ≡ plain.entries_of xs
ahead-none [] = refl
ahead-none (x ∷ xs) = ap (plain.entry x) (ahead-none xs)

cons-after : {X : Type 0} → (xs : List X) (o : Option X) (rest : List X)
    → (xs ++ option_to_list o) ++ rest ≡ xs ++ cons_option o rest
cons-after xs None rest = ap (λ ys. ys ++ rest) (append-nil xs)
cons-after xs (Some x) rest = append_assoc xs (x ∷ []) rest

rest_of : List Item → ℕ → text.Entries
rest_of all i = text.entries_of (map entry_of (drop i all))

module _ (names : ProgramNames) (room : ℕ) (is_reached : Bool) (passed : ℕ) (all : List Item)
    (begun : Option CheckFault) where
  entries : text.Entries
  entries = text.entries_of (map entry_of all)

  -- what is known after so many entries
  pub record EntriesSoFar (i : ℕ) (now : Option CheckFault) (p : CheckedEntries) : Type 0 where
    pub kind : type_after_entries names (text.entries_of (map entry_of (drop i all))) p.kind
        ≡ type_after_entries names (text.entries_of (map entry_of all)) None
    pub left : ahead (map entry_view p.entries.items)
        (typed_entries_of names room (text.entries_of (map entry_of (drop i all))) p.kind)
        ≡ typed_entries_of names room (text.entries_of (map entry_of all)) None
    pub found : first_fault_of now (entries_faults names room is_reached passed
        (text.entries_of (map entry_of (drop i all))) p.kind)
        ≡ first_fault_of begun (entries_faults names room is_reached passed
        (text.entries_of (map entry_of all)) None)

  -- what an entry changes
  pub record EntryTaken (e : text.Entry) (old new : Option CheckFault) (p q : CheckedEntries)
      : Type 0 where
    pub kind : q.kind ≡ type_after_entry names e p.kind
    pub left : map entry_view q.entries.items
        ≡ map entry_view p.entries.items ++ option_to_list (typed_entry_of names room e p.kind)
    pub found : new ≡ first_fault_of old (entry_faults names room is_reached passed e p.kind)

  pub entries-none : (p : CheckedEntries) → p.entries.items ≡ [] → p.kind ≡ None
      → EntriesSoFar 0 begun p
  entries-none p nothing unset = record {
    kind = ap (type_after_entries names (text.entries_of (map entry_of all))) unset;
    left =
        ap (λ (es : List TypedEntry). ahead (map entry_view es)
        (typed_entries_of names room (text.entries_of (map entry_of all)) p.kind)) nothing
        ∙ ap (typed_entries_of names room (text.entries_of (map entry_of all))) unset;
    found = ap (λ (k : Option ElementaryType). first_fault_of begun
        (entries_faults names room is_reached passed (text.entries_of (map entry_of all)) k)) unset;
  }

  pub entries-more : (i : ℕ) (x : Item) (old new : Option CheckFault) (p q : CheckedEntries)
      → i < length all → x ≡ get_or all i x
      → EntriesSoFar i old p → EntryTaken (entry_of x) old new p q → EntriesSoFar (i + 1) new q
  entries-more i x old new p q within is known taken =
      let after : text.Entries = text.entries_of (map entry_of (drop (i + 1) all)) in
      let left : text.entries_of (map entry_of (drop i all)) ≡ text.entry (entry_of x) after =
      ap (λ (xs : List Item). text.entries_of (map entry_of xs)) (front-item all i x within is)
      in
      record {
        kind =
            ap (type_after_entries names after) taken.kind
            ∙ ap (λ (es : text.Entries). type_after_entries names es p.kind) (sym left)
            ∙ known.kind;
        left =
            ap (λ (k : Option ElementaryType). ahead (map entry_view q.entries.items)
            (typed_entries_of names room after k)) taken.kind
            ∙ ap (λ (es : List plain.Entry). ahead es
            (typed_entries_of names room after (type_after_entry names (entry_of x) p.kind)))
            taken.left
            ∙ ahead-option (map entry_view p.entries.items)
            (typed_entry_of names room (entry_of x) p.kind)
            (typed_entries_of names room after (type_after_entry names (entry_of x) p.kind))
            ∙ ap (λ (es : text.Entries). ahead (map entry_view p.entries.items)
            (typed_entries_of names room es p.kind)) (sym left)
            ∙ known.left;
        found =
            ap (λ (k : Option ElementaryType). first_fault_of new
            (entries_faults names room is_reached passed after k)) taken.kind
            ∙ ap (λ (o : Option CheckFault). first_fault_of o
            (entries_faults names room is_reached passed after
            (type_after_entry names (entry_of x) p.kind))) taken.found
            ∙ sym (noted-append old (entry_faults names room is_reached passed (entry_of x) p.kind)
            (entries_faults names room is_reached passed after
            (type_after_entry names (entry_of x) p.kind)))
            ∙ ap (λ (es : text.Entries). first_fault_of old
            (entries_faults names room is_reached passed es p.kind)) (sym left)
            ∙ known.found;
      }

  -- after all entries
  pub entries-kind : (i : ℕ) (found : Option CheckFault) (p : CheckedEntries) → length all ≤ i
      → EntriesSoFar i found p
      → p.kind ≡ type_after_entries names (text.entries_of (map entry_of all)) None
  entries-kind i found p within known =
      ap (λ (xs : List Item). type_after_entries names (text.entries_of (map entry_of xs)) p.kind)
      (sym (nothing-left all i within)) ∙ known.kind

  pub entries-left : (i : ℕ) (found : Option CheckFault) (p : CheckedEntries) → length all ≤ i
      → EntriesSoFar i found p
      → plain.entries_of (map entry_view p.entries.items)
      ≡ typed_entries_of names room (text.entries_of (map entry_of all)) None
  entries-left i found p within known =
      sym (ahead-none (map entry_view p.entries.items))
      ∙ ap (λ (xs : List Item). ahead (map entry_view p.entries.items)
      (typed_entries_of names room (text.entries_of (map entry_of xs)) p.kind))
      (sym (nothing-left all i within))
      ∙ known.left

  pub entries-found : (i : ℕ) (found : Option CheckFault) (p : CheckedEntries) → length all ≤ i
      → EntriesSoFar i found p
      → found ≡ first_fault_of begun (entries_faults names room is_reached passed
      (text.entries_of (map entry_of all)) None)
  entries-found i found p within known =
      sym (noted-nil found)
      ∙ ap (λ (xs : List Item). first_fault_of found
      (entries_faults names room is_reached passed (text.entries_of (map entry_of xs)) p.kind))
      (sym (nothing-left all i within))
      ∙ known.found

module _ (names : ProgramNames) (all : List Item) (begun : Option CheckFault) (start : Progress)
  where
    -- what is known after so many items; what is left of them is, as long as no fault is found
    pub record ItemsSoFar (i : ℕ) (now : Option CheckFault) (w : Walk) : Type 0 where
      pub left : now ≡ None → map item_view w.items.items
          ++ typed_items_of names (map entry_of (drop i all)) (progress_of w)
          ≡ typed_items_of names (map entry_of all) start
      pub found : first_fault_of now
          (items_faults names (map entry_of (drop i all)) (progress_of w))
          ≡ first_fault_of begun (items_faults names (map entry_of all) start)
      pub few : w.passed ≤ i

    pub record ItemTaken (e : text.Entry) (old new : Option CheckFault) (v w : Walk) : Type 0 where
      pub progress : progress_of w ≡ progress_after_entry names e (progress_of v)
      pub left : new ≡ None → map item_view w.items.items
          ≡ map item_view v.items.items
          ++ option_to_list (typed_item_of names e (progress_of v))
      pub found : new ≡ first_fault_of old (item_faults names e (progress_of v))

    few-more : (e : text.Entry) (s : Progress)
        → (progress_after_entry names e s).passed ≤ s.passed + 1
    few-more (text.label line name) s = omega arith
    few-more (text.action line a) s = omega arith
    few-more (text.block line operator negated items end) s = omega arith

    pub items-more : (i : ℕ) (x : Item) (old new : Option CheckFault) (v w : Walk) → i < length all
        → x ≡ get_or all i x
        → ItemsSoFar i old v → ItemTaken (entry_of x) old new v w → ItemsSoFar (i + 1) new w
    items-more i x old new v w within is known taken =
        let after : List text.Entry = map entry_of (drop (i + 1) all) in
        let left : map entry_of (drop i all) ≡ entry_of x ∷ after =
        ap (map entry_of) (front-item all i x within is) in
        let s : Progress = progress_after_entry names (entry_of x) (progress_of v) in
        record {
          left = λ (none : new ≡ None).
              ap (λ (t : Progress). map item_view w.items.items
              ++ typed_items_of names after t)
              taken.progress
              ∙ ap (λ (xs : List plain.ProgramItem). xs ++ typed_items_of names after s)
              (taken.left none)
              ∙ cons-after (map item_view v.items.items)
              (typed_item_of names (entry_of x) (progress_of v))
              (typed_items_of names after s)
              ∙ ap (λ (es : List text.Entry). map item_view v.items.items
              ++ typed_items_of names es (progress_of v)) (sym left)
              ∙ known.left (noted-none old (item_faults names (entry_of x) (progress_of v))
              (sym taken.found ∙ none));
          found =
              ap (λ (t : Progress). first_fault_of new (items_faults names after t)) taken.progress
              ∙ ap (λ (o : Option CheckFault). first_fault_of o (items_faults names after s))
              taken.found
              ∙ sym (noted-append old (item_faults names (entry_of x) (progress_of v))
              (items_faults names after s))
              ∙ ap (λ (es : List text.Entry). first_fault_of old
              (items_faults names es (progress_of v)))
              (sym left)
              ∙ known.found;
          few =
              let e : w.passed ≡ s.passed = ap (λ (t : Progress). t.passed) taken.progress in
              let f : s.passed ≤ v.passed + 1 = few-more (entry_of x) (progress_of v) in
              let g : v.passed ≤ i = known.few in
              omega arith;
        }

    pub items-left : (i : ℕ) (found : Option CheckFault) (w : Walk) → length all ≤ i
        → ItemsSoFar i found w → found ≡ None
        → map item_view w.items.items ≡ typed_items_of names (map entry_of all) start
    items-left i found w within known none =
        sym (append-nil (map item_view w.items.items))
        ∙ ap (λ (xs : List Item). map item_view w.items.items
        ++ typed_items_of names (map entry_of xs) (progress_of w))
        (sym (nothing-left all i within))
        ∙ known.left none

    pub items-found : (i : ℕ) (found : Option CheckFault) (w : Walk) → length all ≤ i
        → ItemsSoFar i found w → found
        ≡ first_fault_of begun (items_faults names (map entry_of all) start)
    items-found i found w within known =
        sym (noted-nil found)
        ∙ ap (λ (xs : List Item). first_fault_of found
        (items_faults names (map entry_of xs) (progress_of w)))
        (sym (nothing-left all i within))
        ∙ known.found
