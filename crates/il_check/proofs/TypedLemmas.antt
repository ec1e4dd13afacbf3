-- What is left of a program without a fault is well typed.
use Rattle.std.proofs.Common.{◌≡◌, ℕ, zero, suc, ◌+◌, ◌-◌, ◌<◌, ◌≤◌, max, Bool, true, cond, ◌||◌, inl, inr, List, [], ◌∷◌, length, Option, None, Some, Ok, option_map, refl, ap, sym, subst, ◌∙◌, arith}
use Rattle.std.specs.Prelude.{◌==◌}
use Rattle.std.specs.List.{cons_option}
use Rattle.std.proofs.lemmas.Bool.{and_parts, cases_eq, not-false}
use Rattle.bay_base.specs.Exact.{unless_refused}
use Rattle.bay_base.specs.Names.{upper}
use Rattle.bay_base.specs.Types.{same_type}
use Rattle.bay_base.specs.declared.types.ElementaryType.{ElementaryType}
use Rattle.bay_base.specs.declared.point.Point.{Point}
use Rattle.il_text.specs.Listing as text
use Rattle.il_text.specs.declared.program.Operator.{Operator}
use Rattle.il_image.proofs.KindLemmas.{same-is}
use Rattle.il_check.specs.Checking.{initial_progress, faults_of, checked_program, checked_of}
use Rattle.il_check.specs.Declaring.{labels_from, names_in, declarations_faults}
use Rattle.il_check.specs.Faults.{least_fault}
use Rattle.il_check.specs.SourceOperands.{ProgramNames, resolution_of}
use Rattle.il_check.specs.Labelling.{Labelling, IsRight, IsCombined, IsRightEntry, AreRightEntries, Incoming, JumpAgrees, with_target, flow_state, type_after_label, incoming_after_action}
use Rattle.il_check.specs.Program.{Entry, operation, block, Entries, no_entries, entry, ProgramItem, label, transfer, plain, Checked, entry_before}
use Rattle.il_check.specs.Rules as rules
use Rattle.il_check.specs.Rules.{type_of_result, works, type_after}
use Rattle.il_check.specs.TypedProgram.{IsEntry, AreEntries, entry_depth, entries_depth, has_label, incoming_after_transfer, AreItems, IsTyped}
use Rattle.il_check.specs.Typing.{typed_operation, typed_transfer, or_entry, typed_block}
use Rattle.il_check.specs.WellTyped.{Progress, type_after_entry, type_after_entries, items_faults, typed_entry_of, typed_entries_of, typed_item_of, typed_items_of, progress_after_entry, progress_after_action}
use Rattle.il_check.specs.declared.fault.CheckFault.{CheckFault}
use Rattle.il_check.specs.declared.source_operand.Resolved.{Resolved}
use Rattle.il_check.specs.declared.typed.SimpleOperation.{SimpleOperation}
use Rattle.il_check.specs.declared.typed.SimpleOperation.TheVariants as op
use Rattle.il_check.specs.declared.typed.Transfer.{Transfer}
use Rattle.il_check.proofs.DeclaredLemmas.{declares}
use Rattle.il_check.proofs.GivenLemmas.{AreNamed, IsFound, found, named-from, operation-typed, operation-goes-on, left-same}
use Rattle.il_check.proofs.TransferLemmas.{transfer-typed, nothing-left}
use Rattle.il_check.proofs.FaultlessLemmas.{both-none, or-true, no-zero, right-from, entry-reached, entry-from}
use Rattle.il_check.proofs.LabellingLemmas.{least, AreLeast, Exact, exact-now, exact-behind-label, exact-behind-action, exact-behind-block, least-behind-label, jumps-out, flows-from, first-labels}
use Rattle.il_check.proofs.ArrivalLemmas.{same-number, InRange, target-in, target-ahead, Brought, none-arrived, mapped-length}
use Rattle.il_check.proofs.NotedLemmas.{least_fault-none}
use Rattle.il_check.specs.Limits.{most_nested}

-- ---- within a parenthesis

-- an entry that is right where the result is not set is right on any result, and leaves the same
entry-on-any : (c : Checked) (e : Entry) (t w : Option ElementaryType) → IsEntry c e None w
    → IsEntry c e t w
entry-on-any c (operation (op.Load negated x)) t w h = h
entry-on-any c (operation (op.Store how s)) t w h = absurd (let e = h.4 in cc)
entry-on-any c (operation (op.Combine operator kind negated x)) t w h = absurd (let e = h.3 in cc)
entry-on-any c (operation op.Not) t w h = absurd (let e = h.0 in cc)
entry-on-any c (operation (op.Convert conversion)) t w h = absurd (let e = h.0 in cc)
entry-on-any c (block operator kind negated es) t w h = absurd (let e = h.3 in cc)

entries-on-any : (c : Checked) (es : Entries) (t : Option ElementaryType) (k : ElementaryType)
    → AreEntries c es None (Some k) → AreEntries c es t (Some k)
entries-on-any c no_entries t k h = absurd (cc)
entries-on-any c (entry e es) t k h = (h.0, entry-on-any c e t h.0 h.1, h.2)

-- what is left of one instruction, before what is left of others
action-case : (c : Checked) (passed : ℕ) (r : Resolved) (t : Option ElementaryType)
    (k : ElementaryType) (rest : Entries) (o : Option SimpleOperation) → IsFound c r
    → IsRight passed r t
    → AreEntries c rest (type_after r t) (Some k) → typed_operation r t ≡ o
    → AreEntries c (entry_before (option_map operation o) rest) t (Some k)
action-case c passed r t k rest (Some o) is ok more e =
    (type_after r t, operation-typed c passed r t o is ok e, more)
action-case c passed r t k rest None is ok more e = elim (left-same c passed r t is ok e) [
  | inl same ↦ subst (λ (u : Option ElementaryType). AreEntries c rest u (Some k)) same more
  | inr unset ↦ entries-on-any c rest t k
      (subst (λ (u : Option ElementaryType). AreEntries c rest u (Some k)) unset more)
]

-- what is left of a parenthesis
record IsBlock (c : Checked) (o : Option Entry) (t u : Option ElementaryType) : Type 0 where
  what : Entry
  is : o ≡ Some what
  right : IsEntry c what t u

block-typed : (c : Checked) (operator : Operator) (negated : Bool) (inner t : Option ElementaryType)
    (es : Entries) → IsCombined operator negated inner t
    → ((k : ElementaryType) → inner ≡ Some k → AreEntries c es None (Some k))
    → IsBlock c (typed_block operator negated es t) t (option_map (type_of_result operator) t)
block-typed c operator negated None t es ok are = absurd (let e = ok.set in cc)
block-typed c operator negated (Some k) None es ok are = absurd (let e = ok.set in cc)
block-typed c operator negated (Some k) (Some kind) es ok are =
    let both =
    and_parts (works operator negated kind) (same_type k kind) (not-false _ ok.allowed) in
    record {
      what = block operator kind negated es;
      is = refl;
      right = (
        subst (λ (x : ElementaryType). AreEntries c es None (Some x)) (same-is k kind both.1)
            (are k refl),
        both.0,
        ok.nonzero,
        refl,
        refl,
      );
    }

with-room : {A : Type 0} (room : ℕ) (x y : A) → 0 < room → y ≡ cond (room == 0) x y
with-room zero x y some = absurd (omega arith)
with-room (suc room) x y some = sym (ap (λ (b : Bool). cond b x y) (no-zero room))

module _ (c : Checked) (names : ProgramNames) (meant : AreNamed c names) where
  entries-typed : (room passed : ℕ) (es : text.Entries) (t : Option ElementaryType)
      (k : ElementaryType) → AreRightEntries names room passed es t
      → type_after_entries names es t ≡ Some k
      → AreEntries c (typed_entries_of names room es t) t (Some k)
  entries-typed room passed text.no_entries t k ok e = sym e
  entries-typed room passed (text.entry (text.label line name) es) t k ok e =
      entries-typed room passed es t k ok.1 e
  entries-typed room passed (text.entry (text.action line a) es) t k ok e =
      action-case c passed (resolution_of names a) t k
      (typed_entries_of names room es (type_after (resolution_of names a) t))
      (typed_operation (resolution_of names a) t) (found c names meant a) ok.0
      (entries-typed room passed es (type_after (resolution_of names a) t) k ok.1 e) refl
  entries-typed room passed (text.entry (text.block line operator negated items end) es) t k ok e =
      let u = option_map (type_of_result operator) t in
      let inner =
      λ (x : ElementaryType) (is : type_after_entries names items None ≡ Some x). entries-typed
      (room - 1) passed items None x ok.0.1 is in
      let b = block-typed c operator negated (type_after_entries names items None) t
      (typed_entries_of names (room - 1) items None) ok.0.2 inner in
      let left : IsBlock c (typed_entry_of names room (text.block line operator negated items end)
      t) t
      u =
      subst (λ (x : Entries). IsBlock c (typed_block operator negated x t) t u)
      (with-room room no_entries (typed_entries_of names (room - 1) items None) ok.0.0) b in
      subst (λ (o : Option Entry). AreEntries c (entry_before o (typed_entries_of names room es u))
      t
      (Some k)) (sym left.is) (u, left.right, entries-typed room passed es u k ok.1 e)

  block-left : (room passed line : ℕ) (operator : Operator) (negated : Bool) (items : text.Entries)
      (end : ℕ) (t : Option ElementaryType)
      → IsRightEntry names room passed (text.block line operator negated items end) t
      → IsBlock c (typed_entry_of names room (text.block line operator negated items end) t) t
      (option_map (type_of_result operator) t)
  block-left room passed line operator negated items end t ok =
      let inner =
      λ (x : ElementaryType) (is : type_after_entries names items None ≡ Some x). entries-typed
      (room - 1) passed items None x ok.1 is in
      let b = block-typed c operator negated (type_after_entries names items None) t
      (typed_entries_of names (room - 1) items None) ok.2 inner in
      subst (λ (x : Entries). IsBlock c (typed_block operator negated x t) t
      (option_map (type_of_result operator) t))
      (with-room room no_entries (typed_entries_of names (room - 1) items None) ok.0) b

-- ---- how deep parentheses are

abbrev option_depth : Option Entry → ℕ
option_depth None = 0
option_depth (Some e) = entry_depth e

not-deeper : (a b n : ℕ) → a ≤ n → b ≤ n → max a b ≤ n
not-deeper a b n h k = omega arith

before-depth : (o : Option Entry) (es : Entries) (room : ℕ) → option_depth o ≤ room
    → entries_depth es ≤ room → entries_depth (entry_before o es) ≤ room
before-depth None es room h k = k
before-depth (Some e) es room h k = not-deeper (entry_depth e) (entries_depth es) room h k

operation-depth : (o : Option SimpleOperation) (room : ℕ)
    → option_depth (option_map operation o) ≤ room
operation-depth None room = omega arith
operation-depth (Some o) room = omega arith

block-depth : (operator : Operator) (negated : Bool) (es : Entries) (t : Option ElementaryType)
    (room : ℕ) → 0 < room → entries_depth es ≤ room - 1
    → option_depth (typed_block operator negated es t) ≤ room
block-depth operator negated es None room some h = omega arith
block-depth operator negated es (Some kind) room some h = omega arith

mutual
  entry-within : (names : ProgramNames) (room passed : ℕ) (e : text.Entry)
      (t : Option ElementaryType)
      → IsRightEntry names room passed e t → option_depth (typed_entry_of names room e t) ≤ room
  entry-within names room passed (text.label line name) t ok = omega arith
  entry-within names room passed (text.action line a) t ok =
      operation-depth (typed_operation (resolution_of names a) t) room
  entry-within names room passed (text.block line operator negated items end) t ok =
      block-depth operator negated _ t room ok.0
      (subst (λ (es : Entries). entries_depth es ≤ room - 1)
      (with-room room no_entries (typed_entries_of names (room - 1) items None) ok.0)
      (entries-within names (room - 1) passed items None ok.1))

  entries-within : (names : ProgramNames) (room passed : ℕ) (es : text.Entries)
      (t : Option ElementaryType)
      → AreRightEntries names room passed es t
      → entries_depth (typed_entries_of names room es t) ≤ room
  entries-within names room passed text.no_entries t ok = omega arith
  entries-within names room passed (text.entry e es) t ok =
      before-depth (typed_entry_of names room e t)
      (typed_entries_of names room es (type_after_entry names e t))
      room (entry-within names room passed e t ok.0)
      (entries-within names room passed es (type_after_entry names e t) ok.1)

-- ---- labels that stand below

labels-more : (o : Option ProgramItem) (is : List ProgramItem) (n : ℕ) → has_label is n ≡ true
    → has_label (cons_option o is) n ≡ true
labels-more None is n h = h
labels-more (Some (label m)) is n h = ap (λ (b : Bool). (m == n) || b) h ∙ or-true (m == n)
labels-more (Some (transfer x)) is n h = h
labels-more (Some (plain e)) is n h = h

after : (n m : ℕ) → n ≤ m → (m ≡ n → ⊥) → n + 1 ≤ m
after n m le ne = omega (arith, ne)

labels-below : (names : ProgramNames) (es : List text.Entry) (s : Progress) (n : ℕ) → s.passed ≤ n
    → n < s.passed + length (labels_from s.passed es)
    → has_label (typed_items_of names es s) n ≡ true
labels-below names [] s n le lt = absurd (omega arith)
labels-below names (text.label line name ∷ es) s n le lt = elim (cases_eq n s.passed) [
  | inl e ↦ ap (λ (b : Bool). b
      || has_label (typed_items_of names es
      (progress_after_entry names (text.label line name) s)) n)
      (same-number s.passed n (sym e))
  | inr ne ↦ labels-more (Some (label s.passed))
      (typed_items_of names es (progress_after_entry names (text.label line name) s)) n
      (labels-below names es (progress_after_entry names (text.label line name) s) n
      (after s.passed n le ne)
      (omega arith))
]
labels-below names (text.action line a ∷ es) s n le lt =
    labels-more (typed_item_of names (text.action line a) s)
    (typed_items_of names es (progress_after_action (resolution_of names a) s)) n
    (labels-below names es (progress_after_action (resolution_of names a) s) n le lt)
labels-below names (text.block line operator negated items end ∷ es) s n le lt =
    labels-more (typed_item_of names (text.block line operator negated items end) s)
    (typed_items_of names es
    (progress_after_entry names (text.block line operator negated items end) s)) n
    (labels-below names es (progress_after_entry names (text.block line operator negated items end)
    s) n le
    lt)

-- ---- the items

-- what is left of an instruction, before what is left below
item-case : (c : Checked) (labels : Labelling) (passed : ℕ) (named : List ℕ) (now : Incoming)
    (r : Resolved) (t : Option ElementaryType) (is : List ProgramItem) (x : Option Transfer)
    (o : Option SimpleOperation)
    → IsFound c r → IsRight passed r t → now ≡ Some t → JumpAgrees labels (rules.target_of r) t
    → ((n : ℕ) → rules.target_of r ≡ Some n → has_label is n ≡ true)
    → typed_transfer r ≡ x → typed_operation r t ≡ o
    → AreItems c labels is (flow_state passed (with_target (rules.target_of r) named)
    (incoming_after_action r t))
    → AreItems c labels (cons_option (or_entry x (option_map operation o)) is)
    (flow_state passed named now)
item-case c labels passed named now r t is (Some x) o known ok at jumps there goes leaves more =
    let m = transfer-typed c is passed r t x known ok there goes in (
      t,
      (at, m.right, subst (λ (n : Option ℕ). JumpAgrees labels n t) (sym m.target) jumps),
      subst (λ (n : Option ℕ). AreItems c labels is
          (flow_state passed (with_target n named) (incoming_after_transfer x t))) (sym m.target)
          (subst (λ (w : Incoming). AreItems c labels is
          (flow_state passed (with_target (rules.target_of r) named) w)) (sym m.goes) more),
    )
item-case c labels passed named now r t is None (Some o) known ok at jumps there goes leaves more =
    let on = operation-goes-on r t o leaves in (
      t,
      type_after r t,
      (at, operation-typed c passed r t o known ok leaves, omega arith),
      subst (λ (n : Option ℕ). AreItems c labels is
          (flow_state passed (with_target n named) (Some (type_after r t)))) on.0
          (subst (λ (b : Bool). AreItems c labels is
          (flow_state passed (with_target (rules.target_of r) named)
          (cond b (Some (type_after r t)) None))) on.1 more),
    )
item-case c labels passed named now r t is None None known ok at jumps there goes leaves more =
    let on = nothing-left c passed r t known ok goes leaves in
    subst (λ (w : Incoming). AreItems c labels is (flow_state passed named w)) (on.1 ∙ sym at)
    (subst (λ (n : Option ℕ). AreItems c labels is
    (flow_state passed (with_target n named) (incoming_after_action r t))) on.0 more)

block-case : (c : Checked) (labels : Labelling) (passed : ℕ) (named : List ℕ) (now : Incoming)
    (t u : Option ElementaryType) (is : List ProgramItem) (o : Option Entry)
    → now ≡ Some t → option_depth o ≤ most_nested → IsBlock c o t u
    → AreItems c labels is (flow_state passed named (Some u))
    → AreItems c labels (cons_option (option_map plain o) is) (flow_state passed named now)
block-case c labels passed named now t u is o at depth b more =
    let deep : entry_depth b.what ≤ most_nested =
    subst (λ (x : Option Entry). option_depth x ≤ most_nested) b.is depth in
    subst (λ (x : Option Entry). AreItems c labels (cons_option (option_map plain x) is)
    (flow_state passed named now)) (sym b.is) (t, u, (at, b.right, deep), more)

module _ (c : Checked) (names : ProgramNames) (meant : AreNamed c names) (labels : Labelling)
    (count : ℕ)
    (range : InRange names count) where
  items-typed : (es : List text.Entry) (s : Progress) (named : List ℕ) (now : Incoming)
      → AreLeast labels names es s → items_faults names es s ≡ [] → Exact count named s now
      → s.passed + length (labels_from s.passed es) ≡ count
      → AreItems c labels (typed_items_of names es s) (flow_state s.passed named now)
  items-typed [] s named now same none x size = tt
  items-typed (text.label line name ∷ es) s named now same none x size =
      let f = flows-from names labels count range (text.label line name ∷ es) s named now same none
      x in
      let later = (both-none _ _ none).1 in (
        (refl, f.0.1, f.0.2),
        items-typed es (progress_after_entry names (text.label line name) s) named
            (type_after_label labels (flow_state s.passed named now))
            (least-behind-label names labels line name es s same) later
            (exact-behind-label names labels count line name es s named now same x) (omega arith),
      )
  items-typed (text.action line a ∷ es) s named now same none x size =
      let r = resolution_of names a in
      let h = both-none _ _ none in
      let right = right-from s.now.is_reached s.passed line r s.now.kind h.0 in
      let within = λ (n : ℕ) (e : rules.target_of r ≡ Some n). target-in names count a n range e in
      let below = λ (n : ℕ) (e : rules.target_of r ≡ Some n).
      labels-below names es (progress_after_action r s) n
      (target-ahead s.passed r n e right.1.forward)
      (let k : n < count = within n e in omega arith) in
      let jumps =
      jumps-out labels names es count r s named (rules.target_of r) refl right.0 right.1 within
      x.brought same in
      item-case c labels s.passed named now r s.now.kind
      (typed_items_of names es (progress_after_action r s))
      (typed_transfer r) (typed_operation r s.now.kind) (found c names meant a) right.1
      (exact-now count named s now x right.0) jumps below refl refl
      (items-typed es (progress_after_action r s) (with_target (rules.target_of r) named)
      (incoming_after_action r s.now.kind) same h.1
      (exact-behind-action names count range a s named now right.0 x) size)
  items-typed (text.block line operator negated items end ∷ es) s named now same none x size =
      let b = text.block line operator negated items end in
      let h = both-none _ _ none in
      let reached =
      entry-reached names most_nested s.now.is_reached s.passed line operator negated items end
      s.now.kind h.0 in
      let right = entry-from names most_nested s.now.is_reached s.passed b s.now.kind h.0 in
      block-case c labels s.passed named now s.now.kind
      (option_map (type_of_result operator) s.now.kind)
      (typed_items_of names es (progress_after_entry names b s))
      (typed_entry_of names most_nested b s.now.kind)
      (exact-now count named s now x reached)
      (entry-within names most_nested s.passed b s.now.kind right)
      (block-left c names meant most_nested s.passed line operator negated items end s.now.kind
      right)
      (items-typed es (progress_after_entry names b s) named
      (Some (option_map (type_of_result operator) s.now.kind)) same
      h.1 (exact-behind-block names count line operator negated items end s named now reached x)
      size)

-- ---- a program

program-typed : (points : List Point) (program : text.PlainProgram) → faults_of points program ≡ []
    → IsTyped (checked_program points program)
program-typed points program none =
    let c = checked_program points program in
    let names = names_in points program in
    let parts =
    both-none (declarations_faults points [] program.declarations)
    (items_faults names program.items (initial_progress program)) none in
    let are = declares points program.declarations parts.0 in
    let count = length (labels_from 0 program.items) in
    let labels = least names program.items (initial_progress program) in
    let brought : Brought [] (initial_progress program).arrivals count =
    record {
      arrived = none-arrived (labels_from 0 program.items);
      size = mapped-length (labels_from 0 program.items);
    } in
    record {
      slots = are.slots;
      timers = are.timers;
      names = are.names;
      initial = are.initial;
      labels = labels;
      items =
          items-typed c names (λ name m e. named-from c m (are.meant (upper name) m e)) labels count
          (λ name n e. first-labels program.items (upper name) n e)
          program.items (initial_progress program) [] (Some None) (λ n le. refl) parts.1
          (record { is = refl; brought = brought }) (omega arith);
    }

judged-ok : (o : Option CheckFault) (c d : Checked) → unless_refused o c ≡ Ok d
    → (o ≡ None) × (c ≡ d)
judged-ok None c d e = (refl, cc)
judged-ok (Some f) c d e = absurd (cc)

-- what the checks leave is well typed
pub typed-of : (points : List Point) (program : text.PlainProgram) (c : Checked)
    → checked_of points program ≡ Ok c → IsTyped c
typed-of points program c e =
    let h = judged-ok (least_fault (faults_of points program)) (checked_program points program) c e
    in
    subst IsTyped h.1 (program-typed points program
    (least_fault-none (faults_of points program) h.0))
