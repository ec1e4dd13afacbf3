-- What is left of a right program has the types of the language's tables.
use Rattle.std.proofs.Common.{◌≡◌, ◌⊎◌, ℕ, suc, ◌-◌, ◌≤◌, ℤ, Bool as Truth, true, false, not, cond, is_some, List, [], ◌∷◌, length, inl, inr, Option, Some, None, option_map, Ok, refl, sym, ap, subst, ◌∙◌, arith}
use Rattle.std.specs.List.{cons_option, list_all}
use Rattle.std.specs.Prelude.{◌==◌}
use Rattle.std.proofs.lemmas.Bool.{and_parts}
use Rattle.bay_base.specs.Exact.{unless_refused}
use Rattle.bay_base.specs.declared.types.ElementaryType.{ElementaryType}
use Rattle.bay_base.specs.declared.types.ElementaryType.TheVariants as elementary
use Rattle.bay_base.specs.declared.point.Point.{Point}
use Rattle.il_text.specs.Grammar.{is_outer}
use Rattle.il_text.specs.Listing as text
use Rattle.il_text.specs.declared.program.Condition.{Condition}
use Rattle.il_text.specs.declared.program.Condition.TheVariants.{Always, IfTrue, IfFalse}
use Rattle.il_text.specs.declared.program.Conversion.{Conversion}
use Rattle.il_text.specs.declared.program.Input.{Input}
use Rattle.il_text.specs.declared.program.Literal.TheVariants as literal
use Rattle.il_text.specs.declared.program.Operator.{Operator}
use Rattle.il_text.specs.declared.program.StoreKind.{StoreKind}
use Rattle.il_text.specs.declared.program.StoreKind.TheVariants as store
use Rattle.il_image.specs.Values.{type_of, value_of}
use Rattle.il_image.specs.declared.value.Value.{Value}
use Rattle.il_image.proofs.ValueLemmas.{value_is}
use Rattle.il_check.specs.Checking.{checked_of, checked_program, faults_of, initial_progress}
use Rattle.il_check.specs.Declaring.{names_in}
use Rattle.il_check.specs.Faults.{least_fault}
use Rattle.il_check.specs.SourceOperands.{ProgramNames, resolution_of}
use Rattle.il_check.specs.Keeping.{AreArgumentsOf, AreEntriesOf, AreItemsOf, IsArgumentOf, IsEntryOf, IsOperandOf, IsOperationOf, IsTransferOf, Preserves, label_names}
use Rattle.il_check.specs.Labelling.{FlowState, Labelling, initial_flow, flow_after_label}
use Rattle.il_check.specs.Program.{Checked, Entries, Entry, ProgramItem, block, entry, entry_before, label, no_entries, operation, plain, transfer}
use Rattle.il_check.specs.Rules.{converted_from, converted_to, type_of_result, input_type, is_plain, load_type, may_negate, typed_number, own_type, accepts_type, works}
use Rattle.il_check.specs.TypedProgram.{AreArguments, AreEntries, AreItems, TestsBool, IsArgument, IsEntry, IsOperand, IsOperation, IsTransfer, IsTyped, flow_after_entry, flow_after_transfer}
use Rattle.il_check.specs.Typing.{typed_block, typed_load, load_operation, typed_operation, or_entry, typed_transfer}
use Rattle.il_check.specs.WellTyped.{Progress, progress_after_entry, typed_entries_of, typed_entry_of, typed_item_of, typed_items_of, type_after_entry}
use Rattle.il_check.specs.declared.fault.CheckFault.{CheckFault}
use Rattle.il_check.specs.declared.source_operand.SourceOperand.TheVariants.{Misused, Number}
use Rattle.il_check.specs.declared.typed.SimpleOperation.{SimpleOperation}
use Rattle.il_check.specs.declared.typed.SimpleOperation.TheVariants as op
use Rattle.il_check.specs.declared.typed.Transfer.{Transfer}
use Rattle.il_check.specs.declared.typed.Transfer.TheVariants as go
use Rattle.il_check.specs.declared.typed.TypedArgument.{TypedArgument}
use Rattle.il_check.specs.declared.typed.TypedArguments.{TypedArguments}
use Rattle.il_check.specs.declared.typed.TypedArguments.TheVariants as arguments
use Rattle.il_check.specs.declared.typed.TypedOperand.{TypedOperand}
use Rattle.il_check.specs.declared.typed.TypedOperand.TheVariants as operand
use Rattle.il_check.proofs.KeepingLemmas.{keeps}
use Rattle.il_check.proofs.TypedLemmas.{typed-of}
use Rattle.il_check.specs.Limits.{most_nested}
use Rattle.il_check.specs.Operators.{result_type}
use Rattle.il_standard_laws.specs.Table.{IsFirstFit, MayNegate, Stores, Tests}
use Rattle.il_standard_laws.specs.TypedText.{ArgumentHasType, ArgumentsHaveTypes, EntriesHaveTypes, EntryHasTypes, HasTypes, IsLoadedAs, ItemsHaveTypes, TextAllowsType, OperationHasTypes, TransferHasTypes, operand_type}
use Rattle.il_standard_laws.proofs.NumberLemmas.{has-value, own-first}
use Rattle.il_standard_laws.proofs.TableLemmas.{negation, row}

-- ---- the type of a number without a type

number-typed : (kind : ElementaryType) (z : ℤ) (v : Value) → typed_number kind z ≡ Some v
    → type_of v ≡ kind
number-typed elementary.Bool z v e = (value_is elementary.Bool z v e).type
number-typed elementary.Int z v e = (value_is elementary.Int z v e).type
number-typed elementary.Dint z v e = (value_is elementary.Dint z v e).type
number-typed elementary.Lint z v e = (value_is elementary.Lint z v e).type
number-typed elementary.Time z v e = absurd (cc)

-- ---- loads of numbers without a type, in what is left of each entry

-- A number without a type has the first type that it fits.
abbrev OwnOperand : text.OperandData → TypedOperand → Type 0
OwnOperand (text.constant (literal.Number z)) (operand.Literal v) = IsFirstFit z (type_of v)
OwnOperand source x = Unit {0}

abbrev OwnLoad : text.Action → SimpleOperation → Type 0
OwnLoad (text.load negated source) (op.Load n x) = OwnOperand source x
OwnLoad a o = Unit {0}

-- what is left of entries, of some of which nothing may be left
abbrev mutual
  EntryLoads : text.Entry → Entry → Type 0
  EntryLoads (text.action line a) (operation o) = OwnLoad a o
  EntryLoads (text.block line operator negated items end) (block o kind n es) = Loads items es
  EntryLoads e x = Unit {0}

  Loads : text.Entries → Entries → Type 0
  Loads text.no_entries no_entries = Unit {0}
  Loads text.no_entries (entry x xs) = ⊥
  Loads (text.entry e es) no_entries = Unit {0}
  Loads (text.entry e es) (entry x xs) = (EntryLoads e x × Loads es xs) ⊎ Loads es (entry x xs)

abbrev ItemLoads : text.Entry → ProgramItem → Type 0
ItemLoads e (plain x) = EntryLoads e x
ItemLoads e (label n) = Unit {0}
ItemLoads e (transfer x) = Unit {0}

abbrev ItemsLoad : List text.Entry → List ProgramItem → Type 0
ItemsLoad [] [] = Unit {0}
ItemsLoad [] (x ∷ xs) = ⊥
ItemsLoad (e ∷ es) [] = Unit {0}
ItemsLoad (e ∷ es) (x ∷ xs) = (ItemLoads e x × ItemsLoad es xs) ⊎ ItemsLoad es (x ∷ xs)

number-load : (negated : Truth) (z : ℤ) (kind : ElementaryType) (m : Option Value)
    (o : SimpleOperation) → typed_number kind z ≡ m → IsFirstFit z kind
    → load_operation negated (option_map (λ v. operand.Literal v) m) ≡ Some o
    → OwnLoad (text.load negated (text.constant (literal.Number z))) o
number-load negated z kind None o is h e = absurd (cc)
number-load negated z kind (Some v) o is h e =
    let same : op.Load negated (operand.Literal v) ≡ o = cc in
    subst (OwnLoad (text.load negated (text.constant (literal.Number z)))) same
    (subst (IsFirstFit z) (sym (number-typed kind z v is)) h)

number-case : (negated : Truth) (z : ℤ) (b : Truth) (o : SimpleOperation)
    → is_some (value_of elementary.Lint z) ≡ b
    → typed_load negated (cond b (Number z) Misused) (load_type (cond b (Number z) Misused))
    ≡ Some o
    → OwnLoad (text.load negated (text.constant (literal.Number z))) o
number-case negated z true o is e =
    number-load negated z (own_type z) (typed_number (own_type z) z) o refl
    (own-first z ((has-value elementary.Lint z).0 is)) e
number-case negated z false o is e = absurd (cc)

module _ (names : ProgramNames) where
  operation-loads : (a : text.Action) (t : Option ElementaryType) (o : SimpleOperation)
      → typed_operation (resolution_of names a) t ≡ Some o → OwnLoad a o
  operation-loads (text.load negated (text.constant (literal.Number z))) t o e =
      number-case negated z (is_some (value_of elementary.Lint z)) o refl e
  operation-loads a t (op.Load n (operand.Literal v)) e = tt
  operation-loads a t (op.Load n (operand.Slot s)) e = tt
  operation-loads a t (op.Load n (operand.TimerOutput n2 what)) e = tt
  operation-loads a t o e = tt

  no-loads : (es : text.Entries) → Loads es no_entries
  no-loads text.no_entries = tt
  no-loads (text.entry e es) = tt

  skipped : (e : text.Entry) (es : text.Entries) (xs : Entries) → Loads es xs
      → Loads (text.entry e es) xs
  skipped e es no_entries h = tt
  skipped e es (entry x xs) h = inr h

  action-loads : (line : ℕ) (a : text.Action) (t : Option ElementaryType)
      (o : Option SimpleOperation) (x : Entry) → typed_operation (resolution_of names a) t ≡ o
      → option_map operation o ≡ Some x → EntryLoads (text.action line a) x
  action-loads line a t None x is e = absurd (cc)
  action-loads line a t (Some o) x is e =
      let same : operation o ≡ x = cc in
      subst (EntryLoads (text.action line a)) same (operation-loads a t o is)

  block-loads : (line : ℕ) (operator : Operator) (negated : Truth) (items : text.Entries) (end : ℕ)
      (es : Entries) (t : Option ElementaryType) (x : Entry) → Loads items es
      → typed_block operator negated es t ≡ Some x
      → EntryLoads (text.block line operator negated items end) x
  block-loads line operator negated items end es None x h e = absurd (cc)
  block-loads line operator negated items end es (Some kind) x h e =
      let same : block operator kind negated es ≡ x = cc in
      subst (EntryLoads (text.block line operator negated items end)) same h

  roomy : (items : text.Entries) (b : Truth) (es : Entries) → Loads items es
      → Loads items (cond b no_entries es)
  roomy items true es h = no-loads items
  roomy items false es h = h

  before-loads : (e : text.Entry) (es : text.Entries) (o : Option Entry) (xs : Entries)
      → ((x : Entry) → o ≡ Some x → EntryLoads e x) → Loads es xs
      → Loads (text.entry e es) (entry_before o xs)
  before-loads e es None xs h more = skipped e es xs more
  before-loads e es (Some x) xs h more = inl (h x refl, more)

  mutual
    entry-loads : (room : ℕ) (e : text.Entry) (t : Option ElementaryType) (x : Entry)
        → typed_entry_of names room e t ≡ Some x → EntryLoads e x
    entry-loads room (text.label line name) t x e = absurd (cc)
    entry-loads room (text.action line a) t x e =
        action-loads line a t (typed_operation (resolution_of names a) t) x refl e
    entry-loads room (text.block line operator negated items end) t x e =
        block-loads line operator negated items end _ t x
        (roomy items (room == 0) _ (entries-load (room - 1) items None)) e

    entries-load : (room : ℕ) (es : text.Entries) (t : Option ElementaryType)
        → Loads es (typed_entries_of names room es t)
    entries-load room text.no_entries t = tt
    entries-load room (text.entry e es) t =
        before-loads e es (typed_entry_of names room e t) _ (entry-loads room e t)
        (entries-load room es (type_after_entry names e t))

  -- ---- items

  item-skipped : (e : text.Entry) (es : List text.Entry) (xs : List ProgramItem) → ItemsLoad es xs
      → ItemsLoad (e ∷ es) xs
  item-skipped e es [] h = tt
  item-skipped e es (x ∷ xs) h = inr h

  item-before : (e : text.Entry) (es : List text.Entry) (o : Option ProgramItem)
      (xs : List ProgramItem)
      → ((x : ProgramItem) → o ≡ Some x → ItemLoads e x) → ItemsLoad es xs
      → ItemsLoad (e ∷ es) (cons_option o xs)
  item-before e es None xs h more = item-skipped e es xs more
  item-before e es (Some x) xs h more = inl (h x refl, more)

  plain-loads : (e : text.Entry) (o : Option Entry) (x : ProgramItem)
      → ((y : Entry) → o ≡ Some y → EntryLoads e y) → option_map plain o ≡ Some x → ItemLoads e x
  plain-loads e None x h is = absurd (cc)
  plain-loads e (Some y) x h is =
      let same : plain y ≡ x = cc in subst (ItemLoads e) same (h y refl)

  either-loads : (e : text.Entry) (m : Option Transfer) (o : Option Entry) (x : ProgramItem)
      → ((y : Entry) → o ≡ Some y → EntryLoads e y) → or_entry m o ≡ Some x → ItemLoads e x
  either-loads e None o x h is = plain-loads e o x h is
  either-loads e (Some m) o x h is =
      let same : transfer m ≡ x = cc in subst (ItemLoads e) same tt

  item-loads : (e : text.Entry) (s : Progress) (x : ProgramItem)
      → typed_item_of names e s ≡ Some x
      → ItemLoads e x
  item-loads (text.label line name) s x is =
      let same : label s.passed ≡ x = cc in subst (ItemLoads (text.label line name)) same tt
  item-loads (text.action line a) s x is =
      either-loads (text.action line a) (typed_transfer (resolution_of names a)) _ x
      (λ y at. action-loads line a s.now.kind (typed_operation (resolution_of names a) s.now.kind) y
      refl at) is
  item-loads (text.block line operator negated items end) s x is =
      plain-loads (text.block line operator negated items end) _ x
      (entry-loads most_nested (text.block line operator negated items end) s.now.kind) is

  items-load : (es : List text.Entry) (s : Progress)
      → ItemsLoad es (typed_items_of names es s)
  items-load [] s = tt
  items-load (e ∷ es) s =
      item-before e es (typed_item_of names e s) _ (item-loads e s)
      (items-load es (progress_after_entry names e s))

-- ---- as many are left as there are

abbrev count : text.Entries → ℕ
count text.no_entries = 0
count (text.entry e es) = suc (count es)

abbrev count_left : Entries → ℕ
count_left no_entries = 0
count_left (entry x xs) = suc (count_left xs)

at-most : (es : text.Entries) (xs : Entries) → Loads es xs → count_left xs ≤ count es
at-most text.no_entries no_entries h = omega arith
at-most text.no_entries (entry x xs) h = absurd h
at-most (text.entry e es) no_entries h = omega arith
at-most (text.entry e es) (entry x xs) (inl h) =
    let k : count_left xs ≤ count es = at-most es xs h.1 in omega arith
at-most (text.entry e es) (entry x xs) (inr h) =
    let k : suc (count_left xs) ≤ count es = at-most es (entry x xs) h in omega arith

items-at-most : (es : List text.Entry) (xs : List ProgramItem) → ItemsLoad es xs
    → length xs ≤ length es
items-at-most [] [] h = omega arith
items-at-most [] (x ∷ xs) h = absurd h
items-at-most (e ∷ es) [] h = omega arith
items-at-most (e ∷ es) (x ∷ xs) (inl h) =
    let k : length xs ≤ length es = items-at-most es xs h.1 in omega arith
items-at-most (e ∷ es) (x ∷ xs) (inr h) =
    let k : suc (length xs) ≤ length es = items-at-most es (x ∷ xs) h in omega arith

-- ---- rules and tables

stored-right : (how : StoreKind) (kind : ElementaryType)
    → may_negate (not (is_plain how)) kind ≡ true
    → Stores how kind kind
stored-right store.Plain kind e = refl
stored-right store.Negated kind e = let b = (negation true kind).0 e in (b, b)
stored-right store.Set kind e = let b = (negation true kind).0 e in (b, b)
stored-right store.Reset kind e = let b = (negation true kind).0 e in (b, b)

tested-right : (condition : Condition) (t : Option ElementaryType) → TestsBool condition t
    → Tests condition t
tested-right Always t h = h
tested-right IfTrue t h = h
tested-right IfFalse t h = h

module _ (c : Checked) where
  operand-typed : (x : TypedOperand) (kind : ElementaryType) → IsOperand c x kind
      → operand_type c x ≡ Some kind
  operand-typed (operand.Literal v) kind h = ap Some h.1
  operand-typed (operand.Slot s) kind h = h
  operand-typed (operand.TimerOutput n what) kind h = ap Some h.1

  may-have : (source : text.OperandData) (x : TypedOperand) (kind : ElementaryType)
      → IsOperandOf c source x → operand_type c x ≡ Some kind → TextAllowsType source kind
  may-have (text.variable place) x kind h e = tt
  may-have (text.constant (literal.Truth b)) (operand.Literal v) kind h e =
      let t = ap type_of h in cc
  may-have (text.constant (literal.Number z)) x kind h e = tt
  may-have (text.constant (literal.Int z)) (operand.Literal v) kind h e = let t = h.0 in cc
  may-have (text.constant (literal.Dint z)) (operand.Literal v) kind h e = let t = h.0 in cc
  may-have (text.constant (literal.Lint z)) (operand.Literal v) kind h e = let t = h.0 in cc
  may-have (text.constant (literal.Time n)) (operand.Literal v) kind h e = let t = h.0 in cc
  may-have source x kind h e = absurd h

  loaded-as : (source : text.OperandData) (x : TypedOperand) (kind : ElementaryType)
      → IsOperandOf c source x → operand_type c x ≡ Some kind → OwnOperand source x
      → IsLoadedAs source kind
  loaded-as (text.constant (literal.Number z)) (operand.Literal v) kind h e own =
      let same : type_of v ≡ kind = cc in subst (IsFirstFit z) same own
  loaded-as (text.constant (literal.Number z)) (operand.Slot s) kind h e own = absurd h
  loaded-as (text.constant (literal.Number z)) (operand.TimerOutput n what) kind h e own = absurd h
  loaded-as (text.constant (literal.Truth b)) x kind h e own =
      may-have (text.constant (literal.Truth b)) x kind h e
  loaded-as (text.constant (literal.Int z)) x kind h e own =
      may-have (text.constant (literal.Int z)) x kind h e
  loaded-as (text.constant (literal.Dint z)) x kind h e own =
      may-have (text.constant (literal.Dint z)) x kind h e
  loaded-as (text.constant (literal.Lint z)) x kind h e own =
      may-have (text.constant (literal.Lint z)) x kind h e
  loaded-as (text.constant (literal.Time n)) x kind h e own =
      may-have (text.constant (literal.Time n)) x kind h e
  loaded-as (text.variable place) x kind h e own = tt

  -- ---- operations and parentheses

  -- an operator that works has its row, and may negate its operand
  working : (o operator : Operator) (n negated : Truth) (kind : ElementaryType) → o ≡ operator
      → n ≡ negated → works o n kind ≡ true
      → MayNegate negated kind × (result_type operator kind kind ≡ Some (type_of_result o kind))
  working o operator n negated kind same alike e =
      let both = and_parts (accepts_type o kind) (may_negate n kind) e in (
        subst (λ (m : Truth). MayNegate m kind) alike ((negation n kind).0 both.1),
        subst (λ (p : Operator). result_type p kind kind ≡ Some (type_of_result o kind)) same
            (row o kind both.0),
      )

  operation-has : (a : text.Action) (o : SimpleOperation) (t u : Option ElementaryType)
      → IsOperationOf c a o → IsOperation c o t u → OwnLoad a o → OperationHasTypes c a o t u
  operation-has (text.load negated source) (op.Load n x) t u h k own =
      let typed = operand-typed x k.0 k.1 in (
        k.0,
        typed,
        loaded-as source x k.0 h.1 typed own,
        subst (λ (m : Truth). MayNegate m k.0) h.0 ((negation n k.0).0 k.2),
        k.3,
      )
  operation-has (text.store how place) (op.Store w s) t u h k own = (
    k.0,
    k.0,
    k.4,
    k.1,
    subst (λ (x : StoreKind). Stores x k.0 k.0) h.0 (stored-right w k.0 k.3),
    k.5,
  )
  operation-has (text.combine operator negated source) (op.Combine o kind n x) t u h k own =
      let typed = operand-typed x kind k.0 in
      let w = working o operator n negated kind h.0 h.1 k.1 in
      (kind, type_of_result o kind, k.3, (typed, may-have source x kind h.2 typed), w.0, w.1, k.4)
  operation-has text.invert op.Not t u h k own = (k.0, k.1 ∙ k.0)
  operation-has (text.convert conversion) (op.Convert w) t u h k own = (
    k.0 ∙ ap (λ (v : Conversion). Some (converted_from v)) h,
    k.1 ∙ ap (λ (v : Conversion). Some (converted_to v)) h,
  )
  operation-has a o t u h k own = absurd h

  same-count : (es : text.Entries) (xs : Entries) → AreEntriesOf c es xs
      → count_left xs ≡ count es
  same-count text.no_entries no_entries h = refl
  same-count (text.entry e es) (entry x xs) h = ap suc (same-count es xs h.1)
  same-count es xs h = absurd h

  mutual
    entry-has : (e : text.Entry) (x : Entry) (t u : Option ElementaryType) → IsEntryOf c e x
        → IsEntry c x t u → EntryLoads e x → EntryHasTypes c e x t u
    entry-has (text.action line a) (operation o) t u h k own = operation-has a o t u h k own
    entry-has (text.block line operator negated items end) (block o kind n es) t u h k own =
        let w = working o operator n negated kind h.0 h.1 k.1 in (
          kind,
          type_of_result o kind,
          k.3,
          entries-have items es None (Some kind) h.2 k.0 own,
          w.0,
          w.1,
          k.4,
        )
    entry-has e x t u h k own = absurd h

    entries-have : (es : text.Entries) (xs : Entries) (t u : Option ElementaryType)
        → AreEntriesOf c es xs → AreEntries c xs t u → Loads es xs → EntriesHaveTypes c es xs t u
    entries-have text.no_entries no_entries t u h k own = k
    entries-have (text.entry e es) (entry x xs) t u h k (inl own) =
        (k.0, entry-has e x t k.0 h.0 k.1 own.0, entries-have es xs k.0 u h.1 k.2 own.1)
    entries-have (text.entry e es) (entry x xs) t u h k (inr skip) =
        let more : suc (count_left xs) ≤ count es = at-most es (entry x xs) skip in
        let same = same-count es xs h.1 in
        absurd (omega arith)
    entries-have es xs t u h k own = absurd h

  -- ---- jumps, returns and calls

  argument-has : (a : Input × text.OperandData) (x : TypedArgument) → IsArgumentOf c a x
      → IsArgument c x → ArgumentHasType c a x
  argument-has a x h k =
      let typed : operand_type c x.operand ≡ Some (input_type a.0) =
      operand-typed x.operand (input_type x.input) k
      ∙ ap Some (ap input_type h.0) in
      (typed, may-have a.1 x.operand (input_type a.0) h.1 typed)

  arguments-have : (args : List (Input × text.OperandData)) (xs : TypedArguments)
      → AreArgumentsOf c args xs → AreArguments c xs → ArgumentsHaveTypes c args xs
  arguments-have [] arguments.None h k = tt
  arguments-have (a ∷ []) (arguments.One x) h k = argument-has a x h k
  arguments-have (a ∷ b ∷ more) (arguments.Two x y) h k =
      (argument-has a x h.0 k.0, argument-has b y h.1 k.1)
  arguments-have args xs h k = absurd h

  transfer-has : (names : List (List ℕ)) (below : List ProgramItem) (a : text.Action) (x : Transfer)
      (t : Option ElementaryType) → IsTransferOf c names a x → IsTransfer c below x t
      → TransferHasTypes c a x t
  transfer-has names below (text.jump condition name) (go.Jump k n) t h w =
      subst (λ (y : Condition). Tests y t) h.0 (tested-right k t w.0)
  transfer-has names below (text.leave condition) (go.Return k) t h w =
      subst (λ (y : Condition). Tests y t) h (tested-right k t w)
  transfer-has names below (text.call timer args) (go.Call n xs) t h w =
      arguments-have args xs h.1 w.1
  transfer-has names below a x t h w = absurd h

  -- ---- the items

  same-length : (names : List (List ℕ)) (es : List text.Entry) (xs : List ProgramItem)
      → AreItemsOf c names es xs → length xs ≡ length es
  same-length names [] [] h = refl
  same-length names (e ∷ es) (x ∷ xs) h = ap suc (same-length names es xs h.1)
  same-length names es xs h = absurd h

  items-have : (names : List (List ℕ)) (labels : Labelling) (es : List text.Entry)
      (xs : List ProgramItem)
      (k : FlowState) → AreItemsOf c names es xs → AreItems c labels xs k → ItemsLoad es xs
      → ItemsHaveTypes c labels es xs k
  items-have names labels [] [] k h w own = tt
  items-have names labels (e ∷ es) (x ∷ xs) k h w (inr skip) =
      let more : suc (length xs) ≤ length es = items-at-most es (x ∷ xs) skip in
      let same = same-length names es xs h.1 in
      absurd (omega arith)
  items-have names labels (text.label line name ∷ es) (label n ∷ xs) k h w (inl own) =
      (w.0.2, items-have names labels es xs (flow_after_label labels k) h.1 w.1 own.1)
  items-have names labels (text.action line a ∷ es) (transfer x ∷ xs) k h w (inl own) = (
    w.0,
    w.1.0,
    transfer-has names xs a x w.0 h.0 w.1.1,
    w.1.2,
    items-have names labels es xs (flow_after_transfer x w.0 k) h.1 w.2 own.1,
  )
  items-have names labels (e ∷ es) (plain x ∷ xs) k h w (inl own) = (
    w.0,
    w.1,
    w.2.0,
    entry-has e x w.0 w.1 h.0 w.2.1 own.0,
    items-have names labels es xs (flow_after_entry w.1 k) h.1 w.3 own.1,
  )
  items-have names labels (e ∷ es) (x ∷ xs) k h w (inl own) = absurd h.0
  items-have names labels es xs k h w own = absurd h

-- ---- a program

left-of : (o : Option CheckFault) (d c : Checked) → unless_refused o d ≡ Ok c → d ≡ c
left-of None d c e = cc
left-of (Some f) d c e = absurd (cc)

pub has-types : (points : List Point) (program : text.PlainProgram) (c : Checked)
    → checked_of points program ≡ Ok c → list_all is_outer program.items ≡ true
    → HasTypes program c
has-types points program c e may =
    let kept : Preserves points program c = keeps points program c e may in
    let typed : IsTyped c = typed-of points program c e in
    let left = left-of (least_fault (faults_of points program)) (checked_program points program) c e
    in
    let loads : ItemsLoad program.items c.items =
    subst (λ (d : Checked). ItemsLoad program.items d.items) left
    (items-load (names_in points program) program.items (initial_progress program)) in
    record {
      labels = typed.labels;
      items = items-have c (label_names program.items) typed.labels program.items c.items
          initial_flow
          kept.items typed.items loads;
    }
