-- What is left of a right program says what the program says.
use Rattle.std.proofs.Common.{◌≡◌, ℕ, zero, suc, ◌+◌, ◌-◌, ◌<◌, ℤ, Bool, true, false, cond, is_some, is_none, List, [], ◌∷◌, ◌++◌, length, slice_get, Option, None, Some, Ok, option_map, refl, ap, sym, subst, ◌∙◌, arith, append_assoc}
use Rattle.std.proofs.lemmas.Option.{same_Some, cond_some}
use Rattle.std.proofs.lemmas.Bool.{and_parts, not-false}
use Rattle.std.proofs.lemmas.List.{length-append}
use Rattle.std.specs.List.{cons_option, list_all}
use Rattle.std.specs.Prelude.{◌==◌}
use Rattle.bay_base.specs.Exact.{unless_refused}
use Rattle.bay_base.specs.Names.{upper}
use Rattle.bay_base.specs.Types.{same_type}
use Rattle.bay_base.specs.declared.types.ElementaryType.{ElementaryType}
use Rattle.bay_base.specs.declared.types.ElementaryType.TheVariants as elementary
use Rattle.bay_base.specs.declared.point.Point.{Point}
use Rattle.il_text.specs.Grammar.{is_plain, all_inner, is_parenthesis, is_outer}
use Rattle.il_text.specs.Listing as text
use Rattle.il_text.specs.declared.program.Condition.{Condition}
use Rattle.il_text.specs.declared.program.Input.{Input}
use Rattle.il_text.specs.declared.program.Literal.{Literal}
use Rattle.il_text.specs.declared.program.Literal.TheVariants as literal
use Rattle.il_text.specs.declared.program.Operator.{Operator}
use Rattle.il_text.specs.declared.program.TimerOutput.{TimerOutput}
use Rattle.il_text.specs.declared.program.StoreKind.{StoreKind}
use Rattle.il_image.specs.Values.{type_of, value_of}
use Rattle.il_image.specs.declared.value.Value.{Value}
use Rattle.il_image.proofs.ValueLemmas.{value_is}
use Rattle.il_check.specs.Checking.{initial_progress, faults_of, checked_program, checked_of}
use Rattle.il_check.specs.Declaring.{names_in, declarations_faults}
use Rattle.il_check.specs.Faults.{least_fault}
use Rattle.il_check.specs.SourceOperands.{ProgramNames, source_operand, literal_operand, resolve_variable, resolve_output, resolve_variable_or_output, resolve_operand, called_of, resolve_arguments, resolve_argument, resolution_of}
use Rattle.il_check.specs.Keeping.{slot_name, timer_name, label_names, IsValueOf, IsOperandOf, IsTargetOf, IsOperationOf, IsArgumentOf, AreArgumentsOf, IsEntryOf, AreEntriesOf, IsItemOf, AreItemsOf, Preserves}
use Rattle.il_check.specs.Labelling.{IsRight, IsRightEntry, AreRightEntries}
use Rattle.il_check.specs.OwnDeclarations.{MeanOwnDeclarations}
use Rattle.il_check.specs.Program.{Entry, operation, block, Entries, no_entries, ProgramItem, transfer, plain, Checked, entry_before}
use Rattle.il_check.specs.Rules.{typed_operand, typed_number, load_type, input_type, type_after, works, operand_fits, combines_unset}
use Rattle.il_check.specs.Typing.{load_operation, typed_load, target_slot, store_operation, combine_operation, typed_operation, typed_argument, one_argument, two_arguments, typed_arguments, call_with, typed_call, typed_jump, action_entry, or_entry, action_item, typed_block}
use Rattle.il_check.specs.WellTyped.{Progress, type_after_entry, type_after_entries, items_faults, typed_entry_of, typed_entries_of, typed_items_of, progress_after_entry}
use Rattle.il_check.specs.declared.fault.CheckFault.{CheckFault}
use Rattle.il_check.specs.declared.source_operand.Meaning.{Meaning}
use Rattle.il_check.specs.declared.source_operand.Meaning.TheVariants as meaning
use Rattle.il_check.specs.declared.source_operand.SourceOperand.TheVariants.{Misused, Number}
use Rattle.il_check.specs.declared.source_operand.CalledTimer.TheVariants as called
use Rattle.il_check.specs.declared.source_operand.Resolved.TheVariants.{Load, Store, Call}
use Rattle.il_check.specs.declared.typed.External.{External}
use Rattle.il_check.specs.declared.typed.Variable.{Variable}
use Rattle.il_check.specs.declared.typed.Timer.{Timer}
use Rattle.il_check.specs.declared.typed.Slot.{Slot}
use Rattle.il_check.specs.declared.typed.Slot.TheVariants as slot
use Rattle.il_check.specs.declared.typed.TypedOperand.{TypedOperand}
use Rattle.il_check.specs.declared.typed.TypedOperand.TheVariants as operand
use Rattle.il_check.specs.declared.typed.TypedArgument.{TypedArgument}
use Rattle.il_check.specs.declared.typed.TypedArguments.{TypedArguments}
use Rattle.il_check.specs.declared.typed.TypedArguments.TheVariants as typed
use Rattle.il_check.specs.declared.typed.SimpleOperation.{SimpleOperation}
use Rattle.il_check.specs.declared.typed.SimpleOperation.TheVariants as op
use Rattle.il_check.specs.declared.typed.Transfer.TheVariants as go
use Rattle.il_check.proofs.DeclaredLemmas.{number-is}
use Rattle.il_check.proofs.FaultlessLemmas.{both-none, right-from, entry-from, no-zero}
use Rattle.il_check.proofs.GivenLemmas.{AreNamed, found, named-from, allows-any, load-some, combined-some}
use Rattle.il_check.proofs.TransferLemmas.{arguments-some}
use Rattle.il_check.proofs.NotedLemmas.{least_fault-none}
use Rattle.il_check.proofs.OwnLemmas.{mean-own-places}
use Rattle.il_check.proofs.DeclaredLemmas.{declares}
use Rattle.il_check.proofs.DeclarationKeepingLemmas.{of_literal, declared-kept, labels-named, at-middle}
use Rattle.il_check.specs.Limits.{most_nested}

-- ---- what is there

the-some : {A : Type 0} (o : Option A) → is_some o ≡ true → (x : A) × (o ≡ Some x)
the-some None e = absurd (cc)
the-some (Some x) e = (x, refl)

inner-of : (es : text.Entries) → is_parenthesis es ≡ true → all_inner es ≡ true
inner-of text.no_entries e = absurd (cc)
inner-of (text.entry x es) e = (and_parts _ _ e).1

with-room : {A : Type 0} (room : ℕ) (x y : A) → 0 < room → cond (room == 0) x y ≡ y
with-room zero x y some = absurd (omega arith)
with-room (suc room) x y some = ap (λ (b : Bool). cond b x y) (no-zero room)

module _ (c : Checked) (names : ProgramNames) (items : List text.Entry)
    (own : MeanOwnDeclarations names c items) (meant : AreNamed c names) where
  named-slot : (name : List ℕ) (s : Slot) (kind : ElementaryType) (w : Bool)
      → names.meaning name ≡ Some (meaning.Variable s kind w)
      → slot_name c s ≡ Some (upper name)
  named-slot name (slot.External n) kind w e =
      let o = own.own name (meaning.Variable (slot.External n) kind w) e in
      ap (option_map (λ (x : External). x.name)) o.1 ∙ ap Some o.2
  named-slot name (slot.Variable n) kind w e =
      let o = own.own name (meaning.Variable (slot.Variable n) kind w) e in
      ap (option_map (λ (x : Variable). x.name)) o.1 ∙ ap Some o.2

  named-timer : (name : List ℕ) (n : ℕ) → names.meaning name ≡ Some (meaning.Timer n)
      → timer_name c n ≡ Some (upper name)
  named-timer name n e =
      let o = own.own name (meaning.Timer n) e in
      ap (option_map (λ (x : Timer). x.name)) o.1 ∙ ap Some o.2

  -- ---- operands

  known-kept : (l : Literal) (o : Option Value) (kind : ElementaryType) (x : TypedOperand)
      → ((v : Value) → o ≡ Some v → IsValueOf l v) → typed_operand kind (source_operand o) ≡ Some x
      → IsOperandOf c (text.constant l) x
  known-kept l None kind x is e = absurd (cc)
  known-kept l (Some v) kind x is e =
      subst (IsOperandOf c (text.constant l))
      (cond_some (same_type (type_of v) kind) (operand.Literal v) x e).1 (is v refl)

  number-kept : (z : ℤ) (kind : ElementaryType) (o : Option Value) (x : TypedOperand)
      → typed_number kind z ≡ o → option_map (λ v. operand.Literal v) o ≡ Some x
      → IsOperandOf c (text.constant (literal.Number z)) x
  number-kept z kind None x is e = absurd (cc)
  number-kept z kind (Some v) x is e =
      subst (IsOperandOf c (text.constant (literal.Number z)))
      (same_Some (operand.Literal v) x e) (value_is kind z v (number-is kind z v is)).number

  number-given-kept : (z : ℤ) (b : Bool) (kind : ElementaryType) (x : TypedOperand)
      → typed_operand kind (cond b (Number z) Misused) ≡ Some x
      → IsOperandOf c (text.constant (literal.Number z)) x
  number-given-kept z true kind x e = number-kept z kind (typed_number kind z) x refl e
  number-given-kept z false kind x e = absurd (cc)

  literal-kept : (l : Literal) (kind : ElementaryType) (x : TypedOperand)
      → typed_operand kind (literal_operand l) ≡ Some x → IsOperandOf c (text.constant l) x
  literal-kept (literal.Truth b) kind x e =
      known-kept (literal.Truth b) _ kind x (of_literal (literal.Truth b)) e
  literal-kept (literal.Number z) kind x e =
      number-given-kept z (is_some (value_of elementary.Lint z)) kind x e
  literal-kept (literal.Int z) kind x e =
      known-kept (literal.Int z) _ kind x (of_literal (literal.Int z)) e
  literal-kept (literal.Dint z) kind x e =
      known-kept (literal.Dint z) _ kind x (of_literal (literal.Dint z)) e
  literal-kept (literal.Lint z) kind x e =
      known-kept (literal.Lint z) _ kind x (of_literal (literal.Lint z)) e
  literal-kept (literal.Time n) kind x e =
      known-kept (literal.Time n) _ kind x (of_literal (literal.Time n)) e

  variable-kept : (name : List ℕ) (m : Option Meaning) (kind : ElementaryType) (x : TypedOperand)
      → names.meaning name ≡ m → typed_operand kind (resolve_variable m) ≡ Some x
      → IsOperandOf c (text.variable (text.named name)) x
  variable-kept name (Some (meaning.Variable s k w)) kind x is e =
      subst (IsOperandOf c (text.variable (text.named name)))
      (cond_some (same_type k kind) (operand.Slot s) x e).1 (named-slot name s k w is)
  variable-kept name m kind x is e = absurd (cc)

  output-kept : (timer : List ℕ) (what : TimerOutput) (m : Option Meaning) (kind : ElementaryType)
      (x : TypedOperand) → names.meaning timer ≡ m
      → typed_operand kind (resolve_output m what) ≡ Some x
      → IsOperandOf c (text.variable (text.output timer what)) x
  output-kept timer what (Some (meaning.Timer n)) kind x is e =
      subst (IsOperandOf c (text.variable (text.output timer what)))
      (cond_some _ (operand.TimerOutput n what) x e).1 (named-timer timer n is, refl)
  output-kept timer what m kind x is e = absurd (cc)

  source-kept : (source : text.OperandData) (kind : ElementaryType) (x : TypedOperand)
      → typed_operand kind (resolve_operand names source) ≡ Some x → IsOperandOf c source x
  source-kept (text.constant l) kind x e = literal-kept l kind x e
  source-kept (text.variable (text.named name)) kind x e =
      variable-kept name (names.meaning name) kind x refl e
  source-kept (text.variable (text.output timer what)) kind x e =
      output-kept timer what (names.meaning timer) kind x refl e

  named-target : (name : List ℕ) (m : Option Meaning) (s : Slot) → names.meaning name ≡ m
      → target_slot (resolve_variable m) ≡ Some s → slot_name c s ≡ Some (upper name)
  named-target name (Some (meaning.Variable r k w)) s is e =
      subst (λ (y : Slot). slot_name c y ≡ Some (upper name)) (same_Some r s e)
      (named-slot name r k w is)
  named-target name m s is e = absurd (cc)

  no-target : (what : TimerOutput) (m : Option Meaning) (s : Slot)
      → target_slot (resolve_output m what) ≡ Some s → ⊥
  no-target what None s e = absurd (cc)
  no-target what (Some (meaning.Variable r k w)) s e = absurd (cc)
  no-target what (Some (meaning.Timer n)) s e = absurd (cc)

  target-kept : (place : text.VariableData) (s : Slot)
      → target_slot (resolve_variable_or_output names place) ≡ Some s
      → IsTargetOf c place s
  target-kept (text.named name) s e = named-target name (names.meaning name) s refl e
  target-kept (text.output timer what) s e = no-target what (names.meaning timer) s e

  -- ---- operations

  load-kept : (negated : Bool) (source : text.OperandData) (kind : ElementaryType)
      (x : Option TypedOperand) (o : SimpleOperation)
      → typed_operand kind (resolve_operand names source) ≡ x → load_operation negated x ≡ Some o
      → IsOperationOf c (text.load negated source) o
  load-kept negated source kind None o is e = absurd (cc)
  load-kept negated source kind (Some x) o is e =
      subst (IsOperationOf c (text.load negated source)) (same_Some (op.Load negated x) o e)
      (refl, source-kept source kind x is)

  load-typed : (negated : Bool) (source : text.OperandData) (k : Option ElementaryType)
      (o : SimpleOperation) → typed_load negated (resolve_operand names source) k ≡ Some o
      → IsOperationOf c (text.load negated source) o
  load-typed negated source None o e = absurd (cc)
  load-typed negated source (Some kind) o e =
      load-kept negated source kind (typed_operand kind (resolve_operand names source)) o refl e

  store-kept : (how : StoreKind) (place : text.VariableData) (s : Option Slot) (o : SimpleOperation)
      → target_slot (resolve_variable_or_output names place) ≡ s → store_operation how s ≡ Some o
      → IsOperationOf c (text.store how place) o
  store-kept how place None o is e = absurd (cc)
  store-kept how place (Some s) o is e =
      subst (IsOperationOf c (text.store how place)) (same_Some (op.Store how s) o e)
      (refl, target-kept place s is)

  combine-kept : (operator : Operator) (negated : Bool) (source : text.OperandData)
      (kind : ElementaryType) (x : Option TypedOperand) (o : SimpleOperation)
      → typed_operand kind (resolve_operand names source) ≡ x
      → combine_operation operator kind negated x ≡ Some o
      → IsOperationOf c (text.combine operator negated source) o
  combine-kept operator negated source kind None o is e = absurd (cc)
  combine-kept operator negated source kind (Some x) o is e =
      subst (IsOperationOf c (text.combine operator negated source))
      (same_Some (op.Combine operator kind negated x) o e)
      (refl, refl, source-kept source kind x is)

  operation-kept : (a : text.Action) (t : Option ElementaryType) (o : SimpleOperation)
      → typed_operation (resolution_of names a) t ≡ Some o → IsOperationOf c a o
  operation-kept (text.load negated source) t o e =
      load-typed negated source (load_type (resolve_operand names source)) o e
  operation-kept (text.store how place) t o e =
      store-kept how place (target_slot (resolve_variable_or_output names place)) o refl e
  operation-kept (text.combine operator negated source) (Some kind) o e =
      combine-kept operator negated source kind (typed_operand kind (resolve_operand names source))
      o
      refl
      e
  operation-kept text.invert t o e = subst (IsOperationOf c text.invert) (same_Some op.Not o e) tt
  operation-kept (text.convert conversion) t o e =
      subst (IsOperationOf c (text.convert conversion)) (same_Some (op.Convert conversion) o e) refl
  operation-kept a t o e = absurd (cc)

  -- ---- an operation is left of an instruction that is right

  named-some : (how : StoreKind) (m : Option Meaning) (passed : ℕ) (kind : ElementaryType)
      → IsRight passed (Store how (resolve_variable m)) (Some kind)
      → is_some (store_operation how (target_slot (resolve_variable m))) ≡ true
  named-some how None passed kind ok = absurd (let k = ok.named in cc)
  named-some how (Some (meaning.Variable s k w)) passed kind ok = refl
  named-some how (Some (meaning.Timer n)) passed kind ok = absurd (let k = ok.allowed in cc)

  output-some : (how : StoreKind) (what : TimerOutput) (m : Option Meaning) (passed : ℕ)
      (kind : ElementaryType) → IsRight passed (Store how (resolve_output m what)) (Some kind)
      → is_some (store_operation how (target_slot (resolve_output m what))) ≡ true
  output-some how what None passed kind ok = absurd (let k = ok.named in cc)
  output-some how what (Some (meaning.Variable s k w)) passed kind ok =
      absurd (let k = ok.allowed in cc)
  output-some how what (Some (meaning.Timer n)) passed kind ok = absurd (let k = ok.writable in cc)

  store-some : (how : StoreKind) (place : text.VariableData) (passed : ℕ) (kind : ElementaryType)
      → IsRight passed (Store how (resolve_variable_or_output names place)) (Some kind)
      → is_some (store_operation how (target_slot (resolve_variable_or_output names place))) ≡ true
  store-some how (text.named name) passed kind ok =
      named-some how (names.meaning name) passed kind ok
  store-some how (text.output timer what) passed kind ok =
      output-some how what (names.meaning timer) passed kind ok

  operation-some : (a : text.Action) (passed : ℕ) (t : Option ElementaryType) → is_plain a ≡ true
      → IsRight passed (resolution_of names a) t
      → is_some (typed_operation (resolution_of names a) t) ≡ true
  operation-some (text.load negated source) passed t may ok =
      load-some c negated (resolve_operand names source)
      (found c names meant (text.load negated source))
      (allows-any (Load negated (resolve_operand names source)) t refl ok.allowed)
  operation-some (text.store how place) passed None may ok = absurd (let k = ok.set in cc)
  operation-some (text.store how place) passed (Some kind) may ok =
      store-some how place passed kind ok
  operation-some (text.combine operator negated source) passed None may ok =
      absurd (let k = ok.set in cc)
  operation-some (text.combine operator negated source) passed (Some kind) may ok =
      let g = resolve_operand names source in
      combined-some operator kind negated (typed_operand kind g)
      (and_parts (works operator negated kind) (operand_fits kind g) (not-false _ ok.allowed)).1
  operation-some text.invert passed t may ok = refl
  operation-some (text.convert conversion) passed t may ok = refl
  operation-some a passed t may ok = absurd (cc)

  -- ---- parentheses

  -- what is left of a parenthesis, whose entries are kept
  record Kept (e : text.Entry) (o : Option Entry) : Type 0 where
    what : Entry
    is : o ≡ Some what
    keeps : IsEntryOf c e what

  block-case : (line : ℕ) (operator : Operator) (negated : Bool) (es : text.Entries) (end : ℕ)
      (inner t : Option ElementaryType) (xs : Entries) → combines_unset inner t ≡ false
      → AreEntriesOf c es xs
      → Kept (text.block line operator negated es end) (typed_block operator negated xs t)
  block-case line operator negated es end (Some k) (Some kind) xs set is =
      record { what = block operator kind negated xs; is = refl; keeps = (refl, refl, is) }
  block-case line operator negated es end inner t xs set is = absurd (cc)

  entries-kept : (room passed : ℕ) (es : text.Entries) (t : Option ElementaryType)
      → AreRightEntries names room passed es t → all_inner es ≡ true
      → AreEntriesOf c es (typed_entries_of names room es t)
  entries-kept room passed text.no_entries t ok may = tt
  entries-kept room passed (text.entry (text.label line name) es) t ok may = absurd (cc)
  entries-kept room passed (text.entry (text.action line a) es) t ok may =
      let both = and_parts (is_plain a) (all_inner es) may in
      let o = the-some (typed_operation (resolution_of names a) t)
      (operation-some a passed t both.0 ok.0) in
      let rest = typed_entries_of names room es (type_after (resolution_of names a) t) in
      subst (λ (x : Option SimpleOperation). AreEntriesOf c (text.entry (text.action line a) es)
      (entry_before (option_map operation x) rest)) (sym o.1) (
        operation-kept a t o.0 o.1,
        entries-kept room passed es (type_after (resolution_of names a) t) ok.1 both.1,
      )
  entries-kept room passed (text.entry (text.block line operator negated inner end) es) t ok may =
      let both = and_parts (is_parenthesis inner) (all_inner es) may in
      let e = text.block line operator negated inner end in
      let b = block-case line operator negated inner end (type_after_entries names inner None) t
      (typed_entries_of names (room - 1) inner None) ok.0.2.set
      (entries-kept (room - 1) passed inner None ok.0.1 (inner-of inner both.0)) in
      let is : typed_entry_of names room e t ≡ Some b.what =
      ap (λ (x : Entries). typed_block operator negated x t)
      (with-room room no_entries (typed_entries_of names (room - 1) inner None) ok.0.0) ∙ b.is in
      let rest = typed_entries_of names room es (type_after_entry names e t) in
      subst (λ (x : Option Entry). AreEntriesOf c (text.entry e es) (entry_before x rest)) (sym is)
      (b.keeps, entries-kept room passed es (type_after_entry names e t) ok.1 both.1)

  block-kept : (room passed line : ℕ) (operator : Operator) (negated : Bool) (inner : text.Entries)
      (end : ℕ) (t : Option ElementaryType)
      → IsRightEntry names room passed (text.block line operator negated inner end) t
      → is_parenthesis inner ≡ true
      → Kept (text.block line operator negated inner end)
      (typed_entry_of names room (text.block line operator negated inner end) t)
  block-kept room passed line operator negated inner end t ok may =
      let b = block-case line operator negated inner end (type_after_entries names inner None) t
      (typed_entries_of names (room - 1) inner None) ok.2.set
      (entries-kept (room - 1) passed inner None ok.1 (inner-of inner may)) in
      record {
        what = b.what;
        is = ap (λ (x : Entries). typed_block operator negated x t)
            (with-room room no_entries (typed_entries_of names (room - 1) inner None) ok.0) ∙ b.is;
        keeps = b.keeps;
      }

  -- ---- jumps, returns and calls

  argument-case : (a : Input × text.OperandData) (o : Option TypedOperand) (x : TypedArgument)
      → typed_operand (input_type a.0) (resolve_operand names a.1) ≡ o
      → option_map (λ y. record { input = a.0; operand = y }) o ≡ Some x → IsArgumentOf c a x
  argument-case a None x is e = absurd (cc)
  argument-case a (Some y) x is e =
      subst (IsArgumentOf c a) (same_Some (record { input = a.0; operand = y }) x e)
      (refl, source-kept a.1 (input_type a.0) y is)

  argument-kept : (a : Input × text.OperandData) (x : TypedArgument)
      → typed_argument (resolve_argument names a) ≡ Some x → IsArgumentOf c a x
  argument-kept a x e =
      argument-case a (typed_operand (input_type a.0) (resolve_operand names a.1)) x refl e

  one-kept-of : (a : Input × text.OperandData) (o : Option TypedArgument) (xs : TypedArguments)
      → typed_argument (resolve_argument names a) ≡ o → one_argument o ≡ Some xs
      → AreArgumentsOf c (a ∷ []) xs
  one-kept-of a None xs is e = absurd (cc)
  one-kept-of a (Some x) xs is e =
      subst (AreArgumentsOf c (a ∷ [])) (same_Some (typed.One x) xs e) (argument-kept a x is)

  two-kept-of : (a b : Input × text.OperandData) (more : List (Input × text.OperandData))
      (o p : Option TypedArgument) (xs : TypedArguments)
      → typed_argument (resolve_argument names a) ≡ o
      → typed_argument (resolve_argument names b) ≡ p
      → two_arguments o p ≡ Some xs → AreArgumentsOf c (a ∷ b ∷ more) xs
  two-kept-of a b more (Some x) (Some y) xs is also e =
      subst (AreArgumentsOf c (a ∷ b ∷ more)) (same_Some (typed.Two x y) xs e)
      (argument-kept a x is, argument-kept b y also)
  two-kept-of a b more o p xs is also e = absurd (cc)

  arguments-kept : (args : List (Input × text.OperandData)) (xs : TypedArguments)
      → typed_arguments (resolve_arguments names args) ≡ Some xs → AreArgumentsOf c args xs
  arguments-kept [] xs e = subst (AreArgumentsOf c []) (same_Some typed.None xs e) tt
  arguments-kept (a ∷ []) xs e =
      one-kept-of a (typed_argument (resolve_argument names a)) xs refl e
  arguments-kept (a ∷ b ∷ more) xs e =
      two-kept-of a b more (typed_argument (resolve_argument names a))
      (typed_argument (resolve_argument names b)) xs refl refl e

  -- what is left of an instruction
  record KeptItem (e : text.Entry) (o : Option ProgramItem) : Type 0 where
    what : ProgramItem
    is : o ≡ Some what
    keeps : IsItemOf c (label_names items) e what

  plain-case : (line passed : ℕ) (a : text.Action) (t : Option ElementaryType)
      → is_plain a ≡ true → IsRight passed (resolution_of names a) t
      → KeptItem (text.action line a) (or_entry None (action_entry (resolution_of names a) t))
  plain-case line passed a t may ok =
      let o = the-some (typed_operation (resolution_of names a) t)
      (operation-some a passed t may ok)
      in
      record {
        what = plain (operation o.0);
        is = ap (λ (x : Option SimpleOperation). option_map plain (option_map operation x)) o.1;
        keeps = operation-kept a t o.0 o.1;
      }

  jump-case : (line : ℕ) (condition : Condition) (name : List ℕ) (n : Option ℕ)
      (e : Option Entry) → names.label name ≡ n → is_none n ≡ false
      → KeptItem (text.action line (text.jump condition name)) (or_entry (typed_jump condition n) e)
  jump-case line condition name None e is there = absurd (cc)
  jump-case line condition name (Some n) e is there =
      record {
        what = transfer (go.Jump condition n);
        is = refl;
        keeps = (refl, labels-named items 0 n n (upper name) (own.labels name n is));
      }

  call-case : (line : ℕ) (timer : List ℕ) (args : List (Input × text.OperandData))
      (m : Option Meaning) (t : Option ElementaryType) (passed : ℕ) (e : Option Entry)
      → names.meaning timer ≡ m
      → IsRight passed (Call (called_of m) (resolve_arguments names args)) t
      → KeptItem (text.action line (text.call timer args))
      (or_entry (typed_call (called_of m) (typed_arguments (resolve_arguments names args))) e)
  call-case line timer args None t passed e is ok = absurd (let k = ok.named in cc)
  call-case line timer args (Some (meaning.Variable s k w)) t passed e is ok =
      absurd (let y = allows-any (Call called.Misused (resolve_arguments names args)) t refl
      ok.allowed
      in cc)
  call-case line timer args (Some (meaning.Timer n)) t passed e is ok =
      let given = resolve_arguments names args in
      let xs = the-some (typed_arguments given)
      (arguments-some given (allows-any (Call (called.Timer n) given) t refl ok.allowed)) in
      record {
        what = transfer (go.Call n xs.0);
        is = ap (λ (x : Option TypedArguments). or_entry (call_with n x) e) xs.1;
        keeps = (named-timer timer n is, arguments-kept args xs.0 xs.1);
      }

  action-kept : (line passed : ℕ) (a : text.Action) (t : Option ElementaryType)
      → IsRight passed (resolution_of names a) t
      → KeptItem (text.action line a) (action_item (resolution_of names a) t)
  action-kept line passed (text.load negated source) t ok =
      plain-case line passed (text.load negated source) t refl ok
  action-kept line passed (text.store how place) t ok =
      plain-case line passed (text.store how place) t refl ok
  action-kept line passed (text.combine operator negated source) t ok =
      plain-case line passed (text.combine operator negated source) t refl ok
  action-kept line passed text.invert t ok = plain-case line passed text.invert t refl ok
  action-kept line passed (text.convert conversion) t ok =
      plain-case line passed (text.convert conversion) t refl ok
  action-kept line passed (text.jump condition name) t ok =
      jump-case line condition name (names.label name) _ refl ok.labelled
  action-kept line passed (text.leave condition) t ok =
      record { what = transfer (go.Return condition); is = refl; keeps = refl }
  action-kept line passed (text.call timer args) t ok =
      call-case line timer args (names.meaning timer) t passed _ refl ok

  -- ---- items

  one-more : (e : text.Entry) (es : List text.Entry) (o : Option ProgramItem)
      (xs : List ProgramItem)
      → KeptItem e o → AreItemsOf c (label_names items) es xs
      → AreItemsOf c (label_names items) (e ∷ es) (cons_option o xs)
  one-more e es o xs k more =
      subst (λ (x : Option ProgramItem). AreItemsOf c (label_names items) (e ∷ es)
      (cons_option x xs))
      (sym k.is) (k.keeps, more)

  block-item : (line : ℕ) (operator : Operator) (negated : Bool) (inner : text.Entries) (end : ℕ)
      (o : Option Entry) → Kept (text.block line operator negated inner end) o
      → KeptItem (text.block line operator negated inner end) (option_map plain o)
  block-item line operator negated inner end o k =
      record { what = plain k.what; is = ap (option_map plain) k.is; keeps = k.keeps }

  items-kept : (es : List text.Entry) (s : Progress) (before : List (List ℕ))
      → items_faults names es s ≡ [] → list_all is_outer es ≡ true
      → label_names items ≡ before ++ label_names es → length before ≡ s.passed
      → AreItemsOf c (label_names items) es (typed_items_of names es s)
  items-kept [] s before none may at size = tt
  items-kept (text.label line name ∷ es) s before none may at size =
      let here : slice_get (label_names items) s.passed ≡ Some (upper name) =
      subst (λ (n : ℕ). slice_get (label_names items) n ≡ Some (upper name)) size
      (subst (λ (l : List (List ℕ)). slice_get l (length before) ≡ Some (upper name)) (sym at)
      (at-middle before (upper name) (label_names es))) in (
        here,
        items-kept es (progress_after_entry names (text.label line name) s)
            (before ++ upper name ∷ [])
            (both-none _ _ none).1 may
            (at ∙ sym (append_assoc before (upper name ∷ []) (label_names es)))
            (length-append before (upper name ∷ []) ∙ ap (λ (n : ℕ). n + 1) size),
      )
  items-kept (text.action line a ∷ es) s before none may at size =
      let h = both-none _ _ none in
      let right =
      right-from s.now.is_reached s.passed line (resolution_of names a) s.now.kind h.0 in
      one-more (text.action line a) es (action_item (resolution_of names a) s.now.kind) _
      (action-kept line s.passed a s.now.kind right.1)
      (items-kept es (progress_after_entry names (text.action line a) s) before h.1 may at size)
  items-kept (text.block line operator negated inner end ∷ es) s before none may at size =
      let b = text.block line operator negated inner end in
      let h = both-none _ _ none in
      let outer = and_parts (is_parenthesis inner) (list_all is_outer es) may in
      let right = entry-from names most_nested s.now.is_reached s.passed b s.now.kind h.0 in
      one-more b es (option_map plain (typed_entry_of names most_nested b s.now.kind)) _
      (block-item line operator negated inner end (typed_entry_of names most_nested b s.now.kind)
      (block-kept most_nested s.passed line operator negated inner end s.now.kind right outer.0))
      (items-kept es (progress_after_entry names b s) before h.1 outer.1 at size)

-- ---- a program

judged-ok : (o : Option CheckFault) (c d : Checked) → unless_refused o c ≡ Ok d
    → (o ≡ None) × (c ≡ d)
judged-ok None c d e = (refl, cc)
judged-ok (Some f) c d e = absurd (cc)

-- a checked program keeps what its text says
pub keeps : (points : List Point) (program : text.PlainProgram) (c : Checked)
    → checked_of points program ≡ Ok c → list_all is_outer program.items ≡ true
    → Preserves points program c
keeps points program c e may =
    let names = names_in points program in
    let h = judged-ok (least_fault (faults_of points program)) (checked_program points program) c e
    in
    let none = least_fault-none (faults_of points program) h.0 in
    let parts =
    both-none (declarations_faults points [] program.declarations)
    (items_faults names program.items (initial_progress program)) none in
    let d = checked_program points program in
    let are = declares points program.declarations parts.0 in
    let own : MeanOwnDeclarations names d program.items =
    subst (λ (x : Checked). MeanOwnDeclarations names x program.items) (sym h.1)
    (mean-own-places points program c e) in
    subst (Preserves points program) h.1
    (record {
      declared = declared-kept points [] program.declarations parts.0;
      items = items-kept d names program.items own
          (λ name m is. named-from d m (are.meant (upper name) m is))
          program.items (initial_progress program) [] parts.1 may refl refl;
    })
