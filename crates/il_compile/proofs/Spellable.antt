-- The instructions of a well-typed program can be spelled, where its code isn't too long.
use Rattle.std.proofs.Common.{◌≡◌, ℕ, suc, zero, ◌+◌, ◌<◌, ◌≤◌, ◌^◌, Bool, true, false, ◌==◌, if◌then◌else◌, List, [], ◌∷◌, ◌++◌, length, Option, Some, None, option_map, refl, arith}
use Rattle.std.specs.Prelude.{slice_get}
use Rattle.bay_base.specs.declared.types.ElementaryType.{ElementaryType}
use Rattle.il_text.specs.declared.program.Input.{Input}
use Rattle.il_text.specs.declared.program.Input.TheVariants.{In, Pt}
use Rattle.il_text.specs.declared.program.Operator.{Operator}
use Rattle.il_text.specs.declared.program.TimerOutput.TheVariants.{Q, Et}
use Rattle.il_text.specs.declared.program.StoreKind.{StoreKind}
use Rattle.il_text.specs.declared.program.StoreKind.TheVariants as store
use Rattle.il_image.specs.Images.{Each}
use Rattle.il_image.specs.Spelling.{IsInstr}
use Rattle.il_image.specs.Values.{type_of}
use Rattle.il_image.specs.declared.instr.Instr.TheVariants.{Halt, Timer, Jump}
use Rattle.il_image.specs.declared.opcode.TimerUse.TheVariants.{Run}
use Rattle.il_image.specs.Machine.{most_slots, most_timers}
use Rattle.il_check.specs.Labelling.{Labelling, FlowState, initial_flow}
use Rattle.il_check.specs.Program.{Checked, Entry, operation, block, Entries, no_entries, entry, ProgramItem, label, transfer, plain}
use Rattle.il_check.specs.TypedProgram.{slot_type, IsOperand, IsOperation, IsEntry, AreEntries, IsArgument, AreArguments, AreItems, IsTyped}
use Rattle.il_check.specs.declared.typed.SimpleOperation.{SimpleOperation}
use Rattle.il_check.specs.declared.typed.SimpleOperation.TheVariants as op
use Rattle.il_check.specs.declared.typed.Slot.{Slot}
use Rattle.il_check.specs.declared.typed.Slot.TheVariants.{External, Variable}
use Rattle.il_check.specs.declared.typed.Transfer.TheVariants as go
use Rattle.il_check.specs.declared.typed.TypedArgument.{TypedArgument}
use Rattle.il_check.specs.declared.typed.TypedArguments.{TypedArguments}
use Rattle.il_check.specs.declared.typed.TypedArguments.TheVariants as arguments
use Rattle.il_check.specs.declared.typed.TypedOperand.{TypedOperand}
use Rattle.il_check.specs.declared.typed.TypedOperand.TheVariants as operand
use Rattle.il_compile.specs.Continuation.{AreSpellable, IsSpellableEntry, AreSpellableEntries}
use Rattle.il_compile.specs.Code.{slot_number, push_operand, negation_code, class_instr, operator_code, store_code, operation_code, push_unset, entry_code, entries_code, input_use, argument_code, arguments_code, transfer_code, octets, octets_before, distance, items_code, program_code}
use Rattle.il_compile.specs.OperatorClasses.{OperatorClass, connects, computes, compares, class_of, when_of}
use Rattle.il_compile.proofs.Placing.{octets-both}
use Rattle.il_compile.proofs.Follows.{transfer-size}
use Rattle.il_compile.specs.Compiled.{most_octets}

each-both : {A : Type 0} (P : A → Type 0) (a b : List A) → Each P a → Each P b → Each P (a ++ b)
each-both P [] b h k = k
each-both P (x ∷ a) b h k = (h.0, each-both P a b h.1 k)

below-length : {A B : Type 0} (f : A → B) (xs : List A) (n : ℕ) (b : B)
    → option_map f (slice_get xs n) ≡ Some b → n < length xs
below-length f [] n b e = absurd cc
below-length f (x ∷ xs) zero b e = omega arith
below-length f (x ∷ xs) (suc n) b e = let h = below-length f xs n b e in omega arith

negation-is : (negated : Bool) → Each IsInstr (negation_code negated)
negation-is true = (tt, tt)
negation-is false = tt

sense-is : (x : OperatorClass) (kind : ElementaryType) → IsInstr (class_instr x kind)
sense-is (connects c) kind = tt
sense-is (computes o) kind = tt
sense-is (compares c) kind = tt

operated-is : (o : Operator) (kind : ElementaryType) (negated : Bool)
    → Each IsInstr (operator_code o kind negated)
operated-is o kind negated =
    each-both IsInstr (negation_code negated) (class_instr (class_of o) kind ∷ [])
    (negation-is negated)
    (sense-is (class_of o) kind, tt)

store-is : (how : StoreKind) (n : ℕ) → n < 2 ^ 16 → Each IsInstr (store_code how n)
store-is store.Plain n h = (h, tt)
store-is store.Negated n h = (tt, (h, (tt, tt)))
store-is store.Set n h = (h, tt)
store-is store.Reset n h = (h, tt)

module _ (c : Checked) (few : length c.externals + length c.variables ≤ most_slots)
    (timers : length c.timers ≤ most_timers) where
  slot-is : (s : Slot) (kind : ElementaryType) → slot_type c s ≡ Some kind
      → slot_number (length c.externals) s < 2 ^ 16
  slot-is (External n) kind e = let h =
      below-length (λ x. x.kind) c.externals n kind e in omega arith
  slot-is (Variable n) kind e = let h =
      below-length (λ x. type_of x.initial) c.variables n kind e in omega arith

  timer-is : (n : ℕ) → n < length c.timers → n < 2 ^ 16
  timer-is n h = omega arith

  fetch-is : (x : TypedOperand) (kind : ElementaryType) → IsOperand c x kind
      → IsInstr (push_operand (length c.externals) x)
  fetch-is (operand.Literal v) kind h = h.0
  fetch-is (operand.Slot s) kind h = slot-is s kind h
  fetch-is (operand.TimerOutput n Q) kind h = timer-is n h.0
  fetch-is (operand.TimerOutput n Et) kind h = timer-is n h.0

  operation-is : (o : SimpleOperation) (t u : Option ElementaryType) → IsOperation c o t u
      → Each IsInstr (operation_code (length c.externals) o)
  operation-is (op.Load negated x) t u h = (tt, (fetch-is x h.0 h.1, negation-is negated))
  operation-is (op.Store how s) t u h =
      store-is how (slot_number (length c.externals) s) (slot-is s h.0 h.1)
  operation-is (op.Combine operator kind negated x) t u h =
      (fetch-is x kind h.0, operated-is operator kind negated)
  operation-is op.Not t u h = (tt, tt)
  operation-is (op.Convert conversion) t u h = (tt, tt)

  mutual
    entry-spellable : (e : Entry) (t u : Option ElementaryType) → IsEntry c e t u
        → IsSpellableEntry (length c.externals) e
    entry-spellable (operation o) t u h = operation-is o t u h
    entry-spellable (block operator kind negated es) t u h =
        entries-spellable es None (Some kind) h.0

    entries-spellable : (es : Entries) (t u : Option ElementaryType) → AreEntries c es t u
        → AreSpellableEntries (length c.externals) es
    entries-spellable no_entries t u h = tt
    entries-spellable (entry e es) t u h =
        (entry-spellable e t h.0 h.1, entries-spellable es h.0 u h.2)

  argument-is : (n : ℕ) (a : TypedArgument) → n < length c.timers → IsArgument c a
      → Each IsInstr (argument_code (length c.externals) n a)
  argument-is n a lt h = (fetch-is a.operand _ h, (input-is a.input, tt))
    where
      input-is : (i : Input) → IsInstr (Timer (input_use i) n)
      input-is In = timer-is n lt
      input-is Pt = timer-is n lt

  arguments-are : (n : ℕ) (args : TypedArguments) → n < length c.timers → AreArguments c args
      → Each IsInstr (arguments_code (length c.externals) n args)
  arguments-are n arguments.None lt h = tt
  arguments-are n (arguments.One a) lt h = argument-is n a lt h
  arguments-are n (arguments.Two a b) lt h =
      each-both IsInstr (argument_code (length c.externals) n a)
      (argument_code (length c.externals) n b) (argument-is n a lt h.0) (argument-is n b lt h.1)

  items-spellable : (labels : Labelling) (is : List ProgramItem) (k : FlowState)
      → AreItems c labels is k
      → AreSpellable (length c.externals) is
  items-spellable labels [] k h = tt
  items-spellable labels (label n ∷ is) k h = (tt, items-spellable labels is _ h.1)
  items-spellable labels (transfer (go.Jump condition l) ∷ is) k h =
      (((omega arith), tt), items-spellable labels is _ h.2)
  items-spellable labels (transfer (go.Return condition) ∷ is) k h =
      (((omega arith), tt), items-spellable labels is _ h.2)
  items-spellable labels (transfer (go.Call n args) ∷ is) k h = (
    each-both IsInstr (arguments_code (length c.externals) n args) (Timer Run n ∷ [])
        (arguments-are n args h.1.1.0 h.1.1.1) (timer-is n h.1.1.0, tt),
    items-spellable labels is _ h.2,
  )
  items-spellable labels (plain e ∷ is) k h =
      (entry-spellable e h.0 h.1 h.2.1, items-spellable labels is _ h.3)

pub all-spellable : (c : Checked) → IsTyped c → AreSpellable (length c.externals) c.items
all-spellable c ok = items-spellable c ok.slots ok.timers ok.labels c.items initial_flow ok.items

-- ---- from what is spellable to instructions

mutual
  entry-are : (n : ℕ) (e : Entry) → IsSpellableEntry n e → Each IsInstr (entry_code n e)
  entry-are n (operation o) h = h
  entry-are n (block operator kind negated es) h = (
    refl,
    each-both IsInstr (entries_code n es) (operator_code operator kind negated)
        (entries-are n es h) (operated-is operator kind negated),
  )

  entries-are : (n : ℕ) (es : Entries) → AreSpellableEntries n es → Each IsInstr (entries_code n es)
  entries-are n no_entries h = tt
  entries-are n (entry e es) h =
      each-both IsInstr (entry_code n e) (entries_code n es) (entry-are n e h.0)
      (entries-are n es h.1)

-- a label is no further away than the end
no-further : (n l : ℕ) (is : List ProgramItem) → octets_before n l is ≤ octets (items_code n is)
no-further n l [] = omega arith
no-further n l (label k ∷ is) =
    elim (k == l) as (λ b. (if b then 0 else octets_before n l is) ≤ octets (items_code n is))
    [ true ↦ omega arith | false ↦ no-further n l is ]
no-further n l (transfer t ∷ is) =
    let h = no-further n l is in
    let d = distance n t is (octets (items_code n is)) in
    omega (arith, octets-both (transfer_code n t d) (items_code n is), transfer-size n t d)
no-further n l (plain e ∷ is) = let h =
    no-further n l is in omega (arith, octets-both (entry_code n e) (items_code n is))

pub items-are : (n : ℕ) (is : List ProgramItem) → AreSpellable n is
    → octets (items_code n is) ≤ most_octets
    → Each IsInstr (items_code n is)
items-are n [] h short = tt
items-are n (label k ∷ is) h short = items-are n is h.1 short
items-are n (transfer (go.Jump condition l) ∷ is) h short =
    let f = no-further n l is in
    let b = octets-both (Jump (when_of condition) (octets_before n l is) ∷ []) (items_code n is) in
    ((omega arith), items-are n is h.1 (omega arith))
items-are n (transfer (go.Return condition) ∷ is) h short =
    let b = octets-both (Jump (when_of condition) (octets (items_code n is)) ∷ []) (items_code n is)
    in
    ((omega arith), items-are n is h.1 (omega arith))
items-are n (transfer (go.Call k args) ∷ is) h short =
    let b = octets-both (arguments_code n k args ++ Timer Run k ∷ []) (items_code n is) in
    each-both IsInstr (arguments_code n k args ++ Timer Run k ∷ []) (items_code n is) h.0
    (items-are n is h.1 (omega arith))
items-are n (plain e ∷ is) h short =
    let b = octets-both (entry_code n e) (items_code n is) in
    each-both IsInstr (entry_code n e) (items_code n is) (entry-are n e h.0)
    (items-are n is h.1 (omega arith))

pub program-are : (c : Checked) → IsTyped c → octets (program_code c) ≤ most_octets
    → Each IsInstr (program_code c)
program-are c ok short =
    let n = length c.externals in
    let b = octets-both (items_code n c.items) (Halt ∷ []) in
    let w = octets-both (push_unset ∷ []) (items_code n c.items ++ Halt ∷ []) in (
      refl,
      each-both IsInstr (items_code n c.items) (Halt ∷ [])
          (items-are n c.items (all-spellable c ok) (omega arith)) (tt, tt),
    )
