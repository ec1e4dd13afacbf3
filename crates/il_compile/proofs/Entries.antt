-- The code of operations and parentheses does what they mean.
use Rattle.std.proofs.Common.{◌≡◌, ℕ, pos, ◌+◌, ◌<◌, ◌≤◌, ◌&&◌, Bool, true, false, not, List, [], ◌∷◌, length, Option, Some, None, option_map, refl, sym, ap, subst, ◌∙◌, arith}
use Rattle.std.proofs.lemmas.Bool.{and_parts, and_left}
use Rattle.std.specs.Prelude.{slice_get, slice_set}
use Rattle.std.specs.Ordering.{int_eq}
use Rattle.bay_base.specs.Options.{◌>>=◌}
use Rattle.bay_base.specs.Types.{same_type}
use Rattle.bay_base.specs.declared.types.ElementaryType.{ElementaryType}
use Rattle.bay_base.specs.declared.types.ElementaryType.TheVariants as elementary
use Rattle.il_text.specs.declared.program.Operator.{Operator}
use Rattle.il_text.specs.declared.program.TimerOutput.TheVariants.{Q, Et}
use Rattle.il_text.specs.declared.program.StoreKind.{StoreKind}
use Rattle.il_text.specs.declared.program.StoreKind.TheVariants as store
use Rattle.il_image.specs.Values.{number_of, type_of}
use Rattle.il_image.specs.declared.instr.Instr.{Instr}
use Rattle.il_image.specs.declared.instr.Instr.TheVariants.{Slot, Not}
use Rattle.il_image.specs.declared.opcode.SlotUse.TheVariants.{Store}
use Rattle.il_image.specs.declared.value.Value.{Value}
use Rattle.il_image.specs.declared.value.Value.TheVariants.{Truth, Span}
use Rattle.il_image.specs.Machine.{most_cells}
use Rattle.il_check.specs.Program.{Checked, Entry, operation, block, Entries, no_entries, entry}
use Rattle.il_check.specs.Rules as rules
use Rattle.il_check.specs.TypedProgram.{slot_type, IsOperand, is_divisor, IsOperation, IsEntry, AreEntries, entry_depth, entries_depth}
use Rattle.il_check.specs.declared.typed.SimpleOperation.{SimpleOperation}
use Rattle.il_check.specs.declared.typed.SimpleOperation.TheVariants as op
use Rattle.il_check.specs.declared.typed.Slot as typed
use Rattle.il_check.specs.declared.typed.TypedOperand.{TypedOperand}
use Rattle.il_check.specs.declared.typed.TypedOperand.TheVariants as operand
use Rattle.il_compile.specs.Code.{slot_number, push_operand, negation_code, class_instr, operator_code, store_code, operation_code, entry_code, entries_code}
use Rattle.il_compile.specs.Correct.{HasTypes}
use Rattle.il_compile.specs.Meaning.{Memory, State, combination_of, inverse_if, output_of, slot_value, operand_value, with_value, store_value, memory_after_store, state_after, without_result, mean_entry, mean_entries}
use Rattle.il_compile.specs.OperatorClasses.{OperatorClass, connects, computes, compares, class_of, widening_of}
use Rattle.il_compile.proofs.Memories.{flat, set-same, There, there, changed, timer-there}
use Rattle.il_compile.proofs.Straight.{Core, core, Does, DoesAll, both, alone, pushed, dropped, inverted, wider, joined, fetched, kept, set_if, reset-if, output-fetched, elapsed-fetched}
use Rattle.il_compile.proofs.Values.{same-sense, sense_takes, sense_gives, sense_divides, type-self, truth-is, boolean-is, combined-made, widened-made}

-- a cell holds the result, where the result is known to be set
abbrev pub Agrees : Option ElementaryType → Option Value → Value → Type 0
Agrees None result cell = Unit {0}
Agrees (Some kind) result cell = (result ≡ Some cell) × (type_of cell ≡ kind)

-- the core that holds a memory below these cells
abbrev pub holding : List Value → Memory → Core
holding cells m = core cells (flat m) m.timers

-- what is done with a value that is there
pub bound : {A B : Type 0} (o : Option A) (x : A) (f : A → Option B) (y : B) → o ≡ Some x
    → f x ≡ Some y → o >>= f ≡ Some y
bound {A = A} {B = B} o x f y e g = ap (λ (p : Option A). p >>= f) e ∙ g

module _ (c : Checked) (now : ℕ) where
  -- ---- operands

  -- the value of an operand, and its instruction
  pub record Fetched (x : TypedOperand) (kind : ElementaryType) (m : Memory) (cells : List Value)
      : Type 0 where
    pub value : Value
    pub is : operand_value x m ≡ Some value
    pub type : type_of value ≡ kind
    pub does : Does now (push_operand (length c.externals) x) (holding cells m)
        (holding (value ∷ cells) m)

  pub operand-does : (x : TypedOperand) (kind : ElementaryType) (m : Memory) (cells : List Value)
      → HasTypes c m → IsOperand c x kind → length cells < most_cells → Fetched x kind m cells
  operand-does (operand.Literal v) kind m cells ty ok lt =
      record { value = v; is = refl; type = ok.1; does = pushed now (flat m) m.timers v cells lt }
  operand-does (operand.Slot s) kind m cells ty ok lt =
      let v = there c m s kind ty ok in
      record {
        value = v.value;
        is = v.is;
        type = v.type;
        does = fetched now (flat m) m.timers (slot_number (length c.externals) s) v.value cells
            v.slot lt;
      }
  operand-does (operand.TimerOutput n Q) kind m cells ty ok lt =
      let t = timer-there c m n ty ok.0 in
      record {
        value = Truth t.0.output;
        is = ap (option_map (output_of Q)) t.1;
        type = ok.1;
        does = output-fetched now (flat m) m.timers n t.0 cells t.1 lt;
      }
  operand-does (operand.TimerOutput n Et) kind m cells ty ok lt =
      let t = timer-there c m n ty ok.0 in
      record {
        value = Span t.0.elapsed;
        is = ap (option_map (output_of Et)) t.1;
        type = ok.1;
        does = elapsed-fetched now (flat m) m.timers n t.0 cells t.1 lt;
      }

  -- N behind an operator
  record Turned (negated : Bool) (v : Value) (kind : ElementaryType) (m : Memory)
      (cells : List Value) : Type 0 where
    value : Value
    is : inverse_if negated v ≡ Some value
    type : type_of value ≡ kind
    does : DoesAll now (negation_code negated) (holding (v ∷ cells) m) (holding (value ∷ cells) m)

  truth-turned : (b : Bool) (v : Value) (kind : ElementaryType) (m : Memory) (cells : List Value)
      → v ≡ Truth b → type_of v ≡ kind → Turned true v kind m cells
  truth-turned b v kind m cells e t =
      subst (λ w. Turned true w kind m cells) (sym e)
      (record {
        value = Truth (not b);
        is = refl;
        type = sym (ap type_of e) ∙ t;
        does = alone now Not _ _ (inverted now (flat m) m.timers b cells);
      })

  turned : (negated : Bool) (v : Value) (kind : ElementaryType) (m : Memory) (cells : List Value)
      → type_of v ≡ kind → rules.may_negate negated kind ≡ true → Turned negated v kind m cells
  turned false v kind m cells t h = record { value = v; is = refl; type = t; does = refl }
  turned true v kind m cells t h = let b =
      truth-is v (t ∙ boolean-is kind h) in truth-turned b.0 v kind m cells b.1 t

  -- ---- operators

  -- what takes BOOLs divides nothing
  numbers-alone : (x : OperatorClass) → sense_takes x elementary.Bool ≡ true
      → sense_divides x ≡ false
  numbers-alone (connects o) h = refl
  numbers-alone (computes o) h = absurd cc
  numbers-alone (compares o) h = refl

  -- a divisor that is not 0 stays so
  stays : (o : Operator) (negated : Bool) (kind : ElementaryType) (v w : Value)
      → rules.works o negated kind ≡ true → rules.divides o && int_eq (number_of v) (pos 0) ≡ false
      → inverse_if negated v ≡ Some w → rules.divides o && int_eq (number_of w) (pos 0) ≡ false
  stays o false kind v w h z e = let same : v ≡ w =
      cc in subst (λ x. rules.divides o && int_eq (number_of x) (pos 0) ≡ false) same z
  stays o true kind v w h z e =
      let both = and_parts (rules.accepts_type o kind) (rules.may_negate true kind) h in
      let same = same-sense o in
      and_left (rules.divides o) _
      (same.divides ∙ numbers-alone (class_of o)
      (sym (same.takes elementary.Bool) ∙ ap (rules.accepts_type o) (sym (boolean-is kind both.1))
      ∙ both.0))

  record Joined (o : Operator) (negated : Bool) (kind : ElementaryType) (a v : Value) (m : Memory)
      (cells : List Value) : Type 0 where
    second : Value
    turns : inverse_if negated v ≡ Some second
    value : Value
    is : combination_of (class_of o) a second ≡ Some value
    type : type_of value ≡ rules.type_of_result o kind
    does : DoesAll now (operator_code o kind negated) (holding (v ∷ a ∷ cells) m)
        (holding (value ∷ cells) m)

  operator-does : (o : Operator) (negated : Bool) (kind : ElementaryType) (a v : Value) (m : Memory)
      (cells : List Value) → type_of a ≡ kind → type_of v ≡ kind
      → rules.works o negated kind ≡ true → rules.divides o && int_eq (number_of v) (pos 0) ≡ false
      → Joined o negated kind a v m cells
  operator-does o negated kind a v m cells ta tv h z =
      let both_are = and_parts (rules.accepts_type o kind) (rules.may_negate negated kind) h in
      let same = same-sense o in
      let t = turned negated v kind m (a ∷ cells) tv both_are.1 in
      let zero = stays o negated kind v t.value h z t.is in
      let takes : sense_takes (class_of o) (type_of a) ≡ true =
      subst (λ k. sense_takes (class_of o) k ≡ true) (sym ta)
      (sym (same.takes kind) ∙ both_are.0) in
      let made =
      combined-made (class_of o) a t.value (t.type ∙ sym ta) takes
      (ap (λ d. d && int_eq (number_of t.value) (pos 0)) (sym same.divides) ∙ zero) in
      record {
        second = t.value;
        turns = t.is;
        value = made.value;
        is = made.is;
        type = made.type ∙ ap (sense_gives (class_of o)) ta ∙ sym (same.gives kind);
        does = both now (negation_code negated) _ _ _ _ t.does
            (subst (λ k. DoesAll now (class_instr (class_of o) k ∷ [])
            (holding (t.value ∷ a ∷ cells) m) (holding (made.value ∷ cells) m)) ta
            (alone now _ _ _ (joined now (flat m) m.timers (class_of o) a t.value made.value cells
            made.is)));
      }

  -- a literal that may divide is not 0
  divisor : (d : Bool) (x : TypedOperand) (v : Value) (m : Memory) → d && not (is_divisor x) ≡ false
      → operand_value x m ≡ Some v → d && int_eq (number_of v) (pos 0) ≡ false
  divisor false x v m h e = refl
  divisor true (operand.Literal w) v m h e =
      let same : w ≡ v = cc in
      subst (λ y. int_eq (number_of y) (pos 0) ≡ false) same
      (elim (int_eq (number_of w) (pos 0)) as
      (λ b. not (not b) ≡ false → b ≡ false) [ true ↦ (λ g. g) | false ↦ (λ g. refl) ] h)
  divisor true (operand.Slot s) v m h e = absurd cc
  divisor true (operand.TimerOutput n what) v m h e = absurd cc

  -- ---- operations

  -- what code gives from cells and a memory: what is meant, with its result in one cell on those
  -- below
  pub record Gives (code : List Instr) (from : Core) (below : List Value)
      (t : Option ElementaryType) (meant : Option State) : Type 0 where
    pub state : State
    pub is : meant ≡ Some state
    pub cell : Value
    pub agrees : Agrees t state.result cell
    pub typed : HasTypes c state.memory
    pub does : DoesAll now code from (holding (cell ∷ below) state.memory)

  -- a slot is written
  record Wrote (s : typed.Slot) (v : Value) (m : Memory) (cells : List Value) : Type 0 where
    is : store_value s v m ≡ Some (with_value s v m)
    typed : HasTypes c (with_value s v m)
    holds : core cells (slice_set (flat m) (slot_number (length c.externals) s) v) m.timers
        ≡ holding cells (with_value s v m)

  wrote : (s : typed.Slot) (v old : Value) (m : Memory) (cells : List Value) → HasTypes c m
      → slot_type c s ≡ Some (type_of v) → slot_value s m ≡ Some old → type_of old ≡ type_of v
      → Wrote s v m cells
  wrote s v old m cells ty st is t =
      let same : same_type (type_of v) (type_of old) ≡ true = rw t (type-self (type_of v)) in
      let new = changed c m s v ty st in
      record { is = rw (is, same) refl; typed = new.typed; holds = rw (new.slots, new.timers) refl }

  -- what a store leaves
  record Stores (how : StoreKind) (s : typed.Slot) (v : Value) (m : Memory) (below : List Value)
      : Type 0 where
    after : Memory
    is : memory_after_store how s v m ≡ Some after
    typed : HasTypes c after
    does : DoesAll now (store_code how (slot_number (length c.externals) s)) (holding (v ∷ below) m)
        (holding (v ∷ below) after)

  plain-does : (s : typed.Slot) (v : Value) (m : Memory) (below : List Value)
      (kind : ElementaryType) → HasTypes c m → slot_type c s ≡ Some kind → type_of v ≡ kind
      → Stores store.Plain s v m below
  plain-does s v m below kind ty st t =
      let old = there c m s kind ty st in
      let same : same_type (type_of v) (type_of old.value) ≡ true =
      rw (t, old.type) (type-self kind) in
      let w = wrote s v old.value m (v ∷ below) ty (st ∙ ap (λ k. Some k) (sym t)) old.is
      (old.type ∙ sym t) in
      record {
        after = with_value s v m;
        is = w.is;
        typed = w.typed;
        does = subst (λ x. DoesAll now (Slot Store (slot_number (length c.externals) s) ∷ [])
            (holding (v ∷ below) m) x) w.holds
            (alone now _ _ _ (kept now (flat m) m.timers _ v old.value below old.slot same));
      }

  not-not : (b : Bool) → not (not b) ≡ b
  not-not true = refl
  not-not false = refl

  negated-does : (s : typed.Slot) (b : Bool) (m : Memory) (below : List Value) → HasTypes c m
      → slot_type c s ≡ Some elementary.Bool → Stores store.Negated s (Truth b) m below
  negated-does s b m below ty st =
      let w = plain-does s (Truth (not b)) m below elementary.Bool ty st refl in
      record {
        after = w.after;
        is = w.is;
        typed = w.typed;
        does = (
          holding (Truth (not b) ∷ below) m,
          inverted now (flat m) m.timers b below,
          both now (store_code store.Plain (slot_number (length c.externals) s)) (Not ∷ [])
              (holding (Truth (not b) ∷ below) m) (holding (Truth (not b) ∷ below) w.after)
              (holding (Truth b ∷ below) w.after) w.does
              (subst (λ x. DoesAll now (Not ∷ []) (holding (Truth (not b) ∷ below) w.after)
              (holding (Truth x ∷ below) w.after)) (not-not b)
              (alone now Not _ _ (inverted now (flat w.after) w.after.timers (not b) below))),
        );
      }

  -- a BOOL that a slot has, written back, changes nothing
  written-back : (s : typed.Slot) (m : Memory) (old : Value) (cells : List Value)
      → slice_get (flat m) (slot_number (length c.externals) s) ≡ Some old
      → core cells (slice_set (flat m) (slot_number (length c.externals) s) old) m.timers
      ≡ holding cells m
  written-back s m old cells h = ap (λ x. core cells x m.timers) (set-same (flat m) _ old h)

  set-does : (s : typed.Slot) (b old : Bool) (m : Memory) (below : List Value) → HasTypes c m
      → slot_type c s ≡ Some elementary.Bool → slot_value s m ≡ Some (Truth old)
      → slice_get (flat m) (slot_number (length c.externals) s) ≡ Some (Truth old)
      → Stores store.Set s (Truth b) m below
  set-does s true old m below ty st is at =
      let w = wrote s (Truth true) (Truth old) m (Truth true ∷ below) ty st is refl in
      record {
        after = with_value s (Truth true) m;
        is = w.is;
        typed = w.typed;
        does = (_, set_if now (flat m) m.timers _ true old below at, w.holds);
      }
  set-does s false old m below ty st is at =
      record {
        after = m;
        is = refl;
        typed = ty;
        does = (
          _,
          set_if now (flat m) m.timers _ false old below at,
          written-back s m (Truth old) (Truth false ∷ below) at,
        );
      }

  reset-does : (s : typed.Slot) (b old : Bool) (m : Memory) (below : List Value) → HasTypes c m
      → slot_type c s ≡ Some elementary.Bool → slot_value s m ≡ Some (Truth old)
      → slice_get (flat m) (slot_number (length c.externals) s) ≡ Some (Truth old)
      → Stores store.Reset s (Truth b) m below
  reset-does s true old m below ty st is at =
      let w = wrote s (Truth false) (Truth old) m (Truth true ∷ below) ty st is refl in
      record {
        after = with_value s (Truth false) m;
        is = w.is;
        typed = w.typed;
        does = (_, reset-if now (flat m) m.timers _ true old below at, w.holds);
      }
  reset-does s false old m below ty st is at =
      record {
        after = m;
        is = refl;
        typed = ty;
        does = (
          _,
          reset-if now (flat m) m.timers _ false old below at,
          written-back s m (Truth old) (Truth false ∷ below) at,
        );
      }

  truth-does : (how : StoreKind) (s : typed.Slot) (b : Bool) (m : Memory) (below : List Value)
      → HasTypes c m → slot_type c s ≡ Some elementary.Bool → Stores how s (Truth b) m below
  truth-does how s b m below ty st = by-old (there c m s elementary.Bool ty st) how
    where
      by-truth : (old : Bool) (v : Value) → v ≡ Truth old → slot_value s m ≡ Some v
          → slice_get (flat m) (slot_number (length c.externals) s) ≡ Some v → (how : StoreKind)
          → Stores how s (Truth b) m below
      by-truth old v e is at store.Plain = plain-does s (Truth b) m below elementary.Bool ty st refl
      by-truth old v e is at store.Negated = negated-does s b m below ty st
      by-truth old v e is at store.Set =
          set-does s b old m below ty st (is ∙ ap (λ x. Some x) e) (at ∙ ap (λ x. Some x) e)
      by-truth old v e is at store.Reset =
          reset-does s b old m below ty st (is ∙ ap (λ x. Some x) e) (at ∙ ap (λ x. Some x) e)

      by-old : There c m s elementary.Bool → (how : StoreKind) → Stores how s (Truth b) m below
      by-old old how = let b =
          truth-is old.value old.type in by-truth b.0 old.value b.1 old.is old.slot how

  bool-does : (how : StoreKind) (s : typed.Slot) (v : Value) (m : Memory) (below : List Value)
      (kind : ElementaryType) → HasTypes c m → slot_type c s ≡ Some kind
      → kind ≡ elementary.Bool → type_of v ≡ kind → Stores how s v m below
  bool-does how s v m below kind ty st e t =
      let b = truth-is v (t ∙ e) in
      subst (λ x. Stores how s x m below) (sym b.1)
      (truth-does how s b.0 m below ty (st ∙ ap (λ k. Some k) e))

  -- a store that is not plain is of a BOOL
  store-does : (how : StoreKind) (s : typed.Slot) (v : Value) (m : Memory) (below : List Value)
      (kind : ElementaryType) → HasTypes c m → slot_type c s ≡ Some kind
      → rules.may_negate (not (rules.is_plain how)) kind ≡ true → type_of v ≡ kind
      → Stores how s v m below
  store-does store.Plain s v m below kind ty st h t = plain-does s v m below kind ty st t
  store-does store.Negated s v m below kind ty st h t =
      bool-does store.Negated s v m below kind ty st (boolean-is kind h) t
  store-does store.Set s v m below kind ty st h t =
      bool-does store.Set s v m below kind ty st (boolean-is kind h) t
  store-does store.Reset s v m below kind ty st h t =
      bool-does store.Reset s v m below kind ty st (boolean-is kind h) t

  pub operation-does : (o : SimpleOperation) (t u : Option ElementaryType) (s : State)
      (cell : Value) (below : List Value) → IsOperation c o t u → Agrees t s.result cell
      → HasTypes c s.memory → length below + 2 ≤ most_cells
      → Gives (operation_code (length c.externals) o) (holding (cell ∷ below) s.memory) below u
      (state_after o s)
  operation-does (op.Load negated x) t u s cell below ok ag ty room =
      let f = operand-does x ok.0 s.memory below ty ok.1 (omega arith) in
      let g = turned negated f.value ok.0 s.memory below f.type ok.2 in
      record {
        state = record s { result = Some g.value };
        is = bound _ f.value _ _ f.is (bound _ g.value _ _ g.is refl);
        cell = g.value;
        agrees = subst (λ w. Agrees w (Some g.value) g.value) (sym ok.3) (refl, g.type);
        typed = ty;
        does = (_, dropped now (flat s.memory) s.memory.timers cell below, (_, f.does, g.does));
      }
  operation-does (op.Store how slot) t u s cell below ok ag ty room =
      let a : Agrees (Some ok.0) s.result cell = subst (λ w. Agrees w s.result cell) ok.4 ag in
      let w = store-does how slot cell s.memory below ok.0 ty ok.1 ok.3 a.1 in
      record {
        state = record s { memory = w.after };
        is = bound _ cell _ _ a.0 (bound _ w.after _ _ w.is refl);
        cell = cell;
        agrees = subst (λ w. Agrees w s.result cell) (sym ok.5) ag;
        typed = w.typed;
        does = w.does;
      }
  operation-does (op.Combine operator kind negated x) t u s cell below ok ag ty room =
      let a : Agrees (Some kind) s.result cell = subst (λ w. Agrees w s.result cell) ok.3 ag in
      let f = operand-does x kind s.memory (cell ∷ below) ty ok.0 (omega arith) in
      let j = operator-does operator negated kind cell f.value s.memory below a.1 f.type ok.1
      (divisor (rules.divides operator) x f.value s.memory ok.2 f.is) in
      record {
        state = record s { result = Some j.value };
        is = bound _ cell _ _ a.0
            (bound _ f.value _ _ f.is
            (bound _ j.second _ _ j.turns (bound _ j.value _ _ j.is refl)));
        cell = j.value;
        agrees = subst (λ w. Agrees w (Some j.value) j.value) (sym ok.4) (refl, j.type);
        typed = ty;
        does = (_, f.does, j.does);
      }
  operation-does op.Not t u s cell below ok ag ty room =
      let a : Agrees (Some elementary.Bool) s.result cell =
      subst (λ w. Agrees w s.result cell) ok.0 ag in
      let g = turned true cell elementary.Bool s.memory below a.1 refl in
      record {
        state = record s { result = Some g.value };
        is = bound _ cell _ _ a.0 (bound _ g.value _ _ g.is refl);
        cell = g.value;
        agrees = subst (λ w. Agrees w (Some g.value) g.value) (sym (ok.1 ∙ ok.0)) (refl, g.type);
        typed = ty;
        does = g.does;
      }
  operation-does (op.Convert conversion) t u s cell below ok ag ty room =
      let a : Agrees (Some (rules.converted_from conversion)) s.result cell =
      subst (λ w. Agrees w s.result cell) ok.0 ag in
      let g = widened-made conversion cell a.1 in
      record {
        state = record s { result = Some g.value };
        is = bound _ cell _ _ a.0 (bound _ g.value _ _ g.is refl);
        cell = g.value;
        agrees = subst (λ w. Agrees w (Some g.value) g.value) (sym ok.1) (refl, g.type);
        typed = ty;
        does = alone now _ _ _ (wider now (flat s.memory) s.memory.timers (widening_of conversion)
            cell g.value below g.is);
      }

  -- ---- parentheses

  mutual
    pub entry-does : (e : Entry) (t u : Option ElementaryType) (s : State) (cell : Value)
        (below : List Value) → IsEntry c e t u → Agrees t s.result cell → HasTypes c s.memory
        → length below + entry_depth e + 2 ≤ most_cells
        → Gives (entry_code (length c.externals) e) (holding (cell ∷ below) s.memory) below u
        (mean_entry e s)
    entry-does (operation o) t u s cell below ok ag ty room =
        operation-does o t u s cell below ok ag ty (omega arith)
    entry-does (block operator kind negated es) t u s cell below ok ag ty room =
        let a : Agrees (Some kind) s.result cell = subst (λ w. Agrees w s.result cell) ok.3 ag in
        let g = entries-do es None (Some kind) (without_result s) (Truth false) (cell ∷ below) ok.0
        tt ty (omega arith) in
        let j = operator-does operator negated kind cell g.cell g.state.memory below a.1 g.agrees.1
        ok.1 (and_left (rules.divides operator) _ ok.2) in
        record {
          state = record { result = Some j.value; memory = g.state.memory };
          is = bound _ g.state _ _ g.is
              (bound _ cell _ _ a.0
              (bound _ g.cell _ _ g.agrees.0
              (bound _ j.second _ _ j.turns (bound _ j.value _ _ j.is refl))));
          cell = j.value;
          agrees = subst (λ w. Agrees w (Some j.value) j.value) (sym ok.4) (refl, j.type);
          typed = g.typed;
          does = (
            _,
            pushed now (flat s.memory) s.memory.timers (Truth false) (cell ∷ below)
                (omega arith),
            both now (entries_code (length c.externals) es) _ _ _ _ g.does j.does,
          );
        }

    entries-do : (es : Entries) (t u : Option ElementaryType) (s : State) (cell : Value)
        (below : List Value) → AreEntries c es t u → Agrees t s.result cell → HasTypes c s.memory
        → length below + entries_depth es + 2 ≤ most_cells
        → Gives (entries_code (length c.externals) es) (holding (cell ∷ below) s.memory) below u
        (mean_entries es s)
    entries-do no_entries t u s cell below ok ag ty room =
        record {
          state = s;
          is = refl;
          cell = cell;
          agrees = subst (λ w. Agrees w s.result cell) (sym ok) ag;
          typed = ty;
          does = refl;
        }
    entries-do (entry e es) t u s cell below ok ag ty room =
        let g = entry-does e t ok.0 s cell below ok.1 ag ty (omega arith) in
        let r = entries-do es ok.0 u g.state g.cell below ok.2 g.agrees g.typed (omega arith) in
        record {
          state = r.state;
          is = bound _ g.state _ _ g.is r.is;
          cell = r.cell;
          agrees = r.agrees;
          typed = r.typed;
          does = both now (entry_code (length c.externals) e) _ _ _ _ g.does r.does;
        }
