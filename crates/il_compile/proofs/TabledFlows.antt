-- What operations, parentheses and calls make of the kinds on the stack.
use Rattle.std.proofs.Common.{◌≡◌, ℕ, ◌+◌, ◌<◌, ◌≤◌, ◌&&◌, Bool, true, false, not, List, [], ◌∷◌, ◌++◌, length, Option, Some, None, refl, sym, ap, subst, ◌∙◌, arith}
use Rattle.std.proofs.lemmas.Bool.{and_parts, both_ways}
use Rattle.std.specs.Prelude.{slice_get}
use Rattle.bay_base.specs.declared.types.ElementaryType.{ElementaryType}
use Rattle.bay_base.specs.declared.types.ElementaryType.TheVariants as elementary
use Rattle.il_text.specs.declared.program.Input.{Input}
use Rattle.il_text.specs.declared.program.Input.TheVariants.{In, Pt}
use Rattle.il_text.specs.declared.program.Operator.{Operator}
use Rattle.il_text.specs.declared.program.StoreKind.{StoreKind}
use Rattle.il_text.specs.declared.program.StoreKind.TheVariants as store
use Rattle.il_image.specs.Kinds.{is_within}
use Rattle.il_image.specs.declared.instr.Instr.{Instr}
use Rattle.il_image.specs.declared.instr.Instr.TheVariants.{Timer}
use Rattle.il_image.specs.declared.kind.CellKind.{CellKind}
use Rattle.il_image.specs.declared.kind.CellKind.TheVariants.{Plain, NotZero}
use Rattle.il_image.specs.declared.opcode.TimerUse.TheVariants.{Run}
use Rattle.il_image.specs.declared.value.Value.TheVariants.{Truth}
use Rattle.il_image.proofs.KindLemmas.{within-any}
use Rattle.il_image.specs.Machine.{most_cells}
use Rattle.il_check.specs.Program.{Checked, Entry, operation, block, Entries, no_entries, entry}
use Rattle.il_check.specs.Rules as rules
use Rattle.il_check.specs.TypedProgram.{AreArguments, AreEntries, IsArgument, IsEntry, IsOperation, entries_depth, entry_depth, is_divisor}
use Rattle.il_check.specs.declared.typed.SimpleOperation.{SimpleOperation}
use Rattle.il_check.specs.declared.typed.SimpleOperation.TheVariants as op
use Rattle.il_check.specs.declared.typed.TypedArgument.{TypedArgument}
use Rattle.il_check.specs.declared.typed.TypedArguments.{TypedArguments}
use Rattle.il_check.specs.declared.typed.TypedArguments.TheVariants as arguments
use Rattle.il_compile.specs.Code.{argument_code, arguments_code, entries_code, entry_code, input_use, negation_code, operator_code, operation_code, slot_number, store_code, width_of}
use Rattle.il_compile.specs.OperatorClasses.{OperatorClass, connects, computes, compares, class_of}
use Rattle.il_compile.proofs.TabledSteps.{Flow, Steps, converted, dropped, fetched, flow-both, input-set, inverted, joined, kind_at, preset-set, pushed, ran, reset-if, set_if, slots, stored, typed-slot, writable, written-slot}
use Rattle.il_compile.proofs.Values.{boolean-is, same-sense, sense_divides, sense_takes}

-- a cell of the result's type, where the result is known to be set
abbrev pub Fits : Option ElementaryType → CellKind → Type 0
Fits t top = is_within top (kind_at t) ≡ true

-- what divides takes numbers
numbers-alone : (x : OperatorClass) (kind : ElementaryType) → sense_takes x kind ≡ true
    → sense_divides x ≡ true → rules.is_number kind ≡ true
numbers-alone (connects o) kind h d = absurd cc
numbers-alone (computes o) kind h d = h
numbers-alone (compares o) kind h d = absurd cc

numbers-divide : (o : Operator) (negated : Bool) (kind : ElementaryType)
    → rules.works o negated kind ≡ true → rules.divides o ≡ true → rules.is_number kind ≡ true
numbers-divide o negated kind h d =
    let same = same-sense o in
    let both = and_parts (rules.accepts_type o kind) (rules.may_negate negated kind) h in
    numbers-alone (class_of o) kind (sym (same.takes kind) ∙ both.0) (sym same.divides ∙ d)

divisor-there : (d b : Bool) → d && not b ≡ false → d ≡ true → b ≡ true
divisor-there true true h e = refl
divisor-there true false h e = absurd cc
divisor-there false b h e = absurd cc

module _ (c : Checked) where
  -- what code leaves of the kinds on the stack: a cell of the type on those below
  pub record Leaves (code : List Instr) (from below : List CellKind) (u : Option ElementaryType)
      : Type 0 where
    pub top : CellKind
    pub fits : Fits u top
    pub flow : Flow c code from (top ∷ below)

  -- N behind an operator or a load
  negated-flows : (negated : Bool) (kind : ElementaryType) (v : CellKind) (below : List CellKind)
      → is_within v (Plain kind) ≡ true → rules.may_negate negated kind ≡ true
      → length below < most_cells
      → Leaves (negation_code negated) (v ∷ below) below (Some kind)
  negated-flows false kind v below h may room = record { top = v; fits = h; flow = refl }
  negated-flows true kind v below h may room =
      let e = boolean-is kind may in
      record {
        top = Plain elementary.Bool;
        fits = subst (λ k. is_within (Plain elementary.Bool) (Plain k) ≡ true) (sym e) refl;
        flow = (_, inverted c v below (subst (λ k. is_within v (Plain k) ≡ true) e h) room, refl);
      }

  operator-flows : (o : Operator) (negated : Bool) (kind : ElementaryType) (v a : CellKind)
      (below : List CellKind) → is_within v (Plain kind) ≡ true → is_within a (Plain kind) ≡ true
      → rules.works o negated kind ≡ true
      → (rules.divides o ≡ true → is_within v (NotZero (width_of kind)) ≡ true)
      → length below + 2 ≤ most_cells
      → Leaves (operator_code o kind negated) (v ∷ a ∷ below) below
      (Some (rules.type_of_result o kind))
  operator-flows o false kind v a below h g works d room =
      let same = same-sense o in
      let both = and_parts (rules.accepts_type o kind) (rules.may_negate false kind) works in
      let j = joined c (class_of o) kind v a below (sym (same.takes kind) ∙ both.0) h g
      (λ e. d (same.divides ∙ e)) room in
      record {
        top = j.top;
        fits = subst (λ k. is_within j.top (Plain k) ≡ true) (sym (same.gives kind)) j.fits;
        flow = (_, j.step, refl);
      }
  operator-flows o true kind v a below h g works d room =
      let same = same-sense o in
      let both = and_parts (rules.accepts_type o kind) (rules.may_negate true kind) works in
      let bool = boolean-is kind both.1 in
      let turned : is_within (Plain elementary.Bool) (Plain kind) ≡ true =
      subst (λ k. is_within (Plain elementary.Bool) (Plain k) ≡ true) (sym bool) refl in
      let never : sense_divides (class_of o) ≡ true
      → is_within (Plain elementary.Bool) (NotZero (width_of kind)) ≡ true =
      λ e. (let number : rules.is_number elementary.Bool ≡ true =
      sym (ap rules.is_number bool) ∙ numbers-divide o true kind works (same.divides ∙ e) in
      absurd cc) in
      let j = joined c (class_of o) kind (Plain elementary.Bool) a below
      (sym (same.takes kind) ∙ both.0) turned g never room in
      record {
        top = j.top;
        fits = subst (λ k. is_within j.top (Plain k) ≡ true) (sym (same.gives kind)) j.fits;
        flow = (
          _,
          inverted c v (a ∷ below) (subst (λ k. is_within v (Plain k) ≡ true) bool h)
              (omega arith),
          (_, j.step, refl),
        );
      }

  -- ---- operations

  bool-flows : (how : StoreKind) (n : ℕ) (top : CellKind) (below : List CellKind)
      → slice_get (slots c) n ≡ Some elementary.Bool → slice_get (writable c) n ≡ Some true
      → is_within top (Plain elementary.Bool) ≡ true → length below < most_cells
      → Leaves (store_code how n) (top ∷ below) below (Some elementary.Bool)
  bool-flows store.Plain n top below s w h room =
      record {
        top = top;
        fits = h;
        flow = (_, stored c n elementary.Bool top below s w h room, refl);
      }
  bool-flows store.Negated n top below s w h room = record {
    top = Plain elementary.Bool;
    fits = refl;
    flow = (
      _,
      inverted c top below h room,
      (
        _,
        stored c n elementary.Bool (Plain elementary.Bool) below s w refl room,
        (_, inverted c (Plain elementary.Bool) below refl room, refl),
      ),
    );
  }
  bool-flows store.Set n top below s w h room =
      record { top = top; fits = h; flow = (_, set_if c n top below s w h room, refl) }
  bool-flows store.Reset n top below s w h room =
      record { top = top; fits = h; flow = (_, reset-if c n top below s w h room, refl) }

  -- a store that is not plain is of a BOOL
  special-flows : (how : StoreKind) (n : ℕ) (kind : ElementaryType) (top : CellKind)
      (below : List CellKind) → kind ≡ elementary.Bool → slice_get (slots c) n ≡ Some kind
      → slice_get (writable c) n ≡ Some true
      → is_within top (Plain kind) ≡ true → length below < most_cells
      → Leaves (store_code how n) (top ∷ below) below (Some kind)
  special-flows how n kind top below e s w h room =
      subst (λ k. Leaves (store_code how n) (top ∷ below) below (Some k)) (sym e)
      (bool-flows how n top below (s ∙ ap Some e) w
      (subst (λ k. is_within top (Plain k) ≡ true) e h) room)

  store-flows : (how : StoreKind) (n : ℕ) (kind : ElementaryType) (top : CellKind)
      (below : List CellKind) → rules.may_negate (not (rules.is_plain how)) kind ≡ true
      → slice_get (slots c) n ≡ Some kind
      → slice_get (writable c) n ≡ Some true → is_within top (Plain kind) ≡ true
      → length below < most_cells
      → Leaves (store_code how n) (top ∷ below) below (Some kind)
  store-flows store.Plain n kind top below may s w h room =
      record { top = top; fits = h; flow = (_, stored c n kind top below s w h room, refl) }
  store-flows store.Negated n kind top below may s w h room =
      special-flows store.Negated n kind top below (boolean-is kind may) s w h room
  store-flows store.Set n kind top below may s w h room =
      special-flows store.Set n kind top below (boolean-is kind may) s w h room
  store-flows store.Reset n kind top below may s w h room =
      special-flows store.Reset n kind top below (boolean-is kind may) s w h room

  operation-flows : (o : SimpleOperation) (t u : Option ElementaryType) (top : CellKind)
      (below : List CellKind) → IsOperation c o t u → Fits t top → length below + 2 ≤ most_cells
      → Leaves (operation_code (length c.externals) o) (top ∷ below) below u
  operation-flows (op.Load negated x) t u top below ok fit room =
      let f = fetched c x ok.0 below ok.1 (omega arith) in
      let g = negated-flows negated ok.0 f.top below f.fits ok.2 (omega arith) in
      record {
        top = g.top;
        fits = subst (λ w. Fits w g.top) (sym ok.3) g.fits;
        flow = (below, dropped c top below (omega arith), (f.top ∷ below, f.step, g.flow));
      }
  operation-flows (op.Store how s) t u top below ok fit room =
      let g = store-flows how (slot_number (length c.externals) s) ok.0 top below ok.3
      (typed-slot c s ok.0 ok.1) (written-slot c s ok.0 ok.1 ok.2)
      (subst (λ w. Fits w top) ok.4 fit) (omega arith) in
      record {
        top = g.top;
        fits = subst (λ w. Fits w g.top) (sym (ok.5 ∙ ok.4)) g.fits;
        flow = g.flow;
      }
  operation-flows (op.Combine operator kind negated x) t u top below ok fit room =
      let f = fetched c x kind (top ∷ below) ok.0 (omega arith) in
      let g = operator-flows operator negated kind f.top top below f.fits
      (subst (λ w. Fits w top) ok.3 fit) ok.1
      (λ d. f.divides (divisor-there (rules.divides operator) (is_divisor x) ok.2 d)
      (numbers-divide operator negated kind ok.1 d)) room in
      record {
        top = g.top;
        fits = subst (λ w. Fits w g.top) (sym ok.4) g.fits;
        flow = (f.top ∷ top ∷ below, f.step, g.flow);
      }
  operation-flows op.Not t u top below ok fit room = record {
    top = Plain elementary.Bool;
    fits = subst (λ w. Fits w (Plain elementary.Bool)) (sym (ok.1 ∙ ok.0)) refl;
    flow = (_, inverted c top below (subst (λ w. Fits w top) ok.0 fit) (omega arith), refl);
  }
  operation-flows (op.Convert conversion) t u top below ok fit room =
      let g = converted c conversion top below (subst (λ w. Fits w top) ok.0 fit) (omega arith) in
      record {
        top = g.top;
        fits = subst (λ w. Fits w g.top) (sym ok.1) g.fits;
        flow = (_, g.step, refl);
      }

  -- ---- parentheses

  mutual
    pub entry-flows : (e : Entry) (t u : Option ElementaryType) (top : CellKind)
        (below : List CellKind) → IsEntry c e t u → Fits t top
        → length below + entry_depth e + 2 ≤ most_cells
        → Leaves (entry_code (length c.externals) e) (top ∷ below) below u
    entry-flows (operation o) t u top below ok fit room =
        operation-flows o t u top below ok fit (omega arith)
    entry-flows (block operator kind negated es) t u top below ok fit room =
        let g = entries-flow es None (Some kind) (Plain elementary.Bool) (top ∷ below) ok.0
        (within-any (Plain elementary.Bool)) (omega arith) in
        let j = operator-flows operator negated kind g.top top below g.fits
        (subst (λ w. Fits w top) ok.3 fit) ok.1
        (λ d. absurd (both_ways (rules.divides operator) ok.2 d)) (omega arith) in
        record {
          top = j.top;
          fits = subst (λ w. Fits w j.top) (sym ok.4) j.fits;
          flow = (
            Plain elementary.Bool ∷ top ∷ below,
            pushed c (Truth false) (top ∷ below) (omega arith),
            flow-both c (entries_code (length c.externals) es) (operator_code operator kind negated)
                (Plain elementary.Bool ∷ top ∷ below) (g.top ∷ top ∷ below) (j.top ∷ below) g.flow
                j.flow,
          );
        }

    entries-flow : (es : Entries) (t u : Option ElementaryType) (top : CellKind)
        (below : List CellKind) → AreEntries c es t u → Fits t top
        → length below + entries_depth es + 2 ≤ most_cells
        → Leaves (entries_code (length c.externals) es) (top ∷ below) below u
    entries-flow no_entries t u top below ok fit room =
        record { top = top; fits = subst (λ w. Fits w top) (sym ok) fit; flow = refl }
    entries-flow (entry e es) t u top below ok fit room =
        let g = entry-flows e t ok.0 top below ok.1 fit (omega arith) in
        let r = entries-flow es ok.0 u g.top below ok.2 g.fits (omega arith) in
        record {
          top = r.top;
          fits = r.fits;
          flow = flow-both c (entry_code (length c.externals) e)
              (entries_code (length c.externals) es) (top ∷ below) (g.top ∷ below) (r.top ∷ below)
              g.flow r.flow;
        }

  -- ---- calls

  given : (i : Input) (n : ℕ) (top : CellKind) (ks : List CellKind) → n < length c.timers
      → is_within top (Plain (rules.input_type i)) ≡ true → length ks < most_cells
      → Steps c (Timer (input_use i) n) (top ∷ ks) ks
  given In n top ks lt h room = input-set c n top ks lt h room
  given Pt n top ks lt h room = preset-set c n top ks lt h room

  argument-flows : (n : ℕ) (a : TypedArgument) (ks : List CellKind) → n < length c.timers
      → IsArgument c a → length ks < most_cells
      → Flow c (argument_code (length c.externals) n a) ks ks
  argument-flows n a ks lt ok room =
      let f = fetched c a.operand (rules.input_type a.input) ks ok (omega arith) in
      (f.top ∷ ks, f.step, (ks, given a.input n f.top ks lt f.fits room, refl))

  arguments-flow : (n : ℕ) (args : TypedArguments) (ks : List CellKind) → n < length c.timers
      → AreArguments c args → length ks < most_cells
      → Flow c (arguments_code (length c.externals) n args) ks ks
  arguments-flow n arguments.None ks lt ok room = refl
  arguments-flow n (arguments.One a) ks lt ok room = argument-flows n a ks lt ok room
  arguments-flow n (arguments.Two a b) ks lt ok room =
      flow-both c (argument_code (length c.externals) n a) (argument_code (length c.externals) n b)
      ks ks ks (argument-flows n a ks lt ok.0 room) (argument-flows n b ks lt ok.1 room)

  pub call-flows : (n : ℕ) (args : TypedArguments) (ks : List CellKind) → n < length c.timers
      → AreArguments c args → length ks < most_cells
      → Flow c (arguments_code (length c.externals) n args ++ Timer Run n ∷ []) ks ks
  call-flows n args ks lt ok room =
      flow-both c (arguments_code (length c.externals) n args) (Timer Run n ∷ []) ks ks ks
      (arguments-flow n args ks lt ok room) (ks, ran c n ks lt (omega arith), refl)
