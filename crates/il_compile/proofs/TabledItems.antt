-- The rows of a program's items, and of the end behind them.
use Rattle.std.proofs.Common.{◌≡◌, ℕ, ◌+◌, ⊎_elim, Bool, true, false, ◌==◌, ◌||◌, if◌then◌else◌, List, [], ◌∷◌, ◌++◌, length, Option, Some, None, is_some, refl, sym, ap, subst, ◌∙◌, arith, append_assoc}
use Rattle.std.proofs.lemmas.Bool.{eqb-true, eq-eqb}
use Rattle.bay_base.specs.declared.types.ElementaryType.{ElementaryType}
use Rattle.il_text.specs.declared.program.Condition.{Condition}
use Rattle.il_text.specs.declared.program.Condition.TheVariants.{Always, IfTrue, IfFalse}
use Rattle.il_image.specs.Effects.{kinds_after}
use Rattle.il_image.specs.Images.{Each}
use Rattle.il_image.specs.Kinds.{AreWithin, is_within}
use Rattle.il_image.specs.Spelling.{spelling}
use Rattle.il_image.specs.Tables.{FitsTable, LeadsTo, Table}
use Rattle.il_image.specs.declared.instr.Instr.{Instr}
use Rattle.il_image.specs.declared.instr.Instr.TheVariants.{Halt, Jump, Timer}
use Rattle.il_image.specs.declared.kind.CellKind.{CellKind}
use Rattle.il_image.specs.declared.kind.CellKind.TheVariants.{Any}
use Rattle.il_image.specs.declared.opcode.TimerUse.TheVariants.{Run}
use Rattle.il_image.proofs.KindLemmas.{within-along, within-any, within-self}
use Rattle.il_check.specs.Labelling.{Becomes, Incoming, FallAgrees, Labelling, flow_state, type_after_label, is_named}
use Rattle.il_check.specs.Program.{Checked, ProgramItem, label, plain, transfer}
use Rattle.il_check.specs.TypedProgram.{AreItems, TestsBool, incoming_after_condition}
use Rattle.il_check.specs.declared.typed.Transfer.{Transfer}
use Rattle.il_check.specs.declared.typed.Transfer.TheVariants as go
use Rattle.il_compile.specs.Code.{arguments_code, entry_code, items_code, octets, octets_before, transfer_code}
use Rattle.il_compile.specs.Compiled.{image_of}
use Rattle.il_compile.specs.OperatorClasses.{when_of}
use Rattle.il_compile.proofs.Placing.{octets-both, octets_more}
use Rattle.il_compile.proofs.TabledAgrees.{AreRight, IsRight}
use Rattle.il_compile.proofs.TabledFlows.{call-flows, entry-flows}
use Rattle.il_compile.proofs.TabledRows.{Row, behind-rows, instrs-both, instrs_of, table_of}
use Rattle.il_compile.proofs.TabledSteps.{Flow, Keeps, kind_at, slots, timers}

each-both : {A : Type 0} (P : A → Type 0) (a b : List A) → Each P a → Each P b → Each P (a ++ b)
each-both P [] b h k = k
each-both P (x ∷ a) b h k = (h.0, each-both P a b h.1 k)

all-within : (ks : List CellKind) → AreWithin ks ks
all-within [] = tt
all-within (k ∷ ks) = (within-self k, all-within ks)

pub enters-less : (table : Table) (d : ℕ) (j k : CellKind) → is_within j k ≡ true
    → FitsTable table d (k ∷ []) → FitsTable table d (j ∷ [])
enters-less table d j k h e = by-most e.0 e.1 e.2
  where
    by-most : (most : List CellKind) → table d ≡ Some most → AreWithin (k ∷ []) most
        → FitsTable table d (j ∷ [])
    by-most [] is w = absurd w
    by-most (m ∷ ms) is w = (m ∷ ms, is, (within-along j k m h w.0, w.1))

become-within : (t u : Option ElementaryType) → Becomes t u
    → is_within (kind_at t) (kind_at u) ≡ true
become-within t u b =
    ⊎_elim (λ (e : u ≡ t). subst (λ w. is_within (kind_at t) (kind_at w) ≡ true) (sym e)
    (within-self (kind_at t)))
    (λ (e : u ≡ None). subst (λ w. is_within (kind_at t) (kind_at w) ≡ true) (sym e)
    (within-any (kind_at t))) b

-- rows behind others
further : (front rows : List Row) (size d : ℕ) (ks : List CellKind)
    → octets (instrs_of front) ≡ size → FitsTable (table_of rows) d ks
    → FitsTable (table_of (front ++ rows)) (size + d) ks
further front rows size d ks e h =
    (h.0, ap (λ n. table_of (front ++ rows) (n + d)) (sym e) ∙ behind-rows front rows d ∙ h.1, h.2)

module _ (c : Checked) where
  pub flow-straight : (code : List Instr) (ks js : List CellKind) → Flow c code ks js
      → Each (λ i. LeadsTo i 0 0) code
  flow-straight [] ks js f = tt
  flow-straight (i ∷ code) ks js f = (f.1.goes, flow-straight code f.0 js f.2)

  flow-keeps : (code : List Instr) (ks js : List CellKind) → Flow c code ks js → Each (Keeps c) code
  flow-keeps [] ks js f = tt
  flow-keeps (i ∷ code) ks js f = (f.1.keeps, flow-keeps code f.0 js f.2)

  -- the rows of instructions before others
  record Put (code : List Instr) (ks : List CellKind) (rows : List Row) : Type 0 where
    front : List Row
    same : instrs_of front ≡ code
    right : AreRight (image_of c) (front ++ rows)
    first : FitsTable (table_of (front ++ rows)) 0 ks

  put : (code : List Instr) (ks js : List CellKind) (rows : List Row) → Flow c code ks js
      → AreRight (image_of c) rows → FitsTable (table_of rows) 0 js → Put code ks rows
  put [] ks js rows f right first =
      record {
        front = [];
        same = refl;
        right = right;
        first = subst (λ x. FitsTable (table_of rows) 0 x) (sym f) first;
      }
  put (i ∷ code) ks js rows f right first =
      let p = put code f.0 js rows f.2 right first in
      record {
        front = record { instr = i; kinds = ks } ∷ p.front;
        same = ap (λ l. i ∷ l) p.same;
        right = (
          record {
            after = f.0;
            effect = f.1.effect;
            enters =
                λ d l. subst (λ x. FitsTable (table_of (p.front ++ rows)) x f.0)
                (sym (f.1.straight d l)) p.first;
            room = f.1.room;
          },
          p.right,
        );
        first = (ks, refl, all-within ks);
      }

  -- ---- jumps

  jump-right : (condition : Condition) (n : ℕ) (t : Option ElementaryType) (rows : List Row)
      → TestsBool condition t → FitsTable (table_of rows) n (kind_at t ∷ [])
      → (incoming_after_condition condition t ≡ Some t
      → FitsTable (table_of rows) 0 (kind_at t ∷ []))
      → IsRight (image_of c) (record { instr = Jump (when_of condition) n; kinds = kind_at t ∷ [] })
      rows
  jump-right Always n t rows ok far near = record {
    after = kind_at t ∷ [];
    effect = refl;
    enters =
        λ d l. subst (λ x. FitsTable (table_of rows) x (kind_at t ∷ []))
        (let z : n ≡ d = omega arith in z) far;
    room = omega arith;
  }
  jump-right IfTrue n t rows ok far near = record {
    after = kind_at t ∷ [];
    effect =
        subst (λ w. kinds_after (slots c) (timers c) (Jump (when_of IfTrue) n) (kind_at w ∷ [])
        ≡ Some (kind_at w ∷ [])) (sym ok) refl;
    enters =
        λ d l. ⊎_elim (λ (e : d ≡ 0). subst (λ x. FitsTable (table_of rows) x (kind_at t ∷ []))
        (sym e)
        (near refl))
        (λ (e : d ≡ 0 + n). subst (λ x. FitsTable (table_of rows) x (kind_at t ∷ []))
        (let z : n ≡ d = omega arith in z) far) l;
    room = omega arith;
  }
  jump-right IfFalse n t rows ok far near = record {
    after = kind_at t ∷ [];
    effect =
        subst (λ w. kinds_after (slots c) (timers c) (Jump (when_of IfFalse) n) (kind_at w ∷ [])
        ≡ Some (kind_at w ∷ [])) (sym ok) refl;
    enters =
        λ d l. ⊎_elim (λ (e : d ≡ 0). subst (λ x. FitsTable (table_of rows) x (kind_at t ∷ []))
        (sym e)
        (near refl))
        (λ (e : d ≡ 0 + n). subst (λ x. FitsTable (table_of rows) x (kind_at t ∷ []))
        (let z : n ≡ d = omega arith in z) far) l;
    room = omega arith;
  }

still-named : (k : ℕ) (named : List ℕ) (l : ℕ) → is_named named l ≡ true
    → is_named (k ∷ named) l ≡ true
still-named k named l h =
    elim (k == l) as (λ b. b || is_named named l ≡ true) [ true ↦ refl | false ↦ h ]

-- what comes is one thing
same-coming : (now : Incoming) (t u : Option ElementaryType) → now ≡ Some t → now ≡ Some u → t ≡ u
same-coming now t u e f = let g : Some t ≡ Some u = sym e ∙ f in cc

module _ (c : Checked) (labels : Labelling) where
  -- the rows of the items and of HALT: what comes enters the first, what a label has the first
  -- behind it, and all the last
  pub record Tail (is : List ProgramItem) (named : List ℕ) (now : Incoming) : Type 0 where
    pub rows : List Row
    pub same : instrs_of rows ≡ items_code (length c.externals) is ++ Halt ∷ []
    pub right : AreRight (image_of c) rows
    pub first : (t : Option ElementaryType) → now ≡ Some t
        → FitsTable (table_of rows) 0 (kind_at t ∷ [])
    pub labelled : (l : ℕ) → is_named named l ≡ true
        → FitsTable (table_of rows) (octets_before (length c.externals) l is)
        (kind_at (labels l) ∷ [])
    pub ended : (k : CellKind)
        → FitsTable (table_of rows) (octets (items_code (length c.externals) is)) (k ∷ [])
    pub keeps : Each (Keeps c) (items_code (length c.externals) is)

  end-tail : (named : List ℕ) (now : Incoming) → Tail [] named now
  end-tail named now = record {
    rows = record { instr = Halt; kinds = Any ∷ [] } ∷ [];
    same = refl;
    right = (
      record {
        after = Any ∷ [];
        effect = refl;
        enters = λ d l. absurd l;
        room = omega arith;
      },
      tt,
    );
    first = λ t e. (Any ∷ [], refl, (within-any (kind_at t), tt));
    labelled = λ l h. (Any ∷ [], refl, (within-any (kind_at (labels l)), tt));
    ended = λ k. (Any ∷ [], refl, (within-any k, tt));
    keeps = tt;
  }

  -- an item without jumps
  straight-tail : (i : ProgramItem) (is : List ProgramItem) (a : List Instr) (named : List ℕ)
      (now : Incoming)
      (t u : Option ElementaryType) (top : CellKind) → now ≡ Some t
      → items_code (length c.externals) (i ∷ is) ≡ a ++ items_code (length c.externals) is
      → ((l : ℕ) → octets_before (length c.externals) l (i ∷ is)
      ≡ octets a + octets_before (length c.externals) l is)
      → Flow c a (kind_at t ∷ []) (top ∷ []) → is_within top (kind_at u) ≡ true
      → Tail is named (Some u) → Tail (i ∷ is) named now
  straight-tail i is a named now t u top comes same before flow fit next =
      let p = put c a (kind_at t ∷ []) (top ∷ []) next.rows flow next.right
      (enters-less (table_of next.rows) 0 top (kind_at u) fit (next.first u refl)) in
      let size : octets (instrs_of p.front) ≡ octets a = ap octets p.same in
      record {
        rows = p.front ++ next.rows;
        same = instrs-both p.front next.rows ∙ ap (λ l. l ++ instrs_of next.rows) p.same
            ∙ ap (λ l. a ++ l) next.same
            ∙ sym (append_assoc a (items_code (length c.externals) is) (Halt ∷ []))
            ∙ ap (λ l. l ++ Halt ∷ []) (sym same);
        right = p.right;
        first = λ w e. subst (λ x. FitsTable (table_of (p.front ++ next.rows)) 0 (kind_at x ∷ []))
            (same-coming now t w comes e) p.first;
        labelled =
            λ l h. subst (λ d. FitsTable (table_of (p.front ++ next.rows)) d
            (kind_at (labels l) ∷ []))
            (sym (before l))
            (further p.front next.rows (octets a) (octets_before (length c.externals) l is)
            (kind_at (labels l) ∷ []) size (next.labelled l h));
        ended = λ k. subst (λ d. FitsTable (table_of (p.front ++ next.rows)) d (k ∷ []))
            (sym (ap octets same ∙ octets-both a (items_code (length c.externals) is)))
            (further p.front next.rows (octets a) (octets (items_code (length c.externals) is))
            (k ∷ []) size (next.ended k));
        keeps = subst (Each (Keeps c)) (sym same)
            (each-both (Keeps c) a (items_code (length c.externals) is)
            (flow-keeps c a (kind_at t ∷ []) (top ∷ []) flow) next.keeps);
      }

  -- a jump over so many octets
  jump-tail : (x : Transfer) (condition : Condition) (n : ℕ) (is : List ProgramItem)
      (named more : List ℕ)
      (now : Incoming) (t : Option ElementaryType) → now ≡ Some t
      → items_code (length c.externals) (transfer x ∷ is)
      ≡ Jump (when_of condition) n ∷ items_code (length c.externals) is
      → octets (transfer_code (length c.externals) x 0)
      ≡ length (spelling (Jump (when_of condition) n))
      → TestsBool condition t → ((l : ℕ) → is_named named l ≡ true → is_named more l ≡ true)
      → (next : Tail is more (incoming_after_condition condition t))
      → FitsTable (table_of next.rows) n (kind_at t ∷ []) → Tail (transfer x ∷ is) named now
  jump-tail x condition n is named more now t comes same size ok still next far =
      let j = Jump (when_of condition) n in
      let row : Row = record { instr = j; kinds = kind_at t ∷ [] } in
      let front : octets (j ∷ []) ≡ length (spelling j) =
      (let m = octets_more j [] in omega arith) in
      record {
        rows = row ∷ next.rows;
        same = ap (λ l. j ∷ l) next.same ∙ ap (λ l. l ++ Halt ∷ []) (sym same);
        right = (jump-right c condition n t next.rows ok far (next.first t), next.right);
        first = λ w e. (
          kind_at t ∷ [],
          refl,
          subst (λ x. AreWithin (kind_at x ∷ []) (kind_at t ∷ [])) (same-coming now t w comes e)
              (all-within (kind_at t ∷ [])),
        );
        labelled =
            λ l h. further (row ∷ []) next.rows (octets (transfer_code (length c.externals) x 0))
            (octets_before (length c.externals) l is) (kind_at (labels l) ∷ []) (front ∙ sym size)
            (next.labelled l (still l h));
        ended = λ k. subst (λ d. FitsTable (table_of (row ∷ next.rows)) d (k ∷ []))
            (sym (ap octets same ∙ octets_more j (items_code (length c.externals) is)))
            (further (row ∷ []) next.rows (length (spelling j))
            (octets (items_code (length c.externals) is)) (k ∷ []) front (next.ended k));
        keeps = subst (Each (Keeps c)) (sym same) (tt, next.keeps);
      }

  -- behind a label to which a way leads
  label-comes : (passed : ℕ) (named : List ℕ) (now : Incoming) (t : Option ElementaryType)
      → now ≡ Some t → type_after_label labels (flow_state passed named now) ≡ Some (labels passed)
  label-comes passed named now t e = rw e refl

  label-named : (passed : ℕ) (named : List ℕ) (now : Incoming) → is_named named passed ≡ true
      → type_after_label labels (flow_state passed named now) ≡ Some (labels passed)
  label-named passed named now h = either-way (is_some now) (is_named named passed) h
    where
      either-way : (a b : Bool) → b ≡ true
          → (if a || b then Some (labels passed) else None) ≡ Some (labels passed)
      either-way true b e = refl
      either-way false b e = rw e refl

  label-tail : (n passed : ℕ) (is : List ProgramItem) (named : List ℕ) (now : Incoming) → n ≡ passed
      → FallAgrees labels passed now
      → Tail is named (type_after_label labels (flow_state passed named now))
      → Tail (label n ∷ is) named now
  label-tail n passed is named now same falls next = record {
    rows = next.rows;
    same = next.same;
    right = next.right;
    first = λ t e.
        enters-less (table_of next.rows) 0 (kind_at t) (kind_at (labels passed))
        (become-within t (labels passed) (subst (λ w. FallAgrees labels passed w) e falls))
        (next.first (labels passed) (label-comes passed named now t e));
    labelled = λ l h.
        elim (n == l) as (λ b. (n == l) ≡ b
        → FitsTable (table_of next.rows) (if b then 0 else octets_before (length c.externals) l is)
        (kind_at (labels l) ∷ [])) [
          | true ↦ (λ e.
              (let here : passed ≡ l = sym same ∙ eqb-true n l e in
              let named_it : is_named named passed ≡ true =
              subst (λ k. is_named named k ≡ true) (sym here) h in
              subst (λ k. FitsTable (table_of next.rows) 0 (kind_at (labels k) ∷ [])) here
              (next.first (labels passed) (label-named passed named now named_it))))
          | false ↦ (λ e. next.labelled l h)
        ] refl;
    ended = next.ended;
    keeps = next.keeps;
  }

  pub tail : (is : List ProgramItem) (passed : ℕ) (named : List ℕ) (now : Incoming)
      → AreItems c labels is (flow_state passed named now) → Tail is named now
  tail [] passed named now ok = end-tail named now
  tail (label n ∷ is) passed named now ok =
      label-tail n passed is named now ok.0.0 ok.0.2
      (tail is (passed + 1) named (type_after_label labels (flow_state passed named now)) ok.1)
  tail (plain e ∷ is) passed named now ok =
      let f = entry-flows c e ok.0 ok.1 (kind_at ok.0) [] ok.2.1 (within-self (kind_at ok.0))
      (let d = ok.2.2 in omega arith) in
      straight-tail (plain e) is (entry_code (length c.externals) e) named now ok.0 ok.1 f.top
      ok.2.0 refl (λ l. refl) f.flow f.fits (tail is passed named (Some ok.1) ok.3)
  tail (transfer (go.Call n args) ∷ is) passed named now ok =
      straight-tail (transfer (go.Call n args)) is
      (arguments_code (length c.externals) n args ++ Timer Run n ∷ []) named now ok.0 None
      (kind_at ok.0) ok.1.0 refl (λ l. refl)
      (call-flows c n args (kind_at ok.0 ∷ []) ok.1.1.0 ok.1.1.1 (omega arith))
      (within-any (kind_at ok.0)) (tail is passed named (Some None) ok.2)
  tail (transfer (go.Jump condition l) ∷ is) passed named now ok =
      let next = tail is passed (l ∷ named) (incoming_after_condition condition ok.0) ok.2 in
      jump-tail (go.Jump condition l) condition (octets_before (length c.externals) l is) is named
      (l ∷ named) now ok.0 ok.1.0 refl refl ok.1.1.0 (λ k h. still-named l named k h) next
      (enters-less (table_of next.rows) (octets_before (length c.externals) l is) (kind_at ok.0)
      (kind_at (labels l)) (become-within ok.0 (labels l) ok.1.2)
      (next.labelled l (ap (λ b. b || is_named named l) (eq-eqb l l refl))))
  tail (transfer (go.Return condition) ∷ is) passed named now ok =
      let next = tail is passed named (incoming_after_condition condition ok.0) ok.2 in
      jump-tail (go.Return condition) condition (octets (items_code (length c.externals) is)) is
      named named now ok.0 ok.1.0 refl refl ok.1.1 (λ k h. h) next (next.ended (kind_at ok.0))
