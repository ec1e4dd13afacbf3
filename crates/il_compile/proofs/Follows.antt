-- The machine follows the program.
use Rattle.std.proofs.Common.{◌≡◌, ℕ, ◌+◌, ⊎_elim, Bool, true, false, ◌==◌, ◌||◌, if◌then◌else◌, List, [], ◌∷◌, ◌++◌, length, Option, Some, None, option_map, is_some, refl, sym, ap, subst, ◌∙◌, arith, append-nil, append_assoc}
use Rattle.std.proofs.lemmas.Bool.{eqb-true, eq-eqb}
use Rattle.bay_base.specs.Options.{◌>>=◌}
use Rattle.bay_base.specs.declared.types.ElementaryType.{ElementaryType}
use Rattle.il_text.specs.declared.program.Condition.{Condition}
use Rattle.il_image.specs.Images.{Each, all_spelled}
use Rattle.il_image.specs.Machine.{Continues, Halted, act}
use Rattle.il_image.specs.Spelling.{IsInstr, spelling}
use Rattle.il_image.specs.declared.instr.Instr.{Instr}
use Rattle.il_image.specs.declared.instr.Instr.TheVariants.{Halt, Jump}
use Rattle.il_image.specs.declared.timer.TimerState.{TimerState}
use Rattle.il_image.specs.declared.value.Value.{Value}
use Rattle.il_image.specs.declared.value.Value.TheVariants.{Truth}
use Rattle.il_image.proofs.BegunLemmas.{loose_run as run}
use Rattle.il_check.specs.Labelling.{Labelling, Incoming, Becomes, FallAgrees, flow_state, is_named, with_target, type_after_label}
use Rattle.il_check.specs.Program.{Checked, ProgramItem, label, transfer, plain}
use Rattle.il_check.specs.TypedProgram.{AreItems, IsTyped, incoming_after_condition, has_label, target_of}
use Rattle.il_check.specs.declared.typed.Transfer.{Transfer}
use Rattle.il_check.specs.declared.typed.Transfer.TheVariants as go
use Rattle.il_compile.specs.Code.{push_unset, entry_code, transfer_code, octets, octets_before, distance, items_code, program_code}
use Rattle.il_compile.specs.Correct.{HasTypes, HasMeaning}
use Rattle.il_compile.specs.Meaning.{Memory, State, mean_from}
use Rattle.il_compile.specs.OperatorClasses.{when_of}
use Rattle.il_compile.proofs.Calls.{call-does}
use Rattle.il_compile.proofs.Entries.{Agrees, holding, entry-does}
use Rattle.il_compile.proofs.Memories.{flat}
use Rattle.il_compile.proofs.Placing.{Stands, front, back}
use Rattle.il_compile.proofs.Straight.{Core, at, DoesAll, pushed}
use Rattle.il_compile.proofs.Runs.{Leads, Ends, Jumps, jumped, longer, then-ends, steps-to, straight, halting}

-- ---- the items

agrees-less : (t u : Option ElementaryType) (result : Option Value) (cell : Value) → Becomes t u
    → Agrees t result cell → Agrees u result cell
agrees-less t u result cell become ag =
    ⊎_elim (λ (e : u ≡ t). subst (λ w. Agrees w result cell) (sym e) ag)
    (λ (e : u ≡ None). subst (λ w. Agrees w result cell) (sym e) tt) become

pub transfer-size : (n : ℕ) (t : Transfer) (d : ℕ)
    → octets (transfer_code n t d) ≡ octets (transfer_code n t 0)
transfer-size n (go.Jump condition l) d = refl
transfer-size n (go.Return condition) d = refl
transfer-size n (go.Call k args) d = refl

still-named : (target : Option ℕ) (named : List ℕ) (l : ℕ) → is_named named l ≡ true
    → is_named (with_target target named) l ≡ true
still-named None named l h = h
still-named (Some k) named l h =
    elim (k == l) as (λ b. b || is_named named l ≡ true) [ true ↦ refl | false ↦ h ]

-- where a run goes on in the items: at the first, or behind a label
abbrev skipped : ℕ → Option ℕ → List ProgramItem → ℕ
skipped n None is = 0
skipped n (Some l) is = octets_before n l is

-- what is known of the result there
abbrev Comes : Labelling → Option ℕ → List ProgramItem → List ℕ → Incoming → Option Value → Value
    → Type 0
Comes labels None is named coming result cell =
    (t : Option ElementaryType) × (coming ≡ Some t) × Agrees t result cell
Comes labels (Some l) is named coming result cell =
    (has_label is l ≡ true) × (is_named named l ≡ true) × Agrees (labels l) result cell

module _ (c : Checked) (labels : Labelling) (now : ℕ) where
  abbrev externals : ℕ
  externals = length c.externals

  -- the items mean something, and their code halts with it wherever it stands
  record Finishes (sought : Option ℕ) (is : List ProgramItem) (s : State) (cell : Value)
      : Type 0 where
    state : State
    means : mean_from now sought is s ≡ Some state
    typed : HasTypes c state.memory
    ends : (code : List ℕ) (p : ℕ) → Stands code p (items_code externals is ++ Halt ∷ [])
        → Ends code now (at (p + skipped externals sought is) (holding (cell ∷ []) s.memory))
        (flat state.memory) state.memory.timers

  -- the code of one item, and of those behind it
  joined-code : (a b : List Instr) → (a ++ b) ++ Halt ∷ [] ≡ a ++ (b ++ Halt ∷ [])
  joined-code a b = append_assoc a b (Halt ∷ [])

  -- an item that is passed over
  passed-over : (l : ℕ) (a : List Instr) (size : ℕ) (i : ProgramItem) (is : List ProgramItem)
      (s : State)
      (cell : Value) → octets a ≡ size
      → items_code externals (i ∷ is) ≡ a ++ items_code externals is
      → octets_before externals l (i ∷ is) ≡ size + octets_before externals l is
      → mean_from now (Some l) (i ∷ is) s ≡ mean_from now (Some l) is s
      → Finishes (Some l) is s cell → Finishes (Some l) (i ∷ is) s cell
  passed-over l a size i is s cell e same before means f = record {
    state = f.state;
    means = means ∙ f.means;
    typed = f.typed;
    ends = λ code p h.
        (let behind = back code p a (items_code externals is ++ Halt ∷ [])
        (subst (Stands code p)
        (ap (λ x. x ++ Halt ∷ []) same ∙ joined-code a (items_code externals is)) h) in
        let there : (p + octets a) + octets_before externals l is
        ≡ p + octets_before externals l (i ∷ is) = omega (arith, e, before) in
        subst (λ q. Ends code now (at q (holding (cell ∷ []) s.memory)) (flat f.state.memory)
        f.state.memory.timers) there (f.ends code (p + octets a) behind));
  }

  -- an item that does its part and goes on
  went-on : (a : List Instr) (i : ProgramItem) (is : List ProgramItem) (s behind : State)
      (cell new : Value)
      → items_code externals (i ∷ is) ≡ a ++ items_code externals is
      → DoesAll now a (holding (cell ∷ []) s.memory) (holding (new ∷ []) behind.memory)
      → mean_from now None (i ∷ is) s ≡ mean_from now None is behind
      → Finishes None is behind new → Finishes None (i ∷ is) s cell
  went-on a i is s behind cell new same does means f = record {
    state = f.state;
    means = means ∙ f.means;
    typed = f.typed;
    ends = λ code p h.
        (let whole = subst (Stands code p)
        (ap (λ x. x ++ Halt ∷ []) same ∙ joined-code a (items_code externals is)) h in
        let rest = back code p a (items_code externals is ++ Halt ∷ []) whole in
        let there : (p + octets a) + 0 ≡ p + octets a = omega arith in
        let here : p ≡ p + 0 = omega arith in
        let tail =
        subst (λ q. Ends code now (at q (holding (new ∷ []) behind.memory))
        (flat f.state.memory) f.state.memory.timers) there (f.ends code (p + octets a) rest) in
        subst (λ q. Ends code now (at q (holding (cell ∷ []) s.memory)) (flat f.state.memory)
        f.state.memory.timers) here
        (then-ends code now _ _ _ _ (straight code now a p _ _ (front code p a _ whole) does)
        tail));
  }

  -- a label that is sought, and one that is not
  found-label : (n l : ℕ) (is : List ProgramItem) (s : State) (cell : Value) → (n == l) ≡ true
      → Finishes None is s cell → Finishes (Some l) (label n ∷ is) s cell
  found-label n l is s cell e f = record {
    state = f.state;
    means = ap (λ b. if b then mean_from now None is s else mean_from now (Some l) is s) e
        ∙ f.means;
    typed = f.typed;
    ends = λ code p h.
        subst (λ b. Ends code now
        (at (p + (if b then 0 else octets_before externals l is))
        (holding (cell ∷ []) s.memory)) (flat f.state.memory) f.state.memory.timers) (sym e)
        (f.ends code p h);
  }

  other-label : (n l : ℕ) (is : List ProgramItem) (s : State) (cell : Value) → (n == l) ≡ false
      → Finishes (Some l) is s cell → Finishes (Some l) (label n ∷ is) s cell
  other-label n l is s cell e f = record {
    state = f.state;
    means = ap (λ b. if b then mean_from now None is s else mean_from now (Some l) is s) e
        ∙ f.means;
    typed = f.typed;
    ends = λ code p h.
        subst (λ b. Ends code now
        (at (p + (if b then 0 else octets_before externals l is))
        (holding (cell ∷ []) s.memory)) (flat f.state.memory) f.state.memory.timers) (sym e)
        (f.ends code p h);
  }

  next-label : (n : ℕ) (is : List ProgramItem) (s : State) (cell : Value) → Finishes None is s cell
      → Finishes None (label n ∷ is) s cell
  next-label n is s cell f =
      record {
        state = f.state;
        means = f.means;
        typed = f.typed;
        ends = λ code p h. f.ends code p h;
      }

  -- a jump that is taken, and one that is not
  leaps : (when : Instr) (far : ℕ) (p : ℕ) (a : Core) (is : List Instr) (code : List ℕ)
      → length (spelling when) ≡ 3 → Stands code p (when ∷ is)
      → ((next : ℕ) → act now when next (at p a) ≡ Continues (at (next + far) a))
      → Leads code now (at p a) (at (p + 3 + far) a)
  leaps when far p a is code three h e =
      let z : (p + length (spelling when)) + far ≡ p + 3 + far = omega (arith, three) in
      steps-to code now when is p a (at (p + 3 + far) a) (omega arith) h
      (e (p + length (spelling when)) ∙ ap (λ q. Continues (at q a)) z)

  -- what is behind a jump that is not taken
  fell : (condition : Condition) (x : Transfer) (d : ℕ) (is : List ProgramItem) (s : State)
      (cell : Value)
      (t : Option ElementaryType) (j : Jumps condition now t s.result cell) → j.leaves ≡ false
      → transfer_code externals x d ≡ Jump (when_of condition) d ∷ []
      → items_code externals (transfer x ∷ is)
      ≡ (Jump (when_of condition) d ∷ []) ++ items_code externals is
      → mean_from now None (transfer x ∷ is) s ≡ mean_from now None is s → Finishes None is s cell
      → Finishes None (transfer x ∷ is) s cell
  fell condition x d is s cell t j stayed one same means f = record {
    state = f.state;
    means = means ∙ f.means;
    typed = f.typed;
    ends = λ code p h.
        (let whole = subst (Stands code p) (ap (λ y. y ++ Halt ∷ []) same) h in
        let rest =
        back code p (Jump (when_of condition) d ∷ []) (items_code externals is ++ Halt ∷ [])
        whole in
        let step =
        leaps (Jump (when_of condition) d) 0 p (holding (cell ∷ []) s.memory) _ code refl whole
        (λ next. (let z : next ≡ next + 0 = omega arith in
        j.does d p next (flat s.memory) s.memory.timers
        ∙ ap (λ b. Continues (at (if b then next + d else next) (holding (cell ∷ []) s.memory)))
        stayed ∙ ap (λ q. Continues (at q (holding (cell ∷ []) s.memory))) z)) in
        let here : p ≡ p + 0 = omega arith in
        subst (λ q. Ends code now (at q (holding (cell ∷ []) s.memory)) (flat f.state.memory)
        f.state.memory.timers) here
        (then-ends code now _ _ _ _ step (f.ends code (p + 3) rest)));
  }

  -- a jump that is taken
  took : (condition : Condition) (x : Transfer) (d : ℕ) (is : List ProgramItem) (s state : State)
      (cell : Value) (t : Option ElementaryType) (j : Jumps condition now t s.result cell)
      → j.leaves ≡ true
      → items_code externals (transfer x ∷ is)
      ≡ (Jump (when_of condition) d ∷ []) ++ items_code externals is
      → mean_from now None (transfer x ∷ is) s ≡ Some state → HasTypes c state.memory
      → ((code : List ℕ) (p : ℕ) → Stands code p (items_code externals is ++ Halt ∷ [])
      → Ends code now (at (p + d) (holding (cell ∷ []) s.memory)) (flat state.memory)
      state.memory.timers)
      → Finishes None (transfer x ∷ is) s cell
  took condition x d is s state cell t j left same means typed f = record {
    state = state;
    means = means;
    typed = typed;
    ends = λ code p h.
        (let whole = subst (Stands code p) (ap (λ y. y ++ Halt ∷ []) same) h in
        let rest =
        back code p (Jump (when_of condition) d ∷ []) (items_code externals is ++ Halt ∷ [])
        whole in
        let step =
        leaps (Jump (when_of condition) d) d p (holding (cell ∷ []) s.memory) _ code refl whole
        (λ next. j.does d p next (flat s.memory) s.memory.timers
        ∙ ap (λ b. Continues (at (if b then next + d else next) (holding (cell ∷ []) s.memory)))
        left) in
        let here : p ≡ p + 0 = omega arith in
        subst (λ q. Ends code now (at q (holding (cell ∷ []) s.memory)) (flat state.memory)
        state.memory.timers) here
        (then-ends code now _ _ _ _ step (f code (p + 3) rest)));
  }

  -- ---- all items

  items-finish : (is : List ProgramItem) (sought : Option ℕ) (passed : ℕ) (named : List ℕ)
      (coming : Incoming) (s : State) (cell : Value)
      → AreItems c labels is (flow_state passed named coming)
      → Comes labels sought is named coming s.result cell → HasTypes c s.memory
      → Finishes sought is s cell
  items-finish [] None passed named coming s cell ok comes ty = record {
    state = s;
    means = refl;
    typed = ty;
    ends = λ code p h. (let z : p ≡ p + 0 = omega arith in
        subst (λ q. Ends code now (at q (holding (cell ∷ []) s.memory)) (flat s.memory)
        s.memory.timers) z (halting code now p (holding (cell ∷ []) s.memory) h));
  }
  items-finish [] (Some l) passed named coming s cell ok comes ty =
      absurd (let e : false ≡ true = comes.0 in cc)
  items-finish (label n ∷ is) None passed named coming s cell ok comes ty =
      let now-is : type_after_label labels (flow_state passed named coming)
      ≡ Some (labels passed) =
      rw comes.1 refl in
      let falls : Becomes comes.0 (labels passed) =
      subst (λ w. FallAgrees labels passed w) comes.1 ok.0.2 in
      next-label n is s cell (items-finish is None (passed + 1) named
      (type_after_label labels (flow_state passed named coming)) s cell ok.1
      (labels passed, now-is, agrees-less comes.0 (labels passed) s.result cell falls comes.2)
      ty)
  items-finish (label n ∷ is) (Some l) passed named coming s cell ok comes ty =
      elim (n == l) as (λ b. (n == l) ≡ b → Finishes (Some l) (label n ∷ is) s cell) [
        | true ↦ (λ e.
            (let same : passed ≡ l = sym ok.0.0 ∙ eqb-true n l e in
            let named_it : is_named named passed ≡ true =
            subst (λ k. is_named named k ≡ true) (sym same) comes.1 in
            let now-is : type_after_label labels (flow_state passed named coming)
            ≡ Some (labels passed) =
            either-way (is_some coming) (is_named named passed) (labels passed) named_it in
            found-label n l is s cell e
            (items-finish is None (passed + 1) named
            (type_after_label labels (flow_state passed named coming)) s cell ok.1 (
              labels passed,
              now-is,
              subst (λ k. Agrees (labels k) s.result cell) (sym same) comes.2,
            ) ty)))
        | false ↦ (λ e.
            (let there : has_label is l ≡ true =
            subst (λ b. b || has_label is l ≡ true) e comes.0 in
            other-label n l is s cell e
            (items-finish is (Some l) (passed + 1) named
            (type_after_label labels (flow_state passed named coming)) s cell ok.1
            (there, comes.1, comes.2) ty)))
      ] refl
    where
      either-way : (a b : Bool) (t : Option ElementaryType) → b ≡ true
          → (if a || b then Some t else None) ≡ Some t
      either-way true b t e = refl
      either-way false b t e = rw e refl
  items-finish (transfer x ∷ is) (Some l) passed named coming s cell ok comes ty =
      passed-over l (transfer_code externals x
      (distance externals x is (octets (items_code externals is))))
      (octets (transfer_code externals x 0)) (transfer x) is s cell
      (transfer-size externals x _) refl refl refl
      (items-finish is (Some l) passed (with_target (target_of x) named) _ s cell ok.2
      (comes.0, still-named (target_of x) named l comes.1, comes.2) ty)
  items-finish (plain e ∷ is) (Some l) passed named coming s cell ok comes ty =
      passed-over l (entry_code externals e) (octets (entry_code externals e)) (plain e) is s cell
      refl refl refl refl
      (items-finish is (Some l) passed named (Some ok.1) s cell ok.3 comes ty)
  items-finish (plain e ∷ is) None passed named coming s cell ok comes ty =
      let t = ok.0 in
      let same : comes.0 ≡ t = (let f : Some comes.0 ≡ Some t = sym comes.1 ∙ ok.2.0 in cc) in
      let g = entry-does c now e t ok.1 s cell [] ok.2.1
      (subst (λ w. Agrees w s.result cell) same comes.2) ty (let d = ok.2.2 in omega arith) in
      went-on (entry_code externals e) (plain e) is s g.state cell g.cell refl g.does
      (ap (λ o. o >>= mean_from now None is) g.is)
      (items-finish is None passed named (Some ok.1) g.state g.cell ok.3 (ok.1, refl, g.agrees)
      g.typed)
  items-finish (transfer (go.Call n args) ∷ is) None passed named coming s cell ok comes ty =
      let g = call-does c now n ok.1.1.0 args (cell ∷ []) s ok.1.1.1 ty (omega arith) in
      went-on (transfer_code externals (go.Call n args) 0) (transfer (go.Call n args)) is s
      (record { result = None; memory = g.after }) cell cell refl g.does
      (ap (λ o. o >>= mean_from now None is) g.is)
      (items-finish is None passed named (Some None) (record { result = None; memory = g.after })
      cell ok.2 (None, refl, tt) g.typed)
  items-finish (transfer (go.Jump condition l) ∷ is) None passed named coming s cell ok comes ty =
      let t = ok.0 in
      let same : comes.0 ≡ t = (let f : Some comes.0 ≡ Some t = sym comes.1 ∙ ok.1.0 in cc) in
      let ag = subst (λ w. Agrees w s.result cell) same comes.2 in
      let j = jumped condition now t s.result cell ok.1.1.0 ag in
      let named_it : is_named (l ∷ named) l ≡ true = itself l (is_named named l) in
      elim j.leaves as (λ b. j.leaves ≡ b
      → Finishes None (transfer (go.Jump condition l) ∷ is) s cell) [
        | true ↦ (λ e.
            (let f = items-finish is (Some l) passed (l ∷ named)
            (incoming_after_condition condition t) s cell ok.2
            (ok.1.1.1, named_it, agrees-less t (labels l) s.result cell ok.1.2 ag) ty in
            took condition (go.Jump condition l) (octets_before externals l is) is s f.state cell t
            j e refl
            (ap (λ o. o >>= (λ (b : Bool). if b then mean_from now (Some l) is s
            else mean_from now None is s)) j.is
            ∙ ap (λ b. if b then mean_from now (Some l) is s else mean_from now None is s) e
            ∙ f.means) f.typed f.ends))
        | false ↦ (λ e.
            (fell condition (go.Jump condition l) (octets_before externals l is) is s cell t j e
            refl refl
            (ap (λ o. o >>= (λ (b : Bool). if b then mean_from now (Some l) is s
            else mean_from now None is s)) j.is
            ∙ ap (λ b. if b then mean_from now (Some l) is s else mean_from now None is s) e)
            (items-finish is None passed (l ∷ named) (incoming_after_condition condition t) s cell
            ok.2 (t, j.behind e, ag) ty)))
      ] refl
    where
      itself : (l : ℕ) (b : Bool) → (l == l) || b ≡ true
      itself l b = ap (λ x. x || b) (eq-eqb l l refl)
  items-finish (transfer (go.Return condition) ∷ is) None passed named coming s cell ok comes ty =
      let t = ok.0 in
      let same : comes.0 ≡ t = (let f : Some comes.0 ≡ Some t = sym comes.1 ∙ ok.1.0 in cc) in
      let ag = subst (λ w. Agrees w s.result cell) same comes.2 in
      let j = jumped condition now t s.result cell ok.1.1 ag in
      let d = octets (items_code externals is) in
      elim j.leaves as (λ b. j.leaves ≡ b
      → Finishes None (transfer (go.Return condition) ∷ is) s cell) [
        | true ↦ (λ e.
            (took condition (go.Return condition) d is s s cell t j e refl
            (ap (λ o. o >>= (λ (b : Bool). if b then Some s else mean_from now None is s)) j.is
            ∙ ap (λ b. if b then Some s else mean_from now None is s) e) ty
            (λ code p h. halting code now (p + d) (holding (cell ∷ []) s.memory)
            (back code p (items_code externals is) (Halt ∷ []) h))))
        | false ↦ (λ e.
            (fell condition (go.Return condition) d is s cell t j e refl refl
            (ap (λ o. o >>= (λ (b : Bool). if b then Some s else mean_from now None is s)) j.is
            ∙ ap (λ b. if b then Some s else mean_from now None is s) e)
            (items-finish is None passed named (incoming_after_condition condition t) s cell ok.2
            (t, j.behind e, ag) ty)))
      ] refl

-- ---- the whole program

-- a typed program has a meaning
pub means : (c : Checked) → IsTyped c → (now : ℕ) (m : Memory) → HasTypes c m → HasMeaning c now m
means c ok now m ty =
    let f = items-finish c ok.labels now c.items None 0 [] (Some None)
    (record { result = None; memory = m }) (Truth false) ok.items (None, refl, tt) ty in
    record { after = f.state.memory; is = ap (option_map (λ s. s.memory)) f.means; typed = f.typed }

-- a run from place 0 ends within as many steps as the code has octets
whole-run : (code : List ℕ) (now : ℕ) (a : Core) (slots : List Value) (timers : List TimerState)
    → (e : Ends code now (at 0 a) slots timers)
    → run code now (length code) (at 0 a) 0 ≡ Halted slots timers e.taken
whole-run code now a slots timers e =
    let z : 0 + e.taken ≡ e.taken = omega arith in
    longer code now e.taken (length code) (at 0 a) slots timers 0 e.taken
    (let x = e.enough in omega arith) (e.by 0 ∙ ap (Halted slots timers) z)

-- what the program means, and how many steps its code takes where it may go on at any octet
pub record Finds (c : Checked) (code : List ℕ) (now : ℕ) (m : Memory) : Type 0 where
  pub means : HasMeaning c now m
  pub steps : ℕ
  pub halts : run code now (length code) (at 0 (holding [] m)) 0
      ≡ Halted (flat means.after) means.after.timers steps

-- the run of a typed program's code is found
pub follows : (c : Checked) → IsTyped c → Each IsInstr (program_code c) → (now : ℕ) (m : Memory)
    → HasTypes c m → Finds c (all_spelled (program_code c)) now m
follows c ok are now m ty =
    let code = all_spelled (program_code c) in
    let whole : Stands code 0 (program_code c) =
    record { rest = []; is = sym (append-nil code); are = are } in
    let f = items-finish c ok.labels now c.items None 0 [] (Some None)
    (record { result = None; memory = m }) (Truth false) ok.items (None, refl, tt) ty in
    let first =
    straight code now (push_unset ∷ []) 0 (holding [] m) (holding (Truth false ∷ []) m)
    (front code 0 (push_unset ∷ []) _ whole)
    (_, pushed now (flat m) m.timers (Truth false) [] (omega arith), refl) in
    let e = then-ends code now _ _ _ _ first
    (f.ends code 2 (back code 0 (push_unset ∷ [])
    (items_code (length c.externals) c.items ++ Halt ∷ []) whole)) in
    record {
      means = record {
        after = f.state.memory;
        is = ap (option_map (λ s. s.memory)) f.means;
        typed = f.typed;
      };
      steps = e.taken;
      halts = whole-run code now (holding [] m) (flat f.state.memory) f.state.memory.timers e;
    }
