-- To each instruction of a program's items, and to the end, another leads.
use Rattle.std.proofs.Common.{◌≡◌, ℕ, ◌+◌, ◌≤◌, ◌⊎◌, inl, inr, ⊎_elim, Bool, true, false, ◌==◌, ◌||◌, if◌then◌else◌, List, [], ◌∷◌, ◌++◌, length, Option, Some, None, refl, sym, ap, subst, ◌∙◌, arith, append_assoc}
use Rattle.std.proofs.lemmas.Bool.{eqb-true, eq-eqb, ne_eqb, both_ways}
use Rattle.bay_base.specs.declared.types.ElementaryType.{ElementaryType}
use Rattle.il_text.specs.declared.program.Condition.{Condition}
use Rattle.il_text.specs.declared.program.Condition.TheVariants.{Always, IfTrue, IfFalse}
use Rattle.il_image.specs.Spelling.{spelling}
use Rattle.il_image.specs.Tables.{LeadsTo}
use Rattle.il_image.specs.declared.instr.Instr.TheVariants.{Halt, Jump, Timer}
use Rattle.il_image.specs.declared.opcode.TimerUse.TheVariants.{Run}
use Rattle.il_image.proofs.KindLemmas.{within-self}
use Rattle.il_check.specs.Labelling.{Incoming, Labelling, flow_state, type_after_label, is_named}
use Rattle.il_check.specs.Program.{Checked, ProgramItem, label, plain, transfer}
use Rattle.il_check.specs.TypedProgram.{AreItems, incoming_after_condition, has_label}
use Rattle.il_check.specs.declared.typed.Transfer.TheVariants as go
use Rattle.il_compile.specs.Code.{arguments_code, entry_code, items_code, octets, octets_before}
use Rattle.il_compile.specs.OperatorClasses.{when_of}
use Rattle.il_compile.proofs.TabledAgrees.{AreReached, reached-straight}
use Rattle.il_compile.proofs.TabledFlows.{call-flows, entry-flows}
use Rattle.il_compile.proofs.TabledItems.{flow-straight}
use Rattle.il_compile.proofs.TabledSteps.{kind_at}

-- a jump leads to its label, and one that is taken at times leads on
leaps : (condition : Condition) (n : ℕ) → LeadsTo (Jump (when_of condition) n) 0 n
leaps Always n = omega arith
leaps IfTrue n = inr (omega arith)
leaps IfFalse n = inr (omega arith)

falls : (condition : Condition) (n : ℕ) (t u : Option ElementaryType)
    → incoming_after_condition condition t ≡ Some u → LeadsTo (Jump (when_of condition) n) 0 0
falls Always n t u e = absurd cc
falls IfTrue n t u e = inl refl
falls IfFalse n t u e = inl refl

named-before : (k l : ℕ) (named : List ℕ) → is_named (k ∷ named) l ≡ true
    → (k ≡ l) ⊎ (is_named named l ≡ true)
named-before k l named h =
    elim (k == l) as (λ b. (k == l) ≡ b → b || is_named named l ≡ true
    → (k ≡ l) ⊎ (is_named named l ≡ true))
    [ true ↦ (λ e g. inl (eqb-true k l e)) | false ↦ (λ e g. inr g) ] refl h

module _ (c : Checked) (labels : Labelling) where
  -- labels below have higher numbers
  no-lower : (is : List ProgramItem) (passed : ℕ) (named : List ℕ) (now : Incoming) (l : ℕ)
      → AreItems c labels is (flow_state passed named now) → has_label is l ≡ true → passed ≤ l
  no-lower [] passed named now l ok h = absurd cc
  no-lower (label n ∷ is) passed named now l ok h =
      let same = ok.0.0 in
      elim (n == l) as (λ b. (n == l) ≡ b → b || has_label is l ≡ true → passed ≤ l) [
        | true ↦ (λ e g. (let f = eqb-true n l e in omega arith))
        | false ↦
            (λ e g. (let f = no-lower is (passed + 1) named
            (type_after_label labels (flow_state passed named now)) l ok.1 g in omega arith))
      ] refl h
  no-lower (transfer (go.Jump condition k) ∷ is) passed named now l ok h =
      no-lower is passed (k ∷ named) (incoming_after_condition condition ok.0) l ok.2 h
  no-lower (transfer (go.Return condition) ∷ is) passed named now l ok h =
      no-lower is passed named (incoming_after_condition condition ok.0) l ok.2 h
  no-lower (transfer (go.Call n args) ∷ is) passed named now l ok h =
      no-lower is passed named (Some None) l ok.2 h
  no-lower (plain e ∷ is) passed named now l ok h = no-lower is passed named (Some ok.1) l ok.3 h

  -- what is led to from above: the first item, where something comes to it, each label below that
  -- was named, and, where nothing comes, the end or some label
  pub record IsLed (P : ℕ → Type 0) (is : List ProgramItem) (named : List ℕ) (now : Incoming)
      : Type 0 where
    pub comes : (t : Option ElementaryType) → now ≡ Some t → P 0
    pub jumps : (l : ℕ) → is_named named l ≡ true → has_label is l ≡ true
        → P (octets_before (length c.externals) l is)
    pub ends : now ≡ None → P (octets (items_code (length c.externals) is))
        ⊎ ((l : ℕ) × (is_named named l ≡ true) × (has_label is l ≡ true))

  end_led : (P : ℕ → Type 0) (named : List ℕ) (now other : Incoming) → now ≡ other
      → IsLed P [] named now → P 0
  end_led P named now None e led =
      ⊎_elim (λ (p : P 0). p)
      (λ (x : (l : ℕ) × (is_named named l ≡ true) × (false ≡ true)). absurd (let bad = x.2 in cc))
      (led.ends e)
  end_led P named now (Some t) e led = led.comes t e

  -- behind code whose instructions go on to the next
  straight-led : (P : ℕ → Type 0) (size : ℕ) (i : ProgramItem) (is : List ProgramItem)
      (named : List ℕ)
      (now : Incoming) (u : Option ElementaryType)
      → ((l : ℕ) → octets_before (length c.externals) l (i ∷ is)
      ≡ size + octets_before (length c.externals) l is)
      → ((l : ℕ) → has_label (i ∷ is) l ≡ has_label is l)
      → IsLed P (i ∷ is) named now → IsLed (λ d. P (size + d) ⊎ (d ≡ 0)) is named (Some u)
  straight-led P size i is named now u before same led = record {
    comes = λ t e. inr refl;
    jumps = λ l h g. inl (subst P (before l) (led.jumps l h (same l ∙ g)));
    ends = λ e. absurd cc;
  }

  label-led : (P : ℕ → Type 0) (n passed : ℕ) (is : List ProgramItem) (named : List ℕ)
      (now : Incoming)
      → n ≡ passed → ((l : ℕ) → has_label is l ≡ true → passed + 1 ≤ l)
      → IsLed P (label n ∷ is) named now
      → IsLed P is named (type_after_label labels (flow_state passed named now))
  label-led P n passed is named now same above led = record {
    comes = λ t e. by_coming now refl t e;
    jumps = λ l h g. subst (λ b. P (if b then 0 else octets_before (length c.externals) l is))
        (ne_eqb n l (λ e. (let a = above l g in omega arith)))
        (led.jumps l h (either (n == l) (has_label is l) g));
    ends = λ e. by-ends now refl e;
  }
    where
      either : (a b : Bool) → b ≡ true → a || b ≡ true
      either true b e = refl
      either false b e = e

      here : is_named named passed ≡ true → P 0
      here h =
          let it : (n == passed) ≡ true = eq-eqb n passed same in
          subst (λ b. P (if b then 0 else octets_before (length c.externals) passed is)) it
          (led.jumps passed h (ap (λ b. b || has_label is passed) it))

      by_coming : (other : Incoming) → now ≡ other → (t : Option ElementaryType)
          → type_after_label labels (flow_state passed named now) ≡ Some t → P 0
      by_coming (Some u) f t e = led.comes u f
      by_coming None f t e =
          elim (is_named named passed) as
          (λ b. is_named named passed ≡ b → (if b then Some (labels passed) else None) ≡ Some t
          → P 0)
          [ true ↦ (λ h g. here h) | false ↦ (λ h g. absurd cc) ] refl
          (ap (λ w. type_after_label labels (flow_state passed named w)) (sym f) ∙ e)

      other-label : is_named named passed ≡ false
          → (l : ℕ) × (is_named named l ≡ true) × (has_label (label n ∷ is) l ≡ true)
          → (l : ℕ) × (is_named named l ≡ true) × (has_label is l ≡ true)
      other-label not_named x = (
        x.0,
        x.1,
        elim (n == x.0) as (λ b. (n == x.0) ≡ b → b || has_label is x.0 ≡ true
            → has_label is x.0 ≡ true) [
              | true ↦ (λ e g. absurd
                  (both_ways (is_named named passed) not_named
                  (subst (λ k. is_named named k ≡ true) (sym (sym same ∙ eqb-true n x.0 e)) x.1)))
              | false ↦ (λ e g. g)
            ] refl x.2,
      )

      by-ends : (other : Incoming) → now ≡ other
          → type_after_label labels (flow_state passed named now) ≡ None
          → P (octets (items_code (length c.externals) is))
          ⊎ ((l : ℕ) × (is_named named l ≡ true) × (has_label is l ≡ true))
      by-ends (Some u) f e =
          absurd (let bad : Some (labels passed) ≡ None =
          ap (λ w. type_after_label labels (flow_state passed named w)) (sym f) ∙ e in cc)
      by-ends None f e =
          elim (is_named named passed) as
          (λ b. is_named named passed ≡ b → (if b then Some (labels passed) else None) ≡ None
          → P (octets (items_code (length c.externals) is))
          ⊎ ((l : ℕ) × (is_named named l ≡ true) × (has_label is l ≡ true))) [
            | true ↦ (λ h g. absurd cc)
            | false ↦ (λ h g. ⊎_elim
                (λ (p : P (octets (items_code (length c.externals) is))). inl p)
                (λ (x : (l : ℕ) × (is_named named l ≡ true) × (has_label (label n ∷ is) l ≡ true)).
                inr (other-label h x))
                (led.ends f))
          ] refl (ap (λ w. type_after_label labels (flow_state passed named w)) (sym f) ∙ e)

  jump-led : (P : ℕ → Type 0) (condition : Condition) (k : ℕ) (is : List ProgramItem)
      (named : List ℕ)
      (now : Incoming) (t : Option ElementaryType) → has_label is k ≡ true
      → IsLed P (transfer (go.Jump condition k) ∷ is) named now
      → IsLed (λ d. P (length
      (spelling (Jump (when_of condition) (octets_before (length c.externals) k is))) + d)
      ⊎ LeadsTo (Jump (when_of condition) (octets_before (length c.externals) k is)) 0 d)
      is (k ∷ named) (incoming_after_condition condition t)
  jump-led P condition k is named now t there led = record {
    comes = λ u e. inr (falls condition (octets_before (length c.externals) k is) t u e);
    jumps = λ l h g. ⊎_elim
        (λ (e : k ≡ l). inr (subst
        (λ m. LeadsTo (Jump (when_of condition) (octets_before (length c.externals) k is)) 0
        (octets_before (length c.externals) m is)) e
        (leaps condition (octets_before (length c.externals) k is))))
        (λ (e : is_named named l ≡ true). inl (led.jumps l e g))
        (named-before k l named h);
    ends = λ e. inr (k, ap (λ b. b || is_named named k) (eq-eqb k k refl), there);
  }

  return-led : (P : ℕ → Type 0) (condition : Condition) (is : List ProgramItem) (named : List ℕ)
      (now : Incoming) (t : Option ElementaryType)
      → IsLed P (transfer (go.Return condition) ∷ is) named now
      → IsLed (λ d. P (length
      (spelling (Jump (when_of condition) (octets (items_code (length c.externals) is)))) + d)
      ⊎ LeadsTo (Jump (when_of condition) (octets (items_code (length c.externals) is))) 0 d)
      is named (incoming_after_condition condition t)
  return-led P condition is named now t led = record {
    comes = λ u e. inr (falls condition (octets (items_code (length c.externals) is)) t u e);
    jumps = λ l h g. inl (led.jumps l h g);
    ends = λ e. inl (inr (leaps condition (octets (items_code (length c.externals) is))));
  }

  pub items-reached : (is : List ProgramItem) (passed : ℕ) (named : List ℕ) (now : Incoming)
      → AreItems c labels is (flow_state passed named now) → (P : ℕ → Type 0) → IsLed P is named now
      → AreReached P (items_code (length c.externals) is ++ Halt ∷ [])
  items-reached [] passed named now ok P led = (end_led P named now now refl led, tt)
  items-reached (label n ∷ is) passed named now ok P led =
      items-reached is (passed + 1) named (type_after_label labels (flow_state passed named now))
      ok.1 P
      (label-led P n passed is named now ok.0.0
      (λ l h. no-lower is (passed + 1) named
      (type_after_label labels (flow_state passed named now)) l ok.1 h) led)
  items-reached (plain e ∷ is) passed named now ok P led =
      let code = entry_code (length c.externals) e in
      let f = entry-flows c e ok.0 ok.1 (kind_at ok.0) [] ok.2.1 (within-self (kind_at ok.0))
      (let d = ok.2.2 in omega arith) in
      let Q : ℕ → Type 0 = λ d. P (octets code + d) ⊎ (d ≡ 0) in
      subst (AreReached P) (sym
      (append_assoc code (items_code (length c.externals) is) (Halt ∷ [])))
      (reached-straight code (items_code (length c.externals) is ++ Halt ∷ []) P
      (flow-straight c code (kind_at ok.0 ∷ []) (f.top ∷ []) f.flow) (led.comes ok.0 ok.2.0)
      (items-reached is passed named (Some ok.1) ok.3 Q
      (straight-led P (octets code) (plain e) is named now ok.1 (λ l. refl) (λ l. refl) led)))
  items-reached (transfer (go.Call n args) ∷ is) passed named now ok P led =
      let code = arguments_code (length c.externals) n args ++ Timer Run n ∷ [] in
      let Q : ℕ → Type 0 = λ d. P (octets code + d) ⊎ (d ≡ 0) in
      subst (AreReached P) (sym
      (append_assoc code (items_code (length c.externals) is) (Halt ∷ [])))
      (reached-straight code (items_code (length c.externals) is ++ Halt ∷ []) P
      (flow-straight c code (kind_at ok.0 ∷ []) (kind_at ok.0 ∷ [])
      (call-flows c n args (kind_at ok.0 ∷ []) ok.1.1.0 ok.1.1.1 (omega arith)))
      (led.comes ok.0 ok.1.0)
      (items-reached is passed named (Some None) ok.2 Q
      (straight-led P (octets code) (transfer (go.Call n args)) is named now None (λ l. refl)
      (λ l. refl) led)))
  items-reached (transfer (go.Jump condition k) ∷ is) passed named now ok P led = (
    led.comes ok.0 ok.1.0,
    items-reached is passed (k ∷ named) (incoming_after_condition condition ok.0) ok.2
        (λ d. P (length (spelling
        (Jump (when_of condition) (octets_before (length c.externals) k is))) + d)
        ⊎ LeadsTo (Jump (when_of condition) (octets_before (length c.externals) k is)) 0 d)
        (jump-led P condition k is named now ok.0 ok.1.1.1 led),
  )
  items-reached (transfer (go.Return condition) ∷ is) passed named now ok P led = (
    led.comes ok.0 ok.1.0,
    items-reached is passed named (incoming_after_condition condition ok.0) ok.2
        (λ d. P (length (spelling
        (Jump (when_of condition) (octets (items_code (length c.externals) is)))) + d)
        ⊎ LeadsTo (Jump (when_of condition) (octets (items_code (length c.externals) is))) 0 d)
        (return-led P condition is named now ok.0 led),
  )

  -- something comes to the first item
  pub first-led : (P : ℕ → Type 0) (is : List ProgramItem) (t : Option ElementaryType) → P 0
      → IsLed P is [] (Some t)
  first-led P is t p =
      record { comes = λ u e. p; jumps = λ l h g. absurd cc; ends = λ e. absurd cc }
