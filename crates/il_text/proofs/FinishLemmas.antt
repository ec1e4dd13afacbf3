-- What is reached can be gone on to a program, and what is refused can't.
use Rattle.std.proofs.Common.{◌≡◌, ℕ, true, false, List, [], ◌∷◌, ◌++◌, Some, None, option_and_then, refl, sym, ap, subst, ◌∙◌}
use Rattle.il_text.specs.Grammar.{Numbered, Derives, IsProgramPrefix}
use Rattle.il_text.specs.Listing.{load, Entry, action, block, entries_of, DeclaredName, PlainProgram, constant}
use Rattle.il_text.specs.Parts.{program_start, block_end, action_part, parenthesis_end, program_end}
use Rattle.il_text.specs.Reading.{draft_program}
use Rattle.il_text.specs.Steps.{Parenthesis, DraftData, empty_draft, is_body, has_entries, may_have_instruction, may_leave, step}
use Rattle.il_text.specs.declared.listing.Stage.{Stage}
use Rattle.il_text.specs.declared.listing.Stage.TheVariants as stage
use Rattle.il_text.specs.declared.program.Literal.TheVariants.{Truth}
use Rattle.il_text.specs.declared.program.VariableScope.{VariableScope}
use Rattle.il_text.proofs.GrammarLemmas.{run, run-append, run-reaches, start-reaches, ReachesAt, Reaches}
use Rattle.il_text.proofs.DerivedLemmas.{state, run-step, some-more, ending-step, close-step, derived-runs}

-- parts that end a program after what is reached
abbrev Ended : DraftData → Type 0
Ended r = (qs : List Numbered) × (s : DraftData) × (run r qs ≡ Some s) × (s.stage ≡ stage.Finished)

end-now : (p : Stage) (name : List ℕ) (ds : List DeclaredName) (is : List Entry) → is_body p ≡ true
    → Ended (state p name ds is [])
end-now p name ds is b = (
  (0, program_end) ∷ [],
  state stage.Finished name ds is [],
  run-step 0 (state p name ds is []) (state stage.Finished name ds is []) program_end []
      (ending-step 0 name p ds is b),
  refl,
)

leaves : (name : List ℕ) (ds : List DeclaredName) (is : List Entry) (f : Parenthesis)
    (fs : List Parenthesis)
    → has_entries is ≡ true
    → step 0 (state stage.Body name ds is (f ∷ fs)) parenthesis_end
    ≡ Some (state stage.Body name ds
    (f.outer ++ block f.line f.operator f.negated (entries_of is) 0 ∷ []) fs)
unfolding step may_leave
leaves name ds is f fs h = rw h refl

end-closing : (fs : List Parenthesis) (name : List ℕ) (ds : List DeclaredName) (is : List Entry)
    → has_entries is ≡ true → Ended (state stage.Body name ds is fs)
end-closing [] name ds is h = end-now stage.Body name ds is refl
end-closing (f ∷ fs) name ds is h =
    let e : Entry = block f.line f.operator f.negated (entries_of is) 0 in
    let k = end-closing fs name ds (f.outer ++ e ∷ []) (some-more f.outer e) in (
      (0, parenthesis_end) ∷ k.0,
      k.1,
      run-step 0 (state stage.Body name ds is (f ∷ fs))
          (state stage.Body name ds (f.outer ++ e ∷ []) fs) parenthesis_end k.0
          (leaves name ds is f fs h)
          ∙ k.2,
      k.3,
    )

loads : (name : List ℕ) (ds : List DeclaredName) (f : Parenthesis) (fs : List Parenthesis)
    → step 0 (state stage.Body name ds [] (f ∷ fs))
    (action_part (load false (constant (Truth true))))
    ≡ Some (state stage.Body name ds (action 0 (load false (constant (Truth true))) ∷ [])
    (f ∷ fs))
unfolding step may_have_instruction
loads name ds f fs = refl

end-body : (fs : List Parenthesis) (name : List ℕ) (ds : List DeclaredName) (is : List Entry)
    → Ended (state stage.Body name ds is fs)
end-body [] name ds is = end-now stage.Body name ds is refl
end-body (f ∷ fs) name ds [] =
    let e : Entry = action 0 (load false (constant (Truth true))) in
    let k = end-closing (f ∷ fs) name ds (e ∷ []) refl in (
      (0, action_part (load false (constant (Truth true)))) ∷ k.0,
      k.1,
      run-step 0 (state stage.Body name ds [] (f ∷ fs)) (state stage.Body name ds (e ∷ []) (f ∷ fs))
          (action_part (load false (constant (Truth true)))) k.0 (loads name ds f fs) ∙ k.2,
      k.3,
    )
end-body (f ∷ fs) name ds (e ∷ es) = end-closing (f ∷ fs) name ds (e ∷ es) refl

end-block : (scope : VariableScope) (name : List ℕ) (ds : List DeclaredName)
    → Ended (state (stage.Block scope) name ds [] [])
end-block scope name ds =
    let k = end-now stage.Declarations name ds [] refl in (
      (0, block_end) ∷ k.0,
      k.1,
      run-step 0 (state (stage.Block scope) name ds [] []) (state stage.Declarations name ds [] [])
          block_end k.0 (close-step 0 scope name ds) ∙ k.2,
      k.3,
    )

heads : (name : List ℕ) (ds : List DeclaredName) (is : List Entry)
    → step 0 (state stage.Start name ds is []) (program_start [])
    ≡ Some (state stage.Declarations [] ds is [])
unfolding step
heads name ds is = refl

end-start : (name : List ℕ) (ds : List DeclaredName) (is : List Entry)
    → Ended (state stage.Start name ds is [])
end-start name ds is =
    let k = end-now stage.Declarations [] ds is refl in (
      (0, program_start []) ∷ k.0,
      k.1,
      run-step 0 (state stage.Start name ds is []) (state stage.Declarations [] ds is [])
          (program_start []) k.0 (heads name ds is) ∙ k.2,
      k.3,
    )

finished-now : (r : DraftData) → stage.Finished ≡ r.stage → Ended r
finished-now r e = ([], r, refl, sym e)

-- what is reached has an end
end-at : (ps : List Numbered) (r : DraftData) (p : Stage) → p ≡ r.stage → ReachesAt ps r p → Ended r
end-at ps r stage.Start e x =
    subst (λ (q : Stage). Ended (state q r.name r.declarations r.items r.parentheses)) e
    (subst (λ (fs : List Parenthesis). Ended (state stage.Start r.name r.declarations r.items fs))
    (sym x.outside) (end-start r.name r.declarations r.items))
end-at ps r stage.Declarations e x =
    subst (λ (q : Stage). Ended (state q r.name r.declarations r.items r.parentheses)) e
    (subst (λ (fs : List Parenthesis). Ended
    (state stage.Declarations r.name r.declarations r.items fs))
    (sym x.outside) (end-now stage.Declarations r.name r.declarations r.items refl))
end-at ps r (stage.Block scope) e x =
    subst (λ (q : Stage). Ended (state q r.name r.declarations r.items r.parentheses)) e
    (subst (λ (fs : List Parenthesis). Ended
    (state (stage.Block scope) r.name r.declarations r.items fs)) (sym x.outside)
    (subst (λ (is : List Entry). Ended (state (stage.Block scope) r.name r.declarations is []))
    (sym x.none) (end-block scope r.name r.declarations)))
end-at ps r stage.Body e x =
    subst (λ (q : Stage). Ended (state q r.name r.declarations r.items r.parentheses)) e
    (end-body r.parentheses r.name r.declarations r.items)
end-at ps r stage.Finished e x = finished-now r e

pub reached-from : (ps : List Numbered) (s : DraftData) → run empty_draft ps ≡ Some s → Reaches ps s
reached-from ps s e = run-reaches ps [] empty_draft s start-reaches e

-- what ends is a program
pub ended-derives : (ps : List Numbered) (s : DraftData) → run empty_draft ps ≡ Some s
    → s.stage ≡ stage.Finished → Derives ps (draft_program s)
ended-derives ps s e f = subst (λ (p : Stage). ReachesAt ps s p) f (reached-from ps s e)

pub is_prefix : (ps : List Numbered) (r : DraftData) → run empty_draft ps ≡ Some r
    → IsProgramPrefix ps
is_prefix ps r e =
    let x = reached-from ps r e in
    let k = end-at ps r r.stage refl x in
    let all : run empty_draft (ps ++ k.0) ≡ Some k.1 =
    run-append ps k.0 empty_draft ∙ ap (option_and_then (λ s. run s k.0)) e ∙ k.2 in
    record {
      more = k.0;
      program = draft_program k.1;
      derived = ended-derives (ps ++ k.0) k.1 all k.3;
    }

some-none : (s : DraftData) → Some s ≡ None → ⊥
some-none s e = cc

same-program : (p q : PlainProgram)
    → Some (state stage.Finished p.name p.declarations p.items [])
    ≡ Some (state stage.Finished q.name q.declarations q.items []) → p ≡ q
same-program p q e =
    let s : state stage.Finished p.name p.declarations p.items []
    ≡ state stage.Finished q.name q.declarations q.items [] = cc in
    ap draft_program s

-- a text that is stopped can't go on
pub stops : (ps : List Numbered) → run empty_draft ps ≡ None → IsProgramPrefix ps → ⊥
stops ps e g =
    let a : run empty_draft (ps ++ g.more) ≡ None =
    run-append ps g.more empty_draft ∙ ap (option_and_then (λ s. run s g.more)) e in
    let b = derived-runs (ps ++ g.more) g.program g.derived in
    some-none _ (sym b ∙ a)

-- a list of parts derives one program
pub one-derived : (ps : List Numbered) (p q : PlainProgram) → Derives ps p → Derives ps q → p ≡ q
one-derived ps p q d e = same-program p q (sym (derived-runs ps p d) ∙ derived-runs ps q e)
