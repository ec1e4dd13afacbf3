-- A jump goes on behind its label.
use Rattle.std.proofs.Common.{◌≡◌, ℕ, ◌==◌, Bool, true, false, if◌then◌else◌, List, [], ◌∷◌, Option, Some, None, refl, ap, ◌∙◌}
use Rattle.bay_base.specs.Options.{◌>>=◌}
use Rattle.il_text.specs.declared.program.Condition.{Condition}
use Rattle.il_check.specs.Program.{ProgramItem, label, transfer, plain}
use Rattle.il_check.specs.declared.typed.Transfer.TheVariants as go
use Rattle.il_compile.specs.Laws.{items_after_label, meaning_after_label}
use Rattle.il_compile.specs.Meaning.{State, jump_taken, mean_from}

sought : (now l : ℕ) (is : List ProgramItem) (s : State)
    → mean_from now (Some l) is s ≡ meaning_after_label now (items_after_label l is) s
sought now l [] s = refl
sought now l (label n ∷ is) s =
    elim (n == l) as (λ b. (if b then mean_from now None is s else mean_from now (Some l) is s)
    ≡ meaning_after_label now (if b then Some is else items_after_label l is) s)
    [ true ↦ refl | false ↦ sought now l is s ]
sought now l (transfer t ∷ is) s = sought now l is s
sought now l (plain e ∷ is) s = sought now l is s

leaps : (now l : ℕ) (is : List ProgramItem) (s : State) (o : Option Bool) (b : Bool) → o ≡ Some b
    → (o >>= (λ (x : Bool). if x then mean_from now (Some l) is s else mean_from now None is s))
    ≡ (if b then mean_from now (Some l) is s else mean_from now None is s)
leaps now l is s o b e =
    ap (λ (p : Option Bool). p
    >>= (λ (x : Bool). if x then mean_from now (Some l) is s else mean_from now None is s)) e

-- a jump that is taken goes on at its label
pub taken : (now : ℕ) (condition : Condition) (l : ℕ) (is : List ProgramItem) (s : State)
    → jump_taken condition s.result ≡ Some true
    → mean_from now None (transfer (go.Jump condition l) ∷ is) s
    ≡ meaning_after_label now (items_after_label l is) s
taken now condition l is s e =
    leaps now l is s (jump_taken condition s.result) true e ∙ sought now l is s

pub not_taken : (now : ℕ) (condition : Condition) (l : ℕ) (is : List ProgramItem) (s : State)
    → jump_taken condition s.result ≡ Some false
    → mean_from now None (transfer (go.Jump condition l) ∷ is) s ≡ mean_from now None is s
not_taken now condition l is s e = leaps now l is s (jump_taken condition s.result) false e
