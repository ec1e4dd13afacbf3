use Rattle.std.proofs.Common.{◌≡◌, ◌<◌, ◌≤◌, ℕ, zero, suc, length, ap, sym, refl, ◌∙◌, Some, arith}
use Rattle.il_verify.proofs.OrderLemmas.{always-there}
use Rattle.bay_load.proofs.report.count_instructions.Goals as goal

ends : (p n : ℕ) → p ≤ n → (p < n → ⊥) → p ≡ n
ends zero zero le never = refl
ends zero (suc n) le never = absurd (never (omega arith))
ends (suc p) zero le never = absurd (omega arith)
ends (suc p) (suc n) le never = ap suc (ends p n (omega arith) (λ lt. never (omega (arith, lt))))

pub returns : goal.returns
returns c =
    let i = c.loop-next.invariant in
    let end = ends c.loop-next.offset (length c.args.code.now) i.within
    (λ lt. always-there c.args.code.now c.requires.code c.loop-next.count c.loop-next.offset
    i.counted lt (sym c.instr_at.ensures.value ∙ c.in_default.is)) in
    i.counted ∙ ap (λ p. Some p) end
