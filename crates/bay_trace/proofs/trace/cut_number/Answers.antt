use Rattle.std.proofs.Common.{◌∙◌, ℕ, ◌+◌, ◌-◌, ◌<◌, ◌^◌, sym, arith}
use Rattle.bay_trace.proofs.WordLemmas.{behind-space, few-digits}
use Rattle.bay_trace.proofs.trace.cut_number.Goals as goal

few : (index n : ℕ) → n < 10 ^ (index + 1) → index < 18 → n < 10 ^ 18
few index n l less = few-digits (17 - index) (index + 1) n l (omega (arith, less))

pub overflow_mul-number : goal.overflow_mul-number
overflow_mul-number c =
    let less =
    few c.loop-index.index c.loop-index.number c.loop-index.invariant.within (omega arith) in
    omega (arith, less)

pub overflow_add-number : goal.overflow_add-number
overflow_add-number c =
    let less =
    few c.loop-index.index c.loop-index.number c.loop-index.invariant.within (omega arith) in
    grind (arith, less, c.from.ensures)

pub returns-then-octet-eq32 : goal.returns-then-octet-eq32
returns-then-octet-eq32 c =
    let less =
    few c.loop-index.index c.loop-index.number c.loop-index.invariant.within (omega arith) in
    behind-space c.loop-index.number c.loop-index.index _ (omega (arith, less)) (omega arith)
    c.if-octet-eq32.true
    ∙ sym c.loop-index.invariant.read
