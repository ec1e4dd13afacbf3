use Rattle.std.proofs.Common.{◌≡◌, ℕ, suc, ◌+◌, drop, get_or, sym, ap, ◌∙◌, arith}
use Rattle.std.proofs.Math.Seq.{drop-cons}
use Rattle.std.proofs.lemmas.List.{drop_all}
use Rattle.bay_base.proofs.DecimalLemmas.{with_digit-some, number_from, number_from-step, number_from-none, number_from-end, read_number-some}
use Rattle.bay_base.proofs.decimal.read_decimal.Goals as goal

next : (i : ℕ) → i + 1 ≡ suc i
next i = omega arith

pub returns-in_err-number : goal.returns-in_err-number
returns-in_err-number c =
    let word = c.args.word.now in
    let i = c.loop-octet.octet-index in
    let none =
    number_from-none c.loop-octet.number (get_or word i 0) (drop (suc i) word)
    (sym c.with_digit.ensures ∙ c.in_err-number.was) in
    let here = ap (number_from c.loop-octet.number) (drop-cons word i 0 c.loop-octet-test.true) in
    let first = read_number-some word (sym c.is_empty.ensures ∙ c.if-is_empty.false) in
    c.from_residual.ensures ∙ sym (first ∙ sym c.loop-octet.invariant.read ∙ here ∙ none)

pub loop-octet-preserved : goal.loop-octet-preserved
loop-octet-preserved c =
    let word = c.args.word.now in
    let i = c.loop-octet.octet-index in
    let told = sym c.with_digit.ensures ∙ c.in_ok-number.was in
    let step =
    number_from-step c.loop-octet.number (get_or word i 0) (drop (suc i) word)
    c.in_ok-number.number told in
    let here = ap (number_from c.loop-octet.number) (drop-cons word i 0 c.loop-octet-test.true) in
    record {
      within = (with_digit-some c.loop-octet.number (get_or word i 0) c.in_ok-number.number
          told).2;
      read = ap (λ k. number_from c.in_ok-number.number (drop k word)) (next i)
          ∙ sym step ∙ sym here ∙ c.loop-octet.invariant.read;
    }

pub returns : goal.returns
returns c =
    let word = c.args.word.now in
    let end =
    ap (number_from c.loop-octet.number)
    (drop_all c.loop-octet.octet-index word c.loop-octet-test.false) in
    let first = read_number-some word (sym c.is_empty.ensures ∙ c.if-is_empty.false) in
    sym (first ∙ sym c.loop-octet.invariant.read ∙ end
    ∙ number_from-end c.loop-octet.number c.loop-octet.invariant.within)
