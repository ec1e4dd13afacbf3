use Rattle.std.proofs.Common.{◌≡◌, ◌+◌, ◌*◌, ◌<◌, ◌++◌, ◌∷◌, [], length, take, get_or, unwrap_or, ap, sym, ◌∙◌, arith, length-set}
use Rattle.std.proofs.lemmas.List.{take_more, take_more_set}
use Rattle.bay_trace.specs.Digits.{octets_or_empty}
use Rattle.bay_trace.proofs.DigitLemmas.{octets-twice}
use Rattle.bay_trace.proofs.PairLemmas.{is-digit, pair-at}
use Rattle.bay_trace.proofs.octets.decode.Goals as goal

pub bounds-text-i : goal.bounds-text-i
bounds-text-i c =
    let twice = octets-twice c.args.digits.text.now c.args.digits.is_hexadecimal in
    omega (arith, twice, c.requires.counted, c.loop-i-test.true)

pub digit_value-requires : goal.digit_value-requires
digit_value-requires c =
    let pair = pair-at c.args.digits.text.now c.loop-i.i c.args.digits.is_hexadecimal
    (omega (arith, c.requires.counted, c.loop-i-test.true)) in
    is-digit (get_or c.args.digits.text.now (2 * c.loop-i.i) 0) pair.high pair.high_is

pub digit_value-requires-in-loop-i : goal.digit_value-requires-in-loop-i
digit_value-requires-in-loop-i c =
    let pair = pair-at c.args.digits.text.now c.loop-i.i c.args.digits.is_hexadecimal
    (omega (arith, c.requires.counted, c.loop-i-test.true)) in
    is-digit (get_or c.args.digits.text.now (2 * c.loop-i.i + 1) 0) pair.low pair.low_is

pub loop-i-preserved : goal.loop-i-preserved
loop-i-preserved c =
    let text = c.args.digits.text.now in
    let octets = octets_or_empty text in
    let i = c.loop-i.i in
    let within : i < length octets = omega (arith, c.requires.counted, c.loop-i-test.true) in
    let room : i < length c.loop-i.room =
    omega (arith, c.loop-i.invariant.sized, c.requires.fits, c.loop-i-test.true) in
    let pair = pair-at text i c.args.digits.is_hexadecimal within in
    let high : c.digit_value.result ≡ pair.high =
    ap (λ o. unwrap_or o 0) (sym c.digit_value.ensures.value ∙ pair.high_is) in
    let low : c.digit_value-in-loop-i.result ≡ pair.low =
    ap (λ o. unwrap_or o 0) (sym c.digit_value-in-loop-i.ensures.value ∙ pair.low_is) in
    let octet = c.digit_value.result * 16 + c.digit_value-in-loop-i.result in
    let is : octet ≡ get_or octets i 0 = omega (arith, high, low, pair.octet_is) in
    record {
      sized = length-set c.loop-i.room i octet ∙ c.loop-i.invariant.sized;
      done = take_more_set c.loop-i.room i octet room
          ∙ ap (λ xs. xs ++ octet ∷ []) c.loop-i.invariant.done
          ∙ ap (λ x. take i octets ++ x ∷ []) is
          ∙ sym (take_more octets i 0 within);
    }
