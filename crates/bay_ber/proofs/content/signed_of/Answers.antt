use Rattle.std.proofs.Common.{◌≡◌, ◌<◌, ◌≤◌, ◌^◌, ◌∙◌, pos, ◌-ℤ◌, length, sym, ap, to_z, FitsSigned, arith}
use Rattle.std.specs.Int.{w128}
use Rattle.std.proofs.lemmas.Int.{ints, to_z_pos, to_z-of_z}
use Rattle.bay_ber.specs.Octets.{number_of}
use Rattle.bay_ber.proofs.OctetLemmas.{pow-within}
use Rattle.bay_ber.proofs.ContentLemmas.{signed_of-low, signed_of-high}
use Rattle.bay_ber.proofs.content.signed_of.Goals as goal

pub overflow_cast-number : goal.overflow_cast-number
overflow_cast-number c =
    let small : c.number_of-number.result < 256 ^ 9 =
    omega (arith, pow-within (length c.args.octets.now) 9 c.requires.few) in
    record { sfits = omega arith }

pub overflow_cast-result : goal.overflow_cast-result
overflow_cast-result c =
    let small : c.span.result ≤ 256 ^ 9 =
    omega (arith, pow-within (length c.args.octets.now) 9 c.requires.few) in
    record { sfits = omega arith }

pub overflow_sub-result : goal.overflow_sub-result
overflow_sub-result c =
    let few = pow-within (length c.args.octets.now) 9 c.requires.few in
    let small : c.number_of-number.result < 256 ^ 9 = omega arith in
    let span : c.span.result ≤ 256 ^ 9 = omega arith in
    rw (
      to_z_pos w128 c.number_of-number.result (omega arith),
      to_z_pos w128 c.span.result (omega arith),
    ) (omega (arith, ints))

pub returns-then-octets-lt128 : goal.returns-then-octets-lt128
returns-then-octets-lt128 c =
    let small : c.number_of-number.result < 256 ^ 9 =
    omega (arith, pow-within (length c.args.octets.now) 9 c.requires.few) in
    to_z_pos w128 c.number_of-number.result (omega arith) ∙ ap pos c.number_of-number.ensures.value
    ∙ sym (signed_of-low c.args.octets.now c.requires.some c.if-octets-lt128.true)

pub returns-else-octets-lt128 : goal.returns-else-octets-lt128
returns-else-octets-lt128 c =
    let few = pow-within (length c.args.octets.now) 9 c.requires.few in
    let small : c.number_of-number.result < 256 ^ 9 = omega arith in
    let span : c.span.result ≤ 256 ^ 9 = omega arith in
    let number : to_z w128 c.number_of-number.result ≡ pos (number_of c.args.octets.now) =
    to_z_pos w128 c.number_of-number.result (omega arith)
    ∙ ap pos c.number_of-number.ensures.value in
    let whole : to_z w128 c.span.result ≡ pos (256 ^ length c.args.octets.now) =
    to_z_pos w128 c.span.result (omega arith) ∙ ap pos c.span.ensures in
    let fits : FitsSigned w128
    (pos (number_of c.args.octets.now) -ℤ pos (256 ^ length c.args.octets.now)) =
    omega (arith, ints, c.number_of-number.ensures.value, c.span.ensures) in
    rw (number, whole) (to_z-of_z w128
    (pos (number_of c.args.octets.now) -ℤ pos (256 ^ length c.args.octets.now)) fits
    ∙ sym (signed_of-high c.args.octets.now c.requires.some c.if-octets-lt128.false))
