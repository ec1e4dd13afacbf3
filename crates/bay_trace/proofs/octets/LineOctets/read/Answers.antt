use Rattle.std.proofs.Common.{rules, ◌≡◌, ◌<◌, ◌/◌, ◌∙◌, length, length-take, take, ap, arith}
use Rattle.bay_trace.specs.Digits.{octets_or_empty}
use Rattle.bay_trace.specs.Resolving.{LineRoom}
use Rattle.bay_trace.proofs.DigitLemmas.{front-of, octets-half}
use Rattle.bay_trace.proofs.octets.LineOctets.read.Goals as goal

pub decode-requires-clause-counted : goal.decode-requires-clause-counted
decode-requires-clause-counted c = let half =
    octets-half c.args.digits.text.now c.args.digits.is_hexadecimal in omega (arith, half)

pub decode-requires-clause-fits : goal.decode-requires-clause-fits
decode-requires-clause-fits c =
    let made = c.in_ok-make_room.ensures.made in
    let room = ap (λ (l : LineRoom). l.room) c.self.view_is in
    omega (arith, made.1, room, c.as_mut_slice.ensures.len)

pub returns-in_err-make_room-clause-refused : goal.returns-in_err-make_room-clause-refused
returns-in_err-make_room-clause-refused c =
    let half = octets-half c.args.digits.text.now c.args.digits.is_hexadecimal in
    let more : c.args.self.now.room < length (octets_or_empty c.args.digits.text.now) =
    omega (arith, half, c.in_err-make_room.ensures.refused) in
    search (rules, more)

pub returns-clause-octets : goal.returns-clause-octets
returns-clause-octets c =
    let xs = c.decode.new.room in
    let made = c.in_ok-make_room.ensures.made in
    let shown = ap (λ (l : LineRoom). length l.octets) c.self.view_is in
    let count : c.self.inside.count ≡ length c.args.digits.text.now / 2 =
    omega (
      arith,
      made.0,
      shown,
      length-take c.self.inside.count c.self.inside.room.items,
      c.self.invariant,
    ) in
    front-of c.self.inside.count c.self.inside.room.len xs _
    (omega (arith, c.self.invariant, c.as_mut_slice.ensures.len, c.decode.auto.room))
    c.self.invariant
    ∙ ap (λ n. take n xs) count ∙ c.decode.ensures
