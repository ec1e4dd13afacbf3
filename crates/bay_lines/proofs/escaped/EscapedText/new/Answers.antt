use Rattle.std.proofs.Common.{◌≤◌, length, arith, sym}
use Rattle.std.proofs.lemmas.Bool.Decides.{nat_tests}
use Rattle.std.proofs.lemmas.List.{length-take, length-take-le}
use Rattle.bay_lines.proofs.escaped.EscapedText.new.Goals as goal

pub slice_bounds-escape_all-end : goal.slice_bounds-escape_all-end
slice_bounds-escape_all-end c =
    let long : 80 ≤ length c.args.octets.now = grind (arith, nat_tests) in
    sym (length-take-le 80 c.args.octets.now long)

pub escape_all-text-requires : goal.escape_all-text-requires
escape_all-text-requires c =
    omega (arith, length-take 80 c.args.octets.now)
