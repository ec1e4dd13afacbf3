use Rattle.std.proofs.Common.{◌≡◌, ap, eqb, false, get_or, take, Some, arith}
use Rattle.std.proofs.lemmas.Bool.Decides.{nat_tests}
use Rattle.bay_trace.proofs.ScanLemmas.{scan-digits}
use Rattle.bay_trace.proofs.trace.scan_digits.Goals as goal

pub returns : goal.returns
returns c = λ moment e.
    let line = c.args.line.now in
    let is = scan-digits line _ moment (ap (λ k. take k line) c.saturating_sub.ensures) e
    c.if-first-eq48.false in
    let other : eqb (get_or line 0 0) 48 ≡ false = grind (arith, nat_tests) in
    rw other (ap Some is)
