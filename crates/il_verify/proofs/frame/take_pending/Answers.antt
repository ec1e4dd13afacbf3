use Rattle.std.proofs.Common.{◌≤◌, ap, arith, length, sym}
use Rattle.std.specs.Prelude.{option_and_then}
use Rattle.std.proofs.lemmas.Option.{slice_get_past}
use Rattle.il_verify.proofs.MapLemmas.{others-stay}
use Rattle.il_verify.proofs.frame.take_pending.Goals as goal

pub returns-then-place-len-clause-others : goal.returns-then-place-len-clause-others
returns-then-place-len-clause-others c =
    others-stay c.args.pending.now.items c.args.place c.take.new.self

pub returns-else-place-len-clause-value : goal.returns-else-place-len-clause-value
returns-else-place-len-clause-value c =
    let past : length c.args.pending.now.items ≤ c.args.place = search arith in
    sym (ap (option_and_then (λ o. o)) (slice_get_past c.args.pending.now.items c.args.place past))
