use Rattle.std.proofs.Common.{◌≡◌, ◌⊎◌, inl, inr, [], length, drop, map, ap, sym, ◌∙◌, arith}
use Rattle.std.proofs.lemmas.Bool.{cases_lt}
use Rattle.std.proofs.Math.ListN.{drop_of_length-le}
use Rattle.bay_mms.specs.RequestViews.{object_name_view}
use Rattle.bay_mms.specs.Views.{data_in}
use Rattle.bay_mms_services.specs.Views.{bay_of}
use Rattle.bay_mms_services.proofs.WriteLemmas.{none-left}
use Rattle.bay_mms_services.proofs.invocation.Invocation.write_all.Goals as goal

pub returns : goal.returns
returns c =
    let names = c.args.names.now in
    let values = c.args.values.now in
    let i = c.loop-i.i in
    let left : (map object_name_view (drop i names) ≡ []) ⊎ (data_in (drop i values) ≡ []) =
    elim (cases_lt i (length names)) [
      | inl lt ↦ inr (ap data_in
          (drop_of_length-le values (omega (arith, lt, c.loop-i-test.false, c.min-i-end.ensures))))
      | inr ge ↦ inl (ap (map object_name_view) (drop_of_length-le names ge))
    ] in
    sym (c.loop-i.invariant ∙ none-left c.args.self.now.client (bay_of c.args.self.now) _ _ _ left)
