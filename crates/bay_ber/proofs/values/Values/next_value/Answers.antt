use Rattle.std.proofs.Common.{◌≡◌, ℕ, List, refl, sym, ap, subst, ◌∙◌}
use Rattle.std.proofs.lemmas.Result.{err_from_is_err_and}
use Rattle.bay_ber.specs.Reading.{BeginsWithTlv}
use Rattle.bay_ber.specs.Values.{values_in}
use Rattle.bay_ber.proofs.ValueLemmas.{not-empty}
use Rattle.bay_ber.proofs.ListingLemmas.{nothing-more, values-step, values-stop}
use Rattle.bay_ber.proofs.values.Values.next_value.Goals as goal

pub returns-in_err-tlv-clause-next : goal.returns-in_err-tlv-clause-next
returns-in_err-tlv-clause-next c =
    let p = err_from_is_err_and c.from_residual.result c.from_residual.ensures.1 in
    let left : c.self.inside.rest.now ≡ c.args.self.now = c.self.view_is in
    rw p.1 (
      refl,
      λ e. not-empty c.self.inside.rest.now c.if-is_empty.ensures (left ∙ e),
      λ s. c.in_err-tlv.ensures.only s.0
          (subst (λ (octets : List ℕ). BeginsWithTlv octets s.0) (sym left) s.1),
    )

pub returns-then-is_empty-clause-exact : goal.returns-then-is_empty-clause-exact
returns-then-is_empty-clause-exact c =
    let left : c.self.inside.rest.now ≡ c.args.self.now = c.self.view_is in
    ap values_in (sym left) ∙ nothing-more c.self.inside.rest.now c.if-is_empty.ensures

pub returns-in_err-tlv-clause-exact : goal.returns-in_err-tlv-clause-exact
returns-in_err-tlv-clause-exact c =
    let p = err_from_is_err_and c.from_residual.result c.from_residual.ensures.1 in
    let left : c.self.inside.rest.now ≡ c.args.self.now = c.self.view_is in
    rw p.1 (ap values_in (sym left)
    ∙ values-stop c.self.inside.rest.now c.in_err-tlv.field-0.0
    (not-empty c.self.inside.rest.now c.if-is_empty.ensures) c.in_err-tlv.ensures.exact)

pub returns-clause-exact : goal.returns-clause-exact
returns-clause-exact c =
    let left : c.self.inside.rest.now ≡ c.args.self.now = c.self.view_is in
    ap values_in (sym left) ∙ values-step c.self.inside.rest.now _
    (not-empty c.self.inside.rest.now c.if-is_empty.ensures) c.in_ok-tlv.ensures.exact
