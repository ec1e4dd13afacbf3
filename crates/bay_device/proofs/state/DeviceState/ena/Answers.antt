use Rattle.std.proofs.Common.{◌≡◌, ◌<◌, Bool, cond, nat_lt, length, Option, Some, None, ap, sym, ◌∙◌, arith, ℕ}
use Rattle.std.proofs.lemmas.Bool.Decides.{nat_tests}
use Rattle.std.proofs.lemmas.List.{length-map}
use Rattle.bay_process.specs.Layout.{switches_of}
use Rattle.bay_process.specs.ReportedRows.{enabled_at, enabled_from}
use Rattle.bay_process.specs.declared.switch.BoundSwitch.{BoundSwitch}
use Rattle.bay_process.specs.declared.switch.SwitchEnables.{SwitchEnables}
use Rattle.bay_process.proofs.KeptLemmas.{from-shown}
use Rattle.bay_process.proofs.ReleaseLemmas.{places-sized}
use Rattle.bay_device.proofs.state.DeviceState.ena.Goals as goal

within : (k n : ℕ) (o : Option (Bool × Bool)) → k < n → o ≡ cond (nat_lt k n) o None
within k n o lt = grind (arith, nat_tests)

past : (k n : ℕ) (o : Option (Bool × Bool)) → (k < n → ⊥) → None ≡ cond (nat_lt k n) o None
past k n o least = grind (arith, nat_tests)

pub get-enabled-requires-clause-within : goal.get-enabled-requires-clause-within
get-enabled-requires-clause-within c =
    let d = c.args.self.now in
    let many = length-map d.bay.switches (λ (b : BoundSwitch). b.switch) in
    let lent = ap length c.as_slice.ensures in
    omega (
      arith,
      c.if-switch-as_slice.false,
      lent,
      many,
      places-sized (switches_of d.bay.switches)
          (enabled_from d.bay.tree 0 (switches_of d.bay.switches))
          d.releases.text.items d.releases.offsets.items d.released.shows,
    )

pub get-enabled-requires-clause-shows : goal.get-enabled-requires-clause-shows
get-enabled-requires-clause-shows c =
    let d = c.args.self.now in (
      switches_of d.bay.switches,
      enabled_from d.bay.tree 0 (switches_of d.bay.switches),
      d.released.shows,
    )

pub returns-then-switch-as_slice : goal.returns-then-switch-as_slice
returns-then-switch-as_slice c connections =
    let d = c.args.self.now in
    let many = length-map d.bay.switches (λ (b : BoundSwitch). b.switch) in
    let lent = ap length c.as_slice.ensures in
    past c.args.switch (length (switches_of d.bay.switches)) _
    (λ lt. omega (arith, lt, c.if-switch-as_slice.true, lent, many))

pub returns : goal.returns
returns c connections =
    let d = c.args.self.now in
    let ss = switches_of d.bay.switches in
    let k = c.args.switch in
    let many = length-map d.bay.switches (λ (b : BoundSwitch). b.switch) in
    let lent = ap length c.as_slice.ensures in
    let lt : k < length ss = omega (arith, c.if-switch-as_slice.false, lent, many) in
    let got = c.get-enabled.ensures ss (enabled_from d.bay.tree 0 ss) d.released.shows in
    let is : enabled_at d.bay.tree k ≡ c.get-enabled.result =
    from-shown d.bay.tree 0 ss k k c.get-enabled.result (omega arith) got in
    ap (λ (e : SwitchEnables). Some (e.may_open, e.may_close)) (sym is) ∙ within k (length ss) _ lt
