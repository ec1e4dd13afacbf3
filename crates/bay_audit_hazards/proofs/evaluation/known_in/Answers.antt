use Rattle.std.proofs.Common.{ℕ, ap, length, refl, subst, sym}
use Rattle.bay_audit_hazards.specs.Parts.{AllowInputs, AllowPositions}
use Rattle.bay_audit_hazards.proofs.CaseLemmas.{sets-allow}
use Rattle.bay_audit_hazards.proofs.evaluation.known_in.Goals as goal

pub returns : goal.returns
returns c =
    let bay = c.args.bay.now in
    let case = c.args.case.now in
    let positions : AllowPositions case (length bay.switches) c.new.result =
    subst (λ (n : ℕ). AllowPositions case n c.new.result) (ap length c.as_slice-switches.ensures)
    (subst (AllowPositions case (length c.as_slice-switches.result.now)) (sym c.new.ensures)
    c.in_ok-positions_in.ensures) in
    let inputs : AllowInputs case (length bay.inputs) c.new-2.result =
    subst (λ (n : ℕ). AllowInputs case n c.new-2.result) (ap length c.as_slice-inputs.ensures)
    (subst (AllowInputs case (length c.as_slice-inputs.result.now)) (sym c.new-2.ensures)
    c.in_ok-inputs_in.ensures) in
    record {
      bounds = refl;
      allows = sets-allow bay case
          (record { bound = c.args.bound; positions = c.new.result; inputs = c.new-2.result })
          positions
          inputs;
    }
