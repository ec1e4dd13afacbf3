-- A program of HALT alone releases no switch.
use Rattle.std.proofs.Common.{◌≡◌, ℕ, pos, true, false, [], refl, arith}
use Rattle.std.proofs.lemmas.Int.{ints}
use Rattle.bay_audit.specs.Process.{IsProcess}
use Rattle.bay_audit.specs.Rules.{RuleHolds}
use Rattle.bay_audit_hazards.specs.Judged.{IsHarmless}
use Rattle.bay_audit_laws.specs.Examples.{at_all_times, halting_program}
use Rattle.bay_audit_rules.specs.Process.{Process}
use Rattle.bay_audit_rules.specs.declared.rule.RuleKind.TheVariants.{Always, Never}
use Rattle.bay_base.specs.declared.position.Dbpos.TheVariants.{Bad}
use Rattle.bay_base.specs.declared.switch.Operation.{Operation}
use Rattle.bay_diagram.specs.declared.network.Network.{Network}
use Rattle.il_image.specs.Machine.{act, run_from}
use Rattle.il_image.specs.Opcodes.{opcode_of}
use Rattle.il_image.specs.Offsets.{is_instruction_offset}
use Rattle.il_image.specs.Reading.{instr_at, instr_from}
use Rattle.il_range.specs.Predictions.{First}
use Rattle.il_scan.specs.Scans.{first_machine}

pub keeps-never : RuleHolds halting_program (at_all_times Never)
keeps-never p is mark machine now slots timers image reached young leaves = refl

abbrev silent : Process
silent = record { position = λ k. Bad; input = λ k. false; measure = λ k field. pos 0 }

is-silent : IsProcess silent
is-silent = record {
  least = λ k field. grind (arith, ints);
  greatest = λ k field. grind (arith, ints);
}

pub breaks-always : RuleHolds halting_program (at_all_times Always) → ⊥
unfolding run_from act is_instruction_offset instr_at instr_from opcode_of
breaks-always h =
    let no : false ≡ true =
    h silent is-silent 0 (first_machine halting_program.image) 0 [] [] refl
    (First halting_program.image)
    tt
    (record { most = 1; steps = 1; halts = refl }) in
    absurd cc

pub harmless-anywhere : (net : Network) (k : ℕ) (operation : Operation)
    → IsHarmless halting_program net k operation
harmless-anywhere net k operation p is danger machine now slots timers image reached leaves = refl
