use Rattle.std.proofs.Common.{◌≡◌, List, Option, ℕ, map, sym, ap, subst, ◌∙◌}
use Rattle.std.specs.Prelude.{IfSome, position}
use Rattle.bay_process.specs.Values.{is_point}
use Rattle.il_image.specs.declared.value.Value.{Value}
use Rattle.il_scan.specs.Scans.{MachineData, first_machine}
use Rattle.bay_audit.specs.Cases.{example_of}
use Rattle.bay_audit.specs.Conditions.{condition_truths}
use Rattle.bay_audit.specs.Process.{process_value}
use Rattle.bay_audit.specs.Rules.{IsEarlyBy, index_of_release, releasing_point}
use Rattle.bay_audit.proofs.CaseLemmas.{example-is}
use Rattle.bay_audit.proofs.EarlyLemmas.{asked-so}
use Rattle.bay_audit.proofs.early.is_early.Goals as goal

pub returns : goal.returns
returns c shown =
    let g = c.args.program.now in
    let rule = c.args.rule.now in
    let case = c.args.case.now in
    let p = example_of case in
    let inside = sym c.if-not-has_example.ensures in
    let machine : c.in-Some.machine ≡ first_machine g.image =
    subst (λ (o : Option MachineData). IfSome o (λ m. m ≡ first_machine g.image)) c.in-Some.is
    c.in_ok-machine.ensures in
    let inputs = subst
    (λ o. IfSome o (λ values. values.items ≡ map (process_value p) g.reads)) c.in-Some-2.is
    c.in_ok-inputs.ensures in
    let place : c.release_index-place.result ≡ index_of_release g rule =
    c.release_index-place.ensures
    ∙ ap (position (is_point rule.switch (releasing_point rule.operation))) c.writes.ensures in
    record {
      process = p;
      is = example-is case;
      inside = inside;
      covered = asked-so p (example-is case) case inside rule.when c.in_ok-covered.covered
          (c.in_ok-covered.ensures ∙ ap (condition_truths case) c.as_slice.ensures)
          c.if-covered.false;
      early = subst
          (λ (xs : List Value). IsEarlyBy xs (first_machine g.image) (index_of_release g rule)
          c.args.time)
          (c.as_slice-2.ensures.value ∙ inputs)
          (subst
          (λ (m : MachineData). IsEarlyBy c.as_slice-2.result.now m (index_of_release g rule)
          c.args.time)
          machine
          (subst
          (λ (o : Option ℕ). IsEarlyBy c.as_slice-2.result.now c.in-Some.machine o c.args.time)
          place (c.releases_early.ensures shown)));
    }
