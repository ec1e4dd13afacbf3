use Rattle.std.proofs.Common.{◌<◌, ◌+◌, inr, refl, option_map, length, arith}
use Rattle.std.proofs.lemmas.Result.{err_from_is_err_and}
use Rattle.std.specs.List.{slice_split}
use Rattle.bay_audit_rules.specs.Meaning.{AllRead, is_line_end}
use Rattle.bay_audit_rules.specs.Reading.{rest_lines}
use Rattle.bay_audit_rules.proofs.TextLemmas.{goes-err, goes-many, goes-on, goes-done}
use Rattle.bay_audit_rules.proofs.read.read_lines.Goals as goal

pub returns-in_err-read_line-clause-refused : goal.returns-in_err-read_line-clause-refused
returns-in_err-read_line-clause-refused c =
    let p = err_from_is_err_and c.from_residual.result c.from_residual.ensures.1 in
    rw (p.1, p.2)
    (goes-err c.args.bay.now c.loop-rules.line c.loop-rules.rules.items c.read_line.new.rules.items
    c.cut_line.result.0.now (slice_split is_line_end c.loop-rules.rest.now)
    (rest_lines (option_map (λ rest. rest.now) c.cut_line.result.1))
    (AllRead c.args.bay.now c.args.text.now) c.in_err-read_line.field-0.0 c.cut_line.ensures.cut
    c.loop-rules.invariant.read (rw c.in_err-read_line.was at c.read_line.ensures))

pub returns-then-len-gt-MAX_RULES-clause-refused : goal.returns-then-len-gt-MAX_RULES-clause-refused
returns-then-len-gt-MAX_RULES-clause-refused c =
    let told = c.in_ok-read_line.ensures in
    inr (goes-many c.args.bay.now c.loop-rules.line c.loop-rules.rules.items told.0
    c.read_line.new.rules.items c.cut_line.result.0.now
    (slice_split is_line_end c.loop-rules.rest.now)
    (rest_lines (option_map (λ rest. rest.now) c.cut_line.result.1))
    (AllRead c.args.bay.now c.args.text.now) c.cut_line.ensures.cut c.loop-rules.invariant.read
    told.1 told.2 (omega (arith, c.len.ensures, c.if-len-gt-MAX_RULES.true)))

pub returns-in-None-clause-read : goal.returns-in-None-clause-read
returns-in-None-clause-read c =
    let told = c.in_ok-read_line.ensures in
    (goes-done c.args.bay.now (c.loop-rules.line + 1) c.read_line.new.rules.items
    (rest_lines (option_map (λ rest. rest.now) c.cut_line.result.1))
    (AllRead c.args.bay.now c.args.text.now) (rw c.in-None.is refl)
    (goes-on c.args.bay.now c.loop-rules.line c.loop-rules.rules.items told.0
    c.read_line.new.rules.items c.cut_line.result.0.now
    (slice_split is_line_end c.loop-rules.rest.now)
    (rest_lines (option_map (λ rest. rest.now) c.cut_line.result.1))
    (AllRead c.args.bay.now c.args.text.now) c.cut_line.ensures.cut c.loop-rules.invariant.read
    told.1 told.2 (omega (arith, c.len.ensures, c.if-len-gt-MAX_RULES.false))))

pub loop-rules-preserved : goal.loop-rules-preserved
loop-rules-preserved c =
    let told = c.in_ok-read_line.ensures in
    record {
      read = goes-on c.args.bay.now c.loop-rules.line c.loop-rules.rules.items told.0
          c.read_line.new.rules.items c.cut_line.result.0.now
          (slice_split is_line_end c.loop-rules.rest.now)
          (slice_split is_line_end c.in-Some.behind.now) (AllRead c.args.bay.now c.args.text.now)
          (rw c.in-Some.is at c.cut_line.ensures.cut) c.loop-rules.invariant.read told.1 told.2
          (omega (arith, c.len.ensures, c.if-len-gt-MAX_RULES.false));
      within = let less : length c.in-Some.behind.now < length c.loop-rules.rest.now =
          rw c.in-Some.is at c.cut_line.ensures.less in omega (
            arith,
            c.loop-rules.invariant.within,
            less,
          );
      few = omega (arith, c.len.ensures, c.if-len-gt-MAX_RULES.false);
    }
