use Rattle.std.proofs.Common.{inr, map, Ok, ap, sym, ◌∙◌}
use Rattle.il_text.specs.Views.{plain_program}
use Rattle.il_check.specs.ProgramViews.{item_view, checked_view}
use Rattle.il_check.specs.declared.names.ProgramNames.{ProgramNames}
use Rattle.il_check.proofs.CheckedLemmas.{IsRead, is_read, refused, passed, apart-names}
use Rattle.il_check.proofs.TypedLemmas.{typed-of}
use Rattle.il_check.proofs.check.check_program.Goals as goal

pub of_parts-requires : goal.of_parts-requires
of_parts-requires c =
    let names : ProgramNames =
    record {
      meanings = c.in_ok-declared.declared.meanings;
      labels = c.in_ok-labels.labels.numbers;
    } in
    let read : IsRead c.args.points.now (plain_program c.args.program.now) c.in_ok-declared.declared
    c.in_ok-labels.labels names (map item_view c.in_ok-items.items.items)
    c.check_items.new.self.found =
    is_read c.args.points.now c.args.program.now c.as_slice.result.now c.as_slice-2.result.now
    c.as_slice-3.result.now c.in_ok-declared.declared c.in_ok-labels.labels _ _
    c.as_slice.ensures.value c.as_slice-2.ensures.value c.as_slice-3.ensures.value
    c.in_ok-declared.ensures.ok c.in_ok-declared.ensures.found c.in_ok-labels.ensures.ok
    c.in_ok-items.ensures.left c.in_ok-items.ensures.found in
    let was =
    passed c.args.points.now (plain_program c.args.program.now) c.in_ok-declared.declared
    c.in_ok-labels.labels names _ _ read c.in-None.is in
    record {
      checked = (c.args.points.now, plain_program c.args.program.now, was);
      distinct = apart-names c.args.points.now (plain_program c.args.program.now)
          c.in_ok-declared.declared c.in_ok-labels.labels names _ _ read c.in-None.is;
      typed = typed-of c.args.points.now (plain_program c.args.program.now) _ was;
    }

pub returns-in-Some-clause-checked : goal.returns-in-Some-clause-checked
returns-in-Some-clause-checked c =
    let names : ProgramNames =
    record {
      meanings = c.in_ok-declared.declared.meanings;
      labels = c.in_ok-labels.labels.numbers;
    } in
    let read : IsRead c.args.points.now (plain_program c.args.program.now) c.in_ok-declared.declared
    c.in_ok-labels.labels names (map item_view c.in_ok-items.items.items)
    c.check_items.new.self.found =
    is_read c.args.points.now c.args.program.now c.as_slice.result.now c.as_slice-2.result.now
    c.as_slice-3.result.now c.in_ok-declared.declared c.in_ok-labels.labels _ _
    c.as_slice.ensures.value c.as_slice-2.ensures.value c.as_slice-3.ensures.value
    c.in_ok-declared.ensures.ok c.in_ok-declared.ensures.found c.in_ok-labels.ensures.ok
    c.in_ok-items.ensures.left c.in_ok-items.ensures.found in
    inr (refused c.args.points.now (plain_program c.args.program.now) c.in_ok-declared.declared
    c.in_ok-labels.labels names _ _ read c.in-Some.fault c.in-Some.is)

pub returns-in-None-clause-checked : goal.returns-in-None-clause-checked
returns-in-None-clause-checked c =
    let names : ProgramNames =
    record {
      meanings = c.in_ok-declared.declared.meanings;
      labels = c.in_ok-labels.labels.numbers;
    } in
    let read : IsRead c.args.points.now (plain_program c.args.program.now) c.in_ok-declared.declared
    c.in_ok-labels.labels names (map item_view c.in_ok-items.items.items)
    c.check_items.new.self.found =
    is_read c.args.points.now c.args.program.now c.as_slice.result.now c.as_slice-2.result.now
    c.as_slice-3.result.now c.in_ok-declared.declared c.in_ok-labels.labels _ _
    c.as_slice.ensures.value c.as_slice-2.ensures.value c.as_slice-3.ensures.value
    c.in_ok-declared.ensures.ok c.in_ok-declared.ensures.found c.in_ok-labels.ensures.ok
    c.in_ok-items.ensures.left c.in_ok-items.ensures.found in
    passed c.args.points.now (plain_program c.args.program.now) c.in_ok-declared.declared
    c.in_ok-labels.labels names _ _ read c.in-None.is
    ∙ ap (λ t. Ok (checked_view t)) (sym c.of_parts.ensures)
