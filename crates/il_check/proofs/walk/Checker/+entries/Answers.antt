use Rattle.std.proofs.Common.{◌≡◌, Option, ap, append-nil, arith, map, option_map, subst, sym, ◌++◌, ◌∙◌}
use Rattle.std.specs.Option.{option_to_list}
use Rattle.std.specs.Result.{IfOk}
use Rattle.il_text.specs.Listing as text
use Rattle.il_text.specs.Views.{entry_of}
use Rattle.il_text.proofs.ListingLemmas.{view-label, view_instruction, view-block}
use Rattle.il_check.specs.Faults.{first_fault_of}
use Rattle.il_check.specs.NamesView.{names_of}
use Rattle.il_check.specs.Program.{Entry}
use Rattle.il_check.specs.ProgramViews.{entry_view}
use Rattle.il_check.specs.WellTyped.{closing_faults, typed_entry_of, type_after_entry}
use Rattle.il_check.proofs.NotedLemmas.{noted-after}
use Rattle.il_check.proofs.WalkLemmas.{deep-found, looked-found, entries-more, entries-left}
use Rattle.il_check.proofs.walk.Checker.+entries.Goals as goal

pub check_parenthesis-returns-clause-found : goal.check_parenthesis-returns-clause-found
check_parenthesis-returns-clause-found t c =
    looked-found _ _ c.args.context.room c.args.parenthesis.line _ _ c.if-context-eq0.false
    (noted-after _ _ _ _ _ _ _ c.note_opening-self.ensures c.in_ok-inner.ensures.found
    (c.note_closing-self.ensures
    ∙ ap (λ k. first_fault_of c.check_entries.new.self.found
    (closing_faults c.args.context.is_reached c.args.parenthesis.end c.args.parenthesis.operator
    c.args.parenthesis.negated k c.args.kind)) c.in_ok-inner.ensures.kind))

pub check_parenthesis-returns-then-context-eq0-clause-found
    : goal.check_parenthesis-returns-then-context-eq0-clause-found
check_parenthesis-returns-then-context-eq0-clause-found t c =
    deep-found _ _ _ c.args.context.room c.args.parenthesis.line _ _ c.if-context-eq0.true
    c.note_opening-self.ensures c.note_if-self.ensures

pub check_entries-loop-item-preserved : goal.check_entries-loop-item-preserved
check_entries-loop-item-preserved t c =
    entries-more (names_of c.args.names.now) c.args.context.room c.args.context.is_reached
    c.args.context.passed c.args.items.now c.args.self.now.found
    c.loop-item.item-index c.item-item.result c.loop-item.self.found
    c.check_entry.new.self.found
    c.loop-item.passed c.add.new.self (omega arith) c.item-item.is
    c.loop-item.invariant
    (record {
      kind = c.in_ok-add.ensures.kind ∙ c.in_ok-left.ensures.kind;
      left = c.in_ok-add.ensures.left
          ∙ ap (λ (o : Option Entry). map entry_view c.loop-item.passed.entries.items
          ++ option_to_list o) c.in_ok-left.ensures.left;
      found = c.in_ok-left.ensures.found;
    })

pub check_entries-returns-clause-left : goal.check_entries-returns-clause-left
check_entries-returns-clause-left t c =
    entries-left (names_of c.args.names.now) c.args.context.room c.args.context.is_reached
    c.args.context.passed c.args.items.now c.args.self.now.found
    c.loop-item.item-index c.loop-item.self.found c.loop-item.passed (omega arith)
    c.loop-item.invariant

pub check_entry-returns-in-Label-clause-kind : goal.check_entry-returns-in-Label-clause-kind
check_entry-returns-in-Label-clause-kind t c = grind (arith, view-label)

pub check_entry-returns-in-Label-clause-left : goal.check_entry-returns-in-Label-clause-left
check_entry-returns-in-Label-clause-left t c = grind (arith, view-label, append-nil)

pub check_entry-returns-in-Label-clause-found : goal.check_entry-returns-in-Label-clause-found
check_entry-returns-in-Label-clause-found t c = grind (arith, view-label)

pub check_entry-returns-in-Instruction-clause-kind
    : goal.check_entry-returns-in-Instruction-clause-kind
check_entry-returns-in-Instruction-clause-kind t c =
    subst
    (λ (e : text.Entry). IfOk c.check_inner_action.result
    (λ l. l.kind ≡ type_after_entry (names_of c.args.names.now) e c.args.kind))
    (sym (ap entry_of c.in-Instruction.is
    ∙ view_instruction c.in-Instruction.line c.in-Instruction.instruction))
    c.check_inner_action.ensures.kind

pub check_entry-returns-in-Instruction-clause-left
    : goal.check_entry-returns-in-Instruction-clause-left
check_entry-returns-in-Instruction-clause-left t c =
    subst
    (λ (e : text.Entry). IfOk c.check_inner_action.result
    (λ l. option_map entry_view l.entry
    ≡ typed_entry_of (names_of c.args.names.now) c.args.context.room e c.args.kind))
    (sym (ap entry_of c.in-Instruction.is
    ∙ view_instruction c.in-Instruction.line c.in-Instruction.instruction))
    c.check_inner_action.ensures.left

pub check_entry-returns-in-Instruction-clause-found
    : goal.check_entry-returns-in-Instruction-clause-found
check_entry-returns-in-Instruction-clause-found t c = grind (arith, view_instruction)

pub check_entry-returns-in_ok-entry-in-Block-clause-kind
    : goal.check_entry-returns-in_ok-entry-in-Block-clause-kind
check_entry-returns-in_ok-entry-in-Block-clause-kind t c = grind (arith, view-block)

pub check_entry-returns-in_ok-entry-in-Block-clause-left
    : goal.check_entry-returns-in_ok-entry-in-Block-clause-left
check_entry-returns-in_ok-entry-in-Block-clause-left t c = grind (arith, view-block)

pub check_entry-returns-in_ok-entry-in-Block-clause-found
    : goal.check_entry-returns-in_ok-entry-in-Block-clause-found
check_entry-returns-in_ok-entry-in-Block-clause-found t c = grind (arith, view-block)
