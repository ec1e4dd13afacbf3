use Rattle.std.proofs.Common.{arith, ap, refl, map, ◌++◌, ◌∙◌}
use Rattle.il_text.specs.Views.{entry_of}
use Rattle.il_check.specs.ProgramViews.{item_view}
use Rattle.il_check.specs.NamesView.{names_of}
use Rattle.il_check.specs.WellTyped.{start_progress, typed_items_of}
use Rattle.il_check.proofs.WalkLemmas.{items-more, items-left, items-found}
use Rattle.il_check.proofs.walk.Checker.check_items.Goals as goal

pub loop-item-preserved : goal.loop-item-preserved
loop-item-preserved c =
    items-more (names_of c.args.names.now) c.args.items.now c.args.self.now.found
    (start_progress c.args.arrivals.items)
    c.loop-item.item-index c.item-item.result c.loop-item.self.found
    c.check_item.new.self.found
    c.loop-item.walk c.clear_if_faulty.new.self (omega arith) c.item-item.is
    c.loop-item.invariant
    (record {
      progress = c.clear_if_faulty.ensures.progress ∙ c.in_ok-check_item.ensures.progress;
      left = λ none. ap (λ kept. map item_view kept.items) (c.clear_if_faulty.ensures.items none)
          ∙ c.in_ok-check_item.ensures.items;
      found = c.in_ok-check_item.ensures.found;
    })

pub loop-item-init : goal.loop-item-init
loop-item-init c = record {
  left = λ none. ap (λ xs. map item_view xs
      ++ typed_items_of (names_of c.args.names.now) (map entry_of c.args.items.now)
      (start_progress c.args.arrivals.items)) c.new.ensures.items;
  found = refl;
  few = omega arith;
}

pub returns-clause-left : goal.returns-clause-left
returns-clause-left c =
    items-left (names_of c.args.names.now) c.args.items.now c.args.self.now.found
    (start_progress c.args.arrivals.items) c.loop-item.item-index c.loop-item.self.found
    c.loop-item.walk c.loop-item-test.false c.loop-item.invariant

pub returns-clause-found : goal.returns-clause-found
returns-clause-found c =
    items-found (names_of c.args.names.now) c.args.items.now c.args.self.now.found
    (start_progress c.args.arrivals.items) c.loop-item.item-index c.loop-item.self.found
    c.loop-item.walk c.loop-item-test.false c.loop-item.invariant
