use Rattle.std.proofs.Common.{◌≡◌, ◌∙◌, true, false, sym, arith}
use Rattle.toml.specs.View.{items_view}
use Rattle.bay_config.specs.Section.{are_tables}
use Rattle.bay_config.proofs.ListLemmas.{are_tables-map, count-items, too-few, no-tables, too-many, all-well}
use Rattle.bay_config.proofs.lists.check_list.Goals as goal

pub returns-then-values-least : goal.returns-then-values-least
returns-then-values-least c =
    let vs = c.args.values.now in
    let same = count-items vs in
    too-few c.args.least c.args.most (items_view vs) (omega arith)

pub returns-then-not-are_tables : goal.returns-then-not-are_tables
returns-then-not-are_tables c =
    let vs = c.args.values.now in
    let same = count-items vs in
    let none : are_tables (items_view vs) ≡ false =
    sym (are_tables-map vs) ∙ sym c.are_tables.ensures ∙ c.if-not-are_tables.true in
    no-tables c.args.least c.args.most (items_view vs) (omega arith) none

pub returns-then-values-most : goal.returns-then-values-most
returns-then-values-most c =
    let vs = c.args.values.now in
    let same = count-items vs in
    let tables : are_tables (items_view vs) ≡ true =
    sym (are_tables-map vs) ∙ sym c.are_tables.ensures ∙ c.if-not-are_tables.false in
    too-many c.args.least c.args.most (items_view vs) (omega arith) tables (omega arith)

pub returns : goal.returns
returns c =
    let vs = c.args.values.now in
    let same = count-items vs in
    let tables : are_tables (items_view vs) ≡ true =
    sym (are_tables-map vs) ∙ sym c.are_tables.ensures ∙ c.if-not-are_tables.false in
    all-well c.args.least c.args.most (items_view vs) (omega arith) tables (omega arith)
