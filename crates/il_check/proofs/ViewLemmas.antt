-- One entry of a checked program.
use Rattle.std.proofs.Common.{◌≡◌, Bool, List, [], ◌∷◌, ◌++◌, map, rules, Vec, Global}
use Rattle.std.proofs.lemmas.List.{map-append}
use Rattle.bay_base.specs.declared.types.ElementaryType.{ElementaryType}
use Rattle.il_text.specs.declared.program.Operator.{Operator}
use Rattle.il_check.specs.Program as plain
use Rattle.il_check.specs.ProgramViews.{entry_view, item_view}
use Rattle.il_check.specs.declared.typed.SimpleOperation as code
use Rattle.il_check.specs.declared.typed.TypedEntry.{TypedEntry, Operation, Block, the_lemmas}
use Rattle.il_check.specs.declared.typed.TypedItem.{TypedItem}

pub view-operation : (o : code.SimpleOperation) → entry_view (Operation o) ≡ plain.operation o
view-operation o = search (rules, the_lemmas)

pub view-block : (operator : Operator) (kind : ElementaryType) (negated : Bool)
    (entries : Vec TypedEntry Global)
    → entry_view (Block operator kind negated entries)
    ≡ plain.block operator kind negated (plain.entries_of (map entry_view entries.items))
view-block operator kind negated entries = search (rules, the_lemmas)

pub entries-more : (es : List TypedEntry) (e : TypedEntry)
    → map entry_view (es ++ e ∷ []) ≡ map entry_view es ++ entry_view e ∷ []
entries-more es e = map-append entry_view es (e ∷ [])

pub items-more : (is : List TypedItem) (i : TypedItem)
    → map item_view (is ++ i ∷ []) ≡ map item_view is ++ item_view i ∷ []
items-more is i = map-append item_view is (i ∷ [])

pub ruleset view_rules = (view-operation, view-block, entries-more, items-more)
