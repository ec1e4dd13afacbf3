-- The meaning of the items after a label.
use Rattle.std.specs.Prelude.{ℕ, ◌==◌, List, [], ◌∷◌, Option, None, Some, if◌then◌else◌}
use Rattle.il_check.specs.Program.{ProgramItem, label, transfer, plain}
use Rattle.il_compile.specs.Meaning.{State, mean_from}

-- the items after the label with this number, if there is one
abbrev pub items_after_label : ℕ → List ProgramItem → Option (List ProgramItem)
items_after_label l [] = None
items_after_label l (label n ∷ is) = if n == l then Some is else items_after_label l is
items_after_label l (transfer t ∷ is) = items_after_label l is
items_after_label l (plain e ∷ is) = items_after_label l is

-- the meaning of the items, if there are such items
abbrev pub meaning_after_label : ℕ → Option (List ProgramItem) → State → Option State
meaning_after_label now None s = None
meaning_after_label now (Some is) s = mean_from now None is s
