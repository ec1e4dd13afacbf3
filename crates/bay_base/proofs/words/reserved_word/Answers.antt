use Rattle.std.proofs.Common.{◌∙◌, ℕ, List, Option, Bor, option_map, ap}
use Rattle.bay_base.specs.declared.words.ReservedWord.{ReservedWord}
use Rattle.bay_base.proofs.WordLemmas.{word-found}
use Rattle.bay_base.proofs.words.reserved_word.Goals as goal

pub returns : goal.returns
returns c =
    c.word_of.ensures
    ∙ ap (λ (o : Option (Bor (List ℕ) × ReservedWord)). option_map (λ one. one.1) o)
    c.entry_of.ensures
    ∙ word-found c.args.text.now c.reserved_words.result.now c.reserved_words.ensures
