use Rattle.std.proofs.Common.{rules, tests, sym, ap, ◌∙◌, ◌∷◌, ◌+◌, take}
use Rattle.std.proofs.lemmas.Iterator.{YieldsList-from_slice}
use Rattle.std.proofs.lemmas.Iterator.Search.{position_from_yields_List}
use Rattle.std.specs.List.{slice_split}
use Rattle.bay_trace.specs.Trace.{is_space}
use Rattle.bay_trace.proofs.WordLemmas.{some-space, no-space}
use Rattle.bay_base.proofs.ListLemmas.{take-rest}
use Rattle.bay_trace.proofs.trace.split_word.Goals as goal

pub returns-in-Some : goal.returns-in-Some
returns-in-Some c =
    let found =
    position_from_yields_List is_space _ _ _ c.position.ensures.ran
    (YieldsList-from_slice c.args.text.now cc) (λ x b q k. search (rules, tests)) in
    some-space c.args.text.now c.in-Some.at (sym found ∙ c.in-Some.is)
    ∙ ap (λ rest. take c.in-Some.at c.args.text.now ∷ slice_split is_space rest)
    (sym (take-rest c.args.text.now (c.in-Some.at + 1)))

pub returns-in-None : goal.returns-in-None
returns-in-None c =
    let found =
    position_from_yields_List is_space _ _ _ c.position.ensures.ran
    (YieldsList-from_slice c.args.text.now cc) (λ x b q k. search (rules, tests)) in
    no-space c.args.text.now (sym found ∙ c.in-None.is)
