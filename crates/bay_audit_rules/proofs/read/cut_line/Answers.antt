use Rattle.std.proofs.Common.{rules, tests, sym, ◌∙◌}
use Rattle.std.proofs.lemmas.Iterator.{YieldsList-from_slice}
use Rattle.std.proofs.lemmas.Iterator.Search.{position_from_yields_List}
use Rattle.bay_audit_rules.specs.Meaning.{is_line_end}
use Rattle.bay_audit_rules.proofs.WordLemmas.{split-some, split-none}
use Rattle.bay_audit_rules.proofs.read.cut_line.Goals as goal

pub returns-in-Some-clause-cut : goal.returns-in-Some-clause-cut
returns-in-Some-clause-cut c =
    let found =
    position_from_yields_List is_line_end _ _ _ c.position.ensures.ran
    (YieldsList-from_slice c.args.text.now cc) (λ x b q k. search (rules, tests)) in
    split-some is_line_end c.args.text.now c.in-Some.at (sym found ∙ c.in-Some.is)

pub returns-in-None-clause-cut : goal.returns-in-None-clause-cut
returns-in-None-clause-cut c =
    let found =
    position_from_yields_List is_line_end _ _ _ c.position.ensures.ran
    (YieldsList-from_slice c.args.text.now cc) (λ x b q k. search (rules, tests)) in
    split-none is_line_end c.args.text.now (sym found ∙ c.in-None.is)
