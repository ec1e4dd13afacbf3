use Rattle.std.proofs.Common.{rules, tests, sym, ◌∙◌}
use Rattle.std.proofs.lemmas.Iterator.{YieldsList-from_slice}
use Rattle.std.proofs.lemmas.Iterator.Search.{position_from_yields_List}
use Rattle.bay_audit_rules.specs.Meaning.{is_comment}
use Rattle.bay_audit_rules.proofs.WordLemmas.{before-some, before-none}
use Rattle.bay_audit_rules.proofs.lexer.before_comment.Goals as goal

pub returns-in-Some : goal.returns-in-Some
returns-in-Some c =
    let found =
    position_from_yields_List is_comment _ _ _ c.position.ensures.ran
    (YieldsList-from_slice c.args.line.now cc) (λ x b q k. search (rules, tests)) in
    before-some is_comment c.args.line.now c.in-Some.at (sym found ∙ c.in-Some.is)

pub returns-in-None : goal.returns-in-None
returns-in-None c =
    let found =
    position_from_yields_List is_comment _ _ _ c.position.ensures.ran
    (YieldsList-from_slice c.args.line.now cc) (λ x b q k. search (rules, tests)) in
    before-none is_comment c.args.line.now (sym found ∙ c.in-None.is)
