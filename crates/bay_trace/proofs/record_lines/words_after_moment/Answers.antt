use Rattle.std.proofs.Common.{rules, tests, sym, ◌∙◌, ◌+◌, length}
use Rattle.std.proofs.lemmas.Iterator.{YieldsList-from_slice}
use Rattle.std.proofs.lemmas.Iterator.Search.{position_from_yields_List}
use Rattle.bay_base.proofs.ListLemmas.{take-rest}
use Rattle.bay_trace.specs.Trace.{is_space}
use Rattle.bay_trace.proofs.PutLemmas.{behind-none, behind-some}
use Rattle.bay_trace.proofs.record_lines.words_after_moment.Goals as goal

pub returns-in-Some : goal.returns-in-Some
returns-in-Some c =
    let found =
    position_from_yields_List is_space _ _ _ c.position.ensures.ran
    (YieldsList-from_slice c.args.line.now cc) (λ x b q k. search (rules, tests)) in
    take-rest c.args.line.now (c.in-Some.at + 1)
    ∙ behind-some c.args.line.now c.in-Some.at (sym found ∙ c.in-Some.is)

pub returns-in-None : goal.returns-in-None
returns-in-None c =
    let found =
    position_from_yields_List is_space _ _ _ c.position.ensures.ran
    (YieldsList-from_slice c.args.line.now cc) (λ x b q k. search (rules, tests)) in
    take-rest c.args.line.now (length c.args.line.now)
    ∙ behind-none c.args.line.now (sym found ∙ c.in-None.is)
