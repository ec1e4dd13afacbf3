use Rattle.il_check.specs.ProgramViews.{checked_view}
use Rattle.il_compile.proofs.CompiledLemmas.{does-the-text, is-tabled}
use Rattle.il_compile.proofs.compile.compile.Goals as goal

pub returns-clause-follows : goal.returns-clause-follows
returns-clause-follows c =
    does-the-text (checked_view c.args.program.now) c.in_ok-image.image
    c.compile_image.ensures.typed
    c.in_ok-image.ensures.image

pub returns-clause-tabled : goal.returns-clause-tabled
returns-clause-tabled c =
    is-tabled (checked_view c.args.program.now) c.in_ok-image.image c.compile_image.ensures.typed
    c.in_ok-image.ensures.image
