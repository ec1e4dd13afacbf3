use Rattle.std.proofs.Common.{None, [], arith}
use Rattle.bay_base.specs.declared.types.ElementaryType.TheVariants as elementary
use Rattle.il_text.specs.declared.program.Declaration.{Declaration}
use Rattle.il_text.specs.declared.program.DeclaredType.TheVariants.{Elementary}
use Rattle.il_text.specs.declared.program.VariableScope.TheVariants.{Local}
use Rattle.il_check.proofs.DeclarationsViewLemmas.{so_far-more, so_far-none, so_far-stands, so_far-found}
use Rattle.il_check.proofs.declare.declare_all.Goals as goal

pub loop-declaration-init : goal.loop-declaration-init
loop-declaration-init c =
    so_far-none c.args.points.now c.args.declarations.now c.new-declared.result
    (c.new-declared.ensures.nothing _) c.new-declared.ensures.no_fault

pub loop-declaration-preserved : goal.loop-declaration-preserved
loop-declaration-preserved c =
    let at : Declaration =
    record {
      line = 0;
      scope = Local;
      name = record { ref_ptr = (0, 0); now = [] };
      kind = Elementary elementary.Bool;
      initial = None;
    } in
    so_far-more c.args.points.now c.args.declarations.now c.loop-declaration.declaration-index at
    c.loop-declaration.declared c.declare.new.self
    (omega arith) c.loop-declaration.invariant c.in_ok-declare.ensures

pub returns-clause-ok : goal.returns-clause-ok
returns-clause-ok c =
    so_far-stands c.args.points.now c.args.declarations.now c.loop-declaration.declaration-index
    c.loop-declaration.declared c.loop-declaration-test.false
    c.loop-declaration.invariant

pub returns-clause-found : goal.returns-clause-found
returns-clause-found c =
    so_far-found c.args.points.now c.args.declarations.now c.loop-declaration.declaration-index
    c.loop-declaration.declared c.loop-declaration-test.false
    c.loop-declaration.invariant
