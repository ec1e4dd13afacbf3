use Rattle.std.proofs.Common.{rules, ◌≡◌, [], ◌++◌, reverse, ap, ◌∙◌}
use Rattle.il_image.specs.Images.{all_spelled}
use Rattle.il_image.specs.Spelling.{spelling}
use Rattle.il_image.specs.declared.instr.Instr.TheVariants.{Halt}
use Rattle.il_compile.specs.Code.{push_unset}
use Rattle.il_compile.proofs.ContinuationLemmas.{whole-spelled}
use Rattle.il_compile.proofs.compile.spell_all.Goals as goal

pub returns : goal.returns
returns c =
    let empty : c.loop-instr.continuation.items ≡ [] = search rules in
    c.in_ok-spell-3.ensures.ok
    ∙ whole-spelled (reverse c.args.continuation.items) c.loop-instr.continuation.items push_unset
    Halt
    c.loop-instr.code.items empty
    (c.loop-instr.invariant ∙ ap (λ l. l ++ all_spelled (reverse c.args.continuation.items))
    (c.in_ok-spell.ensures.ok ∙ ap (λ l. l ++ spelling push_unset) c.new-code.ensures.items))
