use Rattle.std.proofs.Common.{◌≡◌, ◌<◌, ◌++◌, ◌∷◌, [], ap, arith, length, rules}
use Rattle.il_check.specs.declared.typed.Variable.{Variable}
use Rattle.il_image.proofs.MapLemmas.{mapped-turn}
use Rattle.il_compile.proofs.compile.values_of.Goals as goal

pub loop-variable-preserved : goal.loop-variable-preserved
loop-variable-preserved c =
    let v = c.variable-item.result in
    let within : c.loop-variable.variable-index < length c.args.variables.now = omega arith in
    let pushed : c.push.new.self.items ≡ c.loop-variable.values.items ++ v.initial ∷ [] =
    search rules in
    mapped-turn (λ (x : Variable). x.initial) c.args.variables.now c.loop-variable.variable-index v
    v.initial [] c.loop-variable.values.items c.push.new.self.items c.loop-variable.invariant
    within
    (ap (λ (x : Variable). x.initial) c.variable-item.is) pushed
