use Rattle.std.proofs.Common.{ℕ, List, [], Option, unwrap_or, ap, ◌∙◌}
use Rattle.bay_server.proofs.control_lines.switch_id.Goals as goal

pub returns-in-Some : goal.returns-in-Some
returns-in-Some c =
    c.as_bytes.ensures.value ∙ ap (λ (o : Option (List ℕ)). unwrap_or o []) c.in-Some.ensures

pub returns-in-None : goal.returns-in-None
returns-in-None c = ap (λ (o : Option (List ℕ)). unwrap_or o []) c.in-None.ensures
