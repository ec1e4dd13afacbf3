use Rattle.std.proofs.Common.{◌∙◌, ℕ, List, Option, ap, find, sym}
use Rattle.bay_base.specs.Names.{same_name}
use Rattle.bay_diagram_file.specs.Checks.{kind_by, kind_found}
use Rattle.bay_diagram_file.proofs.checks.kind_by.Goals as goal

pub returns-in-Some : goal.returns-in-Some
returns-in-Some c =
    let switches = c.args.switches.now in
    c.kind_named.ensures
    ∙ ap (λ (id : List ℕ). kind_found (find (λ s. same_name id s.id) switches)) c.as_str.ensures
    ∙ ap (λ (id : Option (List ℕ)). kind_by switches id c.args.kind) (sym c.in-Some.is)
