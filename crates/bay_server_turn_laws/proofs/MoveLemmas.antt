-- What is sent to an association by some answers and then others.
use Rattle.std.proofs.Common.{List, Result, [], ap, append_assoc, refl, sym, ℕ, ◌++◌, ◌∙◌, ◌∷◌, ◌≡◌}
use Rattle.bay_device.specs.declared.event.Step.{Step}
use Rattle.bay_device.specs.declared.fault.StepFault.{StepFault}
use Rattle.bay_server_turn_laws.specs.Flows.{answer_to, replies_to}

pub sent-append : (a : ℕ) (xs ys : List (Result Step StepFault))
    → replies_to a (xs ++ ys) ≡ replies_to a xs ++ replies_to a ys
sent-append a [] ys = refl
sent-append a (x ∷ xs) ys =
    ap (λ l. answer_to a x ++ l) (sent-append a xs ys)
    ∙ sym (append_assoc (answer_to a x) (replies_to a xs) (replies_to a ys))
