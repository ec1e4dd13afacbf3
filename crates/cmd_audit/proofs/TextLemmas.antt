-- Lemmas on the lines of an audit.
use Rattle.std.proofs.Common.{◌≡◌, ℕ, List, [], ◌∷◌, ◌++◌, append_assoc, zip, Result, Ok, Err, OnOk, refl, ap, ◌∙◌}
use Rattle.bay_audit.specs.declared.answer.RuleAnswer.{RuleAnswer}
use Rattle.bay_audit_rules.specs.declared.rule.Rule.{Rule}

pub zip-nil : (rules : List Rule) → zip {K = Rule} {X = RuleAnswer} rules [] ≡ []
zip-nil [] = refl
zip-nil (r ∷ rules) = refl

-- what is added behind what was added
pub after : (old mid new xs ys : List ℕ) → mid ≡ old ++ xs → new ≡ mid ++ ys
    → new ≡ old ++ (xs ++ ys)
after old mid new xs ys first then =
    then ∙ ap (λ t. t ++ ys) first ∙ append_assoc old xs ys

pub after-ok : {E : Type 0} (r : Result Unit E) (old mid new xs ys : List ℕ) → mid ≡ old ++ xs
    → OnOk r (new ≡ mid ++ ys) → OnOk r (new ≡ old ++ (xs ++ ys))
after-ok (Ok x) old mid new xs ys first then = after old mid new xs ys first then
after-ok (Err e) old mid new xs ys first then = then
