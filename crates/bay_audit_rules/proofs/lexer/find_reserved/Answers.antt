use Rattle.std.proofs.Common.{◌∙◌, ℕ, List, Option, Bor, option_map, ap}
use Rattle.bay_audit_rules.specs.declared.token.RuleToken.{RuleToken}
use Rattle.bay_audit_rules.proofs.WordLemmas.{word-found}
use Rattle.bay_audit_rules.proofs.lexer.find_reserved.Goals as goal

pub returns : goal.returns
returns c =
    c.token_at.ensures
    ∙ ap (λ (o : Option (Bor (List ℕ) × RuleToken)). option_map (λ one. one.1) o) c.entry_of.ensures
    ∙ word-found c.args.piece.now c.words.result.now c.words.ensures
