use Rattle.std.proofs.Common.{◌≡◌, ◌++◌, length, option_map}
use Rattle.bay_audit_rules.specs.Meaning.{line_tokens, tokens_of}
use Rattle.bay_audit_rules.specs.Pieces.{pieces}
use Rattle.bay_audit_rules.specs.declared.pieces.Cut.TheVariants.{Line}
use Rattle.bay_audit_rules.proofs.lexer.tokens_of.Given as goal

abbrev pub invariant-loop-rest : goal.invariant-loop-rest
invariant-loop-rest l = record {
  read : line_tokens l.bay l.line
      ≡ option_map (λ ts. l.tokens.items ++ ts) (tokens_of l.bay (pieces Line l.rest));
}

abbrev pub decreases-loop-rest : goal.decreases-loop-rest
decreases-loop-rest l = length l.rest
