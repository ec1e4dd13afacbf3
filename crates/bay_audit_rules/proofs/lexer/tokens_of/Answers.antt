use Rattle.std.proofs.Common.{◌++◌, List, option_map, sym, ap, ◌∙◌}
use Rattle.bay_audit_rules.specs.declared.token.RuleToken.{RuleToken}
use Rattle.bay_audit_rules.specs.Meaning.{tokens_of}
use Rattle.bay_audit_rules.specs.Pieces.{pieces}
use Rattle.bay_audit_rules.specs.declared.pieces.Cut.TheVariants.{Line}
use Rattle.bay_audit_rules.proofs.WordLemmas.{token-init, token-more}
use Rattle.bay_audit_rules.proofs.lexer.tokens_of.Goals as goal

pub loop-rest-init : goal.loop-rest-init
loop-rest-init c = record {
  read = token-init c.args.bay.now c.args.line.now c.before_comment-rest.result.now
      c.new-tokens.result.items c.before_comment-rest.ensures c.new-tokens.ensures.items;
}

pub loop-rest-preserved : goal.loop-rest-preserved
loop-rest-preserved c = record {
  read = c.loop-rest.invariant.read
      ∙ token-more c.args.bay.now c.loop-rest.tokens.items c.in-Some.token
      c.split_piece.result.0.now
      (pieces Line c.split_piece.result.1.now) (pieces Line c.loop-rest.rest.now)
      c.split_piece.ensures.cut
      (sym c.is_blank.ensures ∙ c.if-is_blank.false) (sym c.token_from_piece.ensures ∙ c.in-Some.is)
      ∙ ap (λ (ts : List RuleToken). option_map (λ us. ts ++ us)
      (tokens_of c.args.bay.now (pieces Line c.split_piece.result.1.now)))
      (sym c.in_ok-push-in-Some.ensures.items);
}
