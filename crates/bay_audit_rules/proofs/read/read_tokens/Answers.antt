use Rattle.std.proofs.Common.{inr, sym, ◌∙◌}
use Rattle.bay_audit_rules.specs.Meaning.{TokensRead, rules_of}
use Rattle.bay_audit_rules.proofs.TokenParsingLemmas.{says-read}
use Rattle.bay_audit_rules.proofs.TextLemmas.{says-none, pushes-none, pushes-some}
use Rattle.bay_audit_rules.proofs.read.read_tokens.Goals as goal

pub returns-in_default : goal.returns-in_default
returns-in_default c =
    inr (TokensRead.bad_line
    (says-none c.args.tokens.now (sym c.in_ok-statement.ensures ∙ c.in_default.is)))

pub returns-then-has_unknown : goal.returns-then-has_unknown
returns-then-has_unknown c =
    inr (TokensRead.unknown_name
    (says-read c.args.tokens.now c.in-Some.statement (sym c.in_ok-statement.ensures ∙ c.in-Some.is))
    (sym c.has_unknown.ensures ∙ c.if-has_unknown.true))

pub returns-then-not-branch : goal.returns-then-not-branch
returns-then-not-branch c =
    inr (TokensRead.bad_value
    (says-read c.args.tokens.now c.in-Some.statement (sym c.in_ok-statement.ensures ∙ c.in-Some.is))
    (sym c.has_unknown.ensures ∙ c.if-has_unknown.false)
    (pushes-none (rules_of c.args.line c.in-Some.statement) c.args.rules.now.items
    c.push_rules.new.rules.items (rw c.if-not-branch.true at c.in_ok-push_rules.ensures)))

pub returns-then-is_deep : goal.returns-then-is_deep
returns-then-is_deep c =
    let pushed =
    pushes-some (rules_of c.args.line c.in-Some.statement) c.args.rules.now.items
    c.push_rules.new.rules.items (rw c.if-not-branch.false at c.in_ok-push_rules.ensures) in
    inr (TokensRead.too_deep
    (says-read c.args.tokens.now c.in-Some.statement (sym c.in_ok-statement.ensures ∙ c.in-Some.is))
    (sym c.has_unknown.ensures ∙ c.if-has_unknown.false) pushed.was
    (sym c.is_deep.ensures ∙ c.if-is_deep.true))

pub returns : goal.returns
returns c =
    let pushed =
    pushes-some (rules_of c.args.line c.in-Some.statement) c.args.rules.now.items
    c.push_rules.new.rules.items (rw c.if-not-branch.false at c.in_ok-push_rules.ensures) in (
      pushed.rules,
      TokensRead.rules
          (says-read c.args.tokens.now c.in-Some.statement (sym c.in_ok-statement.ensures ∙
          c.in-Some.is))
          (sym c.has_unknown.ensures ∙ c.if-has_unknown.false) pushed.was
          (sym c.is_deep.ensures ∙ c.if-is_deep.false),
      pushed.is,
    )
