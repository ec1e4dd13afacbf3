use Rattle.std.proofs.Common.{sym, ◌∙◌}
use Rattle.bay_audit_rules.proofs.TextLemmas.{looks-some, looks-none}
use Rattle.bay_audit_rules.proofs.statement.read_looks.Goals as goal

pub returns-then-not-is_empty : goal.returns-then-not-is_empty
returns-then-not-is_empty c =
    sym (looks-none c.args.named c.args.tokens.now c.new-draft.result c.read_fact.new.draft
    c.in_ok-rest.field-0 c.in-Some.rest c.new-draft.ensures c.in_ok-rest.ensures c.in-Some.is
    (sym c.is_empty.ensures ∙ c.if-not-is_empty.true))

pub returns : goal.returns
returns c =
    sym (looks-some c.args.named c.args.tokens.now c.new-draft.result c.read_fact.new.draft
    c.in_ok-rest.field-0 c.in-Some.rest c.new-draft.ensures c.in_ok-rest.ensures c.in-Some.is
    (sym c.is_empty.ensures ∙ c.if-not-is_empty.false))
