use Rattle.std.proofs.Common.{◌≡◌, ◌≤◌, drop}
use Rattle.bay_audit_rules.specs.Meaning.{is_deep}
use Rattle.bay_audit_rules.proofs.read.is_deep.Given as goal

abbrev pub invariant-loop-token : goal.invariant-loop-token
invariant-loop-token l = record {
  few : l.depth ≤ 64;
  read : is_deep l.depth (drop l.token-index l.tokens) ≡ is_deep 0 l.tokens;
}
