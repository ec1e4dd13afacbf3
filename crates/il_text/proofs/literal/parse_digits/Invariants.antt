use Rattle.std.proofs.Common.{◌≡◌, ◌^◌, ◌-◌, ◌≤◌, drop}
use Rattle.il_text.specs.Literals.{number}
use Rattle.il_text.specs.Runs.{capped_number}
use Rattle.il_text.proofs.LiteralLemmas.{number_from}
use Rattle.il_text.proofs.literal.parse_digits.Given as goal

abbrev pub invariant-loop-byte : goal.invariant-loop-byte
invariant-loop-byte l = record {
  same : capped_number (number l.radix l.digits)
      ≡ number_from l.radix l.wanted l.value (drop l.byte-index l.digits);
  small : l.value ≤ 2 ^ 64 - 1;
}
