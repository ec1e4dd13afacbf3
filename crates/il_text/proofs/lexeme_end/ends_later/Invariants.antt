use Rattle.std.proofs.Common.{◌≡◌, drop}
use Rattle.il_text.specs.Lexemes.{ends_later}
use Rattle.il_text.proofs.lexeme_end.ends_later.Given as goal

abbrev pub invariant-loop-i : goal.invariant-loop-i
invariant-loop-i l = ends_later (drop l.fn.at l.bytes) ≡ ends_later (drop l.i l.bytes)
