use Rattle.std.proofs.Common.{◌≡◌, length}
use Rattle.hex.specs.Hex.{encode_lower}
use Rattle.bay_io.proofs.SentLemmas.{Rest}
use Rattle.bay_report.proofs.lines.put_digits.Given as goal

abbrev pub invariant-loop-rest : goal.invariant-loop-rest
invariant-loop-rest g l = record {
  progress : Rest g.W.Sink.contents g.W.Sink.does l.initial.writer (encode_lower l.octets)
      (encode_lower l.rest)
      l.writer;
  sized : length l.room ≡ 512;
}

abbrev pub decreases-loop-rest : goal.decreases-loop-rest
decreases-loop-rest g l = length l.rest
