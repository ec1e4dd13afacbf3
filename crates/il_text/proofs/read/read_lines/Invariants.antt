use Rattle.std.proofs.Common.{◌≡◌, ◌-◌, length}
use Rattle.il_text.specs.Reading.{program_of}
use Rattle.il_text.specs.ReaderViews.{result_from}
use Rattle.il_text.proofs.read.read_lines.Given as goal

abbrev pub invariant-loop-reader : goal.invariant-loop-reader
invariant-loop-reader l = record {
  same : l.reader.text.now ≡ l.text;
  left : result_from l.reader ≡ program_of l.text;
}

abbrev pub decreases-loop-reader : goal.decreases-loop-reader
decreases-loop-reader l = length l.text - l.reader.at
