use Rattle.std.proofs.Common.{◌≡◌, ◌+◌, ◌<◌, ◌^◌, drop}
use Rattle.std.specs.List.{slice_split}
use Rattle.bay_trace.specs.Trace.{is_space, first_number}
use Rattle.bay_trace.proofs.WordLemmas.{number_behind}
use Rattle.bay_trace.proofs.trace.cut_number.Given as goal

abbrev pub invariant-loop-index : goal.invariant-loop-index
invariant-loop-index l = record {
  within : l.number < 10 ^ (l.index + 1);
  read : first_number (slice_split is_space l.text)
      ≡ number_behind l.number (slice_split is_space (drop l.index l.others));
}
