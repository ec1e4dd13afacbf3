use Rattle.std.proofs.Common.{◌≡◌, ◌<◌, ◌≤◌, ◌⊎◌, ℕ}
use Rattle.il_scan.specs.PointIndices.{IsPut, with_words}
use Rattle.il_scan.specs.Words.{words_of}
use Rattle.il_scan.proofs.slots.read_inputs.Given as goal

abbrev pub invariant-loop-k : goal.invariant-loop-k
invariant-loop-k g l = record {
  over : with_words l.reads (words_of (g.I.Inputs.values l.inputs)) l.slots
      ≡ with_words l.reads (words_of (g.I.Inputs.values l.inputs)) l.initial.slots;
  put : (j : ℕ) → (j < l.k) ⊎ (l.fn.span.to ≤ j)
      → IsPut l.reads (g.I.Inputs.types l.inputs) (g.I.Inputs.values l.inputs) l.slots j;
}
