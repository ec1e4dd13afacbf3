use Rattle.std.proofs.Common.{◌≡◌, ◌<◌, ◌^◌, drop}
use Rattle.bay_base.proofs.DecimalLemmas.{number_from}
use Rattle.bay_base.proofs.decimal.read_decimal.Given as goal

abbrev pub invariant-loop-octet : goal.invariant-loop-octet
invariant-loop-octet l = record {
  within : l.number < 2 ^ 64;
  read : number_from l.number (drop l.octet-index l.word) ≡ number_from 0 l.word;
}
