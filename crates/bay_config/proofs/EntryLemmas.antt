-- The refusal of a table with these keys.
use Rattle.std.proofs.Common.{List, Option}
use Rattle.toml.specs.Data.{Members}
use Rattle.bay_config.specs.declared.fault.BayFault.{BayFault}
use Rattle.bay_config.specs.Key.{Key, entry_refusal}

abbrev pub entry_check : List Key → Members → Option BayFault
entry_check keys t = entry_refusal keys t
