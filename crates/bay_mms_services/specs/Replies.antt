-- Whether a PDU fits the agreed size.
use Rattle.std.specs.Prelude.{ℕ, List, length, nat_le, Option, Some, None, if◌then◌else◌}

-- the PDU, if it has at most `size` octets
abbrev pub pdu_within_size : ℕ → List ℕ → Option (List ℕ)
pdu_within_size size pdu = if nat_le (length pdu) size then Some pdu else None
