-- The sizes of PDUs of MMS.
use Rattle.std.specs.Prelude.{ℕ, ℤ, pos, negsuc, ◌≤◌, min, nat_lt, Option, Some, None, if◌then◌else◌}

-- the size of the longest PDU in octets
abbrev pub longest_pdu : ℕ
longest_pdu = 65000

-- The sizes of the largest PDU, in octets, on which both sides can agree.
pub record IsPduSize (size : ℕ) : Type 0 where
  pub least : 256 ≤ size
  pub most : size ≤ longest_pdu

-- the agreed size of the largest PDU in octets: at least 256, and at most 65,000, which is also
-- agreed if none is proposed
abbrev pub agreed_size : Option ℤ → Option ℕ
agreed_size None = Some longest_pdu
agreed_size (Some (pos n)) = if nat_lt n 256 then None else Some (min n longest_pdu)
agreed_size (Some (negsuc n)) = None
