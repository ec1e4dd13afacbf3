use Rattle.std.proofs.Common.{◌≡◌, ◌<◌, ◌^◌, take}
use Rattle.bay_ber.specs.Octets.{number_of}
use Rattle.bay_ber.proofs.tlv.number_of.Given as goal

abbrev pub invariant-loop-octet : goal.invariant-loop-octet
invariant-loop-octet l =
    (l.number ≡ number_of (take l.octet-index l.octets)) × (l.number < 256 ^ l.octet-index)
