use Rattle.std.proofs.Common.{◌≡◌, drop}
use Rattle.bay_mms_services.proofs.IndexLemmas.{leading}
use Rattle.bay_mms_services.proofs.target.control_index.Given as goal

abbrev pub invariant-loop-octet : goal.invariant-loop-octet
invariant-loop-octet l = leading l.number (drop l.octet-index l.digits) ≡ leading 0 l.digits
