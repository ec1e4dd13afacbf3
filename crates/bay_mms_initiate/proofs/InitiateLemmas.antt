-- An initiate is read as what spells it.
use Rattle.std.proofs.Common.{◌≡◌, ℕ, List, Some}
use Rattle.bay_ber.proofs.ReadLemmas.{IsBytes}
use Rattle.bay_ber.proofs.FormLemmas.{ExactIn, exacts}
use Rattle.bay_mms_initiate.specs.declared.initiate.Proposal.{Proposal}
use Rattle.bay_mms_initiate.specs.Initiate.{parameters, services, detail_parts, detail, outstanding, nested_parts, outstanding_parts, proposal_parts, proposal, initiate, initiate_in, IsInitiate}

detail-exact : ExactIn detail
unfolding detail detail_parts parameters services
detail-exact = search exacts depth 20

pub proposal-exact : ExactIn proposal
unfolding proposal proposal_parts outstanding_parts nested_parts outstanding
proposal-exact = search (exacts, detail-exact) depth 20

pub initiate-exact : ExactIn initiate
unfolding initiate
initiate-exact = search (exacts, proposal-exact) depth 20

pub initiate-read : (octets : List ℕ) (p : Proposal) → IsInitiate octets p
    → initiate_in octets ≡ Some p
initiate-read = initiate-exact.read

pub initiate-back : (octets : List ℕ) (p : Proposal) → IsBytes octets → initiate_in octets ≡ Some p
    → IsInitiate octets p
initiate-back = initiate-exact.back
