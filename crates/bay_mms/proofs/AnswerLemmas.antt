-- What is answered of octets, by the relations that say what they ask.
use Rattle.std.proofs.Common.{◌≡◌, ℕ, List, Option, Some, None, Result, Ok, Err, refl, inl, inr}
use Rattle.std.specs.Prelude.{IsErrOf, IsSome}
use Rattle.bay_base.specs.Exact.{ExactOr}
use Rattle.bay_ber.specs.Forms.{one}
use Rattle.bay_ber.specs.Values.{Part}
use Rattle.bay_ber.proofs.ReadLemmas.{IsBytes}
use Rattle.bay_mms.specs.RequestViews.{request_view}
use Rattle.bay_mms.specs.Grammar.{request_in}
use Rattle.bay_mms.specs.RequestResults.{list_service_pdu, MayAllocate, IsRequestOrFault}
use Rattle.bay_mms.specs.declared.request.Request.{Request}
use Rattle.bay_mms.specs.declared.fault.MmsFault.{MmsFault}
use Rattle.bay_mms.specs.declared.fault.MmsFault.TheVariants.{BadPdu, UnknownService, TooMany, OutOfMemory}
use Rattle.bay_mms.proofs.AskLemmas.{asked-read, asked-back, unknown-is, many-is, bad-is}
use Rattle.bay_mms.proofs.GrammarLemmas.{list_pdu-exact}

pub memory-taken : (octets : List ℕ) → IsBytes octets → IsSome ((one list_service_pdu).reads octets)
    → MayAllocate octets
memory-taken octets b some = pick ((one list_service_pdu).reads octets) refl some
  where
    pick : (o : Option (Part × (Unit {0} × Unit {0}))) → (one list_service_pdu).reads octets ≡ o
        → IsSome o → MayAllocate octets
    pick None e some = absurd cc
    pick (Some x) e some = (x, list_pdu-exact.back octets x b e)

-- ---- the answer

pub answer-is : (octets : List ℕ) (r : Result Request MmsFault) → IsBytes octets
    → ExactOr OutOfMemory request_view r (request_in octets)
    → (IsErrOf r OutOfMemory → MayAllocate octets)
    → IsRequestOrFault octets r
answer-is octets (Ok request) b held memory = asked-back octets (request_view request) b held
answer-is octets (Err OutOfMemory) b held memory = memory refl
answer-is octets (Err (UnknownService id)) b (inl none) memory = absurd cc
answer-is octets (Err (UnknownService id)) b (inr is) memory = (unknown-is octets id b).0 is
answer-is octets (Err (TooMany id)) b (inl none) memory = absurd cc
answer-is octets (Err (TooMany id)) b (inr is) memory = (many-is octets id b).0 is
answer-is octets (Err (BadPdu known)) b (inl none) memory = absurd cc
answer-is octets (Err (BadPdu known)) b (inr is) memory = (bad-is octets known b).0 is

-- and the other way: the answer is the one of the function that goes the reader's way
pub answer-held : (octets : List ℕ) (r : Result Request MmsFault) → IsBytes octets
    → IsRequestOrFault octets r → ExactOr OutOfMemory request_view r (request_in octets)
answer-held octets (Ok request) b is = asked-read octets (request_view request) is
answer-held octets (Err OutOfMemory) b is = inl refl
answer-held octets (Err (UnknownService id)) b is = inr ((unknown-is octets id b).1 is)
answer-held octets (Err (TooMany id)) b is = inr ((many-is octets id b).1 is)
answer-held octets (Err (BadPdu known)) b is = inr ((bad-is octets known b).1 is)
