use Rattle.std.proofs.Common.{arith, []}
use Rattle.bay_ber.specs.Tags.{context, constructed}
use Rattle.bay_ber.proofs.SizeLemmas.{length-element}
use Rattle.bay_mms_initiate.proofs.AgreedLemmas.{agreed_short}
use Rattle.bay_mms.proofs.LawLemmas.{datum-spells, one-value}
use Rattle.bay_mms.proofs.PlainLemmas.{plain-read}
use Rattle.bay_mms.proofs.ShortLemmas.{error_short, reject_short}
use Rattle.bay_mms.proofs.laws.written_is_read.Goals as goal

pub returns-clause-datum : goal.returns-clause-datum
returns-clause-datum c = datum-spells

pub returns-clause-received : goal.returns-clause-received
returns-clause-received c = plain-read

pub returns-clause-agreed : goal.returns-clause-agreed
returns-clause-agreed c =
    λ agreed. one-value (constructed 9) _ (omega arith) (omega (arith, agreed_short agreed))

pub returns-clause-concluded : goal.returns-clause-concluded
returns-clause-concluded c =
    one-value (context 12) [] (omega arith) (omega (arith, length-element (context 12) []))

pub returns-clause-error : goal.returns-clause-error
returns-clause-error c =
    λ id class. one-value (constructed 2) _ (omega arith) (omega (arith, error_short id class))

pub returns-clause-reject : goal.returns-clause-reject
returns-clause-reject c =
    λ id reason. one-value (constructed 4) _ (omega arith) (omega (arith, reject_short id reason))

pub returns-clause-confirmed : goal.returns-clause-confirmed
returns-clause-confirmed c =
    λ id service short. one-value (constructed 1) _ (omega arith) short

pub returns-clause-report : goal.returns-clause-report
returns-clause-report c = λ names values short. one-value (constructed 3) _ (omega arith) short
