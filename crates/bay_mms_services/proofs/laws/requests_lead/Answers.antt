use Rattle.bay_mms_services.proofs.EntryLemmas.{request-leads}
use Rattle.bay_mms_services.proofs.laws.requests_lead.Goals as goal

pub returns : goal.returns
returns c = request-leads
