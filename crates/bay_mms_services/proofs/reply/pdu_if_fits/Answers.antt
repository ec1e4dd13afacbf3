use Rattle.std.proofs.Common.{sym}
use Rattle.bay_mms_services.proofs.ReplyLemmas.{fits-given, lost-told, lost_none}
use Rattle.bay_mms_services.proofs.reply.pdu_if_fits.Goals as goal

pub returns-in-Ok-clause-pdu : goal.returns-in-Ok-clause-pdu
returns-in-Ok-clause-pdu c size pdu gives =
    sym (fits-given size pdu c.in-Ok.pdu (rw c.in-Ok.is at gives))

pub returns-in-Err-clause-pdu : goal.returns-in-Err-clause-pdu
returns-in-Err-clause-pdu c size pdu gives =
    lost-told c.no_pdu.result c.args.made c.in-Err.fault size pdu c.in-Err.is c.no_pdu.ensures gives

pub returns-in-Err-clause-made : goal.returns-in-Err-clause-made
returns-in-Err-clause-made c = lost_none c.no_pdu.result _ _ c.no_pdu.ensures
