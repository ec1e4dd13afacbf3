use Rattle.bay_mms.proofs.ControlLemmas.{operate-is, operate-again, cancel-is, cancel-again, operate-text-is, operate-plain, operate_back}
use Rattle.bay_mms.proofs.laws.a_control_is_its_data.Goals as goal

pub returns-clause-operate : goal.returns-clause-operate
returns-clause-operate c = λ d o. (operate-is d o, operate-again d o)

pub returns-clause-cancel : goal.returns-clause-cancel
returns-clause-cancel c = λ d o. (cancel-is d o, cancel-again d o)

pub returns-clause-written : goal.returns-clause-written
returns-clause-written c = operate-text-is

pub returns-clause-plain : goal.returns-clause-plain
returns-clause-plain c = operate-plain

pub returns-clause-back : goal.returns-clause-back
returns-clause-back c = operate_back
