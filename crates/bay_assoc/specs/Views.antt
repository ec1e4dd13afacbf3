-- The code's values without the slices they borrow from.
use Rattle.std.specs.Prelude.{option_map}
use Rattle.bay_assoc.specs.declared.session.UserData.{UserData}
use Rattle.bay_assoc.specs.declared.session.UserData.TheVariants as user
use Rattle.bay_assoc.specs.declared.session.Spdu as code
use Rattle.bay_assoc.specs.declared.session.Spdu.TheVariants as spdu
use Rattle.bay_assoc.specs.declared.presentation.ContextValue as carried
use Rattle.bay_assoc.specs.declared.request.Connect as request
use Rattle.bay_assoc.specs.declared.receive.Heard.{Heard}
use Rattle.bay_assoc.specs.declared.receive.Heard.TheVariants as heard
use Rattle.bay_assoc.specs.Session.{UserDataView, missing, once, several, Spdu, connect, accept, finish, disconnect, abort, transfer}
use Rattle.bay_assoc.specs.Presentation.{ValueInContext, Connect}
use Rattle.bay_assoc.specs.TsduMeanings.{TsduMeaning, answer, mms, released, aborted}

-- ---- own: views of the code

-- the view of the user data among parameters
abbrev pub user_data_view : UserData → UserDataView
user_data_view user.Missing = missing
user_data_view (user.Once octets) = once octets.now
user_data_view user.Several = several

-- the view of an SPDU
abbrev pub spdu_view : code.Spdu → Spdu
spdu_view (spdu.Connect octets) = connect octets.now
spdu_view spdu.Accept = accept
spdu_view (spdu.Finish octets) = finish (option_map (λ o. o.now) octets)
spdu_view spdu.Disconnect = disconnect
spdu_view spdu.Abort = abort
spdu_view (spdu.Transfer octets) = transfer octets.now

-- the view of a value in a context
abbrev pub context_value_view : carried.ContextValue → ValueInContext
context_value_view c = record { id = c.id; value = c.value.now }

-- the view of a request for a connection
abbrev pub connect_view : request.Connect → Connect
connect_view c =
    record {
      called = option_map (λ o. o.now) c.called;
      contexts = c.contexts.items;
      user = context_value_view c.user;
    }

-- the view of the meaning of a TSDU
abbrev pub heard_view : Heard → TsduMeaning
heard_view (heard.Answer octets) = answer octets.items
heard_view (heard.Mms octets) = mms octets.now
heard_view (heard.Released octets) = released octets.items
heard_view heard.Aborted = aborted
