-- The results of a read, and its effect (ISO 9506-2, Read; IEC 61850-8-1, a select by a read of
-- SBO).
use Rattle.std.specs.Prelude.{ℕ, List, [], ◌∷◌, ◌++◌, length, Option, Some, None, Result, Ok, Err}
use Rattle.bay_tree.specs.Rows.{name_at}
use Rattle.bay_control.specs.Decisions.{Outcome, State, select_outcome}
use Rattle.bay_control.specs.declared.cause.AddCause.{AddCause}
use Rattle.bay_mms.specs.Data.{datum_text}
use Rattle.bay_mms.specs.Nodes.{data_at}
use Rattle.bay_mms.specs.Requests.{MmsName}
use Rattle.bay_mms.specs.Responses.{text_result, failure_result}
use Rattle.bay_mms.specs.declared.fault.DataAccessError.TheVariants.{ObjectNonExistent}
use Rattle.bay_mms_services.specs.Bay.{Bay, client_rows}
use Rattle.bay_mms_services.specs.Controls.{object_of, read_decision}
use Rattle.bay_mms_services.specs.Rows.{row_named}
use Rattle.bay_mms_services.specs.Targets.{target_of}
use Rattle.bay_mms_services.specs.declared.answer.ControlDecision.{ControlDecision}
use Rattle.bay_mms_services.specs.declared.client.ClientContext.{ClientContext}
use Rattle.bay_mms_services.specs.declared.target.ControlPart.{ControlPart}
use Rattle.bay_mms_services.specs.declared.target.ControlPart.TheVariants.{Select, SelectWith, Operate, Cancel}
use Rattle.bay_mms_services.specs.declared.target.Target.{Target}

-- a read after some of its variables: the controls, the decisions, and the octets of the results
pub record ReadState : Type 0 where
  pub controls : State
  pub decisions : List ControlDecision
  pub results : List ℕ

-- before the first variable
abbrev pub initial_read : Bay → ReadState
initial_read b = record { controls = b.controls; decisions = []; results = [] }

-- the text that is the result of a select: the object reference if it is granted, an empty text if
-- it is refused
abbrev pub selected_text : List ℕ → Result (Unit {0}) AddCause → List ℕ
selected_text object (Ok done) = object
selected_text object (Err why) = []

-- a read after a read of SBO, which selects the switch
abbrev pub read_after_select : ClientContext → Bay → ℕ → List ℕ → ReadState → Outcome → ReadState
read_after_select c b k item r o = record {
  controls = o.after;
  decisions = r.decisions ++ read_decision c k o.answer ∷ [];
  results = r.results ++ text_result (selected_text (object_of b item) o.answer);
}

-- a read after a value, as clients see the bay at that point
abbrev pub read_after_value : Bay → ℕ → ReadState → ReadState
read_after_value b place r =
    record r { results = r.results ++ datum_text (data_at (client_rows b r.controls) place) }

-- the state of a read after a variable that is a part of a control
abbrev pub read_part : ClientContext → Bay → ℕ → ReadState → ℕ → ControlPart → ReadState
read_part c b place r k Select =
    read_after_select c b k (name_at b.rows place) r
    (select_outcome c.association k c.now r.controls)
read_part c b place r k SelectWith = read_after_value b place r
read_part c b place r k Operate = read_after_value b place r
read_part c b place r k Cancel = read_after_value b place r

-- a read after a variable that exists, by its target
abbrev pub read_target : ClientContext → Bay → ℕ → ReadState → Option Target → ReadState
read_target c b place r None = read_after_value b place r
read_target c b place r (Some t) = read_part c b place r t.switch t.part

-- a read of a variable that does not exist is an error
abbrev pub read_row : ClientContext → Bay → ReadState → Option ℕ → ReadState
read_row c b r None = record r { results = r.results ++ failure_result ObjectNonExistent }
read_row c b r (Some place) =
    read_target c b place r (target_of (length b.switches) (name_at b.rows place))

-- one variable of a read
abbrev pub read_one : ClientContext → Bay → MmsName → ReadState → ReadState
read_one c b name r = read_row c b r (row_named b name)

-- the variables in their order; each sees the effects of those before it
abbrev pub read_all : ClientContext → Bay → List MmsName → ReadState → ReadState
read_all c b [] r = r
read_all c b (name ∷ names) r = read_all c b names (read_one c b name r)
