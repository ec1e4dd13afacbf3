-- The tests of a switch's control, of a request and of a view (IEC 61850-7-2, 20; IEC 61850-7-3:
-- ctlModel, Originator, Dbpos).
use Rattle.std.specs.Prelude.{ℕ, Bool, true, false, not, ◌&&◌, List, nat_eq, slice_get, unwrap_or, Option, None, Some}
use Rattle.std.specs.Cmp.Lexicographic.{pointwise}
use Rattle.std.specs.Ordering.{int_eq}
use Rattle.bay_base.specs.declared.switch.Control.{Control}
use Rattle.bay_base.specs.declared.switch.Control.TheVariants.{Status, Direct, Sbo, SboEnhanced}
use Rattle.bay_base.specs.declared.switch.Operation.{Operation}
use Rattle.bay_base.specs.declared.switch.Operation.TheVariants.{Open, Close}
use Rattle.bay_base.specs.declared.position.Dbpos.{Dbpos}
use Rattle.bay_base.specs.declared.position.Dbpos.TheVariants.{Off, On}
use Rattle.bay_control.specs.declared.control.SwitchControl.{SwitchControl}
use Rattle.bay_control.specs.declared.request.Ask.{Ask}
use Rattle.bay_control.specs.declared.request.Choice.{Choice}
use Rattle.bay_control.specs.declared.request.Originator.{Originator}
use Rattle.bay_control.specs.declared.request.View.{View}

-- ---- own: the control of a switch

-- the control of a switch that does not exist
abbrev pub no_control : SwitchControl
no_control =
    record {
      model = Status;
      sbo_timeout_ms = 0;
      travel_ms = 0;
      key = None;
      refuses_synchrocheck = false;
    }

-- a switch that does not exist has no control
abbrev pub control_or_none : Option SwitchControl → SwitchControl
control_or_none None = no_control
control_or_none (Some c) = c

-- the control of the switch at an index
abbrev pub control_of : List SwitchControl → ℕ → SwitchControl
control_of controls k = control_or_none (slice_get controls k)

-- ---- IEC 61850-7-3 ctlModel: control models

-- a client may operate the switch
abbrev pub is_controlled : Control → Bool
is_controlled Status = false
is_controlled Direct = true
is_controlled Sbo = true
is_controlled SboEnhanced = true

-- a client must select the switch, without value, before it operates it
abbrev pub is_normal : Control → Bool
is_normal Status = false
is_normal Direct = false
is_normal Sbo = true
is_normal SboEnhanced = false

-- a client must select the switch with value before it operates it
abbrev pub is_enhanced : Control → Bool
is_enhanced Status = false
is_enhanced Direct = false
is_enhanced Sbo = false
is_enhanced SboEnhanced = true

-- a client must select the switch, either way, before it operates it
abbrev pub is_sbo : Control → Bool
is_sbo Status = false
is_sbo Direct = false
is_sbo Sbo = true
is_sbo SboEnhanced = true

-- ---- own: the key of a switch

-- the input of the switch's key is not TRUE; a switch without a key is never at local
abbrev pub is_local : Option ℕ → List Bool → Bool
is_local None inputs = false
is_local (Some input) inputs = not (unwrap_or (slice_get inputs input) false)

-- ---- own: requests

-- the operation and the originator of a request
abbrev pub requested_choice : Ask → Choice
requested_choice ask = record { operation = ask.operation; origin = ask.origin }

-- the operations are equal
abbrev pub same_operation : Operation → Operation → Bool
same_operation Open Open = true
same_operation Close Close = true
same_operation c d = false

-- the originators have the same category and the same identity
abbrev pub same_origin : Originator → Originator → Bool
same_origin c d = int_eq c.cat d.cat && pointwise nat_eq c.ident d.ident

-- the request is to close the switch with a synchrocheck (IEC 61850-7-2, Check)
abbrev pub closes_checked : Ask → Bool
closes_checked ask = ask.synchrocheck && same_operation ask.operation Close

-- whether the operations are equal and the originators too
abbrev pub same_choice : Choice → Choice → Bool
same_choice c d = same_operation c.operation d.operation && same_origin c.origin d.origin

-- ---- own: views

-- the operation leads to this position (IEC 61850-7-3, Dbpos)
abbrev pub is_reached : Operation → Dbpos → Bool
is_reached Open Off = true
is_reached Close On = true
is_reached operation position = false

-- the interlocking releases the operation (IEC 61850-7-4, CILO)
abbrev pub is_released : Operation → View → Bool
is_released Open view = view.ena_opn
is_released Close view = view.ena_cls
