-- Controls as values: as in the code, without the slices they borrow from.
use Rattle.std.specs.Prelude.{pos, Result, Ok, Err}
use Rattle.bay_mms.specs.declared.control.Origin as origin
use Rattle.bay_mms.specs.declared.control.CancelData as cancel
use Rattle.bay_mms.specs.declared.control.OperateData as operate
use Rattle.bay_mms.specs.declared.shape.Shape.{Shape}
use Rattle.bay_mms.specs.declared.fault.DataAccessError.{DataAccessError}
use Rattle.bay_mms.specs.Controls.{Origin, Control, Operate}

-- ---- own: views of the code

-- the view of an originator
abbrev pub origin_view : origin.Origin → Origin
origin_view o = record { or_cat = o.or_cat; or_ident = o.or_ident.now }

-- the view of a cancel
abbrev pub cancel_view : cancel.CancelData → Control
cancel_view c =
    record {
      ctl_val = c.ctl_val;
      origin = origin_view c.origin;
      ctl_num = pos c.ctl_num;
      t = c.t;
      test = c.test;
    }

-- the view of an operate, or of a select with value
abbrev pub operate_view : operate.OperateData → Operate
operate_view o = record { control = cancel_view o.control; check = o.check }

-- the view of a control that was read, in any range
abbrev pub shape_view : Shape → Control
shape_view s =
    record {
      ctl_val = s.ctl_val;
      origin = record { or_cat = s.or_cat; or_ident = s.or_ident.now };
      ctl_num = s.ctl_num;
      t = s.t;
      test = s.test;
    }

-- a result under a view of its value
abbrev pub result_view : {A B : Type 0} → (A → B) → Result A DataAccessError
    → Result B DataAccessError
result_view view (Ok x) = Ok (view x)
result_view view (Err fault) = Err fault
