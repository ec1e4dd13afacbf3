-- The fault to report, of all that a program has: the least by its line, and on one line by its
-- number.
use Rattle.std.specs.Prelude.{◌≡◌, Bool, false, ◌&&◌, ◌||◌, nat_lt, ◌==◌, List, [], ◌∷◌, Contains, Option, None, Some, unwrap_or, if◌then◌else◌}
use Rattle.il_check.specs.Code.{code_of, line_of}
use Rattle.il_check.specs.declared.fault.CheckFault.{CheckFault}

-- ---- own: the fault to report

-- the fault, if the test holds
abbrev pub fault_if : Bool → CheckFault → List CheckFault
fault_if test fault = if test then fault ∷ [] else []

-- whether a fault comes before another: its line is less, or it has a lower number on the same
-- line; out of memory, which has no number, would come before all
abbrev pub is_before : CheckFault → CheckFault → Bool
is_before f g =
    nat_lt (line_of f) (line_of g)
    || (line_of f == line_of g && nat_lt (unwrap_or (code_of f) 0) (unwrap_or (code_of g) 0))

-- the one of two faults that comes first
abbrev pub first_of : CheckFault → CheckFault → CheckFault
first_of f g = if is_before g f then g else f

-- the first of a fault and of others
abbrev pub least_of : CheckFault → List CheckFault → CheckFault
least_of f [] = f
least_of f (g ∷ gs) = least_of (first_of f g) gs

-- the fault to report, if there is one
abbrev pub least_fault : List CheckFault → Option CheckFault
least_fault [] = None
least_fault (f ∷ fs) = Some (least_of f fs)

-- the fault to report, of the first so far, if there is one, and of further ones
abbrev pub first_fault_of : Option CheckFault → List CheckFault → Option CheckFault
first_fault_of None fs = least_fault fs
first_fault_of (Some f) fs = Some (least_of f fs)

-- The fault is one of these, and none of them comes before it.
pub record IsLeast (fault : CheckFault) (faults : List CheckFault) : Type 0 where
  pub among : Contains faults fault
  pub none_before : (other : CheckFault) → Contains faults other → is_before other fault ≡ false
