-- The parameters of a control, and their data (IEC 61850-7-2, Select, SelectWithValue, Operate and
-- Cancel; IEC 61850-8-1, their mapping to SBOw, Oper and Cancel).
use Rattle.std.specs.Prelude.{ℕ, ℤ, pos, negsuc, ◌≡◌, ◌+◌, ◌*◌, ◌/◌, ◌==◌, ◌&&◌, Bool, true, false, List, [], ◌∷◌, length, Option, Some, None, Result, Ok, Err, nat_lt, if◌then◌else◌}
use Rattle.bay_base.specs.Options.{◌>>=◌}
use Rattle.bay_mms.specs.Data.{Datum, Data, structure, truth, bits, integer, unsigned, octets, utc, no_data, datum}
use Rattle.bay_mms.specs.declared.control.Check.{Check}
use Rattle.bay_mms.specs.declared.fault.DataAccessError.{DataAccessError}
use Rattle.bay_mms.specs.declared.fault.DataAccessError.TheVariants.{TypeInconsistent, ObjectValueInvalid}

-- ---- IEC 61850-8-1 Oper, SBOw, Cancel: parameters

-- the originator (IEC 61850-7-3, Originator): orCat and orIdent, in any range
pub record Origin : Type 0 where
  pub or_cat : ℤ
  pub or_ident : List ℕ

-- the parameters of Cancel: ctlVal, origin, ctlNum, T and Test, in any range
pub record Control : Type 0 where
  pub ctl_val : Bool
  pub origin : Origin
  pub ctl_num : ℤ
  pub t : List ℕ
  pub test : Bool

-- the parameters of SBOw and Oper: those of Cancel, and Check
pub record Operate : Type 0 where
  pub control : Control
  pub check : Check

-- ---- IEC 61850-8-1 Oper, SBOw, Cancel: their data

-- the octet with the two bits of Check
abbrev pub check_octet : Check → ℕ
check_octet c = (if c.synchrocheck then 0x80 else 0) + (if c.interlock_check then 0x40 else 0)

-- a structure of orCat and orIdent (IEC 61850-7-3, Originator)
abbrev pub origin_datum : Origin → Datum
origin_datum o = structure (datum (integer o.or_cat) (datum (octets o.or_ident) no_data))

-- the data of a control, before other data
abbrev pub control_before : Control → Data → Data
control_before c later =
    datum (truth c.ctl_val) (datum (origin_datum c.origin)
    (datum (unsigned c.ctl_num) (datum (utc c.t) (datum (truth c.test) later))))

-- the data of SBOw and Oper
abbrev pub operate_datum : Operate → Datum
operate_datum o =
    structure (control_before o.control (datum (bits (check_octet o.check ∷ []) 2) no_data))

-- the data of Cancel
abbrev pub cancel_datum : Control → Datum
cancel_datum c = structure (control_before c no_data)

-- The two highest bits of the first octet are these checks; the other bits are ignored.
pub record AreChecks (held : List ℕ) (check : Check) : Type 0 where
  pub first : ℕ
  pub later : List ℕ
  pub is : held ≡ first ∷ later
  pub high : first / 64 * 64 ≡ check_octet check

-- The data are those of an operate, except for the ignored bits of Check.
pub record IsOperate (d : Datum) (o : Operate) : Type 0 where
  pub held : List ℕ
  pub checks : AreChecks held o.check
  pub is : d ≡ structure (control_before o.control (datum (bits held 2) no_data))

-- ---- own: how simple data are read

-- the truth value, if the data are a boolean
abbrev pub truth_from_data : Datum → Option Bool
truth_from_data (truth value) = Some value
truth_from_data d = None

-- the number, if the data are an integer
abbrev pub integer_from_data : Datum → Option ℤ
integer_from_data (integer value) = Some value
integer_from_data d = None

-- the number, if the data are an unsigned number
abbrev pub unsigned_from_data : Datum → Option ℤ
unsigned_from_data (unsigned value) = Some value
unsigned_from_data d = None

-- the octets, if the data are an octet string
abbrev pub octets_from_data : Datum → Option (List ℕ)
octets_from_data (octets value) = Some value
octets_from_data d = None

-- the eight octets, if the data are a utc-time
abbrev pub moment_from_data : Datum → Option (List ℕ)
moment_from_data (utc value) = Some value
moment_from_data d = None

-- ---- IEC 61850-8-1 Oper, SBOw, Cancel: how data are read

-- synchrocheck and interlock-check
abbrev pub checks : Bool → Bool → Check
checks s i = record { synchrocheck = s; interlock_check = i }

-- the checks of a number of two bits
abbrev pub check_from_bits : ℕ → Option Check
check_from_bits two =
    if two == 0 then Some (checks false false)
    else (if two == 1 then Some (checks false true)
    else (if two == 2 then Some (checks true false)
    else (if two == 3 then Some (checks true true)
    else None)))

-- the checks in the two highest bits of an octet
abbrev pub check_from_octet : ℕ → Option Check
check_from_octet octet = check_from_bits (octet / 64)

-- the checks in the first octet, if there is one
abbrev pub check_from_octets : List ℕ → Option Check
check_from_octets [] = None
check_from_octets (first ∷ later) = check_from_octet first

-- the checks, if the data are two bits
abbrev pub check_from_data : Datum → Option Check
check_from_data (bits held count) = if count == 2 then check_from_octets held else None
check_from_data d = None

-- consecutive data as a list (own)
abbrev pub data_list : Data → List Datum
data_list no_data = []
data_list (datum first later) = first ∷ data_list later

-- the parts, if the data are a structure (own)
abbrev pub parts_from_data : Datum → Option (List Datum)
parts_from_data (structure parts) = Some (data_list parts)
parts_from_data d = None

-- an originator from its parts (IEC 61850-7-3, Originator)
abbrev pub origin_from_parts : List Datum → Option Origin
origin_from_parts (category ∷ identity ∷ []) = do
  cat ← integer_from_data category
  ident ← octets_from_data identity
  Some (record { or_cat = cat; or_ident = ident })
origin_from_parts parts = None

-- the originator that data are read as (IEC 61850-7-3, Originator)
unfoldable pub origin_from_data : Datum → Option Origin
origin_from_data d = parts_from_data d >>= origin_from_parts

-- a control from its parts, without Check
unfoldable pub control_from_parts : Datum → Datum → Datum → Datum → Datum → Option Control
control_from_parts value origin number moment test = do
  val ← truth_from_data value
  by ← origin_from_data origin
  num ← unsigned_from_data number
  time ← moment_from_data moment
  flag ← truth_from_data test
  Some (record { ctl_val = val; origin = by; ctl_num = num; t = time; test = flag })

-- a cancel from its five parts
abbrev pub cancel_from_parts : List Datum → Option Control
cancel_from_parts (value ∷ origin ∷ number ∷ moment ∷ test ∷ []) =
    control_from_parts value origin number moment test
cancel_from_parts parts = None

-- an operate from its six parts, the last of them Check
abbrev pub operate_from_parts : List Datum → Option Operate
operate_from_parts (value ∷ origin ∷ number ∷ moment ∷ test ∷ check ∷ []) = do
  control ← control_from_parts value origin number moment test
  two ← check_from_data check
  Some (record { control = control; check = two })
operate_from_parts parts = None

-- the cancel that data are read as, in any range
unfoldable pub cancel_from_data : Datum → Option Control
cancel_from_data d = parts_from_data d >>= cancel_from_parts

-- the operate that data are read as, in any range
unfoldable pub operate_from_data : Datum → Option Operate
operate_from_data d = parts_from_data d >>= operate_from_parts

-- ---- own: ranges of the parameters

-- whether a number is an orCat: from -128 to 127
abbrev pub is_category : ℤ → Bool
is_category (pos n) = nat_lt n 128
is_category (negsuc n) = nat_lt n 128

-- whether a number is a ctlNum: from 0 to 255
abbrev pub is_number : ℤ → Bool
is_number (pos n) = nat_lt n 256
is_number (negsuc n) = false

-- whether a control is in range; an identity has at most 64 octets
abbrev pub is_in_range : Control → Bool
is_in_range c =
    is_number c.ctl_num && (is_category c.origin.or_cat && nat_lt (length c.origin.or_ident) 65)

-- The control, if it is in range. A wrong shape is reported before a wrong range.
abbrev pub in_range_or_error : {A : Type 0} → (A → Control) → Option A → Result A DataAccessError
in_range_or_error control None = Err TypeInconsistent
in_range_or_error control (Some x) =
    if is_in_range (control x) then Ok x else Err ObjectValueInvalid

-- the operate that data are read as, or why they are none
abbrev pub operate_or_error : Datum → Result Operate DataAccessError
operate_or_error d = in_range_or_error (λ o. o.control) (operate_from_data d)

-- the cancel that data are read as, or why they are none
abbrev pub cancel_or_error : Datum → Result Control DataAccessError
cancel_or_error d = in_range_or_error (λ c. c) (cancel_from_data d)
