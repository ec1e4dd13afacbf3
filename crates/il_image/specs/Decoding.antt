-- Reading an image from the left, up to its first fault.
use Rattle.std.specs.Prelude.{ℕ, zero, suc, ◌≡◌, ◌<◌, ◌≤◌, ◌++◌, ◌==◌, ◌||◌, Bool, true, false, List, [], ◌∷◌, length, take, drop, Option, Some, None, Result, Ok, Err, nat_lt, if◌then◌else◌}
use Rattle.std.specs.List.{list_all}
use Rattle.bay_base.specs.Results.{◌>>=◌}
use Rattle.bay_base.specs.declared.types.ElementaryType.{ElementaryType}
use Rattle.bay_base.specs.declared.types.ElementaryType.TheVariants as elementary
use Rattle.il_image.specs.declared.fault.ImageFault.{ImageFault}
use Rattle.il_image.specs.declared.fault.ImageFault.TheVariants.{BadMagic, BadVersion, BadOpcode, Truncated}
use Rattle.il_image.specs.declared.image.ImagePoint.{ImagePoint}
use Rattle.il_image.specs.declared.instr.Instr.{Instr}
use Rattle.il_image.specs.declared.opcode.Version.{Version}
use Rattle.il_image.specs.declared.opcode.Version.TheVariants.{One, Two}
use Rattle.bay_base.specs.declared.types.TimerKind.{TimerKind}
use Rattle.bay_base.specs.declared.types.TimerKind.TheVariants.{OnDelay, OffDelay}
use Rattle.il_image.specs.declared.value.Value.{Value}
use Rattle.il_image.specs.Images.{Image, is_name_octet, mark, value_size}
use Rattle.il_image.specs.Reading.{Read, instr_from, known_value, number_at, octet_at, value_at}

-- ---- own: the format of images (docs/IMAGE.md)

-- the octets after a prefix, which must be this one; an octet that differs or is missing is a fault
abbrev pub octets_after_prefix : List ℕ → List ℕ → Result (List ℕ) ImageFault
octets_after_prefix [] octets = Ok octets
octets_after_prefix (m ∷ marks) [] = Err Truncated
octets_after_prefix (m ∷ marks) (octet ∷ octets) =
    if octet == m then octets_after_prefix marks octets else Err BadMagic

-- the version, an octet
abbrev pub version_at : List ℕ → Read Version
version_at [] = Err Truncated
version_at (octet ∷ rest) =
    if octet == 0x01 then Ok (One, rest)
    else (if octet == 0x02 then Ok (Two, rest) else Err BadVersion)

-- the type with the octet 0x05: LINT in version 2, none in version 1
abbrev pub newest_type : Version → Option ElementaryType
newest_type One = None
newest_type Two = Some elementary.Lint

-- the type that an octet encodes in a version
abbrev pub type_of_octet : Version → ℕ → Option ElementaryType
type_of_octet version octet =
    if octet == 0x01 then Some elementary.Bool
    else (if octet == 0x02 then Some elementary.Int
    else (if octet == 0x03 then Some elementary.Dint
    else (if octet == 0x04 then Some elementary.Time
    else (if octet == 0x05 then newest_type version else None))))

-- a type of the version
abbrev pub type_at : Version → List ℕ → Read ElementaryType
type_at version octets = do
  octet ← octet_at octets
  t ← known_value (type_of_octet version octet.0)
  Ok (t, octet.1)

-- whether code may write the point, as an octet encodes it
abbrev pub access_of : ℕ → Option Bool
access_of octet = if octet == 0x00 then Some false else (if octet == 0x01 then Some true else None)

-- the octet of a point's access: whether code may write the point
abbrev pub access_at : List ℕ → Read Bool
access_at octets = do
  octet ← octet_at octets
  writable ← known_value (access_of octet.0)
  Ok (writable, octet.1)

-- a name of this length; an octet that no name has is reported before a missing end
abbrev pub name_of_length : ℕ → List ℕ → Read (List ℕ)
name_of_length n octets =
    if list_all is_name_octet (take n octets)
    then (if nat_lt (length octets) n then Err Truncated else Ok (take n octets, drop n octets))
    else Err BadOpcode

-- a name after the octet of its length, which is 1 to 64
abbrev pub name_at : List ℕ → Read (List ℕ)
name_at octets = do
  n ← octet_at octets
  if (n.0 == 0) || nat_lt 64 n.0 then Err BadOpcode else name_of_length n.0 n.1

-- a point: its type, whether code may write it, and its name
unfoldable pub point_at : Version → List ℕ → Read ImagePoint
point_at version octets = do
  t ← type_at version octets
  writable ← access_at t.1
  name ← name_at writable.1
  Ok (record { name = name.0; elementary = t.0; writable = writable.0 }, name.1)

-- a variable: its type and its initial value
unfoldable pub variable_at : Version → List ℕ → Read Value
variable_at version octets = do
  t ← type_at version octets
  value_at (value_size version) t.0 t.1

-- the kind of timer that an octet encodes
abbrev pub kind_of_octet : ℕ → Option TimerKind
kind_of_octet octet =
    if octet == 0x01 then Some OnDelay else (if octet == 0x02 then Some OffDelay else None)

-- a timer's kind; version 1 has no octet for it, and all its timers are TON
unfoldable pub timer_at : Version → List ℕ → Read TimerKind
timer_at One octets = Ok (OnDelay, octets)
timer_at Two octets = do
  octet ← octet_at octets
  kind ← known_value (kind_of_octet octet.0)
  Ok (kind, octet.1)

-- n items
abbrev pub items_at : {A : Type 0} → (List ℕ → Read A) → ℕ → List ℕ → Read (List A)
items_at item zero octets = Ok ([], octets)
items_at item (suc n) octets = do
  x ← item octets
  xs ← items_at item n x.1
  Ok (x.0 ∷ xs.0, xs.1)

-- a list of items, after their number
abbrev pub counted_at : {A : Type 0} → (List ℕ → Read A) → List ℕ → Read (List A)
counted_at item octets = do
  n ← number_at octets
  items_at item n.0 n.1

-- the fault of the item that was read, or else the fault of the octets after it
abbrev pub fault_or_later : Read Instr → (List ℕ → Option ImageFault) → Option ImageFault
fault_or_later (Ok r) fault_of = fault_of r.1
fault_or_later (Err fault) fault_of = Some fault

-- the first fault of octets that must be instructions, if there is one; `most` bounds the number of
-- instructions, which is at most the number of octets
abbrev pub code_fault : Version → ℕ → List ℕ → Option ImageFault
code_fault version zero octets = None
code_fault version (suc most) [] = None
code_fault version (suc most) (octet ∷ octets) =
    fault_or_later (instr_from version (octet ∷ octets)) (λ rest. code_fault version most rest)

-- the fault, if there is one, or else the result
abbrev pub fault_or : {A : Type 0} → Option ImageFault → Result A ImageFault → Result A ImageFault
fault_or None r = r
fault_or (Some fault) r = Err fault

-- code of this length, with no octets after it; a fault in the code is reported before a wrong
-- length
abbrev pub code_of_length : Version → ℕ → List ℕ → Result (List ℕ) ImageFault
code_of_length version n octets =
    fault_or (code_fault version (length (take n octets)) (take n octets))
    (if length octets == n then Ok octets else Err Truncated)

-- the octets of the code after their number, with no octets after them
unfoldable pub code_at : Version → List ℕ → Result (List ℕ) ImageFault
code_at version octets = do
  n ← number_at octets
  code_of_length version n.0 n.1

-- the image that octets spell, or their first fault from the left
unfoldable pub decoded_image : List ℕ → Result Image ImageFault
decoded_image octets = do
  rest ← octets_after_prefix mark octets
  version ← version_at rest
  points ← counted_at (point_at version.0) version.1
  variables ← counted_at (variable_at version.0) points.1
  timers ← counted_at (timer_at version.0) variables.1
  code ← code_at version.0 timers.1
  Ok (record { points = points.0; variables = variables.0; timers = timers.0; code = code })

-- The octets begin with the mark, a version and the number of points. Decoding runs out of memory
-- only after it has read these.
pub record Allocates (octets : List ℕ) : Type 0 where
  pub version : Version
  pub rest : List ℕ
  pub begins : (octets_after_prefix mark octets >>= version_at) ≡ Ok (version, rest)
  pub counted : 2 ≤ length rest

-- ---- own: the first octet that is wrong

-- The octets have a first bad one, at the index `bad`: the octets before it are `Truncated`, and
-- those up to it are a `BadOpcode`, whatever follows.
pub record IsFirstBad (octets : List ℕ) : Type 0 where
  pub bad : ℕ
  pub within : bad < length octets
  pub before : decoded_image (take bad octets) ≡ Err Truncated
  pub here : (more : List ℕ) → decoded_image (take (suc bad) octets ++ more) ≡ Err BadOpcode
