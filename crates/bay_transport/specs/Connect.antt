-- The request for a connection and its answer (X.224 13.3 and 13.4), in class 0.
use Rattle.std.specs.Prelude.{ℕ, zero, suc, ◌+◌, ◌/◌, ◌%◌, ◌^◌, ◌==◌, min, Bool, false, List, [], ◌∷◌, ◌++◌, length, take, Option, Some, None, Result, Ok, Err, nat_lt, if◌then◌else◌}
use Rattle.bay_transport.specs.declared.fault.TransportFault.{TransportFault}
use Rattle.bay_transport.specs.declared.fault.TransportFault.TheVariants.{BadCotp, ClassRefused}

-- ---- X.224 13.2.3: parameters

-- a parameter of a TPDU: its code and its value
pub record Parameter : Type 0 where
  pub code : ℕ
  pub value : List ℕ

-- the encoding of parameters: of each its code, the number of octets of its value, and its value
-- (X.224 13.2.3)
abbrev pub parameter_octets : List Parameter → List ℕ
parameter_octets [] = []
parameter_octets (p ∷ ps) = p.code ∷ length p.value ∷ (p.value ++ parameter_octets ps)

-- the length of a parameter's value: the first of the octets after its code
abbrev pub length_octet : List ℕ → ℕ
length_octet [] = 0
length_octet (octets ∷ behind) = octets

-- a parameter with this code, its length and value first in the octets, followed by the later
-- parameters
abbrev pub with_parameter : ℕ → List ℕ → Option (List Parameter) → Option (List Parameter)
with_parameter code behind None = None
with_parameter code [] (Some later) = None
with_parameter code (octets ∷ behind) (Some later) =
    Some (record { code = code; value = take octets behind } ∷ later)

-- the parameters that octets encode after the first n, or None
abbrev pub parameters_after : ℕ → List ℕ → Option (List Parameter)
parameters_after zero [] = Some []
parameters_after (suc skipped) [] = None
parameters_after zero (code ∷ octets) =
    with_parameter code octets (parameters_after (suc (length_octet octets)) octets)
parameters_after (suc skipped) (x ∷ octets) = parameters_after skipped octets

-- the parameters that octets encode, or None
abbrev pub parameters_of : List ℕ → Option (List Parameter)
parameters_of octets = parameters_after 0 octets

-- the first value, or the other if there is none (own)
abbrev pub or_else : Option (List ℕ) → Option (List ℕ) → Option (List ℕ)
or_else (Some x) other = Some x
or_else None other = other

-- the value of the last parameter with this code, or None
abbrev pub last_value : ℕ → List Parameter → Option (List ℕ)
last_value code [] = None
last_value code (p ∷ ps) =
    or_else (last_value code ps) (if p.code == code then Some p.value else None)

-- ---- X.224 13.3.4: the size of a TPDU

-- The size of a TPDU in octets is 2 to the power of the parameter C0, which is 7 or more; the size
-- is at most 2 ^ 13 (X.224 13.3.4). Without the parameter it is 65,531, the most that a frame
-- holds. The result is the power, if there is one, and the size; None if the value is malformed.
abbrev pub size_of : Option (List ℕ) → Option (Option ℕ × ℕ)
size_of None = Some (None, 65531)
size_of (Some []) = None
size_of (Some (power ∷ [])) =
    if nat_lt power 7 then None else Some (Some (min power 13), 2 ^ min power 13)
size_of (Some (power ∷ more ∷ octets)) = None

-- ---- RFC 1006 6: frames

-- the header of the frame of a TPDU with `count` octets: the version, a reserved octet and the
-- frame's length (RFC 1006 6)
abbrev pub frame_header : ℕ → List ℕ
frame_header count = 3 ∷ 0 ∷ ((count + 4) / 256) ∷ ((count + 4) % 256) ∷ []

-- the frame of a TPDU
abbrev pub frame_of : List ℕ → List ℕ
frame_of tpdu = frame_header (length tpdu) ++ tpdu

-- ---- X.224 13.4: the answer to a request

-- the encoding of one parameter; no octets if it is absent
abbrev pub optional_parameter : ℕ → Option (List ℕ) → List ℕ
optional_parameter code None = []
optional_parameter code (Some value) = code ∷ length value ∷ value

-- the value of the size parameter: the power alone
abbrev pub size_value : Option ℕ → Option (List ℕ)
size_value None = None
size_value (Some power) = Some (power ∷ [])

-- the parameters of the answer: the size, the called and the calling selector, each only if the
-- request has it
abbrev pub answer_parameters : Option ℕ → Option (List ℕ) → Option (List ℕ) → List ℕ
answer_parameters power called calling =
    optional_parameter 0xC0 (size_value power) ++ optional_parameter 0xC2 called
    ++ optional_parameter 0xC1 calling

-- a confirmation up to its parameters, which take `count` octets: its length indicator, D0, the
-- reference of the calling side, the reference of the association, and class 0 (X.224 13.4)
abbrev pub confirm_head : ℕ → ℕ → ℕ → ℕ → List ℕ
confirm_head number high low count =
    (count + 6) ∷ 0xD0 ∷ high ∷ low ∷ (number / 256) ∷ (number % 256) ∷ 0 ∷ []

-- the confirmation in its frame
abbrev pub confirm : ℕ → ℕ → ℕ → List ℕ → List ℕ
confirm number high low parameters =
    frame_of (confirm_head number high low (length parameters) ++ parameters)

-- the confirmation of a connection: the agreed size of its TPDUs in octets, and the frame to send
pub record Confirmation : Type 0 where
  pub size : ℕ
  pub reply : List ℕ

-- the confirmation of a request with these parameters and this size
abbrev pub with_size : ℕ → ℕ → ℕ → List Parameter → Option (Option ℕ × ℕ)
    → Result Confirmation TransportFault
with_size number high low ps None = Err BadCotp
with_size number high low ps (Some size) =
    Ok (record {
      size = size.1;
      reply = confirm number high low
          (answer_parameters size.0 (last_value 0xC2 ps) (last_value 0xC1 ps));
    })

-- the confirmation of a request with these parameters; BadCotp if they or the size are malformed
abbrev pub with_parameters : ℕ → ℕ → ℕ → Option (List Parameter)
    → Result Confirmation TransportFault
with_parameters number high low None = Err BadCotp
with_parameters number high low (Some ps) =
    with_size number high low ps (size_of (last_value 0xC0 ps))

-- ---- X.224 13.3: the request

-- Whether a length indicator is right: it counts the octets of its TPDU after it, six and the
-- parameters. 255 is reserved (X.224 13.2.1).
abbrev pub is_right_indicator : ℕ → List ℕ → Bool
is_right_indicator indicator octets =
    if indicator == 255 then false else indicator == length octets + 6

-- The confirmation of a request on the association with this number, or its fault. `indicator` is
-- the length indicator; the octets are those after the code: two references of two octets, the
-- class with the options, and the parameters. First, a wrong length indicator is refused, then a
-- second request, and then a class other than 0.
abbrev pub connect : ℕ → Bool → ℕ → List ℕ → Result Confirmation TransportFault
connect number again indicator (to_high ∷ to_low ∷ from_high ∷ from_low ∷ class ∷ octets) =
    if is_right_indicator indicator octets
    then (if again then Err BadCotp
    else (if class / 16 == 0 then with_parameters number from_high from_low (parameters_of octets)
    else Err ClassRefused))
    else Err BadCotp
connect number again indicator octets = Err BadCotp
