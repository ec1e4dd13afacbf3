-- The text of the releases of the switches, and the offsets of its digits.
use Rattle.std.specs.Prelude.{◌≡◌, ℕ, ◌+◌, Bool, List, [], ◌∷◌, ◌++◌, codes, length, if◌then◌else◌}
use Rattle.bay_nodes.specs.declared.switch.Switch.{Switch}
use Rattle.bay_process.specs.declared.switch.SwitchEnables.{SwitchEnables}

-- the octet of a digit: `1` for TRUE, `0` for FALSE
abbrev pub digit_octet : Bool → ℕ
digit_octet b = if b then 49 else 48

-- the text of a digit: `1` for TRUE, `0` for FALSE
abbrev pub digit_text : Bool → List ℕ
digit_text b = if b then codes "1" else codes "0"

-- a switch's id, and whether it may be opened and closed
abbrev pub switch_text : List ℕ → Bool → Bool → List ℕ
switch_text id opens closes =
    codes " " ++ id ++ codes "=" ++ (digit_text opens ++ digit_text closes)

-- the text of switches with these releases
abbrev pub released_text : List Switch → List SwitchEnables → List ℕ
released_text [] enables = []
released_text (s ∷ ss) [] = []
released_text (s ∷ ss) (e ∷ enables) =
    switch_text s.id e.may_open e.may_close ++ released_text ss enables

-- the text before the digits of a switch
abbrev pub text_before_digits : Switch → List ℕ
text_before_digits s = codes " " ++ s.id ++ codes "="

-- the offsets of the first digits, if the text begins at offset n
abbrev pub digits_from : ℕ → List Switch → List ℕ
digits_from n [] = []
digits_from n (s ∷ ss) =
    (n + length (text_before_digits s)) ∷ digits_from (n + length (text_before_digits s) + 2) ss

-- The text has these releases of these switches, and their first digits are at these offsets.
pub record ShowsReleases (switches : List Switch) (enables : List SwitchEnables) (text : List ℕ)
    (offsets : List ℕ) : Type 0 where
  pub sized : length enables ≡ length switches
  pub text_is : text ≡ released_text switches enables ++ codes "\n"
  pub places_are : offsets ≡ digits_from 0 switches
