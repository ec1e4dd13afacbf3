-- Octets that are refused as `Truncated`: the ways in which they are right so far.
use Rattle.std.specs.Prelude.{ℕ, ◌≡◌, ◌<◌, ◌≤◌, ◌-◌, ◌++◌, ◌⊎◌, List, [], ◌∷◌, length, take, Ok}
use Rattle.il_image.specs.declared.instr.Instr.{Instr}
use Rattle.il_image.specs.declared.opcode.Version.{Version}
use Rattle.il_image.specs.declared.value.Value.{Value}
use Rattle.il_image.specs.Decoding.{decoded_image, variable_at}
use Rattle.il_image.specs.Images.{Image, count_and_items, each_spelled, image_octets, mark, point_octets, timer_octets, variable_octets, version_octet}
use Rattle.il_image.specs.Octets.{AreOctets, number_octets, most_counted}
use Rattle.il_image.specs.Reading.{instr_from}
use Rattle.il_image.specs.Spelling.{spelling}

-- ---- own: truncated images

-- The version can encode the image: its encoding decodes to the image.
abbrev pub IsImageOf : Version → Image → Type 0
IsImageOf version image = decoded_image (image_octets version image) ≡ Ok image

-- The version can encode the initial value.
abbrev pub IsValueOf : Version → Value → Type 0
IsValueOf version v = variable_at version (variable_octets version v) ≡ Ok (v, [])

-- The version can encode the instruction.
abbrev pub IsInstrOf : Version → Instr → Type 0
IsInstrOf version i = instr_from version (spelling i) ≡ Ok (i, [])

-- The octets have the same first octet as the spelling, and are fewer.
pub record IsShortOf (octets spelled : List ℕ) : Type 0 where
  pub first : take 1 octets ≡ take 1 spelled
  pub fewer : length octets < length spelled

-- More octets complete these to an image.
pub record IsImagePrefix (octets : List ℕ) : Type 0 where
  pub more : List ℕ
  pub image : Image
  pub fits : AreOctets more
  pub ends : decoded_image (octets ++ more) ≡ Ok image

-- The octets are those of an image, followed by at least one more.
pub record HasTrailing (octets : List ℕ) : Type 0 where
  pub front : List ℕ
  pub others : List ℕ
  pub image : Image
  pub reads : decoded_image front ≡ Ok image
  pub some : 0 < length others
  pub parts : octets ≡ front ++ others

-- The octets end in a part of an initial value that can't be completed: after the image's points
-- come a count, the image's variables (fewer than the count), and the part. The part has the first
-- octet of a value of the version and is shorter, but no value of the version begins with the whole
-- part.
pub record EndsInValue (octets : List ℕ) : Type 0 where
  pub version : Version
  pub image : Image
  pub count : ℕ
  pub part : List ℕ
  pub reads : IsImageOf version image
  pub few : length image.variables < count
  pub small : count ≤ most_counted
  pub begins : (v : Value) × IsValueOf version v × IsShortOf part (variable_octets version v)
  pub none : (v : Value) (rest : List ℕ) → AreOctets rest → IsValueOf version v
      → part ++ rest ≡ variable_octets version v → ⊥
  pub parts : octets ≡ mark
      ++ (version_octet version ∷ (count_and_items point_octets image.points ++
      (number_octets count ++ (each_spelled (variable_octets version) image.variables ++ part))))

-- The code, up to its length or to the end of the octets, ends in a part of an instruction that
-- can't be completed: after the image's points, variables and timers come a length, the image's
-- code (shorter than the length), and the part. Within the length, the part has the first octet of
-- an instruction of the version and is shorter, but each instruction of the version that begins
-- with it is too long for the length.
pub record EndsInInstr (octets : List ℕ) : Type 0 where
  pub version : Version
  pub image : Image
  pub size : ℕ
  pub part : List ℕ
  pub reads : IsImageOf version image
  pub few : length image.code < size
  pub small : size ≤ most_counted
  pub begins : (i : Instr) × IsInstrOf version i
      × IsShortOf (take (size - length image.code) part) (spelling i)
  pub none : (i : Instr) (rest : List ℕ) → AreOctets rest → IsInstrOf version i
      → take (size - length image.code) part ++ rest ≡ spelling i
      → size - length image.code < length (spelling i)
  pub parts : octets ≡ mark
      ++ (version_octet version ∷ (count_and_items point_octets image.points ++
      (count_and_items (variable_octets version) image.variables ++
      (count_and_items (timer_octets version) image.timers ++ (number_octets size ++
      (image.code ++ part))))))

-- The octets are right so far: more octets complete them to an image; or they are an image followed
-- by others; or they end in an initial value, or their code in an instruction, that can't be
-- completed.
abbrev pub IsRightSoFar : List ℕ → Type 0
IsRightSoFar octets =
    IsImagePrefix octets ⊎ (HasTrailing octets ⊎ (EndsInValue octets ⊎ EndsInInstr octets))
