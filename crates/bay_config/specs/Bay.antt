-- The bay of a bay file: its sections, its first refusal, and the bay that it describes.
use Rattle.std.specs.Prelude.{ℕ, ◌==◌, ℤ, nat_le, List, [], ◌∷◌, ◌++◌, length, map, codes, Option, None, Some, option_and_then, unwrap_or, Result, Err, if◌then◌else◌}
use Rattle.toml.specs.Data.{Members, no_members, get_member, as_integer, as_table}
use Rattle.toml.specs.Parse.{parse_document}
use Rattle.bay_config.specs.declared.bay.Bay.{Bay}
use Rattle.bay_nodes.specs.declared.switch.Switch.{Switch}
use Rattle.bay_nodes.specs.declared.nameplate.Nameplate.{Nameplate}
use Rattle.bay_nodes.specs.declared.meter.Meter.{Meter}
use Rattle.bay_nodes.specs.declared.profile.Profile.{Profile}
use Rattle.bay_nodes.specs.declared.profile.Profile.TheVariants.{One, Two}
use Rattle.bay_config.specs.declared.fault.BayFault.{BayFault}
use Rattle.bay_config.specs.declared.fault.BayFault.TheVariants.{BadToml}
use Rattle.bay_base.specs.Exact.{unless_refused}
use Rattle.bay_config.specs.Key.{Key, identifier, description, number, power, optional, first_fault, unknown_refusal, text_in, number_in}
use Rattle.bay_nodes.specs.Node.{bay_rows}
use Rattle.bay_config.specs.Point.{bay_points, names_refusal}
use Rattle.bay_config.specs.Remote.{remotes_refusal}
use Rattle.bay_config.specs.Section.{Section, one, many, section_refusal, section_tables}
use Rattle.bay_config.specs.Switch.{switch_keys, switch_in}

-- the last profile that a file may have
abbrev pub last_profile : ℕ
last_profile = 2

-- the key with the profile of the model
abbrev pub profile_key : Key
profile_key = record { name = codes "profile"; form = optional (number 1 last_profile) }

-- the profile with a number; profile 1 if there is none
abbrev pub profile_numbered : ℕ → Profile
profile_numbered n = if n == 2 then Two else One

-- the keys of the section `bay`, in the order in which they are checked
abbrev pub bay_keys : List Key
bay_keys =
    record { name = codes "domain"; form = identifier 32 }
    ∷ record { name = codes "vendor"; form = description }
    ∷ record { name = codes "model"; form = description }
    ∷ record { name = codes "revision"; form = description }
    ∷ record { name = codes "scan_max_age_ms"; form = number 0 600000 }
    ∷ profile_key
    ∷ []

-- the section `bay`, which occurs once
abbrev pub bay_section : Section
bay_section = record { name = codes "bay"; shape = one; keys = λ _. bay_keys }

-- 1 to 32 switches
abbrev pub switch_section : Section
switch_section = record { name = codes "switch"; shape = many 1 32; keys = switch_keys }

-- the keys of an input
abbrev pub input_keys : List Key
input_keys = record { name = codes "name"; form = identifier 16 } ∷ []

-- at most 64 inputs
abbrev pub input_section : Section
input_section = record { name = codes "input"; shape = many 0 64; keys = λ _. input_keys }

-- the key that a meter may have in profile 2
abbrev pub scale_keys : Profile → List Key
scale_keys One = []
scale_keys Two = record { name = codes "scale"; form = optional (power 6) } ∷ []

-- the keys of a meter
abbrev pub meter_keys : Profile → List Key
meter_keys profile = record { name = codes "id"; form = identifier 16 } ∷ scale_keys profile

-- at most 8 meters
abbrev pub meter_section : Profile → Section
meter_section profile =
    record { name = codes "meter"; shape = many 0 8; keys = λ _. meter_keys profile }

-- the sections of a bay file, in their order
abbrev pub sections : Profile → List Section
sections profile =
    bay_section ∷ switch_section ∷ input_section ∷ meter_section profile ∷ []

-- the one table of the section `bay`
abbrev pub bay_table : Members → Members
bay_table file = unwrap_or (option_and_then as_table (get_member (codes "bay") file)) no_members

-- the nameplate that the table of the section `bay` describes, if it is not refused
abbrev pub nameplate_in : Members → Nameplate
nameplate_in table = record {
  domain = text_in table (codes "domain");
  vendor = text_in table (codes "vendor");
  model = text_in table (codes "model");
  revision = text_in table (codes "revision");
  scan_max_age_ms = number_in table (codes "scan_max_age_ms");
  profile = profile_numbered (number_in table (codes "profile"));
}

-- the switches that a file describes, if it is not refused
abbrev pub switches_in : Members → List Switch
switches_in file = map switch_in (section_tables file switch_section)

-- the profile of a file
abbrev pub profile_in : Members → Profile
profile_in file = (nameplate_in (bay_table file)).profile

-- the name in the table of an input
abbrev pub input_in : Members → List ℕ
input_in table = text_in table (codes "name")

-- the names of the inputs that a file describes, if it is not refused
abbrev pub inputs_in : Members → List (List ℕ)
inputs_in file = map input_in (section_tables file input_section)

-- the scale in the table of a meter; a meter of profile 1 has none
abbrev pub scale_in : Profile → Members → Option ℤ
scale_in One table = None
scale_in Two table = option_and_then as_integer (get_member (codes "scale") table)

-- the meter in a table
abbrev pub meter_in : Profile → Members → Meter
meter_in profile table =
    record { id = text_in table (codes "id"); scale = scale_in profile table }

-- the meters that a file of a profile describes, if it is not refused
abbrev pub meters_of : Profile → Members → List Meter
meters_of profile file = map (meter_in profile) (section_tables file (meter_section profile))

-- the meters that a file describes, if it is not refused
abbrev pub meters_in : Members → List Meter
meters_in file = meters_of (profile_in file) file

-- a bay of these parts, with the rows and points derived from them
abbrev pub bay_with : Nameplate → List Switch → List (List ℕ) → List Meter → Bay
bay_with nameplate switches inputs meters = record {
  domain = nameplate.domain;
  vendor = nameplate.vendor;
  model = nameplate.model;
  revision = nameplate.revision;
  scan_max_age_ms = nameplate.scan_max_age_ms;
  profile = nameplate.profile;
  rows = bay_rows nameplate switches inputs meters;
  points = bay_points switches inputs meters;
  switches = switches;
  inputs = inputs;
  meters = meters;
}

-- the bay that a file describes, if it is not refused
abbrev pub bay_in : Members → Bay
bay_in file =
    bay_with (nameplate_in (bay_table file)) (switches_in file) (inputs_in file) (meters_in file)

-- the first refusal of a file: a key that is not a section, then section by section, then the names
-- of the points, then the inputs of the switches' keys
abbrev pub file_refusal : Members → Option BayFault
file_refusal file =
    first_fault
    (unknown_refusal (map (λ section. section.name) (sections (profile_in file))) file
    ∷ map (section_refusal file) (sections (profile_in file))
    ++ names_refusal (bay_points (switches_in file) (inputs_in file) (meters_in file))
    ∷ remotes_refusal (inputs_in file) (switches_in file)
    ∷ [])

-- the bay of a file, or its first refusal
abbrev pub bay_of_table : Members → Result Bay BayFault
bay_of_table file = unless_refused (file_refusal file) (bay_in file)

-- a text that is not TOML is refused first
abbrev pub bay_of_document : Option Members → Result Bay BayFault
bay_of_document None = Err BadToml
bay_of_document (Some file) = bay_of_table file

-- the table of a text of at most 262,144 octets
unfoldable pub document_of : List ℕ → Option Members
document_of text = if nat_le (length text) 262144 then parse_document text else None

-- the bay of a text, or its first refusal
abbrev pub bay_of : List ℕ → Result Bay BayFault
bay_of text = bay_of_document (document_of text)
