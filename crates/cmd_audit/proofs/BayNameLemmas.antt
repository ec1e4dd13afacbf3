-- The ids of a bay's switches and the names of its points are words.
use Rattle.std.proofs.Common.{◌≡◌, ◌+◌, ℕ, Bool, true, false, ◌&&◌, cond, nat_le, List, [], ◌∷◌, ◌++◌, length, map, codes, Option, Some, None, option_and_then, unwrap_or, Result, Ok, Err, refl, sym, subst, arith}
use Rattle.std.proofs.lemmas.Bool.{and_parts}
use Rattle.std.proofs.lemmas.Bool.Decides.{nat_tests}
use Rattle.std.specs.Char.{to_ascii_uppercase}
use Rattle.std.specs.List.{list_all}
use Rattle.std.specs.Str.{is_utf8}
use Rattle.toml.specs.Data.{Data, Items, no_items, Members, as_str, get_member}
use Rattle.bay_base.specs.declared.point.Point.{Point}
use Rattle.bay_nodes.specs.declared.meter.Meter.{Meter}
use Rattle.bay_nodes.specs.declared.profile.Profile.{Profile}
use Rattle.bay_nodes.specs.declared.switch.Switch.{Switch}
use Rattle.bay_config.specs.Bay.{bay_in, bay_of, bay_of_document, document_of, bay_section, file_refusal, input_keys, input_section, inputs_in, meter_in, meter_keys, meter_section, meters_in, profile_in, scale_keys, sections, switch_section, switches_in}
use Rattle.bay_config.specs.Key.{Key, begins_with_letter, entry_refusal, first_fault, value_refusal, identifier, is_identifier, is_name_character, key_refusal, passes, text_in, unknown_refusal}
use Rattle.bay_config.specs.Remote.{remotes_refusal}
use Rattle.bay_config.specs.Point.{inputs_from, meter_points, meters_from, names_refusal, points_from, points_of, bay_points}
use Rattle.bay_config.specs.Section.{items_at, list_checks, list_refusal, section_refusal, tables_of}
use Rattle.bay_config.specs.Switch.{control_key, control_of, kind_key, kind_of, optional_keys, switch_in, switch_keys, time_keys}
use Rattle.bay_config.specs.declared.bay.Bay.{Bay}
use Rattle.bay_config.specs.declared.fault.BayFault.{BayFault}
use Rattle.bay_config.specs.declared.fault.BayFault.TheVariants.{BadToml}
use Rattle.bay_config.proofs.KeyLemmas.{judged-Ok}
use Rattle.bay_config.proofs.PassedLemmas.{accepted-is, none-behind, none-first}
use Rattle.il_image.specs.Images.{Each}
use Rattle.cmd_audit.specs.Names.{BaysHaveWords, HasWords, IsWord}
use Rattle.cmd_audit.proofs.NameLemmas.{each-append}

-- ---- tables

-- an identifier of at most n characters is a word
pub passed-word : (n : ℕ) (o : Option (List ℕ)) → passes (is_identifier n) o ≡ true
    → IsWord (unwrap_or o [])
passed-word n None passed = absurd cc
passed-word n (Some s) passed =
    let parts =
    and_parts (begins_with_letter s && list_all is_name_character s) (nat_le (length s) n) passed
    in
    (and_parts (begins_with_letter s) (list_all is_name_character s) parts.0).1

held-word : (o : Option Data) → value_refusal (identifier 16) o ≡ None
    → IsWord (unwrap_or (option_and_then as_str o) [])
held-word None none = absurd cc
held-word (Some d) none =
    passed-word 16 (as_str d) (accepted-is (passes (is_identifier 16) (as_str d)) none)

-- the first key of a table is a name
table-word : (t : Members) (key : List ℕ) (keys : List Key)
    → entry_refusal (record { name = key; form = identifier 16 } ∷ keys) t ≡ None
    → IsWord (text_in t key)
table-word t key keys none =
    let first : Key = record { name = key; form = identifier 16 } in
    let behind =
    none-first (unknown_refusal (map (λ (k : Key). k.name) (first ∷ keys)) t)
    (key_refusal t first ∷ map (key_refusal t) keys) none in
    held-word (get_member key t)
    (none-first (key_refusal t first) (map (key_refusal t) keys) behind.1).0

-- so are those of all tables of a section
module _
    (keys : Members → List Key) (key : List ℕ)
    (is : (t : Members) → entry_refusal (keys t) t ≡ None → IsWord (text_in t key))
  where
    tables-words : (ts : List Members)
        → first_fault (map (λ table. entry_refusal (keys table) table) ts) ≡ None
        → Each IsWord (map (λ t. text_in t key) ts)
    tables-words [] none = tt
    tables-words (t ∷ ts) none =
        let parts =
        none-first (entry_refusal (keys t) t) (map (λ table. entry_refusal (keys table) table) ts)
        none
        in
        (is t parts.0, tables-words ts parts.1)

    list-words : (least most : ℕ) (o : Option Items) → list_refusal least most keys o ≡ None
        → Each IsWord (map (λ t. text_in t key) (tables_of (unwrap_or o no_items)))
    list-words least most None none = absurd cc
    list-words least most (Some items) none =
        tables-words (tables_of items)
        (none-behind (list_checks least most items)
        (map (λ table. entry_refusal (keys table) table) (tables_of items)) none)

switch-word : (t : Members) → entry_refusal (switch_keys t) t ≡ None
    → IsWord (text_in t (codes "id"))
switch-word t none =
    table-word t (codes "id")
    (kind_key ∷ control_key ∷ []
    ++ (time_keys (control_of t) ++ optional_keys (control_of t) (kind_of t))) none

input-word : (t : Members) → entry_refusal input_keys t ≡ None → IsWord (text_in t (codes "name"))
input-word t none = table-word t (codes "name") [] none

meter-word : (profile : Profile) (t : Members) → entry_refusal (meter_keys profile) t ≡ None
    → IsWord (text_in t (codes "id"))
meter-word profile t none = table-word t (codes "id") (scale_keys profile) none

-- ---- points

upper-character : (x : ℕ) → is_name_character x ≡ true
    → is_name_character (to_ascii_uppercase x) ≡ true
upper-character x is = grind (arith, nat_tests)

ending-word : (s ending : List ℕ) → IsWord s → IsWord ending
    → IsWord (map to_ascii_uppercase s ++ ending)
ending-word [] ending word more = more
ending-word (x ∷ s) ending word more =
    let parts = and_parts (is_name_character x) (list_all is_name_character s) word in
    rw (upper-character x parts.0, ending-word s ending parts.1 more) refl

upper-word : (s : List ℕ) → IsWord s → IsWord (map to_ascii_uppercase s)
upper-word [] word = refl
upper-word (x ∷ s) word =
    let parts = and_parts (is_name_character x) (list_all is_name_character s) word in
    rw (upper-character x parts.0, upper-word s parts.1) refl

abbrev IsPointWord : Point → Type 0
IsPointWord p = IsWord p.name

abbrev IsSwitchWord : Switch → Type 0
IsSwitchWord s = IsWord s.id

switch-points : (place : ℕ) (switch : Switch) → IsWord switch.id
    → Each IsPointWord (points_of place switch)
switch-points place switch is = (
  ending-word switch.id (codes "_POS") is refl,
  (
    ending-word switch.id (codes "_OPEN") is refl,
    (
      ending-word switch.id (codes "_CLOSED") is refl,
      (
        ending-word switch.id (codes "_ENA_OPN") is refl,
        (ending-word switch.id (codes "_ENA_CLS") is refl, tt),
      ),
    ),
  ),
)

switches-points : (place : ℕ) (switches : List Switch) → Each IsSwitchWord switches
    → Each IsPointWord (points_from place switches)
switches-points place [] all = tt
switches-points place (switch ∷ switches) all =
    each-append IsPointWord (points_of place switch) (points_from (place + 1) switches)
    (switch-points place switch all.0) (switches-points (place + 1) switches all.1)

inputs-points : (place : ℕ) (names : List (List ℕ)) → Each IsWord names
    → Each IsPointWord (inputs_from place names)
inputs-points place [] all = tt
inputs-points place (name ∷ names) all =
    (upper-word name all.0, inputs-points (place + 1) names all.1)

meter-words : (place : ℕ) (id : List ℕ) → IsWord id → Each IsPointWord (meter_points place id)
meter-words place id is = (
  ending-word id (codes "_TOTW") is refl,
  (
    ending-word id (codes "_TOTVAR") is refl,
    (
      ending-word id (codes "_HZ") is refl,
      (
        ending-word id (codes "_AA") is refl,
        (ending-word id (codes "_AB") is refl, (ending-word id (codes "_AC") is refl, tt)),
      ),
    ),
  ),
)

abbrev IsMeterWord : Meter → Type 0
IsMeterWord m = IsWord m.id

meters-points : (place : ℕ) (meters : List Meter) → Each IsMeterWord meters
    → Each IsPointWord (meters_from place meters)
meters-points place [] all = tt
meters-points place (m ∷ meters) all =
    each-append IsPointWord (meter_points place m.id) (meters_from (place + 1) meters)
    (meter-words place m.id all.0) (meters-points (place + 1) meters all.1)

-- ---- a file

ids-of : (ts : List Members) → Each IsWord (map (λ t. text_in t (codes "id")) ts)
    → Each IsSwitchWord (map switch_in ts)
ids-of [] all = tt
ids-of (t ∷ ts) all = (all.0, ids-of ts all.1)

meter-ids-of : (profile : Profile) (ts : List Members)
    → Each IsWord (map (λ t. text_in t (codes "id")) ts)
    → Each IsMeterWord (map (meter_in profile) ts)
meter-ids-of profile [] all = tt
meter-ids-of profile (t ∷ ts) all = (all.0, meter-ids-of profile ts all.1)

file-words : (file : Members) → file_refusal file ≡ None → HasWords (bay_in file)
file-words file none =
    let profile = profile_in file in
    let names = names_refusal (bay_points (switches_in file) (inputs_in file) (meters_in file)) in
    let keys = remotes_refusal (inputs_in file) (switches_in file) in
    let bay = section_refusal file bay_section in
    let switches = section_refusal file switch_section in
    let inputs = section_refusal file input_section in
    let meters = section_refusal file (meter_section profile) in
    let one =
    none-first (unknown_refusal (map (λ section. section.name) (sections profile)) file)
    (bay ∷ switches ∷ inputs ∷ meters ∷ names ∷ keys ∷ []) none in
    let two = none-first bay (switches ∷ inputs ∷ meters ∷ names ∷ keys ∷ []) one.1 in
    let three = none-first switches (inputs ∷ meters ∷ names ∷ keys ∷ []) two.1 in
    let four = none-first inputs (meters ∷ names ∷ keys ∷ []) three.1 in
    let five = none-first meters (names ∷ keys ∷ []) four.1 in
    let ids : Each IsSwitchWord (switches_in file) =
    ids-of (tables_of (unwrap_or (items_at (get_member (codes "switch") file)) no_items))
    (list-words switch_keys (codes "id") switch-word 1 32
    (items_at (get_member (codes "switch") file)) three.0) in
    let of-inputs : Each IsWord (inputs_in file) =
    list-words (λ t. input_keys) (codes "name") input-word 0 64
    (items_at (get_member (codes "input") file)) four.0 in
    let of-meters : Each IsMeterWord (meters_in file) =
    meter-ids-of profile (tables_of
    (unwrap_or (items_at (get_member (codes "meter") file)) no_items))
    (list-words (λ t. meter_keys profile) (codes "id") (meter-word profile) 0 8
    (items_at (get_member (codes "meter") file)) five.0) in
    record {
      switches = ids;
      points = each-append IsPointWord (points_from 0 (switches_in file)) _
          (switches-points 0 (switches_in file) ids)
          (each-append IsPointWord (inputs_from 0 (inputs_in file)) _
          (inputs-points 0 (inputs_in file) of-inputs)
          (meters-points 0 (meters_in file) of-meters));
    }

document-words : (o : Option Members) (bay : Bay) → bay_of_document o ≡ Ok bay → HasWords bay
document-words None bay is = absurd cc
document-words (Some file) bay is =
    let parts = judged-Ok (file_refusal file) (bay_in file) bay (sym is) in
    subst HasWords (sym parts.1) (file-words file parts.0)

utf8-words : (u : Bool) (text : List ℕ) (bay : Bay)
    → (let r : Result Bay BayFault = cond u (bay_of text) (Err BadToml) in r) ≡ Ok bay
    → HasWords bay
utf8-words true text bay is = document-words (document_of text) bay is
utf8-words false text bay is = absurd cc

pub bays-have-words : BaysHaveWords
bays-have-words text bay is = utf8-words (is_utf8 text) text bay is
