-- What a bay file that is not refused says of its switches: none of their tables is refused.
use Rattle.std.proofs.Common.{◌≡◌, ℕ, Bool, true, false, cond, List, [], ◌∷◌, ◌++◌, map, codes, unwrap_or, Option, Some, None, Ok, refl, subst, sym}
use Rattle.toml.specs.Data.{Items, no_items, Members, get_member}
use Rattle.bay_nodes.specs.declared.switch.Switch.{Switch}
use Rattle.bay_config.specs.Bay.{bay_in, bay_of, bay_of_document, document_of, bay_section, file_refusal, input_section, inputs_in, meter_section, meters_in, profile_in, sections, switch_section, switches_in}
use Rattle.bay_config.specs.Key.{entry_refusal, first_fault, unknown_refusal}
use Rattle.bay_config.specs.Point.{names_refusal, bay_points}
use Rattle.bay_config.specs.Remote.{remotes_refusal}
use Rattle.bay_config.specs.Section.{items_at, list_checks, list_refusal, section_refusal, tables_of}
use Rattle.bay_config.specs.Switch.{switch_in, switch_keys}
use Rattle.bay_config.specs.declared.bay.Bay.{Bay}
use Rattle.bay_config.specs.declared.fault.BayFault.{BayFault}
use Rattle.bay_config.specs.declared.fault.BayFault.TheVariants.{BadValue}
use Rattle.bay_config.proofs.KeyLemmas.{judged-Ok}

-- no check of some refuses
pub none-first : (check : Option BayFault) (rest : List (Option BayFault))
    → first_fault (check ∷ rest) ≡ None → (check ≡ None) × (first_fault rest ≡ None)
none-first None rest none = (refl, none)
none-first (Some fault) rest none = absurd cc

pub none-behind : (checks rest : List (Option BayFault)) → first_fault (checks ++ rest) ≡ None
    → first_fault rest ≡ None
none-behind [] rest none = none
none-behind (None ∷ checks) rest none = none-behind checks rest none
none-behind (Some fault ∷ checks) rest none = absurd cc

-- what is not a bad value is accepted
pub accepted-is : (accepted : Bool)
    → (let o : Option BayFault = cond accepted None (Some BadValue) in o) ≡ None → accepted ≡ true
accepted-is true none = refl
accepted-is false none = absurd cc

abbrev switch_refusal : Members → Option BayFault
switch_refusal t = entry_refusal (switch_keys t) t

-- what is so of no switch, and of one more where its table is not refused, is so of all
module _
    (Q : List Switch → Type 0) (empty : Q [])
    (more : (t : Members) (ss : List Switch) → entry_refusal (switch_keys t) t ≡ None → Q ss
    → Q (switch_in t ∷ ss))
  where
    tables-pass : (ts : List Members) → first_fault (map switch_refusal ts) ≡ None
        → Q (map switch_in ts)
    tables-pass [] none = empty
    tables-pass (t ∷ ts) none =
        let parts = none-first (switch_refusal t) (map switch_refusal ts) none in
        more t (map switch_in ts) parts.0 (tables-pass ts parts.1)

    list-passes : (o : Option Items) → list_refusal 1 32 switch_keys o ≡ None
        → Q (map switch_in (tables_of (unwrap_or o no_items)))
    list-passes None none = absurd cc
    list-passes (Some items) none =
        tables-pass (tables_of items)
        (none-behind (list_checks 1 32 items) (map switch_refusal (tables_of items)) none)

    file-passes : (file : Members) → file_refusal file ≡ None → Q (switches_in file)
    file-passes file none =
        let names =
        names_refusal (bay_points (switches_in file) (inputs_in file) (meters_in file)) in
        let keys = remotes_refusal (inputs_in file) (switches_in file) in
        let bay = section_refusal file bay_section in
        let switches = section_refusal file switch_section in
        let inputs = section_refusal file input_section in
        let meters = section_refusal file (meter_section (profile_in file)) in
        let one =
        none-first (unknown_refusal (map (λ section. section.name) (sections (profile_in file)))
        file)
        (bay ∷ switches ∷ inputs ∷ meters ∷ names ∷ keys ∷ []) none in
        let two = none-first bay (switches ∷ inputs ∷ meters ∷ names ∷ keys ∷ []) one.1 in
        let three = none-first switches (inputs ∷ meters ∷ names ∷ keys ∷ []) two.1 in
        list-passes (items_at (get_member (codes "switch") file)) three.0

    document-passes : (o : Option Members) (bay : Bay) → bay_of_document o ≡ Ok bay
        → Q bay.switches
    document-passes None bay is = absurd cc
    document-passes (Some file) bay is =
        let parts = judged-Ok (file_refusal file) (bay_in file) bay (sym is) in
        subst (λ (b : Bay). Q b.switches) (sym parts.1) (file-passes file parts.0)

    pub switches-pass : (text : List ℕ) (bay : Bay) → bay_of text ≡ Ok bay → Q bay.switches
    switches-pass text bay is = document-passes (document_of text) bay is
