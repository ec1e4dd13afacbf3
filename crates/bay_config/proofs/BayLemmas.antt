-- A bay's refusal and value, section by section, and then the names of its points.
use Rattle.std.proofs.Common.{◌≡◌, List, [], ◌∷◌, ◌++◌, map, Option, None, Some, Result, Ok, refl}
use Rattle.toml.specs.Data.{Members}
use Rattle.bay_config.specs.declared.bay.Bay.{Bay}
use Rattle.bay_config.specs.declared.fault.BayFault.{BayFault}
use Rattle.bay_config.specs.declared.read.Lists.{Lists}
use Rattle.bay_config.specs.declared.read.Sections.{Sections}
use Rattle.bay_config.specs.Bay.{bay_section, switch_section, input_section, meter_section, sections, bay_table, nameplate_in, profile_in, switches_in, inputs_in, meters_of, meters_in, bay_in, bay_of_table}
use Rattle.bay_base.specs.Exact.{unless_refused}
use Rattle.bay_config.specs.Key.{first_fault, unknown_refusal}
use Rattle.bay_nodes.specs.Node.{bay_rows}
use Rattle.bay_config.specs.Point.{bay_points, names_refusal}
use Rattle.bay_config.specs.Remote.{remotes_refusal}
use Rattle.bay_config.specs.Section.{section_refusal}
use Rattle.bay_config.proofs.KeyLemmas.{then, judged-last, judged-step}

abbrev pub sections_in : Members → Sections
sections_in f =
    record {
      nameplate = nameplate_in (bay_table f);
      switches = switches_in f;
      inputs = inputs_in f;
      meters = meters_in f;
    }

abbrev pub section_checks : Members → List (Option BayFault)
section_checks f =
    unknown_refusal (map (λ s. s.name) (sections (profile_in f))) f
    ∷ map (section_refusal f) (sections (profile_in f))

-- the sections, one after another
abbrev pub by_section : Members → Result Sections BayFault
by_section f =
    then (unless_refused {B = Unit {0}}
    (unknown_refusal (map (λ s. s.name) (sections (profile_in f))) f) tt)
    (λ _. then (unless_refused (section_refusal f bay_section) (nameplate_in (bay_table f)))
    (λ nameplate. then (unless_refused (section_refusal f switch_section) (switches_in f))
    (λ switches. then (unless_refused (section_refusal f input_section) (inputs_in f))
    (λ inputs. then (unless_refused (section_refusal f (meter_section nameplate.profile))
    (meters_of nameplate.profile f))
    (λ meters. Ok
    (record {
      nameplate = nameplate;
      switches = switches;
      inputs = inputs;
      meters = meters;
    }))))))

pub sections-by-section : (f : Members)
    → unless_refused (first_fault (section_checks f)) (sections_in f) ≡ by_section f
sections-by-section f =
    let bay = section_refusal f bay_section in
    let switches = section_refusal f switch_section in
    let inputs = section_refusal f input_section in
    let meters = section_refusal f (meter_section (profile_in f)) in
    judged-step (unknown_refusal (map (λ s. s.name) (sections (profile_in f))) f)
    (bay ∷ switches ∷ inputs ∷ meters ∷ []) (tt {0}) (sections_in f) _
    (judged-step bay (switches ∷ inputs ∷ meters ∷ []) (nameplate_in (bay_table f)) (sections_in f)
    _
    (judged-step switches (inputs ∷ meters ∷ []) (switches_in f) (sections_in f) _
    (judged-step inputs (meters ∷ []) (inputs_in f) (sections_in f) _
    (judged-step meters [] (meters_in f) (sections_in f) _ refl))))

-- the last checks, after the others
judged-last_of : {S R : Type 0} (checks last : List (Option BayFault)) (x : S) (v : R)
    (g : S → Result R BayFault) → unless_refused (first_fault last) v ≡ g x
    → unless_refused (first_fault (checks ++ last)) v
    ≡ then (unless_refused (first_fault checks) x) g
judged-last_of [] last x v g e = e
judged-last_of (None ∷ checks) last x v g e = judged-last_of checks last x v g e
judged-last_of (Some fault ∷ checks) last x v g e = refl

abbrev pub lists_in : Sections → Lists
lists_in s =
    record {
      points = bay_points s.switches s.inputs s.meters;
      rows = bay_rows s.nameplate s.switches s.inputs s.meters;
    }

-- the checks of the lists: the names of the points, and then the keys of the switches
abbrev pub list_checks_in : Sections → List (Option BayFault)
list_checks_in s =
    names_refusal (lists_in s).points ∷ remotes_refusal s.inputs s.switches ∷ []

pub lists-by-check : (s : Sections)
    → unless_refused (first_fault (list_checks_in s)) (lists_in s)
    ≡ then (unless_refused {B = Unit {0}} (names_refusal (lists_in s).points) tt)
    (λ _. then (unless_refused {B = Unit {0}} (remotes_refusal s.inputs s.switches) tt)
    (λ _. Ok (lists_in s)))
lists-by-check s =
    judged-step (names_refusal (lists_in s).points)
    (remotes_refusal s.inputs s.switches ∷ []) (tt {0}) (lists_in s) _
    (judged-step (remotes_refusal s.inputs s.switches) [] (tt {0}) (lists_in s) _ refl)

-- the bay: the sections, and then the lists
abbrev pub bay_by_parts : Members → Result Bay BayFault
bay_by_parts f =
    then (unless_refused (first_fault (section_checks f)) (sections_in f))
    (λ s. then (unless_refused (first_fault (list_checks_in s)) (lists_in s))
    (λ l. Ok (record {
      domain = s.nameplate.domain;
      vendor = s.nameplate.vendor;
      model = s.nameplate.model;
      revision = s.nameplate.revision;
      scan_max_age_ms = s.nameplate.scan_max_age_ms;
      profile = s.nameplate.profile;
      rows = l.rows;
      points = l.points;
      switches = s.switches;
      inputs = s.inputs;
      meters = s.meters;
    })))

pub by-parts : (f : Members) → bay_of_table f ≡ bay_by_parts f
by-parts f =
    let s = sections_in f in
    judged-last_of (section_checks f) (list_checks_in s) s (bay_in f) _
    (judged-last (first_fault (list_checks_in s)) (lists_in s) (bay_in f) _ refl)
