-- A nameplate's refusal and value, key by key.
use Rattle.std.proofs.Common.{◌≡◌, [], ◌∷◌, map, codes, Result, Ok, refl}
use Rattle.toml.specs.Data.{Members}
use Rattle.bay_config.specs.declared.fault.BayFault.{BayFault}
use Rattle.bay_nodes.specs.declared.nameplate.Nameplate.{Nameplate}
use Rattle.bay_config.specs.Bay.{bay_keys, nameplate_in, profile_key, profile_numbered}
use Rattle.bay_base.specs.Exact.{unless_refused}
use Rattle.bay_config.specs.Key.{Key, identifier, description, number, unknown_refusal, key_refusal, entry_refusal, text_in, number_in}
use Rattle.bay_config.proofs.KeyLemmas.{then, judged-step}

abbrev domain_key : Key
domain_key = record { name = codes "domain"; form = identifier 32 }

abbrev vendor_key : Key
vendor_key = record { name = codes "vendor"; form = description }

abbrev model_key : Key
model_key = record { name = codes "model"; form = description }

abbrev revision_key : Key
revision_key = record { name = codes "revision"; form = description }

abbrev age_key : Key
age_key = record { name = codes "scan_max_age_ms"; form = number 0 600000 }

-- the nameplate, read key by key
abbrev pub nameplate_by_keys : Members → Result Nameplate BayFault
nameplate_by_keys t =
    then (unless_refused {B = Unit {0}} (unknown_refusal (map (λ key. key.name) bay_keys) t) tt)
    (λ _. then (unless_refused (key_refusal t domain_key) (text_in t (codes "domain")))
    (λ domain. then (unless_refused (key_refusal t vendor_key) (text_in t (codes "vendor")))
    (λ vendor. then (unless_refused (key_refusal t model_key) (text_in t (codes "model")))
    (λ model. then (unless_refused (key_refusal t revision_key) (text_in t (codes "revision")))
    (λ revision. then (unless_refused (key_refusal t age_key)
    (number_in t (codes "scan_max_age_ms")))
    (λ age. then (unless_refused (key_refusal t profile_key)
    (profile_numbered (number_in t (codes "profile"))))
    (λ profile. Ok
    (record {
      domain = domain;
      vendor = vendor;
      model = model;
      revision = revision;
      scan_max_age_ms = age;
      profile = profile;
    }))))))))

pub by_keys : (t : Members)
    → unless_refused (entry_refusal bay_keys t) (nameplate_in t) ≡ nameplate_by_keys t
by_keys t =
    let domain = key_refusal t domain_key in
    let vendor = key_refusal t vendor_key in
    let model = key_refusal t model_key in
    let revision = key_refusal t revision_key in
    let age = key_refusal t age_key in
    let profile = key_refusal t profile_key in
    let bay = nameplate_in t in
    judged-step (unknown_refusal (map (λ key. key.name) bay_keys) t)
    (domain ∷ vendor ∷ model ∷ revision ∷ age ∷ profile ∷ []) (tt {0}) bay _
    (judged-step domain (vendor ∷ model ∷ revision ∷ age ∷ profile ∷ [])
    (text_in t (codes "domain")) bay _
    (judged-step vendor (model ∷ revision ∷ age ∷ profile ∷ []) (text_in t (codes "vendor")) bay _
    (judged-step model (revision ∷ age ∷ profile ∷ []) (text_in t (codes "model")) bay _
    (judged-step revision (age ∷ profile ∷ []) (text_in t (codes "revision")) bay _
    (judged-step age (profile ∷ []) (number_in t (codes "scan_max_age_ms")) bay _
    (judged-step profile [] (profile_numbered (number_in t (codes "profile"))) bay _ refl))))))
