-- A meter's refusal and value, key by key.
use Rattle.std.proofs.Common.{◌≡◌, ◌∷◌, map, codes, Result, Ok, refl}
use Rattle.toml.specs.Data.{Members}
use Rattle.bay_nodes.specs.declared.meter.Meter.{Meter}
use Rattle.bay_nodes.specs.declared.profile.Profile.{Profile}
use Rattle.bay_config.specs.declared.fault.BayFault.{BayFault}
use Rattle.bay_config.specs.Bay.{meter_in, meter_keys, scale_in, scale_keys}
use Rattle.bay_base.specs.Exact.{unless_refused}
use Rattle.bay_config.specs.Key.{Key, identifier, unknown_refusal, key_refusal, first_fault, entry_refusal, text_in}
use Rattle.bay_config.proofs.KeyLemmas.{then, judged-last, judged-step}

abbrev id_key : Key
id_key = record { name = codes "id"; form = identifier 16 }

-- the meter, read key by key
abbrev pub meter_by_keys : Profile → Members → Result Meter BayFault
meter_by_keys profile t =
    then (unless_refused {B = Unit {0}}
    (unknown_refusal (map (λ key. key.name) (meter_keys profile)) t) tt)
    (λ _. then (unless_refused (key_refusal t id_key) (text_in t (codes "id")))
    (λ id. then (unless_refused (first_fault (map (key_refusal t) (scale_keys profile)))
    (scale_in profile t))
    (λ scale. Ok (record { id = id; scale = scale }))))

pub meter-by-keys : (profile : Profile) (t : Members)
    → unless_refused (entry_refusal (meter_keys profile) t) (meter_in profile t)
    ≡ meter_by_keys profile t
meter-by-keys profile t =
    let scales = map (key_refusal t) (scale_keys profile) in
    let meter = meter_in profile t in
    judged-step (unknown_refusal (map (λ key. key.name) (meter_keys profile)) t)
    (key_refusal t id_key ∷ scales) (tt {0}) meter _
    (judged-step (key_refusal t id_key) scales (text_in t (codes "id")) meter _
    (judged-last (first_fault scales) (scale_in profile t) meter _ refl))
