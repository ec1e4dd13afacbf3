-- A switch's refusal and value, key by key.
use Rattle.std.proofs.Common.{◌≡◌, ◌⊎◌, inl, inr, ℕ, List, [], ◌∷◌, map, codes, ◌++◌, false, Option, None, Some, option_map, option_and_then, Bool, is_some, Result, Ok, unwrap_or, refl, ap, sym, ◌∙◌}
use Rattle.toml.specs.Data.{Members, get_member, as_integer, as_str}
use Rattle.bay_nodes.specs.declared.switch.Switch.{Switch}
use Rattle.bay_base.specs.declared.switch.SwitchKind.{SwitchKind}
use Rattle.bay_base.specs.declared.switch.SwitchKind.TheVariants.{Breaker, Disconnector, Earthing}
use Rattle.bay_base.specs.declared.switch.Control.{Control}
use Rattle.bay_base.specs.declared.switch.Control.TheVariants.{Status, Direct, Sbo, SboEnhanced}
use Rattle.bay_config.specs.declared.fault.BayFault.{BayFault}
use Rattle.bay_base.specs.Exact.{unless_refused}
use Rattle.bay_config.specs.Key.{Key, first_fault, unknown_refusal, key_refusal, entry_refusal, text_in, number_in, natural, has_unknown, is_among}
use Rattle.bay_config.specs.Switch.{kind_of, control_of, id_key, kind_key, control_key, time_keys, remote_in, refuses_in, optional_keys, switch_keys, switch_in}
use Rattle.bay_config.proofs.KeyLemmas.{then, judged-step, judged-last, unknown-absent}

abbrev pub times_in : Members → ℕ × ℕ
times_in t = (number_in t (codes "sbo_timeout_ms"), number_in t (codes "travel_ms"))

abbrev pub options_in : Members → Option (List ℕ) × Bool
options_in t = (remote_in t, refuses_in t)

abbrev checks_of : Members → List Key → List (Option BayFault)
checks_of t keys = map (key_refusal t) keys

-- the first keys, and then what the others give
judged-keys : {S R : Type 0} (t : Members) (keys more : List Key) (x : S) (v : R)
    (g : S → Result R BayFault) → unless_refused (first_fault (checks_of t more)) v ≡ g x
    → unless_refused (first_fault (checks_of t (keys ++ more))) v
    ≡ then (unless_refused (first_fault (checks_of t keys)) x) g
judged-keys t [] more x v g e = e
judged-keys t (key ∷ keys) more x v g e =
    judged-first (key_refusal t key) (checks_of t (keys ++ more)) (checks_of t keys)
    (judged-keys t keys more x v g e)
  where
    judged-first : (check : Option BayFault) (all some : List (Option BayFault))
        → unless_refused (first_fault all) v ≡ then (unless_refused (first_fault some) x) g
        → unless_refused (first_fault (check ∷ all)) v
        ≡ then (unless_refused (first_fault (check ∷ some)) x) g
    judged-first None all some h = h
    judged-first (Some fault) all some h = refl

-- where no key is refused, none of the first is
pub first-keys : (t : Members) (keys more : List Key)
    → first_fault (map (key_refusal t) (keys ++ more)) ≡ None
    → first_fault (map (key_refusal t) keys) ≡ None
first-keys t [] more none = refl
first-keys t (key ∷ keys) more none =
    none-of (key_refusal t key) (checks_of t (keys ++ more)) (checks_of t keys) none
    (first-keys t keys more)
  where
    none-of : (check : Option BayFault) (all some : List (Option BayFault))
        → first_fault (check ∷ all) ≡ None → (first_fault all ≡ None → first_fault some ≡ None)
        → first_fault (check ∷ some) ≡ None
    none-of None all some h next = next h
    none-of (Some fault) all some h next = absurd cc

-- the switch, read key by key, where its control and its kind can be read so
abbrev pub switch_by_keys : Members → Option Control → Option SwitchKind → Result Switch BayFault
switch_by_keys t c k =
    then (unless_refused {B = Unit {0}}
    (unknown_refusal (map (λ k. k.name)
    (id_key ∷ kind_key ∷ control_key ∷ (time_keys c ++ optional_keys c k))) t) tt)
    (λ _. then (unless_refused (key_refusal t id_key) (text_in t (codes "id")))
    (λ id. then (unless_refused (key_refusal t kind_key) (unwrap_or k Breaker))
    (λ kind. then (unless_refused (key_refusal t control_key) (unwrap_or c Status))
    (λ control. then (unless_refused (first_fault (map (key_refusal t) (time_keys c))) (times_in t))
    (λ times. then
    (unless_refused (first_fault (map (key_refusal t) (optional_keys c k))) (options_in t))
    (λ options. Ok
    (record {
      id = id;
      kind = kind;
      control = control;
      sbo_timeout_ms = times.0;
      travel_ms = times.1;
      remote = options.0;
      refuses_synchrocheck = options.1;
    })))))))

by-keys : (t : Members) → unless_refused (entry_refusal (switch_keys t) t) (switch_in t)
    ≡ switch_by_keys t (control_of t) (kind_of t)
by-keys t =
    let times = time_keys (control_of t) in
    let options = optional_keys (control_of t) (kind_of t) in
    let last = map (key_refusal t) (times ++ options) in
    judged-step (unknown_refusal (map (λ k. k.name) (switch_keys t)) t)
    (key_refusal t id_key ∷ key_refusal t kind_key ∷ key_refusal t control_key ∷ last) (tt {0})
    (switch_in t) _
    (judged-step (key_refusal t id_key) (key_refusal t kind_key ∷ key_refusal t control_key ∷ last)
    (text_in t (codes "id")) (switch_in t) _
    (judged-step (key_refusal t kind_key) (key_refusal t control_key ∷ last)
    (unwrap_or (kind_of t) Breaker) (switch_in t) _
    (judged-step (key_refusal t control_key) last (unwrap_or (control_of t) Status) (switch_in t) _
    (judged-keys t times options (times_in t) (switch_in t) _
    (judged-last (first_fault (map (key_refusal t) options)) (options_in t) (switch_in t) _
    refl)))))

pub by_keys : (t : Members) (c : Option Control) (k : Option SwitchKind) → control_of t ≡ c
    → kind_of t ≡ k
    → unless_refused (entry_refusal (switch_keys t) t) (switch_in t) ≡ switch_by_keys t c k
by_keys t c k is of =
    by-keys t ∙ ap (λ d. switch_by_keys t d (kind_of t)) is ∙ ap (switch_by_keys t c) of

abbrev known_of : Option Control → Option SwitchKind → List (List ℕ)
known_of control kind =
    map (λ k. k.name)
    (id_key ∷ kind_key ∷ control_key ∷ [] ++ (time_keys control ++ optional_keys control kind))

-- a key that is not one of those of a switch is not there
absent-key : (control : Option Control) (kind : Option SwitchKind) (t : Members) (name : List ℕ)
    → control_of t ≡ control → kind_of t ≡ kind → is_among (known_of control kind) name ≡ false
    → has_unknown (map (λ k. k.name) (switch_keys t)) t ≡ false → get_member name t ≡ None
absent-key control kind t name readable of out none =
    let known : has_unknown (known_of control kind) t ≡ false =
    ap (λ k. has_unknown (known_of control k) t) (sym of)
    ∙ ap (λ c. has_unknown (known_of c (kind_of t)) t) (sym readable) ∙ none in
    unknown-absent (known_of control kind) name t out known

no-number : (t : Members) (name : List ℕ) → get_member name t ≡ None → number_in t name ≡ 0
no-number t name gone =
    ap (λ d. unwrap_or (option_map natural (option_and_then as_integer d)) 0) gone

-- the times that a control excludes are 0
no-timeout-of : (t : Members) (kind : Option SwitchKind) → control_of t ≡ Some Direct
    → kind_of t ≡ kind → has_unknown (map (λ k. k.name) (switch_keys t)) t ≡ false
    → get_member (codes "sbo_timeout_ms") t ≡ None
no-timeout-of t None readable of none =
    absent-key (Some Direct) None t (codes "sbo_timeout_ms") readable of refl none
no-timeout-of t (Some Breaker) readable of none =
    absent-key (Some Direct) (Some Breaker) t (codes "sbo_timeout_ms") readable of refl none
no-timeout-of t (Some Disconnector) readable of none =
    absent-key (Some Direct) (Some Disconnector) t (codes "sbo_timeout_ms") readable of refl none
no-timeout-of t (Some Earthing) readable of none =
    absent-key (Some Direct) (Some Earthing) t (codes "sbo_timeout_ms") readable of refl none

pub no-sbo-timeout : (t : Members) → control_of t ≡ Some Direct
    → has_unknown (map (λ k. k.name) (switch_keys t)) t ≡ false
    → number_in t (codes "sbo_timeout_ms") ≡ 0
no-sbo-timeout t readable none =
    no-number t (codes "sbo_timeout_ms") (no-timeout-of t (kind_of t) readable refl none)

pub no-times : (t : Members) → control_of t ≡ Some Status
    → has_unknown (map (λ k. k.name) (switch_keys t)) t ≡ false
    → (number_in t (codes "sbo_timeout_ms") ≡ 0) × (number_in t (codes "travel_ms") ≡ 0)
no-times t readable none = (
  no-number t (codes "sbo_timeout_ms")
      (absent-key (Some Status) (kind_of t) t (codes "sbo_timeout_ms") readable refl refl none),
  no-number t (codes "travel_ms")
      (absent-key (Some Status) (kind_of t) t (codes "travel_ms") readable refl refl none),
)

-- neither key may stand at a switch without control
pub no-options : (t : Members) → control_of t ≡ Some Status
    → has_unknown (map (λ k. k.name) (switch_keys t)) t ≡ false
    → (remote_in t ≡ None) × (refuses_in t ≡ false)
no-options t readable none = (
  ap (option_and_then as_str)
      (absent-key (Some Status) (kind_of t) t (codes "remote") readable refl refl none),
  ap is_some (absent-key (Some Status) (kind_of t) t (codes "synchrocheck") readable refl refl
      none),
)

-- nor the refusal of a synchrocheck at a switch that is no breaker
no-refusal-disconnector : (t : Members) (control : Option Control) → control_of t ≡ control
    → kind_of t ≡ Some Disconnector → has_unknown (map (λ k. k.name) (switch_keys t)) t ≡ false
    → get_member (codes "synchrocheck") t ≡ None
no-refusal-disconnector t None readable of none =
    absent-key None (Some Disconnector) t (codes "synchrocheck") readable of refl none
no-refusal-disconnector t (Some Status) readable of none =
    absent-key (Some Status) (Some Disconnector) t (codes "synchrocheck") readable of refl none
no-refusal-disconnector t (Some Direct) readable of none =
    absent-key (Some Direct) (Some Disconnector) t (codes "synchrocheck") readable of refl none
no-refusal-disconnector t (Some Sbo) readable of none =
    absent-key (Some Sbo) (Some Disconnector) t (codes "synchrocheck") readable of refl none
no-refusal-disconnector t (Some SboEnhanced) readable of none =
    absent-key (Some SboEnhanced) (Some Disconnector) t (codes "synchrocheck") readable of refl none

no-refusal-earthing : (t : Members) (control : Option Control) → control_of t ≡ control
    → kind_of t ≡ Some Earthing → has_unknown (map (λ k. k.name) (switch_keys t)) t ≡ false
    → get_member (codes "synchrocheck") t ≡ None
no-refusal-earthing t None readable of none =
    absent-key None (Some Earthing) t (codes "synchrocheck") readable of refl none
no-refusal-earthing t (Some Status) readable of none =
    absent-key (Some Status) (Some Earthing) t (codes "synchrocheck") readable of refl none
no-refusal-earthing t (Some Direct) readable of none =
    absent-key (Some Direct) (Some Earthing) t (codes "synchrocheck") readable of refl none
no-refusal-earthing t (Some Sbo) readable of none =
    absent-key (Some Sbo) (Some Earthing) t (codes "synchrocheck") readable of refl none
no-refusal-earthing t (Some SboEnhanced) readable of none =
    absent-key (Some SboEnhanced) (Some Earthing) t (codes "synchrocheck") readable of refl none

pub no-refusal : (t : Members)
    → (kind_of t ≡ Some Disconnector) ⊎ (kind_of t ≡ Some Earthing)
    → has_unknown (map (λ k. k.name) (switch_keys t)) t ≡ false → refuses_in t ≡ false
no-refusal t (inl of) none =
    ap is_some (no-refusal-disconnector t (control_of t) refl of none)
no-refusal t (inr of) none = ap is_some (no-refusal-earthing t (control_of t) refl of none)

-- the refusal of a switch's table
abbrev pub switch_check : Members → Option BayFault
switch_check t = entry_refusal (switch_keys t) t
