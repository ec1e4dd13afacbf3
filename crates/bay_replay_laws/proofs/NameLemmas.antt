-- The ids of a bay's switches have no space, no `=` and no LF.
use Rattle.std.proofs.Common.{◌≡◌, ℕ, ◌==◌, Bool, true, false, not, ◌&&◌, cond, nat_le, List, [], ◌∷◌, ◌++◌, length, map, codes, Option, Some, None, Result, Ok, Err, option_and_then, unwrap_or, refl, ap, ap₂, subst}
use Rattle.std.proofs.lemmas.Bool.{and_parts, eqb-true}
use Rattle.std.specs.List.{list_all}
use Rattle.std.specs.Str.{is_utf8}
use Rattle.toml.specs.Data.{Data, Members, as_str, get_member}
use Rattle.bay_config.specs.Bay.{bay_of}
use Rattle.bay_config.specs.Key.{Key, begins_with_letter, entry_refusal, value_refusal, identifier, is_identifier, is_name_character, key_refusal, passes, unknown_refusal}
use Rattle.bay_config.specs.Switch.{control_key, control_of, id_key, kind_key, kind_of, optional_keys, switch_in, switch_keys, time_keys}
use Rattle.bay_config.specs.declared.bay.Bay.{Bay}
use Rattle.bay_config.specs.declared.fault.BayFault.{BayFault}
use Rattle.bay_config.specs.declared.fault.BayFault.TheVariants.{BadToml}
use Rattle.bay_config.proofs.PassedLemmas.{accepted-is, none-first, switches-pass}
use Rattle.bay_replay_laws.specs.ReadBack.{HaveIds}
use Rattle.bay_replay_laws.proofs.LineLemmas.{free}
use Rattle.bay_replay_laws.proofs.ReadLemmas.{IsPlain}

-- ---- a name

name-free : (c : ℕ) (s : List ℕ) → is_name_character c ≡ false
    → list_all is_name_character s ≡ true → free c s ≡ true
name-free c [] other all = refl
name-free c (x ∷ s) other all =
    let parts = and_parts (is_name_character x) (list_all is_name_character s) all in
    ap₂ (λ a b. a && b) (apart (x == c) refl parts.0) (name-free c s other parts.1)
  where
    apart : (b : Bool) → (x == c) ≡ b → is_name_character x ≡ true → not (x == c) ≡ true
    apart true same named =
        absurd (let here : is_name_character c ≡ true =
        subst (λ y. is_name_character y ≡ true) (eqb-true x c same) named in cc)
    apart false differs named = ap not differs

pub name-plain : (most : ℕ) (s : List ℕ) → is_identifier most s ≡ true → IsPlain s
name-plain most s is =
    let first =
    and_parts (begins_with_letter s && list_all is_name_character s) (nat_le (length s) most) is in
    let all = and_parts (begins_with_letter s) (list_all is_name_character s) first.0 in
    record {
      no_end = name-free 10 s refl all.1;
      no_space = name-free 32 s refl all.1;
      no_equals = name-free 61 s refl all.1;
    }

-- ---- a table

text-named : (o : Option (List ℕ)) → passes (is_identifier 16) o ≡ true
    → is_identifier 16 (unwrap_or o []) ≡ true
text-named None passed = absurd cc
text-named (Some s) passed = passed

held-named : (o : Option Data) → value_refusal (identifier 16) o ≡ None
    → is_identifier 16 (unwrap_or (option_and_then as_str o) []) ≡ true
held-named None none = absurd cc
held-named (Some d) none =
    text-named (as_str d) (accepted-is (passes (is_identifier 16) (as_str d)) none)

table-named : (t : Members) → entry_refusal (switch_keys t) t ≡ None
    → is_identifier 16 (switch_in t).id ≡ true
table-named t none =
    let keys : List Key =
    kind_key ∷ control_key ∷ []
    ++ (time_keys (control_of t) ++ optional_keys (control_of t) (kind_of t)) in
    let behind =
    none-first (unknown_refusal (map (λ (key : Key). key.name) (switch_keys t)) t)
    (key_refusal t id_key ∷ map (key_refusal t) keys) none in
    held-named (get_member (codes "id") t)
    (none-first (key_refusal t id_key) (map (key_refusal t) keys) behind.1).0

-- ---- a file

utf8-named : (u : Bool) (text : List ℕ) (bay : Bay)
    → (let r : Result Bay BayFault = cond u (bay_of text) (Err BadToml) in r) ≡ Ok bay
    → HaveIds bay.switches
utf8-named true text bay is =
    switches-pass HaveIds tt (λ t ss none rest. (table-named t none, rest)) text bay is
utf8-named false text bay is = absurd cc

pub bay-named : (text : List ℕ) (bay : Bay)
    → (let r : Result Bay BayFault = cond (is_utf8 text) (bay_of text) (Err BadToml) in r)
    ≡ Ok bay
    → HaveIds bay.switches
bay-named text bay is = utf8-named (is_utf8 text) text bay is
