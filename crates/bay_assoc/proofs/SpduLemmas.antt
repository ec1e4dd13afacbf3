-- What octets are read as is what they spell: one unit, and SPDUs.
use Rattle.std.proofs.Common.{◌≡◌, ℕ, Bool, true, false, cond, eqb, List, [], ◌∷◌, ◌++◌, filter, drop, Option, Some, None, refl, ap, subst, ◌∙◌, inl, inr}
use Rattle.std.proofs.lemmas.Option.{same_Some}
use Rattle.std.specs.Prelude.{⊤}
use Rattle.std.proofs.lemmas.Bool.{eq-eqb, ne_eqb, eqb-true, and_parts}
use Rattle.bay_ber.specs.Forms.{Form, map_form, try_map_form}
use Rattle.bay_ber.proofs.ReadLemmas.{IsBytes}
use Rattle.bay_ber.proofs.BackLemmas.{bind-some, bytes-behind, bytes-before}
use Rattle.bay_ber.proofs.FormLemmas.{Exact, ExactIn, exacts, Keeps, made-keeps}
use Rattle.bay_assoc.specs.Session.{Unit, unit_at, BeginsWithUnit, SpellUnits, units, only_unit, one_unit, unit_choice, no_unit, compose_forms, is_user_data, UserDataView, missing, once, several, user_data_of, parameters, Spdu, connect, accept, finish, disconnect, abort, transfer, connect_of, finish_of, by_identifier, is_transfer, spdu}
use Rattle.bay_assoc.proofs.UnitLemmas.{differs, unit-again, unit-back, units-exact}

-- ---- one unit

alone-is : (v u : Unit) (rest : List ℕ) → only_unit v rest ≡ Some u → (v ≡ u) × (rest ≡ [])
alone-is v u [] e = (same_Some v u e, refl)
alone-is v u (octet ∷ rest) e = absurd cc

unit-exact : ExactIn one_unit
unit-exact = record {
  read = λ o u is. rw (unit-again o u [] is) refl;
  back = λ o u b is.
      let x = bind-some (unit_at o) _ u is in
      let one = alone-is x.0.0 u x.0.1 x.2 in
      subst (λ (v : Unit). BeginsWithUnit o v []) one.0
      (subst (λ (rest : List ℕ). BeginsWithUnit o x.0.0 rest) one.1 (unit-back o x.0 x.1));
}

-- ---- forms of units

abbrev ContentBytes : Unit → Type 0
ContentBytes u = IsBytes u.content

coded-exact : {A : Type 0} (identifier : ℕ) {f : Form (List ℕ) A} {g : Form Unit A} → ExactIn f
    → Exact ContentBytes g → Exact ContentBytes (unit_choice identifier f g)
coded-exact {A} identifier {f} {g} d e = record {
  read = λ u x is. elim is [
    | inl here ↦ rw (eq-eqb u.identifier identifier here.0) (d.read u.content x here.1)
    | inr other ↦ rw (ne_eqb u.identifier identifier other.0) (e.read u x other.1)
  ];
  back = λ u x b is. pick u x b (eqb u.identifier identifier) refl is;
}
  where
    pick : (u : Unit) (x : A) → IsBytes u.content → (c : Bool) → eqb u.identifier identifier ≡ c
        → cond c (f.reads u.content) (g.reads u) ≡ Some x → (unit_choice identifier f g).Spells u x
    pick u x b true s is = inl (eqb-true u.identifier identifier s, d.back u.content x b is)
    pick u x b false s is = inr (differs u.identifier identifier s, e.back u x b is)

uncoded-exact : {A : Type 0} → Exact ContentBytes (no_unit {A = A})
uncoded-exact = record { read = λ u x is. absurd is; back = λ u x b e. absurd cc }

through-exact : {S A B : Type 0} {Good : S → Type 0} {Next : A → Type 0} {f : Form S A}
    {g : Form A B} → Keeps Good f Next → Exact Good f → Exact Next g
    → Exact Good (compose_forms f g)
through-exact {f = f} {g = g} k d e = record {
  read = λ s y is. rw (d.read s is.0 is.1) (e.read is.0 y is.2);
  back = λ s y good is.
      let x = bind-some (f.reads s) g.reads y is in
      let spelled = d.back s x.0 good x.1 in
      (x.0, spelled, e.back x.0 y (k.holds s x.0 good spelled) x.2);
}

unit-bytes : (octets : List ℕ) (u : Unit) (rest : List ℕ) → IsBytes octets
    → BeginsWithUnit octets u rest
    → IsBytes u.content × IsBytes rest
unit-bytes octets u rest b is =
    let behind =
    bytes-behind (u.identifier ∷ is.size) (u.content ++ rest) (subst IsBytes is.is b) in
    (bytes-before u.content rest behind, bytes-behind u.content rest behind)

unit-keeps : Keeps IsBytes one_unit ContentBytes
unit-keeps = record { holds = λ o u b is. (unit-bytes o u [] b is).0 }

-- ---- SPDUs

by_identifier-exact : Exact ContentBytes by_identifier
unfolding by_identifier parameters
by_identifier-exact = search (exacts, units-exact, coded-exact, uncoded-exact) depth 20

framed-exact : ExactIn (compose_forms one_unit by_identifier)
framed-exact = through-exact unit-keeps unit-exact by_identifier-exact

transfer-is : (octets : List ℕ) → is_transfer octets ≡ true → octets ≡ 1 ∷ 0 ∷ 1 ∷ 0 ∷ drop 4 octets
transfer-is (a ∷ b ∷ c ∷ d ∷ user) e =
    let x = and_parts _ _ e in
    let y = and_parts _ _ x.1 in
    let z = and_parts _ _ y.1 in
    let ea = eqb-true a 1 x.0 in
    let eb = eqb-true b 0 y.0 in
    let ec = eqb-true c 1 z.0 in
    let ed = eqb-true d 0 z.1 in
    cc
transfer-is octets e = absurd cc

pub spdu-exact : ExactIn spdu
unfolding spdu
spdu-exact = record {
  read = λ o s is. elim is [
    | inl here ↦ rw here.1 (ap Some here.2)
    | inr other ↦ rw other.0 (framed-exact.read o s other.1)
  ];
  back = λ o s b is. pick o s b (is_transfer o) refl is;
}
  where
    pick : (o : List ℕ) (s : Spdu) → IsBytes o → (c : Bool) → is_transfer o ≡ c
        → cond c (Some (transfer (drop 4 o))) ((compose_forms one_unit by_identifier).reads o)
        ≡ Some s
        → spdu.Spells o s
    pick o s b true t is = inl (drop 4 o, transfer-is o t, same_Some (transfer (drop 4 o)) s is)
    pick o s b false t is = inr (t, framed-exact.back o s b is)

-- ---- user data that are handed on

abbrev UnitBytes : List Unit → Type 0
UnitBytes [] = ⊤
UnitBytes (u ∷ us) = IsBytes u.content × UnitBytes us

units-bytes : (octets : List ℕ) (us : List Unit) → IsBytes octets → SpellUnits octets us
    → UnitBytes us
units-bytes octets [] b is = tt
units-bytes octets (u ∷ us) b is =
    let bytes = unit-bytes octets u is.0 b is.1 in (bytes.0, units-bytes is.0 us bytes.1 is.2)

chosen-units : (b : Bool) (u : Unit) (more : List Unit) → IsBytes u.content → UnitBytes more
    → UnitBytes (cond b (u ∷ more) more)
chosen-units true u more c m = (c, m)
chosen-units false u more c m = m

filter-units : (units : List Unit) → UnitBytes units → UnitBytes (filter is_user_data units)
filter-units [] b = tt
filter-units (u ∷ units) b =
    chosen-units (is_user_data u) u (filter is_user_data units) b.0 (filter-units units b.1)

-- what user data an SPDU of a unit hands on; it is no transfer
abbrev FramedBytes : Spdu → Type 0
FramedBytes (connect user) = IsBytes user
FramedBytes (finish (Some user)) = IsBytes user
FramedBytes (transfer user) = ⊥
FramedBytes s = ⊤

-- what user data any SPDU hands on
abbrev pub UserBytes : Spdu → Type 0
UserBytes (transfer user) = IsBytes user
UserBytes s = FramedBytes s

framed-bytes : (s : Spdu) → FramedBytes s → UserBytes s
framed-bytes (transfer user) b = absurd b
framed-bytes s b = b

abbrev UsersBytes : UserDataView → Type 0
UsersBytes missing = ⊤
UsersBytes (once user) = IsBytes user
UsersBytes several = ⊤

users-bytes : (us : List Unit) → UnitBytes us → UsersBytes (user_data_of us)
users-bytes [] b = tt
users-bytes (u ∷ []) b = b.0
users-bytes (u ∷ v ∷ us) b = tt

parameters-keeps : Keeps IsBytes parameters UsersBytes
unfolding parameters
parameters-keeps = made-keeps _ (record {
  holds = λ o us b is. users-bytes (filter is_user_data us)
      (filter-units us (units-bytes o us b is));
})

such-keeps : {S A B : Type 0} {Good : S → Type 0} {Next : A → Type 0} {Later : B → Type 0}
    (test : A → Option B) {f : Form S A}
    → ((x : A) (y : B) → Next x → test x ≡ Some y → Later y) → Keeps Good f Next
    → Keeps Good (try_map_form test f) Later
such-keeps test so k =
    record { holds = λ s y good is. so is.0 y (k.holds s is.0 good is.1) is.2 }

connect-bytes : (x : UserDataView) (s : Spdu) → UsersBytes x → connect_of x ≡ Some s → FramedBytes s
connect-bytes (once user) s b e = subst FramedBytes (same_Some (connect user) s e) b
connect-bytes x s b e = absurd cc

finish-bytes : (x : UserDataView) (s : Spdu) → UsersBytes x → finish_of x ≡ Some s → FramedBytes s
finish-bytes missing s b e = subst FramedBytes (same_Some (finish None) s e) tt
finish-bytes (once user) s b e = subst FramedBytes (same_Some (finish (Some user)) s e) b
finish-bytes several s b e = absurd cc

coded-keeps : {A : Type 0} {Next : A → Type 0} (identifier : ℕ) {f : Form (List ℕ) A}
    {g : Form Unit A} → Keeps IsBytes f Next → Keeps ContentBytes g Next
    → Keeps ContentBytes (unit_choice identifier f g) Next
coded-keeps identifier k l = record {
  holds = λ u x b is. elim is [
    | inl here ↦ k.holds u.content x b here.1
    | inr other ↦ l.holds u x b other.1
  ];
}

kind-keeps : (s : Spdu) → FramedBytes s
    → Keeps IsBytes (map_form (λ (x : UserDataView). s) parameters) FramedBytes
kind-keeps s b = record { holds = λ o t good is. subst FramedBytes is.2 b }

by_identifier-keeps : Keeps ContentBytes by_identifier FramedBytes
unfolding by_identifier
by_identifier-keeps =
    coded-keeps _ (such-keeps connect_of connect-bytes parameters-keeps)
    (coded-keeps _ (such-keeps finish_of finish-bytes parameters-keeps)
    (coded-keeps _ (kind-keeps accept tt) (coded-keeps _ (kind-keeps disconnect tt)
    (coded-keeps _ (kind-keeps abort tt) (record { holds = λ u s b is. absurd is })))))

framed-keeps : Keeps IsBytes (compose_forms one_unit by_identifier) FramedBytes
framed-keeps = record {
  holds = λ o s b is. by_identifier-keeps.holds is.0 s (unit-keeps.holds o is.0 b is.1) is.2;
}

pub spdu-keeps : Keeps IsBytes spdu UserBytes
unfolding spdu
spdu-keeps = record {
  holds = λ o s b is. elim is [
    | inl here ↦ subst UserBytes here.2
        (bytes-behind (1 ∷ 0 ∷ 1 ∷ 0 ∷ []) here.0 (subst IsBytes here.1 b))
    | inr other ↦ framed-bytes s (framed-keeps.holds o s b other.1)
  ];
}

pub transfer-front : (octets user : List ℕ) → IsBytes octets → spdu.Spells octets (transfer user)
    → octets ≡ 1 ∷ 0 ∷ 1 ∷ 0 ∷ user
unfolding spdu
transfer-front octets user b is =
    elim is [
      | inl here ↦ (let parts = here.1 in let same = here.2 in
          let users : here.0 ≡ user = cc in
          parts ∙ ap (λ (o : List ℕ). 1 ∷ 0 ∷ 1 ∷ 0 ∷ o) users)
      | inr other ↦ absurd (framed-keeps.holds octets (transfer user) b other.1)
    ]
