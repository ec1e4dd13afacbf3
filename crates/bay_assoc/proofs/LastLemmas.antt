-- A PDU of MMS stands last in its TSDU.
use Rattle.std.proofs.Common.{◌≡◌, ℕ, ℤ, List, [], ◌∷◌, ◌++◌, Option, Some, None, Ok, IsSome, refl, sym, ap, subst, ◌∙◌}
use Rattle.std.proofs.lemmas.List.{append-nil, append_assoc}
use Rattle.bay_ber.specs.declared.tag.Tag.{Tag}
use Rattle.bay_ber.specs.Forms.{Form, integer, octets as bare, any_octets, fields, tagged, done, value_then, SpellsMaybe}
use Rattle.bay_ber.specs.Spelling.{Spells}
use Rattle.bay_ber.specs.Values.{Part, value, SpellAll}
use Rattle.bay_ber.proofs.ReadLemmas.{IsBytes}
use Rattle.bay_ber.specs.Tags.{constructed, sequence, int_tag}
use Rattle.bay_assoc.specs.declared.receive.Heard.{Heard}
use Rattle.bay_assoc.specs.declared.receive.Heard.TheVariants as heard
use Rattle.bay_assoc.specs.declared.receive.Phase.{Phase}
use Rattle.bay_assoc.specs.declared.receive.AssociationTerms.{AssociationTerms}
use Rattle.bay_assoc.specs.declared.receive.Phase.TheVariants.{Idle, Open, Over}
use Rattle.bay_assoc.specs.TsduMeanings.{mms, release_request, connection_request, data_transfer, idle_meaning, open_meaning, verdict, tsdu_meaning}
use Rattle.bay_assoc.specs.Receives.{association_terms, IsLastPart, IsOpenFor}
use Rattle.bay_assoc.specs.Presentation.{ValueInContext, context_value_parts, pdv_list, user_part, user_data}
use Rattle.bay_assoc.specs.Session.{Spdu, connect, finish, abort, transfer, spdu}
use Rattle.bay_assoc.specs.Tags.{oid_tag, application}
use Rattle.bay_assoc.specs.Views.{heard_view}
use Rattle.bay_assoc.proofs.SpduLemmas.{transfer-front}
use Rattle.bay_assoc.proofs.HearingLemmas.{mms-is, verdict-fair, told-is}

-- The octets end with others.
record EndsWith (octets part : List ℕ) : Type 0 where
  front : List ℕ
  is : octets ≡ front ++ part

ends-on : (octets middle part : List ℕ) → EndsWith octets middle → EndsWith middle part
    → EndsWith octets part
ends-on octets middle part a b =
    record {
      front = a.front ++ b.front;
      is = a.is ∙ ap (λ (ys : List ℕ). a.front ++ ys) b.is
          ∙ sym (append_assoc a.front b.front part);
    }

value-last : (octets : List ℕ) (tag : Tag) (content : List ℕ) → Spells octets tag content
    → EndsWith octets content
value-last octets tag content s =
    record { front = s.front ++ s.len; is = s.parts ∙ sym (append_assoc s.front s.len content) }

last-of : (octets : List ℕ) (parts : List Part) (tag : Tag) (content : List ℕ) (last : Part)
    → last ≡ value tag content → SpellAll octets (parts ++ last ∷ []) → EndsWith octets content
last-of octets [] tag content last same s =
    ends-on octets s.0 content
    (record { front = []; is = s.2 ∙ ap (λ (ys : List ℕ). s.0 ++ ys) s.4 ∙ append-nil s.0 })
    (subst (λ (p : Part). EndsWith s.0 p.content) same (value-last s.0 last.tag last.content s.3))
last-of octets (part ∷ parts) tag content last same s =
    ends-on octets s.1 content (record { front = s.0; is = s.2 })
    (last-of s.1 parts tag content last same s.4)

abbrev pair : Form (List Part) (ℤ × (List ℕ × Unit {0}))
pair = value_then (tagged int_tag integer) (value_then (tagged (constructed 0) bare) done)

pair-last : (octets : List ℕ) (front parts : List Part) (x : ℤ × (List ℕ × Unit {0}))
    → SpellAll octets (front ++ parts) → pair.Spells parts x → EndsWith octets x.1.0
pair-last octets front (id ∷ v ∷ []) x s is =
    subst (EndsWith octets) is.1.0.2
    (last-of octets (front ++ id ∷ []) (constructed 0) is.1.0.0 v is.1.0.1
    (subst (SpellAll octets) (sym (append_assoc front (id ∷ []) (v ∷ []))) s))
pair-last octets front (id ∷ v ∷ w ∷ more) x s is = let none = is.1.1 in absurd cc
pair-last octets front (id ∷ []) x s is = absurd is.1
pair-last octets front [] x s is = absurd is

parts-last : (octets : List ℕ) (parts : List Part) (name : Option (Unit {0}))
    (x : ℤ × (List ℕ × Unit {0})) → SpellAll octets parts
    → SpellsMaybe oid_tag any_octets.Spells pair.Spells parts name x → EndsWith octets x.1.0
parts-last octets parts None x s is = pair-last octets [] parts x s is.1
parts-last octets (p ∷ parts) (Some name) x s is = pair-last octets (p ∷ []) parts x s is.3
parts-last octets [] (Some name) x s is = absurd is

carried-last : (octets : List ℕ) (c : ValueInContext) → (fields context_value_parts).Spells octets c
    → EndsWith octets c.value
unfolding context_value_parts
carried-last octets c is =
    let x = is.3 in
    subst (λ (d : ValueInContext). EndsWith octets d.value) x.2
    (parts-last octets is.0 x.0.0 x.0.1 is.1 x.1)

user-last : (octets : List ℕ) (c : ValueInContext) → user_data.Spells octets c
    → EndsWith octets c.value
unfolding user_data user_part pdv_list
user-last octets c is =
    let outer = is.2 in
    let inner = outer.2 in
    let list = inner.2 in
    ends-on octets outer.0 c.value (last-of octets [] (application 1) outer.0 is.0 outer.1 is.1)
    (ends-on outer.0 list.0 c.value
    (last-of outer.0 [] sequence list.0 inner.0 list.1 inner.1)
    (carried-last list.0 c list.2))

told-last : (terms : AssociationTerms) (octets user pdu : List ℕ) (new : Phase)
    → octets ≡ 1 ∷ 0 ∷ 1 ∷ 0 ∷ user → (data_transfer terms user).Spells (mms pdu, new)
    → EndsWith octets pdu × IsSome (association_terms new)
unfolding data_transfer
told-last terms octets user pdu new at is =
    let heard = told-is (mms is.2.0) (mms pdu) (Open terms) new is.2.2 in
    let mms_is = heard.0 in
    let same : is.2.0 ≡ pdu = cc in (
      ends-on octets user pdu (record { front = 1 ∷ 0 ∷ 1 ∷ 0 ∷ []; is = at })
          (subst (EndsWith user) (mms-is terms.contexts is.0 is.2.0 is.2.1 ∙ same)
          (user-last user is.0 is.1)),
      subst (λ (p : Phase). IsSome (association_terms p)) heard.1 refl,
    )

-- Nothing but data is heard as a PDU of MMS.
open-last : (terms : AssociationTerms) (octets pdu : List ℕ) (new : Phase) (s : Spdu)
    → IsBytes octets → spdu.Spells octets s → (open_meaning terms s).Spells (mms pdu, new)
    → EndsWith octets pdu × IsSome (association_terms new)
unfolding release_request
open-last terms octets pdu new (transfer user) b at is =
    told-last terms octets user pdu new (transfer-front octets user b at) is
open-last terms octets pdu new (finish None) b at is =
    let heard = (told-is _ (mms pdu) Over new is).0 in absurd cc
open-last terms octets pdu new (finish (Some user)) b at is =
    let heard = (told-is _ (mms pdu) Over new is.2.2.2).0 in absurd cc
open-last terms octets pdu new abort b at is =
    let heard = (told-is _ (mms pdu) Over new is).0 in absurd cc
open-last terms octets pdu new s b at is = absurd cc

not-idle : (pdu : List ℕ) (new : Phase) (s : Spdu) → (idle_meaning s).Spells (mms pdu, new) → ⊥
unfolding connection_request
not-idle pdu new (connect user) is =
    let heard = (told-is _ (mms pdu) _ new is.2.2).0 in absurd cc
not-idle pdu new abort is = let heard = (told-is _ (mms pdu) Over new is).0 in absurd cc
not-idle pdu new s is = absurd cc

heard-last : (old new : Phase) (octets pdu : List ℕ) → IsBytes octets
    → (verdict old octets).Spells (mms pdu, new)
    → EndsWith octets pdu × IsSome (association_terms new)
unfolding verdict
heard-last Idle new octets pdu b is = absurd (not-idle pdu new is.0 is.2)
heard-last (Open terms) new octets pdu b is =
    open-last terms octets pdu new is.0 b is.1 is.2
heard-last old new octets pdu b is = absurd cc

pub stands-last : (old new : Phase) (octets : List ℕ) (h : Heard) → IsBytes octets
    → tsdu_meaning old octets ≡ Ok (heard_view h, new) → IsLastPart octets h × IsOpenFor h new
stands-last old new octets (heard.Mms pdu) b e =
    let last = heard-last old new octets pdu.now b
    ((verdict-fair old octets).back b (mms pdu.now, new) e) in
    ((last.0.front, last.0.is), last.1)
stands-last old new octets h b e = (tt, tt)
