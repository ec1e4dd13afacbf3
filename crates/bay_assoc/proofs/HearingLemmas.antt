-- What is heard of a TSDU, or why it is refused, is what is spelled or refused so.
use Rattle.std.proofs.Common.{◌≡◌, ℕ, Bool, true, false, cond, List, Option, Some, None, Result, Ok, Err, sym, ap, subst, ◌∙◌}
use Rattle.bay_ber.proofs.JudgedLemmas.{Fair, told-fair, wanted-fair, layers-fair}
use Rattle.bay_ber.proofs.ReadLemmas.{IsBytes}
use Rattle.bay_mms_initiate.proofs.InitiateLemmas.{initiate-exact}
use Rattle.bay_assoc.specs.declared.fault.AssocFault.{AssocFault}
use Rattle.bay_assoc.specs.declared.receive.ContextIds.{ContextIds}
use Rattle.bay_assoc.specs.declared.receive.AssociationTerms.{AssociationTerms}
use Rattle.bay_assoc.specs.declared.receive.Phase.{Phase}
use Rattle.bay_assoc.specs.declared.receive.Phase.TheVariants.{Idle, Open, Over, Failed}
use Rattle.bay_assoc.specs.declared.presentation.Context.{Context}
use Rattle.bay_assoc.specs.Session.{Spdu, connect, finish, abort, transfer}
use Rattle.bay_assoc.specs.Presentation.{ValueInContext}
use Rattle.bay_assoc.specs.TsduMeanings.{TsduMeaning, is_id, acse_value, mms_value, agreement, connection_request, release_request, data_transfer, idle_meaning, open_meaning, verdict}
use Rattle.bay_assoc.proofs.MessageLemmas.{user_data-exact, user_data-keeps, request-exact, request-keeps, associate-exact, associate-keeps, release-exact}
use Rattle.bay_assoc.proofs.SpduLemmas.{UserBytes, spdu-exact, spdu-keeps}

-- ---- the value in a context

value-is : (here there : Bool) (value octets : List ℕ) (e f : AssocFault)
    → cond here (Ok value) (cond there (Err e) (Err f)) ≡ Ok octets → value ≡ octets
value-is true there value octets e f is = cc
value-is false true value octets e f is = absurd cc
value-is false false value octets e f is = absurd cc

acse-is : (a : ContextIds) (c : ValueInContext) (octets : List ℕ) → acse_value a c ≡ Ok octets
    → c.value ≡ octets
acse-is a c octets is = value-is (is_id c.id a.acse) (is_id c.id a.mms) c.value octets _ _ is

pub mms-is : (a : ContextIds) (c : ValueInContext) (octets : List ℕ) → mms_value a c ≡ Ok octets
    → c.value ≡ octets
mms-is a c octets is = value-is (is_id c.id a.mms) (is_id c.id a.acse) c.value octets _ _ is

-- ---- layer by layer

agreement-fair : {Good : Type 0} (contexts : List Context) (user : ValueInContext)
    → (Good → IsBytes user.value) → Fair Good (agreement contexts user)
unfolding agreement
agreement-fair contexts user b =
    layers-fair (told-fair _) (λ a are.
    layers-fair (told-fair _) (λ value in_acse.
    let bytes : _ → IsBytes value = λ good. subst IsBytes (acse-is a user value in_acse) (b good) in
    layers-fair (wanted-fair _ associate-exact value bytes) (λ information is.
    layers-fair (told-fair _) (λ pdu in_mms.
    layers-fair (wanted-fair _ initiate-exact pdu (λ good.
    subst IsBytes (mms-is a information pdu in_mms)
    (associate-keeps.holds value information (bytes good) is))) (λ proposal proposes.
    layers-fair (told-fair _) (λ agreed meets. told-fair _))))))

connection-fair : {Good : Type 0} (user : List ℕ) → (Good → IsBytes user)
    → Fair Good (connection_request user)
unfolding connection_request
connection-fair user b =
    layers-fair (wanted-fair _ request-exact user b) (λ r is.
    layers-fair (agreement-fair r.contexts r.user (λ good. request-keeps.holds user r (b good) is))
    (λ x agrees. told-fair _))

release-fair : {Good : Type 0} (terms : AssociationTerms) (user : Option (List ℕ))
    → (Good → UserBytes (finish user)) → Fair Good (release_request terms user)
unfolding release_request
release-fair terms None b = told-fair _
release-fair terms (Some user) b =
    layers-fair (wanted-fair _ user_data-exact user b) (λ c is.
    layers-fair (told-fair _) (λ value in_acse.
    layers-fair (wanted-fair _ release-exact value (λ good.
    subst IsBytes (acse-is terms.contexts c value in_acse)
    (user_data-keeps.holds user c (b good) is))) (λ content asks. told-fair _)))

data-fair : {Good : Type 0} (terms : AssociationTerms) (user : List ℕ) → (Good → IsBytes user)
    → Fair Good (data_transfer terms user)
unfolding data_transfer
data-fair terms user b =
    layers-fair (wanted-fair _ user_data-exact user b) (λ c is.
    layers-fair (told-fair _) (λ pdu in_mms. told-fair _))

idle-fair : {Good : Type 0} (s : Spdu) → (Good → UserBytes s) → Fair Good (idle_meaning s)
idle-fair (connect user) b = connection-fair user b
idle-fair abort b = told-fair _
idle-fair s b = told-fair _

open-fair : {Good : Type 0} (terms : AssociationTerms) (s : Spdu) → (Good → UserBytes s)
    → Fair Good (open_meaning terms s)
open-fair terms (finish user) b = release-fair terms user b
open-fair terms abort b = told-fair _
open-fair terms (transfer user) b = data-fair terms user b
open-fair terms s b = told-fair _

pub verdict-fair : (phase : Phase) (octets : List ℕ) → Fair (IsBytes octets) (verdict phase octets)
unfolding verdict
verdict-fair Idle octets =
    layers-fair (wanted-fair _ spdu-exact octets (λ b. b))
    (λ s is. idle-fair s (λ b. spdu-keeps.holds octets s b is))
verdict-fair (Open terms) octets =
    layers-fair (wanted-fair _ spdu-exact octets (λ b. b))
    (λ s is. open-fair terms s (λ b. spdu-keeps.holds octets s b is))
verdict-fair Over octets = told-fair _
verdict-fair Failed octets = told-fair _

-- ---- the one meaning

pub told-is : (h k : TsduMeaning) (p q : Phase)
    → (let r : Result (TsduMeaning × Phase) AssocFault = Ok (h, p) in r) ≡ Ok (k, q)
    → (h ≡ k) × (p ≡ q)
told-is h k p q e =
    let x : TsduMeaning × Phase = (h, p) in
    let y : TsduMeaning × Phase = (k, q) in
    let same : x ≡ y = cc in
    (ap (λ (z : TsduMeaning × Phase). z.0) same, ap (λ (z : TsduMeaning × Phase). z.1) same)

pub one-way : (old new next : Phase) (octets : List ℕ) (h k : TsduMeaning)
    → (verdict old octets).Spells (h, new) → (verdict old octets).Spells (k, next)
    → (h ≡ k) × (new ≡ next)
one-way old new next octets h k a b =
    let fair = verdict-fair old octets in
    told-is h k new next (sym (fair.read (h, new) a) ∙ fair.read (k, next) b)
