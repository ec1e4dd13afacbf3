-- What octets ask is what they are answered, and the other way.
use Rattle.std.proofs.Common.{◌≡◌, ℕ, List, Option, Some, None, Result, Ok, Err, refl, sym, ap, subst, ◌∙◌}
use Rattle.std.specs.Prelude.{◌↔◌}
use Rattle.bay_ber.proofs.ReadLemmas.{IsBytes}
use Rattle.bay_mms.specs.Requests.{MmsRequest, Denial, unknown, many}
use Rattle.bay_mms.specs.Grammar.{request, leading_id, request_or_fault, request_in}
use Rattle.bay_mms.specs.RequestRelations.{Asks, AsksUnknown, AsksMany, IsIdOf, AsksNothing}
use Rattle.bay_mms.specs.declared.fault.MmsFault.{MmsFault}
use Rattle.bay_mms.specs.declared.fault.MmsFault.TheVariants as fault
use Rattle.bay_mms.proofs.GrammarLemmas.{request-exact, front_id-exact}

-- what is spelled is answered
told-read : (octets : List ℕ) (r : Result MmsRequest Denial) → request.Spells octets r
    → request_in octets ≡ request_or_fault (leading_id.reads octets) (Some r)
unfolding request_in
told-read octets r is =
    ap (request_or_fault (leading_id.reads octets)) (request-exact.read octets r is)

pub asked-read : (octets : List ℕ) (m : MmsRequest) → Asks m octets → request_in octets ≡ Ok m
asked-read octets m is = told-read octets (Ok m) is

unknown-read : (octets : List ℕ) (id : ℕ) → AsksUnknown id octets
    → request_in octets ≡ Err (fault.UnknownService id)
unknown-read octets id is = told-read octets (Err (unknown id)) is

many-read : (octets : List ℕ) (id : ℕ) → AsksMany id octets
    → request_in octets ≡ Err (fault.TooMany id)
many-read octets id is = told-read octets (Err (many id)) is

-- ---- the invoke id

id-is : (octets : List ℕ) → IsBytes octets → IsIdOf octets (leading_id.reads octets)
id-is octets b = pick (leading_id.reads octets) refl
  where
    pick : (o : Option ℕ) → leading_id.reads octets ≡ o → IsIdOf octets o
    pick None e = λ id is. let no : None ≡ Some id = sym e ∙ front_id-exact.read octets id is in cc
    pick (Some id) e = front_id-exact.back octets id b e

one-id : (octets : List ℕ) (o : Option ℕ) → IsBytes octets → IsIdOf octets o
    → leading_id.reads octets ≡ o
one-id octets None b is = pick (leading_id.reads octets) refl
  where
    pick : (o : Option ℕ) → leading_id.reads octets ≡ o → o ≡ None
    pick None e = refl
    pick (Some id) e = absurd (is id (front_id-exact.back octets id b e))
one-id octets (Some id) b is = front_id-exact.read octets id is

-- ---- what is answered is asked

-- What an answer says of the octets.
abbrev Says : List ℕ → Result MmsRequest MmsFault → Type 0
Says octets (Ok m) = Asks m octets
Says octets (Err (fault.BadPdu k)) = k ≡ leading_id.reads octets
Says octets (Err (fault.UnknownService id)) = AsksUnknown id octets
Says octets (Err (fault.TooMany id)) = AsksMany id octets
Says octets (Err fault.OutOfMemory) = ⊥

answer-says : (octets : List ℕ) → IsBytes octets → Says octets (request_in octets)
unfolding request_in
answer-says octets b = pick (request.reads octets) refl
  where
    pick : (o : Option (Result MmsRequest Denial)) → request.reads octets ≡ o
        → Says octets (request_or_fault (leading_id.reads octets) o)
    pick None e = refl
    pick (Some (Ok m)) e = request-exact.back octets (Ok m) b e
    pick (Some (Err (unknown id))) e = request-exact.back octets (Err (unknown id)) b e
    pick (Some (Err (many id))) e = request-exact.back octets (Err (many id)) b e

-- ---- the laws

pub asked-back : (octets : List ℕ) (m : MmsRequest) → IsBytes octets → request_in octets ≡ Ok m
    → Asks m octets
asked-back octets m b e = subst (Says octets) e (answer-says octets b)

pub one-asked : (octets : List ℕ) (m n : MmsRequest) → Asks m octets → Asks n octets → m ≡ n
one-asked octets m n a c =
    let same : (let made : Result MmsRequest MmsFault = Ok m in made) ≡ Ok n =
    sym (asked-read octets m a) ∙ asked-read octets n c in cc

pub unknown-is : (octets : List ℕ) (id : ℕ) → IsBytes octets
    → (request_in octets ≡ Err (fault.UnknownService id)) ↔ AsksUnknown id octets
unknown-is octets id b = (λ e. subst (Says octets) e (answer-says octets b), unknown-read octets id)

pub many-is : (octets : List ℕ) (id : ℕ) → IsBytes octets
    → (request_in octets ≡ Err (fault.TooMany id)) ↔ AsksMany id octets
many-is octets id b = (λ e. subst (Says octets) e (answer-says octets b), many-read octets id)

nothing-asked : (octets : List ℕ) (k : Option ℕ) → IsBytes octets
    → request_in octets ≡ Err (fault.BadPdu k) → AsksNothing octets k
nothing-asked octets k b e =
    let same : k ≡ leading_id.reads octets = subst (Says octets) e (answer-says octets b) in
    record {
      no_request = λ m a. let no : Err (fault.BadPdu k) ≡ Ok m =
          sym e ∙ asked-read octets m a in cc;
      not_unknown =
          λ id a. let no : (let made : Result MmsRequest MmsFault = Err (fault.BadPdu k) in made)
          ≡ Err (fault.UnknownService id) = sym e ∙ unknown-read octets id a in cc;
      not_many =
          λ id a. let no : (let made : Result MmsRequest MmsFault = Err (fault.BadPdu k) in made)
          ≡ Err (fault.TooMany id) = sym e ∙ many-read octets id a in cc;
      id = subst (IsIdOf octets) (sym same) (id-is octets b);
    }

left-over : (octets : List ℕ) (k : Option ℕ) (r : Result MmsRequest MmsFault) → IsBytes octets
    → AsksNothing octets k → Says octets r → r ≡ Err (fault.BadPdu k)
left-over octets k (Ok m) b left is = absurd (left.no_request m is)
left-over octets k (Err (fault.BadPdu j)) b left is =
    ap (λ (o : Option ℕ). let made : Result MmsRequest MmsFault = Err (fault.BadPdu o) in made)
    (is ∙ one-id octets k b left.id)
left-over octets k (Err (fault.UnknownService id)) b left is = absurd (left.not_unknown id is)
left-over octets k (Err (fault.TooMany id)) b left is = absurd (left.not_many id is)
left-over octets k (Err fault.OutOfMemory) b left is = absurd is

pub bad-is : (octets : List ℕ) (k : Option ℕ) → IsBytes octets
    → (request_in octets ≡ Err (fault.BadPdu k)) ↔ AsksNothing octets k
bad-is octets k b = (
  nothing-asked octets k b,
  λ left. left-over octets k (request_in octets) b left (answer-says octets b),
)
