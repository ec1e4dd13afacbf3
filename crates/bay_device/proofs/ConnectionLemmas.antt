-- The places of associations.
use Rattle.std.proofs.Common.{◌≡◌, ℕ, zero, suc, ◌+◌, not, List, [], ◌∷◌, length, position, is_none, slice_get, slice_index_or, slice_set, unwrap_or, Option, None, Some, IfSome, refl, ap, sym, ◌∙◌}
use Rattle.std.specs.List.{prefix_len}
use Rattle.bay_transport.specs.Feeding.{AcceptsOctets}
use Rattle.bay_connection.specs.Feeding.{ConnectionData}
use Rattle.bay_connection.specs.ConnectionStates.{ConnectionState}
use Rattle.bay_device.specs.Connections.{AreEight, AllAcceptOctets, state_without_pdu, connection_states}

-- a place that is set
pub talks-set : (clients : List (Option ConnectionData)) (place : ℕ) (c : Option ConnectionData)
    → connection_states (slice_set clients place c)
    ≡ slice_set (connection_states clients) place (state_without_pdu c)
talks-set [] place c = refl
talks-set (x ∷ clients) zero c = refl
talks-set (x ∷ clients) (suc place) c =
    ap (λ ts. state_without_pdu x ∷ ts) (talks-set clients place c)

pub talk-at : (clients : List (Option ConnectionData)) (place : ℕ)
    → state_without_pdu (slice_index_or clients place None)
    ≡ unwrap_or (slice_get (connection_states clients) place) None
talk-at [] place = refl
talk-at (x ∷ clients) zero = refl
talk-at (x ∷ clients) (suc place) = talk-at clients place

sized : (ts : List (Option ConnectionState)) (place : ℕ) (t : Option ConnectionState)
    → length (slice_set ts place t) ≡ length ts
sized [] place t = refl
sized (x ∷ ts) zero t = refl
sized (x ∷ ts) (suc place) t = ap (λ n. suc n) (sized ts place t)

going : (ts : List (Option ConnectionState)) (place : ℕ) (t : Option ConnectionState)
    → AllAcceptOctets ts
    → IfSome t (λ u. AcceptsOctets u.stream.state) → AllAcceptOctets (slice_set ts place t)
going [] place t all own k u here = absurd (cc)
going (x ∷ ts) zero t all own zero u here = let is : t ≡ Some u = cc in rw is at own
going (x ∷ ts) zero t all own (suc k) u here = all (suc k) u here
going (x ∷ ts) (suc place) t all own zero u here = all zero u here
going (x ∷ ts) (suc place) t all own (suc k) u here =
    going ts place t (λ j v h. all (suc j) v h) own k u here

pub are-eight : (clients : List (Option ConnectionData)) (place : ℕ) (c : Option ConnectionData)
    → AreEight (connection_states clients) → IfSome c (λ x. AcceptsOctets x.state.stream.state)
    → AreEight (connection_states (slice_set clients place c))
are-eight clients place None all own =
    rw (talks-set clients place None)
    (record {
      sized = sized (connection_states clients) place None ∙ all.sized;
      going = going (connection_states clients) place None all.going tt;
    })
are-eight clients place (Some x) all own =
    rw (talks-set clients place (Some x))
    (record {
      sized = sized (connection_states clients) place (Some x.state) ∙ all.sized;
      going = going (connection_states clients) place (Some x.state) all.going own;
    })

taken-going : (ts : List (Option ConnectionState)) (place : ℕ) (u : ConnectionState)
    → AllAcceptOctets ts
    → unwrap_or (slice_get ts place) None ≡ Some u → slice_get ts place ≡ Some (Some u)
taken-going [] place u all e = absurd (cc)
taken-going (x ∷ ts) zero u all e = ap (λ o. Some o) e
taken-going (x ∷ ts) (suc place) u all e = taken-going ts place u (λ j v h. all (suc j) v h) e

-- a connection that is taken from its place can go on
pub taken : (clients : List (Option ConnectionData)) (place : ℕ) (c : Option ConnectionData)
    → AreEight (connection_states clients) → c ≡ slice_index_or clients place None
    → IfSome c (λ x. AcceptsOctets x.state.stream.state)
taken clients place None all is = tt
taken clients place (Some x) all is =
    all.going place x.state (taken-going (connection_states clients) place x.state all.going
    (sym (talk-at clients place) ∙ ap state_without_pdu (sym is)))

prefix-talks : (clients : List (Option ConnectionData))
    → prefix_len (λ t. not (is_none t)) (connection_states clients)
    ≡ prefix_len (λ c. not (is_none c)) clients
prefix-talks [] = refl
prefix-talks (None ∷ clients) = refl
prefix-talks (Some c ∷ clients) = ap (λ n. 1 + n) (prefix-talks clients)

talks-length : (clients : List (Option ConnectionData))
    → length (connection_states clients) ≡ length clients
talks-length [] = refl
talks-length (c ∷ clients) = ap (λ n. suc n) (talks-length clients)

-- the lowest place that is free
pub talks-free : (clients : List (Option ConnectionData))
    → position is_none (connection_states clients) ≡ position is_none clients
talks-free clients = rw (prefix-talks clients, talks-length clients) refl
