-- What the association hears.
use Rattle.std.proofs.Common.{◌≡◌, ℕ, ◌-◌, List, [], ◌∷◌, ◌++◌, length, drop, Option, Ok, refl, sym, ap, ◌∙◌, arith}
use Rattle.std.proofs.lemmas.List.{length-append, drop_at}
use Rattle.bay_transport.specs.Doings.{Delivers, Stream}
use Rattle.bay_assoc.specs.declared.receive.Phase.{Phase}
use Rattle.bay_assoc.specs.TsduMeanings.{mms, tsdu_meaning}
use Rattle.bay_connection.specs.ConnectionStates.{delivers, after_doings}

-- ---- what is heard

pub hears-pdu : (s : Stream) (size : Option ℕ) (phase next : Phase) (tsdu pdu : List ℕ)
    → tsdu_meaning phase tsdu ≡ Ok (mms pdu, next)
    → after_doings s (Delivers tsdu ∷ []) size phase
    ≡ record {
      indications = delivers (record { size = size; phase = next }) pdu ∷ [];
      state = record { stream = s; phase = next };
    }
hears-pdu s size phase next tsdu pdu h = rw h refl

-- what stands last, by its length
pub last-part : (octets front part : List ℕ) → octets ≡ front ++ part
    → drop (length octets - length part) octets ≡ part
last-part octets front part is =
    let n : length octets - length part ≡ length front =
    omega (arith, ap length is, length-append front part) in
    ap (drop (length octets - length part)) is
    ∙ drop_at front part (length octets - length part) (sym n)
