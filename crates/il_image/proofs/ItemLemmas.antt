-- Reading so many items, one after the other.
use Rattle.std.proofs.Common.{◌≡◌, ℕ, suc, ◌+◌, ◌-◌, ◌<◌, ◌≤◌, List, [], ◌∷◌, ◌++◌, refl, sym, ap, ◌∙◌, arith, append-nil}
use Rattle.std.specs.Prelude.{Ok, Err}
use Rattle.std.proofs.lemmas.List.{append_assoc}
use Rattle.bay_base.specs.Results.{◌>>=◌}
use Rattle.il_image.specs.declared.fault.ImageFault.{ImageFault}
use Rattle.il_image.specs.Decoding.{items_at, counted_at}
use Rattle.il_image.specs.Reading.{Read}

-- items behind those that are done
abbrev pub joined : {A : Type 0} → List A → Read (List A) → Read (List A)
joined done (Ok r) = Ok (done ++ r.0, r.1)
joined done (Err e) = Err e

joined-more : {A : Type 0} (done : List A) (x : A) (r : Read (List A))
    → joined done (r >>= (λ xs. Ok (x ∷ xs.0, xs.1))) ≡ joined (done ++ x ∷ []) r
joined-more done x (Ok r) =
    ap (λ (xs : List _). Ok (xs, r.1)) (sym (append_assoc done (x ∷ []) r.0))
joined-more done x (Err e) = refl

turn : {A : Type 0} (item : List ℕ → Read A) (n m : ℕ) (done : List A) (octets : List ℕ) (x : A)
    (rest : List ℕ) → n ≡ suc m → item octets ≡ Ok (x, rest)
    → joined done (items_at item n octets) ≡ joined (done ++ x ∷ []) (items_at item m rest)
turn item n m done octets x rest is e = rw (is, e) (joined-more done x (items_at item m rest))

-- ---- a loop that has read i of the items

pub going-turn : {A : Type 0} (item : List ℕ → Read A) (octets : List ℕ) (count i : ℕ)
    (done new : List A) (rest behind : List ℕ) (x : A)
    → counted_at item octets ≡ joined done (items_at item (count - i) rest) → i < count
    → item rest ≡ Ok (x, behind) → new ≡ done ++ x ∷ []
    → counted_at item octets ≡ joined new (items_at item (count - (i + 1)) behind)
going-turn item octets count i done new rest behind x so_far within e more =
    so_far ∙ turn item (count - i) (count - (i + 1)) done rest x behind (omega arith) e
    ∙ ap (λ (xs : List _). joined xs (items_at item (count - (i + 1)) behind)) (sym more)

refused : {A : Type 0} (item : List ℕ → Read A) (n m : ℕ) (done : List A) (octets : List ℕ)
    (fault : ImageFault) → n ≡ suc m → item octets ≡ Err fault
    → joined done (items_at item n octets) ≡ Err fault
refused item n m done octets fault is e = rw (is, e) refl

pub going-err : {A : Type 0} (item : List ℕ → Read A) (octets : List ℕ) (count i : ℕ)
    (done : List A) (rest : List ℕ) (fault : ImageFault)
    → counted_at item octets ≡ joined done (items_at item (count - i) rest) → i < count
    → item rest ≡ Err fault → counted_at item octets ≡ Err fault
going-err item octets count i done rest fault so_far within e =
    so_far ∙ refused item (count - i) (count - (i + 1)) done rest fault (omega arith) e

ended : {A : Type 0} (item : List ℕ → Read A) (n : ℕ) (done : List A) (octets : List ℕ) → n ≡ 0
    → joined done (items_at item n octets) ≡ Ok (done, octets)
ended item n done octets is = rw (is, append-nil done) refl

pub going-end : {A : Type 0} (item : List ℕ → Read A) (octets : List ℕ) (count i : ℕ)
    (done : List A) (rest : List ℕ)
    → counted_at item octets ≡ joined done (items_at item (count - i) rest) → count ≤ i
    → counted_at item octets ≡ Ok (done, rest)
going-end item octets count i done rest so_far over =
    so_far ∙ ended item (count - i) done rest (omega arith)
