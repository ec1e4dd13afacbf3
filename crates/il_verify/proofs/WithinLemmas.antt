-- Lists of kinds, one within another.
use Rattle.std.proofs.Common.{◌≡◌, suc, List, [], ◌∷◌, ◌++◌, length, refl, ap, reverse}
use Rattle.std.proofs.lemmas.Grind.{reverse_onto}
use Rattle.il_image.specs.declared.kind.CellKind.{CellKind}
use Rattle.il_image.specs.Kinds.{AreWithin}
use Rattle.il_image.proofs.KindLemmas.{within-self, within-along}

pub all-within-self : (xs : List CellKind) → AreWithin xs xs
all-within-self [] = tt
all-within-self (x ∷ xs) = (within-self x, all-within-self xs)

pub all-within-along : (xs ys zs : List CellKind) → AreWithin xs ys → AreWithin ys zs
    → AreWithin xs zs
all-within-along [] [] zs h g = g
all-within-along [] (y ∷ ys) zs h g = absurd h
all-within-along (x ∷ xs) [] zs h g = absurd h
all-within-along (x ∷ xs) (y ∷ ys) [] h g = absurd g
all-within-along (x ∷ xs) (y ∷ ys) (z ∷ zs) h g =
    (within-along x y z h.0 g.0, all-within-along xs ys zs h.1 g.1)

pub within-length : (xs ys : List CellKind) → AreWithin xs ys → length xs ≡ length ys
within-length [] [] h = refl
within-length [] (y ∷ ys) h = absurd h
within-length (x ∷ xs) [] h = absurd h
within-length (x ∷ xs) (y ∷ ys) h = ap suc (within-length xs ys h.1)

within-append : (xs ys us vs : List CellKind) → AreWithin xs ys → AreWithin us vs
    → AreWithin (xs ++ us) (ys ++ vs)
within-append [] [] us vs h g = g
within-append [] (y ∷ ys) us vs h g = absurd h
within-append (x ∷ xs) [] us vs h g = absurd h
within-append (x ∷ xs) (y ∷ ys) us vs h g = (h.0, within-append xs ys us vs h.1 g)

reverse-cons : {A : Type 0} (x : A) (xs : List A) → reverse (x ∷ xs) ≡ reverse xs ++ x ∷ []
reverse-cons x xs = reverse_onto xs x []

pub within-reverse : (xs ys : List CellKind) → AreWithin xs ys → AreWithin (reverse xs) (reverse ys)
within-reverse [] [] h = tt
within-reverse [] (y ∷ ys) h = absurd h
within-reverse (x ∷ xs) [] h = absurd h
within-reverse (x ∷ xs) (y ∷ ys) h =
    rw (reverse-cons x xs, reverse-cons y ys)
    (within-append (reverse xs) (reverse ys) (x ∷ []) (y ∷ []) (within-reverse xs ys h.1) (h.0, tt))

pub within-none : (kinds : List CellKind) → AreWithin [] kinds → kinds ≡ []
within-none [] h = cc
within-none (k ∷ kinds) h = absurd h
