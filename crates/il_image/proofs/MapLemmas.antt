-- A list that is made item by item of another.
use Rattle.std.proofs.Common.{◌≡◌, ℕ, ◌+◌, ◌<◌, List, [], ◌∷◌, ◌++◌, append_assoc, get_or, length, map, take, sym, ap, ◌∙◌}
use Rattle.std.proofs.lemmas.List.{map-append, take_more}

-- one turn: the item at i has its place behind those of the items before it
pub mapped-turn : {A B : Type 0} (f : A → B) (xs : List A) (i : ℕ) (x : A) (y : B)
    (first done new : List B) → done ≡ first ++ map f (take i xs) → i < length xs
    → y ≡ f (get_or xs i x) → new ≡ done ++ y ∷ []
    → new ≡ first ++ map f (take (i + 1) xs)
mapped-turn f xs i x y first done new so_far within is more =
    more ∙ ap (λ (ys : List _). ys ++ y ∷ []) so_far
    ∙ append_assoc first (map f (take i xs)) (y ∷ [])
    ∙ ap (λ (z : _). first ++ (map f (take i xs) ++ z ∷ [])) is
    ∙ ap (λ (ys : List _). first ++ ys)
    (sym (map-append f (take i xs) (get_or xs i x ∷ []))
    ∙ ap (λ (ys : List _). map f ys) (sym (take_more xs i x within)))
