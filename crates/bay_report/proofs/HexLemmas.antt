-- Octets in hexadecimal digits, as they are printed: part by part.
use Rattle.std.proofs.Common.{◌≡◌, ℕ, ◌/◌, ◌%◌, List, ◌∷◌, ◌++◌, slice_index, refl, ap, []}
use Rattle.hex.specs.Hex.{encode_lower, encode_with}

pub encode-nil : encode_lower [] ≡ []
unfolding encode_with
encode-nil = refl

pub encode-append : (t xs ys : List ℕ)
    → encode_with t (xs ++ ys) ≡ encode_with t xs ++ encode_with t ys
unfolding encode_with
encode-append t [] ys = refl
encode-append t (x ∷ xs) ys =
    ap (λ ds. slice_index t (x / 16) ∷ slice_index t (x % 16) ∷ ds) (encode-append t xs ys)
