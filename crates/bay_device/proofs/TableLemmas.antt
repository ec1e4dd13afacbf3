-- Lemmas on tables of names.
use Rattle.std.proofs.Common.{◌≡◌, ◌≢◌, ℕ, zero, suc, ◌+◌, ◌-◌, ◌*◌, ◌%◌, ◌<◌, ◌≤◌, Bool, true, false, cond, nat_eq, nat_lt, List, [], ◌∷◌, length, get_or, map, position, slice_get, option_map, Some, None, ◌⊎◌, ⊎_elim, inl, inr, refl, ap, sym, ◌∙◌, arith}
use Rattle.std.proofs.lemmas.Bool.{false_from_ne_true}
use Rattle.std.specs.List.{fold, position_from}
use Rattle.std.specs.Char.{to_ascii_uppercase}
use Rattle.std.specs.Str.{bytes_eq}
use Rattle.std.proofs.lemmas.Bool.Decides.{nat_tests}
use Rattle.std.proofs.lemmas.Iterator.Adapters.{position_from-zero}
use Rattle.std.proofs.lemmas.List.{get_or-set_same, get_or-set_other, length-set}
use Rattle.std.proofs.lemmas.Option.{slice_get-map}
use Rattle.std.proofs.lemmas.Slice.Eq.{bytes_eq-Decides}
use Rattle.std.proofs.Math.ListN.{set}
use Rattle.bay_base.specs.Names.{same_name, upper}
use Rattle.bay_device.specs.Table.{IsTable, key_after, key_of, with_index_of}

-- ---- keys

-- a letter in upper case leaves the same by 32
upper-rest : (c : ℕ) → to_ascii_uppercase c % 32 ≡ c % 32
upper-rest c = by-low (nat_lt c 97) refl
  where
    by-high : (v : Bool) → nat_lt c 123 ≡ v → nat_lt c 97 ≡ false → cond v (c - 32) c % 32 ≡ c % 32
    by-high true e low = let back : c ≡ (c - 32) + 32 =
        grind (arith, nat_tests) in omega (arith, back)
    by-high false e low = refl

    by-low : (v : Bool) → nat_lt c 97 ≡ v → cond v c (cond (nat_lt c 123) (c - 32) c) % 32 ≡ c % 32
    by-low true e = refl
    by-low false e = by-high (nat_lt c 123) refl e

-- the key is that of the name in upper case
key-upper : (name : List ℕ) (key : ℕ) → fold key_after key name ≡ fold key_after key (upper name)
key-upper [] key = refl
key-upper (b ∷ bs) key =
    key-upper bs (key_after key b)
    ∙ ap (λ r. fold key_after ((key * 31 + r) % 64) (upper bs)) (sym (upper-rest b))

pub same-key : (a b : List ℕ) → same_name a b ≡ true → key_of a ≡ key_of b
unfolding same_name
same-key a b h =
    let same : upper a ≡ upper b = (bytes_eq-Decides (upper a) (upper b)).0 h in
    key-upper a 0 ∙ ap (fold key_after 0) same ∙ sym (key-upper b 0)

-- names that are spelled alike are the same
pub same-spelled : (a b : List ℕ) → bytes_eq a b ≡ true → same_name a b ≡ true
unfolding same_name
same-spelled a b e =
    (bytes_eq-Decides (upper a) (upper b)).1 (ap upper ((bytes_eq-Decides a b).0 e))

earlier : (j i : ℕ) → j < i + 1 → (j < i) ⊎ (j ≡ i)
earlier zero zero h = inr refl
earlier zero (suc i) h = inl (omega arith)
earlier (suc j) zero h = absurd (omega arith)
earlier (suc j) (suc i) h =
    ⊎_elim (λ (l : j < i). inl (omega arith)) (λ (e : j ≡ i). inr (ap suc e))
    (earlier j i (omega arith))

-- ---- a table as it is made

-- the first names are noted
pub record Tabled (names : List (List ℕ)) (done : ℕ) (firsts : List ℕ) : Type 0 where
  pub sized : length firsts ≡ 64
  pub within : (key : ℕ) → key < 64 → get_or firsts key 0 ≤ length names
  pub first : (place : ℕ) (name : List ℕ) → place < done → slice_get names place ≡ Some name
      → get_or firsts (key_of name) 0 ≤ place

set-lower : (b : Bool) (key place : ℕ) (firsts : List ℕ) (k : ℕ) → nat_eq k key ≡ b
    → place < get_or firsts key 0 → key < length firsts
    → get_or (set firsts key place) k 0 ≤ get_or firsts k 0
set-lower true key place firsts k same less lt =
    let is : k ≡ key = grind (arith, nat_tests) in
    rw (is, get_or-set_same firsts key place 0 lt) (omega (arith, less))
set-lower false key place firsts k same less lt =
    let other : k ≢ key = λ e. let no : nat_eq k key ≡ true = grind (arith, nat_tests) in cc in
    rw (get_or-set_other firsts key k place 0 other) (omega arith)

noted-if : (b : Bool) (key place : ℕ) (firsts : List ℕ) (k : ℕ)
    → nat_lt place (get_or firsts key 0) ≡ b → key < length firsts
    → (get_or (cond b (set firsts key place) firsts) k 0 ≤ get_or firsts k 0)
    × (get_or (cond b (set firsts key place) firsts) key 0 ≤ place)
noted-if true key place firsts k is lt =
    let less : place < get_or firsts key 0 = grind (arith, nat_tests) in (
      set-lower (nat_eq k key) key place firsts k refl less lt,
      rw (get_or-set_same firsts key place 0 lt) (omega arith),
    )
noted-if false key place firsts k is lt =
    let few : get_or firsts key 0 ≤ place = grind (arith, nat_tests) in
    (omega arith, few)

pub noted-lower : (key place : ℕ) (firsts : List ℕ) (k : ℕ) → key < length firsts
    → get_or (with_index_of key place firsts) k 0 ≤ get_or firsts k 0
noted-lower key place firsts k lt =
    (noted-if (nat_lt place (get_or firsts key 0)) key place firsts k refl lt).0

noted-here : (key place : ℕ) (firsts : List ℕ) → key < length firsts
    → get_or (with_index_of key place firsts) key 0 ≤ place
noted-here key place firsts lt =
    (noted-if (nat_lt place (get_or firsts key 0)) key place firsts key refl lt).1

sized-if : (b : Bool) (key place : ℕ) (firsts : List ℕ)
    → length (cond b (set firsts key place) firsts) ≡ length firsts
sized-if true key place firsts = length-set firsts key place
sized-if false key place firsts = refl

-- one name more
pub Tabled-step : (names : List (List ℕ)) (place : ℕ) (firsts : List ℕ) (name : List ℕ)
    → Tabled names place firsts → slice_get names place ≡ Some name → key_of name < 64
    → Tabled names (place + 1) (with_index_of (key_of name) place firsts)
Tabled-step names place firsts name t here small =
    let key = key_of name in
    let after = with_index_of key place firsts in
    let lt : key < length firsts = rw t.sized small in
    record {
      sized = sized-if (nat_lt place (get_or firsts key 0)) key place firsts ∙ t.sized;
      within = λ k h. let lower = noted-lower key place firsts k lt in let bound =
          t.within k h in omega (arith, lower, bound);
      first = λ p n h is. ⊎_elim
          (λ (l : p < place). let lower = noted-lower key place firsts (key_of n) lt in
          let bound = t.first p n l is in omega (arith, lower, bound))
          (λ (e : p ≡ place).
          let same : Some n ≡ Some name = sym is ∙ ap (slice_get names) e ∙ here in
          let one : n ≡ name = cc in
          rw (one, e) (noted-here key place firsts lt))
          (earlier p place h);
    }

pub Tabled-start : (names : List (List ℕ)) (firsts : List ℕ) → length firsts ≡ 64
    → ((key : ℕ) → key < 64 → get_or firsts key 0 ≡ length names) → Tabled names 0 firsts
Tabled-start names firsts sized all =
    record {
      sized = sized;
      within = λ key h. let is = all key h in
          omega (arith, is);
      first = λ place name h here. absurd (omega arith);
    }

-- ---- a search

module _ {X : Type 0} (p : X → Bool) where
  -- none of the first items passes
  abbrev pub Passed : ℕ → List X → Type 0
  Passed n xs = (j : ℕ) (x : X) → j < n → slice_get xs j ≡ Some x → p x ≡ false

  from-at : (k : ℕ) (xs : List X) (i : ℕ) (x : X) → Passed i xs → slice_get xs i ≡ Some x
      → p x ≡ true → position_from p k xs ≡ Some (k + i)
  from-at k [] i x passed here pass = absurd cc
  from-at k (y ∷ xs) zero x passed here pass =
      let is : y ≡ x = cc in
      let none : k ≡ k + 0 = omega arith in
      ap (λ b. cond b (Some k) (position_from p (k + 1) xs)) (ap p is ∙ pass)
      ∙ ap (λ n. Some n) none
  from-at k (y ∷ xs) (suc i) x passed here pass =
      let more : k + 1 + i ≡ k + suc i = omega arith in
      ap (λ b. cond b (Some k) (position_from p (k + 1) xs)) (passed 0 y (omega arith) refl)
      ∙ from-at (k + 1) xs i x (λ j z lt is. passed (suc j) z (omega arith) is) here pass
      ∙ ap (λ n. Some n) more

  from-none : (k : ℕ) (xs : List X) → Passed (length xs) xs → position_from p k xs ≡ None
  from-none k [] passed = refl
  from-none k (y ∷ xs) passed =
      ap (λ b. cond b (Some k) (position_from p (k + 1) xs)) (passed 0 y (omega arith) refl)
      ∙ from-none (k + 1) xs (λ j z lt is. passed (suc j) z (omega arith) is)

  pub found-at : (xs : List X) (i : ℕ) (x : X) → Passed i xs → slice_get xs i ≡ Some x → p x ≡ true
      → position p xs ≡ Some i
  found-at xs i x passed here pass =
      let zeroth : 0 + i ≡ i = omega arith in
      position_from-zero p xs ∙ from-at 0 xs i x passed here pass ∙ ap (λ n. Some n) zeroth

  pub found-none : (xs : List X) (n : ℕ) → Passed n xs → length xs ≤ n → position p xs ≡ None
  found-none xs n passed all =
      position_from-zero p xs ∙ from-none 0 xs (λ j x lt is. passed j x (omega arith) is)

  pub Passed-more : (xs : List X) (i : ℕ) (x : X) → Passed i xs → slice_get xs i ≡ Some x
      → p x ≡ false → Passed (i + 1) xs
  Passed-more xs i x passed here fail j y lt is =
      ⊎_elim
      (λ (l : j < i). passed j y l is)
      (λ (e : j ≡ i). let same : Some y ≡ Some x = sym is ∙ ap (slice_get xs) e ∙ here in
      let one : y ≡ x = cc in ap p one ∙ fail)
      (earlier j i lt)

-- before the place of a name's key no item has the name
pub passed-over : {X : Type 0} (f : X → List ℕ) (xs : List X) (firsts : List ℕ) (name : List ℕ)
    → IsTable (map f xs) firsts
    → Passed (λ x. same_name (f x) name) (get_or firsts (key_of name) 0) xs
passed-over f xs firsts name t j x lt here =
    let mapped : slice_get (map f xs) j ≡ Some (f x) =
    slice_get-map f xs j ∙ ap (option_map f) here in
    let bound = t.first j (f x) mapped in
    false_from_ne_true (same_name (f x) name)
    (λ same. let key = same-key (f x) name same in
    omega (arith, bound, lt, ap (λ k. get_or firsts k 0) key))
