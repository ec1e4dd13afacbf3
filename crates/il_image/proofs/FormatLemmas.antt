-- The parts of an image are lawful.
use Rattle.std.proofs.Common.{◌≡◌, ℕ, zero, suc, ◌^◌, ◌<◌, ◌≤◌, ◌||◌, Bool, true, false, not, cond, eqb, ltb, List, [], ◌∷◌, ◌++◌, length, take, drop, Option, Some, None, refl, sym, subst, ap, ◌∙◌, arith, append-nil, inl, inr}
use Rattle.std.specs.Prelude.{Ok, Err}
use Rattle.std.specs.Int.{cast_signed, from_be_bytes, w16}
use Rattle.std.specs.List.{list_all}
use Rattle.std.proofs.lemmas.Bool.Decides.{nat_tests}
use Rattle.std.proofs.lemmas.Bool.{eqb-false, le-ltb, lt-ltb, ltb-false, not-true, or_parts}
use Rattle.std.proofs.lemmas.List.{append_assoc}
use Rattle.std.proofs.lemmas.Option.{cond_some, same_Some}
use Rattle.bay_base.specs.Results.{◌>>=◌}
use Rattle.bay_base.specs.declared.types.ElementaryType.{ElementaryType}
use Rattle.bay_base.specs.declared.types.ElementaryType.TheVariants as elementary
use Rattle.bay_base.specs.declared.types.TimerKind.{TimerKind}
use Rattle.bay_base.specs.declared.types.TimerKind.TheVariants.{OnDelay}
use Rattle.il_image.specs.declared.fault.ImageFault.{ImageFault}
use Rattle.il_image.specs.declared.fault.ImageFault.TheVariants.{BadOpcode, BadVersion, Truncated}
use Rattle.il_image.specs.declared.opcode.Version.{Version}
use Rattle.il_image.specs.declared.opcode.Version.TheVariants.{One, Two}
use Rattle.il_image.specs.declared.write.Size.{Size}
use Rattle.il_image.specs.declared.write.Size.TheVariants as size
use Rattle.il_image.specs.Decoding.{access_at, access_of, counted_at, items_at, kind_of_octet, name_at, name_of_length, point_at, timer_at, type_at, type_of_octet, version_at}
use Rattle.il_image.specs.Images.{Each, HasName, IsName, count_and_items, each_spelled, is_name_octet, point_octets, timer_octets, type_octet, version_octet}
use Rattle.il_image.specs.Octets.{AreOctets, bits_of_size, most_counted, number_octets, octet_count, signed_octets}
use Rattle.il_image.specs.Reading.{Read, number_at, octet_at, signed_at}
use Rattle.il_image.proofs.OctetLemmas.{number-below, read-signed, read_number}
use Rattle.il_image.proofs.ReadLemmas.{back-number, from-front}
use Rattle.il_image.proofs.PieceLemmas.{Any, Empty, Is, Lawful, Never, behind-reads, entry_at, known-entry, lawful-by, lawful-ok, lawful-so, lawful-made, lawful-table, lawful-then, left, whole-then}

-- ---- octets, and so many items

pub no-opcode : BadOpcode ≡ Truncated → ⊥
no-opcode e = cc

no-version : BadVersion ≡ Truncated → ⊥
no-version e = cc

pub octet-lawful : Lawful left Empty (Is (λ n. n ∷ []) Any) Never octet_at
octet-lawful =
    lawful-table BadOpcode (λ n. Some n) (λ n. n ∷ []) Any 0 0 no-opcode (omega arith) refl refl
    (λ x rest. refl) (λ x z e. record {
      parts = ap (λ (n : ℕ). n ∷ []) (same_Some x z e);
      good = tt;
    })

-- an octet that passes the test
abbrev pub such_at : ImageFault → (ℕ → Bool) → List ℕ → Read ℕ
such_at bad test octets =
    octet_at octets >>= (λ o. entry_at bad (cond (test o.0) (Some o.0) None) o.1)

pub such-lawful : (bad : ImageFault) (test : ℕ → Bool) (d : ℕ) → (bad ≡ Truncated → ⊥) → d < 256
    → test d ≡ true
    → Lawful left Empty (Is (λ n. n ∷ []) (λ n. test n ≡ true)) Never (such_at bad test)
such-lawful bad test d ne small is =
    lawful-table bad (λ x. cond (test x) (Some x) None) (λ n. n ∷ []) (λ n. test n ≡ true) d d ne
    small (rw is refl) refl (λ x rest. refl) (λ x z e. (
    let k = cond_some (test x) x z e in
    record { parts = ap (λ (n : ℕ). n ∷ []) k.1; good = ap test (sym k.1) ∙ k.0 }))

-- Items were read, and behind them stands this.
pub record InItem {A : Type 0} (spell : A → List ℕ) (item : List ℕ → Read A) (C : List ℕ → Type 0)
    (n : ℕ) (octets : List ℕ) : Type 0 where
  pub xs : List A
  pub cut : List ℕ
  pub parts : octets ≡ each_spelled spell xs ++ cut
  pub few : length xs < n
  pub is : C cut
  pub reads : (more : List ℕ) → items_at item (length xs) (each_spelled spell xs ++ more)
      ≡ Ok (xs, more)

module _ {A : Type 0} {spell : A → List ℕ} {P : A → Type 0} {C : List ℕ → Type 0}
    {item : List ℕ → Read A} (l : Lawful left Empty (Is spell P) C item) where
  pub items-lawful : (n : ℕ)
      → Lawful left Empty (Is (each_spelled spell) (λ xs. Each P xs × (length xs ≡ n)))
      (InItem spell item C n) (items_at item n)
  items-lawful zero =
      lawful-so lawful-ok
      (λ octets r fits d. rw (d.0, d.1) (record { parts = refl; good = (tt, refl) }))
      (λ octets n. absurd n)
  items-lawful (suc n) =
      lawful-so (lawful-then _ l (λ x. lawful-then _ (items-lawful n) (λ xs. lawful-ok)))
      (λ octets r fits d. (let all : r.0 ≡ d.what ∷ d.later.what = d.later.later.1 in
      record {
        parts = rw (
          d.parts,
          d.first.parts,
          d.later.parts,
          d.later.first.parts,
          d.later.later.0,
          all,
          append-nil (each_spelled spell d.later.what),
        ) refl;
        good = (
          subst (Each P) (sym all) (d.first.good, d.later.first.good.0),
          ap length all ∙ ap suc d.later.first.good.1,
        );
      }))
      (λ octets c. elim c [
        | inl d ↦ record {
          xs = [];
          cut = octets;
          parts = refl;
          few = omega arith;
          is = d;
          reads = λ more. refl;
        }
        | inr b ↦ elim b.cut [
          | inl d ↦ (
              let few = d.few in
              record {
                xs = b.what ∷ d.xs;
                cut = d.cut;
                parts = rw (b.parts, b.first.parts, d.parts)
                    (sym (append_assoc (spell b.what) (each_spelled spell d.xs) d.cut));
                few = omega arith;
                is = d.is;
                reads = λ more. rw (
                  append_assoc (spell b.what) (each_spelled spell d.xs) more,
                  behind-reads b (each_spelled spell d.xs ++ more),
                  d.reads more,
                ) refl;
              })
          | inr e ↦ absurd e.cut
        ]
      ])

-- ---- numbers

-- what is read, unless there are too few octets
abbrev unless_few : {A : Type 0} → Bool → A × List ℕ → Read A
unless_few few r = cond few (Err Truncated) (Ok r)

-- so many octets are taken
abbrev taken : ℕ → List ℕ → Read (List ℕ)
taken n octets = unless_few (ltb (length octets) n) (take n octets, drop n octets)

one-less : (a b : ℕ) → ltb (suc a) (suc b) ≡ ltb a b
one-less a b = grind (arith, nat_tests)

-- They are so many items of an octet each.
are-octets : (n : ℕ) (octets : List ℕ) → taken n octets ≡ items_at octet_at n octets
are-octets zero [] = refl
are-octets zero (x ∷ octets) = rw (le-ltb (length (x ∷ octets)) 0 (omega arith)) refl
are-octets (suc n) [] = rw (lt-ltb 0 (suc n) (omega arith)) refl
are-octets (suc n) (x ∷ octets) =
    rw (one-less (length octets) n, sym (are-octets n octets)) (go (ltb (length octets) n))
  where
    go : (b : Bool) → unless_few b (x ∷ take n octets, drop n octets)
        ≡ (unless_few b (take n octets, drop n octets) >>= (λ r. Ok (x ∷ r.0, r.1)))
    go true = refl
    go false = refl

letters-spelled : (name : List ℕ) → each_spelled (λ (n : ℕ). n ∷ []) name ≡ name
letters-spelled [] = refl
letters-spelled (x ∷ name) = ap (λ (ys : List ℕ). x ∷ ys) (letters-spelled name)

-- What is made of so many octets.
made-lawful : {A : Type 0} (n : ℕ) (make : List ℕ → A) (S : List ℕ → A × List ℕ → Type 0)
    → ((octets : List ℕ) → make (take n octets) ≡ make octets)
    → ((front rest : List ℕ) → length front ≡ n → AreOctets front → S front (make front, rest))
    → Lawful left Empty S Never
    (λ octets. unless_few (ltb (length octets) n) (make octets, drop n octets))
made-lawful {A} n make S same spelled =
    lawful-so (lawful-made (λ r. (make r.0, r.1)) (λ octets. go octets (ltb (length octets) n)
    ∙ ap (λ (q : Read (List ℕ)). q >>= (λ r. Ok (make r.0, r.1))) (are-octets n octets))
    (λ x more. refl) (λ r. (λ q. q, λ q. q)) (items-lawful octet-lawful n))
    (λ octets r fits d. (
    let front : octets ≡ d.0.0 = d.1.parts ∙ letters-spelled d.0.0 in
    let size : length octets ≡ n = ap length front ∙ d.1.good.1 in
    subst (S octets) (ap (λ (ys : List ℕ). (make ys, d.0.1)) front ∙ d.2)
    (spelled octets d.0.1 size fits)))
    (λ octets c. c.is)
  where
    go : (octets : List ℕ) (b : Bool)
        → unless_few b (make octets, drop n octets)
        ≡ (unless_few b (take n octets, drop n octets) >>= (λ r. Ok (make r.0, r.1)))
    go octets true = refl
    go octets false = ap (λ (x : A). Ok (x, drop n octets)) (sym (same octets))

-- two octets spell a number
abbrev pub IsNumber : List ℕ → ℕ × List ℕ → Type 0
IsNumber = Is number_octets (λ n. n < 2 ^ 16)

pub number-lawful : Lawful left Empty IsNumber Never number_at
number-lawful =
    made-lawful 2 (from_be_bytes w16) IsNumber (from-front size.Two)
    (λ front rest len fits. record {
      parts = sym (read_number front len fits);
      good = number-below front fits;
    })

pub signed-lawful : (s : Size)
    → Lawful left Empty (λ octets r. octets ≡ signed_octets s r.0) Never (signed_at s)
signed-lawful s =
    made-lawful (octet_count s)
    (λ octets. cast_signed (bits_of_size s) (from_be_bytes (bits_of_size s) octets))
    (λ octets r. octets ≡ signed_octets s r.0)
    (λ octets. ap (cast_signed (bits_of_size s)) (from-front s octets))
    (λ front rest len fits. sym (read-signed s front len fits))

-- ---- items behind their number

-- Items behind their number, each with the property.
abbrev pub Counted : {A : Type 0} → (A → List ℕ) → (A → Type 0) → List ℕ → List A × List ℕ → Type 0
Counted spell P = Is (count_and_items spell) (λ xs. Each P xs × (length xs ≤ most_counted))

-- Their number and items were read, and behind them stands this.
pub record InCounted {A : Type 0} (spell : A → List ℕ) (item : List ℕ → Read A)
    (C : List ℕ → Type 0) (octets : List ℕ) : Type 0 where
  pub n : ℕ
  pub small : n ≤ most_counted
  pub xs : List A
  pub cut : List ℕ
  pub parts : octets ≡ number_octets n ++ (each_spelled spell xs ++ cut)
  pub few : length xs < n
  pub is : C cut
  pub reads : (more : List ℕ) → counted_at item (count_and_items spell xs ++ more) ≡ Ok (xs, more)

module _ {A : Type 0} {spell : A → List ℕ} {P : A → Type 0} {C : List ℕ → Type 0}
    {item : List ℕ → Read A} (l : Lawful left Empty (Is spell P) C item) where
  pub counted-lawful :
      Lawful left Empty (Counted spell P) (InCounted spell item C) (counted_at item)
  counted-lawful =
      lawful-so (lawful-then _ number-lawful (λ n. items-lawful l n))
      (λ octets r fits d. (
      let small : d.what < 2 ^ 16 = d.first.good in
      let size : length r.0 ≡ d.what = d.later.good.1 in
      record {
        parts = rw (d.parts, d.first.parts, d.later.parts, size) refl;
        good = (d.later.good.0, omega arith);
      }))
      (λ octets c. elim c [
        | inl n ↦ absurd n
        | inr b ↦ (
            let small : b.what < 2 ^ 16 = b.first.good in
            let d = b.cut in
            let few = d.few in
            record {
              n = b.what;
              small = omega arith;
              xs = d.xs;
              cut = d.cut;
              parts = rw (b.parts, b.first.parts, d.parts) refl;
              few = d.few;
              is = d.is;
              reads = λ more. rw (
                append_assoc (number_octets (length d.xs)) (each_spelled spell d.xs) more,
                back-number (length d.xs) (each_spelled spell d.xs ++ more) (omega arith),
              ) (d.reads more);
            })
      ])

-- items that are completed always
pub all-lawful : {A : Type 0} {spell : A → List ℕ} {P : A → Type 0} {item : List ℕ → Read A}
    → Lawful left Empty (Is spell P) Never item
    → Lawful left Empty (Counted spell P) Never (counted_at item)
all-lawful l = lawful-so (counted-lawful l) (λ octets r fits d. d) (λ octets c. c.is)

-- ---- tables

type-is : (version : Version) (octet : ℕ) (t : ElementaryType)
    → type_of_octet version octet ≡ Some t → octet ∷ [] ≡ type_octet t ∷ []
type-is version octet t e = grind (arith, nat_tests)

pub type-lawful : (version : Version)
    → Lawful left Empty (Is (λ t. type_octet t ∷ []) Any) Never (type_at version)
type-lawful version =
    lawful-table BadOpcode (type_of_octet version) (λ t. type_octet t ∷ []) Any 1 elementary.Bool
    no-opcode (omega arith) refl refl (λ x rest. known-entry (type_of_octet version x) rest)
    (λ x t e. record { parts = type-is version x t e; good = tt })

access-is : (octet : ℕ) (writable : Bool) → access_of octet ≡ Some writable
    → octet ∷ [] ≡ cond writable 1 0 ∷ []
access-is octet writable e = grind (arith, nat_tests)

access-lawful : Lawful left Empty (Is (λ w. cond w 1 0 ∷ []) Any) Never access_at
access-lawful =
    lawful-table BadOpcode access_of (λ w. cond w 1 0 ∷ []) Any 0 false no-opcode (omega arith) refl
    refl (λ x rest. known-entry (access_of x) rest)
    (λ x w e. record { parts = access-is x w e; good = tt })

kind_is : (octet : ℕ) (kind : TimerKind) → kind_of_octet octet ≡ Some kind
    → octet ∷ [] ≡ timer_octets Two kind
kind_is octet kind e = grind (arith, nat_tests)

pub timer-lawful : (version : Version)
    → Lawful left Empty (Is (timer_octets version) Any) Never (timer_at version)
unfolding timer_at
timer-lawful One =
    lawful-so lawful-ok (λ octets r fits d. record { parts = d.0; good = tt }) (λ octets n. n)
timer-lawful Two =
    lawful-table BadOpcode kind_of_octet (timer_octets Two) Any 1 OnDelay no-opcode (omega arith)
    refl refl (λ x rest. known-entry (kind_of_octet x) rest)
    (λ x kind e. record { parts = kind_is x kind e; good = tt })

-- the version that an octet stands for
abbrev version_of : ℕ → Option Version
version_of octet = cond (eqb octet 1) (Some One) (cond (eqb octet 2) (Some Two) None)

version_is : (octet : ℕ) (version : Version) → version_of octet ≡ Some version
    → octet ∷ [] ≡ version_octet version ∷ []
version_is octet version e = grind (arith, nat_tests)

version-entry : (a b : Bool) (rest : List ℕ)
    → cond a (Ok (One, rest)) (cond b (Ok (Two, rest)) (Err BadVersion))
    ≡ entry_at BadVersion (cond a (Some One) (cond b (Some Two) None)) rest
version-entry true b rest = refl
version-entry false true rest = refl
version-entry false false rest = refl

pub version-lawful : Lawful left Empty (Is (λ v. version_octet v ∷ []) Any) Never version_at
version-lawful =
    lawful-table BadVersion version_of (λ v. version_octet v ∷ []) Any 1 One no-version
    (omega arith) refl refl (λ x rest. version-entry (eqb x 1) (eqb x 2) rest)
    (λ x v e. record { parts = version_is x v e; good = tt })

-- ---- names, points

-- an octet of a name
abbrev letter_at : List ℕ → Read ℕ
letter_at = such_at BadOpcode is_name_octet

letter-lawful : Lawful left Empty (Is (λ n. n ∷ []) (λ n. is_name_octet n ≡ true)) Never letter_at
letter-lawful = such-lawful BadOpcode is_name_octet 0x41 no-opcode (omega arith) refl

-- A name of a length is so many letters.
are-letters : (n : ℕ) (octets : List ℕ) → name_of_length n octets ≡ items_at letter_at n octets
are-letters zero [] = refl
are-letters zero (x ∷ octets) = rw (le-ltb (length (x ∷ octets)) 0 (omega arith)) refl
are-letters (suc n) [] = rw (lt-ltb 0 (suc n) (omega arith)) refl
are-letters (suc n) (x ∷ octets) = go (are-letters n octets) (is_name_octet x) refl
  where
    sized : Bool → Bool → List ℕ → Read (List ℕ)
    sized a b name = cond a (cond b (Err Truncated) (Ok (name, drop n octets))) (Err BadOpcode)

    rest : (a b : Bool) → sized a b (x ∷ take n octets)
        ≡ (sized a b (take n octets) >>= (λ r. Ok (x ∷ r.0, r.1)))
    rest true true = refl
    rest true false = refl
    rest false b = refl

    go : name_of_length n octets ≡ items_at letter_at n octets → (b : Bool) → is_name_octet x ≡ b
        → name_of_length (suc n) (x ∷ octets) ≡ items_at letter_at (suc n) (x ∷ octets)
    go same false is = rw is refl
    go same true is =
        rw (is, one-less (length octets) n, sym same)
        (rest (list_all is_name_octet (take n octets)) (ltb (length octets) n))

letters-good : (name : List ℕ) → Each (λ n. is_name_octet n ≡ true) name
    → list_all is_name_octet name ≡ true
letters-good [] good = refl
letters-good (x ∷ name) good = rw good.0 (letters-good name good.1)

length-lawful : (n : ℕ)
    → Lawful left Empty
    (Is (λ name. name) (λ name. (list_all is_name_octet name ≡ true) × (length name ≡ n))) Never
    (name_of_length n)
length-lawful n =
    lawful-so (lawful-by (are-letters n) (items-lawful letter-lawful n))
    (λ octets r fits d. record {
      parts = d.parts ∙ letters-spelled r.0;
      good = (letters-good r.0 d.good.0, d.good.1);
    })
    (λ octets c. c.is)

abbrev pub name_octets : List ℕ → List ℕ
name_octets name = length name ∷ name

-- the length of a name
abbrev is_size : ℕ → Bool
is_size n = not (eqb n 0 || ltb 64 n)

name-lawful : Lawful left Empty (Is name_octets IsName) Never name_at
name-lawful =
    lawful-so (lawful-by same (whole-then (λ n. name_of_length n.0 n.1)
    (such-lawful BadOpcode is_size 1 no-opcode (omega arith) refl) length-lawful))
    (λ octets r fits d. (
    let p = or_parts (eqb d.what 0) (ltb 64 d.what) (not-true _ d.first.good) in
    let some : d.what ≡ 0 → ⊥ = eqb-false d.what 0 p.0 in
    let few : d.what ≤ 64 = ltb-false 64 d.what p.1 in
    let size : length r.0 ≡ d.what = d.later.good.1 in
    record {
      parts = rw (d.parts, d.first.parts, d.later.parts, size) refl;
      good = record { some = omega arith; few = omega arith; octets = d.later.good.0 };
    }))
    (λ octets n. n)
  where
    same : (octets : List ℕ) → name_at octets
        ≡ (such_at BadOpcode is_size octets >>= (λ n. name_of_length n.0 n.1))
    same [] = refl
    same (x ∷ octets) = go (eqb x 0 || ltb 64 x)
      where
        go : (b : Bool) → cond b (Err BadOpcode) (name_of_length x octets)
            ≡ (entry_at BadOpcode (cond (not b) (Some x) None) octets
            >>= (λ n. name_of_length n.0 n.1))
        go true = refl
        go false = refl

pub point-lawful : (version : Version)
    → Lawful left Empty (Is point_octets HasName) Never (point_at version)
unfolding point_at
point-lawful version =
    lawful-so (whole-then _ (type-lawful version) (λ t. whole-then _ access-lawful
    (λ w. whole-then _ name-lawful (λ n. lawful-ok))))
    (λ octets r fits d. (
    let w = d.later in
    let n = w.later in
    record {
      parts = rw (
        d.parts,
        d.first.parts,
        w.parts,
        w.first.parts,
        n.parts,
        n.first.parts,
        n.later.0,
        n.later.1,
        append-nil n.what,
      ) refl;
      good = rw n.later.1 n.first.good;
    }))
    (λ octets n. n)
