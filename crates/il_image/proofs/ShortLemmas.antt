-- An initial value that is cut short: others complete it, or no value begins so.
use Rattle.std.proofs.lemmas.Grind.{common_steps}
use Rattle.std.proofs.Common.{◌≡◌, ℕ, suc, ◌<◌, ◌≤◌, Bool, true, false, cond, ltb, List, [], ◌∷◌, ◌++◌, length, take, drop, Option, Some, None, refl, sym, ap, ◌∙◌, arith, append-nil, inl, inr}
use Rattle.std.specs.Prelude.{Ok, Err, Result, ◌⊎◌}
use Rattle.std.specs.Int.{cast_signed, from_be_bytes}
use Rattle.std.proofs.lemmas.Bool.{ltb-true}
use Rattle.std.proofs.lemmas.List.{length-append}
use Rattle.bay_base.specs.Results.{◌>>=◌}
use Rattle.bay_base.specs.declared.types.ElementaryType.{ElementaryType}
use Rattle.bay_base.specs.declared.types.ElementaryType.TheVariants as elementary
use Rattle.il_image.specs.declared.fault.ImageFault.{ImageFault}
use Rattle.il_image.specs.declared.fault.ImageFault.TheVariants.{Truncated}
use Rattle.il_image.specs.declared.opcode.Version.{Version}
use Rattle.il_image.specs.declared.opcode.Version.TheVariants.{One, Two}
use Rattle.il_image.specs.declared.value.Value.{Value}
use Rattle.il_image.specs.declared.write.Size.{Size}
use Rattle.il_image.specs.Cuts.{IsShortOf, IsValueOf}
use Rattle.il_image.specs.Decoding.{type_of_octet, variable_at}
use Rattle.il_image.specs.Images.{IsValue, value_size, variable_octets}
use Rattle.il_image.specs.Octets.{AreOctets, bits_of_size, octet_count}
use Rattle.il_image.specs.Reading.{Read, known_value, value_at}
use Rattle.il_image.specs.Values.{default_value, value_of}
use Rattle.il_image.proofs.FewLemmas.{IsAll, all-told, few-told}
use Rattle.il_image.proofs.InstrLemmas.{value-sound}
use Rattle.il_image.proofs.FormatLemmas.{type-lawful}
use Rattle.il_image.proofs.PieceLemmas.{Empty, Never, join-octets, EndsIn, Is, Lawful, Sound, are-more, copies, copies-fit, copies-size, err-same, left, sound-so, sound-then, spelled-first}

-- an initial value that is read is spelled, and is one of its type
variable-sound : (version : Version)
    → Sound left Empty (Is (variable_octets version) IsValue) (variable_at version)
unfolding variable_at
variable-sound version =
    sound-so (sound-then _ (type-lawful version).sound (λ t. value-sound (value_size version) t))
    (λ octets r fits d. record {
      parts = rw (d.parts, d.first.parts, d.later.parts, d.later.type) refl;
      good = rw (d.later.type, d.later.is) refl;
    })

known-never : {A : Type 0} (o : Option A) (octets : List ℕ)
    → ◌≡◌ {A = Read A} (known_value o >>= (λ (t : A). Ok (t, octets))) (Err Truncated) → ⊥
known-never None octets e = absurd cc
known-never (Some x) octets e = absurd cc

-- what is mapped, and a number that is taken
pub err-mapped : {A B : Type 0} (r : Result A ImageFault) (h : A → B)
    → ◌≡◌ {A = Result B ImageFault} (r >>= (λ x. Ok (h x))) (Err Truncated) → r ≡ Err Truncated
err-mapped (Ok x) h e = absurd cc
err-mapped {A} {B} (Err f) h e = ap (λ (g : ImageFault). Err g) (err-same {A = B} f Truncated e)

taken-short : {A B : Type 0} (n : ℕ) (octets : List ℕ) (q : A) (f : A → Result B ImageFault)
    → (f q ≡ Err Truncated → ⊥)
    → (◌>>=◌ {A = A} (cond (ltb (length octets) n) (Err Truncated) (Ok q)) f) ≡ Err Truncated
    → length octets < n
taken-short {A} {B} n octets q f never e = go (ltb (length octets) n) refl e
  where
    go : (b : Bool) → ltb (length octets) n ≡ b
        → (◌>>=◌ {A = A} (cond b (Err Truncated) (Ok q)) f) ≡ Err Truncated → length octets < n
    go true is e = ltb-true (length octets) n is
    go false is e = absurd (never e)

value-few : (s : Size) (t : ElementaryType) (octets : List ℕ)
    → value_at s t octets ≡ Err Truncated → length octets < octet_count s
value-few s t octets =
    let number = cast_signed (bits_of_size s) (from_be_bytes (bits_of_size s) octets) in
    taken-short (octet_count s) octets (number, drop (octet_count s) octets)
    (λ z. known_value (value_of t z.0) >>= (λ (v : Value). Ok (v, z.1)))
    (known-never (value_of t number) (drop (octet_count s) octets))

-- ---- more octets, which are enough

-- Longer octets are read.
pub record Grown {A : Type 0} (f : List ℕ → Read A) (octets : List ℕ) : Type 0 where
  pub more : List ℕ
  pub what : A
  pub fits : AreOctets more
  pub is : f more ≡ Ok (what, [])
  pub fewer : length octets < length more

-- what is cut short is read, where more octets stand behind it
pub grown : {A : Type 0} {S : List ℕ → A × List ℕ → Type 0} {f : List ℕ → Read A}
    → Lawful left Empty S Never f → (octets : List ℕ) → AreOctets octets
    → f octets ≡ Err Truncated → Grown f octets
grown {A} {S} {f} l octets fits e = elim (l.short octets fits e) [
  | inl a ↦ record {
    more = octets ++ a.more;
    what = a.what.0;
    fits = join-octets octets a.more fits a.fits;
    is = a.is ∙ ap (λ (ys : List ℕ). Ok (a.what.0, ys)) a.ends;
    fewer = some a.more a.what a.is;
  }
  | inr n ↦ absurd n
]
  where
    some : (more : List ℕ) (r : A × List ℕ) → f (octets ++ more) ≡ Ok r
        → length octets < length (octets ++ more)
    some [] r is = absurd (let no : ◌≡◌ {A = Read A} (Err Truncated) (Ok r) =
        sym e ∙ ap f (sym (append-nil octets)) ∙ is in cc)
    some (x ∷ more) r is = omega (arith, length-append octets (x ∷ more))

zero-value : (s : Size) (t : ElementaryType)
    → value_at s t (copies 0 (octet_count s)) ≡ Ok (default_value t, [])
unfolding copies
zero-value s t = grind (arith, common_steps)

pub grown-value : (s : Size) (t : ElementaryType) (octets : List ℕ)
    → value_at s t octets ≡ Err Truncated → Grown (value_at s t) octets
grown-value s t octets e =
    let few = value-few s t octets e in
    record {
      more = copies 0 (octet_count s);
      what = default_value t;
      fits = copies-fit 0 (octet_count s) (omega arith);
      is = zero-value s t;
      fewer = omega (arith, copies-size 0 (octet_count s));
    }

-- what is read of longer octets begins so
pub begins : {A : Type 0} {spell : A → List ℕ} {P : A → Type 0} {item : List ℕ → Read A}
    → Sound left Empty (Is spell P) item → (x : ℕ) (octets more : List ℕ) (v : A) → x < 256
    → AreOctets more → item (x ∷ more) ≡ Ok (v, []) → length octets < length more
    → (v : A) × (item (spell v) ≡ Ok (v, [])) × IsShortOf (x ∷ octets) (spell v)
begins {spell = spell} {item = item} s x octets more v small fits is fewer =
    let same : x ∷ more ≡ spell v =
    (spelled-first s (x ∷ more) v [] (are-more x more small fits) is).1 ∙ append-nil (spell v) in
    let size : suc (length more) ≡ length (spell v) = ap length same in
    (v, ap item (sym same) ∙ is, record { first = ap (take 1) same; fewer = omega arith })

-- ---- initial values

-- A value of the version has the part's first octet, and more octets.
abbrev BeginsValue : Version → List ℕ → Type 0
BeginsValue version part =
    (v : Value) × IsValueOf version v × IsShortOf part (variable_octets version v)

-- A part of an initial value that no value has.
pub record NoValue (version : Version) (part : List ℕ) : Type 0 where
  pub begins : BeginsValue version part
  pub none : (v : Value) (rest : List ℕ) → AreOctets rest → IsValueOf version v
      → part ++ rest ≡ variable_octets version v → ⊥

value-begins : (version : Version) (x : ℕ) (octets : List ℕ) → x < 256
    → variable_at version (x ∷ octets) ≡ Err Truncated → BeginsValue version (x ∷ octets)
unfolding variable_at
value-begins version x octets small e = typed (type_of_octet version x) refl e
  where
    typed : (o : Option ElementaryType) → type_of_octet version x ≡ o → ◌≡◌ {A = Read Value}
        (◌>>=◌ {A = ElementaryType × List ℕ}
        (known_value o >>= (λ (t : ElementaryType). Ok (t, octets)))
        (λ t. value_at (value_size version) t.0 t.1)) (Err Truncated)
        → BeginsValue version (x ∷ octets)
    typed None is e = absurd cc
    typed (Some t) is e =
        let g = grown-value (value_size version) t octets e in
        begins (variable-sound version) x octets g.more g.what small g.fits (rw is g.is) g.fewer

variable-start : (version : Version) → EndsIn (variable_at version) Empty []
unfolding variable_at
variable-start version =
    let n = octet_count (value_size version) in
    record {
      more = 1 ∷ copies 0 n;
      fits = are-more 1 (copies 0 n) (omega arith) (copies-fit 0 n (omega arith));
      what = (default_value elementary.Bool, []);
      is = zero-value (value_size version) elementary.Bool;
      ends = refl;
    }

length-variable : (version : Version) (v : Value) → length (variable_octets version v) ≤ 9
length-variable One v = omega arith
length-variable Two v = omega arith

variable-short : (version : Version) (octets : List ℕ) → AreOctets octets
    → variable_at version octets ≡ Err Truncated
    → EndsIn (variable_at version) Empty octets ⊎ NoValue version octets
variable-short version [] fits e = inl (variable-start version)
variable-short version (x ∷ octets) fits e = elim (few-told
    (λ more. IsAll (variable_at version (x ∷ octets ++ more)))
    (λ more. all-told (variable_at version (x ∷ octets ++ more))) 9) [
      | inl f ↦ inl (record {
        more = f.octets;
        fits = f.fits;
        what = (f.is.0, []);
        is = f.is.1;
        ends = refl;
      })
      | inr none ↦ inr (record {
        begins = value-begins version x octets (fits 0) e;
        none = λ v rest good is parts. none (record {
          octets = rest;
          fits = good;
          few = (let a = length-variable version v in let b : length (x ∷ octets ++ rest)
              ≡ length (variable_octets version v) = ap length parts in
              omega (arith, length-append octets rest));
          is = (v, ap (variable_at version) parts ∙ is);
        });
      })
    ]

pub variable-lawful : (version : Version)
    → Lawful left Empty (Is (variable_octets version) IsValue) (NoValue version)
    (variable_at version)
variable-lawful version = record {
  sound = variable-sound version;
  start = variable-start version;
  short = variable-short version;
}
