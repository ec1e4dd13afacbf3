-- Reading from the left reads exactly what is spelled.
use Rattle.std.proofs.Common.{◌≡◌, ℕ, ◌+◌, ◌-◌, ◌<◌, ◌≤◌, Bool, true, false, cond, eqb, ltb, List, [], ◌∷◌, ◌++◌, length, get_or, take, drop, Result, Ok, Err, refl, sym, ap, subst, ◌∙◌, append_assoc, arith, ◌⊎◌, inl, inr}
use Rattle.std.specs.Prelude.{IfOk, IsOkAnd}
use Rattle.std.proofs.lemmas.Bool.{ltb-true, ltb-false, lt-ltb, le-ltb, eqb-true, eqb-false, eq-eqb, ne_eqb}
use Rattle.std.proofs.lemmas.List.{take_at, drop_at, take-append-drop, length-append, length-take, append_cancel_right}
use Rattle.bay_base.specs.Results.{◌>>=◌, Exact}
use Rattle.bay_ber.specs.declared.fault.BerFault.{BerFault}
use Rattle.bay_ber.specs.declared.fault.BerFault.TheVariants.{Truncated, Indefinite, LengthTooLong, TagTooLarge, BadContent}
use Rattle.bay_ber.specs.declared.tag.Class.{Class}
use Rattle.bay_ber.specs.declared.tag.Tag.{Tag}
use Rattle.bay_ber.specs.declared.tlv.Tlv.{Tlv}
use Rattle.bay_ber.specs.Octets.{number_of}
use Rattle.bay_ber.specs.Spelling.{identifier, IsTag, IsLength, Spells}
use Rattle.bay_ber.specs.Reading.{TlvData, tlv_data, BeginsWithTlv, HasLargeTag, HasLengthOctet, IsIndefinite, HasLongLength, IsTruncated, class_of, is_constructed, low_bits, two_octet_tag, tag_at, length_at, tlv_at}
use Rattle.bay_ber.proofs.TagLemmas.{class_of-identifier, is_constructed-identifier, low_bits-identifier, identifier-of}

-- each number is an octet
abbrev pub IsBytes : List ℕ → Type 0
IsBytes octets = (i : ℕ) → get_or octets i 0 < 256

-- the value of a step that did not fail
pub bind-ok : {A B E : Type 0} (r : Result A E) (f : A → Result B E) (y : B) → (r >>= f) ≡ Ok y
    → (x : A) × (r ≡ Ok x) × (f x ≡ Ok y)
bind-ok (Ok x) f y e = (x, refl, e)
bind-ok (Err d) f y e = absurd cc

-- where a chain of steps failed
pub bind-err : {A B E : Type 0} (r : Result A E) (f : A → Result B E) (d : E) → (r >>= f) ≡ Err d
    → (r ≡ Err d) ⊎ ((x : A) × (r ≡ Ok x) × (f x ≡ Err d))
bind-err (Ok x) f d e = inr (x, refl, e)
bind-err (Err c) f d e = inl (let same : c ≡ d = cc in ap Err same)

-- which side of a test was taken
pub chosen : {A : Type 0} (b : Bool) (x y z : A) → cond b x y ≡ z
    → ((b ≡ true) × (x ≡ z)) ⊎ ((b ≡ false) × (y ≡ z))
chosen true x y z e = inl (refl, e)
chosen false x y z e = inr (refl, e)

abbrev pub done : {A : Type 0} → A → Result A BerFault
done x = Ok x

pub ok-is : {A : Type 0} (x y : A) → done x ≡ done y → x ≡ y
ok-is x y e = cc

abbrev pub failed : (A : Type 0) → BerFault → Result A BerFault
failed A d = Err d

err-is : {A : Type 0} (c d : BerFault) → failed A c ≡ failed A d → c ≡ d
err-is c d e = cc

pub not-err : {A : Type 0} (x : A) (d : BerFault) → done x ≡ failed A d → ⊥
not-err x d e = cc

-- ---- the tag

abbrev tag_of : Class → Bool → ℕ → Tag
tag_of class constructed number =
    record { class = class; constructed = constructed; number = number }

-- a tag at the front of octets
pub record TagBegins (octets : List ℕ) (t : Tag) (rest : List ℕ) : Type 0 where
  pub tag : List ℕ
  pub is_tag : IsTag tag t
  pub parts : octets ≡ tag ++ rest

second-takes : (first : ℕ) (octets : List ℕ) (x : Tag × List ℕ) → first < 256 → low_bits first ≡ 31
    → two_octet_tag first octets ≡ Ok x → TagBegins (first ∷ octets) x.0 x.1
second-takes first [] x below low e = absurd cc
second-takes first (second ∷ octets) x below low e =
    elim (chosen (ltb second 128)
    (Ok (tag_of (class_of first) (is_constructed first) second, octets)) (Err TagTooLarge)
    (Ok x) e) [
      | inl here ↦
          let made : Tag × List ℕ =
          (tag_of (class_of first) (is_constructed first) second, octets) in
          let whole : first ≡ identifier (class_of first) (is_constructed first) 31 =
          identifier-of first below
          ∙ ap (identifier (class_of first) (is_constructed first)) low in
          subst (λ (y : Tag × List ℕ). TagBegins (first ∷ second ∷ octets) y.0 y.1)
          (ok-is made x here.1)
          (record {
            tag = first ∷ second ∷ [];
            is_tag = (whole, ltb-true _ _ here.0, refl);
            parts = refl;
          })
      | inr here ↦ absurd (let e : Err TagTooLarge ≡ Ok x = here.1 in cc)
    ]

pub tag-takes : (octets : List ℕ) (x : Tag × List ℕ) → IsBytes octets → tag_at octets ≡ Ok x
    → TagBegins octets x.0 x.1
unfolding tag_at
tag-takes [] x fits e = absurd cc
tag-takes (first ∷ octets) x fits e =
    elim (chosen (eqb (low_bits first) 31) (two_octet_tag first octets)
    (Ok (tag_of (class_of first) (is_constructed first) (low_bits first), octets)) (Ok x) e) [
      | inl here ↦ second-takes first octets x (fits 0) (eqb-true _ _ here.0) here.1
      | inr here ↦
          let made : Tag × List ℕ =
          (tag_of (class_of first) (is_constructed first) (low_bits first), octets) in
          let other : (low_bits first ≡ 31) → ⊥ = eqb-false _ _ here.0 in
          let low : low_bits first < 31 = omega arith in
          subst (λ (y : Tag × List ℕ). TagBegins (first ∷ octets) y.0 y.1) (ok-is made x here.1)
          (record {
            tag = first ∷ [];
            is_tag = (low, identifier-of first (fits 0));
            parts = refl;
          })
    ]

tag-same : (first : ℕ) (class : Class) (constructed : Bool) (low number : ℕ) → low < 32
    → first ≡ identifier class constructed low
    → tag_of (class_of first) (is_constructed first) number ≡ tag_of class constructed number
tag-same first class constructed low number below is =
    rw (
      is,
      class_of-identifier class constructed low below,
      is_constructed-identifier class constructed low below,
    ) refl

pub tag-again : (tag : List ℕ) (t : Tag) (rest : List ℕ) → IsTag tag t
    → tag_at (tag ++ rest) ≡ Ok (t, rest)
unfolding tag_at
tag-again (first ∷ []) t rest is =
    let low : low_bits first ≡ t.number =
    rw is.1 (low_bits-identifier t.class t.constructed t.number (omega (arith, is.0))) in
    let test : eqb (low_bits first) 31 ≡ false = ne_eqb _ _ (λ e. omega (arith, is.0, low, e)) in
    rw (
      test,
      low,
      tag-same first t.class t.constructed t.number t.number (omega (arith, is.0))
          is.1,
    ) refl
tag-again (first ∷ second ∷ []) t rest is =
    let low : low_bits first ≡ 31 =
    rw is.0 (low_bits-identifier t.class t.constructed 31 (omega arith)) in
    let test : eqb (low_bits first) 31 ≡ true = eq-eqb _ _ low in
    rw (
      test,
      lt-ltb second 128 is.1,
      is.2,
      tag-same first t.class t.constructed 31 second (omega arith) is.0,
    ) refl
tag-again tag t rest is = absurd is

-- ---- the length

pub record LengthBegins (octets : List ℕ) (n : ℕ) (rest : List ℕ) : Type 0 where
  pub len : List ℕ
  pub is_length : IsLength len n
  pub parts : octets ≡ len ++ rest

-- a length of several octets, behind its first
pub many-takes : (first : ℕ) (front rest : List ℕ) → length front + 128 ≡ first → 0 < length front
    → length front ≤ 4 → LengthBegins (first ∷ (front ++ rest)) (number_of front) rest
many-takes first [] rest is some few = absurd (omega arith)
many-takes first (second ∷ octets) rest is some few =
    record { len = first ∷ second ∷ octets; is_length = (omega arith, few, refl); parts = refl }

pub length-takes : (octets : List ℕ) (x : ℕ × List ℕ) → length_at octets ≡ Ok x
    → LengthBegins octets x.0 x.1
unfolding length_at
length-takes [] x e = absurd cc
length-takes (first ∷ octets) x e =
    let k = first - 128 in
    let long : Result (ℕ × List ℕ) BerFault =
    cond (ltb (length octets) k) (Err Truncated) (Ok (number_of (take k octets), drop k octets))
    in
    elim (chosen (ltb first 128) (Ok (first, octets))
    (cond (eqb first 128) (Err Indefinite) (cond (ltb 132 first) (Err LengthTooLong) long))
    (Ok x) e) [
      | inl a ↦ subst (λ (y : ℕ × List ℕ). LengthBegins (first ∷ octets) y.0 y.1)
          (ok-is (first, octets) x a.1)
          (record { len = first ∷ []; is_length = (ltb-true _ _ a.0, refl); parts = refl })
      | inr a ↦ elim (chosen (eqb first 128) (Err Indefinite)
          (cond (ltb 132 first) (Err LengthTooLong) long) (Ok x) a.1) [
            | inl b ↦ absurd (let e : Err Indefinite ≡ Ok x = b.1 in cc)
            | inr b ↦ elim (chosen (ltb 132 first) (Err LengthTooLong) long (Ok x) b.1) [
              | inl d ↦ absurd (let e : Err LengthTooLong ≡ Ok x = d.1 in cc)
              | inr d ↦ elim (chosen (ltb (length octets) k) (Err Truncated)
                  (Ok (number_of (take k octets), drop k octets)) (Ok x) d.1) [
                    | inl f ↦ absurd (let e : Err Truncated ≡ Ok x = f.1 in cc)
                    | inr f ↦
                        let not_first : (first ≡ 128) → ⊥ = eqb-false _ _ b.0 in
                        let above : 128 ≤ first = ltb-false _ _ a.0 in
                        let few : first ≤ 132 = ltb-false _ _ d.0 in
                        let room : k ≤ length octets = ltb-false _ _ f.0 in
                        let size : length (take k octets) ≡ k =
                        omega (arith, length-take k octets) in
                        let found =
                        many-takes first (take k octets) (drop k octets) (omega arith) (omega arith)
                        (omega arith) in
                        subst (λ (y : ℕ × List ℕ). LengthBegins (first ∷ octets) y.0 y.1)
                        (ok-is (number_of (take k octets), drop k octets) x f.1)
                        (subst (λ (ys : List ℕ). LengthBegins (first ∷ ys)
                        (number_of (take k octets))
                        (drop k octets)) (take-append-drop k octets) found)
                  ]
            ]
          ]
    ]

pub length-again : (len : List ℕ) (n : ℕ) (rest : List ℕ) → IsLength len n
    → length_at (len ++ rest) ≡ Ok (n, rest)
unfolding length_at
length-again [] n rest is = absurd is
length-again (first ∷ []) n rest is = rw (lt-ltb first 128 is.0, is.1) refl
length-again (first ∷ second ∷ octets) n rest is =
    let front : List ℕ = second ∷ octets in
    let k : first - 128 ≡ length front = omega (arith, is.0) in
    let size : length (front ++ rest) ≡ length front + length rest = length-append front rest in
    rw (
      le-ltb first 128 (omega (arith, is.0)),
      ne_eqb first 128 (λ e. omega (arith, is.0, e)),
      le-ltb 132 first (omega (arith, is.0, is.1)),
      k,
      le-ltb (length (front ++ rest)) (length front) (omega arith),
      take_at front rest (length front) refl,
      drop_at front rest (length front) refl,
      is.2,
    ) refl

-- ---- the value

abbrev pub with_length : Tag → ℕ × List ℕ → Result TlvData BerFault
with_length tag n =
    cond (ltb (length n.1) n.0) (Err Truncated)
    (Ok (record { tag = tag; content = take n.0 n.1; rest = drop n.0 n.1 }))

abbrev pub with_tag : Tag × List ℕ → Result TlvData BerFault
with_tag tag = length_at tag.1 >>= with_length tag.0

-- the parts of octets, taken off one after another
regroup : (octets tag behind len after content rest : List ℕ) → octets ≡ tag ++ behind
    → behind ≡ len ++ after → after ≡ content ++ rest → octets ≡ (tag ++ (len ++ content)) ++ rest
regroup octets tag behind len after content rest p q r = rw (p, q, r) (simp append_assoc)

pub tlv-takes : (octets : List ℕ) (r : TlvData) → IsBytes octets → tlv_at octets ≡ Ok r
    → BeginsWithTlv octets r
unfolding tlv_at
tlv-takes octets r fits e =
    let a = bind-ok (tag_at octets) with_tag r e in
    let b = bind-ok (length_at a.0.1) (with_length a.0.0) r a.2 in
    let t = a.0.0 in
    let n = b.0.0 in
    let behind = b.0.1 in
    let tag = tag-takes octets a.0 fits a.1 in
    let len = length-takes a.0.1 b.0 b.1 in
    let made : TlvData = record { tag = t; content = take n behind; rest = drop n behind } in
    elim (chosen (ltb (length behind) n) (Err Truncated) (Ok made) (Ok r) b.2) [
      | inl short ↦ absurd (let e : Err Truncated ≡ Ok r = short.1 in cc)
      | inr here ↦
          let room : n ≤ length behind = ltb-false _ _ here.0 in
          let size : length (take n behind) ≡ n = omega (arith, length-take n behind) in
          let front : List ℕ = tag.tag ++ (len.len ++ take n behind) in
          let spelled : Spells front t (take n behind) =
          record {
            front = tag.tag;
            len = len.len;
            is_tag = tag.is_tag;
            is_length = subst (λ (k : ℕ). IsLength len.len k) (sym size) len.is_length;
            parts = refl;
          } in
          let cut : take n behind ++ drop n behind ≡ behind = take-append-drop n behind in
          let parts : octets ≡ front ++ drop n behind =
          regroup octets tag.tag a.0.1 len.len behind (take n behind) (drop n behind) tag.parts
          len.parts (sym cut) in
          subst (BeginsWithTlv octets) (ok-is made r here.1)
          (record { front = front; spelled = spelled; parts = parts })
    ]

pub tlv-again : (octets : List ℕ) (r : TlvData) → BeginsWithTlv octets r → tlv_at octets ≡ Ok r
unfolding tlv_at
tlv-again octets r begins =
    let s = begins.spelled in
    let parts : octets ≡ s.front ++ (s.len ++ (r.content ++ r.rest)) =
    begins.parts ∙ ap (λ (xs : List ℕ). xs ++ r.rest) s.parts ∙ simp append_assoc in
    let room : ltb (length (r.content ++ r.rest)) (length r.content) ≡ false =
    le-ltb _ _ (omega (arith, length-append r.content r.rest)) in
    rw (
      parts,
      tag-again s.front r.tag (s.len ++ (r.content ++ r.rest)) s.is_tag,
      length-again s.len (length r.content) (r.content ++ r.rest) s.is_length,
      room,
      take_at r.content r.rest (length r.content) refl,
      drop_at r.content r.rest (length r.content) refl,
    ) refl

-- ---- the faults

-- what holds where reading fails; of a truncated input nothing is said here
abbrev pub FaultHolds : BerFault → List ℕ → Type 0
FaultHolds Truncated octets = Unit {0}
FaultHolds Indefinite octets = IsIndefinite octets
FaultHolds LengthTooLong octets = HasLongLength octets
FaultHolds TagTooLarge octets = HasLargeTag octets
FaultHolds BadContent octets = ⊥

second-fault : (first : ℕ) (octets : List ℕ) (d : BerFault) → low_bits first ≡ 31
    → two_octet_tag first octets ≡ Err d → FaultHolds d (first ∷ octets)
second-fault first [] d low e =
    subst (λ (x : BerFault). FaultHolds x (first ∷ [])) (let same : Truncated ≡ d = cc in same) tt
second-fault first (second ∷ octets) d low e =
    elim (chosen (ltb second 128)
    (Ok (tag_of (class_of first) (is_constructed first) second, octets)) (Err TagTooLarge)
    (Err d) e) [
      | inl here ↦ absurd (let e
          : Ok (tag_of (class_of first) (is_constructed first) second, octets) ≡ Err d = here.1 in
          cc)
      | inr here ↦ subst (λ (x : BerFault). FaultHolds x (first ∷ second ∷ octets))
          (err-is _ _ here.1) (low, ltb-false _ _ here.0)
    ]

tag-fault : (octets : List ℕ) (d : BerFault) → tag_at octets ≡ Err d → FaultHolds d octets
unfolding tag_at
tag-fault [] d e =
    subst (λ (x : BerFault). FaultHolds x []) (let same : Truncated ≡ d = cc in same) tt
tag-fault (first ∷ octets) d e =
    elim (chosen (eqb (low_bits first) 31) (two_octet_tag first octets)
    (Ok (tag_of (class_of first) (is_constructed first) (low_bits first), octets)) (Err d) e) [
      | inl here ↦ second-fault first octets d (eqb-true _ _ here.0) here.1
      | inr here ↦ absurd (let e
          : Ok (tag_of (class_of first) (is_constructed first) (low_bits first), octets) ≡ Err d =
          here.1 in cc)
    ]

-- what holds where a length is not read
abbrev LengthFault : BerFault → List ℕ → Type 0
LengthFault Truncated octets = Unit {0}
LengthFault Indefinite octets = (rest : List ℕ) × (octets ≡ 128 ∷ rest)
LengthFault LengthTooLong octets =
    (first : ℕ) × (132 < first) × ((rest : List ℕ) × (octets ≡ first ∷ rest))
LengthFault TagTooLarge octets = ⊥
LengthFault BadContent octets = ⊥

length-fault : (octets : List ℕ) (d : BerFault) → length_at octets ≡ Err d → LengthFault d octets
unfolding length_at
length-fault [] d e =
    subst (λ (x : BerFault). LengthFault x []) (let same : Truncated ≡ d = cc in same) tt
length-fault (first ∷ octets) d e =
    let k = first - 128 in
    let long : Result (ℕ × List ℕ) BerFault =
    cond (ltb (length octets) k) (Err Truncated) (Ok (number_of (take k octets), drop k octets))
    in
    elim (chosen (ltb first 128) (Ok (first, octets))
    (cond (eqb first 128) (Err Indefinite) (cond (ltb 132 first) (Err LengthTooLong) long))
    (Err d) e) [
      | inl a ↦ absurd (not-err (first, octets) d a.1)
      | inr a ↦ elim (chosen (eqb first 128) (Err Indefinite)
          (cond (ltb 132 first) (Err LengthTooLong) long) (Err d) a.1) [
            | inl b ↦ subst (λ (x : BerFault). LengthFault x (first ∷ octets)) (err-is _ _ b.1)
                (octets, ap (λ (f : ℕ). f ∷ octets) (eqb-true _ _ b.0))
            | inr b ↦ elim (chosen (ltb 132 first) (Err LengthTooLong) long (Err d) b.1) [
              | inl g ↦ subst (λ (x : BerFault). LengthFault x (first ∷ octets)) (err-is _ _ g.1)
                  (first, ltb-true _ _ g.0, (octets, refl))
              | inr g ↦ elim (chosen (ltb (length octets) k) (Err Truncated)
                  (Ok (number_of (take k octets), drop k octets)) (Err d) g.1) [
                    | inl h ↦ subst (λ (x : BerFault). LengthFault x (first ∷ octets))
                        (err-is _ _ h.1) tt
                    | inr h ↦ absurd (not-err (number_of (take k octets), drop k octets) d h.1)
                  ]
            ]
          ]
    ]

-- a length's fault behind a tag
behind-tag : (octets rest : List ℕ) (t : Tag) (d : BerFault) → TagBegins octets t rest
    → LengthFault d rest → FaultHolds d octets
behind-tag octets rest t Truncated tag f = tt
behind-tag octets rest t Indefinite tag f =
    record {
      tag = t;
      front = tag.tag;
      rest = f.0;
      is_tag = tag.is_tag;
      parts = tag.parts ∙ ap (λ (xs : List ℕ). tag.tag ++ xs) f.1;
    }
behind-tag octets rest t LengthTooLong tag f = (
  f.0,
  f.1,
  record {
    tag = t;
    front = tag.tag;
    rest = f.2.0;
    is_tag = tag.is_tag;
    parts = tag.parts ∙ ap (λ (xs : List ℕ). tag.tag ++ xs) f.2.1;
  },
)
behind-tag octets rest t TagTooLarge tag f = absurd f
behind-tag octets rest t BadContent tag f = absurd f

pub tlv-fault : (octets : List ℕ) (d : BerFault) → IsBytes octets → tlv_at octets ≡ Err d
    → FaultHolds d octets
unfolding tlv_at
tlv-fault octets d fits e =
    elim (bind-err (tag_at octets) with_tag d e) [
      | inl tag ↦ tag-fault octets d tag
      | inr a ↦
          let tag = tag-takes octets a.0 fits a.1 in
          elim (bind-err (length_at a.0.1) (with_length a.0.0) d a.2) [
            | inl len ↦ behind-tag octets a.0.1 a.0.0 d tag (length-fault a.0.1 d len)
            | inr b ↦
                let n = b.0.0 in
                let behind = b.0.1 in
                let t = a.0.0 in
                let made : TlvData =
                record { tag = t; content = take n behind; rest = drop n behind } in
                elim (chosen (ltb (length behind) n) (Err Truncated) (Ok made) (Err d) b.2) [
                  | inl short ↦ subst (λ (x : BerFault). FaultHolds x octets) (err-is _ _ short.1)
                      tt
                  | inr here ↦ absurd (not-err made d here.1)
                ]
          ]
    ]

pub large-tag-again : (octets : List ℕ) → HasLargeTag octets → tlv_at octets ≡ Err TagTooLarge
unfolding tlv_at tag_at
large-tag-again (first ∷ second ∷ octets) h = rw (eq-eqb _ _ h.0, le-ltb second 128 h.1) refl
large-tag-again octets h = absurd h

length-octet-again : (octets : List ℕ) (octet : ℕ) (d : BerFault) → HasLengthOctet octets octet
    → ((rest : List ℕ) → length_at (octet ∷ rest) ≡ Err d) → tlv_at octets ≡ Err d
unfolding tlv_at
length-octet-again octets octet d h refused =
    rw (h.parts, tag-again h.front h.tag (octet ∷ h.rest) h.is_tag, refused h.rest) refl

long-refused : (octet : ℕ) (rest : List ℕ) → 132 < octet
    → length_at (octet ∷ rest) ≡ Err LengthTooLong
unfolding length_at
long-refused octet rest above =
    rw (le-ltb octet 128 (omega arith), ne_eqb octet 128 (λ e. omega arith), lt-ltb 132 octet above)
    refl

indefinite-refused : (rest : List ℕ) → length_at (128 ∷ rest) ≡ Err Indefinite
unfolding length_at
indefinite-refused rest = refl

pub indefinite-again : (octets : List ℕ) → IsIndefinite octets → tlv_at octets ≡ Err Indefinite
indefinite-again octets h = length-octet-again octets 128 Indefinite h indefinite-refused

pub long-length-again : (octets : List ℕ) → HasLongLength octets → tlv_at octets ≡ Err LengthTooLong
long-length-again octets h =
    length-octet-again octets h.0 LengthTooLong h.2 (λ rest. long-refused h.0 rest h.1)

-- no two answers
two-faults : (c d : BerFault) (x : Result TlvData BerFault) → x ≡ Err c → x ≡ Err d → c ≡ d
two-faults c d x e f = err-is c d (sym e ∙ f)

pub truncated-holds : (octets : List ℕ) → tlv_at octets ≡ Err Truncated → IsTruncated octets
truncated-holds octets e = record {
  no_large_tag =
      λ h. absurd (let same : Truncated ≡ TagTooLarge =
      two-faults _ _ _ e (large-tag-again octets h) in cc);
  not_indefinite =
      λ h. absurd (let same : Truncated ≡ Indefinite =
      two-faults _ _ _ e (indefinite-again octets h) in cc);
  no_long_length =
      λ h. absurd (let same : Truncated ≡ LengthTooLong =
      two-faults _ _ _ e (long-length-again octets h) in cc);
  not_spelled = λ h. not-err h.0 Truncated (sym (tlv-again octets h.0 h.1) ∙ e);
}

truncated-answer : (octets : List ℕ) (x : Result TlvData BerFault) → IsBytes octets
    → IsTruncated octets → tlv_at octets ≡ x → x ≡ Err Truncated
truncated-answer octets (Ok r) fits h e = absurd (h.not_spelled (r, tlv-takes octets r fits e))
truncated-answer octets (Err Truncated) fits h e = refl
truncated-answer octets (Err Indefinite) fits h e =
    absurd (h.not_indefinite (tlv-fault octets Indefinite fits e))
truncated-answer octets (Err LengthTooLong) fits h e =
    absurd (h.no_long_length (tlv-fault octets LengthTooLong fits e))
truncated-answer octets (Err TagTooLarge) fits h e =
    absurd (h.no_large_tag (tlv-fault octets TagTooLarge fits e))
truncated-answer octets (Err BadContent) fits h e = absurd (tlv-fault octets BadContent fits e)

pub truncated-again : (octets : List ℕ) → IsBytes octets → IsTruncated octets
    → tlv_at octets ≡ Err Truncated
truncated-again octets fits h = truncated-answer octets (tlv_at octets) fits h refl

-- ---- what a function answers that reads so

pub is_ok : (octets : List ℕ) (result : Result Tlv BerFault) → IsBytes octets
    → Exact tlv_data result (tlv_at octets)
    → IfOk result (λ tlv. BeginsWithTlv octets (tlv_data tlv))
is_ok octets (Ok tlv) fits given = tlv-takes octets (tlv_data tlv) fits given
is_ok octets (Err d) fits given = tt

pub is-only : (octets : List ℕ) (result : Result Tlv BerFault) (r : TlvData)
    → Exact tlv_data result (tlv_at octets) → BeginsWithTlv octets r
    → IsOkAnd result (λ tlv. tlv_data tlv ≡ r)
is-only octets (Ok tlv) r given begins =
    ok-is (tlv_data tlv) r (sym given ∙ tlv-again octets r begins)
is-only octets (Err d) r given begins =
    absurd (not-err r d (sym (tlv-again octets r begins) ∙ given))

pub is_err : (octets : List ℕ) (result : Result Tlv BerFault) (d : BerFault)
    → Exact tlv_data result (tlv_at octets) → result ≡ Err d → tlv_at octets ≡ Err d
is_err octets (Ok tlv) d given e = absurd (not-err tlv d e)
is_err octets (Err c) d given e = given ∙ ap Err (err-is c d e)

pub err-is-answer : (octets : List ℕ) (result : Result Tlv BerFault) (d : BerFault)
    → Exact tlv_data result (tlv_at octets) → tlv_at octets ≡ Err d → result ≡ Err d
err-is-answer octets (Ok tlv) d given e = absurd (not-err (tlv_data tlv) d (sym given ∙ e))
err-is-answer octets (Err c) d given e = ap Err (err-is c d (sym given ∙ e))

-- ---- the law

-- at most one prefix of an input is spelled, in one way
pub one_reading : (octets : List ℕ) (r s : TlvData) → BeginsWithTlv octets r
    → BeginsWithTlv octets s → r ≡ s
one_reading octets r s a b = ok-is r s (sym (tlv-again octets r a) ∙ tlv-again octets s b)

pub one-front : (octets : List ℕ) (r s : TlvData) (a : BeginsWithTlv octets r)
    (b : BeginsWithTlv octets s)
    → a.front ≡ b.front
one-front octets r s a b =
    let same : r.rest ≡ s.rest = ap (λ (x : TlvData). x.rest) (one_reading octets r s a b) in
    append_cancel_right a.front b.front s.rest
    (ap (λ (xs : List ℕ). a.front ++ xs) (sym same) ∙ sym a.parts ∙ b.parts)

pub tag-some : (tag : List ℕ) (t : Tag) → IsTag tag t → 0 < length tag
tag-some [] t is = absurd is
tag-some (first ∷ octets) t is = omega arith

len-some : (len : List ℕ) (n : ℕ) → IsLength len n → 0 < length len
len-some [] n is = absurd is
len-some (first ∷ octets) n is = omega arith

-- a tag and a length take two octets at least
begins-shorter : (octets : List ℕ) (r : TlvData) → BeginsWithTlv octets r
    → length r.content + length r.rest + 2 ≤ length octets
begins-shorter octets r begins =
    let s = begins.spelled in
    let whole : length octets ≡ length s.front + (length s.len + length r.content) + length r.rest =
    rw (begins.parts, s.parts) (simp length-append) in
    omega (arith, tag-some s.front r.tag s.is_tag, len-some s.len (length r.content) s.is_length)

pub is-shorter : (octets : List ℕ) (result : Result Tlv BerFault) → IsBytes octets
    → Exact tlv_data result (tlv_at octets)
    → IfOk result (λ tlv. length tlv.content.now + length tlv.rest.now + 2 ≤ length octets)
is-shorter octets (Ok tlv) fits given =
    begins-shorter octets (tlv_data tlv) (tlv-takes octets (tlv_data tlv) fits given)
is-shorter octets (Err d) fits given = tt
