-- Readers of octets, made of smaller ones: what one says of octets it says whatever follows them,
-- unless it wants more of them; what it reads is spelled so; and what is cut short others complete,
-- or it is one of the parts that it names.
use Rattle.std.proofs.Common.{◌≡◌, ℕ, zero, suc, ◌<◌, List, [], ◌∷◌, ◌++◌, length, Option, Some, None, refl, sym, subst, ap, ◌∙◌, arith, inl, inr}
use Rattle.std.specs.Prelude.{Ok, Err, Result, ◌⊎◌, ◌↔◌}
use Rattle.std.proofs.lemmas.List.{append_assoc}
use Rattle.std.proofs.Math.Seq.{take-append_seam}
use Rattle.bay_base.specs.Results.{◌>>=◌}
use Rattle.il_image.specs.declared.fault.ImageFault.{ImageFault}
use Rattle.il_image.specs.declared.fault.ImageFault.TheVariants.{BadOpcode, Truncated}
use Rattle.il_image.specs.Octets.{AreOctets}
use Rattle.il_image.specs.Reading.{Read, known_value}
use Rattle.il_image.proofs.ReadLemmas.{behind-octets, bind-ok, ok-same, take_octets}

-- ---- what is asked of a reader

-- what more octets do to what was read: behind an item they are left, behind a whole thing there
-- are too many
abbrev pub left : {A : Type 0} → A × List ℕ → List ℕ → Read A
left r more = Ok (r.0, r.1 ++ more)

-- a whole thing has no more octets
abbrev pub spoilt : {A : Type 0} → A → List ℕ → Result A ImageFault
spoilt x [] = Ok x
spoilt x (m ∷ more) = Err Truncated

-- nothing is left behind an item, and nothing is asked of a whole thing
abbrev pub Empty : {A : Type 0} → A × List ℕ → Type 0
Empty r = r.1 ≡ []

-- whatever it is
abbrev pub Any : {B : Type 0} → B → Type 0
Any x = Unit {0}

-- Some front of the octets is all that was read.
pub record Took {R : Type 0} (on : R → List ℕ → Result R ImageFault) (Q : R → Type 0)
    (f : List ℕ → Result R ImageFault) (octets : List ℕ) (r : R) : Type 0 where
  pub front : List ℕ
  pub rest : List ℕ
  pub what : R
  pub parts : octets ≡ front ++ rest
  pub is : f front ≡ Ok what
  pub ends : Q what
  pub more : on what rest ≡ Ok r

-- It wants no more octets, or says the same with more; it reads of a front alone; and what is read
-- of all is spelled so.
pub record Sound {R : Type 0} (on : R → List ℕ → Result R ImageFault) (Q : R → Type 0)
    (S : List ℕ → R → Type 0) (f : List ℕ → Result R ImageFault) : Type 0 where
  pub steady : (octets more : List ℕ) → (f octets ≡ Err Truncated → ⊥)
      → f (octets ++ more) ≡ (f octets >>= (λ r. on r more))
  pub takes : (octets : List ℕ) (r : R) → f octets ≡ Ok r → Took on Q f octets r
  pub spelled : (octets : List ℕ) (r : R) → AreOctets octets → f octets ≡ Ok r → Q r → S octets r

-- With some octets behind, all is read.
pub record EndsIn {R : Type 0} (f : List ℕ → Result R ImageFault) (Q : R → Type 0)
    (octets : List ℕ) : Type 0 where
  pub more : List ℕ
  pub fits : AreOctets more
  pub what : R
  pub is : f (octets ++ more) ≡ Ok what
  pub ends : Q what

-- Of octets that are cut short the others are there, or they are one of the parts C.
pub record Lawful {R : Type 0} (on : R → List ℕ → Result R ImageFault) (Q : R → Type 0)
    (S : List ℕ → R → Type 0) (C : List ℕ → Type 0) (f : List ℕ → Result R ImageFault)
    : Type 0 where
  pub sound : Sound on Q S f
  pub start : EndsIn f Q []
  pub short : (octets : List ℕ) → AreOctets octets → f octets ≡ Err Truncated
      → EndsIn f Q octets ⊎ C octets

-- a part that never comes
abbrev pub Never : List ℕ → Type 0
Never octets = ⊥

-- ---- octets, and what was read

pub are-none : AreOctets []
are-none = λ i. omega arith

pub are-more : (x : ℕ) (octets : List ℕ) → x < 256 → AreOctets octets → AreOctets (x ∷ octets)
are-more x octets small fits zero = small
are-more x octets small fits (suc i) = fits i

pub join-octets : (front rest : List ℕ) → AreOctets front → AreOctets rest
    → AreOctets (front ++ rest)
join-octets [] rest fits good = good
join-octets (x ∷ front) rest fits good =
    are-more x (front ++ rest) (fits 0) (join-octets front rest (λ i. fits (suc i)) good)

pub front-octets : (front rest : List ℕ) → AreOctets (front ++ rest) → AreOctets front
front-octets front rest fits =
    subst AreOctets (take-append_seam front rest)
    (take_octets (length front) (front ++ rest) fits)

pub err-same : {A : Type 0} (e f : ImageFault) → ◌≡◌ {A = Result A ImageFault} (Err e) (Err f)
    → e ≡ f
err-same e f h = cc

-- a fault stays, unless more octets are wanted
pub err-is : {R : Type 0} {on : R → List ℕ → Result R ImageFault} {Q : R → Type 0}
    {S : List ℕ → R → Type 0} {f : List ℕ → Result R ImageFault} → Sound on Q S f
    → (octets more : List ℕ) (e : ImageFault) → f octets ≡ Err e → (e ≡ Truncated → ⊥)
    → f (octets ++ more) ≡ Err e
err-is {R} {on} s octets more e is ne =
    s.steady octets more (λ h. ne (err-same {A = R} e Truncated (sym is ∙ h)))
    ∙ ap (λ (q : Result R ImageFault). q >>= (λ r. on r more)) is

module _ {A : Type 0} {S : List ℕ → A × List ℕ → Type 0} {item : List ℕ → Read A}
    (s : Sound left Empty S item) where
  -- what was read is read with more behind it
  pub ok-is : (octets more : List ℕ) (x : A) (rest : List ℕ) → item octets ≡ Ok (x, rest)
      → item (octets ++ more) ≡ Ok (x, rest ++ more)
  ok-is octets more x rest e =
      s.steady octets more
      (λ f. (let no : ◌≡◌ {A = Read A} (Ok (x, rest)) (Err Truncated) = sym e ∙ f in cc))
      ∙ ap (λ (q : Read A). q >>= (λ (r : A × List ℕ). left r more)) e

  -- the front that was read, and what is behind it
  pub item-took : (octets : List ℕ) (x : A) (rest : List ℕ) → item octets ≡ Ok (x, rest)
      → (front : List ℕ) × (octets ≡ front ++ rest) × (item front ≡ Ok (x, []))
  item-took octets x rest e =
      let t = s.takes octets (x, rest) e in
      let same = ok-same (t.what.0, t.what.1 ++ t.rest) (x, rest) t.more in
      let behind : t.rest ≡ rest =
      ap (λ (ys : List ℕ). ys ++ t.rest) (sym t.ends) ∙ ap (λ q. q.1) same in
      let all : t.what ≡ (x, []) =
      ap (λ (y : A). (y, t.what.1)) (ap (λ q. q.0) same)
      ∙ ap (λ (ys : List ℕ). (x, ys)) t.ends in (
        t.front,
        t.parts ∙ ap (λ (ys : List ℕ). t.front ++ ys) behind,
        t.is ∙ ap (λ (q : A × List ℕ). Ok q) all,
      )

-- ---- one after the other

-- A front is spelled as the first, and the rest as what follows it.
pub record Joined {A R : Type 0} (S : List ℕ → A × List ℕ → Type 0)
    (T : A → List ℕ → R → Type 0) (octets : List ℕ) (r : R) : Type 0 where
  pub what : A
  pub front : List ℕ
  pub rest : List ℕ
  pub parts : octets ≡ front ++ rest
  pub first : S front (what, [])
  pub later : T what rest r

-- The first is whole, and what follows it is such a part.
pub record Behind {A : Type 0} (S : List ℕ → A × List ℕ → Type 0) (item : List ℕ → Read A)
    (D : A → List ℕ → Type 0) (octets : List ℕ) : Type 0 where
  pub what : A
  pub front : List ℕ
  pub rest : List ℕ
  pub parts : octets ≡ front ++ rest
  pub first : S front (what, [])
  pub reads : (more : List ℕ) → item (front ++ more) ≡ Ok (what, more)
  pub cut : D what rest

module _ {A R : Type 0} {on : R → List ℕ → Result R ImageFault} {Q : R → Type 0}
    {S : List ℕ → A × List ℕ → Type 0} {T : A → List ℕ → R → Type 0} {item : List ℕ → Read A}
    (g : A × List ℕ → Result R ImageFault) where
  pub sound-then : Sound left Empty S item → ((x : A) → Sound on Q (T x) (λ octets. g (x, octets)))
      → Sound on Q (Joined S T) (λ octets. item octets >>= g)
  sound-then s t = record {
    steady = λ octets more. go octets more (item octets) refl;
    takes = λ octets r e.
        (let a = bind-ok (item octets) g r e in
        let first = item-took s octets a.0.0 a.0.1 a.1 in
        let second = (t a.0.0).takes a.0.1 r a.2 in
        let here = ok-is s first.0 second.front a.0.0 [] first.2 in
        record {
          front = first.0 ++ second.front;
          rest = second.rest;
          what = second.what;
          parts = first.1 ∙ ap (λ (ys : List ℕ). first.0 ++ ys) second.parts
              ∙ sym (append_assoc first.0 second.front second.rest);
          is = rw here second.is;
          ends = second.ends;
          more = second.more;
        });
    spelled = λ octets r fits e ends.
        (let a = bind-ok (item octets) g r e in
        let first = item-took s octets a.0.0 a.0.1 a.1 in
        let all = subst AreOctets first.1 fits in
        record {
          what = a.0.0;
          front = first.0;
          rest = a.0.1;
          parts = first.1;
          first = s.spelled first.0 (a.0.0, []) (front-octets first.0 a.0.1 all) first.2 refl;
          later = (t a.0.0).spelled a.0.1 r (behind-octets first.0 a.0.1 all) a.2 ends;
        });
  }
    where
      go : (octets more : List ℕ) (q : Read A) → item octets ≡ q
          → (item octets >>= g ≡ Err Truncated → ⊥)
          → item (octets ++ more) >>= g ≡ ((item octets >>= g) >>= (λ r. on r more))
      go octets more (Ok (x, rest)) e ne =
          rw (ok-is s octets more x rest e, e) ((t x).steady rest more (λ f. ne (rw e f)))
      go octets more (Err f) e ne =
          rw (
            err-is s octets more f e (λ h. ne (rw e (ap (λ (x : ImageFault). Err x) h))),
            e,
          ) refl

  pub lawful-then : {C : List ℕ → Type 0} {D : A → List ℕ → Type 0} → Lawful left Empty S C item
      → ((x : A) → Lawful on Q (T x) (D x) (λ octets. g (x, octets)))
      → Lawful on Q (Joined S T) (λ octets. C octets ⊎ Behind S item D octets)
      (λ octets. item octets >>= g)
  lawful-then {C} {D} l m = record {
    sound = sound-then l.sound (λ x. (m x).sound);
    start = ends-here [] l.start;
    short = λ octets fits. go octets fits (item octets) refl;
  }
    where
      -- it is completed, and then what follows from nothing
      ends-here : (octets : List ℕ) → EndsIn item Empty octets
          → EndsIn (λ octets. item octets >>= g) Q octets
      ends-here octets a =
          let b = (m a.what.0).start in
          let first : item (octets ++ a.more) ≡ Ok (a.what.0, []) =
          a.is ∙ ap (λ (ys : List ℕ). Ok (a.what.0, ys)) a.ends in
          let here = ok-is l.sound (octets ++ a.more) b.more a.what.0 [] first in
          record {
            more = a.more ++ b.more;
            fits = join-octets a.more b.more a.fits b.fits;
            what = b.what;
            is = rw (sym (append_assoc octets a.more b.more), here) b.is;
            ends = b.ends;
          }

      go : (octets : List ℕ) → AreOctets octets → (q : Read A) → item octets ≡ q
          → item octets >>= g ≡ Err Truncated
          → EndsIn (λ octets. item octets >>= g) Q octets
          ⊎ (C octets ⊎ Behind S item D octets)
      go octets fits (Ok (x, rest)) is e =
          let took = item-took l.sound octets x rest is in
          let all = subst AreOctets took.1 fits in
          elim ((m x).short rest (behind-octets took.0 rest all) (rw is at e)) [
            | inl b ↦ inl (record {
              more = b.more;
              fits = b.fits;
              what = b.what;
              is = rw (ok-is l.sound octets b.more x rest is) b.is;
              ends = b.ends;
            })
            | inr c ↦ inr (inr (record {
              what = x;
              front = took.0;
              rest = rest;
              parts = took.1;
              first = l.sound.spelled took.0 (x, []) (front-octets took.0 rest all) took.2 refl;
              reads = λ more. ok-is l.sound took.0 more x [] took.2;
              cut = c;
            }))
          ]
      go octets fits (Err f) is e =
          let same : f ≡ Truncated = err-same {A = R} f Truncated (rw is at e) in
          elim (l.short octets fits (is ∙ ap (λ (x : ImageFault). Err x) same)) [
            | inl a ↦ inl (ends-here octets a)
            | inr c ↦ inr (inl c)
          ]

-- the same said otherwise
pub sound-so : {R : Type 0} {on : R → List ℕ → Result R ImageFault} {Q : R → Type 0}
    {S T : List ℕ → R → Type 0} {f : List ℕ → Result R ImageFault} → Sound on Q S f
    → ((octets : List ℕ) (r : R) → AreOctets octets → S octets r → T octets r) → Sound on Q T f
sound-so s as_t = record {
  steady = s.steady;
  takes = s.takes;
  spelled = λ octets r fits e ends. as_t octets r fits (s.spelled octets r fits e ends);
}

pub lawful-so : {R : Type 0} {on : R → List ℕ → Result R ImageFault} {Q : R → Type 0}
    {S T : List ℕ → R → Type 0} {C D : List ℕ → Type 0} {f : List ℕ → Result R ImageFault}
    → Lawful on Q S C f
    → ((octets : List ℕ) (r : R) → AreOctets octets → S octets r → T octets r)
    → ((octets : List ℕ) → C octets → D octets) → Lawful on Q T D f
lawful-so l as_t as_d = record {
  sound = sound-so l.sound as_t;
  start = l.start;
  short = λ octets fits e. elim (l.short octets fits e) [
    | inl a ↦ inl a
    | inr c ↦ inr (as_d octets c)
  ];
}

-- both are completed always
pub whole-then : {A R : Type 0} {on : R → List ℕ → Result R ImageFault} {Q : R → Type 0}
    {S : List ℕ → A × List ℕ → Type 0} {T : A → List ℕ → R → Type 0} {item : List ℕ → Read A}
    (g : A × List ℕ → Result R ImageFault) → Lawful left Empty S Never item
    → ((x : A) → Lawful on Q (T x) Never (λ octets. g (x, octets)))
    → Lawful on Q (Joined S T) Never (λ octets. item octets >>= g)
whole-then g l m =
    lawful-so (lawful-then g l m) (λ octets r fits d. d)
    (λ octets c. elim c [ inl n ↦ n | inr b ↦ b.cut ])

-- ---- the smallest

pub lawful-ok : {A : Type 0} {x : A}
    → Lawful left Empty (λ octets r. (octets ≡ []) × (r.0 ≡ x)) Never (λ octets. Ok (x, octets))
lawful-ok {A} {x} = record {
  sound = record {
    steady = λ octets more ne. refl;
    takes = λ octets r e. record {
      front = [];
      rest = octets;
      what = (x, []);
      parts = refl;
      is = refl;
      ends = refl;
      more = e;
    };
    spelled = λ octets r fits e ends. (
        let same = ok-same (x, octets) r e in
        (ap (λ q. q.1) same ∙ ends, ap (λ q. q.0) (sym same)));
  };
  start = record { more = []; fits = are-none; what = (x, []); is = refl; ends = refl };
  short = λ octets fits e. absurd cc;
}

pub sound-err : {R : Type 0} {on : R → List ℕ → Result R ImageFault} {Q : R → Type 0}
    {S : List ℕ → R → Type 0} (e : ImageFault) → Sound on Q S (λ octets. Err e)
sound-err e = record {
  steady = λ octets more ne. refl;
  takes = λ octets r h. absurd cc;
  spelled = λ octets r fits h ends. absurd cc;
}

pub sound-known : {A R : Type 0} {on : R → List ℕ → Result R ImageFault} {Q : R → Type 0}
    {S : A → List ℕ → R → Type 0} (o : Option A) {f : A → List ℕ → Result R ImageFault}
    → ((x : A) → Sound on Q (S x) (f x))
    → Sound on Q (λ octets r. (x : A) × (o ≡ Some x) × S x octets r)
    (λ octets. known_value o >>= (λ x. f x octets))
sound-known None s = sound-err BadOpcode
sound-known (Some x) s = sound-so (s x) (λ octets r fits d. (x, refl, d))

-- an octet of a table: what it stands for, or this fault
abbrev pub entry_at : {A : Type 0} → ImageFault → Option A → List ℕ → Read A
entry_at bad (Some x) rest = Ok (x, rest)
entry_at bad None rest = Err bad

pub known-entry : {A : Type 0} (o : Option A) (rest : List ℕ)
    → (known_value o >>= (λ (x : A). Ok (x, rest))) ≡ entry_at BadOpcode o rest
known-entry None rest = refl
known-entry (Some x) rest = refl

-- The octets are the spelling, and what is spelled so has the property.
pub record Is {A : Type 0} (spell : A → List ℕ) (P : A → Type 0) (octets : List ℕ)
    (r : A × List ℕ) : Type 0 where
  pub parts : octets ≡ spell r.0
  pub good : P r.0

module _ {A : Type 0} {f : List ℕ → Read A} (bad : ImageFault) (entry : ℕ → Option A)
    (text : A → List ℕ) (P : A → Type 0) (d : ℕ) (y : A) where
  -- The table has an entry, by which nothing is completed.
  pub lawful-table : (bad ≡ Truncated → ⊥) → d < 256 → entry d ≡ Some y → f [] ≡ Err Truncated
      → ((x : ℕ) (rest : List ℕ) → f (x ∷ rest) ≡ entry_at bad (entry x) rest)
      → ((x : ℕ) (z : A) → entry x ≡ Some z → Is text P (x ∷ []) (z, []))
      → Lawful left Empty (Is text P) Never f
  lawful-table ne small is none some text_is = record {
    sound = record { steady = steady; takes = takes; spelled = spelled };
    start = start;
    short = short;
  }
    where
      steady : (octets more : List ℕ) → (f octets ≡ Err Truncated → ⊥)
          → f (octets ++ more) ≡ (f octets >>= (λ r. left r more))
      steady [] more not_short = absurd (not_short none)
      steady (x ∷ octets) more not_short =
          some x (octets ++ more) ∙ go (entry x)
          ∙ ap (λ (q : Read A). q >>= (λ r. left r more)) (sym (some x octets))
        where
          go : (o : Option A) → entry_at bad o (octets ++ more)
              ≡ (entry_at bad o octets >>= (λ (r : A × List ℕ). left r more))
          go None = refl
          go (Some z) = refl

      -- what was read, and the octet that it was read of
      found : (octets : List ℕ) (r : A × List ℕ) → f octets ≡ Ok r
          → (x : ℕ) × (octets ≡ x ∷ r.1) × (entry x ≡ Some r.0)
      found [] r e =
          absurd (let no : ◌≡◌ {A = Read A} (Err Truncated) (Ok r) = sym none ∙ e in cc)
      found (x ∷ octets) r e = go (entry x) refl (sym (some x octets) ∙ e)
        where
          go : (o : Option A) → entry x ≡ o → entry_at bad o octets ≡ Ok r
              → (n : ℕ) × (x ∷ octets ≡ n ∷ r.1) × (entry n ≡ Some r.0)
          go None i h = absurd cc
          go (Some z) i h =
              let same = ok-same (z, octets) r h in
              (x, ap (λ q. x ∷ q.1) same, i ∙ ap (λ q. Some q.0) same)

      takes : (octets : List ℕ) (r : A × List ℕ) → f octets ≡ Ok r → Took left Empty f octets r
      takes octets r e =
          let t = found octets r e in
          record {
            front = t.0 ∷ [];
            rest = r.1;
            what = (r.0, []);
            parts = t.1;
            is = some t.0 [] ∙ ap (λ (o : Option A). entry_at bad o []) t.2;
            ends = refl;
            more = refl;
          }

      spelled : (octets : List ℕ) (r : A × List ℕ) → AreOctets octets → f octets ≡ Ok r → r.1 ≡ []
          → Is text P octets r
      spelled octets r fits e ends =
          let t = found octets r e in
          let is = text_is t.0 r.0 t.2 in
          record {
            parts = t.1 ∙ ap (λ (ys : List ℕ). t.0 ∷ ys) ends ∙ is.parts;
            good = is.good;
          }

      start : EndsIn f Empty []
      start = record {
        more = d ∷ [];
        fits = are-more d [] small are-none;
        what = (y, []);
        is = some d [] ∙ ap (λ (o : Option A). entry_at bad o []) is;
        ends = refl;
      }

      never : (o : Option A) (rest : List ℕ) → entry_at bad o rest ≡ Err Truncated → ⊥
      never None rest e = ne (err-same {A = A × List ℕ} bad Truncated e)
      never (Some z) rest e = cc

      short : (octets : List ℕ) → AreOctets octets → f octets ≡ Err Truncated
          → EndsIn f Empty octets ⊎ ⊥
      short [] fits e = inl start
      short (x ∷ octets) fits e =
          absurd (never (entry x) octets (sym (some x octets) ∙ e))

-- so many times an octet
unfoldable pub copies : ℕ → ℕ → List ℕ
copies x zero = []
copies x (suc n) = x ∷ copies x n

pub copies-fit : (x n : ℕ) → x < 256 → AreOctets (copies x n)
unfolding copies
copies-fit x zero small = are-none
copies-fit x (suc n) small = are-more x (copies x n) small (copies-fit x n small)

pub copies-size : (x n : ℕ) → length (copies x n) ≡ n
unfolding copies
copies-size x zero = refl
copies-size x (suc n) = ap suc (copies-size x n)

-- ---- what is done with what was read

-- what is made of what another reads
pub lawful-made : {A B : Type 0} {on : A → List ℕ → Result A ImageFault}
    {onto : B → List ℕ → Result B ImageFault} {Q : A → Type 0} {W : B → Type 0}
    {S : List ℕ → A → Type 0} {C : List ℕ → Type 0} {f : List ℕ → Result B ImageFault}
    {g : List ℕ → Result A ImageFault} (h : A → B)
    → ((octets : List ℕ) → f octets ≡ (g octets >>= (λ x. Ok (h x))))
    → ((x : A) (more : List ℕ) → (on x more >>= (λ y. Ok (h y))) ≡ onto (h x) more)
    → ((x : A) → Q x ↔ W (h x)) → Lawful on Q S C g
    → Lawful onto W (λ octets y. (x : A) × S octets x × (h x ≡ y)) C f
lawful-made {A} {B} {on} {onto} {Q} {W} {S} {C} {f} {g} h same later whole l = record {
  sound = record {
    steady = λ octets more. steady octets more (g octets) refl;
    takes = λ octets y e.
        (let a = bind-ok (g octets) (λ x. Ok (h x)) y (sym (same octets) ∙ e) in
        let t = l.sound.takes octets a.0 a.1 in
        record {
          front = t.front;
          rest = t.rest;
          what = h t.what;
          parts = t.parts;
          is = same t.front ∙ rw t.is refl;
          ends = (whole t.what).0 t.ends;
          more = sym (later t.what t.rest) ∙ rw t.more a.2;
        });
    spelled = λ octets y fits e ends.
        (let a = bind-ok (g octets) (λ x. Ok (h x)) y (sym (same octets) ∙ e) in
        let is = ok-same (h a.0) y a.2 in
        (a.0, l.sound.spelled octets a.0 fits a.1 ((whole a.0).1 (subst W (sym is) ends)), is));
  };
  start = ended [] l.start;
  short = λ octets fits e. elim
      (l.short octets fits (made-err (g octets) (sym (same octets) ∙ e))) [
        | inl a ↦ inl (ended octets a)
        | inr c ↦ inr c
      ];
}
  where
    ended : (octets : List ℕ) → EndsIn g Q octets → EndsIn f W octets
    ended octets a = record {
      more = a.more;
      fits = a.fits;
      what = h a.what;
      is = same (octets ++ a.more) ∙ rw a.is refl;
      ends = (whole a.what).0 a.ends;
    }

    made-err : (r : Result A ImageFault)
        → ◌≡◌ {A = Result B ImageFault} (r >>= (λ x. Ok (h x))) (Err Truncated)
        → r ≡ Err Truncated
    made-err (Ok x) e = absurd cc
    made-err (Err d) e = ap (λ (z : ImageFault). Err z) (err-same {A = B} d Truncated e)

    steady : (octets more : List ℕ) (r : Result A ImageFault) → g octets ≡ r
        → (f octets ≡ Err Truncated → ⊥)
        → f (octets ++ more) ≡ (f octets >>= (λ y. onto y more))
    steady octets more (Ok x) e ne =
        rw (
          same (octets ++ more),
          l.sound.steady octets more (λ d. (let no = sym e ∙ d in cc)),
          same octets,
          e,
        ) (later x more)
    steady octets more (Err d) e ne =
        rw (
          same (octets ++ more),
          same octets,
          err-is l.sound octets more d e (λ k. ne (same octets
              ∙ rw e (ap (λ (z : ImageFault). Err z) k))),
          e,
        ) refl

-- a reader that says the same
pub lawful-by : {R : Type 0} {on : R → List ℕ → Result R ImageFault} {Q : R → Type 0}
    {S : List ℕ → R → Type 0} {C : List ℕ → Type 0} {f g : List ℕ → Result R ImageFault}
    → ((octets : List ℕ) → f octets ≡ g octets) → Lawful on Q S C g → Lawful on Q S C f
lawful-by {R} {on} {Q} {S} {C} {f} {g} same l =
    lawful-so (lawful-made (λ x. x) (λ octets. same octets ∙ unmade (g octets))
    (λ x more. sym (unmade (on x more))) (λ x. (λ q. q, λ q. q)) l)
    (λ octets r fits d. subst (S octets) d.2 d.1) (λ octets c. c)
  where
    unmade : (r : Result R ImageFault) → r ≡ (r >>= (λ x. Ok x))
    unmade (Ok x) = refl
    unmade (Err e) = refl

-- what was read is read of its spelling, whatever follows it
pub again : {A : Type 0} {spell : A → List ℕ} {P : A → Type 0} {item : List ℕ → Read A}
    → Sound left Empty (Is spell P) item → (octets : List ℕ) (x : A) (rest : List ℕ)
    → AreOctets octets → item octets ≡ Ok (x, rest) → (more : List ℕ)
    → item (spell x ++ more) ≡ Ok (x, more)
again {item = item} s octets x rest fits e more =
    let t = item-took s octets x rest e in
    let is = s.spelled t.0 (x, []) (front-octets t.0 rest (subst AreOctets t.1 fits)) t.2 refl in
    ap (λ (ys : List ℕ). item (ys ++ more)) (sym is.parts) ∙ ok-is s t.0 more x [] t.2

-- and its spelling stands first
pub spelled-first : {A : Type 0} {spell : A → List ℕ} {P : A → Type 0} {item : List ℕ → Read A}
    → Sound left Empty (Is spell P) item → (octets : List ℕ) (x : A) (rest : List ℕ)
    → AreOctets octets → item octets ≡ Ok (x, rest) → P x × (octets ≡ spell x ++ rest)
spelled-first s octets x rest fits e =
    let t = item-took s octets x rest e in
    let is = s.spelled t.0 (x, []) (front-octets t.0 rest (subst AreOctets t.1 fits)) t.2 refl in
    (is.good, t.1 ∙ ap (λ (ys : List ℕ). ys ++ rest) is.parts)

-- a part's front is read of its spelling
pub behind-reads : {A : Type 0} {spell : A → List ℕ} {P : A → Type 0} {item : List ℕ → Read A}
    {D : A → List ℕ → Type 0} {octets : List ℕ} → (b : Behind (Is spell P) item D octets)
    → (more : List ℕ) → item (spell b.what ++ more) ≡ Ok (b.what, more)
behind-reads {item = item} b more =
    ap (λ (ys : List ℕ). item (ys ++ more)) (sym b.first.parts) ∙ b.reads more
