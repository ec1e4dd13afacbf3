-- Octets are values in one way.
use Rattle.std.proofs.Common.{◌≡◌, ℕ, ◌<◌, false, eqb, List, [], ◌∷◌, ◌++◌, length, refl, sym, ap, ◌∙◌, arith}
use Rattle.std.proofs.lemmas.List.{append-nil, length-append}
use Rattle.bay_ber.specs.declared.tag.Tag.{Tag}
use Rattle.bay_ber.specs.Spelling.{Spells}
use Rattle.bay_ber.specs.Reading.{TlvData, BeginsWithTlv}
use Rattle.bay_ber.specs.Values.{Part, SpellAll, part_of_tlv}
use Rattle.bay_ber.proofs.ReadLemmas.{one_reading, tag-some}

-- a value that fills octets stands at their front, with nothing behind it
pub whole-begins : (octets : List ℕ) (tag : Tag) (content : List ℕ) → Spells octets tag content
    → BeginsWithTlv octets (record { tag = tag; content = content; rest = [] })
whole-begins octets tag content s =
    record { front = octets; spelled = s; parts = sym (append-nil octets) }

pub begins-whole : (octets : List ℕ) (r : TlvData) → r.rest ≡ [] → BeginsWithTlv octets r
    → Spells octets r.tag r.content
begins-whole octets r none b =
    let e : octets ≡ b.front =
    b.parts ∙ ap (λ (ys : List ℕ). b.front ++ ys) none ∙ append-nil b.front in
    rw e b.spelled

pub one-value : (octets : List ℕ) (p q : Part) → Spells octets p.tag p.content
    → Spells octets q.tag q.content → p ≡ q
one-value octets p q s t =
    ap part_of_tlv (one_reading octets (record { tag = p.tag; content = p.content; rest = [] })
    (record { tag = q.tag; content = q.content; rest = [] }) (whole-begins octets p.tag p.content s)
    (whole-begins octets q.tag q.content t))

pub spells-some : (octets : List ℕ) (tag : Tag) (content : List ℕ) → Spells octets tag content
    → 0 < length octets
spells-some octets tag content s = let some = tag-some s.front tag s.is_tag in
    rw s.parts (omega (arith, length-append s.front (s.len ++ content)))

not-none : (octets : List ℕ) (p : Part) (ps : List Part) → octets ≡ [] → SpellAll octets (p ∷ ps)
    → ⊥
not-none octets p ps none a =
    let some = spells-some a.0 p.tag p.content a.3 in
    let e : a.0 ++ a.1 ≡ [] = sym a.2 ∙ none in
    let n : length (a.0 ++ a.1) ≡ 0 = ap length e in
    omega (arith, length-append a.0 a.1)

pub one_list : (octets : List ℕ) (ps qs : List Part) → SpellAll octets ps → SpellAll octets qs
    → ps ≡ qs
one_list octets [] [] a b = refl
one_list octets [] (q ∷ qs) a b = absurd (not-none octets q qs a b)
one_list octets (p ∷ ps) [] a b = absurd (not-none octets p ps b a)
one_list octets (p ∷ ps) (q ∷ qs) a b =
    let r : TlvData = record { tag = p.tag; content = p.content; rest = a.1 } in
    let s : TlvData = record { tag = q.tag; content = q.content; rest = b.1 } in
    let e : r ≡ s =
    one_reading octets r s (record { front = a.0; spelled = a.3; parts = a.2 })
    (record { front = b.0; spelled = b.3; parts = b.2 }) in
    let rest : a.1 ≡ b.1 = ap (λ (x : TlvData). x.rest) e in
    let first : p ≡ q = ap part_of_tlv e in
    let more : ps ≡ qs = one_list b.1 ps qs (rw (← rest) a.4) b.4 in
    rw (first, more) refl

pub not-empty : (octets : List ℕ) → false ≡ eqb (length octets) 0 → octets ≡ [] → ⊥
not-empty [] some none = cc
not-empty (x ∷ octets) some none = cc
