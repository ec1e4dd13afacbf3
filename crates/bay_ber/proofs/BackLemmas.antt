-- What octets are read as, they spell, and what they spell they are read as: values, fields and
-- contents.
use Rattle.std.proofs.Common.{◌≡◌, ℕ, zero, suc, ℤ, ◌+◌, ◌-◌, ◌*◌, ◌<◌, Bool, true, false, cond, ltb, List, [], ◌∷◌, ◌++◌, length, filter, Option, Some, None, refl, sym, ap, subst, ◌∙◌, arith}
use Rattle.std.proofs.lemmas.Option.{cond_some}
use Rattle.std.specs.Bool.{beq}
use Rattle.std.proofs.lemmas.Bool.{eqb-true, lt-ltb, ltb-true, ltb-false, cond-true, and_parts}
use Rattle.std.proofs.lemmas.List.{get_or-append-add}
use Rattle.bay_ber.specs.declared.tag.Class.{Class}
use Rattle.bay_ber.specs.declared.tag.Class.TheVariants.{Universal, Application, ContextSpecific, Private}
use Rattle.bay_ber.specs.declared.tag.Tag.{Tag}
use Rattle.bay_base.specs.Options.{◌>>=◌}
use Rattle.bay_ber.specs.Content.{IsInteger, IsBits, IsTruth, BitString, integer_in, is_integer, signed_of, is_unused_count, bits_in, truth_in}
use Rattle.bay_ber.specs.Spelling.{Spells}
use Rattle.bay_ber.specs.Tags.{same_class, same_tag}
use Rattle.bay_ber.specs.Values.{Part, value, SpellAll, values_in, only_one, value_in, at_most_five, few_in, read_each, each_in, has_tag_among, values_with_tags, content_with_tag, integer_under}
use Rattle.bay_ber.proofs.ReadLemmas.{IsBytes}
use Rattle.bay_ber.proofs.ContentLemmas.{integer-is, unused-yes, unused-is}
pub use Rattle.bay_ber.proofs.ListingLemmas.{bind-some}
use Rattle.bay_ber.proofs.ListingLemmas.{values-take, values-again}

-- ---- octets

pub bytes-behind : (xs ys : List ℕ) → IsBytes (xs ++ ys) → IsBytes ys
bytes-behind xs ys b i =
    subst (λ (n : ℕ). n < 256) (get_or-append-add xs ys i 0) (b (length xs + i))

pub bytes-before : (xs ys : List ℕ) → IsBytes (xs ++ ys) → IsBytes xs
bytes-before [] ys b i = omega arith
bytes-before (x ∷ xs) ys b zero = b 0
bytes-before (x ∷ xs) ys b (suc i) = bytes-before xs ys (λ j. b (suc j)) i

pub content-bytes : (octets : List ℕ) (tag : Tag) (content : List ℕ) → Spells octets tag content
    → IsBytes octets → IsBytes content
content-bytes octets tag content s b =
    bytes-behind s.len content (bytes-behind s.front (s.len ++ content) (subst IsBytes s.parts b))

-- the contents of all parts are octets
abbrev pub AllBytes : List Part → Type 0
AllBytes [] = Unit {0}
AllBytes (p ∷ ps) = IsBytes p.content × AllBytes ps

all-bytes : (octets : List ℕ) (parts : List Part) → IsBytes octets → SpellAll octets parts
    → AllBytes parts
all-bytes octets [] b s = tt
all-bytes octets (p ∷ ps) b s =
    let whole : IsBytes (s.0 ++ s.1) = subst IsBytes s.2 b in (
      content-bytes s.0 p.tag p.content s.3 (bytes-before s.0 s.1 whole),
      all-bytes s.1 ps (bytes-behind s.0 s.1 whole) s.4,
    )

chosen-bytes : (x : Bool) (p : Part) (more : List Part) → IsBytes p.content → AllBytes more
    → AllBytes (cond x (p ∷ more) more)
chosen-bytes true p more b bs = (b, bs)
chosen-bytes false p more b bs = bs

pub filter-bytes : (f : Part → Bool) (parts : List Part) → AllBytes parts
    → AllBytes (filter f parts)
filter-bytes f [] b = tt
filter-bytes f (p ∷ ps) b = chosen-bytes (f p) p (filter f ps) b.0 (filter-bytes f ps b.1)

-- ---- tags

pub class-is : (a b : Class) → same_class a b ≡ true → a ≡ b
class-is Universal Universal e = refl
class-is Application Application e = refl
class-is ContextSpecific ContextSpecific e = refl
class-is Private Private e = refl
class-is a b e = absurd cc

abbrev tag_with : Class → Bool → ℕ → Tag
tag_with class constructed number =
    record { class = class; constructed = constructed; number = number }

same-truth : (a b : Bool) → beq a b ≡ true → a ≡ b
same-truth true true e = refl
same-truth false false e = refl
same-truth a b e = absurd cc

pub tag-is : (a b : Tag) → same_tag a b ≡ true → a ≡ b
tag-is a b e =
    let x = and_parts _ _ e in
    let y = and_parts _ _ x.1 in
    let class = class-is a.class b.class x.0 in
    let form = same-truth a.constructed b.constructed y.0 in
    let number : a.number ≡ b.number = eqb-true a.number b.number y.1 in
    ap (λ (c : Class). tag_with c a.constructed a.number) class
    ∙ ap (λ (f : Bool). tag_with b.class f a.number) form
    ∙ ap (λ (n : ℕ). tag_with b.class b.constructed n) number

-- what a guard lets pass is what stands behind it
pub unguarded : {A : Type 0} (b : Bool) (o : Option A) (x : A) → cond b None o ≡ Some x
    → (b ≡ false) × (o ≡ Some x)
unguarded true o x e = absurd cc
unguarded false o x e = (refl, e)

pub under-is : (tag : Tag) (p : Part) (content : List ℕ) → content_with_tag tag p ≡ Some content
    → p ≡ value tag content
under-is tag p content e =
    let g = cond_some (same_tag p.tag tag) p.content content e in
    ap (λ (t : Tag). value t p.content) (tag-is p.tag tag g.0) ∙ ap (value tag) g.1

pub under-bytes : (tag : Tag) (p : Part) (content : List ℕ) → IsBytes p.content
    → content_with_tag tag p ≡ Some content → (p ≡ value tag content) × IsBytes content
under-bytes tag p content b e =
    let same = under-is tag p content e in
    (same, subst IsBytes (ap (λ (q : Part). q.content) same) b)

-- ---- integers

pub integer-back : (content : List ℕ) (z : ℤ) → integer_in content ≡ Some z → IsInteger content z
integer-back content z e =
    let g = cond_some (is_integer content) (signed_of content) z e in
    subst (IsInteger content) g.1 (integer-is content g.0)

pub number-back : (tag : Tag) (p : Part) (z : ℤ) → integer_under tag p ≡ Some z
    → (content : List ℕ) × (p ≡ value tag content) × IsInteger content z
unfolding integer_under
number-back tag p z e =
    let x = bind-some (content_with_tag tag p) integer_in z e in
    (x.0, under-is tag p x.0 x.1, integer-back x.0 z x.2)

-- ---- one value, few values and known ones

pub all-back : (octets : List ℕ) (parts : List Part) → IsBytes octets
    → values_in octets ≡ Some parts → SpellAll octets parts × AllBytes parts
all-back octets parts b e = let s = values-take octets parts b e in (s, all-bytes octets parts b s)

only-is : (parts : List Part) (p : Part) → only_one parts ≡ Some p → parts ≡ p ∷ []
only-is (q ∷ []) p e = let same : q ≡ p = cc in ap (λ (x : Part). x ∷ []) same
only-is parts p e = absurd cc

pub one-back : (octets : List ℕ) (p : Part) → IsBytes octets → value_in octets ≡ Some p
    → SpellAll octets (p ∷ []) × IsBytes p.content
one-back octets p b e =
    let x = bind-some (values_in octets) only_one p e in
    let parts = only-is x.0 p x.2 in
    let s = all-back octets (p ∷ []) b (x.1 ∙ ap (λ (ps : List Part). Some ps) parts) in
    (s.0, s.1.0)

-- one value in the one under a tag
pub under-one : (tag : Tag) (p q : Part) → IsBytes p.content
    → (content_with_tag tag p >>= value_in) ≡ Some q
    → (octets : List ℕ) × (p ≡ value tag octets) × SpellAll octets (q ∷ []) × IsBytes q.content
under-one tag p q b e =
    let x = bind-some (content_with_tag tag p) value_in q e in
    let outer = under-bytes tag p x.0 b x.1 in
    let one = one-back x.0 q outer.1 x.2 in
    (x.0, outer.0, one.0, one.1)

-- one value under a tag
pub one-under : (tag : Tag) (octets content : List ℕ) → IsBytes octets
    → (value_in octets >>= content_with_tag tag) ≡ Some content
    → SpellAll octets (value tag content ∷ []) × IsBytes content
one-under tag octets content b e =
    let x = bind-some (value_in octets) (content_with_tag tag) content e in
    let one = one-back octets x.0 b x.1 in
    let inner = under-bytes tag x.0 content one.1 x.2 in
    (subst (λ (p : Part). SpellAll octets (p ∷ [])) inner.0 one.0, inner.1)

five-is : (parts few : List Part) → at_most_five parts ≡ Some few → parts ≡ few
five-is parts few e = (cond_some (ltb (length parts) 6) parts few e).1

pub few-back : (octets : List ℕ) (parts : List Part) → IsBytes octets → few_in octets ≡ Some parts
    → SpellAll octets parts × AllBytes parts
few-back octets parts b e =
    let x = bind-some (values_in octets) at_most_five parts e in
    all-back octets parts b (x.1 ∙ ap (λ (ps : List Part). Some ps) (five-is x.0 parts x.2))

pub record Fields (tags : List Tag) (octets : List ℕ) (known : List Part) : Type 0 where
  pub fields : List Part
  pub spelled : SpellAll octets fields
  pub are : filter (has_tag_among tags) fields ≡ known
  pub bytes : AllBytes known

pub known-back : (tags : List Tag) (octets : List ℕ) (known : List Part) → IsBytes octets
    → values_with_tags tags octets ≡ Some known → Fields tags octets known
unfolding values_with_tags
known-back tags octets known b e =
    let x = bind-some (values_in octets) (λ parts. at_most_five (filter (has_tag_among tags) parts))
    known e in
    let all = all-back octets x.0 b x.1 in
    let are = five-is (filter (has_tag_among tags) x.0) known x.2 in
    record {
      fields = x.0;
      spelled = all.0;
      are = are;
      bytes = subst AllBytes are (filter-bytes (has_tag_among tags) x.0 all.1);
    }

pub record Each {B : Type 0} (f : Part → Option B) (octets : List ℕ) (xs : List B) : Type 0 where
  pub parts : List Part
  pub spelled : SpellAll octets parts
  pub bytes : AllBytes parts
  pub all : read_each f parts ≡ Some xs

pub each-back : {B : Type 0} (f : Part → Option B) (octets : List ℕ) (xs : List B) → IsBytes octets
    → each_in f octets ≡ Some xs → Each f octets xs
each-back f octets xs b e =
    let x = bind-some (values_in octets) (read_each f) xs e in
    let all = all-back octets x.0 b x.1 in
    record { parts = x.0; spelled = all.0; bytes = all.1; all = x.2 }

-- ---- what is spelled is read

pub one-read : (octets : List ℕ) (part : Part) → SpellAll octets (part ∷ [])
    → value_in octets ≡ Some part
one-read octets part is =
    ap (λ (o : Option (List Part)). o >>= only_one) (values-again octets (part ∷ []) is)

pub few-read : (octets : List ℕ) (parts : List Part) → SpellAll octets parts
    → few_in octets ≡ at_most_five parts
few-read octets parts is =
    ap (λ (o : Option (List Part)). o >>= at_most_five) (values-again octets parts is)

pub known-read : (tags : List Tag) (octets : List ℕ) (fields known : List Part)
    → SpellAll octets fields → filter (has_tag_among tags) fields ≡ known
    → values_with_tags tags octets ≡ at_most_five known
unfolding values_with_tags
known-read tags octets fields known is are =
    ap (λ (o : Option (List Part)). o >>= λ parts. at_most_five (filter (has_tag_among tags) parts))
    (values-again octets fields is) ∙ ap at_most_five are

-- ---- bits and truth values

pub bits-back : (content : List ℕ) (b : BitString) → bits_in content ≡ Some b
    → IsBits content b.octets b.count
bits-back [] b e = absurd cc
bits-back (unused ∷ octets) b e =
    let made : BitString = record { octets = octets; count = 8 * length octets - unused } in
    let g = cond_some (is_unused_count unused octets) made b e in
    subst (λ (x : BitString). IsBits (unused ∷ octets) x.octets x.count) g.1
    (refl, unused-is unused octets g.0)

pub bits-again : (content octets : List ℕ) (count : ℕ) → IsBits content octets count
    → bits_in content ≡ Some (record { octets = octets; count = count })
bits-again [] octets count is = absurd is
bits-again (unused ∷ behind) octets count is =
    let same : 8 * length behind - unused ≡ count = (let f = is.1.filled in omega arith) in
    cond-true (is_unused_count unused behind)
    (Some (record { octets = behind; count = 8 * length behind - unused })) None
    (unused-yes unused behind count is.1)
    ∙ ap (λ (n : ℕ). let made : BitString = record { octets = behind; count = n } in Some made) same
    ∙ ap (λ (xs : List ℕ). let made : BitString = record { octets = xs; count = count } in
    Some made) (sym is.0)

truth-is : (octet : ℕ) (b c : Bool) → ltb 0 octet ≡ c → c ≡ b → IsTruth (octet ∷ []) b
truth-is octet false false e same = let f = ltb-false 0 octet e in omega arith
truth-is octet true true e same = ltb-true 0 octet e
truth-is octet b c e same = absurd cc

pub truth-back : (content : List ℕ) (b : Bool) → truth_in content ≡ Some b → IsTruth content b
truth-back (octet ∷ []) b e = let same : ltb 0 octet ≡ b =
    cc in truth-is octet b (ltb 0 octet) refl same
truth-back content b e = absurd cc

pub truth-again : (content : List ℕ) (b : Bool) → IsTruth content b → truth_in content ≡ Some b
truth-again (octet ∷ []) false is = rw is refl
truth-again (octet ∷ []) true is = rw (lt-ltb 0 octet is) refl
truth-again content b is = absurd is
