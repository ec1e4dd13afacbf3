-- What a form reads is what it spells: a lemma for each way of making forms of others.
use Rattle.std.proofs.Common.{◌≡◌, ℕ, zero, suc, ◌≤◌, Bool, true, false, cond, List, [], ◌∷◌, ◌++◌, length, Option, Some, None, option_map, option_and_then, refl, sym, ap, ◌∙◌, subst, inl, inr, arith}
use Rattle.std.proofs.lemmas.Bool.{or_parts}
use Rattle.std.proofs.lemmas.Grind.{common_steps}
use Rattle.std.proofs.lemmas.Option.{same_Some}
use Rattle.std.specs.List.{list_any}
use Rattle.il_text.specs.Tokens.{Symbol, name, mark_symbol}
use Rattle.il_text.specs.TokenForms.{Form, map_form, try_map_form, none, no_token, no_token_of, one, one_of, bind_form, after_mark, after_mark_of, either, or_of, choose_by, same_mark, split_at_mark, before_first, split_form, split_form_of, name_of, is_mark, names, names_from, spelled_names}
use Rattle.il_text.specs.declared.token.Mark.{Mark}
use Rattle.il_text.specs.declared.token.Mark.TheVariants as mark

-- What f reads is what it spells.
pub record Exact {A : Type 0} (f : Form A) : Type 0 where
  pub read : (ts : List Symbol) (x : A) → f.Spells ts x → f.reads ts ≡ Some x
  pub back : (ts : List Symbol) (x : A) → f.reads ts ≡ Some x → f.Spells ts x

map-some : {A B : Type 0} (f : A → B) (o : Option A) (y : B) → option_map f o ≡ Some y
    → (x : A) × (o ≡ Some x) × (f x ≡ y)
map-some f None y e = absurd cc
map-some f (Some x) y e = (x, refl, same_Some (f x) y e)

pub then-some : {A B : Type 0} (f : A → Option B) (o : Option A) (y : B)
    → option_and_then f o ≡ Some y
    → (x : A) × (o ≡ Some x) × (f x ≡ Some y)
then-some f None y e = absurd cc
then-some f (Some x) y e = (x, refl, e)

pub made-exact : {A B : Type 0} (make : A → B) {f : Form A} → Exact f → Exact (map_form make f)
made-exact make {f} e = record {
  read = λ ts y is. ap (option_map make) (e.read ts is.0 is.1) ∙ ap Some is.2;
  back = λ ts y is. let x = map-some make (f.reads ts) y is in (x.0, e.back ts x.0 x.1, x.2);
}

pub such-exact : {A B : Type 0} (test : A → Option B) {f : Form A} → Exact f
    → Exact (try_map_form test f)
such-exact test {f} e = record {
  read = λ ts y is. rw (e.read ts is.0 is.1) is.2;
  back = λ ts y is. let x = then-some test (f.reads ts) y is in (x.0, e.back ts x.0 x.1, x.2);
}

pub none-exact : {A : Type 0} → Exact (none {A = A})
none-exact = record { read = λ ts x is. absurd is; back = λ ts x e. absurd cc }

nothing-back : {A : Type 0} (x y : A) (ts : List Symbol) → no_token_of x ts ≡ Some y
    → (ts ≡ []) × (x ≡ y)
nothing-back x y [] e = (refl, same_Some x y e)
nothing-back x y (t ∷ ts) e = absurd cc

pub nothing-exact : {A : Type 0} (x : A) → Exact (no_token x)
nothing-exact x = record {
  read = λ ts y is. ap (no_token_of x) is.0 ∙ ap Some is.1;
  back = λ ts y e. nothing-back x y ts e;
}

one-back : {A : Type 0} (is : Symbol → Option A) (ts : List Symbol) (x : A) → one_of is ts ≡ Some x
    → (t : Symbol) × (ts ≡ t ∷ []) × (is t ≡ Some x)
one-back is [] x e = absurd cc
one-back is (t ∷ []) x e = (t, refl, e)
one-back is (t ∷ u ∷ ts) x e = absurd cc

pub one-exact : {A : Type 0} (is : Symbol → Option A) → Exact (one is)
one-exact is = record {
  read = λ ts x s. ap (one_of is) s.1 ∙ s.2;
  back = λ ts x e. one-back is ts x e;
}

behind-back : {A B : Type 0} (is : Symbol → Option A) (f : A → Form B) → ((x : A) → Exact (f x))
    → (ts : List Symbol) (y : B) → (bind_form is f).reads ts ≡ Some y → (bind_form is f).Spells ts y
behind-back is f e [] y h = absurd cc
behind-back is f e (t ∷ ts) y h =
    let x = then-some (λ x. (f x).reads ts) (is t) y h in
    (t, ts, x.0, refl, x.1, (e x.0).back ts y x.2)

pub behind-exact : {A B : Type 0} (is : Symbol → Option A) (f : A → Form B)
    → ((x : A) → Exact (f x)) → Exact (bind_form is f)
behind-exact is f e = record {
  read = λ ts y s. rw (s.3, s.4) ((e s.2).read s.1 y s.5);
  back = behind-back is f e;
}

mark-is : (m n : Mark) → same_mark m n ≡ true → n ≡ m
mark-is m n h = grind (arith, common_steps)

pub only-mark : (m : Mark) (s : Symbol) → is_mark m s ≡ true → s ≡ mark_symbol m
only-mark m (mark_symbol n) e = ap (λ (k : Mark). mark_symbol k) (mark-is m n e)
only-mark m i e = absurd cc

mark-same : (m : Mark) → is_mark m (mark_symbol m) ≡ true
mark-same mark.Colon = refl
mark-same mark.Assign = refl
mark-same mark.Comma = refl
mark-same mark.Semicolon = refl
mark-same mark.Dot = refl
mark-same mark.Open = refl
mark-same mark.Close = refl

if-some : {A : Type 0} (b : Bool) (o : Option A) (y : A) → cond b o None ≡ Some y
    → (b ≡ true) × (o ≡ Some y)
if-some true o y e = (refl, e)
if-some false o y e = absurd cc

after-back : {A : Type 0} (m : Mark) (f : Form A) → Exact f → (ts : List Symbol) (x : A)
    → after_mark_of m f.reads ts ≡ Some x → (after_mark m f).Spells ts x
after-back m f e [] x h = absurd cc
after-back m f e (t ∷ ts) x h =
    let i = if-some (is_mark m t) (f.reads ts) x h in
    (ts, ap (λ (u : Symbol). u ∷ ts) (only-mark m t i.0), e.back ts x i.1)

pub after-exact : {A : Type 0} (m : Mark) {f : Form A} → Exact f → Exact (after_mark m f)
after-exact m {f} e = record {
  read = λ ts x s. rw (s.1, mark-same m) (e.read s.0 x s.2);
  back = after-back m f e;
}

-- where g spells, f reads nothing
pub either-exact : {A : Type 0} {f g : Form A} → Exact f → Exact g
    → ((ts : List Symbol) (x : A) → g.Spells ts x → f.reads ts ≡ None) → Exact (either f g)
either-exact {A} {f} {g} d e apart = record {
  read = λ ts x s. elim s [
    | inl here ↦ rw (d.read ts x here) refl
    | inr other ↦ rw (apart ts x other) (e.read ts x other)
  ];
  back = λ ts x h. pick ts x (f.reads ts) refl h;
}
  where
    pick : (ts : List Symbol) (x : A) (o : Option A) → f.reads ts ≡ o
        → or_of o (g.reads ts) ≡ Some x → (either f g).Spells ts x
    pick ts x (Some y) is h = inl (d.back ts x (is ∙ h))
    pick ts x None is h = inr (e.back ts x h)

-- what f spells passes the test, and what g spells does not
pub by-exact : {A : Type 0} (test : List Symbol → Bool) {f g : Form A} → Exact f → Exact g
    → ((ts : List Symbol) (x : A) → f.Spells ts x → test ts ≡ true)
    → ((ts : List Symbol) (x : A) → g.Spells ts x → test ts ≡ false) → Exact (choose_by test f g)
by-exact {A} test {f} {g} d e passes fails = record {
  read = λ ts x s. elim s [
    | inl here ↦ rw (passes ts x here) (d.read ts x here)
    | inr other ↦ rw (fails ts x other) (e.read ts x other)
  ];
  back = λ ts x h. pick ts x (test ts) h;
}
  where
    pick : (ts : List Symbol) (x : A) (b : Bool) → cond b (f.reads ts) (g.reads ts) ≡ Some x
        → (choose_by test f g).Spells ts x
    pick ts x true h = inl (d.back ts x h)
    pick ts x false h = inr (e.back ts x h)

pub parted-at : (m : Mark) (front rest : List Symbol) → list_any (is_mark m) front ≡ false
    → split_at_mark m (front ++ mark_symbol m ∷ rest) ≡ Some (front, rest)
parted-at m [] rest none = rw (mark-same m) refl
parted-at m (s ∷ front) rest none =
    let two = or_parts (is_mark m s) (list_any (is_mark m) front) none in
    rw (two.0, parted-at m front rest two.1) refl

-- a mark parts the tokens
abbrev IsParted : Mark → List Symbol → List Symbol × List Symbol → Type 0
IsParted m ts p = ts ≡ p.0 ++ mark_symbol m ∷ p.1

was-parted : (m : Mark) (ts : List Symbol) (p : List Symbol × List Symbol)
    → split_at_mark m ts ≡ Some p → IsParted m ts p
was-parted m [] p e = absurd cc
was-parted m (s ∷ ss) p e = by-test (is_mark m s) refl e (was-parted m ss)
  where
    by-test : (b : Bool) → is_mark m s ≡ b
        → cond b (Some ([], ss)) (option_map (before_first s) (split_at_mark m ss)) ≡ Some p
        → ((q : List Symbol × List Symbol) → split_at_mark m ss ≡ Some q → IsParted m ss q)
        → IsParted m (s ∷ ss) p
    by-test true is e again =
        let first : List Symbol × List Symbol = ([], ss) in
        subst (IsParted m (s ∷ ss)) (same_Some first p e)
        (ap (λ (t : Symbol). t ∷ ss) (only-mark m s is))
    by-test false is e again =
        let q = map-some (before_first s) (split_at_mark m ss) p e in
        subst (IsParted m (s ∷ ss)) q.2 (ap (λ (ts : List Symbol). s ∷ ts) (again q.0 q.1))

parted-back : {A B : Type 0} (m : Mark) (f : Form A) (g : Form B) → Exact f → Exact g
    → (ts : List Symbol) (x : A × B) (o : Option (List Symbol × List Symbol))
    → split_at_mark m ts ≡ o → split_form_of f.reads g.reads o ≡ Some x
    → (split_form m f g).Spells ts x
parted-back m f g d e ts x None is h = absurd cc
parted-back {A} {B} m f g d e ts x (Some p) is h =
    let y = then-some (λ y. option_map (λ x. (x, y)) (f.reads p.0)) (g.reads p.1) x h in
    let z = map-some (λ z. (z, y.0)) (f.reads p.0) x y.2 in
    subst (λ (q : A × B). (split_form m f g).Spells ts q) z.2
    (p.0, p.1, was-parted m ts p is, d.back p.0 z.0 z.1, e.back p.1 y.0 y.1)

-- the mark stands in nothing that f spells
abbrev pub Lacks : {A : Type 0} → Mark → Form A → Type 0
Lacks m f = (ts : List Symbol) (x : _) → f.Spells ts x → list_any (is_mark m) ts ≡ false

pub parted-exact : {A B : Type 0} (m : Mark) {f : Form A} {g : Form B} → Exact f → Exact g
    → Lacks m f → Exact (split_form m f g)
parted-exact m {f} {g} d e lacks = record {
  read = λ ts x s.
      ap (λ (us : List Symbol). split_form_of f.reads g.reads (split_at_mark m us)) s.2
      ∙ ap (split_form_of f.reads g.reads) (parted-at m s.0 s.1 (lacks s.0 x.0 s.3))
      ∙ rw (d.read s.0 x.0 s.3, e.read s.1 x.1 s.4) refl;
  back = λ ts x h. parted-back m f g d e ts x (split_at_mark m ts) refl h;
}

-- ---- a list of names

names-are : (n : List ℕ) (ns : List (List ℕ))
    → names_from false (spelled_names n ns) ≡ Some (n ∷ ns)
unfolding names_from
names-are n [] = refl
names-are n (m ∷ ns) =
    ap (λ (o : Option (List (List ℕ))). option_map (λ xs. n ∷ xs) o) (names-are m ns)

named-is : (s : Symbol) (n : List ℕ) → name_of s ≡ Some n → s ≡ name n
named-is (name m) n e = ap (λ (x : List ℕ). name x) (same_Some m n e)
named-is i n e = absurd cc

-- the names behind one that is known
names-behind : (s : Symbol) (n : List ℕ) (ss : List Symbol) (ns : List (List ℕ))
    → name_of s ≡ Some n → names_from true ss ≡ Some ns
    → ((cs : List Symbol) (c : Symbol) → ss ≡ c ∷ cs → names_from false cs ≡ Some ns
    → names.Spells cs ns) → names.Spells (s ∷ ss) (n ∷ ns)
unfolding names_from
names-behind s n [] ns is e more = (
  n,
  [],
  ap (λ (xs : List (List ℕ)). n ∷ xs) (sym (same_Some [] ns e)),
  ap (λ (x : Symbol). x ∷ []) (named-is s n is),
)
names-behind s n (c ∷ cs) ns is e more =
    let i = if-some (is_mark mark.Comma c) (names_from false cs) ns e in
    let m = more cs c refl i.1 in (
      n,
      m.0 ∷ m.1,
      ap (λ (xs : List (List ℕ)). n ∷ xs) m.2,
      ap (λ (x : Symbol). x ∷ c ∷ cs) (named-is s n is)
          ∙ ap (λ (x : Symbol). name n ∷ x ∷ cs) (only-mark mark.Comma c i.0)
          ∙ ap (λ (xs : List Symbol). name n ∷ mark_symbol mark.Comma ∷ xs) m.3,
    )

names-back : (size : ℕ) (ts : List Symbol) (ns : List (List ℕ)) → length ts ≤ size
    → names_from false ts ≡ Some ns → names.Spells ts ns
unfolding names_from
names-back size [] ns le e = absurd cc
names-back zero (s ∷ ss) ns le e = absurd (omega arith)
names-back (suc size) (s ∷ ss) ns le e =
    let t = then-some (λ n. option_map (λ xs. n ∷ xs) (names_from true ss)) (name_of s) ns e in
    let m = map-some (λ xs. t.0 ∷ xs) (names_from true ss) ns t.2 in
    subst (names.Spells (s ∷ ss)) m.2
    (names-behind s t.0 ss m.0 t.1 m.1
    (λ cs c same f. names-back size cs m.0
    (let n = ap (λ (xs : List Symbol). length xs) same in omega arith) f))

pub names-exact : Exact names
names-exact = record {
  read = λ ts x s. ap (names_from false) s.3 ∙ names-are s.0 s.1 ∙ ap Some (sym s.2);
  back = λ ts x h. names-back (length ts) ts x (omega arith) h;
}

-- what proves a form exact that is made of these
pub ruleset exacts = (
  made-exact,
  such-exact,
  none-exact,
  nothing-exact,
  one-exact,
  after-exact,
  names-exact,
)
