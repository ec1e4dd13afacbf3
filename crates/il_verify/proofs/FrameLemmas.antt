-- What comes of a frame where another path comes to its place.
use Rattle.std.proofs.Common.{◌≡◌, ℕ, ◌≤◌, max, List, [], ◌∷◌, length, refl, sym, ap, subst, ◌∙◌, arith, Option, Some, None, reverse, ◌⊎◌, inl, inr}
use Rattle.std.proofs.lemmas.Option.{same_Some}
use Rattle.std.proofs.lemmas.List.{reverse-reverse, length-reverse}
use Rattle.std.proofs.lemmas.Bool.{cases_lt}
use Rattle.std.specs.Prelude.{option_map, Result, Ok, Err, IfErr}
use Rattle.il_image.specs.declared.kind.CellKind.{CellKind}
use Rattle.il_image.specs.Kinds.{AreWithin}
use Rattle.il_image.proofs.KindLemmas.{join-over, join-least}
use Rattle.il_verify.specs.declared.frame.Frame.{Frame}
use Rattle.il_verify.specs.Frames.{HasOtherDepth, JoinsFrame, PlainFrame, join_all, plain_frame}
use Rattle.il_verify.proofs.WithinLemmas.{all-within-along, all-within-self, within-reverse}

join-all-over : (xs ys : List CellKind) → length xs ≡ length ys
    → AreWithin xs (join_all xs ys) × AreWithin ys (join_all xs ys)
join-all-over [] [] e = (tt, tt)
join-all-over [] (y ∷ ys) e = absurd (omega arith)
join-all-over (x ∷ xs) [] e = absurd (omega arith)
join-all-over (x ∷ xs) (y ∷ ys) e =
    let more = join-all-over xs ys (omega arith) in
    let here = join-over x y in
    ((here.0, more.0), (here.1, more.1))

join-all-least : (xs ys top : List CellKind) → AreWithin xs top → AreWithin ys top
    → AreWithin (join_all xs ys) top
join-all-least (x ∷ xs) (y ∷ ys) [] h g = absurd h
join-all-least (x ∷ xs) (y ∷ ys) (t ∷ top) h g =
    (join-least x y t h.0 g.0, join-all-least xs ys top h.1 g.1)
join-all-least i x y h g = h

join-all-least-reversed : (xs ys top : List CellKind) → AreWithin (reverse xs) top
    → AreWithin (reverse ys) top → AreWithin (reverse (join_all xs ys)) top
join-all-least-reversed xs ys top h g =
    let h2 : AreWithin xs (reverse top) =
    subst (λ (v : List CellKind). AreWithin v (reverse top)) (reverse-reverse xs)
    (within-reverse (reverse xs) top h) in
    let g2 : AreWithin ys (reverse top) =
    subst (λ (v : List CellKind). AreWithin v (reverse top)) (reverse-reverse ys)
    (within-reverse (reverse ys) top g) in
    subst (AreWithin (reverse (join_all xs ys))) (reverse-reverse top)
    (within-reverse (join_all xs ys) (reverse top) (join-all-least xs ys (reverse top) h2 g2))

-- a frame as the definition has it, with the top of the stack first
abbrev pub plain : List CellKind → ℕ → PlainFrame
plain kinds longest = record { kinds = reverse kinds; longest = longest }

larger : (a b : ℕ) → (max a b ≡ b) ⊎ (max a b ≡ a)
larger a b = elim (cases_lt a b) [ inl h ↦ inl (omega arith) | inr h ↦ inr (omega arith) ]

which : (a b : ℕ) (old : PlainFrame) → old.longest ≡ a
    → (max a b ≡ b) ⊎ ((m : PlainFrame) × (Some old ≡ Some m) × (max a b ≡ m.longest))
which a b old e = elim (larger a b) [ inl h ↦ inl h | inr h ↦ inr (old, refl, h ∙ sym e) ]

pub grown : (olds news : List CellKind) (a b : ℕ) → length olds ≡ length news
    → JoinsFrame (plain news b) (Some (plain olds a)) (plain (join_all olds news) (max a b))
grown olds news a b e =
    let over = join-all-over olds news e in
    record {
      over = within-reverse news (join_all olds news) over.1;
      keeps = λ m is. let same : plain olds a ≡ m = same_Some _ m is in
          subst (λ (v : PlainFrame). AreWithin v.kinds (reverse (join_all olds news))) same
          (within-reverse olds (join_all olds news) over.0);
      least = λ top h g. join-all-least-reversed olds news top (g (plain olds a) refl) h;
      longer = omega arith;
      keeps_longer = λ m is. let same : plain olds a ≡ m =
          same_Some _ m is in subst (λ (v : PlainFrame). v.longest ≤ max a b) same (omega arith);
      from = which a b (plain olds a) refl;
    }

-- A place that nothing has come to.
pub begun : (news : List CellKind) (b : ℕ) → JoinsFrame (plain news b) None (plain news b)
begun news b = record {
  over = all-within-self (reverse news);
  keeps = λ m is. absurd cc;
  least = λ top h g. h;
  longer = omega arith;
  keeps_longer = λ m is. absurd cc;
  from = inl refl;
}

pub joined-grows : (olds news kinds : List CellKind) (a b c : ℕ) → length olds ≡ length news
    → kinds ≡ join_all olds news → c ≡ max a b
    → JoinsFrame (plain news b) (Some (plain olds a)) (plain kinds c)
joined-grows olds news kinds a b c e same larger =
    subst (λ (v : List CellKind). JoinsFrame (plain news b) (Some (plain olds a)) (plain v c))
    (sym same)
    (subst (λ (n : ℕ). JoinsFrame (plain news b) (Some (plain olds a))
    (plain (join_all olds news) n))
    (sym larger) (grown olds news a b e))

pub begun-grows : (o : Option Frame) (news kinds : List CellKind) (b : ℕ) → o ≡ None → kinds ≡ news
    → JoinsFrame (plain news b) (option_map plain_frame o) (plain kinds b)
begun-grows o news kinds b is same =
    subst (λ (v : Option Frame). JoinsFrame (plain news b) (option_map plain_frame v)
    (plain kinds b))
    (sym is)
    (subst (λ (v : List CellKind). JoinsFrame (plain news b) None (plain v b)) (sym same)
    (begun news b))

pub grows-along : (come : PlainFrame) (old : Option PlainFrame) (mid new : PlainFrame)
    → JoinsFrame come old mid → JoinsFrame come (Some mid) new → JoinsFrame come old new
grows-along come old mid new h g = record {
  over = g.over;
  keeps = λ m is. all-within-along m.kinds mid.kinds new.kinds (h.keeps m is) (g.keeps mid refl);
  least = λ top c o. g.least top c
      (λ m is. subst (λ (v : PlainFrame). AreWithin v.kinds top) (same_Some mid m is)
      (h.least top c o));
  longer = g.longer;
  keeps_longer = λ m is. let first : m.longest ≤ mid.longest = h.keeps_longer m is in
      let then : mid.longest ≤ new.longest = g.keeps_longer mid refl in omega arith;
  from = elim g.from [
    | inl e ↦ inl e
    | inr w ↦ (let same : mid ≡ w.0 = same_Some mid w.0 w.1 in
        let e : new.longest ≡ mid.longest = w.2 ∙ ap (λ (v : PlainFrame). v.longest) (sym same) in
        elim h.from [ inl f ↦ inl (e ∙ f) | inr v ↦ inr (v.0, v.1, e ∙ v.2) ])
  ];
}

-- kinds of another number than those of the place
pub clash-of : (o : Option Frame) (frame : Frame) (kinds : List CellKind) → o ≡ Some frame
    → (length frame.kinds.items ≡ length kinds → ⊥)
    → HasOtherDepth (option_map plain_frame o) (reverse kinds)
clash-of o frame kinds is ne = (
  plain_frame frame,
  ap (option_map plain_frame) is,
  λ e. ne (sym (length-reverse frame.kinds.items) ∙ e ∙ length-reverse kinds),
)

pub if_err_weaker : {T E : Type 0} (r : Result T E) (P Q : E → Type 0) → ((e : E) → P e → Q e)
    → IfErr r P → IfErr r Q
if_err_weaker (Ok x) P Q f h = tt
if_err_weaker (Err e) P Q f h = f e h
