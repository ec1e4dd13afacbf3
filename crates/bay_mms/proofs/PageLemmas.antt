-- How many names a page has.
use Rattle.std.proofs.Common.{get_or, take-append-drop, take-add, ◌≡◌, ℕ, zero, suc, pos, ◌+◌, ◌-◌, ◌<◌, ◌≤◌, ◌⊎◌, min, Bool, true, false, cond, ltb, List, [], ◌∷◌, ◌++◌, length, take, drop, refl, sym, ap, subst, ◌∙◌, arith, inl, inr}
use Rattle.std.proofs.lemmas.Bool.{cases_lt, le-leb, lt-leb, leb-true}
use Rattle.std.proofs.lemmas.Bool.Decides.{nat_tests}
use Rattle.std.proofs.lemmas.List.{append_assoc, length-append, length-drop, length-map, drop-map}
use Rattle.std.proofs.Math.Seq.{drop-append_seam, take-append_seam}
use Rattle.bay_ber.specs.Writing.{element, element_length, integer_octets}
use Rattle.bay_ber.specs.EncoderBuffers.{text_within_limit}
use Rattle.bay_ber.proofs.SizeLemmas.{length-integer_octets}
use Rattle.bay_tree.specs.declared.row.Row.{Row}
use Rattle.bay_tree.specs.Rows.{names_of}
use Rattle.bay_ber.specs.Tags.{visible_tag}
use Rattle.bay_mms.specs.Responses.{names_text, page_text}
use Rattle.bay_mms.specs.Pages.{AreEnds, NameTextsData, begin_at, ends_from, encoded_names, greatest, fits, names_on_page, first_page, length_of_page, page_length_with_id, response_of_texts}
use Rattle.bay_mms.proofs.ResponseLemmas.{page-is}

-- ---- the greatest that passes

greatest-suc : (test : ℕ → Bool) (n : ℕ)
    → greatest test (suc n) ≡ cond (test (suc n)) (suc n) (greatest test n)
unfolding greatest
greatest-suc test n = refl

greatest-zero : (test : ℕ → Bool) → greatest test 0 ≡ 0
unfolding greatest
greatest-zero test = refl

pub greatest-is : (test : ℕ → Bool) (most n : ℕ) → n ≤ most → (n ≡ 0) ⊎ (test n ≡ true)
    → ((k : ℕ) → n < k → k ≤ most → test k ≡ false) → greatest test most ≡ n
greatest-is test zero n le some none = greatest-zero test ∙ omega arith
greatest-is test (suc most) n le some none =
    elim (cases_lt n (suc most)) [
      | inl less ↦
          let no : test (suc most) ≡ false = none (suc most) less (omega arith) in
          greatest-suc test most
          ∙ rw no (greatest-is test most n (omega arith) some
          (λ k lt le'. none k lt (omega arith)))
      | inr more ↦
          let same : n ≡ suc most = omega arith in
          elim some [
            | inl none' ↦ absurd (omega arith)
            | inr passes ↦ let here : test (suc most) ≡ true =
                subst (λ (m : ℕ). test m ≡ true) same passes in
                greatest-suc test most ∙ rw here (sym same)
          ]
    ]

-- ---- longer names, longer page

pub element-length-le : (a b : ℕ) → a ≤ b → element_length a ≤ element_length b
element-length-le a b le = grind (arith, nat_tests)

pub page-length-le : (id a b : ℕ) → a ≤ b → page_length_with_id id a ≤ page_length_with_id id b
page-length-le id a b le =
    let inner = element-length-le a b le in
    let service = element-length-le (element_length a + 3) (element_length b + 3) (omega arith) in
    element-length-le _ _ (omega arith)

pub more-than : (n : ℕ) → n ≤ element_length n
more-than n = grind (arith, nat_tests)

-- ---- names, one behind another

pub names_text-append : (xs ys : List (List ℕ))
    → names_text (xs ++ ys) ≡ names_text xs ++ names_text ys
names_text-append [] ys = refl
names_text-append (x ∷ xs) ys =
    ap (λ (t : List ℕ). element visible_tag x ++ t) (names_text-append xs ys)
    ∙ sym (append_assoc (element visible_tag x) (names_text xs) (names_text ys))

-- the first of names have no more octets than more of them
pub taken-le : (j k : ℕ) (names : List (List ℕ)) → j ≤ k
    → length (names_text (take j names)) ≤ length (names_text (take k names))
taken-le zero k names le = omega arith
taken-le (suc j) zero names le = absurd (omega arith)
taken-le (suc j) (suc k) [] le = omega arith
taken-le (suc j) (suc k) (name ∷ names) le =
    let more = taken-le j k names (omega arith) in
    omega (
      arith,
      length-append (element visible_tag name) (names_text (take j names)),
      length-append (element visible_tag name) (names_text (take k names)),
    )

-- so many of the names from a place on are none, or have room
abbrev pub Fits : List ℕ → ℕ → ℕ → ℕ → ℕ → Type 0
Fits ends id size start count =
    (count ≡ 0) ⊎ (length_of_page id (begin_at ends (start + count) - begin_at ends start) ≤ size)

-- ---- where names begin

end-at : (names : List (List ℕ)) (start k : ℕ) → k < length names
    → get_or (ends_from start names) k 0 ≡ start + length (names_text (take (suc k) names))
end-at [] start k lt = absurd (omega arith)
end-at (name ∷ names) start zero lt =
    omega (arith, length-append (element visible_tag name) [])
end-at (name ∷ names) start (suc k) lt =
    let later = end-at names (start + length (element visible_tag name)) k (omega arith) in
    omega (
      arith,
      later,
      length-append (element visible_tag name) (names_text (take (suc k) names)),
    )

none-more : (n : ℕ) → 0 + n ≡ n
none-more n = omega arith

pub begin-is : (names : List (List ℕ)) (k : ℕ) → k ≤ length names
    → begin_at (ends_from 0 names) k ≡ length (names_text (take k names))
begin-is names zero le = refl
begin-is names (suc k) le = end-at names 0 k (omega arith) ∙ none-more _

pub length-ends : (start : ℕ) (names : List (List ℕ))
    → length (ends_from start names) ≡ length names
length-ends start [] = refl
length-ends start (name ∷ names) =
    ap suc (length-ends (start + length (element visible_tag name)) names)

-- of names from a place on
text-split : (names : List (List ℕ)) (start : ℕ)
    → names_text names ≡ names_text (take start names) ++ names_text (drop start names)
text-split names start =
    ap names_text (sym (take-append-drop start names))
    ∙ names_text-append (take start names) (drop start names)

text-front : (names : List (List ℕ)) (start count : ℕ)
    → length (names_text (take (start + count) names))
    ≡ length (names_text (take start names)) + length (names_text (take count (drop start names)))
text-front names start count =
    ap (λ (ns : List (List ℕ)). length (names_text ns)) (take-add start count names)
    ∙ ap length (names_text-append (take start names) (take count (drop start names)))
    ∙ length-append (names_text (take start names)) (names_text (take count (drop start names)))

pub texts-are : (names : List (List ℕ)) (start count from to : ℕ)
    → from ≡ length (names_text (take start names))
    → to ≡ length (names_text (take (start + count) names))
    → take (to - from) (drop from (names_text names)) ≡ names_text (take count (drop start names))
texts-are names start count from to is_from is_to =
    let some : List ℕ = names_text (take count (drop start names)) in
    let size : to - from ≡ length some = omega (arith, text-front names start count) in
    let rest : drop from (names_text names) ≡ names_text (drop start names) =
    rw is_from (ap (drop (length (names_text (take start names)))) (text-split names start)
    ∙ drop-append_seam (names_text (take start names)) (names_text (drop start names))) in
    rw (size, rest) (ap (take (length some)) (text-split (drop start names) count)
    ∙ take-append_seam some (names_text (drop count (drop start names))))

-- a cut between two ends is the text of the names between them
pub sliced : (names : List (List ℕ)) (n : NameTextsData) (start count from to : ℕ)
    → n ≡ encoded_names names → start + count ≤ length n.ends → from ≡ begin_at n.ends start
    → to ≡ begin_at n.ends (start + count)
    → take (to - from) (drop from n.octets) ≡ names_text (take count (drop start names))
sliced names n start count from to is few f t =
    let e : n.ends ≡ ends_from 0 names = ap (λ (m : NameTextsData). m.ends) is in
    let o : n.octets ≡ names_text names = ap (λ (m : NameTextsData). m.octets) is in
    let long : length n.ends ≡ length names = ap length e ∙ length-ends 0 names in
    rw o (texts-are names start count from to
    (f ∙ ap (λ (x : List ℕ). begin_at x start) e ∙ begin-is names start (omega arith))
    (t ∙ ap (λ (x : List ℕ). begin_at x (start + count)) e
    ∙ begin-is names (start + count) (omega arith)))

pub are-ends : (names : List (List ℕ))
    → AreEnds (ends_from 0 names) (length (names_text names))
are-ends names =
    record {
      rise = λ a b le few. rw (
        begin-is names a (omega (arith, length-ends 0 names)),
        begin-is names b (omega (arith, length-ends 0 names)),
      ) (taken-le a b names le);
      within = λ k few. rw (begin-is names k (omega (arith, length-ends 0 names)))
          (omega (
            arith,
            ap length (text-split names k),
            length-append (names_text (take k names)) (names_text (drop k names)),
          ));
    }

-- ---- the page that is listed

test-yes : (id size : ℕ) (names : List (List ℕ))
    → page_length_with_id id (length (names_text names)) ≤ size
    → fits id size names ≡ true
test-yes id size names le =
    le-leb (length (page_text id names false)) size
    (subst (λ (n : ℕ). n ≤ size) (sym (page-is id names false)) le)

test-no : (id size : ℕ) (names : List (List ℕ))
    → (page_length_with_id id (length (names_text names)) ≤ size → ⊥) → fits id size names ≡ false
test-no id size names over =
    elim (cases_lt size (length (page_text id names false))) [
      | inl long ↦ lt-leb (length (page_text id names false)) size long
      | inr le ↦ absurd (over (subst (λ (n : ℕ). n ≤ size) (page-is id names false) le))
    ]

passes : (names : List (List ℕ)) (id size count : ℕ)
    → (count ≡ 0) ⊎ (page_length_with_id id (length (names_text (take count names))) ≤ size)
    → (count ≡ 0) ⊎ (fits id size (take count names) ≡ true)
passes names id size count (inl none) = inl none
passes names id size count (inr le) = inr (test-yes id size (take count names) le)

-- the page where no row is left, and where there is no room for the next
-- The names from a place on, of which so many fit, and no more: as many as a page may have, or
-- those behind which the next does not fit.
pub counted-names : (names : List (List ℕ)) (ends : List ℕ) (id head size start most count : ℕ)
    → ends ≡ ends_from 0 names → head ≡ element_length (length (integer_octets (pos id)))
    → start ≤ length ends → most ≡ min 100 (length ends - start) → count ≤ most
    → Fits ends head size start count
    → (count ≡ most) ⊎ (length_of_page head
    (begin_at ends (start + (count + 1)) - begin_at ends start) ≤ size → ⊥)
    → count ≡ names_on_page id size (drop start names)
counted-names names ends id head size start most count are head-is start-in max few fit full =
    let rest : List (List ℕ) = drop start names in
    let all : length ends ≡ length names = ap length are ∙ length-ends 0 names in
    let left : length rest ≡ length names - start = length-drop start names in
    let long : (k : ℕ) → k ≤ length names - start
    → begin_at ends (start + k) - begin_at ends start ≡ length (names_text (take k rest)) =
    λ k le. rw (are, begin-is names (start + k) (omega arith), begin-is names start (omega arith))
    (omega (arith, text-front names start k)) in
    sym (greatest-is (λ n. fits id size (take n rest)) (min 100 (length rest)) count (omega arith)
    (elim fit [
      | inl none ↦ inl none
      | inr le ↦ inr (test-yes id size (take count rest)
          (rw head-is at (subst (λ (n : ℕ). length_of_page head n ≤ size)
          (long count (omega arith)) le)))
    ])
    (λ k lt le. elim full [
      | inl last ↦ absurd (omega arith)
      | inr over ↦ test-no id size (take k rest) (λ room. over
          (let same : start + (count + 1) ≡ start + suc count = omega arith in
          rw (same, long (suc count) (omega arith), head-is)
          (let more = page-length-le id (length (names_text (take (suc count) rest)))
          (length (names_text (take k rest))) (taken-le (suc count) k rest (omega arith)) in
          omega arith)))
    ]))

pub within-ends : (rows : List Row) (n : NameTextsData) (start : ℕ)
    → n ≡ encoded_names (names_of rows) → start ≤ length rows → start ≤ length n.ends
within-ends rows n start is within =
    let long : length n.ends ≡ length rows =
    ap (λ (m : NameTextsData). length m.ends) is ∙ length-ends 0 (names_of rows)
    ∙ length-map rows (λ (r : Row). r.name) in
    omega arith

-- the response with the texts of the names that a page has is the page
pub page-texts : (rows after : List Row) (n : NameTextsData) (id size start count : ℕ)
    (texts : List ℕ) (more : Bool) → n ≡ encoded_names (names_of rows) → drop start rows ≡ after
    → count ≡ names_on_page id size (drop start (names_of rows))
    → texts ≡ names_text (take count (drop start (names_of rows)))
    → more ≡ ltb count (length n.ends - start)
    → response_of_texts id texts more ≡ first_page id size (names_of after)
page-texts rows after n id size start count texts more is begins many texts-is more-is =
    let names : List (List ℕ) = drop start (names_of rows) in
    let same : names ≡ names_of after =
    drop-map (λ (r : Row). r.name) start rows ∙ ap names_of begins in
    let long : length n.ends - start ≡ length names =
    ap (λ (m : NameTextsData). length m.ends - start) is
    ∙ ap (λ (k : ℕ). k - start) (length-ends 0 (names_of rows))
    ∙ sym (length-drop start (names_of rows)) in
    ap (λ (t : List ℕ). response_of_texts id t more) texts-is
    ∙ ap (λ (b : Bool). response_of_texts id (names_text (take count names)) b)
    (more-is ∙ ap (ltb count) long)
    ∙ ap (λ (k : ℕ). response_of_texts id (names_text (take k names)) (ltb k (length names))) many
    ∙ ap (first_page id size) same

-- ---- how long a page is

passes-more : (test : ℕ → Bool) (most : ℕ) (b : Bool) → test (suc most) ≡ b
    → (greatest test most ≡ 0) ⊎ (test (greatest test most) ≡ true)
    → (greatest test (suc most) ≡ 0) ⊎ (test (greatest test (suc most)) ≡ true)
passes-more test most true e below =
    let is : greatest test (suc most) ≡ suc most = greatest-suc test most ∙ rw e refl in
    inr (ap test is ∙ e)
passes-more test most false e (inl none) =
    let is : greatest test (suc most) ≡ greatest test most = greatest-suc test most ∙ rw e refl in
    inl (is ∙ none)
passes-more test most false e (inr passed) =
    let is : greatest test (suc most) ≡ greatest test most = greatest-suc test most ∙ rw e refl in
    inr (ap test is ∙ passed)

greatest-passes : (test : ℕ → Bool) (most : ℕ)
    → (greatest test most ≡ 0) ⊎ (test (greatest test most) ≡ true)
greatest-passes test zero = inl (greatest-zero test)
greatest-passes test (suc most) =
    passes-more test most (test (suc most)) refl (greatest-passes test most)

empty-short : (id : ℕ) → page_length_with_id id 0 ≤ 19
empty-short id =
    let number : element_length (length (integer_octets (pos id))) ≤ 10 =
    element-length-le (length (integer_octets (pos id))) 8 (length-integer_octets (pos id)) in
    element-length-le (element_length (length (integer_octets (pos id))) + 7) 17 (omega arith)

page-short : (id size n : ℕ) (names : List (List ℕ)) (more : Bool) → 256 ≤ size
    → (n ≡ 0) ⊎ (fits id size (take n names) ≡ true)
    → length (page_text id (take n names) more) ≤ size
page-short id size n names more some (inl none) =
    subst (λ (k : ℕ). length (page_text id (take k names) more) ≤ size) (sym none)
    (let is = page-is id [] more in let few = empty-short id in
    subst (λ (k : ℕ). k ≤ size) (sym is) (omega arith))
page-short id size n names more some (inr fit) =
    let le : length (page_text id (take n names) false) ≤ size =
    leb-true (length (page_text id (take n names) false)) size fit in
    subst (λ (k : ℕ). k ≤ size)
    (page-is id (take n names) false ∙ sym (page-is id (take n names) more)) le

pub first-page-short : (id size : ℕ) (names : List (List ℕ)) → 256 ≤ size
    → length (first_page id size names) ≤ size
first-page-short id size names some =
    page-short id size (names_on_page id size names) names
    (ltb (names_on_page id size names) (length names)) some
    (greatest-passes (λ n. fits id size (take n names)) (min 100 (length names)))
