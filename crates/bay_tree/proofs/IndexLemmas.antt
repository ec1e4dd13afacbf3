-- The chains of the rows of one bucket.
use Rattle.std.proofs.Common.{◌≡◌, ◌≢◌, ℕ, suc, ◌+◌, ◌-◌, ◌<◌, ◌≤◌, Bool, true, false, cond, Option, Some, None, IfSome, List, [], ◌∷◌, length, drop, refl, ap, sym, ◌∙◌, ⊎_elim, arith, add-one}
use Rattle.std.proofs.Math.ListN.{get_or, replicate, set}
use Rattle.std.proofs.Math.Nat.{mod-lt}
use Rattle.std.proofs.Math.Seq.{drop-cons}
use Rattle.std.proofs.lemmas.Bool.{cases_eq, false_from_ne_true}
use Rattle.std.proofs.lemmas.Bool.Decides.{Decides-eqb}
use Rattle.std.proofs.lemmas.Iterator.Adapters.{position_from-zero}
use Rattle.std.proofs.lemmas.List.{drop-drop, drop_all, get_or-drop, get_or-replicate, get_or-set_other, get_or-set_same, length-drop, length-replicate, length-set}
use Rattle.std.proofs.lemmas.Slice.Eq.{bytes_eq-Decides}
use Rattle.std.specs.List.{position_from}
use Rattle.std.specs.Str.{bytes_eq}
use Rattle.bay_tree.specs.declared.index.Index.{Index}
use Rattle.bay_tree.specs.declared.row.Row.{Row}
use Rattle.bay_tree.specs.Arena.{IsIndex, bucket_of, is_in_bucket}
use Rattle.bay_tree.specs.Rows.{row_at, name_at, row_index}
use Rattle.bay_tree.proofs.BelowLemmas.{position_from-start, position_from-end}
use Rattle.bay_tree.proofs.NamedLemmas.{other-text}

-- one more row in front of those searched
pub search-here : (test : Row → Bool) (rows : List Row) (i : ℕ) → i < length rows
    → position_from test i (drop i rows)
    ≡ cond (test (row_at rows i)) (Some i) (position_from test (i + 1) (drop (i + 1) rows))
search-here test rows i lt =
    let split : drop i rows ≡ row_at rows i ∷ drop (suc i) rows =
    drop-cons rows i (record { name = []; leaf = None }) lt in
    ap (λ rest. position_from test i rest) split
    ∙ ap (λ n. cond (test (row_at rows i)) (Some i) (position_from test (i + 1) (drop n rows)))
    (sym (add-one i))

rest-of : (rows here : List Row) (row : Row) (start : ℕ) → drop start rows ≡ row ∷ here
    → drop (start + 1) rows ≡ here
rest-of rows here row start at = sym (drop-drop 1 start rows) ∙ ap (drop 1) at

-- a search that begins at a place, if there is one
abbrev pub since : (Row → Bool) → List Row → Option ℕ → Option ℕ
since test rows None = None
since test rows (Some place) = position_from test place (drop place rows)

-- A row that passes one test passes another: so the search by the one may begin where the search by
-- the other ends.
module _ (t u : Row → Bool) (more : (row : Row) → t row ≡ true → u row ≡ true) (rows : List Row)
  where
    since-row : (row : Row) (here : List Row) (start : ℕ) (b : Bool) → u row ≡ b
        → drop start rows ≡ row ∷ here
        → position_from t (start + 1) here ≡ since t rows (position_from u (start + 1) here)
        → position_from t start (row ∷ here)
        ≡ since t rows (cond b (Some start) (position_from u (start + 1) here))
    since-row row here start true is at later = ap (position_from t start) (sym at)
    since-row row here start false is at later =
        ap (λ b. cond b (Some start) (position_from t (start + 1) here))
        (false_from_ne_true (t row) (λ yes. let passes = more row yes in cc)) ∙ later

    since-here : (here : List Row) (start : ℕ) → drop start rows ≡ here
        → position_from t start here ≡ since t rows (position_from u start here)
    since-here [] start at = refl
    since-here (row ∷ here) start at =
        since-row row here start (u row) refl at
        (since-here here (start + 1) (rest-of rows here row start at))

    pub since-of : (start : ℕ)
        → position_from t start (drop start rows)
        ≡ since t rows (position_from u start (drop start rows))
    since-of start = since-here (drop start rows) start refl

passes-row : (test : Row → Bool) (rows here : List Row) (row : Row) (start q : ℕ) (b : Bool)
    → test row ≡ b → drop start rows ≡ row ∷ here
    → cond b (Some start) (position_from test (start + 1) here) ≡ Some q
    → (position_from test (start + 1) here ≡ Some q → test (row_at rows q) ≡ true)
    → test (row_at rows q) ≡ true
passes-row test rows here row start q true is at found later =
    let same : start ≡ q = cc in
    let none : Row = record { name = []; leaf = None } in
    let own : get_or rows (start + 0) none ≡ row =
    sym (get_or-drop start rows 0 none) ∙ ap (λ rest. get_or rest 0 none) at in
    let at_start : start + 0 ≡ q = omega arith in
    ap test (sym (ap (λ n. get_or rows n none) at_start) ∙ own) ∙ is
passes-row test rows here row start q false is at found later = later found

passes-here : (test : Row → Bool) (rows here : List Row) (start q : ℕ) → drop start rows ≡ here
    → position_from test start here ≡ Some q → test (row_at rows q) ≡ true
passes-here test rows [] start q at found = absurd cc
passes-here test rows (row ∷ here) start q at found =
    passes-row test rows here row start q (test row) refl at found
    (passes-here test rows here (start + 1) q (rest-of rows here row start at))

-- what a search from a place on finds stands there or behind it, and passes
found-from : (test : Row → Bool) (rows : List Row) (start q : ℕ) → start ≤ length rows
    → position_from test start (drop start rows) ≡ Some q
    → (start ≤ q) × (q < length rows) × (test (row_at rows q) ≡ true)
found-from test rows start q within found =
    let behind = position_from-start test (drop start rows) start q found in
    let before = position_from-end test (drop start rows) start q found in
    let rest : length (drop start rows) ≡ length rows - start = length-drop start rows in
    (behind, omega arith, passes-here test rows (drop start rows) start q refl found)

-- a row with a name stands in the bucket of that name
in-bucket : (count : ℕ) (name : List ℕ) (row : Row) → bytes_eq row.name name ≡ true
    → is_in_bucket count (bucket_of count name) row ≡ true
in-bucket count name row named =
    (Decides-eqb (bucket_of count row.name) (bucket_of count name)).1
    (ap (bucket_of count) ((bytes_eq-Decides row.name name).0 named))

abbrev named : List ℕ → Row → Bool
named name row = bytes_eq row.name name

-- the name is yet to be sought from a place on, which stands in its bucket
pub record IsSought (rows : List Row) (index : Index) (name : List ℕ) (at : Option ℕ) : Type 0 where
  pub left : row_index rows name ≡ since (named name) rows at
  pub there : IfSome at (λ place. (place < length rows)
      × (bucket_of (length index.first.items) (name_at rows place)
      ≡ bucket_of (length index.first.items) name))

-- what a chain leads to from a place on
on-chain : (rows : List Row) (count bucket start : ℕ) (at : Option ℕ) → start ≤ length rows
    → at ≡ position_from (is_in_bucket count bucket) start (drop start rows)
    → IfSome at (λ place. (start ≤ place) × (place < length rows)
    × (bucket_of count (name_at rows place) ≡ bucket))
on-chain rows count bucket start None within is = tt
on-chain rows count bucket start (Some place) within is =
    let found = found-from (is_in_bucket count bucket) rows start place within (sym is) in
    (found.0, found.1, (Decides-eqb (bucket_of count (name_at rows place)) bucket).0 found.2)

weaker : (o : Option ℕ) (P Q : ℕ → Type 0) → ((k : ℕ) → P k → Q k) → IfSome o P → IfSome o Q
weaker None P Q f h = tt
weaker (Some k) P Q f h = f k h

sought : (rows : List Row) (index : Index) (name : List ℕ) (bucket start : ℕ) (at : Option ℕ)
    → start ≤ length rows → bucket ≡ bucket_of (length index.first.items) name
    → at ≡ position_from (is_in_bucket (length index.first.items) bucket) start (drop start rows)
    → row_index rows name ≡ position_from (named name) start (drop start rows)
    → IsSought rows index name at
sought rows index name bucket start at within own is left = record {
  left = left
      ∙ since-of (named name) (is_in_bucket (length index.first.items) bucket)
      (λ row passes. rw own (in-bucket (length index.first.items) name row passes)) rows start
      ∙ ap (since (named name) rows) (sym is);
  there = weaker at _ _ (λ place w. (w.1, w.2 ∙ own))
      (on-chain rows (length index.first.items) bucket start at within is);
}

pub sought-first : (rows : List Row) (index : Index) (name : List ℕ) → IsIndex rows index
    → IsSought rows index name
    (get_or index.first.items (bucket_of (length index.first.items) name) None)
sought-first rows index name indexed =
    let bucket = bucket_of (length index.first.items) name in
    sought rows index name bucket 0 (get_or index.first.items bucket None) (omega arith) refl
    (indexed.first bucket (mod-lt _ indexed.some))
    (position_from-zero (named name) rows)

passed-over : (rows : List Row) (name : List ℕ) (place : ℕ) → place < length rows
    → name_at rows place ≢ name
    → position_from (named name) place (drop place rows)
    ≡ position_from (named name) (place + 1) (drop (place + 1) rows)
passed-over rows name place within other =
    search-here (named name) rows place within
    ∙ ap (λ b. cond b (Some place) (position_from (named name) (place + 1) (drop (place + 1) rows)))
    (other-text (name_at rows place) name other)

pub sought-next : (rows : List Row) (index : Index) (name : List ℕ) (place : ℕ)
    → IsIndex rows index → IsSought rows index name (Some place) → name_at rows place ≢ name
    → IsSought rows index name (get_or index.next.items place None)
    × IfSome (get_or index.next.items place None) (λ next. place < next)
sought-next rows index name place indexed at other =
    let count = length index.first.items in
    let next = indexed.next place at.there.0 in (
      sought rows index name (bucket_of count (name_at rows place)) (place + 1)
          (get_or index.next.items place None) (omega (arith, at.there.0)) at.there.1 next
          (at.left ∙ passed-over rows name place at.there.0 other),
      weaker (get_or index.next.items place None) _ _ (λ k w. omega (arith, w.0))
          (on-chain rows count (bucket_of count (name_at rows place)) (place + 1)
          (get_or index.next.items place None) (omega (arith, at.there.0)) next),
    )

pub sought-here : (rows : List Row) (index : Index) (name : List ℕ) (place : ℕ)
    → IsSought rows index name (Some place) → name_at rows place ≡ name
    → row_index rows name ≡ Some place
sought-here rows index name place at own =
    at.left ∙ search-here (named name) rows place at.there.0
    ∙ ap (λ b. cond b (Some place)
    (position_from (named name) (place + 1) (drop (place + 1) rows)))
    ((bytes_eq-Decides (name_at rows place) name).1 own)

-- how many rows may yet be looked at
abbrev pub rows_left : ℕ → Option ℕ → ℕ
rows_left count None = 0
rows_left count (Some place) = count - place

pub rows_left-next : (count place : ℕ) (next : Option ℕ) → place < count
    → IfSome next (λ k. place < k) → rows_left count next < rows_left count (Some place)
rows_left-next count place None within later = omega arith
rows_left-next count place (Some k) within later = omega arith

-- the index of the rows from one row on
pub record IsIndexing (start : ℕ) (rows : List Row) (most : ℕ) (first next : List (Option ℕ))
    : Type 0 where
  pub longest : (k : ℕ) → start ≤ k → k < length rows → length (name_at rows k) ≤ most
  pub count : length first ≡ length rows + 1
  pub long : length next ≡ length rows
  pub heads : (b : ℕ) → b < length rows + 1 → get_or first b None
      ≡ position_from (is_in_bucket (length rows + 1) b) start (drop start rows)
  pub chains : (k : ℕ) → start ≤ k → k < length rows → get_or next k None
      ≡ position_from (is_in_bucket (length rows + 1)
      (bucket_of (length rows + 1) (name_at rows k))) (k + 1) (drop (k + 1) rows)

pub indexing-none : (rows : List Row)
    → IsIndexing (length rows) rows 0 (replicate (length rows + 1) None)
    (replicate (length rows) None)
indexing-none rows = record {
  longest = λ k le lt. absurd (omega arith);
  count = length-replicate (length rows + 1) None;
  long = length-replicate (length rows) None;
  heads = λ b lt. get_or-replicate (length rows + 1) b None None lt
      ∙ sym (ap (position_from (is_in_bucket (length rows + 1) b) (length rows))
      (drop_all (length rows) rows (omega arith)));
  chains = λ k le lt. absurd (omega arith);
}

-- a row is put before the others of its bucket
pub indexing-put : (rows : List Row) (longest longer : ℕ) (first next : List (Option ℕ)) (i b : ℕ)
    → i < length rows
    → b ≡ bucket_of (length rows + 1) (name_at rows i) → b < length rows + 1
    → longest ≤ longer → length (name_at rows i) ≤ longer
    → IsIndexing (i + 1) rows longest first next
    → IsIndexing i rows longer (set first b (Some i)) (set next i (get_or first b None))
indexing-put rows longest longer first next i b lt own within more fits at =
    let count = length rows + 1 in
    let in_first : b < length first = omega (arith, at.count) in
    let in_next : i < length next = omega (arith, at.long) in
    let rest = λ (n : ℕ). position_from (is_in_bucket count n) (i + 1) (drop (i + 1) rows) in
    record {
      longest = λ k le lt. ⊎_elim
          (λ (here : k ≡ i). rw here fits)
          (λ (other : k ≢ i).
          let after = at.longest k (omega (arith, other)) lt in omega (arith, after, more))
          (cases_eq k i);
      count = length-set first b (Some i) ∙ at.count;
      long = length-set next i (get_or first b None) ∙ at.long;
      heads = λ n in_n. ⊎_elim
          (λ (here : n ≡ b). rw here (get_or-set_same first b (Some i) None in_first
          ∙ sym (search-here (is_in_bucket count b) rows i lt
          ∙ ap (λ t. cond t (Some i) (rest b))
          ((Decides-eqb (bucket_of count (name_at rows i)) b).1 (sym own)))))
          (λ (other : n ≢ b). get_or-set_other first b n (Some i) None other
          ∙ at.heads n in_n
          ∙ sym (search-here (is_in_bucket count n) rows i lt
          ∙ ap (λ t. cond t (Some i) (rest n))
          (false_from_ne_true (is_in_bucket count n (row_at rows i))
          (λ yes. other (sym ((Decides-eqb (bucket_of count (name_at rows i)) n).0 yes)
          ∙ sym own)))))
          (cases_eq n b);
      chains = λ k le in_k. ⊎_elim
          (λ (here : k ≡ i). rw here (get_or-set_same next i (get_or first b None) None in_next
          ∙ at.heads b within ∙ ap rest own))
          (λ (other : k ≢ i). get_or-set_other next i k (get_or first b None) None other
          ∙ at.chains k (omega (arith, other)) in_k)
          (cases_eq k i);
    }

pub indexing-all : (rows : List Row) (index : Index)
    → IsIndexing 0 rows index.longest index.first.items index.next.items → IsIndex rows index
indexing-all rows index at = record {
  longest = λ k lt. at.longest k (omega arith) lt;
  some = omega (arith, at.count);
  first = λ b lt. rw at.count (at.heads b (omega (arith, at.count)));
  long = at.long;
  next = λ k lt. rw at.count (at.chains k (omega arith) lt);
}
