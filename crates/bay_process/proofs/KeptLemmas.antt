-- What is kept of the releases of all switches is what the rows have.
use Rattle.std.proofs.Common.{◌≡◌, ℕ, zero, suc, ◌+◌, ◌<◌, ◌^◌, ◌⊎◌, inl, inr, Bool, true, false, nat_eq, List, [], ◌∷◌, ◌++◌, codes, drop, length, slice_get, slice_set, Some, refl, ap, sym, subst, ◌∙◌, arith, append_assoc, length-append}
use Rattle.std.specs.Bool.{beq}
use Rattle.std.proofs.lemmas.Bool.Decides.{nat_tests}
use Rattle.std.proofs.lemmas.Option.{same_Some, slice_get_within}
use Rattle.bay_tree.specs.Rows.{leaf_named}
use Rattle.bay_tree.specs.declared.row.Row.{Row}
use Rattle.bay_nodes.specs.Names.{SwitchNames, closing_names_at, cilo_name, opening_names_at}
use Rattle.bay_nodes.specs.declared.switch.Switch.{Switch}
use Rattle.il_image.proofs.SetLemmas.{set-elsewhere, set-here}
use Rattle.bay_process.specs.Layout.{switches_of}
use Rattle.bay_process.specs.Releases.{ShowsReleases, digit_octet, digit_text, digits_from, text_before_digits, released_text, switch_text}
use Rattle.bay_process.specs.ReportedRows.{AreStored, HoldsRelease, enabled_at, enabled_from}
use Rattle.bay_process.specs.Values.{is_truth, with_enabled, with_output}
use Rattle.bay_process.specs.declared.releases.Releases.{Releases}
use Rattle.bay_process.specs.declared.switch.BoundSwitch.{BoundSwitch}
use Rattle.bay_process.specs.declared.switch.SwitchEnables.{SwitchEnables}
use Rattle.bay_process.proofs.ToldLemmas.{Keeps, enabled-same, keeps-output}

-- ---- what the rows have

from-length : (rows : List Row) (k : ℕ) (ss : List Switch)
    → length (enabled_from rows k ss) ≡ length ss
from-length rows k [] = refl
from-length rows k (s ∷ ss) = ap suc (from-length rows (k + 1) ss)

pub from-shown : (rows : List Row) (n : ℕ) (ss : List Switch) (j i : ℕ) (e : SwitchEnables)
    → i ≡ n + j
    → slice_get (enabled_from rows n ss) j ≡ Some e → enabled_at rows i ≡ e
from-shown rows n [] zero i e at here = absurd cc
from-shown rows n [] (suc j) i e at here = absurd cc
from-shown rows n (s ∷ ss) zero i e at here =
    let own : i ≡ n = omega (arith, at) in
    ap (enabled_at rows) own ∙ same_Some (enabled_at rows n) e here
from-shown rows n (s ∷ ss) (suc j) i e at here =
    from-shown rows (n + 1) ss j i e (omega (arith, at)) here

from-all : (rows : List Row) (n : ℕ) (ss : List Switch) (enables : List SwitchEnables)
    → length enables ≡ length ss
    → ((j i : ℕ) (e : SwitchEnables) → i ≡ n + j → slice_get enables j ≡ Some e
    → enabled_at rows i ≡ e)
    → enables ≡ enabled_from rows n ss
from-all rows n [] [] sized all = refl
from-all rows n [] (e ∷ enables) sized all = absurd (omega (arith, sized))
from-all rows n (s ∷ ss) [] sized all = absurd (omega (arith, sized))
from-all rows n (s ∷ ss) (e ∷ enables) sized all =
    ap (λ (d : SwitchEnables). d ∷ enables) (sym (all 0 n e (omega arith) refl))
    ∙ ap (λ es. enabled_at rows n ∷ es) (from-all rows (n + 1) ss enables (omega (arith, sized))
    (λ j i d at here. all (suc j) i d (omega (arith, at)) here))

-- it is enough that the text shows what each row has
record Keeping (rows : List Row) (ss : List Switch) (n : ℕ) (r : Releases)
    (enables : List SwitchEnables) : Type 0 where
  shows : ShowsReleases ss enables r.text.items r.offsets.items
  shown : (k : ℕ) (e : SwitchEnables) → slice_get enables k ≡ Some e → enabled_at rows k ≡ e
  written : (k : ℕ) (e : SwitchEnables) → slice_get enables k ≡ Some e
      → (r.is_written ≡ true) ⊎ (k < n) → HoldsRelease rows k e

kept-by : (rows : List Row) (ss : List Switch) (n : ℕ) (r : Releases) (enables : List SwitchEnables)
    → Keeping rows ss n r enables → AreStored rows ss n r
kept-by rows ss n r enables k =
    let is : enables ≡ enabled_from rows 0 ss =
    from-all rows 0 ss enables k.shows.sized
    (λ j i e at here. ap (enabled_at rows) (omega (arith, at)) ∙ k.shown j e here) in
    record {
      shows = subst (λ es. ShowsReleases ss es r.text.items r.offsets.items) is k.shows;
      written = subst (λ es. (j : ℕ) (e : SwitchEnables) → slice_get es j ≡ Some e
          → (r.is_written ≡ true) ⊎ (j < n) → HoldsRelease rows j e) is k.written;
    }

-- what is said of a switch stands where its node's names keep their values
abbrev StaysAt : ℕ → List Row → List Row → Type 0
StaysAt k rows new = (s : List ℕ)
    → leaf_named (cilo_name k ++ 36 ∷ s) new ≡ leaf_named (cilo_name k ++ 36 ∷ s) rows

told-stays : (rows new : List Row) (k : ℕ) (e : SwitchEnables) → StaysAt k rows new
    → HoldsRelease rows k e
    → HoldsRelease new k e
told-stays rows new k e stays is = record {
  opening =
      record {
        value_is = stays _ ∙ is.opening.value_is;
        quality_is = stays _ ∙ is.opening.quality_is;
      };
  closing =
      record {
        value_is = stays _ ∙ is.closing.value_is;
        quality_is = stays _ ∙ is.closing.quality_is;
      };
}

shown-stays : (rows new : List Row) (k : ℕ) → StaysAt k rows new
    → enabled_at new k ≡ enabled_at rows k
shown-stays rows new k stays =
    ap (λ o. let e : SwitchEnables = record {
      may_open = is_truth true o;
      may_close = is_truth true (leaf_named (closing_names_at k).value new);
    } in e) (stays _)
    ∙ ap (λ o. let e : SwitchEnables = record {
      may_open = is_truth true (leaf_named (opening_names_at k).value rows);
      may_close = is_truth true o;
    } in e) (stays _)

-- and so what is kept stands
pub kept-stays : (rows new : List Row) (ss : List Switch) (r : Releases) → AreStored rows ss 0 r
    → Keeps rows new → AreStored new ss 0 r
kept-stays rows new ss r kept keeps =
    kept-by new ss 0 r (enabled_from rows 0 ss) record {
      shows = kept.shows;
      shown = λ k e here. shown-stays rows new k (λ s. keeps k (36 ∷ s))
          ∙ from-shown rows 0 ss k k e (omega arith) here;
      written = λ k e here by.
          told-stays rows new k e (λ s. keeps k (36 ∷ s)) (kept.written k e here by);
    }

-- ---- what is kept of all switches

beq-true : (b : Bool) → beq true b ≡ b
beq-true true = refl
beq-true false = refl

told-shown : (rows : List Row) (k : ℕ) (e : SwitchEnables) → HoldsRelease rows k e
    → enabled_at rows k ≡ e
told-shown rows k e is =
    ap (λ o. let d : SwitchEnables = record {
      may_open = is_truth true o;
      may_close = is_truth true (leaf_named (closing_names_at k).value rows);
    } in d) is.opening.value_is
    ∙ ap (λ o. let d : SwitchEnables = record {
      may_open = beq true e.may_open;
      may_close = is_truth true o;
    } in d) is.closing.value_is
    ∙ ap (λ b. let d : SwitchEnables = record { may_open = b; may_close = beq true e.may_close } in
    d)
    (beq-true e.may_open)
    ∙ ap (λ b. let d : SwitchEnables = record { may_open = e.may_open; may_close = b } in d)
    (beq-true e.may_close)

-- what stands is not written again
pub output-same : (rows : List Row) (k : ℕ) (stood e : SwitchEnables) (names : SwitchNames)
    (now : ℕ)
    → names.ena_opn ≡ opening_names_at k → names.ena_cls ≡ closing_names_at k
    → HoldsRelease rows k stood
    → beq e.may_open stood.may_open ≡ true → beq e.may_close stood.may_close ≡ true
    → with_output names e.may_open e.may_close now rows ≡ rows
output-same rows k stood e names now opens closes is one other =
    let first : with_enabled names.ena_opn e.may_open now rows ≡ rows =
    ap (λ n. with_enabled n e.may_open now rows) opens
    ∙ enabled-same (opening_names_at k) e.may_open stood.may_open now rows is.opening one in
    ap (λ rs. with_enabled names.ena_cls e.may_close now rs) first
    ∙ ap (λ n. with_enabled n e.may_close now rows) closes
    ∙ enabled-same (closing_names_at k) e.may_close stood.may_close now rows is.closing other

-- one switch more was written
module _ (rows new : List Row) (ss : List Switch) (i : ℕ) (r q : Releases) (enabled : SwitchEnables)
    (now : ℕ) (kept : AreStored rows ss i r) (within : i < length ss) (few : length ss < 2 ^ 64)
    (flag : q.is_written ≡ r.is_written) (own : HoldsRelease new i enabled)
    (is : new ≡ with_enabled (closing_names_at i) enabled.may_close now
    (with_enabled (opening_names_at i) enabled.may_open now rows)) where
  abbrev AtPlace : ℕ → SwitchEnables → Type 0
  AtPlace k e =
      (enabled_at new k ≡ e) × ((q.is_written ≡ true) ⊎ (k < i + 1) → HoldsRelease new k e)

  at-place : (b : Bool) (k : ℕ) (e : SwitchEnables) → nat_eq k i ≡ b
      → slice_get (slice_set (enabled_from rows 0 ss) i enabled) k ≡ Some e → AtPlace k e
  at-place true k e same here =
      let at : k ≡ i = grind (arith, nat_tests) in
      let inside : i < length (enabled_from rows 0 ss) = omega (arith, within, kept.shows.sized) in
      let one : enabled ≡ e =
      same_Some enabled e (sym (set-here (enabled_from rows 0 ss) i enabled inside)
      ∙ ap (slice_get (slice_set (enabled_from rows 0 ss) i enabled)) (sym at) ∙ here) in
      let stands : HoldsRelease new k e =
      subst (λ n. HoldsRelease new n e) (sym at) (subst (HoldsRelease new i) one own) in
      (told-shown new k e stands, λ by. stands)
  at-place false k e same here =
      let apart : k ≡ i → ⊥ = λ at. let no : nat_eq k i ≡ true =
      grind (arith, nat_tests) in absurd cc in
      let before : slice_get (enabled_from rows 0 ss) k ≡ Some e =
      sym (set-elsewhere (enabled_from rows 0 ss) i k enabled apart) ∙ here in
      let inside = slice_get_within (enabled_from rows 0 ss) k e before in
      let stays : StaysAt k rows new =
      λ s. rw is (keeps-output k i (omega (arith, inside, kept.shows.sized, few))
      (omega (arith, within, few)) apart enabled.may_open enabled.may_close now rows s) in (
        shown-stays rows new k stays ∙ from-shown rows 0 ss k k e (omega arith) before,
        λ by. told-stays rows new k e stays (kept.written k e before (elim by [
          | inl all ↦ inl (sym flag ∙ all)
          | inr less ↦ inr (omega (arith, less, apart))
        ])),
      )

  pub kept-written : ShowsReleases ss (slice_set (enabled_from rows 0 ss) i enabled) q.text.items
      q.offsets.items → AreStored new ss (i + 1) q
  kept-written shows =
      kept-by new ss (i + 1) q (slice_set (enabled_from rows 0 ss) i enabled) record {
        shows = shows;
        shown = λ k e here. (at-place (nat_eq k i) k e refl here).0;
        written = λ k e here by. (at-place (nat_eq k i) k e refl here).1 by;
      }

-- ---- what a tree tells before the first scan

-- the text of the switches from a place on
abbrev pub rest-text : List Row → ℕ → List BoundSwitch → List ℕ
rest-text rows k bs = released_text (switches_of bs) (enabled_from rows k (switches_of bs))

-- one switch more is told
added : (t id : List ℕ) (o c : Bool)
    → ((t ++ (32 ∷ [])) ++ id) ++ (61 ∷ digit_octet o ∷ digit_octet c ∷ [])
    ≡ t ++ switch_text id o c
added t id o c =
    append_assoc (t ++ (32 ∷ [])) id (61 ∷ digit_octet o ∷ digit_octet c ∷ [])
    ∙ append_assoc t (32 ∷ []) (id ++ (61 ∷ digit_octet o ∷ digit_octet c ∷ []))
    ∙ ap (λ u. t ++ (32 ∷ u)) (sym (append_assoc id (61 ∷ []) (digit_octet o ∷ digit_octet c ∷ []))
    ∙ by-digits o c)
  where
    by-digits : (o c : Bool) → (id ++ (61 ∷ [])) ++ (digit_octet o ∷ digit_octet c ∷ [])
        ≡ (id ++ (61 ∷ [])) ++ (digit_text o ++ digit_text c)
    by-digits true true = refl
    by-digits true false = refl
    by-digits false true = refl
    by-digits false false = refl

module _ (rows : List Row) (bs : List BoundSwitch) (i : ℕ) (b : BoundSwitch)
    (next : drop i bs ≡ b ∷ drop (i + 1) bs) (t : List ℕ) (o c : Bool)
    (opens : o ≡ is_truth true (leaf_named (opening_names_at i).value rows))
    (closes : c ≡ is_truth true (leaf_named (closing_names_at i).value rows)) where
  abbrev more : List ℕ
  more = ((t ++ (32 ∷ [])) ++ b.switch.id) ++ (61 ∷ digit_octet o ∷ digit_octet c ∷ [])

  pub text-turn : t ++ rest-text rows i (drop i bs)
      ≡ more ++ rest-text rows (i + 1) (drop (i + 1) bs)
  text-turn =
      let rest = rest-text rows (i + 1) (drop (i + 1) bs) in
      ap (λ xs. t ++ rest-text rows i xs) next
      ∙ ap (λ x. t ++ (switch_text b.switch.id x
      (is_truth true (leaf_named (closing_names_at i).value rows))
      ++ rest)) (sym opens)
      ∙ ap (λ x. t ++ (switch_text b.switch.id o x ++ rest)) (sym closes)
      ∙ sym (append_assoc t (switch_text b.switch.id o c) rest)
      ∙ ap (λ u. u ++ rest) (sym (added t b.switch.id o c))

  pub places-turn : (offsets : List ℕ)
      → offsets ++ digits_from (length t) (switches_of (drop i bs))
      ≡ (offsets ++ ((length ((t ++ (32 ∷ [])) ++ b.switch.id) + 1) ∷ []))
      ++ digits_from (length more) (switches_of (drop (i + 1) bs))
  places-turn offsets =
      let id = b.switch.id in
      let rest = switches_of (drop (i + 1) bs) in
      let before : length ((t ++ (32 ∷ [])) ++ id) ≡ length t + 1 + length id =
      omega (arith, length-append (t ++ (32 ∷ [])) id, length-append t (32 ∷ [])) in
      let first : length t + length (text_before_digits b.switch)
      ≡ length ((t ++ (32 ∷ [])) ++ id) + 1 =
      omega (arith, before, length-append (codes " " ++ id) (codes "=")) in
      let after : length t + length (text_before_digits b.switch) + 2 ≡ length more =
      omega (
        arith,
        first,
        length-append ((t ++ (32 ∷ [])) ++ id)
            (61 ∷ digit_octet o ∷ digit_octet c ∷ []),
      ) in
      ap (λ xs. offsets ++ digits_from (length t) (switches_of xs)) next
      ∙ ap (λ n. offsets ++ (n
      ∷ digits_from (length t + length (text_before_digits b.switch) + 2) rest)) first
      ∙ ap (λ n. offsets ++ ((length ((t ++ (32 ∷ [])) ++ id) + 1) ∷ digits_from n rest)) after
      ∙ sym (append_assoc offsets ((length ((t ++ (32 ∷ [])) ++ id) + 1) ∷ [])
      (digits_from (length more) rest))

-- nothing was written
pub first-kept : (rows : List Row) (bs : List BoundSwitch) (r : Releases) → r.is_written ≡ false
    → r.text.items ≡ rest-text rows 0 bs ++ codes "\n"
    → r.offsets.items ≡ digits_from 0 (switches_of bs) → AreStored rows (switches_of bs) 0 r
first-kept rows bs r flag text offsets = record {
  shows =
      record {
        sized = from-length rows 0 (switches_of bs);
        text_is = text;
        places_are = offsets;
      };
  written = λ k e here by. elim by [
    | inl all ↦ absurd (let none : false ≡ true = sym flag ∙ all in cc)
    | inr less ↦ absurd (omega (arith, less))
  ];
}
