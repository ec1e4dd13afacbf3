-- Lemmas on the views of switches that have not changed.
use Rattle.std.proofs.Common.{◌≡◌, ℕ, zero, suc, ◌+◌, ◌<◌, ◌≤◌, ◌⊎◌, inl, inr, min, false, List, [], ◌∷◌, codes, length, drop, get_or, nat_lt, replicate, None, arith, refl, sym, subst, add-one, ◌∙◌}
use Rattle.std.proofs.Math.Seq.{drop-cons}
use Rattle.std.proofs.lemmas.Bool.Decides.{nat_tests}
use Rattle.std.proofs.lemmas.List.{drop_all}
use Rattle.bay_device.specs.Device.{State}
use Rattle.bay_server.specs.ChangeLines.{AreSeen, position_word, release_word, switch_view_at, view_log, switch_log, switches_log, word_log}
use Rattle.bay_server.specs.LogLines.{id_of}
use Rattle.bay_server.specs.declared.change_lines.Column.{Column}
use Rattle.bay_server.specs.declared.change_lines.Column.TheVariants.{Position, Release}
use Rattle.bay_server.specs.declared.change_lines.SwitchView.{SwitchView}
use Rattle.bay_tree.proofs.NamedLemmas.{same-text}

-- ---- switches that the bay does not have

abbrev pub no_view : SwitchView
no_view = record { position = None; release = None }

pub no-view-in : (n k : ℕ) → get_or (replicate n no_view) k no_view ≡ no_view
no-view-in zero k = refl
no-view-in (suc n) zero = refl
no-view-in (suc n) (suc k) = no-view-in n k

pub no-view-past : (s : State) (k : ℕ) → length s.switches ≤ k → switch_view_at s k ≡ no_view
no-view-past s k past =
    let none : nat_lt k (length s.switches) ≡ false = grind (arith, nat_tests, past) in
    rw none refl

pub below-both : (k m n : ℕ) → k < min m n → (k < m) × (k < n)
below-both k m n lt = (omega (arith, lt), omega (arith, lt))

-- after the last own switch each view is that of the switch at its index
pub by-end : (s : State) (views : List SwitchView) (k count last : ℕ) → count ≡ length s.switches
    → k < 32 → min count 32 ≤ last
    → ((i : ℕ) → i < last → get_or views i no_view ≡ switch_view_at s i)
    → ((i : ℕ) → count ≤ i → get_or views i no_view ≡ no_view)
    → get_or views k no_view ≡ switch_view_at s k
by-end s views k count last is lt end seen others = by-order (order k count)
  where
    order : (a b : ℕ) → (a < b) ⊎ (b ≤ a)
    order a zero = inr (omega arith)
    order zero (suc b) = inl (omega arith)
    order (suc a) (suc b) = by-less (order a b)
      where
        by-less : (a < b) ⊎ (b ≤ a) → (suc a < suc b) ⊎ (suc b ≤ suc a)
        by-less (inl less) = inl (omega (arith, less))
        by-less (inr more) = inr (omega (arith, more))

    by-order : (k < count) ⊎ (count ≤ k) → get_or views k no_view ≡ switch_view_at s k
    by-order (inl own) = seen k (omega (arith, own, lt, end))
    by-order (inr past) =
        others k past ∙ sym (no-view-past s k (subst (λ n. n ≤ k) is past))

-- ---- views that stay

-- a word that stays is not logged
word-stays : (now : ℕ) (what id word : List ℕ) → word_log now what id word word ≡ []
word-stays now what id word = rw (same-text word) refl

-- a view that stays is not logged
view-stays : (column : Column) (now : ℕ) (id : List ℕ) (view : SwitchView)
    → view_log column now id view view ≡ []
view-stays Position now id view =
    word-stays now (codes " position ") id (position_word view.position)
view-stays Release now id view = word-stays now (codes " release ") id (release_word view.release)

-- views that stay are not logged
pub views-stay : (column : Column) (now : ℕ) (s : State) (k : ℕ) (views : List SwitchView)
    → AreSeen s k views → switches_log column now s k views ≡ []
views-stay column now s k [] seen = refl
views-stay column now s k (view ∷ views) seen =
    let first : switch_log column now s k view ≡ [] =
    subst (λ v. view_log column now (id_of s k) v (switch_view_at s k) ≡ []) (sym seen.0)
    (view-stays column now (id_of s k) (switch_view_at s k)) in
    rw (first, views-stay column now s (k + 1) views seen.1) refl

-- the views before one stay
module _ (s : State) (views : List SwitchView) where
  pub record StayUpTo (k : ℕ) : Type 0 where
    pub goes : AreSeen s k (drop k views) → AreSeen s 0 views

  pub stay-start : StayUpTo 0
  stay-start = record { goes = λ rest. rest }

  pub stay-next : (k : ℕ) (d : SwitchView) → StayUpTo k → k < length views
      → get_or views k d ≡ switch_view_at s k → StayUpTo (k + 1)
  stay-next k d upto lt same =
      let split : drop k views ≡ get_or views k d ∷ drop (k + 1) views =
      rw (add-one, drop-cons views k d) refl in
      record { goes = λ rest. upto.goes (subst (AreSeen s k) (sym split) (same, rest)) }

  pub stay-end : (k : ℕ) → StayUpTo k → length views ≤ k → AreSeen s 0 views
  stay-end k upto end = upto.goes (subst (AreSeen s k) (sym (drop_all k views end)) tt)
