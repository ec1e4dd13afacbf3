-- Labels of nodes in a list.
use Rattle.std.proofs.Common.{◌≡◌, ◌⊎◌, inl, inr, ℕ, ◌<◌, ◌≤◌, ◌+◌, Bool, true, false, List, [], ◌∷◌, ◌++◌, length, get_or, slice_index, take, suc, zero, refl, ap, sym, cond, ◌∙◌, arith}
use Rattle.std.specs.Prelude.{filter}
use Rattle.std.proofs.lemmas.List.{append-nil}
use Rattle.std.proofs.lemmas.List.Elements.{filter_more}
use Rattle.std.proofs.lemmas.List.Sums.{fold-append}
use Rattle.std.proofs.Math.Path.{fun_ext}
use Rattle.bay_diagram.specs.declared.network.Branch.{Branch}
use Rattle.bay_diagram.specs.declared.network.Network.{Network}
use Rattle.bay_diagram.specs.declared.walk.Route.{Route}
use Rattle.bay_diagram.specs.Joined.{label_after, label_of, relabel}
use Rattle.bay_diagram.specs.Reading.{Reading}
use Rattle.bay_diagram.specs.Walks.{IsRelabelled, joined_in, label_in, label_next, leads, may_lead_over}
use Rattle.bay_diagram.proofs.JoinedLemmas.{labels-join}

-- ---- labels in a list

past-end : (xs : List ℕ) (n d : ℕ) → length xs ≤ n → get_or xs n d ≡ d
past-end [] n d h = refl
past-end (x ∷ xs) zero d h = absurd (omega arith)
past-end (x ∷ xs) (suc n) d h = past-end xs n d (omega arith)

within-or-past : (n m : ℕ) → (n < m) ⊎ (m ≤ n)
within-or-past n m = grind arith

-- a list of 256 numbers, each at its own index, has each number as its own label
pub label-of-numbers : (labels : List ℕ) → ((k d : ℕ) → k < 256 → get_or labels k d ≡ k)
    → length labels ≡ 256 → (n : ℕ) → label_in labels n ≡ n
label-of-numbers labels are long n =
    elim (within-or-past n 256) [
      | inl within ↦ are n n within
      | inr past ↦ past-end labels n n (omega (arith, long, past))
    ]

relabel-other : (from to n : ℕ) → from < 256 → 256 ≤ n → relabel from to n ≡ n
relabel-other from to n h past = grind arith

get-default : (xs : List ℕ) (n d e : ℕ) → n < length xs → get_or xs n d ≡ get_or xs n e
get-default [] n d e h = absurd (omega arith)
get-default (x ∷ xs) zero d e h = refl
get-default (x ∷ xs) (suc n) d e h = get-default xs n d e (omega arith)

-- a label of a list of 256 is what stands there
pub label-at : (labels : List ℕ) (n : ℕ) → n < 256 → length labels ≡ 256
    → label_in labels n ≡ slice_index labels n
label-at labels n h long = get-default labels n n 0 (omega (arith, long, h))

-- relabelling a list relabels each node
pub label-relabelled : (before after : List ℕ) (from to : ℕ) → from < 256
    → length before ≡ 256 → length after ≡ 256 → IsRelabelled from to before after
    → (n : ℕ) → label_in after n ≡ relabel from to (label_in before n)
label-relabelled before after from to small long still all n =
    elim (within-or-past n 256) [
      | inl within ↦
          all n n within ∙ sym (ap (relabel from to) (label-at before n within long))
      | inr past ↦
          past-end after n n (omega (arith, still, past))
          ∙ sym (ap (relabel from to) (past-end before n n (omega (arith, long, past)))
          ∙ relabel-other from to n small past)
    ]

-- a branch that a walk takes joins its nodes
pub label-joined : (before after : List ℕ) (b : Branch) → b.one < 256 → b.other < 256
    → slice_index before b.one < 256 → length before ≡ 256 → length after ≡ 256
    → IsRelabelled (slice_index before b.one) (slice_index before b.other) before after
    → (n : ℕ) → label_in after n ≡ label_next true (label_in before) b n
label-joined before after b one other small long still all n =
    label-relabelled before after (slice_index before b.one) (slice_index before b.other) small
    long still all n
    ∙ sym (ap (λ (from : ℕ). relabel from (label_in before b.other) (label_in before n))
    (label-at before b.one one long)
    ∙ ap (λ (to : ℕ). relabel (slice_index before b.one) to (label_in before n))
    (label-at before b.other other long))

-- ---- one branch more

next-same : (t : Bool) (label other : ℕ → ℕ) → ((n : ℕ) → label n ≡ other n)
    → (b : Branch) (n : ℕ) → label_next t label b n ≡ label_next t other b n
next-same true label other same b n = rw (same b.one, same b.other, same n) refl
next-same false label other same b n = same n

next-of : (p : Branch → Bool) (branches : List Branch) (b : Branch) (t : Bool) (n : ℕ)
    → label_of (filter p branches ++ cond t (b ∷ []) []) n
    ≡ label_next t (label_of (filter p branches)) b n
next-of p branches b true n =
    ap (λ (f : ℕ → ℕ). f n) (fold-append label_after (λ x. x) (filter p branches) (b ∷ []))
next-of p branches b false n =
    ap (λ (bs : List Branch). label_of bs n) (append-nil (filter p branches))

-- the labels after one branch more
pub label-more : (p : Branch → Bool) (branches : List Branch) (i : ℕ) (d : Branch)
    → i < length branches → (label : ℕ → ℕ)
    → ((n : ℕ) → label n ≡ label_of (filter p (take i branches)) n) → (n : ℕ)
    → label_next (p (get_or branches i d)) label (get_or branches i d) n
    ≡ label_of (filter p (take (i + 1) branches)) n
label-more p branches i d within label same n =
    let b = get_or branches i d in
    next-same (p b) label (label_of (filter p (take i branches))) same b n
    ∙ sym (ap (λ (bs : List Branch). label_of bs n) (filter_more p branches i d within)
    ∙ next-of p (take i branches) b (p b) n)

-- ---- labels and walks

-- two nodes have one label just where a walk of the route leads from one to the other
pub labels-lead : (net : Network) (r : Reading) (route : Route) (labels : List ℕ)
    → ((n : ℕ) → label_in labels n ≡ label_of (filter (may_lead_over net r route) net.branches) n)
    → (a b : ℕ) → joined_in labels a b ≡ leads net r route a b
labels-lead net r route labels are a b =
    rw (are a, are b) (labels-join (filter (may_lead_over net r route) net.branches) a b)

pub labels-are-walks : (net : Network) (r : Reading) (route : Route) (labels : List ℕ)
    → ((n : ℕ) → label_in labels n ≡ label_of (filter (may_lead_over net r route) net.branches) n)
    → joined_in labels ≡ leads net r route
labels-are-walks net r route labels are =
    fun_ext (λ a. fun_ext (λ b. labels-lead net r route labels are a b))
