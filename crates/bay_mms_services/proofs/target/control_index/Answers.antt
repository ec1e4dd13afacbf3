use Rattle.std.proofs.Common.{◌≡◌, ℕ, suc, ◌+◌, ◌-◌, ◌<◌, ◌^◌, ◌∷◌, ◌++◌, List, Some, None, drop, take, length, sym, ap, ◌∙◌, arith, take_all}
use Rattle.std.proofs.Math.Seq.{drop-cons}
use Rattle.std.proofs.lemmas.List.{drop_all}
use Rattle.std.specs.Fmt.{decimal}
use Rattle.bay_mms_services.proofs.IndexLemmas.{followed, leading, number-leads, number-found}
use Rattle.bay_mms_services.proofs.target.control_index.Goals as goal

-- the digits of a name that begins with a node's are those of its number
digits-lead : (name : List ℕ) (k : ℕ) (path : List ℕ) → k + 1 < 2 ^ 64
    → name ≡ 67 ∷ 83 ∷ 87 ∷ 73 ∷ (decimal (k + 1) ++ 36 ∷ path)
    → leading 0 (take (length name - 4) (drop 4 name)) ≡ Some (k + 1)
digits-lead name k path few is =
    let rest = decimal (k + 1) ++ 36 ∷ path in
    let all : take (length name - 4) rest ≡ rest =
    take_all (length name - 4) rest (omega (arith, ap length is)) in
    ap (λ n. leading 0 (take (length name - 4) (drop 4 n))) is
    ∙ ap (leading 0) all ∙ number-leads (k + 1) path few

pub returns-in-None : goal.returns-in-None
returns-in-None c k path few is =
    let name = c.args.name.now in
    let digits = take (length name - 4) (drop 4 name) in
    let i = c.loop-octet.octet-index in
    let n = c.loop-octet.number in
    let here = ap (leading n) (drop-cons digits i 0 c.loop-octet-test.true) in
    let ends = ap (followed n (λ m. leading m (drop (suc i) digits)))
    (sym c.with_digit.ensures ∙ c.in-None.is) in
    let number : Some n ≡ Some (k + 1) =
    sym (here ∙ ends) ∙ c.loop-octet.invariant ∙ digits-lead name k path few is in
    number-found c.checked_sub.result n k number c.checked_sub.ensures

pub returns : goal.returns
returns c k path few is =
    let name = c.args.name.now in
    let digits = take (length name - 4) (drop 4 name) in
    let end = ap (leading c.loop-octet.number)
    (drop_all c.loop-octet.octet-index digits c.loop-octet-test.false) in
    let none : None ≡ Some (k + 1) =
    sym end ∙ c.loop-octet.invariant ∙ digits-lead name k path few is in
    absurd cc
