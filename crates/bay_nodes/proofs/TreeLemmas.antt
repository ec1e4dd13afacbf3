-- The rows of a bay's nodes make a tree.
use Rattle.std.proofs.Common.{◌≡◌, ◌≢◌, ℕ, ◌+◌, ◌<◌, List, [], ◌∷◌, ◌++◌, length, All, Any, IfSome, append_assoc, append-nil, sym, ap, subst, ◌∙◌, ⊎_elim, arith, length-append}
use Rattle.std.proofs.Math.ListN.{get_or-append}
use Rattle.std.proofs.Math.Seq.{get_or-append_seam}
use Rattle.std.proofs.lemmas.Bool.{cases_eq}
use Rattle.std.proofs.lemmas.List.{get_or_default}
use Rattle.bay_tree.proofs.RowLemmas.{IfSome-weaken}
use Rattle.bay_tree.specs.declared.row.Row.{Row}
use Rattle.bay_tree.specs.Names.{parent_of}
use Rattle.bay_tree.specs.Rows.{IsTree, IsStructureNamed, row_at, name_at}

-- a row can stand behind others: none has its name, and its parent is a structure among them
pub record CanFollow (earlier : List Row) (row : Row) : Type 0 where
  pub distinct : All (λ other. other.name ≢ row.name) earlier
  pub parent : IfSome (parent_of row.name) (λ parent. Any (IsStructureNamed parent) earlier)

at-before : (rows : List Row) (r : Row) (k : ℕ) → k < length rows
    → row_at (rows ++ r ∷ []) k ≡ row_at rows k
at-before rows r k h = get_or-append rows (r ∷ []) _ k h

at-last : (rows : List Row) (r : Row) → row_at (rows ++ r ∷ []) (length rows) ≡ r
at-last rows r = get_or-append_seam rows r [] _

IsTree-push : (rows : List Row) (r : Row) → IsTree rows → CanFollow rows r → IsTree (rows ++ r ∷ [])
IsTree-push rows r tree follow =
    let all = rows ++ r ∷ [] in
    let long : length (rows ++ r ∷ []) ≡ length rows + 1 = length-append rows (r ∷ []) in
    record {
      distinct = λ i j lt within same.
          ⊎_elim (λ (here : j ≡ length rows).
          let before : i < length rows = omega arith in
          let one : name_at all j ≡ r.name = rw here (ap (λ (x : Row). x.name) (at-last rows r)) in
          follow.distinct i (row_at rows i) before
          (ap (λ (x : Row). x.name) (get_or_default rows i (row_at rows i) _ before)
          ∙ sym (ap (λ (x : Row). x.name) (at-before rows r i before)) ∙ same ∙ one))
          (λ (other : j ≢ length rows).
          let inside : j < length rows = omega arith in
          let before : i < length rows = omega arith in
          tree.distinct i j lt inside
          (sym (ap (λ (x : Row). x.name) (at-before rows r i before)) ∙ same
          ∙ ap (λ (x : Row). x.name) (at-before rows r j inside))) (cases_eq j (length rows));
      parents = λ k within.
          ⊎_elim (λ (here : k ≡ length rows).
          let one : name_at all k ≡ r.name = rw here (ap (λ (x : Row). x.name) (at-last rows r)) in
          rw one (IfSome-weaken (parent_of r.name) (λ p. Any (IsStructureNamed p) rows)
          (λ p. (j : ℕ) × (j < k) × IsStructureNamed p (row_at all j)) (λ p w.
          let lt : w.0 < k = omega (arith, w.2) in (
            w.0,
            lt,
            subst (IsStructureNamed p)
                (sym (at-before rows r w.0 w.2 ∙ get_or_default rows w.0 _ w.1 w.2 ∙ w.3)) w.4,
          ))
          follow.parent))
          (λ (other : k ≢ length rows).
          let inside : k < length rows = omega arith in
          let same : name_at all k ≡ name_at rows k =
          ap (λ (x : Row). x.name) (at-before rows r k inside) in
          rw same (IfSome-weaken (parent_of (name_at rows k))
          (λ p. (j : ℕ) × (j < k) × IsStructureNamed p (row_at rows j))
          (λ p. (j : ℕ) × (j < k) × IsStructureNamed p (row_at all j)) (λ p w. (
            w.0,
            w.1,
            subst (IsStructureNamed p) (sym (at-before rows r w.0 (omega (arith, w.1))))
                w.2,
          )) (tree.parents k inside))) (cases_eq k (length rows));
    }

-- each row can stand behind those before it
abbrev pub Follow : List Row → List Row → Type 0
Follow earlier [] = Unit {0}
Follow earlier (r ∷ rs) = CanFollow earlier r × Follow (earlier ++ r ∷ []) rs

IsTree-from : (earlier rows : List Row) → IsTree earlier → Follow earlier rows
    → IsTree (earlier ++ rows)
IsTree-from earlier [] tree follow = subst IsTree (sym (append-nil earlier)) tree
IsTree-from earlier (r ∷ rs) tree follow =
    subst IsTree (append_assoc earlier (r ∷ []) rs)
    (IsTree-from (earlier ++ r ∷ []) rs (IsTree-push earlier r tree follow.0) follow.1)

pub IsTree-follow : (rows : List Row) → Follow [] rows → IsTree rows
IsTree-follow rows follow =
    IsTree-from [] rows (record {
      distinct = λ i j lt within. absurd (omega arith);
      parents = λ k within. absurd (omega arith);
    }) follow

pub Follow-append : (earlier xs ys : List Row) → Follow earlier xs → Follow (earlier ++ xs) ys
    → Follow earlier (xs ++ ys)
Follow-append earlier [] ys f g = subst (λ e. Follow e ys) (append-nil earlier) g
Follow-append earlier (x ∷ xs) ys f g = (
  f.0,
  Follow-append (earlier ++ x ∷ []) xs ys f.1
      (subst (λ e. Follow e ys) (sym (append_assoc earlier (x ∷ []) xs)) g),
)
