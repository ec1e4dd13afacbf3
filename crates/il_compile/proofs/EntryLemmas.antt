-- The code of a parenthesis, entry by entry.
use Rattle.std.proofs.Common.{◌≡◌, ℕ, ◌+◌, ◌<◌, ◌≤◌, Bool, List, [], ◌∷◌, ◌++◌, Result, Ok, Err, OnOk, drop, get_or, length, map, sym, ap, subst, ◌∙◌, append_assoc, append-nil, arith, Vec, Global}
use Rattle.std.proofs.lemmas.Grind.{common_steps}
use Rattle.bay_base.specs.declared.types.ElementaryType.{ElementaryType}
use Rattle.il_text.specs.declared.program.Operator.{Operator}
use Rattle.il_text.proofs.ListingLemmas.{front-item}
use Rattle.il_image.specs.Images.{Each}
use Rattle.il_image.specs.Spelling.{IsInstr}
use Rattle.il_image.specs.declared.instr.Instr.{Instr}
use Rattle.il_check.specs.Program.{block, entries_of}
use Rattle.il_check.specs.ProgramViews.{entry_view}
use Rattle.il_check.specs.declared.typed.SimpleOperation as typed
use Rattle.il_check.specs.declared.typed.TypedEntry.{TypedEntry, Operation, Block}
use Rattle.il_check.proofs.ViewLemmas.{view-operation, view-block}
use Rattle.il_compile.specs.Continuation.{IsSpellableEntry, AreSpellableEntries}
use Rattle.il_compile.specs.Code.{push_unset, operator_code, operation_code, entry_code, entries_code}

none-after : {X : Type 0} → (xs : List X) (i : ℕ) → length xs ≤ i → drop i xs ≡ []
none-after {X} xs i h = grind (arith, common_steps)

pub operation-spellable : (n : ℕ) (o : typed.SimpleOperation) (e : TypedEntry) → e ≡ Operation o
    → IsSpellableEntry n (entry_view e) → Each IsInstr (operation_code n o)
operation-spellable n o e is h = subst (IsSpellableEntry n) (ap entry_view is ∙ view-operation o) h

pub operation-coded : (n : ℕ) (o : typed.SimpleOperation) (e : TypedEntry) → e ≡ Operation o
    → entry_code n (entry_view e) ≡ operation_code n o
operation-coded n o e is = ap (entry_code n) (ap entry_view is ∙ view-operation o)

pub entries-spellable : (n : ℕ) (operator : Operator) (kind : ElementaryType) (negated : Bool)
    (entries : Vec TypedEntry Global) (e : TypedEntry) (es : List TypedEntry)
    → e ≡ Block operator kind negated entries → es ≡ entries.items
    → IsSpellableEntry n (entry_view e) → AreSpellableEntries n (entries_of (map entry_view es))
entries-spellable n operator kind negated entries e es is all h =
    subst (λ (l : List TypedEntry). AreSpellableEntries n (entries_of (map entry_view l))) (sym all)
    (subst (IsSpellableEntry n) (ap entry_view is ∙ view-block operator kind negated entries) h)

-- the entry at a place, and those behind it
pub next-spellable : (n : ℕ) (es : List TypedEntry) (i : ℕ) (e : TypedEntry) → i < length es
    → e ≡ get_or es i e → AreSpellableEntries n (entries_of (map entry_view (drop i es)))
    → IsSpellableEntry n (entry_view e)
    × AreSpellableEntries n (entries_of (map entry_view (drop (i + 1) es)))
next-spellable n es i e lt is h =
    subst (λ (l : List TypedEntry). AreSpellableEntries n (entries_of (map entry_view l)))
    (front-item es i e lt is) h

pub next-coded : (n : ℕ) (es : List TypedEntry) (i : ℕ) (e : TypedEntry)
    (code next whole : List Instr) → i < length es → e ≡ get_or es i e
    → next ≡ code ++ entry_code n (entry_view e)
    → code ++ entries_code n (entries_of (map entry_view (drop i es))) ≡ whole
    → next ++ entries_code n (entries_of (map entry_view (drop (i + 1) es))) ≡ whole
next-coded n es i e code next whole lt is step rest =
    ap (λ l. l ++ entries_code n (entries_of (map entry_view (drop (i + 1) es)))) step
    ∙ append_assoc code (entry_code n (entry_view e))
    (entries_code n (entries_of (map entry_view (drop (i + 1) es))))
    ∙ sym (ap (λ (l : List TypedEntry). code ++ entries_code n (entries_of (map entry_view l)))
    (front-item es i e lt is)) ∙ rest

-- a parenthesis whose entries are all put, and whose operator is put behind them
pub block-coded : {X Y : Type 0} (r : Result X Y) (n : ℕ) (operator : Operator)
    (kind : ElementaryType) (negated : Bool) (entries : Vec TypedEntry Global) (e : TypedEntry)
    (es : List TypedEntry) (i : ℕ)
    (code begun now after : List Instr) → e ≡ Block operator kind negated entries
    → es ≡ entries.items → length es ≤ i → begun ≡ code ++ push_unset ∷ []
    → now ++ entries_code n (entries_of (map entry_view (drop i es)))
    ≡ begun ++ entries_code n (entries_of (map entry_view es))
    → OnOk r (after ≡ now ++ operator_code operator kind negated)
    → OnOk r (after ≡ code ++ entry_code n (entry_view e))
block-coded (Err f) n operator kind negated entries e es i code begun now after is all le first rest
    h = h
block-coded (Ok v) n operator kind negated entries e es i code begun now after is all le first rest
    h =
    let inner = entries_code n (entries_of (map entry_view es)) in
    let put : now ≡ begun ++ inner =
    sym (append-nil now) ∙ ap
    (λ (l : List TypedEntry). now ++ entries_code n (entries_of (map entry_view l)))
    (sym (none-after es i le)) ∙ rest in
    let view : entry_view e ≡ block operator kind negated (entries_of (map entry_view es)) =
    ap entry_view is ∙ view-block operator kind negated entries
    ∙ ap (λ (l : List TypedEntry). block operator kind negated (entries_of (map entry_view l)))
    (sym all) in
    h ∙ ap (λ l. l ++ operator_code operator kind negated)
    (put ∙ ap (λ l. l ++ inner) first ∙ append_assoc code (push_unset ∷ []) inner)
    ∙ append_assoc code (push_unset ∷ inner) (operator_code operator kind negated)
    ∙ ap (λ x. code ++ entry_code n x) (sym view)
