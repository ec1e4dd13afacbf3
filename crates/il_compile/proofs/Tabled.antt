-- The code of a well-typed program has a table of kinds, and writes what it may.
use Rattle.std.proofs.Common.{◌≡◌, ℕ, ◌+◌, ◌⊎◌, inr, false, List, [], ◌∷◌, ◌++◌, length, Some, None, refl, sym, ap, subst, ◌∙◌, arith, append-nil}
use Rattle.std.proofs.lemmas.Option.{same_Some}
use Rattle.il_image.specs.Images.{Each, all_spelled}
use Rattle.il_image.specs.Reading.{instr_at}
use Rattle.il_image.specs.Spelling.{IsInstr, spelling}
use Rattle.il_image.specs.Tables.{FitsTable, HasTable, InstrBegins, LeadsTo}
use Rattle.il_image.specs.declared.instr.Instr.{Instr}
use Rattle.il_image.specs.declared.instr.Instr.TheVariants.{Halt}
use Rattle.il_image.specs.declared.kind.CellKind.TheVariants.{Any, Plain}
use Rattle.il_image.specs.declared.value.Value.TheVariants.{Truth}
use Rattle.il_image.proofs.KindLemmas.{within-any}
use Rattle.bay_base.specs.declared.types.ElementaryType.TheVariants as elementary
use Rattle.il_check.specs.Program.{Checked}
use Rattle.il_check.specs.TypedProgram.{IsTyped}
use Rattle.il_compile.specs.Code.{items_code, octets, program_code, push_unset}
use Rattle.il_compile.specs.Compiled.{image_of}
use Rattle.il_compile.proofs.Placing.{Stands}
use Rattle.il_compile.proofs.TabledAgrees.{AreReached, AreRight, agrees}
use Rattle.il_compile.proofs.TabledItems.{enters-less, tail}
use Rattle.il_compile.proofs.TabledReached.{first-led, items-reached}
use Rattle.il_compile.proofs.TabledRows.{Row, at-found, instrs_of, is-at, table_of}
use Rattle.il_compile.proofs.TabledSteps.{Keeps, pushed}

each-both : {A : Type 0} (P : A → Type 0) (a b : List A) → Each P a → Each P b → Each P (a ++ b)
each-both P [] b h k = k
each-both P (x ∷ a) b h k = (h.0, each-both P a b h.1 k)

each_at : {A : Type 0} (P : A → Type 0) (a : List A) (x : A) (b : List A) → Each P (a ++ x ∷ b)
    → P x
each_at P [] x b h = h.0
each_at P (y ∷ a) x b h = each_at P a x b h.1

whole : (c : Checked) → Each IsInstr (program_code c)
    → Stands (all_spelled (program_code c)) 0 (program_code c)
whole c are = record { rest = []; is = sym (append-nil (all_spelled (program_code c))); are = are }

-- Some table of kinds agrees with the code.
pub has-table : (c : Checked) → IsTyped c → Each IsInstr (program_code c) → HasTable (image_of c)
has-table c ok are =
    let rest = tail c ok.labels c.items 0 [] (Some None) ok.items in
    let first : Row = record { instr = push_unset; kinds = [] } in
    let rows : List Row = first ∷ rest.rows in
    let same : instrs_of rows ≡ program_code c = ap (λ l. push_unset ∷ l) rest.same in
    let step = pushed c (Truth false) [] (omega arith) in
    let enters =
    enters-less (table_of rest.rows) 0 (Plain elementary.Bool) Any
    (within-any (Plain elementary.Bool)) (rest.first None refl) in
    let right : AreRight (image_of c) rows = (
      record {
        after = Plain elementary.Bool ∷ [];
        effect = step.effect;
        enters =
            λ d l. subst (λ x. FitsTable (table_of rest.rows) x (Plain elementary.Bool ∷ []))
            (sym l)
            enters;
        room = step.room;
      },
      rest.right,
    ) in
    let P : ℕ → Type 0 = λ d. (length (spelling push_unset) + d ≡ 0) ⊎ LeadsTo push_unset 0 d in
    let reached : AreReached (λ d. d ≡ 0) (program_code c) = (
      refl,
      items-reached c ok.labels c.items 0 [] (Some None) ok.items P
          (first-led c ok.labels P c.items None (inr refl)),
    ) in (
      table_of rows,
      agrees (image_of c) rows
          (subst (Stands (image_of c).code 0) (sym same) (whole c are)) (ap octets (sym same)) refl
          right (subst (AreReached (λ d. d ≡ 0)) (sym same) reached),
    )

-- No instruction writes a slot that may only be read.
pub all-keep : (c : Checked) → IsTyped c → Each (Keeps c) (program_code c)
all-keep c ok =
    let rest = tail c ok.labels c.items 0 [] (Some None) ok.items in (
      tt,
      each-both (Keeps c) (items_code (length c.externals) c.items) (Halt ∷ []) rest.keeps
          (tt, tt),
    )

-- what the image has at a place is an instruction of the code
pub keeps-at : (c : Checked) → IsTyped c → Each IsInstr (program_code c)
    → (place : ℕ) (i : Instr) (next : ℕ) → InstrBegins (image_of c).code place
    → instr_at (image_of c).code place ≡ Some (i, next) → Keeps c i
keeps-at c ok are place i next p e =
    let a = is-at (image_of c).code (program_code c) (whole c are) refl place p in
    let f = at-found (image_of c).code (program_code c) (whole c are) refl place a in
    let pair : Some (a.instr, place + length (spelling a.instr)) ≡ Some (i, next) = sym f ∙ e in
    let same : a.instr ≡ i =
    ap (λ q. q.0) (same_Some (a.instr, place + length (spelling a.instr)) (i, next) pair) in
    subst (Keeps c) same (each_at (Keeps c) a.before a.instr a.behind
    (subst (Each (Keeps c)) a.is (all-keep c ok)))
