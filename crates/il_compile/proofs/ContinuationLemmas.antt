-- A program's code from its end.
use Rattle.std.proofs.Common.{◌≡◌, ℕ, zero, suc, ◌+◌, ◌-◌, ◌<◌, ◌≤◌, drop, get_or, map, min, Bool, true, false, ◌==◌, nat_eq, if◌then◌else◌, List, [], ◌∷◌, ◌++◌, length, reverse, Option, Some, Result, Ok, Err, OnOk, refl, sym, ap, subst, ◌∙◌, arith, append_assoc, append-nil}
use Rattle.std.proofs.Math.Seq.{drop-cons}
use Rattle.std.proofs.lemmas.List.{reverse-append}
use Rattle.std.specs.HashMap.{get}
use Rattle.std.specs.Option.{unwrap_or}
use Rattle.il_image.specs.Images.{Each, all_spelled}
use Rattle.il_image.specs.Spelling.{spelling}
use Rattle.il_image.specs.declared.instr.Instr.{Instr}
use Rattle.il_check.specs.Program.{ProgramItem, label}
use Rattle.il_compile.specs.Continuation.{IsContinuation, HasNoPending, octets_bound}
use Rattle.il_compile.specs.declared.continuation.Continuation.{Continuation}
use Rattle.il_compile.specs.Code.{octets, octets_before, items_code}
use Rattle.il_compile.proofs.Placing.{octets-both, octets_more, spelled-both}
use Rattle.il_compile.specs.Compiled.{most_octets}

pub one-before : (pending xs continuation more : List Instr) (i : Instr) → pending ≡ xs ++ i ∷ []
    → more ≡ continuation ++ i ∷ [] → xs ++ reverse more ≡ pending ++ reverse continuation
one-before pending xs continuation more i e f =
    ap (λ l. xs ++ reverse l) f ∙ ap (λ l. xs ++ l) (reverse-append continuation (i ∷ []))
    ∙ sym (append_assoc xs (i ∷ []) (reverse continuation))
    ∙ ap (λ l. l ++ reverse continuation) (sym e)

pub one-counted : (pending xs : List Instr) (i : Instr) (all more size : ℕ) → pending ≡ xs ++ i ∷ []
    → size ≡ length (spelling i) → more ≡ min (all + size) octets_bound → all ≤ octets_bound
    → min (more + octets xs) octets_bound ≡ min (all + octets pending) octets_bound
one-counted pending xs i all more size e s f le =
    let a = ap octets e ∙ octets-both xs (i ∷ []) in
    let b = octets_more i [] in
    omega arith

pub nothing-left : (pending : List Instr) (continuation first : List Instr) → pending ≡ []
    → pending ++ continuation ≡ first → continuation ≡ first
nothing-left pending continuation first e f = ap (λ l. l ++ continuation) (sym e) ∙ f

-- ---- the items behind

-- an item whose code has no jump
pub item-behind : (n : ℕ) (i : ProgramItem) (is : List ProgramItem) (a instrs more : List Instr)
    (size all : ℕ)
    (label_octets : ℕ → Option ℕ) → IsContinuation n is instrs size label_octets
    → items_code n (i ∷ is) ≡ a ++ items_code n is
    → ((l : ℕ) → octets_before n l (i ∷ is) ≡ octets a + octets_before n l is)
    → reverse more ≡ a ++ reverse instrs → all ≡ min (size + octets a) octets_bound
    → IsContinuation n (i ∷ is) more all label_octets
item-behind n i is a instrs more size all label_octets b same before rev counted =
    let whole : octets (items_code n (i ∷ is)) ≡ octets a + octets (items_code n is) =
    ap octets same ∙ octets-both a (items_code n is) in
    record {
      counted = (let c = b.counted in omega arith);
      code = λ short. rev ∙ ap (λ l. a ++ l) (b.code (omega arith)) ∙ sym same;
      known = λ short l. (let k = b.known (omega arith) l in let e = before l in omega arith);
    }

-- a label stands where the items behind it begin
pub label-behind : (n l : ℕ) (is : List ProgramItem) (instrs : List Instr) (size : ℕ)
    (label_octets new : ℕ → Option ℕ) → IsContinuation n is instrs size label_octets
    → ((m : ℕ) → new m ≡ (if l == m then Some size else label_octets m))
    → IsContinuation n (label l ∷ is) instrs size new
label-behind n l is instrs size label_octets new b e = record {
  counted = b.counted;
  code = b.code;
  known = λ short m.
      (let c = b.counted in let k = b.known short m in
      elim (l == m) as (λ (x : Bool). new m ≡ (if x then Some size else label_octets m)
      → (if x then 0 else octets_before n m is) + unwrap_or (new m) 0
      ≡ octets (items_code n is)) [
        | true ↦ (λ f. (let v = ap (λ (o : Option ℕ). unwrap_or o 0) f in omega arith))
        | false ↦ (λ f. (let v = ap (λ (o : Option ℕ). unwrap_or o 0) f in omega arith))
      ] (e m));
}

-- a jump over so many octets
pub jump-behind : (n : ℕ) (i : ProgramItem) (is : List ProgramItem) (jump right : Instr)
    (instrs more : List Instr) (size all : ℕ) (label_octets : ℕ → Option ℕ)
    → IsContinuation n is instrs size label_octets
    → length (spelling jump) ≡ 3 → length (spelling right) ≡ 3
    → items_code n (i ∷ is) ≡ right ∷ items_code n is
    → ((l : ℕ) → octets_before n l (i ∷ is) ≡ 3 + octets_before n l is)
    → (octets (items_code n is) ≤ most_octets → jump ≡ right) → reverse more ≡ jump ∷ reverse instrs
    → all ≡ min (size + octets (jump ∷ [])) octets_bound
    → IsContinuation n (i ∷ is) more all label_octets
jump-behind n i is jump right instrs more size all label_octets b three also same before fits rev
    counted =
    let whole : octets (items_code n (i ∷ is)) ≡ 3 + octets (items_code n is) =
    ap octets same ∙ octets_more right (items_code n is)
    ∙ ap (λ k. k + octets (items_code n is)) also in
    let one : octets (jump ∷ []) ≡ 3 + 0 = octets_more jump [] ∙ ap (λ k. k + 0) three in
    record {
      counted = (let c = b.counted in omega arith);
      code = λ short. (let le : octets (items_code n is) ≤ most_octets = omega arith in
          rev ∙ ap (λ j. j ∷ reverse instrs) (fits le) ∙ ap (λ l. right ∷ l) (b.code le)
          ∙ sym same);
      known = λ short l. (let k = b.known (omega arith) l in let e = before l in omega arith);
    }

-- what holds where a call succeeds
pub on_success : {T E A B C D G : Type 0} (r : Result T E) → OnOk r A → OnOk r B → OnOk r C
    → OnOk r D → (A → B → C → D → G) → OnOk r G
on_success (Ok x) a b c d f = f a b c d
on_success (Err e) a b c d f = tt

-- instructions that were put before the items behind
pub put-settled : (n : ℕ) (i : ProgramItem) (is : List ProgramItem) (a : List Instr)
    (old : Continuation)
    (pending : List Instr) (new : Continuation) → HasNoPending n is old
    → items_code n (i ∷ is) ≡ a ++ items_code n is
    → ((l : ℕ) → octets_before n l (i ∷ is) ≡ octets a + octets_before n l is)
    → pending ≡ old.pending.items ++ a
    → reverse new.instrs.items ≡ pending ++ reverse old.instrs.items
    → new.octets ≡ min (old.octets + octets pending) octets_bound
    → new.pending.items ≡ [] → new.label_octets ≡ old.label_octets → HasNoPending n (i ∷ is) new
put-settled n i is a old pending new s same before put rev counted empty label_octets =
    let just : pending ≡ a = put ∙ ap (λ l. l ++ a) s.settled in
    record {
      continuation =
          subst (λ p. IsContinuation n (i ∷ is) new.instrs.items new.octets (get nat_eq p))
          (sym label_octets)
          (item-behind n i is a old.instrs.items new.instrs.items old.octets new.octets
          (get nat_eq old.label_octets) s.continuation same before
          (rev ∙ ap (λ l. l ++ reverse old.instrs.items) just)
          (counted ∙ ap (λ l. min (old.octets + octets l) octets_bound) just));
      settled = empty;
    }

-- a jump that was put before them
pub put-leap : (n : ℕ) (i : ProgramItem) (is : List ProgramItem) (jump right : Instr)
    (old : Continuation)
    (pending : List Instr) (new : Continuation) → HasNoPending n is old
    → length (spelling jump) ≡ 3 → length (spelling right) ≡ 3
    → items_code n (i ∷ is) ≡ right ∷ items_code n is
    → ((l : ℕ) → octets_before n l (i ∷ is) ≡ 3 + octets_before n l is)
    → (octets (items_code n is) ≤ most_octets → jump ≡ right)
    → pending ≡ old.pending.items ++ jump ∷ []
    → reverse new.instrs.items ≡ pending ++ reverse old.instrs.items
    → new.octets ≡ min (old.octets + octets pending) octets_bound
    → new.pending.items ≡ [] → new.label_octets ≡ old.label_octets → HasNoPending n (i ∷ is) new
put-leap n i is jump right old pending new s three also same before fits put rev counted empty
    label_octets =
    let just : pending ≡ jump ∷ [] = put ∙ ap (λ l. l ++ jump ∷ []) s.settled in
    record {
      continuation =
          subst (λ p. IsContinuation n (i ∷ is) new.instrs.items new.octets (get nat_eq p))
          (sym label_octets)
          (jump-behind n i is jump right old.instrs.items new.instrs.items old.octets new.octets
          (get nat_eq old.label_octets) s.continuation three also same before fits
          (rev ∙ ap (λ l. l ++ reverse old.instrs.items) just)
          (counted ∙ ap (λ l. min (old.octets + octets l) octets_bound) just));
      settled = empty;
    }

-- the distance to a label, and to the end
pub to-label : (n l size : ℕ) (is : List ProgramItem) (instrs : List Instr)
    (label_octets : ℕ → Option ℕ)
    → IsContinuation n is instrs size label_octets → octets (items_code n is) ≤ most_octets
    → min (size - unwrap_or (label_octets l) 0) 0xFFFF ≡ octets_before n l is
to-label n l size is instrs label_octets b short = let c = b.counted in let k =
    b.known short l in omega arith

pub to-end : (n size : ℕ) (is : List ProgramItem) (instrs : List Instr)
    (label_octets : ℕ → Option ℕ)
    → IsContinuation n is instrs size label_octets → octets (items_code n is) ≤ most_octets
    → min size 0xFFFF ≡ octets (items_code n is)
to-end n size is instrs label_octets b short = let c = b.counted in omega arith

-- ---- a list from its end

pub one-back : {A : Type 0} (l : List A) (a : ℕ) (x : A) → 0 < a → a ≤ length l
    → x ≡ get_or l (a - 1) x → drop (a - 1) l ≡ x ∷ drop a l
one-back l a x h le e =
    let s : suc (a - 1) ≡ a = omega arith in
    drop-cons l (a - 1) x (omega arith) ∙ ap (λ y. y ∷ drop (suc (a - 1)) l) (sym e)
    ∙ ap (λ n. x ∷ drop n l) s

pub each-drop : {A B : Type 0} (P : B → Type 0) (f : A → B) (n : ℕ) (l : List A) → Each P (map f l)
    → Each P (map f (drop n l))
each-drop P f zero l h = h
each-drop P f (suc n) [] h = tt
each-drop P f (suc n) (x ∷ l) h = each-drop P f n l h.1

-- the code behind an item is no longer than an image
pub bounded : (n : ℕ) (is : List ProgramItem) (b : Continuation) → HasNoPending n is b
    → b.octets ≤ octets_bound
bounded n is b s = let c = s.continuation.counted in omega arith

pub shorter : (a b c : ℕ) → a ≤ b → a - c ≤ b
shorter a b c h = omega arith

pub none-left : {A : Type 0} (l : List A) → drop (length l) l ≡ []
none-left [] = refl
none-left (x ∷ l) = none-left l

-- ---- what is spelled

pub one-spelled : (continuation rest : List Instr) (i : Instr) (code more : List ℕ)
    → continuation ≡ rest ++ i ∷ [] → more ≡ code ++ spelling i
    → more ++ all_spelled (reverse rest) ≡ code ++ all_spelled (reverse continuation)
one-spelled continuation rest i code more e f =
    ap (λ l. l ++ all_spelled (reverse rest)) f
    ∙ append_assoc code (spelling i) (all_spelled (reverse rest))
    ∙ ap (λ l. code ++ all_spelled l) (sym (ap reverse e ∙ reverse-append rest (i ∷ [])))

pub whole-spelled : (instrs left : List Instr) (i last : Instr) (code : List ℕ) → left ≡ []
    → code ++ all_spelled (reverse left) ≡ spelling i ++ all_spelled instrs
    → code ++ spelling last ≡ all_spelled (i ∷ instrs ++ last ∷ [])
whole-spelled instrs left i last code e f =
    let g : code ≡ spelling i ++ all_spelled instrs =
    sym (append-nil code) ∙ ap (λ l. code ++ all_spelled (reverse l)) (sym e) ∙ f in
    ap (λ l. l ++ spelling last) g ∙ append_assoc (spelling i) (all_spelled instrs) (spelling last)
    ∙ ap (λ l. spelling i ++ l)
    (ap (λ l. all_spelled instrs ++ l) (sym (append-nil (spelling last)))
    ∙ sym (spelled-both instrs (last ∷ [])))
