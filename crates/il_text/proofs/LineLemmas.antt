-- What the forms of lines read is what they spell.
use Rattle.std.proofs.Common.{◌≡◌, ℕ, Bool, true, false, List, [], ◌∷◌, ◌++◌, Some, None, refl, inl, inr}
use Rattle.std.specs.List.{list_any}
use Rattle.std.specs.Option.{is_some}
use Rattle.std.proofs.lemmas.Bool.{or_parts}
use Rattle.std.proofs.lemmas.Option.{same_Some}
use Rattle.il_text.specs.Forms.{literal_of, type_of, elementary_of, output_named, input_named, symbolic_variable, operand, argument, argument_list, arguments, closed_arguments, call_action, parenthesis, operator_parts, statement, instruction, tail, declaration, is_mnemonic, may_follow_label, is_labelled, label_parts, begins_named, named_line, keyword_line, other_line, whole_line, LinesAreProduced}
use Rattle.il_text.specs.Listing.{OperandData}
use Rattle.il_text.specs.Parts.{LineContent}
use Rattle.il_text.specs.TokenForms.{no_token_of, split_at_mark, name_of, is_mark, same_mark, names, spelled_names}
use Rattle.il_text.specs.Tokens.{Symbol, name, keyword_word, type_word, literal, mnemonic_word, mark_symbol}
use Rattle.il_text.specs.declared.form.Tail.{Tail}
use Rattle.il_text.specs.declared.program.DeclaredType.{DeclaredType}
use Rattle.il_text.specs.declared.program.Literal.{Literal}
use Rattle.il_text.specs.declared.program.Operator.{Operator}
use Rattle.il_text.specs.declared.token.Keyword.{Keyword}
use Rattle.il_text.specs.declared.token.Keyword.TheVariants as keyword
use Rattle.il_text.specs.declared.token.Mark.{Mark}
use Rattle.il_text.specs.declared.token.Mark.TheVariants as mark
use Rattle.il_text.specs.declared.token.Mnemonic.{Mnemonic}
use Rattle.il_text.specs.declared.token.Mnemonic.TheVariants as mnemonic
use Rattle.il_text.proofs.ExactLemmas.{Exact, Lacks, exacts, made-exact, such-exact, nothing-exact, one-exact, behind-exact, after-exact, either-exact, by-exact, parted-exact, names-exact, parted-at, then-some}

-- ---- tokens apart

name-no-mark : (m : Mark) (t : Symbol) (n : List ℕ) → name_of t ≡ Some n → is_mark m t ≡ false
name-no-mark m (name k) n e = refl
name-no-mark m t n e = absurd cc

literal-no-mark : (m : Mark) (t : Symbol) (v : Literal) → literal_of t ≡ Some v
    → is_mark m t ≡ false
literal-no-mark m (literal u) v e = refl
literal-no-mark m t v e = absurd cc

name-no-literal : (t : Symbol) (n : List ℕ) → name_of t ≡ Some n → literal_of t ≡ None
name-no-literal (name k) n e = refl
name-no-literal t n e = absurd cc

type-no-operator : (t : Symbol) (k : DeclaredType) → type_of t ≡ Some k → is_mnemonic t ≡ false
type-no-operator (type_word l) k e = refl
type-no-operator t k e = absurd cc

elementary-type : (t : Symbol) (k : DeclaredType) → elementary_of t ≡ Some k → is_mnemonic t ≡ false
elementary-type (type_word l) k e = refl
elementary-type t k e = absurd cc

not-parted : (m : Mark) (ts : List Symbol) → list_any (is_mark m) ts ≡ false
    → split_at_mark m ts ≡ None
not-parted m [] none = refl
not-parted m (t ∷ ts) none =
    let two = or_parts (is_mark m t) (list_any (is_mark m) ts) none in
    rw (two.0, not-parted m ts two.1) refl

none-joined : (m : Mark) (xs ys : List Symbol) → list_any (is_mark m) xs ≡ false
    → list_any (is_mark m) ys ≡ false → list_any (is_mark m) (xs ++ ys) ≡ false
none-joined m [] ys none more = more
none-joined m (x ∷ xs) ys none more =
    let two = or_parts (is_mark m x) (list_any (is_mark m) xs) none in
    rw (two.0, none-joined m xs ys two.1 more) refl

some-behind : {A : Type 0} (x : A) (front : List Symbol) (t : Symbol) (rest : List Symbol)
    → no_token_of x (front ++ t ∷ rest) ≡ None
some-behind x [] t rest = refl
some-behind x (s ∷ front) t rest = refl

-- ---- operands

place-exact : Exact symbolic_variable
unfolding symbolic_variable
place-exact =
    by-exact _ (made-exact _ (one-exact _))
    (behind-exact _ _ (λ t. after-exact _ (made-exact _ (one-exact _))))
    (λ ts x s. rw s.1.1 refl) (λ ts x s. rw (s.3, s.5.1) refl)

operand-exact : Exact operand
unfolding operand symbolic_variable
operand-exact =
    either-exact (made-exact _ (one-exact _))
    (made-exact _ (unfold symbolic_variable in place-exact))
    (λ ts x s. elim s.1 [
      | inl here ↦ rw (here.1.1, name-no-literal here.1.0 here.0 here.1.2) refl
      | inr other ↦ rw (other.3, other.5.1) refl
    ])

place-lacks : (m : Mark) → same_mark m mark.Dot ≡ false → Lacks m symbolic_variable
unfolding symbolic_variable
place-lacks m dot ts x (inl s) = rw (s.1.1, name-no-mark m s.1.0 s.0 s.1.2) refl
place-lacks m dot ts x (inr s) =
    let o = s.5.2.1 in
    let w = then-some output_named (name_of o.0) s.5.2.0 o.2 in
    rw (s.3, s.5.1, o.1, name-no-mark m s.0 s.2 s.4, dot, name-no-mark m o.0 w.0 w.1) refl

operand-lacks : (m : Mark) → same_mark m mark.Dot ≡ false → Lacks m operand
unfolding operand
operand-lacks m dot ts x (inl s) = rw (s.1.1, literal-no-mark m s.1.0 s.0 s.1.2) refl
operand-lacks m dot ts x (inr s) = place-lacks m dot ts s.0 s.1

-- an operand begins with a token other than `(`
operand-first : (ts : List Symbol) (x : OperandData) → operand.Spells ts x
    → (t : Symbol) × (rest : List Symbol) × (ts ≡ t ∷ rest) × (is_mark mark.Open t ≡ false)
unfolding operand symbolic_variable
operand-first ts x (inl s) = (s.1.0, [], s.1.1, literal-no-mark mark.Open s.1.0 s.0 s.1.2)
operand-first ts x (inr s) = elim s.1 [
  | inl here ↦ (here.1.0, [], here.1.1, name-no-mark mark.Open here.1.0 here.0 here.1.2)
  | inr other ↦ (other.0, other.1, other.3, name-no-mark mark.Open other.0 other.2 other.4)
]

-- ---- arguments

argument-exact : Exact argument
unfolding argument
argument-exact = search (exacts, behind-exact, operand-exact) depth 20

argument-lacks : (m : Mark) → same_mark m mark.Dot ≡ false → same_mark m mark.Assign ≡ false
    → Lacks m argument
unfolding argument
argument-lacks m dot assign ts x s =
    let w = then-some input_named (name_of s.0) s.2 s.4 in
    rw (
      s.3,
      s.5.1,
      name-no-mark m s.0 w.0 w.1,
      assign,
      operand-lacks m dot s.5.0 s.5.2.0 s.5.2.1,
    )
    refl

list-exact : Exact argument_list
unfolding argument_list
list-exact =
    by-exact _ (such-exact _ (parted-exact mark.Comma argument-exact argument-exact
    (argument-lacks mark.Comma refl refl))) (made-exact _ argument-exact)
    (λ ts x s. rw (
      s.1.2,
      parted-at mark.Comma s.1.0 s.1.1
          (argument-lacks mark.Comma refl refl s.1.0 s.0.0 s.1.3),
    ) refl)
    (λ ts x s. rw (not-parted mark.Comma ts (argument-lacks mark.Comma refl refl ts s.0 s.1)) refl)

arguments-exact : Exact arguments
unfolding arguments argument_list argument
arguments-exact =
    either-exact (nothing-exact _) (unfold argument_list argument in list-exact) (λ ts x s. elim s [
      | inl two ↦ rw two.1.2 (some-behind _ two.1.0 _ two.1.1)
      | inr given ↦ rw given.1.3 refl
    ])

arguments-lack : Lacks mark.Close arguments
unfolding arguments argument_list
arguments-lack ts x (inl s) = rw s.0 refl
arguments-lack ts x (inr s) = elim s [
  | inl two ↦
      rw two.1.2 (none-joined mark.Close two.1.0 _
      (argument-lacks mark.Close refl refl two.1.0 two.0.0 two.1.3)
      (argument-lacks mark.Close refl refl two.1.1 two.0.1 two.1.4))
  | inr given ↦ argument-lacks mark.Close refl refl ts given.0 given.1
]

call-exact : Exact call_action
unfolding call_action closed_arguments
call-exact =
    behind-exact _ _ (λ t. after-exact _ (made-exact _ (made-exact _
    (parted-exact mark.Close arguments-exact (nothing-exact _) arguments-lack))))

-- ---- instructions

parenthesis-exact : (o : Operator) (n : Bool) → Exact (parenthesis o n)
unfolding parenthesis
parenthesis-exact o n =
    either-exact (nothing-exact _) (made-exact _ operand-exact)
    (λ ts x s. rw (operand-first ts s.0 s.1).2 refl)

operator-exact : (o : Operator) (n : Bool) → Exact (operator_parts o n)
unfolding operator_parts
operator-exact o n =
    by-exact _ (after-exact _ (parenthesis-exact o n))
    (made-exact _ (made-exact _ operand-exact)) (λ ts x s. rw s.1 refl)
    (λ ts x s. let t = operand-first ts s.1.0 s.1.1 in rw (t.2, t.3) refl)

statement-exact : (m : Mnemonic) → Exact (statement m)
unfolding statement
statement-exact (mnemonic.Load n) = search (exacts, operand-exact) depth 20
statement-exact (mnemonic.Store k) = search (exacts, place-exact) depth 20
statement-exact (mnemonic.Combine o n) = operator-exact o n
statement-exact mnemonic.Not = search (exacts) depth 20
statement-exact (mnemonic.Convert c) = search (exacts) depth 20
statement-exact (mnemonic.Return c) = search (exacts) depth 20
statement-exact (mnemonic.Jump c) = search (exacts) depth 20
statement-exact mnemonic.Call = search (exacts, call-exact) depth 20

-- ---- lines that begin with a name

tail-exact : Exact tail
unfolding tail
tail-exact =
    by-exact _ (behind-exact _ _ (λ k. after-exact _ (nothing-exact _)))
    (behind-exact _ _ (λ k. after-exact _ (behind-exact _ _
    (λ v. after-exact _ (nothing-exact _)))))
    (λ ts x s. rw (s.3, s.5.1, s.5.2.0) refl) (λ ts x s. rw (s.3, s.5.1, s.5.2.3) refl)

no-colon : Lacks mark.Colon names
no-colon ts x s = rw s.3 (by-names s.0 s.1)
  where
    by-names : (n : List ℕ) (ns : List (List ℕ))
        → list_any (is_mark mark.Colon) (spelled_names n ns) ≡ false
    by-names n [] = refl
    by-names n (m ∷ ns) = by-names m ns

declaration-exact : Exact declaration
unfolding declaration
declaration-exact = made-exact _ (parted-exact mark.Colon names-exact tail-exact no-colon)

label-exact : (n : List ℕ) → Exact (label_parts n)
unfolding label_parts instruction
label-exact n =
    either-exact (nothing-exact _) (made-exact _ (behind-exact _ _ statement-exact))
    (λ ts x s. rw s.1.3 refl)

label-follows : (n : List ℕ) (ts : List Symbol) (ps : List LineContent)
    → (label_parts n).Spells ts ps → may_follow_label ts ≡ true
unfolding label_parts instruction may_follow_label
label-follows n ts ps (inl s) = rw s.0 refl
label-follows n ts ps (inr s) = rw (s.1.3, s.1.4) refl

tail-follows : (ts : List Symbol) (t : Tail) → tail.Spells ts t → may_follow_label ts ≡ false
unfolding tail may_follow_label
tail-follows ts t (inl s) = rw (s.3, type-no-operator s.0 s.2 s.4) refl
tail-follows ts t (inr s) = rw (s.3, elementary-type s.0 s.2 s.4) refl

declared-first : (n : List ℕ) (ns : List (List ℕ)) (rest : List Symbol)
    → may_follow_label rest ≡ false
    → (is_labelled (spelled_names n ns ++ mark_symbol mark.Colon ∷ rest) ≡ false)
    × (begins_named (spelled_names n ns ++ mark_symbol mark.Colon ∷ rest) ≡ true)
declared-first n [] rest no-label = (no-label, refl)
declared-first n (m ∷ ns) rest no-label = (refl, refl)

declaration-first : (ts : List Symbol) (ps : List LineContent) → declaration.Spells ts ps
    → (is_labelled ts ≡ false) × (begins_named ts ≡ true)
unfolding declaration
declaration-first ts ps s =
    rw (s.1.2, s.1.3.3)
    (declared-first s.1.3.0 s.1.3.1 s.1.1 (tail-follows s.1.1 s.0.1 s.1.4))

named-exact : Exact named_line
unfolding named_line
named-exact =
    by-exact _ (behind-exact _ _ (λ n. after-exact _ (label-exact n))) declaration-exact
    (λ ts x s. rw (s.3, s.5.1, label-follows s.2 s.5.0 x s.5.2) refl)
    (λ ts x s. (declaration-first ts x s).0)

named-first : (ts : List Symbol) (ps : List LineContent) → named_line.Spells ts ps
    → begins_named ts ≡ true
unfolding named_line
named-first ts ps (inl s) = rw (s.3, s.4) refl
named-first ts ps (inr s) = (declaration-first ts ps s).1

-- ---- lines

keyword-exact : (w : Keyword) → Exact (keyword_line w)
unfolding keyword_line
keyword-exact keyword.Program = search (exacts) depth 20
keyword-exact keyword.EndProgram = search (exacts) depth 20
keyword-exact keyword.Var = search (exacts) depth 20
keyword-exact keyword.VarExternal = search (exacts) depth 20
keyword-exact keyword.EndVar = search (exacts) depth 20

other-exact : (s : Symbol) → Exact (other_line s)
unfolding other_line
other-exact (keyword_word w) = keyword-exact w
other-exact (mnemonic_word m) = statement-exact m
other-exact (mark_symbol mark.Close) = search (exacts) depth 20
other-exact s = search (exacts) depth 20

other-unnamed : (t : Symbol) (ts : List Symbol) (ps : List LineContent)
    → (other_line t).Spells ts ps → is_some (name_of t) ≡ false
unfolding other_line
other-unnamed (name n) ts ps s = absurd s
other-unnamed t ts ps s = refl

begun : {A : Type 0} (x : A) (ts : List Symbol) → begins_named ts ≡ true → no_token_of x ts ≡ None
begun x [] named = absurd cc
begun x (t ∷ ts) named = refl

line-exact : Exact whole_line
unfolding whole_line
line-exact =
    either-exact (nothing-exact _)
    (by-exact _ named-exact (behind-exact _ _ other-exact) named-first
    (λ ts x s. (let first = other-unnamed s.2 s.1 x s.5 in
    rw (s.3, same_Some s.0 s.2 s.4) first)))
    (λ ts x s. elim s [
      | inl named ↦ begun _ ts (named-first ts x named)
      | inr other ↦ rw other.3 refl
    ])

pub lines_are_produced : LinesAreProduced
lines_are_produced ts ps = (line-exact.read ts ps, line-exact.back ts ps)
