-- Letters in upper case: the forms of lines.
use Rattle.std.proofs.Common.{arith}
use Rattle.std.proofs.lemmas.Grind.{common_steps}
use Rattle.std.proofs.Common.{◌≡◌, ℕ, Bool, true, false, cond, List, [], ◌∷◌, Option, Some, None, option_map, option_and_then, is_some, map, codes, refl, ap, ◌∙◌}
use Rattle.il_text.specs.Forms as form
use Rattle.il_text.specs.TokenForms.{Form, map_form, try_map_form, no_token, one, one_of, bind_form, after_mark, after_mark_of, either, or_of, choose_by, split_at_mark, before_first, has_mark, split_form, split_form_of, name_of, is_mark, names_from}
use Rattle.il_text.specs.LetterCase.{upper_place, upper_source, upper_argument, upper_action}
use Rattle.il_text.specs.Listing.{OperandData, Action}
use Rattle.il_text.specs.Parts.{LineContent, program_start, block_start, names_part, block_end, label_part, action_part, parenthesis_start, parenthesis_end, program_end}
use Rattle.il_text.specs.Tokens.{Symbol, name, keyword_word, mnemonic_word, mark_symbol}
use Rattle.il_text.specs.declared.program.Input.{Input}
use Rattle.il_text.specs.declared.program.Operator.{Operator}
use Rattle.il_text.specs.declared.token.Keyword.{Keyword}
use Rattle.il_text.specs.declared.token.Keyword.TheVariants as keyword
use Rattle.il_text.specs.declared.token.Mark.{Mark}
use Rattle.il_text.specs.declared.token.Mark.TheVariants as mark
use Rattle.il_text.specs.declared.token.Mnemonic.{Mnemonic}
use Rattle.il_text.specs.declared.token.Mnemonic.TheVariants as mnemonic
use Rattle.il_text.proofs.CaseLemmas.{cond-up, up, same-up}
use Rattle.il_text.proofs.CaseCutting.{upper_symbol}

abbrev pub upper_symbols : List Symbol → List Symbol
upper_symbols = map upper_symbol

abbrev pub upper_part : LineContent → LineContent
upper_part (program_start n) = program_start (map up n)
upper_part (block_start scope) = block_start scope
upper_part (names_part ns kind initial) = names_part (map (map up) ns) kind initial
upper_part block_end = block_end
upper_part (label_part n) = label_part (map up n)
upper_part (action_part a) = action_part (upper_action a)
upper_part (parenthesis_start o g) = parenthesis_start o g
upper_part parenthesis_end = parenthesis_end
upper_part program_end = program_end

abbrev pub upper_parts : List LineContent → List LineContent
upper_parts = map upper_part

-- what has no name
abbrev same : {A : Type 0} → A → A
same x = x

-- Of tokens in upper case f reads what g does of these, in upper case.
record Up {A : Type 0} (u : A → A) (f g : Form A) : Type 0 where
  up : (ts : List Symbol) → f.reads (upper_symbols ts) ≡ option_map u (g.reads ts)

-- a token in upper case is what it is, in upper case
abbrev IsUp : {A : Type 0} → (A → A) → (Symbol → Option A) → Type 0
IsUp u is = (s : Symbol) → is (upper_symbol s) ≡ option_map u (is s)

-- ---- ways of making forms of others

mapped : {A B : Type 0} (u : A → A) (v : B → B) (to make : A → B)
    → ((x : A) → to (u x) ≡ v (make x)) → (o : Option A)
    → option_map to (option_map u o) ≡ option_map v (option_map make o)
mapped u v to make h None = refl
mapped u v to make h (Some x) = ap Some (h x)

pub then-up : {A B : Type 0} (u : A → A) (v : B → B) (f g : A → Option B)
    → ((x : A) → f (u x) ≡ option_map v (g x)) → (o : Option A)
    → option_and_then f (option_map u o) ≡ option_map v (option_and_then g o)
then-up u v f g h None = refl
then-up u v f g h (Some x) = h x

made-up : {A B : Type 0} {u : A → A} {v : B → B} {to make : A → B} {f g : Form A}
    → ((x : A) → to (u x) ≡ v (make x)) → Up u f g → Up v (map_form to f) (map_form make g)
made-up {to = to} {g = g} h k =
    record { up = λ ts. ap (option_map to) (k.up ts) ∙ mapped _ _ _ _ h (g.reads ts) }

such-up : {A B : Type 0} {u : A → A} {v : B → B} {test : A → Option B} {f g : Form A}
    → ((x : A) → test (u x) ≡ option_map v (test x)) → Up u f g
    → Up v (try_map_form test f) (try_map_form test g)
such-up {test = test} {g = g} h k =
    record { up = λ ts. ap (option_and_then test) (k.up ts) ∙ then-up _ _ _ _ h (g.reads ts) }

nothing-up : {A : Type 0} {u : A → A} {x y : A} → y ≡ u x → Up u (no_token y) (no_token x)
nothing-up {A} {u} {x} {y} e = record { up = by-list }
  where
    by-list : (ts : List Symbol)
        → (no_token y).reads (upper_symbols ts) ≡ option_map u ((no_token x).reads ts)
    by-list [] = ap Some e
    by-list (t ∷ ts) = refl

one-up : {A : Type 0} {u : A → A} {is : Symbol → Option A} → IsUp u is → Up u (one is) (one is)
one-up {A} {u} {is} h = record { up = by-list }
  where
    by-list : (ts : List Symbol) → one_of is (upper_symbols ts) ≡ option_map u (one_of is ts)
    by-list [] = refl
    by-list (t ∷ []) = h t
    by-list (t ∷ s ∷ ts) = refl

behind-up : {A B : Type 0} (u : A → A) {v : B → B} {is : Symbol → Option A} {f : A → Form B}
    → IsUp u is → ((x : A) → Up v (f (u x)) (f x)) → Up v (bind_form is f) (bind_form is f)
behind-up {A} {B} u {v} {is} {f} h k = record { up = by-list }
  where
    by-list : (ts : List Symbol)
        → (bind_form is f).reads (upper_symbols ts) ≡ option_map v ((bind_form is f).reads ts)
    by-list [] = refl
    by-list (t ∷ ts) =
        ap (option_and_then (λ x. (f x).reads (upper_symbols ts))) (h t)
        ∙ then-up _ _ _ _ (λ x. (k x).up ts) (is t)

mark-up : (m : Mark) (s : Symbol) → is_mark m (upper_symbol s) ≡ is_mark m s
mark-up m (name n) = refl
mark-up m i = refl

after-up : {A : Type 0} {u : A → A} {m : Mark} {f g : Form A} → Up u f g
    → Up u (after_mark m f) (after_mark m g)
after-up {A} {u} {m} {f} {g} k = record { up = by-list }
  where
    by-list : (ts : List Symbol)
        → after_mark_of m f.reads (upper_symbols ts) ≡ option_map u (after_mark_of m g.reads ts)
    by-list [] = refl
    by-list (t ∷ ts) =
        rw (mark-up m t, k.up ts) (cond-up (option_map _) (is_mark m t) (g.reads ts) None)

either-up : {A : Type 0} {u : A → A} {f g d e : Form A} → Up u f d → Up u g e
    → Up u (either f g) (either d e)
either-up {A} {u} {f} {g} {d} {e} k l =
    record { up = λ ts. rw (k.up ts, l.up ts) (by-some (d.reads ts) (e.reads ts)) }
  where
    by-some : (o p : Option A) → or_of (option_map u o) (option_map u p) ≡ option_map u (or_of o p)
    by-some None p = refl
    by-some (Some x) p = refl

by-up : {A : Type 0} {u : A → A} {test : List Symbol → Bool} {f g d e : Form A}
    → ((ts : List Symbol) → test (upper_symbols ts) ≡ test ts) → Up u f d → Up u g e
    → Up u (choose_by test f g) (choose_by test d e)
by-up {test = test} {d = d} {e = e} h k l =
    record {
      up = λ ts. rw (h ts, k.up ts, l.up ts)
          (cond-up (option_map _) (test ts) (d.reads ts) (e.reads ts));
    }

abbrev up_both : List Symbol × List Symbol → List Symbol × List Symbol
up_both p = (upper_symbols p.0, upper_symbols p.1)

split-up : (m : Mark) (ts : List Symbol)
    → split_at_mark m (upper_symbols ts) ≡ option_map up_both (split_at_mark m ts)
split-up m [] = refl
split-up m (s ∷ ss) = rw (mark-up m s, split-up m ss) (by-test (is_mark m s) (split_at_mark m ss))
  where
    by-test : (b : Bool) (o : Option (List Symbol × List Symbol))
        → cond b (Some ([], upper_symbols ss))
        (option_map (before_first (upper_symbol s)) (option_map up_both o))
        ≡ option_map up_both (cond b (Some ([], ss)) (option_map (before_first s) o))
    by-test true o = refl
    by-test false o = mapped _ _ _ _ (λ p. refl) o

parted-up : {A B : Type 0} {u : A → A} {v : B → B} {m : Mark} {f d : Form A} {g e : Form B}
    → Up u f d → Up v g e → Up (λ p. (u p.0, v p.1)) (split_form m f g) (split_form m d e)
parted-up {A} {B} {u} {v} {m} {f} {d} {g} {e} k l =
    record { up = λ ts. rw (split-up m ts) (by-parts (split_at_mark m ts)) }
  where
    by-parts : (o : Option (List Symbol × List Symbol))
        → split_form_of f.reads g.reads (option_map up_both o)
        ≡ option_map (λ (q : A × B). (u q.0, v q.1)) (split_form_of d.reads e.reads o)
    by-parts None = refl
    by-parts (Some p) =
        rw (k.up p.0, l.up p.1)
        (then-up _ _ _ _ (λ y. mapped _ _ _ _ (λ x. refl) (d.reads p.0)) (e.reads p.1))

name-up : IsUp (map up) name_of
name-up s = grind (arith, common_steps)

names_from-up : (b : Bool) (ts : List Symbol)
    → names_from b (upper_symbols ts) ≡ option_map (map (map up)) (names_from b ts)
unfolding names_from
names_from-up false [] = refl
names_from-up true [] = refl
names_from-up false (s ∷ ss) =
    rw (name-up s, names_from-up true ss)
    (then-up _ _ _ _ (λ n. mapped _ _ _ _ (λ ns. refl) (names_from true ss)) (name_of s))
names_from-up true (s ∷ ss) =
    rw (mark-up mark.Comma s, names_from-up false ss)
    (cond-up (option_map _) (is_mark mark.Comma s) (names_from false ss) None)

-- ---- the forms of lines

literal-up : IsUp same form.literal_of
literal-up s = grind (arith, common_steps)

type-up : IsUp same form.type_of
type-up s = grind (arith, common_steps)

elementary-up : IsUp same form.elementary_of
elementary-up s = grind (arith, common_steps)

mnemonic-up : IsUp same form.mnemonic_of
mnemonic-up s = grind (arith, common_steps)

-- what a name names, letters in either case
word-up : {A : Type 0} {f : List ℕ → Option A} → ((w : List ℕ) → f (map up w) ≡ f w)
    → IsUp same (λ s. option_and_then f (name_of s))
word-up {A} {f} h s = rw (name-up s) (then-up _ _ _ _ (λ w. h w ∙ by-same (f w)) (name_of s))
  where
    by-same : (o : Option A) → o ≡ option_map same o
    by-same None = refl
    by-same (Some x) = refl

output-up : IsUp same form.output_of
output-up =
    word-up (λ w. (unfold form.output_named in
    rw (same-up w (codes "Q"), same-up w (codes "ET")) refl))

input-up : IsUp same form.input_of
input-up =
    word-up (λ w. (unfold form.input_named in
    rw (same-up w (codes "IN"), same-up w (codes "PT")) refl))

place-up : Up upper_place form.symbolic_variable form.symbolic_variable
unfolding form.symbolic_variable
place-up =
    by-up is-one (made-up (λ n. refl) (one-up name-up))
    (behind-up (map up) name-up (λ t. after-up (made-up (λ o. refl) (one-up output-up))))
  where
    is-one : (ts : List Symbol) → form.is_one (upper_symbols ts) ≡ form.is_one ts
    is-one ts = grind (arith, common_steps)

operand-up : Up upper_source form.operand form.operand
unfolding form.operand
operand-up = either-up (made-up (λ v. refl) (one-up literal-up)) (made-up (λ p. refl) place-up)

argument-up : Up upper_argument form.argument form.argument
unfolding form.argument
argument-up = behind-up same input-up (λ k. after-up (made-up (λ x. refl) operand-up))

abbrev up_arguments : List (Input × OperandData) → List (Input × OperandData)
up_arguments = map upper_argument

list-up : Up up_arguments form.argument_list form.argument_list
unfolding form.argument_list
list-up =
    by-up has-comma
    (such-up (λ p. by-test p (form.same_input p.0.0 p.1.0)) (parted-up argument-up argument-up))
    (made-up (λ a. refl) argument-up)
  where
    by-some : (o : Option (List Symbol × List Symbol)) → is_some (option_map up_both o) ≡ is_some o
    by-some None = refl
    by-some (Some p) = refl

    has-comma : (ts : List Symbol) → has_mark mark.Comma (upper_symbols ts) ≡ has_mark mark.Comma ts
    has-comma ts = rw (split-up mark.Comma ts) (by-some (split_at_mark mark.Comma ts))

    by-test : (p : (Input × OperandData) × (Input × OperandData)) (b : Bool)
        → cond b None (Some (upper_argument p.0 ∷ upper_argument p.1 ∷ []))
        ≡ option_map up_arguments (cond b None (Some (p.0 ∷ p.1 ∷ [])))
    by-test p true = refl
    by-test p false = refl

call-up : Up upper_action form.call_action form.call_action
unfolding form.call_action form.closed_arguments form.arguments
call-up =
    let given = either-up (nothing-up refl) list-up in
    let closed = parted-up given (nothing-up {u = same} refl) in
    behind-up _ name-up (λ t. after-up (made-up (λ x. refl) (made-up (λ p. refl) closed)))

acts-up : {f g : Form Action} → Up upper_action f g
    → Up upper_parts (form.only_action f) (form.only_action g)
acts-up k = made-up (λ a. refl) k

parenthesis-up : (o : Operator) (n : Bool)
    → Up upper_parts (form.parenthesis o n) (form.parenthesis o n)
unfolding form.parenthesis
parenthesis-up o n = either-up (nothing-up refl) (made-up (λ x. refl) operand-up)

operator-up : (o : Operator) (n : Bool)
    → Up upper_parts (form.operator_parts o n) (form.operator_parts o n)
unfolding form.operator_parts
operator-up o n =
    by-up begins (after-up (parenthesis-up o n)) (acts-up (made-up (λ x. refl) operand-up))
  where
    begins : (ts : List Symbol) → form.begins_open (upper_symbols ts) ≡ form.begins_open ts
    begins [] = refl
    begins (t ∷ ts) = mark-up mark.Open t

statement-up : (m : Mnemonic) → Up upper_parts (form.statement m) (form.statement m)
unfolding form.statement
statement-up (mnemonic.Load n) = acts-up (made-up (λ x. refl) operand-up)
statement-up (mnemonic.Store k) = acts-up (made-up (λ p. refl) place-up)
statement-up (mnemonic.Combine o n) = operator-up o n
statement-up mnemonic.Not = nothing-up refl
statement-up (mnemonic.Convert c) = nothing-up refl
statement-up (mnemonic.Return c) = nothing-up refl
statement-up (mnemonic.Jump c) = acts-up (made-up (λ n. refl) (one-up name-up))
statement-up mnemonic.Call = acts-up call-up

instruction-up : Up upper_parts form.instruction form.instruction
unfolding form.instruction
instruction-up = behind-up same mnemonic-up statement-up

tail-up : Up same form.tail form.tail
unfolding form.tail
tail-up =
    by-up is-two (behind-up same type-up (λ k. after-up (nothing-up refl)))
    (behind-up same elementary-up
    (λ k. after-up (behind-up same literal-up (λ v. after-up (nothing-up refl)))))
  where
    is-two : (ts : List Symbol) → form.is_two (upper_symbols ts) ≡ form.is_two ts
    is-two ts = grind (arith, common_steps)

declaration-up : Up upper_parts form.declaration form.declaration
unfolding form.declaration
declaration-up = made-up (λ p. refl) (parted-up (record { up = names_from-up false }) tail-up)

label-up : (n : List ℕ) → Up upper_parts (form.label_parts (map up n)) (form.label_parts n)
unfolding form.label_parts
label-up n = either-up (nothing-up refl) (made-up (λ ps. refl) instruction-up)

operator-first : (s : Symbol) → form.is_mnemonic (upper_symbol s) ≡ form.is_mnemonic s
operator-first (name n) = refl
operator-first i = refl

follows-up : (ts : List Symbol)
    → form.may_follow_label (upper_symbols ts) ≡ form.may_follow_label ts
unfolding form.may_follow_label
follows-up [] = refl
follows-up (t ∷ ts) = operator-first t

labelled-up : (ts : List Symbol) → form.is_labelled (upper_symbols ts) ≡ form.is_labelled ts
labelled-up [] = refl
labelled-up (s ∷ []) = refl
labelled-up (s ∷ c ∷ ts) = rw (mark-up mark.Colon c, follows-up ts) refl

named-up : Up upper_parts form.named_line form.named_line
unfolding form.named_line
named-up =
    by-up labelled-up (behind-up (map up) name-up (λ n. after-up (label-up n))) declaration-up

keyword-up : (w : Keyword) → Up upper_parts (form.keyword_line w) (form.keyword_line w)
unfolding form.keyword_line
keyword-up keyword.Program = made-up (λ n. refl) (one-up name-up)
keyword-up keyword.EndProgram = nothing-up refl
keyword-up keyword.Var = nothing-up refl
keyword-up keyword.VarExternal = nothing-up refl
keyword-up keyword.EndVar = nothing-up refl

other-up : (s : Symbol) → Up upper_parts (form.other_line (upper_symbol s)) (form.other_line s)
unfolding form.other_line
other-up (keyword_word w) = keyword-up w
other-up (mnemonic_word m) = statement-up m
other-up (mark_symbol mark.Close) = nothing-up refl
other-up (mark_symbol m) = record { up = λ ts. refl }
other-up s = record { up = λ ts. refl }

line-up : Up upper_parts form.whole_line form.whole_line
unfolding form.whole_line
line-up =
    either-up (nothing-up refl)
    (by-up begins named-up (behind-up upper_symbol (λ s. refl) other-up))
  where
    begins : (ts : List Symbol) → form.begins_named (upper_symbols ts) ≡ form.begins_named ts
    begins [] = refl
    begins (name n ∷ ts) = refl
    begins (t ∷ ts) = refl

pub parts-up : (ts : List Symbol)
    → form.parts_of (upper_symbols ts) ≡ option_map upper_parts (form.parts_of ts)
parts-up ts = line-up.up ts
