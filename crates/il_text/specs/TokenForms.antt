-- Forms: parser combinators over the tokens of a line. A form is both a function that reads tokens
-- and a relation between tokens and what they spell. A lemma for each combinator states that the
-- two agree.
use Rattle.std.specs.Prelude.{ℕ, ◌≡◌, ◌⊎◌, Bool, true, false, List, [], ◌∷◌, ◌++◌, Option, Some, None, option_map, option_and_then, is_some, if◌then◌else◌}
use Rattle.il_text.specs.Tokens.{Symbol, name, mark_symbol}
use Rattle.il_text.specs.declared.token.Mark.{Mark}
use Rattle.il_text.specs.declared.token.Mark.TheVariants as mark

-- ---- own: forms of tokens

-- a form: what tokens are read as, if anything, and what they spell
pub record Form (A : Type 0) : Type 1 where
  pub reads : List Symbol → Option A
  pub Spells : List Symbol → A → Type 0

-- applies a function to what f reads
abbrev pub map_form : {A B : Type 0} → (A → B) → Form A → Form B
map_form make f = record {
  reads = λ ts. option_map make (f.reads ts);
  Spells = λ ts y. (x : _) × f.Spells ts x × (make x ≡ y);
}

-- applies a function to what f reads; the function may have no result
abbrev pub try_map_form : {A B : Type 0} → (A → Option B) → Form A → Form B
try_map_form test f = record {
  reads = λ ts. option_and_then test (f.reads ts);
  Spells = λ ts y. (x : _) × f.Spells ts x × (test x ≡ Some y);
}

-- the form that no tokens have
abbrev pub none : {A : Type 0} → Form A
none = record { reads = λ ts. None; Spells = λ ts x. ⊥ }

-- the value x, if there is no token
abbrev pub no_token_of : {A : Type 0} → A → List Symbol → Option A
no_token_of x [] = Some x
no_token_of x (t ∷ ts) = None

-- no token, read as this value
abbrev pub no_token : {A : Type 0} → A → Form A
no_token x = record { reads = no_token_of x; Spells = λ ts y. (ts ≡ []) × (x ≡ y) }

-- what `is` reads from the token, if there is exactly one
abbrev pub one_of : {A : Type 0} → (Symbol → Option A) → List Symbol → Option A
one_of is [] = None
one_of is (t ∷ []) = is t
one_of is (t ∷ u ∷ ts) = None

-- exactly one token
abbrev pub one : {A : Type 0} → (Symbol → Option A) → Form A
one is = record {
  reads = one_of is;
  Spells = λ ts x. (t : Symbol) × (ts ≡ t ∷ []) × (is t ≡ Some x);
}

-- reads the first token with `is`, and the others with the reader that its value selects
abbrev pub bind_form_of : {A B : Type 0} → (Symbol → Option A) → (A → List Symbol → Option B)
    → List Symbol → Option B
bind_form_of is f [] = None
bind_form_of is f (t ∷ ts) = option_and_then (λ x. f x ts) (is t)

-- one token, and then the form that this token selects
abbrev pub bind_form : {A B : Type 0} → (Symbol → Option A) → (A → Form B) → Form B
bind_form is f = record {
  reads = bind_form_of is (λ x. (f x).reads);
  Spells = λ ts y. (t : Symbol) × (rest : List Symbol) × (x : _) × (ts ≡ t ∷ rest) × (is t ≡ Some x)
      × (f x).Spells rest y;
}

-- whether two marks are the same
abbrev pub same_mark : Mark → Mark → Bool
same_mark mark.Colon mark.Colon = true
same_mark mark.Assign mark.Assign = true
same_mark mark.Comma mark.Comma = true
same_mark mark.Semicolon mark.Semicolon = true
same_mark mark.Dot mark.Dot = true
same_mark mark.Open mark.Open = true
same_mark mark.Close mark.Close = true
same_mark m other = false

-- whether the token is this mark
abbrev pub is_mark : Mark → Symbol → Bool
is_mark m (mark_symbol n) = same_mark m n
is_mark m other = false

-- reads the tokens after the mark, if the first token is this mark
abbrev pub after_mark_of : {A : Type 0} → Mark → (List Symbol → Option A) → List Symbol → Option A
after_mark_of m f [] = None
after_mark_of m f (t ∷ ts) = if is_mark m t then f ts else None

-- a mark, and then a form
abbrev pub after_mark : {A : Type 0} → Mark → Form A → Form A
after_mark m f = record {
  reads = after_mark_of m f.reads;
  Spells = λ ts x. (rest : List Symbol) × (ts ≡ mark_symbol m ∷ rest) × f.Spells rest x;
}

-- the first value, if there is one, or else the second
abbrev pub or_of : {A : Type 0} → Option A → Option A → Option A
or_of (Some x) o = Some x
or_of None o = o

-- one of two forms; g is tried if f reads nothing
abbrev pub either : {A : Type 0} → Form A → Form A → Form A
either f g = record {
  reads = λ ts. or_of (f.reads ts) (g.reads ts);
  Spells = λ ts x. f.Spells ts x ⊎ g.Spells ts x;
}

-- one of two forms; a test of the tokens selects the one to try
abbrev pub choose_by : {A : Type 0} → (List Symbol → Bool) → Form A → Form A → Form A
choose_by test f g = record {
  reads = λ ts. if test ts then f.reads ts else g.reads ts;
  Spells = λ ts x. f.Spells ts x ⊎ g.Spells ts x;
}

-- a token before the first of two parts
abbrev pub before_first : Symbol → List Symbol × List Symbol → List Symbol × List Symbol
before_first s p = (s ∷ p.0, p.1)

-- the tokens before and after the first token of this mark, if there is one
abbrev pub split_at_mark : Mark → List Symbol → Option (List Symbol × List Symbol)
split_at_mark m [] = None
split_at_mark m (s ∷ ss) =
    if is_mark m s then Some ([], ss) else option_map (before_first s) (split_at_mark m ss)

-- whether the mark is among the tokens
abbrev pub has_mark : Mark → List Symbol → Bool
has_mark m ts = is_some (split_at_mark m ts)

-- reads both halves of split tokens, if there are two halves
abbrev pub split_form_of : {A B : Type 0} → (List Symbol → Option A) → (List Symbol → Option B)
    → Option (List Symbol × List Symbol) → Option (A × B)
split_form_of f g None = None
split_form_of f g (Some p) = option_and_then (λ y. option_map (λ x. (x, y)) (f p.0)) (g p.1)

-- two forms, separated by a mark; tokens are split at the first one
abbrev pub split_form : {A B : Type 0} → Mark → Form A → Form B → Form (A × B)
split_form m f g = record {
  reads = λ ts. split_form_of f.reads g.reads (split_at_mark m ts);
  Spells = λ ts x. (front : List Symbol) × (rest : List Symbol)
      × (ts ≡ front ++ mark_symbol m ∷ rest) × f.Spells front x.0 × g.Spells rest x.1;
}

-- the name of a token, if it is one
abbrev pub name_of : Symbol → Option (List ℕ)
name_of (name n) = Some n
name_of other = None

-- ---- IEC 61131-3 B.1.4.3: lists of names

-- name {"," name}, beginning with a name; after a name if the flag is true
unfoldable pub names_from : Bool → List Symbol → Option (List (List ℕ))
names_from false [] = None
names_from true [] = Some []
names_from false (s ∷ ss) =
    option_and_then (λ n. option_map (λ ns. n ∷ ns) (names_from true ss)) (name_of s)
names_from true (s ∷ ss) = if is_mark mark.Comma s then names_from false ss else None

-- the tokens of name {"," name}
abbrev pub spelled_names : List ℕ → List (List ℕ) → List Symbol
spelled_names n [] = name n ∷ []
spelled_names n (m ∷ ns) = name n ∷ mark_symbol mark.Comma ∷ spelled_names m ns

-- the form of a list of names
abbrev pub names : Form (List (List ℕ))
names = record {
  reads = names_from false;
  Spells = λ ts x. (n : List ℕ) × (ns : List (List ℕ)) × (x ≡ n ∷ ns) × (ts ≡ spelled_names n ns);
}
