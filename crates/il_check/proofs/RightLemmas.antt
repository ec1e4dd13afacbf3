-- A program passes the checks exactly where it is right.
use Rattle.std.proofs.Common.{◌≡◌, ℕ, Bool, true, false, not, cond, ◌&&◌, ◌||◌, ◌⊎◌, inl, inr, is_none, is_some, List, [], ◌∷◌, ◌++◌, Option, None, Some, refl, ap, sym, ◌∙◌, subst, append-nil, append_assoc}
use Rattle.std.proofs.lemmas.Bool.{not-false}
use Rattle.std.specs.Prelude.{◌↔◌, IsSome, Result, Ok, Err}
use Rattle.std.specs.List.{list_any}
use Rattle.std.specs.Str.{bytes_eq}
use Rattle.bay_base.specs.Exact.{unless_refused}
use Rattle.bay_base.specs.Names.{same_name, upper}
use Rattle.bay_base.specs.declared.point.Point.{Point}
use Rattle.il_text.specs.Listing as text
use Rattle.il_check.specs.Checking.{checked_of, checked_program, faults_of, initial_progress}
use Rattle.il_check.specs.Declaring.{counts_of, declaration_faults, declarations_faults, is_external, looked_up, meaning_at, meanings_from, names_in, point_of}
use Rattle.il_check.specs.Faults.{IsLeast, fault_if, least_fault}
use Rattle.il_check.specs.Program.{Checked}
use Rattle.il_check.specs.RightProgram.{IsRightDeclaration, IsRightProgram}
use Rattle.il_check.specs.WellTyped.{items_faults}
use Rattle.il_check.specs.declared.fault.CheckFault.{CheckFault}
use Rattle.il_check.specs.declared.fault.CheckFault.TheVariants.{OutOfMemory}
use Rattle.il_check.proofs.FaultlessLemmas.{both-none, if-none}
use Rattle.il_check.proofs.LabellingLemmas.{some_labelling}
use Rattle.il_check.proofs.LeastLemmas.{answered-is-least}
use Rattle.il_check.proofs.NotedLemmas.{least_fault-none}

-- ---- names that are declared before

some-or : {A : Type 0} (b : Bool) (x : A) (o : Option A)
    → is_some (cond b (Some x) o) ≡ b || is_some o
some-or true x o = refl
some-or false x o = refl

known-from : (points : List Point) (acc before : List text.DeclaredName) (name : List ℕ)
    → is_some (looked_up (meanings_from points acc before) (upper name))
    ≡ list_any (λ e. same_name e.name name) before
unfolding same_name
known-from points acc [] name = refl
known-from points acc (d ∷ before) name =
    some-or (bytes_eq (upper d.name) (upper name))
    (meaning_at (counts_of points acc) d.scope d.kind (point_of points d.name))
    (looked_up (meanings_from points (acc ++ d ∷ []) before) (upper name))
    ∙ ap (λ (b : Bool). bytes_eq (upper d.name) (upper name) || b)
    (known-from points (acc ++ d ∷ []) before name)

-- ---- one declaration

not-none : {A : Type 0} (b : Bool) (o : Option A) → b && is_none o ≡ false → b ≡ true → IsSome o
not-none true None e f = absurd cc
not-none true (Some x) e f = refl
not-none false o e f = absurd cc

all-known : {A : Type 0} (b : Bool) (o : Option A) → (b ≡ true → IsSome o) → b && is_none o ≡ false
all-known true None h = absurd (let e : false ≡ true = h refl in cc)
all-known true (Some x) h = refl
all-known false o h = refl

right-one : (points : List Point) (before : List text.DeclaredName) (d : text.DeclaredName)
    → declaration_faults points before d ≡ [] → IsRightDeclaration points before d
right-one points before d none =
    let missing = both-none _ _ none in
    let twice = both-none _ _ missing.1 in
    let wrong = both-none _ _ twice.1 in
    record {
      known = not-none (is_external d.scope) (point_of points d.name) (if-none _ _ missing.0);
      own = sym (known-from points [] before d.name) ∙ if-none _ _ twice.0;
      typed = not-false _ (if-none _ _ wrong.0);
      few = if-none _ _ wrong.1;
    }

no_fault : (b : Bool) (f : CheckFault) → b ≡ false → fault_if b f ≡ []
no_fault true f e = absurd cc
no_fault false f e = refl

none-of : {A : Type 0} (xs ys : List A) → xs ≡ [] → ys ≡ [] → xs ++ ys ≡ []
none-of [] ys e f = f
none-of (x ∷ xs) ys e f = absurd cc

one-right : (points : List Point) (before : List text.DeclaredName) (d : text.DeclaredName)
    → IsRightDeclaration points before d → declaration_faults points before d ≡ []
one-right points before d h =
    none-of _ _ (no_fault _ _ (all-known (is_external d.scope) (point_of points d.name) h.known))
    (none-of _ _ (no_fault _ _ (known-from points [] before d.name ∙ h.own))
    (none-of _ _ (no_fault _ _ (ap not h.typed)) (no_fault _ _ h.few)))

-- ---- all of them

abbrev AreRightFrom : List Point → List text.DeclaredName → List text.DeclaredName → Type 0
AreRightFrom points acc declared =
    (before : List text.DeclaredName) (d : text.DeclaredName) (after : List text.DeclaredName)
    → declared ≡ before ++ d ∷ after → IsRightDeclaration points (acc ++ before) d

head-same : {A : Type 0} (x y : A) (xs ys : List A) → x ∷ xs ≡ y ∷ ys → (x ≡ y) × (xs ≡ ys)
head-same x y xs ys e = (cc, cc)

none-there : {A : Type 0} (before : List A) (d : A) (after : List A) → [] ≡ before ++ d ∷ after → ⊥
none-there [] d after e = cc
none-there (x ∷ before) d after e = cc

right-case : (points : List Point) (acc : List text.DeclaredName) (x : text.DeclaredName)
    (ds : List text.DeclaredName) → IsRightDeclaration points acc x
    → AreRightFrom points (acc ++ x ∷ []) ds → AreRightFrom points acc (x ∷ ds)
right-case points acc x ds here rest [] d after e =
    let same = head-same x d ds after e in
    subst (λ (bs : List text.DeclaredName). IsRightDeclaration points bs d) (sym (append-nil acc))
    (subst (IsRightDeclaration points acc) same.0 here)
right-case points acc x ds here rest (b ∷ before) d after e =
    let same = head-same x b ds (before ++ d ∷ after) e in
    subst (λ (y : text.DeclaredName). IsRightDeclaration points (acc ++ y ∷ before) d) same.0
    (subst (λ (bs : List text.DeclaredName). IsRightDeclaration points bs d)
    (append_assoc acc (x ∷ []) before) (rest before d after same.1))

right-all : (points : List Point) (acc ds : List text.DeclaredName)
    → declarations_faults points acc ds ≡ [] → AreRightFrom points acc ds
right-all points acc [] none = λ before d after e. absurd (none-there before d after e)
right-all points acc (x ∷ ds) none =
    let two =
    both-none (declaration_faults points acc x) (declarations_faults points (acc ++ x ∷ []) ds)
    none in
    right-case points acc x ds (right-one points acc x two.0)
    (right-all points (acc ++ x ∷ []) ds two.1)

all-right : (points : List Point) (acc ds : List text.DeclaredName) → AreRightFrom points acc ds
    → declarations_faults points acc ds ≡ []
all-right points acc [] h = refl
all-right points acc (x ∷ ds) h =
    none-of (declaration_faults points acc x) (declarations_faults points (acc ++ x ∷ []) ds)
    (one-right points acc x (subst (λ (bs : List text.DeclaredName). IsRightDeclaration points bs x)
    (append-nil acc) (h [] x ds refl)))
    (all-right points (acc ++ x ∷ []) ds
    (λ before d after e. subst (λ (bs : List text.DeclaredName). IsRightDeclaration points bs d)
    (sym (append_assoc acc (x ∷ []) before))
    (h (x ∷ before) d after (ap (λ (ys : List text.DeclaredName). x ∷ ys) e))))

-- ---- a program

pub right-program : (points : List Point) (program : text.PlainProgram)
    → faults_of points program ≡ [] → IsRightProgram points program
right-program points program none =
    let two =
    both-none (declarations_faults points [] program.declarations)
    (items_faults (names_in points program) program.items (initial_progress program)) none in
    record {
      declarations = right-all points [] program.declarations two.0;
      instructions = (some_labelling points program).0 two.1;
    }

pub program-right : (points : List Point) (program : text.PlainProgram)
    → IsRightProgram points program → faults_of points program ≡ []
program-right points program h =
    none-of (declarations_faults points [] program.declarations)
    (items_faults (names_in points program) program.items (initial_progress program))
    (all-right points [] program.declarations h.declarations)
    ((some_labelling points program).1 h.instructions)

judged-ok : (o : Option CheckFault) (x c : Checked) → unless_refused o x ≡ Ok c → o ≡ None
judged-ok None x c e = refl
judged-ok (Some f) x c e = absurd cc

judged-err : (o : Option CheckFault) (x : Checked) (f : CheckFault) → unless_refused o x ≡ Err f
    → o ≡ Some f
judged-err None x f e = absurd cc
judged-err (Some g) x f e = cc

-- a text that the check accepts is a right program
pub passes : (points : List Point) (program : text.PlainProgram) (c : Checked)
    → checked_of points program ≡ Ok c → IsRightProgram points program
passes points program c e =
    right-program points program
    (least_fault-none (faults_of points program)
    (judged-ok (least_fault (faults_of points program)) (checked_program points program) c e))

pub right-passes : (points : List Point) (program : text.PlainProgram)
    → IsRightProgram points program → (c : Checked) × (checked_of points program ≡ Ok c)
right-passes points program h = (
  checked_program points program,
  ap (λ (fs : List CheckFault). unless_refused (least_fault fs) (checked_program points program))
      (program-right points program h),
)

pub right_programs_pass : (points : List Point) (program : text.PlainProgram)
    → ((c : Checked) × (checked_of points program ≡ Ok c)) ↔ IsRightProgram points program
right_programs_pass points program =
    (λ p. passes points program p.0 p.1, right-passes points program)

-- what is refused is not right, and the answer is the least fault
pub refused-wrong : (points : List Point) (program : text.PlainProgram) (f : CheckFault)
    → checked_of points program ≡ Err f → IsRightProgram points program → ⊥
refused-wrong points program f e h =
    let p = right-passes points program h in
    let no : ◌≡◌ {A = Result Checked CheckFault} (Ok p.0) (Err f) = sym p.1 ∙ e in
    cc

pub refused-least : (points : List Point) (program : text.PlainProgram) (f : CheckFault)
    → checked_of points program ≡ Err f → IsLeast f (faults_of points program)
refused-least points program f e =
    answered-is-least (faults_of points program) f
    (judged-err (least_fault (faults_of points program)) (checked_program points program) f e)

-- the same of an answer in whose place want of memory may stand
pub wrong-answer : (points : List Point) (program : text.PlainProgram) (f : CheckFault)
    → (f ≡ OutOfMemory) ⊎ (checked_of points program ≡ Err f) → (f ≡ OutOfMemory → ⊥)
    → IsRightProgram points program → ⊥
wrong-answer points program f (inl e) ne h = absurd (ne e)
wrong-answer points program f (inr e) ne h = refused-wrong points program f e h

pub least-answer : (points : List Point) (program : text.PlainProgram) (f : CheckFault)
    → (f ≡ OutOfMemory) ⊎ (checked_of points program ≡ Err f) → (f ≡ OutOfMemory → ⊥)
    → IsLeast f (faults_of points program)
least-answer points program f (inl e) ne = absurd (ne e)
least-answer points program f (inr e) ne = refused-least points program f e
