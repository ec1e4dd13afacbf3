-- Lemmas on the calls that a source or a sink was asked.
use Rattle.std.proofs.Common.{◌≡◌, ℕ, ◌+◌, ◌≤◌, Bool, true, false, ◌||◌, List, [], ◌∷◌, ◌++◌, length-append, Result, Ok, Err, is_err, refl, ap, sym, subst, ◌∙◌, arith}
use Rattle.std.proofs.Math.Bool.{or_assoc}
use Rattle.bay_io.specs.Calls.{SomeCalls, MakesFewCalls, MakesCalls, sink_flush, read_failed, source_read, some_call, write_failed, sink_write}
use Rattle.bay_io.specs.Watched.{is_write_failure}

pub or-false : (b : Bool) → b ≡ (b || false)
or-false true = refl
or-false false = refl

pub some-append : {C : Type 0} (f : C → Bool) (xs ys : List C)
    → some_call f (xs ++ ys) ≡ (some_call f xs || some_call f ys)
some-append f [] ys = refl
some-append f (x ∷ xs) ys =
    ap (λ b. f x || b) (some-append f xs ys)
    ∙ sym (or_assoc (f x) (some_call f xs) (some_call f ys))

pub talks-append : {S C : Type 0} (does : S → C → S → Type 0) (a b c : S) (xs ys : List C)
    → MakesCalls does a xs b → MakesCalls does b ys c → MakesCalls does a (xs ++ ys) c
talks-append does a b c [] ys t u = subst (λ s. MakesCalls does s ys c) (sym t) u
talks-append does a b c (x ∷ xs) ys t u = (t.0, t.1, talks-append does t.0 b c xs ys t.2 u)

module _ {S C : Type 0} {does : S → C → S → Type 0} {fails : C → Bool} where
  -- nothing was asked
  abbrev pub Asked-none : (s : S) (b : Bool) → SomeCalls does fails s b s b
  Asked-none s b = record { calls = []; talks = refl; failed = or-false b }

  -- one call
  abbrev pub Asked-one : (old new : S) (was is : Bool) (call : C) → does old call new
      → is ≡ (was || fails call) → SomeCalls does fails old was new is
  Asked-one old new was is call d e = record {
    calls = call ∷ [];
    talks = (new, d, refl);
    failed = e ∙ ap (λ b. was || b) (or-false (fails call));
  }

  -- some, and then others
  abbrev pub Asked-then : (a b c : S) (x y z : Bool) → SomeCalls does fails a x b y
      → SomeCalls does fails b y c z
      → SomeCalls does fails a x c z
  Asked-then a b c x y z p q = record {
    calls = p.calls ++ q.calls;
    talks = talks-append does a b c p.calls q.calls p.talks q.talks;
    failed = q.failed ∙ ap (λ v. v || some_call fails q.calls) p.failed
        ∙ or_assoc x (some_call fails p.calls) (some_call fails q.calls)
        ∙ ap (λ v. x || v) (sym (some-append fails p.calls q.calls));
  }

  abbrev pub AskedFew-none : (s : S) (b : Bool) (most : ℕ) → MakesFewCalls does fails most s b s b
  AskedFew-none s b most = record { calls_made = Asked-none s b; few = omega arith }

  -- one call more
  abbrev pub AskedFew-step : (a b c : S) (x y z : Bool) (most : ℕ) (call : C)
      → MakesFewCalls does fails most a x b y → does b call c → z ≡ (y || fails call)
      → MakesFewCalls does fails (most + 1) a x c z
  AskedFew-step a b c x y z most call p d e = record {
    calls_made = Asked-then a b c x y z p.calls_made (Asked-one b c y z call d e);
    few = omega (arith, p.few, length-append p.calls_made.calls (call ∷ []));
  }

  abbrev pub AskedFew-more : (a b : S) (x y : Bool) (few most : ℕ) → few ≤ most
      → MakesFewCalls does fails few a x b y → MakesFewCalls does fails most a x b y
  AskedFew-more a b x y few most h p =
      record { calls_made = p.calls_made; few = omega (arith, p.few, h) }

-- ---- which calls fail

pub read-failed : {E : Type 0} (n : ℕ) (r : Result ℕ E) (room : List ℕ)
    → is_err r ≡ read_failed (source_read n r room)
read-failed n (Ok k) room = refl
read-failed n (Err e) room = refl

pub write-failed : {E : Type 0} (octets : List ℕ) (r : Result ℕ E)
    → is_write_failure octets r ≡ write_failed (sink_write octets r)
write-failed octets (Ok k) = refl
write-failed octets (Err e) = refl

pub flush-failed : {X E : Type 0} (r : Result X E) → is_err r ≡ write_failed (sink_flush r)
flush-failed (Ok x) = refl
flush-failed (Err e) = refl
