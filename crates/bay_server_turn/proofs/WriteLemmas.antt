-- What a write of a record took, and what it left.
use Rattle.std.proofs.Common.{◌≡◌, ◌+◌, ◌<◌, ◌≤◌, ℕ, Result, Ok, Err, append_assoc, subst, false, true, cond, List, [], ◌∷◌, ◌++◌, Bool, length, take, drop, Option, None, Some, append-nil, ap, refl, sym, ◌∙◌, arith, length-drop}
use Rattle.std.proofs.lemmas.List.{take-append-drop, take_all}
use Rattle.std.proofs.Math.Seq.{take-add}
use Rattle.std.specs.Io.KnownBytes.{Appends, Keeps, WriteAppends}
use Rattle.bay_server_turn.specs.Recorded.{Recording, Writes, is_whole}
use Rattle.bay_server_turn.specs.declared.record.RecordEnd.{RecordEnd}
use Rattle.bay_server_turn.specs.declared.record.RecordEnd.TheVariants.{Failed}

-- the writer took more of the rest
grown : (a b c : Option (List ℕ)) (n count : ℕ) (xs : List ℕ) → Appends a b (take n xs)
    → Appends b c (take count (drop n xs)) → Appends a c (take (n + count) xs)
grown None b c n count xs first more = tt
grown (Some start) None c n count xs first more = absurd (first)
grown (Some start) (Some mid) None n count xs first more = absurd (more)
grown (Some start) (Some mid) (Some end) n count xs first more =
    more ∙ ap (λ ys. ys ++ take count (drop n xs)) first
    ∙ append_assoc start (take n xs) (take count (drop n xs))
    ∙ ap (λ ys. start ++ ys) (sym (take-add n count xs))

-- nothing more was taken
still : (a b c : Option (List ℕ)) (n : ℕ) (xs : List ℕ) → Appends a b (take n xs) → Keeps b c
    → Appends a c (take n xs)
still None b c n xs first same = tt
still (Some start) None c n xs first same = absurd (first)
still (Some start) (Some mid) None n xs first same = absurd (same)
still (Some start) (Some mid) (Some end) n xs first same = same ∙ first

module _ {E : Type 0} (a b c : Option (List ℕ)) (n : ℕ) (xs buffer : List ℕ)
    (answer : Result ℕ E) (is : buffer ≡ drop n xs) (first : Appends a b (take n xs))
    (bytes : WriteAppends b c answer buffer) where
  -- a write took some of the rest
  pub took-more : (count after : ℕ) → answer ≡ Ok count → after ≡ n + count
      → Appends a c (take after xs)
  took-more count after took sum =
      subst (λ k. Appends a c (take k xs)) (sym sum)
      (grown a b c n count xs first
      (subst (λ ys. Appends b c (take count ys)) is
      (subst (λ r. WriteAppends b c r buffer) took bytes)))

  -- a write failed
  pub took-none : (error : E) (after : ℕ) → answer ≡ Err error → after ≡ n
      → Appends a c (take after xs)
  took-none error after fails same =
      subst (λ k. Appends a c (take k xs)) (sym same)
      (still a b c n xs first (subst (λ r. WriteAppends b c r buffer) fails bytes))

some-left : (xs : List ℕ) → 0 < length xs → is_whole xs ≡ false
some-left [] more = absurd (omega (arith, more))
some-left (x ∷ xs) more = refl

module _ {W : Type 0} (contents : W → Option (List ℕ)) (old new : W) (r : Recording) (n : ℕ)
    (lines left : List ℕ) (end answer : Option RecordEnd) (is : lines ≡ r.waiting)
    (bytes : Appends (contents old) (contents new) (take n lines)) (cleared : left ≡ [])
    (told : end ≡ None) where
  -- the record after a write
  abbrev after-with : Bool → Recording
  after-with is_over =
      record { waiting = left; left = r.left; is_over = is_over; end = end }

  same : (is_over : Bool) → after-with is_over
      ≡ record { waiting = []; left = r.left; is_over = is_over; end = None }
  same is_over =
      ap (λ ws. record { waiting = ws; left = r.left; is_over = is_over; end = end }) cleared
      ∙ ap (λ e. record { waiting = []; left = r.left; is_over = is_over; end = e }) told

  -- the writer took all
  pub writes-all : length lines ≤ n → answer ≡ r.end
      → Writes contents (record { writer = old; recording = r })
      (record {
        writer = new;
        recording = record {
          waiting = left;
          left = r.left;
          is_over = r.is_over;
          end = end;
        };
      }) answer
  writes-all all answered = record {
    took = take n lines;
    rest = [];
    is = append-nil (take n lines) ∙ take_all n lines all ∙ is;
    bytes = bytes;
    after = same r.is_over;
    answered = answered;
  }

  -- the writer took a prefix
  pub writes-some : n < length lines → answer ≡ Some Failed
      → Writes contents (record { writer = old; recording = r })
      (record {
        writer = new;
        recording = record {
          waiting = left;
          left = r.left;
          is_over = true;
          end = end;
        };
      }) answer
  writes-some less answered =
      let some : is_whole (drop n lines) ≡ false =
      some-left (drop n lines) (omega (arith, length-drop n lines)) in
      record {
        took = take n lines;
        rest = drop n lines;
        is = take-append-drop n lines ∙ is;
        bytes = bytes;
        after = same true ∙ ap (λ b. record {
          waiting = [];
          left = r.left;
          is_over = cond b r.is_over true;
          end = None;
        }) (sym some);
        answered = answered ∙ ap (λ b. cond b r.end (Some Failed)) (sym some);
      }
