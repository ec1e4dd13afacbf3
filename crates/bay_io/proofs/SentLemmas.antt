-- Lemmas on what reached a writer.
use Rattle.std.proofs.Common.{◌≡◌, ◌≢◌, ℕ, Bool, true, false, cond, eqb, ◌||◌, ◌&&◌, List, [], ◌++◌, subst, Option, Result, Ok, Err, OnErr, OnOk, is_ok, is_err, MatchBool, append-nil, append_assoc, take, drop, take-append-drop, refl, ap, sym, ◌∙◌}
use Rattle.std.proofs.lemmas.Bool.{ne_eqb}
use Rattle.std.specs.Io.KnownBytes.{Appends, Keeps}
use Rattle.std.proofs.KnownBytes.{Appends-nil, Appends-trans, Appends-kept}
use Rattle.bay_io.specs.Calls.{SomeCalls, Unlogged, WriteCall, write_failed}
use Rattle.bay_io.specs.Sent.{Sends, SendsPart, Puts}
use Rattle.bay_io.specs.Watched.{SinkState, WriterState}
use Rattle.bay_io.proofs.AskedLemmas.{Asked-none, Asked-then}

pub Sends-all : (a b : Option (List ℕ)) (xs : List ℕ) → Appends a b xs → Sends a b xs []
Sends-all a b xs p = record { taken = xs; appended = p; parts = sym (append-nil xs) }

pub Sends-none : (a : Option (List ℕ)) (xs : List ℕ) → Sends a a xs xs
Sends-none a xs = record { taken = []; appended = Appends-nil a; parts = refl }

-- the front was taken before, and now part of the rest
pub SendsPart-after : (a b c : Option (List ℕ)) (xs ys zs : List ℕ) → Appends a b xs
    → SendsPart b c ys → zs ≡ xs ++ ys → SendsPart a c zs
SendsPart-after a b c xs ys zs p q e =
    record {
      left = q.left;
      sends = record {
        taken = xs ++ q.sends.taken;
        appended = Appends-trans a b c xs q.sends.taken p q.sends.appended;
        parts = e ∙ ap (λ l. xs ++ l) q.sends.parts ∙ sym (append_assoc xs q.sends.taken q.left);
      };
    }

-- part of the front is part of the whole
pub SendsPart-more : (a b : Option (List ℕ)) (xs ys zs : List ℕ) → SendsPart a b xs → zs ≡ xs ++ ys
    → SendsPart a b zs
SendsPart-more a b xs ys zs q e =
    record {
      left = q.left ++ ys;
      sends = record {
        taken = q.sends.taken;
        appended = q.sends.appended;
        parts = e ∙ ap (λ l. l ++ ys) q.sends.parts ∙ append_assoc q.sends.taken q.left ys;
      };
    }

-- the writer has the front, and then took no more
pub SendsPart-front : (a b c : Option (List ℕ)) (xs ys zs : List ℕ) → Appends a b xs → Keeps b c
    → zs ≡ xs ++ ys → SendsPart a c zs
SendsPart-front a b c xs ys zs p k e =
    record {
      left = ys;
      sends =
          record { taken = xs; appended = Appends-kept a b c xs p k; parts = e };
    }

-- the writer has the front, and then took some of the rest
pub SendsPart-step : (a b c : Option (List ℕ)) (front rest zs : List ℕ) (n : ℕ) → Appends a b front
    → Appends b c (take n rest) → zs ≡ front ++ rest → SendsPart a c zs
SendsPart-step a b c front rest zs n p q e =
    record {
      left = drop n rest;
      sends = record {
        taken = front ++ take n rest;
        appended = Appends-trans a b c front (take n rest) p q;
        parts = e ∙ ap (λ l. front ++ l) (sym (take-append-drop n rest))
            ∙ sym (append_assoc front (take n rest) (drop n rest));
      };
    }

pub SendsPart-of_more : (a b c : Option (List ℕ)) (given left more : List ℕ) → Sends a b given left
    → SendsPart b c (left ++ more) → SendsPart a c (given ++ more)
SendsPart-of_more a b c given left more s q =
    SendsPart-after a b c s.taken (left ++ more) (given ++ more) s.appended q
    (ap (λ l. l ++ more) s.parts ∙ append_assoc s.taken left more)

-- what was pending is written
pub Sends-rest : (a b c : Option (List ℕ)) (given left : List ℕ) → Sends a b given left
    → Appends b c left → Appends a c given
Sends-rest a b c given left s p =
    subst (Appends a c) (sym s.parts) (Appends-trans a b c s.taken left s.appended p)

pub Sends-rest_part : (a b c : Option (List ℕ)) (given left : List ℕ) → Sends a b given left
    → SendsPart b c left → SendsPart a c given
Sends-rest_part a b c given left s q = SendsPart-after a b c s.taken left given s.appended q s.parts

pub Sends-trans : (a b c : Option (List ℕ)) (given left more last : List ℕ) → Sends a b given left
    → Sends b c (left ++ more) last → Sends a c (given ++ more) last
Sends-trans a b c given left more last s q =
    record {
      taken = s.taken ++ q.taken;
      appended = Appends-trans a b c s.taken q.taken s.appended q.appended;
      parts = ap (λ l. l ++ more) s.parts ∙ append_assoc s.taken left more
          ∙ ap (λ l. s.taken ++ l) q.parts ∙ sym (append_assoc s.taken q.taken last);
    }

-- nothing was taken
pub SendsPart-none : (a : Option (List ℕ)) (xs : List ℕ) → SendsPart a a xs
SendsPart-none a xs = record { left = xs; sends = Sends-none a xs }

-- a write that took something has not failed
pub unfailed : (before : Bool) (n : ℕ) (given : Bool) → before ≡ false → n ≢ 0
    → (before || (eqb n 0 && given)) ≡ false
unfailed before n given e some = rw (e, ne_eqb n 0 some) refl

-- ---- what is put into a writer, text after text

joined : (failed fails : Bool) (a b c : Option (List ℕ)) (pending front back middle left : List ℕ)
    → MatchBool failed (SendsPart a b (pending ++ front)) (Sends a b (pending ++ front) middle)
    → MatchBool fails (SendsPart b c (middle ++ back)) (Sends b c (middle ++ back) left)
    → (failed ≡ true → (c ≡ b) × (fails ≡ true))
    → MatchBool fails (SendsPart a c (pending ++ (front ++ back)))
    (Sends a c (pending ++ (front ++ back)) left)
joined true true a b c pending front back middle left put more kept =
    subst (λ x. SendsPart a x (pending ++ (front ++ back))) (sym (kept refl).0)
    (SendsPart-more a b (pending ++ front) back (pending ++ (front ++ back)) put
    (sym (append_assoc pending front back)))
joined true false a b c pending front back middle left put more kept =
    let bad = (kept refl).1 in absurd cc
joined false true a b c pending front back middle left put more kept =
    subst (SendsPart a c) (append_assoc pending front back)
    (SendsPart-of_more a b c (pending ++ front) middle back put more)
joined false false a b c pending front back middle left put more kept =
    subst (λ t. Sends a c t left) (append_assoc pending front back)
    (Sends-trans a b c (pending ++ front) middle back left put more)

module _ {W : Type 0} {contents : W → Option (List ℕ)} {does : W → WriteCall → W → Type 0} where
  -- a text was put, and then another
  pub Puts-then : {old mid new : WriterState W} {front back : List ℕ}
      → Puts contents does old front mid
      → Puts contents does mid back new → Puts contents does old (front ++ back) new
  Puts-then {old} {mid} {new} {front} {back} put more = record {
    calls_made =
        Asked-then old.inner mid.inner new.inner old.has_failed mid.has_failed new.has_failed
        put.calls_made more.calls_made;
    sent = joined mid.has_failed new.has_failed (contents old.inner) (contents mid.inner)
        (contents new.inner) old.pending front back mid.pending new.pending put.sent more.sent
        (λ e. (ap contents (more.kept e).0, (more.kept e).1));
    kept = λ e. (
      (more.kept (put.kept e).1).0 ∙ (put.kept e).0,
      (more.kept (put.kept e).1).1,
    );
    same_logs = more.same_logs ∙ put.same_logs;
  }

  pub Puts-as : {old new : WriterState W} {text : List ℕ} (other : List ℕ) → text ≡ other
      → Puts contents does old text new → Puts contents does old other new
  Puts-as {old} {new} {text} other e put = subst (λ t. Puts contents does old t new) e put

  -- nothing was put
  pub Puts-nil : (w : WriterState W) → Puts contents does w [] w
  Puts-nil w = record {
    calls_made = Asked-none w.inner w.has_failed;
    sent = by_failed w.has_failed;
    kept = λ e. (refl, e);
    same_logs = refl;
  }
    where
      by_failed : (b : Bool)
          → MatchBool b (SendsPart (contents w.inner) (contents w.inner) (w.pending ++ []))
          (Sends (contents w.inner) (contents w.inner) (w.pending ++ []) w.pending)
      by_failed true = SendsPart-none (contents w.inner) (w.pending ++ [])
      by_failed false =
          subst (λ t. Sends (contents w.inner) (contents w.inner) t w.pending)
          (sym (append-nil w.pending)) (Sends-none (contents w.inner) w.pending)

  -- a text goes by the buffer, which is empty
  pub Puts-out : {X E : Type 0} (old new : WriterState W) (text : List ℕ) (r : Result X E)
      → OnOk r (Appends (contents old.inner) (contents new.inner) (old.pending ++ text))
      → OnErr r (SendsPart (contents old.inner) (contents new.inner) (old.pending ++ text))
      → OnOk r (new.pending ≡ []) → is_err r ≡ new.has_failed
      → (old.has_failed ≡ true → (new.inner ≡ old.inner) × (new.has_failed ≡ true))
      → SomeCalls (Unlogged does) write_failed old.inner old.has_failed new.inner new.has_failed
      → new.logs ≡ old.logs → Puts contents does old text new
  Puts-out {X} {E} old new text (Ok x) all part none failed kept calls_made logs =
      record {
        calls_made = calls_made;
        sent = subst (λ b. MatchBool b
            (SendsPart (contents old.inner) (contents new.inner) (old.pending ++ text))
            (Sends (contents old.inner) (contents new.inner) (old.pending ++ text) new.pending))
            failed
            (subst (Sends (contents old.inner) (contents new.inner) (old.pending ++ text))
            (sym none) (Sends-all (contents old.inner) (contents new.inner) (old.pending ++ text)
            all));
        kept = kept;
        same_logs = logs;
      }
  Puts-out {X} {E} old new text (Err e) all part none failed kept calls_made logs =
      record {
        calls_made = calls_made;
        sent = subst (λ b. MatchBool b
            (SendsPart (contents old.inner) (contents new.inner) (old.pending ++ text))
            (Sends (contents old.inner) (contents new.inner) (old.pending ++ text) new.pending))
            failed part;
        kept = kept;
        same_logs = logs;
      }

  -- a text was kept in the buffer
  pub Puts-kept : (old : WriterState W) (sink : SinkState W) (pending text left : List ℕ)
      (kept : Bool)
      → record {
        inner = sink.inner;
        has_failed = sink.has_failed;
        is_flushed = sink.is_flushed;
        logs = sink.logs;
        pending = pending;
      } ≡ old
      → left ≡ cond kept (pending ++ text) pending → kept ≡ true
      → Puts contents does old text (record {
        inner = sink.inner;
        has_failed = sink.has_failed;
        is_flushed = sink.is_flushed;
        logs = sink.logs;
        pending = left;
      })
  Puts-kept old sink pending text left true same e is =
      subst (λ w. Puts contents does w text (record {
        inner = sink.inner;
        has_failed = sink.has_failed;
        is_flushed = sink.is_flushed;
        logs = sink.logs;
        pending = left;
      })) same (record {
        calls_made = Asked-none sink.inner sink.has_failed;
        sent = by_failed sink.has_failed;
        kept = λ f. (refl, f);
        same_logs = refl;
      })
    where
      by_failed : (b : Bool)
          → MatchBool b (SendsPart (contents sink.inner) (contents sink.inner) (pending ++ text))
          (Sends (contents sink.inner) (contents sink.inner) (pending ++ text) left)
      by_failed true = SendsPart-none (contents sink.inner) (pending ++ text)
      by_failed false =
          subst (Sends (contents sink.inner) (contents sink.inner) (pending ++ text)) (sym e)
          (Sends-none (contents sink.inner) (pending ++ text))
  Puts-kept old sink pending text left false same e is = absurd cc

  -- what was pending was written out, and then a text was put
  pub Puts-after : {X E : Type 0} (old mid new : WriterState W) (text : List ℕ) (r : Result X E)
      → OnOk r (Appends (contents old.inner) (contents mid.inner) old.pending)
      → OnOk r (mid.pending ≡ []) → is_err r ≡ mid.has_failed
      → (old.has_failed ≡ true → mid ≡ old)
      → SomeCalls (Unlogged does) write_failed old.inner old.has_failed mid.inner mid.has_failed
      → mid.logs ≡ old.logs
      → is_ok r ≡ true → Puts contents does mid text new → Puts contents does old text new
  Puts-after {X} {E} old mid new text (Ok x) all none failed kept calls_made logs is put =
      Puts-then (Puts-out {X = X} {E = E} old mid [] (Ok x)
      (subst (Appends (contents old.inner) (contents mid.inner)) (sym (append-nil old.pending)) all)
      tt none failed
      (λ e. (
        ap (λ (w : WriterState W). w.inner) (kept e),
        ap (λ (w : WriterState W). w.has_failed) (kept e) ∙ e,
      )) calls_made logs) put
  Puts-after {X} {E} old mid new text (Err e) all none failed kept calls_made logs is put =
      absurd cc

  -- it could not be written out
  pub Puts-stuck : {X E : Type 0} (old mid : WriterState W) (text : List ℕ) (r : Result X E)
      → OnErr r (SendsPart (contents old.inner) (contents mid.inner) old.pending)
      → is_err r ≡ mid.has_failed → (old.has_failed ≡ true → mid ≡ old)
      → SomeCalls (Unlogged does) write_failed old.inner old.has_failed mid.inner mid.has_failed
      → mid.logs ≡ old.logs
      → is_ok r ≡ false → Puts contents does old text mid
  Puts-stuck {X} {E} old mid text (Ok x) part failed kept calls_made logs is = absurd cc
  Puts-stuck {X} {E} old mid text (Err e) part failed kept calls_made logs is =
      Puts-out {X = X} {E = E} old mid text (Err e) tt
      (SendsPart-more (contents old.inner) (contents mid.inner) old.pending text
      (old.pending ++ text) part refl) tt failed
      (λ f. (
        ap (λ (w : WriterState W). w.inner) (kept f),
        ap (λ (w : WriterState W). w.has_failed) (kept f) ∙ f,
      )) calls_made logs

-- of a text, all but the rest was put into a writer
pub record Rest {W : Type 0} (contents : W → Option (List ℕ)) (does : W → WriteCall → W → Type 0)
    (old : WriterState W) (text rest : List ℕ) (new : WriterState W) : Type 0 where
  pub done : List ℕ
  pub whole : text ≡ done ++ rest
  pub put : Puts contents does old done new

module _ {W : Type 0} {contents : W → Option (List ℕ)} {does : W → WriteCall → W → Type 0} where
  pub Rest-start : (w : WriterState W) (text : List ℕ) → Rest contents does w text text w
  Rest-start w text = record { done = []; whole = refl; put = Puts-nil w }

  -- a part more was put
  pub Rest-step : {old mid new : WriterState W} {text rest part more : List ℕ}
      → Rest contents does old text rest mid → rest ≡ part ++ more → Puts contents does mid part new
      → Rest contents does old text more new
  Rest-step {old} {mid} {new} {text} {rest} {part} {more} r e put = record {
    done = r.done ++ part;
    whole = r.whole ∙ ap (λ t. r.done ++ t) e ∙ sym (append_assoc r.done part more);
    put = Puts-then r.put put;
  }

  -- all was put
  pub Rest-end : {old new : WriterState W} {text rest : List ℕ}
      → Rest contents does old text rest new
      → rest ≡ [] → Puts contents does old text new
  Rest-end {old} {new} {text} {rest} r e =
      Puts-as text (sym (r.whole ∙ ap (λ t. r.done ++ t) e ∙ append-nil r.done)) r.put
