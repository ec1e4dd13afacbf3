-- The record of a session takes a prefix of the lines of events, and so does its file.
use Rattle.std.proofs.Common.{Bool, List, None, Option, Some, [], ap, append-nil, append_assoc, arith, cond, false, inl, inr, is_some, leb, length, length-append, not, refl, subst, sym, true, ℕ, ◌++◌, ◌+◌, ◌-◌, ◌∙◌, ◌∷◌, ◌≡◌, ◌≤◌, ◌⊎◌}
use Rattle.std.proofs.lemmas.Bool.{leb-true}
use Rattle.std.specs.Option.{option_or}
use Rattle.bay_device.specs.declared.event.Event.{Event}
use Rattle.bay_server_turn.specs.Recorded.{Recording, WritesRecording, after_write, end_after_write, finished, has_line, recorded_line, with_event_line, with_line}
use Rattle.bay_server_turn.specs.declared.record.RecordEnd.{RecordEnd}
use Rattle.bay_server_turn.specs.declared.record.RecordEnd.TheVariants.{Full, Overlong, Failed}
use Rattle.bay_server_turn_laws.specs.Events.{ChosenEvent}
use Rattle.bay_server_turn_laws.specs.Records.{IsWritten, RecordsTurn, TakesAll, TakesPrefix, TakesLines, WritesAll, WritesPrefix, is_recording, lines_of, recorded_all, room_left}

-- a record takes all the lines or a prefix of them
abbrev pub Takes : List ℕ → Recording → Recording → Type 0
Takes lines old new = TakesAll lines old new ⊎ TakesPrefix lines old new

-- ---- an event

-- a record that ends takes nothing
ends-now : (lines : List ℕ) (reason : RecordEnd) (r : Recording)
    → TakesPrefix lines r (finished reason r)
ends-now lines reason r = record {
  taken = [];
  rest = lines;
  is = refl;
  over = refl;
  reason = reason;
  ended = refl;
  waiting = sym (append-nil r.waiting);
  left = omega arith;
}

module _ (r : Recording) (goes_on : r.is_over ≡ false) (no_end : r.end ≡ None) where
  line-takes : (line : List ℕ) → Takes line r (with_line line r)
  line-takes line = by-room _ (leb (length line) r.left) _ refl
    where
      by-room : (a b c : Bool) → leb (length line) r.left ≡ b
          → Takes line r (cond a (cond b (cond c
          (record r { waiting = r.waiting ++ line; left = r.left - length line })
          (finished Overlong r)) (finished Full r)) (finished Overlong r))
      by-room true true true low = inl (record {
        goes_on = goes_on;
        no_end = no_end;
        waiting = refl;
        left = omega (arith, leb-true (length line) r.left low);
      })
      by-room true true false low = inr (ends-now line Overlong r)
      by-room true false c low = inr (ends-now line Full r)
      by-room false b c low = inr (ends-now line Overlong r)

  event-takes : (now : ℕ) (source : List ℕ) (event : Event)
      → Takes (recorded_line now source event) r (with_event_line now source event r)
  event-takes now source event =
      subst (λ b. Takes line r (cond b r (cond (has_line source event) (with_line line r)
      (finished Overlong r)))) (sym goes_on) (by-line (has_line source event))
    where
      line : List ℕ
      line = recorded_line now source event

      by-line : (b : Bool) → Takes line r (cond b (with_line line r) (finished Overlong r))
      by-line true = line-takes line
      by-line false = inr (ends-now line Overlong r)

-- ---- events

-- a record that has ended stays as it is
pub over-stays : (now : ℕ) (source : List ℕ) (events : List ChosenEvent) (r : Recording)
    → r.is_over ≡ true → recorded_all now source events (Some r) ≡ Some r
over-stays now source [] r over = refl
over-stays now source (e ∷ es) r over =
    ap (λ b. recorded_all now source es (Some (cond b r
    (cond (has_line source e.1) (with_line (recorded_line now source e.1) r)
    (finished Overlong r))))) over
    ∙ over-stays now source es r over

-- a session that is not recorded stays so
pub none-stays : (now : ℕ) (source : List ℕ) (events : List ChosenEvent)
    → recorded_all now source events None ≡ None
none-stays now source [] = refl
none-stays now source (e ∷ es) = none-stays now source es

-- some events, and then others
pub recorded-append : (now : ℕ) (source : List ℕ) (xs ys : List ChosenEvent)
    (recording : Option Recording)
    → recorded_all now source (xs ++ ys) recording
    ≡ recorded_all now source ys (recorded_all now source xs recording)
recorded-append now source [] ys recording = refl
recorded-append now source (x ∷ xs) ys recording = recorded-append now source xs ys _

-- a line was taken, and then others
all-then : (line lines : List ℕ) (r m n : Recording) → TakesAll line r m → Takes lines m n
    → Takes (line ++ lines) r n
all-then line lines r m n a (inl b) = inl (record {
  goes_on = b.goes_on;
  no_end = b.no_end;
  waiting = b.waiting ∙ ap (λ l. l ++ lines) a.waiting ∙ append_assoc r.waiting line lines;
  left = omega (arith, a.left, b.left, length-append line lines);
})
all-then line lines r m n a (inr b) = inr (record {
  taken = line ++ b.taken;
  rest = b.rest;
  is = append_assoc line b.taken b.rest ∙ ap (λ l. line ++ l) b.is;
  over = b.over;
  reason = b.reason;
  ended = b.ended;
  waiting = b.waiting ∙ ap (λ l. l ++ b.taken) a.waiting ∙ append_assoc r.waiting line b.taken;
  left = omega (arith, a.left, b.left, length-append line b.taken);
})

-- lines that come after the end
prefix-then : (line lines : List ℕ) (r m : Recording) → TakesPrefix line r m
    → TakesPrefix (line ++ lines) r m
prefix-then line lines r m f = record {
  taken = f.taken;
  rest = f.rest ++ lines;
  is = sym (append_assoc f.taken f.rest lines) ∙ ap (λ l. l ++ lines) f.is;
  over = f.over;
  reason = f.reason;
  ended = f.ended;
  waiting = f.waiting;
  left = f.left;
}

-- a line, and then what comes after it
then-lines : (line lines : List ℕ) (r m : Recording)
    (later : Option Recording → Option Recording) → Takes line r m
    → ((n : Recording) → n.is_over ≡ false → n.end ≡ None → TakesLines lines n (later (Some n)))
    → ((n : Recording) → n.is_over ≡ true → later (Some n) ≡ Some n)
    → TakesLines (line ++ lines) r (later (Some m))
then-lines line lines r m later (inl a) goes stays =
    let behind = goes m a.goes_on a.no_end in
    record {
      recording = behind.recording;
      is = behind.is;
      takes = all-then line lines r m behind.recording a behind.takes;
    }
then-lines line lines r m later (inr f) goes stays = record {
  recording = m;
  is = stays m f.over;
  takes = inr (prefix-then line lines r m f);
}

-- a record that has not ended takes all the lines of events, or a prefix of them
pub takes-lines : (now : ℕ) (source : List ℕ) (events : List ChosenEvent) (r : Recording)
    → r.is_over ≡ false → r.end ≡ None
    → TakesLines (lines_of now source events) r (recorded_all now source events (Some r))
takes-lines now source [] r goes_on no_end = record {
  recording = r;
  is = refl;
  takes = inl (record {
    goes_on = goes_on;
    no_end = no_end;
    waiting = sym (append-nil r.waiting);
    left = omega arith;
  });
}
takes-lines now source (e ∷ es) r goes_on no_end =
    then-lines (recorded_line now source e.1) (lines_of now source es) r
    (with_event_line now source e.1 r) (recorded_all now source es)
    (event-takes r goes_on no_end now source e.1) (takes-lines now source es)
    (over-stays now source es)

-- ---- a turn with its write

nothing-first : (xs ys : List ℕ) → xs ++ ys ≡ [] → xs ≡ []
nothing-first [] ys e = refl
nothing-first (x ∷ xs) ys e = absurd (cc)

nothing-last : (xs ys : List ℕ) → xs ++ ys ≡ [] → ys ≡ []
nothing-last [] ys e = e
nothing-last (x ∷ xs) ys e = absurd (cc)

-- after a write nothing waits, and nothing is to be reported
write-written : (rest : List ℕ) (r : Recording) (new : Option Recording)
    → new ≡ Some (after_write rest r) → IsWritten new
write-written rest r new after = subst IsWritten (sym after) (refl, refl)

-- what waits is a prefix of the lines, and a prefix of this is written
write-takes : (lines took rest : List ℕ) (r m : Recording) (new : Option Recording)
    (answer : Option RecordEnd) → r.waiting ≡ [] → took ++ rest ≡ m.waiting
    → new ≡ Some (after_write rest m) → answer ≡ end_after_write rest m → Takes lines r m
    → WritesAll lines took (Some r) new answer ⊎ WritesPrefix lines took (Some r) new answer
write-takes lines took [] r m new answer none is after answered (inl a) =
    let all : took ≡ lines =
    sym (append-nil took) ∙ is ∙ a.waiting ∙ ap (λ l. l ++ lines) none in
    let room : room_left new ≡ m.left = ap room_left after in
    let sum : room_left new + length took ≡ r.left = omega (arith, room, a.left, ap length all) in
    inl (record {
      all = all;
      no_end = answered ∙ a.no_end;
      goes_on = ap is_recording after ∙ ap not a.goes_on;
      left = sum;
    })
write-takes lines took (x ∷ rest) r m new answer none is after answered (inl a) =
    let front : took ++ x ∷ rest ≡ lines = is ∙ a.waiting ∙ ap (λ l. l ++ lines) none in
    let low : length took ≤ r.left =
    omega (arith, a.left, ap length front, length-append took (x ∷ rest)) in
    inr (record {
      rest = x ∷ rest;
      is = front;
      reason = Failed;
      reported = answered;
      over = ap is_recording after;
      room = low;
    })
write-takes lines took rest r m new answer none is after answered (inr f) =
    let front : took ++ rest ≡ f.taken = is ∙ f.waiting ∙ ap (λ l. l ++ f.taken) none in
    let low : length took ≤ r.left =
    omega (arith, f.left, ap length front, length-append took rest) in
    let ends = end-of rest in
    inr (record {
      rest = rest ++ f.rest;
      is = sym (append_assoc took rest f.rest) ∙ ap (λ l. l ++ f.rest) front ∙ f.is;
      reason = ends.0;
      reported = answered ∙ ends.1;
      over = ap is_recording after ∙ over-of rest;
      room = low;
    })
  where
    end-of : (l : List ℕ) → (reason : RecordEnd) × (end_after_write l m ≡ Some reason)
    end-of [] = (f.reason, f.ended)
    end-of (x ∷ l) = (Failed, refl)

    over-of : (l : List ℕ) → is_recording (Some (after_write l m)) ≡ false
    over-of [] = ap not f.over
    over-of (x ∷ l) = refl

-- a turn of a session that is not recorded
none-turn : (lines took : List ℕ) (new : Option Recording) (answer : Option RecordEnd)
    → WritesRecording took None new answer → RecordsTurn lines took None new answer
none-turn lines took new answer w = record {
  written = subst IsWritten (sym w.after) tt;
  kept = ap (λ (o : Option Recording). is_some o) w.after;
  recording = λ e. absurd (let f : false ≡ true = e in cc);
  idle = λ e. record {
    nothing = nothing-first took w.rest w.is;
    no_end = w.answered;
    same = w.after;
  };
}

-- a turn of a session whose record has ended
over-turn : (lines took : List ℕ) (r : Recording) (new : Option Recording)
    (answer : Option RecordEnd) → r.is_over ≡ true → r.waiting ≡ [] → r.end ≡ None
    → WritesRecording took (Some r) new answer → RecordsTurn lines took (Some r) new answer
over-turn lines took r new answer over none no_end w =
    let rest : w.rest ≡ [] = nothing-last took w.rest (w.is ∙ none) in
    record {
      written = write-written w.rest r new w.after;
      kept = ap (λ (o : Option Recording). is_some o) w.after;
      recording = λ e. absurd (let f : false ≡ true = sym (ap not over) ∙ e in cc);
      idle = λ e. record {
        nothing = nothing-first took w.rest (w.is ∙ none);
        no_end = w.answered ∙ ap (λ l. end_after_write l r) rest ∙ no_end;
        same = w.after ∙ ap (λ l. Some (after_write l r)) rest
            ∙ ap (λ (l : List ℕ). Some (record r { waiting = l; end = None })) (sym none)
            ∙ ap (λ (o : Option RecordEnd). Some (record r { end = o })) (sym no_end);
      };
    }

-- a turn of a session whose record has not ended
open-turn : (lines took : List ℕ) (r : Recording) (mid new : Option Recording)
    (answer : Option RecordEnd) → r.is_over ≡ false → r.waiting ≡ [] → TakesLines lines r mid
    → WritesRecording took mid new answer → RecordsTurn lines took (Some r) new answer
open-turn lines took r mid new answer goes_on none t w =
    let m = t.recording in
    let v : WritesRecording took (Some m) new answer =
    subst (λ o. WritesRecording took o new answer) t.is w in
    record {
      written = write-written v.rest m new v.after;
      kept = ap (λ (o : Option Recording). is_some o) v.after;
      recording = λ e. write-takes lines took v.rest r m new answer none v.is v.after v.answered
          t.takes;
      idle = λ e. absurd (let f : true ≡ false = sym (ap not goes_on) ∙ e in cc);
    }

-- a turn of a session, between whose turns nothing waits
pub records-turn : (now : ℕ) (source : List ℕ) (events : List ChosenEvent)
    (old mid new : Option Recording) (took : List ℕ) (answer : Option RecordEnd) → IsWritten old
    → mid ≡ recorded_all now source events old → WritesRecording took mid new answer
    → RecordsTurn (lines_of now source events) took old new answer
records-turn now source events None mid new took answer written is w =
    none-turn (lines_of now source events) took new answer
    (subst (λ o. WritesRecording took o new answer) (is ∙ none-stays now source events) w)
records-turn now source events (Some r) mid new took answer written is w =
    by-over r.is_over refl
  where
    by-over : (over : Bool) → r.is_over ≡ over
        → RecordsTurn (lines_of now source events) took (Some r) new answer
    by-over true over =
        over-turn (lines_of now source events) took r new answer over written.0 written.1
        (subst (λ o. WritesRecording took o new answer)
        (is ∙ over-stays now source events r over) w)
    by-over false goes_on =
        open-turn (lines_of now source events) took r mid new answer goes_on written.0
        (subst (TakesLines (lines_of now source events) r) (sym is)
        (takes-lines now source events r goes_on written.1)) w

-- ---- turns one after the other

-- no turn
pub no-turn : (r : Option Recording) → IsWritten r → RecordsTurn [] [] r r None
no-turn r written = record {
  written = written;
  kept = refl;
  recording = λ e. inl (record { all = refl; no_end = refl; goes_on = e; left = omega arith });
  idle = λ e. record { nothing = refl; no_end = refl; same = refl };
}

-- The file of a turn and of what follows took a prefix of the lines of both; the end is reported
-- once.
module _ (lines took : List ℕ) (a b c : Option Recording) (x y : Option RecordEnd)
    (more further : List ℕ) (s : RecordsTurn lines took a b x) (t : RecordsTurn more further b c y)
  where
    both-write : WritesAll lines took a b x ⊎ WritesPrefix lines took a b x
        → WritesAll (lines ++ more) (took ++ further) a c (option_or x y)
        ⊎ WritesPrefix (lines ++ more) (took ++ further) a c (option_or x y)
    both-write (inl w) = elim (t.recording w.goes_on) [
      | inl v ↦ inl (record {
        all = ap (λ l. l ++ further) w.all ∙ ap (λ l. lines ++ l) v.all;
        no_end = ap (λ o. option_or o y) w.no_end ∙ v.no_end;
        goes_on = v.goes_on;
        left = omega (arith, w.left, v.left, length-append took further);
      })
      | inr v ↦ inr (record {
        rest = v.rest;
        is = append_assoc took further v.rest ∙ ap (λ l. l ++ (further ++ v.rest)) w.all
            ∙ ap (λ l. lines ++ l) v.is;
        reason = v.reason;
        reported = ap (λ o. option_or o y) w.no_end ∙ v.reported;
        over = v.over;
        room = omega (arith, w.left, v.room, length-append took further);
      })
    ]
    both-write (inr w) =
        let v = t.idle w.over in
        let all : took ++ further ≡ took =
        ap (λ l. took ++ l) v.nothing ∙ append-nil took in
        inr (record {
          rest = w.rest ++ more;
          is = ap (λ l. l ++ (w.rest ++ more)) all ∙ sym (append_assoc took w.rest more)
              ∙ ap (λ l. l ++ more) w.is;
          reason = w.reason;
          reported = ap (λ o. option_or o y) w.reported;
          over = ap is_recording v.same ∙ w.over;
          room = omega (arith, w.room, ap length all);
        })

    pub both-turns : RecordsTurn (lines ++ more) (took ++ further) a c (option_or x y)
    both-turns = record {
      written = t.written;
      kept = t.kept ∙ s.kept;
      recording = λ e. both-write (s.recording e);
      idle = λ e.
          let w = s.idle e in
          let v = t.idle (ap is_recording w.same ∙ e) in
          record {
            nothing = ap (λ l. l ++ further) w.nothing ∙ v.nothing;
            no_end = ap (λ o. option_or o y) w.no_end ∙ v.no_end;
            same = v.same ∙ w.same;
          };
    }
