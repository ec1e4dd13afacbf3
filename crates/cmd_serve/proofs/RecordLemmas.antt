-- What the file of a record takes in all turns is a prefix of the lines of their events.
use Rattle.std.proofs.Common.{◌≡◌, ◌+◌, ◌⊎◌, ℕ, zero, suc, true, false, List, [], ◌∷◌, ◌++◌, length, drop, Option, Result, Ok, Err, is_some, All, inl, inr, refl, ap, sym, subst, ◌∙◌, append_assoc, append-nil, length-append, arith}
use Rattle.std.proofs.KnownBytes.{starts_with_rest}
use Rattle.std.proofs.Transfers.{starts_with_of_append}
use Rattle.std.proofs.lemmas.List.Elements.{All-cons, All-head, All-nil, All-tail}
use Rattle.bay_io.specs.Calls.{WriteCall}
use Rattle.bay_io.specs.Watched.{WriterState}
use Rattle.bay_io.specs.declared.outbox.WriteFault.{WriteFault}
use Rattle.bay_server_turn.specs.Calls.{Call}
use Rattle.bay_server_turn.specs.Recorded.{WritesRecording}
use Rattle.bay_server_turn.specs.Turns.{ServerData, after_turn}
use Rattle.bay_server_turn.specs.declared.record.RecordEnd.{RecordEnd}
use Rattle.bay_server_turn_laws.specs.Events.{turn_events}
use Rattle.bay_server_turn_laws.specs.Records.{IsWritten, RecordsTurn, WritesAll, WritesPrefix, WritesNothing, is_recording, recorded_all, room_left}
use Rattle.bay_server_turn_laws.proofs.RecordFlows.{turn-records}
use Rattle.bay_server_turn_laws.proofs.RecordLemmas.{records-turn}
use Rattle.bay_server.specs.Host.{HostCall}
use Rattle.bay_server.specs.ServeReport.{AfterTurn, ServiceState, ServesTurns, TurnServed}
use Rattle.cmd_serve.specs.SessionRecord.{IsEndless, IsRecordOf, IsUnrecorded, KeepsRecord, all_lines, all_taken, turn_lines}
use Rattle.cmd_serve.specs.Service.{DoneTurn, later_turns, server_after, turn_in, turns_in}
use Rattle.cmd_serve.proofs.TurnLemmas.{paused-held, turned-to}

-- ---- turns that were written

-- What a turn recorded was written. Its event of the process was read from the line of its input.
pub record WritesTurn (h : ServerData) (t : DoneTurn) : Type 0 where
  pub line : t.script.source ≡ t.line
  pub written : WritesRecording t.took (after_turn t.now t.given t.script h).server.recording
      t.recording t.end

abbrev pub WriteTurns : ServerData → List DoneTurn → Type 0
WriteTurns h [] = Unit {0}
WriteTurns h (t ∷ ts) = WritesTurn h t × WriteTurns (server_after t h) ts

-- what the file takes in it
records-in : (h : ServerData) (t : DoneTurn) → WritesTurn h t → IsWritten h.recording
    → RecordsTurn (turn_lines t h) t.took h.recording t.recording t.end
records-in h t is written =
    let events = turn_events t.now t.given t.script h in
    records-turn t.now t.line events h.recording
    (after_turn t.now t.given t.script h).server.recording t.recording t.took t.end written
    (turn-records t.now t.given t.script h
    ∙ ap (λ line. recorded_all t.now line events h.recording) is.line) is.written

-- no more is taken without a record, or after it has ended
none-recorded : (ts : List DoneTurn) (h : ServerData) → IsWritten h.recording
    → is_recording h.recording ≡ false → WriteTurns h ts → All IsUnrecorded ts
none-recorded [] h written idle are = All-nil IsUnrecorded
none-recorded (t ∷ ts) h written idle are =
    let r = records-in h t are.0 written in
    let n : WritesNothing t.took h.recording t.recording t.end = r.idle idle in
    All-cons IsUnrecorded t ts (n.nothing, n.no_end)
    (none-recorded ts (server_after t h) r.written (ap is_recording n.same ∙ idle) are.1)

none-taken : (ts : List DoneTurn) → All IsUnrecorded ts → all_taken ts ≡ []
none-taken [] all = refl
none-taken (t ∷ ts) all =
    ap (λ l. l ++ all_taken ts) (All-head IsUnrecorded t ts all).0
    ∙ none-taken ts (All-tail IsUnrecorded t ts all)

all-recorded : (ts : List DoneTurn) (h : ServerData) → IsWritten h.recording
    → is_recording h.recording ≡ true → WriteTurns h ts
    → IsRecordOf (room_left h.recording) h ts
all-recorded [] h written begun are = record {
  each = tt;
  prefix = refl;
  whole = λ endless. refl;
  within = omega arith;
}
all-recorded (t ∷ ts) h written begun are =
    by-turn (turn.recording begun) turn.written
    (λ behind goes_on. all-recorded ts (server_after t h) behind goes_on are.1)
    (λ behind idle. none-recorded ts (server_after t h) behind idle are.1)
  where
    turn : RecordsTurn (turn_lines t h) t.took h.recording t.recording t.end
    turn = records-in h t are.0 written

    next : ServerData
    next = server_after t h

    by-turn : WritesAll (turn_lines t h) t.took h.recording t.recording t.end
        ⊎ WritesPrefix (turn_lines t h) t.took h.recording t.recording t.end
        → IsWritten t.recording
        → (IsWritten t.recording → is_recording t.recording ≡ true
        → IsRecordOf (room_left t.recording) next ts)
        → (IsWritten t.recording → is_recording t.recording ≡ false → All IsUnrecorded ts)
        → IsRecordOf (room_left h.recording) h (t ∷ ts)
    by-turn (inl w) behind later ends =
        let more : IsRecordOf (room_left t.recording) next ts = later behind w.goes_on in
        let sum : length (t.took ++ all_taken ts) ≡ length t.took + length (all_taken ts) =
        length-append t.took (all_taken ts) in
        record {
          each = inl (w.all, w.no_end, more.each);
          prefix =
              let rest = drop (length (all_taken ts)) (all_lines ts next) in
              starts_with_of_append (turn_lines t h ++ all_lines ts next) (t.took ++ all_taken ts)
              rest
              (ap (λ l. l ++ all_lines ts next) (sym w.all)
              ∙ ap (λ l. t.took ++ l) (starts_with_rest (all_lines ts next) (all_taken ts) more.prefix)
              ∙ sym (append_assoc t.took (all_taken ts) rest));
          whole = λ endless.
              ap (λ l. t.took ++ l) (more.whole (All-tail IsEndless t ts endless))
              ∙ ap (λ l. l ++ all_lines ts next) w.all;
          within = omega (arith, sum, more.within, w.left);
        }
    by-turn (inr w) behind later ends =
        let none : All IsUnrecorded ts = ends behind w.over in
        let taken : t.took ++ all_taken ts ≡ t.took =
        ap (λ l. t.took ++ l) (none-taken ts none) ∙ append-nil t.took in
        let same : length (t.took ++ all_taken ts) ≡ length t.took = ap (λ l. length l) taken in
        let ended : is_some t.end ≡ true = ap (λ (o : Option RecordEnd). is_some o) w.reported in
        record {
          each = inr (starts_with_of_append (turn_lines t h) t.took w.rest (sym w.is), ended, none);
          prefix =
              starts_with_of_append (turn_lines t h ++ all_lines ts next) (t.took ++ all_taken ts)
              (w.rest ++ all_lines ts next)
              (ap (λ l. l ++ all_lines ts next) (sym w.is)
              ∙ append_assoc t.took w.rest (all_lines ts next)
              ∙ ap (λ l. l ++ (w.rest ++ all_lines ts next)) (sym taken));
          whole = λ endless.
              let none : is_some t.end ≡ false =
              ap (λ (o : Option RecordEnd). is_some o) (All-head IsEndless t ts endless) in
              absurd (let no : true ≡ false = sym ended ∙ none in cc);
          within = omega (arith, same, w.room);
        }

turns-recorded : (h : ServerData) (ts : List DoneTurn) → WriteTurns h ts → KeepsRecord h ts
turns-recorded h ts are = record {
  none = λ none. none-recorded ts h (subst IsWritten (sym none) tt) (ap is_recording none) are;
  some = λ most begun.
      subst (λ left. IsRecordOf left h ts) (ap room_left begun)
      (all-recorded ts h (subst IsWritten (sym begun) (refl, refl)) (ap is_recording begun) are);
}

-- ---- the turns that were served

later-written : (Ends Goes : Type 0) (h : ServerData) (reported : Result ℕ WriteFault)
    (rest : AfterTurn reported Ends Goes) (more : Goes → List DoneTurn)
    → ((goes : Goes) → WriteTurns h (more goes))
    → WriteTurns h (later_turns Ends Goes reported rest more)
later-written Ends Goes h (Err fault) rest more each = tt
later-written Ends Goes h (Ok status) goes more each = each goes

module _ {L H W : Type 0} (step : L → Call → L → Type 0) (acts : H → HostCall L → H → Type 0)
    (contents : W → Option (List ℕ)) (asks : W → WriteCall → W → Type 0) where
  writes-turn : (before : ServiceState L H) (old : WriterState W) (after : ServiceState L H)
      (new : WriterState W) (answer : Result ℕ WriteFault)
      (goes : TurnServed step acts contents asks before old after new answer)
      → WritesTurn before.held (turn_in step acts contents asks before old after new answer goes)
  writes-turn before old after new answer goes = record {
    line = goes.serves.source_is;
    written =
        subst (λ r. WritesRecording goes.took r after.held.recording goes.end)
        (ap (λ (h : ServerData). h.recording) goes.serves.server) goes.written;
  }

  turns-written : (turns : ℕ) (before : ServiceState L H) (old : WriterState W) (host : H)
      (new : WriterState W) (answer : Result ℕ WriteFault)
      (serves : ServesTurns step acts contents asks turns before old host new answer)
      → WriteTurns before.held
      (turns_in step acts contents asks turns before old host new answer serves)
  turns-written zero before old host new answer serves = tt
  turns-written (suc turns) before old host new answer (inl fails) = tt
  turns-written (suc turns) before old host new answer (inr did) = (
    writes-turn _ _ _ _ _ did.3,
    later-written _ _ _ did.2 did.4 _ (λ rest.
        subst (λ h. WriteTurns h (turns_in step acts contents asks turns rest.0 did.1 host new
        answer rest.2)) (paused-held step acts contents asks did.0 rest.0 rest.1
        ∙ turned-to step acts contents asks before old did.0 did.1 did.2 did.3)
        (turns-written turns rest.0 _ host new answer rest.2)),
  )

  pub record-kept : (turns : ℕ) (before : ServiceState L H) (old : WriterState W) (host : H)
      (new : WriterState W) (answer : Result ℕ WriteFault)
      (serves : ServesTurns step acts contents asks turns before old host new answer)
      → KeepsRecord before.held
      (turns_in step acts contents asks turns before old host new answer serves)
  record-kept turns before old host new answer serves =
      turns-recorded before.held
      (turns_in step acts contents asks turns before old host new answer serves)
      (turns-written turns before old host new answer serves)
