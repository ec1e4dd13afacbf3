use Rattle.std.proofs.Common.{◌≡◌, length, Ok, ap, arith}
use Rattle.std.proofs.lemmas.List.{length-append}
use Rattle.bay_transport.specs.Feeding.{size_agreed}
use Rattle.bay_assoc.specs.TsduMeanings.{mms, tsdu_meaning}
use Rattle.bay_connection.proofs.FeedingLemmas.{sized-joined}
use Rattle.bay_connection.proofs.HearingLemmas.{hears-pdu, last-part}
use Rattle.bay_connection.proofs.stack.Stack.handle_tsdu.Goals as goal

pub returns-in_ok-frames-in-Ok-Answer-clause-kept
    : goal.returns-in_ok-frames-in-Ok-Answer-clause-kept
returns-in_ok-frames-in-Ok-Answer-clause-kept c =
    record {
      within = omega (arith, c.requires.nothing);
      joined = sized-joined (record
          { stream = c.args.self.now.transport.stream; phase = c.on_tsdu.new.self })
          c.requires.agreed;
    }

pub returns-in-Ok-Mms-clause-kept : goal.returns-in-Ok-Mms-clause-kept
returns-in-Ok-Mms-clause-kept c =
    let last = rw (c.in-Ok-Mms.field-0-is, c.shown-tsdu.ensures) at c.in-Ok-Mms.ensures.last in
    record {
      within = omega (arith, ap length last.1, length-append last.0 c.in-Ok-Mms.pdu.now);
      joined =
          sized-joined
          (record { stream = c.args.self.now.transport.stream; phase = c.on_tsdu.new.self })
          c.requires.agreed;
    }

pub returns-in-Ok-Mms-clause-told : goal.returns-in-Ok-Mms-clause-told
returns-in-Ok-Mms-clause-told c =
    let tsdu = c.args.self.now.transport.shown in
    let pdu = c.in-Ok-Mms.pdu.now in
    let h : tsdu_meaning c.args.self.now.assoc tsdu ≡ Ok (mms pdu, c.on_tsdu.new.self) =
    rw (c.in-Ok-Mms.field-0-is, c.shown-tsdu.ensures) at c.in-Ok-Mms.ensures.heard in
    let last = rw (c.in-Ok-Mms.field-0-is, c.shown-tsdu.ensures) at c.in-Ok-Mms.ensures.last in
    rw (last-part tsdu last.0 pdu last.1)
    (hears-pdu c.args.self.now.transport.stream (size_agreed c.args.self.now.transport.stream)
    c.args.self.now.assoc c.on_tsdu.new.self tsdu pdu h)

pub returns-in-Ok-Mms-clause-open : goal.returns-in-Ok-Mms-clause-open
returns-in-Ok-Mms-clause-open c = rw c.in-Ok-Mms.field-0-is at c.in-Ok-Mms.ensures.open
