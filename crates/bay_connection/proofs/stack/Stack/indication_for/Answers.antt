use Rattle.std.proofs.Common.{Result, Ok, Err, OnOk, arith}
use Rattle.bay_connection.specs.Stack.{connection_state_of}
use Rattle.bay_connection.proofs.FeedingLemmas.{sized-joined}
use Rattle.bay_connection.proofs.stack.Stack.indication_for.Goals as goal

holds : {X E P : Type 0} (r : Result X E) → P → OnOk r P
holds (Ok x) h = h
holds (Err e) h = tt

pub returns-in-Answer-clause-kept : goal.returns-in-Answer-clause-kept
returns-in-Answer-clause-kept c =
    holds c.answer.result (record {
      within = omega (arith, c.requires.nothing);
      joined =
          sized-joined (connection_state_of c.args.self.now)
          (rw c.in-Answer.is at c.requires.ready);
    })
