use Rattle.std.proofs.Common.{None, refl, sym}
use Rattle.bay_io.proofs.SentLemmas.{Puts-nil}
use Rattle.cmd_replay.specs.LineAnswers.{heard}
use Rattle.cmd_replay.proofs.answer.replay_line.Goals as goal

pub returns-in-Some-Blank : goal.returns-in-Some-Blank
returns-in-Some-Blank g c =
    rw (sym c.in-Some-Blank.ensures.line, c.in-Some-Blank.field-0-is)
    (record {
      answers =
          record { choice = heard None; text = Puts-nil _; last = refl; after_is = λ e. refl };
      end = tt;
    })
