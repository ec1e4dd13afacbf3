use Rattle.std.proofs.Common.{rules, ◌∙◌, subst, append-nil}
use Rattle.bay_io.specs.Calls.{Log}
use Rattle.bay_main.specs.Program.{SystemDoes}
use Rattle.bay_main.proofs.program.obey_with.Goals as goal

pub returns-then-matches : goal.returns-then-matches
returns-then-matches g c = record {
  new = record {
    files = c.obey-ended.new.files;
    host = c.obey-ended.new.host;
    reader = c.obey-ended.new.reader;
    writer = c.obey-ended.new.writer;
  };
  ended = c.obey-ended.result;
  obeys = c.obey-ended.ensures;
  output = c.drain_output-ended.new.output;
  last = c.drain_output-ended.result;
  drained = rw c.into_inner-output.ensures at c.drain_output-ended.ensures;
  logs_failure = λ _. (
    c.log_line.new.self,
    subst (λ line. SystemDoes g.O.Write.contents g.E.Write.contents c.drain_output-ended.new.output
        (Log line) c.log_line.new.self)
        (append-nil _ ∙ c.as_bytes.ensures.value ∙ c.error_message.ensures) c.log_line.ensures.call,
  );
  status_is = search rules;
}

pub returns : goal.returns
returns g c = record {
  new = record {
    files = c.obey-ended.new.files;
    host = c.obey-ended.new.host;
    reader = c.obey-ended.new.reader;
    writer = c.obey-ended.new.writer;
  };
  ended = c.obey-ended.result;
  obeys = c.obey-ended.ensures;
  output = c.drain_output-ended.new.output;
  last = c.drain_output-ended.result;
  drained = rw c.into_inner-output.ensures at c.drain_output-ended.ensures;
  logs_failure = λ e. search rules;
  status_is = search rules;
}
