use Rattle.std.proofs.Common.{inl, refl}
use Rattle.bay_cli.specs.JobView.{invoked_view}
use Rattle.bay_main.proofs.commands.obey.Goals as goal

pub returns-in-Ok : goal.returns-in-Ok
returns-in-Ok g c =
    let answer = c.do_task-answer in
    inl (record {
      invocation = invoked_view c.in-Ok.field-0;
      is = c.in-Ok.ensures.ok;
      answer = answer.result;
      done = record {
        files = answer.new.files;
        host = answer.new.host;
        reader = answer.new.reader;
        writer = answer.new.writer;
      };
      does = rw c.start_log_if.ensures at answer.ensures;
      logged = c.log_unprinted.ensures;
      rest = refl;
      ends = c.of.ensures;
    })
