use Rattle.std.proofs.Common.{ap, ◌∙◌}
use Rattle.bay_main.specs.Program.{unused_writer}
use Rattle.bay_main.proofs.program.obey_words.Goals as goal

pub returns : goal.returns
returns g c =
    let output = rw c.is_serving.ensures at c.in_ok-output.ensures in
    record {
      old = record {
        files = c.new-files.result;
        host = c.new-host.result;
        reader = c.new-reader.result;
        writer = c.new-writer.result;
      };
      fresh = c.new-writer.ensures ∙ ap unused_writer output;
      runs = c.obey_with.ensures;
    }
