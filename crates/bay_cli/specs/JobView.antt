-- A task and a job as values, without the slices they borrow from.
use Rattle.std.specs.Prelude.{option_map, List, Option, ℕ}
use Rattle.std.specs.Borrow.{Bor}
use Rattle.bay_cli.specs.Jobs.{JobData}
use Rattle.bay_cli.specs.declared.parse.Job.{Job}
use Rattle.bay_cli.specs.declared.task.ProgramFile.{ProgramFile}
use Rattle.bay_cli.specs.declared.task.ProgramFile.TheVariants.{Logic, Image}
use Rattle.bay_cli.specs.declared.task.Invocation.{Invocation}
use Rattle.bay_cli.specs.declared.task.ServeOptions.{ServeOptions}
use Rattle.bay_cli.specs.declared.task.ServeTask.{ServeTask}
use Rattle.bay_cli.specs.declared.task.Task.{Task}
use Rattle.bay_cli.specs.declared.task.Task.TheVariants.{Check, Replay, Serve, Compile, Audit}

-- the view of a program file
abbrev pub program_view : ProgramFile (Bor (List ℕ)) → ProgramFile (List ℕ)
program_view (Logic name) = Logic name.now
program_view (Image name) = Image name.now

-- the view of a text, if there is one
abbrev pub text_view : Option (Bor (List ℕ)) → Option (List ℕ)
text_view = option_map (λ text. text.now)

-- the view of the options of `serve`
abbrev pub options_view : ServeOptions (Bor (List ℕ)) → ServeOptions (List ℕ)
options_view options = record {
  trace = text_view options.trace;
  process = options.process;
  limit_ms = options.limit_ms;
  key = text_view options.key;
  record_file = text_view options.record_file;
  record_most = options.record_most;
  idle_s = options.idle_s;
  cycle_ms = options.cycle_ms;
  rules = text_view options.rules;
  diagram = text_view options.diagram;
}

-- the view of what `serve` does
abbrev pub serve_view : ServeTask (Bor (List ℕ)) → ServeTask (List ℕ)
serve_view task = record {
  bay = task.bay.now;
  program = program_view task.program;
  port = task.port;
  turns = task.turns;
  sends_releases = task.sends_releases;
  options = options_view task.options;
}

-- the view of a task
abbrev pub task_view : Task (Bor (List ℕ)) → Task (List ℕ)
task_view (Check bay program) = Check bay.now (program_view program)
task_view Replay = Replay
task_view (Serve task) = Serve (serve_view task)
task_view (Compile bay logic out) = Compile bay.now logic.now out.now
task_view (Audit bay program rules diagram effort) =
    Audit bay.now (program_view program) (text_view rules) (text_view diagram) effort

-- the view of a task, with whether the log is written
abbrev pub invoked_view : Invocation (Bor (List ℕ)) → Invocation (List ℕ)
invoked_view invocation = record { task = task_view invocation.task; log = invocation.log }

-- the view of a job
abbrev pub job_view : Job → JobData
job_view job = record {
  verb = job.verb;
  bay = text_view job.bay;
  logic = text_view job.logic;
  image = text_view job.image;
  out = text_view job.out;
  trace = text_view job.trace;
  rules = text_view job.rules;
  diagram = text_view job.diagram;
  port = job.port;
  turns = job.turns;
  process = job.process;
  tell = text_view job.tell;
  supervise = job.supervise;
  key = text_view job.key;
  record_file = text_view job.record_file;
  record_most = job.record_most;
  idle = job.idle;
  cycle = job.cycle;
  effort = job.effort;
  log = job.log;
}
