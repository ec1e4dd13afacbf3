-- The commands of the program, and the task or job that words spell.
use Rattle.std.specs.Prelude.{ℕ, ◌==◌, Bool, ◌&&◌, ◌||◌, true, false, not, List, ◌∷◌, codes, Option, None, Some, is_none, is_some, option_and_then, option_map, if◌then◌else◌, []}
use Rattle.std.specs.Option.{option_map_or}
use Rattle.std.specs.Str.{bytes_eq}
use Rattle.std.specs.Str.Parse.{digits_value, without_leading_plus}
use Rattle.clap.specs.Words.{App, Row, Rule, Text, first_of, fault_of, new_app, new_rule, subcommand_of, with_rule, with_subcommand}
use Rattle.clap.specs.Kinds.{Kinds}
use Rattle.clap.specs.ValueTests.{is_unsigned_in}
use Rattle.clap.specs.declared.builder.ArgAction.TheVariants.{Set, SetTrue}
use Rattle.clap.specs.declared.builder.value_parser.ValueParser.TheVariants as vp
use Rattle.bay_cli.specs.declared.parse.Verb.{Verb}
use Rattle.bay_cli.specs.declared.parse.Verb.TheVariants as verb
use Rattle.bay_cli.specs.declared.task.ProgramFile.{ProgramFile}
use Rattle.bay_cli.specs.declared.task.ProgramFile.TheVariants.{Logic, Image}
use Rattle.bay_cli.specs.declared.task.Invocation.{Invocation}
use Rattle.bay_cli.specs.declared.task.ServeOptions.{ServeOptions}
use Rattle.bay_cli.specs.declared.task.ServeTask.{ServeTask}
use Rattle.bay_cli.specs.declared.task.Task.{Task}
use Rattle.bay_cli.specs.declared.task.Task.TheVariants.{Check, Replay, Serve, Compile, Audit}

-- `--NAME TEXT`
abbrev pub text_rule : Text → Rule
text_rule name = record (new_rule name) { long = Some name; value_names = 1; action = Some Set }

-- a required `--NAME TEXT`
abbrev pub needed_rule : Text → Rule
needed_rule name = record (text_rule name) { required = true }

-- `--NAME N`, a number from the least to the greatest, required or not
abbrev pub number_rule : Text → ℕ → ℕ → Bool → Rule
number_rule name least greatest required =
    record (text_rule name) { required = required; parser = Some (vp.Unsigned least greatest) }

-- `[--log]`
abbrev pub log_rule : Rule
log_rule = record (new_rule (codes "log")) { long = Some (codes "log"); action = Some SetTrue }

-- `[--logic F] [--image F]`
abbrev pub with_program : App → App
with_program app = with_rule (with_rule app (text_rule (codes "logic"))) (text_rule (codes "image"))

-- `check --bay F [--logic F] [--image F] [--log]`
abbrev pub check_app : App
check_app =
    with_rule (with_program (with_rule (new_app (codes "check")) (needed_rule (codes "bay"))))
    log_rule

-- `serve --bay F [--logic F] [--image F] --port N --turns N [--trace F] [--process P]
-- [--tell WHAT] [--supervise MS] [--key F] [--record F] [--record-most OCTETS] [--idle S]
-- [--cycle MS] [--rules F] [--diagram F] [--log]`, with ports from 1 to 65535, turns below 2 ^ 32,
-- a silence from 100 to 60000 milliseconds, up to 2 ^ 24 octets, from 10 to 3600 seconds, and a
-- cycle from 1 to 100 milliseconds
abbrev pub serve_app : App
serve_app =
    let named = with_program (with_rule (new_app (codes "serve")) (needed_rule (codes "bay"))) in
    with_rule (with_rule (with_rule (with_rule (with_rule (with_rule (with_rule (with_rule
    (with_rule (with_rule (with_rule (with_rule (with_rule (with_rule named
    (number_rule (codes "port") 1 65535 true)) (number_rule (codes "turns") 0 4294967295 true))
    (text_rule (codes "trace"))) (number_rule (codes "process") 1 65535 false))
    (text_rule (codes "tell"))) (number_rule (codes "supervise") 100 60000 false))
    (text_rule (codes "key"))) (text_rule (codes "record")))
    (number_rule (codes "record-most") 1 16777216 false))
    (number_rule (codes "idle") 10 3600 false)) (number_rule (codes "cycle") 1 100 false))
    (text_rule (codes "rules")))
    (text_rule (codes "diagram"))) log_rule

-- `replay [--log]`
abbrev pub replay_app : App
replay_app = with_rule (new_app (codes "replay")) log_rule

-- `compile --bay F --logic F --out F [--log]`
abbrev pub compile_app : App
compile_app =
    with_rule (with_rule (with_rule (with_rule (new_app (codes "compile"))
    (needed_rule (codes "bay"))) (needed_rule (codes "logic"))) (needed_rule (codes "out")))
    log_rule

-- `audit --bay F [--logic F] [--image F] [--rules F] [--diagram F] [--effort N] [--log]`, with an
-- effort from 1 to 100000
abbrev pub audit_app : App
audit_app =
    with_rule (with_rule (with_rule (with_rule (with_program (with_rule (new_app (codes "audit"))
    (needed_rule (codes "bay")))) (text_rule (codes "rules"))) (text_rule (codes "diagram")))
    (number_rule (codes "effort") 1 100000 false)) log_rule

-- the program: a subcommand is required; without any word the result is the help
abbrev pub program_app : App
program_app =
    let named = new_app (codes "bayctl") in
    record named {
      top = record named.top {
        no_binary_name = true;
        subcommand_required = true;
        arg_required_else_help = true;
        has_version = true;
      };
    }

-- the program with all its commands
abbrev pub job_app : App
job_app =
    with_subcommand (with_subcommand (with_subcommand
    (with_subcommand (with_subcommand program_app check_app.top) replay_app.top) serve_app.top)
    compile_app.top) audit_app.top

-- ---- options

-- the number that decimal digits spell, with or without a plus before them, if it is from the least
-- to the greatest
abbrev pub number_of : ℕ → ℕ → Text → Option ℕ
number_of least greatest text =
    if is_unsigned_in least greatest text then Some (digits_value 10 (without_leading_plus text))
    else None

-- the number given with an option, from the least to the greatest, if it was given
abbrev pub number_in : Text → ℕ → ℕ → List Row → Option ℕ
number_in id least greatest rows = option_and_then (number_of least greatest) (first_of id rows)

-- a job: the verb, the files that were named, the numbers that were given, and whether the log is
-- written
pub record JobData : Type 0 where
  pub verb : Verb
  pub bay : Option Text
  pub logic : Option Text
  pub image : Option Text
  pub out : Option Text
  pub trace : Option Text
  pub rules : Option Text
  pub diagram : Option Text
  pub port : Option ℕ
  pub turns : Option ℕ
  pub process : Option ℕ
  pub tell : Option Text
  pub supervise : Option ℕ
  pub key : Option Text
  pub record_file : Option Text
  pub record_most : Option ℕ
  pub idle : Option ℕ
  pub cycle : Option ℕ
  pub effort : Option ℕ
  pub log : Bool

-- whether the log is requested
abbrev pub logs : List Row → Bool
logs rows =
    option_map_or (λ value. bytes_eq value (codes "true")) (first_of (codes "log") rows) false

-- the job of a verb: the values of all options
abbrev pub job_with : List Row → Verb → JobData
job_with rows verb = record {
  verb = verb;
  bay = first_of (codes "bay") rows;
  logic = first_of (codes "logic") rows;
  image = first_of (codes "image") rows;
  out = first_of (codes "out") rows;
  trace = first_of (codes "trace") rows;
  rules = first_of (codes "rules") rows;
  diagram = first_of (codes "diagram") rows;
  port = number_in (codes "port") 1 65535 rows;
  turns = number_in (codes "turns") 0 4294967295 rows;
  process = number_in (codes "process") 1 65535 rows;
  tell = first_of (codes "tell") rows;
  supervise = number_in (codes "supervise") 100 60000 rows;
  key = first_of (codes "key") rows;
  record_file = first_of (codes "record") rows;
  record_most = number_in (codes "record-most") 1 16777216 rows;
  idle = number_in (codes "idle") 10 3600 rows;
  cycle = number_in (codes "cycle") 1 100 rows;
  effort = number_in (codes "effort") 1 100000 rows;
  log = logs rows;
}

-- the verb of a subcommand
abbrev pub verb_named : Text → Option Verb
verb_named name =
    if bytes_eq name (codes "check") then Some verb.Check
    else if bytes_eq name (codes "replay") then Some verb.Replay
    else if bytes_eq name (codes "serve") then Some verb.Serve
    else if bytes_eq name (codes "compile") then Some verb.Compile
    else if bytes_eq name (codes "audit") then Some verb.Audit
    else None

-- the job of the parsed words
abbrev pub entered_job : Option (Text × List Row) → Option JobData
entered_job = option_and_then (λ p. option_map (job_with p.1) (verb_named p.0))

-- ---- the tasks of jobs

-- the one or the other, and not both
abbrev pub exactly_one : Option Text → Option Text → Option (ProgramFile Text)
exactly_one (Some logic) None = Some (Logic logic)
exactly_one (Some logic) (Some image) = None
exactly_one None (Some image) = Some (Image image)
exactly_one None None = None

-- the program in Instruction List or the compiled one, if exactly one of them was named
abbrev pub program_of : JobData → Option (ProgramFile Text)
program_of job = exactly_one job.logic job.image

-- the task of `check`: a bay and a program
abbrev pub check_task : JobData → Option (Task Text)
check_task job =
    option_and_then (λ bay. option_map (λ program. Check bay program) (program_of job)) job.bay

-- The options of `serve` that may be left out: the trace, the port of the process, its longest
-- silence in milliseconds, its key, the record and its most octets, the most seconds for which a
-- client may send nothing, the least milliseconds that a turn lasts, the rules and the diagram.
abbrev pub options_of : JobData → ServeOptions Text
options_of job = record {
  trace = job.trace;
  process = job.process;
  limit_ms = job.supervise;
  key = job.key;
  record_file = job.record_file;
  record_most = job.record_most;
  idle_s = job.idle;
  cycle_ms = job.cycle;
  rules = job.rules;
  diagram = job.diagram;
}

-- whether the port of the process, if there is one, differs from that of the clients
abbrev pub ports_differ : ℕ → Option ℕ → Bool
ports_differ port None = true
ports_differ port (Some process) = not (process == port)

-- whether releases are reported to the process; None if the word is another one, or if there is no
-- process
abbrev pub sends_releases : Option ℕ → Option Text → Option Bool
sends_releases process None = Some false
sends_releases process (Some word) =
    if is_some process && bytes_eq word (codes "releases") then Some true else None

-- whether the options of supervision fit together: a supervised process needs a port and excludes a
-- trace; a key needs supervision
abbrev pub is_supervisable : ServeOptions Text → Bool
is_supervisable options =
    if is_some options.limit_ms then is_some options.process && is_none options.trace
    else is_none options.key

-- whether a size is given only with a record
abbrev pub is_recordable : ServeOptions Text → Bool
is_recordable options = is_some options.record_file || is_none options.record_most

-- whether the options of a service on this port fit together
abbrev pub fit_together : ℕ → ServeOptions Text → Bool
fit_together port options =
    ports_differ port options.process && is_supervisable options && is_recordable options

-- the task of `serve` with these values, if they fit together
abbrev pub fitting_task : ServeTask Text → Option (Task Text)
fitting_task task = if fit_together task.port task.options then Some (Serve task) else None

-- the task of `serve`: a bay and a program, both numbers, whether releases are sent to the process,
-- and the other options
abbrev pub serve_task : JobData → Option (Task Text)
serve_task job =
    option_and_then (λ bay. option_and_then (λ program. option_and_then (λ port. option_and_then
    (λ turns. option_and_then
    (λ sends. fitting_task
    (record {
      bay = bay;
      program = program;
      port = port;
      turns = turns;
      sends_releases = sends;
      options = options_of job;
    })) (sends_releases job.process job.tell)) job.turns) job.port)
    (program_of job)) job.bay

-- the task of `compile`: its three files
abbrev pub compile_task : JobData → Option (Task Text)
compile_task job =
    option_and_then (λ bay. option_and_then (λ logic. option_map (λ out. Compile bay logic out)
    job.out) job.logic) job.bay

-- the task of `audit`: a bay, a program, and rules or a diagram, or both, and the effort, if it was
-- given
abbrev pub audit_task : JobData → Option (Task Text)
audit_task job =
    option_and_then (λ bay. option_and_then
    (λ program. if is_some job.rules || is_some job.diagram
    then Some (Audit bay program job.rules job.diagram job.effort)
    else None) (program_of job)) job.bay

-- the task of a job
abbrev pub task_by : Verb → JobData → Option (Task Text)
task_by verb.Check job = check_task job
task_by verb.Replay job = Some Replay
task_by verb.Serve job = serve_task job
task_by verb.Compile job = compile_task job
task_by verb.Audit job = audit_task job

abbrev pub task_for : JobData → Option (Task Text)
task_for job = task_by job.verb job

-- ---- words

-- the parsed words, if they have no fault
abbrev pub faultless : Kinds → Option (Text × List Row) → Option (Text × List Row)
faultless [] read = read
faultless (kind ∷ kinds) read = None

-- the subcommand and its values, as `clap` parses the words; None if `clap` refuses them
abbrev pub parsed_words : List Text → Option (Text × List Row)
parsed_words words = faultless (fault_of job_app words) (subcommand_of job_app words)

-- all options that words spell, and the task of them, if they spell one
abbrev pub read_words : List Text → Option (JobData × Task Text)
read_words words =
    option_and_then (λ job. option_map (λ task. (job, task)) (task_for job))
    (entered_job (parsed_words words))

-- the task that the words spell, and whether the log is written
abbrev pub task_in : List Text → Option (Invocation Text)
task_in words = option_map (λ r. record { task = r.1; log = r.0.log }) (read_words words)

-- the job that the words spell
abbrev pub job_in : List Text → Option JobData
job_in words = option_map (λ r. r.0) (read_words words)
