-- The command line. `Jobs`: the commands of the program, in the terms of `clap`, and what some
-- words spell: a task, and the same as a record of all options (a job). `JobView`: the views of the
-- code's tasks and jobs. `Options`: the code's table of commands, in the terms of `clap`.

pub mod Jobs
pub mod JobView
pub mod Options
