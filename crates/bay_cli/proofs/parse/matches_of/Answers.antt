use Rattle.std.proofs.Common.{map}
use Rattle.clap.specs.Words.{app_of}
use Rattle.bay_cli.proofs.JobLemmas.{refused-words, taken-words}
use Rattle.bay_cli.proofs.parse.matches_of.Goals as goal

pub returns-in-Ok-try_get_matches_from-clause-ok : goal.returns-in-Ok-try_get_matches_from-clause-ok
returns-in-Ok-try_get_matches_from-clause-ok c =
    let found = c.in-Ok-try_get_matches_from.ensures in
    taken-words (app_of c.in-Ok.command) (map (λ w. w.now) c.args.words.now)
    c.in-Ok-try_get_matches_from.matches c.in-Ok.ensures found.matches found.kinds

pub returns-in-Err-try_get_matches_from-clause-refused
    : goal.returns-in-Err-try_get_matches_from-clause-refused
returns-in-Err-try_get_matches_from-clause-refused c =
    refused-words (app_of c.in-Ok.command) (map (λ w. w.now) c.args.words.now)
    c.in-Err-try_get_matches_from.error c.refused_by.result c.refused_by.ensures
    c.in-Ok.ensures c.in-Err-try_get_matches_from.ensures.kinds
