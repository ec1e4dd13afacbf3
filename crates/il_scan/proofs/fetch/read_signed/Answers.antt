use Rattle.std.proofs.Common.{rules}
use Rattle.std.proofs.lemmas.List.{get_or-drop}
use Rattle.il_scan.proofs.FetchLemmas.{signed-there}
use Rattle.il_scan.proofs.fetch.read_signed.Goals as goal

pub returns-in-Bool : goal.returns-in-Bool
returns-in-Bool c =
    signed-there c.args.elementary c.args.code.now c.args.at _ c.requires
    (rw c.in-Bool.is (search (rules, get_or-drop)))

pub returns-in-Int : goal.returns-in-Int
returns-in-Int c =
    signed-there c.args.elementary c.args.code.now c.args.at _ c.requires
    (rw c.in-Int.is (search (rules, get_or-drop)))

pub returns-in-Dint : goal.returns-in-Dint
returns-in-Dint c =
    signed-there c.args.elementary c.args.code.now c.args.at _ c.requires
    (rw c.in-Dint.is (search (rules, get_or-drop)))

pub returns-in-Time : goal.returns-in-Time
returns-in-Time c =
    signed-there c.args.elementary c.args.code.now c.args.at _ c.requires
    (rw c.in-Time.is (search (rules, get_or-drop)))

pub returns-in-Lint : goal.returns-in-Lint
returns-in-Lint c =
    signed-there c.args.elementary c.args.code.now c.args.at _ c.requires
    (rw c.in-Lint.is (search (rules, get_or-drop)))
