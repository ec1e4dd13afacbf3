use Rattle.std.proofs.Common.{subst, sym}
use Rattle.bay_report.proofs.ReportLemmas.{PrintsLogs-weaker}
use Rattle.cmd_replay.specs.Replay.{ScenarioReport, PartsReport}
use Rattle.cmd_replay.specs.ScenarioView.{scenario_view}
use Rattle.cmd_replay.proofs.RunLemmas.{of-run}
use Rattle.cmd_replay.proofs.replay.replay_scenario.Goals as goal

pub returns-in-Some : goal.returns-in-Some
returns-in-Some g c =
    let parts = scenario_view c.in-Some.scenario in
    PrintsLogs-weaker (ScenarioReport c.args.text.now) c.replay_parts.result
    (λ log text status told. subst (λ o. PartsReport o log text status) c.in-Some.ensures.parts
    (told, of-run parts log text status told)) c.replay_parts.ensures

pub returns-in-None : goal.returns-in-None
returns-in-None g c = rw (sym c.in-None.ensures.parts) c.write_and_log.ensures
