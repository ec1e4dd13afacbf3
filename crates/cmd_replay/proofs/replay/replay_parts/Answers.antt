use Rattle.cmd_replay.specs.Replay.{PartsLoadReport}
use Rattle.cmd_replay.specs.ScenarioView.{scenario_view}
use Rattle.cmd_replay.proofs.LoadLemmas.{LoadsReport-device, LoadsReport-refused}
use Rattle.bay_report.proofs.ReportLemmas.{PrintsLogs-weaker}
use Rattle.cmd_replay.proofs.replay.replay_parts.Goals as goal

pub returns-in-Ok : goal.returns-in-Ok
returns-in-Ok g c =
    let parts = scenario_view c.args.scenario in
    PrintsLogs-weaker (PartsLoadReport parts) c.replay_device.result
    (LoadsReport-device parts c.in-Ok.device c.in-Ok.ensures.ok) c.replay_device.ensures

pub returns-in-Err : goal.returns-in-Err
returns-in-Err g c =
    let parts = scenario_view c.args.scenario in
    PrintsLogs-weaker (PartsLoadReport parts) c.report_load_refusal.result
    (LoadsReport-refused parts c.in-Err.error c.in-Err.ensures.refused)
    c.report_load_refusal.ensures
