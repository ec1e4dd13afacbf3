use Rattle.std.proofs.Common.{Ok, Err, refl}
use Rattle.bay_cli.specs.JobView.{serve_view}
use Rattle.bay_server_turn.specs.Calls.{CountedCall}
use Rattle.cmd_serve.specs.declared.permit.Permit.TheVariants.{Granted, Denied}
use Rattle.cmd_serve.proofs.FileLemmas.{answer-fails, line-fails}
use Rattle.cmd_serve.proofs.serve.serve_loaded.Goals as goal

pub returns-in_err-write_report-clause-serves : goal.returns-in_err-write_report-clause-serves
returns-in_err-write_report-clause-serves g c =
    line-fails (CountedCall g.L.Link.does g.L.Link.failures) g.H.Host.does g.W.Sink.contents
    g.W.Sink.does (serve_view c.args.task) c.args.loaded c.report.result c.report.ensures
    c.args.host.now
    c.args.writer.now c.write_report.new.writer c.in_err-write_report.field-0.0
    c.in_err-write_report.ensures c.from_residual.result c.from_residual.ensures.0

pub returns-in_err-permit-clause-serves : goal.returns-in_err-permit-clause-serves
returns-in_err-permit-clause-serves g c = record {
  report = c.report.result;
  is = c.report.ensures;
  middle = c.write_report.new.writer;
  reported = Ok c.in_ok-write_report.field-0;
  printed = c.in_ok-write_report.ensures;
  continuation = record {
    permit = Err c.in_err-permit.field-0.0;
    middle = c.prove_rules.new.writer;
    writes = c.in_err-permit.ensures;
    continuation = (
      refl,
      refl,
      answer-fails c.from_residual-in_err-permit.result c.in_err-permit.field-0.0
          c.from_residual-in_err-permit.ensures.0,
    );
  };
}

pub returns-in-Denied-clause-serves : goal.returns-in-Denied-clause-serves
returns-in-Denied-clause-serves g c = record {
  report = c.report.result;
  is = c.report.ensures;
  middle = c.write_report.new.writer;
  reported = Ok c.in_ok-write_report.field-0;
  printed = c.in_ok-write_report.ensures;
  continuation = record {
    permit = Ok (Denied c.in-Denied.status);
    middle = c.prove_rules.new.writer;
    writes = rw c.in-Denied.is at c.in_ok-permit.ensures;
    continuation = (refl, refl, refl);
  };
}

pub returns-in_err-drawn-clause-serves : goal.returns-in_err-drawn-clause-serves
returns-in_err-drawn-clause-serves g c = record {
  report = c.report.result;
  is = c.report.ensures;
  middle = c.write_report.new.writer;
  reported = Ok c.in_ok-write_report.field-0;
  printed = c.in_ok-write_report.ensures;
  continuation = record {
    permit = Ok (Granted c.in-Granted.count);
    middle = c.prove_rules.new.writer;
    writes = rw c.in-Granted.is at c.in_ok-permit.ensures;
    continuation = record {
      permit = Err c.in_err-drawn.field-0.0;
      middle = c.prove_diagram.new.writer;
      writes = c.in_err-drawn.ensures;
      continuation = (
        refl,
        refl,
        answer-fails c.from_residual-in_err-drawn.result c.in_err-drawn.field-0.0
            c.from_residual-in_err-drawn.ensures.0,
      );
    };
  };
}

pub returns-in-Denied-drawn-clause-serves : goal.returns-in-Denied-drawn-clause-serves
returns-in-Denied-drawn-clause-serves g c = record {
  report = c.report.result;
  is = c.report.ensures;
  middle = c.write_report.new.writer;
  reported = Ok c.in_ok-write_report.field-0;
  printed = c.in_ok-write_report.ensures;
  continuation = record {
    permit = Ok (Granted c.in-Granted.count);
    middle = c.prove_rules.new.writer;
    writes = rw c.in-Granted.is at c.in_ok-permit.ensures;
    continuation = record {
      permit = Ok (Denied c.in-Denied-drawn.status);
      middle = c.prove_diagram.new.writer;
      writes = rw c.in-Denied-drawn.is at c.in_ok-drawn.ensures;
      continuation = (refl, refl, refl);
    };
  };
}

pub returns-clause-serves : goal.returns-clause-serves
returns-clause-serves g c = record {
  report = c.report.result;
  is = c.report.ensures;
  middle = c.write_report.new.writer;
  reported = Ok c.in_ok-write_report.field-0;
  printed = c.in_ok-write_report.ensures;
  continuation = record {
    permit = Ok (Granted c.in-Granted.count);
    middle = c.prove_rules.new.writer;
    writes = rw c.in-Granted.is at c.in_ok-permit.ensures;
    continuation = record {
      permit = Ok (Granted c.in-Granted-drawn.count);
      middle = c.prove_diagram.new.writer;
      writes = rw c.in-Granted-drawn.is at c.in_ok-drawn.ensures;
      continuation = c.serve_ports.ensures.serves;
    };
  };
}
