use Rattle.std.proofs.Common.{None, Some, true, refl, subst}
use Rattle.bay_server_turn.specs.Recorded.{RecordState, Recording, Writes}
use Rattle.bay_server_turn.specs.declared.record.RecordEnd.TheVariants.{Failed}
use Rattle.bay_server_turn.proofs.WriteLemmas.{writes-all, writes-some}
use Rattle.bay_server_turn.proofs.record.Record.write.Goals as goal

pub returns-then-write_prefix-lines : goal.returns-then-write_prefix-lines
returns-then-write_prefix-lines g c =
    let r : Recording = record {
      waiting = c.self.inside.lines;
      left = c.self.inside.left;
      is_over = c.self.inside.is_over;
      end = c.self.inside.end;
    } in
    let left : RecordState g.row.W.Denot = record {
      writer = c.write_prefix.new.writer;
      recording = record {
        waiting = c.clear.new.self;
        left = c.self.inside.left;
        is_over = true;
        end = None;
      };
    } in
    subst (λ (o : RecordState g.row.W.Denot). Writes g.W.Write.contents o left (Some Failed))
    c.self.view_is
    (writes-some g.W.Write.contents c.self.inside.writer c.write_prefix.new.writer r
    c.write_prefix.result c.as_slice-lines.result.now c.clear.new.self None (Some Failed)
    c.as_slice-lines.ensures.value c.write_prefix.ensures.bytes c.clear.ensures refl
    c.if-write_prefix-lines.true refl)

pub returns : goal.returns
returns g c =
    let r : Recording = record {
      waiting = c.self.inside.lines;
      left = c.self.inside.left;
      is_over = c.self.inside.is_over;
      end = c.self.inside.end;
    } in
    let left : RecordState g.row.W.Denot = record {
      writer = c.write_prefix.new.writer;
      recording = record {
        waiting = c.clear-2.new.self;
        left = c.self.inside.left;
        is_over = c.self.inside.is_over;
        end = c.take.new.self;
      };
    } in
    subst (λ (o : RecordState g.row.W.Denot). Writes g.W.Write.contents o left c.take.result)
    c.self.view_is
    (writes-all g.W.Write.contents c.self.inside.writer c.write_prefix.new.writer r
    c.write_prefix.result c.as_slice-lines.result.now c.clear-2.new.self c.take.new.self
    c.take.result c.as_slice-lines.ensures.value c.write_prefix.ensures.bytes c.clear-2.ensures
    c.take.ensures.after c.if-write_prefix-lines.false c.take.ensures.value)
