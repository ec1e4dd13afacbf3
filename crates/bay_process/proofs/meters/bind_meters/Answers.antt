use Rattle.std.proofs.Common.{◌≡◌, ◌<◌, ◌∷◌, ◌++◌, [], ◌∙◌, Some, length, map, slice_get, get_or, take, refl, ap, sym, arith}
use Rattle.std.proofs.lemmas.List.{map-append, take_more}
use Rattle.std.proofs.lemmas.Option.{slice_get_read}
use Rattle.bay_nodes.specs.declared.meter.Meter.{Meter}
use Rattle.bay_process.specs.Layout.{IsMeterBound, layout_of}
use Rattle.bay_process.specs.declared.meter.BoundMeter.{BoundMeter}
use Rattle.bay_process.proofs.ListLemmas.{each-snoc, length-snoc}
use Rattle.bay_process.proofs.NodeLemmas.{bound-meter}
use Rattle.bay_process.proofs.meters.bind_meters.Goals as goal

pub find_meter_rows-requires : goal.find_meter_rows-requires
find_meter_rows-requires c =
    let nodes = c.args.nodes.now in
    let n = c.index-nodes-i.result in
    let here : slice_get nodes c.loop-i.i ≡ Some n =
    slice_get_read nodes (length nodes) c.loop-i.i n refl (omega arith) c.index-nodes-i.is in
    rw c.as_str.ensures (c.requires.there c.loop-i.i n here).leaves

pub loop-i-preserved : goal.loop-i-preserved
loop-i-preserved c =
    let nodes = c.args.nodes.now in
    let meters = c.args.meters.now in
    let i = c.loop-i.i in
    let items = c.loop-i.bound.items in
    let n = c.index-nodes-i.result in
    let d = c.index-meters-i.result in
    let here : slice_get nodes i ≡ Some n =
    slice_get_read nodes (length nodes) i n refl (omega arith) c.index-nodes-i.is in
    let lt : i < length meters = omega arith in
    let id : c.in_ok-id.id ≡ (get_or meters i d).id =
    c.in_ok-id.ensures ∙ c.as_str-in-loop-i.ensures in
    rw c.in_ok-push.ensures.items record {
      sized = length-snoc items _ i c.loop-i.invariant.sized;
      ids =
          map-append (λ (m : BoundMeter). m.id) items _
          ∙ ap (λ xs. xs ++ c.in_ok-id.id ∷ []) c.loop-i.invariant.ids
          ∙ ap (λ x. map (λ (m : Meter). m.id) (take i meters) ++ x ∷ []) id
          ∙ sym (map-append (λ (m : Meter). m.id) (take i meters) (get_or meters i d ∷ []))
          ∙ ap (map (λ (m : Meter). m.id)) (sym (take_more meters i d lt));
      bound = each-snoc (λ k (m : BoundMeter). IsMeterBound (layout_of c.args.tree.now) k m.rows)
          items _ c.loop-i.invariant.bound
          (rw c.loop-i.invariant.sized
          (bound-meter c.args.tree.now i n _ (c.requires.there i n here)
          (rw c.as_str.ensures at c.in_ok-rows.ensures)));
    }
