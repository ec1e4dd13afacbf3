use Rattle.std.proofs.Common.{◌≡◌, ◌+◌, ◌<◌, ◌∷◌, ◌++◌, length, length-append, append_assoc, append-nil, List, [], ap, sym, ◌∙◌, refl, rules, arith}
use Rattle.std.proofs.lemmas.List.{nil_from_length}
use Rattle.bay_nodes.specs.declared.switch.Switch.{Switch}
use Rattle.bay_process.specs.Layout.{bound_from, outputs_at}
use Rattle.bay_process.specs.declared.switch.BoundSwitch.{BoundSwitch}
use Rattle.bay_process.proofs.ListLemmas.{length-snoc}
use Rattle.bay_process.proofs.BoundLemmas.{bound-snoc}
use Rattle.bay_process.proofs.bind.bind_switches.Goals as goal

pub bounds-rows-k : goal.bounds-rows-k
bounds-rows-k c =
    omega (
      arith,
      c.in-Some.ensures.steps,
      ap length c.loop-switch.invariant.whole,
      length-append c.loop-switch.yielded c.loop-switch.switch-iterator.rest.items,
      ap length c.in-Some.ensures.steps.0,
      c.loop-switch.bound.ok.0,
    )

pub offset_bounds-rows-k : goal.offset_bounds-rows-k
offset_bounds-rows-k c =
    let lt : c.len-k.result < length c.args.rows.now = bounds-rows-k c in
    search rules

pub loop-switch-preserved : goal.loop-switch-preserved
loop-switch-preserved c =
    let yielded = c.loop-switch.yielded in
    let n : c.len-k.result ≡ length yielded =
    c.len-k.ensures ∙ c.loop-switch.bound.ok.0 ∙ c.loop-switch.invariant.counted in
    let bounds : c.len-k.result < length c.args.rows.now =
    omega (
      arith,
      ap length c.loop-switch.invariant.whole,
      length-append yielded c.loop-switch.switch-iterator.rest.items,
      ap length c.in-Some.ensures.steps.0,
    ) in
    let none : 0 + c.len-k.result ≡ c.len-k.result = omega arith in
    record {
      counted =
          rw c.in_ok-push.ensures.items
          (length-snoc c.loop-switch.bound.items _ (length yielded) c.loop-switch.invariant.counted
          ∙ sym (length-snoc yielded c.in-Some.switch (length yielded) refl));
      whole =
          c.loop-switch.invariant.whole
          ∙ ap (λ (ss : List Switch). yielded ++ ss) c.in-Some.ensures.steps.0
          ∙ sym (append_assoc yielded (c.in-Some.switch ∷ []) c.next.new.self.rest.items);
      done =
          rw (c.in_ok-push.ensures.items, c.outputs_at.ensures)
          (ap (λ (bs : List BoundSwitch). bs
          ++ record {
            switch = c.in-Some.switch;
            rows = c.index-rows-k.result;
            outputs = outputs_at c.args.writes.now c.len-k.result;
          } ∷ [])
          c.loop-switch.invariant.done
          ∙ ap (λ m. bound_from c.args.writes.now 0 yielded c.args.rows.now
          ++ record {
            switch = c.in-Some.switch;
            rows = c.index-rows-k.result;
            outputs = outputs_at c.args.writes.now m;
          } ∷ []) (sym none)
          ∙ sym (bound-snoc c.args.writes.now 0 yielded c.args.rows.now c.in-Some.switch
          c.index-rows-k.result c.len-k.result n bounds c.index-rows-k.is));
    }

pub returns : goal.returns
returns c =
    let rest = c.loop-switch.switch-iterator.rest in
    let none : rest.items ≡ [] =
    nil_from_length rest.items (omega (arith, c.in-None.ensures.steps.0, rest.ok.0)) in
    let whole : c.args.switches.items ≡ c.loop-switch.yielded =
    c.loop-switch.invariant.whole ∙ ap (λ (ss : List Switch). c.loop-switch.yielded ++ ss) none
    ∙ append-nil c.loop-switch.yielded in
    rw whole c.loop-switch.invariant.done
