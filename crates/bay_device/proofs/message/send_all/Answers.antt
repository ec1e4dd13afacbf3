use Rattle.std.proofs.Common.{◌≡◌, ℕ, List, [], ◌∷◌, ◌++◌, length, map, refl, ap, rules, sym, ◌∙◌, arith, append-nil, append_assoc}
use Rattle.std.proofs.lemmas.List.{nil_from_length}
use Rattle.std.specs.Vec.Iter.{into_iter_items}
use Rattle.bay_connection.specs.ConnectionStates.{Terms, octets_to_send, terms_of}
use Rattle.bay_device.specs.Receiving.{sent_on}
use Rattle.bay_device.specs.declared.event.Sent.{Sent}
use Rattle.bay_device.proofs.MessageLemmas.{front-kept, front-whole}
use Rattle.bay_device.proofs.message.send_all.Goals as goal

pub loop-pdu-init : goal.loop-pdu-init
loop-pdu-init c = record {
  goes = refl;
  kept = front-whole c.args.sent.now.items;
  counted = search rules;
}

pub loop-pdu-preserved : goal.loop-pdu-preserved
loop-pdu-preserved c =
    let at = c.loop-pdu in
    let a = c.args.association in
    let terms : Terms = terms_of c.args.connection.now.state in
    let pdu : List ℕ = c.in-Some.pdu in
    let rest = into_iter_items c.next.new.self in
    let steps : into_iter_items at.pdu-iterator ≡ pdu ∷ rest = c.in-Some.ensures.steps.0 in
    let frame : List ℕ → Sent = λ p. sent_on a (octets_to_send terms p) in
    let items =
    c.in_ok-push.ensures.items
    ∙ ap (λ o. at.sent.items ++ sent_on a o ∷ []) c.in_ok-octets.ensures in
    rw items record {
      goes = at.invariant.goes ∙ ap (λ ps. at.sent.items ++ map frame ps) steps
          ∙ sym (append_assoc at.sent.items (frame pdu ∷ []) (map frame rest));
      kept = front-kept c.args.sent.now.items at.sent.items (frame pdu ∷ []) at.invariant.kept;
      counted = let was = at.invariant.counted in
          let gone = c.in-Some.ensures.steps.1 in
          let short = ap length steps in
          omega arith;
    }

pub returns-clause-ok : goal.returns-clause-ok
returns-clause-ok c =
    let at = c.loop-pdu in
    let a = c.args.association in
    let terms : Terms = terms_of c.args.connection.now.state in
    let frame : List ℕ → Sent = λ p. sent_on a (octets_to_send terms p) in
    let empty : into_iter_items at.pdu-iterator ≡ [] =
    nil_from_length _ (sym at.invariant.counted ∙ c.in-None.ensures.steps.0) in
    sym (ap (λ ps. c.args.sent.now.items ++ map frame ps)
    (sym c.into_iter-pdu-iterator.ensures.into_iter_gives.0)
    ∙ at.invariant.goes ∙ ap (λ ps. at.sent.items ++ map frame ps) empty
    ∙ append-nil at.sent.items)
