use Rattle.std.proofs.Common.{◌≡◌, ◌+◌, ◌++◌, ◌∷◌, [], drop, length, refl, arith, sym, ap, ◌∙◌, add-one, append-nil, suc, true}
use Rattle.std.proofs.Math.ListN.{drop_of_length-le}
use Rattle.std.proofs.Math.Seq.{drop-cons}
use Rattle.std.proofs.lemmas.Option.{slice_get_read}
use Rattle.bay_tree.specs.Rows.{leaf_named}
use Rattle.bay_nodes.specs.Names.{StatusNames, closing_names_at, opening_names_at}
use Rattle.bay_process.specs.Layout.{switches_of}
use Rattle.bay_process.specs.Releases.{digit_octet, digits_from}
use Rattle.bay_process.specs.Values.{is_truth}
use Rattle.bay_process.specs.declared.switch.BoundSwitch.{BoundSwitch}
use Rattle.bay_process.proofs.KeptLemmas.{first-kept, places-turn, rest-text, text-turn}
use Rattle.bay_process.proofs.releases.store_releases.Goals as goal

pub is_truth-requires : goal.is_truth-requires
is_truth-requires c =
    let bs = c.args.switches.now in
    let i = c.loop-index.index in
    let b = c.index-switches-index.result in
    (c.requires i b (slice_get_read bs (length bs) i b refl c.loop-index-test.true
    c.index-switches-index.is)).leaf_typed.ena_opn.value_type

pub is_truth-requires-in-loop-index : goal.is_truth-requires-in-loop-index
is_truth-requires-in-loop-index c =
    let bs = c.args.switches.now in
    let i = c.loop-index.index in
    let b = c.index-switches-index.result in
    (c.requires i b (slice_get_read bs (length bs) i b refl c.loop-index-test.true
    c.index-switches-index.is)).leaf_typed.ena_cls.value_type

pub loop-index-preserved : goal.loop-index-preserved
loop-index-preserved c =
    let rows = c.args.tree.now in
    let bs = c.args.switches.now in
    let i = c.loop-index.index in
    let b = c.index-switches-index.result in
    let t = c.loop-index.text.items in
    let named = (c.requires i b (slice_get_read bs (length bs) i b refl c.loop-index-test.true
    c.index-switches-index.is)).named in
    let next : drop i bs ≡ b ∷ drop (i + 1) bs =
    rw (add-one, drop-cons bs i b c.loop-index-test.true)
    (ap (λ (x : BoundSwitch). x ∷ drop (suc i) bs) (sym c.index-switches-index.is)) in
    let opens : c.is_truth.result ≡ is_truth true (leaf_named (opening_names_at i).value rows) =
    c.is_truth.ensures.value
    ∙ ap (λ (n : StatusNames). is_truth true (leaf_named n.value rows)) named.opening in
    let closes : c.is_truth-in-loop-index.result
    ≡ is_truth true (leaf_named (closing_names_at i).value rows) =
    c.is_truth-in-loop-index.ensures.value
    ∙ ap (λ (n : StatusNames). is_truth true (leaf_named n.value rows)) named.closing in
    let front : c.extend_from_slice.new.self.items ≡ (t ++ (32 ∷ [])) ++ b.switch.id =
    c.in_ok-extend_from_slice.ensures.items
    ∙ ap (λ u. u ++ c.as_bytes.result.now) c.in_ok-push.ensures.items
    ∙ ap (λ u. (t ++ (32 ∷ [])) ++ u) (c.as_bytes.ensures.value ∙ c.as_str.ensures) in
    let whole : c.extend_from_slice-in-loop-index.new.self.items
    ≡ ((t ++ (32 ∷ [])) ++ b.switch.id)
    ++ (61 ∷ digit_octet c.is_truth.result ∷ digit_octet c.is_truth-in-loop-index.result ∷ []) =
    c.in_ok-extend_from_slice-2.ensures.items
    ∙ ap (λ u. u ++ (61 ∷ c.digit_octet-opens.result ∷ c.digit_octet-closes.result ∷ [])) front
    ∙ ap (λ x. ((t ++ (32 ∷ [])) ++ b.switch.id) ++ (61 ∷ x ∷ c.digit_octet-closes.result ∷ []))
    c.digit_octet-opens.ensures
    ∙ ap (λ x. ((t ++ (32 ∷ [])) ++ b.switch.id) ++ (61 ∷ digit_octet c.is_truth.result ∷ x ∷ []))
    c.digit_octet-closes.ensures in
    let n : c.len.result ≡ length ((t ++ (32 ∷ [])) ++ b.switch.id) =
    c.len.ensures ∙ c.extend_from_slice.new.self.ok.0 ∙ ap length front in
    record {
      enables = rw whole (c.loop-index.invariant.enables
          ∙ text-turn rows bs i b next t c.is_truth.result c.is_truth-in-loop-index.result opens
          closes);
      placed = rw (c.in_ok-push-2.ensures.items, n, whole) (c.loop-index.invariant.placed
          ∙ places-turn rows bs i b next t c.is_truth.result c.is_truth-in-loop-index.result opens
          closes c.loop-index.offsets.items);
    }

pub returns : goal.returns
returns c =
    let rows = c.args.tree.now in
    let bs = c.args.switches.now in
    let i = c.loop-index.index in
    let text = c.loop-index.text.items in
    let offsets = c.loop-index.offsets.items in
    let done : drop i bs ≡ [] = drop_of_length-le bs (omega arith) in
    first-kept rows bs _ refl
    (c.in_ok-push-3.ensures.items ∙ ap (λ u. u ++ (10 ∷ [])) (sym (c.loop-index.invariant.enables
    ∙ ap (λ xs. text ++ rest-text rows i xs) done ∙ append-nil text)))
    (sym (c.loop-index.invariant.placed
    ∙ ap (λ xs. offsets ++ digits_from (length text) (switches_of xs)) done ∙ append-nil offsets))
