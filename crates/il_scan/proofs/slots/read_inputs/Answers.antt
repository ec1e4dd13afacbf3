use Rattle.std.proofs.Common.{◌≡◌, ◌<◌, ◌≤◌, ◌⊎◌, inl, inr, ℕ, ℤ, List, length, sym, ap, subst, ◌∙◌, arith}
use Rattle.std.proofs.lemmas.List.{length-map}
use Rattle.il_image.specs.Values.{number_of}
use Rattle.il_scan.specs.PointIndices.{IsPut, with_words}
use Rattle.il_scan.specs.Words.{words_of}
use Rattle.il_scan.proofs.HoldLemmas.{all-put, all-typed, put-all, put-next, put-over}
use Rattle.il_scan.proofs.PlaceLemmas.{below-at}
use Rattle.il_scan.proofs.slots.read_inputs.Goals.{then-span-count, else-span-count}
use Rattle.il_scan.proofs.slots.read_inputs.Goals as goal

pub write_input-requires : goal.write_input-requires
write_input-requires g c =
    let within : c.loop-k.k < length c.args.reads.now = elim c.if-span-count.branch [
      | then-span-count w ↦ omega (arith, w.to-is, w.if-span-count.true)
      | else-span-count w ↦ omega (arith, w.to-is)
    ] in
    rw c.loop-k.auto.slots
    (below-at (length c.args.slots.now) c.args.reads.now c.loop-k.k c.requires.within within)

pub loop-k-preserved : goal.loop-k-preserved
loop-k-preserved g c =
    let reads = c.args.reads.now in
    let types = g.I.Inputs.types c.args.inputs.now in
    let values = g.I.Inputs.values c.args.inputs.now in
    let k = c.loop-k.k in
    let value = c.input.result in
    let within : k < length reads = elim c.if-span-count.branch [
      | then-span-count w ↦ omega (arith, w.to-is, w.if-span-count.true)
      | else-span-count w ↦ omega (arith, w.to-is)
    ] in
    let sized : length values ≡ length types = g.met.I.Inputs.sized c.args.inputs.now in
    let there = below-at (length c.args.slots.now) reads k c.requires.within within in
    let many = length-map values number_of in
    record {
      over = ap (with_words reads (words_of values)) c.write_input.ensures
          ∙ put-over reads (words_of values) c.loop-k.slots k (number_of value) c.requires.rising
          within (omega (arith, within, many, sized)) ∙ c.loop-k.invariant.over;
      put = λ j near.
          subst (λ (slots : List ℤ). IsPut reads types values slots j) (sym c.write_input.ensures)
          (put-next reads types values c.requires.rising (sized ∙ c.requires.sized)
          c.loop-k.slots k value c.args.span.to (omega (arith, there)) within
          c.input.ensures.typed c.input.ensures.value c.input.ensures.is_value
          c.loop-k.invariant.put j near);
    }

pub returns : goal.returns
returns g c =
    let reads = c.args.reads.now in
    let types = g.I.Inputs.types c.args.inputs.now in
    let values = g.I.Inputs.values c.args.inputs.now in
    let sized : length values ≡ length types = g.met.I.Inputs.sized c.args.inputs.now in
    let last : (j : ℕ) → c.loop-k.k ≤ j
    → (c.args.span.to ≤ j) ⊎ (length reads ≤ j) =
    λ j l. elim c.if-span-count.branch [
      | then-span-count w ↦ inl (omega (arith, w.to-is, l))
      | else-span-count w ↦ inr (omega (arith, w.to-is, l))
    ] in
    let all =
    all-put reads types values c.requires.rising (sized ∙ c.requires.sized) c.loop-k.slots
    c.loop-k.k
    c.args.span.to c.loop-k.invariant.put last in
    record {
      slots = sym (put-all reads values c.loop-k.slots (λ j. (all j).word))
          ∙ c.loop-k.invariant.over;
      typed = all-typed types values sized (λ j. (all j).typed);
    }
