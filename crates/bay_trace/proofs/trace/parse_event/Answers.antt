use Rattle.std.proofs.Common.{◌≡◌, ◌≢◌, ℕ, List, ◌∙◌, ◌++◌, codes, sym, ap, false}
use Rattle.std.proofs.lemmas.Bool.Decides.{Decides-eqb}
use Rattle.std.proofs.lemmas.Slice.Eq.{strip_prefix_is}
use Rattle.std.specs.List.{slice_split}
use Rattle.std.specs.Str.{bytes_eq}
use Rattle.bay_trace.specs.Trace.{event_of, is_space}
use Rattle.bay_trace.proofs.VerbLemmas.{differs, no-verb}
use Rattle.bay_trace.proofs.trace.parse_event.Goals as goal

pub returns-in-Some-strip_prefix-2 : goal.returns-in-Some-strip_prefix-2
returns-in-Some-strip_prefix-2 c =
    let is =
    strip_prefix_is Decides-eqb c.args.text.now (codes "measure ") c.strip_prefix-3.result
    c.strip_prefix-3.ensures.cases in
    let begins : c.args.text.now ≡ codes "measure " ++ c.in-Some-strip_prefix-2.tail.now =
    rw c.in-Some-strip_prefix-2.is at is in
    c.parse_measure.ensures ∙ sym (ap (λ text. event_of (slice_split is_space text)) begins)

pub returns : goal.returns
returns c =
    let contact =
    strip_prefix_is Decides-eqb c.args.text.now (codes "contact ") c.strip_prefix.result
    c.strip_prefix.ensures.cases in
    let input =
    strip_prefix_is Decides-eqb c.args.text.now (codes "input ") c.strip_prefix-2.result
    c.strip_prefix-2.ensures.cases in
    let measure =
    strip_prefix_is Decides-eqb c.args.text.now (codes "measure ") c.strip_prefix-3.result
    c.strip_prefix-3.ensures.cases in
    let no_contact : (r : List ℕ) → c.args.text.now ≢ codes "contact " ++ r =
    rw c.in_default.is at contact in
    let no_input : (r : List ℕ) → c.args.text.now ≢ codes "input " ++ r =
    rw c.in_default-strip_prefix.is at input in
    let no_measure : (r : List ℕ) → c.args.text.now ≢ codes "measure " ++ r =
    rw c.in_default-strip_prefix-2.is at measure in
    let other : bytes_eq c.args.text.now (codes "scan") ≡ false =
    ap (λ t. bytes_eq c.args.text.now t) (sym c.as_slice.ensures) ∙ sym c.eq.ensures
    ∙ c.if-eq.false in
    let no_lost : bytes_eq c.args.text.now (codes "lost") ≡ false =
    ap (λ t. bytes_eq c.args.text.now t) (sym c.as_slice-2.ensures) ∙ sym c.eq-2.ensures
    ∙ c.if-eq-2.false in
    c.parse_association_event.ensures ∙ sym (no-verb c.args.text.now no_contact no_input no_measure
    (differs c.args.text.now (codes "scan") other)
    (differs c.args.text.now (codes "lost") no_lost))
