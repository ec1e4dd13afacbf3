use Rattle.std.proofs.Common.{◌≡◌, ◌≢◌, ℕ, List, ◌++◌, codes, option_map, Some, None, ap, sym, ◌∙◌}
use Rattle.std.proofs.lemmas.Bool.Decides.{Decides-eqb}
use Rattle.std.proofs.lemmas.Slice.Eq.{strip_prefix_is}
use Rattle.bay_trace.specs.TraceView.{named_view}
use Rattle.bay_trace.proofs.VerbLemmas.{close-told, no-association-verb, open-told}
use Rattle.bay_trace.proofs.trace.parse_association_event.Goals as goal

pub returns-in_err-association : goal.returns-in_err-association
returns-in_err-association c =
    let is =
    strip_prefix_is Decides-eqb c.args.text.now (codes "open ") c.strip_prefix-2.result
    c.strip_prefix-2.ensures.cases in
    let begins : c.args.text.now ≡ codes "open " ++ c.in-Some-strip_prefix.word.now =
    rw c.in-Some-strip_prefix.is at is in
    ap (option_map named_view) c.from_residual.ensures
    ∙ open-told c.args.text.now c.in-Some-strip_prefix.word.now None begins
    (sym c.in_err-association.was ∙ c.parse_association.ensures)

pub returns-in-Some-strip_prefix : goal.returns-in-Some-strip_prefix
returns-in-Some-strip_prefix c =
    let is =
    strip_prefix_is Decides-eqb c.args.text.now (codes "open ") c.strip_prefix-2.result
    c.strip_prefix-2.ensures.cases in
    let begins : c.args.text.now ≡ codes "open " ++ c.in-Some-strip_prefix.word.now =
    rw c.in-Some-strip_prefix.is at is in
    open-told c.args.text.now c.in-Some-strip_prefix.word.now (Some c.in_ok-association.association)
    begins (sym c.in_ok-association.was ∙ c.parse_association.ensures)

pub returns-in_err-word : goal.returns-in_err-word
returns-in_err-word c =
    let recv =
    strip_prefix_is Decides-eqb c.args.text.now (codes "recv ") c.strip_prefix.result
    c.strip_prefix.ensures.cases in
    let open_ =
    strip_prefix_is Decides-eqb c.args.text.now (codes "open ") c.strip_prefix-2.result
    c.strip_prefix-2.ensures.cases in
    let close =
    strip_prefix_is Decides-eqb c.args.text.now (codes "close ") c.strip_prefix-3.result
    c.strip_prefix-3.ensures.cases in
    let no_recv : (r : List ℕ) → c.args.text.now ≢ codes "recv " ++ r =
    rw c.in_default.is at recv in
    let no_open : (r : List ℕ) → c.args.text.now ≢ codes "open " ++ r =
    rw c.in_default-strip_prefix.is at open_ in
    let no_close : (r : List ℕ) → c.args.text.now ≢ codes "close " ++ r =
    rw c.in_err-word.was at close in
    ap (option_map named_view) c.from_residual-in_err-word.ensures
    ∙ sym (no-association-verb c.args.text.now no_recv no_open no_close)

pub returns-in_err-association-2 : goal.returns-in_err-association-2
returns-in_err-association-2 c =
    let is =
    strip_prefix_is Decides-eqb c.args.text.now (codes "close ") c.strip_prefix-3.result
    c.strip_prefix-3.ensures.cases in
    let begins : c.args.text.now ≡ codes "close " ++ c.in_ok-word.word.now =
    rw c.in_ok-word.was at is in
    ap (option_map named_view) c.from_residual-in_err-association-2.ensures
    ∙ close-told c.args.text.now c.in_ok-word.word.now None begins
    (sym c.in_err-association-2.was ∙ c.parse_association-2.ensures)

pub returns : goal.returns
returns c =
    let is =
    strip_prefix_is Decides-eqb c.args.text.now (codes "close ") c.strip_prefix-3.result
    c.strip_prefix-3.ensures.cases in
    let begins : c.args.text.now ≡ codes "close " ++ c.in_ok-word.word.now =
    rw c.in_ok-word.was at is in
    close-told c.args.text.now c.in_ok-word.word.now (Some c.in_ok-association-2.association) begins
    (sym c.in_ok-association-2.was ∙ c.parse_association-2.ensures)
