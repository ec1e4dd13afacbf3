use Rattle.std.proofs.Common.{rules, tests, ◌≡◌, subst, sym, ◌∙◌, ap, Some}
use Rattle.std.specs.Char.{is_ascii}
use Rattle.std.specs.List.{list_all}
use Rattle.std.specs.Str.{IsUtf8}
use Rattle.std.proofs.lemmas.Iterator.{YieldsList-from_slice}
use Rattle.std.proofs.lemmas.Iterator.Search.{all_from_yields_List}
use Rattle.bay_trace.proofs.TextLemmas.{plain-text}
use Rattle.bay_trace.proofs.WordLemmas.{name_of-text, name_of-no_text}
use Rattle.bay_trace.proofs.trace.parse_name.Goals as goal

pub from_utf8_unchecked-requires : goal.from_utf8_unchecked-requires
from_utf8_unchecked-requires c =
    let word = c.args.word.now in
    let all : c.all.result ≡ list_all is_ascii word =
    all_from_yields_List is_ascii _ _ c.all.result c.all.ensures.ran
    (YieldsList-from_slice word cc) (λ x b q k. search (rules, tests)) in
    plain-text word (sym all ∙ c.if-all.true)

pub returns-then-all : goal.returns-then-all
returns-then-all c =
    let text = c.from_utf8_unchecked in
    ap Some text.ensures ∙ sym
    (name_of-text c.args.word.now (sym c.is_empty.ensures ∙ c.if-is_empty.false)
    (subst IsUtf8 text.ensures text.utf8))

pub returns-in-Ok : goal.returns-in-Ok
returns-in-Ok c =
    let e = c.in-Ok.ensures.cases in
    ap Some e.0 ∙ sym (name_of-text c.args.word.now (sym c.is_empty.ensures ∙ c.if-is_empty.false)
    e.1)

pub returns-in-Err : goal.returns-in-Err
returns-in-Err c =
    sym (name_of-no_text c.args.word.now (sym c.is_empty.ensures ∙ c.if-is_empty.false)
    c.in-Err.ensures.cases.0)
