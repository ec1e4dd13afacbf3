use Rattle.std.proofs.Common.{◌≡◌, ℕ, ◌-◌, ltb, Some, is_none, ap, ◌∙◌}
use Rattle.std.specs.Option.{option_copied}
use Rattle.bay_ber.specs.EncoderBuffers.{message, buffer_with}
use Rattle.bay_ber.proofs.SheetLemmas.{short-message}
use Rattle.bay_tree.specs.Page.{rows_after}
use Rattle.bay_tree.specs.Rows.{names_of}
use Rattle.bay_mms.specs.Pages.{first_page}
use Rattle.bay_mms.proofs.PageLemmas.{first-page-short, page-texts, within-ends}
use Rattle.bay_mms.proofs.page.write_page.Goals as goal

pub count_fitting-count-requires-clause-within : goal.count_fitting-count-requires-clause-within
count_fitting-count-requires-clause-within c =
    within-ends c.args.tree.now c.args.names.now c.in_ok-start.start c.requires.texts
    c.in_ok-start.ensures.within

-- the page is held
held : (c : goal.After-put_page) → message c.put_page.new.writer
    ≡ Some (first_page c.args.id c.args.size
    (names_of (rows_after c.args.tree.now (option_copied c.args.after))))
held c =
    let names = names_of c.args.tree.now in
    let rows = rows_after c.args.tree.now (option_copied c.args.after) in
    let is = page-texts c.args.tree.now rows c.args.names.now c.args.id c.args.size
    c.in_ok-start.start c.count_fitting-count.result c.texts.result.now _ c.requires.texts
    c.in_ok-start.ensures.rows (c.count_fitting-count.ensures.count names c.requires.texts)
    (c.texts.ensures names c.requires.texts)
    (ap (λ (k : ℕ). ltb c.count_fitting-count.result (k - c.in_ok-start.start)) c.count.ensures) in
    short-message c.args.size _ c.in_ok-writer.writer _ c.in_ok-writer.ensures
    (c.put_page.ensures ∙ ap (buffer_with c.in_ok-writer.writer) is)
    (first-page-short c.args.id c.args.size (names_of rows) c.requires.some)

pub finish_untruncated-requires : goal.finish_untruncated-requires
finish_untruncated-requires c = ap is_none (held c)

pub returns-clause-page : goal.returns-clause-page
returns-clause-page c =
    let page = first_page c.args.id c.args.size
    (names_of (rows_after c.args.tree.now (option_copied c.args.after))) in
    let is : Some c.finish_untruncated.result ≡ Some page =
    c.finish_untruncated.ensures ∙ held c.before in
    cc

pub returns-clause-short : goal.returns-clause-short
returns-clause-short c =
    let rows = rows_after c.args.tree.now (option_copied c.args.after) in
    let is : Some c.finish_untruncated.result
    ≡ Some (first_page c.args.id c.args.size (names_of rows)) =
    c.finish_untruncated.ensures ∙ held c.before in
    let same : c.finish_untruncated.result ≡ first_page c.args.id c.args.size (names_of rows) =
    cc in
    rw same (first-page-short c.args.id c.args.size (names_of rows) c.requires.some)
