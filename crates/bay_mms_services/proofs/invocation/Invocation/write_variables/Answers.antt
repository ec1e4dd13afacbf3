use Rattle.std.proofs.Common.{Err, ap, ◌∙◌}
use Rattle.std.specs.Option.{option_copied}
use Rattle.bay_mms.specs.Writing.{text_within}
use Rattle.bay_mms_services.specs.Views.{bay_of}
use Rattle.bay_mms_services.proofs.NameLemmas.{page-is, unknown-is}
use Rattle.bay_mms_services.proofs.ReplyLemmas.{is-written}
use Rattle.bay_mms_services.proofs.invocation.Invocation.write_variables.Goals as goal

pub returns-in-Ok : goal.returns-in-Ok
returns-in-Ok c =
    let b = bay_of c.args.self.now in
    let known = λ (none : _). let refused = c.write_page.ensures.unknown.1 none in absurd cc in
    let page =
    page-is c.args.self.now.client c.args.self.now.id b (option_copied c.args.after) c.in-Ok.page
    c.in-Ok.ensures.page known in
    ap (text_within c.args.self.now.client.size) page
    ∙ is-written c.args.self.now.client.size c.in-Ok.page c.in-Ok.ensures.short

pub returns-in-Err-NoSuchName : goal.returns-in-Err-NoSuchName
returns-in-Err-NoSuchName c =
    let b = bay_of c.args.self.now in
    let none =
    c.write_page.ensures.unknown.0
    (c.in-Err-NoSuchName.is ∙ ap Err c.in-Err-NoSuchName.field-0-is) in
    rw (unknown-is c.args.self.now.client c.args.self.now.id b (option_copied c.args.after) none)
    c.write_unknown.ensures
