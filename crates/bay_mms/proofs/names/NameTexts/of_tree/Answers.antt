use Rattle.std.proofs.Common.{◌≡◌, append-nil, sym, ◌∙◌}
use Rattle.bay_tree.specs.Rows.{names_of}
use Rattle.bay_mms.specs.Pages.{ends_from}
use Rattle.bay_mms.specs.Responses.{names_text}
use Rattle.bay_mms.proofs.PageLemmas.{are-ends}
use Rattle.bay_mms.proofs.names.NameTexts.of_tree.Goals as goal

pub invariant_of-result : goal.invariant_of-result
invariant_of-result c =
    let names = names_of c.args.tree.now in
    let was = rw c.in_default.is at c.loop-next.invariant in
    let octets : c.loop-next.octets.items ≡ names_text names = sym (append-nil _) ∙ was.0 in
    let ends : c.loop-next.ends.items ≡ ends_from 0 names = sym (append-nil _) ∙ was.1 in
    rw (ends, octets) (are-ends names)
