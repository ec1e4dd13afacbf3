use Rattle.std.proofs.Common.{◌≡◌, Some, sym}
use Rattle.std.proofs.lemmas.List.{map-append}
use Rattle.il_text.specs.TokenForms.{name_of}
use Rattle.il_text.specs.TokenViews.{symbol_of}
use Rattle.il_text.proofs.ListingLemmas.{at-name}
use Rattle.il_text.proofs.declaring.declare_token.Goals as goal

pub returns-clause-ok : goal.returns-clause-ok
returns-clause-ok c = λ ss.
    let named : name_of (symbol_of c.args.token) ≡ Some c.in-Some.name.now =
    sym c.in-Some.ensures in
    rw (c.if-after_name.false, c.in_ok-push.ensures.items, map-append)
    (at-name _ _ _ _ _ _ named ss)
