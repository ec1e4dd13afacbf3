use Rattle.std.proofs.Common.{◌≡◌, false, drop, map}
use Rattle.il_text.specs.Declaring.{declared_from}
use Rattle.il_text.specs.TokenViews.{symbols_of}
use Rattle.il_text.specs.Views.{declared_name}
use Rattle.il_text.proofs.declaring.declare.Given as goal

abbrev pub invariant-loop-token : goal.invariant-loop-token
invariant-loop-token l =
    declared_from l.declaring.line l.declaring.scope l.declaring.tail
    (map declared_name l.fn.declarations.items) false (symbols_of l.names)
    ≡ declared_from l.declaring.line l.declaring.scope l.declaring.tail
    (map declared_name l.declarations.items) l.after_name
    (symbols_of (drop l.token-index l.names))
