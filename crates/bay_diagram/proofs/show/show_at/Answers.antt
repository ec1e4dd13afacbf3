use Rattle.std.proofs.Common.{sym, is_some, ◌||◌}
use Rattle.std.proofs.lemmas.Bool.{and_parts}
use Rattle.bay_diagram.specs.declared.hazard.Target.TheVariants.{Separable}
use Rattle.bay_diagram.specs.declared.shown.HazardKind.TheVariants.{Earths, Bridges, Breaks, Makes, Leaves, Joins, Uncouples, Unearths}
use Rattle.bay_diagram.specs.declared.walk.Avoid.TheVariants as avoid
use Rattle.bay_diagram.specs.declared.walk.Over.TheVariants.{Possible, Disconnectors}
use Rattle.bay_diagram.specs.Hazards.{breaks_from, bridges, earths, joins_live, leaves_any, makes_any, reaches, without}
use Rattle.bay_diagram.specs.Reading.{reading_in}
use Rattle.bay_diagram.specs.Walks.{leads}
use Rattle.bay_diagram.proofs.KindLemmas.{no-kind, shown-at}
use Rattle.bay_diagram.proofs.show.show_at.Goals as goal

pub returns-in_default : goal.returns-in_default
returns-in_default c =
    no-kind c.args.network.now (reading_in c.args.known.now) c.args.switch.now c.args.operation
    (sym (rw c.in_default.is at c.kind_of.ensures))

pub returns-in-Earths : goal.returns-in-Earths
returns-in-Earths c =
    let net = c.args.network.now in
    let r = reading_in c.args.known.now in
    let s = c.args.switch.now in
    shown-at net r s c.args.operation Earths c.in-Some.kind (earths net r s)
    c.in-Some.ensures c.in-Earths.is (λ h. h) c.show_earths.result c.show_earths.ensures

pub returns-in-Bridges : goal.returns-in-Bridges
returns-in-Bridges c =
    let net = c.args.network.now in
    let r = reading_in c.args.known.now in
    let s = c.args.switch.now in
    shown-at net r s c.args.operation Bridges c.in-Some.kind (bridges net r s)
    c.in-Some.ensures c.in-Bridges.is (λ h. h) c.show_bridges.result c.show_bridges.ensures

pub returns-in-Breaks : goal.returns-in-Breaks
returns-in-Breaks c =
    let net = c.args.network.now in
    let r = reading_in c.args.known.now in
    let s = c.args.switch.now in
    shown-at net r s c.args.operation Breaks c.in-Some.kind
    (breaks_from net r s s.one s.other || breaks_from net r s s.other s.one)
    c.in-Some.ensures c.in-Breaks.is
    (λ h. (and_parts (breaks_from net r s s.one s.other || breaks_from net r s s.other s.one) _
    h).0) c.show_breaks.result c.show_breaks.ensures

pub returns-in-Makes : goal.returns-in-Makes
returns-in-Makes c =
    let net = c.args.network.now in
    let r = reading_in c.args.known.now in
    let s = c.args.switch.now in
    shown-at net r s c.args.operation Makes c.in-Some.kind (makes_any net r s)
    c.in-Some.ensures c.in-Makes.is (λ h. h) c.show_makes.result c.show_makes.ensures

pub returns-in-Leaves : goal.returns-in-Leaves
returns-in-Leaves c =
    let net = c.args.network.now in
    let r = reading_in c.args.known.now in
    let s = c.args.switch.now in
    shown-at net r s c.args.operation Leaves c.in-Some.kind (leaves_any net r s)
    c.in-Some.ensures c.in-Leaves.is (λ h. h) c.show_leaves.result c.show_leaves.ensures

pub returns-in-Joins : goal.returns-in-Joins
returns-in-Joins c =
    let net = c.args.network.now in
    let r = reading_in c.args.known.now in
    let s = c.args.switch.now in
    shown-at net r s c.args.operation Joins c.in-Some.kind (joins_live net r s)
    c.in-Some.ensures c.in-Joins.is (λ h. (and_parts (joins_live net r s) _
    (and_parts (r.may_be_false s.synchro) _
    (and_parts (net.checks.live_parts || is_some s.synchro) _ h).1).1).0) c.show_join.result
    c.show_join.ensures

pub returns-in-Uncouples : goal.returns-in-Uncouples
returns-in-Uncouples c =
    let net = c.args.network.now in
    let r = reading_in c.args.known.now in
    let s = c.args.switch.now in
    shown-at net r s c.args.operation Uncouples c.in-Some.kind
    (leads net r (without Disconnectors s avoid.Nothing) s.one s.other)
    c.in-Some.ensures c.in-Uncouples.is (λ h. (and_parts s.is_coupler _ h).1) c.show_bypass.result
    c.show_bypass.ensures

pub returns-in-Unearths : goal.returns-in-Unearths
returns-in-Unearths c =
    let net = c.args.network.now in
    let r = reading_in c.args.known.now in
    let s = c.args.switch.now in
    shown-at net r s c.args.operation Unearths c.in-Some.kind
    (reaches net r s (without Possible s avoid.Nothing) s.one Separable)
    c.in-Some.ensures c.in-Unearths.is (λ h. (and_parts net.checks.fed_earths _ h).1)
    c.show_source.result c.show_source.ensures
