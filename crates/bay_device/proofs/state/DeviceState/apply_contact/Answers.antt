use Rattle.std.proofs.Common.{◌≡◌, Bool, true, false, cond, Option, None, ap, sym, ◌∙◌}
use Rattle.bay_control.specs.Decisions.{is_done}
use Rattle.bay_process.specs.Layout.{switches_of}
use Rattle.bay_process.proofs.KeptLemmas.{kept-stays}
use Rattle.bay_process.proofs.ToldLemmas.{keeps-contact}
use Rattle.bay_mms_services.specs.Bay.{Bay}
use Rattle.bay_device.specs.Device.{reached_report}
use Rattle.bay_device.specs.declared.event.Sent.{Sent}
use Rattle.bay_device.proofs.HeldLemmas.{contact-held}
use Rattle.bay_device.proofs.ProcessLemmas.{switch-there}
use Rattle.bay_device.proofs.state.DeviceState.apply_contact.Goals as goal

pub invariant_of-self-then-contact : goal.invariant_of-self-then-contact
invariant_of-self-then-contact c =
    let d = c.args.self.now in
    let s = switch-there d.bay.switches c.args.switch c.requires in
    let rows = ap (λ (b : Bay). b.rows) (c.contact-changed.ensures.after s.0 s.1) in
    let layout = c.contact-changed.ensures.layout in
    let switches = c.contact-changed.ensures.switches in
    record {
      bound = rw (layout, switches) d.bound;
      metered = rw layout d.metered;
      valued = d.valued;
      modelled = rw (layout, switches) d.modelled;
      released =
          rw (rows, switches) (kept-stays d.bay.tree _ _ d.releases d.released
          (keeps-contact (switches_of d.bay.switches) c.args.switch s.0 c.args.position c.args.now
          d.bay.tree));
      tabled = rw switches d.tabled;
      typed = d.typed;
      spans_sized = rw switches d.spans_sized;
      few = d.few;
      spanned = d.spanned;
      held = contact-held d c.contact-changed.new.bay.tree c.contact-changed.new.bay.switches
          c.args.switch s.0 c.args.position c.args.now c.as_slice.result.now c.with-self.result
          c.requires c.as_slice.ensures s.1 rows layout switches c.with-self.ensures.from
          c.with-self.ensures.to;
    }

pub invariant_of-self-else-contact : goal.invariant_of-self-else-contact
invariant_of-self-else-contact c =
    let d = c.args.self.now in
    let s = switch-there d.bay.switches c.args.switch c.requires in
    let rows = ap (λ (b : Bay). b.rows) (c.contact-changed.ensures.after s.0 s.1) in
    let layout = c.contact-changed.ensures.layout in
    let switches = c.contact-changed.ensures.switches in
    record {
      bound = rw (layout, switches) d.bound;
      metered = rw layout d.metered;
      valued = d.valued;
      modelled = rw (layout, switches) d.modelled;
      released =
          rw (rows, switches) (kept-stays d.bay.tree _ _ d.releases d.released
          (keeps-contact (switches_of d.bay.switches) c.args.switch s.0 c.args.position c.args.now
          d.bay.tree));
      tabled = rw switches d.tabled;
      typed = d.typed;
      spans_sized = rw switches d.spans_sized;
      few = d.few;
      spanned = d.spanned;
      held = contact-held d c.contact-changed.new.bay.tree c.contact-changed.new.bay.switches
          c.args.switch s.0 c.args.position c.args.now c.as_slice.result.now c.with-self.result
          c.requires c.as_slice.ensures s.1 rows layout switches c.with-self.ensures.from
          c.with-self.ensures.to;
    }

pub returns-then-contact-clause-sent : goal.returns-then-contact-clause-sent
returns-then-contact-clause-sent c connections =
    let d = c.args.self.now in
    let s = switch-there d.bay.switches c.args.switch c.requires in
    let done : is_done c.args.switch c.args.position d.bay.controls.execution ≡ true =
    sym (ap (λ (b : Bay). is_done c.args.switch c.args.position b.controls.execution)
    (c.contact-changed.ensures.after s.0 s.1)) ∙ sym c.contact.ensures.ended ∙ c.if-contact.true in
    c.report_reached.ensures.sent ∙ sym
    (ap (λ (b : Bool). let o : Option Sent = cond b (reached_report d.pending) None in o) done)

pub returns-else-contact-clause-sent : goal.returns-else-contact-clause-sent
returns-else-contact-clause-sent c connections =
    let d = c.args.self.now in
    let s = switch-there d.bay.switches c.args.switch c.requires in
    let done : is_done c.args.switch c.args.position d.bay.controls.execution ≡ false =
    sym (ap (λ (b : Bay). is_done c.args.switch c.args.position b.controls.execution)
    (c.contact-changed.ensures.after s.0 s.1)) ∙ sym c.contact.ensures.ended ∙ c.if-contact.false in
    sym (ap (λ (b : Bool). let o : Option Sent = cond b (reached_report d.pending) None in o) done)
