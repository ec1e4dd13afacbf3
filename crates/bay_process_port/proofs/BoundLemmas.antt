-- What stays of a port: whether its process is told of releases, and what it owes.
use Rattle.std.proofs.Common.{◌≡◌, ℕ, List, Option, None, Some, is_some, option_map, if◌then◌else◌, refl, ap, ap₂, ◌∙◌}
use Rattle.bay_device.specs.Device.{State}
use Rattle.bay_process_port.specs.Ports.{PortData, StaysBound, empty_port, with_no_data}
use Rattle.bay_process_port.specs.Releases.{ReleaseData, no_releases_sent, sent_releases_after}
use Rattle.bay_process_port.specs.Supervised.{WatchData, after_alive_answer, settings_in, active_at, initial_watch}
use Rattle.bay_process_port.specs.declared.port.Presence.{Presence}

pub bound-same : (p : PortData) → StaysBound p p
bound-same p = record { sent = refl; settings = refl }

pub bound-trans : (p q r : PortData) → StaysBound p q → StaysBound q r → StaysBound p r
bound-trans p q r a b = record { sent = b.sent ∙ a.sent; settings = b.settings ∙ a.settings }

-- the port with nothing in it is the same then
pub emptied-same : (presence : Presence) (p q : PortData) → StaysBound p q
    → with_no_data presence q ≡ with_no_data presence p
emptied-same presence p q b = ap₂ (λ t d. empty_port t d presence) b.sent b.settings

told-some : (s : State) (sent : Option (List (Option ReleaseData)))
    → is_some (sent_releases_after s sent) ≡ is_some sent
told-some s None = refl
told-some s (Some sent) = refl

answered-duties : (watch : Option WatchData)
    → settings_in (after_alive_answer watch) ≡ settings_in watch
answered-duties None = refl
answered-duties (Some w) = refl

heard-duties : (moment : ℕ) (watch : Option WatchData)
    → settings_in (active_at moment watch) ≡ settings_in watch
heard-duties moment None = refl
heard-duties moment (Some w) = refl

-- where only this was changed
pub bound-answered : (p q : PortData) → q ≡ record p { watch = after_alive_answer p.watch }
    → StaysBound p q
bound-answered p q is = record {
  sent = ap (λ (d : PortData). is_some d.sent) is;
  settings = ap (λ (d : PortData). settings_in d.watch) is ∙ answered-duties p.watch;
}

pub bound-heard : (moment : ℕ) (p q : PortData)
    → q ≡ record p { watch = active_at moment p.watch } → StaysBound p q
bound-heard moment p q is = record {
  sent = ap (λ (d : PortData). is_some d.sent) is;
  settings = ap (λ (d : PortData). settings_in d.watch) is ∙ heard-duties moment p.watch;
}

pub bound-told : (s : State) (p q : PortData) → q.sent ≡ sent_releases_after s p.sent
    → q.watch ≡ after_alive_answer p.watch → StaysBound p q
bound-told s p q sent watch = record {
  sent = ap is_some sent ∙ told-some s p.sent;
  settings = ap settings_in watch ∙ answered-duties p.watch;
}

-- they were not changed
pub bound-as : (p q : PortData) → q.sent ≡ p.sent → q.watch ≡ p.watch → StaysBound p q
bound-as p q sent watch = record { sent = ap is_some sent; settings = ap settings_in watch }

told-again : (sent : Option (List (Option ReleaseData)))
    → is_some (if is_some sent then Some no_releases_sent else None) ≡ is_some sent
told-again None = refl
told-again (Some sent) = refl

duties-again : (watch : Option WatchData)
    → settings_in (option_map initial_watch (settings_in watch)) ≡ settings_in watch
duties-again None = refl
duties-again (Some w) = refl

-- a port that was emptied twice
pub emptied-twice : (one other : Presence) (p : PortData)
    → with_no_data one (with_no_data other p) ≡ with_no_data one p
emptied-twice one other p =
    ap₂ (λ t d. empty_port t d one) (told-again p.sent) (duties-again p.watch)
