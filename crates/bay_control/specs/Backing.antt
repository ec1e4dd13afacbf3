-- When an accepted operate is backed by a select (IEC 61850-7-2, 20). The definitions use only what
-- an outside observer sees, not the state of the controls.
use Rattle.std.specs.Prelude.{ℕ, ◌+◌, ◌<◌, ◌≡◌, Bool, true, false, not, ◌&&◌, ◌==◌, List, [], ◌∷◌, ◌++◌, All, Option, None, Some}
use Rattle.bay_control.specs.Acts.{Act, Opened, Closed, Select, SelectWith, Operate, Cancel, Entry}
use Rattle.bay_control.specs.Requests.{control_of, is_enhanced, is_sbo}
use Rattle.bay_control.specs.declared.control.SwitchControl.{SwitchControl}
use Rattle.bay_control.specs.declared.request.Choice.{Choice}

-- ---- IEC 61850-7-2 20: when an operate is backed by a select

-- a select of switch k by association a, with value or without (own)
abbrev pub selects : ℕ → ℕ → Act → Bool
selects a k (Opened b) = false
selects a k (Closed b) = false
selects a k (Select b j) = a == b && k == j
selects a k (SelectWith b j choice) = a == b && k == j
selects a k (Operate b j choice) = false
selects a k (Cancel b j) = false

-- the operation and the originator that a select with value requested (own)
abbrev pub choice_of : Act → Option Choice
choice_of (Opened b) = None
choice_of (Closed b) = None
choice_of (Select b j) = None
choice_of (SelectWith b j choice) = Some choice
choice_of (Operate b j choice) = None
choice_of (Cancel b j) = None

-- a select of switch k by association a was granted
abbrev pub grants : ℕ → ℕ → Entry → Bool
grants a k e = selects a k e.act && e.is_accepted

-- the act undoes an earlier select of switch k by association a: a was opened or closed, a select
-- of another switch or by another association was granted, an operate of k by a was attempted, or a
-- cancel of k by a was accepted
abbrev pub act_undoes : ℕ → ℕ → Bool → Act → Bool
act_undoes a k is_accepted (Opened b) = a == b
act_undoes a k is_accepted (Closed b) = a == b
act_undoes a k is_accepted (Select b j) = is_accepted && not (a == b && k == j)
act_undoes a k is_accepted (SelectWith b j choice) = is_accepted && not (a == b && k == j)
act_undoes a k is_accepted (Operate b j choice) = a == b && k == j
act_undoes a k is_accepted (Cancel b j) = is_accepted && (a == b && k == j)

-- the entry undoes an earlier select of switch k by association a
abbrev pub undoes : ℕ → ℕ → Entry → Bool
undoes a k e = act_undoes a k e.is_accepted e.act

-- With enhanced security the select is the last one that was granted to the association for the
-- switch, and it requested the same operation and originator.
pub record IsMatched (a k : ℕ) (choice : Choice) (select : Entry) (between : List Entry)
    : Type 0 where
  pub last : All (λ (e : Entry). grants a k e ≡ false) between
  pub same : choice_of select.act ≡ Some choice

-- An operate of switch k by association a at a time is backed by the entries before it: a select of
-- k by a was granted, no later entry undid it, and it has not expired.
pub record IsBacked (controls : List SwitchControl) (a k : ℕ) (choice : Choice) (now : ℕ)
    (before : List Entry) : Type 0 where
  pub earlier : List Entry
  pub select : Entry
  pub between : List Entry
  pub split : before ≡ earlier ++ select ∷ between
  pub granted : grants a k select ≡ true
  pub not_undone : All (λ (e : Entry). undoes a k e ≡ false) between
  pub in_time : now < select.now + (control_of controls k).sbo_timeout_ms
  pub matched : is_enhanced (control_of controls k).model ≡ true
      → IsMatched a k choice select between

-- Each accepted operate of an SBO switch among these entries is backed by the entries before it,
-- including those of the past.
abbrev pub AreBackedAfter : List SwitchControl → List Entry → List Entry → Type 0
AreBackedAfter controls past entries =
    (before after : List Entry) (now a k : ℕ) (choice : Choice)
    → entries ≡ before ++ record { now = now; act = Operate a k choice; is_accepted = true } ∷ after
    → is_sbo (control_of controls k).model ≡ true
    → IsBacked controls a k choice now (past ++ before)

-- Each accepted operate of an SBO switch is backed by the entries before it.
abbrev pub AreBacked : List SwitchControl → List Entry → Type 0
AreBacked controls entries = AreBackedAfter controls [] entries
