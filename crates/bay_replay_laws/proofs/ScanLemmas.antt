-- The last scan of a history: the interlocking values that it left stand, and where a command is
-- fresh the process has not changed since.
use Rattle.std.proofs.Common.{◌≡◌, ◌≢◌, ℕ, ◌+◌, ◌-◌, ◌≤◌, Bool, true, false, cond, not, nat_lt, List, [], ◌∷◌, ◌++◌, All, Option, Some, None, Result, IsOk, inl, inr, refl, ap, sym, subst, ◌∙◌, arith}
use Rattle.std.proofs.lemmas.Bool.{and_parts, leb-true}
use Rattle.std.proofs.lemmas.List.Elements.{All-from_recursion, recursion_from_All}
use Rattle.std.specs.List.{AllByRecursion}
use Rattle.bay_process.proofs.ToldLemmas.{Keeps}
use Rattle.bay_device.specs.Device.{State, is_fresh, is_recent}
use Rattle.bay_device.specs.Fresh.{HasScan, IsSameProcess, PastEvent}
use Rattle.bay_device.specs.Outcomes.{Outcome, last_moment, outcome, refusal_outcome, scan_outcome}
use Rattle.bay_device.specs.Steps.{Steps}
use Rattle.bay_device.specs.declared.event.Event.{Event}
use Rattle.bay_device.specs.declared.event.Event.TheVariants.{Scan}
use Rattle.bay_device.specs.declared.event.Step.{Step}
use Rattle.bay_device.specs.declared.fault.StepFault.{StepFault}
use Rattle.bay_device.specs.declared.fault.StepFault.TheVariants.{MomentTooLarge, TimeWentBack}
use Rattle.cmd_replay.specs.History.{EachPast, device_after}
use Rattle.cmd_replay.proofs.KeptLemmas.{Scanned, scan_told, turned}

-- ---- the last scan

-- no event of these is a scan that was done
abbrev NoScans : List PastEvent → Type 0
NoScans past = AllByRecursion (λ (p : PastEvent). scan_told p.answer ≡ None) past

pub record LastScan (first : State) (past : List PastEvent) (m : ℕ) : Type 0 where
  pub since : List PastEvent
  pub scan : PastEvent
  pub earlier : List PastEvent
  pub split : past ≡ since ++ scan ∷ earlier
  pub done : Scanned scan.now scan.event (device_after first earlier) scan.answer scan.after
  pub at : scan.now ≡ m
  pub keeps : Keeps scan.after.rows (device_after first past).rows
  pub none : NoScans since

pub some-same : {A : Type 0} (x y : A) → ◌≡◌ {A = Option A} (Some x) (Some y) → x ≡ y
some-same x y e = cc

pub last-scan : (first : State) (past : List PastEvent) (m : ℕ) → first.last_scan ≡ None
    → EachPast Steps first past → (device_after first past).last_scan ≡ Some m
    → LastScan first past m
last-scan first [] m none steps is =
    absurd (let no : ◌≡◌ {A = Option ℕ} None (Some m) = sym none ∙ is in cc)
last-scan first (p ∷ past) m none steps is =
    elim (turned p.now p.event (device_after first past) p.answer p.after steps.0) [
      | inl quiet ↦
          (let before = last-scan first past m none steps.1 (sym quiet.1.scans ∙ is) in
          record {
            since = p ∷ before.since;
            scan = before.scan;
            earlier = before.earlier;
            split = ap (λ ps. p ∷ ps) before.split;
            done = before.done;
            at = before.at;
            keeps = λ k x. quiet.1.interlocking k x ∙ before.keeps k x;
            none = (quiet.0, before.none);
          })
      | inr scan ↦ record {
        since = [];
        scan = p;
        earlier = past;
        split = refl;
        done = scan;
        at = some-same p.now m (sym (ap (λ (s : State). s.last_scan) scan.left) ∙ is);
        keeps = λ k x. refl;
        none = tt;
      }
    ]

-- A scan that is fresh was done, at most so long ago.
recent-at : (now age : ℕ) (o : Option ℕ) → is_recent now age o ≡ true
    → (m : ℕ) × (o ≡ Some m) × (now ≤ m + age)
recent-at now age None h = absurd cc
recent-at now age (Some m) h = let within : now - m ≤ age =
    leb-true (now - m) age h in (m, refl, omega arith)

pub fresh-at : (now : ℕ) (s : State) → is_fresh now s ≡ true
    → (m : ℕ) × (s.last_scan ≡ Some m) × (now ≤ m + s.scan_max_age_ms)
fresh-at now s fresh =
    recent-at now s.scan_max_age_ms s.last_scan
    (and_parts (is_recent now s.scan_max_age_ms s.last_scan) (not s.is_stale) fresh).0

-- ---- the process since

same-from : (a b c : State) → IsSameProcess a b → IsSameProcess a c → IsSameProcess b c
same-from a b c p q = record {
  positions =
      λ kind n. record {
        value = (q.positions kind n).value ∙ sym (p.positions kind n).value;
        quality = (q.positions kind n).quality ∙ sym (p.positions kind n).quality;
      };
  inputs = q.inputs ∙ sym p.inputs;
  measures =
      λ k field. record {
        value = (q.measures k field).value ∙ sym (p.measures k field).value;
        quality = (q.measures k field).quality ∙ sym (p.measures k field).quality;
      };
}

same-none : (s : State) → IsSameProcess s s
same-none s = record {
  positions = λ kind n. record { value = refl; quality = refl };
  inputs = refl;
  measures = λ k field. record { value = refl; quality = refl };
}

-- behind a scan that was done the process has not changed
abbrev Unchanged : PastEvent → List PastEvent → Type 0
Unchanged q ps = AllByRecursion (λ (p : PastEvent). IsSameProcess q.after p.after) ps

heads : (a b : PastEvent) (xs ys : List PastEvent) → a ∷ xs ≡ b ∷ ys → a ≡ b
heads a b xs ys e = cc

tails : (a b : PastEvent) (xs ys : List PastEvent) → a ∷ xs ≡ b ∷ ys → xs ≡ ys
tails a b xs ys e = cc

module _ (q : PastEvent) (others : List PastEvent) (scan : PastEvent) (earlier : List PastEvent)
    (scanned : scan_told q.answer ≢ None) where
  found : (before since : List PastEvent) → before ++ q ∷ others ≡ since ++ scan ∷ earlier
      → NoScans since → Unchanged q before → IsSameProcess q.after scan.after
  found [] [] e none same =
      subst (λ (p : PastEvent). IsSameProcess q.after p.after) (heads q scan others earlier e)
      (same-none q.after)
  found (y ∷ before) [] e none same =
      subst (λ (p : PastEvent). IsSameProcess q.after p.after)
      (heads y scan (before ++ q ∷ others) earlier e) same.0
  found [] (x ∷ since) e none same =
      absurd (scanned (subst (λ (p : PastEvent). scan_told p.answer ≡ None)
      (sym (heads q x others (since ++ scan ∷ earlier) e)) none.0))
  found (y ∷ before) (x ∷ since) e none same =
      found before since
      (tails y x (before ++ q ∷ others) (since ++ scan ∷ earlier) e) none.1 same.1

  each-since : (before since : List PastEvent) → before ++ q ∷ others ≡ since ++ scan ∷ earlier
      → NoScans since → Unchanged q before → IsSameProcess q.after scan.after
      → Unchanged scan since
  each-since before [] e none same here = tt
  each-since [] (x ∷ since) e none same here =
      absurd (scanned (subst (λ (p : PastEvent). scan_told p.answer ≡ None)
      (sym (heads q x others (since ++ scan ∷ earlier) e)) none.0))
  each-since (y ∷ before) (x ∷ since) e none same here = (
    subst (λ (p : PastEvent). IsSameProcess scan.after p.after)
        (heads y x (before ++ q ∷ others) (since ++ scan ∷ earlier) e)
        (same-from q.after scan.after y.after here same.0),
    each-since before since (tails y x (before ++ q ∷ others) (since ++ scan ∷ earlier) e) none.1
        same.1 here,
  )

-- ---- which scans are done

-- what is so of each event of a history is so of one and of those before it
pub past-in : (Does : ℕ → Event → State → Result Step StepFault → State → Type 0)
    (first : State) (since : List PastEvent) (q : PastEvent) (earlier past : List PastEvent)
    → past ≡ since ++ q ∷ earlier → EachPast Does first past → EachPast Does first (q ∷ earlier)
past-in Does first since q earlier past split all =
    at since (subst (λ ps. EachPast Does first ps) split all)
  where
    at : (since : List PastEvent) → EachPast Does first (since ++ q ∷ earlier)
        → EachPast Does first (q ∷ earlier)
    at [] all = all
    at (x ∷ since) all = at since all.1

abbrev Tells : Result Step StepFault → Type 0
Tells answer = scan_told answer ≢ None

tells-if : (late early : Bool) (now : ℕ) (s : State)
    → let o : Outcome = cond late (refusal_outcome MomentTooLarge s)
    (cond early (refusal_outcome TimeWentBack s) (scan_outcome now s)) in IsOk o.answer
    → Tells o.answer
tells-if true early now s ok = absurd cc
tells-if false true now s ok = absurd cc
tells-if false false now s ok = λ none. cc

-- A scan that is accepted tells of its steps.
done-tells : (now : ℕ) (event : Event) (old : State) (answer : Result Step StepFault)
    (new : State) → Steps now event old answer new → event ≡ Scan → IsOk answer → Tells answer
done-tells now event old answer new steps is ok =
    let same : answer ≡ (outcome steps.choice now Scan old).answer =
    steps.answered ∙ ap (λ (e : Event). (outcome steps.choice now e old).answer) is in
    subst Tells (sym same)
    (tells-if (nat_lt last_moment now) (nat_lt now old.moment) now old (subst IsOk same ok))

-- Since the last scan the process has not changed, where there is some scan since which it has not.
pub same-since : (first : State) (past : List PastEvent) (now age m : ℕ) → EachPast Steps first past
    → HasScan now age past → (l : LastScan first past m)
    → All (λ (p : PastEvent). IsSameProcess l.scan.after p.after) l.since
same-since first past now age m steps h l =
    let is : h.since ++ h.scan ∷ h.earlier ≡ l.since ++ l.scan ∷ l.earlier =
    sym h.split ∙ l.split in
    let tells : Tells h.scan.answer =
    done-tells h.scan.now h.scan.event (device_after first h.earlier) h.scan.answer h.scan.after
    (past-in Steps first h.since h.scan h.earlier past h.split steps).0 h.scanned h.done in
    let same : Unchanged h.scan h.since =
    recursion_from_All (λ (p : PastEvent). IsSameProcess h.scan.after p.after) h.since h.unchanged
    in
    let here = found h.scan h.earlier l.scan l.earlier tells h.since l.since is l.none same in
    All-from_recursion (λ (p : PastEvent). IsSameProcess l.scan.after p.after) l.since
    (each-since h.scan h.earlier l.scan l.earlier tells h.since l.since is l.none same here)
