-- Octets heard turn by turn.
use Rattle.std.proofs.Common.{◌≡◌, ◌≢◌, ℕ, zero, suc, ◌<◌, ◌+◌, List, [], ◌∷◌, ◌++◌, length, take, drop, Option, None, Some, refl, ap, sym, ◌∙◌, arith, append-nil}
use Rattle.std.proofs.Math.ListN.{drop_of_length-le}
use Rattle.std.proofs.lemmas.Grind.{common_steps}
use Rattle.std.proofs.lemmas.List.{append_cancel_left}
use Rattle.std.proofs.Math.Seq.{take-length}
use Rattle.bay_transport.specs.Doings.{StreamState, Going, Over, Broken}
use Rattle.bay_transport.specs.Feeding.{AcceptsOctets}
use Rattle.bay_connection.specs.ConnectionStates.{ConnectionState, Indication, answers, delivers, releases, ends, fails, indications, connection_after}
use Rattle.bay_connection.specs.Feeding.{Completes, Feeds, FeedsFrom, IsContinued}
use Rattle.bay_connection.proofs.CuttingLemmas.{indications-append, left_by-append}
use Rattle.bay_connection.proofs.FeedingLemmas.{feeding-indications}
use Rattle.bay_connection.proofs.GoingLemmas.{heard-going, nothing-going}
use Rattle.bay_device.specs.Receiving.{StepState, ReceiveResult, after_indications, on_indication}
use Rattle.bay_device.specs.ReceivingViews.{ResultsIn, IsContinuedIf, AdvancesTo, on_indication_if}
use Rattle.bay_device.specs.declared.event.Why.{Why}
use Rattle.bay_device.specs.declared.event.Why.TheVariants.{Ended, Fault, Memory}

-- one thing more before memory is refused
next : Option ℕ → Option ℕ
next None = None
next (Some n) = Some (suc n)

heard-next : (later : Option ℕ) (now a : ℕ) (i : Indication) (is : List Indication) (d : StepState)
    → after_indications (next later) now a (i ∷ is) d
    ≡ on_indication now a i d (after_indications later now a is)
unfolding next
heard-next None now a i is d = refl
heard-next (Some n) now a i is d = refl

refused-here : (now a : ℕ) (is : List Indication) (d : StepState)
    → after_indications (Some 0) now a is d ≡ record { done = d; why = Some Memory }
refused-here now a [] d = refl
refused-here now a (i ∷ is) d = refl

-- ---- what was fed

fed-some : (left : StreamState) (t : ConnectionState) (piece : List ℕ) (used : ℕ) (i : Indication)
    → AcceptsOctets left
    → FeedsFrom left t piece used (Some i) → Completes t piece used i
fed-some (Going connection rest) t piece used i going fed = fed
fed-some Over t piece used i going fed = absurd going
fed-some Broken t piece used i going fed = absurd going

fed-none : (left : StreamState) (t : ConnectionState) (piece : List ℕ) (used : ℕ)
    → AcceptsOctets left
    → FeedsFrom left t piece used None → (used ≡ length piece) × (indications t piece ≡ [])
fed-none (Going connection rest) t piece used going fed = fed
fed-none Over t piece used going fed = absurd going
fed-none Broken t piece used going fed = absurd going

comes-some : (t : ConnectionState) (piece : List ℕ) (used : ℕ) (i : Indication) → IsContinued i
    → Completes t piece used i → (0 < used) × (indications t (take used piece) ≡ i ∷ [])
comes-some t piece used (answers octets) goes comes = (comes.moves, comes.does)
comes-some t piece used (delivers terms pdu) goes comes = (comes.moves, comes.does)
comes-some t piece used (releases octets) goes comes = absurd goes
comes-some t piece used ends goes comes = absurd goes
comes-some t piece used (fails code) goes comes = absurd goes

-- what comes to nothing, and all of it is taken, leaves nothing
nothing-left : (xs ys : List Indication) → xs ≡ xs ++ ys → ys ≡ []
nothing-left xs ys e = sym (append_cancel_left xs [] ys (append-nil xs ∙ e))

left-quiet : (t : ConnectionState) (octets : List ℕ)
    → indications (connection_after t octets) [] ≡ []
left-quiet t octets =
    nothing-left (indications t octets) _
    (ap (indications t) (sym (append-nil octets)) ∙ indications-append t octets [])

-- ---- turns

module _ (now a : ℕ) (old : ConnectionState) (rest : List ℕ) (used : ℕ) (new : ConnectionState)
    (going : AcceptsOctets old.stream.state) (left : new ≡ connection_after old (take used rest))
  where
    pub used-some : (i : Option Indication) → 0 < length rest → Feeds old rest used i
        → IsContinuedIf i → 0 < used
    used-some None some fed goes = let all =
        fed-none old.stream.state old rest used going fed in omega (arith, all.0, some)
    used-some (Some i) some fed goes =
        (comes-some old rest used i goes (fed-some old.stream.state old rest used i going fed)).0

    pub goes-on : (i : Option Indication) → Feeds old rest used i → IsContinuedIf i
        → AcceptsOctets new.stream.state
    goes-on None fed goes =
        let all = fed-none old.stream.state old rest used going fed in
        let whole : take used rest ≡ rest = ap (λ n. take n rest) all.0 ∙ take-length rest in
        rw (left, whole) (nothing-going old rest going all.1)
    goes-on (Some i) fed goes =
        let does =
        (comes-some old rest used i goes (fed-some old.stream.state old rest used i going fed)).1
        in
        rw left (heard-going old (take used rest) i does goes)

    pub moves-heard : (i : Option Indication) (d e : StepState) → Feeds old rest used i
        → ((later : StepState → ReceiveResult) → on_indication_if now a i d later ≡ later e)
        → AdvancesTo now a old rest d new (drop used rest) e
    moves-heard None d e fed done =
        let all = fed-none old.stream.state old rest used going fed in
        let whole : take used rest ≡ rest = ap (λ n. take n rest) all.0 ∙ take-length rest in
        let none : drop used rest ≡ [] =
        ap (λ n. drop n rest) all.0 ∙ drop_of_length-le rest (omega arith) in
        let quiet : indications new (drop used rest) ≡ [] =
        rw (none, left, whole) (left-quiet old rest) in
        record {
          goes = λ later. (
            later,
            ap (λ is. after_indications later now a is d) (all.1 ∙ sym quiet)
                ∙ done (after_indications later now a (indications new (drop used rest))),
          );
        }
    moves-heard (Some i) d e fed done =
        let comes =
        feeding-indications old new rest used i left
        (fed-some old.stream.state old rest used i going fed) in
        record {
          goes = λ later. (
            next later,
            ap (λ is. after_indications (next later) now a is d) comes
                ∙ heard-next later now a i (indications new (drop used rest)) d
                ∙ done (after_indications later now a (indications new (drop used rest))),
          );
        }

    -- the association is closed by what was heard, which is not want of memory
    pub stops-heard : (i : Option Indication) (d e : StepState) (why : Why) → Feeds old rest used i
        → ((later : StepState → ReceiveResult)
        → on_indication_if now a i d later ≡ record { done = e; why = Some why })
        → ResultsIn now a old rest d (Some why) e
    stops-heard None d e why fed done =
        let no : record { done = d; why = None }
        ≡ (let h : ReceiveResult = record { done = e; why = Some why } in h) =
        done (λ x. record { done = x; why = None }) in
        absurd (let w : None ≡ (let o : Option Why = Some why in o) =
        ap (λ (h : ReceiveResult). h.why) no in
        cc)
    stops-heard (Some i) d e why fed done =
        let comes =
        feeding-indications old new rest used i left
        (fed-some old.stream.state old rest used i going fed) in
        record {
          choice = None;
          is = ap (λ is. after_indications None now a is d) comes
              ∙ done (after_indications None now a (indications new (drop used rest)));
        }

pub stops-memory : (now a : ℕ) (old : ConnectionState) (octets : List ℕ) (d e : StepState) → e ≡ d
    → ResultsIn now a old octets d (Some Memory) e
stops-memory now a old octets d e is = record {
  choice = Some 0;
  is = refused-here now a (indications old octets) d
      ∙ ap (λ (x : StepState). record { done = x; why = Some Memory }) (sym is);
}

-- why it is closed is want of memory, or something else
pub stops-by : (now a : ℕ) (old : ConnectionState) (octets : List ℕ) (d e : StepState) (why : Why)
    → (why ≡ Memory → e ≡ d) → (why ≢ Memory → ResultsIn now a old octets d (Some why) e)
    → ResultsIn now a old octets d (Some why) e
stops-by now a old octets d e Memory same stops = stops-memory now a old octets d e (same refl)
stops-by now a old octets d e Ended same stops = stops (λ is. cc)
stops-by now a old octets d e (Fault code) same stops = stops (λ is. cc)

-- ---- all turns

pub moves-none : (now a : ℕ) (old : ConnectionState) (octets : List ℕ) (d : StepState)
    → AdvancesTo now a old octets d old octets d
moves-none now a old octets d = record { goes = λ later. (later, refl) }

pub moves-on : (now a : ℕ) (old : ConnectionState) (octets : List ℕ) (d : StepState)
    (mid : ConnectionState) (middle : List ℕ)
    (v : StepState) (new : ConnectionState) (rest : List ℕ) (e : StepState)
    → AdvancesTo now a old octets d mid middle v → AdvancesTo now a mid middle v new rest e
    → AdvancesTo now a old octets d new rest e
moves-on now a old octets d mid middle v new rest e first second = record {
  goes = λ later.
      let s = second.goes later in
      let f = first.goes s.0 in
      (f.0, f.1 ∙ s.1);
}

pub stops-then : (now a : ℕ) (old : ConnectionState) (octets : List ℕ) (d : StepState)
    (mid : ConnectionState)
    (middle : List ℕ) (v : StepState) (why : Why) (e : StepState)
    → AdvancesTo now a old octets d mid middle v → ResultsIn now a mid middle v (Some why) e
    → ResultsIn now a old octets d (Some why) e
stops-then now a old octets d mid middle v why e first stops =
    let f = first.goes stops.choice in
    record { choice = f.0; is = f.1 ∙ stops.is }

pub ends-all : (now a : ℕ) (old : ConnectionState) (octets : List ℕ) (d : StepState)
    (new : ConnectionState) (e : StepState)
    → new ≡ connection_after old octets → AdvancesTo now a old octets d new [] e
    → ResultsIn now a old octets d None e
ends-all now a old octets d new e left moves =
    let m = moves.goes None in
    let quiet : indications new [] ≡ [] = rw left (left-quiet old octets) in
    record { choice = m.0; is = m.1 ∙ ap (λ is. after_indications None now a is e) quiet }

-- ---- what is left

nothing-more : (i j : ℕ) → take i [] ++ take j (drop i [])
    ≡ take (i + j) (let xs : List ℕ = [] in xs)
nothing-more i j = grind (arith, common_steps)

take-more : (xs : List ℕ) (i j : ℕ) → take i xs ++ take j (drop i xs) ≡ take (i + j) xs
take-more xs zero j = let none : 0 + j ≡ j = omega arith in rw none refl
take-more [] (suc i) j = nothing-more (suc i) j
take-more (x ∷ xs) (suc i) j = let more : suc i + j ≡ suc (i + j) =
    omega arith in rw more (ap (λ ys. x ∷ ys) (take-more xs i j))

pub left-on : (old mid new : ConnectionState) (octets : List ℕ) (at used : ℕ) → (at ≡ 0 → mid ≡ old)
    → (0 < at → mid ≡ connection_after old (take at octets))
    → new ≡ connection_after mid (take used (drop at octets))
    → new ≡ connection_after old (take (at + used) octets)
left-on old mid new octets zero used first later is =
    let none : 0 + used ≡ used = omega arith in
    rw none (is ∙ ap (λ (t : ConnectionState). connection_after t (take used octets)) (first refl))
left-on old mid new octets (suc at) used first later is =
    is ∙ ap (λ (t : ConnectionState). connection_after t (take used (drop (suc at) octets)))
    (later (omega arith))
    ∙ sym (left_by-append old (take (suc at) octets) (take used (drop (suc at) octets)))
    ∙ ap (connection_after old) (take-more octets (suc at) used)
