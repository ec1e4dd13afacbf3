-- Lemmas on lines that are logged one after the other.
use Rattle.std.proofs.Common.{◌≡◌, ℕ, ◌+◌, ◌<◌, ◌≤◌, false, List, [], ◌∷◌, ◌++◌, length, drop, get_or, map, Option, None, Some, refl, sym, ap, subst, add-one, ◌∙◌}
use Rattle.std.specs.Io.KnownBytes.{Keeps}
use Rattle.std.specs.Prelude.{MatchBool}
use Rattle.std.proofs.Math.Seq.{drop-cons}
use Rattle.std.specs.List.{flat_map}
use Rattle.std.proofs.lemmas.List.{drop_all}
use Rattle.bay_io.specs.Calls.{WriteCall, Log}
use Rattle.bay_io.specs.Sent.{Logs}
use Rattle.bay_io.specs.Watched.{WriterState}
use Rattle.bay_device.specs.Device.{State}
use Rattle.bay_server.specs.ChangeLines.{switch_log, switches_log}
use Rattle.bay_server.specs.Logging.{LogsAll}
use Rattle.bay_server.specs.declared.change_lines.Column.{Column}
use Rattle.bay_server.specs.declared.change_lines.SwitchView.{SwitchView}

-- known octets stay as they are
keeps-same : (octets : Option (List ℕ)) → Keeps octets octets
keeps-same None = tt
keeps-same (Some octets) = refl

module _ {W : Type 0} (contents : W → Option (List ℕ)) (asks : W → WriteCall → W → Type 0) where
  pub logs-one : (old new : WriterState W) (line : List ℕ) → Logs contents asks old line new
      → LogsAll contents asks old (line ∷ []) new
  logs-one old new line logged = (new, logged, refl)

  pub logs-then : (old mid new : WriterState W) (front back : List (List ℕ))
      → LogsAll contents asks old front mid → LogsAll contents asks mid back new
      → LogsAll contents asks old (front ++ back) new
  logs-then old mid new [] back first second =
      subst (λ w. LogsAll contents asks w back new) first second
  logs-then old mid new (line ∷ front) back first second =
      (first.0, first.1, logs-then first.0 mid new front back first.2 second)

  pub logs-as : (old new : WriterState W) (lines other : List (List ℕ)) → lines ≡ other
      → LogsAll contents asks old lines new → LogsAll contents asks old other new
  logs-as old new lines other same logged =
      subst (λ ls. LogsAll contents asks old ls new) same logged

  -- ---- if nothing is logged

  -- a line leaves the writer as it is
  unlogged-line : (old new : WriterState W) (line : List ℕ) → old.logs ≡ false
      → Logs contents asks old line new → new ≡ old
  unlogged-line old new line off logged =
      let same : new.inner ≡ old.inner =
      subst (λ b. MatchBool b (asks old.inner (Log line) new.inner) (new.inner ≡ old.inner)) off
      logged.logged in
      logged.rest ∙ ap (λ i. record old { inner = i }) same

  -- any lines are logged so
  pub unlogged : (old : WriterState W) (lines : List (List ℕ)) → old.logs ≡ false
      → LogsAll contents asks old lines old
  unlogged old [] off = refl
  unlogged old (line ∷ lines) off = (
    old,
    record {
      logged = subst (λ b. MatchBool b (asks old.inner (Log line) old.inner)
          (old.inner ≡ old.inner)) (sym off) refl;
      rest = refl;
      kept = keeps-same (contents old.inner);
    },
    unlogged old lines off,
  )

  unlogged-lines : (old new : WriterState W) (lines : List (List ℕ)) → old.logs ≡ false
      → LogsAll contents asks old lines new → new ≡ old
  unlogged-lines old new [] off logged = logged
  unlogged-lines old new (line ∷ lines) off logged =
      let first : logged.0 ≡ old = unlogged-line old logged.0 line off logged.1 in
      unlogged-lines logged.0 new lines (ap (λ (w : WriterState W). w.logs) first ∙ off) logged.2
      ∙ first

  -- other lines are logged, too
  pub unlogged-as : (old new : WriterState W) (lines other : List (List ℕ)) → old.logs ≡ false
      → LogsAll contents asks old lines new → LogsAll contents asks old other new
  unlogged-as old new lines other off logged =
      subst (λ w. LogsAll contents asks old other w)
      (sym (unlogged-lines old new lines off logged)) (unlogged old other off)

  -- where the lines of each item are several
  module _ {A : Type 0} (f : A → List (List ℕ)) (xs : List A) where
    pub record LogsFrom (old : WriterState W) (k : ℕ) (mid : WriterState W) : Type 0 where
      pub goes : (new : WriterState W) → LogsAll contents asks mid (flat_map f (drop k xs)) new
          → LogsAll contents asks old (flat_map f xs) new

    pub from-start : (old : WriterState W) → LogsFrom old 0 old
    from-start old = record { goes = λ new rest. rest }

    pub from-next : (old mid next : WriterState W) (k : ℕ) (d : A) → LogsFrom old k mid
        → k < length xs → LogsAll contents asks mid (f (get_or xs k d)) next
        → LogsFrom old (k + 1) next
    from-next old mid next k d before lt logged =
        let split : drop k xs ≡ get_or xs k d ∷ drop (k + 1) xs =
        rw (add-one, drop-cons xs k d) refl in
        record {
          goes = λ new rest. before.goes new
              (subst (λ ls. LogsAll contents asks mid ls new) (sym (ap (flat_map f) split))
              (logs-then mid next new _ _ logged rest));
        }

    pub from-end : (old mid : WriterState W) (k : ℕ) → LogsFrom old k mid → length xs ≤ k
        → LogsAll contents asks old (flat_map f xs) mid
    from-end old mid k before end =
        before.goes mid (subst (λ ls. LogsAll contents asks mid ls mid)
        (sym (ap (flat_map f) (drop_all k xs end))) refl)

  module _ {A : Type 0} (f : A → List ℕ) (xs : List A) where
    -- the lines of the items before one were logged
    pub record LogsUpTo (old : WriterState W) (k : ℕ) (mid : WriterState W) : Type 0 where
      pub goes : (new : WriterState W) → LogsAll contents asks mid (map f (drop k xs)) new
          → LogsAll contents asks old (map f xs) new

    pub up-to-start : (old : WriterState W) → LogsUpTo old 0 old
    up-to-start old = record { goes = λ new rest. rest }

    pub up-to-next : (old mid next : WriterState W) (k : ℕ) (d : A) → LogsUpTo old k mid
        → k < length xs → Logs contents asks mid (f (get_or xs k d)) next
        → LogsUpTo old (k + 1) next
    up-to-next old mid next k d before lt logged =
        let split : drop k xs ≡ get_or xs k d ∷ drop (k + 1) xs =
        rw (add-one, drop-cons xs k d) refl in
        record {
          goes = λ new rest. before.goes new
              (subst (λ ls. LogsAll contents asks mid ls new) (sym (ap (map f) split))
              (next, logged, rest));
        }

    pub up-to-end : (old mid : WriterState W) (k : ℕ) → LogsUpTo old k mid → length xs ≤ k
        → LogsAll contents asks old (map f xs) mid
    up-to-end old mid k before end =
        before.goes mid
        (subst (λ ls. LogsAll contents asks mid ls mid) (sym (ap (map f) (drop_all k xs end))) refl)

  -- what is seen of the switches before one was logged
  module _ (column : Column) (now : ℕ) (s : State) (before : List SwitchView) where
    pub record LogsSwitches (old : WriterState W) (k : ℕ) (mid : WriterState W) : Type 0 where
      pub goes : (new : WriterState W)
          → LogsAll contents asks mid (switches_log column now s k (drop k before)) new
          → LogsAll contents asks old (switches_log column now s 0 before) new

    pub switches-start : (old : WriterState W) → LogsSwitches old 0 old
    switches-start old = record { goes = λ new rest. rest }

    pub switches-next : (old mid next : WriterState W) (k : ℕ) (d : SwitchView)
        → LogsSwitches old k mid
        → k < length before
        → LogsAll contents asks mid (switch_log column now s k (get_or before k d)) next
        → LogsSwitches old (k + 1) next
    switches-next old mid next k d upto lt logged =
        let split : drop k before ≡ get_or before k d ∷ drop (k + 1) before =
        rw (add-one, drop-cons before k d) refl in
        record {
          goes = λ new rest. upto.goes new
              (subst (λ ls. LogsAll contents asks mid ls new)
              (sym (ap (switches_log column now s k) split))
              (logs-then mid next new _ _ logged rest));
        }

    pub switches-end : (old mid : WriterState W) (k : ℕ) → LogsSwitches old k mid
        → length before ≤ k
        → LogsAll contents asks old (switches_log column now s 0 before) mid
    switches-end old mid k upto end =
        upto.goes mid (subst (λ ls. LogsAll contents asks mid ls mid)
        (sym (ap (switches_log column now s k) (drop_all k before end))) refl)
