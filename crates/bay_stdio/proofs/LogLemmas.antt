-- Lemmas on lines that wait to be logged.
use Rattle.std.proofs.Common.{◌≡◌, ℕ, suc, ◌+◌, ◌<◌, ◌≤◌, true, false, List, [], ◌∷◌, ◌++◌, length, drop, get_or, refl, ap, sym, ◌∙◌, arith, add-one, append_assoc, append-nil, length-append}
use Rattle.std.proofs.Math.Seq.{drop-cons}
use Rattle.std.proofs.lemmas.Bool.Decides.{nat_tests}
use Rattle.bay_io.specs.Calls.{part_text, parts_text}
use Rattle.bay_io.specs.Sent.{fits_buffer}
use Rattle.bay_io.specs.declared.calls.LinePart.{LinePart}
use Rattle.bay_stdio.specs.Log.{AppendsIfFits}

-- of a text, all but the rest was added to what waits
pub record Added (before whole rest now : List ℕ) : Type 0 where
  pub done : List ℕ
  pub split : whole ≡ done ++ rest
  pub is : now ≡ before ++ done

pub Added-start : (before whole : List ℕ) → Added before whole whole before
Added-start before whole = record { done = []; split = refl; is = sym (append-nil before) }

pub Added-step : {before whole rest now : List ℕ} (part more next : List ℕ)
    → Added before whole rest now → rest ≡ part ++ more → next ≡ now ++ part
    → Added before whole more next
Added-step {before} {whole} {rest} {now} part more next a e n = record {
  done = a.done ++ part;
  split = a.split ∙ ap (λ t. a.done ++ t) e ∙ sym (append_assoc a.done part more);
  is = n ∙ ap (λ t. t ++ part) a.is ∙ append_assoc before a.done part;
}

-- the next part of a line
pub parts-turn : (parts : List LinePart) (k : ℕ) (part : LinePart) → part ≡ get_or parts k part
    → k < length parts
    → parts_text (drop k parts) ≡ part_text part ++ parts_text (drop (k + 1) parts)
parts-turn parts k part is lt =
    let next : drop k parts ≡ part ∷ drop (k + 1) parts =
    rw (add-one, drop-cons parts k part) (ap (λ x. x ∷ drop (suc k) parts) (sym is)) in
    ap parts_text next

-- all was added
pub Keeps-all : {before whole now : List ℕ} → Added before whole [] now → length now ≤ 65536
    → AppendsIfFits before whole now true
Keeps-all {before} {whole} {now} a within = record {
  fitted = sym (grind (arith, nat_tests, ap length same));
  whole = λ e. same;
  part = (whole, same);
}
  where
    same : now ≡ before ++ whole
    same = a.is ∙ ap (λ t. before ++ t) (sym (a.split ∙ append-nil a.done))

-- a part did not fit
pub Keeps-part : {before whole rest now : List ℕ} (part more : List ℕ)
    → Added before whole rest now → rest ≡ part ++ more → fits_buffer now part ≡ false
    → AppendsIfFits before whole now false
Keeps-part {before} {whole} {rest} {now} part more a e full = record {
  fitted = sym (grind (
    arith,
    nat_tests,
    full,
    ap length a.is,
    ap length a.split,
    ap length e,
    length-append before a.done,
    length-append before whole,
    length-append a.done rest,
    length-append part more,
  ));
  whole = λ bad. absurd cc;
  part = (a.done, a.is);
}
