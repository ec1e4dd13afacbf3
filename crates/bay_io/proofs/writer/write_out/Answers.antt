use Rattle.std.proofs.Common.{◌≡◌, ◌-◌, nat_lt, ◌||◌, ◌++◌, length, take, drop, refl, sym, ap, subst, ◌∙◌, arith, length-take, take-append-drop}
use Rattle.std.proofs.Math.Seq.{take-add, take-take}
use Rattle.std.specs.Io.KnownBytes.{Appends}
use Rattle.std.proofs.KnownBytes.{Appends-trans}
use Rattle.std.proofs.lemmas.List.{take_rest}
use Rattle.bay_io.proofs.AskedLemmas.{Asked-none, Asked-one, Asked-then, write-failed}
use Rattle.bay_io.proofs.SentLemmas.{SendsPart-none, SendsPart-front, SendsPart-step, unfailed}
use Rattle.bay_io.proofs.writer.write_out.Goals as goal

pub loop-done-preserved : goal.loop-done-preserved
loop-done-preserved g c =
    let done = c.loop-done.done in
    let n = c.in-Ok.n in
    let xs = c.args.text.now in
    let before = c.loop-done.invariant in
    let fits = c.in-Ok.ensures.bound in
    let most = length-take (length xs - done) (drop done xs) in
    let joined =
    ap (λ l. take done xs ++ l) (take-take n (length xs - done) (drop done xs) (omega arith))
    ∙ sym (take-add done n xs) in
    record {
      within = omega arith;
      unfailed = c.in-Ok.ensures.failed
          ∙ unfailed c.loop-done.sink.has_failed n
          (nat_lt 0 (length (take (length xs - done) (drop done xs)))) before.unfailed
          c.in-Ok.n-test.1;
      sent =
          subst (Appends _ _) joined (Appends-trans _ _ _ _ _ before.sent c.in-Ok.ensures.bytes);
      calls_made =
          Asked-then _ _ _ _ _ _ before.calls_made
          (Asked-one _ _ _ _ _ (c.write.ensures.call, refl)
          (c.write.ensures.failed
          ∙ ap (λ b. c.loop-done.sink.has_failed || b) (write-failed _ c.write.result)));
      logs = c.write.ensures.logs ∙ before.logs;
    }

pub returns-in-Ok-eq0-clause-err : goal.returns-in-Ok-eq0-clause-err
returns-in-Ok-eq0-clause-err g c =
    let done = c.loop-done.done in
    let xs = c.args.text.now in
    let rest = take (length xs - done) (drop done xs) in
    let whole : xs ≡ take done xs ++ rest =
    sym (take-append-drop done xs) ∙ ap (λ l. take done xs ++ l) (sym (take_rest xs done)) in
    SendsPart-step _ _ _ (take done xs) rest xs c.in-Ok-eq0.field-0 c.loop-done.invariant.sent
    c.in-Ok-eq0.ensures.bytes whole

pub returns-in-Err-clause-err : goal.returns-in-Err-clause-err
returns-in-Err-clause-err g c =
    let done = c.loop-done.done in
    let xs = c.args.text.now in
    SendsPart-front _ _ _ (take done xs) (drop done xs) xs c.loop-done.invariant.sent
    c.in-Err.ensures.bytes (sym (take-append-drop done xs))

pub returns-then-has_failed-clause-err : goal.returns-then-has_failed-clause-err
returns-then-has_failed-clause-err g c = SendsPart-none _ _

pub returns-in-Ok-eq0-clause-calls_made : goal.returns-in-Ok-eq0-clause-calls_made
returns-in-Ok-eq0-clause-calls_made g c =
    Asked-then _ _ _ _ _ _ c.loop-done.invariant.calls_made
    (Asked-one _ _ _ _ _ (c.write.ensures.call, refl)
    (c.write.ensures.failed
    ∙ ap (λ b. c.loop-done.sink.has_failed || b) (write-failed _ c.write.result)))

pub returns-in-Err-clause-calls_made : goal.returns-in-Err-clause-calls_made
returns-in-Err-clause-calls_made g c =
    Asked-then _ _ _ _ _ _ c.loop-done.invariant.calls_made
    (Asked-one _ _ _ _ _ (c.write.ensures.call, refl)
    (c.write.ensures.failed
    ∙ ap (λ b. c.loop-done.sink.has_failed || b) (write-failed _ c.write.result)))

pub returns-then-has_failed-clause-calls_made : goal.returns-then-has_failed-clause-calls_made
returns-then-has_failed-clause-calls_made g c = Asked-none _ _
