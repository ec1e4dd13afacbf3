use Rattle.std.proofs.Common.{◌∙◌, ◌++◌, List, ℕ, ap, inl, inr, refl}
use Rattle.bay_io.proofs.SentLemmas.{Puts-as}
use Rattle.cmd_audit.specs.Text.{release_text}
use Rattle.cmd_audit.proofs.WrittenLemmas.{when-err}
use Rattle.cmd_audit.proofs.written.write_release.Goals as goal

pub returns-in_err-found : goal.returns-in_err-found
returns-in_err-found g c =
    when-err _ c.from_residual.result c.from_residual.ensures.0 (inl refl)

pub returns-in_err-put_release_of : goal.returns-in_err-put_release_of
returns-in_err-put_release_of g c =
    when-err _ c.from_residual-in_err-put_release_of.result
    c.from_residual-in_err-put_release_of.ensures.0 (inl refl)

pub returns-in_err-write_now : goal.returns-in_err-write_now
returns-in_err-write_now g c =
    when-err _ c.from_residual-in_err-write_now.result c.from_residual-in_err-write_now.ensures.0
    (inr (
      c.in_ok-found.found,
      record {
        right = c.in_ok-found.ensures.right;
        is = c.in_ok-found.ensures.way;
        put = Puts-as (release_text c.args.bay.now c.args.names.now c.in_ok-found.found)
            (c.as_slice.ensures.value ∙ c.in_ok-put_release_of.ensures
            ∙ ap (λ (t : List ℕ). t
            ++ release_text c.args.bay.now c.args.names.now c.in_ok-found.found)
            c.new-text.ensures.items)
            c.write_now.ensures;
      },
    ))

pub returns : goal.returns
returns g c = record {
  right = c.in_ok-found.ensures.right;
  is = c.in_ok-found.ensures.way;
  put = Puts-as (release_text c.args.bay.now c.args.names.now c.in_ok-found.found)
      (c.as_slice.ensures.value ∙ c.in_ok-put_release_of.ensures
      ∙ ap (λ (t : List ℕ). t ++ release_text c.args.bay.now c.args.names.now c.in_ok-found.found)
      c.new-text.ensures.items)
      c.write_now.ensures;
}
