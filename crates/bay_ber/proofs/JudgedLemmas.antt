-- What is answered is what is spelled or refused so: a lemma for each layer.
use Rattle.std.proofs.Common.{◌≡◌, Option, Some, None, Result, Ok, Err, refl, sym, ap, ◌∙◌, inl, inr}
use Rattle.bay_ber.proofs.ReadLemmas.{bind-ok, bind-err}
use Rattle.bay_ber.specs.Forms.{Form}
use Rattle.bay_ber.specs.Judged.{Verdict, or_fault, form_verdict, verdict_of, ◌>>=◌}
use Rattle.bay_ber.proofs.FormLemmas.{Exact}

-- What is spelled is answered; and of what is good, what is answered is spelled or refused so.
pub record Fair {A E : Type 0} (Good : Type 0) (v : Verdict A E) : Type 0 where
  pub read : (x : A) → v.Spells x → v.result ≡ Ok x
  pub back : Good → (x : A) → v.result ≡ Ok x → v.Spells x
  pub refused : Good → (e : E) → v.Refuses e → v.result ≡ Err e
  pub why : Good → (e : E) → v.result ≡ Err e → v.Refuses e

pub told-fair : {A E Good : Type 0} (r : Result A E) → Fair Good (verdict_of r)
told-fair r = record {
  read = λ x is. is;
  back = λ good x is. is;
  refused = λ good e is. is;
  why = λ good e is. is;
}

pub wanted-fair : {S A E Good : Type 0} {Is : S → Type 0} (fault : E) {f : Form S A} → Exact Is f
    → (s : S) → (Good → Is s) → Fair Good (form_verdict fault f s)
wanted-fair {A = A} {E = E} {Good = Good} fault {f} e s is_good = record {
  read = λ x is. ap (or_fault fault) (e.read s x is);
  back = λ good x is. spelled good x (f.reads s) refl is;
  refused = λ good d is. none good d is.0 is.1 (f.reads s) refl;
  why = λ good d is. why-none d (f.reads s) refl is;
}
  where
    spelled : Good → (x : A) (o : Option A) → f.reads s ≡ o → or_fault fault o ≡ Ok x
        → f.Spells s x
    spelled good x None n is = absurd cc
    spelled good x (Some y) n is =
        let same : y ≡ x = cc in e.back s x (is_good good) (n ∙ ap Some same)

    none : Good → (d : E) → d ≡ fault → ((x : A) → f.Spells s x → ⊥) → (o : Option A)
        → f.reads s ≡ o → or_fault fault (f.reads s) ≡ Err d
    none good d is lacks None n = rw (n, is) refl
    none good d is lacks (Some y) n = absurd (lacks y (e.back s y (is_good good) n))

    why-none : (d : E) (o : Option A) → f.reads s ≡ o → or_fault fault o ≡ Err d
        → (d ≡ fault) × ((x : A) → f.Spells s x → ⊥)
    why-none d None n is =
        let same : fault ≡ d = cc in
        (sym same, λ x spelled. let differ : None ≡ Some x = sym n ∙ e.read s x spelled in cc)
    why-none d (Some y) n is = absurd cc

pub layers-fair : {A B E Good : Type 0} {layer : Verdict A E} {next : A → Verdict B E}
    → Fair Good layer → ((x : A) → layer.Spells x → Fair Good (next x))
    → Fair Good (layer >>= next)
layers-fair {layer = layer} {next = next} d e = record {
  read = λ y is. rw (d.read is.0 is.1) ((e is.0 is.1).read y is.2);
  back = λ good y is.
      let x = bind-ok layer.result (λ z. (next z).result) y is in
      let spelled = d.back good x.0 x.1 in
      (x.0, spelled, (e x.0 spelled).back good y x.2);
  refused = λ good f is. elim is [
    | inl here ↦ rw (d.refused good f here) refl
    | inr later ↦ rw (d.read later.0 later.1) ((e later.0 later.1).refused good f later.2)
  ];
  why = λ good f is. elim (bind-err layer.result (λ z. (next z).result) f is) [
    | inl here ↦ inl (d.why good f here)
    | inr later ↦
        let spelled = d.back good later.0 later.1 in
        inr (later.0, spelled, (e later.0 spelled).why good f later.2)
  ];
}
