-- Images: what is read is spelled so; what is cut short is right so far.
use Rattle.std.proofs.lemmas.Grind.{common_steps}
use Rattle.std.proofs.Common.{◌≡◌, ℕ, suc, Bool, true, false, cond, eqb, List, [], ◌∷◌, ◌++◌, Some, None, refl, sym, subst, ap, ◌∙◌, arith, inl, inr}
use Rattle.std.specs.Prelude.{Ok, Err, Result, ◌⊎◌, slice_index}
use Rattle.std.proofs.lemmas.Bool.{eq-eqb, eqb-true}
use Rattle.bay_base.specs.Results.{◌>>=◌}
use Rattle.il_image.specs.declared.fault.ImageFault.{ImageFault}
use Rattle.il_image.specs.declared.fault.ImageFault.TheVariants.{BadMagic, Truncated}
use Rattle.il_image.specs.declared.opcode.Version.{Version}
use Rattle.il_image.specs.Cuts.{EndsInInstr, EndsInValue, HasTrailing, IsRightSoFar}
use Rattle.il_image.specs.Decoding.{octets_after_prefix, decoded_image}
use Rattle.il_image.specs.Images.{Image, IsImage, image_octets, mark, version_octet}
use Rattle.il_image.specs.Octets.{AreOctets}
use Rattle.il_image.proofs.CodeCuts.{code-lawful}
use Rattle.il_image.proofs.CutLemmas.{image_of, in-code, in-value}
use Rattle.il_image.proofs.FormatLemmas.{all-lawful, counted-lawful, point-lawful, such-lawful, such_at, timer-lawful, version-lawful}
use Rattle.il_image.proofs.PieceLemmas.{Any, Lawful, are-more, are-none, entry_at, lawful-by, lawful-made, lawful-so, lawful-then, spoilt}
use Rattle.il_image.proofs.ShortLemmas.{variable-lawful}

-- ---- the mark

no-magic : BadMagic ≡ Truncated → ⊥
no-magic e = cc

mark-lawful : {R : Type 0} {on : R → List ℕ → Result R ImageFault} {Q : R → Type 0}
    {S : List ℕ → R → Type 0} {C : List ℕ → Type 0} {f : List ℕ → Result R ImageFault}
    → (marks : List ℕ) → AreOctets marks → Lawful on Q S C f
    → Lawful on Q (λ octets r. (rest : List ℕ) × (octets ≡ marks ++ rest) × S rest r)
    (λ octets. (rest : List ℕ) × (octets ≡ marks ++ rest) × C rest)
    (λ octets. octets_after_prefix marks octets >>= f)
mark-lawful [] fits l =
    lawful-so l (λ octets r fits d. (octets, refl, d)) (λ octets c. (octets, refl, c))
mark-lawful {f = f} (m ∷ marks) fits l =
    lawful-so (lawful-by after (lawful-then _
    (such-lawful BadMagic (λ n. eqb n m) m no-magic (fits 0) (eq-eqb m m refl))
    (λ u. mark-lawful marks (λ i. fits (suc i)) l)))
    (λ octets r fits d. (
      d.later.0,
      rw (d.parts, d.first.parts, eqb-true d.what m d.first.good, d.later.1) refl,
      d.later.2,
    ))
    (λ octets c. elim c [
      | inl n ↦ absurd n
      | inr b ↦ (
        b.cut.0,
        rw (b.parts, b.first.parts, eqb-true b.what m b.first.good, b.cut.1) refl,
        b.cut.2,
      )
    ])
  where
    after : (octets : List ℕ) → (octets_after_prefix (m ∷ marks) octets >>= f)
        ≡ (such_at BadMagic (λ n. eqb n m) octets >>= (λ u. octets_after_prefix marks u.1 >>= f))
    after [] = refl
    after (x ∷ octets) = go (eqb x m)
      where
        go : (b : Bool) → (cond b (octets_after_prefix marks octets) (Err BadMagic) >>= f)
            ≡ (entry_at BadMagic (cond b (Some x) None) octets
            >>= (λ u. octets_after_prefix marks u.1 >>= f))
        go true = refl
        go false = refl

mark-octets : AreOctets mark
mark-octets =
    are-more 0x49 (0x4C ∷ 0x42 ∷ 0x43 ∷ []) (omega arith)
    (are-more 0x4C (0x42 ∷ 0x43 ∷ []) (omega arith)
    (are-more 0x42 (0x43 ∷ []) (omega arith) (are-more 0x43 [] (omega arith) are-none)))

-- ---- the image

-- Octets that were read as an image spell it, and it is what an image has to be.
pub record IsSpelled (octets : List ℕ) (i : Image) : Type 0 where
  pub version : Version
  pub spelled : octets ≡ image_octets version i
  pub good : IsImage i

still : {A B : Type 0} (h : A → B) (x : A) (more : List ℕ)
    → (spoilt x more >>= (λ y. Ok (h y))) ≡ spoilt (h x) more
still h x [] = refl
still h x (m ∷ more) = refl

pub image-lawful :
    Lawful spoilt Any IsSpelled
    (λ octets. HasTrailing octets ⊎ (EndsInValue octets ⊎ EndsInInstr octets)) decoded_image
unfolding decoded_image image_octets
image-lawful =
    lawful-so (mark-lawful mark mark-octets (lawful-then _ version-lawful
    (λ version. lawful-then _ (all-lawful (point-lawful version))
    (λ p. lawful-then _ (counted-lawful (variable-lawful version))
    (λ v. lawful-then _ (all-lawful (timer-lawful version))
    (λ t. lawful-made (image_of p v t) (λ octets. refl) (still (image_of p v t))
    (λ x. (λ q. q, λ q. q))
    (code-lawful version)))))))
    (λ octets i fits d. (
    let version = d.2 in
    let p = version.later in
    let v = p.later in
    let t = v.later in
    let c = t.later.1 in
    subst (IsSpelled octets) t.later.2 (record {
      version = version.what;
      spelled = rw (
        d.1,
        version.parts,
        version.first.parts,
        p.parts,
        p.first.parts,
        v.parts,
        v.first.parts,
        t.parts,
        t.first.parts,
        c.0,
      ) refl;
      good = record {
        points = p.first.good.1;
        variables = v.first.good.1;
        timers = t.first.good.1;
        size = c.1;
        names = p.first.good.0;
        values = v.first.good.0;
        code = c.2;
      };
    })))
    (λ octets c. elim c.2 [
      | inl n ↦ absurd n
      | inr version ↦ elim version.cut [
        | inl n ↦ absurd n
        | inr p ↦ (
            let front = c.1 ∙ rw (version.parts, version.first.parts) refl in
            elim p.cut [
              | inl d ↦ inr (inl (in-value octets version.what version.rest front p d))
              | inr v ↦ elim v.cut [
                | inl n ↦ absurd n
                | inr t ↦ elim (in-code octets version.what version.rest front p v t t.cut) [
                  | inl d ↦ inl d
                  | inr d ↦ inr (inr d)
                ]
              ]
            ])
      ]
    ])

pub right-so-far : (octets : List ℕ) → AreOctets octets → decoded_image octets ≡ Err Truncated
    → IsRightSoFar octets
right-so-far octets fits e = elim (image-lawful.short octets fits e) [
  | inl a ↦ inl (record { more = a.more; image = a.what; fits = a.fits; ends = a.is })
  | inr c ↦ inr c
]

took-image : (octets : List ℕ) (i : Image) → AreOctets octets → decoded_image octets ≡ Ok i
    → IsSpelled octets i
took-image octets i fits e = image-lawful.sound.spelled octets i fits e tt

pub spelled-image : (octets : List ℕ) (i : Image) → AreOctets octets → decoded_image octets ≡ Ok i
    → IsImage i × ((version : Version) × (octets ≡ image_octets version i))
spelled-image octets i fits e = let took =
    took-image octets i fits e in (took.good, (took.version, took.spelled))

-- ---- no second spelling

fifth : (version : Version) (i : Image)
    → slice_index (image_octets version i) 4 ≡ version_octet version
unfolding image_octets
fifth version i = refl

same-version : (a b : Version) → version_octet a ≡ version_octet b → a ≡ b
same-version a b h = grind (arith, common_steps)

pub one-of-each : (octets others : List ℕ) (i : Image) → AreOctets octets → AreOctets others
    → decoded_image octets ≡ Ok i → decoded_image others ≡ Ok i
    → slice_index octets 4 ≡ slice_index others 4
    → octets ≡ others
one-of-each octets others i fits good e f same =
    let a = took-image octets i fits e in
    let b = took-image others i good f in
    let here : slice_index octets 4 ≡ version_octet a.version =
    ap (λ (xs : List ℕ). slice_index xs 4) a.spelled ∙ fifth a.version i in
    let there : slice_index others 4 ≡ version_octet b.version =
    ap (λ (xs : List ℕ). slice_index xs 4) b.spelled ∙ fifth b.version i in
    let version = same-version a.version b.version (sym here ∙ same ∙ there) in
    a.spelled ∙ ap (λ (v : Version). image_octets v i) version ∙ sym b.spelled
