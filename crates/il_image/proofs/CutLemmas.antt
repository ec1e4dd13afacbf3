-- What octets are that are cut short.
use Rattle.std.proofs.Common.{◌≡◌, ℕ, ◌≤◌, List, [], ◌∷◌, ◌++◌, length, None, refl, ap, arith, inl, inr}
use Rattle.std.specs.Prelude.{Ok, ◌⊎◌}
use Rattle.std.proofs.lemmas.Bool.{eq-eqb}
use Rattle.std.proofs.lemmas.List.{append_assoc}
use Rattle.bay_base.specs.declared.types.TimerKind.{TimerKind}
use Rattle.il_image.specs.declared.image.ImagePoint.{ImagePoint}
use Rattle.il_image.specs.declared.opcode.Version.{Version}
use Rattle.il_image.specs.declared.opcode.Version.TheVariants.{One, Two}
use Rattle.il_image.specs.declared.value.Value.{Value}
use Rattle.il_image.specs.Cuts.{EndsInInstr, EndsInValue, HasTrailing, IsImageOf}
use Rattle.il_image.specs.Decoding.{code_at, code_fault, counted_at, decoded_image, point_at, timer_at, variable_at}
use Rattle.il_image.specs.Images.{HasName, Image, IsValue, count_and_items, image_octets, mark, point_octets, timer_octets, variable_octets, version_octet}
use Rattle.il_image.specs.Octets.{number_octets, most_counted}
use Rattle.il_image.specs.Reading.{Read}
use Rattle.il_image.proofs.CodeCuts.{CodeCut, take-all}
use Rattle.il_image.proofs.FormatLemmas.{Counted, InCounted}
use Rattle.il_image.proofs.PieceLemmas.{Any, Behind, Never, behind-reads}
use Rattle.il_image.proofs.ReadLemmas.{back-number}
use Rattle.il_image.proofs.ShortLemmas.{NoValue}

-- ---- images that are read back

abbrev pub image_of : List ImagePoint → List Value → List TimerKind → List ℕ → Image
image_of points variables timers code =
    record { points = points; variables = variables; timers = timers; code = code }

-- Items are read of their spelling, whatever follows it.
abbrev ReadsAll : {A : Type 0} → (A → List ℕ) → (List ℕ → Read A) → List A → Type 0
ReadsAll {A} spell item xs =
    (more : List ℕ) → counted_at item (count_and_items spell xs ++ more) ≡ Ok (xs, more)

reads-none : {A : Type 0} (spell : A → List ℕ) (item : List ℕ → Read A) → ReadsAll spell item []
reads-none spell item more = rw (back-number 0 more (omega arith)) refl

reads-code : (version : Version) (code : List ℕ) → length code ≤ most_counted
    → code_fault version (length code) code ≡ None
    → code_at version (number_octets (length code) ++ code) ≡ Ok code
unfolding code_at
reads-code version code small whole =
    rw (
      back-number (length code) code (omega arith),
      take-all (length code) code (omega arith),
      whole,
      eq-eqb (length code) (length code) refl,
    ) refl

reads-image : (version : Version) (p : List ImagePoint) (v : List Value) (t : List TimerKind)
    (code : List ℕ) → ReadsAll point_octets (point_at version) p
    → ReadsAll (variable_octets version) (variable_at version) v
    → ReadsAll (timer_octets version) (timer_at version) t
    → code_at version (number_octets (length code) ++ code) ≡ Ok code
    → IsImageOf version (image_of p v t code)
unfolding decoded_image image_octets
reads-image One p v t code a b d f =
    let rest3 = number_octets (length code) ++ code in
    let rest2 = count_and_items (timer_octets One) t ++ rest3 in
    let rest1 = count_and_items (variable_octets One) v ++ rest2 in
    rw (a rest1, b rest2, d rest3, f) refl
reads-image Two p v t code a b d f =
    let rest3 = number_octets (length code) ++ code in
    let rest2 = count_and_items (timer_octets Two) t ++ rest3 in
    let rest1 = count_and_items (variable_octets Two) v ++ rest2 in
    rw (a rest1, b rest2, d rest3, f) refl

-- parts one behind the other, and others behind the last
others-behind : (a b d f g others : List ℕ)
    → a ++ (b ++ (d ++ (f ++ (g ++ others)))) ≡ (a ++ (b ++ (d ++ (f ++ g)))) ++ others
others-behind a b d f g others =
    rw (
      append_assoc a (b ++ (d ++ (f ++ g))) others,
      append_assoc b (d ++ (f ++ g)) others,
      append_assoc d (f ++ g) others,
      append_assoc f g others,
    ) refl

-- ---- where an image may stop

abbrev pub TimersCut : Version → List ℕ → Type 0
TimersCut version =
    Behind (Counted (timer_octets version) Any) (counted_at (timer_at version))
    (λ t. CodeCut version)

abbrev pub VariablesCut : Version → List ℕ → Type 0
VariablesCut version =
    Behind (Counted (variable_octets version) IsValue) (counted_at (variable_at version))
    (λ v octets. Never octets ⊎ TimersCut version octets)

abbrev pub PointsCut : Version → List ℕ → Type 0
PointsCut version =
    Behind (Counted point_octets HasName) (counted_at (point_at version))
    (λ p octets. InCounted (variable_octets version) (variable_at version) (NoValue version) octets
    ⊎ VariablesCut version octets)

module _ (octets : List ℕ) (version : Version) (rest : List ℕ)
    (front : octets ≡ mark ++ (version_octet version ∷ rest)) (p : PointsCut version rest) where
  pub in-value : InCounted (variable_octets version) (variable_at version) (NoValue version) p.rest
      → EndsInValue octets
  in-value c = record {
    version = version;
    image = image_of p.what c.xs [] [];
    count = c.n;
    part = c.cut;
    reads = reads-image version p.what c.xs [] [] (behind-reads p) c.reads
        (reads-none (timer_octets version) (timer_at version))
        (reads-code version [] (omega arith) refl);
    few = c.few;
    small = c.small;
    begins = c.is.begins;
    none = c.is.none;
    parts = rw (front, p.parts, p.first.parts, c.parts) refl;
  }

  module _ (v : VariablesCut version p.rest) (t : TimersCut version v.rest) where
    good-image : (code : List ℕ) → length code ≤ most_counted
        → code_fault version (length code) code ≡ None
        → IsImageOf version (image_of p.what v.what t.what code)
    good-image code small whole =
        reads-image version p.what v.what t.what code (behind-reads p) (behind-reads v)
        (behind-reads t) (reads-code version code small whole)

    pub in-code : CodeCut version t.rest → HasTrailing octets ⊎ EndsInInstr octets
    unfolding image_octets
    in-code c =
        let few = c.first.good in
        elim c.cut [
          | inl d ↦ inl (
              let size = d.len in
              record {
                front = image_octets version (image_of p.what v.what t.what d.code);
                others = d.others;
                image = image_of p.what v.what t.what d.code;
                reads = good-image d.code (omega arith) d.whole;
                some = d.some;
                parts = rw (
                  front,
                  p.parts,
                  p.first.parts,
                  v.parts,
                  v.first.parts,
                  t.parts,
                  t.first.parts,
                  c.parts,
                  c.first.parts,
                  d.parts,
                  d.len,
                ) (ap (λ (ys : List ℕ). mark ++ (version_octet version ∷ ys))
                    (others-behind (count_and_items point_octets p.what)
                    (count_and_items (variable_octets version) v.what)
                    (count_and_items (timer_octets version) t.what) (number_octets c.what) d.code
                    d.others));
              })
          | inr d ↦ inr (
              let size = d.few in
              record {
                version = version;
                image = image_of p.what v.what t.what d.done;
                size = c.what;
                part = d.part;
                reads = good-image d.done (omega arith) d.whole;
                few = d.few;
                small = omega arith;
                begins = d.begins;
                none = d.none;
                parts = rw (
                  front,
                  p.parts,
                  p.first.parts,
                  v.parts,
                  v.first.parts,
                  t.parts,
                  t.first.parts,
                  c.parts,
                  c.first.parts,
                  d.parts,
                ) refl;
              })
        ]
