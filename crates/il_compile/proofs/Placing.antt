-- Instructions in the middle of code.
use Rattle.std.proofs.Common.{◌≡◌, ℕ, ◌+◌, ◌-◌, ◌<◌, ◌≤◌, List, [], ◌∷◌, ◌++◌, length, drop, Some, refl, sym, ap, ◌∙◌, arith, append_assoc, length-append, length-drop}
use Rattle.std.proofs.Math.Seq.{drop-append_seam}
use Rattle.std.proofs.lemmas.List.{drop-drop}
use Rattle.il_image.specs.Images.{Each, all_spelled}
use Rattle.il_image.specs.Reading.{instr_at}
use Rattle.il_image.specs.Spelling.{IsInstr, spelling}
use Rattle.il_image.specs.declared.instr.Instr.{Instr}
use Rattle.il_image.proofs.PlaceLemmas.{stood}
use Rattle.il_compile.specs.Code.{octets}

pub spelled-both : (a b : List Instr) → all_spelled (a ++ b) ≡ all_spelled a ++ all_spelled b
spelled-both [] b = refl
spelled-both (i ∷ a) b =
    ap (λ l. spelling i ++ l) (spelled-both a b)
    ∙ sym (append_assoc (spelling i) (all_spelled a) (all_spelled b))

pub octets-both : (a b : List Instr) → octets (a ++ b) ≡ octets a + octets b
octets-both a b = ap length (spelled-both a b) ∙ length-append (all_spelled a) (all_spelled b)

pub octets_more : (i : Instr) (is : List Instr) → octets (i ∷ is) ≡ length (spelling i) + octets is
octets_more i is = length-append (spelling i) (all_spelled is)

-- an instruction has an octet
pub some-octet : (i : Instr) → 0 < length (spelling i)
some-octet i = omega arith

pub each-front : {A : Type 0} (P : A → Type 0) (a b : List A) → Each P (a ++ b) → Each P a
each-front P [] b h = tt
each-front P (x ∷ a) b h = (h.0, each-front P a b h.1)

pub each-back : {A : Type 0} (P : A → Type 0) (a b : List A) → Each P (a ++ b) → Each P b
each-back P [] b h = h
each-back P (x ∷ a) b h = each-back P a b h.1

-- Instructions stand in code from this place on.
pub record Stands (code : List ℕ) (p : ℕ) (part : List Instr) : Type 0 where
  pub rest : List ℕ
  pub is : drop p code ≡ all_spelled part ++ rest
  pub are : Each IsInstr part

module _ (code : List ℕ) where
  pub front : (p : ℕ) (a b : List Instr) → Stands code p (a ++ b) → Stands code p a
  front p a b h = record {
    rest = all_spelled b ++ h.rest;
    is = h.is ∙ ap (λ l. l ++ h.rest) (spelled-both a b)
        ∙ append_assoc (all_spelled a) (all_spelled b) h.rest;
    are = each-front IsInstr a b h.are;
  }

  pub back : (p : ℕ) (a b : List Instr) → Stands code p (a ++ b) → Stands code (p + octets a) b
  back p a b h = record {
    rest = h.rest;
    is = sym (drop-drop (octets a) p code)
        ∙ ap (drop (octets a)) (h.is ∙ ap (λ l. l ++ h.rest) (spelled-both a b)
        ∙ append_assoc (all_spelled a) (all_spelled b) h.rest)
        ∙ drop-append_seam (all_spelled a) (all_spelled b ++ h.rest);
    are = each-back IsInstr a b h.are;
  }

  -- the instruction at a place, and the place behind it
  pub found : (p : ℕ) (i : Instr) (is : List Instr) → Stands code p (i ∷ is)
      → instr_at code p ≡ Some (i, p + length (spelling i))
  found p i is h =
      let whole : drop p code ≡ spelling i ++ (all_spelled is ++ h.rest) =
      h.is ∙ append_assoc (spelling i) (all_spelled is) h.rest in
      let behind : drop (p + length (spelling i)) code ≡ all_spelled is ++ h.rest =
      sym (drop-drop (length (spelling i)) p code) ∙ ap (drop (length (spelling i))) whole
      ∙ drop-append_seam (spelling i) (all_spelled is ++ h.rest) in
      let size : length code - p ≡ length (spelling i) + length (all_spelled is ++ h.rest) =
      sym (length-drop p code) ∙ ap length whole
      ∙ length-append (spelling i) (all_spelled is ++ h.rest) in
      stood code p i (p + length (spelling i))
      (record {
        is_instr = h.are.0;
        spelled = whole ∙ ap (λ l. spelling i ++ l) (sym behind);
        size = refl;
        within = (let some = some-octet i in omega arith);
      })

  -- what stands in code ends within it
  pub within : (p : ℕ) (i : Instr) (is : List Instr) → Stands code p (i ∷ is)
      → p + octets (i ∷ is) ≤ length code
  within p i is h =
      let size : length code - p ≡ octets (i ∷ is) + length h.rest =
      sym (length-drop p code) ∙ ap length h.is ∙ length-append (all_spelled (i ∷ is)) h.rest in
      let some = some-octet i in
      omega (arith, octets_more i is)
