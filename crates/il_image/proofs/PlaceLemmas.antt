-- Instructions at places of the code.
use Rattle.std.proofs.Common.{◌≡◌, ℕ, ◌+◌, ◌-◌, ◌<◌, ◌≤◌, List, ◌++◌, length, take, drop, Option, Some, None, refl, sym, ap, ◌∙◌, arith}
use Rattle.std.proofs.lemmas.Option.{same_Some}
use Rattle.std.specs.Prelude.{Ok, Err, IfSome, ◌↔◌}
use Rattle.std.proofs.lemmas.List.{length-append, length-drop}
use Rattle.std.proofs.Math.Seq.{drop-append_seam, drop-drop, take-length}
use Rattle.std.proofs.Math.ListN.{drop_of_length-le}
use Rattle.il_image.specs.declared.instr.Instr.{Instr}
use Rattle.il_image.specs.declared.opcode.Version.{Version}
use Rattle.il_image.specs.declared.opcode.Version.TheVariants.{One, Two}
use Rattle.il_image.specs.Octets.{AreOctets}
use Rattle.il_image.specs.Reading.{Read, instr_from, instr_at, with_next_offset, HasInstructionAt}
use Rattle.il_image.specs.Spelling.{spelling, IsInstr}
use Rattle.il_image.proofs.ReadLemmas.{drop-octets}
use Rattle.il_image.proofs.InstrLemmas.{back-instr, instr-sound, less}
use Rattle.il_image.proofs.PieceLemmas.{spelled-first}

-- what was read at a place
pub record Placed (code : List ℕ) (offset : ℕ) (i : Instr) (next : ℕ) : Type 0 where
  pub rest : List ℕ
  pub read : instr_from Two (drop offset code) ≡ Ok (i, rest)
  pub is : next ≡ length code - length rest

placed-is : (size : ℕ) (r : Read Instr) (i : Instr) (next : ℕ)
    → with_next_offset size r ≡ Some (i, next)
    → (rest : List ℕ) × (r ≡ Ok (i, rest)) × (next ≡ size - length rest)
placed-is size (Err e) i next h = absurd cc
placed-is size (Ok r) i next h =
    let pair = same_Some (r.0, size - length r.1) (i, next) h in
    let first : r.0 ≡ i = ap (λ q. q.0) pair in
    let second : size - length r.1 ≡ next = ap (λ q. q.1) pair in
    (r.1, ap (λ (j : Instr). Ok (j, r.1)) first, sym second)

pub read-at : (code : List ℕ) (offset : ℕ) (i : Instr) (next : ℕ)
    → instr_at code offset ≡ Some (i, next) → Placed code offset i next
unfolding instr_at
read-at code offset i next e = let h =
    placed-is (length code) (instr_from Two (drop offset code)) i next e in
    record { rest = h.0; read = h.1; is = h.2 }

-- what was read of octets is spelled by their front
pub spelled-so : (version : Version) (octets : List ℕ) (i : Instr) (rest : List ℕ)
    → AreOctets octets → instr_from version octets ≡ Ok (i, rest)
    → IsInstr i × (octets ≡ spelling i ++ rest)
spelled-so version = spelled-first (instr-sound version)

-- an instruction that is read at a place is spelled there
pub stands : (code : List ℕ) (offset : ℕ) (i : Instr) (next : ℕ) → AreOctets code
    → instr_at code offset ≡ Some (i, next) → HasInstructionAt code offset i next
stands code offset i next fits e =
    let p = read-at code offset i next e in
    let s = spelled-so Two (drop offset code) i p.rest (drop-octets offset code fits) p.read in
    let parts = ap length s.1 ∙ length-append (spelling i) p.rest in
    let cut = length-drop offset code in
    let is = p.is in
    let size : next ≡ offset + length (spelling i) = omega arith in
    let rest : drop next code ≡ p.rest =
    ap (λ (n : ℕ). drop n code) size ∙ sym (drop-drop (length (spelling i)) offset code)
    ∙ ap (drop (length (spelling i))) s.1 ∙ drop-append_seam (spelling i) p.rest in
    record {
      is_instr = s.0;
      spelled = s.1 ∙ ap (λ (xs : List ℕ). spelling i ++ xs) (sym rest);
      size = size;
      within = omega arith;
    }

-- an instruction that is spelled at a place is read there
pub stood : (code : List ℕ) (offset : ℕ) (i : Instr) (next : ℕ)
    → HasInstructionAt code offset i next
    → instr_at code offset ≡ Some (i, next)
unfolding instr_at
stood code offset i next s =
    let back = back-instr i (drop next code) s.is_instr in
    let within = s.within in
    let left : length code - length (drop next code) ≡ next =
    omega (arith, length-drop next code) in
    rw (s.spelled, back, left) refl

-- past the end there is none
pub none-past-end : (code : List ℕ) (offset : ℕ) → length code ≤ offset
    → instr_at code offset ≡ None
unfolding instr_at instr_from
none-past-end code offset past = rw (drop_of_length-le code past) refl

pub goes-forward : (code : List ℕ) (offset : ℕ) (i : Instr) (next : ℕ)
    → instr_at code offset ≡ Some (i, next) → (offset < next) × (next ≤ length code)
goes-forward code offset i next e =
    let p = read-at code offset i next e in
    let fewer = less Two (drop offset code) i p.rest p.read in
    let cut = length-drop offset code in
    let is = p.is in
    (omega arith, omega arith)

-- the octets from a place on
whole : (code : List ℕ) (offset : ℕ)
    → take (length code - offset) (drop offset code) ≡ drop offset code
whole code offset =
    ap (λ (n : ℕ). take n (drop offset code)) (sym (length-drop offset code))
    ∙ take-length (drop offset code)

pub from-place : (code : List ℕ) (offset : ℕ) (found : Option (Instr × ℕ))
    → found ≡ with_next_offset (length code)
    (instr_from Two (take (length code - offset) (drop offset code)))
    → found ≡ instr_at code offset
unfolding instr_at
from-place code offset found e =
    e ∙ ap (λ (xs : List ℕ). with_next_offset (length code) (instr_from Two xs)) (whole code offset)

pub found-forward : (code : List ℕ) (offset : ℕ) (found : Option (Instr × ℕ))
    → found ≡ instr_at code offset → IfSome found (λ r. (offset < r.1) × (r.1 ≤ length code))
found-forward code offset None e = tt
found-forward code offset (Some r) e = goes-forward code offset r.0 r.1 (sym e)

pub stands-or-none : (code : List ℕ) (offset : ℕ) (i : Instr) (next : ℕ) → AreOctets code
    → (instr_at code offset ≡ Some (i, next)) ↔ HasInstructionAt code offset i next
stands-or-none code offset i next fits = (stands code offset i next fits, stood code offset i next)

-- what version 1 reads version 2 reads
pub newer-reads : (octets : List ℕ) (i : Instr) (rest : List ℕ) → AreOctets octets
    → instr_from One octets ≡ Ok (i, rest) → instr_from Two octets ≡ Ok (i, rest)
newer-reads octets i rest fits e = let s =
    spelled-so One octets i rest fits e in rw s.1 (back-instr i rest s.0)
