-- How far the tries of a write have come.
use Rattle.std.proofs.Common.{◌≡◌, ℕ, suc, ◌+◌, Bool, true, false, List, Option, None, Some, Ok, Err, refl}
use Rattle.bay_files.specs.Files.{FileWrites, WritesAtomically}
use Rattle.bay_files.specs.declared.files.FileFault.{FileFault}
use Rattle.bay_files.specs.declared.files.FileFault.TheVariants.{Failed}
use Rattle.std.specs.declared.io.ErrorKind.TheVariants as kind

module _ {F : Type 0} (writes : FileWrites F) (name octets : List ℕ) (old : F) where
  -- what is left to be tried goes on to all of it
  pub record Tried (left number : ℕ) (mid : F) : Type 0 where
    pub goes : (new : F) (fault : Option FileFault)
        → WritesAtomically writes left number name octets mid new fault
        → WritesAtomically writes 100 0 name octets old new fault

  pub Tried-start : Tried 100 0 old
  Tried-start = record { goes = λ new fault all. all }

  module _ (left more number : ℕ) (mid : F) (tried : Tried left number mid) (e : left ≡ suc more)
    where
      -- something has the name
      pub Tried-taken : (new : F) (b : Bool) → b ≡ false
          → writes mid name number octets (Ok b) new
          → Tried more (number + 1) new
      unfolding WritesAtomically
      Tried-taken new true is wrote = absurd cc
      Tried-taken new false is wrote = record {
        goes = λ last fault all. tried.goes last fault (rw e (Ok false, new, wrote, all));
      }

      -- it was written
      pub Tried-done : (new : F) (b : Bool) → b ≡ true
          → writes mid name number octets (Ok b) new
          → WritesAtomically writes 100 0 name octets old new None
      unfolding WritesAtomically
      Tried-done new true is wrote =
          tried.goes new None (rw e (Ok true, new, wrote, (refl, refl)))
      Tried-done new false is wrote = absurd cc

      -- it could not be written
      pub Tried-fails : (new : F) (fault : FileFault)
          → writes mid name number octets (Err fault) new
          → WritesAtomically writes 100 0 name octets old new (Some fault)
      unfolding WritesAtomically
      Tried-fails new fault wrote =
          tried.goes new (Some fault) (rw e (Err fault, new, wrote, (refl, refl)))

  -- all names are taken
  pub Tried-end : (left number : ℕ) (mid : F) → Tried left number mid → left ≡ 0
      → WritesAtomically writes 100 0 name octets old mid (Some (Failed kind.Other))
  unfolding WritesAtomically
  Tried-end left number mid tried e =
      tried.goes mid (Some (Failed kind.Other)) (rw e (refl, refl))
