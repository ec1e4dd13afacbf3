-- The key in a text, and the result of reading a key file.
use Rattle.std.specs.Prelude.{◌≡◌, ℕ, ◌==◌, nat_le, Bool, true, false, ◌&&◌, ◌||◌, List, [], ◌∷◌, length, take, drop, Option, None, Some, Result, Ok, Err, if◌then◌else◌}
use Rattle.std.specs.Char.{is_ascii_hexdigit}
use Rattle.std.specs.List.{prefix_len}
use Rattle.std.specs.Str.{bytes_eq}
use Rattle.bay_files.specs.Files.{ProtectedReads}
use Rattle.bay_files.specs.declared.key.KeyFault.{KeyFault}
use Rattle.bay_files.specs.declared.key.KeyFileFault.{KeyFileFault}
use Rattle.bay_files.specs.declared.key.KeyFault.TheVariants.{Unread, Exposed, Malformed}

-- nothing, or one line end: LF, or CR LF
unfoldable pub is_key_end : List ℕ → Bool
is_key_end text = length text == 0 || (bytes_eq text (10 ∷ []) || bytes_eq text (13 ∷ 10 ∷ []))

-- The key in a text: the hexadecimal digits that it begins with, 32 to 64 of them, if nothing or
-- one line end follows.
abbrev pub key_in : List ℕ → Option (List ℕ)
key_in text =
    let digits = prefix_len is_ascii_hexdigit text in
    if (nat_le 32 digits && nat_le digits 64) && is_key_end (drop digits text)
    then Some (take digits text) else None

-- A key file was read: its key; or that it could not be read, that its mode permits some access to
-- its group or others, or that it holds no key.
abbrev pub ReadsKey : {F : Type 0} → ProtectedReads F → F → List ℕ → Result (List ℕ) KeyFault
    → Type 0
ReadsKey guards files name (Ok key) =
    (text : List ℕ) × guards files name (Ok (text, true)) × (key_in text ≡ Some key)
ReadsKey guards files name (Err (Unread fault)) = guards files name (Err fault)
ReadsKey guards files name (Err Exposed) =
    (text : List ℕ) × guards files name (Ok (text, false))
ReadsKey guards files name (Err Malformed) =
    (text : List ℕ) × guards files name (Ok (text, true)) × (key_in text ≡ None)

-- the name of a key file without a valid key, and why
pub record KeyFaultData : Type 0 where
  pub name : List ℕ
  pub fault : KeyFault

-- the view of the code's value
abbrev pub key_fault_view : KeyFileFault → KeyFaultData
key_fault_view keyless = record { name = keyless.name.now; fault = keyless.fault }

-- a key file was read if it was named; without a name there is no key
abbrev pub ReadsKeyIfNamed : {F : Type 0} → ProtectedReads F → F → Option (List ℕ)
    → Result (Option (List ℕ)) KeyFaultData → Type 0
ReadsKeyIfNamed guards files None read = read ≡ Ok None
ReadsKeyIfNamed guards files (Some name) (Ok None) = ⊥
ReadsKeyIfNamed guards files (Some name) (Ok (Some key)) = ReadsKey guards files name (Ok key)
ReadsKeyIfNamed guards files (Some name) (Err keyless) =
    (keyless.name ≡ name) × ReadsKey guards files name (Err keyless.fault)
