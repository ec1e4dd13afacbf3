-- The first octet of a tag says its class, its form and its low five bits.
use Rattle.std.proofs.Common.{◌≡◌, ℕ, ◌+◌, ◌*◌, ◌/◌, ◌%◌, ◌<◌, ◌≤◌, Bool, true, false, cond, eqb, inl, inr, refl, ◌∙◌, ap, arith}
use Rattle.std.proofs.lemmas.Bool.{cases_lt, lt-ltb, le-ltb}
use Rattle.std.proofs.lemmas.Bool.Decides.{nat_tests}
use Rattle.bay_ber.specs.declared.tag.Class.{Class}
use Rattle.bay_ber.specs.declared.tag.Class.TheVariants.{Universal, Application, ContextSpecific, Private}
use Rattle.bay_ber.specs.Spelling.{class_bits, identifier}
use Rattle.bay_ber.specs.Reading.{class_of, is_constructed, low_bits}

class_of-universal : (first : ℕ) → first < 64 → class_of first ≡ Universal
class_of-universal first below = rw (lt-ltb first 64 below) refl

class_of-application : (first : ℕ) → 64 ≤ first → first < 128 → class_of first ≡ Application
class_of-application first from below = rw (le-ltb first 64 from, lt-ltb first 128 below) refl

class_of-context : (first : ℕ) → 128 ≤ first → first < 192 → class_of first ≡ ContextSpecific
class_of-context first from below =
    rw (le-ltb first 64 (omega arith), le-ltb first 128 from, lt-ltb first 192 below) refl

class_of-private : (first : ℕ) → 192 ≤ first → class_of first ≡ Private
class_of-private first from =
    rw (le-ltb first 64 (omega arith), le-ltb first 128 (omega arith), le-ltb first 192 from) refl

pub class_of-identifier : (class : Class) (constructed : Bool) (low : ℕ) → low < 32
    → class_of (identifier class constructed low) ≡ class
class_of-identifier Universal true low below =
    class_of-universal (identifier Universal true low) (omega arith)
class_of-identifier Universal false low below =
    class_of-universal (identifier Universal false low) (omega arith)
class_of-identifier Application true low below =
    class_of-application (identifier Application true low) (omega arith) (omega arith)
class_of-identifier Application false low below =
    class_of-application (identifier Application false low) (omega arith) (omega arith)
class_of-identifier ContextSpecific true low below =
    class_of-context (identifier ContextSpecific true low) (omega arith) (omega arith)
class_of-identifier ContextSpecific false low below =
    class_of-context (identifier ContextSpecific false low) (omega arith) (omega arith)
class_of-identifier Private true low below =
    class_of-private (identifier Private true low) (omega arith)
class_of-identifier Private false low below =
    class_of-private (identifier Private false low) (omega arith)

pub is_constructed-identifier : (class : Class) (constructed : Bool) (low : ℕ) → low < 32
    → is_constructed (identifier class constructed low) ≡ constructed
is_constructed-identifier Universal true low below = grind (arith, nat_tests)
is_constructed-identifier Universal false low below = grind (arith, nat_tests)
is_constructed-identifier Application true low below = grind (arith, nat_tests)
is_constructed-identifier Application false low below = grind (arith, nat_tests)
is_constructed-identifier ContextSpecific true low below = grind (arith, nat_tests)
is_constructed-identifier ContextSpecific false low below = grind (arith, nat_tests)
is_constructed-identifier Private true low below = grind (arith, nat_tests)
is_constructed-identifier Private false low below = grind (arith, nat_tests)

pub low_bits-identifier : (class : Class) (constructed : Bool) (low : ℕ) → low < 32
    → low_bits (identifier class constructed low) ≡ low
low_bits-identifier Universal true low below = omega arith
low_bits-identifier Universal false low below = omega arith
low_bits-identifier Application true low below = omega arith
low_bits-identifier Application false low below = omega arith
low_bits-identifier ContextSpecific true low below = omega arith
low_bits-identifier ContextSpecific false low below = omega arith
low_bits-identifier Private true low below = omega arith
low_bits-identifier Private false low below = omega arith

-- the bit of the form, and its weight
form-weight : (bit : ℕ) → bit < 2 → cond (eqb bit 1) 32 0 ≡ bit * 32
form-weight bit below = grind (arith, nat_tests)

by-class : (first bits : ℕ) → first < 256 → bits ≡ class_bits (class_of first)
    → (bits * 64 ≤ first) × (first < bits * 64 + 64)
by-class first bits below is =
    elim (cases_lt first 64) [
      | inl lt ↦ let b : bits ≡ 0 =
          is ∙ ap class_bits (class_of-universal first lt) in (omega arith, omega arith)
      | inr ge ↦ elim (cases_lt first 128) [
        | inl lt ↦ let b : bits ≡ 1 =
            is ∙ ap class_bits (class_of-application first ge lt) in (omega arith, omega arith)
        | inr ge ↦ elim (cases_lt first 192) [
          | inl lt ↦ let b : bits ≡ 2 =
              is ∙ ap class_bits (class_of-context first ge lt) in (omega arith, omega arith)
          | inr ge ↦ let b : bits ≡ 3 =
              is ∙ ap class_bits (class_of-private first ge) in (omega arith, omega arith)
        ]
      ]
    ]

-- an octet is made of these three parts
pub identifier-of : (first : ℕ) → first < 256
    → first ≡ identifier (class_of first) (is_constructed first) (low_bits first)
identifier-of first below =
    let range = by-class first (class_bits (class_of first)) below refl in
    let form = form-weight ((first / 32) % 2) (omega arith) in
    omega (arith, range.0, range.1, form)
