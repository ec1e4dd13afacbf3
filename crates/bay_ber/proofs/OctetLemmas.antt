-- Numbers of octets.
use Rattle.std.proofs.Common.{◌≡◌, ℕ, zero, suc, ◌+◌, ◌*◌, ◌^◌, ◌≤◌, refl, arith}
use Rattle.std.proofs.Math.Nat.{pow-le-pow_right, pow-suc}
use Rattle.std.proofs.lemmas.Nat.{pow-add}

-- the number of values of i octets, of at most k
pub pow-within : (i k : ℕ) → i ≤ k → 256 ^ i ≤ 256 ^ k
pow-within i k within = pow-le-pow_right {n = 256} (omega arith) within

-- 8 bits an octet
pub pow-octets : (k : ℕ) → 2 ^ (8 * k) ≡ 256 ^ k
pow-octets zero = refl
pow-octets (suc k) =
    let more : 8 * suc k ≡ 8 * k + 8 = omega arith in
    rw (more, pow-add 2 (8 * k) 8, pow-octets k, pow-suc 256 k) refl
