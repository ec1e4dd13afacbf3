-- Lemmas on the days of years and months.
use Rattle.std.proofs.Common.{◌≡◌, ℕ, zero, suc, ◌+◌, ◌-◌, ◌<◌, ◌≤◌, refl, arith}
use Rattle.std.proofs.lemmas.Bool.Decides.{nat_tests}
use Rattle.bay_io.specs.Moments.{days_in_month, days_in_year, month_from, year_from}

-- the year of a day is found where the day lies in it
pub year-stops : (n y d : ℕ) → d < days_in_year y → year_from n y d ≡ (y, d)
unfolding year_from
year-stops zero y d lt = refl
year-stops (suc n) y d lt = grind (arith, nat_tests)

-- and where no more years are looked at
pub year-ends : (n y d : ℕ) → n ≡ 0 → year_from n y d ≡ (y, d)
unfolding year_from
year-ends zero y d e = refl
year-ends (suc n) y d e = absurd (omega (arith, e))

pub year-goes : (n m y d : ℕ) → n ≡ suc m → days_in_year y ≤ d
    → year_from n y d ≡ year_from m (y + 1) (d - days_in_year y)
unfolding year_from
year-goes zero m y d e le = absurd (omega (arith, e))
year-goes (suc n) m y d e le =
    let same : n ≡ m = omega (arith, e) in
    rw same (grind (arith, nat_tests))

-- and a month likewise
pub month-stops : (n y m d : ℕ) → d < days_in_month y m → month_from n y m d ≡ (m, d)
unfolding month_from
month-stops zero y m d lt = refl
month-stops (suc n) y m d lt = grind (arith, nat_tests)

pub month-ends : (n y m d : ℕ) → n ≡ 0 → month_from n y m d ≡ (m, d)
unfolding month_from
month-ends zero y m d e = refl
month-ends (suc n) y m d e = absurd (omega (arith, e))

pub month-goes : (n k y m d : ℕ) → n ≡ suc k → days_in_month y m ≤ d
    → month_from n y m d ≡ month_from k y (m + 1) (d - days_in_month y m)
unfolding month_from
month-goes zero k y m d e le = absurd (omega (arith, e))
month-goes (suc n) k y m d e le =
    let same : n ≡ k = omega (arith, e) in
    rw same (grind (arith, nat_tests))
