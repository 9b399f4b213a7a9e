-- How many digits a number has: four more than its ten-thousandth, and up to four by what it is below.
use Rattle.std.specs.Prelude.{ℕ, ◌+◌, ◌/◌, ◌≤◌, ◌<◌, ◌≡◌, length}
use Rattle.std.proofs.Common.{arith, ap}
use Rattle.text.specs.Text.{decimal}
use Rattle.text.specs.DecimalLaws.{decimal_one, decimal_longer}

pub four_more : (n : ℕ) → 10000 ≤ n → 4 + length (decimal (n / 10000)) ≡ length (decimal n)
four_more n h =
    let third : n / 10 / 10 / 10 / 10 ≡ n / 10000 = omega arith in
    let last = decimal_longer (n / 10 / 10 / 10) (omega arith) in
    rw (← third) (omega (arith, decimal_longer n (omega arith), decimal_longer (n / 10) (omega arith), decimal_longer (n / 10 / 10) (omega arith)))

pub one_digit : (n : ℕ) → n < 10 → length (decimal n) ≡ 1
one_digit n h = omega (arith, ap length (decimal_one n h))

pub two_digits : (n : ℕ) → 10 ≤ n → n < 100 → length (decimal n) ≡ 2
two_digits n h k = omega (arith, decimal_longer n h, one_digit (n / 10) (omega arith))

pub three_digits : (n : ℕ) → 100 ≤ n → n < 1000 → length (decimal n) ≡ 3
three_digits n h k = omega (arith, decimal_longer n (omega arith), two_digits (n / 10) (omega arith) (omega arith))

pub four_digits : (n : ℕ) → 1000 ≤ n → n < 10000 → length (decimal n) ≡ 4
four_digits n h k = omega (arith, decimal_longer n (omega arith), three_digits (n / 10) (omega arith) (omega arith))
