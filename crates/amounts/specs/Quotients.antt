-- Quotients, rounded to the nearest and with their remainder.
use Rattle.std.specs.Prelude.{ℕ, ◌+◌, ◌/◌, ◌%◌}
use Rattle.amounts.specs.declared.Divided.{Divided}

-- C4 and C10, Close: the quotient n / d, rounded to the nearest whole number; an exact half goes up
unfoldable pub rounded : ℕ → ℕ → ℕ
rounded n d = (n + d / 2) / d

-- M5 and M6, Month: the quotient n / d, rounded down, and the remainder
abbrev pub divided : ℕ → ℕ → Divided
divided n d = record { quotient = n / d; remainder = n % d }
