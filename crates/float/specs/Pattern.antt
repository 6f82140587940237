-- The parts of a pattern without its sign, below the infinity's 0x7f80_0000. Definitions only.
use Rattle.std.specs.Prelude.{ℕ, ◌+◌, ◌-◌, ◌*◌, ◌/◌, ◌%◌, ◌^◌, cond, ltb}

-- the significand, its leading digit with it
abbrev pub lead_of : ℕ → ℕ
lead_of b = cond (ltb b 0x80_0000) b (0x80_0000 + b % 0x80_0000)

-- the exponent's field, a subnormal's counted as 1
abbrev pub field_of : ℕ → ℕ
field_of b = cond (ltb b 0x80_0000) 1 (b / 2 ^ 23)

-- the value, in units of 2 ^ -149
abbrev pub units_of : ℕ → ℕ
units_of b = lead_of b * 2 ^ (field_of b - 1)
