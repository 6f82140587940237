-- The operations of f32 and the constants that the code writes, by their bit patterns. Definitions only.
use Rattle.std.specs.Prelude.{Float}
use Rattle.std.specs.Float.{binary32}
use Rattle.std.specs.Float.Ieee.{add, sub, mul, div, of_bits}

infixl 50 ◌⊕◌ ◌⊖◌
infixl 60 ◌⊗◌ ◌⊘◌
-- the sum, rounded once
abbrev pub ◌⊕◌ : Float → Float → Float
x ⊕ y = add binary32 x y

-- the difference, rounded once
abbrev pub ◌⊖◌ : Float → Float → Float
x ⊖ y = sub binary32 x y

-- the product, rounded once
abbrev pub ◌⊗◌ : Float → Float → Float
x ⊗ y = mul binary32 x y

-- the quotient, rounded once
abbrev pub ◌⊘◌ : Float → Float → Float
x ⊘ y = div binary32 x y

-- +0
abbrev pub f0 : Float
f0 = of_bits binary32 0x0

-- 1
abbrev pub f1 : Float
f1 = of_bits binary32 0x3f800000

-- 2
abbrev pub f2 : Float
f2 = of_bits binary32 0x40000000

-- 4
abbrev pub f4 : Float
f4 = of_bits binary32 0x40800000

-- 6
abbrev pub f6 : Float
f6 = of_bits binary32 0x40c00000

-- the f32 1e-6
abbrev pub f1e_6 : Float
f1e_6 = of_bits binary32 0x358637bd

-- the f32 1e-10
abbrev pub f1e_10 : Float
f1e_10 = of_bits binary32 0x2edbe6ff

-- the f32 0.6
abbrev pub f0_6 : Float
f0_6 = of_bits binary32 0x3f19999a

-- the f32 root of 2
abbrev pub sqrt2 : Float
sqrt2 = of_bits binary32 0x3fb504f3

-- 0.25
abbrev pub f¼ : Float
f¼ = of_bits binary32 0x3e800000
