-- The half kernels of the four levels, in the operation order of the published Rust. Definitions only.
use Rattle.std.specs.Prelude.{ℕ, zero, suc, ◌+◌, ◌-◌, ◌*◌, ◌/◌, min, cond, List, [], ◌∷◌, ◌++◌, pos, get_or, eqb, leb, Float}
use Rattle.std.specs.Float.{nan, inf, fin, binary32}
use Rattle.std.specs.Float.Ieee.{up, down, lt, neg, of_int, of_bits}
use Rattle.float.specs.Num.{◌⊕◌, ◌⊖◌, ◌⊗◌, ◌⊘◌, f0, f1, f2}
use Rattle.float.specs.Small.{max_of}
use Rattle.float.specs.Sqrt.{sqrt_of}
use Rattle.logexp.specs.Exp.{exp_of}
use Rattle.kernels.specs.declared.Kernel.{Kernel}

-- 0.5
abbrev pub f½ : Float
f½ = of_bits binary32 0x3f000000

-- 3
abbrev pub f3 : Float
f3 = of_bits binary32 0x40400000

-- the f32 0.1
abbrev pub f0_1 : Float
f0_1 = of_bits binary32 0x3dcccccd

-- f32::EPSILON, 2 ^ -23
abbrev pub epsilon : Float
epsilon = of_bits binary32 0x34000000

-- the largest radius of this build
abbrev pub widest : ℕ
widest = 16

-- a count as a float
abbrev pub float : ℕ → Float
float n = of_int binary32 (pos n)

-- x rounded up to a whole number, as a count of at most 16: 0 for NaN and all that is not above 0, 16 for the infinity
unfoldable pub ceil_of : Float → ℕ
ceil_of nan = 0
ceil_of (inf s) = cond s 0 widest
ceil_of (fin s m e) = cond s 0 (min ((m * up e + (down e - 1)) / down e) widest)

-- the radius for a sigma: 3 sigma, rounded up, at most 16
abbrev pub radius_of : Float → ℕ
radius_of sigma = ceil_of (f3 ⊗ sigma)

-- the weight at place i of the full kernel, of 2 * radius + 1 places, before the division
unfoldable pub weight_of : Float → ℕ → ℕ → Float
weight_of sigma radius i = let d = (float i ⊖ float radius) ⊘ sigma in exp_of (neg f½ ⊗ d ⊗ d)

-- the sum of the first n weights, from +0 on in the order of their places
unfoldable pub sum_of : Float → ℕ → ℕ → Float
sum_of sigma radius zero = f0
sum_of sigma radius (suc n) = sum_of sigma radius n ⊕ weight_of sigma radius n

-- the tap t off the centre; 0 past the radius
unfoldable pub tap_of : Float → ℕ → ℕ → Float
tap_of sigma radius t = cond (leb t radius) (weight_of sigma radius (radius + t) ⊘ sum_of sigma radius (2 * radius + 1)) f0

-- the first n taps
unfoldable pub taps_of : Float → ℕ → ℕ → List Float
taps_of sigma radius zero = []
taps_of sigma radius (suc n) = taps_of sigma radius n ++ (tap_of sigma radius n ∷ [])

-- one tap of 1, and 0 elsewhere
unfoldable pub single : List Float
single = f1 ∷ f0 ∷ f0 ∷ f0 ∷ f0 ∷ f0 ∷ f0 ∷ f0 ∷ f0 ∷ f0 ∷ f0 ∷ f0 ∷ f0 ∷ f0 ∷ f0 ∷ f0 ∷ f0 ∷ []

-- a radius and its taps
abbrev pub kernel_of : ℕ → List Float → Kernel
kernel_of r l = record { radius = r; taps = l }

-- the kernel of a sigma; under epsilon it is one tap of 1
unfoldable pub gaussian_of : Float → Kernel
gaussian_of sigma = cond (lt sigma epsilon) (kernel_of 0 single) (kernel_of (radius_of sigma) (taps_of sigma (radius_of sigma) 17))

-- the blur that the raw map of an octave has: 0.5 in octave 0, half the third sigma later
unfoldable pub base_of : ℕ → Float → Float
base_of octave third = cond (eqb octave 0) f½ (third ⊘ f2)

-- what is left to blur from base to target: the root of the difference of their squares, which is not below 0; not below 0.1
unfoldable pub left_of : Float → Float → Float
left_of base target = max_of (sqrt_of (max_of (target ⊗ target ⊖ base ⊗ base) f0)) f0_1

-- the kernel that takes an octave's raw map to a level of sigma target, where third is the octave's third sigma
unfoldable pub kernel_to : ℕ → Float → Float → Kernel
kernel_to octave third target = gaussian_of (left_of (base_of octave third) target)

-- those of the levels 0 to 3 of four sigmas
abbrev pub kernels_of : ℕ → List Float → ℕ → Kernel
kernels_of octave sigmas level = kernel_to octave (get_or sigmas 2 nan) (get_or sigmas level nan)
