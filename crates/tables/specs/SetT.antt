-- Set T, the set of the worked cases. Definitions only.
use Rattle.std.specs.Prelude.{ℕ, List, [], ◌∷◌, ◌++◌, replicate, set, Float}
use Rattle.std.specs.Float.{binary32}
use Rattle.std.specs.Float.Ieee.{of_bits}
use Rattle.float.specs.Num.{f0, f1, f¼}
use Rattle.tables.specs.declared.Set.{Set}

-- the values with these bit patterns
unfoldable pub values : List ℕ → List Float
values [] = []
values (b ∷ bs) = of_bits binary32 b ∷ values bs

-- sigmas 1, 2, 3, 4
unfoldable pub sigmas_t : List Float
sigmas_t = values (0x3f800000 ∷ 0x40000000 ∷ 0x40400000 ∷ 0x40800000 ∷ [])

-- a cubic: a (0,0,0), b (1,0,0), c (0,1,0), d (0,0,1)
unfoldable pub cubic_t : List Float
cubic_t = (f0 ∷ f0 ∷ f0 ∷ []) ++ (f1 ∷ f0 ∷ f0 ∷ []) ++ (f0 ∷ f1 ∷ f0 ∷ []) ++ (f0 ∷ f0 ∷ f1 ∷ [])

-- a spatial row of nine: v times sample i, samples counted from 0
unfoldable pub row : ℕ → Float → List Float
row i v = set (replicate 9 f0) i v

-- a spatial block: zero but w1 = sample 3, w2 = sample 5, w4 = 0.25 of sample 4
unfoldable pub block_t : List Float
block_t = row 3 f1 ++ row 5 f1 ++ replicate 9 f0 ++ row 4 f¼ ++ replicate 9 f0

-- geometry 1, 0.5, -4, 4, 0.5, 16, 0.5, 1, 0.125, 0.5, 1
unfoldable pub numbers_t : List Float
numbers_t = values (0x3f800000 ∷ 0x3f000000 ∷ 0xc0800000 ∷ 0x40800000 ∷ 0x3f000000 ∷ 0x41800000 ∷ 0x3f000000 ∷ 0x3f800000 ∷ 0x3e000000 ∷ 0x3f000000 ∷ 0x3f800000 ∷ [])

-- set T: both cubics alike, both spatial blocks alike, order 0 to 8
unfoldable pub set_t : Set
set_t = record {
  sigmas = sigmas_t;
  scale = cubic_t;
  geometry = cubic_t;
  spatial = block_t ++ block_t;
  numbers = numbers_t;
  order = 0 ∷ 1 ∷ 2 ∷ 3 ∷ 4 ∷ 5 ∷ 6 ∷ 7 ∷ 8 ∷ [];
}
