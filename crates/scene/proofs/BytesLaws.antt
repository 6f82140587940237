-- Laws of the tiles' bytes, one tile after the other, and of how many tiles are written whole. Assumes nothing.
use Prim.Native.Nat.{ℕ, zero, suc, ◌*◌, ◌≤◌, ◌<◌}
use native.Mathlib.Omega.{arith}
use native.Mathlib.Nat.{eq-or-lt_of_le}
use mathlib.Core.Path.{◌≡◌, refl, ap, ◌∙◌}
use mathlib.Core.Bool.{Bool, true, false, cond}
use mathlib.Core.Logic.{⊎_elim}
use lib.ListN.{length, length-append}
use lib.Dec.{leb}
use borrow.Author.Tests.{leb-true, le-leb, lt-leb}
use Rattle.samples.specs.Level.{Maps}
use Rattle.tiles.specs.Copy.{gather}
use Rattle.tile.specs.Numbered.{numbered_width, all_bytes}
use Rattle.tile.proofs.NumberedLaws.{length-all_bytes, all_append}
use Rattle.turn.specs.Tiled.{first_tiles}
use Rattle.scene.specs.Scene.{bytes_to, whole_tiles}

-- ---- the tiles' bytes are the list's

-- The bytes of the first n tiles, tile by tile, are the bytes of what they list.
pub bytes_of_tiles : (step : ℕ) (m : Maps) (n : ℕ) → bytes_to step m n ≡ all_bytes m.set (first_tiles step m n)
unfolding bytes_to first_tiles gather all_bytes
bytes_of_tiles step m zero = refl
bytes_of_tiles step m (suc n) = rw (all_append, bytes_of_tiles step m n)

pub length-bytes_to : (step : ℕ) (m : Maps) (n : ℕ) → length (bytes_to step m n) ≡ length (first_tiles step m n) * numbered_width
length-bytes_to step m n = ap length (bytes_of_tiles step m n) ∙ length-all_bytes m.set (first_tiles step m n)

bytes_grow : (step : ℕ) (m : Maps) (n : ℕ) → length (bytes_to step m n) ≤ length (bytes_to step m (suc n))
unfolding bytes_to gather
bytes_grow step m n = rw length-append (omega arith)

pub bytes_mono : (step : ℕ) (m : Maps) (k n : ℕ) → k ≤ n → length (bytes_to step m k) ≤ length (bytes_to step m n)
bytes_mono step m k zero h = let e : k ≡ 0 = omega arith in rw e (omega arith)
bytes_mono step m k (suc n) h =
    ⊎_elim (λ e. rw e (omega arith)) (λ b. let x = bytes_mono step m k n (omega arith) in let y = bytes_grow step m n in omega arith) (eq-or-lt_of_le h)

-- ---- how many tiles are written whole

module _ (step : ℕ) (m : Maps) (room : ℕ) where
  fits_by : (n w : ℕ) (b : Bool) → leb (length (bytes_to step m (suc n))) room ≡ b → length (bytes_to step m w) ≤ room
      → length (bytes_to step m (cond b (suc n) w)) ≤ room
  fits_by n w true e h = leb-true _ _ e
  fits_by n w false e h = h

  -- what is written fits
  pub whole-fits : (n : ℕ) → length (bytes_to step m (whole_tiles step m room n)) ≤ room
  unfolding whole_tiles
  whole-fits zero = unfold bytes_to gather in omega arith
  whole-fits (suc n) = fits_by n (whole_tiles step m room n) (leb (length (bytes_to step m (suc n))) room) refl (whole-fits n)

  -- those that fit are all written
  pub whole-all : (n : ℕ) → length (bytes_to step m n) ≤ room → whole_tiles step m room n ≡ n
  unfolding whole_tiles
  whole-all zero h = refl
  whole-all (suc n) h = rw (le-leb _ _ h)

  -- where tile k does not fit, the k before it are what is written
  pub whole_before : (n k : ℕ) → k < n → length (bytes_to step m k) ≤ room → room < length (bytes_to step m (suc k)) → whole_tiles step m room n ≡ k
  unfolding whole_tiles
  whole_before zero k b f g = let z : ⊥ = omega arith in absurd z
  whole_before (suc n) k b f g =
      let more = bytes_mono step m (suc k) (suc n) (omega arith) in
      let last : k ≤ n = omega arith in
      rw (lt-leb (length (bytes_to step m (suc n))) room (omega arith))
      (⊎_elim (λ e. rw e (whole-all n (rw e at f))) (λ c. whole_before n k c f g) (eq-or-lt_of_le last))
