-- A tile's copy of a level, pixel by pixel, and as it is made, column by column. Assumes nothing but that the level has the scene's size.
use Prim.Native.Nat.{ℕ, zero, suc, ◌+◌, ◌*◌, ◌≤◌, ◌<◌}
use native.Mathlib.Numerals.{add-one}
use native.Mathlib.Omega.{arith}
use native.Mathlib.Nat.{eq-or-lt_of_le, mul-le-mul_right, mul_comm}
use mathlib.Core.Path.{◌≡◌, sym, ap, ◌∙◌}
use mathlib.Core.Logic.{⊎_elim}
use mathlib.Core.List.{List, ◌++◌}
use lib.ListN.{length, get_or, take, drop, length-append, length-take, length-drop, get_or-append}
use lib.Seq.{sets, get_or-take, get_or-drop, get_or-append-add}
use lib.Arith.{digits_lt}
use lib.Ieee.{Float, nan}
use Rattle.words.proofs.Stores.{sets-append}
use Rattle.tiles.specs.Copy.{gather, tile_level, Cut}
use Rattle.grid.specs.Grid.{pixel_at}

-- ---- columns of one height, one after the other

module _ (f : ℕ → List Float) (h : ℕ) where
  pub columns-long : (w : ℕ) → ((c : ℕ) → c < w → length (f c) ≡ h) → length (gather f w) ≡ w * h
  unfolding gather
  columns-long zero e = omega arith
  columns-long (suc w) e = rw (length-append, columns-long w (λ c k. e c (omega arith)), e w (omega arith)) (omega arith)

  column_at : (w c r : ℕ) → ((c : ℕ) → c < w → length (f c) ≡ h) → c < w → r < h → get_or (gather f w) (c * h + r) nan ≡ get_or (f c) r nan
  unfolding gather
  column_at zero c r e k q = let z : ⊥ = omega arith in absurd z
  column_at (suc w) c r e k q =
      let long = columns-long w (λ c k. e c (omega arith)) in
      let last : c ≤ w = omega arith in
      ⊎_elim
      (λ s. rw s (ap (λ (n : ℕ). get_or (gather f w ++ f w) n nan) (omega arith) ∙ get_or-append-add (gather f w) (f w) r nan))
      (λ b. get_or-append (gather f w) (f w) nan (c * h + r) (rw long (digits_lt b q)) ∙ column_at w c r (λ c k. e c (omega arith)) b q)
      (eq-or-lt_of_le last)

-- ---- a copy's pixels

module _ (l : List Float) (rows cols r0 c0 h w : ℕ) (long : length l ≡ rows * cols) (down : r0 + h ≤ rows) (right : c0 + w ≤ cols) where
  column_in : (c : ℕ) → c < w → (c0 + c) * rows + r0 + h ≤ length l
  column_in c k =
      let m : suc (c0 + c) * rows ≤ cols * rows = mul-le-mul_right rows (omega arith) in
      let e : cols * rows ≡ rows * cols = mul_comm cols rows in
      omega arith

  column_high : (c : ℕ) → c < w → length (take h (drop ((c0 + c) * rows + r0) l)) ≡ h
  column_high c k = let fits = column_in c k in simp (length-take, length-drop) (omega arith)

  pub copy_long : length (tile_level l rows r0 c0 h w) ≡ h * w
  unfolding tile_level
  copy_long = columns-long (λ c. take h (drop ((c0 + c) * rows + r0) l)) h w column_high ∙ mul_comm w h

  -- The copy's pixel (r, c) is the scene's pixel (r0 + r, c0 + c).
  pub copy_pixel : (r c : ℕ) → r < h → c < w → pixel_at (tile_level l rows r0 c0 h w) h r c ≡ pixel_at l rows (r0 + r) (c0 + c)
  unfolding tile_level pixel_at
  copy_pixel r c p q =
      column_at (λ c. take h (drop ((c0 + c) * rows + r0) l)) h w c r column_high q p
      ∙ get_or-take h (drop ((c0 + c) * rows + r0) l) r nan p
      ∙ get_or-drop ((c0 + c) * rows + r0) l r nan
      ∙ ap (λ (n : ℕ). get_or l n nan) (omega arith)

-- ---- a copy as it is made

-- a column of the tile lies in the level, and has its place
pub cut_column : {n room rows r0 c0 h w : ℕ} (c : ℕ) → Cut n room rows r0 c0 h w → c < w → ((c0 + c) * rows + r0 + h ≤ n) × (c * h + h ≤ room)
cut_column {n} {room} {rows} {r0} {c0} {h} {w} c p b =
    let x : suc (c0 + c) * rows ≤ (c0 + w) * rows = mul-le-mul_right rows (omega arith) in
    let y : suc c * h ≤ w * h = mul-le-mul_right h b in
    let t = p.tall in
    let i = p.inside in
    let f = p.fits in
    (omega arith, omega arith)

pub length-tile : (l : List Float) {room rows r0 c0 h w : ℕ} → Cut (length l) room rows r0 c0 h w → (c : ℕ) → c ≤ w → length (tile_level l rows r0 c0 h c) ≡ c * h
unfolding tile_level
length-tile l {room} {rows} {r0} {c0} {h} {w} p c k =
    columns-long (λ c. take h (drop ((c0 + c) * rows + r0) l)) h c
    (λ d b. let fits = (cut_column d p (omega arith)).0 in simp (length-take, length-drop) (omega arith))

-- one column more
pub tile-next : (l out : List Float) {room rows r0 c0 h w : ℕ} → Cut (length l) room rows r0 c0 h w → (c : ℕ) → c < w
    → sets (sets out 0 (tile_level l rows r0 c0 h c)) (c * h) (take h (drop ((c0 + c) * rows + r0) l)) ≡ sets out 0 (tile_level l rows r0 c0 h (c + 1))
unfolding tile_level gather
tile-next l out {room} {rows} {r0} {c0} {h} {w} p c k =
    let long = length-tile l p c (omega arith) in
    let e : 0 + length (tile_level l rows r0 c0 h c) ≡ c * h = omega arith in
    let two = sets-append (tile_level l rows r0 c0 h c) (take h (drop ((c0 + c) * rows + r0) l)) out 0 in
    rw (add-one, ← e) (sym two)
