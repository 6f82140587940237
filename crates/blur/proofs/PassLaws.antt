-- Laws of the two passes by lines. Assumes nothing.
use Prim.Native.Nat.{ℕ, suc, ◌+◌, ◌-◌, ◌*◌, ◌≤◌, ◌<◌, min}
use native.Mathlib.Nat.{suc-mul, mul_comm, mul-le-mul_right, eq-zero-or-pos}
use native.Mathlib.Numerals.{add-one}
use native.Mathlib.Omega.{arith}
use mathlib.Core.Path.{◌≡◌, refl, sym, ap, ◌∙◌}
use mathlib.Core.Logic.{⊎_elim}
use mathlib.Core.List.{List}
use lib.ListN.{length, get_or}
use lib.Ieee.{Float, nan}
use Rattle.grid.specs.Grid.{pixel_at, list_of, Stored}
use Rattle.grid.proofs.GridLaws.{length_list, list_same, area}
use Rattle.grid.proofs.StoredLaws.{stored-length, stored-float, stored_again}
use Rattle.kernels.specs.declared.Kernel.{Kernel}
use Rattle.blur.specs.Blur.{pass_to, across_at, level_at}
use Rattle.lines.specs.Lines.{from, weighed, more, line_at, Padded, Padding}
use Rattle.lines.proofs.LineLaws.{at_place}
use Rattle.blur.specs.Passes.{columns, along_to, Holds, Map}
use Rattle.blur.proofs.Pass.{pass_same}

-- ---- what is stored

-- a line, after n floats are stored from its place 16 on
pub line-holds : {l l' : List Float} {n : ℕ} (f g : ℕ → Float) → length l ≡ 4128 → n ≤ 4096 → Stored l l' 16 (list_of f n) → ((i : ℕ) → i < n → f i ≡ g i) → Holds l' n g
line-holds f g long most p same = record {
  long = stored-length p ∙ long;
  float = λ i less. stored-float f p (omega (arith, long)) i less ∙ same i less;
}

-- what is stored is also what g gives, where both agree
pub stored_same : {out out' : List Float} {at n : ℕ} (f g : ℕ → Float) → Stored out out' at (list_of f n) → ((i : ℕ) → i < n → f i ≡ g i) → Stored out out' at (list_of g n)
stored_same {n = n} f g p same = rw (← list_same f g n same) p

-- n floats stored over n floats
pub stored_over : {a b c : List Float} {at : ℕ} (n : ℕ) (f g : ℕ → Float) → Stored a b at (list_of f n) → Stored b c at (list_of g n) → at + n ≤ length a → Stored a c at (list_of g n)
stored_over n f g p q room = stored_again p q (length_list f n ∙ sym (length_list g n)) (omega (arith, length_list g n))

-- ---- the first pass, by lines

-- a column inside a map
pub column_inside : {n rows cols col : ℕ} → Map n rows cols col → (c : ℕ) → c < cols → c * rows + rows ≤ n
column_inside {n} {rows} {cols} m c h = omega (arith, mul-le-mul_right {m = suc c} {n = cols} rows h, suc-mul c rows, mul_comm rows cols, m.long)

-- so are those that many columns off, the edge repeated
pub lower-inside : {n rows cols col : ℕ} → Map n rows cols col → (t : ℕ) {x : ℕ} → x ≡ col - t → x * rows + rows ≤ n
lower-inside m t {x} e = column_inside m x (omega (arith, e, m.inside))

pub upper_inside : {n rows cols col : ℕ} → Map n rows cols col → (t : ℕ) {x : ℕ} → x ≡ min (col + t) (cols - 1) → x * rows + rows ≤ n
upper_inside m t {x} e = column_inside m x (omega (arith, e, m.inside))

pub map-most : {n rows cols col : ℕ} → Map n rows cols col → n ≤ 16777216
map-most m = omega (arith, area m.rows-most m.cols-most, m.long)

-- its place in the map
pub column_place : {x y : ℕ} (rows : ℕ) → x ≡ y → x * rows ≡ y * rows
column_place rows e = ap (λ (k : ℕ). k * rows) e

module _ (raw : List Float) (rows cols : ℕ) (taps : List Float) (col : ℕ) where
  pub across-first : (r : ℕ) → weighed raw (col * rows) (get_or taps 0 nan) r ≡ columns raw rows cols taps col 0 r
  unfolding weighed pass_to pixel_at
  across-first r = refl

  -- one tap more
  pub across-more : (f : ℕ → Float) (n lo hi r : ℕ) → f r ≡ columns raw rows cols taps col n r → lo ≡ (col - (n + 1)) * rows → hi ≡ min (col + (n + 1)) (cols - 1) * rows
      → more f raw lo hi (get_or taps (n + 1) nan) r ≡ columns raw rows cols taps col (n + 1) r
  unfolding more pass_to pixel_at
  across-more f n lo hi r e el eh = rw (el, eh, add-one, e)

  -- two taps more
  pub across_two : (f : ℕ → Float) (n lo hi lo' hi' r : ℕ) → f r ≡ columns raw rows cols taps col n r
      → lo ≡ (col - (n + 1)) * rows → hi ≡ min (col + (n + 1)) (cols - 1) * rows → lo' ≡ (col - (n + 2)) * rows → hi' ≡ min (col + (n + 2)) (cols - 1) * rows
      → more (more f raw lo hi (get_or taps (n + 1) nan)) raw lo' hi' (get_or taps (n + 2) nan) r ≡ columns raw rows cols taps col (n + 2) r
  across_two f n lo hi lo' hi' r e el eh el' eh' =
      let two : n + 2 ≡ n + 1 + 1 = omega arith in
      rw two (across-more _ (n + 1) lo' hi' r (across-more f n lo hi r e el eh) (rw two at el') (rw two at eh'))

-- ---- the second pass, along a line

module _ (line : List Float) (rows : ℕ) (taps : List Float) (p : Padded line rows) where
  pub along_first : (r : ℕ) → weighed line 16 (get_or taps 0 nan) r ≡ along_to line rows taps 0 r
  unfolding weighed pass_to
  along_first r = refl

  before-is : (t r : ℕ) → t ≤ 16 → r < rows → from line (16 - t) r ≡ line_at line (r - t)
  before-is t r most less =
      ⊎_elim
      (λ z. at_place line (16 - t + r) (16 + (r - t)) (omega arith))
      (λ k. p.before (16 - t + r) (omega arith) ∙ at_place line (16 + 0) (16 + (r - t)) (omega arith))
      (eq-zero-or-pos (t - r))

  behind-is : (t r : ℕ) → t ≤ 16 → r < rows → from line (16 + t) r ≡ line_at line (min (r + t) (rows - 1))
  behind-is t r most less =
      ⊎_elim
      (λ z. at_place line (16 + t + r) (16 + min (r + t) (rows - 1)) (omega arith))
      (λ k. at_place line (16 + t + r) (16 + (rows + (r + t - rows))) (omega arith)
      ∙ p.behind (r + t - rows) (omega arith)
      ∙ at_place line (16 + (rows - 1)) (16 + min (r + t) (rows - 1)) (omega arith))
      (eq-zero-or-pos (r + t - (rows - 1)))

  -- one tap more
  pub along_more : (f : ℕ → Float) (n lo hi r : ℕ) → n + 1 ≤ 16 → r < rows → f r ≡ along_to line rows taps n r → lo ≡ 16 - (n + 1) → hi ≡ 16 + (n + 1)
      → more f line lo hi (get_or taps (n + 1) nan) r ≡ along_to line rows taps (n + 1) r
  unfolding more pass_to
  along_more f n lo hi r most less e el eh =
      let low = before-is (n + 1) r most less in
      let high = behind-is (n + 1) r most less in
      rw (el, eh, low, high, add-one, e)

  -- two taps more
  pub along_two : (f : ℕ → Float) (n lo hi lo' hi' r : ℕ) → n + 2 ≤ 16 → r < rows → f r ≡ along_to line rows taps n r → lo ≡ 16 - (n + 1) → hi ≡ 16 + (n + 1) → lo' ≡ 16 - (n + 2) → hi' ≡ 16 + (n + 2)
      → more (more f line lo hi (get_or taps (n + 1) nan)) line lo' hi' (get_or taps (n + 2) nan) r ≡ along_to line rows taps (n + 2) r
  along_two f n lo hi lo' hi' r most less e el eh el' eh' =
      let two : n + 2 ≡ n + 1 + 1 = omega arith in
      rw two (along_more _ (n + 1) lo' hi' r (omega arith) less (along_more f n lo hi r (omega arith) less e el eh) (omega arith) (omega arith))

  -- four taps more
  pub along_four : (f : ℕ → Float) (n lo hi r : ℕ) → n + 4 ≤ 16 → r < rows → f r ≡ along_to line rows taps n r → lo ≡ 16 - (n + 1) → hi ≡ 16 + (n + 1)
      → more (more (more (more f line lo hi (get_or taps (n + 1) nan)) line (lo - 1) (hi + 1) (get_or taps (n + 2) nan)) line (lo - 2) (hi + 2) (get_or taps (n + 3) nan)) line (lo - 3) (hi + 3) (get_or taps (n + 4) nan) r
      ≡ along_to line rows taps (n + 4) r
  along_four f n lo hi r most less e el eh =
      let three : n + 3 ≡ n + 2 + 1 = omega arith in
      let four : n + 4 ≡ n + 2 + 2 = omega arith in
      let two = along_two f n lo hi (lo - 1) (hi + 1) r (omega arith) less e el eh (omega arith) (omega arith) in
      rw (three, four) (along_two _ (n + 2) (lo - 2) (hi + 2) (lo - 3) (hi + 3) r (omega arith) less two (omega arith) (omega arith) (omega arith) (omega arith))

-- ---- a column of a level

-- the pass along a padded line is that along the line
pub along_kept : {l l' : List Float} {n : ℕ} → Padding l l' n → (taps : List Float) (t r : ℕ) → r < n → along_to l' n taps t r ≡ along_to l n taps t r
along_kept {l} {l'} {n} p taps t r less = pass_same (n - 1) taps r (omega arith) (line_at l') (line_at l) t (λ q inside near. p.kept q (omega arith))

-- the second pass over a line of the first gives the level's column
pub column_is : (raw : List Float) (rows cols : ℕ) (k : Kernel) (col : ℕ) {line : List Float} → Holds line rows (λ r. across_at raw rows cols k r col)
    → (r : ℕ) → r < rows → along_to line rows k.taps k.radius r ≡ level_at raw rows cols k r col
unfolding level_at
column_is raw rows cols k col {line} h r less =
    pass_same (rows - 1) k.taps r (omega arith) (line_at line) _ k.radius (λ q inside near. h.float q (omega arith))
