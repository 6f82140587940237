-- A column of a map, by its offsets. Assumes nothing.
use Prim.Native.Nat.{ℕ, ◌+◌, ◌-◌, ◌*◌, ◌≤◌, ◌<◌}
use native.Mathlib.Nat.{mul-le-mul_right, mul_comm, add-mul, one-mul}
use native.Mathlib.Omega.{arith}
use mathlib.Core.Path.{◌≡◌, ap, ◌∙◌}
use mathlib.Core.List.{List}
use lib.ListN.{get_or}
use lib.Ieee.{Float, nan}
use Rattle.float.specs.Num.{◌⊗◌}
use Rattle.fit.specs.Cubic.{◌at◌}
use Rattle.grid.proofs.GridLaws.{area}
use Rattle.pixel.specs.declared.Frame.{Frame}
use Rattle.samples.specs.Level.{Maps, stencil_of, sample_at, samples_of, samples_at, Sized}
use Rattle.samples.proofs.LevelLaws.{sample_reads}
use Rattle.columns.specs.Sample.{stencil_at, Reach}
use Rattle.slots.specs.Column.{read_at, Filled}
use Rattle.slots.proofs.ColumnLaws.{filled_alike}

-- a column that is not the first begins no sooner than the second
pub a_column : (rows col : ℕ) → 1 ≤ col → rows ≤ col * rows
a_column rows col h = omega (arith, mul-le-mul_right {m = 1} {n = col} rows h, one-mul rows)

stencil_by_lem : (l : List Float) (left mid right p rows : ℕ) (sigma : Float) → left ≡ p - rows → right ≡ p + rows → mid ≡ p →
    stencil_at l left mid right (sigma ⊗ sigma) ≡ stencil_of (get_or l (p - rows) nan) (get_or l (p + rows) nan) (get_or l (p - 1) nan) (get_or l (p + 1) nan) (get_or l p nan) sigma
unfolding stencil_at stencil_of
stencil_by_lem l left mid right p rows sigma a b c = rw (a, b, c)

-- place i from the row r on is the pixel (r + i, col)
pub stencil_map : (l : List Float) (rows r col i : ℕ) (sigma : Float) → 1 ≤ col → 1 ≤ r → let mid = col * rows + r in
    stencil_at l (mid - rows + i) (mid + i) (mid + rows + i) (sigma ⊗ sigma) ≡ sample_at l rows (r + i) col sigma
stencil_map l rows r col i sigma h k =
    let c = a_column rows col h in
    stencil_by_lem l (col * rows + r - rows + i) (col * rows + r + i) (col * rows + r + rows + i) (col * rows + (r + i)) rows sigma (omega arith) (omega arith) (omega arith)
    ∙ sample_reads l rows (r + i) col sigma (omega arith) h

pub read_map : (l0 l1 l2 l3 g : List Float) (rows r col i : ℕ) → 1 ≤ col → 1 ≤ r → let mid = col * rows + r in
    read_at l0 l1 l2 l3 g (mid - rows) mid (mid + rows) i ≡ samples_of l0 l1 l2 l3 rows g (r + i) col
unfolding samples_of
read_map l0 l1 l2 l3 g rows r col i h k =
    rw (stencil_map l0 rows r col i (g at 0) h k, stencil_map l1 rows r col i (g at 1) h k, stencil_map l2 rows r col i (g at 2) h k, stencil_map l3 rows r col i (g at 3) h k)

-- the offsets of n + 2 places from the row j + 3 on
pub reach_map : {f : Frame} {n0 n1 n2 n3 : ℕ} (len j n col : ℕ) → Sized f n0 n1 n2 n3 → len ≡ f.rows * f.cols → 3 ≤ col → col + 3 < f.cols → j + n + 8 ≤ f.rows → let mid = col * f.rows + j + 3 in
    Reach len (mid - f.rows) mid (mid + f.rows) (n + 2)
reach_map {f} len j n col sized long low high inside =
    let rows = f.rows in
    let c = a_column rows col (omega arith) in
    let room = mul-le-mul_right {m = col + 2} {n = f.cols} rows (omega arith) in
    let two = add-mul col 2 rows in
    let turn = mul_comm f.cols rows in
    record {
      up = omega arith;
      down = omega arith;
      before = omega arith;
      after = omega arith;
      most = omega (arith, area sized.rows-most sized.cols-most);
    }

-- a column's offset is a small number
pub column_small : {f : Frame} {n0 n1 n2 n3 : ℕ} (col : ℕ) → Sized f n0 n1 n2 n3 → col < f.cols → col * f.rows ≤ 16777216
column_small col sized less = area (most less sized.cols-most) sized.rows-most
  where
    most : {a b : ℕ} → a < b → b ≤ 4096 → a ≤ 4096
    most h k = omega arith

-- the lines of a column of a map, from the row j + 3 on
pub filled_map : (m : Maps) (j n col z any : ℕ) (a b c d p v : List Float) (w : List ℕ) (a' b' c' d' p' v' : List Float) (w' : List ℕ) → 1 ≤ col → let mid = col * m.frame.rows + j + 3 in
    Filled m.set m.thresholds (read_at m.l0 m.l1 m.l2 m.l3 m.set.sigmas (mid - m.frame.rows) mid (mid + m.frame.rows)) z n a b c d p v w a' b' c' d' p' v' w' any →
    Filled m.set m.thresholds (λ i. samples_at m (j + 3 + i) col) z n a b c d p v w a' b' c' d' p' v' w' any
filled_map m j n col z any a b c d p v w a' b' c' d' p' v' w' h filled = filled_alike (λ i less. same (col * m.frame.rows + j + 3) i (omega arith)) filled
  where
    same : (mid i : ℕ) → mid ≡ col * m.frame.rows + (j + 3) → read_at m.l0 m.l1 m.l2 m.l3 m.set.sigmas (mid - m.frame.rows) mid (mid + m.frame.rows) i ≡ samples_at m (j + 3 + i) col
    same mid i e =
        ap (λ (u : ℕ). read_at m.l0 m.l1 m.l2 m.l3 m.set.sigmas (u - m.frame.rows) u (u + m.frame.rows) i) e
        ∙ read_map m.l0 m.l1 m.l2 m.l3 m.set.sigmas m.frame.rows (j + 3) col i h (omega arith)
