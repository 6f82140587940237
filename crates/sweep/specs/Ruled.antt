-- What the pass claims: a mark of 0 means that the pixel lists nothing. Definitions only.
use Rattle.std.specs.Prelude.{ℕ, ◌+◌, ◌-◌, ◌*◌, ◌/◌, ◌%◌, ◌≤◌, ◌<◌, ◌≡◌, Bool, cond, List, ltb, length, get_or, Float, Option, None}
use Rattle.tables.specs.declared.Set.{Set}
use Rattle.pixel.specs.Verdict.{verdict_of}
use Rattle.samples.specs.Level.{Maps, samples_at, nine_at}
use Rattle.rivals.specs.Off.{Off}
use Rattle.rivals.specs.Ready.{Slot}
use Rattle.marks.specs.Marks.{mark_at}
use Rattle.slots.specs.Column.{Rings}
use Rattle.record.specs.declared.Record.{Record}

-- the verdict on a pixel of the map
abbrev pub verdict_at : Maps → ℕ → ℕ → Bool → Option Record
verdict_at m row col is_max = verdict_of m.set m.thresholds m.frame (nine_at m row col) row col is_max

-- of n judged rows from the judged row j on and the columns 4 to before c: a mark of 0 means that the pixel lists nothing
abbrev pub Ruled : Maps → ℕ → ℕ → ℕ → List ℕ → Type 0
Ruled m j n c marks = (i k : ℕ) → i < n → 4 ≤ k → k < c → mark_at marks i k ≡ 0 → (is_max : Bool) → verdict_at m (j + i + 4) k is_max ≡ None

-- the height of the block that begins where left judged rows are left
unfoldable pub height_of : ℕ → ℕ
height_of left = cond (ltb left 254) left 254

-- the block that the judged row j lies in is ruled
pub record Block (m : Maps) (j : ℕ) (marks : List ℕ) : Type 0 where
  pub long : length marks ≡ 131072
  pub ruled : Ruled m (j / 254 * 254) (height_of (m.frame.rows - 8 - j / 254 * 254)) (m.frame.cols - 4) marks

-- the lines of a column of the block, from the row before its first one on, stand in the slot at z
abbrev pub Lines : Maps → ℕ → ℕ → ℕ → ℕ → List Float → List Float → List Float → List Float → List Float → List Float → List ℕ → Type 0
Lines m j n col z a b c d p v w = Slot m.set m.thresholds (λ i. samples_at m (j + 3 + i) col) z (n + 2) a b c d p v w

-- the slot of a column
abbrev pub slot_of : ℕ → ℕ
slot_of col = col % 3 * 260

-- before the column col: the two columns before it stand in their slots, no word of the nearer one exceeds before, and those before that are ruled
pub record Before (m : Maps) (j n col before : ℕ) (a b c d p v : List Float) (w marks : List ℕ) : Type 0 where
  pub rings : Rings a b c d p v w
  pub long : length marks ≡ 131072
  pub near : 4 ≤ col → Lines m j n (col - 1) (slot_of (col + 2)) a b c d p v w
  pub under : 4 ≤ col → (i : ℕ) → i < n + 2 → get_or w (slot_of (col + 2) + i) 0 ≤ before
  pub far : 5 ≤ col → Lines m j n (col - 2) (slot_of (col + 1)) a b c d p v w
  pub ruled : Ruled m j n (col - 1) marks

-- the marks of the column col: a 0 says that the lists rule the pixel out; those of other columns are kept
pub record Passed (s : Set) (ratio : Float) (n x y z : ℕ) (a b c d p v : List Float) (w : List ℕ) (col : ℕ) (marks marks' : List ℕ) : Type 0 where
  pub sure : (i : ℕ) → i < n → mark_at marks' i col ≡ 0 → get_or w (y + i + 1) 0 < 4
  pub off : (i : ℕ) → i < n → mark_at marks' i col ≡ 0 → (is_max : Bool) → Off s ratio x y z a b c d p v w i is_max
  pub same : (i c : ℕ) → i < 256 → c < 4096 → (c ≡ col → ⊥) → mark_at marks' i c ≡ mark_at marks i c
  pub long : length marks' ≡ 131072
