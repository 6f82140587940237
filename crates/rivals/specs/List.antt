-- Lists of candidates: packed, thinned, and what they raise. Definitions only.
use Rattle.std.specs.Prelude.{ℕ, ◌+◌, ◌*◌, ◌/◌, ◌%◌, ◌≤◌, ◌<◌, ◌≡◌, ◌⊎◌, List, length, get_or}

-- e is one of the first m entries
pub record Among (l : List ℕ) (m e : ℕ) : Type 0 where
  pub place : ℕ
  pub inside : place < m
  pub is : get_or l place 0 ≡ e

-- each of the first m entries is a candidate's code: i or 780 + i for an i below 254
abbrev pub Coded : List ℕ → ℕ → Type 0
Coded l m = (j : ℕ) → j < m → (get_or l j 0 % 780 ≤ 253) × (get_or l j 0 ≤ 1033)

-- the first m codes are the codes of the n pixels whose words, from y + 1 on, have a polarity's bit
pub record Packed (n y : ℕ) (w codes : List ℕ) (m : ℕ) : Type 0 where
  pub low : (i : ℕ) → i < n → get_or w (y + i + 1) 0 % 2 ≡ 1 → Among codes m i
  pub high : (i : ℕ) → i < n → get_or w (y + i + 1) 0 / 2 % 2 ≡ 1 → Among codes m (780 + i)
  pub coded : Coded codes m
  pub few : m ≤ 2 * n
  pub long : length codes ≡ 512

-- of the first k entries of before each is among the first m of after, or has Q
pub record Thinned (Q : ℕ → Type 0) (before : List ℕ) (k : ℕ) (after : List ℕ) (m : ℕ) : Type 0 where
  pub kept : (j : ℕ) → j < k → Among after m (get_or before j 0) ⊎ Q (get_or before j 0)
  pub coded : Coded after m
  pub few : m ≤ k
  pub long : length after ≡ length before

-- of the first k codes each has raised its pixel to 1, or has Q; a 1 stays, and nothing but 1 is written
pub record Raised (Q : ℕ → Type 0) (codes : List ℕ) (k : ℕ) (keep keep' : List ℕ) : Type 0 where
  pub done : (j : ℕ) → j < k → (get_or keep' (get_or codes j 0 % 780) 0 ≡ 1) ⊎ Q (get_or codes j 0)
  pub stays : (i : ℕ) → get_or keep i 0 ≡ 1 → get_or keep' i 0 ≡ 1
  pub bits : (i : ℕ) → (get_or keep' i 0 ≡ get_or keep i 0) ⊎ (get_or keep' i 0 ≡ 1)
  pub long : length keep' ≡ length keep
