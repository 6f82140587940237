-- Laws of the input's levels and of its checks.
use Rattle.std.specs.Prelude.{Ok, Err}
use Prim.Native.Nat.{ℕ, ◌+◌, ◌*◌, ◌≤◌, ◌<◌}
use native.Mathlib.Nat.{mul-le-mul, mul-le-mul_right}
use native.Mathlib.Omega.{arith}
use mathlib.Core.Bool.{Bool, true, false, cond, not, ◌||◌}
use mathlib.Core.Path.{◌≡◌, refl, sym, ap, ◌∙◌}
use mathlib.Core.List.{List, ◌++◌}
use lib.ListN.{length, take, drop}
use lib.Seq.{length-take-le, take_at, get_or-take}
use lib.Dec.{ltb, eqb}
use lib.Ieee.{Float}
use borrow.Author.Tests.{ltb-false, le-ltb, eqb-true, ne_eqb, not-false}
use Rattle.float.proofs.Bools.{neither}
use Rattle.words.specs.Words.{word_from, floats_at}
use Rattle.words.proofs.WordsLaws.{length-floats_at}
use Rattle.tables.specs.declared.Refusal.{Refusal}
use Rattle.tables.specs.declared.Refusal.TheVariants.{Size, Level}
use Rattle.tables.specs.Refusal.{unless, first_of}
use Rattle.tables.proofs.RefusalLaws.{unless-fine}
use Rattle.input.specs.Input.{rows_from, cols_from, area_from, level_from, level_array, list_checks}

-- what no check of the input refuses
pub record Tile (b : List ℕ) : Type 0 where
  pub rows-most : rows_from b ≤ 60
  pub cols-most : cols_from b ≤ 60
  pub area_most : area_from b ≤ 3600
  pub long : length b ≡ 560 + 16 * area_from b

pub area_sixty : {m n : ℕ} → m ≤ 60 → n ≤ 60 → m * n ≤ 3600
area_sixty p q = mul-le-mul p q

pub checks_tile : (b : List ℕ) → first_of (list_checks b) ≡ Ok tt → Tile b
unfolding list_checks first_of
checks_tile b h =
    let header = unless-fine _ _ _ h in
    let sides = unless-fine _ _ _ header.1 in
    let whole = unless-fine _ _ _ sides.1 in
    let side = neither (ltb 60 (rows_from b)) (ltb 60 (cols_from b)) sides.0 in
    let r : rows_from b ≤ 60 = ltb-false _ _ side.0 in
    let c : cols_from b ≤ 60 = ltb-false _ _ side.1 in
    record {
      rows-most = r;
      cols-most = c;
      area_most = area_sixty r c;
      long = eqb-true _ _ (not-false (eqb (length b) (560 + 16 * area_from b)) whole.0);
    }

pub level_most : {k n : ℕ} → k < 4 → n ≤ 3600 → k * n ≤ 10800
level_most {k} {n} h p = mul-le-mul {n₂ = 3} (omega arith) p

pub level_within : (k n : ℕ) → k < 4 → 4 * (140 + k * n + n) ≤ 560 + 16 * n
level_within k n h = let q : k * n ≤ 3 * n = mul-le-mul_right {m = k} {n = 3} n (omega arith) in omega arith

-- a level read into the start of an array
pub level_read : (b : List ℕ) (floats level : List Float) (k n : ℕ) → length floats ≡ 3600 → n ≤ 3600 → n ≡ area_from b → level ≡ floats_at (length (take n floats)) b (140 + k * n)
    → level ++ drop n floats ≡ level_from b k ++ drop (area_from b) floats
level_read b floats level k n long most area e =
    let room : length (take n floats) ≡ n = length-take-le n floats (omega arith) in
    rw (e, room, area)

-- what an array begins with
pub level_start : (b : List ℕ) (k : ℕ) {n : ℕ} {floats : List Float} → n ≡ area_from b → floats ≡ level_array b k → take n floats ≡ level_from b k
unfolding level_array
level_start b k p q = rw (p, q) (take_at (level_from b k) _ (area_from b) (length-floats_at (area_from b) b (140 + k * area_from b)))

pub length-start : (b : List ℕ) (k : ℕ) {n : ℕ} {floats : List Float} → n ≡ area_from b → floats ≡ level_array b k → length (take n floats) ≡ n
length-start b k p q = ap length (level_start b k p q) ∙ length-floats_at (area_from b) b (140 + k * area_from b) ∙ sym p

-- ---- an input that is longer than the longest tile

-- what refuses it: a side above 60, else its length
unfoldable pub too_long : List ℕ → Refusal
too_long b = cond (ltb 60 (rows_from b) || ltb 60 (cols_from b)) Size Level

pub checks_long : (b : List ℕ) → 58160 < length b → first_of (list_checks b) ≡ Err (too_long b)
unfolding list_checks first_of unless too_long
checks_long b h = rw (le-ltb (length b) 560 (omega arith)) (go (ltb 60 (rows_from b) || ltb 60 (cols_from b)) refl)
  where
    go : (t : Bool) → (ltb 60 (rows_from b) || ltb 60 (cols_from b)) ≡ t → unless t Size (unless (not (eqb (length b) (560 + 16 * area_from b))) Level (Ok tt)) ≡ Err (cond t Size Level)
    go true e = refl
    go false e =
        let side = neither (ltb 60 (rows_from b)) (ltb 60 (cols_from b)) e in
        let most : area_from b ≤ 3600 = area_sixty (ltb-false _ _ side.0) (ltb-false _ _ side.1) in
        rw (ne_eqb (length b) (560 + 16 * area_from b) (λ l. omega (arith, l, most, h)))

pub word_cut : (n : ℕ) (b : List ℕ) (at : ℕ) → at + 4 ≤ n → word_from (take n b) at ≡ word_from b at
unfolding word_from
word_cut n b at h =
    rw (get_or-take n b at 0 (omega arith), get_or-take n b (at + 1) 0 (omega arith), get_or-take n b (at + 2) 0 (omega arith), get_or-take n b (at + 3) 0 (omega arith))

-- one byte more than the longest tile's is enough to see it
pub checks_cut : (b : List ℕ) → 58160 < length b → first_of (list_checks (take 58161 b)) ≡ Err (too_long b)
unfolding too_long
checks_cut b h =
    checks_long (take 58161 b) (omega (arith, length-take-le 58161 b (omega arith)))
    ∙ rw (word_cut 58161 b 548 (omega arith), word_cut 58161 b 552 (omega arith))
