-- What the promises of the pyramid's helpers settle: the octave count's bounds, the halved level's pixels, what is kept, and the
-- refusals. Assumes nothing.
use Rattle.std.specs.Prelude.{Result, Ok, Err, ⊤}
use Prim.Native.Nat.{ℕ, ◌*◌, ◌/◌, ◌≤◌, ◌<◌}
use native.Mathlib.Omega.{arith}
use mathlib.Core.Bool.{Bool, true, false, cond}
use mathlib.Core.List.{List}
use mathlib.Core.Path.{◌≡◌, refl, ap, ◌∙◌}
use lib.ListN.{length, get_or}
use lib.Dec.{ltb, leb}
use lib.Ieee.{Float, nan}
use borrow.Author.Tests.{ltb-false, leb-false, le-ltb, lt-leb}
use Rattle.tables.specs.declared.Refusal.{Refusal}
use Rattle.tables.specs.Refusal.{Check, said_at, First}
use Rattle.tables.proofs.RefusalLaws as order
use Rattle.grid.specs.Grid.{pixel_at}
use Rattle.grid.proofs.StoredLaws.{start-length, start_at, start-past}
use Rattle.pyramid.specs.Pyramid.{octaves_of, octave_count_of, half_of, halved_of, needed, downsample_checks, Outcome, downsampled, downsample_of}
use Rattle.pyramid.proofs.HalvedLaws.{halved_pixel, pixel_before, length_halved, checks_passed}

-- ---- the octave count

chosen_most : (b : Bool) (n m k : ℕ) → n ≤ k → m ≤ k → cond b n m ≤ k
chosen_most true n m k h g = h
chosen_most false n m k h g = g

-- where a test that fails at one side fails at the other too, the choices rise, and so does what lies under them
chosen_rise : (b b' : Bool) (k n m m' : ℕ) → (b ≡ false → b' ≡ false) → k ≤ n → (m ≤ m') × (n ≤ m') → (cond b n m ≤ cond b' n m') × (k ≤ cond b' n m')
chosen_rise true true k n m m' h g p = (omega arith, g)
chosen_rise true false k n m m' h g p = (p.1, omega (arith, p.1))
chosen_rise false true k n m m' h g p = let never : true ≡ false = h refl in let same : m ≡ n = cc in (omega (arith, same), g)
chosen_rise false false k n m m' h g p = (p.0, omega (arith, p.1))

under_rise : (d e k : ℕ) → d ≤ e → ltb d k ≡ false → ltb e k ≡ false
under_rise d e k h f = le-ltb e k (omega (arith, ltb-false d k f))

to_rise : (d e k : ℕ) → d ≤ e → leb d k ≡ false → leb e k ≡ false
to_rise d e k h f = lt-leb e k (omega (arith, leb-false d k f))

-- a longer shortest side has no fewer octaves
pub octaves_rise : (d e : ℕ) → d ≤ e → octaves_of d ≤ octaves_of e
unfolding octaves_of
octaves_rise d e h =
    (chosen_rise (ltb d 10) (ltb e 10) 0 0 _ _ (under_rise d e 10 h) (omega arith)
    (chosen_rise (leb d 64) (leb e 64) 0 1 _ _ (to_rise d e 64 h) (omega arith)
    (chosen_rise (leb d 128) (leb e 128) 1 2 _ _ (to_rise d e 128 h) (omega arith)
    (chosen_rise (leb d 256) (leb e 256) 2 3 _ _ (to_rise d e 256 h) (omega arith)
    (chosen_rise (leb d 512) (leb e 512) 3 4 _ _ (to_rise d e 512 h) (omega arith)
    (chosen_rise (leb d 1024) (leb e 1024) 4 5 6 6 (to_rise d e 1024 h) (omega arith) (omega arith, omega arith))))))
    ).0

pub octave-count_rises : (rows cols rows' cols' : ℕ) → rows ≤ rows' → cols ≤ cols' → octave_count_of rows cols ≤ octave_count_of rows' cols'
unfolding octave_count_of
octave-count_rises rows cols rows' cols' h g = octaves_rise _ _ (omega arith)

octaves_most : (d : ℕ) → octaves_of d ≤ 6
unfolding octaves_of
octaves_most d =
    chosen_most (ltb d 10) 0 _ 6 (omega arith)
    (chosen_most (leb d 64) 1 _ 6 (omega arith)
    (chosen_most (leb d 128) 2 _ 6 (omega arith)
    (chosen_most (leb d 256) 3 _ 6 (omega arith)
    (chosen_most (leb d 512) 4 _ 6 (omega arith)
    (chosen_most (leb d 1024) 5 6 6 (omega arith) (omega arith))))))

-- at most 6 octaves
pub octave-count-most : (rows cols : ℕ) → octave_count_of rows cols ≤ 6
unfolding octave_count_of
octave-count-most rows cols = octaves_most _

-- ---- over the outcome of the checks

module _ (rows cols : ℕ) (l out : List Float) where
  abbrev left : Result ⊤ Refusal → Outcome
  left w = downsampled w rows cols l out

  answer-refused : (w : Result ⊤ Refusal) (r : Refusal) → (left w).answer ≡ Err r → w ≡ Err r
  unfolding downsampled
  answer-refused (Err q) r e = cc
  answer-refused (Ok _) r e = cc

  buffer-kept : (w : Result ⊤ Refusal) (r : Refusal) → (left w).answer ≡ Err r → (left w).buffer ≡ out
  unfolding downsampled
  buffer-kept (Err q) r e = refl
  buffer-kept (Ok _) r e = cc

  answer_halved : (w : Result ⊤ Refusal) (h v : ℕ) → (left w).answer ≡ Ok (h, v) → (w ≡ Ok tt) × ((h ≡ half_of rows cols) × (v ≡ half_of cols rows))
  unfolding downsampled
  answer_halved (Err q) h v e = (cc, (cc, cc))
  answer_halved (Ok _) h v e = let same : ◌≡◌ {A = ℕ × ℕ} (h, v) (half_of rows cols, half_of cols rows) = cc in (refl, (ap (λ p. p.0) same, ap (λ p. p.1) same))

  buffer-length : (w : Result ⊤ Refusal) → (w ≡ Ok tt → needed rows cols ≤ length out) → length (left w).buffer ≡ length out
  unfolding downsampled
  buffer-length (Err q) h = refl
  buffer-length (Ok _) h = start-length (halved_of rows cols l) out (omega (arith, length_halved rows cols l, h refl))

  buffer-past : (w : Result ⊤ Refusal) (i : ℕ) → needed rows cols ≤ i → get_or (left w).buffer i nan ≡ get_or out i nan
  unfolding downsampled
  buffer-past (Err q) i h = refl
  buffer-past (Ok _) i h = start-past (halved_of rows cols l) out i (omega (arith, length_halved rows cols l))

  buffer_halved : (w : Result ⊤ Refusal) → w ≡ Ok tt → (i : ℕ) → i < needed rows cols → get_or (left w).buffer i nan ≡ get_or (halved_of rows cols l) i nan
  unfolding downsampled
  buffer_halved (Err q) e i h = cc
  buffer_halved (Ok _) e i h = start_at (halved_of rows cols l) out i (omega (arith, length_halved rows cols l))

-- ---- a call

module _ (rows cols : ℕ) (l out : List Float) where
  abbrev checks : List Check
  checks = downsample_checks (length l) (length out) rows cols

  abbrev after : Outcome
  after = downsample_of rows cols l out

  -- the new sides are half the sides
  pub sides_halved : (h w : ℕ) → after.answer ≡ Ok (h, w) → (h ≡ half_of rows cols) × (w ≡ half_of cols rows)
  unfolding downsample_of
  sides_halved h w e = (answer_halved rows cols l out _ h w e).1

  -- the result's pixel (r, c) is the level's (2r, 2c); the result lies by columns of rows/2
  pub pixel_taken : (h w : ℕ) → after.answer ≡ Ok (h, w) → (r c : ℕ) → r < rows / 2 → c < cols / 2
      → pixel_at after.buffer (rows / 2) r c ≡ pixel_at l rows (2 * r) (2 * c)
  unfolding downsample_of pixel_at
  pixel_taken h w e r c p q =
      let taken = halved_pixel rows cols l r c p q in
      buffer_halved rows cols l out _ (answer_halved rows cols l out _ h w e).0 _ (pixel_before rows cols r c p q) ∙ taken

  -- what lies past the result is kept
  pub past-kept : (i : ℕ) → needed rows cols ≤ i → get_or after.buffer i nan ≡ get_or out i nan
  unfolding downsample_of
  past-kept i h = buffer-past rows cols l out _ i h

  -- the buffer keeps its length
  pub length-kept : length after.buffer ≡ length out
  unfolding downsample_of
  length-kept = buffer-length rows cols l out _ (λ e. (checks_passed _ _ _ _ e).roomy)

  -- a refusal that is answered is the first that holds, in the order of the checks: 1, 2, 6
  pub refused-first : (r : Refusal) → after.answer ≡ Err r → First checks r
  unfolding downsample_of
  refused-first r e = order.first-refused checks r (answer-refused rows cols l out _ r e)

  -- and the first that holds is answered
  pub first_answered : (r : Refusal) → First checks r → after.answer ≡ Err r
  unfolding downsample_of downsampled
  first_answered r f = rw (order.refused-first checks r f)

  -- a refusal writes nothing
  pub refused_keeps : (r : Refusal) → after.answer ≡ Err r → after.buffer ≡ out
  unfolding downsample_of
  refused_keeps r e = buffer-kept rows cols l out _ r e

  -- a call that answers sides has no check that holds
  pub halved_none : (h w : ℕ) → after.answer ≡ Ok (h, w) → (k : ℕ) → said_at checks k ≡ Ok tt
  unfolding downsample_of
  halved_none h w e = order.first_fine checks (answer_halved rows cols l out _ h w e).0

  -- and a call with no check that holds answers the new sides
  pub none_halved : ((k : ℕ) → said_at checks k ≡ Ok tt) → after.answer ≡ Ok (half_of rows cols, half_of cols rows)
  unfolding downsample_of downsampled
  none_halved h = rw (order.fine-first checks h)
