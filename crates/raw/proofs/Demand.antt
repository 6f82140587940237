-- Demand 3 over raw maps. Assumes nothing.
use Rattle.std.specs.Prelude.{Ok}
use Prim.Native.Nat.{ℕ, ◌-◌, ◌*◌, ◌/◌, ◌%◌, ◌≤◌, ◌<◌}
use native.Mathlib.Omega.{arith}
use native.Mathlib.Nat.{eq-zero-or-pos}
use mathlib.Core.Path.{◌≡◌, refl, ◌∙◌}
use mathlib.Core.Bool.{Bool, true, false}
use mathlib.Core.Logic.{◌⊎◌, ⊎_elim, inl, inr}
use mathlib.Core.List.{List, [], ◌∷◌}
use lib.ListN.{length}
use lib.Ieee.{Float}
use Rattle.float.specs.Small.{finite}
use Rattle.float.proofs.Bools.{all_four, contrary}
use Rattle.tables.specs.declared.Set.{Set}
use Rattle.tables.specs.declared.Thresholds.{Thresholds}
use Rattle.tables.specs.Set.{good}
use Rattle.record.specs.declared.Record.{Record}
use Rattle.pixel.specs.declared.Frame.{Frame}
use Rattle.grid.specs.Grid.{pixel_at}
use Rattle.samples.specs.Level.{Maps, maps_of}
use Rattle.levels.specs.Levels.{levels_of}
use Rattle.levels.proofs.LevelsLaws.{made-is, placed_exact}
use Rattle.detect.specs.Due.{due}
use Rattle.detect.specs.Detect.{detect_of}
use Rattle.kernels.specs.declared.Kernel.{Kernel}
use Rattle.kernels.specs.Kernel.{kernels_of}
use Rattle.kernels.proofs.Radii.{radii_rise}
use Rattle.blur.specs.Blur.{level_of}
use Rattle.blur.specs.Reach.{off, reached, LossyRaw}
use Rattle.blur.proofs.LevelLaws.{level_pixel}
use Rattle.blur.proofs.ReachLaws.{level_finite, level_stays, reached_elim}
use Rattle.demands.specs.TwoMaps.{spared, keep, Same, finites, Lossy, Struck}
use Rattle.demands.proofs.TwoMaps.{two_maps}
use Rattle.demands.proofs.Answers.{answered}
use Rattle.raw.specs.Raw.{maps_by, level_maps, largest, reach_of, spared_raw}
use Rattle.raw.proofs.Dilated.{clear-touched}

order : (a b : ℕ) → (a ≤ b) ⊎ (b ≤ a)
order a b = ⊎_elim (λ z. inl (omega arith)) (λ z. inr (omega arith)) (eq-zero-or-pos (a - b))

-- the largest of four is one of them
one-largest : (a b c d : ℕ) → (largest a b c d ≤ a) ⊎ ((largest a b c d ≤ b) ⊎ ((largest a b c d ≤ c) ⊎ (largest a b c d ≤ d)))
one-largest a b c d =
    ⊎_elim
    (λ p. ⊎_elim
    (λ q. ⊎_elim (λ r. inr (inr (inr (omega arith)))) (λ r. inr (inl (omega arith))) (order b d))
    (λ q. ⊎_elim (λ r. inr (inr (inl (omega arith)))) (λ r. inr (inl (omega arith))) (order b c))
    (order c d))
    (λ p. ⊎_elim
    (λ q. ⊎_elim (λ r. inr (inr (inr (omega arith)))) (λ r. inl (omega arith)) (order a d))
    (λ q. ⊎_elim (λ r. inr (inr (inl (omega arith)))) (λ r. inl (omega arith)) (order a c))
    (order c d))
    (order a b)

last_largest : (a b c d : ℕ) → a ≤ b → b ≤ c → c ≤ d → largest a b c d ≡ d
last_largest a b c d p q r = omega arith

module _ (lost : ℕ → ℕ → Bool) (f : Frame) (s : Set) (th : Thresholds) (k0 k1 k2 k3 : Kernel) (a b : List Float) (h : LossyRaw lost f.rows f.cols a b) where
  abbrev R : ℕ
  R = largest k0.radius k1.radius k2.radius k3.radius

  abbrev A : Maps
  A = maps_by k0 k1 k2 k3 a f s th

  abbrev B : Maps
  B = maps_by k0 k1 k2 k3 b f s th

  module _ (row col : ℕ) (hr : row < f.rows) (hc : col < f.cols) where
    stays : reached lost f.rows f.cols R row col ≡ false → Same A B row col
    stays none = record {
      level0 = level_stays lost f.rows f.cols a b h k0 R row col (omega arith) hr hc none;
      level1 = level_stays lost f.rows f.cols a b h k1 R row col (omega arith) hr hc none;
      level2 = level_stays lost f.rows f.cols a b h k2 R row col (omega arith) hr hc none;
      level3 = level_stays lost f.rows f.cols a b h k3 R row col (omega arith) hr hc none;
    }

    -- a raw pixel in the reach of a level that is finite at (row, col) is finite
    near-finite : (k : Kernel) → finite (pixel_at (level_of b f.rows f.cols k) f.rows row col) ≡ true
        → (r c : ℕ) → r < f.rows → c < f.cols → off row r ≤ k.radius → off col c ≤ k.radius → finite (pixel_at b f.rows r c) ≡ true
    near-finite k e r c ir ic nr nc =
        level_finite f.rows f.cols k row col hr hc b (rw (level_pixel b f.rows f.cols k row col hr hc) at e) r c ir ic nr nc

    all-finite : finites B row col ≡ true → (r c : ℕ) → r < f.rows → c < f.cols → off row r ≤ R → off col c ≤ R → finite (pixel_at b f.rows r c) ≡ true
    unfolding finites
    all-finite e r c ir ic nr nc =
        let p = all_four _ _ _ _ e in
        ⊎_elim (λ m. near-finite k0 p.0 r c ir ic (omega arith) (omega arith))
        (⊎_elim (λ m. near-finite k1 p.1 r c ir ic (omega arith) (omega arith))
        (⊎_elim (λ m. near-finite k2 p.2 r c ir ic (omega arith) (omega arith))
        (λ m. near-finite k3 p.3 r c ir ic (omega arith) (omega arith))))
        (one-largest k0.radius k1.radius k2.radius k3.radius)

    gone : reached lost f.rows f.cols R row col ≡ true → finites B row col ≡ false
    gone some =
        reached_elim lost f.rows f.cols R row col some
        (λ r c ir ic nr nc away. contrary (λ whole. all-finite whole r c ir ic nr nc) (h.gone r c ir ic away))

  -- The four levels of a raw map that lost pixels are the whole map's, but for the pixels at most the largest radius off a lost one, at each of which a level is not finite.
  pub levels_lossy : Lossy (reached lost f.rows f.cols R) A B
  levels_lossy = record { stays = stays; gone = gone }

-- ---- the test

keep_same : (p q : Record → Bool) → ((r : Record) → p r ≡ q r) → (rs : List Record) → keep p rs ≡ keep q rs
unfolding keep
keep_same p q e [] = refl
keep_same p q e (r ∷ rs) = rw (e r, keep_same p q e rs)

spared_raw_lem : (lost : ℕ → ℕ → Bool) (rows cols d : ℕ) (r : Record) → spared (reached lost rows cols d) cols r ≡ spared_raw lost rows cols d r
unfolding spared spared_raw
spared_raw_lem lost rows cols d r = clear-touched lost rows cols d (r.key / cols) (r.key % cols)

-- ---- demand 3

module _ (lost : ℕ → ℕ → Bool) (f : Frame) (s : Set) (th : Thresholds) (a b : List Float) (h : LossyRaw lost f.rows f.cols a b) where
  -- The list of a raw map that lost pixels is the whole map's, less exactly the spots with a lost raw pixel at most R + 2 rows and cols off their key's pixel, R the largest
  -- of the four radii, save the four corners R + 2 off both ways. The rest keep order and every bit.
  pub two_raw_maps : due (level_maps b f s th) ≡ keep (spared_raw lost f.rows f.cols (reach_of f s)) (due (level_maps a f s th))
  two_raw_maps =
      two_maps (reached lost f.rows f.cols (reach_of f s)) f s th _ _ _ _ _ _ _ _
      (levels_lossy lost f s th (kernels_of f.octave s.sigmas 0) (kernels_of f.octave s.sigmas 1) (kernels_of f.octave s.sigmas 2) (kernels_of f.octave s.sigmas 3) a b h)
      ∙ keep_same _ _ (spared_raw_lem lost f.rows f.cols (reach_of f s)) _

  -- The same in detection's own answers: where neither call is refused, the second answers the count of the first's records that are spared, and lays just these.
  pub two_raw_answers : (out out' : List ℕ) (n n' : ℕ)
      → (detect_of s th f.rows f.cols f.octave (level_maps a f s th).l0 (level_maps a f s th).l1 (level_maps a f s th).l2 (level_maps a f s th).l3 out).answer ≡ Ok n
      → (detect_of s th f.rows f.cols f.octave (level_maps b f s th).l0 (level_maps b f s th).l1 (level_maps b f s th).l2 (level_maps b f s th).l3 out').answer ≡ Ok n'
      → Struck (spared_raw lost f.rows f.cols (reach_of f s)) (due (level_maps a f s th)) out out'
      (detect_of s th f.rows f.cols f.octave (level_maps a f s th).l0 (level_maps a f s th).l1 (level_maps a f s th).l2 (level_maps a f s th).l3 out)
      (detect_of s th f.rows f.cols f.octave (level_maps b f s th).l0 (level_maps b f s th).l1 (level_maps b f s th).l2 (level_maps b f s th).l3 out')
  unfolding detect_of
  two_raw_answers out out' n n' first second = record {
    whole = answered _ (level_maps a f s th) out n first;
    kept = rw (← two_raw_maps) (answered _ (level_maps b f s th) out' n' second);
  }

-- What levels leaves in four buffers as long as the map are the maps that these theorems speak of.
pub made_maps : (raw : List Float) (f : Frame) (s : Set) (th : Thresholds) (l0 l1 l2 l3 : List Float) → (levels_of s f.rows f.cols f.octave raw l0 l1 l2 l3).answer ≡ Ok tt
    → length l0 ≡ f.rows * f.cols → length l1 ≡ f.rows * f.cols → length l2 ≡ f.rows * f.cols → length l3 ≡ f.rows * f.cols
    → let o = levels_of s f.rows f.cols f.octave raw l0 l1 l2 l3 in maps_of o.l0 o.l1 o.l2 o.l3 f s th ≡ level_maps raw f s th
made_maps raw f s th l0 l1 l2 l3 made e0 e1 e2 e3 =
    rw (
      made-is s f.rows f.cols f.octave raw l0 l1 l2 l3 made,
      placed_exact s f.rows f.cols f.octave raw 0 l0 e0,
      placed_exact s f.rows f.cols f.octave raw 1 l1 e1,
      placed_exact s f.rows f.cols f.octave raw 2 l2 e2,
      placed_exact s f.rows f.cols f.octave raw 3 l3 e3,
    )

-- With a good set the largest radius is the last level's.
pub reach_last : (f : Frame) (s : Set) → good s ≡ true → reach_of f s ≡ (kernels_of f.octave s.sigmas 3).radius
reach_last f s g =
    let a = radii_rise s g f.octave 0 (omega arith) in
    let b = radii_rise s g f.octave 1 (omega arith) in
    let c = radii_rise s g f.octave 2 (omega arith) in
    last_largest _ _ _ _ a b c
