-- A listed record's floats are values of binary32 and its key is a word, so that it is read back as it was written. Assumes nothing: each float is the
-- result of a rounded operation, or +0.
use Prim.Native.Nat.{ℕ, ◌^◌, ◌≤◌, ◌<◌}
use native.Mathlib.Omega.{arith}
use mathlib.Core.Path.{sym, subst}
use mathlib.Core.Bool.{Bool, true, false}
use mathlib.Core.List.{List}
use lib.Dec.{T}
use lib.Ieee.{Float, binary32, fits, lt, is_nan}
use lib.Ieee.Fits.{cond-fits, add-fits, mul-fits, div-fits}
use lib.Ieee.Bits.{of_bits-fits}
use Rattle.float.specs.Small.{min_of, max_of}
use Rattle.fit.specs.Cubic.{◌at◌, horner_of}
use Rattle.fit.specs.Prims.{ours}
use Rattle.fit.specs.Envelope.{ends_by, put_low, put_high, turn_of, first_of, second_of, turns_of, shape_of, shape_by}
use Rattle.fit.specs.declared.Envelope.{Envelope}
use Rattle.moves.proofs.MovesLaws.{kept-fits}
use Rattle.refine.specs.Refine.{delta_xOf, delta_yOf}
use Rattle.refine.proofs.RefineLaws.{accepted_displaced}
use Rattle.record.specs.declared.Record.{Record}
use Rattle.record.specs.Layout.{Held}
use Rattle.record.proofs.ReadableLaws.{readable_parts}
use Rattle.pixel.specs.Gate.{sigma_of, peak_of}
use Rattle.pixel.specs.Verdict.{anchor_of, record_of}
use Rattle.pixel.specs.Rules.{cubics_at, own_samples}
use Rattle.samples.specs.Level.{Maps, stencil_of, sample_at, samples_of, samples_at, nine_at}
use Rattle.detect.specs.Due.{due}
use Rattle.grid.proofs.GridLaws.{area}
use Rattle.samples.proofs.LevelLaws.{nine_centre}
use Rattle.demands.specs.List.{Stands, AdmitsAt}
use Rattle.demands.proofs.Listed.{list_is}
use Rattle.demands.proofs.Accepted.{join_accepts}

-- x is a value of binary32
abbrev Fits : Float → Type 0
Fits x = T (fits binary32 x)

-- ---- samples

-- the first four of a list are values of binary32
record FourFit (l : List Float) : Type 0 where
  s0 : Fits (l at 0)
  s1 : Fits (l at 1)
  s2 : Fits (l at 2)
  s3 : Fits (l at 3)

sample_fits : (l : List Float) (rows row col : ℕ) (sigma : Float) → Fits (sample_at l rows row col sigma)
unfolding sample_at stencil_of
sample_fits l rows row col sigma = mul-fits binary32 _ _

samples_fit : (m : Maps) (row col : ℕ) → FourFit (samples_at m row col)
unfolding samples_of
samples_fit m row col = record {
  s0 = sample_fits m.l0 m.frame.rows row col _;
  s1 = sample_fits m.l1 m.frame.rows row col _;
  s2 = sample_fits m.l2 m.frame.rows row col _;
  s3 = sample_fits m.l3 m.frame.rows row col _;
}

own_samples_fit : (m : Maps) (row col : ℕ) → FourFit (own_samples (nine_at m row col))
own_samples_fit m row col = subst FourFit (sym (nine_centre (samples_at m) row col)) (samples_fit m row col)

-- ---- the envelope

-- its four numbers are values of binary32
record EnvelopeFits (e : Envelope) : Type 0 where
  emin : Fits e.emin
  emax : Fits e.emax
  smin : Fits e.smin
  smax : Fits e.smax

min-fits : (a b : Float) → Fits a → Fits b → Fits (min_of a b)
unfolding min_of
min-fits a b p q = cond-fits binary32 (is_nan a) _ _ q (cond-fits binary32 (lt b a) _ _ q p)

max-fits : (a b : Float) → Fits a → Fits b → Fits (max_of a b)
unfolding max_of
max-fits a b p q = cond-fits binary32 (is_nan a) _ _ q (cond-fits binary32 (lt a b) _ _ q p)

ends_fit : (l0 l3 : Float) → Fits l0 → Fits l3 → EnvelopeFits (ends_by ours l0 l3)
unfolding ends_by
ends_fit l0 l3 p q =
    record { emin = min-fits l0 l3 p q; emax = max-fits l0 l3 p q; smin = of_bits-fits binary32 0; smax = of_bits-fits binary32 0 }

low_fits : (b : Bool) (v s : Float) (e : Envelope) → Fits v → Fits s → EnvelopeFits e → EnvelopeFits (put_low b v s e)
unfolding put_low
low_fits true v s e p q h = record { emin = p; emax = h.emax; smin = q; smax = h.smax }
low_fits false v s e p q h = h

high_fits : (b : Bool) (v s : Float) (e : Envelope) → Fits v → Fits s → EnvelopeFits e → EnvelopeFits (put_high b v s e)
unfolding put_high
high_fits true v s e p q h = record { emin = h.emin; emax = p; smin = h.smin; smax = q }
high_fits false v s e p q h = h

horner_fits : (k : List Float) (s : Float) → Fits (horner_of k s)
unfolding horner_of
horner_fits k s = add-fits binary32 _ _

turn-fits : (k : List Float) (s : Float) (ok is_min : Bool) (e : Envelope) → Fits s → EnvelopeFits e → EnvelopeFits (turn_of k s ok is_min e)
unfolding turn_of
turn-fits k s ok is_min e p h = high_fits _ _ s _ (horner_fits k s) p (low_fits _ _ s e (horner_fits k s) p h)

first_fits : (k : List Float) (quadratic : Bool) (root : Float) → Fits (first_of k quadratic root)
unfolding first_of
first_fits k quadratic root = cond-fits binary32 quadratic _ _ (div-fits binary32 _ _) (div-fits binary32 _ _)

second_fits : (k : List Float) (root : Float) → Fits (second_of k root)
unfolding second_of
second_fits k root = div-fits binary32 _ _

turns_fit : (k g : List Float) (root : Float) (e : Envelope) → EnvelopeFits e → EnvelopeFits (turns_of k g root e)
unfolding turns_of
turns_fit k g root e h = turn-fits k _ _ _ _ (second_fits k root) (turn-fits k _ _ _ e (first_fits k _ root) h)

shape_fits : (k g : List Float) (l0 l3 : Float) → Fits l0 → Fits l3 → EnvelopeFits (shape_of k g l0 l3)
unfolding shape_by
shape_fits k g l0 l3 p q = turns_fit k g _ _ (ends_fit l0 l3 p q)

sigma-fits : (e : Envelope) (is_max : Bool) → EnvelopeFits e → Fits (sigma_of e is_max)
unfolding sigma_of
sigma-fits e is_max h = cond-fits binary32 is_max _ _ h.smax h.smin

peak-fits : (e : Envelope) (is_max : Bool) → EnvelopeFits e → Fits (peak_of e is_max)
unfolding peak_of
peak-fits e is_max h = cond-fits binary32 is_max _ _ h.emax h.emin

-- ---- the record

admitted_held : (m : Maps) (row col : ℕ) (is_max : Bool) (r : Record) → r.key < 2 ^ 32 → AdmitsAt m row col is_max r → Held r
unfolding record_of anchor_of delta_xOf delta_yOf
admitted_held m row col is_max r word a =
    let moved = accepted_displaced ours m.set m.thresholds.ratio (cubics_at m.set (nine_at m row col)) _ a.spot a.refinement in
    let l = own_samples_fit m row col in
    let e = shape_fits _ m.set.sigmas _ _ l.s0 l.s3 in
    let made = a.record_of_spot in
    rw made record {
      x = rw moved.x (add-fits binary32 _ _);
      y = rw moved.y (add-fits binary32 _ _);
      sigma = rw moved.sigma (sigma-fits _ is_max e);
      peak = rw moved.peak (peak-fits _ is_max e);
      s0 = l.s0;
      s1 = l.s1;
      s2 = l.s2;
      s3 = l.s3;
      key = rw made at word;
      dx = kept-fits _ (rw moved.dx-is (div-fits binary32 _ _));
      dy = kept-fits _ (rw moved.dy-is (div-fits binary32 _ _));
    }

-- Each listed record of a map with sides to 4,096 holds only values of binary32, and its key is a word.
pub list_held : (m : Maps) (r : Record) → m.frame.rows ≤ 4096 → m.frame.cols ≤ 4096 → Stands (due m) r → Held r
list_held m r rows-most cols-most h =
    let a = (list_is m r).0 h in
    let below = (readable_parts m.frame.rows m.frame.cols r (join_accepts m r h)).key in
    admitted_held m a.row a.col a.is_max r (omega (arith, area rows-most cols-most)) a.rules
