-- What the laws of the verdict say of a map's pixels. Assumes nothing.
use Rattle.std.specs.Prelude.{Some, None}
use Prim.Native.Nat.{ℕ, ◌+◌, ◌*◌}
use mathlib.Core.Path.{◌≡◌}
use mathlib.Core.Bool.{Bool, false}
use Rattle.record.specs.declared.Record.{Record}
use Rattle.pixel.specs.Verdict.{whole_of, polarity_of}
use Rattle.pixel.proofs.VerdictLaws.{listed_admits, admits_listed, listed-key, listed-polarity, not-whole}
use Rattle.samples.specs.Level.{Maps, nine_at}
use Rattle.detect.specs.Due.{judge_of}
use Rattle.demands.specs.List.{AdmitsAt}

module _ (m : Maps) (row col : ℕ) (is_max : Bool) where
  pub judged-nothing : whole_of (nine_at m row col) ≡ false → judge_of m row col is_max ≡ None
  unfolding judge_of
  judged-nothing = not-whole m.set m.thresholds m.frame (nine_at m row col) row col is_max

  module _ (r : Record) where
    -- what a pixel lists meets the rules
    pub judged_admits : judge_of m row col is_max ≡ Some r → AdmitsAt m row col is_max r
    unfolding judge_of
    judged_admits = listed_admits m.set m.thresholds m.frame (nine_at m row col) row col is_max r

    -- what meets the rules is listed
    pub admits_judged : AdmitsAt m row col is_max r → judge_of m row col is_max ≡ Some r
    unfolding judge_of
    admits_judged = admits_listed m.set m.thresholds m.frame (nine_at m row col) row col is_max r

    pub judged-key : judge_of m row col is_max ≡ Some r → r.key ≡ row * m.frame.cols + col
    unfolding judge_of
    judged-key = listed-key m.set m.thresholds m.frame (nine_at m row col) row col is_max r

    pub judged-polarity : judge_of m row col is_max ≡ Some r → r.polarity ≡ polarity_of is_max
    unfolding judge_of
    judged-polarity = listed-polarity m.set m.thresholds m.frame (nine_at m row col) row col is_max r
