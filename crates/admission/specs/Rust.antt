-- What the Rust's own tests let through: the verdict and the list without the test that document 01 adds, for any choice of zeros that the Rust leaves open. Definitions only.
use Rattle.std.specs.Prelude.{ℕ, zero, suc, ◌+◌, ◌-◌, ◌*◌, Bool, true, false, cond, ◌&&◌, List, [], ◌++◌, Float, Option, Some, None}
use Rattle.tables.specs.declared.Set.{Set}
use Rattle.tables.specs.declared.Thresholds.{Thresholds}
use Rattle.fit.specs.Cubic.{◌at◌}
use Rattle.fit.specs.Prims.{Prims, ours}
use Rattle.fit.specs.Envelope.{shape_by}
use Rattle.fit.specs.Band.{band_by}
use Rattle.fit.specs.declared.Envelope.{Envelope}
use Rattle.refine.specs.Refine.{refine_by}
use Rattle.record.specs.declared.Record.{Record}
use Rattle.pixel.specs.declared.Frame.{Frame}
use Rattle.pixel.specs.Gate.{sigma_of, peak_of, gate_by}
use Rattle.pixel.specs.Ring.{ring_by}
use Rattle.pixel.specs.Verdict.{anchor_of, record_of}
use Rattle.pixel.specs.Rules.{cubics_at, own_samples, own_cubic}
use Rattle.samples.specs.Level.{Maps, nine_at}
use Rattle.pixel.specs.Listed.{listed}
use Rattle.zeros.specs.Choices.{Choices, all_ours}
use Rattle.refine.specs.declared.Spot.{Spot}

-- the envelope of a pixel's own samples, by a choice of zeros
abbrev pub own_shape_by : Prims → Set → List (List Float) → Envelope
own_shape_by p s nine = shape_by p (own_cubic s nine) s.sigmas (own_samples nine at 0) (own_samples nine at 3)

-- an accepted spot's record is listed: it is not asked whether the join accepts it
unfoldable pub kept_of : List Float → ℕ → Option Spot → Option Record
kept_of l key (Some spot) = Some (record_of spot l key)
kept_of l key None = None

-- The verdict as verdict_by has it, but it is not asked whether all samples are finite: the pixel's own gates pass, its peak beats the eight neighbours, and the refinement accepts.
unfoldable pub rust_verdict_by : (ℕ → Prims) → Set → Thresholds → Frame → List (List Float) → ℕ → ℕ → Bool → Option Record
rust_verdict_by P s th f nine row col is_max =
    let k = cubics_at s nine in
    let l = own_samples nine in
    let e = own_shape_by (P 4) s nine in
    let sigma = sigma_of e is_max in
    let peak = peak_of e is_max in
    cond
    (gate_by (P 4) th l (own_cubic s nine) sigma peak is_max && ring_by P k peak (band_by (P 4) s.sigmas sigma) is_max)
    (kept_of l (row * f.cols + col) (refine_by (P 4) s th.ratio k (anchor_of row col sigma peak f.octave is_max)))
    None

-- with this build's choices of zeros
abbrev pub rust_verdict_of : Set → Thresholds → Frame → List (List Float) → ℕ → ℕ → Bool → Option Record
rust_verdict_of = rust_verdict_by (λ i. ours)

-- the verdict on a pixel of the map
unfoldable pub rust_judge_by : Choices → Maps → ℕ → ℕ → Bool → Option Record
rust_judge_by P m row col is_max = rust_verdict_by (P row col is_max) m.set m.thresholds m.frame (nine_at m row col) row col is_max

-- what the first n judged pixels of a row list, the minimum before the maximum at each
unfoldable pub rust_row_by : Choices → Maps → ℕ → ℕ → List Record
rust_row_by P m row zero = []
rust_row_by P m row (suc n) = rust_row_by P m row n ++ (listed (rust_judge_by P m row (n + 4) false) ++ listed (rust_judge_by P m row (n + 4) true))

-- what the first n judged rows list
unfoldable pub rust_rows_by : Choices → Maps → ℕ → List Record
rust_rows_by P m zero = []
rust_rows_by P m (suc n) = rust_rows_by P m n ++ rust_row_by P m (n + 4) (m.frame.cols - 8)

-- the whole list
unfoldable pub rust_due_by : Choices → Maps → List Record
rust_due_by P m = rust_rows_by P m (m.frame.rows - 8)

-- with this build's choices of zeros
abbrev pub rust_due : Maps → List Record
rust_due = rust_due_by all_ours
