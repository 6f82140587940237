-- A worked case, and one for each function that has them: arguments and answers by bit patterns. Definitions only.
use Rattle.std.specs.Prelude.{ℕ, suc, List, [], ◌∷◌, Bool, Float, Result, Ok, Err}
use Rattle.std.specs.Float.{binary32}
use Rattle.std.specs.Float.Ieee.{of_bits, to_bits}
use Rattle.float.specs.Sqrt.{sqrt_of}
use Rattle.logexp.specs.Log.{log2_of}
use Rattle.whole.specs.Nearest.{nearest_of}
use Rattle.tables.specs.Refusal.{number, value}
use Rattle.tables.specs.declared.Refusal.{Refusal}
use Rattle.tables.specs.SetT.{values}
use Rattle.tables.specs.declared.Set.{Set}
use Rattle.fit.specs.Cubic.{horner_of}
use Rattle.fit.specs.Band.{extreme_of}
use Rattle.fit.specs.Envelope.{envelope_of}
use Rattle.fit.specs.declared.Envelope.{Envelope}
use Rattle.profile.specs.Profile.{statistic_of}
use Rattle.profile.specs.Causes.{place_of}
use Rattle.size.specs.Correct.{correct_of}
use Rattle.pyramid.specs.Pyramid.{octave_count_of}
use Rattle.profile.specs.declared.Absence.{Absence}

-- a case in bit patterns, bytes or numbers: what the definitions give, and what document 01 says
pub record Case : Type 0 where
  pub given : List ℕ
  pub due : List ℕ

-- the root of a pattern
unfoldable pub root_case : ℕ → ℕ → Case
root_case x due = record { given = to_bits binary32 (sqrt_of (of_bits binary32 x)) ∷ []; due = due ∷ [] }

-- the logarithm of a pattern
unfoldable pub log_case : ℕ → ℕ → Case
log_case x due = record { given = to_bits binary32 (log2_of (of_bits binary32 x)) ∷ []; due = due ∷ [] }

-- the whole number nearest to a pattern's value
unfoldable pub nearest_case : ℕ → ℕ → Case
nearest_case x due = record { given = nearest_of (of_bits binary32 x) ∷ []; due = due ∷ [] }

-- a cubic's value at s
unfoldable pub value_case : List ℕ → ℕ → ℕ → Case
value_case k s due = record { given = to_bits binary32 (horner_of (values k) (of_bits binary32 s)) ∷ []; due = due ∷ [] }

-- a cubic's extreme over a band
unfoldable pub extreme_case : List ℕ → ℕ → ℕ → Bool → ℕ → Case
extreme_case k low high is_max due = record { given = to_bits binary32 (extreme_of (values k) (of_bits binary32 low) (of_bits binary32 high) is_max) ∷ []; due = due ∷ [] }

-- the octave count of a square level
unfoldable pub count_case : ℕ → ℕ → Case
count_case side due = record { given = octave_count_of side side ∷ []; due = due ∷ [] }

-- the patterns of an envelope: least, largest, and the sigma of each
unfoldable pub of_envelope : Envelope → List ℕ
of_envelope e = to_bits binary32 e.emin ∷ to_bits binary32 e.emax ∷ to_bits binary32 e.smin ∷ to_bits binary32 e.smax ∷ []

-- the envelope of four samples, by a table and the sigmas
unfoldable pub envelope_case : List Float → List Float → List ℕ → List ℕ → Case
envelope_case t g l due = record { given = of_envelope (envelope_of t g (values l)); due = due }

-- 0 and the pattern of a statistic; the number of its cause where there is none
unfoldable pub of_statistic : Result Float Absence → List ℕ
of_statistic (Ok x) = 0 ∷ to_bits binary32 x ∷ []
of_statistic (Err why) = suc (place_of why) ∷ []

-- the profile statistic of four samples under the sigmas
unfoldable pub statistic_case : List Float → List ℕ → List ℕ → Case
statistic_case sigmas l due = record { given = of_statistic (statistic_of sigmas (values l)); due = due }

-- 0 and the pattern of a size; the number of a refusal and the value beside it
unfoldable pub of_correction : Result Float Refusal → List ℕ
of_correction (Ok sigma) = 0 ∷ to_bits binary32 sigma ∷ []
of_correction (Err refusal) = number refusal ∷ value refusal ∷ []

-- a spot with these samples and this sigma, corrected under a set
unfoldable pub correction_case : Set → List ℕ → ℕ → Bool → List ℕ → Case
correction_case s samples sigma is_max due = record { given = of_correction (correct_of s (values samples) (of_bits binary32 sigma) is_max); due = due }
