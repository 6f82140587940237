-- What detection's face answers, and what it leaves in the buffer, as one value of its input. Definitions only.
use Rattle.std.specs.Prelude.{ℕ, List, Float, Result}
use Rattle.tables.specs.declared.Thresholds.{Thresholds}
use Rattle.tables.specs.declared.Refusal.{Refusal}
use Rattle.tables.specs.Refusal.{read_or_blank}
use Rattle.detect.specs.Detect.{Outcome, detect_of}
use Rattle.face.specs.Face.{Packed, Left, left, answer_packed}

-- 0 and the count, or the refusal's number and the value that goes with it
abbrev pub packed : Result ℕ Refusal → Packed
packed = answer_packed

-- what an outcome of detection leaves
abbrev pub left_by : Outcome → Left
left_by o = left (packed o.answer).number (packed o.answer).value o.buffer

-- detection under the set that the record holds; a refused record gives the set of zeros, which is not good
unfoldable pub detect_face : List ℕ → Thresholds → ℕ → ℕ → ℕ → List Float → List Float → List Float → List Float → List ℕ → Left
detect_face set th rows cols octave l0 l1 l2 l3 out = left_by (detect_of (read_or_blank set) th rows cols octave l0 l1 l2 l3 out)
