-- What the face of the reader of a partner's list answers, as one value of its input. Definitions only.
use Rattle.std.specs.Prelude.{ℕ, List, Float, Result, Ok, Err}
use Rattle.tables.specs.declared.Thresholds.{Thresholds}
use Rattle.tables.specs.declared.Refusal.{Refusal}
use Rattle.tables.specs.Refusal.{number, value, read_or_blank}
use Rattle.follow.specs.declared.Finding.{Finding}
use Rattle.follow.specs.declared.Finding.TheVariants.{Yes, Extra, Absent, Different}
use Rattle.partner.specs.Partner.{partner_of}
use Rattle.face_partner.specs.declared.Told.{Told}

-- a number, a finding's number and a value, given one by one
abbrev pub told : ℕ → ℕ → ℕ → Told
told n f v = record { number = n; finding = f; value = v }

-- a finding: 1 for yes, 2 extra, 3 absent, 4 different, with the index of the first record that differs
unfoldable pub found_told : Finding → Told
found_told Yes = told 0 1 0
found_told (Extra i) = told 0 2 i
found_told (Absent i) = told 0 3 i
found_told (Different i) = told 0 4 i

-- a refused call has no finding: 0, which is not yes
unfoldable pub reply_told : Result Finding Refusal → Told
reply_told (Ok f) = found_told f
reply_told (Err w) = told (number w) 0 (value w)

-- the reader under the set that the record holds; a refused record gives the set of zeros, which is not good
unfoldable pub accept_face : List ℕ → Thresholds → ℕ → ℕ → ℕ → List Float → List Float → List Float → List Float → List ℕ → Told
accept_face set th rows cols octave l0 l1 l2 l3 b = reply_told (partner_of (read_or_blank set) th rows cols octave l0 l1 l2 l3 b)
