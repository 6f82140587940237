-- Records, verdicts and lists that differ at most in the signs of zero peaks. Definitions only.
use Rattle.std.specs.Prelude.{◌≡◌, List, [], ◌∷◌, Float, Option, Some, None}
use Rattle.float.specs.Num.{f0}
use Rattle.fit.specs.Near.{Near}
use Rattle.record.specs.declared.Record.{Record}

-- two records: each field equal, but the peaks equal or both zeros
pub record RecordNear (a b : Record) : Type 0 where
  pub x : a.x ≡ b.x
  pub y : a.y ≡ b.y
  pub sigma : a.sigma ≡ b.sigma
  pub peak : Near a.peak b.peak
  pub s0 : a.s0 ≡ b.s0
  pub s1 : a.s1 ≡ b.s1
  pub s2 : a.s2 ≡ b.s2
  pub s3 : a.s3 ≡ b.s3
  pub key : a.key ≡ b.key
  pub octave : a.octave ≡ b.octave
  pub index : a.index ≡ b.index
  pub polarity : a.polarity ≡ b.polarity
  pub spare : a.spare ≡ b.spare
  pub dx : a.dx ≡ b.dx
  pub dy : a.dy ≡ b.dy

-- two verdicts: both list nothing, or both list such records
pub data VerdictNear : Option Record → Option Record → Type 0 where
  nothing : VerdictNear None None
  listed : {a b : Record} → RecordNear a b → VerdictNear (Some a) (Some b)

-- two lists of one length, place by place such records
pub data RecordsNear : List Record → List Record → Type 0 where
  none : RecordsNear [] []
  more : {a b : Record} {rs ts : List Record} → RecordNear a b → RecordsNear rs ts → RecordsNear (a ∷ rs) (b ∷ ts)

-- the record r with the peak v
unfoldable pub with_peak : Record → Float → Record
with_peak r v = record {
  x = r.x;
  y = r.y;
  sigma = r.sigma;
  peak = v;
  s0 = r.s0;
  s1 = r.s1;
  s2 = r.s2;
  s3 = r.s3;
  key = r.key;
  octave = r.octave;
  index = r.index;
  polarity = r.polarity;
  spare = r.spare;
  dx = r.dx;
  dy = r.dy;
}

-- a list's records with every peak put to +0: all that they say but the peaks
unfoldable pub peakless : List Record → List Record
peakless [] = []
peakless (r ∷ rs) = with_peak r f0 ∷ peakless rs
