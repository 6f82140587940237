-- A buffer that records are laid into, as a taker, and its laws.
use Rattle.std.proofs.Common.{◌≡◌, ◌-◌, ◌^◌, false, List, refl, ◌∙◌, arith}
use mathlib.Core.Bool.{false≢true}
use Rattle.record.specs.declared.Record.{Record}
use Rattle.record.specs.Layout.{Laid}
use Rattle.record.proofs.LayoutLaws.{laid_none, laid-append}
use Rattle.detect.specs.declared.candidates.Laying.{Laying}
use Rattle.detect.specs.Taker.{TakerLaws}

-- the records laid into the same buffer
abbrev pub LaidIn : Laying → List Record → Laying → Type 0
LaidIn s ds t = Laid s.out.now t.out.now s.n t.n ds × (t.out.ghost_name ≡ s.out.ghost_name)

-- it is never full
pub laying_laws : TakerLaws LaidIn (λ s. 2 ^ 32 - s.n) (λ s. false)
laying_laws = record {
  none = λ s. (laid_none, refl);
  parts = λ s t u ds es p q. (laid-append p.0 q.0, q.1 ∙ p.1);
  room_left = λ s t ds p. omega (arith, p.0.count);
  full_stays = λ s ds h. absurd (false≢true h);
}
