-- A given list that is followed, as what takes the due records, and its laws.
use Rattle.std.proofs.Common.{◌≡◌, ◌^◌, Bool, not, List, refl, sym, ◌∙◌, arith}
use borrow.Author.Tests.{not-true}
use Rattle.record.specs.declared.Record.{Record}
use Rattle.detect.specs.Taker.{TakerLaws}
use Rattle.follow.specs.Follow.{walk_of, is_going}
use Rattle.follow.proofs.WalkLaws.{walk_none, walk_append, over_stays}
use Rattle.partner.specs.declared.pixels.Following.{Following}

-- the same list, followed beside the records too
abbrev pub Followed : Following → List Record → Following → Type 0
Followed s ds t = (t.list.now ≡ s.list.now) × (t.walk ≡ walk_of s.list.now s.walk ds)

-- the first difference was found
abbrev pub over : Following → Bool
over s = not (is_going s.walk)

-- it has room for any due list
pub following_laws : TakerLaws Followed (λ s. 2 ^ 25) over
following_laws = record {
  none = λ s. (refl, sym (walk_none _ _));
  parts = λ s t u ds es p q. (q.0 ∙ p.0, q.1 ∙ rw (p.0, p.1) (sym (walk_append s.list.now s.walk ds es)));
  room_left = λ s t ds p. omega arith;
  full_stays = λ s ds h. (refl, sym (over_stays s.list.now s.walk ds (not-true (is_going s.walk) h)));
}
