-- Laws of a buffer that a reader fills part by part.
use Rattle.std.proofs.Common.{ℕ, ◌+◌, ◌≤◌, ◌≡◌, sym, ap, ◌∙◌, List, ◌++◌, length, take, Option}
use borrow.Rule.Slice.PartMut.{put_mid, post_of}
use lib.Seq.{length-take-le}
use Rattle.std.specs.Io.KnownBytes.{Consumes}
use Rattle.std.proofs.KnownBytes.{Consumes-trans}
use Rattle.std.proofs.Math.Seq.{take-append-add}
use Rattle.std.proofs.lemmas.List.{take-append-le}

-- the first bytes of a buffer into which a part was written from the byte a on
take_put : (a k n : ℕ) (b part : List ℕ) → a ≤ length b → n ≤ length part → take (a + n) (put_mid a k b part) ≡ take a b ++ take n part
take_put a k n b part p q =
    let room : length (take a b) ≡ a = length-take-le a b p in
    ap (λ (m : ℕ). take (m + n) (put_mid a k b part)) (sym room)
    ∙ take-append-add (take a b) (part ++ post_of a k b) n
    ∙ ap (λ (l : List ℕ). take a b ++ l) (take-append-le n part (post_of a k b) q)

-- one read more
pub consumes_next : (x y z : Option (List ℕ)) (a k n : ℕ) (b part : List ℕ) → a ≤ length b → n ≤ length part
    → Consumes x y (take a b) → Consumes y z (take n part) → Consumes x z (take (a + n) (put_mid a k b part))
consumes_next x y z a k n b part p q first next = rw (take_put a k n b part p q) (Consumes-trans x y z (take a b) (take n part) first next)
