-- Laws of freeing slots and of moving live ones down, turn by turn. Assumes nothing.
use Prim.Native.Nat.{ℕ, suc, ◌+◌, ◌-◌, ◌*◌, ◌/◌, ◌≤◌, ◌<◌}
use native.Mathlib.Numerals.{add-one}
use native.Mathlib.Omega.{arith}
use mathlib.Core.Bool.{Bool, true, false, cond}
use mathlib.Core.Path.{◌≡◌, refl, sym, ap, ◌∙◌}
use mathlib.Core.List.{List, [], ◌∷◌, ◌++◌, append_assoc, append-nil}
use lib.ListN.{length, get_or, take, drop, set, replicate, length-set, length-append}
use lib.Seq.{sets, length-sets, take_all, take-suc, take-suc-set, drop-set-lt, drop-drop, get_or-drop}
use Rattle.record.specs.Layout.{spot_width}
use Rattle.store_slots.specs.Slots.{free_bytes, is_free, slots_of, flat}
use Rattle.store.specs.Store.{live_slots, closed_up}
use Rattle.store.specs.Steps.{Whole, freed, moved, moved_to}
use Rattle.store_slots.proofs.SlotLaws.{sized_set, sized_slots, sized_at, length-free, length-flat, slots_of-flat, flat-slots_of, slots_set, count_of, slots_stored}

-- ---- freeing

pub freed-next : (b : List ℕ) (k : ℕ) → Whole b → k < length b / spot_width → freed (sets b (k * spot_width) free_bytes) (k + 1) ≡ freed b k
unfolding freed
freed-next b k h l =
    let n : ℕ = length b / spot_width in
    let inside : k < length (slots_of b) = omega (arith, count_of b) in
    let left : n - k ≡ suc (n - suc k) = omega arith in
    rw (slots_stored b k free_bytes h length-free l, length-sets b (k * spot_width) free_bytes, add-one, take-suc-set (slots_of b) k free_bytes inside, left)
    (ap flat (append_assoc (take k (slots_of b)) (free_bytes ∷ []) (replicate (n - suc k) free_bytes)))

pub freed_end : (b : List ℕ) (k : ℕ) → Whole b → length b / spot_width ≤ k → freed b k ≡ b
unfolding freed
freed_end b k h l =
    let none : length b / spot_width - k ≡ 0 = omega arith in
    rw (none, take_all k (slots_of b) (omega (arith, count_of b)), append-nil (slots_of b)) (flat-slots_of b h)

pub freed-all : (b : List ℕ) → freed b 0 ≡ flat (replicate (length b / spot_width) free_bytes)
unfolding freed
freed-all b = let all : length b / spot_width - 0 ≡ length b / spot_width = omega arith in rw all

-- ---- moving down

live-append : (ss tt : List (List ℕ)) → live_slots (ss ++ tt) ≡ live_slots ss ++ live_slots tt
unfolding live_slots
live-append [] tt = refl
live-append (s ∷ ss) tt = go (is_free s) (live-append ss tt)
  where
    go : (t : Bool) → live_slots (ss ++ tt) ≡ live_slots ss ++ live_slots tt
        → cond t (live_slots (ss ++ tt)) (s ∷ live_slots (ss ++ tt)) ≡ cond t (live_slots ss) (s ∷ live_slots ss) ++ live_slots tt
    go true h = h
    go false h = ap {B = List (List ℕ)} (λ r. s ∷ r) h

-- the slots below i looked at, their live ones moved to the first n places; the others as they were
pub record Packed (b₀ b : List ℕ) (i n : ℕ) : Type 0 where
  pub long : length b ≡ length b₀
  pub low : n ≤ i
  pub count : n ≡ length (live_slots (take i (slots_of b₀)))
  pub first : take n (slots_of b) ≡ live_slots (take i (slots_of b₀))
  pub rest : drop i (slots_of b) ≡ drop i (slots_of b₀)

pub packed_start : (b : List ℕ) → Packed b b 0 0
unfolding live_slots
packed_start b = record { long = refl; low = omega arith; count = refl; first = refl; rest = refl }

module _ {b₀ b : List ℕ} {i n : ℕ} (p : Packed b₀ b i n) (whole : Whole b₀) (inside : i < length b₀ / spot_width) where
  abbrev own : List ℕ
  own = get_or (slots_of b₀) i []

  whole_now : Whole b
  whole_now = rw p.long whole

  own_now : get_or (slots_of b) i [] ≡ own
  own_now =
      let e : i + 0 ≡ i = omega arith in
      ap (λ (k : ℕ). get_or (slots_of b) k []) (sym e) ∙ sym (get_or-drop i (slots_of b) 0 []) ∙ ap (λ (l : List (List ℕ)). get_or l 0 []) p.rest ∙ get_or-drop i (slots_of b₀) 0 [] ∙ ap (λ (k : ℕ). get_or (slots_of b₀) k []) e

  one_more : take (i + 1) (slots_of b₀) ≡ take i (slots_of b₀) ++ (own ∷ [])
  one_more = rw add-one (take-suc (slots_of b₀) i [] (omega (arith, count_of b₀)))

  rest_more : drop (i + 1) (slots_of b) ≡ drop (i + 1) (slots_of b₀)
  rest_more = sym (drop-drop 1 i (slots_of b)) ∙ ap (drop 1) p.rest ∙ drop-drop 1 i (slots_of b₀)

  live-free : is_free own ≡ true → live_slots (take (i + 1) (slots_of b₀)) ≡ live_slots (take i (slots_of b₀))
  unfolding live_slots
  live-free e = rw (one_more, live-append (take i (slots_of b₀)) (own ∷ []), e) (append-nil (live_slots (take i (slots_of b₀))))

  live_more : is_free own ≡ false → live_slots (take (i + 1) (slots_of b₀)) ≡ live_slots (take i (slots_of b₀)) ++ (own ∷ [])
  unfolding live_slots
  live_more e = rw (one_more, live-append (take i (slots_of b₀)) (own ∷ []), e)

  own-long : length own ≡ spot_width
  own-long = sized_at (slots_of b₀) i [] (sized_slots b₀) (omega (arith, count_of b₀))

  moved_slots : slots_of (flat (set (slots_of b) n own)) ≡ set (slots_of b) n own
  moved_slots = slots_of-flat (set (slots_of b) n own) (sized_set (slots_of b) n own (sized_slots b) own-long)

  moved-long : length (flat (set (slots_of b) n own)) ≡ length b
  moved-long =
      omega (arith, length-flat (set (slots_of b) n own) (sized_set (slots_of b) n own (sized_slots b) own-long), length-set (slots_of b) n own, count_of b, whole_now)

  pub packed-next : Packed b₀ (moved_to b i n) (i + 1) (moved b i n)
  unfolding moved_to moved
  packed-next = rw own_now (go (is_free own) refl)
    where
      go : (t : Bool) → is_free own ≡ t → Packed b₀ (cond t b (flat (set (slots_of b) n own))) (i + 1) (cond t n (suc n))
      go true e = record {
        long = p.long;
        low = omega (arith, p.low);
        count = rw (live-free e) p.count;
        first = rw (live-free e) p.first;
        rest = rest_more;
      }
      go false e =
          let room : n < length (slots_of b) = omega (arith, count_of b, p.low, p.long) in
          record {
            long = moved-long ∙ p.long;
            low = omega (arith, p.low);
            count = rw (live_more e) (omega (arith, length-append (live_slots (take i (slots_of b₀))) (own ∷ []), p.count));
            first = rw (moved_slots, take-suc-set (slots_of b) n own room, live_more e, p.first);
            rest = rw (moved_slots, drop-set-lt (i + 1) (slots_of b) n own (omega (arith, p.low))) rest_more;
          }

pub packed_end : {b₀ b : List ℕ} {i n : ℕ} → Packed b₀ b i n → i ≡ length b₀ / spot_width → (n ≡ length (live_slots (slots_of b₀))) × (freed b n ≡ flat (closed_up (slots_of b₀)))
unfolding freed closed_up
packed_end {b₀} {b} {i} {n} p e =
    let all : take i (slots_of b₀) ≡ slots_of b₀ = take_all i (slots_of b₀) (omega (arith, count_of b₀)) in
    let count : n ≡ length (live_slots (slots_of b₀)) = rw all at p.count in
    let first : take n (slots_of b) ≡ live_slots (slots_of b₀) = rw all at p.first in
    let left : length b / spot_width - n ≡ length (slots_of b₀) - length (live_slots (slots_of b₀)) = omega (arith, count_of b₀, p.long, count) in
    (count, rw (first, left))

-- ---- one slot moved

pub moved-free : (b : List ℕ) (i n : ℕ) → is_free (get_or (slots_of b) i []) ≡ true → (n ≡ moved b i n) × (b ≡ moved_to b i n)
unfolding moved moved_to
moved-free b i n e = (rw e, rw e)

pub moved-live : (b : List ℕ) (i n : ℕ) (s b' : List ℕ) → Whole b → n < length b / spot_width → length s ≡ spot_width → s ≡ get_or (slots_of b) i [] → is_free s ≡ false
    → b' ≡ sets b (n * spot_width) s → (n + 1 ≡ moved b i n) × (b' ≡ moved_to b i n)
unfolding moved moved_to
moved-live b i n s b' h l w s-is e b-is =
    let one : n + 1 ≡ suc n = omega arith in
    (rw (← s-is, e, one), rw (← s-is, e) (b-is ∙ slots_set b n s h w l))
