-- What is left of each call's proof, over plain values. Assumes nothing.
use Rattle.std.specs.Prelude.{Ok, Err}
use Prim.Native.Nat.{ℕ, ◌*◌, ◌/◌, ◌%◌}
use mathlib.Core.Path.{◌≡◌, sym, ◌∙◌}
use mathlib.Core.List.{List}
use lib.ListN.{length}
use lib.Seq.{sets}
use borrow.Author.Tests.{eq-eqb, ne_eqb}
use Rattle.tables.specs.declared.Refusal.TheVariants.{Records}
use Rattle.tables.specs.Refusal.{first_of, unless}
use Rattle.record.specs.Layout.{spot_width}
use Rattle.store.specs.declared.Stored.TheVariants.{Done, At, Live}
use Rattle.store_slots.specs.Slots.{free_bytes, is_free, slots_of, flat, first_where}
use Rattle.store.specs.Store.{Clear, Add, Strike, CloseUp, call_checks, live_slots, closed_up, answer_of, slots_after, outcome, call_of}
use Rattle.store.specs.Steps.{Whole, freed}
use Rattle.store_slots.proofs.SlotLaws.{length-free, count_of, live_inside, slots_set}
use Rattle.store.proofs.StoreLaws.{call_done, call_refused, add-passed, strike_passed}
use Rattle.store.proofs.MovingLaws.{freed-all}

pub clear-done : (b b' : List ℕ) → Whole b → b' ≡ freed b 0 → outcome (Ok Done) b' ≡ call_of Clear b
unfolding call_checks first_of unless answer_of slots_after
clear-done b b' h e = sym (call_done Clear b (rw (eq-eqb (length b % spot_width) 0 h)) ∙ rw (e, freed-all b, count_of b))

pub clear-refused : (b : List ℕ) → (length b % spot_width ≡ 0 → ⊥) → outcome (Err (Records (length b / spot_width))) b ≡ call_of Clear b
unfolding call_checks first_of unless
clear-refused b h = sym (call_refused Clear b (Records (length b / spot_width)) (rw (ne_eqb (length b % spot_width) 0 h)))

pub add_done : (rows cols : ℕ) (new b b' : List ℕ) (i : ℕ) → first_of (call_checks (Add rows cols new) b) ≡ Ok tt → i ≡ first_where is_free (slots_of b)
    → b' ≡ sets b (i * spot_width) new → outcome (Ok (At i)) b' ≡ call_of (Add rows cols new) b
unfolding answer_of slots_after
add_done rows cols new b b' i fine i-is b-is =
    let p = add-passed rows cols new b fine in
    sym (call_done (Add rows cols new) b fine ∙ rw (b-is, i-is, slots_set b (first_where is_free (slots_of b)) new p.store.whole p.long p.room))

pub strike_done : (rows cols i : ℕ) (b b' : List ℕ) → first_of (call_checks (Strike rows cols i) b) ≡ Ok tt → b' ≡ sets b (i * spot_width) free_bytes
    → outcome (Ok Done) b' ≡ call_of (Strike rows cols i) b
unfolding answer_of slots_after
strike_done rows cols i b b' fine b-is =
    let p = strike_passed rows cols b i fine in
    sym (call_done (Strike rows cols i) b fine ∙ rw (b-is, slots_set b i free_bytes p.0.whole length-free (live_inside b i p.1)))

pub close-done : (rows cols n : ℕ) (b b' : List ℕ) → first_of (call_checks (CloseUp rows cols) b) ≡ Ok tt → n ≡ length (live_slots (slots_of b))
    → b' ≡ flat (closed_up (slots_of b)) → outcome (Ok (Live n)) b' ≡ call_of (CloseUp rows cols) b
unfolding answer_of slots_after
close-done rows cols n b b' fine n-is b-is = sym (call_done (CloseUp rows cols) b fine ∙ rw (n-is, b-is))
