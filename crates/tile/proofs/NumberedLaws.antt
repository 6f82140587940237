-- Laws of numbered records' bytes. Assumes nothing.
use Prim.Native.Nat.{ℕ, suc, ◌*◌}
use native.Mathlib.Omega.{arith}
use mathlib.Core.Path.{◌≡◌, refl, ap, ◌∙◌}
use mathlib.Core.List.{List, [], ◌∷◌, ◌++◌, map, append-nil, append_assoc}
use lib.ListN.{length, length-append}
use Rattle.tables.specs.declared.Set.{Set}
use Rattle.record.specs.declared.Record.{Record}
use Rattle.words.specs.Words.{half_bytes}
use Rattle.sized.proofs.SizedLaws.{length-sized_bytes}
use Rattle.tile.specs.Numbered.{numbered_width, Numbered, numbered, numbered_bytes, all_bytes, tile_bytes}

pub length-numbered : (s : Set) (p : Numbered) → length (numbered_bytes s p) ≡ numbered_width
unfolding numbered_bytes half_bytes
length-numbered s p = omega (arith, length-sized_bytes s p.spot)

pub length-all_bytes : (s : Set) (ps : List Numbered) → length (all_bytes s ps) ≡ length ps * numbered_width
unfolding all_bytes
length-all_bytes s [] = refl
length-all_bytes s (p ∷ ps) = rw (length-append, length-numbered s p, length-all_bytes s ps) (omega arith)

pub all_append : (s : Set) (ps qs : List Numbered) → all_bytes s (ps ++ qs) ≡ all_bytes s ps ++ all_bytes s qs
unfolding all_bytes
all_append s [] qs = refl
all_append s (p ∷ ps) qs = rw (all_append s ps qs, append_assoc)

pub long-map : {A B : Type 0} (f : A → B) (xs : List A) → length (map f xs) ≡ length xs
long-map f [] = refl
long-map f (x ∷ xs) = ap suc (long-map f xs)

pub length-tile_bytes : (s : Set) (i j : ℕ) (rs : List Record) → length (tile_bytes s i j rs) ≡ length rs * numbered_width
length-tile_bytes s i j rs = length-all_bytes s (map (numbered i j) rs) ∙ ap (λ (n : ℕ). n * numbered_width) (long-map (numbered i j) rs)

-- one record more
pub tile_snoc : (s : Set) (i j : ℕ) (rs : List Record) (r : Record) → tile_bytes s i j (rs ++ (r ∷ [])) ≡ tile_bytes s i j rs ++ numbered_bytes s (numbered i j r)
unfolding all_bytes
tile_snoc s i j [] r = append-nil (numbered_bytes s (numbered i j r))
tile_snoc s i j (x ∷ rs) r = rw (tile_snoc s i j rs r, append_assoc)
