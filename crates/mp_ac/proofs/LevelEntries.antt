-- The entries that levels have.
use Rattle.std.proofs.Common.{◌≡◌, ℕ, zero, suc, ◌<◌, ◌≤◌, List, [], ◌∷◌, length, map, take, refl, ap, sym}
use Rattle.std.proofs.Common.{subst, arith, slice_index_or}
use Rattle.std.specs.Prelude.{Some, None, slice_get}
use Rattle.mp_table.specs.Table.{Table, HasRanks}
use Rattle.mp_search.specs.declared.level.Level.{Level}
use Rattle.mp_search.specs.Levels.{AreLevels, IsRoomy, IsOver}
use Rattle.mp_search.specs.Reading.{entry_of, table_of}
use Rattle.mp_term.proofs.ListLaws.{all-index}

-- what stands at a place in front of a list, and behind its end
get-front : {X Y : Type 0} (f : X → Y) (xs : List X) (k n : ℕ) (x : X) → n < k → n < length xs
    → x ≡ slice_index_or xs n x → slice_get (map f (take k xs)) n ≡ Some (f x)
get-front f [] k n x h l e = absurd (omega (arith, l))
get-front f (y ∷ xs) zero n x h l e = absurd (omega (arith, h))
get-front f (y ∷ xs) (suc k) zero x h l e = ap (λ z. Some (f z)) (sym e)
get-front f (y ∷ xs) (suc k) (suc n) x h l e = get-front f xs k n x (omega (arith, h)) (omega (arith, l)) e

get-behind : {X Y : Type 0} (f : X → Y) (xs : List X) (k n : ℕ) → k ≤ n → slice_get (map f (take k xs)) n ≡ None
get-behind f [] zero n h = refl
get-behind f [] (suc k) n h = refl
get-behind f (y ∷ xs) zero n h = refl
get-behind f (y ∷ xs) (suc k) zero h = absurd (omega (arith, h))
get-behind f (y ∷ xs) (suc k) (suc n) h = get-behind f xs k n (omega (arith, h))

module _ (t : Table) (k : ℕ) (ls : List Level) (node : ℕ) where
  -- there is none behind so many levels
  pub level-behind : k ≤ node → slice_get (table_of t (take k ls)) node ≡ None
  level-behind h = get-behind (entry_of t) ls k node h

  -- and each of them has one
  pub level-at : (l : Level) → node < k → k ≤ length ls → l ≡ slice_index_or ls node l
      → slice_get (table_of t (take k ls)) node ≡ Some (entry_of t l)
  level-at l h m e = get-front (entry_of t) ls k node l h (omega (arith, h, m)) e

  -- whose ranks the table has
  pub level-ranks : (w : ℕ) (l : Level) → AreLevels t w ls → node < k → k ≤ length ls → l ≡ slice_index_or ls node l
      → HasRanks t l.take.items.items
  level-ranks w l a h m e =
      (subst (λ k. IsRoomy w k × IsOver t k) (sym e) (all-index (λ k. IsRoomy w k × IsOver t k) ls node l a
      (omega (arith, h, m)))).1.0
