-- Rooms for takes, and levels that are given takes.
use Rattle.std.proofs.Common.{◌≡◌, ◌<◌, ◌≤◌, ◌+◌, ℕ, zero, suc, List, [], ◌∷◌, Bool, true, length, map, drop, refl, ap}
use Rattle.std.proofs.Common.{sym, ◌∙◌, subst, arith}
use Rattle.std.specs.Prelude.{slice_set, slice_index_or, slice_get, Some, None, ◌↔◌}
use Rattle.std.specs.Ordering.{is_eq}
use Rattle.std.specs.Cmp.{Equal-is, nat_cmp_total}
use Rattle.std.specs.Cmp.Lexicographic.{slice_cmp}
use Rattle.std.specs.FinMap.{slice_cmp-IsAntisymmetric}
use Rattle.std.proofs.lemmas.Cmp.{on_total, tied_itself, lists_total}
use Rattle.std.proofs.lemmas.List.{length-map}
use Rattle.mp_table.specs.Table.{Table, HasRanks, rank_cmp}
use Rattle.mp_table.specs.declared.rank.Rank.{Rank}
use Rattle.mp_search.specs.declared.level.Level.{Level}
use Rattle.mp_search.specs.Levels.{AreLevels, IsRoomy, IsOver, take_of, draws_of, rooms_of}
use Rattle.mp_cursor.specs.Kept.{HaveRoom, AreHeldTakes}
use Rattle.mp_subst.proofs.RankLists.{rank_same}
use Rattle.mp_term.proofs.ListLaws.{drop-at, drop-none, all-index, all-set}

pub room-lengths : (ns : List ℕ) (ts : List (List Rank × Bool)) → HaveRoom ns ts → length ns ≡ length ts
room-lengths [] [] h = refl
room-lengths [] (t ∷ ts) h = absurd h
room-lengths (n ∷ ns) [] h = absurd h
room-lengths (n ∷ ns) (t ∷ ts) h = ap suc (room-lengths ns ts h.1)

pub room-at : {X Y : Type 0} (f : X → ℕ) (g : Y → List Rank × Bool) (xs : List X) (ys : List Y) (i : ℕ) (x : X) (y : Y)
    → HaveRoom (map f xs) (map g ys) → i < length xs
    → length (g (slice_index_or ys i y)).0 ≤ f (slice_index_or xs i x)
room-at f g [] ys i x y h k = absurd (omega (arith, k))
room-at f g (z ∷ xs) [] i x y h k = absurd h
room-at f g (z ∷ xs) (w ∷ ys) zero x y h k = h.0
room-at f g (z ∷ xs) (w ∷ ys) (suc i) x y h k = room-at f g xs ys i x y h.1 (omega (arith, k))

-- a level with another take
pub set-over : (t : Table) (width : ℕ) (old new : Level) (rs : List Rank) (b : Bool) → IsRoomy width old × IsOver t old
    → HasRanks t rs → take_of new ≡ (rs, b) → draws_of new ≡ draws_of old
    → new.rest.items.items ≡ old.rest.items.items → rooms_of new ≡ rooms_of old → IsRoomy width new × IsOver t new
set-over t width old new rs b h p e d r q = (
  (
    subst (λ n. width ≤ n) (sym (ap (λ k. k.0) q)) h.0.0,
    subst (λ n. width ≤ n) (sym (ap (λ k. k.1) q)) h.0.1,
    subst (λ n. width ≤ n) (sym (ap (λ k. k.2) q)) h.0.2,
  ),
  (
    subst (HasRanks t) (sym (ap (λ k. k.0) e)) p,
    subst (HasRanks t) (sym (ap (λ k. k.1) d)) h.1.1,
    subst (HasRanks t) (sym r) h.1.2,
  ),
)

-- whether the first node may take the entry at a place, and the others those behind it
module _ (t : Table) (f : Level → ℕ) (es : List (List Rank × Bool)) (i : ℕ) where
  abbrev pub Fit : List Level → ℕ → Type 0
  Fit ls n = HaveRoom (map f ls) (drop n es) × AreHeldTakes t (drop n es)

  pub fit-none : (ls : List Level) → length ls < 1 → slice_get es i ≡ None → Fit ls i
  fit-none [] h e = rw (drop-none es i e) (tt, tt)
  fit-none (l ∷ ls) h e = absurd (omega (arith, h))

  pub fit-more : (ls : List Level) (e : List Rank × Bool) (d : Level) → 1 ≤ length ls → slice_get es i ≡ Some e
      → Fit ls i ↔ ((length e.0 ≤ f (slice_index_or ls 0 d)) × HasRanks t e.0 × Fit (drop 1 ls) (i + 1))
  fit-more [] e d h k = absurd (omega (arith, h))
  fit-more (l ∷ ls) e d h k = rw (drop-at es i e k) (
    λ a. (a.0.0, a.1.0, (a.0.1, a.1.1)),
    λ a. ((a.0, a.2.0), (a.1, a.2.1)),
  )

  pub fit-few : (ls : List Level) (e : List Rank × Bool) → length ls < 1 → slice_get es i ≡ Some e → Fit ls i → ⊥
  fit-few [] e h k = rw (drop-at es i e k) (λ a. a.0)
  fit-few (l ∷ ls) e h k = absurd (omega (arith, h))

  pub fit-many : (ls : List Level) → 1 ≤ length ls → slice_get es i ≡ None → Fit ls i → ⊥
  fit-many [] h k = absurd (omega (arith, h))
  fit-many (l ∷ ls) h k = rw (drop-none es i k) (λ a. a.0)

-- a place that is within the one list is within the other
pub room-within : {X Y : Type 0} (f : X → ℕ) (g : Y → List Rank × Bool) (ls xs : List X) (ys : List Y) (i : ℕ)
    → HaveRoom (map f xs) (map g ys) → length ls ≡ length xs → i < length ys → i < length ls
room-within f g ls xs ys i h e k =
    let a : length xs ≡ length ys =
    sym (length-map xs f) ∙ room-lengths (map f xs) (map g ys) h ∙ length-map ys g in
    omega (arith, a, e, k)

pub room-beyond : {X Y : Type 0} (f : X → ℕ) (g : Y → List Rank × Bool) (ls xs : List X) (ys : List Y) (i : ℕ)
    → HaveRoom (map f xs) (map g ys) → length ls ≡ length xs → length ys ≤ i → length ls ≤ i
room-beyond f g ls xs ys i h e k =
    let a : length xs ≡ length ys =
    sym (length-map xs f) ∙ room-lengths (map f xs) (map g ys) h ∙ length-map ys g in
    omega (arith, a, e, k)

-- the level of that place gets a take whose ranks the table has
pub set-levels : (t : Table) (width : ℕ) (ls : List Level) (i : ℕ) (d new : Level) (rs : List Rank) (b : Bool)
    → i < length ls → AreLevels t width ls → HasRanks t rs → take_of new ≡ (rs, b)
    → draws_of new ≡ draws_of (slice_index_or ls i d)
    → new.rest.items.items ≡ (slice_index_or ls i d).rest.items.items
    → rooms_of new ≡ rooms_of (slice_index_or ls i d) → AreLevels t width (slice_set ls i new)
set-levels t width ls i d new rs b h a p e q r s =
    all-set (λ l. IsRoomy width l × IsOver t l) ls i new a
    (set-over t width (slice_index_or ls i d) new rs b
    (all-index (λ l. IsRoomy width l × IsOver t l) ls i d a h) p e q r s)

-- lists of ranks that compare as equal are one
pub ranks-equal : (rs ss : List Rank) → is_eq (slice_cmp rank_cmp rs ss) ≡ true → rs ≡ ss
ranks-equal rs ss h = slice_cmp-IsAntisymmetric rank_same rs ss ((Equal-is (slice_cmp rank_cmp rs ss)).0 h)

pub ranks-itself : (rs : List Rank) → is_eq (slice_cmp rank_cmp rs rs) ≡ true
ranks-itself rs = ap is_eq (tied_itself (lists_total (on_total (λ r. r.0) nat_cmp_total)) rs)

-- there are as many entries as levels
pub same-count : {X : Type 0} (f : X → ℕ) (xs : List X) (ts : List (List Rank × Bool)) → HaveRoom (map f xs) ts
    → length xs ≡ length ts
same-count f xs ts h = sym (length-map xs f) ∙ room-lengths (map f xs) ts h
