-- The level of node k among all levels, as it was and as it is left.
use Rattle.std.proofs.Common.{◌≡◌, ℕ, zero, suc, ◌<◌, ◌≤◌, List, [], ◌∷◌, ◌++◌, take, length, refl, ap, sym}
use Rattle.std.proofs.Common.{◌∙◌, subst, arith, slice_index_or, slice_set, false}
use Rattle.std.specs.Prelude.{Some, None, slice_get, option_map, filter, ⊤}
use Rattle.std.specs.Borrow.{Bor}
use Rattle.std.specs.List.Sorted.{IsStrictlySortedBy}
use Rattle.std.proofs.lemmas.List.Kept.{IsStrictlySortedBy-filter}
use Rattle.mp_term.specs.Order.{tree_cmp}
use Rattle.mp_term.specs.OrderLaws.{tree_cmp_total, tree_same}
use Rattle.mp_term.specs.Pieces.{without}
use Rattle.mp_term.specs.Tree.{Tree}
use Rattle.mp_term.proofs.PiecesLaws.{all-without}
use Rattle.mp_pattern.specs.Fits.{Entry}
use Rattle.mp_pattern.specs.DerivationOrder.{entry_cmp}
use Rattle.mp_pattern.specs.View.{pattern_tree}
use Rattle.mp_table.specs.Table.{Table, HasRank, HasRanks, terms_at, rank_cmp}
use Rattle.mp_table.specs.declared.rank.Rank.{Rank}
use Rattle.mp_theory.specs.Machine.{reads, entries}
use Rattle.mp_theory.proofs.Tables.{entries-ascending}
use Rattle.mp_search.specs.declared.level.Level.{Level}
use Rattle.mp_search.specs.declared.query.Query.{Query}
use Rattle.mp_search.specs.declared.stack.Place.{Place}
use Rattle.mp_search.specs.Drawn.{drawn}
use Rattle.mp_search.specs.Frames.{above, left_of, rest_at}
use Rattle.mp_search.specs.Levels.{AreLevels, IsDrawable, IsPool, IsRoomy, IsOver, draws_of, take_of}
use Rattle.mp_search.specs.Query.{width}
use Rattle.mp_search.specs.Reading.{entry_of, entry_at}
use Rattle.mp_search.specs.Site.{entries_drawn}
use Rattle.mp_search.specs.At.{HasPool, draws_at, own_at, drawn_at, entries_from, site_of}
use Rattle.mp_search.proofs.DrawnLaws.{drawn-ascending}
use Rattle.mp_search.proofs.LevelsLaws.{entry-own}
use Rattle.mp_subst.proofs.RankLists.{rank_same, rank_cmp_total}

-- the levels in two parts, of which the second begins with the level of node k
get-part : {X : Type 0} (B F : List X) (k : ℕ) (d : X) → length B ≡ k → k < length (B ++ F)
    → slice_get (B ++ F) k ≡ Some (slice_index_or F 0 d)
get-part [] [] k d e h = absurd (omega (arith, h))
get-part [] (x ∷ F) zero d e h = refl
get-part [] (x ∷ F) (suc k) d e h = absurd (omega (arith, e))
get-part (y ∷ B) F zero d e h = absurd (omega (arith, e))
get-part (y ∷ B) F (suc k) d e h = get-part B F k d (omega (arith, e)) (omega (arith, h))

get-set : {X : Type 0} (B F : List X) (k : ℕ) (x : X) → length B ≡ k → k < length (B ++ F)
    → slice_get (B ++ slice_set F 0 x) k ≡ Some x
get-set [] [] k x e h = absurd (omega (arith, h))
get-set [] (z ∷ F) zero x e h = refl
get-set [] (z ∷ F) (suc k) x e h = absurd (omega (arith, e))
get-set (y ∷ B) F zero x e h = absurd (omega (arith, e))
get-set (y ∷ B) F (suc k) x e h = get-set B F k x (omega (arith, e)) (omega (arith, h))

-- what is said of the level of node k is said of the level
pub own-get : (ls : List Level) (k : ℕ) (l : Level) → slice_get ls k ≡ Some l
    → own_at ls k ≡ Some (draws_of l, take_of l)
own-get ls k l h = ap (option_map (λ l. (draws_of l, take_of l))) h

pub draws-get : (ls : List Level) (k : ℕ) (l : Level) → slice_get ls k ≡ Some l → draws_at ls k ≡ Some (draws_of l)
draws-get ls k l h = ap (option_map draws_of) h

pub entry-get : (t : Table) (ls : List Level) (k : ℕ) (l : Level) → slice_get ls k ≡ Some l
    → entry_at t ls k ≡ entry_of t l
entry-get t ls k l h = entry-own t ls k
    ∙ ap
    (λ o. elim o as (λ _. Entry) [
      | None ↦ record { terms = []; collapsed = false }
      | Some w ↦ record { terms = terms_at t w.1.0; collapsed = w.1.1 }
    ]) (own-get ls k l h)

pub rest-get : (q : Query) (ls : List Level) (k : ℕ) (l : Level) → slice_get ls k ≡ Some l
    → rest_at q ls k ≡ terms_at q.table.now l.rest.items.items
rest-get q ls k l h = ap
    (λ o. elim o as (λ _. List Tree) [ None ↦ [] | Some l ↦ terms_at q.table.now l.rest.items.items ]) h

-- what is drawn at node k is what is drawn at its site
pub drawn-own : (q : Query) (p : Place) (ls : List Level) (k node : ℕ) (left : Bor (List Rank)) (l : Level)
    → slice_get ls k ≡ Some l → terms_at q.table.now left.now ≡ left_of q (take k ls) p.left
    → drawn_at q p ls k ≡ entries_drawn q (site_of p node left) l
drawn-own q p ls k node left l h e =
    ap (λ o. elim o as (λ _. List Entry) [ None ↦ [] | Some d ↦ entries_from q (take k ls) p d ]) (draws-get ls k l h)
    ∙ ap
    (λ ts. filter (reads q.sig.now (pattern_tree p.child.now) (above p.under))
    (entries (drawn tree_cmp l.source (terms_at q.table.now l.pool.items.items) ts))) (sym e)

-- it ascends
pub ascending-own : (q : Query) (p : Place) (node : ℕ) (left : Bor (List Rank)) (l : Level)
    → IsStrictlySortedBy entry_cmp (entries_drawn q (site_of p node left) l)
ascending-own q p node left l =
    IsStrictlySortedBy-filter entry_cmp (reads q.sig.now (pattern_tree p.child.now) (above p.under))
    (entries (drawn tree_cmp l.source (terms_at q.table.now l.pool.items.items) (terms_at q.table.now left.now)))
    (entries-ascending q.sig.now
    (drawn tree_cmp l.source (terms_at q.table.now l.pool.items.items) (terms_at q.table.now left.now))
    (drawn-ascending tree_cmp tree_cmp_total tree_same l.source (terms_at q.table.now l.pool.items.items)
    (terms_at q.table.now left.now)))

pub pool-own : (q : Query) (ls : List Level) (k : ℕ) (l : Level) → slice_get ls k ≡ Some l → HasPool q ls k
    → IsPool (width q) l
pool-own q ls k l h p = subst
    (λ o. elim o as (λ _. Type 0) [ None ↦ ⊤ | Some d ↦ (length d.1 ≤ width q) × IsDrawable d.0 d.1 ])
    (draws-get ls k l h) p

pub own-pool : (q : Query) (ls : List Level) (k : ℕ) (l : Level) → slice_get ls k ≡ Some l → IsPool (width q) l
    → HasPool q ls k
own-pool q ls k l h p = subst
    (λ o. elim o as (λ _. Type 0) [ None ↦ ⊤ | Some d ↦ (length d.1 ≤ width q) × IsDrawable d.0 d.1 ])
    (sym (draws-get ls k l h)) p

-- the levels are split at node k
pub record IsSplit (L B F : List Level) (k : ℕ) : Type 0 where
  pub value : L ≡ B ++ F
  pub front : B ≡ take k L
  pub split : length B ≡ k
  pub within : k < length L

module _ (L B F : List Level) (k : ℕ) (d : Level) (h : IsSplit L B F k) where
  within : k < length (B ++ F)
  within = subst (λ ls. k < length ls) h.value h.within

  pub get-old : slice_get L k ≡ Some (slice_index_or F 0 d)
  get-old = ap (λ ls. slice_get ls k) h.value ∙ get-part B F k d h.split within

  pub get-new : (own : Level) → slice_get (B ++ slice_set F 0 own) k ≡ Some own
  get-new own = get-set B F k own h.split within

  pub front-new : (own : Level) → take k (B ++ slice_set F 0 own) ≡ take k L
  front-new own = subst (λ i. take i (B ++ slice_set F 0 own) ≡ B) h.split (part B (slice_set F 0 own)) ∙ h.front
    where
      part : (xs ys : List Level) → take (length xs) (xs ++ ys) ≡ xs
      part [] ys = refl
      part (x ∷ xs) ys = ap (λ zs. x ∷ zs) (part xs ys)

  pub many-new : (own : Level) → length (B ++ slice_set F 0 own) ≡ length L
  many-new own = many B F ∙ ap length (sym h.value)
    where
      set : (ys : List Level) → length (slice_set ys 0 own) ≡ length ys
      set [] = refl
      set (y ∷ ys) = refl

      many : (xs ys : List Level) → length (xs ++ slice_set ys 0 own) ≡ length (xs ++ ys)
      many [] ys = set ys
      many (x ∷ xs) ys = ap suc (many xs ys)

  pub levels-new : (t : Table) (w : ℕ) (own : Level) → AreLevels t w L → IsRoomy w own × IsOver t own
      → AreLevels t w (B ++ slice_set F 0 own)
  levels-new t w own a o = put B F (subst (AreLevels t w) h.value a)
    where
      put : (xs ys : List Level) → AreLevels t w (xs ++ ys) → AreLevels t w (xs ++ slice_set ys 0 own)
      put [] [] b = tt
      put [] (y ∷ ys) b = (o, b.1)
      put (x ∷ xs) ys b = (b.0, put xs ys b.1)

-- what holds of levels holds of the level of node k
pub level-own : (t : Table) (w : ℕ) (ls : List Level) (k : ℕ) (l : Level) → AreLevels t w ls → slice_get ls k ≡ Some l
    → IsRoomy w l × IsOver t l
level-own t w [] k l a h = cc
level-own t w (x ∷ ls) zero l a h = let e : x ≡ l = cc in subst (λ y. IsRoomy w y × IsOver t y) e a.0
level-own t w (x ∷ ls) (suc k) l a h = level-own t w ls k l a.1 h

-- what is left when ranks are taken out is in the table, and stands for what is left of their terms
pub ranks-without : (t : Table) (rs ss : List Rank) → HasRanks t ss → HasRanks t (without rank_cmp rs ss)
ranks-without t rs ss h = all-without rank_cmp rank_cmp_total rank_same (HasRank t) rs ss h

-- what the node of a level takes is what the level reads
pub entry-read : (t : Table) (ls : List Level) (k : ℕ) (d : Level) → k < length ls
    → entry_at t ls k ≡ entry_of t (slice_index_or ls k d)
entry-read t [] k d h = absurd (omega (arith, h))
entry-read t (l ∷ ls) zero d h = refl
entry-read t (l ∷ ls) (suc k) d h = entry-read t ls k d (omega (arith, h))
