-- What is drawn of ranks stands for what is drawn of their terms.
use Rattle.std.proofs.Common.{◌≡◌, ℕ, List, [], ◌∷◌, ◌++◌, map, length, Bool, true, false, refl, ap, sym, ◌∙◌, inl}
use Rattle.std.proofs.Common.{inr, subst}
use Rattle.std.specs.Prelude.{if◌then◌else◌}
use Rattle.std.specs.declared.cmp.Ordering.{Ordering}
use Rattle.std.specs.declared.cmp.Ordering.TheVariants.{Less, Equal, Greater}
use Rattle.std.specs.Ordering.{is_lt, nat_cmp, ordering_then}
use Rattle.std.specs.Cmp.Lexicographic.{slice_cmp}
use Rattle.std.proofs.lemmas.Cmp.{tied_itself}
use Rattle.std.proofs.lemmas.List.{length-map}
use Rattle.mp_term.specs.Order.{tree_cmp, shortlex}
use Rattle.mp_term.specs.OrderLaws.{tree_cmp_total, shortlex_total}
use Rattle.mp_term.specs.Pieces.{pieces_of, pieces_among, distinct, is_piece}
use Rattle.mp_term.specs.Search.{In}
use Rattle.mp_term.specs.Tree.{Tree}
use Rattle.mp_term.proofs.PiecesLaws.{all-piece, sublist-from_piece}
use Rattle.mp_term.proofs.SearchLaws.{flat_map-same}
use Rattle.mp_table.specs.Table.{Table, IsTable, term_at, terms_at, HasRank, HasRanks, rank_cmp}
use Rattle.mp_table.specs.declared.rank.Rank.{Rank}
use Rattle.mp_table.proofs.RankLaws.{ranks_cmp, rank_order, is_sublist-terms, is_prefix-terms}
use Rattle.mp_theory.proofs.SubBags.{map-flat, pieces_of-map}
use Rattle.mp_search.specs.declared.level.Source.{Source}
use Rattle.mp_search.specs.declared.level.Source.TheVariants.{Nothing, Front, Bag, Whole}
use Rattle.mp_search.specs.Drawn.{lengths, drawn, lists_above}
use Rattle.mp_search.proofs.DrawnLaws.{among-exact, is_end, same_list}
use Rattle.mp_subst.proofs.RankLists.{rank_same, rank_cmp_total}

module _ (t : Table) (valid : IsTable t) where
  -- lists of ranks compare as their terms, and each is that of its terms alone
  shortlex-terms : (a b : List Rank) → HasRanks t a → HasRanks t b
      → shortlex tree_cmp (terms_at t a) (terms_at t b) ≡ shortlex rank_cmp a b
  shortlex-terms a b h k =
      (λ i. ordering_then (nat_cmp (length-map a (term_at t) i) (length-map b (term_at t) i))
      (slice_cmp tree_cmp (terms_at t a) (terms_at t b)))
      ∙ ap (ordering_then (nat_cmp (length a) (length b))) (ranks_cmp t valid.ascending a b h k)

  pub terms-same : (a b : List Rank) → HasRanks t a → HasRanks t b → terms_at t a ≡ terms_at t b → a ≡ b
  terms-same a b h k e = same_list rank_cmp rank_cmp_total rank_same a b
      (sym (shortlex-terms a b h k) ∙ ap (shortlex tree_cmp (terms_at t a)) (sym e)
      ∙ tied_itself (shortlex_total tree_cmp_total) (terms_at t a))

  -- pieces of ranks are pieces of terms
  pub is_piece-terms : (b : Bool) (rs ss : List Rank) → HasRanks t rs → HasRanks t ss
      → is_piece tree_cmp b (terms_at t rs) (terms_at t ss) ≡ is_piece rank_cmp b rs ss
  is_piece-terms true rs ss h k = is_sublist-terms t valid.ascending rs ss h k
  is_piece-terms false rs ss h k = is_prefix-terms t valid.ascending rs ss h k

  among-terms : (b : Bool) (low most : ℕ) (rs : List Rank) → HasRanks t rs
      → pieces_among tree_cmp b (lengths low most (length (terms_at t rs))) (terms_at t rs)
      ≡ map (terms_at t) (pieces_among rank_cmp b (lengths low most (length rs)) rs)
  among-terms b low most rs h =
      ap (λ n. pieces_among tree_cmp b (lengths low most n) (terms_at t rs)) (length-map rs (term_at t))
      ∙ flat_map-same (λ n. pieces_of tree_cmp b n (terms_at t rs)) (λ n. map (terms_at t) (pieces_of rank_cmp b n rs))
      (lengths low most (length rs))
      (λ n i. pieces_of-map rank_cmp tree_cmp (term_at t) (HasRank t) (rank_order t valid.ascending) b n rs h)
      ∙ sym (map-flat (terms_at t) (λ n. pieces_of rank_cmp b n rs) (lengths low most (length rs)))

  ends-terms : (empty whole : Bool) (rs : List Rank) → HasRanks t rs
      → distinct (shortlex tree_cmp) ((if empty then [] ∷ [] else []) ++ (if whole then terms_at t rs ∷ [] else []))
      ≡ map (terms_at t)
      (distinct (shortlex rank_cmp) ((if empty then [] ∷ [] else []) ++ (if whole then rs ∷ [] else [])))
  ends-terms true true rs h =
      ap (λ (o : Ordering). elim o as (λ _. List (List Tree)) [
        | Less ↦ [] ∷ terms_at t rs ∷ []
        | Equal ↦ terms_at t rs ∷ []
        | Greater ↦ terms_at t rs ∷ [] ∷ []
      ]) (shortlex-terms [] rs tt h)
      ∙ elim (shortlex rank_cmp [] rs) as (λ o. elim o as (λ _. List (List Tree)) [
        | Less ↦ [] ∷ terms_at t rs ∷ []
        | Equal ↦ terms_at t rs ∷ []
        | Greater ↦ terms_at t rs ∷ [] ∷ []
      ]
      ≡ map (terms_at t) (elim o as (λ _. List (List Rank)) [
        | Less ↦ [] ∷ rs ∷ []
        | Equal ↦ rs ∷ []
        | Greater ↦ rs ∷ [] ∷ []
      ])) [ Less ↦ refl | Equal ↦ refl | Greater ↦ refl ]
  ends-terms true false rs h = refl
  ends-terms false true rs h = refl
  ends-terms false false rs h = refl

  pub drawn-terms : (s : Source) (pool left : List Rank) → HasRanks t pool → HasRanks t left
      → drawn tree_cmp s (terms_at t pool) (terms_at t left) ≡ map (terms_at t) (drawn rank_cmp s pool left)
  drawn-terms Nothing pool left h k = refl
  drawn-terms (Front low most) pool left h k = among-terms false low most left k
  drawn-terms (Bag low most) pool left h k = among-terms true low most pool h
  drawn-terms (Whole empty whole) pool left h k = ends-terms empty whole pool h

  -- the table has the ranks of what is drawn
  piece-ranks : (b : Bool) (low most : ℕ) (l rs : List Rank) → HasRanks t rs
      → In l (pieces_among rank_cmp b (lengths low most (length rs)) rs) → HasRanks t l
  piece-ranks b low most l rs h i =
      all-piece rank_cmp rank_cmp_total rank_same (HasRank t) l rs
      (sublist-from_piece rank_cmp rank_cmp_total rank_same b l rs
      ((among-exact rank_cmp rank_cmp_total rank_same b low most l rs).0 i).2) h

  pub drawn-ranks : (s : Source) (pool left : List Rank) → HasRanks t pool → HasRanks t left
      → (l : List Rank) → In l (drawn rank_cmp s pool left) → HasRanks t l
  drawn-ranks Nothing pool left h k l i = absurd i
  drawn-ranks (Front low most) pool left h k l i = piece-ranks false low most l left k i
  drawn-ranks (Bag low most) pool left h k l i = piece-ranks true low most l pool h i
  drawn-ranks (Whole empty whole) pool left h k l i =
      elim (is_end rank_cmp rank_cmp_total rank_same empty whole pool left l i) [
        | inl e ↦ subst (HasRanks t) (sym e) tt
        | inr e ↦ subst (HasRanks t) (sym e.1) h
      ]

  -- the lists above one of them
  pub lists_above-terms : (l : List Rank) (ls : List (List Rank)) → HasRanks t l → ((m : List Rank) → In m ls
      → HasRanks t m)
      → lists_above tree_cmp (terms_at t l) (map (terms_at t) ls) ≡ map (terms_at t) (lists_above rank_cmp l ls)
  lists_above-terms l [] h k = refl
  lists_above-terms l (m ∷ ls) h k =
      ap (λ o. if is_lt o then terms_at t m ∷ lists_above tree_cmp (terms_at t l) (map (terms_at t) ls)
      else lists_above tree_cmp (terms_at t l) (map (terms_at t) ls)) (shortlex-terms l m h (k m (inl refl)))
      ∙ elim (is_lt (shortlex rank_cmp l m)) as
      (λ b. (if b then terms_at t m ∷ lists_above tree_cmp (terms_at t l) (map (terms_at t) ls)
      else lists_above tree_cmp (terms_at t l) (map (terms_at t) ls))
      ≡ map (terms_at t) (if b then m ∷ lists_above rank_cmp l ls else lists_above rank_cmp l ls)) [
        | true ↦ ap (λ us. terms_at t m ∷ us) (lists_above-terms l ls h (λ n i. k n (inr i)))
        | false ↦ lists_above-terms l ls h (λ n i. k n (inr i))
      ]
