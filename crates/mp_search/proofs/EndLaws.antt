-- Lists that are known, by ranks in the pool.
use Rattle.std.proofs.Common.{◌≡◌, ℕ, zero, suc, ◌<◌, ◌≤◌, List, [], ◌∷◌, map, length, take, Bool, true, false}
use Rattle.std.proofs.Common.{refl, ap}
use Rattle.std.proofs.Common.{sym, ◌∙◌, inl, inr, subst, arith, get_or, nat_eq, eq-eqb, not, ◌++◌, ◌⊎◌}
use Rattle.std.specs.Prelude.{Option, Some, None, if◌then◌else◌, min}
use Rattle.std.specs.declared.cmp.Ordering.TheVariants.{Equal}
use Rattle.std.proofs.lemmas.Cmp.{tied_itself}
use Rattle.std.proofs.lemmas.List.{length-map, take-map}
use Rattle.mp_term.specs.Order.{tree_cmp}
use Rattle.mp_term.specs.OrderLaws.{tree_cmp_total, tree_same}
use Rattle.mp_term.specs.Search.{In}
use Rattle.mp_term.specs.Signature.{Sig}
use Rattle.mp_term.specs.Sorting.{sorted}
use Rattle.mp_term.specs.Tree.{Tree, symbol, app, trees}
use Rattle.mp_term.specs.Pieces.{same, is_piece, is_sublist}
use Rattle.mp_term.proofs.PiecesLaws.{length-without, sublist-from_piece, same-sound}
use Rattle.mp_term.proofs.Sorting.{length-sorted}
use Rattle.mp_pattern.specs.Contribution.{contribution}
use Rattle.mp_pattern.specs.Fits.{arranged}
use Rattle.mp_pattern.specs.Variables.{comm_above}
use Rattle.mp_pattern.proofs.SortedLaws.{all-sorted}
use Rattle.mp_table.specs.Table.{Table, HasRank, HasRanks, IsTable, term_at, terms_at, rank_cmp, rank_of}
use Rattle.mp_table.specs.declared.rank.Rank.{Rank}
use Rattle.mp_table.proofs.RankLaws.{is_sublist-terms, is_prefix-terms, rank_of-found}
use Rattle.std.proofs.lemmas.Bool.{and_parts}
use Rattle.mp_pattern.specs.PatternTree.{Wildcard, dot, kind, plus, star, optional, counted, Pattern, symbol_pattern}
use Rattle.mp_pattern.specs.PatternTree.{app_pattern, wild_pattern}
use Rattle.mp_pattern.specs.Value.{Value, one, seq, bag, Subst, one_form}
use Rattle.mp_pattern.specs.Fits.{Entry}
use Rattle.mp_subst.specs.Bound.{value_from}
use Rattle.mp_theory.specs.Frames.{Frame, child}
use Rattle.mp_theory.specs.Items.{items_by}
use Rattle.mp_theory.specs.Machine.{reads, choices}
use Rattle.mp_theory.specs.OneList.{Item}
use Rattle.mp_theory.proofs.KnownLists.{known-taken}
use Rattle.mp_theory.proofs.Merging.{same_terms-sound}
use Rattle.mp_theory.proofs.Walk.{choices-exact}
use Rattle.mp_search.specs.Grounds.{ground_of}
use Rattle.mp_subst.proofs.BoundLaws.{sorted-terms, ranks_same}
use Rattle.mp_theory.specs.Known.{all_of, known_lists}
use Rattle.mp_theory.proofs.Cuts.{apart-from_piece}
use Rattle.mp_search.specs.declared.query.Query.{Query}
use Rattle.mp_search.specs.declared.site.Site.{Site}
use Rattle.mp_search.specs.Frames.{above}
use Rattle.mp_search.specs.Made.{arranged_at, IsThere, IsEnd, HasValue}
use Rattle.mp_search.specs.Query.{IsQuery}
use Rattle.mp_search.specs.Site.{IsSite}

-- a list of one term
pub arranged-one : (sig : Sig) (f : Option ℕ) (t : Tree) → arranged sig f (t ∷ []) ≡ t ∷ []
arranged-one sig f t = elim (comm_above sig f) as (λ b. (if b then sorted tree_cmp (t ∷ []) else t ∷ []) ≡ t ∷ [])
    [ true ↦ refl | false ↦ refl ]

-- ranks are a piece of others where their terms are
pub is_piece-terms : (t : Table) → IsTable t → (b : Bool) (rs ss : List Rank) → HasRanks t rs → HasRanks t ss
    → is_piece tree_cmp b (terms_at t rs) (terms_at t ss) ≡ is_piece rank_cmp b rs ss
is_piece-terms t h true rs ss p r = is_sublist-terms t h.ascending rs ss p r
is_piece-terms t h false rs ss p r = is_prefix-terms t h.ascending rs ss p r

-- as many of the first terms
pub first-terms : (t : Table) (n : ℕ) (rs : List Rank)
    → take n (terms_at t rs) ≡ terms_at t (take (min n (length rs)) rs)
first-terms t n rs = take-map (term_at t) n rs ∙ ap (map (term_at t)) (take-min n rs)
  where
    take-none : (n : ℕ) → take {A = Rank} n [] ≡ []
    take-none zero = refl
    take-none (suc n) = refl

    take-min : (n : ℕ) (rs : List Rank) → take n rs ≡ take (min n (length rs)) rs
    take-min n [] = take-none n ∙ sym (take-none (min n 0))
    take-min zero (r ∷ rs) = let e : min 0 (suc (length rs)) ≡ 0 = omega arith in rw e refl
    take-min (suc n) (r ∷ rs) = let e : min (suc n) (suc (length rs)) ≡ suc (min n (length rs)) = omega arith in
        rw e (ap (λ ss. r ∷ ss) (take-min n rs))

module _ (q : Query) (x : Site) (h : IsQuery q) (k : IsSite q x) where
  abbrev table : Table
  table = q.table.now

  abbrev comm : Bool
  comm = comm_above q.sig.now (above x.under)

  abbrev left : List Tree
  left = terms_at table x.left.now

  -- a piece of what is left stands as the operation arranges it, and is no longer
  pub there-arranged : (l : List Tree) → IsThere q x l → arranged_at q x l ≡ l
  there-arranged l i = (apart-from_piece comm l left k.arranged i).piece_in_order

  there-short : (l : List Tree) → IsThere q x l → length l ≤ length x.left.now
  there-short l i = omega (
    arith,
    length-without tree_cmp tree_cmp_total tree_same l left
        (sublist-from_piece tree_cmp tree_cmp_total tree_same comm l left i),
    length-map x.left.now (term_at table),
  )

  -- ranks as the operation arranges their terms
  abbrev pub arranged_ranks : List Rank → List Rank
  arranged_ranks rs = if comm then sorted rank_cmp rs else rs

  terms-arranged : (rs : List Rank) → HasRanks table rs
      → terms_at table (arranged_ranks rs) ≡ arranged_at q x (terms_at table rs)
  terms-arranged rs p = elim comm as (λ b. terms_at table (if b then sorted rank_cmp rs else rs)
      ≡ (if b then sorted tree_cmp (terms_at table rs) else terms_at table rs))
      [ true ↦ sym (sorted-terms table h.table rs p) | false ↦ refl ]

  ranks-arranged : (rs : List Rank) → HasRanks table rs → HasRanks table (arranged_ranks rs)
  ranks-arranged rs p = elim comm as (λ b. HasRanks table (if b then sorted rank_cmp rs else rs))
      [ true ↦ all-sorted (HasRank table) rank_cmp rs p | false ↦ p ]

  length-arranged : (rs : List Rank) → length (arranged_ranks rs) ≡ length rs
  length-arranged rs = elim comm as (λ b. length (if b then sorted rank_cmp rs else rs) ≡ length rs)
      [ true ↦ length-sorted rank_cmp rs | false ↦ refl ]

  -- the list of the ranks, as it is found
  pub end-filled : (rs pool : List Rank) (b : Bool) → HasRanks table rs → length rs ≤ length x.left.now
      → pool ≡ arranged_ranks rs → b ≡ is_piece rank_cmp comm pool x.left.now
      → IsEnd q x (arranged_at q x (terms_at table rs) ∷ []) b pool
  end-filled rs pool b p n e f =
      let held : HasRanks table pool = subst (HasRanks table) (sym e) (ranks-arranged rs p) in
      let terms : terms_at table pool ≡ arranged_at q x (terms_at table rs) =
      ap (terms_at table) e ∙ terms-arranged rs p in
      let found : is_piece tree_cmp comm (terms_at table pool) left ≡ b =
      is_piece-terms table h.table comm pool x.left.now held k.left ∙ sym f in
      record {
        only = λ l i t. elim i [
          | inl g ↦ (
            sym found ∙ subst (IsThere q x) (g ∙ sym terms) t,
            g ∙ sym terms,
          )
          | inr j ↦ absurd j
        ];
        there = λ g. found ∙ g;
        few = omega (arith, ap length e, length-arranged rs, n, k.narrow);
        ranks = held;
      }

  -- none of the lists is there
  pub end-none : (ls : List (List Tree)) (pool : List Rank) → pool ≡ []
      → ((l : List Tree) → In l ls → IsThere q x l → ⊥) → IsEnd q x ls false pool
  end-none ls pool e none = record {
    only = λ l i t. absurd (none l i t);
    there = λ g. cc;
    few = omega (arith, ap length e);
    ranks = subst (HasRanks table) (sym e) tt;
  }

  -- too many ranks
  pub end-long : (rs pool : List Rank) → pool ≡ [] → length x.left.now < length rs
      → IsEnd q x (arranged_at q x (terms_at table rs) ∷ []) false pool
  end-long rs pool e n = end-none (arranged_at q x (terms_at table rs) ∷ []) pool e (λ l i t. elim i [
    | inl g ↦ omega (
      arith,
      there-short l t,
      ap length g,
      n,
      arranged-length (terms_at table rs),
      length-map rs (term_at table),
    )
    | inr j ↦ absurd j
  ])
    where
      arranged-length : (ts : List Tree) → length (arranged_at q x ts) ≡ length ts
      arranged-length ts = elim comm as (λ b. length (if b then sorted tree_cmp ts else ts) ≡ length ts)
          [ true ↦ length-sorted tree_cmp ts | false ↦ refl ]

  -- of other lists only those may be there
  pub end-among : (ls ms : List (List Tree)) (b : Bool) (pool : List Rank) → IsEnd q x ls b pool
      → ((l : List Tree) → In l ms → IsThere q x l → In l ls) → IsEnd q x ms b pool
  end-among ls ms b pool e f = record {
    only = λ l i t. e.only l (f l i t) t;
    there = e.there;
    few = e.few;
    ranks = e.ranks;
  }

  -- a list itself in place of the arranged one
  pub end-own : (ts : List Tree) (b : Bool) (pool : List Rank) → IsEnd q x (arranged_at q x ts ∷ []) b pool
      → IsEnd q x (ts ∷ []) b pool
  end-own ts b pool e = end-among (arranged_at q x ts ∷ []) (ts ∷ []) b pool e (λ l i t. elim i [
    | inl g ↦ inl (sym (there-arranged l t) ∙ ap (arranged_at q x) g)
    | inr j ↦ absurd j
  ])

  -- a term that the table doesn't hold isn't there
  pub absent-there : (u : Tree) → rank_of table u ≡ None → IsThere q x (u ∷ []) → ⊥
  absent-there u e t = stands x.left.now k.left
      (sublist-from_piece tree_cmp tree_cmp_total tree_same comm (u ∷ []) left t)
    where
      stands : (rs : List Rank) → HasRanks table rs → is_sublist tree_cmp (u ∷ []) (terms_at table rs) ≡ true → ⊥
      stands [] p s = cc
      stands (r ∷ rs) p s = elim (same tree_cmp (term_at table r) u) as (λ b. same tree_cmp (term_at table r) u ≡ b
          → (if b then is_sublist tree_cmp [] (terms_at table rs) else is_sublist tree_cmp (u ∷ []) (terms_at table rs))
          ≡ true → ⊥) [
            | true ↦ λ b s.
                let i : term_at table r ≡ u = same-sound tree_cmp tree_cmp_total tree_same (term_at table r) u b in
                let held : rank_of table u ≡ Some r.0 = rank_of-found table u h.table.ascending r p.0
                (subst (λ v. tree_cmp (term_at table r) v ≡ Equal) i (tied_itself tree_cmp_total (term_at table r))) in
                let wrong : Some r.0 ≡ None = sym held ∙ e in cc
            | false ↦ λ b s. stands rs p.1 s
          ] refl s

module _ (t : Table) (h : IsTable t) where
  -- a value of one rank is the term of another where the ranks are one
  pub one-rank : (rs : List Rank) (r z : Rank) → HasRanks t rs → HasRank t r → length rs ≡ 1
      → value_from t one_form None rs ≡ one (term_at t r) → nat_eq (get_or rs 0 z).0 r.0 ≡ true
  one-rank [] r z p k n e = cc
  one-rank (s ∷ []) r z p k n e =
      let i : term_at t s ≡ term_at t r = cc in
      let j : s ∷ [] ≡ r ∷ [] = ranks_same t h (s ∷ []) (r ∷ []) p (k, tt) (ap (λ u. u ∷ []) i) in
      let same : s ≡ r = cc in eq-eqb s.0 r.0 (ap (λ o. o.0) same)
  one-rank (s ∷ o ∷ rs) r z p k n e = cc

  -- an operation on terms that the table doesn't hold is the term of none
  pub wrapped-rank : (f : ℕ) (rs : List Rank) (r : Rank) → HasRank t r
      → rank_of t (app f (trees (terms_at t rs))) ≡ None
      → value_from t one_form (Some f) rs ≡ one (term_at t r) → ⊥
  wrapped-rank f rs r k n e =
      let u : Tree = app f (trees (terms_at t rs)) in
      let i : u ≡ term_at t r = cc in
      let held : rank_of t u ≡ Some r.0 = rank_of-found t u h.ascending r k
      (subst (λ v. tree_cmp (term_at t r) v ≡ Equal) (sym i) (tied_itself tree_cmp_total (term_at t r))) in
      let wrong : Some r.0 ≡ None = sym held ∙ n in cc

-- a wildcard takes what a dot takes whose variable has the value, or nothing, where that is its default
known-split : (sig : Sig) (f : Option ℕ) (w : Wildcard) (v : Value) (l ts : List Tree)
    → In l (known_lists sig f w v ts)
    → ((d : Tree) × (w ≡ optional d) × (v ≡ one d) × (l ≡ [])) ⊎ In l (known_lists sig f dot v ts)
known-split sig f (optional d) (one t) l ts i =
    elim (same tree_cmp d t) as (λ b. same tree_cmp d t ≡ b
    → In l ((if b then [] ∷ [] else []) ++ all_of (contribution sig f t))
    → ((c : Tree) × (optional d ≡ optional c) × (one t ≡ one c) × (l ≡ [])) ⊎ In l (all_of (contribution sig f t))) [
      | true ↦ λ e j. elim j [
        | inl g ↦ inl (d, refl, ap one (sym (same-sound tree_cmp tree_cmp_total tree_same d t e)), g)
        | inr g ↦ inr g
      ]
      | false ↦ λ e j. inr j
    ] refl i
known-split sig f (optional d) (seq us) l ts i = inr i
known-split sig f (optional d) (bag us) l ts i = inr i
known-split sig f dot v l ts i = inr i
known-split sig f (kind n) (one t) l ts i = inr i
known-split sig f (kind n) (seq us) l ts i = inr i
known-split sig f (kind n) (bag us) l ts i = inr i
known-split sig f plus (one t) l ts i = inr i
known-split sig f plus (seq us) l ts i = inr i
known-split sig f plus (bag us) l ts i = inr i
known-split sig f star (one t) l ts i = inr i
known-split sig f star (seq us) l ts i = inr i
known-split sig f star (bag us) l ts i = inr i
known-split sig f (counted n c) (one t) l ts i = inr i
known-split sig f (counted n c) (seq us) l ts i = inr i
known-split sig f (counted n c) (bag us) l ts i = inr i

-- so a child whose variable has the value takes such a list, where its entry has an item
pub bound-taken : (sig : Sig) (p : Pattern) (f : Frame) (fs : List Frame) (s : Subst) (v : Value) (empty : Bool)
    → HasValue p s v → arranged sig f.under f.left ≡ f.left
    → ((d : Tree) → ground_of p ≡ Some d → v ≡ one d → empty ≡ true)
    → (k : ℕ) (e : Entry) (i : Item) → In e (choices sig (child p f fs)) → In i (items_by sig k (child p f fs) s e)
    → ((empty ≡ true) × (e.terms ≡ [])) ⊎ In e.terms (known_lists sig f.under dot v f.left)
bound-taken sig (symbol_pattern n) f fs s v empty h o d k e i c m = absurd h
bound-taken sig (app_pattern g ps) f fs s v empty h o d k e i c m = absurd h
bound-taken sig (wild_pattern w None) f fs s v empty h o d k e i c m = absurd h
bound-taken sig (wild_pattern w (Some x)) f fs s v empty h o d k e i c m =
    elim (known-split sig f.under w v e.terms f.left (known-taken sig w x f fs s v k e i h o c m)) [
      | inl g ↦ inl (d g.0 (ap (λ u. ground_of (wild_pattern u (Some x))) g.1) g.2, g.3)
      | inr j ↦ inr j
    ]

-- a symbol takes itself
pub symbol-taken : (sig : Sig) (p : Pattern) (n : List ℕ) (f : Frame) (fs : List Frame) (t : Tree) (e : Entry)
    → p ≡ symbol_pattern n → Some t ≡ ground_of p → In e (choices sig (child p f fs)) → e.terms ≡ t ∷ []
symbol-taken sig p n f fs t e is g c =
    let q : Some t ≡ Some (symbol n) = g ∙ ap ground_of is in
    let own : t ≡ symbol n = cc in
    let r : reads sig (symbol_pattern n) f.under e ≡ true = subst (λ u. reads sig u f.under e ≡ true) is
    ((choices-exact sig p f fs e.terms e.collapsed).0 c).1 in
    same_terms-sound e.terms (symbol n ∷ []) (and_parts (not e.collapsed) _ r).1 ∙ ap (λ u. u ∷ []) (sym own)

-- the ranks of a piece of what is left ascend where the operation is commutative
pub ranks-ascend : (q : Query) (x : Site) → IsQuery q → IsSite q x → (rs : List Rank) → HasRanks q.table.now rs
    → IsThere q x (terms_at q.table.now rs) → comm_above q.sig.now (above x.under) ≡ true → sorted rank_cmp rs ≡ rs
ranks-ascend q x h k rs p i c =
    let t = q.table.now in
    ranks_same t h.table (sorted rank_cmp rs) rs (all-sorted (HasRank t) rank_cmp rs p) p
    (sym (sorted-terms t h.table rs p)
    ∙ subst (λ b. (if b then sorted tree_cmp (terms_at t rs) else terms_at t rs) ≡ terms_at t rs) c
    (there-arranged q x h k (terms_at t rs) i))
