-- The values of a substitution that fits have no more nodes than the subject and the defaults.
use Rattle.std.proofs.Common.{◌≡◌, ℕ, ◌+◌, ◌<◌, ◌≤◌, List, [], ◌∷◌, map, true, false, refl, ap, sym, ◌∙◌, inl, inr}
use Rattle.std.proofs.Common.{subst, arith}
use Rattle.std.specs.Prelude.{Some, None, Option, if◌then◌else◌, nat_eq}
use Rattle.std.specs.List.{AllByRecursion}
use Rattle.mp_term.specs.Tree.{Tree, symbol, app, tree_list}
use Rattle.mp_term.specs.TreeLists.{trees-tree_list}
use Rattle.mp_term.specs.Size.{node_count, all_nodes}
use Rattle.mp_term.specs.Order.{tree_cmp}
use Rattle.mp_term.specs.Sorting.{sorted}
use Rattle.mp_term.specs.Signature.{Sig, is_assoc}
use Rattle.mp_term.proofs.NormalSize.{all_nodes-append, all_nodes-sorted}
use Rattle.mp_term.proofs.ListLaws.{all-append}
use Rattle.mp_pattern.specs.PatternTree.{Wildcard, dot, kind, plus, star, counted, optional, Pattern}
use Rattle.mp_pattern.specs.PatternTree.{symbol_pattern, app_pattern, wild_pattern, Patterns, no_patterns}
use Rattle.mp_pattern.specs.PatternTree.{more_patterns}
use Rattle.mp_pattern.specs.Value.{Value, one, seq, bag, Subst, value_of, same_name}
use Rattle.mp_pattern.specs.Variables.{Use, uses, all_uses, comm_above}
use Rattle.mp_pattern.specs.Contribution.{contribution, spread, if_several}
use Rattle.mp_pattern.specs.EachWildcard.{AllEachWildcard}
use Rattle.mp_pattern.specs.Limits.{DefaultIsSmall, DefaultsAreSmall}
use Rattle.mp_pattern.specs.Fits.{Table, joined, arranged, ByValue, WildTakes, TakesBy, AllTakeBy, Fits}
use Rattle.mp_term.specs.Search.{In}
use Rattle.mp_theory.specs.ValueSizes.{HasAtMost, HaveAtMost}
use Rattle.mp_pattern.specs.declared.limits.TheConstants.{MAX_DEFAULT_NODES}
use Rattle.mp_theory.proofs.FirstsLaws.{from_in-firsts_after}
use Rattle.mp_theory.proofs.Solving.{names, IsFound, found-IsSubstOf}
use Rattle.mp_theory.proofs.Wildcards.{if_several-some}

module _ (sig : Sig) where
  -- putting terms in order keeps their nodes
  all_nodes-arranged : (f : Option ℕ) (ts : List Tree) → all_nodes (arranged sig f ts) ≡ all_nodes ts
  all_nodes-arranged f ts = elim (comm_above sig f) as
      (λ b. all_nodes (if b then sorted tree_cmp ts else ts) ≡ all_nodes ts)
      [ true ↦ all_nodes-sorted ts | false ↦ refl ]

  -- a term has one node more at most than what it contributes
  node_count-alone : (t : Tree) (l : List Tree) → Some (t ∷ []) ≡ Some l → node_count t ≤ all_nodes l + 1
  node_count-alone t l e = let q : t ∷ [] ≡ l = cc in subst (λ m. node_count t ≤ all_nodes m + 1) q (omega arith)

  node_count-spread : (f : ℕ) (t : Tree) (l : List Tree) → spread f t ≡ Some l → node_count t ≤ all_nodes l + 1
  node_count-spread f (symbol n) l e = node_count-alone (symbol n) l e
  node_count-spread f (app g ts) l e =
      elim (nat_eq f g) as (λ b. (if b then if_several (tree_list ts) else Some (app g ts ∷ [])) ≡ Some l
      → node_count (app g ts) ≤ all_nodes l + 1) [
        | true ↦ λ p. subst (λ m. node_count (app g ts) ≤ all_nodes m + 1) (if_several-some (tree_list ts) l p)
            (rw (trees-tree_list ts) (omega arith))
        | false ↦ λ p. node_count-alone (app g ts) l p
      ] e

  node_count-contribution : (f : Option ℕ) (t : Tree) (l : List Tree) → contribution sig f t ≡ Some l
      → node_count t ≤ all_nodes l + 1
  node_count-contribution None t l e = node_count-alone t l e
  node_count-contribution (Some f) t l e =
      elim (is_assoc sig f) as (λ b. (if b then spread f t else Some (t ∷ [])) ≡ Some l
      → node_count t ≤ all_nodes l + 1) [
        | true ↦ λ p. node_count-spread f t l p
        | false ↦ λ p. node_count-alone t l p
      ] e

  module _ (n : ℕ) (enough : MAX_DEFAULT_NODES ≤ n) where
    -- of what is taken, values have no more than n nodes where the list has fewer
    HasAtMost-contribution : (f : Option ℕ) (t : Tree) (l : List Tree) → all_nodes l < n → contribution sig f t ≡ Some l
        → HasAtMost n (one t)
    HasAtMost-contribution f t l few e = omega (arith, node_count-contribution f t l e)

    HasAtMost-same : (m l : List Tree) → all_nodes l < n → l ≡ m → all_nodes m ≤ n
    HasAtMost-same m l few e = omega (arith, ap all_nodes e)

    HasAtMost-arranged : (f : Option ℕ) (m l : List Tree) → all_nodes l < n → l ≡ arranged sig f m → all_nodes m ≤ n
    HasAtMost-arranged f m l few e = omega (arith, ap all_nodes e, all_nodes-arranged f m)

    HasAtMost-takes : (w : Wildcard) (f : Option ℕ) (v : Value) (l : List Tree) → DefaultIsSmall w → all_nodes l < n
        → WildTakes sig f w v l → HasAtMost n v
    HasAtMost-takes dot f (one v) l d few h = HasAtMost-contribution f v l few h
    HasAtMost-takes (kind k) f (one v) l d few h = HasAtMost-same (v ∷ []) l few h.0
    HasAtMost-takes plus f (seq m) l d few h = HasAtMost-arranged f m l few h.0
    HasAtMost-takes plus f (bag m) l d few h = HasAtMost-same m l few h.0
    HasAtMost-takes star f (seq m) l d few h = HasAtMost-arranged f m l few h
    HasAtMost-takes star f (bag m) l d few h = HasAtMost-same m l few h
    HasAtMost-takes (counted k c) f (seq m) l d few h = HasAtMost-arranged f m l few h.0
    HasAtMost-takes (counted k c) f (bag m) l d few h = HasAtMost-same m l few h.0
    HasAtMost-takes (optional u) f (one v) l d few (inl h) = HasAtMost-contribution f v l few h
    HasAtMost-takes (optional u) f (one v) l d few (inr h) = omega (arith, d, ap node_count h.1)
    HasAtMost-takes dot f (seq m) l d few h = absurd h
    HasAtMost-takes dot f (bag m) l d few h = absurd h
    HasAtMost-takes (kind k) f (seq m) l d few h = absurd h
    HasAtMost-takes (kind k) f (bag m) l d few h = absurd h
    HasAtMost-takes plus f (one v) l d few h = absurd h
    HasAtMost-takes star f (one v) l d few h = absurd h
    HasAtMost-takes (counted k c) f (one v) l d few h = absurd h
    HasAtMost-takes (optional u) f (seq m) l d few h = absurd h
    HasAtMost-takes (optional u) f (bag m) l d few h = absurd h

    module _ (s : Subst) where
      -- the variable of the use has such a value
      abbrev IsUseWithin : Use → Type 0
      IsUseWithin u = (v : Value) × (value_of s u.name ≡ Some v) × HasAtMost n v

      mutual
        -- of a pattern whose list has fewer than n nodes, each use has
        uses-within : (p : Pattern) (f : Option ℕ) (l : List Tree) (T : Table) → DefaultsAreSmall p → all_nodes l < n
            → TakesBy sig (ByValue sig s) f p l T → AllByRecursion IsUseWithin (uses f p)
        uses-within (symbol_pattern m) f l T d few h = tt
        uses-within (wild_pattern w None) f l T d few h = tt
        uses-within (wild_pattern w (Some x)) f l T d few h =
            ((h.0.0, h.0.1, HasAtMost-takes w f h.0.0 l d few h.0.2), tt)
        uses-within (app_pattern g ps) f l T d few (inl h) =
            all_uses-within ps g h.takes h.tables d
            (omega (arith, few, ap all_nodes h.node, all_nodes-arranged (Some g) (joined h.takes))) h.children
        uses-within (app_pattern g ps) f l T d few (inr h) =
            all_uses-within ps g h.takes h.tables d
            (omega (arith, few, ap all_nodes h.node, ap all_nodes h.together)) h.children

        all_uses-within : (ps : Patterns) (g : ℕ) (ls : List (List Tree)) (Ts : List Table)
            → AllEachWildcard DefaultIsSmall ps → all_nodes (joined ls) < n → AllTakeBy sig (ByValue sig s) g ps ls Ts
            → AllByRecursion IsUseWithin (all_uses (Some g) ps)
        all_uses-within no_patterns g ls Ts d few h = tt
        all_uses-within (more_patterns p ps) g [] Ts d few h = absurd h
        all_uses-within (more_patterns p ps) g (l ∷ ls) [] d few h = absurd h
        all_uses-within (more_patterns p ps) g (l ∷ ls) (T ∷ Ts) d few h =
            all-append IsUseWithin (uses (Some g) p) (all_uses (Some g) ps)
            (uses-within p (Some g) l T d.0 (omega (arith, few, all_nodes-append l (joined ls))) h.0)
            (all_uses-within ps g ls Ts d.1 (omega (arith, few, all_nodes-append l (joined ls))) h.1)

      -- a variable of the uses has
      known-use : (us : List Use) (x : List ℕ) → AllByRecursion IsUseWithin us → In x (map (λ u. u.name) us)
          → (v : Value) × (value_of s x ≡ Some v) × HasAtMost n v
      known-use [] x h i = absurd i
      known-use (u ∷ us) x h (inl e) = subst (λ y. (v : Value) × (value_of s y ≡ Some v) × HasAtMost n v) (sym e) h.0
      known-use (u ∷ us) x h (inr i) = known-use us x h.1 i

      -- and so have bindings with such variables
      bindings-within : (r : Subst)
          → ((x : List ℕ) → In x (names r) → (v : Value) × (value_of s x ≡ Some v) × HasAtMost n v)
          → AllByRecursion (IsFound s) r → HaveAtMost n r
      bindings-within [] known h = tt
      bindings-within (b ∷ r) known h =
          let k = known b.name (inl refl) in
          let q : Some k.0 ≡ Some b.value = sym k.1 ∙ h.0 in
          let e : k.0 ≡ b.value = cc in
          (subst (HasAtMost n) e k.2, bindings-within r (λ x i. known x (inr i)) h.1)

    -- where the subject has fewer than n nodes, the values of a substitution that fits have at most n
    pub fits-within : (p : Pattern) (t : Tree) (s : Subst) (T : Table) → DefaultsAreSmall p → node_count t < n
        → Fits sig p t s T → HaveAtMost n s
    fits-within p t s T d few h =
        let all = uses-within s p None (t ∷ []) T d (omega (arith, few)) h.takes in
        bindings-within s s (λ x i.
        let j = from_in-firsts_after same_name x [] (map (λ u. u.name) (uses None p))
        (subst (In x) h.subst_of.names i) in
        known-use s (uses None p) x all (elim j [ inl k ↦ absurd k | inr k ↦ k ])) (found-IsSubstOf sig p s h.subst_of)
