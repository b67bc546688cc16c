-- The instance of a pattern by a substitution that fits is the subject, up to normal form.
use Rattle.std.proofs.Common.{◌≡◌, ℕ, ◌+◌, List, [], ◌∷◌, ◌++◌, map, Bool, true, false, ◌&&◌, not, refl, ap, sym, ◌∙◌}
use Rattle.std.proofs.Common.{inl, inr, subst, append-nil}
use Rattle.std.specs.Prelude.{Some, None, if◌then◌else◌, nat_eq}
use Rattle.std.specs.List.{AllByRecursion}
use Rattle.std.proofs.lemmas.List.{map-append}
use Rattle.std.proofs.lemmas.Grind.{flat_map-append}
use Rattle.std.proofs.lemmas.Bool.{and_parts, not-true}
use Rattle.mp_term.specs.Tree.{Tree, symbol, app, tree_list, trees}
use Rattle.mp_term.specs.TreeLists.{tree_list-trees}
use Rattle.mp_term.specs.Order.{tree_cmp}
use Rattle.mp_term.specs.OrderLaws.{tree_cmp_total}
use Rattle.mp_term.specs.Sorting.{sorted}
use Rattle.mp_term.specs.Signature.{Sig, is_assoc, is_comm, is_one}
use Rattle.mp_term.specs.Normal.{unwrapped, parts, flattened, collapsed, normal, normals, IsNormal}
use Rattle.mp_term.specs.NormalTest.{has_head, is_single, ascending, passes, all_pass}
use Rattle.mp_term.proofs.Sorting.{tally-sorted, ascends-sorted}
use Rattle.mp_term.proofs.NormalTestLaws.{normal-passes}
use Rattle.mp_term.proofs.ListLaws.{all-split}
use Rattle.mp_pattern.proofs.SortedLaws.{all-from_sorted}
use Rattle.mp_pattern.specs.PatternTree.{Wildcard, dot, kind, plus, star, counted, optional, Pattern}
use Rattle.mp_pattern.specs.PatternTree.{symbol_pattern, app_pattern, wild_pattern, Patterns, no_patterns}
use Rattle.mp_pattern.specs.PatternTree.{more_patterns}
use Rattle.mp_pattern.specs.Value.{Value, one, seq, bag, IsFinal, Subst, value_of}
use Rattle.mp_pattern.specs.Contribution.{contribution, spread, if_several}
use Rattle.mp_pattern.specs.Fits.{Table, joined, some_left_out, arranged, ByValue, WildTakes, TakesBy, AllTakeBy, Fits}
use Rattle.mp_pattern.specs.Holds.{listed}
use Rattle.mp_pattern.specs.Instance.{is_fully_named, all_fully_named, pattern_instances, all_pattern_instances}
use Rattle.mp_pattern.specs.Instance.{IsPatternApplied}
use Rattle.mp_theory.specs.Solve.{is_alone}
use Rattle.mp_pattern.specs.EachWildcard.{EachWildcard, AllEachWildcard}
use Rattle.mp_theory.specs.NoOptional.{IsNotOptional, HasNoOptional}
use Rattle.mp_theory.proofs.Cuts.{put, count, count-append, same_counts}
use Rattle.mp_theory.proofs.Wildcards.{if_several-some, put-put, final-passes}
use Rattle.mp_theory.proofs.Walk.{all_pass-each}
use Rattle.mp_theory.proofs.FitsSolves.{at_value}

-- what holds of each term of a list that was put in order holds of each term
all-from_put : (P : Tree → Type 0) (b : Bool) (ts : List Tree) → AllByRecursion P (put b ts) → AllByRecursion P ts
all-from_put P true ts h = all-from_sorted P tree_cmp ts h
all-from_put P false ts h = h

-- parts with the same terms are, together, lists with the same terms
put-append : (b : Bool) (xs ys us vs : List Tree) → put b xs ≡ put b us → put b ys ≡ put b vs
    → put b (xs ++ ys) ≡ put b (us ++ vs)
put-append true xs ys us vs p q =
    let counts = λ (z : Tree) (ts ws : List Tree) (e : sorted tree_cmp ts ≡ sorted tree_cmp ws).
    sym (tally-sorted tree_cmp z ts) ∙ ap (count z) e ∙ tally-sorted tree_cmp z ws in
    same_counts (sorted tree_cmp (xs ++ ys)) (sorted tree_cmp (us ++ vs))
    (ascends-sorted tree_cmp tree_cmp_total (xs ++ ys)) (ascends-sorted tree_cmp tree_cmp_total (us ++ vs)) (λ z.
    tally-sorted tree_cmp z (xs ++ ys) ∙ count-append z xs ys ∙ ap (λ n. n + count z ys) (counts z xs us p)
    ∙ ap (λ n. count z us + n) (counts z ys vs q) ∙ sym (count-append z us vs)
    ∙ sym (tally-sorted tree_cmp z (us ++ vs)))
put-append false xs ys us vs p q = ap (λ ts. ts ++ ys) p ∙ ap (λ ts. us ++ ts) q

-- no child that isn't optional is left out
pub none_left_out : (ps : Patterns) (ls : List (List Tree)) → AllEachWildcard IsNotOptional ps
    → some_left_out ps ls ≡ false
none_left_out no_patterns ls h = refl
none_left_out (more_patterns p ps) [] h = refl
none_left_out (more_patterns (symbol_pattern n) ps) (l ∷ ls) h = none_left_out ps ls h.1
none_left_out (more_patterns (app_pattern k qs) ps) (l ∷ ls) h = none_left_out ps ls h.1
none_left_out (more_patterns (wild_pattern dot x) ps) (l ∷ ls) h = none_left_out ps ls h.1
none_left_out (more_patterns (wild_pattern (kind k) x) ps) (l ∷ ls) h = none_left_out ps ls h.1
none_left_out (more_patterns (wild_pattern plus x) ps) (l ∷ ls) h = none_left_out ps ls h.1
none_left_out (more_patterns (wild_pattern star x) ps) (l ∷ ls) h = none_left_out ps ls h.1
none_left_out (more_patterns (wild_pattern (counted n c) x) ps) (l ∷ ls) h = none_left_out ps ls h.1
none_left_out (more_patterns (wild_pattern (optional d) x) ps) (l ∷ ls) h = absurd h.0

module _ (sig : Sig) where
  -- terms in normal form that g doesn't open
  abbrev AreApart : ℕ → List Tree → Type 0
  AreApart g ts = AllByRecursion (λ t. (passes sig t ≡ true) × (is_alone sig (Some g) t ≡ true)) ts

  -- normalising and flattening leaves them as they are
  parts-alone : (g : ℕ) (t : Tree) → is_alone sig (Some g) t ≡ true → parts sig g t ≡ t ∷ []
  parts-alone g t h =
      elim (is_assoc sig g) as
      (λ b. not (b && has_head g t) ≡ true → (if b then unwrapped g t else (t ∷ [])) ≡ t ∷ []) [
        | true ↦ λ e. unwrapped-alone t (not-true _ e)
        | false ↦ λ e. refl
      ] h
    where
      unwrapped-alone : (t : Tree) → has_head g t ≡ false → unwrapped g t ≡ t ∷ []
      unwrapped-alone (symbol n) e = refl
      unwrapped-alone (app k ts) e = rw e refl

  flattened-apart : (g : ℕ) (ts : List Tree) → AreApart g ts → flattened sig g (map (normal sig) ts) ≡ ts
  flattened-apart g [] h = refl
  flattened-apart g (t ∷ ts) h = ap (λ u. parts sig g u ++ flattened sig g (map (normal sig) ts))
      (normal-passes sig t h.0.0) ∙ ap (λ us. us ++ flattened sig g (map (normal sig) ts)) (parts-alone g t h.0.1)
      ∙ ap (λ us. t ∷ us) (flattened-apart g ts h.1)

  -- what a term contributes is what flattening makes of it
  parts-contribution : (g : ℕ) (v : Tree) (l : List Tree) → contribution sig (Some g) v ≡ Some l → parts sig g v ≡ l
  parts-contribution g v l e =
      elim (is_assoc sig g) as (λ b. (if b then spread g v else Some (v ∷ [])) ≡ Some l
      → (if b then unwrapped g v else (v ∷ [])) ≡ l) [
        | true ↦ λ p. unwrapped-spread v p
        | false ↦ λ p. cc
      ] e
    where
      unwrapped-spread : (v : Tree) → spread g v ≡ Some l → unwrapped g v ≡ l
      unwrapped-spread (symbol n) p = cc
      unwrapped-spread (app k ts) p = elim (nat_eq g k) as
          (λ b. (if b then if_several (tree_list ts) else Some (app k ts ∷ [])) ≡ Some l
          → (if b then tree_list ts else (app k ts ∷ [])) ≡ l) [
            | true ↦ λ q. if_several-some (tree_list ts) l q
            | false ↦ λ q. cc
          ] p

  normals-trees : (ts : List Tree) → normals sig (trees ts) ≡ map (normal sig) ts
  normals-trees [] = refl
  normals-trees (t ∷ ts) = ap (λ us. normal sig t ∷ us) (normals-trees ts)

  -- an application in normal form doesn't collapse, and its arguments are apart
  collapsed-passes : (h : ℕ) (ts : List Tree) → passes sig (app h (trees ts)) ≡ true
      → collapsed sig h ts ≡ app h (trees ts)
  collapsed-passes h [] e = refl
  collapsed-passes h (t ∷ []) e = elim (is_one sig h) as
      (λ b. not (b && true) ≡ true → (if b then t else app h (trees (t ∷ []))) ≡ app h (trees (t ∷ [])))
      [ true ↦ λ q. cc | false ↦ λ q. refl ] (and_parts (not (is_one sig h && true)) _ e).0
  collapsed-passes h (t ∷ u ∷ ts) e = refl

  apart-arguments : (h : ℕ) (ts : List Tree) → passes sig (app h (trees ts)) ≡ true → AreApart h ts
  apart-arguments h ts e =
      let k = (and_parts (not (is_comm sig h && not (ascending (tree_list (trees ts))))) (all_pass sig h (trees ts))
      (and_parts (not (is_one sig h && is_single (tree_list (trees ts)))) _ e).1).1 in
      let i = all_pass-each sig h (trees ts) k in
      subst (AreApart h) (tree_list-trees ts) (pairs (tree_list (trees ts)) i.0 i.1)
    where
      pairs : (us : List Tree) → AllByRecursion (λ t. passes sig t ≡ true) us
          → AllByRecursion (λ t. is_alone sig (Some h) t ≡ true) us → AreApart h us
      pairs [] p q = tt
      pairs (u ∷ us) p q = ((p.0, q.0), pairs us p.1 q.1)

  module _ (s : Subst) (finals : (x : List ℕ) (v : Value) → value_of s x ≡ Some v → IsFinal sig v) where
    -- the instances of a wildcard are the terms of its value
    value_instances : (w : Wildcard) (x : List ℕ) (v : Value) → value_of s x ≡ Some v
        → pattern_instances s (wild_pattern w (Some x)) ≡ listed (Some v)
    value_instances w x v e = ap listed e

    abbrev Opened : ℕ → List Tree → List Tree
    Opened g us = arranged sig (Some g) (flattened sig g (map (normal sig) us))

    sequence_instance : (g : ℕ) (m l : List Tree) → AreApart g l → l ≡ arranged sig (Some g) m
        → Opened g m ≡ arranged sig (Some g) l
    sequence_instance g m l a e =
        let apart : AreApart g m = all-from_put (λ t. (passes sig t ≡ true) × (is_alone sig (Some g) t ≡ true))
        (is_comm sig g) m (subst (AreApart g) e a) in
        ap (arranged sig (Some g)) (flattened-apart g m apart) ∙ sym (put-put (is_comm sig g) m)
        ∙ ap (arranged sig (Some g)) (sym e)

    same_instance : (g : ℕ) (m l : List Tree) → AreApart g l → l ≡ m → Opened g m ≡ arranged sig (Some g) l
    same_instance g m l a e = subst (λ us. Opened g us ≡ arranged sig (Some g) l) e
        (ap (arranged sig (Some g)) (flattened-apart g l a))

    -- what a wildcard takes under g is its instances, normalised, flattened and in order
    wild_instance : (w : Wildcard) (g : ℕ) (v : Value) (l : List Tree) → IsNotOptional w → IsFinal sig v → AreApart g l
        → WildTakes sig (Some g) w v l → Opened g (listed (Some v)) ≡ arranged sig (Some g) l
    wild_instance dot g (one t) l o f a h =
        ap (λ u. arranged sig (Some g) (parts sig g u ++ [])) f
        ∙ ap (arranged sig (Some g)) (append-nil (parts sig g t) ∙ parts-contribution g t l h)
    wild_instance (kind k) g (one t) l o f a h = same_instance g (t ∷ []) l a h.0
    wild_instance plus g (seq m) l o f a h = sequence_instance g m l a h.0
    wild_instance plus g (bag m) l o f a h = same_instance g m l a h.0
    wild_instance star g (seq m) l o f a h = sequence_instance g m l a h
    wild_instance star g (bag m) l o f a h = same_instance g m l a h
    wild_instance (counted n c) g (seq m) l o f a h = sequence_instance g m l a h.0
    wild_instance (counted n c) g (bag m) l o f a h = same_instance g m l a h.0
    wild_instance (optional d) g v l o f a h = absurd o
    wild_instance dot g (seq m) l o f a h = absurd h
    wild_instance dot g (bag m) l o f a h = absurd h
    wild_instance (kind k) g (seq m) l o f a h = absurd h
    wild_instance (kind k) g (bag m) l o f a h = absurd h
    wild_instance plus g (one t) l o f a h = absurd h
    wild_instance star g (one t) l o f a h = absurd h
    wild_instance (counted n c) g (one t) l o f a h = absurd h

    -- an application whose children are so is, up to normal form, the term that it takes
    app_instance : (h : ℕ) (us ts : List Tree) → passes sig (app h (trees (arranged sig (Some h) ts))) ≡ true
        → Opened h us ≡ arranged sig (Some h) ts
        → normal sig (app h (trees us)) ≡ app h (trees (arranged sig (Some h) ts))
    app_instance h us ts e k = ap (λ ns. collapsed sig h (arranged sig (Some h) (flattened sig h ns)))
        (normals-trees us) ∙ ap (collapsed sig h) k ∙ collapsed-passes h (arranged sig (Some h) ts) e

    mutual
      child_instance : (p : Pattern) (g : ℕ) (l : List Tree) (T : Table) → is_fully_named p ≡ true
          → EachWildcard IsNotOptional p → AreApart g l → TakesBy sig (ByValue sig s) (Some g) p l T
          → Opened g (pattern_instances s p) ≡ arranged sig (Some g) l
      child_instance (symbol_pattern n) g l T m o a h = same_instance g (symbol n ∷ []) l a h.0
      child_instance (wild_pattern w None) g l T n o a h = cc
      child_instance (wild_pattern w (Some x)) g l T n o a h =
          ap (Opened g) (value_instances w x h.0.0 h.0.1) ∙ wild_instance w g h.0.0 l o (finals x h.0.0 h.0.1) a h.0.2
      child_instance (app_pattern k qs) g l T n o a (inl h) =
          let ts : List Tree = joined h.takes in
          let b : AreApart g (app k (trees (arranged sig (Some k) ts)) ∷ []) = subst (AreApart g) h.node a in
          let args : AreApart k ts = all-from_put (λ t. (passes sig t ≡ true) × (is_alone sig (Some k) t ≡ true))
          (is_comm sig k) ts (apart-arguments k (arranged sig (Some k) ts) b.0.0) in
          let e = app_instance k (all_pattern_instances s qs) ts b.0.0
          (children_instances qs k h.takes h.tables n o args h.children) in
          ap (λ u. arranged sig (Some g) (parts sig g u ++ [])) e
          ∙ ap (λ us. arranged sig (Some g) (us ++ []))
          (parts-alone g (app k (trees (arranged sig (Some k) ts))) b.0.1) ∙ ap (arranged sig (Some g)) (sym h.node)
      child_instance (app_pattern k qs) g l T n o a (inr h) = let e : true ≡ false =
          sym h.left_out ∙ none_left_out qs h.takes o in cc

      children_instances : (ps : Patterns) (g : ℕ) (ls : List (List Tree)) (Ts : List Table) → all_fully_named ps ≡ true
          → AllEachWildcard IsNotOptional ps → AreApart g (joined ls) → AllTakeBy sig (ByValue sig s) g ps ls Ts
          → Opened g (all_pattern_instances s ps) ≡ arranged sig (Some g) (joined ls)
      children_instances no_patterns g [] [] n o a h = refl
      children_instances no_patterns g [] (T ∷ Ts) n o a h = absurd h
      children_instances no_patterns g (l ∷ ls) Ts n o a h = absurd h
      children_instances (more_patterns p ps) g [] Ts n o a h = absurd h
      children_instances (more_patterns p ps) g (l ∷ ls) [] n o a h = absurd h
      children_instances (more_patterns p ps) g (l ∷ ls) (T ∷ Ts) n o a h =
          let m = and_parts (is_fully_named p) (all_fully_named ps) n in
          let b = all-split (λ t. (passes sig t ≡ true) × (is_alone sig (Some g) t ≡ true)) l (joined ls) a in
          ap (λ us. arranged sig (Some g) (flattened sig g us))
          (map-append (normal sig) (pattern_instances s p) (all_pattern_instances s ps))
          ∙ ap (arranged sig (Some g)) (flat_map-append (parts sig g) (map (normal sig) (pattern_instances s p))
          (map (normal sig) (all_pattern_instances s ps)))
          ∙ put-append (is_comm sig g) (flattened sig g (map (normal sig) (pattern_instances s p)))
          (flattened sig g (map (normal sig) (all_pattern_instances s ps))) l (joined ls)
          (child_instance p g l T m.0 o.0 b.0 h.0) (children_instances ps g ls Ts m.1 o.1 b.1 h.1)

    -- at the root
    root_value : (w : Wildcard) (v : Value) (t : Tree) → IsNotOptional w → WildTakes sig None w v (t ∷ [])
        → listed (Some v) ≡ t ∷ []
    root_value dot (one u) t o h = cc
    root_value (kind k) (one u) t o h = sym h.0
    root_value plus (seq m) t o h = sym h.0
    root_value plus (bag m) t o h = sym h.0
    root_value star (seq m) t o h = sym h
    root_value star (bag m) t o h = sym h
    root_value (counted n c) (seq m) t o h = sym h.0
    root_value (counted n c) (bag m) t o h = sym h.0
    root_value (optional d) v t o h = absurd o
    root_value dot (seq m) t o h = absurd h
    root_value dot (bag m) t o h = absurd h
    root_value (kind k) (seq m) t o h = absurd h
    root_value (kind k) (bag m) t o h = absurd h
    root_value plus (one u) t o h = absurd h
    root_value star (one u) t o h = absurd h
    root_value (counted n c) (one u) t o h = absurd h

    root_instance : (p : Pattern) (t : Tree) (T : Table) → is_fully_named p ≡ true → HasNoOptional p → IsNormal sig t
        → TakesBy sig (ByValue sig s) None p (t ∷ []) T → IsPatternApplied sig p s t
    root_instance (symbol_pattern n) t T m o k h =
        record {
          spliced = symbol n;
          instance = record { named = refl; instance = refl };
          result = let e : t ∷ [] ≡ symbol n ∷ [] = h.0 in cc;
        }
    root_instance (wild_pattern w None) t T m o k h = cc
    root_instance (wild_pattern w (Some x)) t T m o k h =
        record {
          spliced = t;
          instance = record { named = refl; instance = value_instances w x h.0.0 h.0.1 ∙ root_value w h.0.0 t o h.0.2 };
          result = sym k;
        }
    root_instance (app_pattern g qs) t T m o k (inl h) =
        let ts : List Tree = joined h.takes in
        let e : t ∷ [] ≡ app g (trees (arranged sig (Some g) ts)) ∷ [] = h.node in
        let same : t ≡ app g (trees (arranged sig (Some g) ts)) = cc in
        let pass : passes sig (app g (trees (arranged sig (Some g) ts))) ≡ true =
        subst (λ u. passes sig u ≡ true) same (final-passes sig t k) in
        let args : AreApart g ts = all-from_put (λ u. (passes sig u ≡ true) × (is_alone sig (Some g) u ≡ true))
        (is_comm sig g) ts (apart-arguments g (arranged sig (Some g) ts) pass) in
        record {
          spliced = app g (trees (all_pattern_instances s qs));
          instance = record { named = m; instance = refl };
          result =
              same ∙ sym
              (app_instance g (all_pattern_instances s qs) ts pass
              (children_instances qs g h.takes h.tables m o args h.children));
        }
    root_instance (app_pattern g qs) t T m o k (inr h) = let e : true ≡ false =
        sym h.left_out ∙ none_left_out qs h.takes o in cc

  pub fits-applied : (p : Pattern) (t : Tree) (s : Subst) (T : Table) → is_fully_named p ≡ true → HasNoOptional p
      → IsNormal sig t → Fits sig p t s T → IsPatternApplied sig p s t
  fits-applied p t s T m o k h = root_instance s
      (λ x v e. at_value (λ y w. IsFinal sig w) s x v h.subst_of.final e) p t T m o k h.takes
