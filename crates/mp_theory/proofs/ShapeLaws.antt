-- A syntactic pattern fits exactly where it has the shape, the kinds are met, and the takes have a solution.
use Rattle.std.proofs.Common.{◌≡◌, ℕ, List, [], ◌∷◌, ◌++◌, map, true, false, ◌&&◌, not, refl, ap, sym, ◌∙◌}
use Rattle.std.proofs.Common.{inl, inr, subst, eqb-true, eq-eqb}
use Rattle.std.specs.Prelude.{Option, Some, None, if◌then◌else◌, nat_eq, ⊤, slice_get}
use Rattle.std.specs.List.{AllByRecursion}
use Rattle.std.proofs.lemmas.Bool.{and_parts, and_from, not-true}
use Rattle.std.proofs.lemmas.List.{map-append}
use Rattle.mp_term.specs.Tree.{Tree, symbol, app, Trees, no_trees, more_trees, tree_list, trees}
use Rattle.mp_term.specs.TreeLists.{trees-tree_list}
use Rattle.mp_term.specs.declared.signature.OpDecl.{OpDecl}
use Rattle.mp_term.specs.Signature.{Sig, holds_of, is_assoc, is_comm, in_kind}
use Rattle.mp_term.specs.Normal.{IsNormal}
use Rattle.mp_term.specs.NormalTest.{passes, all_pass}
use Rattle.mp_term.proofs.NormalTestLaws.{normal-passes}
use Rattle.mp_term.proofs.ListLaws.{all-append, all-split}
use Rattle.mp_pattern.specs.PatternTree.{Wildcard, dot, kind, plus, star, counted, optional, Pattern, symbol_pattern}
use Rattle.mp_pattern.specs.PatternTree.{app_pattern, wild_pattern, Patterns, no_patterns, more_patterns}
use Rattle.mp_pattern.specs.Value.{Value, one, seq, bag, IsFinal, Subst, value_of}
use Rattle.mp_pattern.specs.Variables.{uses, all_uses}
use Rattle.mp_pattern.specs.Syntactic.{is_plain, is_syntactic, all_syntactic}
use Rattle.mp_pattern.specs.Contribution.{contribution}
use Rattle.mp_pattern.specs.Fits.{Table, joined, WildTakes, ByValue, AllTakeBy, Takes, Fits}
use Rattle.mp_pattern.proofs.NameLaws.{same_name-is, same_name-itself}
use Rattle.mp_theory.specs.Solve.{contributor, given, solve}
use Rattle.mp_pattern.specs.EachWildcard.{EachWildcard, AllEachWildcard}
use Rattle.mp_theory.specs.NoOptional.{IsNotOptional}
use Rattle.mp_theory.proofs.Merging.{Refines, refined_one}
use Rattle.mp_theory.proofs.SolveLaws.{Obeys}
use Rattle.mp_theory.proofs.Solving.{GivesFinal, solved-by, solution}
use Rattle.mp_theory.proofs.Wildcards.{final-passes}
use Rattle.mp_theory.proofs.Instances.{none_left_out}
use Rattle.mp_theory.specs.Shape.{shape, shapes, suits, of_kinds, all_of_kinds, takings, all_takings, table_of}
use Rattle.mp_theory.specs.Shape.{tables_of}

-- no wildcard of a syntactic pattern is optional
mutual
  syntactic-not_optional : (sig : Sig) (p : Pattern) → is_syntactic sig p ≡ true → EachWildcard IsNotOptional p
  syntactic-not_optional sig (symbol_pattern n) h = tt
  syntactic-not_optional sig (app_pattern g ps) h =
      all_syntactic-not_optional sig ps (and_parts (is_plain sig g) (all_syntactic sig ps) h).1
  syntactic-not_optional sig (wild_pattern dot x) h = tt
  syntactic-not_optional sig (wild_pattern (kind k) x) h = tt
  syntactic-not_optional sig (wild_pattern plus x) h = tt
  syntactic-not_optional sig (wild_pattern star x) h = tt
  syntactic-not_optional sig (wild_pattern (counted n fixed) x) h = tt
  syntactic-not_optional sig (wild_pattern (optional d) x) h = cc

  all_syntactic-not_optional : (sig : Sig) (ps : Patterns) → all_syntactic sig ps ≡ true
      → AllEachWildcard IsNotOptional ps
  all_syntactic-not_optional sig no_patterns h = tt
  all_syntactic-not_optional sig (more_patterns p ps) h =
      let k = and_parts (is_syntactic sig p) (all_syntactic sig ps) h in
      (syntactic-not_optional sig p k.0, all_syntactic-not_optional sig ps k.1)

-- takes account for the uses
mutual
  pub takings-uses : (f : Option ℕ) (p : Pattern) (t : Tree) → shape p t ≡ true
      → map (λ k. k.by) (takings f p t) ≡ uses f p
  takings-uses f (symbol_pattern m) t h = refl
  takings-uses f (app_pattern g ps) (symbol n) h = cc
  takings-uses f (app_pattern g ps) (app i ts) h = all_takings-uses g ps ts (and_parts (nat_eq g i) (shapes ps ts) h).1
  takings-uses f (wild_pattern w None) t h = refl
  takings-uses f (wild_pattern w (Some x)) t h = refl

  all_takings-uses : (g : ℕ) (ps : Patterns) (ts : Trees) → shapes ps ts ≡ true
      → map (λ k. k.by) (all_takings g ps ts) ≡ all_uses (Some g) ps
  all_takings-uses g no_patterns ts h = refl
  all_takings-uses g (more_patterns p ps) no_trees h = cc
  all_takings-uses g (more_patterns p ps) (more_trees t ts) h =
      let k = and_parts (shape p t) (shapes ps ts) h in
      map-append (λ k. k.by) (takings (Some g) p t) (all_takings g ps ts)
      ∙ ap (λ us. us ++ map (λ k. k.by) (all_takings g ps ts)) (takings-uses (Some g) p t k.0)
      ∙ ap (λ us. uses (Some g) p ++ us) (all_takings-uses g ps ts k.1)

-- each tree as a list, one after the other
joined-singles : (ts : Trees) → joined (map (λ t. t ∷ []) (tree_list ts)) ≡ tree_list ts
joined-singles no_trees = refl
joined-singles (more_trees t ts) = ap (λ us. t ∷ us) (joined-singles ts)

module _ (sig : Sig) where
  -- the operation above, if any, is neither associative nor commutative
  abbrev pub IsFlat : Option ℕ → Type 0
  IsFlat None = ⊤
  IsFlat (Some f) = (is_assoc sig f ≡ false) × (is_comm sig f ≡ false)

  pub plain-flat : (f : ℕ) → is_plain sig f ≡ true → IsFlat (Some f)
  plain-flat f h = of_decl (slice_get sig.ops f) h
    where
      of_decl : (o : Option OpDecl) → holds_of (λ d. d.fixed && (not d.assoc && not d.comm)) o ≡ true
          → (holds_of (λ d. d.assoc) o ≡ false) × (holds_of (λ d. d.comm) o ≡ false)
      of_decl None e = cc
      of_decl (Some d) e =
          let k = and_parts (not d.assoc) (not d.comm) (and_parts d.fixed (not d.assoc && not d.comm) e).1 in
          (not-true d.assoc k.0, not-true d.comm k.1)

  flat-contributes : (f : Option ℕ) (v : Tree) → IsFlat f → contribution sig f v ≡ Some (v ∷ [])
  flat-contributes None v h = refl
  flat-contributes (Some f) v h = rw h.0 refl

  pub flat-given : (f : Option ℕ) (t : Tree) → IsFlat f → contributor sig f (t ∷ []) ≡ Some (one t)
  flat-given None t h = refl
  flat-given (Some f) t h = rw h.0 refl

  module _ (s : Subst) where
    -- what a pattern takes, seen as one tree
    record Seen (f : Option ℕ) (p : Pattern) (l : List Tree) : Type 0 where
      pub term : Tree
      pub node : l ≡ term ∷ []
      pub is : shape p term ≡ true
      pub kinds : of_kinds sig p term ≡ true
      pub obeys : AllByRecursion (Obeys sig s) (takings f p term)

    record AllSeen (g : ℕ) (ps : Patterns) (ls : List (List Tree)) : Type 0 where
      pub terms : Trees
      pub node : joined ls ≡ tree_list terms
      pub is : shapes ps terms ≡ true
      pub kinds : all_of_kinds sig ps terms ≡ true
      pub obeys : AllByRecursion (Obeys sig s) (all_takings g ps terms)

    dot-seen : (f : Option ℕ) (x : List ℕ) (l : List Tree) → IsFlat f → (v : Value) → value_of s x ≡ Some v
        → WildTakes sig f dot v l → Seen f (wild_pattern dot (Some x)) l
    dot-seen f x l h (one v) a b =
        let e : Some (v ∷ []) ≡ Some l = sym (flat-contributes f v h) ∙ b in
        record {
          term = v;
          node = cc;
          is = refl;
          kinds = refl;
          obeys =
              (record { value = one v; is = flat-given f v h; final = one v; held = a; refines = refl }, tt);
        }
    dot-seen f x l h (seq m) a b = absurd b
    dot-seen f x l h (bag m) a b = absurd b

    kind-seen : (f : Option ℕ) (n : ℕ) (x : List ℕ) (l : List Tree) → (v : Value) → value_of s x ≡ Some v
        → WildTakes sig f (kind n) v l → Seen f (wild_pattern (kind n) (Some x)) l
    kind-seen f n x l (one v) a b = record {
      term = v;
      node = b.0;
      is = refl;
      kinds = b.1;
      obeys =
          (record { value = one v; is = rw b.1 refl; final = one v; held = a; refines = refl }, tt);
    }
    kind-seen f n x l (seq m) a b = absurd b
    kind-seen f n x l (bag m) a b = absurd b

    wild-seen : (f : Option ℕ) (w : Wildcard) (x : Option (List ℕ)) (l : List Tree) → IsFlat f
        → is_syntactic sig (wild_pattern w x) ≡ true → ByValue sig s f w x l → Seen f (wild_pattern w x) l
    wild-seen f dot None l h k a =
        let e : Some (a.0 ∷ []) ≡ Some l = sym (flat-contributes f a.0 h) ∙ a.2 in
        record { term = a.0; node = cc; is = refl; kinds = refl; obeys = tt }
    wild-seen f dot (Some x) l h k a = dot-seen f x l h a.0 a.1 a.2
    wild-seen f (kind n) None l h k a = record { term = a.0; node = a.1; is = refl; kinds = a.2; obeys = tt }
    wild-seen f (kind n) (Some x) l h k a = kind-seen f n x l a.0 a.1 a.2
    wild-seen f plus x l h k a = cc
    wild-seen f star x l h k a = cc
    wild-seen f (counted n fixed) x l h k a = cc
    wild-seen f (optional d) x l h k a = cc

    mutual
      seen : (f : Option ℕ) (p : Pattern) (l : List Tree) (T : Table) → IsFlat f → is_syntactic sig p ≡ true
          → Takes sig s f p l T → Seen f p l
      seen f (symbol_pattern n) l T h k a = record {
        term = symbol n;
        node = a.0;
        is = same_name-itself n;
        kinds =
            refl;
        obeys = tt;
      }
      seen f (wild_pattern w x) l T h k a = wild-seen f w x l h k a.0
      seen f (app_pattern g ps) l T h k (inl a) =
          let b = and_parts (is_plain sig g) (all_syntactic sig ps) k in
          let flat = plain-flat g b.0 in
          let i = all_seen g ps a.takes a.tables flat b.1 a.children in
          let e : l ≡ app g i.terms ∷ [] = a.node ∙ ap (λ us. app g (trees us) ∷ []) (rw flat.1 i.node)
          ∙ ap (λ us. app g us ∷ []) (trees-tree_list i.terms) in
          record {
            term = app g i.terms;
            node = e;
            is =
                and_from (nat_eq g g) (shapes ps i.terms) (eq-eqb g g refl) i.is;
            kinds = i.kinds;
            obeys = i.obeys;
          }
      seen f (app_pattern g ps) l T h k (inr a) =
          let b = and_parts (is_plain sig g) (all_syntactic sig ps) k in
          let e : true ≡ false = sym a.left_out ∙ none_left_out ps a.takes (all_syntactic-not_optional sig ps b.1) in cc

      all_seen : (g : ℕ) (ps : Patterns) (ls : List (List Tree)) (Ts : List Table) → IsFlat (Some g)
          → all_syntactic sig ps ≡ true → AllTakeBy sig (ByValue sig s) g ps ls Ts → AllSeen g ps ls
      all_seen g no_patterns [] [] h k a = record { terms = no_trees; node = refl; is = refl; kinds = refl; obeys = tt }
      all_seen g no_patterns [] (T ∷ Ts) h k a = absurd a
      all_seen g no_patterns (l ∷ ls) Ts h k a = absurd a
      all_seen g (more_patterns p ps) [] Ts h k a = absurd a
      all_seen g (more_patterns p ps) (l ∷ ls) [] h k a = absurd a
      all_seen g (more_patterns p ps) (l ∷ ls) (T ∷ Ts) h k a =
          let b = and_parts (is_syntactic sig p) (all_syntactic sig ps) k in
          let i = seen (Some g) p l T h b.0 a.0 in
          let j = all_seen g ps ls Ts h b.1 a.1 in
          record {
            terms = more_trees i.term j.terms;
            node = ap (λ m. m ++ joined ls) i.node ∙ ap (λ m. i.term ∷ m) j.node;
            is = and_from (shape p i.term) (shapes ps j.terms) i.is j.is;
            kinds = and_from (of_kinds sig p i.term) (all_of_kinds sig ps j.terms) i.kinds j.kinds;
            obeys = all-append (Obeys sig s) (takings (Some g) p i.term) (all_takings g ps j.terms) i.obeys j.obeys;
          }

    named-held : (x : List ℕ) (t : Tree) (v w : Value) → Some v ≡ Some (one t) → value_of s x ≡ Some w → Refines v w
        → value_of s x ≡ Some (one t)
    named-held x t v w e h r =
        let q : v ≡ one t = cc in
        h ∙ ap Some (refined_one t w (subst (λ u. Refines u w) q r))

    wild-takes : (f : Option ℕ) (w : Wildcard) (x : Option (List ℕ)) (t : Tree) → IsFlat f
        → is_syntactic sig (wild_pattern w x) ≡ true → suits sig w t ≡ true → IsNormal sig t
        → AllByRecursion (Obeys sig s) (takings f (wild_pattern w x) t) → ByValue sig s f w x (t ∷ [])
    wild-takes f dot None t h k q n o = (t, n, flat-contributes f t h)
    wild-takes f dot (Some x) t h k q n o = (
      one t,
      named-held x t o.0.value o.0.final (sym o.0.is ∙ flat-given f t h) o.0.held o.0.refines,
      flat-contributes f t h,
    )
    wild-takes f (kind i) None t h k q n o = (t, refl, q)
    wild-takes f (kind i) (Some x) t h k q n o =
        (one t, named-held x t o.0.value o.0.final (sym o.0.is ∙ rw q refl) o.0.held o.0.refines, (refl, q))
    wild-takes f plus x t h k q n o = cc
    wild-takes f star x t h k q n o = cc
    wild-takes f (counted m fixed) x t h k q n o = cc
    wild-takes f (optional d) x t h k q n o = cc

    mutual
      shape-takes : (f : Option ℕ) (p : Pattern) (t : Tree) → IsFlat f → is_syntactic sig p ≡ true → shape p t ≡ true
          → of_kinds sig p t ≡ true → passes sig t ≡ true → AllByRecursion (Obeys sig s) (takings f p t)
          → Takes sig s f p (t ∷ []) (table_of p t)
      shape-takes f (symbol_pattern m) (symbol n) h k a q y o =
          (ap (λ x. symbol x ∷ []) (sym (same_name-is m n a)), refl)
      shape-takes f (symbol_pattern m) (app g ts) h k a q n o = cc
      shape-takes f (wild_pattern w x) t h k a q n o = (wild-takes f w x t h k q (normal-passes sig t n) o, refl)
      shape-takes f (app_pattern g ps) (symbol m) h k a q n o = cc
      shape-takes f (app_pattern g ps) (app i ts) h k a q n o =
          let b = and_parts (is_plain sig g) (all_syntactic sig ps) k in
          let c = and_parts (nat_eq g i) (shapes ps ts) a in
          let flat = plain-flat g b.0 in
          inl (record {
            takes = map (λ t. t ∷ []) (tree_list ts);
            tables = tables_of ps ts;
            children = shapes-take g ps i ts flat b.1 c.1 q (and_parts _ (all_pass sig i ts) (and_parts _ _ n).1).1 o;
            node = ap (λ j. app j ts ∷ []) (sym (eqb-true g i c.0))
                ∙ ap (λ us. app g us ∷ []) (sym (trees-tree_list ts))
                ∙ ap (λ us. app g (trees us) ∷ []) (rw flat.1 (sym (joined-singles ts)));
            table = refl;
          })

      shapes-take : (g : ℕ) (ps : Patterns) (i : ℕ) (ts : Trees) → IsFlat (Some g) → all_syntactic sig ps ≡ true
          → shapes ps ts ≡ true → all_of_kinds sig ps ts ≡ true → all_pass sig i ts ≡ true
          → AllByRecursion (Obeys sig s) (all_takings g ps ts)
          → AllTakeBy sig (ByValue sig s) g ps (map (λ t. t ∷ []) (tree_list ts)) (tables_of ps ts)
      shapes-take g no_patterns i no_trees h k a q n o = tt
      shapes-take g no_patterns i (more_trees t ts) h k a q n o = cc
      shapes-take g (more_patterns p ps) i no_trees h k a q n o = cc
      shapes-take g (more_patterns p ps) i (more_trees t ts) h k a q n o =
          let b = and_parts (is_syntactic sig p) (all_syntactic sig ps) k in
          let c = and_parts (shape p t) (shapes ps ts) a in
          let d = and_parts (of_kinds sig p t) (all_of_kinds sig ps ts) q in
          let e = and_parts _ (all_pass sig i ts) n in
          let r = all-split (Obeys sig s) (takings (Some g) p t) (all_takings g ps ts) o in (
            shape-takes (Some g) p t h b.0 c.0 d.0 (and_parts (passes sig t) _ e.0).0 r.0,
            shapes-take g ps i ts h b.1
                c.1 d.1 e.1 r.1,
          )

  -- what stands below a variable in a normal tree is a final value
  wild-final : (f : Option ℕ) (w : Wildcard) (x : Option (List ℕ)) (t : Tree) (v : Value) → IsFlat f
      → is_syntactic sig (wild_pattern w x) ≡ true → given sig f w (t ∷ []) ≡ Some v → IsNormal sig t → IsFinal sig v
  wild-final f dot x t v h k e n = let q : Some (one t) ≡ Some v = sym (flat-given f t h) ∙ e in let r : one t ≡ v =
      cc in subst (IsFinal sig) r n
  wild-final f (kind i) x t v h k e n =
      elim (in_kind sig i t) as (λ b. (if b then Some (one t) else None) ≡ Some v → IsFinal sig v) [
        | true ↦ λ p. let r : one t ≡ v = cc in subst (IsFinal sig) r n
        | false ↦ λ p. cc
      ] e
  wild-final f plus x t v h k e n = cc
  wild-final f star x t v h k e n = cc
  wild-final f (counted m fixed) x t v h k e n = cc
  wild-final f (optional d) x t v h k e n = cc

  mutual
    takings-final : (f : Option ℕ) (p : Pattern) (t : Tree) → IsFlat f → is_syntactic sig p ≡ true
        → passes sig t ≡ true → AllByRecursion (GivesFinal sig) (takings f p t)
    takings-final f (symbol_pattern m) t h k n = tt
    takings-final f (app_pattern g ps) (symbol m) h k n = tt
    takings-final f (app_pattern g ps) (app i ts) h k n =
        let b = and_parts (is_plain sig g) (all_syntactic sig ps) k in
        all_takings-final g ps i ts (plain-flat g b.0) b.1 (and_parts _ (all_pass sig i ts) (and_parts _ _ n).1).1
    takings-final f (wild_pattern w None) t h k n = tt
    takings-final f (wild_pattern w (Some x)) t h k n =
        ((λ v e. wild-final f w (Some x) t v h k e (normal-passes sig t n)), tt)

    all_takings-final : (g : ℕ) (ps : Patterns) (i : ℕ) (ts : Trees) → IsFlat (Some g) → all_syntactic sig ps ≡ true
        → all_pass sig i ts ≡ true → AllByRecursion (GivesFinal sig) (all_takings g ps ts)
    all_takings-final g no_patterns i ts h k n = tt
    all_takings-final g (more_patterns p ps) i no_trees h k n = tt
    all_takings-final g (more_patterns p ps) i (more_trees t ts) h k n =
        let b = and_parts (is_syntactic sig p) (all_syntactic sig ps) k in
        let e = and_parts _ (all_pass sig i ts) n in
        all-append (GivesFinal sig) (takings (Some g) p t) (all_takings g ps ts)
        (takings-final (Some g) p t h b.0 (and_parts (passes sig t) _ e.0).0)
        (all_takings-final g ps i ts h b.1 e.1)

  -- where a syntactic pattern fits a normal subject it has the shape and the kinds, and the substitution solves what
  -- its variables take
  pub fits-shape : (p : Pattern) (t : Tree) (s : Subst) (T : Table) → is_syntactic sig p ≡ true → Fits sig p t s T
      → (shape p t ≡ true) × (of_kinds sig p t ≡ true) × (solve sig [] (takings None p t) ≡ Some s)
  fits-shape p t s T k h =
      let i = seen s None p (t ∷ []) T tt k h.takes in
      let e : t ≡ i.term = let q : t ∷ [] ≡ i.term ∷ [] = i.node in cc in
      let a : shape p t ≡ true = subst (λ u. shape p u ≡ true) (sym e) i.is in
      let b : of_kinds sig p t ≡ true = subst (λ u. of_kinds sig p u ≡ true) (sym e) i.kinds in
      let o : AllByRecursion (Obeys sig s) (takings None p t) =
      subst (λ u. AllByRecursion (Obeys sig s) (takings None p u)) (sym e) i.obeys in
      (a, b, solved-by sig p (takings None p t) (takings-uses None p t a) s h.subst_of o)

  -- and back, with the table of the shape
  pub shape-fits : (p : Pattern) (t : Tree) (s : Subst) → is_syntactic sig p ≡ true → IsNormal sig t
      → shape p t ≡ true → of_kinds sig p t ≡ true → solve sig [] (takings None p t) ≡ Some s
      → Fits sig p t s (table_of p t)
  shape-fits p t s k n a b e =
      let pass = final-passes sig t n in
      let h = solution sig p (takings None p t) (takings-uses None p t a) s (takings-final None p t tt k pass) e in
      record { subst_of = h.0; takes = shape-takes s None p t tt k a b pass h.1 }
