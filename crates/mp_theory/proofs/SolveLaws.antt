-- Takes that a substitution obeys are solved, by a substitution that it agrees with.
use Rattle.std.proofs.Common.{◌≡◌, ℕ, true, false, List, [], ◌∷◌, refl, ap, sym, ◌∙◌, subst, eqb-true}
use Rattle.std.specs.Prelude.{Option, Some, None, if◌then◌else◌, nat_eq}
use Rattle.std.specs.List.{AllByRecursion}
use Rattle.mp_term.specs.Tree.{Tree, symbol, app, Trees, tree_list, no_trees, more_trees}
use Rattle.mp_term.specs.TreeLists.{trees-tree_list}
use Rattle.mp_term.specs.Signature.{Sig, is_assoc}
use Rattle.mp_pattern.specs.Value.{Value, one, Subst, value_of}
use Rattle.mp_pattern.specs.Contribution.{contribution, spread, if_several}
use Rattle.mp_theory.specs.Solve.{Taken, is_alone, contributor, given, solve}
use Rattle.mp_theory.proofs.Merging.{Refines, Extends, bind-complete}

module _ (sig : Sig) where
  -- the take gives a value that the variable's value in s agrees with
  pub record Obeys (s : Subst) (t : Taken) : Type 0 where
    pub value : Value
    pub is : given sig t.by.under t.by.wildcard t.terms ≡ Some value
    pub final : Value
    pub held : value_of s t.by.name ≡ Some final
    pub refines : Refines value final

  -- the takes are solved, by a substitution that s agrees with
  pub record Solved (env s : Subst) (ts : List Taken) : Type 0 where
    pub after : Subst
    pub is : solve sig env ts ≡ Some after
    pub extends : Extends after s

  -- takes that s obeys are solved
  pub solve-complete : (env s : Subst) (ts : List Taken) → Extends env s → AllByRecursion (Obeys s) ts → Solved env s ts
  solve-complete env s [] h k = record { after = env; is = refl; extends = h }
  solve-complete env s (t ∷ ts) h k =
      let b = bind-complete env s t.by.name k.0.value k.0.final h k.0.held k.0.refines in
      let i = solve-complete b.env_after s ts b.extends k.1 in
      record { after = i.after; is = rw (k.0.is, b.is) i.is; extends = i.extends }

  -- the term that contributes a list is found from the list
  several : (g : ℕ) (us : Trees) (l : List Tree) → is_assoc sig g ≡ true → if_several (tree_list us) ≡ Some l
      → contributor sig (Some g) l ≡ Some (one (app g us))
  several g no_trees l a e = cc
  several g (more_trees t no_trees) l a e = cc
  several g (more_trees t (more_trees u us)) l a e =
      let q : t ∷ u ∷ tree_list us ≡ l = cc in
      subst (λ m. contributor sig (Some g) m ≡ Some (one (app g (more_trees t (more_trees u us))))) q
      (rw (a, trees-tree_list us) refl)

  single : (f : Option ℕ) (v : Tree) (l : List Tree) → is_alone sig f v ≡ true → Some (v ∷ []) ≡ Some l
      → contributor sig f l ≡ Some (one v)
  single f v l a e = let q : v ∷ [] ≡ l = cc in subst (λ m. contributor sig f m ≡ Some (one v)) q (rw a refl)

  spread_found : (g : ℕ) (v : Tree) (l : List Tree) → is_assoc sig g ≡ true → spread g v ≡ Some l
      → contributor sig (Some g) l ≡ Some (one v)
  spread_found g (symbol n) l a e = single (Some g) (symbol n) l (rw a refl) e
  spread_found g (app h us) l a e =
      elim (nat_eq g h) as (λ b. nat_eq g h ≡ b
      → (if b then if_several (tree_list us) else Some (app h us ∷ [])) ≡ Some l
      → contributor sig (Some g) l ≡ Some (one (app h us))) [
        | true ↦ λ q p. several g us l a p ∙ ap (λ k. Some (one (app k us))) (eqb-true g h q)
        | false ↦ λ q p. single (Some g) (app h us) l (rw (a, q) refl) p
      ] refl e

  -- the term that contributes a list is found from the list
  pub contribution-found : (f : Option ℕ) (v : Tree) (l : List Tree) → contribution sig f v ≡ Some l
      → contributor sig f l ≡ Some (one v)
  contribution-found None v l e = single None v l refl e
  contribution-found (Some g) v l e =
      elim (is_assoc sig g) as (λ b. is_assoc sig g ≡ b → (if b then spread g v else Some (v ∷ [])) ≡ Some l
      → contributor sig (Some g) l ≡ Some (one v)) [
        | true ↦ λ q p. spread_found g v l q p
        | false ↦ λ q p. single (Some g) v l (rw q refl) p
      ] refl e

  -- so a list is contributed by one term at most
  pub contribution-injective : (f : Option ℕ) (v w : Tree) (l : List Tree) → contribution sig f v ≡ Some l
      → contribution sig f w ≡ Some l → v ≡ w
  contribution-injective f v w l p q = let e : Some (one v) ≡ Some (one w) = sym (contribution-found f v l p)
      ∙ contribution-found f w l q in cc
