-- The subterms of a normal term are normal.
use Rattle.std.proofs.Common.{◌≡◌, ℕ, true, List, [], ◌∷◌}
use Rattle.std.specs.List.{AllByRecursion}
use Rattle.std.proofs.lemmas.Bool.{and_parts}
use Rattle.mp_term.specs.Normal.{IsNormal}
use Rattle.mp_term.specs.NormalTest.{passes, all_pass}
use Rattle.mp_term.specs.Signature.{Sig}
use Rattle.mp_term.specs.Tree.{Tree, symbol, app, Trees, no_trees, more_trees}
use Rattle.mp_term.proofs.ListLaws.{all-append}
use Rattle.mp_term.proofs.NormalTestLaws.{passes_iff}
use Rattle.mp_table.specs.Preorder.{preorder, preorders, all_preorder}

module _ (sig : Sig) where
  mutual
    normal_below : (t : Tree) → passes sig t ≡ true → AllByRecursion (IsNormal sig) (preorder t)
    normal_below (symbol n) h = ((passes_iff sig (symbol n)).0 h, tt)
    normal_below (app f ts) h = (
      (passes_iff sig (app f ts)).0 h,
      all_normal_below f ts (and_parts _ _ (and_parts _ _ h).1).1,
    )

    all_normal_below : (f : ℕ) (ts : Trees) → all_pass sig f ts ≡ true → AllByRecursion (IsNormal sig) (preorders ts)
    all_normal_below f no_trees h = tt
    all_normal_below f (more_trees t ts) h =
        let p = and_parts _ _ h in
        all-append (IsNormal sig) (preorder t) (preorders ts) (normal_below t (and_parts _ _ p.0).0)
        (all_normal_below f ts p.1)

  -- the subterms of normal terms
  pub normal_subterms : (ts : List Tree) → AllByRecursion (IsNormal sig) ts
      → AllByRecursion (IsNormal sig) (all_preorder ts)
  normal_subterms [] h = tt
  normal_subterms (t ∷ ts) h =
      all-append (IsNormal sig) (preorder t) (all_preorder ts) (normal_below t ((passes_iff sig t).1 h.0))
      (normal_subterms ts h.1)
