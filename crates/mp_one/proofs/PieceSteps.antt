-- The steps of the loops over the terms that are left.
use Rattle.std.proofs.Common.{◌≡◌, ℕ, ◌-◌, ◌≤◌, List, [], ◌∷◌, ◌++◌, map, length}
use Rattle.std.proofs.Common.{drop, false, refl, ap, ◌∙◌, append-nil}
use Rattle.std.proofs.Common.{length-drop, eqb-true, eq-eqb, arith}
use Rattle.std.specs.Prelude.{nat_eq}
use Rattle.std.specs.declared.cmp.Ordering.{Ordering}
use Rattle.std.proofs.Math.ListN.{drop_of_length-le}
use Rattle.mp_term.specs.Pieces.{without, is_sublist}
use Rattle.mp_term.proofs.ListLaws.{bool_same}

module _ {X Y : Type 0} (cmp : Y → Y → Ordering) (f : X → Y) where
  without-nil : (l : List Y) → without cmp l [] ≡ []
  without-nil [] = refl
  without-nil (e ∷ l) = refl

  -- at the end of the list
  pub without-end : (zs l : List Y) (i : ℕ) (xs : List X) → length xs ≤ i → zs ++ without cmp l (map f (drop i xs)) ≡ zs
  without-end zs l i xs h = rw (drop_of_length-le xs {i = i} h) (ap (λ ys. zs ++ ys) (without-nil l) ∙ append-nil zs)

  -- at the end of the list the terms stand in it where all of them were found
  pub is_sublist-end : (k : ℕ) (es : List X) (i : ℕ) (xs : List X) → k ≤ length es → length xs ≤ i
      → nat_eq k (length es) ≡ is_sublist cmp (map f (drop k es)) (map f (drop i xs))
  is_sublist-end k es i xs h l = rw (drop_of_length-le xs {i = i} l) (at (drop k es) (length-drop k es))
    where
      at : (ds : List X) → length ds ≡ length es - k → nat_eq k (length es) ≡ is_sublist cmp (map f ds) []
      at [] q = eq-eqb k (length es) (omega (arith, h, q))
      at (d ∷ ds) q = bool_same (nat_eq k (length es)) false (λ e. absurd (omega (arith, eqb-true k (length es) e, q)))
          (λ e. cc)
