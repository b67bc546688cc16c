-- Marks that are right of terms: one of them, and one put in, taken out or put down.
use Rattle.std.proofs.Common.{◌≡◌, ℕ, zero, suc, List, [], ◌∷◌, length, subst, arith, ap, sym, ◌∙◌}
use Rattle.std.specs.Prelude.{slice_get, slice_set, replicate, Some}
use Rattle.std.specs.List.{insert, remove}
use Rattle.mp_term.specs.Tree.{Tree, trees}
use Rattle.mp_term.specs.Signature.{Sig}
use Rattle.mp_pattern.specs.Admission.{Rule}
use Rattle.mp_rewrite.specs.Marks.{Mark, unknown, marks}
use Rattle.mp_rewrite.specs.Known.{IsKnown, AreKnown}

module _ (sig : Sig) (rules : List Rule) where
  -- the marks are right of the trees, each of its own
  abbrev pub AllKnown : List Mark → List Tree → Type 0
  AllKnown ms ts = AreKnown sig rules (marks ms) (trees ts)

  pub known-length : (ms : List Mark) (ts : List Tree) → AllKnown ms ts → length ms ≡ length ts
  known-length [] [] h = omega arith
  known-length [] (t ∷ ts) h = absurd h
  known-length (m ∷ ms) [] h = absurd h
  known-length (m ∷ ms) (t ∷ ts) h = omega (arith, known-length ms ts h.1)

  pub known-get : (ms : List Mark) (ts : List Tree) (i : ℕ) (m : Mark) (t : Tree) → AllKnown ms ts
      → slice_get ms i ≡ Some m → slice_get ts i ≡ Some t → IsKnown sig rules m t
  known-get [] ts i m t h e g = cc
  known-get (n ∷ ms) [] i m t h e g = cc
  known-get (n ∷ ms) (u ∷ ts) zero m t h e g =
      let p : n ≡ m = cc in
      let q : u ≡ t = cc in
      subst (λ x. IsKnown sig rules x t) p (subst (λ x. IsKnown sig rules n x) q h.0)
  known-get (n ∷ ms) (u ∷ ts) (suc i) m t h e g = known-get ms ts i m t h.1 e g

  pub known-remove : (ms : List Mark) (ts : List Tree) (i : ℕ) → AllKnown ms ts
      → AllKnown (remove ms i) (remove ts i)
  known-remove [] [] zero h = tt
  known-remove [] [] (suc i) h = tt
  known-remove [] (t ∷ ts) i h = absurd h
  known-remove (m ∷ ms) [] i h = absurd h
  known-remove (m ∷ ms) (t ∷ ts) zero h = h.1
  known-remove (m ∷ ms) (t ∷ ts) (suc i) h = (h.0, known-remove ms ts i h.1)

  pub known-insert : (ms : List Mark) (ts : List Tree) (i : ℕ) (m : Mark) (t : Tree) → AllKnown ms ts
      → IsKnown sig rules m t → AllKnown (insert ms i m) (insert ts i t)
  known-insert [] [] zero m t h k = (k, tt)
  known-insert [] [] (suc i) m t h k = (k, tt)
  known-insert [] (u ∷ ts) i m t h k = absurd h
  known-insert (n ∷ ms) [] i m t h k = absurd h
  known-insert (n ∷ ms) (u ∷ ts) zero m t h k = (k, h)
  known-insert (n ∷ ms) (u ∷ ts) (suc i) m t h k = (h.0, known-insert ms ts i m t h.1 k)

  pub known-set : (ms : List Mark) (ts : List Tree) (i : ℕ) (m : Mark) (t : Tree) → AllKnown ms ts
      → slice_get ts i ≡ Some t → IsKnown sig rules m t → AllKnown (slice_set ms i m) ts
  known-set [] [] i m t h e k = cc
  known-set [] (u ∷ ts) i m t h e k = absurd h
  known-set (n ∷ ms) [] i m t h e k = absurd h
  known-set (n ∷ ms) (u ∷ ts) zero m t h e k =
      let q : t ≡ u = cc in
      (subst (λ x. IsKnown sig rules m x) q k, h.1)
  known-set (n ∷ ms) (u ∷ ts) (suc i) m t h e k = (h.0, known-set ms ts i m t h.1 e k)

  -- and likewise where another one was put down there before
  pub known-set-again : (ms : List Mark) (ts : List Tree) (i : ℕ) (n m : Mark) (t : Tree) → AllKnown ms ts
      → slice_get ts i ≡ Some t → IsKnown sig rules m t → AllKnown (slice_set (slice_set ms i n) i m) ts
  known-set-again [] [] i n m t h e k = cc
  known-set-again [] (u ∷ ts) i n m t h e k = absurd h
  known-set-again (l ∷ ms) [] i n m t h e k = absurd h
  known-set-again (l ∷ ms) (u ∷ ts) zero n m t h e k =
      let q : t ≡ u = cc in
      (subst (λ x. IsKnown sig rules m x) q k, h.1)
  known-set-again (l ∷ ms) (u ∷ ts) (suc i) n m t h e k = (h.0, known-set-again ms ts i n m t h.1 e k)

  -- and likewise where a tree is put down too
  pub known-set-both : (ms : List Mark) (ts : List Tree) (i : ℕ) (m : Mark) (t : Tree) → AllKnown ms ts
      → IsKnown sig rules m t → AllKnown (slice_set ms i m) (slice_set ts i t)
  known-set-both [] [] i m t h k = h
  known-set-both [] (u ∷ ts) i m t h k = absurd h
  known-set-both (n ∷ ms) [] i m t h k = absurd h
  known-set-both (n ∷ ms) (u ∷ ts) zero m t h k = (k, h.1)
  known-set-both (n ∷ ms) (u ∷ ts) (suc i) m t h k = (h.0, known-set-both ms ts i m t h.1 k)

  -- nothing is known of any of them
  pub known-nothing : (ts : List Tree) → AllKnown (replicate (length ts) unknown) ts
  known-nothing [] = tt
  known-nothing (t ∷ ts) = (tt, known-nothing ts)

  pub known-fresh : (ms : List Mark) (ts : List Tree) (n : ℕ) → ms ≡ replicate n unknown → length ts ≡ n
      → AllKnown ms ts
  known-fresh ms ts n e l = subst (λ ms. AllKnown ms ts) (sym (e ∙ ap (λ n. replicate n unknown) (sym l)))
      (known-nothing ts)
