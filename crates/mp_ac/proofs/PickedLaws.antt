-- What children take that take what is picked, and its entries.
use Rattle.std.proofs.Common.{◌≡◌, ◌+◌, ◌-◌, ◌<◌, ◌≤◌, ℕ, suc, List, [], ◌∷◌, ◌++◌, map, take, drop, length}
use Rattle.std.proofs.Common.{get_or, true, refl, ap, sym, subst, ◌∙◌, arith}
use Rattle.std.specs.Prelude.{Some, Result, Ok, Err, MatchResult, slice_get}
use Rattle.std.proofs.Math.Seq.{take-length}
use Rattle.std.proofs.lemmas.List.{length-append}
use Rattle.mp_term.specs.Tree.{Tree}
use Rattle.mp_pattern.specs.Fits.{Entry}
use Rattle.mp_pattern.specs.PatternTree.{Pattern}
use Rattle.mp_pattern.specs.View.{pattern_tree}
use Rattle.mp_pattern.proofs.ItemLaws.{slice_get-second}
use Rattle.mp_pattern.specs.declared.pattern.Pattern as declared
use Rattle.mp_table.specs.Table.{Table, term_at}
use Rattle.mp_table.specs.declared.rank.Rank.{Rank}
use Rattle.mp_theory.specs.Shape.{shape, table_of}
use Rattle.mp_ac.specs.declared.pick.Pick.{Pick}
use Rattle.mp_ac.specs.Seek.{ArePicked, ArePicksOf, AreTaken, picked, picks_table}
use Rattle.mp_ac.proofs.Parts.{part-get}

-- what is behind the first of a list
abbrev pub later : {X : Type 0} → List X → List X
later xs = take (length xs - 1) (drop 1 xs)

later-first : {X : Type 0} (x : X) (xs : List X) → later (x ∷ xs) ≡ xs
later-first x xs = let n : suc (length xs) - 1 ≡ length xs = omega arith in ap (λ k. take k xs) n ∙ take-length xs

-- where it is behind the entries of the first ones, it is that of the others
pub entry-behind : {X : Type 0} (f : X → Entry) (T J : List Entry) (n left : ℕ) (r : Result X ℕ) → left + length T ≡ n
    → MatchResult r (λ x. slice_get J left ≡ Some (f x)) (λ k. k + length J ≡ left)
    → MatchResult r (λ x. slice_get (T ++ J) n ≡ Some (f x)) (λ k. k + length (T ++ J) ≡ n)
entry-behind f T J n left (Ok x) e h = slice_get-second T J left n (omega (arith, e)) ∙ h
entry-behind f T J n left (Err m) e h = omega (arith, e, h, length-append T J)

module _ (t : Table) (cs : List Rank) where
  -- the picks of a search that stands are taken
  pub picks-taken : (us : List Tree) (w : ℕ) (ps : List Pattern) (ks : List Pick) → ArePicksOf t us w cs ps ks
      → ArePicked ps ks → AreTaken t cs ps ks
  picks-taken us w [] ks h k = tt
  picks-taken us w (p ∷ ps) [] h k = absurd h
  picks-taken us w (p ∷ ps) (x ∷ ks) h k =
      let within : x.at < length cs = omega (arith, k.0.1, h.0.within) in (
        (
          within,
          part-get (record { 0 = 0 }) (λ r. shape p (term_at t r) ≡ true) cs x.from x.at x.end k.0.0 k.0.1 h.0.within
              h.0.choices.shaped,
        ),
        picks-taken us w ps ks h.1 k.1,
      )

  pub table-none : (ps : List declared.Pattern) (ks : List Pick) → (1 ≤ length ps → 1 ≤ length ks → ⊥)
      → picks_table t cs (map pattern_tree ps) ks ≡ []
  table-none [] ks h = refl
  table-none (p ∷ ps) [] h = refl
  table-none (p ∷ ps) (k ∷ ks) h = absurd (h (omega arith) (omega arith))

  -- the first one, and the later ones
  pub taken-later : (ps : List declared.Pattern) (ks : List Pick) (p : declared.Pattern) (k : Pick) → 1 ≤ length ps
      → 1 ≤ length ks → p ≡ get_or ps 0 p → k ≡ get_or ks 0 k → AreTaken t cs (map pattern_tree ps) ks
      → ((k.at < length cs) × (shape (pattern_tree p) (term_at t (picked cs k)) ≡ true))
      × AreTaken t cs (map pattern_tree (later ps)) (later ks)
  taken-later [] ks p k m n d e h = absurd (omega (arith, m))
  taken-later (q ∷ ps) [] p k m n d e h = absurd (omega (arith, n))
  taken-later (q ∷ ps) (j ∷ ks) p k m n d e h =
      let a : q ≡ p = sym d in
      let b : j ≡ k = sym e in (
        subst (λ x. (x.at < length cs) × (shape (pattern_tree p) (term_at t (picked cs x)) ≡ true)) b
            (subst (λ x. (j.at < length cs) × (shape (pattern_tree x) (term_at t (picked cs j)) ≡ true)) a h.0),
        subst (λ xs. AreTaken t cs (map pattern_tree xs) (later (j ∷ ks))) (sym (later-first q ps))
            (subst (AreTaken t cs (map pattern_tree ps)) (sym (later-first j ks)) h.1),
      )

  pub table-first : (ps : List declared.Pattern) (ks : List Pick) (p : declared.Pattern) (k : Pick) → 1 ≤ length ps
      → 1 ≤ length ks → p ≡ get_or ps 0 p → k ≡ get_or ks 0 k
      → picks_table t cs (map pattern_tree ps) ks
      ≡ table_of (pattern_tree p) (term_at t (picked cs k))
      ++ picks_table t cs (map pattern_tree (later ps)) (later ks)
  table-first [] ks p k m n d e = absurd (omega (arith, m))
  table-first (q ∷ ps) [] p k m n d e = absurd (omega (arith, n))
  table-first (q ∷ ps) (j ∷ ks) p k m n d e =
      let a : q ≡ p = sym d in
      let b : j ≡ k = sym e in
      ap (λ T. table_of (pattern_tree q) (term_at t (picked cs j)) ++ T)
      (sym (ap (λ xs. picks_table t cs (map pattern_tree xs) (later (j ∷ ks))) (later-first q ps)
      ∙ ap (picks_table t cs (map pattern_tree ps)) (later-first j ks)))
      ∙ ap (λ x. table_of (pattern_tree x) (term_at t (picked cs j))
      ++ picks_table t cs (map pattern_tree (later (q ∷ ps))) (later (j ∷ ks))) a
      ∙ ap (λ x. table_of (pattern_tree p) (term_at t (picked cs x))
      ++ picks_table t cs (map pattern_tree (later (q ∷ ps))) (later (j ∷ ks))) b
