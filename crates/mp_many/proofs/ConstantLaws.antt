-- A table that holds the constants of the rules holds those of the tree.
use Rattle.std.proofs.Common.{◌≡◌, ℕ, zero, suc, ◌+◌, List, [], ◌∷◌, ◌++◌, map, length, Bool, true, false, refl, sym}
use Rattle.std.proofs.Common.{subst, inl, inr}
use Rattle.std.specs.Prelude.{if◌then◌else◌, flat_map}
use Rattle.std.specs.List.{AllByRecursion}
use Rattle.mp_term.specs.Signature.{Sig, is_comm}
use Rattle.mp_term.specs.Tree.{Tree}
use Rattle.mp_term.specs.Listing.{In}
use Rattle.mp_term.proofs.ListLaws.{all-append, all-split}
use Rattle.mp_term.proofs.ListingLaws.{all_in}
use Rattle.mp_pattern.specs.Admission.{Rule}
use Rattle.mp_pattern.specs.Constants.{pattern_constants, all_pattern_constants, condition_constants, rule_constants}
use Rattle.mp_pattern.specs.NetTokens.{NetToken, comm_token, enter_token, leave_token, renamed, all_renamed, tokens}
use Rattle.mp_pattern.specs.NetTokens.{all_tokens, same_token}
use Rattle.mp_pattern.specs.PatternTree.{Pattern, symbol_pattern, app_pattern, wild_pattern, Patterns, no_patterns}
use Rattle.mp_pattern.specs.PatternTree.{more_patterns}
use Rattle.mp_pattern.specs.Variables.{variables}
use Rattle.mp_walk.specs.CodeConstants.{token_constants, code_constants}
use Rattle.mp_walk.specs.Instrs.{Instr}
use Rattle.mp_walk.specs.Walkable.{Path}
use Rattle.mp_many.specs.Laid.{Numbered, bare, left_after, each_laid, laid, numbered_from, tree_of}
use Rattle.mp_many.specs.Prefixes.{head_of, heads, token_lists, token_count}
use Rattle.mp_theory.proofs.FirstsLaws.{from_in-firsts_after}

-- what holds of the tokens of lists holds of the tokens of their states
module _ (Q : NetToken → Type 0) where
  abbrev pub AllOf : List Numbered → Type 0
  AllOf ls = AllByRecursion (λ l. AllByRecursion Q l.1) ls

  all-heads : (ls : List Numbered) → AllOf ls → AllByRecursion Q (flat_map head_of (bare ls))
  all-heads [] h = tt
  all-heads ((n, []) ∷ ls) h = all-heads ls h.1
  all-heads ((n, k ∷ ks) ∷ ls) h = (h.0.0, all-heads ls h.1)

  all-left : (k : NetToken) (ls : List Numbered) → AllOf ls → AllOf (left_after k ls)
  all-left k [] h = tt
  all-left k ((n, []) ∷ ls) h = all-left k ls h.1
  all-left k ((n, j ∷ js) ∷ ls) h = at (same_token j k) (all-left k ls h.1)
    where
      at : (b : Bool) → AllOf (left_after k ls)
          → AllOf (map (λ ks. (n, ks)) (if b then js ∷ [] else []) ++ left_after k ls)
      at true r = (h.0.1, r)
      at false r = r

  all-each : (d : ℕ) → ((ls : List Numbered) (n : ℕ) → AllOf ls → AllByRecursion (λ i. Q i.token) (laid d ls n))
      → (ls : List Numbered) → AllOf ls → (ks : List NetToken) (n : ℕ)
      → ((k : NetToken) → In k ks → In k (heads (bare ls)))
      → AllByRecursion (λ i. Q i.token) (each_laid (laid d) ls ks n)
  all-each d below ls h [] n among = tt
  all-each d below ls h (k ∷ ks) n among =
      let states = laid d (left_after k ls) (suc n) in (
        own (among k (inl refl)),
        all-append (λ i. Q i.token) states (each_laid (laid d) ls ks (suc n + length states))
            (below (left_after k ls) (suc n) (all-left k ls h))
            (all-each d below ls h ks (suc n + length states) (λ j i. among j (inr i))),
      )
    where
      own : In k (heads (bare ls)) → Q k
      own i = elim (from_in-firsts_after same_token k [] (flat_map head_of (bare ls)) i)
          [ inl j ↦ absurd j | inr j ↦ all_in Q (flat_map head_of (bare ls)) k (all-heads ls h) j ]

  pub all-laid : (d : ℕ) (ls : List Numbered) (n : ℕ) → AllOf ls → AllByRecursion (λ i. Q i.token) (laid d ls n)
  all-laid zero ls n h = tt
  all-laid (suc d) ls n h = all-each d (all-laid d) ls h (heads (bare ls)) n (λ k i. i)

  pub all-numbered : (n : ℕ) (ls : List Path) → AllByRecursion (AllByRecursion Q) ls → AllOf (numbered_from n ls)
  all-numbered n [] h = tt
  all-numbered n (l ∷ ls) h = (h.0, all-numbered (suc n) ls h.1)

-- new names leave the constants
mutual
  renamed-constants : (vs : List (List ℕ)) (p : Pattern) → pattern_constants (renamed vs p) ≡ pattern_constants p
  renamed-constants vs (symbol_pattern n) = refl
  renamed-constants vs (wild_pattern w x) = refl
  renamed-constants vs (app_pattern f ps) = all_renamed-constants vs ps

  all_renamed-constants : (vs : List (List ℕ)) (ps : Patterns)
      → all_pattern_constants (all_renamed vs ps) ≡ all_pattern_constants ps
  all_renamed-constants vs no_patterns = refl
  all_renamed-constants vs (more_patterns p ps) =
      λ i. renamed-constants vs p i ++ all_renamed-constants vs ps i

module _ (C : Tree → Type 0) where
  -- the constants of a token are such terms
  abbrev HasConstants : NetToken → Type 0
  HasConstants k = AllByRecursion C (token_constants k)

  module _ (sig : Sig) (vs : List (List ℕ)) where
    mutual
      token-constants : (p : Pattern) → AllByRecursion C (pattern_constants p)
          → AllByRecursion HasConstants (tokens sig vs p)
      token-constants (symbol_pattern n) h = (tt, tt)
      token-constants (wild_pattern w x) h = (h, tt)
      token-constants (app_pattern f ps) h = by_comm (is_comm sig f) (all_token-constants ps h)
        where
          by_comm : (b : Bool) → AllByRecursion HasConstants (all_tokens sig vs ps)
              → AllByRecursion HasConstants (if b then comm_token (renamed vs (app_pattern f ps)) ∷ []
              else (enter_token f ∷ (all_tokens sig vs ps ++ (leave_token f ∷ []))))
          by_comm true r = (subst (AllByRecursion C) (sym (renamed-constants vs (app_pattern f ps))) h, tt)
          by_comm false r = (tt, all-append HasConstants (all_tokens sig vs ps) (leave_token f ∷ []) r (tt, tt))

      all_token-constants : (ps : Patterns) → AllByRecursion C (all_pattern_constants ps)
          → AllByRecursion HasConstants (all_tokens sig vs ps)
      all_token-constants no_patterns h = tt
      all_token-constants (more_patterns p ps) h =
          let s = all-split C (pattern_constants p) (all_pattern_constants ps) h in
          all-append HasConstants (tokens sig vs p) (all_tokens sig vs ps) (token-constants p s.0)
          (all_token-constants ps s.1)

  list-constants : (sig : Sig) (rules : List Rule) → AllByRecursion C (flat_map rule_constants rules)
      → AllByRecursion (AllByRecursion HasConstants) (token_lists sig rules)
  list-constants sig [] h = tt
  list-constants sig (r ∷ rules) h =
      let s = all-split C (rule_constants r) (flat_map rule_constants rules) h in
      let p = all-split C (pattern_constants r.pattern) (condition_constants r.condition) s.0 in
      (token-constants sig (variables r.pattern) r.pattern p.0, list-constants sig rules s.1)

  each-constants : (is : List Instr) → AllByRecursion (λ i. HasConstants i.token) is
      → AllByRecursion C (code_constants is)
  each-constants [] h = tt
  each-constants (i ∷ is) h =
      all-append C (token_constants i.token) (code_constants is) h.0 (each-constants is h.1)

  -- what holds of the constants of rules holds of those of their tree
  pub tree-constants : (sig : Sig) (rules : List Rule) → AllByRecursion C (flat_map rule_constants rules)
      → AllByRecursion C (code_constants (tree_of sig rules))
  tree-constants sig rules h =
      let ls = token_lists sig rules in
      each-constants (tree_of sig rules)
      (all-laid HasConstants (token_count ls) (numbered_from 0 ls) 1
      (all-numbered HasConstants 0 ls (list-constants sig rules h)))
