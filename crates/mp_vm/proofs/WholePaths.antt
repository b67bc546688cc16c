-- The path of an instruction that accepts, in a faultless program, stands for a pattern that has a plan.
use Rattle.std.proofs.Common.{◌≡◌, ℕ, suc, ◌+◌, ◌≤◌, List, [], ◌∷◌, ◌++◌, map, length, Bool, true, false, refl}
use Rattle.std.proofs.Common.{ap, sym, ◌∙◌, inl, inr, subst, arith}
use Rattle.std.specs.Prelude.{Some, None, nat_le, if◌then◌else◌}
use Rattle.std.specs.List.{AllByRecursion, list_any}
use Rattle.std.proofs.lemmas.Bool.{and_parts, or_parts, not-true, leb-true}
use Rattle.std.proofs.lemmas.List.{append_assoc, append-nil}
use Rattle.mp_io.specs.Devices.{Text}
use Rattle.mp_term.specs.Listing.{In}
use Rattle.mp_term.specs.Normal.{IsNormal}
use Rattle.mp_term.specs.Signature.{Sig, is_comm}
use Rattle.mp_term.proofs.ListLaws.{all-split, both-empty}
use Rattle.mp_term.proofs.NormalSize.{normal-normal}
use Rattle.mp_term.proofs.SearchLaws.{in-left, in-right, in-map}
use Rattle.mp_pattern.specs.declared.limits.TheConstants.{MAX_PATTERN_NODES, MAX_VARIABLES}
use Rattle.mp_pattern.specs.EachWildcard.{EachWildcard, AllEachWildcard}
use Rattle.mp_pattern.specs.Firsts.{firsts_after}
use Rattle.mp_pattern.specs.NetTokens.{NetToken, sym_token, enter_token, leave_token, wild_token, comm_token}
use Rattle.mp_pattern.specs.NetTokens.{numbered, renamed, tokens, all_tokens}
use Rattle.mp_pattern.specs.PatternTree.{Wildcard, dot, kind, plus, star, optional, counted, Pattern, symbol_pattern}
use Rattle.mp_pattern.specs.PatternTree.{app_pattern, wild_pattern, Patterns, no_patterns, more_patterns}
use Rattle.mp_pattern.specs.Sound.{DefaultIsNormal, DefaultsAreNormal, holds_ops}
use Rattle.mp_pattern.specs.Subpatterns.{subpatterns}
use Rattle.mp_pattern.specs.Value.{same_name}
use Rattle.mp_pattern.specs.Variables.{Use, uses, variables}
use Rattle.mp_pattern.proofs.ClashLaws.{first_clash_after-InOrder}
use Rattle.mp_pattern.proofs.NameLaws.{same_name-is}
use Rattle.mp_pattern.proofs.PlanParts.{parts-plan_fault}
use Rattle.mp_theory.proofs.FirstItems.{in-firsts_after}
use Rattle.mp_build.specs.Alone.{start}
use Rattle.mp_build.specs.Build.{term_of}
use Rattle.mp_build.specs.Checks as checks
use Rattle.mp_build.specs.Checks.{loose_faults, is_large_pattern, pattern_faults, whole_pattern_faults}
use Rattle.mp_build.proofs.SoundLaws.{holds_ops-pattern_of, defaults-pattern_of}
use Rattle.mp_walk.specs.SoundTokens.{path_nodes}
use Rattle.mp_walk.specs.Walkable.{Path, numbered_names, StandsFor, IsWhole}
use Rattle.mp_walk.proofs.NumberedNames.{NamesIn, AllNamesIn, names-in, own-names, renamed-itself}
use Rattle.mp_program.specs.declared.format.Format.{Format}
use Rattle.mp_program.specs.RightForm.{IsRightWildcard, IsRightToken}
use Rattle.mp_program.specs.TokenPaths.{is_loose_token, has_plain_root, enters_comm, token_uses, path_uses}
use Rattle.mp_program.specs.TokenPaths.{path_variables, are_numbered_from, some_differ, is_right_path, open_along}
use Rattle.mp_program.proofs.PathLaws.{all_bare, names-same}
use Rattle.mp_vm.specs.Runnable.{EachOfToken}
use Rattle.mp_vm.proofs.Decoded.{LeavesOpen, FitsIn, spelled}
use Rattle.mp_vm.proofs.PathRules.{right-parts}
use Rattle.mp_vm.proofs.UseLaws.{root_uses-subpatterns, some_differ-bare, in-order-parts}

-- ---- names

-- names that are numbered in order
numbered-from : (n : ℕ) (xs : List Text) → are_numbered_from n xs ≡ true
    → numbered_names n ++ xs ≡ numbered_names (n + length xs)
numbered-from n [] h = append-nil (numbered_names n) ∙ ap numbered_names (let e : n ≡ n + 0 = omega arith in e)
numbered-from n (x ∷ xs) h =
    let p = and_parts (same_name x (numbered n)) _ h in
    let more : suc n + length xs ≡ n + suc (length xs) = omega arith in
    ap (λ y. numbered_names n ++ (y ∷ xs)) (same_name-is x (numbered n) p.0)
    ∙ sym (append_assoc (numbered_names n) (numbered n ∷ []) xs)
    ∙ numbered-from (suc n) xs p.1 ∙ ap numbered_names more

-- the variables of a path are named by its occurrences
use-named : (ks : Path) (u : Use) → In u (path_uses ks) → In u.name (path_variables ks)
use-named ks u i = in-firsts_after same_name same_name-is [] (map (λ (v : Use). v.name) (path_uses ks)) u.name
    (inr (in-map (λ (v : Use). v.name) u (path_uses ks) i))

-- ---- tokens of right lines

module _ (sig : Sig) (format : Format) where
  right-default : (w : Wildcard) → IsRightWildcard sig w → DefaultIsNormal sig w
  right-default dot h = tt
  right-default (kind k) h = tt
  right-default plus h = tt
  right-default star h = tt
  right-default (counted n b) h = tt
  right-default (optional t) h =
      subst (IsNormal sig) (sym h.0.is) (normal-normal sig (term_of sig h.0.syntax_tree))

  module _ (vs : List (List ℕ)) (few : length vs ≤ MAX_VARIABLES) (names : vs ≡ numbered_names (length vs)) where
    fits-token : (k : NetToken) → IsRightToken sig format k → enters_comm sig k ≡ false
        → ((u : Use) → In u (token_uses k) → In u.name vs) → FitsIn sig vs few names k
    fits-token (sym_token n) h c known = tt
    fits-token (enter_token g) h c known = (c, h)
    fits-token (leave_token g) h c known = tt
    fits-token (wild_token w None) h c known = (right-default w h.0, tt)
    fits-token (wild_token w (Some v)) h c known = (
      right-default w h.0,
      (
        known (record { name = numbered v; wildcard = w; under = None }) (inl refl),
        omega (arith, h.2),
      ),
    )
    fits-token (comm_token p) h c known =
        let t = h.read.syntax_tree in
        let f = both-empty (checks.fault_if (is_large_pattern t) _ (start t)) (whole_pattern_faults sig t)
        h.read.faultless in
        let g = both-empty (loose_faults t) (pattern_faults sig [] t) f.1 in (
          h.rooted,
          names-in vs None p known,
          subst (λ q. holds_ops sig q ≡ true) (sym h.read.is) (holds_ops-pattern_of sig [] t g.1),
          subst (DefaultsAreNormal sig) (sym h.read.is) (defaults-pattern_of sig t),
        )

    fits-tokens : (ks : Path) → AllByRecursion (IsRightToken sig format) ks → list_any (enters_comm sig) ks ≡ false
        → ((u : Use) → In u (path_uses ks) → In u.name vs) → AllByRecursion (FitsIn sig vs few names) ks
    fits-tokens [] h c known = tt
    fits-tokens (k ∷ ks) h c known =
        let p = or_parts (enters_comm sig k) _ c in (
          fits-token k h.0 p.0 (λ u i. known u (in-left u (token_uses k) (path_uses ks) i)),
          fits-tokens ks h.1 p.1 (λ u i. known u (in-right u (token_uses k) (path_uses ks) i)),
        )

  -- ---- whole paths

  pub whole-path : (most : ℕ) → most ≤ MAX_PATTERN_NODES → (front : Path) (k : NetToken)
      → AllByRecursion (IsRightToken sig format) (front ++ k ∷ []) → is_right_path sig most (front ++ k ∷ []) ≡ true
      → LeavesOpen [] front → open_along [] (front ++ k ∷ []) ≡ Some [] → IsWhole sig (front ++ k ∷ [])
  whole-path most limit front k right path stays closed =
      let ks = front ++ k ∷ [] in
      let vs = path_variables ks in
      let h = right-parts sig most ks path in
      let a = and_parts (are_numbered_from 0 vs) _ h.uses in
      let b = and_parts (nat_le (length vs) MAX_VARIABLES) _ a.1 in
      let few = leb-true (length vs) MAX_VARIABLES b.0 in
      let none : 0 + length vs ≡ length vs = omega arith in
      let names : vs ≡ numbered_names (length vs) = numbered-from 0 vs a.0 ∙ ap numbered_names none in
      let s = spelled sig vs few names front k (fits-tokens vs few names ks right h.enters (use-named ks)) stays
      closed in
      let split : ks ≡ s.0 ∷ s.1 = s.2 in
      let p = s.3.pattern in
      let spells = s.3.spells in
      let same : all_bare (uses None p) ≡ all_bare (path_uses ks) =
      sym (root_uses-subpatterns None p) ∙ spells.uses ∙ ap (λ js. all_bare (path_uses js)) (sym split) in
      let own : variables p ≡ vs = ap (firsts_after same_name []) (names-same (uses None p) (path_uses ks) same) in
      let firm : is_loose_token s.0 ≡ false = not-true (is_loose_token s.0)
      (subst (λ js. has_plain_root js ≡ true) split h.root) in
      let alike : some_differ (uses None p) ≡ false = sym (some_differ-bare (uses None p)) ∙ ap some_differ same
      ∙ some_differ-bare (path_uses ks) ∙ not-true (some_differ (path_uses ks)) b.1 in
      let nodes : path_nodes (s.0 ∷ s.1) ≤ most = subst (λ js. path_nodes js ≤ most) split h.nodes in
      record {
        pattern = p;
        stands = record {
          tokens = ap (λ xs. tokens sig xs p) own ∙ spells.tokens ∙ sym split;
          names = own ∙ names ∙ ap (λ xs. numbered_names (length xs)) (sym own);
        };
        planned = parts-plan_fault p (record {
          firm = s.3.firm firm;
          few_nodes = omega (arith, spells.nodes, nodes, limit);
          few_variables = subst (λ xs. length xs ≤ MAX_VARIABLES) (sym own) few;
          no_clash = first_clash_after-InOrder [] (subpatterns p) (in-order-parts p alike);
        });
        held = spells.held;
        defaults = spells.defaults;
      }

-- ---- patterns for which a path stands

module _ (sig : Sig) (vs : List (List ℕ)) (names : vs ≡ numbered_names (length vs)) where
  module _ (Q : Wildcard → Type 0) where
    mutual
      -- what holds of those of the tokens of a pattern holds of its own
      each-tokens : (p : Pattern) → NamesIn vs p → AllByRecursion (EachOfToken Q) (tokens sig vs p) → EachWildcard Q p
      each-tokens (symbol_pattern n) h k = tt
      each-tokens (wild_pattern w x) h k = k.0
      each-tokens (app_pattern g ps) h k = by_comm (is_comm sig g) k (all_each-tokens ps h)
        where
          by_comm : (b : Bool)
              → AllByRecursion (EachOfToken Q) (if b then comm_token (renamed vs (app_pattern g ps)) ∷ []
              else (enter_token g ∷ (all_tokens sig vs ps ++ (leave_token g ∷ []))))
              → (AllByRecursion (EachOfToken Q) (all_tokens sig vs ps) → AllEachWildcard Q ps) → AllEachWildcard Q ps
          by_comm true k go = subst (EachWildcard Q) (renamed-itself vs names (app_pattern g ps) h) k.0
          by_comm false k go = go (all-split (EachOfToken Q) (all_tokens sig vs ps) (leave_token g ∷ []) k.1).0

      all_each-tokens : (ps : Patterns) → AllNamesIn vs ps → AllByRecursion (EachOfToken Q) (all_tokens sig vs ps)
          → AllEachWildcard Q ps
      all_each-tokens no_patterns h k = tt
      all_each-tokens (more_patterns p ps) h k =
          let r = all-split (EachOfToken Q) (tokens sig vs p) (all_tokens sig vs ps) k in
          (each-tokens p h.0 r.0, all_each-tokens ps h.1 r.1)

module _ (sig : Sig) (path : Path) (p : Pattern) (stands : StandsFor sig path p) where
  -- the wildcards of a path are those of the pattern
  pub each-path : (Q : Wildcard → Type 0)
      → AllByRecursion (EachOfToken Q) path → EachWildcard Q p
  each-path Q h = each-tokens sig (variables p) stands.names Q p (own-names p)
      (subst (AllByRecursion (EachOfToken Q)) (sym stands.tokens) h)
