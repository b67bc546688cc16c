-- The tree of rules has no faults, and its actions are right.
use Rattle.std.proofs.Common.{◌≡◌, ◌<◌, ℕ, suc, List, [], ◌∷◌, ◌++◌, map, length, Bool, true}
use Rattle.std.proofs.Common.{false, refl, ap, sym, ◌∙◌, inl, inr, subst, arith}
use Rattle.std.specs.Prelude.{Option, Some, None, ◌&&◌, option_map, slice_get, nat_eq, nat_lt}
use Rattle.std.specs.Prelude.{if◌then◌else◌}
use Rattle.std.specs.List.{list_all}
use Rattle.std.specs.Option.{option_map_or}
use Rattle.std.proofs.lemmas.Bool.{and_from}
use Rattle.std.proofs.lemmas.Bool.Decides.{nat_tests}
use Rattle.std.proofs.lemmas.Option.{slice_get_within, slice_get-map}
use Rattle.mp_term.specs.Listing.{In}
use Rattle.mp_term.specs.Signature.{Sig}
use Rattle.mp_term.proofs.ListingLaws.{all_in}
use Rattle.mp_term.proofs.SearchLaws.{all-from_in}
use Rattle.mp_pattern.specs.declared.limits.TheConstants.{MAX_PATTERN_NODES}
use Rattle.mp_pattern.specs.Admission.{Rule}
use Rattle.mp_pattern.specs.CondTree.{Cond}
use Rattle.mp_pattern.specs.NetTokens.{renamed, tokens_of}
use Rattle.mp_pattern.specs.SoundRule.{HasSoundCondition, IsSoundRule, AreSoundRules}
use Rattle.mp_pattern.specs.Variables.{variables}
use Rattle.mp_theory.proofs.FirstsLaws.{from_in-firsts_after}
use Rattle.mp_walk.specs.Instrs.{Instr, instr_at}
use Rattle.mp_walk.specs.Walkable.{Path, StandsFor, IsWalkable}
use Rattle.mp_walk.proofs.RuleLaws.{stands-renamed}
use Rattle.mp_ac.proofs.MatcherLaws.{get-map}
use Rattle.mp_print.specs.PrintedCond.{cond_text}
use Rattle.mp_syntax.proofs.Whole.{condition_is_read, read-unique}
use Rattle.mp_build.specs.AloneCondition.{IsCondOf}
use Rattle.mp_build.specs.Conditions.{cond_of}
use Rattle.mp_build.specs.Scope.{Scope}
use Rattle.mp_many.specs.Prefixes.{accepted_by, token_lists, token_count, same_tokens, IsState}
use Rattle.mp_many.specs.Laid.{numbered_from, tree_of}
use Rattle.mp_many.proofs.WalkableLaws.{in-slice_get, from_in-accepted, state-at, walkable, before-state}
use Rattle.mp_program.specs.FormText.{first_target}
use Rattle.mp_program.specs.FormFaults.{path_faults, code_faults}
use Rattle.mp_program.specs.Leads.{lead}
use Rattle.mp_program.specs.Program.{ProgramRule}
use Rattle.mp_program.specs.ProgramOf.{renamed_cond, same_cond, cond_place, test_number, rule_of}
use Rattle.mp_program.specs.RightForm.{IsShort, are_ascending, IsRightAction}
use Rattle.mp_program.specs.TokenPaths.{path_variables, test_of, suits_test, may_accept}
use Rattle.mp_gen.specs.Generated.{spelled_condition, spelled_rule}
use Rattle.mp_gen.proofs.LeadLaws.{none-code_faults}
use Rattle.mp_gen.proofs.RuleFaults.{spelled_all, all, spelled-in, spelled-known}
use Rattle.mp_gen.proofs.RuleNames.{rule-count}
use Rattle.mp_gen.proofs.TestNames.{suits-renamed}
use Rattle.mp_program_laws.proofs.TestPlaces.{placed, same_cond-text}
use Rattle.mp_gen.proofs.TreeTargets.{laid-targets}
use Rattle.mp_gen.proofs.WalkablePaths.{path-right, path-balanced, down-accepts, end-accepts}

-- ---- lists

list_all-from : {X : Type 0} (test : X → Bool) (xs : List X) → ((x : X) → In x xs → test x ≡ true)
    → list_all test xs ≡ true
list_all-from test [] h = refl
list_all-from test (x ∷ xs) h = and_from _ _ (h x (inl refl)) (list_all-from test xs (λ y i. h y (inr i)))

ascending-more : (m : ℕ) (xs : List ℕ) → ((x : ℕ) → In x xs → m < x) → are_ascending xs ≡ true
    → are_ascending (m ∷ xs) ≡ true
ascending-more m [] h k = refl
ascending-more m (x ∷ xs) h k =
    let l = h x (inl refl) in
    let less : nat_lt m x ≡ true = grind (arith, nat_tests, l) in and_from _ _ less k

ascending-accepted : (m : ℕ) (ls : List Path) (p : Path) → are_ascending (accepted_by m ls p) ≡ true
ascending-accepted m [] p = refl
ascending-accepted m (l ∷ ls) p = by_test (same_tokens l p) (ascending-accepted (suc m) ls p)
  where
    later : (n : ℕ) → In n (accepted_by (suc m) ls p) → m < n
    later n i = let r = from_in-accepted (suc m) n ls p i in omega (arith, r.1)

    by_test : (b : Bool) → are_ascending (accepted_by (suc m) ls p) ≡ true
        → are_ascending (if b then m ∷ accepted_by (suc m) ls p else accepted_by (suc m) ls p) ≡ true
    by_test true h = ascending-more m (accepted_by (suc m) ls p) later h
    by_test false h = h

-- ---- conditions

-- bytes are one condition at most
pub one-condition : (sig : Sig) (scope : Scope) (bytes : List ℕ) (c d : Cond) → IsCondOf sig scope bytes c
    → IsCondOf sig scope bytes d → c ≡ d
one-condition sig scope bytes c d h k =
    h.is ∙ ap (cond_of sig)
    (read-unique condition_is_read bytes h.syntax_tree.condition k.syntax_tree.condition h.syntax.0 k.syntax.0)
    ∙ sym k.is

-- each condition of the rules, its variables numbered, is read of its printed text
abbrev pub AreReadConditions : Sig → List Rule → Type 0
AreReadConditions sig rules = (c : Cond) → In c (spelled_all rules) → IsCondOf sig None (cond_text sig c) c

module _ (sig : Sig) (rules : List Rule) (sound : AreSoundRules sig rules) (read : AreReadConditions sig rules) where
  -- the tests and the rules of the program
  abbrev tests : List Cond
  tests = all sig rules sound

  abbrev pub program_rules : List ProgramRule
  program_rules = map (rule_of sig tests) (map spelled_rule rules)

  pub test-read : (c : Cond) → In c tests → IsCondOf sig None (cond_text sig c) c
  test-read c i = elim (from_in-firsts_after (same_cond sig) c [] (spelled_all rules) i) [
    | inl j ↦ absurd j
    | inr j ↦ read c j
  ]

  -- the test of a rule is its condition, renamed
  pub test-held : (r : Rule) (c : Cond) → In r rules → r.condition ≡ Some c
      → slice_get tests (cond_place sig tests (renamed_cond (variables r.pattern) c))
      ≡ Some (renamed_cond (variables r.pattern) c)
  test-held r c i e =
      let d = renamed_cond (variables r.pattern) c in
      let known = spelled-known sig rules sound r c i e in
      let p = placed sig tests d known in
      let first = test-read p.test (in-slice_get tests (cond_place sig tests d) p.test p.held) in
      let own = read d (spelled-in rules r c i e) in
      let same : p.test ≡ d = one-condition sig None (cond_text sig d) p.test d
      (subst (λ t. IsCondOf sig None t p.test) (same_cond-text sig p.test d p.same) first) own in
      p.held ∙ ap Some same

  -- a rule may be accepted behind its tokens
  pub accepted-rule : (n : ℕ) (r : Rule) → slice_get rules n ≡ Some r
      → may_accept tests program_rules (tokens_of sig r.pattern) n ≡ true
  accepted-rule n r e =
      ap (λ o. option_map_or (λ (q : ProgramRule).
      nat_eq (length q.vars) (length (path_variables (tokens_of sig r.pattern)))
      && suits_test (tokens_of sig r.pattern) (test_of tests q.test)) o false) held
      ∙ and_from _ _ count (suits r.condition refl own.condition)
    where
      held : slice_get program_rules n ≡ Some (rule_of sig tests (spelled_rule r))
      held = slice_get-map (rule_of sig tests) (map spelled_rule rules) n
          ∙ ap (option_map (rule_of sig tests)) (slice_get-map spelled_rule rules n ∙ ap (option_map spelled_rule) e)

      own : IsSoundRule sig r
      own = all_in (IsSoundRule sig) rules r sound.each (in-slice_get rules n r e)

      stands : StandsFor sig (tokens_of sig r.pattern) (renamed (variables r.pattern) r.pattern)
      stands = stands-renamed sig r.pattern own.pattern.few_variables

      count : nat_eq (length (variables r.pattern)) (length (path_variables (tokens_of sig r.pattern))) ≡ true
      count = let same = rule-count sig r.pattern own.pattern.few_variables stands in grind (arith, nat_tests, same)

      suits : (o : Option Cond) → r.condition ≡ o → HasSoundCondition sig r.pattern o
          → suits_test (tokens_of sig r.pattern)
          (test_of tests (test_number sig tests (variables r.pattern) (spelled_condition o))) ≡ true
      suits None q h = refl
      suits (Some c) q h =
          ap (suits_test (tokens_of sig r.pattern)) (test-held r c (in-slice_get rules n r e) q)
          ∙ suits-renamed sig r.pattern own.pattern.few_variables stands c h.checked

  -- ---- the states

  abbrev lists : List Path
  lists = token_lists sig rules

  module _ (n : ℕ) (i : Instr) (held : instr_at (tree_of sig rules) n ≡ Some i) where
    pub state : IsState sig rules n i
    state = state-at sig rules n i held

    -- a rule that is accepted stands there, and has the tokens of the path
    pub accepted-at : (m : ℕ) → In m i.accepts
        → (r : Rule) × (slice_get rules m ≡ Some r) × (tokens_of sig r.pattern ≡ state.parent ++ i.token ∷ [])
    accepted-at m h =
        let a = from_in-accepted 0 m lists (state.parent ++ i.token ∷ []) (subst (In m) state.accepts h) in
        let g = get-map (λ (r : Rule). tokens_of sig r.pattern) rules a.0 (state.parent ++ i.token ∷ []) a.2 in
        let same : a.0 ≡ m = omega (arith, a.1) in
        (g.0, subst (λ k. slice_get rules k ≡ Some g.0) same g.1, g.2)

    accepts-right : list_all (may_accept tests program_rules (state.parent ++ i.token ∷ [])) i.accepts ≡ true
    accepts-right = list_all-from (may_accept tests program_rules (state.parent ++ i.token ∷ [])) i.accepts (λ m h.
        let a = accepted-at m h in
        subst (λ ks. may_accept tests program_rules ks m ≡ true) a.2 (accepted-rule m a.0 a.1))

    abbrev walk : IsWalkable sig (tree_of sig rules)
    walk = walkable sig rules sound.each

    -- the path of a state has no faults
    pub none-path : (stop line : ℕ) → path_faults sig MAX_PATTERN_NODES tests program_rules stop line
        ((walkable sig rules sound.each).before n ++ i.token ∷ []) i ≡ []
    none-path stop line =
        let right = path-right sig (tree_of sig rules) walk n i held in
        let balanced = path-balanced sig (tree_of sig rules) walk n i held in
        let same : state.parent ≡ walk.before n = sym (before-state sig rules sound.each n i state) in
        let accepted : list_all (may_accept tests program_rules (walk.before n ++ i.token ∷ [])) i.accepts ≡ true =
        subst (λ ks. list_all (may_accept tests program_rules (ks ++ i.token ∷ [])) i.accepts ≡ true) same
        accepts-right in
        rw (right, accepted, balanced) refl

    -- its action is right, where its target has 32 bits
    pub right-action : ((t : ℕ) → i.down ≡ Some t → IsShort t) → IsRightAction i.down i.accepts
    right-action short = by_down i.down refl
      where
        each_short : (m : ℕ) → In m i.accepts → IsShort m
        each_short m h =
            let a = accepted-at m h in
            let w = slice_get_within rules m a.0 a.1 in
            let f = sound.few in omega (arith, w, f)

        by_down : (o : Option ℕ) → i.down ≡ o → IsRightAction o i.accepts
        by_down (Some t) e = (short t e, down-accepts sig (tree_of sig rules) walk n i held t e)
        by_down None e = (
          end-accepts sig (tree_of sig rules) walk n i held e,
          subst (λ ms. are_ascending ms ≡ true) (sym state.accepts)
              (ascending-accepted 0 lists (state.parent ++ i.token ∷ [])),
          all-from_in IsShort i.accepts each_short,
        )

  -- the instructions have no faults
  pub none-instructions : (line : ℕ) → code_faults sig MAX_PATTERN_NODES tests program_rules
      (suc (length (tree_of sig rules))) line 1 (lead [] (first_target (tree_of sig rules))) (tree_of sig rules) ≡ []
  none-instructions line =
      let w = walkable sig rules sound.each in
      none-code_faults (tree_of sig rules) w.before w.paths w.forward w.once
      (laid-targets (token_count lists) (numbered_from 0 lists) 1) sig MAX_PATTERN_NODES tests program_rules
      (λ l n i held. none-path n i held (suc (length (tree_of sig rules))) l) line
