-- What the program of sound rules accepts at an instruction, and the test of a rule.
use Rattle.std.proofs.Common.{◌≡◌, ℕ, List, [], ◌∷◌, ◌++◌, map, length, refl, ap, sym, ◌∙◌, subst}
use Rattle.std.specs.Prelude.{Option, Some, None, option_map, slice_get}
use Rattle.std.proofs.lemmas.Option.{slice_get-map}
use Rattle.mp_term.specs.Listing.{In}
use Rattle.mp_term.specs.Signature.{Sig}
use Rattle.mp_pattern.specs.Admission.{Rule}
use Rattle.mp_pattern.specs.CondTree.{Cond}
use Rattle.mp_pattern.specs.NetTokens.{tokens_of}
use Rattle.mp_pattern.specs.SoundRule.{AreSoundRules}
use Rattle.mp_pattern.specs.Variables.{variables}
use Rattle.mp_walk.specs.CodeForest.{code_forest}
use Rattle.mp_walk.specs.Forests.{lists}
use Rattle.mp_walk.specs.Walkable.{Path}
use Rattle.mp_walk.proofs.CodePaths.{forest-paths}
use Rattle.mp_many.specs.WalkItems.{accepts_at}
use Rattle.mp_many.proofs.WalkableLaws.{before-state, in-slice_get, walkable}
use Rattle.mp_program.specs.Program.{Program}
use Rattle.mp_program.specs.ProgramOf.{renamed_cond, rule_of, test_number}
use Rattle.mp_program.specs.TokenPaths.{test_of}
use Rattle.mp_gen.specs.Generated.{generated, spelled_condition, spelled_rule}
use Rattle.mp_gen.proofs.RuleFaults.{all}
use Rattle.mp_gen.proofs.TreeFaults.{AreReadConditions, accepted-at, state, test-held}

module _ (sig : Sig) (rules : List Rule) (sound : AreSoundRules sig rules) (read : AreReadConditions sig rules) where
  abbrev program : Program
  program = generated sig rules

  -- the tests are the conditions of the rules, renamed, each once
  tests-are : program.tests ≡ all sig rules sound
  tests-are = refl

  -- a rule of the program is that of a rule
  pub rule-held : (n : ℕ) (r : Rule) → slice_get rules n ≡ Some r
      → slice_get program.rules n ≡ Some (rule_of sig program.tests (spelled_rule r))
  rule-held n r e =
      slice_get-map (rule_of sig program.tests) (map spelled_rule rules) n
      ∙ ap (option_map (rule_of sig program.tests))
      (slice_get-map spelled_rule rules n ∙ ap (option_map spelled_rule) e)

  -- and its test is the condition of that, renamed
  pub test-renamed : (n : ℕ) (r : Rule) → slice_get rules n ≡ Some r
      → test_of program.tests (rule_of sig program.tests (spelled_rule r)).test
      ≡ option_map (renamed_cond (variables r.pattern)) r.condition
  test-renamed n r e =
      subst (λ ts. test_of ts (rule_of sig ts (spelled_rule r)).test
      ≡ option_map (renamed_cond (variables r.pattern)) r.condition) (sym tests-are) (by_condition r.condition refl)
    where
      by_condition : (o : Option Cond) → r.condition ≡ o
          → test_of (all sig rules sound) (test_number sig (all sig rules sound) (variables r.pattern)
          (spelled_condition o)) ≡ option_map (renamed_cond (variables r.pattern)) o
      by_condition None q = refl
      by_condition (Some c) q = test-held sig rules sound read r c (in-slice_get rules n r e) q

  -- a rule that is accepted has the tokens of the path
  pub accepted-tokens : (leaf : ℕ) (path : Path) (n : ℕ)
      → In {X = ℕ × Path} (leaf, path) (lists (code_forest program.code)) → In n (accepts_at program.code leaf)
      → (r : Rule) × (slice_get rules n ≡ Some r) × (tokens_of sig r.pattern ≡ path)
  accepted-tokens leaf path n leads accepts =
      let w = walkable sig rules sound.each in
      let f = forest-paths program.code w.before w.paths (length program.code) 1 leaf path leads in
      let among : accepts_at program.code leaf ≡ f.instr.accepts =
      ap (λ o. elim o as (λ _. List ℕ) [ None ↦ [] | Some i ↦ i.accepts ]) f.held in
      let a = accepted-at sig rules sound read leaf f.instr f.held n (subst (In n) among accepts) in
      let parent : w.before leaf ≡ (state sig rules sound read leaf f.instr f.held).parent =
      before-state sig rules sound.each leaf f.instr (state sig rules sound read leaf f.instr f.held) in (
        a.0,
        a.1,
        a.2 ∙ ap (λ ks. ks ++ f.instr.token ∷ []) (sym parent) ∙ f.path
            ∙ ap (λ ks. ks ++ path) w.paths.first,
      )
