-- The program of rules accepts what the rules admit.
use Rattle.std.proofs.Common.{◌≡◌, ◌≤◌, ℕ, List, [], ◌∷◌, length, true, refl, ap, sym, ◌∙◌, inl, inr, subst}
use Rattle.std.proofs.Common.{arith}
use Rattle.std.specs.Prelude.{Some, slice_get}
use Rattle.std.proofs.lemmas.List.{length-map}
use Rattle.mp_term.specs.Listing.{In}
use Rattle.mp_term.specs.Normal.{IsNormal}
use Rattle.mp_term.specs.Signature.{Sig}
use Rattle.mp_term.specs.Tree.{Tree}
use Rattle.mp_term.proofs.ListingLaws.{all_in}
use Rattle.mp_term.proofs.SearchLaws.{from_in-append}
use Rattle.mp_pattern.specs.declared.limits.TheConstants.{MAX_VARIABLES}
use Rattle.mp_pattern.specs.Admission.{Admits, Rule, meets}
use Rattle.mp_pattern.specs.Fits.{Fits, Table}
use Rattle.mp_pattern.specs.Lists.{Pair, IsAllList, PairAdmitted}
use Rattle.mp_pattern.specs.NetTokens.{renamed, tokens_of}
use Rattle.mp_pattern.specs.PatternTree.{Pattern}
use Rattle.mp_pattern.specs.SoundRule.{AreSoundRules, IsSoundRule}
use Rattle.mp_pattern.specs.Value.{Subst}
use Rattle.mp_pattern.specs.Variables.{variables}
use Rattle.mp_walk.specs.CodeForest.{code_forest}
use Rattle.mp_walk.specs.Forests.{walk}
use Rattle.mp_walk.specs.Instrs.{Instr}
use Rattle.mp_walk.specs.NamedItems.{with_names}
use Rattle.mp_walk.specs.TokenMachine.{begin_state, token_ends, token_steps}
use Rattle.mp_walk.specs.Walkable.{StandsFor}
use Rattle.mp_walk.specs.WalkItems.{AreLeafItems, IsLeafItem}
use Rattle.mp_walk.proofs.RuleLaws.{fits-same_tokens, stands-renamed}
use Rattle.mp_walk.proofs.WalkTheorem.{walk_items}
use Rattle.mp_many.specs.Laid.{tree_of}
use Rattle.mp_many.specs.WalkItems.{AreWalkItems, accepts_at, each_with, rule_items}
use Rattle.mp_many.proofs.WalkableLaws.{in-slice_get, walkable}
use Rattle.mp_program.specs.Program.{Program, ProgramRule}
use Rattle.mp_program.specs.ProgramOf.{rule_of}
use Rattle.mp_program.specs.TokenPaths.{test_of}
use Rattle.mp_gen.specs.Generated.{generated, spelled_rule}
use Rattle.mp_command.proofs.GeneratedItems.{accepted-tokens, rule-held, test-renamed}
use Rattle.mp_command.proofs.RenamedFits.{fits-back, fits-renamed, meets-renamed, numbered_subst}
use Rattle.mp_gen.proofs.RuleNames.{new_name, variables-renamed}
use Rattle.mp_gen.proofs.TreeFaults.{AreReadConditions}
use Rattle.mp_vm.specs.ProgramList.{IsProgramList, IsProgramPair}
use Rattle.mp_vm.proofs.StandsAlone.{fits-once, stands-same}

-- an item of the rules is one of a leaf that accepts the rule
each-number : (ns : List ℕ) (T U : Table) (n : ℕ) → In {X = ℕ × Table} (n, U) (each_with ns T) → In n ns × (U ≡ T)
each-number [] T U n h = absurd h
each-number (m ∷ ns) T U n (inl e) =
    let both : (n, U) ≡ (m, T) = e in (inl (ap (λ (i : ℕ × Table). i.0) both), ap (λ (i : ℕ × Table). i.1) both)
each-number (m ∷ ns) T U n (inr h) = let r = each-number ns T U n h in (inr r.0, r.1)

item-leaf : (code : List Instr) (is : List (ℕ × Table)) (n : ℕ) (T : Table)
    → In {X = ℕ × Table} (n, T) (rule_items code is)
    → (i : ℕ × Table) × In i is × In n (accepts_at code i.0) × (T ≡ i.1)
item-leaf code [] n T h = absurd h
item-leaf code (i ∷ is) n T h =
    elim (from_in-append (n, T) (each_with (accepts_at code i.0) i.1) (rule_items code is) h) [
      | inl j ↦ (let r = each-number (accepts_at code i.0) i.1 T n j in (i, inl refl, r.0, r.1))
      | inr j ↦ (let r = item-leaf code is n T j in (r.0, inr r.1, r.2, r.3))
    ]

module _ (sig : Sig) (rules : List Rule) (sound : AreSoundRules sig rules) (read : AreReadConditions sig rules)
    (t : Tree) (normal : IsNormal sig t)
    (items : (is : List (ℕ × Table)) → AreLeafItems sig (tree_of sig rules) t is
    → AreWalkItems sig rules t (rule_items (tree_of sig rules) is)) where
  abbrev program : Program
  program = generated sig rules

  -- the pattern of a rule with numbered variables
  abbrev numbered_pattern : Rule → Pattern
  numbered_pattern r = renamed (variables r.pattern) r.pattern

  -- the line of a rule
  abbrev line : Rule → ProgramRule
  line r = rule_of sig program.tests (spelled_rule r)

  module _ (n : ℕ) (r : Rule) (held : slice_get rules n ≡ Some r) where
    own : IsSoundRule sig r
    own = all_in (IsSoundRule sig) rules r sound.each (in-slice_get rules n r held)

    stands : StandsFor sig (tokens_of sig r.pattern) (numbered_pattern r)
    stands = stands-renamed sig r.pattern own.pattern.few_variables

    few : length (variables (numbered_pattern r)) ≤ MAX_VARIABLES
    few =
        let names = variables-renamed sig r.pattern own.pattern.few_variables stands in
        omega (
          arith,
          ap length names,
          length-map (variables r.pattern) (new_name (variables r.pattern)),
          own.pattern.few_variables,
        )

    -- the test of the line holds exactly where the condition does
    test-kept : (s : Subst) (T : Table) → Fits sig r.pattern t s T
        → meets sig (test_of program.tests (line r).test) (numbered_subst (variables r.pattern) s)
        ≡ meets sig r.condition s
    test-kept s T fits =
        ap (λ o. meets sig o (numbered_subst (variables r.pattern) s)) (test-renamed sig rules sound read n r held)
        ∙ meets-renamed sig r.pattern own.pattern.few_variables t s T fits r.condition own.condition

  -- ---- what the program accepts the rules admit

  pair-admitted : (q : Pair) → IsProgramPair sig program t q → PairAdmitted sig rules t q
  pair-admitted q a =
      let g = a.given in
      let T = a.table in
      let told = accepted-tokens sig rules sound read a.leaf g.path q.0 g.leads a.accepts in
      let r = told.0 in
      let held = told.1 in
      let vs = variables r.pattern in
      let own_rule = own q.0 r held in
      let fewer = own_rule.pattern.few_variables in
      let standing = stands q.0 r held in
      let pattern : g.pattern ≡ numbered_pattern r = stands-same sig g.path g.pattern (numbered_pattern r) g.stands
      (subst (λ ks. StandsFor sig ks (numbered_pattern r)) told.2 standing) in
      let fits : Fits sig (numbered_pattern r) t g.subst T = subst (λ p. Fits sig p t g.subst T) pattern g.fits in
      let old = fits-same_tokens sig (numbered_pattern r) r.pattern t g.subst T normal (few q.0 r held) fewer
      standing.tokens fits in
      let new = fits-renamed sig r.pattern fewer standing t old.0 T old.1 in
      let same : g.subst ≡ numbered_subst vs old.0 =
      fits-once sig t normal (numbered_pattern r) g.subst (numbered_subst vs old.0) T fits new in
      let both : Some g.rule ≡ Some (line r) = sym g.numbered ∙ rule-held sig rules sound read q.0 r held in
      let rule : g.rule ≡ line r = cc in
      let is : q.1 ≡ old.0 = g.named ∙ ap (λ z. with_names z.vars g.subst) rule ∙ ap (with_names vs) same
      ∙ fits-back sig r.pattern fewer standing t old.0 T old.1 in
      let condition : meets sig r.condition old.0 ≡ true = sym (test-kept q.0 r held old.0 T old.1)
      ∙ ap (meets sig (test_of program.tests (line r).test)) (sym same)
      ∙ ap (λ z. meets sig (test_of program.tests z.test) g.subst) (sym rule) ∙ g.test in
      (r, held, subst (Admits sig r t) (sym is) (record { table = T; fits = old.1; condition = condition }))

  -- ---- and back

  pair-accepted : (q : Pair) → PairAdmitted sig rules t q → IsProgramPair sig program t q
  pair-accepted q (r, held, a) =
      let code = tree_of sig rules in
      let T = a.table in
      let vs = variables r.pattern in
      let own_rule = own q.0 r held in
      let fewer = own_rule.pattern.few_variables in
      let standing = stands q.0 r held in
      let is = walk (token_steps sig) token_ends (code_forest code) (begin_state t) [] in
      let are = walk_items sig t normal code (walkable sig rules sound.each) in
      let item : In {X = ℕ × Table} (q.0, T) (rule_items code is) =
      ((items is are).exactly (q.0, T)).1 (record { rule = r; numbered = held; subst = q.1; fits = a.fits }) in
      let at = item-leaf code is q.0 T item in
      let leaf : IsLeafItem sig code t at.0 = (are.exactly at.0).0 at.1 in
      let told = accepted-tokens sig rules sound read at.0.0 leaf.path q.0 leaf.leaf at.2 in
      let both : Some told.0 ≡ Some r = sym told.1 ∙ held in
      let rule : told.0 ≡ r = cc in
      let path : tokens_of sig r.pattern ≡ leaf.path =
      ap (λ (z : Rule). tokens_of sig z.pattern) (sym rule) ∙ told.2 in
      record {
        leaf = at.0.0;
        accepts = at.2;
        table = T;
        given = record {
          rule = line r;
          numbered = rule-held sig rules sound read q.0 r held;
          path = leaf.path;
          leads = leaf.leaf;
          pattern = numbered_pattern r;
          stands = subst (λ ks. StandsFor sig ks (numbered_pattern r)) path standing;
          subst = numbered_subst vs q.1;
          fits = fits-renamed sig r.pattern fewer standing t q.1 T a.fits;
          test = test-kept q.0 r held q.1 T a.fits ∙ a.condition;
          named = sym (fits-back sig r.pattern fewer standing t q.1 T a.fits);
        };
      }

  pub generated-lists : (ps : List Pair) → IsAllList sig rules t ps → IsProgramList sig program t ps
  generated-lists ps h = record {
    exactly = λ q. (λ c. pair-accepted q ((h.exactly q).0 c), λ a. (h.exactly q).1 (pair-admitted q a));
    ascending = h.ascending;
  }
