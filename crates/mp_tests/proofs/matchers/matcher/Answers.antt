use Rattle.std.proofs.Common.{◌≡◌, ◌≤◌, ◌<◌, ◌+◌, ℕ, [], true, refl, ap, sym, ◌∙◌, subst, arith}
use Rattle.std.proofs.lemmas.Bool.Decides.{nat_tests}
use Rattle.std.specs.Prelude.{Some, IsSome, slice_get}
use Rattle.std.specs.List.{AllByRecursion}
use Rattle.mp_term.specs.Normal.{IsNormal}
use Rattle.mp_term.specs.Signature.{Sig, is_comm}
use Rattle.mp_term.specs.Size.{node_count, node_counts, all_nodes}
use Rattle.mp_term.specs.Tree.{Tree, symbol, app, Trees, no_trees, more_trees, tree_list, trees}
use Rattle.mp_term.specs.View.{tree}
use Rattle.mp_term.specs.declared.term.OpId.{OpId}
use Rattle.mp_term.proofs.ListLaws.{all-index}
use Rattle.mp_pattern.specs.Constants.{pattern_constants}
use Rattle.mp_pattern.specs.PatternTree.{Pattern, symbol_pattern, app_pattern, wild_pattern, Patterns, patterns}
use Rattle.mp_pattern.specs.Plan.{Plan}
use Rattle.mp_pattern.specs.Planned.{planned_rule}
use Rattle.mp_pattern.specs.Size.{pattern_nodes}
use Rattle.mp_pattern.specs.Subpatterns.{subpatterns}
use Rattle.mp_pattern.specs.View.{pattern_tree}
use Rattle.mp_pattern.proofs.PlanNodes.{plan-nodes}
use Rattle.mp_theory.proofs.Walk.{fine-arguments}
use Rattle.mp_theory.proofs.Wildcards.{final-passes}
use Rattle.mp_table.specs.Reading.{IsHeadOf}
use Rattle.mp_table.specs.Subterms.{arguments}
use Rattle.mp_table.specs.Table.{term_at, rank_of}
use Rattle.mp_table.specs.declared.rank.Head.TheVariants.{App}
use Rattle.mp_ac.specs.Children.{AreArguments}
use Rattle.mp_ac.specs.Matcher.{IsCommNode}
use Rattle.mp_ac.proofs.Below.{arguments-fine}
use Rattle.mp_cursor.proofs.BeginLaws.{pattern-held}
use Rattle.mp_cursor.proofs.FirstLaws.{constants-held}
use Rattle.mp_tests.proofs.matchers.matcher.Goals as goal

-- the first of the subpatterns is the pattern
first-subpattern : (p q : Pattern) → slice_get (subpatterns p) 0 ≡ Some q → p ≡ q
first-subpattern (symbol_pattern n) q e = cc
first-subpattern (app_pattern g ps) q e = cc
first-subpattern (wild_pattern w x) q e = cc

node-at : (sig : Sig) (p : Pattern) (g : ℕ) (ps : Patterns) → p ≡ app_pattern g ps → is_comm sig g ≡ true
    → IsCommNode sig p 0
node-at sig p g ps e h =
    record { op = g; children = ps; is = ap (λ q. slice_get (subpatterns q) 0) e; commutative = h }

-- the arguments of a normal term
head-arguments : (sig : Sig) (t : Tree) (op : OpId) → IsHeadOf (App op) t → IsNormal sig t
    → AreArguments sig op.0 (arguments t)
head-arguments sig (symbol n) op h normal = absurd h
head-arguments sig (app f ts) op h normal =
    subst (λ g. AreArguments sig g (tree_list ts)) (sym h)
    ((arguments-fine sig f (tree_list ts)).1 (fine-arguments sig f ts (final-passes sig (app f ts) normal)))

nodes-back : (ts : Trees) → node_counts (trees (tree_list ts)) ≡ node_counts ts
nodes-back no_trees = refl
nodes-back (more_trees t ts) = ap (λ n. node_count t + n) (nodes-back ts)

argument-nodes : (t : Tree) → all_nodes (arguments t) ≤ node_count t
argument-nodes (symbol n) = omega arith
argument-nodes (app f ts) = omega (arith, nodes-back ts)

same-op : (p : Pattern) (g h : ℕ) (ps qs : Patterns) → p ≡ app_pattern g ps → p ≡ app_pattern h qs → g ≡ h
same-op p g h ps qs e f = (let z : app_pattern g ps ≡ app_pattern h qs = sym e ∙ f in cc)

pub begin-requires-clause-node : goal.begin-requires-clause-node
begin-requires-clause-node g c =
    let plan = c.args.m.planned.now.plan in
    let is : plan.pattern ≡ app_pattern c.in-App.op.0 (patterns c.in-App.field-1) =
    ap (λ (p : Plan). p.pattern) c.requires.matched.planned.plan ∙ ap pattern_tree c.in-App.is in
    let same : c.in-App.op.0 ≡ c.in-App-head.head.0 = grind (arith, nat_tests, c.ne.ensures, c.if-ne.false) in
    let comm : is_comm c.args.m.sig.now c.in-App-head.head.0 ≡ true =
    sym c.is_comm.ensures ∙ c.if-not-is_comm.false in
    node-at c.args.m.sig.now plan.pattern c.in-App.op.0 (patterns c.in-App.field-1) is
    (subst (λ g. is_comm c.args.m.sig.now g ≡ true) (sym same) comm)

pub begin-requires-clause-below : goal.begin-requires-clause-below
begin-requires-clause-below g c =
    subst (λ n. AllByRecursion (λ v. v < n) c.args.vars.now) (sym (ap (λ u. u.vars) c.requires.trail))
    c.requires.vars.below

pub begin-requires-clause-constants : goal.begin-requires-clause-constants
begin-requires-clause-constants g c =
    let m = c.args.m in
    let t = m.table.now in
    subst (λ p. AllByRecursion (λ u. IsSome (rank_of t u)) (pattern_constants p))
    (sym (ap (λ (p : Plan). p.pattern) c.requires.matched.planned.plan))
    (pattern-held t (planned_rule m.planned.now)
    (constants-held t (tree m.subject.now) m.planned.now.constants c.requires.matched.table
    (planned_rule m.planned.now) c.requires.matched.planned.constants))

pub begin-requires-clause-arguments : goal.begin-requires-clause-arguments
begin-requires-clause-arguments h c g ps e =
    let sig = c.args.m.sig.now in
    let t = c.args.m.table.now in
    let plan = c.args.m.planned.now.plan in
    let root = c.root-root.result in
    let is : plan.pattern ≡ app_pattern c.in-App.op.0 (patterns c.in-App.field-1) =
    ap (λ (p : Plan). p.pattern) c.requires.matched.planned.plan ∙ ap pattern_tree c.in-App.is in
    let same : c.in-App.op.0 ≡ c.in-App-head.head.0 = grind (arith, nat_tests, c.ne.ensures, c.if-ne.false) in
    let op : c.in-App-head.head.0 ≡ g = sym same ∙ same-op plan.pattern c.in-App.op.0 g (patterns c.in-App.field-1) ps
    is (first-subpattern plan.pattern (app_pattern g ps) e) in
    subst (λ us. AreArguments sig g us) (sym c.args-args.ensures.terms)
    (subst (λ n. AreArguments sig n (arguments (term_at t root))) op
    (head-arguments sig (term_at t root) c.in-App-head.head c.in-App-head.ensures
    (all-index (IsNormal sig) t.terms root.0 (symbol []) c.requires.matched.normal c.root-root.ensures.within)))

pub begin-requires-clause-few : goal.begin-requires-clause-few
begin-requires-clause-few g c =
    let few = argument-nodes (term_at c.args.m.table.now c.root-root.result) in
    let terms = ap all_nodes c.args-args.ensures.terms in
    let count = c.nodes.ensures in
    let most = c.if-nodes-gt400.false in
    omega (arith, few, terms, count, most)

pub begin-requires-clause-spare : goal.begin-requires-clause-spare
begin-requires-clause-spare h c g ps e =
    let plan = c.args.m.planned.now.plan in
    let few = argument-nodes (term_at c.args.m.table.now c.root-root.result) in
    let terms = ap all_nodes c.args-args.ensures.terms in
    let count = c.nodes.ensures in
    let most = c.if-nodes-gt400.false in
    let nodes = plan-nodes c.args.m.sig.now (planned_rule c.args.m.planned.now).pattern plan
    c.requires.matched.planned.plan in
    let own = ap (λ (p : Plan). pattern_nodes p.pattern) c.requires.matched.planned.plan in
    let below = ap pattern_nodes (first-subpattern plan.pattern (app_pattern g ps) e) in
    let long = c.len.ensures.count in
    let short = c.if-len-gt128.false in
    let spare = ap (λ u. u.spare) c.requires.trail in
    omega (arith, few, terms, count, most, nodes, own, below, long, short, spare)
