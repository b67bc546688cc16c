-- The walk over a table that may be walked has exactly its leaf items, each once.
use Rattle.std.proofs.Common.{◌≡◌, List, [], refl, ap, sym, ◌∙◌, subst}
use Rattle.std.specs.Prelude.{None}
use Rattle.mp_term.specs.Listing.{In}
use Rattle.mp_term.specs.Normal.{IsNormal}
use Rattle.mp_term.specs.Signature.{Sig}
use Rattle.mp_term.specs.Tree.{Tree}
use Rattle.mp_term.proofs.SearchLaws.{in-map, from_in-map}
use Rattle.mp_pattern.specs.Fits.{Table, Fits}
use Rattle.mp_pattern.specs.NetTokens.{renamed}
use Rattle.mp_pattern.specs.PatternTree.{Pattern}
use Rattle.mp_pattern.specs.Size.{pattern_nodes}
use Rattle.mp_pattern.specs.Value.{Subst}
use Rattle.mp_pattern.specs.Variables.{variables}
use Rattle.mp_theory.specs.Frames.{settle, start}
use Rattle.mp_theory.specs.Items.{items}
use Rattle.mp_theory.specs.OneList.{Item, item_tables}
use Rattle.mp_theory.specs.Trail.{derivations}
use Rattle.mp_theory.proofs.FitsSolves.{fits-solves, solves-fits}
use Rattle.mp_theory.proofs.ItemLaws.{items-derivations}
use Rattle.mp_theory.proofs.ItemTables.{items-exact}
use Rattle.mp_theory.proofs.Tables.{shape-accounts}
use Rattle.mp_theory.proofs.TrailLaws.{shape-tested}
use Rattle.mp_theory.proofs.Walk.{fine-single}
use Rattle.mp_theory.proofs.Wildcards.{final-passes}
use Rattle.mp_ac.specs.CommItems.{NoneTwice}
use Rattle.mp_walk.specs.CodeForest.{code_forest}
use Rattle.mp_walk.specs.Forests.{runs, walk}
use Rattle.mp_walk.specs.Instrs.{Instr}
use Rattle.mp_walk.specs.TokenMachine.{begin_state, steps_by, token_steps, token_ends}
use Rattle.mp_walk.specs.Walkable.{Path, StandsFor, IsWalkable}
use Rattle.mp_walk.specs.WalkItems.{AreLeafItems}
use Rattle.mp_walk.proofs.Alike.{IsReady, AreAlike, ends-alike, there, back}
use Rattle.mp_walk.proofs.ByRule.{searched}
use Rattle.mp_walk.proofs.CodePaths.{leaf-whole, leaves-once}
use Rattle.mp_walk.proofs.ForestLaws.{walk-from, walk-found, walk-once}
use Rattle.mp_walk.proofs.NumberedNames.{own-names, renamed-itself}
use Rattle.mp_walk.proofs.Simulated.{simulated, runs-once}
use Rattle.mp_walk.proofs.StepsOnce.{state-once, state-even, state-ready}
use Rattle.mp_walk.proofs.Walked.{tokens-read}

module _ (sig : Sig) (t : Tree) (normal : IsNormal sig t) where
  -- the search for a pattern lists exactly the tables that fit
  abbrev Listed : Pattern → List Table
  Listed p = item_tables (derivations sig (pattern_nodes p) (settle (start p t)) [] [])

  listed-is : (p : Pattern) → Listed p ≡ item_tables (items sig (pattern_nodes p) (settle (start p t)) [])
  listed-is p = ap item_tables (items-derivations sig (pattern_nodes p) (settle (start p t)) [])

  pub listed-fits : (p : Pattern) (T : Table) → In T (Listed p) → (s : Subst) × Fits sig p t s T
  listed-fits p T i =
      let a = from_in-map (λ (j : Item). j.0) T (items sig (pattern_nodes p) (settle (start p t)) [])
      (subst (In T) (listed-is p) i) in
      let e = (items-exact sig (pattern_nodes p) (settle (start p t)) [] a.0.0 a.0.1).0 a.2 in (
        a.0.1,
        subst (Fits sig p t a.0.1) (sym a.1)
            (solves-fits sig p t a.0.1 a.0.0 normal ((shape-tested sig (settle (start p t)) a.0.0).1 e.1) e.2),
      )

  pub fits-listed : (p : Pattern) (T : Table) (s : Subst) → Fits sig p t s T → In T (Listed p)
  fits-listed p T s h =
      let k = fits-solves sig p t s T normal h in
      let l = (shape-accounts sig p t T k.0).0 in
      subst (In T) (sym (listed-is p))
      (in-map (λ (j : Item). j.0) (T, s) (items sig (pattern_nodes p) (settle (start p t)) [])
      ((items-exact sig (pattern_nodes p) (settle (start p t)) [] T s).1
      (l, (shape-tested sig (settle (start p t)) T).0 k.0, k.1)))

  abbrev Runs : Path → List Table
  Runs ks = runs (token_steps sig) token_ends ks (begin_state t) []

  abbrev Searched : Path → List Table
  Searched ks = runs (steps_by sig (searched sig)) token_ends ks (begin_state t) []

  begin-ready : IsReady sig (begin_state t)
  begin-ready = record {
    opens = (fine-single sig None t (final-passes sig t normal), tt);
    trail = record { final = tt; distinct = tt };
  }

  pub begin-alike : AreAlike sig (begin_state t) (begin_state t)
  begin-alike = record { opens = refl; values = λ x. refl; ready = begin-ready }

  -- what the walk reads of a path, the machine that searches reads, and back
  runs-searched : (ks : Path) (T : Table) → In T (Runs ks) → In T (Searched ks)
  runs-searched ks T i = simulated (token_steps sig) token_ends (steps_by sig (searched sig)) token_ends
      (AreAlike sig)
      (λ s r a. ends-alike sig s r a.opens) (λ s r k x a j. there sig s r k x a j)
      ks (begin_state t) (begin_state t) [] T begin-alike i

  searched-runs : (ks : Path) (T : Table) → In T (Searched ks) → In T (Runs ks)
  searched-runs ks T i = simulated (steps_by sig (searched sig)) token_ends (token_steps sig) token_ends
      (λ r s. AreAlike sig s r)
      (λ r s a. sym (ends-alike sig s r a.opens)) (λ r s k x a j. back sig r s k x a j)
      ks (begin_state t) (begin_state t) [] T begin-alike i

  -- what is read of the path of a pattern is what the search for the pattern lists
  searched-listed : (path : Path) (p : Pattern) → StandsFor sig path p → Searched path ≡ Listed p
  searched-listed path p h =
      let own : renamed (variables p) p ≡ p = renamed-itself (variables p) h.names p (own-names p) in
      ap Searched (sym h.tokens) ∙ tokens-read sig (variables p) p t
      ∙ ap (λ q. item_tables (derivations sig (pattern_nodes p) (settle (start q t)) [] [])) own

  -- nothing is read of a path twice
  path-once : (path : Path) → NoneTwice (Runs path)
  path-once path = runs-once (token_steps sig) token_ends (IsReady sig)
      (λ s k x h i. state-ready sig s k x h i) (λ s k h. state-once sig s k h)
      (λ s k x y h i j. state-even sig s k x y h i j) path (begin_state t) [] begin-ready

  -- the theorem
  pub walk_items : (code : List Instr) → IsWalkable sig code
      → AreLeafItems sig code t (walk (token_steps sig) token_ends (code_forest code) (begin_state t) [])
  walk_items code walkable = record {
    exactly = λ i. (
      λ h.
          let c = walk-from (token_steps sig) token_ends (code_forest code) (begin_state t) [] i.0 i.1 h in
          let w = leaf-whole sig code walkable i.0 c.tokens c.listed in
          let f = listed-fits w.pattern i.1
          (subst (In i.1) (searched-listed c.tokens w.pattern w.stands) (runs-searched c.tokens i.1 c.run)) in
          record {
            path = c.tokens;
            leaf = c.listed;
            pattern = w.pattern;
            stands = w.stands;
            subst = f.0;
            fits =
                f.1;
          },
      λ h.
          walk-found (token_steps sig) token_ends (code_forest code) (begin_state t) [] i.0 i.1 h.path h.leaf
          (searched-runs h.path i.1
          (subst (In i.1) (sym (searched-listed h.path h.pattern h.stands))
          (fits-listed h.pattern i.1 h.subst h.fits))),
    );
    once = walk-once (token_steps sig) token_ends (code_forest code) (begin_state t) []
        (leaves-once sig code walkable)
        (λ n ks i. path-once ks);
  }
