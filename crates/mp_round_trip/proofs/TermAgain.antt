-- What spells a term stands for it, and has no faults where the term is well formed and its symbols are no operations'
-- names.
use Rattle.std.proofs.Common.{◌≡◌, ℕ, suc, Bool, true, false, ◌||◌, not, List, [], length, Option, Some, None, refl}
use Rattle.std.proofs.Common.{sym, ap, ◌∙◌, ◌≤◌, ltb, arith, rules}
use Rattle.std.specs.Prelude.{is_some}
use Rattle.std.proofs.lemmas.Bool.{and_parts}
use Rattle.mp_term.specs.declared.signature.OpDecl.{OpDecl}
use Rattle.mp_term.specs.Tree as term
use Rattle.mp_term.specs.Tree.{symbol, app}
use Rattle.mp_term.specs.Size.{node_count}
use Rattle.mp_term.specs.Signature.{Sig, has_name, holds_of, allows, well_formed, all_well_formed}
use Rattle.mp_term.proofs.SignatureLaws.{is_some-position}
use Rattle.mp_pattern.specs.declared.limits.TheConstants.{MAX_TERM_NODES}
use Rattle.mp_pattern.specs.SoundRule.{IsSymbol, HasSymbols, HaveSymbols}
use Rattle.mp_parser.specs.declared.place.Place.{Place}
use Rattle.mp_parser.specs.Syntax.{Spot, Tree, Symbol, Apply, InfixOf, Trees, no_trees, more_trees, tree_list}
use Rattle.mp_build.specs.Build.{head_number, op_number, term_of, terms_of}
use Rattle.mp_build.specs.Checks.{nodes, has_large_default, some_large_default, is_large_term, op_at, op_named}
use Rattle.mp_build.specs.Checks.{op_signed}
use Rattle.mp_build.specs.Checks.{symbol_faults, head_faults, arity_faults, sign_faults, term_faults}
use Rattle.mp_build.specs.Checks.{term_operand_faults, all_term_faults}
use Rattle.mp_build.proofs.Built.{term_operand_faults-known}
use Rattle.mp_build.proofs.Faultless.{nil-both, none-fault_if}
use Rattle.mp_build.proofs.SoundLaws.{node_count-term_of}
use Rattle.mp_round_trip.proofs.Spells.{SpellsTerm, SpellTerms}

-- ---- operations

-- an operation that passes the test has no faults at its name
pub none-head : (passes : OpDecl → Bool) (f : Spot) (o : Option OpDecl) → holds_of passes o ≡ true
    → head_faults passes f o ≡ []
none-head passes f None h = cc
none-head passes f (Some d) h = none-fault_if (not (passes d)) _ f.place (ap not h)

-- and none at the bracket before its operands
pub none-arity : (passes : OpDecl → Bool) (opened : Place) (o : Option OpDecl) → holds_of passes o ≡ true
    → arity_faults passes opened o ≡ []
none-arity passes opened None h = refl
none-arity passes opened (Some d) h = none-fault_if (not (passes d)) _ opened (ap not h)

-- an operation that passes a test is one
pub some-holds_of : (passes : OpDecl → Bool) (o : Option OpDecl) → holds_of passes o ≡ true → true ≡ is_some o
some-holds_of passes None h = cc
some-holds_of passes (Some d) h = refl

-- a symbol has no faults
pub none-symbol : (sig : Sig) (w : Spot) (n : List ℕ) → w.text ≡ n → IsSymbol sig n → symbol_faults sig w ≡ []
none-symbol sig w n s h = none-fault_if (is_some (op_number sig w.text)) _ w.place
    (ap (λ n. is_some (op_number sig n)) s ∙ is_some-position (has_name n) sig.ops ∙ h.free)

module _ (sig : Sig) where
  -- as many expressions as terms
  length-spell : (es : Trees) (ts : term.Trees) → SpellTerms sig es ts
      → length (tree_list es) ≡ length (term.tree_list ts)
  length-spell no_trees term.no_trees s = refl
  length-spell (more_trees e es) (term.more_trees t ts) s = ap suc (length-spell es ts s.1)
  length-spell _ _ s = absurd s

  mutual
    -- it stands for the term
    pub term_of-spells : (e : Tree) (t : term.Tree) → SpellsTerm sig e t → term_of sig e ≡ t
    term_of-spells (Symbol w) (symbol n) s = ap symbol s
    term_of-spells (Apply g args) (app f ts) s = λ i. app (head_number (s.0 i)) (terms_of-spell args ts s.1 i)
    term_of-spells (InfixOf opened sign operands) (app f ts) s =
        λ i. app (head_number (s.0 i)) (terms_of-spell operands ts s.1 i)
    term_of-spells _ _ s = absurd s

    terms_of-spell : (es : Trees) (ts : term.Trees) → SpellTerms sig es ts → terms_of sig es ≡ ts
    terms_of-spell no_trees term.no_trees s = refl
    terms_of-spell (more_trees e es) (term.more_trees t ts) s =
        λ i. term.more_trees (term_of-spells e t s.0 i) (terms_of-spell es ts s.1 i)
    terms_of-spell _ _ s = absurd s

  mutual
    -- none of its defaults is large, since it has none
    pub has_large_default-spells : (e : Tree) (t : term.Tree) → SpellsTerm sig e t → has_large_default e ≡ false
    has_large_default-spells (Symbol w) (symbol n) s = refl
    has_large_default-spells (Apply g args) (app f ts) s = some_large_default-spell args ts s.1
    has_large_default-spells (InfixOf opened sign operands) (app f ts) s = some_large_default-spell operands ts s.1
    has_large_default-spells _ _ s = absurd s

    some_large_default-spell : (es : Trees) (ts : term.Trees) → SpellTerms sig es ts → some_large_default es ≡ false
    some_large_default-spell no_trees term.no_trees s = refl
    some_large_default-spell (more_trees e es) (term.more_trees t ts) s =
        ap (λ b. b || some_large_default es) (has_large_default-spells e t s.0) ∙ some_large_default-spell es ts s.1
    some_large_default-spell _ _ s = absurd s

  mutual
    -- it has no faults, where the term is sound
    pub term_faults-spells : (e : Tree) (t : term.Tree) → SpellsTerm sig e t → well_formed sig t ≡ true
        → HasSymbols sig t → term_faults sig e ≡ []
    term_faults-spells (Symbol w) (symbol n) s formed symbols = none-symbol sig w n s symbols
    term_faults-spells (Apply g args) (app f ts) s formed symbols =
        let p = and_parts _ _ formed in
        let passes = allows (length (tree_list args)) in
        let held : holds_of passes (op_named sig g.text) ≡ true =
        (λ i. holds_of (allows (length-spell args ts s.1 i)) (op_at sig (s.0 i))) ∙ p.0 in
        nil-both (head_faults passes g (op_named sig g.text)) (all_term_faults sig args)
        (none-head passes g (op_named sig g.text) held) (all_term_faults-spell args ts s.1 p.1 symbols)
    term_faults-spells (InfixOf opened sign operands) (app f ts) s formed symbols =
        let p = and_parts _ _ formed in
        let passes = allows (length (tree_list operands)) in
        let here = op_signed sig sign.text in
        let held : holds_of passes here ≡ true =
        (λ i. holds_of (allows (length-spell operands ts s.1 i)) (op_at sig (s.0 i))) ∙ p.0 in
        nil-both (arity_faults passes opened here) (term_operand_faults sig (sign_faults sign here) operands)
        (none-arity passes opened here held)
        (term_operand_faults-known sig sign here operands (some-holds_of passes here held)
        ∙ all_term_faults-spell operands ts s.1 p.1 symbols)
    term_faults-spells _ _ s formed symbols = absurd s

    all_term_faults-spell : (es : Trees) (ts : term.Trees) → SpellTerms sig es ts → all_well_formed sig ts ≡ true
        → HaveSymbols sig ts → all_term_faults sig es ≡ []
    all_term_faults-spell no_trees term.no_trees s formed symbols = refl
    all_term_faults-spell (more_trees e es) (term.more_trees t ts) s formed symbols =
        let p = and_parts _ _ formed in
        nil-both (term_faults sig e) (all_term_faults sig es) (term_faults-spells e t s.0 p.0 symbols.0)
        (all_term_faults-spell es ts s.1 p.1 symbols.1)
    all_term_faults-spell _ _ s formed symbols = absurd s

  -- it has as many nodes
  pub nodes-spells : (e : Tree) (t : term.Tree) → SpellsTerm sig e t → nodes e ≡ node_count t
  nodes-spells e t s = sym (node_count-term_of sig e) ∙ ap node_count (term_of-spells e t s)

  -- and isn't large, where the term has few
  pub is_large_term-spells : (e : Tree) (t : term.Tree) → SpellsTerm sig e t → node_count t ≤ MAX_TERM_NODES
      → is_large_term e ≡ false
  is_large_term-spells e t s h =
      let few : nodes e ≤ MAX_TERM_NODES = omega (arith, nodes-spells e t s, h) in
      let test : ltb MAX_TERM_NODES (nodes e) ≡ false = search (rules, few) in
      rw test (has_large_default-spells e t s)
