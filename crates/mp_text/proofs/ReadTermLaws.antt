-- The nodes, faults and terms of applications and of lists of expressions that grow at the end.
use Rattle.std.proofs.Common.{◌≡◌, ℕ, ◌+◌, Bool, true, false, List, [], ◌∷◌, ◌++◌, length, map, refl, ap, ◌∙◌}
use Rattle.std.proofs.Common.{arith, sym, Option, Some, None, Result, Ok, Err}
use Rattle.std.specs.Prelude.{IfOk, IfSome, ◌||◌}
use Rattle.std.proofs.lemmas.List.{map_push}
use Rattle.mp_term.specs.declared.signature.OpDecl.{OpDecl}
use Rattle.mp_term.specs.Tree as term
use Rattle.mp_term.specs.Signature.{Sig, allows}
use Rattle.mp_parser.specs.declared.token.Punct.TheVariants.{Open}
use Rattle.mp_parser.specs.Tokens.{Placed}
use Rattle.mp_parser.specs.Syntax.{Spot, Tree, Symbol, Apply, Statement, trees, tree_list}
use Rattle.mp_parser.specs.Machine.{State, Within, Frame, AfterWord, AfterExpr, is_punct, run_in}
use Rattle.mp_parser.proofs.Trees.{tree_list-trees}
use Rattle.mp_build.specs.Build.{op_number, head_number, term_of, terms_of}
use Rattle.mp_build.specs.Checks.{nodes, all_nodes, has_large_default, some_large_default, op_named, head_faults}
use Rattle.mp_build.specs.Checks.{term_faults, all_term_faults}
use Rattle.mp_build.proofs.Built.{terms_of-trees}
use Rattle.mp_text.specs.ReadTerm.{IsTermRead}

-- the nodes of expressions and one more
pub all_nodes-push : (es : List Tree) (e : Tree) → all_nodes (trees (es ++ e ∷ [])) ≡ all_nodes (trees es) + nodes e
all_nodes-push [] e = omega arith
all_nodes-push (d ∷ es) e = omega (arith, all_nodes-push es e)

-- one more without a large default
pub some_large_default-push : (es : List Tree) (e : Tree) → some_large_default (trees es) ≡ false
    → has_large_default e ≡ false → some_large_default (trees (es ++ e ∷ [])) ≡ false
some_large_default-push [] e h k = rw k refl
some_large_default-push (d ∷ es) e h k =
    by_case (has_large_default d) h (λ g. some_large_default-push es e g k)
  where
    by_case : (b : Bool) → (b || some_large_default (trees es)) ≡ false
        → (some_large_default (trees es) ≡ false → some_large_default (trees (es ++ e ∷ [])) ≡ false)
        → (b || some_large_default (trees (es ++ e ∷ []))) ≡ false
    by_case true g others = g
    by_case false g others = others g

-- a word that no bracket follows is a symbol
pub word-alone : (limit : ℕ) (done : List Statement) (x : Within) (k : List Frame) (w : Spot) (t : Placed)
    (ts : List Placed) → is_punct Open t.token ≡ false
    → run_in limit done (AfterWord x k w) (t ∷ ts) ≡ run_in limit done (AfterExpr x k (Symbol w)) (t ∷ ts)
word-alone limit done x k w t ts e = rw e refl

-- what follows of two facts of the value that is given, where one is
pub if_some-both : {A E : Type 0} (r : Result (Option A) E) (P Q R : A → Type 0) → ((a : A) → P a → Q a → R a)
    → IfOk r (λ o. IfSome o P) → IfOk r (λ o. IfSome o Q) → IfOk r (λ o. IfSome o R)
if_some-both (Ok (Some a)) P Q R f p q = f a p q
if_some-both (Ok None) P Q R f p q = tt
if_some-both (Err e) P Q R f p q = tt

module _ (sig : Sig) where
  -- the faults of expressions and of one more without a fault
  all_term_faults-push : (es : List Tree) (e : Tree) → term_faults sig e ≡ []
      → all_term_faults sig (trees (es ++ e ∷ [])) ≡ all_term_faults sig (trees es)
  all_term_faults-push [] e h = rw h refl
  all_term_faults-push (d ∷ es) e h = ap (λ l. term_faults sig d ++ l) (all_term_faults-push es e h)

  -- the term of an operation that the signature has, applied to these terms
  pub term_of-Apply : (f : Spot) (es : List Tree) (n : ℕ) → op_number sig f.text ≡ Some n
      → term_of sig (Apply f (trees es)) ≡ term.app n (term.trees (map (term_of sig) es))
  term_of-Apply f es n is = ap (λ o. term.app (head_number o) (terms_of sig (trees es))) is
      ∙ ap (term.app n) (terms_of-trees sig es)

  -- such an operation that allows so many arguments, which have no fault, has none
  pub term_faults-Apply : (f : Spot) (es : List Tree) (d : OpDecl) → op_named sig f.text ≡ Some d
      → allows (length es) d ≡ true → all_term_faults sig (trees es) ≡ [] → term_faults sig (Apply f (trees es)) ≡ []
  term_faults-Apply f es d is allowed none =
      ap (λ o. head_faults (allows (length (tree_list (trees es)))) f o ++ all_term_faults sig (trees es)) is
      ∙ ap (λ l. head_faults (allows (length l)) f (Some d) ++ all_term_faults sig (trees es)) (tree_list-trees es)
      ∙ (rw allowed none)

  -- the expressions have no fault and no large default, so many nodes, and these terms
  pub record AreTerms (number : ℕ) (es : List Tree) (ts : List term.Tree) : Type 0 where
    pub faultless : all_term_faults sig (trees es) ≡ []
    pub terms : ts ≡ map (term_of sig) es
    pub count : number ≡ all_nodes (trees es)
    pub small : some_large_default (trees es) ≡ false

  -- one more was read
  pub are_terms-push : (at : Within → List Frame → State) (room m n : ℕ) (es : List Tree) (ts new : List term.Tree)
      (t : term.Tree) (here behind : List Placed) (h : IsTermRead sig at room n t here behind) → AreTerms m es ts
      → new ≡ ts ++ t ∷ [] → AreTerms (m + n) (es ++ h.expr ∷ []) new
  are_terms-push at room m n es ts new t here behind h before added = record {
    faultless = all_term_faults-push es h.expr h.faultless ∙ before.faultless;
    terms = added ∙ ap (λ l. l ++ t ∷ []) before.terms ∙ ap (λ v. map (term_of sig) es ++ v ∷ []) h.term
        ∙ sym (map_push (term_of sig) es h.expr);
    count = omega (arith, before.count, h.count, all_nodes-push es h.expr);
    small = some_large_default-push es h.expr before.small h.small;
  }
