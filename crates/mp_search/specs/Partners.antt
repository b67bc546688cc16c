-- Siblings with one variable as their second argument, and the terms that are left to the later one.
use Rattle.std.specs.Prelude.{◌≡◌, ℕ, ⊤, List, false, true, Option, Some}
use Rattle.mp_term.specs.Listing.{In}
use Rattle.mp_term.specs.Tree.{Tree}
use Rattle.mp_pattern.specs.PatternTree.{Pattern, Patterns, app_pattern, dot, more_patterns, no_patterns, wild_pattern}
use Rattle.mp_pattern.specs.PatternTree.{symbol_pattern}
use Rattle.mp_pattern.specs.Value.{Subst}
use Rattle.mp_pattern.specs.View.{pattern_tree}
use Rattle.mp_table.specs.Subterms.{arguments}
use Rattle.mp_table.specs.Table.{HasRank, HasRanks, term_at}
use Rattle.mp_table.specs.declared.rank.Rank.{Rank}
use Rattle.mp_theory.specs.MayMatch.{is_plain, may_collapse, may_match}
use Rattle.mp_search.specs.declared.portion.Second.{Second}
use Rattle.mp_search.specs.declared.portion.Second.TheVariants.{Any, Is, Shared}
use Rattle.mp_search.specs.declared.query.Query.{Query}
use Rattle.mp_search.specs.declared.site.Site.{Site}
use Rattle.mp_search.specs.Numbers.{IsNumberOf}
use Rattle.mp_search.specs.Portion.{LeadsOn, second_is}

-- the pattern is no application
abbrev pub IsFlat : Pattern → Type 0
IsFlat (symbol_pattern n) = ⊤
IsFlat (wild_pattern w x) = ⊤
IsFlat (app_pattern g ps) = ⊥

-- both are applications of one operation
pub record AreAlike (p r : Pattern) : Type 0 where
  pub op : ℕ
  pub children : Patterns
  pub others : Patterns
  pub is : p ≡ app_pattern op children
  pub other : r ≡ app_pattern op others

-- a dot of the variable of that number
pub record IsDot (q : Query) (p : Pattern) (v : ℕ) : Type 0 where
  pub name : List ℕ
  pub is : p ≡ wild_pattern dot (Some name)
  pub number : IsNumberOf q name v

-- two children, of which the first is no application, and the second a wildcard of the variable of that number
pub record HaveSecond (q : Query) (ps : Patterns) (v : ℕ) : Type 0 where
  pub first : Pattern
  pub name : List ℕ
  pub children : ps ≡ more_patterns first (more_patterns (wild_pattern dot (Some name)) no_patterns)
  pub flat : IsFlat first
  pub number : IsNumberOf q name v

-- an application to such children, which can't be collapsed and whose children take one argument each
pub record HasSecond (q : Query) (p : Pattern) (v : ℕ) : Type 0 where
  pub op : ℕ
  pub children : Patterns
  pub is : p ≡ app_pattern op children
  pub firm : may_collapse q.sig.now op children ≡ false
  pub plain : is_plain q.sig.now (Some op) children ≡ true
  pub second : HaveSecond q children v

-- applications of one operation, both with the variable of one number as their second argument
pub record ArePair (q : Query) (p r : Pattern) : Type 0 where
  pub alike : AreAlike p r
  pub number : ℕ
  pub own : HasSecond q p number
  pub other : HasSecond q r number

-- some term is the second argument of both
pub record ShareSecond (ts us : List Tree) : Type 0 where
  pub term : Tree
  pub own : second_is term ts ≡ true
  pub other : second_is term us ≡ true

-- each term with which the child leads on has its second argument in common with one of the ranks
abbrev pub ArePartners : Query → Site → Subst → List Rank → Type 0
ArePartners q x s rs = (z : Rank) → HasRank q.table.now z → LeadsOn q x s z
    → (r : Rank) × In r rs × ShareSecond (arguments (term_at q.table.now z)) (arguments (term_at q.table.now r))

-- what is known of the second argument of the child's term, over the substitution
abbrev pub IsSecond : Query → Site → Subst → Second → Type 0
IsSecond q x s Any = ⊤
IsSecond q x s (Is r) = HasRank q.table.now r × ((f : Option ℕ) (t : Tree)
    → may_match q.sig.now s f (pattern_tree x.child.now) t ≡ true
    → second_is (term_at q.table.now r) (arguments t) ≡ true)
IsSecond q x s (Shared rs) = HasRanks q.table.now rs.now × ArePartners q x s rs.now
