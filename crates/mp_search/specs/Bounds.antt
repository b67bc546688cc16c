-- What is known of the lists that a child may take.
use Rattle.std.specs.Prelude.{◌≡◌, ◌≤◌, ◌*◌, ⊤, ℕ, List, length, false, Option, Some, None}
use Rattle.mp_term.specs.Listing.{In}
use Rattle.mp_term.specs.Signature.{Sig}
use Rattle.mp_term.specs.Tree.{Tree}
use Rattle.mp_pattern.specs.PatternTree.{Wildcard, Pattern, wild_pattern}
use Rattle.mp_pattern.specs.Fits.{Entry}
use Rattle.mp_pattern.specs.Value.{Subst, value_of}
use Rattle.mp_pattern.specs.Variables.{comm_above}
use Rattle.mp_pattern.specs.View.{pattern_tree}
use Rattle.mp_table.specs.Table.{terms_at}
use Rattle.mp_theory.specs.Bounds.{least, most}
use Rattle.mp_theory.specs.Frames.{Frame}
use Rattle.mp_theory.specs.Items.{items_by}
use Rattle.mp_theory.specs.Known.{is_optional}
use Rattle.mp_theory.specs.Machine.{choices}
use Rattle.mp_theory.specs.OneList.{Item}
use Rattle.mp_theory.proofs.Cuts.{count}
use Rattle.mp_search.specs.declared.bounds.Bounds.{Bounds}
use Rattle.mp_search.specs.declared.query.Query.{Query}
use Rattle.mp_search.specs.declared.site.Site.{Site}
use Rattle.mp_search.specs.Numbers.{IsNumberOf}
use Rattle.mp_search.specs.Parts.{IsLeaf}
use Rattle.mp_search.specs.Site.{site_place}

-- the child's variable, which has no value and that number
pub record IsFreeOf (q : Query) (x : Site) (s : Subst) (v : ℕ) : Type 0 where
  pub wildcard : Wildcard
  pub name : List ℕ
  pub child : pattern_tree x.child.now ≡ wild_pattern wildcard (Some name)
  pub required : is_optional wildcard ≡ false
  pub number : IsNumberOf q name v
  pub free : value_of s name ≡ None

-- so it is where there is a number
abbrev pub IsFree : Query → Site → Subst → Option ℕ → Type 0
IsFree q x s None = ⊤
IsFree q x s (Some v) = IsFreeOf q x s v

-- the child's variable has no value
abbrev pub HasNoValue : Pattern → Subst → Type 0
HasNoValue (wild_pattern w (Some x)) s = value_of s x ≡ None
HasNoValue p s = ⊥

-- the child takes one term
abbrev pub TakesOne : Sig → Option ℕ → Pattern → Type 0
TakesOne sig f p = (least p ≡ 1) × (most sig f p ≡ Some 1)

-- the child takes the next term alone
pub record TakesNext (sig : Sig) (f : Option ℕ) (p : Pattern) : Type 0 where
  pub ordered : comm_above sig f ≡ false
  pub leaf : IsLeaf p
  pub single : TakesOne sig f p

-- each choice with an item has a number of terms within the bounds, and so often what is left has each of its terms
pub record AreBounds (q : Query) (x : Site) (s : Subst) (b : Bounds) : Type 0 where
  pub some : 1 ≤ b.uses
  pub lengths : (fs : List Frame) (k : ℕ) (e : Entry) (i : Item) → In e (choices q.sig.now (site_place q x fs))
      → In i (items_by q.sig.now k (site_place q x fs) s e)
      → (b.least ≤ length e.terms) × (length e.terms ≤ b.most)
  pub counts : (fs : List Frame) (k : ℕ) (e : Entry) (i : Item) (z : Tree)
      → In e (choices q.sig.now (site_place q x fs)) → In i (items_by q.sig.now k (site_place q x fs) s e)
      → b.uses * count z e.terms ≤ count z (terms_at q.table.now x.left.now)
