-- Rules that cancel, what they take first, and what they make of a term.
use Rattle.std.specs.Prelude.{◌≡◌, ◌<◌, ◌≤◌, ◌+◌, ℕ, suc, Bool, true, false, List, [], ◌∷◌, ◌++◌, length}
use Rattle.std.specs.Prelude.{Option, Some, None, slice_get, if◌then◌else◌, ⊤}
use Rattle.std.specs.Borrow.{Bor}
use Rattle.std.specs.declared.cmp.Ordering.TheVariants.{Less}
use Rattle.std.specs.List.{remove}
use Rattle.mp_term.specs.declared.name.Name.{Name}
use Rattle.mp_term.specs.declared.term.Term.{Term}
use Rattle.mp_term.specs.View.{tree}
use Rattle.mp_term.specs.Tree.{Tree, symbol, app, trees}
use Rattle.mp_term.specs.Order.{tree_cmp}
use Rattle.mp_term.specs.NormalTest.{has_head}
use Rattle.mp_term.proofs.Sorting.{tally}
use Rattle.mp_term.specs.Signature.{Sig, is_assoc, is_comm}
use Rattle.mp_pattern.specs.PatternTree.{Wildcard, dot, plus, star, Pattern, symbol_pattern, app_pattern, wild_pattern}
use Rattle.mp_pattern.specs.PatternTree.{patterns}
use Rattle.mp_pattern.specs.TemplateTree.{Template, symbol_template, app_template, variable_template, templates}
use Rattle.mp_pattern.specs.Value.{same_name}
use Rattle.mp_pattern.specs.Admission.{Rule}
use Rattle.mp_rewrite.specs.declared.taken.Places.{Places}
use Rattle.mp_rewrite.specs.declared.taken.Found.{Found}
use Rattle.mp_rewrite.specs.declared.taken.Found.TheVariants.{Nowhere, Unsure, At}
use Rattle.mp_rewrite.specs.declared.cancellation.Taken.{Taken}
use Rattle.mp_rewrite.specs.declared.cancellation.Taken.TheVariants.{Symbol, Pair, Under}
use Rattle.mp_rewrite.specs.declared.cancellation.Cancellation.{Cancellation}
use Rattle.mp_rewrite.specs.declared.cancelled.Cancelled.{Cancelled}

-- a dot of a variable
abbrev pub a_dot : List ℕ → Pattern
a_dot x = wild_pattern dot (Some x)

-- the children that take what a cancellation takes, over a variable
abbrev pub taking : Taken → List ℕ → List Pattern
taking (Symbol n) x = symbol_pattern n.now ∷ []
taking Pair x = a_dot x ∷ a_dot x ∷ []
taking (Under h) x = app_pattern h.0 (patterns (a_dot x ∷ [])) ∷ a_dot x ∷ []

-- a cancellation that has a variable for what it takes has another one for the rest
abbrev pub AreApart : Taken → List ℕ → List ℕ → Type 0
AreApart (Symbol n) x y = ⊤
AreApart _ x y = same_name x y ≡ false

-- the wildcard that takes all others
abbrev pub taking_rest : Bool → Wildcard
taking_rest leaves = if leaves then plus else star

-- the templates of what is put in
abbrev pub putting : Option (Bor Name) → List Template
putting None = []
putting (Some n) = symbol_template n.now ∷ []

-- the trees of what is put in
abbrev pub put_terms : Option (Bor Name) → List Tree
put_terms None = []
put_terms (Some n) = symbol n.now ∷ []

-- the rule makes the cancellation
pub record Cancels (r : Rule) (d : Cancellation) : Type 0 where
  pub x : List ℕ
  pub y : List ℕ
  pub apart : AreApart d.taken x y
  pub pattern : r.pattern
      ≡ app_pattern d.op.0 (patterns (taking d.taken x ++ wild_pattern (taking_rest d.leaves) (Some y) ∷ []))
  pub template : r.template ≡ Some (app_template d.op.0 (templates (putting d.put ++ variable_template y ∷ [])))
  pub condition : r.condition ≡ None

-- what is taken, where the variable stands for b
abbrev pub taken_terms : Taken → Tree → List Tree
taken_terms (Symbol n) b = symbol n.now ∷ []
taken_terms Pair b = b ∷ b ∷ []
taken_terms (Under h) b = app h.0 (trees (b ∷ [])) ∷ b ∷ []

-- what is left of a list without the items at the places
abbrev pub left_by : {X : Type 0} → Places → List X → List X
left_by p ts = elim p.second [ None ↦ remove ts p.first | Some k ↦ remove (remove ts k) p.first ]

-- the places are places of the list, the lesser one first
abbrev pub IsWithin : ℕ → Places → Type 0
IsWithin n p = elim p.second [ None ↦ p.first < n | Some k ↦ (p.first < k) × (k < n) ]

module _ (sig : Sig) (d : Cancellation) (ts : List Tree) where
  -- nothing less than with b could be taken
  abbrev pub NoneLess : Taken → Tree → Type 0
  NoneLess (Symbol n) b = ⊤
  NoneLess Pair b = (z : Tree) → tree_cmp z b ≡ Less → tally tree_cmp z ts ≤ 1
  NoneLess (Under h) b = (v : Tree) → tree_cmp (app h.0 (trees (v ∷ []))) (app h.0 (trees (b ∷ []))) ≡ Less
      → 1 ≤ tally tree_cmp (app h.0 (trees (v ∷ []))) ts
      → (has_head d.op.0 v ≡ false) × (tally tree_cmp v ts ≡ 0)

  -- the operation below takes one argument alone
  abbrev pub TakesAlone : Taken → Type 0
  TakesAlone (Under h) = is_assoc sig h.0 ≡ false
  TakesAlone _ = ⊤

  -- at the places stands what the cancellation takes first of the list
  pub record AreFirst (p : Places) : Type 0 where
    pub b : Tree
    pub within : IsWithin (length ts) p
    pub alone : TakesAlone d.taken
    pub whole : (z : Tree) → tally tree_cmp z ts
        ≡ tally tree_cmp z (taken_terms d.taken b) + tally tree_cmp z (left_by p ts)
    pub none_less : NoneLess d.taken b
    pub left : d.leaves ≡ true → 1 ≤ length (left_by p ts)

-- what the cancellation by f takes stands nowhere in the list, and it takes no part of a tree
abbrev pub StandsNowhere : Sig → ℕ → List Tree → Taken → Type 0
StandsNowhere sig f ts (Symbol n) = tally tree_cmp (symbol n.now) ts ≡ 0
StandsNowhere sig f ts Pair = (z : Tree) → tally tree_cmp z ts ≤ 1
StandsNowhere sig f ts (Under h) = (is_assoc sig h.0 ≡ false)
    × ((v : Tree) → 1 ≤ tally tree_cmp (app h.0 (trees (v ∷ []))) ts
    → (has_head f v ≡ false) × (tally tree_cmp v ts ≡ 0))

-- it is so where something stands nowhere, and so of what is found
abbrev pub IsFound : {X : Type 0} → Type 0 → (X → Type 0) → Found X → Type 0
IsFound none some Nowhere = none
IsFound none some Unsure = ⊤
IsFound none some (At x) = some x

-- the rule makes the cancellation on the term, which is an application of the operation, with what stands at the places
pub record IsCancelled (sig : Sig) (r : Rule) (t : Tree) (d : Cancelled) : Type 0 where
  pub ts : List Tree
  pub is : t ≡ app d.cancellation.op.0 (trees ts)
  pub comm : is_comm sig d.cancellation.op.0 ≡ true
  pub cancels : Cancels r d.cancellation
  pub first : AreFirst sig d.cancellation ts d.places

-- the arguments after the cancellation, in some order
abbrev pub after_cancellation : Cancelled → List Tree → List Tree
after_cancellation d ts = put_terms d.cancellation.put ++ left_by d.places ts

-- ---- places in a list

-- a tree stands at the place and right behind it, and at none before
pub record IsPairAt (ts : List Tree) (i : ℕ) : Type 0 where
  pub b : Tree
  pub here : slice_get ts i ≡ Some b
  pub behind : slice_get ts (suc i) ≡ Some b
  pub none : (k : ℕ) → k < i → slice_get ts k ≡ slice_get ts (suc k) → ⊥

-- no tree stands at two places in turn
abbrev pub HasNoPair : List Tree → Type 0
HasNoPair ts = (k : ℕ) → suc k < length ts → slice_get ts k ≡ slice_get ts (suc k) → ⊥

-- the only argument of the tree, where it is an application of f to one
abbrev pub IsOnly : ℕ → Tree → Option (Bor Term) → Type 0
IsOnly f t None = (v : Tree) → t ≡ app f (trees (v ∷ [])) → ⊥
IsOnly f t (Some u) = t ≡ app f (trees (tree u.now ∷ []))

-- an application of k to a tree stands at the first place, and the tree at the second; at no place before the first
-- stands one whose argument is headed by f or stands in the list
pub record IsUnderAt (f k : ℕ) (ts : List Tree) (p : ℕ × ℕ) : Type 0 where
  pub b : Tree
  pub here : slice_get ts p.0 ≡ Some (app k (trees (b ∷ [])))
  pub argument : slice_get ts p.1 ≡ Some b
  pub none : (i : ℕ) (v : Tree) → i < p.0 → slice_get ts i ≡ Some (app k (trees (v ∷ [])))
      → (has_head f v ≡ false) × (tally tree_cmp v ts ≡ 0)

-- the two places, the lesser one first
pub record IsBoth (i k : ℕ) (p : Places) : Type 0 where
  pub less : i < k → p ≡ record { first = i; second = Some k }
  pub more : k ≤ i → p ≡ record { first = k; second = Some i }

-- no application of k stands in the list whose argument is headed by f or stands there too
abbrev pub HasNoUnder : ℕ → ℕ → List Tree → Type 0
HasNoUnder f k ts = (i : ℕ) (v : Tree) → slice_get ts i ≡ Some (app k (trees (v ∷ [])))
    → (has_head f v ≡ false) × (tally tree_cmp v ts ≡ 0)

-- the tree is no application of k whose argument is headed by f or stands in the list
abbrev pub IsNoUnder : ℕ → ℕ → List Tree → Tree → Type 0
IsNoUnder f k ts t = (v : Tree) → t ≡ app k (trees (v ∷ [])) → (has_head f v ≡ false) × (tally tree_cmp v ts ≡ 0)

-- it is one, and its argument stands at the place
abbrev pub IsUnderOf : ℕ → List Tree → Tree → ℕ → Type 0
IsUnderOf k ts t i = (b : Tree) × (t ≡ app k (trees (b ∷ []))) × (slice_get ts i ≡ Some b)
