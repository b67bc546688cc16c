-- Nets: automata over the preorder of a subject. A state knows what each of its rules still asks of the places to come.
use Rattle.std.specs.Prelude.{◌≡◌, ℕ, zero, suc, Bool, false, ◌&&◌, List, [], ◌∷◌, ◌++◌, length, Option}
use Rattle.std.specs.Prelude.{Some, None, nat_eq, slice_get, option_map, if◌then◌else◌}
use Rattle.std.specs.List.{filter_map, list_any}
use Rattle.mp_term.specs.Tree.{Tree, symbol, app, Trees, no_trees, more_trees, tree_list}
use Rattle.mp_pattern.specs.PatternTree.{Pattern, symbol_pattern, app_pattern, wild_pattern, Patterns, no_patterns}
use Rattle.mp_pattern.specs.PatternTree.{more_patterns, pattern_list}
use Rattle.mp_pattern.specs.Value.{same_name}

-- what a rule asks of a place: this symbol, this operation with so many arguments, or nothing
pub data Mark : Type 0 where
  named : List ℕ → Mark
  entered : ℕ → ℕ → Mark
  anything : Mark

-- the marks ask for the same symbol or operation
abbrev pub same_mark : Mark → Mark → Bool
same_mark (named m) (named n) = same_name m n
same_mark (entered f m) (entered g n) = nat_eq f g && nat_eq m n
same_mark _ _ = false

abbrev mutual
  -- what a pattern asks, place by place in preorder
  pub marks : Pattern → List Mark
  marks (symbol_pattern n) = named n ∷ []
  marks (app_pattern f ps) = entered f (length (pattern_list ps)) ∷ all_marks ps
  marks (wild_pattern w x) = anything ∷ []

  pub all_marks : Patterns → List Mark
  all_marks no_patterns = []
  all_marks (more_patterns p ps) = marks p ++ all_marks ps

-- so many places of which nothing is asked
abbrev pub anythings : ℕ → List Mark
anythings zero = []
anythings (suc k) = anything ∷ anythings k

-- the arguments below a place
abbrev pub arity : Mark → ℕ
arity (named n) = 0
arity (entered f k) = k
arity anything = 0

-- a rule with what it still asks, the next place first
pub record Open : Type 0 where
  pub rule : ℕ
  pub rest : List Mark

-- what is asked below a place with the head h, and behind it
abbrev pub below : Mark → List Mark → Option (List Mark)
below h [] = None
below h (anything ∷ m) = Some (anythings (arity h) ++ m)
below h (named n ∷ m) = if same_mark (named n) h then Some m else None
below h (entered f k ∷ m) = if same_mark (entered f k) h then Some m else None

-- what is asked behind a place of which nothing is asked
abbrev pub behind : List Mark → Option (List Mark)
behind (anything ∷ m) = Some m
behind _ = None

-- the next place must have the head h
abbrev pub asks : Mark → List Mark → Bool
asks h [] = false
asks h (g ∷ m) = same_mark g h

-- the rules that go on, with what they ask then
abbrev pub going : (List Mark → Option (List Mark)) → List Open → List Open
going f os = filter_map (λ o. option_map (λ m. record { rule = o.rule; rest = m }) (f o.rest)) os

-- where a state leads: to the states below places with these heads, and to the state behind a place with another
pub record Turn : Type 0 where
  pub edges : List (Mark × ℕ)
  pub other : Option ℕ

-- the state that the first edge with the head leads to
abbrev pub edge_of : Mark → List (Mark × ℕ) → Option ℕ
edge_of h [] = None
edge_of h (e ∷ es) = if same_mark e.0 h then Some e.1 else edge_of h es

-- what a list holds at a number, and else this
abbrev pub held_or : {X : Type 0} → X → Option X → X
held_or d None = d
held_or d (Some x) = x

-- the rules of a state: none where there is no state
abbrev pub rules_at : List (List Open) → Option ℕ → List Open
rules_at rules None = []
rules_at rules (Some q) = held_or [] (slice_get rules q)

-- a turn that leads nowhere
abbrev pub nowhere : Turn
nowhere = record { edges = []; other = None }

-- where a state leads: nowhere where there is no state
abbrev pub turn_at : List Turn → Option ℕ → Turn
turn_at turns None = nowhere
turn_at turns (Some q) = held_or nowhere (slice_get turns q)

-- the state has these rules, and there are none where there is no state
abbrev pub IsAt : List (List Open) → Option ℕ → List Open → Type 0
IsAt rules None os = os ≡ []
IsAt rules (Some q) os = slice_get rules q ≡ Some os

-- a state with these rules leads to those that have the rules that go on
pub record Leads (rules : List (List Open)) (os : List Open) (t : Turn) : Type 0 where
  pub asked : (h : Mark) → edge_of h t.edges ≡ None → list_any (λ o. asks h o.rest) os ≡ false
  pub down : (h : Mark) (q : ℕ) → edge_of h t.edges ≡ Some q → slice_get rules q ≡ Some (going (below h) os)
  pub over : IsAt rules t.other (going behind os)

-- each state with a turn does
abbrev pub AllLead : List (List Open) → List Turn → Type 0
AllLead rules turns = (q : ℕ) (t : Turn) (os : List Open) → slice_get turns q ≡ Some t → slice_get rules q ≡ Some os
    → Leads rules os t

-- the rules of the states, and where each leads
pub record IsNet (rules : List (List Open)) (turns : List Turn) : Type 0 where
  pub all : length turns ≡ length rules
  pub lead : AllLead rules turns

-- a node that was read, with how many were read below it
pub record Visit : Type 0 where
  pub tree : Tree
  pub inside : ℕ

-- the head of a tree
abbrev pub head_of : Tree → Mark
head_of (symbol n) = named n
head_of (app f ts) = entered f (length (tree_list ts))

-- below a place where there is an edge, and else over it
abbrev pub way : Option ℕ → Option ℕ → (Option ℕ → Option ℕ) → Option ℕ
way None other on = other
way (Some k) other on = on (Some k)

-- a node and what is read below it, which is nothing where there is no edge
abbrev pub visited : Tree → Option ℕ → (Option ℕ → List Visit) → List Visit
visited t None on = record { tree = t; inside = 0 } ∷ []
visited t (Some k) on = record { tree = t; inside = length (on (Some k)) } ∷ on (Some k)

module _ (turns : List Turn) where
  -- the state below a place with the head
  abbrev pub edge_at : Mark → Option ℕ → Option ℕ
  edge_at h q = edge_of h (turn_at turns q).edges

  abbrev mutual
    -- the state behind the tree
    pub run : Tree → Option ℕ → Option ℕ
    run (symbol n) q = way (edge_at (named n) q) (turn_at turns q).other (λ k. k)
    run (app f ts) q = way (edge_at (entered f (length (tree_list ts))) q) (turn_at turns q).other (λ k. runs ts k)

    pub runs : Trees → Option ℕ → Option ℕ
    runs no_trees q = q
    runs (more_trees t ts) q = runs ts (run t q)

  abbrev mutual
    -- the nodes that a run reads, in preorder
    pub trace : Tree → Option ℕ → List Visit
    trace (symbol n) q = record { tree = symbol n; inside = 0 } ∷ []
    trace (app f ts) q = visited (app f ts) (edge_at (entered f (length (tree_list ts))) q) (λ k. traces ts k)

    pub traces : Trees → Option ℕ → List Visit
    traces no_trees q = []
    traces (more_trees t ts) q = trace t q ++ traces ts (run t q)
