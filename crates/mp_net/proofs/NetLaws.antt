-- A run through a net takes every rule as far as it goes alone, and a rule alone goes through where its pattern has
-- the shape.
use Rattle.std.proofs.Common.{◌≡◌, ℕ, suc, List, [], ◌∷◌, ◌++◌, Bool, true, false, ◌&&◌, refl, ap}
use Rattle.std.proofs.Common.{sym, ◌∙◌, length, append_assoc, get_or, eq-eqb, eqb-true, arith}
use Rattle.std.specs.Prelude.{Option, Some, None, if◌then◌else◌, nat_eq, slice_get, option_map, option_and_then}
use Rattle.std.specs.List.{list_any, cons_option}
use Rattle.std.proofs.lemmas.Bool.{or_parts, and_parts}
use Rattle.std.proofs.lemmas.Option.{slice_get_within, slice_get-get_or}
use Rattle.mp_term.specs.Tree.{Tree, symbol, app, Trees, no_trees, more_trees, tree_list}
use Rattle.mp_pattern.specs.PatternTree.{Pattern, symbol_pattern, app_pattern, wild_pattern, Patterns, no_patterns}
use Rattle.mp_pattern.specs.PatternTree.{more_patterns, pattern_list}
use Rattle.mp_theory.specs.Shape.{shape, shapes}
use Rattle.mp_net.specs.Net.{Mark, named, entered, anything, same_mark, marks, all_marks, anythings, Open}
use Rattle.mp_net.specs.Net.{below, behind, asks, going, Turn, edge_of, held_or, rules_at, nowhere, turn_at, IsAt}
use Rattle.mp_net.specs.Net.{Leads, IsNet, head_of, way, edge_at, run, runs}
use Rattle.mp_net.specs.Eaten.{eaten, all_eaten}

-- the rule with what it asks then
abbrev onto : ℕ → Option (List Mark) → Option Open
onto r o = option_map (λ m. record { rule = r; rest = m }) o

-- rules go on alike by what is alike for each
going-same : (f g : List Mark → Option (List Mark)) → ((m : List Mark) → f m ≡ g m) → (os : List Open)
    → going f os ≡ going g os
going-same f g h [] = refl
going-same f g h (o ∷ os) = ap (λ r. cons_option (onto o.rule r) (going f os)) (h o.rest)
    ∙ ap (cons_option (onto o.rule (g o.rest))) (going-same f g h os)

-- and where none asks for the head, by what is alike for those that don't
going-unasked : (h : Mark) (f g : List Mark → Option (List Mark)) → ((m : List Mark) → asks h m ≡ false → f m ≡ g m)
    → (os : List Open) → list_any (λ o. asks h o.rest) os ≡ false → going f os ≡ going g os
going-unasked h f g k [] e = refl
going-unasked h f g k (o ∷ os) e =
    let c = or_parts (asks h o.rest) (list_any (λ o. asks h o.rest) os) e in
    ap (λ r. cons_option (onto o.rule r) (going f os)) (k o.rest c.0)
    ∙ ap (cons_option (onto o.rule (g o.rest))) (going-unasked h f g k os c.1)

-- one step after the other
pub going-going : (f g : List Mark → Option (List Mark)) (os : List Open)
    → going g (going f os) ≡ going (λ m. option_and_then g (f m)) os
going-going f g [] = refl
going-going f g (o ∷ os) = by_result (f o.rest) (going-going f g os)
  where
    by_result : (r : Option (List Mark)) → going g (going f os) ≡ going (λ m. option_and_then g (f m)) os
        → going g (cons_option (onto o.rule r) (going f os)) ≡ cons_option (onto o.rule (option_and_then g r))
        (going (λ m. option_and_then g (f m)) os)
    by_result None i = i
    by_result (Some m) i = ap (cons_option (onto o.rule (g m))) i

-- all go on as they are
going-all : (os : List Open) → going Some os ≡ os
going-all [] = refl
going-all (o ∷ os) = ap (λ us. o ∷ us) (going-all os)

-- a tree of which nothing is asked
anything-eaten : (t : Tree) (m : List Mark) → eaten t (anything ∷ m) ≡ Some m
anything-eaten (symbol n) m = refl
anything-eaten (app f ts) m = refl

anythings-eaten : (ts : Trees) (m : List Mark) → all_eaten ts (anythings (length (tree_list ts)) ++ m) ≡ Some m
anythings-eaten no_trees m = refl
anythings-eaten (more_trees t ts) m =
    rw (anything-eaten t (anythings (length (tree_list ts)) ++ m)) (anythings-eaten ts m)

-- a choice that goes on
then_on : (b : Bool) (f : List Mark → Option (List Mark)) (m : List Mark)
    → option_and_then f (if b then Some m else None) ≡ if b then f m else None
then_on true f m = refl
then_on false f m = refl

-- below a head and then through the arguments is through the tree
below-symbol : (n : List ℕ) (m : List Mark) → below (named n) m ≡ eaten (symbol n) m
below-symbol n [] = refl
below-symbol n (named k ∷ m) = refl
below-symbol n (entered g k ∷ m) = refl
below-symbol n (anything ∷ m) = refl

below-app : (f : ℕ) (ts : Trees) (m : List Mark)
    → option_and_then (all_eaten ts) (below (entered f (length (tree_list ts))) m) ≡ eaten (app f ts) m
below-app f ts [] = refl
below-app f ts (named k ∷ m) = refl
below-app f ts (entered g k ∷ m) = then_on (same_mark (entered g k) (entered f (length (tree_list ts))))
    (all_eaten ts) m
below-app f ts (anything ∷ m) = anythings-eaten ts m

-- where the head isn't asked for, the tree is passed as a whole
behind-eaten : (t : Tree) (m : List Mark) → asks (head_of t) m ≡ false → behind m ≡ eaten t m
behind-eaten (symbol n) [] e = refl
behind-eaten (symbol n) (named k ∷ m) e = rw e refl
behind-eaten (symbol n) (entered g k ∷ m) e = refl
behind-eaten (symbol n) (anything ∷ m) e = refl
behind-eaten (app f ts) [] e = refl
behind-eaten (app f ts) (named k ∷ m) e = refl
behind-eaten (app f ts) (entered g k ∷ m) e = rw e refl
behind-eaten (app f ts) (anything ∷ m) e = refl

-- the rules of a state by number
pub at-rules : (rules : List (List Open)) (q : Option ℕ) (os : List Open) → IsAt rules q os → rules_at rules q ≡ os
at-rules rules None os e = sym e
at-rules rules (Some q) os e = ap (held_or []) e

-- a state without rules leads nowhere
nowhere-leads : (rules : List (List Open)) → Leads rules [] nowhere
nowhere-leads rules = record { asked = λ h e. refl; down = λ h q e. cc; over = refl }

module _ (rules : List (List Open)) (turns : List Turn) (net : IsNet rules turns) where
  pub leads-at : (q : Option ℕ) → Leads rules (rules_at rules q) (turn_at turns q)
  leads-at None = nowhere-leads rules
  leads-at (Some q) = both (slice_get rules q) (slice_get turns q) refl refl
    where
      both : (o : Option (List Open)) (u : Option Turn) → slice_get rules q ≡ o → slice_get turns q ≡ u
          → Leads rules (held_or [] o) (held_or nowhere u)
      both None None e h = nowhere-leads rules
      both (Some os) (Some t) e h = net.lead q t os h e
      both None (Some t) e h = let w = slice_get_within turns q t h in
          let v : slice_get rules q ≡ Some (get_or rules q []) =
          slice_get-get_or rules q [] (omega (arith, w, net.all)) in cc
      both (Some os) None e h = let w = slice_get_within rules q os e in
          let v : slice_get turns q ≡ Some (get_or turns q nowhere) =
          slice_get-get_or turns q nowhere (omega (arith, w, net.all)) in cc

  mutual
    -- behind a tree are the rules that go through it, with what they ask then
    pub run-rules : (t : Tree) (q : Option ℕ) → rules_at rules (run turns t q) ≡ going (eaten t) (rules_at rules q)
    run-rules (symbol n) q = at_edge (rules_at rules q) (turn_at turns q) (leads-at q) (edge_at turns (named n) q) refl
      where
        at_edge : (os : List Open) (t : Turn) → Leads rules os t → (e : Option ℕ) → edge_of (named n) t.edges ≡ e
            → rules_at rules (way e t.other (λ k. k)) ≡ going (eaten (symbol n)) os
        at_edge os t l None e = at-rules rules t.other (going behind os) l.over
            ∙ going-unasked (named n) behind (eaten (symbol n)) (behind-eaten (symbol n)) os (l.asked (named n) e)
        at_edge os t l (Some k) e = ap (held_or []) (l.down (named n) k e)
            ∙ going-same (below (named n)) (eaten (symbol n)) (below-symbol n) os
    run-rules (app f ts) q = at_edge (runs-rules ts) (rules_at rules q) (turn_at turns q) (leads-at q)
        (edge_at turns (entered f (length (tree_list ts))) q) refl
      where
        at_edge : ((k : Option ℕ) → rules_at rules (runs turns ts k) ≡ going (all_eaten ts) (rules_at rules k))
            → (os : List Open) (t : Turn) → Leads rules os t → (e : Option ℕ)
            → edge_of (entered f (length (tree_list ts))) t.edges ≡ e
            → rules_at rules (way e t.other (λ k. runs turns ts k)) ≡ going (eaten (app f ts)) os
        at_edge i os t l None e = at-rules rules t.other (going behind os) l.over
            ∙ going-unasked (entered f (length (tree_list ts))) behind (eaten (app f ts)) (behind-eaten (app f ts)) os
            (l.asked (entered f (length (tree_list ts))) e)
        at_edge i os t l (Some k) e =
            i (Some k) ∙ ap (λ o. going (all_eaten ts) (held_or [] o)) (l.down (entered f (length (tree_list ts))) k e)
            ∙ going-going (below (entered f (length (tree_list ts)))) (all_eaten ts) os
            ∙ going-same (λ m. option_and_then (all_eaten ts) (below (entered f (length (tree_list ts))) m))
            (eaten (app f ts)) (below-app f ts) os

    pub runs-rules : (ts : Trees) (q : Option ℕ)
        → rules_at rules (runs turns ts q) ≡ going (all_eaten ts) (rules_at rules q)
    runs-rules no_trees q = sym (going-all (rules_at rules q))
    runs-rules (more_trees t ts) q =
        runs-rules ts (run turns t q) ∙ ap (going (all_eaten ts)) (run-rules t q)
        ∙ going-going (eaten t) (all_eaten ts) (rules_at rules q)

pub nat_eq-itself : (a b : ℕ) → a ≡ b → nat_eq a b ≡ true
nat_eq-itself a b e = eq-eqb a b e

fewer : (a b : ℕ) → suc a ≡ suc b → a ≡ b
fewer a b e = omega arith

pub shapes-length : (ps : Patterns) (ts : Trees) → shapes ps ts ≡ true
    → length (pattern_list ps) ≡ length (tree_list ts)
shapes-length no_patterns no_trees h = refl
shapes-length no_patterns (more_trees t ts) h = cc
shapes-length (more_patterns p ps) no_trees h = cc
shapes-length (more_patterns p ps) (more_trees t ts) h =
    ap (λ n. suc n) (shapes-length ps ts (and_parts (shape p t) (shapes ps ts) h).1)

mutual
  -- the marks of a pattern go through exactly where the tree has its shape
  pub marks-eaten : (p : Pattern) (t : Tree) (m : List Mark)
      → eaten t (marks p ++ m) ≡ if shape p t then Some m else None
  marks-eaten (symbol_pattern k) (symbol n) m = refl
  marks-eaten (symbol_pattern k) (app f ts) m = refl
  marks-eaten (wild_pattern w x) t m = anything-eaten t m
  marks-eaten (app_pattern g ps) (symbol n) m = refl
  marks-eaten (app_pattern g ps) (app f ts) m = by_head (all_marks-eaten ps ts m) (nat_eq g f)
    where
      by_count : (nat_eq (length (pattern_list ps)) (length (tree_list ts)) ≡ true
          → all_eaten ts (all_marks ps ++ m) ≡ if shapes ps ts then Some m else None) → (b : Bool)
          → nat_eq (length (pattern_list ps)) (length (tree_list ts)) ≡ b
          → (if b then all_eaten ts (all_marks ps ++ m) else None) ≡ (if shapes ps ts then Some m else None)
      by_count i true e = i e
      by_count i false e = no_shape (shapes ps ts) refl
        where
          no_shape : (b : Bool) → shapes ps ts ≡ b → None ≡ (if b then Some m else None)
          no_shape true h = let q : true ≡ false = sym (nat_eq-itself _ _ (shapes-length ps ts h)) ∙ e in cc
          no_shape false h = refl

      by_head : (nat_eq (length (pattern_list ps)) (length (tree_list ts)) ≡ true
          → all_eaten ts (all_marks ps ++ m) ≡ if shapes ps ts then Some m else None) → (b : Bool)
          → (if b && nat_eq (length (pattern_list ps)) (length (tree_list ts)) then all_eaten ts
          (all_marks ps ++ m) else None) ≡ (if b && shapes ps ts then Some m else None)
      by_head i true = by_count i (nat_eq (length (pattern_list ps)) (length (tree_list ts))) refl
      by_head i false = refl

  all_marks-eaten : (ps : Patterns) (ts : Trees) (m : List Mark)
      → nat_eq (length (pattern_list ps)) (length (tree_list ts)) ≡ true
      → all_eaten ts (all_marks ps ++ m) ≡ if shapes ps ts then Some m else None
  all_marks-eaten no_patterns no_trees m e = refl
  all_marks-eaten no_patterns (more_trees t ts) m e = let q : 0 ≡ length (tree_list (more_trees t ts)) =
      eqb-true _ _ e in absurd (omega arith)
  all_marks-eaten (more_patterns p ps) no_trees m e = let q : length (pattern_list (more_patterns p ps)) ≡ 0 =
      eqb-true _ _ e in absurd (omega arith)
  all_marks-eaten (more_patterns p ps) (more_trees t ts) m e =
      ap (all_eaten (more_trees t ts)) (append_assoc (marks p) (all_marks ps) m)
      ∙ ap (option_and_then (all_eaten ts)) (marks-eaten p t (all_marks ps ++ m))
      ∙ by_first (all_marks-eaten ps ts m
      (nat_eq-itself _ _ (fewer (length (pattern_list ps)) (length (tree_list ts))
      (eqb-true (length (pattern_list (more_patterns p ps))) (length (tree_list (more_trees t ts))) e))))
      (shape p t)
    where
      by_first : all_eaten ts (all_marks ps ++ m) ≡ (if shapes ps ts then Some m else None) → (b : Bool)
          → option_and_then (all_eaten ts) (if b then Some (all_marks ps ++ m) else None) ≡
          (if b && shapes ps ts then Some m else None)
      by_first i true = i
      by_first i false = refl
