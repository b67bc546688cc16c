-- The pattern order is a total order, and a pattern is equal in it to itself alone.
use Rattle.std.proofs.Common.{◌≡◌, ℕ, suc, Bool, true, false, List, [], ◌∷◌, length, refl, ap, sym, ◌∙◌}
use Rattle.std.specs.Prelude.{Option, Some, None, if◌then◌else◌}
use Rattle.std.specs.declared.cmp.Ordering.{Ordering}
use Rattle.std.specs.declared.cmp.Ordering.TheVariants.{Less, Equal, Greater}
use Rattle.std.specs.Ordering.{ordering_then, nat_cmp, bool_cmp}
use Rattle.std.specs.Cmp.{IsTotalOrder}
use Rattle.std.specs.Cmp.Lexicographic.{slice_cmp}
use Rattle.mp_term.specs.Tree.{tree_list}
use Rattle.mp_term.specs.Order.{tree_cmp, trees_cmp, shortlex}
use Rattle.mp_term.specs.OrderLaws.{ordering_then-equal, keyed_total, tree_cmp_total, tree_same}
use Rattle.mp_pattern.specs.PatternTree.{Wildcard, dot, kind, plus, star, optional, counted, Pattern, symbol_pattern}
use Rattle.mp_pattern.specs.PatternTree.{app_pattern, wild_pattern, Patterns, no_patterns, more_patterns, pattern_list}
use Rattle.mp_pattern.specs.PatternTree.{patterns}
use Rattle.mp_pattern.specs.PatternLists.{pattern_list-patterns}
use Rattle.mp_pattern.specs.Order.{all_ground, class, wildcard_class, name_cmp, pattern_cmp, patterns_cmp}
use Rattle.mp_pattern.specs.Code.{name_tree, part_tree, as_tree, as_trees, to_pattern, to_pattern-as_tree}

-- an application comes before a wildcard, and a wildcard after an application
before_wildcard : (ground : Bool) (w : Wildcard) (o : Ordering)
    → Less ≡ ordering_then (nat_cmp (if ground then 0 else 1) (wildcard_class w)) o
before_wildcard true dot o = refl
before_wildcard false dot o = refl
before_wildcard b w o = refl

after_application : (ground : Bool) (w : Wildcard) (o : Ordering)
    → Greater ≡ ordering_then (nat_cmp (wildcard_class w) (if ground then 0 else 1)) o
after_application true dot o = refl
after_application false dot o = refl
after_application b w o = refl

name_by_tree : (x y : Option (List ℕ)) → name_cmp x y ≡ tree_cmp (name_tree x) (name_tree y)
name_by_tree (Some x) (Some y) = refl
name_by_tree None None = refl
name_by_tree x y = refl

count_by_tree : (m : ℕ) (b : Bool) (n : ℕ) (c : Bool)
    → tree_cmp (part_tree (counted m b)) (part_tree (counted n c)) ≡ ordering_then (nat_cmp m n) (bool_cmp c b)
count_by_tree m true n true = refl
count_by_tree m true n false = refl
count_by_tree m false n true = refl
count_by_tree m false n false = refl

wild_by_tree : (v : Wildcard) (x : Option (List ℕ)) (w : Wildcard) (y : Option (List ℕ))
    → pattern_cmp (wild_pattern v x) (wild_pattern w y)
    ≡ tree_cmp (as_tree (wild_pattern v x)) (as_tree (wild_pattern w y))
wild_by_tree (kind k) x (kind l) y =
    rw (name_by_tree x y, ordering_then-equal (nat_cmp k l), ordering_then-equal (nat_cmp k l)) refl
wild_by_tree (optional t) x (optional u) y = rw (name_by_tree x y, ordering_then-equal (tree_cmp t u)) refl
wild_by_tree (counted m b) x (counted n c) y =
    rw (name_by_tree x y, count_by_tree m b n c, ordering_then-equal (ordering_then (nat_cmp m n) (bool_cmp c b))) refl
wild_by_tree dot x dot y = rw (name_by_tree x y) refl
wild_by_tree plus x plus y = rw (name_by_tree x y) refl
wild_by_tree star x star y = rw (name_by_tree x y) refl
wild_by_tree v x w y = refl

length-as_trees : (ps : Patterns) → length (tree_list (as_trees ps)) ≡ length (pattern_list ps)
length-as_trees no_patterns = refl
length-as_trees (more_patterns p ps) = ap suc (length-as_trees ps)

mutual
  -- patterns compare as their terms do
  by_tree : (p q : Pattern) → pattern_cmp p q ≡ tree_cmp (as_tree p) (as_tree q)
  by_tree (symbol_pattern m) (symbol_pattern n) = refl
  by_tree (symbol_pattern m) (app_pattern g qs) = refl
  by_tree (symbol_pattern m) (wild_pattern w y) = refl
  by_tree (app_pattern f ps) (symbol_pattern n) = refl
  by_tree (app_pattern f ps) (app_pattern g qs) =
      let longer = nat_cmp (length (pattern_list ps)) (length (pattern_list qs)) in
      rw (
        length-as_trees ps,
        length-as_trees qs,
        all_by_tree ps qs,
        ordering_then-equal
            (ordering_then (nat_cmp f g) (ordering_then longer (trees_cmp (as_trees ps) (as_trees qs)))),
      ) refl
  by_tree (app_pattern f ps) (wild_pattern w y) = before_wildcard (all_ground ps) w _
  by_tree (wild_pattern v x) (symbol_pattern n) = refl
  by_tree (wild_pattern v x) (app_pattern g qs) = after_application (all_ground qs) v _
  by_tree (wild_pattern v x) (wild_pattern w y) = wild_by_tree v x w y

  all_by_tree : (ps qs : Patterns) → patterns_cmp ps qs ≡ trees_cmp (as_trees ps) (as_trees qs)
  all_by_tree no_patterns no_patterns = refl
  all_by_tree no_patterns (more_patterns q qs) = refl
  all_by_tree (more_patterns p ps) no_patterns = refl
  all_by_tree (more_patterns p ps) (more_patterns q qs) = λ i. ordering_then (by_tree p q i) (all_by_tree ps qs i)

-- the pattern order is total
pub pattern_cmp_total : IsTotalOrder pattern_cmp
pattern_cmp_total = keyed_total as_tree pattern_cmp tree_cmp_total by_tree

pub pattern_same : (p q : Pattern) → pattern_cmp p q ≡ Equal → p ≡ q
pattern_same p q e =
    let same = tree_same (as_tree p) (as_tree q) (sym (by_tree p q) ∙ e) in
    sym (to_pattern-as_tree p) ∙ ap to_pattern same ∙ to_pattern-as_tree q

-- pattern by pattern is `slice_cmp`
pub patterns_cmp-patterns : (ps qs : List Pattern)
    → patterns_cmp (patterns ps) (patterns qs) ≡ slice_cmp pattern_cmp ps qs
patterns_cmp-patterns [] [] = refl
patterns_cmp-patterns [] (q ∷ qs) = refl
patterns_cmp-patterns (p ∷ ps) [] = refl
patterns_cmp-patterns (p ∷ ps) (q ∷ qs) = ap (ordering_then (pattern_cmp p q)) (patterns_cmp-patterns ps qs)

-- two applications, with their arguments as lists
pub app_pattern_cmp : (f g : ℕ) (ps qs : List Pattern)
    → pattern_cmp (app_pattern f (patterns ps)) (app_pattern g (patterns qs))
    ≡ ordering_then (nat_cmp (class (app_pattern f (patterns ps))) (class (app_pattern g (patterns qs))))
    (ordering_then (nat_cmp f g) (shortlex pattern_cmp ps qs))
app_pattern_cmp f g ps qs = rw (pattern_list-patterns ps, pattern_list-patterns qs, patterns_cmp-patterns ps qs) refl

after_equal : (a b c : Ordering) → ordering_then a b ≡ Equal → ordering_then a (ordering_then b c) ≡ c
after_equal Less b c e = cc
after_equal Equal Less c e = cc
after_equal Equal Equal c e = refl
after_equal Equal Greater c e = cc
after_equal Greater b c e = cc

-- of one class and one operation
pub app_pattern_cmp-same_head : (f g : ℕ) (ps qs : List Pattern)
    → ordering_then (nat_cmp (class (app_pattern f (patterns ps))) (class (app_pattern g (patterns qs)))) (nat_cmp f g)
    ≡ Equal → pattern_cmp (app_pattern f (patterns ps)) (app_pattern g (patterns qs)) ≡ shortlex pattern_cmp ps qs
app_pattern_cmp-same_head f g ps qs e = app_pattern_cmp f g ps qs
    ∙ after_equal (nat_cmp (class (app_pattern f (patterns ps))) (class (app_pattern g (patterns qs)))) (nat_cmp f g)
    (shortlex pattern_cmp ps qs) e
