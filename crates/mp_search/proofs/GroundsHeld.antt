-- What a table that holds the constants of a pattern holds of its nodes.
use Rattle.std.proofs.Common.{[]}
use Rattle.std.specs.Prelude.{IsSome}
use Rattle.std.specs.List.{AllByRecursion}
use Rattle.mp_term.proofs.ListLaws.{all-append, all-split}
use Rattle.mp_pattern.specs.Constants.{pattern_constants, all_pattern_constants}
use Rattle.mp_pattern.specs.PatternTree.{dot, kind, plus, star, optional, counted, Pattern, symbol_pattern, app_pattern}
use Rattle.mp_pattern.specs.PatternTree.{wild_pattern, Patterns, no_patterns, more_patterns}
use Rattle.mp_pattern.specs.Subpatterns.{subpatterns, all_subpatterns}
use Rattle.mp_table.specs.Table.{Table, rank_of}
use Rattle.mp_search.specs.Grounds.{ground_of}
use Rattle.mp_search.specs.Query.{HoldsGround}

module _ (t : Table) where
  mutual
    pub grounds-held : (p : Pattern) → AllByRecursion (λ u. IsSome (rank_of t u)) (pattern_constants p)
        → AllByRecursion (λ q. HoldsGround t (ground_of q)) (subpatterns p)
    grounds-held (symbol_pattern n) h = (h.0, tt)
    grounds-held (app_pattern f ps) h = (tt, all_grounds-held ps h)
    grounds-held (wild_pattern dot x) h = (tt, tt)
    grounds-held (wild_pattern (kind k) x) h = (tt, tt)
    grounds-held (wild_pattern plus x) h = (tt, tt)
    grounds-held (wild_pattern star x) h = (tt, tt)
    grounds-held (wild_pattern (optional d) x) h = (h.0, tt)
    grounds-held (wild_pattern (counted n b) x) h = (tt, tt)

    all_grounds-held : (ps : Patterns) → AllByRecursion (λ u. IsSome (rank_of t u)) (all_pattern_constants ps)
        → AllByRecursion (λ q. HoldsGround t (ground_of q)) (all_subpatterns ps)
    all_grounds-held no_patterns h = tt
    all_grounds-held (more_patterns p ps) h =
        let r = all-split (λ u. IsSome (rank_of t u)) (pattern_constants p) (all_pattern_constants ps) h in
        all-append (λ q. HoldsGround t (ground_of q)) (subpatterns p) (all_subpatterns ps) (grounds-held p r.0)
        (all_grounds-held ps r.1)
