use Rattle.std.proofs.Common.{ap}
use Rattle.mp_pattern.specs.View.{pattern_tree, wildcard}
use Rattle.mp_search.specs.Reading.{subst_of}
use Rattle.mp_search.proofs.MatchLaws.{match-known}
use Rattle.mp_search.proofs.PartLaws.{stands-first}
use Rattle.mp_search.proofs.PlacesLaws.{if_some-map, symbol-known}
use Rattle.mp_search.proofs.candidates.known_rank.Goals as goal

pub ground_rank-requires-clause-child : goal.ground_rank-requires-clause-child
ground_rank-requires-clause-child c =
    stands-first c.args.query.now c.args.node (pattern_tree c.args.child.now) c.requires.child

pub returns-in-Sym-clause-only : goal.returns-in-Sym-clause-only
returns-in-Sym-clause-only c =
    let q = c.args.query.now in
    symbol-known q.table.now q.sig.now (subst_of q c.args.trail.now) (pattern_tree c.args.child.now) _
    c.ground_rank.result (ap pattern_tree c.in-Sym.is) c.ground_rank.ensures.term

pub returns-in-Wild : goal.returns-in-Wild
returns-in-Wild c =
    let q = c.args.query.now in
    record {
      within = c.value_rank.ensures.within;
      only = if_some-map c.value_rank.result
          (λ r h f t k. h f t (match-known q.sig.now (subst_of q c.args.trail.now) f (pattern_tree c.args.child.now)
          (wildcard c.in-Wild.field-0) c.in-Wild.field-1 t (ap pattern_tree c.in-Wild.is) k)) c.value_rank.ensures.only;
    }
