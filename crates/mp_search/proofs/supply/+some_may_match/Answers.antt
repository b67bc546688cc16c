use Rattle.std.proofs.Common.{◌≡◌, true, false, sym, ◌∙◌, arith}
use Rattle.mp_search.specs.Frames.{above}
use Rattle.mp_search.specs.Reading.{subst_of}
use Rattle.mp_search.proofs.LackLaws.{some-others}
use Rattle.mp_search.proofs.PartLaws.{stands-item, stands-others, first-others, first-pattern}
use Rattle.mp_search.proofs.supply.+some_may_match.Goals as goal

pub is_met-requires-clause-child : goal.is_met-requires-clause-child
is_met-requires-clause-child t c =
    stands-item c.args.query.now c.args.node c.args.children.now c.child-item.result c.in-len1-up-children.len_at_least
    c.child-item.is c.requires.children

pub end_of-end-requires-clause-child : goal.end_of-end-requires-clause-child
end_of-end-requires-clause-child t c =
    stands-item c.args.query.now c.args.node c.args.children.now c.child-item.result c.in-len1-up-children.len_at_least
    c.child-item.is c.requires.children

pub some_may_match-requires : goal.some_may_match-requires
some_may_match-requires t c =
    let others = stands-others c.args.query.now c.args.node c.args.children.now c.child-item.result
    c.in-len1-up-children.len_at_least c.child-item.is c.requires.children c.end_of-end.result c.end_of-end.ensures in (
      omega (arith, c.decreases, c.in-len1-up-children.len_at_least),
      (
        c.requires.query,
        (
          c.requires.trail,
          (
            others,
            c.requires.rank,
          ),
        ),
      ),
    )

pub returns-else-is_met : goal.returns-else-is_met
returns-else-is_met t c = λ h.
    let q = c.args.query.now in
    let ms = first-others c.args.marks.now false c.in-len1-up.len_at_least in
    let e = first-pattern c.args.children.now c.child-item.result c.in-len1-up-children.len_at_least c.child-item.is in
    c.some_may_match.ensures
    (some-others q.sig.now (subst_of q c.args.trail.now) (above c.args.under) _ _ _ _ _ _ _ ms e
    (λ m k. let wrong : false ≡ true = sym c.if-is_met.false ∙ c.is_met.ensures m k in cc) h)
