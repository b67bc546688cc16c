use Rattle.std.proofs.Common.{◌≡◌}
use Rattle.std.proofs.Common.{drop, ◌∙◌}
use Rattle.mp_pattern.specs.NetTokenView.{net_token}
use Rattle.mp_walk.specs.Course.{rest_by}
use Rattle.mp_walk.specs.OpenOnes.{open_of}
use Rattle.mp_walk.proofs.OpeningLaws.{rest-one, rest-optional, rest-plain}
use Rattle.mp_walk.proofs.opening.rest.Goals as goal
use Rattle.mp_walk.proofs.opening.rest.Goals.{in_default-via-in-Opt+else-way-eq0, in_default-via-in_default}

pub returns-in_default-clause-open : goal.returns-in_default-clause-open
returns-in_default-clause-open c = c.behind.ensures.open ∙ by_branch
  where
    by_branch : record (open_of c.args.table.now c.args.frame) {
      left =
          drop c.args.way (open_of c.args.table.now c.args.frame).left;
    }
        ≡ rest_by (net_token c.args.token.now) (open_of c.args.table.now c.args.frame) c.args.way
    by_branch = elim c.in_default.branch [
      | in_default-via-in-Opt+else-way-eq0 w ↦ rest-optional c.args.token.now _ _
          (open_of c.args.table.now c.args.frame) c.args.way w.in-Opt.is c.requires.valid w.if-way-eq0.false
      | in_default-via-in_default w ↦ rest-plain c.args.token.now
          (open_of c.args.table.now
          c.args.frame) c.args.way w.in_default.not-Leave w.in_default.not-Sym w.in_default.not-Enter
          w.in_default.not-Comm w.in_default.not-Opt
    ]

pub returns-in-Sym-clause-open : goal.returns-in-Sym-clause-open
returns-in-Sym-clause-open c = c.behind-in-Sym.ensures.open
    ∙ rest-one c.args.token.now (open_of c.args.table.now c.args.frame) c.args.way c.in-Sym.is c.requires.valid
