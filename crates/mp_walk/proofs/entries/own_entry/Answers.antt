use Rattle.std.proofs.Common.{◌∙◌, refl, sym, subst}
use Rattle.mp_table.specs.Table.{HasRanks, HasRank}
use Rattle.mp_walk.specs.OpenOnes.{open_of}
use Rattle.mp_walk.proofs.EntryLaws.{own-front, read-front}
use Rattle.mp_walk.proofs.entries.own_entry.Goals as goal
use Rattle.mp_subst.proofs.TrailLaws.{all-take}

pub returns-in_default : goal.returns-in_default
returns-in_default c =
    let t = c.args.table.now in
    let f = open_of t c.args.frame.now in (
      subst (HasRanks t) (sym c.front-in_default.ensures)
          (all-take (HasRank t) c.args.way c.args.frame.now.left.now c.requires),
      own-front c.args.token.now f c.args.way c.in_default.not-Sym c.in_default.not-Enter c.in_default.not-Leave
          c.in_default.not-Comm
          ∙ read-front t c.args.way c.args.frame.now.left.now f.left c.front-in_default.result.now
          refl c.front-in_default.ensures,
    )
