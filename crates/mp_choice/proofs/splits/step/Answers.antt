use Rattle.std.proofs.Common.{subst}
use Rattle.std.proofs.lemmas.Cmp.{nat_list_cmp_total}
use Rattle.mp_choice.specs.Listed.{StandsAt}
use Rattle.mp_choice.specs.Splits.{IsSplit}
use Rattle.mp_choice.specs.SplitList.{splits_of}
use Rattle.mp_choice.proofs.Lexicographic.{lex}
use Rattle.mp_choice.proofs.Listed.{after-first, after-next}
use Rattle.mp_choice.proofs.SplitListing.{splits_of-listing, next_split}
use Rattle.mp_choice.proofs.splits.step.Goals as goal

pub returns-in-Before : goal.returns-in-Before
returns-in-Before c = after-first lex nat_list_cmp_total (IsSplit c.args.total c.args.parts.now)
    (splits_of c.args.total c.args.parts.now) (splits_of-listing c.args.total c.args.parts.now)
    c.first.result c.args.stage c.args.lengths.now c.first.new.lengths c.in-Before.is c.first.ensures

pub returns-in-Standing : goal.returns-in-Standing
returns-in-Standing c = after-next lex nat_list_cmp_total (IsSplit c.args.total c.args.parts.now)
    (splits_of c.args.total c.args.parts.now) (splits_of-listing c.args.total c.args.parts.now)
    c.following.result c.args.stage c.args.lengths.now c.following.new.lengths c.in-Standing.is
    (next_split c.following.result c.args.total c.args.parts.now c.args.lengths.now c.following.new.lengths
    (subst (λ s. StandsAt (IsSplit c.args.total c.args.parts.now) s c.args.lengths.now) c.in-Standing.is
    c.requires.stands) c.following.ensures)
