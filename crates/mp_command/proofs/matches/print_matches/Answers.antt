use Rattle.std.proofs.Common.{◌≡◌, ◌∙◌, ap, subst, sym}
use Rattle.mp_pattern.specs.Lists.{IsAllList}
use Rattle.mp_term.proofs.SearchLaws.{all-from_in}
use Rattle.mp_text.specs.File.{file_tree}
use Rattle.mp_matches.specs.AllListed.{names_of}
use Rattle.mp_matches.specs.PairsListed.{IsPairsListed, named}
use Rattle.mp_matches.proofs.PairsListedLaws.{IsPairsListed-under}
use Rattle.mp_command.proofs.Matched.{all_listed, all_text}
use Rattle.mp_command.proofs.matches.print_matches.Goals as goal

pub returns-in-Ok : goal.returns-in-Ok
returns-in-Ok g c =
    let file = file_tree c.args.file.now in
    let limit = c.args.limit in
    let finds = g.M.Matcher.finds c.args.matcher.now in
    let text = all_text file c.requires.file limit in
    let names : named c.deref.result.now ≡ names_of file.rules =
    ap named c.deref.ensures.value ∙ c.in-Ok.ensures ∙ ap names_of c.as_slice.ensures in
    let listed : IsPairsListed file (named c.deref.result.now) finds limit text =
    subst (λ ns. IsPairsListed file ns finds limit text) (sym names)
    (IsPairsListed-under file (names_of file.rules) (IsAllList file.sig file.rules) finds
    (all-from_in _ file.subjects (λ s i ps. c.requires.finds s.term ps)) limit text
    (all_listed file c.requires.file limit)) in
    c.ending.ensures _ _ (c.list_pairs.ensures text listed)
