use Rattle.std.proofs.Common.{rules}
use Rattle.mp_pattern.proofs.NetTokenLists.{all_renamed-patterns}
use Rattle.mp_pattern.proofs.numbering.+renamed.Goals as goal

pub renamed-returns-in_ok-all_renamed-in-App : goal.renamed-returns-in_ok-all_renamed-in-App
renamed-returns-in_ok-all_renamed-in-App t c = search (rules, all_renamed-patterns)
