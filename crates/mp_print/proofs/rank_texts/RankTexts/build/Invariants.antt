use Rattle.std.proofs.Common.{◌≡◌, length}
use Rattle.mp_print.specs.KeptTexts.{AreKeptTexts}
use Rattle.mp_print.proofs.rank_texts.RankTexts.build.Given as goal

-- the texts are those of the ranks so far
abbrev pub invariant-loop-rank : goal.invariant-loop-rank
invariant-loop-rank l = record {
  count : length l.parts.items ≡ l.rank;
  kept : AreKeptTexts l.sig l.table l.text.bytes.items l.parts.items;
}
