use Rattle.std.proofs.Common.{◌≡◌, ◌∷◌, [], ◌++◌, ◌∙◌, ap, arith, length, subst, sym}
use Rattle.std.proofs.lemmas.List.{length-append}
use Rattle.mp_print.specs.declared.rank_printer.Part.{Part}
use Rattle.mp_print.specs.KeptTexts.{AreKeptTexts}
use Rattle.mp_print.proofs.KeptTextLaws.{AreKeptTexts-pushed}
use Rattle.mp_print.proofs.rank_texts.RankTexts.build.Goals as goal

pub loop-rank-preserved : goal.loop-rank-preserved
loop-rank-preserved c =
    let sig = c.args.sig.now in
    let table = c.args.table.now in
    let before = c.loop-rank.invariant in
    let parts = c.loop-rank.parts.items in
    let old = c.loop-rank.text.bytes in
    let new = c.write_small.new.text.bytes in
    let written = c.in_ok-write_small.ensures in
    let part : Part = record { from = length old.items; to = length new.items } in
    let pushed : c.push.new.self.items ≡ parts ++ part ∷ [] =
    c.in_ok-push.ensures.items
    ∙ ap (λ n. parts ++ record { from = n; to = c.len-to.result } ∷ []) (c.len-from.ensures ∙ old.ok.0)
    ∙ ap (λ n. parts ++ record { from = length old.items; to = n } ∷ []) (c.len-to.ensures ∙ new.ok.0) in
    record {
      count = rw pushed (omega (arith, length-append parts (part ∷ []), before.count));
      kept = subst (AreKeptTexts sig table new.items) (sym pushed)
          (subst (λ l. AreKeptTexts sig table l (parts ++ record { from = length old.items; to = length l } ∷ []))
          (sym written.1)
          (AreKeptTexts-pushed sig table old.items written.0 parts c.loop-rank.rank before.count before.kept
          written.2));
    }
