use Rattle.std.proofs.Common.{◌≡◌, ◌∙◌, ◌++◌, map, sym}
use Rattle.mp_term.proofs.ListLaws.{all-also}
use Rattle.mp_text.specs.File.{subject_tree}
use Rattle.mp_walk.specs.Ranked.{pairs_of}
use Rattle.mp_matches.specs.PairsListed.{front_lines, named, pair_line}
use Rattle.mp_matches.specs.PrintedPairs.{PutsWithMemory}
use Rattle.mp_matches.proofs.PutLaws.{PutsFront-nothing}
use Rattle.mp_matches.proofs.SoFar.{of-err}
use Rattle.mp_matches.proofs.pairs.put_ranked_pairs.Goals as goal

pub put_pairs-requires : goal.put_pairs-requires
put_pairs-requires g c =
    let sig = c.args.sig.now in
    let texts = c.in_ok-texts.texts in
    let told = c.in_ok-texts.ensures in
    all-also (λ p. p.table ≡ c.args.table.now) (λ p. (texts.sig ≡ sig) × (p.table ≡ texts.table))
    (λ p e. (told.sig, e ∙ sym told.table)) c.args.pairs.now c.requires

pub returns-in_err-texts-clause-puts : goal.returns-in_err-texts-clause-puts
returns-in_err-texts-clause-puts g c rest =
    let line = pair_line c.args.sig.now (named c.args.names.now) (subject_tree c.args.subject.now) in
    let whole = front_lines c.args.left.now (map line (pairs_of c.args.pairs.now) ++ rest) in
    of-err (PutsWithMemory g.O.Sink whole (front_lines c.args.left.now rest) c.args.out.now c.args.out.now)
    c.from_residual.result c.in_err-texts.field-0.0 c.from_residual.ensures.1
    (PutsFront-nothing g.O.Sink c.args.out.now whole)
