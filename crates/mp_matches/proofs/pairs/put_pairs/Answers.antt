use Rattle.std.proofs.Common.{◌∙◌, ◌++◌, ◌+◌, [], arith, length, refl, drop, map, subst}
use Rattle.std.proofs.lemmas.Option.{slice_get_read}
use Rattle.mp_text.specs.File.{subject_tree}
use Rattle.mp_matches.specs.PairsListed.{front_lines, named, pair_line}
use Rattle.mp_matches.specs.PrintedPairs.{PutsUpTo}
use Rattle.mp_matches.specs.declared.told.Told.TheVariants as told
use Rattle.mp_matches.proofs.PairsLaws.{front-ended, front-next, length-pair_line, up_to-line, up_to-more}
use Rattle.mp_matches.proofs.pairs.put_pairs.Goals as goal
use Rattle.mp_term.proofs.ListLaws.{all-get}
use Rattle.mp_io.proofs.WritingLaws.{Puts-nothing}

pub put_pair-requires : goal.put_pair-requires
put_pair-requires g c =
    let pairs = c.args.pairs.now in
    let i = c.loop-pair.pair-index in
    all-get (g.L.Line.may_put c.args.sig.now c.args.base.now) pairs i c.pair-item.result c.requires
    (slice_get_read pairs (length pairs) i c.pair-item.result refl (omega arith) c.pair-item.is)

pub returns-then-not-take_line-clause-puts : goal.returns-then-not-take_line-clause-puts
returns-then-not-take_line-clause-puts g c rest =
    let line = pair_line c.args.sig.now (named c.args.names.now) (subject_tree c.args.subject.now) in
    let pairs = c.args.pairs.now in
    let i = c.loop-pair.pair-index in
    up_to-more g.O.Sink (front_lines c.args.left.now (map line (map g.L.Line.pair pairs) ++ rest))
    (front_lines c.loop-pair.left (map line (map g.L.Line.pair (drop i pairs)) ++ rest)) c.args.out.now
    c.loop-pair.out c.put.new.self c.loop-pair.any (c.loop-pair.invariant.put rest)
    (front-next g.L.Line.pair line c.loop-pair.left pairs i c.pair-item.result rest (omega arith) c.pair-item.is
    ∙ c.if-not-take_line.ensures.none refl (line (g.L.Line.pair c.pair-item.result))
    (map line (map g.L.Line.pair (drop (i + 1) pairs)) ++ rest)) c.put.ensures

pub loop-pair-init : goal.loop-pair-init
loop-pair-init g c =
    record { same = refl; put = λ rest. ([], refl, Puts-nothing g.O.Sink c.args.out.now, refl) }

pub loop-pair-preserved : goal.loop-pair-preserved
loop-pair-preserved g c = record {
  same = c.put_pair.ensures.same ∙ c.loop-pair.invariant.same;
  put = λ rest.
      let line = pair_line c.args.sig.now (named c.args.names.now) (subject_tree c.args.subject.now) in
      let pairs = c.args.pairs.now in
      let i = c.loop-pair.pair-index in
      let behind = map line (map g.L.Line.pair (drop (i + 1) pairs)) ++ rest in
      up_to-line g.O.Sink (front_lines c.args.left.now (map line (map g.L.Line.pair pairs) ++ rest))
      (front_lines c.loop-pair.left (map line (map g.L.Line.pair (drop i pairs)) ++ rest)) c.args.out.now
      c.loop-pair.out c.put_pair.new.out c.loop-pair.any (c.loop-pair.invariant.put rest)
      (line (g.L.Line.pair c.pair-item.result)) (front_lines c.take_line.new.left behind)
      (front-next g.L.Line.pair line c.loop-pair.left pairs i c.pair-item.result rest (omega arith) c.pair-item.is
      ∙ c.if-not-take_line.ensures.taken refl (line (g.L.Line.pair c.pair-item.result)) behind) c.put_pair.ensures
      (length-pair_line c.args.sig.now (named c.args.names.now) (subject_tree c.args.subject.now)
      (g.L.Line.pair c.pair-item.result));
}

pub returns-clause-puts : goal.returns-clause-puts
returns-clause-puts g c rest =
    let line = pair_line c.args.sig.now (named c.args.names.now) (subject_tree c.args.subject.now) in
    let pairs = c.args.pairs.now in
    let i = c.loop-pair.pair-index in
    subst (λ behind. PutsUpTo g.O.Sink (front_lines c.args.left.now (map line (map g.L.Line.pair pairs) ++ rest))
    behind c.args.out.now c.loop-pair.out (told.All c.loop-pair.any))
    (front-ended g.L.Line.pair line c.loop-pair.left pairs i rest (omega arith)) (c.loop-pair.invariant.put rest)
