use Rattle.std.proofs.Common.{◌∙◌, ◌++◌, Ok, map, sym}
use Rattle.mp_pattern.specs.Lists.{IsAllList}
use Rattle.mp_subst.specs.View.{pair_of}
use Rattle.mp_text.specs.File.{subject_tree}
use Rattle.mp_theory.proofs.AllList.{IsAllList-unique}
use Rattle.mp_matches.specs.PairsListed.{front_lines, named}
use Rattle.mp_matches.specs.PrintedPairs.{PutsWithMemory}
use Rattle.mp_matches.proofs.PairsLaws.{subject-put}
use Rattle.mp_matches.proofs.PutLaws.{PutsFront-nothing}
use Rattle.mp_matches.proofs.SoFar.{of-err}
use Rattle.mp_command.proofs.net_matcher.NetMatcherMatcher.put.Goals as goal

pub returns-in_err-pairs-clause-puts : goal.returns-in_err-pairs-clause-puts
returns-in_err-pairs-clause-puts g c ls rest h =
    let whole = front_lines c.args.left.now (ls ++ rest) in
    of-err (PutsWithMemory g.O.Sink whole (front_lines c.args.left.now rest) c.args.out.now c.args.out.now)
    c.from_residual.result c.in_err-pairs.field-0.0 c.from_residual.ensures.1
    (PutsFront-nothing g.O.Sink c.args.out.now whole)

pub returns-clause-puts : goal.returns-clause-puts
returns-clause-puts g c =
    let nets = c.args.self.now.nets in
    let subject = subject_tree c.args.subject.now in
    let told = c.put_pairs in
    subject-put g.O.Sink c.args.sig.now (named c.args.names.now) (IsAllList nets.sig nets.rules) subject
    (map pair_of c.as_slice.result.now)
    (λ qs h. IsAllList-unique nets.sig nets.rules subject.term qs c.in_ok-pairs.pairs h c.in_ok-pairs.ensures
    ∙ sym c.as_slice.ensures) c.args.left.now told.new.left
    c.args.out.now told.new.out (Ok told.result) told.ensures.puts
