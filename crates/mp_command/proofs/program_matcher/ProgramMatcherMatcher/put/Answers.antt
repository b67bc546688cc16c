use Rattle.std.proofs.Common.{◌++◌, subst, sym}
use Rattle.mp_term.specs.Normal.{IsNormal}
use Rattle.mp_term.specs.View.{tree}
use Rattle.mp_text.specs.File.{subject_tree}
use Rattle.mp_walk.specs.Ranked.{pairs_of, AreOver}
use Rattle.mp_table.specs.Table.{subject_of}
use Rattle.mp_matches.specs.PairsListed.{front_lines, named}
use Rattle.mp_matches.specs.PrintedPairs.{PutsWithMemory}
use Rattle.mp_matches.proofs.PairsLaws.{subject-put}
use Rattle.mp_matches.proofs.PutLaws.{PutsFront-nothing}
use Rattle.mp_matches.proofs.SoFar.{of-err}
use Rattle.mp_vm.specs.ProgramList.{IsProgramList}
use Rattle.mp_vm.proofs.ProgramLists.{IsProgramList-unique}
use Rattle.mp_command.proofs.program_matcher.ProgramMatcherMatcher.put.Goals as goal

pub table-requires-clause-normal : goal.table-requires-clause-normal
table-requires-clause-normal g c =
    subst (λ sig. IsNormal sig (tree c.args.subject.now.term)) c.requires.over c.requires.sound.term.normal

pub table-requires-clause-few : goal.table-requires-clause-few
table-requires-clause-few g c = c.requires.sound.term.few_nodes

pub put_ranked_pairs-requires : goal.put_ranked_pairs-requires
put_ranked_pairs-requires g c =
    subst (AreOver c.in_ok-table.table) (sym c.deref.ensures.value) c.in_ok-pairs.ensures.table

pub returns-in_err-table-clause-puts : goal.returns-in_err-table-clause-puts
returns-in_err-table-clause-puts g c ls rest h =
    let whole = front_lines c.args.left.now (ls ++ rest) in
    of-err (PutsWithMemory g.O.Sink whole (front_lines c.args.left.now rest) c.args.out.now c.args.out.now)
    c.from_residual.result c.in_err-table.field-0.0 c.from_residual.ensures.1
    (PutsFront-nothing g.O.Sink c.args.out.now whole)

pub returns-in_err-pairs-clause-puts : goal.returns-in_err-pairs-clause-puts
returns-in_err-pairs-clause-puts g c ls rest h =
    let whole = front_lines c.args.left.now (ls ++ rest) in
    of-err (PutsWithMemory g.O.Sink whole (front_lines c.args.left.now rest) c.args.out.now c.args.out.now)
    c.from_residual-in_err-pairs.result c.in_err-pairs.field-0.0 c.from_residual-in_err-pairs.ensures.1
    (PutsFront-nothing g.O.Sink c.args.out.now whole)

pub returns-clause-puts : goal.returns-clause-puts
returns-clause-puts g c =
    let own = c.args.self.now.runner in
    let subject = subject_tree c.args.subject.now in
    let table = c.in_ok-table.table in
    let pairs = pairs_of c.deref.result.now in
    let found = subst (λ ps. IsProgramList own.sig own.program (subject_of table) (pairs_of ps))
    (sym c.deref.ensures.value) c.in_ok-pairs.ensures.pairs in
    let all : IsProgramList own.sig own.program subject.term pairs =
    subst (λ t. IsProgramList own.sig own.program t pairs) c.in_ok-table.ensures.subject found in
    let told = c.put_ranked_pairs in
    subject-put g.O.Sink c.args.sig.now (named c.args.names.now) (IsProgramList own.sig own.program) subject
    pairs (λ qs h. IsProgramList-unique own.sig own.program subject.term qs pairs h all) c.args.left.now told.new.left
    c.args.out.now told.new.out told.result told.ensures.puts
