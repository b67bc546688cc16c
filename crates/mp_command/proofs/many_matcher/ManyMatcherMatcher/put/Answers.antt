use Rattle.std.proofs.Common.{◌≡◌, ◌++◌, ◌∙◌, ap, sym, subst}
use Rattle.std.specs.List.{AllByRecursion}
use Rattle.mp_term.specs.Normal.{IsNormal}
use Rattle.mp_term.specs.View.{tree}
use Rattle.mp_pattern.specs.Lists.{IsAllList}
use Rattle.mp_text.specs.File.{subject_tree}
use Rattle.mp_theory.proofs.AllList.{IsAllList-unique}
use Rattle.mp_walk.specs.Ranked.{pairs_of, AreOver}
use Rattle.mp_walk.proofs.ConstantLaws.{subject-built, code_table-built}
use Rattle.mp_table.specs.Table.{subject_of}
use Rattle.mp_many.specs.Laid.{tree_of}
use Rattle.mp_matches.specs.PairsListed.{front_lines, named}
use Rattle.mp_matches.specs.PrintedPairs.{PutsWithMemory}
use Rattle.mp_matches.proofs.PairsLaws.{subject-put}
use Rattle.mp_matches.proofs.PutLaws.{PutsFront-nothing}
use Rattle.mp_matches.proofs.SoFar.{of-err}
use Rattle.mp_command.proofs.many_matcher.ManyMatcherMatcher.put.Goals as goal

pub build-requires-clause-constant_nodes : goal.build-requires-clause-constant_nodes
build-requires-clause-constant_nodes g c = c.self.invariant.few

pub build-requires-clause-normal_constants : goal.build-requires-clause-normal_constants
build-requires-clause-normal_constants g c =
    let m = c.self.inside in
    let same : c.args.sig.now ≡ m.many.sig = c.requires.over ∙ sym (ap (λ n. n.sig) c.self.view_is) in
    subst (λ sig. AllByRecursion (IsNormal sig) m.constants) (sym same) c.self.invariant.normal

pub ranked-requires : goal.ranked-requires
ranked-requires g c =
    let table = c.in_ok-table.table in
    let m = c.self.inside in
    let same : c.args.sig.now ≡ m.many.sig = c.requires.over ∙ sym (ap (λ n. n.sig) c.self.view_is) in
    code_table-built table (tree c.args.subject.now.term) m.constants c.in_ok-table.ensures.table m.many.sig
    (tree_of m.many.sig m.many.rules) c.self.invariant
    (subst (λ sig. AllByRecursion (IsNormal sig) table.terms) same c.in_ok-table.ensures.normal)
    c.requires.sound.term.few_nodes

pub put_ranked_pairs-requires : goal.put_ranked_pairs-requires
put_ranked_pairs-requires g c =
    subst (AreOver c.in_ok-table.table) (sym c.deref.ensures.value) c.in_ok-pairs.ensures.table

pub returns-in_err-table-clause-puts : goal.returns-in_err-table-clause-puts
returns-in_err-table-clause-puts g c ls rest h =
    let whole = front_lines c.args.left.now (ls ++ rest) in
    of-err (PutsWithMemory g.O.Sink whole (front_lines c.args.left.now rest) c.args.out.now c.args.out.now)
    c.from_residual.result c.in_err-table.field-0.0 c.from_residual.ensures.1
    (PutsFront-nothing g.O.Sink c.args.out.now whole)

pub returns-in_err-pairs-clause-puts : goal.returns-in_err-pairs-clause-puts
returns-in_err-pairs-clause-puts g c ls rest h =
    let whole = front_lines c.args.left.now (ls ++ rest) in
    of-err (PutsWithMemory g.O.Sink whole (front_lines c.args.left.now rest) c.args.out.now c.args.out.now)
    c.from_residual-in_err-pairs.result c.in_err-pairs.field-0.0 c.from_residual-in_err-pairs.ensures.1
    (PutsFront-nothing g.O.Sink c.args.out.now whole)

pub returns-clause-puts : goal.returns-clause-puts
returns-clause-puts g c =
    let sig = c.args.sig.now in
    let own = c.args.self.now in
    let subject = subject_tree c.args.subject.now in
    let table = c.in_ok-table.table in
    let m = c.self.inside in
    let pairs = pairs_of c.deref.result.now in
    let same = subject-built table (tree c.args.subject.now.term) m.constants c.in_ok-table.ensures.table in
    let found = subst (λ ps. IsAllList m.many.sig m.many.rules (subject_of table) (pairs_of ps))
    (sym c.deref.ensures.value) c.in_ok-pairs.ensures.pairs in
    let all : IsAllList own.sig own.rules subject.term pairs =
    subst (λ n. IsAllList n.sig n.rules subject.term pairs) c.self.view_is
    (subst (λ t. IsAllList m.many.sig m.many.rules t pairs) same found) in
    let told = c.put_ranked_pairs in
    subject-put g.O.Sink sig (named c.args.names.now) (IsAllList own.sig own.rules) subject pairs
    (λ qs h. IsAllList-unique own.sig own.rules subject.term qs pairs h all) c.args.left.now
    told.new.left c.args.out.now told.new.out told.result told.ensures.puts
