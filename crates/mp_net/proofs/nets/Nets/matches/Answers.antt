use Rattle.std.proofs.Common.{◌≡◌, ◌∙◌, ◌≤◌, ◌+◌, ◌++◌, [], sym, ap, subst, refl, length, drop, take, arith, true}
use Rattle.std.specs.List.{AllByRecursion}
use Rattle.std.proofs.lemmas.List.{drop_all}
use Rattle.mp_term.specs.Size.{node_count}
use Rattle.mp_term.proofs.ListLaws.{drop-item}
use Rattle.mp_pattern.specs.Lists.{IsAllList}
use Rattle.mp_net.specs.AllList.{pairs_from}
use Rattle.mp_net.specs.NetOf.{AreNets}
use Rattle.mp_net.specs.Nets.{is_syntactic_rule, rule_marks}
use Rattle.mp_net.specs.Probe.{more_reads}
use Rattle.mp_table.specs.Table.{subject_of}
use Rattle.mp_net.proofs.AllListLaws.{pairs-all_list}
use Rattle.mp_net.proofs.PairsLaws.{IsAt, at-start, at-group, at-more, at-end, drop-zero}
use Rattle.mp_net.proofs.PairsLaws.{reads-start, reads-group, reads-most}
use Rattle.mp_net.proofs.nets.Nets.matches.Goals as goal

pub loop-net-init : goal.loop-net-init
loop-net-init c =
    let m = c.args.self.now in
    let t = subject_of c.args.probe.now.table in
    let nets = c.deref-net-items.result.now in
    let built : AreNets 0 (rule_marks m.rules) nets =
    subst (AreNets 0 (rule_marks m.rules)) (sym c.deref-net-items.ensures.value)
    (subst (λ n. AreNets 0 (rule_marks n.rules) c.self.inside.nets.items) c.self.view_is c.self.invariant.nets) in
    record {
      at = subst (λ ps. IsAt m.sig t m.rules (drop 0 nets) ps) (sym c.new-pairs.ensures)
          (subst (λ ns. IsAt m.sig t m.rules ns []) (sym (drop-zero nets)) (at-start m.sig t m.rules nets built));
      table = refl;
      least = omega arith;
      most = reads-start c.args.probe.now.reads (node_count t) c.reads.ensures.limit;
    }

pub push_matches-requires : goal.push_matches-requires
push_matches-requires c =
    let m = c.args.self.now in
    let t = subject_of c.args.probe.now.table in
    let nets = c.deref-net-items.result.now in
    let k = c.loop-net.net-index in
    let n = c.net-item.result in
    record {
      net = at-group m.sig t m.rules n (drop (k + 1) nets) c.loop-net.pairs
          (subst (λ ns. IsAt m.sig t m.rules ns c.loop-net.pairs)
          (drop-item nets k n c.loop-net-test.true c.net-item.is)
          c.loop-net.invariant.at);
    }

pub returns-in_err-push_matches-clause-table : goal.returns-in_err-push_matches-clause-table
returns-in_err-push_matches-clause-table c = c.push_matches.ensures.table ∙ c.loop-net.invariant.table

pub returns-in_err-push_matches-clause-least_reads : goal.returns-in_err-push_matches-clause-least_reads
returns-in_err-push_matches-clause-least_reads c =
    omega (arith, c.loop-net.invariant.least, c.push_matches.ensures.least_reads)

pub returns-in_err-push_matches-clause-most_reads : goal.returns-in_err-push_matches-clause-most_reads
returns-in_err-push_matches-clause-most_reads c =
    let t = subject_of c.args.probe.now.table in
    let nodes = node_count t in
    let k = c.loop-net.net-index in
    let more : c.push_matches.new.probe.reads ≤ more_reads c.loop-net.probe.reads nodes =
    subst (λ u. c.push_matches.new.probe.reads ≤ more_reads c.loop-net.probe.reads (node_count (subject_of u)))
    c.loop-net.invariant.table c.push_matches.ensures.most_reads in
    reads-most c.args.probe.now.reads c.push_matches.new.probe.reads (k + 1) c.args.self.now.groups nodes
    (reads-group c.args.probe.now.reads c.loop-net.probe.reads c.push_matches.new.probe.reads k nodes
    c.loop-net.invariant.most more)
    (omega (arith, c.loop-net-test.true, ap length c.deref-net-items.ensures.value, ap (λ n. n.groups) c.self.view_is))

pub loop-net-preserved : goal.loop-net-preserved
loop-net-preserved c =
    let m = c.args.self.now in
    let t = subject_of c.args.probe.now.table in
    let nodes = node_count t in
    let nets = c.deref-net-items.result.now in
    let k = c.loop-net.net-index in
    let n = c.net-item.result in
    let more : c.push_matches.new.probe.reads ≤ more_reads c.loop-net.probe.reads nodes =
    subst (λ u. c.push_matches.new.probe.reads ≤ more_reads c.loop-net.probe.reads (node_count (subject_of u)))
    c.loop-net.invariant.table c.push_matches.ensures.most_reads in
    record {
      at = at-more m.sig t m.rules n (drop (k + 1) nets) c.loop-net.pairs c.push_matches.new.pairs
          (subst (λ ns. IsAt m.sig t m.rules ns c.loop-net.pairs)
          (drop-item nets k n c.loop-net-test.true c.net-item.is)
          c.loop-net.invariant.at) (λ i count g. c.in_ok-push_matches.ensures.pairs i count g
          ∙ ap (λ u. c.loop-net.pairs ++ pairs_from m.sig (subject_of u) i (take count (drop i m.rules)))
          c.loop-net.invariant.table);
      table = c.push_matches.ensures.table ∙ c.loop-net.invariant.table;
      least = omega (arith, c.loop-net.invariant.least, c.push_matches.ensures.least_reads);
      most = reads-group c.args.probe.now.reads c.loop-net.probe.reads c.push_matches.new.probe.reads k nodes
          c.loop-net.invariant.most more;
    }

pub returns-clause-pairs : goal.returns-clause-pairs
returns-clause-pairs c =
    let m = c.args.self.now in
    let t = subject_of c.args.probe.now.table in
    let nets = c.deref-net-items.result.now in
    let k = c.loop-net.net-index in
    let all = at-end m.sig t m.rules c.loop-net.pairs
    (subst (λ ns. IsAt m.sig t m.rules ns c.loop-net.pairs) (drop_all k nets c.loop-net-test.false)
    c.loop-net.invariant.at) in
    subst (IsAllList m.sig m.rules t) (sym all)
    (pairs-all_list m.sig t m.rules c.requires.normal
    (subst (λ n. AllByRecursion (λ r. is_syntactic_rule n.sig r ≡ true) n.rules) c.self.view_is
    c.self.invariant.syntactic))

pub returns-clause-table : goal.returns-clause-table
returns-clause-table c = c.loop-net.invariant.table

pub returns-clause-least_reads : goal.returns-clause-least_reads
returns-clause-least_reads c = c.loop-net.invariant.least

pub returns-clause-most_reads : goal.returns-clause-most_reads
returns-clause-most_reads c =
    reads-most c.args.probe.now.reads c.loop-net.probe.reads c.loop-net.net-index c.args.self.now.groups
    (node_count (subject_of c.args.probe.now.table)) c.loop-net.invariant.most
    (omega (
      arith,
      c.loop-net.auto.net-index-end,
      ap length c.deref-net-items.ensures.value,
      ap (λ n. n.groups) c.self.view_is,
    ))
