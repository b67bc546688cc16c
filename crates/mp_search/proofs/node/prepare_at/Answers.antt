use Rattle.std.proofs.Common.{◌++◌, slice_set}
use Rattle.mp_search.specs.Reading.{subst_of}
use Rattle.mp_search.proofs.OwnLaws.{IsSplit, get-new, front-new}
use Rattle.mp_search.proofs.NodeSteps.{split-within, split-site, split-place, split-terms}
use Rattle.mp_search.proofs.PreparedLaws.{prepared-drawn}
use Rattle.mp_search.proofs.node.prepare_at.Goals as goal

pub node_at-node-requires-clause-within : goal.node_at-node-requires-clause-within
node_at-node-requires-clause-within c =
    split-within c.args.query.now c.args.levels.now c.args.place.now c.args.k c.requires.within c.requires.node
    c.requires.place

pub prepare_own-requires-clause-site : goal.prepare_own-requires-clause-site
prepare_own-requires-clause-site c =
    let s = c.split_at_mut-below.ensures in
    split-site c.args.query.now c.args.levels.now c.split_at_mut-below.result.0.now c.args.place.now c.args.k
    c.node_at-node.result c.left_list-left.result s.front c.requires.within c.requires.node c.requires.place
    c.node_at-node.ensures c.left_list-left.ensures.terms c.left_list-left.ensures.ranks

pub returns-clause-drawn : goal.returns-clause-drawn
returns-clause-drawn c =
    let q = c.args.query.now in
    let p = c.args.place.now in
    let L = c.args.levels.now in
    let k = c.args.k in
    let B = c.split_at_mut-below.result.0.now in
    let F = c.split_at_mut-below.result.1.now in
    let d = c.index-from-0.result in
    let s = c.split_at_mut-below.ensures in
    let own = c.prepare_own.new.own in
    let left = c.left_list-left.result in
    let node = c.node_at-node.result in
    let at : IsSplit L B F k =
    record { value = s.value; front = s.front; split = s.front_len; within = c.requires.within } in
    prepared-drawn q p L (B ++ slice_set F 0 own) k node left own (subst_of q c.args.trail.now)
    (get-new L B F k d at own) (front-new L B F k d at own)
    (split-terms q L B p k left s.front c.left_list-left.ensures.terms)
    (split-place q L B p k node left s.front c.requires.within c.requires.node c.requires.place c.node_at-node.ensures
    c.left_list-left.ensures.terms) c.prepare_own.ensures.leads c.prepare_own.ensures.choices c.prepare_own.ensures.pool
