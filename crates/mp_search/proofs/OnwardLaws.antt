-- What a search counts on at a node, from node to node.
use Rattle.std.proofs.Common.{◌≡◌, ℕ, zero, suc, ◌<◌, ◌≤◌, ◌+◌, ◌-◌, ◌*◌, List, [], ◌∷◌, take, length, true, ap, sym}
use Rattle.std.proofs.Common.{◌∙◌, subst, arith}
use Rattle.std.specs.Prelude.{slice_index_or}
use Rattle.std.specs.List.{AllByRecursion}
use Rattle.mp_term.specs.Tree.{Tree, symbol}
use Rattle.mp_term.specs.Signature.{Sig}
use Rattle.mp_term.specs.Normal.{IsNormal}
use Rattle.mp_term.specs.NormalTest.{passes}
use Rattle.mp_table.specs.Table.{Table, terms_at, HasRanks}
use Rattle.mp_table.specs.declared.rank.Rank.{Rank}
use Rattle.mp_subst.specs.Trail.{Trail, cut}
use Rattle.mp_theory.specs.Narrow.{load}
use Rattle.mp_theory.specs.Trail.{allows}
use Rattle.mp_theory.proofs.Narrow.{load-onward}
use Rattle.mp_theory.proofs.Wildcards.{final-passes}
use Rattle.mp_search.specs.declared.level.Level.{Level}
use Rattle.mp_search.specs.declared.query.Query.{Query}
use Rattle.mp_search.specs.declared.stack.Place.{Place}
use Rattle.mp_search.specs.Frames.{place_after, start_frame}
use Rattle.mp_search.specs.Query.{IsReady, width}
use Rattle.mp_search.specs.Reading.{entry_at, table_of}
use Rattle.mp_search.specs.Levels.{AreLevels}
use Rattle.mp_search.specs.At.{AreInOrder, IsAtNode, HasTrail, IsAt, KeepsLevels}
use Rattle.mp_search.proofs.LevelsLaws.{place-suc, place-same}
use Rattle.mp_search.proofs.OrderLaws.{order-onward, order-start}

-- where the levels below are kept it counts on the same
pub node-kept : (q : Query) (k : ℕ) (old new : List Level) → IsAtNode q k old → KeepsLevels q k old new
    → IsAtNode q k new
node-kept q k old new h i = record {
  query = h.query;
  levels = i.levels;
  narrow = subst (λ ls. load (place_after q ls) ≤ width q) (sym i.front) h.narrow;
  ordered = subst (λ ls. AreInOrder q.sig.now (place_after q ls)) (sym i.front) h.ordered;
}

pub at-kept : (q : Query) (k : ℕ) (old new : List Level) (p : Place) → IsAt q (take k old) p
    → take k new ≡ take k old → IsAt q (take k new) p
at-kept q k old new p h i = subst (λ ls. IsAt q ls p) (sym i) h

-- the trail has room for the search by levels that lead to the same place
pub trail-same : (q : Query) (k : ℕ) (old new : List Level) (t : Trail) → HasTrail q k old t
    → place_after q (take k new) ≡ place_after q (take k old) → length new ≡ length old → HasTrail q k new t
trail-same q k old new t h i m = record {
  trail = h.trail;
  vars = h.vars;
  spare = subst (λ n. load n + 3 * (length new - k) ≤ t.spare) (sym i)
      (subst (λ j. load (place_after q (take k old)) + 3 * (j - k) ≤ t.spare) (sym m) h.spare);
}

pub trail-kept : (q : Query) (k : ℕ) (old new : List Level) (t : Trail) → HasTrail q k old t
    → KeepsLevels q k old new → HasTrail q k new t
trail-kept q k old new t h i = trail-same q k old new t h (ap (place_after q) i.front) i.many

-- behind an entry that may stand at the node it counts on what it is to count on at the next one
pub node-suc : (q : Query) (k : ℕ) (ls : List Level) → k < length ls → IsAtNode q k ls
    → allows q.sig.now (place_after q (take k ls)) (entry_at q.table.now ls k) ≡ true → IsAtNode q (suc k) ls
node-suc q k ls within h a = record {
  query = h.query;
  levels = h.levels;
  narrow = subst (λ n. load n ≤ width q) (sym (place-suc q k ls within))
      (omega (arith, h.narrow, load-onward q.sig.now (place_after q (take k ls)) (entry_at q.table.now ls k) a));
  ordered = subst (AreInOrder q.sig.now) (sym (place-suc q k ls within))
      (order-onward q.sig.now (place_after q (take k ls)) (entry_at q.table.now ls k) h.ordered a);
}

-- so it does by other levels that take the same
pub node-same : (q : Query) (k : ℕ) (old new : List Level) → IsAtNode q k old
    → AreLevels q.table.now (width q) new → table_of q.table.now new ≡ table_of q.table.now old → IsAtNode q k new
node-same q k old new h l e = record {
  query = h.query;
  levels = l;
  narrow = subst (λ n. load n ≤ width q) (sym (place-same q k new old e)) h.narrow;
  ordered = subst (AreInOrder q.sig.now) (sym (place-same q k new old e)) h.ordered;
}

-- what is kept twice is kept
pub levels-after : (q : Query) (k : ℕ) (old new last : List Level) → KeepsLevels q k old new
    → KeepsLevels q k new last → KeepsLevels q k old last
levels-after q k old new last h i = record {
  front = i.front ∙ h.front;
  many = i.many ∙ h.many;
  levels = i.levels;
}

-- the trail that is cut is the old one
pub cut-back : (t u v : Trail) (m : ℕ) → m ≡ length t.stack → cut (length t.stack) u ≡ t → v ≡ cut m u → v ≡ t
cut-back t u v m e h r = r ∙ ap (λ n. cut n u) e ∙ h

module _ (sig : Sig) (t : Table) (normal : AllByRecursion (IsNormal sig) t.terms) where
  normal-at : (ts : List Tree) (i : ℕ) → AllByRecursion (IsNormal sig) ts → i < length ts
      → passes sig (slice_index_or ts i (symbol [])) ≡ true
  normal-at [] i h k = absurd (omega (arith, k))
  normal-at (u ∷ us) zero h k = final-passes sig u h.0
  normal-at (u ∷ us) (suc i) h k = normal-at us i h.1 (omega (arith, k))

  -- the terms of ranks are normal
  pub pass-terms : (rs : List Rank) → HasRanks t rs → AllByRecursion (λ u. passes sig u ≡ true) (terms_at t rs)
  pass-terms [] h = tt
  pass-terms (r ∷ rs) h = (normal-at t.terms r.0 normal h.0, pass-terms rs h.1)

-- before the first node
pub node-start : (q : Query) (ls : List Level) (t : Trail) → IsReady q 0 ls t → IsAtNode q 0 ls
node-start q ls t h = record {
  query = h.query;
  levels = h.levels;
  narrow = h.narrow;
  ordered = order-start q.sig.now (start_frame q) (record {
    pass = pass-terms q.sig.now q.table.now h.query.normal q.start.left.now h.query.left;
    arranged = h.query.arranged;
  });
}
