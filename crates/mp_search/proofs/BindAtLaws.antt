-- The trail has room for what a node binds, and then for the nodes behind it.
use Rattle.std.proofs.Common.{◌≡◌, ℕ, zero, suc, ◌<◌, ◌≤◌, ◌+◌, List, [], ◌∷◌, take, length, true, refl, ap, sym}
use Rattle.std.proofs.Common.{subst, arith}
use Rattle.std.specs.Prelude.{⊤, Option, Some, slice_index_or}
use Rattle.std.specs.List.{AllByRecursion}
use Rattle.std.proofs.lemmas.Bool.{and_parts}
use Rattle.mp_term.specs.Order.{tree_cmp}
use Rattle.mp_term.specs.OrderLaws.{tree_cmp_total, tree_same}
use Rattle.mp_term.specs.Pieces.{is_piece}
use Rattle.mp_term.proofs.PiecesLaws.{sublist-from_piece}
use Rattle.mp_term.specs.Signature.{Sig}
use Rattle.mp_pattern.specs.PatternTree.{Pattern, symbol_pattern, app_pattern, wild_pattern}
use Rattle.mp_pattern.specs.View.{pattern_tree}
use Rattle.mp_pattern.specs.declared.pattern.Pattern as code
use Rattle.mp_pattern.specs.declared.pattern.Pattern.TheVariants.{Sym, App, Wild}
use Rattle.mp_pattern.specs.declared.pattern.Shape.{Shape}
use Rattle.mp_pattern.specs.Fits.{Entry}
use Rattle.mp_pattern.specs.Value.{Subst}
use Rattle.mp_pattern.specs.Variables.{comm_above}
use Rattle.mp_table.specs.Table.{Table, terms_at}
use Rattle.mp_table.specs.declared.rank.Rank.{Rank}
use Rattle.mp_subst.specs.Trail.{Trail, cut, GoesWith}
use Rattle.mp_theory.specs.Frames as walk
use Rattle.mp_theory.specs.Machine.{onward, reads, said, taken_out}
use Rattle.mp_theory.specs.Narrow.{load}
use Rattle.mp_theory.specs.Solve.{solve}
use Rattle.mp_theory.specs.Trail.{allows}
use Rattle.mp_theory.proofs.Narrow.{all_nodes-without, length-all_nodes, load-onward, load-settle, load-wildcard}
use Rattle.mp_search.specs.declared.level.Level.{Level}
use Rattle.mp_search.specs.declared.query.Query.{Query}
use Rattle.mp_search.specs.declared.stack.Place.{Place}
use Rattle.mp_search.specs.Frames.{place_after, inner_of, stack_frames}
use Rattle.mp_search.specs.Parts.{IsLeaf}
use Rattle.mp_search.specs.Reading.{entry_at}
use Rattle.mp_search.specs.At.{IsAt, HasTrail}
use Rattle.mp_search.proofs.LevelsLaws.{place-suc}

pub one_more : (k : ℕ) → suc k ≡ k + 1
one_more k = omega arith

-- the pattern is no application, so that it has no children that are to take
abbrev pub IsChildless : Pattern → Type 0
IsChildless (app_pattern g ps) = ⊥
IsChildless p = ⊤

pub leaf-childless : (p : Pattern) → IsLeaf p → IsChildless p
leaf-childless (symbol_pattern n) h = tt
leaf-childless (app_pattern g ps) h = absurd h
leaf-childless (wild_pattern w x) h = tt

-- behind a symbol less is left by what it takes
load-symbol : (sig : Sig) (n : List ℕ) (f : walk.Frame) (fs : List walk.Frame) (e : Entry)
    → allows sig (walk.child (symbol_pattern n) f fs) e ≡ true
    → load (onward (walk.child (symbol_pattern n) f fs) e) + length e.terms
    ≤ load (walk.child (symbol_pattern n) f fs)
load-symbol sig n f fs e h =
    let i = (and_parts (is_piece tree_cmp (comm_above sig f.under) e.terms f.left)
    (reads sig (symbol_pattern n) f.under e) h).0 in
    omega (
      arith,
      load-settle (taken_out (symbol_pattern n) e f ∷ fs),
      all_nodes-without e.terms f.left
          (sublist-from_piece tree_cmp tree_cmp_total tree_same (comm_above sig f.under) e.terms f.left i),
      length-all_nodes e.terms,
    )

-- so it is behind each child that isn't an application
pub less-childless : (sig : Sig) (c : Pattern) (f : walk.Frame) (fs : List walk.Frame) (e : Entry) → IsChildless c
    → allows sig (walk.child c f fs) e ≡ true
    → load (onward (walk.child c f fs) e) + length e.terms ≤ load (walk.child c f fs)
less-childless sig (symbol_pattern n) f fs e i a = load-symbol sig n f fs e a
less-childless sig (app_pattern g ps) f fs e i a = absurd i
less-childless sig (wild_pattern w x) f fs e i a = load-wildcard sig w x f fs e a

-- other children say nothing of a variable
said-plain : (p : code.Pattern) (f : walk.Frame) (fs : List walk.Frame) (e : Entry)
    → ((w : Shape) (x : Option (List ℕ)) → p ≡ Wild w x → ⊥) → said (walk.child (pattern_tree p) f fs) e ≡ []
said-plain (Sym n) f fs e h = refl
said-plain (App g ps) f fs e h = refl
said-plain (Wild w x) f fs e h = absurd (h w x refl)

module _ (q : Query) (k : ℕ) (L : List Level) (p : Place) (within : k < length L) (at : IsAt q (take k L) p)
    (allowed : allows q.sig.now (place_after q (take k L)) (entry_at q.table.now L k) ≡ true) where
  abbrev e : Entry
  e = entry_at q.table.now L k

  abbrev n : walk.Next
  n = place_after q (take k L)

  -- it is less behind node k, whose child isn't an application
  childless-load : IsChildless (pattern_tree p.child.now)
      → load (place_after q (take (k + 1) L)) + length e.terms ≤ load n
  childless-load i =
      subst (λ j. load (place_after q (take j L)) + length e.terms ≤ load n) (one_more k)
      (subst (λ m. load m + length e.terms ≤ load n) (sym (place-suc q k L within))
      (subst (λ m. load (onward m e) + length e.terms ≤ load m) at.stands
      (less-childless q.sig.now (pattern_tree p.child.now) (inner_of q (take k L) p)
      (stack_frames q (take k L) p.outer.now) e i
      (subst (λ m. allows q.sig.now m e ≡ true) (sym at.stands) allowed))))

  -- there is room for what it binds
  pub childless-room : (t : Trail) → IsChildless (pattern_tree p.child.now) → HasTrail q k L t
      → length e.terms + 3 ≤ t.spare
  childless-room t i h = omega (arith, within, childless-load i, h.spare)

  -- and then for the nodes behind it
  pub childless-trail : (t u : Trail) → IsChildless (pattern_tree p.child.now) → HasTrail q k L t
      → cut (length t.stack) u ≡ t → t.spare ≤ u.spare + (length e.terms + 3) → GoesWith q.table.now u
      → HasTrail q (k + 1) L u
  childless-trail t u i h c s g = record {
    trail = g;
    vars = subst (λ m. AllByRecursion (λ v. v < m) q.vars.now) (sym (ap (λ r. r.vars) c)) h.vars;
    spare = omega (arith, within, childless-load i, h.spare, s);
  }

  -- it takes no more of the room than the place grows less, and three
  pub childless-spare : (t u : Trail) → IsChildless (pattern_tree p.child.now)
      → t.spare ≤ u.spare + (length e.terms + 3)
      → t.spare + load (place_after q (take (k + 1) L)) ≤ u.spare + (load n + 3)
  childless-spare t u i s = omega (arith, childless-load i, s)

  -- no more is left behind any entry
  plain-load : load (place_after q (take (k + 1) L)) ≤ load n
  plain-load = subst (λ j. load (place_after q (take j L)) ≤ load n) (one_more k)
      (subst (λ m. load m ≤ load n) (sym (place-suc q k L within)) (load-onward q.sig.now n e allowed))

  -- so it is where nothing is bound
  pub plain-trail : (t : Trail) → HasTrail q k L t → HasTrail q (k + 1) L t
  plain-trail t h = record { trail = h.trail; vars = h.vars; spare = omega (arith, plain-load, h.spare) }

  pub plain-spare : (t : Trail) → t.spare + load (place_after q (take (k + 1) L)) ≤ t.spare + (load n + 3)
  plain-spare t = omega (arith, plain-load)

  -- and what is said is solved
  pub plain-bound : (s : Subst) → ((w : Shape) (x : Option (List ℕ)) → p.child.now ≡ Wild w x → ⊥)
      → solve q.sig.now s (said n e) ≡ Some s
  plain-bound s h =
      subst (λ m. solve q.sig.now s (said m e) ≡ Some s) at.stands
      (ap (solve q.sig.now s)
      (said-plain p.child.now (inner_of q (take k L) p) (stack_frames q (take k L) p.outer.now) e h))

-- the node takes as many terms as its level has ranks
pub length-taken : (t : Table) (ls : List Level) (k : ℕ) (d : Level) → k < length ls
    → length (slice_index_or ls k d).take.items.items ≡ length (entry_at t ls k).terms
length-taken t [] k d h = absurd (omega (arith, h))
length-taken t (l ∷ ls) zero d h = sym (length-terms l.take.items.items)
  where
    length-terms : (rs : List Rank) → length (terms_at t rs) ≡ length rs
    length-terms [] = refl
    length-terms (r ∷ rs) = ap suc (length-terms rs)
length-taken t (l ∷ ls) (suc k) d h = length-taken t ls k d (omega (arith, h))
