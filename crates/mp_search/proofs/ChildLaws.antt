-- The child that comes next is the node of the plan whose number is that of the levels below.
use Rattle.std.proofs.Common.{◌≡◌, ℕ, zero, suc, ◌<◌, ◌≤◌, ◌+◌, List, [], ◌∷◌, ◌++◌, map, take, drop, length, refl, ap}
use Rattle.std.proofs.Common.{sym}
use Rattle.std.proofs.Common.{◌∙◌, subst, arith, append_assoc, append-nil}
use Rattle.std.specs.Prelude.{Some, None, IsSome, slice_get}
use Rattle.std.specs.Borrow.{Bor}
use Rattle.std.proofs.lemmas.Option.{slice_get_within}
use Rattle.mp_term.specs.Signature.{Sig}
use Rattle.mp_pattern.specs.PatternTree.{Pattern, patterns}
use Rattle.mp_pattern.specs.View.{pattern_tree}
use Rattle.mp_pattern.specs.Fits.{arranged}
use Rattle.mp_pattern.specs.Plan.{IsPlanOf, Plan}
use Rattle.mp_pattern.specs.Variables.{variables}
use Rattle.mp_pattern.specs.Subpatterns.{subpatterns, all_subpatterns}
use Rattle.mp_table.specs.Table.{Table, terms_at, HasRanks}
use Rattle.mp_table.specs.declared.rank.Rank.{Rank}
use Rattle.mp_theory.specs.Frames as walk
use Rattle.mp_theory.specs.Narrow.{load}
use Rattle.mp_theory.specs.Nodes.{frames_nodes, place_nodes}
use Rattle.mp_theory.proofs.Narrow.{load-left}
use Rattle.mp_theory.proofs.Nodes.{node-settle}
use Rattle.mp_search.specs.declared.level.Level.{Level}
use Rattle.mp_search.specs.declared.query.Query.{Query}
use Rattle.mp_search.specs.declared.stack.Place.{Place}
use Rattle.mp_search.specs.Frames.{above, left_of, inner_of, stack_frames, start_frame, place_after}
use Rattle.mp_search.specs.Parts.{StandsAt}
use Rattle.mp_search.specs.Query.{IsQuery, width}
use Rattle.mp_search.specs.Reading.{table_of}
use Rattle.mp_search.specs.Site.{IsSite, site_place}
use Rattle.mp_search.specs.At.{IsAt, AreInOrder, site_of}
use Rattle.mp_search.proofs.LevelsLaws.{length-table}
use Rattle.mp_pattern.proofs.NodeLaws.{plan_node}
use Rattle.mp_search.proofs.PartLaws.{stands-left}
use Rattle.mp_subst.proofs.TrailLaws.{take-behind}

drop-none : {X : Type 0} (k : ℕ) → drop {A = X} k [] ≡ []
drop-none zero = refl
drop-none (suc k) = refl

drop-drop : {X : Type 0} (m n : ℕ) (xs : List X) → drop n (drop m xs) ≡ drop (m + n) xs
drop-drop m n [] = ap (drop n) (drop-none m) ∙ drop-none n ∙ sym (drop-none (m + n))
drop-drop zero n (x ∷ xs) = let e : n ≡ 0 + n = omega arith in ap (λ i. drop i (x ∷ xs)) e
drop-drop (suc m) n (x ∷ xs) = let e : suc (m + n) ≡ suc m + n = omega arith in
    drop-drop m n xs ∙ ap (λ i. drop i (x ∷ xs)) e

get-drop : {X : Type 0} (m n : ℕ) (xs : List X) → slice_get (drop m xs) n ≡ slice_get xs (m + n)
get-drop m n [] = ap (λ ys. slice_get ys n) (drop-none m)
get-drop zero n (x ∷ xs) = let e : n ≡ 0 + n = omega arith in ap (slice_get (x ∷ xs)) e
get-drop (suc m) n (x ∷ xs) = let e : suc (m + n) ≡ suc m + n = omega arith in
    get-drop m n xs ∙ ap (slice_get (x ∷ xs)) e

-- the number of a node of the plan is less than that of all nodes
pub node-within : (sig : Sig) (plan : Plan) (i : ℕ) → IsPlanOf sig plan.pattern plan
    → IsSome (slice_get (subpatterns plan.pattern) i) → i < length plan.nodes
node-within sig plan i h s =
    elim (slice_get (subpatterns plan.pattern) i) as
    (λ o. slice_get (subpatterns plan.pattern) i ≡ o → IsSome o → i < length plan.nodes) [
      | None ↦ λ e k. cc
      | Some p ↦ λ e k. let n = plan_node (variables plan.pattern) None plan.pattern i p e in
          slice_get_within plan.nodes i n.0 (ap (λ q. slice_get q.nodes i) h ∙ n.1)
    ] refl s

module _ (q : Query) (below : List Level) (p : Place) (h : IsQuery q) (at : IsAt q below p) where
  abbrev child : Pattern
  child = pattern_tree p.child.now

  abbrev frame : walk.Frame
  frame = inner_of q below p

  abbrev outer : List walk.Frame
  outer = stack_frames q below p.outer.now

  number : length (table_of q.table.now below) ≡ length below
  number = length-table q.table.now below

  -- the nodes with which the search starts
  first : frames_nodes (start_frame q ∷ []) ≡ drop q.first (subpatterns q.plan.now.pattern)
  first = append-nil (all_subpatterns (patterns (map pattern_tree q.start.children.now))) ∙ h.children

  stands : (place_nodes (walk.child child frame outer)
      ≡ drop (length (table_of q.table.now below)) (frames_nodes (start_frame q ∷ [])))
      × (slice_get (frames_nodes (start_frame q ∷ [])) (length (table_of q.table.now below)) ≡ Some child)
  stands = node-settle (start_frame q ∷ []) (table_of q.table.now below) child frame outer (sym at.stands)

  -- the child is the node of that number
  pub child-node : slice_get (subpatterns q.plan.now.pattern) (q.first + length below) ≡ Some child
  child-node = sym (get-drop q.first (length below) (subpatterns q.plan.now.pattern))
      ∙ ap (λ ps. slice_get ps (length below)) (sym first)
      ∙ ap (slice_get (frames_nodes (start_frame q ∷ []))) (sym number) ∙ stands.1

  pub child-within : IsSome (slice_get (subpatterns q.plan.now.pattern) (q.first + length below))
  child-within = subst IsSome (sym child-node) refl

  -- the nodes from it on
  child-nodes : place_nodes (walk.child child frame outer)
      ≡ drop (q.first + length below) (subpatterns q.plan.now.pattern)
  child-nodes = stands.0 ∙ ap (λ n. drop n (frames_nodes (start_frame q ∷ []))) number ∙ ap (drop (length below)) first
      ∙ drop-drop q.first (length below) (subpatterns q.plan.now.pattern)

  abbrev own : List Pattern
  own = subpatterns child ++ all_subpatterns frame.children

  front : own ≡ take (length own) (drop (q.first + length below) (subpatterns q.plan.now.pattern))
  front = sym (take-behind own (frames_nodes outer))
      ∙ ap (take (length own))
      (append_assoc (subpatterns child) (all_subpatterns frame.children) (frames_nodes outer) ∙ child-nodes)

  -- so the child stands there
  pub child-stands : (node : ℕ) → node ≡ q.first + length below → StandsAt q node (subpatterns child)
  child-stands node numbered = stands-left q node (subpatterns child) (all_subpatterns frame.children)
      (subst (λ i. own ≡ take (length own) (drop i (subpatterns q.plan.now.pattern))) (sym numbered) front)

  module _ (node : ℕ) (left : Bor (List Rank)) (numbered : node ≡ q.first + length below)
      (terms : terms_at q.table.now left.now ≡ left_of q below p.left) where
    -- the site with the ranks that are left is at the place
    pub site-place : site_place q (site_of p node left) outer ≡ place_after q below
    site-place = ap
        (λ ts. walk.child child
        (record {
          under = above p.under;
          children = patterns (map pattern_tree p.later.now);
          left = ts;
          owes = p.owes;
        }) outer) terms
        ∙ at.stands

    pub site-at : load (place_after q below) ≤ width q → AreInOrder q.sig.now (place_after q below)
        → HasRanks q.table.now left.now → IsSite q (site_of p node left)
    site-at narrow ordered ranks =
        let order : AreInOrder q.sig.now (walk.child child frame outer) =
        subst (AreInOrder q.sig.now) (sym at.stands) ordered in
        let room : load (walk.child child frame outer) ≤ width q =
        subst (λ n. load n ≤ width q) (sym at.stands) narrow in
        record {
          children = subst (λ i. own ≡ take (length own) (drop i (subpatterns q.plan.now.pattern)))
              (sym numbered) front;
          left = ranks;
          arranged = subst (λ ts. arranged q.sig.now (above p.under) ts ≡ ts) (sym terms) order.0.arranged;
          narrow = omega (
            arith,
            load-left child frame outer,
            room,
            ap length terms,
            length-terms q.table.now left.now,
          );
        }
      where
        length-terms : (t : Table) (rs : List Rank) → length (terms_at t rs) ≡ length rs
        length-terms t [] = refl
        length-terms t (r ∷ rs) = ap suc (length-terms t rs)
