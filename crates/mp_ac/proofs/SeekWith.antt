-- The search where the first child takes the term of a rank, and the others what is left then.
use Rattle.std.proofs.Common.{◌≡◌, ◌≤◌, ◌+◌, ◌-◌, ◌*◌, ℕ, List, [], ◌∷◌, ◌++◌, length, map, take, drop}
use Rattle.std.proofs.Common.{Bool, true, false, refl, ap, sym, ◌∙◌, subst, arith, inl, inr}
use Rattle.std.specs.Prelude.{Option, None, Some, slice_get}
use Rattle.std.specs.List.{AllByRecursion}
use Rattle.std.specs.List.Sorted.{IsSorted}
use Rattle.std.proofs.lemmas.List.{length-map}
use Rattle.mp_term.specs.Order.{tree_cmp}
use Rattle.mp_term.specs.Pieces.{is_sublist, without}
use Rattle.mp_term.specs.Search.{In}
use Rattle.mp_term.specs.Size.{all_nodes}
use Rattle.mp_term.specs.Tree.{Tree}
use Rattle.mp_pattern.specs.Fits.{Table}
use Rattle.mp_pattern.specs.PatternTree.{Pattern, symbol_pattern, app_pattern, wild_pattern}
use Rattle.mp_pattern.specs.Size.{pattern_nodes}
use Rattle.mp_pattern.specs.Value.{Subst}
use Rattle.mp_pattern.specs.Variables.{comm_above}
use Rattle.mp_table.specs.Table as plain
use Rattle.mp_table.specs.Table.{HasRank, rank_cmp, term_at, terms_at}
use Rattle.mp_table.specs.declared.rank.Rank.{Rank}
use Rattle.mp_table.proofs.RankLaws.{is_sublist-terms, without-terms}
use Rattle.mp_theory.specs.Filled.{filled}
use Rattle.mp_theory.specs.Shape.{shape, table_of}
use Rattle.mp_theory.proofs.Cuts.{apart-from_piece, put}
use Rattle.mp_theory.proofs.Narrow.{all_nodes-without, length-all_nodes}
use Rattle.mp_search.specs.declared.mode.Mode.{Mode}
use Rattle.mp_search.specs.Wanted.{IsStanding}
use Rattle.mp_search.proofs.OwnLaws.{ranks-without}
use Rattle.mp_search.proofs.PoolLaws.{sorted-ranks}
use Rattle.mp_ac.specs.declared.pick.Pick.{Pick}
use Rattle.mp_ac.specs.declared.seek.Sought.{Sought}
use Rattle.mp_ac.specs.Asked.{AreGiven, root_list}
use Rattle.mp_ac.specs.Candidates.{AreChoices, IsBarred}
use Rattle.mp_ac.specs.CommPlan.{IsApplication, nodes_below, root_op}
use Rattle.mp_ac.specs.Seek.{ArePicksOf, IsFoundOf, IsSought, items_of_pick, items_sought, seek_cost}
use Rattle.mp_ac.specs.Seek.{with_children}
use Rattle.mp_theory.specs.Items.{in_front}
use Rattle.mp_ac.specs.TakesOne.{is_left}
use Rattle.mp_ac.specs.Stage.{looked_for}
use Rattle.mp_ac.proofs.SeekLaws.{front-found, front-standing, in-without, none-found, root-filled, root-not_filled}
use Rattle.mp_ac.proofs.SeekLaws.{root-not_left}

-- what is barred is barred among fewer terms
barred-fewer : (next : Option Pattern) (us vs : List Tree) (p : Pattern) (t : Tree) → ((u : Tree) → In u us → In u vs)
    → IsBarred next vs p t → IsBarred next us p t
barred-fewer None us vs p t f h = h
barred-fewer (Some q) us vs p t f h = λ v i s. h v (f v i) s

-- choices among terms are choices among fewer
pub choices-fewer : (t : plain.Table) (p : Pattern) (next : Option Pattern) (us vs : List Tree) (rs : List Rank)
    → ((u : Tree) → In u us → In u vs) → AreChoices t p next vs rs → AreChoices t p next us rs
choices-fewer t p next us vs rs f h = record {
  ranks = h.ranks;
  ascending = h.ascending;
  shaped = h.shaped;
  all = λ u i s. elim (h.all u (f u i) s)
      [ inl c ↦ inl c | inr barred ↦ inr (barred-fewer next us vs p u f barred) ];
}

-- picks of terms are picks of terms among them
pub picks-fewer : (t : plain.Table) (us vs : List Tree) (w : ℕ) (cs : List Rank) (ps : List Pattern) (ks : List Pick)
    → ((u : Tree) → In u us → In u vs) → ArePicksOf t vs w cs ps ks → ArePicksOf t us w cs ps ks
picks-fewer t us vs w cs [] ks f h = tt
picks-fewer t us vs w cs (p ∷ ps) [] f h = absurd h
picks-fewer t us vs w cs (p ∷ ps) (k ∷ ks) f h = (
  record {
    onward = h.0.onward;
    within = h.0.within;
    at = h.0.at;
    choices = choices-fewer t p (slice_get ps 0) us vs (take (k.end - k.from) (drop k.from cs)) f h.0.choices;
    room = h.0.room;
  },
  picks-fewer t us vs w cs ps ks f h.1,
)

-- the nodes of the children with one more in front
nodes-first : (q : Pattern) → IsApplication q → (p : Pattern) (ps : List Pattern)
    → nodes_below (with_children (p ∷ ps) q) ≡ pattern_nodes p + nodes_below (with_children ps q)
nodes-first (app_pattern g zs) h p ps = refl
nodes-first (symbol_pattern n) h p ps = (let e = h.is in cc)
nodes-first (wild_pattern w x) h p ps = (let e = h.is in cc)

module _ (x : Sought) (h : IsSought x) (left : List Rank)
    (given : AreGiven x.asked.sig.now x.asked.plan.now.pattern x.asked.table.now left) where
  abbrev tb : plain.Table
  tb = x.asked.table.now

  abbrev terms : List Tree
  terms = terms_at tb left

  in-order : put (comm_above x.asked.sig.now (root_op x.asked.plan.now.pattern)) terms ≡ terms
  in-order = given.arranged

  -- the ranks ascend, and there are no more than the nodes of the terms
  pub left-sorted : IsSorted rank_cmp left
  left-sorted = sorted-ranks tb h.asked.table left given.ranks
      (subst (λ b. put b terms ≡ terms) h.commutative in-order)

  pub left-few : length left ≤ all_nodes terms
  left-few = omega (arith, length-all_nodes terms, length-map left (term_at tb))

  -- what a child takes of the trail's room
  pub cost-own : (p : Pattern) (ps : List Pattern) → 3 * pattern_nodes p ≤ seek_cost x.asked (p ∷ ps) left
  cost-own p ps = omega (arith, nodes-first x.asked.plan.now.pattern h.asked.application p ps)

  module _ (r : Rank) (has : HasRank tb r) where
    abbrev t : Tree
    t = term_at tb r

    left-same : is_left terms t ≡ is_sublist rank_cmp (r ∷ []) left
    left-same = is_sublist-terms tb h.asked.table.ascending (r ∷ []) left (has, tt) given.ranks

    rest-same : without tree_cmp (t ∷ []) terms ≡ terms_at tb (without rank_cmp (r ∷ []) left)
    rest-same = without-terms tb h.asked.table.ascending (r ∷ []) left (has, tt) given.ranks

    module _ (p : Pattern) (ps : List Pattern) (s : Subst) where
      -- where it isn't left nothing is found
      pub with-not_left : (mode : Mode) (W : Table) → is_sublist rank_cmp (r ∷ []) left ≡ false
          → looked_for mode W (items_of_pick x.asked p ps left s r) ≡ []
      with-not_left mode W e = none-found mode W (items_of_pick x.asked p ps left s r)
          (root-not_left x.asked.sig.now p ps terms x.asked.owes s x.asked.plan.now.pattern t (left-same ∙ e))

      -- nor where the child doesn't take it
      pub with-not_filled : (mode : Mode) (W : Table) → shape p t ≡ true → filled x.asked.sig.now p t s ≡ None
          → looked_for mode W (items_of_pick x.asked p ps left s r) ≡ []
      with-not_filled mode W shaped e = none-found mode W (items_of_pick x.asked p ps left s r)
          (root-not_filled x.asked.sig.now p ps terms x.asked.owes s x.asked.plan.now.pattern t shaped e)

      module _ (sub : is_sublist rank_cmp (r ∷ []) left ≡ true) where
        module _ (rest : List Rank) (others : rest ≡ without rank_cmp (r ∷ []) left) where
          rest-terms : without tree_cmp (t ∷ []) terms ≡ terms_at tb rest
          rest-terms = rest-same ∙ ap (terms_at tb) (sym others)

          -- what the later children are given
          pub rest-given : AreGiven x.asked.sig.now x.asked.plan.now.pattern tb rest
          rest-given = record {
            ranks = subst (λ rs. AllByRecursion (HasRank tb) rs) (sym others)
                (ranks-without tb (r ∷ []) left given.ranks);
            arranged = subst (λ us. put (comm_above x.asked.sig.now (root_op x.asked.plan.now.pattern)) us ≡ us)
                rest-terms
                (subst (λ b. put b (without tree_cmp (t ∷ []) terms) ≡ without tree_cmp (t ∷ []) terms)
                (sym h.commutative)
                (apart-from_piece true (t ∷ []) terms
                (subst (λ b. put b terms ≡ terms) h.commutative in-order) (left-same ∙ sub)).rest_in_order);
          }

          pub rest-nodes : all_nodes (terms_at tb rest) ≤ all_nodes terms
          rest-nodes = omega (
            arith,
            all_nodes-without (t ∷ []) terms (left-same ∙ sub),
            ap all_nodes rest-terms,
          )

          pub rest-picks : (w : ℕ) (cs : List Rank) (ks : List Pick) → ArePicksOf tb terms w cs ps ks
              → ArePicksOf tb (terms_at tb rest) w cs ps ks
          rest-picks w cs ks = picks-fewer tb (terms_at tb rest) terms w cs ps ks
              (λ u i. in-without t terms u (subst (In u) (sym rest-terms) i))

          -- what the child and the others take of the trail's room
          pub cost-apart : 3 * pattern_nodes p + seek_cost x.asked ps rest ≤ seek_cost x.asked (p ∷ ps) left
          cost-apart = omega (
            arith,
            rest-nodes,
            nodes-first x.asked.plan.now.pattern h.asked.application p ps,
          )

          module _ (shaped : shape p t ≡ true) (after : Subst) (fills : filled x.asked.sig.now p t s ≡ Some after) where
            -- the items are those of the others, with the table of the child in front
            with-same : items_of_pick x.asked p ps left s r
                ≡ map (in_front (table_of p t)) (items_sought x.asked ps rest after)
            with-same = root-filled x.asked.sig.now p ps terms x.asked.owes s x.asked.plan.now.pattern t after
                (left-same ∙ sub) shaped fills
                ∙ ap (λ us. map (in_front (table_of p t)) (root_list x.asked.sig.now
                (with_children ps x.asked.plan.now.pattern) us x.asked.owes after)) rest-terms

            pub with-standing : (mode : Mode) (W : Table)
                → IsStanding mode (table_of p t ++ W) (items_of_pick x.asked p ps left s r)
                → IsStanding mode W (items_sought x.asked ps rest after)
            with-standing mode W i = front-standing (table_of p t) W mode (items_sought x.asked ps rest after)
                (subst (IsStanding mode (table_of p t ++ W)) with-same i)

            pub with-found : (mode : Mode) (W V : Table) (v : Subst) (b : Bool)
                → IsFoundOf mode W V (items_sought x.asked ps rest after) v b
                → IsFoundOf mode (table_of p t ++ W) (table_of p t ++ V) (items_of_pick x.asked p ps left s r) v b
            with-found mode W V v b f =
                subst (λ is. IsFoundOf mode (table_of p t ++ W) (table_of p t ++ V) is v b) (sym with-same)
                (front-found (table_of p t) W V mode (items_sought x.asked ps rest after) v b f)
