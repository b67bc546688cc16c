-- What a look at a term by its rank tells.
use Rattle.std.proofs.Common.{◌≡◌, ℕ, List, [], ◌∷◌, true, false, refl, ap, sym, ◌∙◌, subst}
use Rattle.std.specs.Prelude.{Option, Some, None, option_map, IfSome, Bool, ◌&&◌, ◌||◌, not}
use Rattle.std.proofs.lemmas.Bool.{and_parts}
use Rattle.mp_term.specs.NormalTest.{has_head}
use Rattle.std.specs.Option.{unwrap_or}
use Rattle.std.specs.Ordering.{is_eq}
use Rattle.mp_term.specs.Tree.{Tree, symbol, app, trees}
use Rattle.mp_term.specs.Order.{tree_cmp}
use Rattle.mp_term.specs.OrderLaws.{tree_cmp_total, tree_same, nat_same}
use Rattle.mp_term.specs.Pieces.{same}
use Rattle.mp_term.proofs.PiecesLaws.{same-sound, same-itself}
use Rattle.mp_term.specs.Signature.{Sig}
use Rattle.mp_term.proofs.TestLaws.{equal-from}
use Rattle.mp_pattern.specs.Contribution.{contribution, if_several}
use Rattle.mp_pattern.specs.PatternTree.{dot, kind, plus, star, counted, optional, Pattern, symbol_pattern, app_pattern}
use Rattle.mp_pattern.specs.PatternTree.{Wildcard, wild_pattern, Patterns, more_patterns}
use Rattle.mp_pattern.specs.Value.{Form, one_form, seq_form, bag_form, Value, Subst, value_of}
use Rattle.mp_table.specs.Table.{Table, HasRank, HasRanks, IsTable, term_at, terms_at, rank_of, rank_cmp}
use Rattle.mp_table.specs.Subterms.{arguments}
use Rattle.mp_table.proofs.RankLaws.{rank_order, rank_of-found}
use Rattle.mp_table.specs.declared.rank.Rank.{Rank}
use Rattle.mp_subst.specs.Bound.{value_from, AreRanksOf}
use Rattle.mp_theory.specs.Known.{contributed}
use Rattle.mp_theory.specs.MayMatch.{is_alone_in, is_as_known, is_of_its_kind, may_match, each_may_match}
use Rattle.mp_theory.specs.MayMatch.{may_collapse, is_plain}
use Rattle.mp_theory.specs.Machine as machine
use Rattle.mp_theory.specs.Solve.{is_alone}
use Rattle.mp_search.specs.Made.{HasValue}
use Rattle.mp_search.specs.Parts.{IsWild}
use Rattle.mp_search.proofs.Contributions.{contribution-alone, contribution-opened}

-- of a term's contribution the term alone may be all
alone-if_several : (ts : List Tree) (v : Tree) → is_alone_in (unwrap_or (if_several ts) []) v ≡ true → ⊥
alone-if_several [] v e = cc
alone-if_several (t ∷ []) v e = cc
alone-if_several (t ∷ u ∷ ts) v e = cc

pub alone-contribution : (sig : Sig) (f : Option ℕ) (u v : Tree)
    → is_alone_in (unwrap_or (contribution sig f u) []) v ≡ true → same tree_cmp u v ≡ true
alone-contribution sig f u v e =
    elim (is_alone sig f u) as (λ b. is_alone sig f u ≡ b → same tree_cmp u v ≡ true) [
      | true ↦ λ a.
          subst (λ o. is_alone_in (unwrap_or o []) v ≡ true) (contribution-alone sig f u a) e
      | false ↦ λ a.
          absurd (alone-if_several (arguments u) v
          (subst (λ o. is_alone_in (unwrap_or o []) v ≡ true) (contribution-opened sig f u a) e))
    ] refl

module _ (t : Table) (h : IsTable t) where
  -- ranks of one term are one
  pub rank-same : (r s : Rank) → HasRank t r → HasRank t s → same tree_cmp (term_at t r) (term_at t s) ≡ true
      → r.0 ≡ s.0
  rank-same r s k l e =
      nat_same r.0 s.0 (equal-from (rank_cmp r s) (ap is_eq (sym (rank_order t h.ascending r s k l)) ∙ e))

  -- what a bound contributes is the term of one rank alone
  pub value-alone : (sig : Sig) (f : Option ℕ) (m : Form) (w : Option ℕ) (rs : List Rank) (r : Rank) → HasRanks t rs
      → AreRanksOf m w rs → IfSome w (λ g. rank_of t (app g (trees (terms_at t rs))) ≡ None) → HasRank t r
      → is_alone_in (contributed sig f (value_from t m w rs)) (term_at t r) ≡ true
      → (o : Rank) × (rs ≡ o ∷ []) × (w ≡ None) × (o.0 ≡ r.0)
  value-alone sig f one_form None [] r k a n l e = cc
  value-alone sig f one_form None (o ∷ []) r k a n l e =
      (o, refl, refl, rank-same o r k.0 l (alone-contribution sig f (term_at t o) (term_at t r) e))
  value-alone sig f one_form None (o ∷ p ∷ rs) r k a n l e = cc
  value-alone sig f one_form (Some g) rs r k a n l e =
      let u = app g (trees (terms_at t rs)) in
      let i : u ≡ term_at t r = same-sound tree_cmp tree_cmp_total tree_same u (term_at t r)
      (alone-contribution sig f u (term_at t r) e) in
      let j : rank_of t (term_at t r) ≡ Some r.0 = rank_of-found t (term_at t r) h.ascending r l
      (equal-from _ (same-itself tree_cmp tree_cmp_total tree_same (term_at t r))) in
      let wrong : None ≡ Some r.0 = sym n ∙ ap (rank_of t) i ∙ j in
      cc
  value-alone sig f seq_form None [] r k a n l e = cc
  value-alone sig f seq_form None (o ∷ []) r k a n l e = (o, refl, refl, rank-same o r k.0 l e)
  value-alone sig f seq_form None (o ∷ p ∷ rs) r k a n l e = cc
  value-alone sig f seq_form (Some g) rs r k a n l e = absurd a
  value-alone sig f bag_form None [] r k a n l e = cc
  value-alone sig f bag_form None (o ∷ []) r k a n l e = (o, refl, refl, rank-same o r k.0 l e)
  value-alone sig f bag_form None (o ∷ p ∷ rs) r k a n l e = cc
  value-alone sig f bag_form (Some g) rs r k a n l e = absurd a

  -- the rank of a symbol's term
  pub symbol-rank : (n : List ℕ) (o : Option Rank) (r : Rank) → IfSome o (HasRank t) → HasRank t r
      → option_map (term_at t) o ≡ Some (symbol n) → same tree_cmp (symbol n) (term_at t r) ≡ true
      → (s : Rank) × (o ≡ Some s) × (s.0 ≡ r.0)
  symbol-rank n None r k l e i = cc
  symbol-rank n (Some s) r k l e i =
      let j : term_at t s ≡ symbol n = cc in
      (s, refl, rank-same s r k l (subst (λ u. same tree_cmp u (term_at t r) ≡ true) (sym j) i))

told : (sig : Sig) (s : Subst) (f : Option ℕ) (v : Value) (x : List ℕ) (t : Tree) → value_of s x ≡ Some v
    → elim (option_map (contributed sig f) (value_of s x)) [ None ↦ true | Some l ↦ is_alone_in l t ] ≡ true
    → is_alone_in (contributed sig f v) t ≡ true
told sig s f v x t h e = subst
    (λ o. elim (option_map (contributed sig f) o) [ None ↦ true | Some l ↦ is_alone_in l t ] ≡ true) h e

-- what is known of a wildcard is what its variable's value contributes
pub known-value : (sig : Sig) (s : Subst) (f : Option ℕ) (p : Pattern) (v : Value) (t : Tree) → HasValue p s v
    → IsWild p → is_as_known sig s f p t ≡ true → is_alone_in (contributed sig f v) t ≡ true
known-value sig s f (symbol_pattern n) v t h w e = absurd h
known-value sig s f (app_pattern g ps) v t h w e = absurd h
known-value sig s f (wild_pattern u None) v t h w e = absurd h
known-value sig s f (wild_pattern dot (Some x)) v t h w e = told sig s f v x t h e
known-value sig s f (wild_pattern (kind k) (Some x)) v t h w e = told sig s f v x t h e
known-value sig s f (wild_pattern plus (Some x)) v t h w e = told sig s f v x t h e
known-value sig s f (wild_pattern star (Some x)) v t h w e = told sig s f v x t h e
known-value sig s f (wild_pattern (counted n c) (Some x)) v t h w e = told sig s f v x t h e
known-value sig s f (wild_pattern (optional d) (Some x)) v t h w e = absurd w

-- what may match a term is as its parts are
pub match-known : (sig : Sig) (s : Subst) (f : Option ℕ) (p : Pattern) (w : Wildcard) (x : Option (List ℕ)) (t : Tree)
    → p ≡ wild_pattern w x → may_match sig s f p t ≡ true → is_as_known sig s f p t ≡ true
match-known sig s f p w x t e = subst (λ r. may_match sig s f r t ≡ true → is_as_known sig s f r t ≡ true) (sym e)
    (λ h. (and_parts (is_of_its_kind sig w t) _ h).1)

own_arguments : (t : Tree) → arguments t ≡ machine.arguments (t ∷ [])
own_arguments (symbol n) = refl
own_arguments (app f ts) = refl

pub match-children : (sig : Sig) (s : Subst) (f : Option ℕ) (p : Pattern) (g : ℕ) (ps : Patterns) (t : Tree)
    → p ≡ app_pattern g ps → may_collapse sig g ps ≡ false → is_plain sig (Some g) ps ≡ true
    → may_match sig s f p t ≡ true → each_may_match sig s (Some g) ps (arguments t) ≡ true
match-children sig s f p g ps t e c d h = subst (λ ts. each_may_match sig s (Some g) ps ts ≡ true)
    (sym (own_arguments t))
    (below (may_collapse sig g ps) (has_head g t) (is_plain sig (Some g) ps) _ c d
    (subst (λ r. may_match sig s f r t ≡ true) e h))
  where
    below : (a b i j : Bool) → a ≡ false → i ≡ true → (a || (b && (not i || j))) ≡ true → j ≡ true
    below true b i j m n k = cc
    below false false i j m n k = cc
    below false true false j m n k = cc
    below false true true j m n k = k

pub match-first : (sig : Sig) (s : Subst) (f : Option ℕ) (p : Pattern) (ps qs : Patterns) (t : Tree) (ts us : List Tree)
    → qs ≡ more_patterns p ps → us ≡ t ∷ ts → each_may_match sig s f qs us ≡ true
    → (may_match sig s f p t ≡ true) × (each_may_match sig s f ps ts ≡ true)
match-first sig s f p ps qs t ts us e i h =
    let b = and_parts (may_match sig s f p t) _
    (subst (λ rs. each_may_match sig s f rs (t ∷ ts) ≡ true) e
    (subst (λ vs. each_may_match sig s f qs vs ≡ true) i h)) in
    (b.0, b.1)
