-- What is known of a right path with one token more.
use Rattle.std.proofs.Common.{◌≡◌, ℕ, ◌+◌, ◌<◌, ◌≤◌, List, [], ◌∷◌, ◌++◌, map, Bool, true, false, refl, ap, sym, ◌∙◌}
use Rattle.std.proofs.Common.{arith, length, drop, reverse}
use Rattle.std.specs.Prelude.{◌&&◌, not, Option, Some, None, option_to_list, MatchOption}
use Rattle.std.proofs.lemmas.List.{map-append, append-nil, reverse-append, nil_from_length}
use Rattle.std.proofs.lemmas.Bool.{and_parts, not-true}
use Rattle.mp_term.specs.Signature.{Sig}
use Rattle.mp_pattern.specs.NetTokens.{NetToken}
use Rattle.mp_pattern.specs.PatternTree.{Wildcard}
use Rattle.mp_walk.specs.SoundTokens.{token_nodes, path_nodes}
use Rattle.mp_walk.specs.Walkable.{Path}
use Rattle.mp_program.specs.TokenPaths.{is_loose_token, enters_comm, is_right_path, open_along}
use Rattle.mp_vm.specs.Known.{is_none, IsGoodPath, Knows}
use Rattle.mp_vm.specs.Looks.{look_wildcard, token_places, with_looks, where_true}
use Rattle.mp_vm.specs.declared.above.Above.{Above}
use Rattle.mp_vm.proofs.PathRules.{wrong-nodes, wrong-looks, more-looks, right-more}
use Rattle.mp_vm.proofs.PathRules.{right-begin, open-front, nodes-one}

none-more : (ks : Path) (k : NetToken) → is_none (ks ++ k ∷ []) ≡ false
none-more [] k = refl
none-more (j ∷ ks) k = refl

-- the token may come behind the path
abbrev pub may_come : Sig → Above → NetToken → Bool
may_come sig a k = not (a.is_first && is_loose_token k) && not (enters_comm sig k)

module _ (sig : Sig) (most : ℕ) (a : Above) (ks : Path) (k : NetToken) (h : Knows sig most a ks) where
  -- so does one with too many nodes
  pub wrong-count : most < a.nodes + token_nodes k → is_right_path sig most (ks ++ k ∷ []) ≡ false
  wrong-count many = wrong-nodes sig most ks k (omega (arith, many, h.nodes))

  module _ (may : may_come sig a k ≡ true) (few : a.nodes + token_nodes k ≤ most) where
    firm : is_none ks ≡ true → is_loose_token k ≡ false
    firm none = by_loose (is_loose_token k) refl
      where
        by_loose : (b : Bool) → is_loose_token k ≡ b → b ≡ false
        by_loose false e = refl
        by_loose true e =
            let both : (a.is_first && is_loose_token k) ≡ true =
            ap (λ f. f && is_loose_token k) (h.first ∙ none) ∙ e in
            let wrong : true ≡ false = sym both
            ∙ not-true (a.is_first && is_loose_token k) (and_parts (not (a.is_first && is_loose_token k)) _ may).0 in cc

    enters : enters_comm sig k ≡ false
    enters = not-true (enters_comm sig k) (and_parts (not (a.is_first && is_loose_token k)) _ may).1

    count : path_nodes ks + token_nodes k ≤ most
    count = omega (arith, few, h.nodes)

    -- the path is right exactly where the wildcards of its variables are
    pub right-come : (b : Bool) (vs : List Wildcard)
        → with_looks (map look_wildcard a.looks.items) (token_places k) ≡ where_true b vs
        → is_right_path sig most (ks ++ k ∷ []) ≡ b
    right-come true vs e =
        right-more sig most ks k (map look_wildcard a.looks.items) h.looks vs h.right firm enters count e
    right-come false vs e = wrong-looks sig most ks k (map look_wildcard a.looks.items) h.looks e

    -- and this is known of it
    pub knows-come : (z : Above) → z.is_first ≡ false → z.nodes ≡ a.nodes + token_nodes k
        → with_looks (map look_wildcard a.looks.items) (token_places k) ≡ Some (map look_wildcard z.looks.items)
        → Knows sig most z (ks ++ k ∷ [])
    knows-come z first nodes e = record {
      right = right-come true (map look_wildcard z.looks.items) e;
      first = first ∙ sym (none-more ks k);
      nodes = omega (arith, nodes, nodes-one ks k, h.nodes);
      looks = more-looks sig most ks k (map look_wildcard a.looks.items) h.looks (map look_wildcard z.looks.items) e;
    }

-- what stands in front of a good path is one
pub good-begin : (sig : Sig) (most : ℕ) (whole : Path) → IsGoodPath sig most whole → (ks js : Path) → ks ++ js ≡ whole
    → IsGoodPath sig most ks
good-begin sig most whole good ks js split =
    let opens = open-front [] ks js good.open_ones (ap (open_along []) split ∙ good.opens) in
    record {
      right = right-begin sig most ks js (ap (is_right_path sig most) split ∙ good.right);
      open_ones = opens.0;
      opens = opens.1;
    }

-- a value that is there is the one
pub true-value : {X : Type 0} (b : Bool) (x y : X) (o : Option X) → o ≡ where_true b x → o ≡ Some y → o ≡ Some x
true-value true x y o e h = e
true-value false x y o e h = (let wrong : None ≡ Some y = sym e ∙ h in cc)

-- the last item is taken away
pub popped : {X : Type 0} (number : X → ℕ) (old new : List X) (m n : ℕ) (o : Option X) → old ≡ new ++ option_to_list o
    → MatchOption o ((m ≡ 0) × (n ≡ 0)) (λ _. n + 1 ≡ m) → n ≡ length new
    → reverse (map number new) ≡ drop 1 (reverse (map number old))
popped number old new m n (Some x) e cases len = sym (ap (drop 1) (ap (λ l. reverse (map number l)) e
    ∙ ap reverse (map-append number new (x ∷ [])) ∙ reverse-append (map number new) (number x ∷ [])))
popped number old new m n None e cases len =
    let nil : new ≡ [] = nil_from_length new (omega (arith, cases.1, len)) in
    ap (λ l. reverse (map number l)) nil
    ∙ sym (ap (λ l. drop 1 (reverse (map number l))) (e ∙ append-nil new ∙ nil))
