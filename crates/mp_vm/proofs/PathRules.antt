-- Right paths token by token.
use Rattle.std.proofs.Common.{◌≡◌, ℕ, ◌+◌, ◌<◌, ◌≤◌, List, [], ◌∷◌, ◌++◌, map, Bool, true, false, refl, ap, sym, ◌∙◌}
use Rattle.std.proofs.Common.{subst, arith}
use Rattle.std.specs.Prelude.{◌||◌, not, Option, Some, None, nat_le}
use Rattle.std.specs.List.{list_any}
use Rattle.std.proofs.lemmas.Bool.{and_parts, and_from, or_parts, or_from, not-true}
use Rattle.std.proofs.lemmas.Bool.{not_from_false, leb-true, le-leb, false_from_ne_true}
use Rattle.std.proofs.lemmas.Grind.{flat_map-append}
use Rattle.std.proofs.lemmas.List.{append-nil}
use Rattle.std.proofs.lemmas.List.Folds.{list_any-append}
use Rattle.mp_term.specs.Signature.{Sig}
use Rattle.mp_pattern.specs.NetTokens.{NetToken}
use Rattle.mp_pattern.specs.PatternTree.{Wildcard}
use Rattle.mp_walk.specs.SoundTokens.{token_nodes, path_nodes}
use Rattle.mp_walk.specs.Walkable.{Path}
use Rattle.mp_walk.proofs.PathLaws.{path_nodes-append}
use Rattle.mp_program.specs.TokenPaths.{is_loose_token, has_plain_root, enters_comm, token_uses, path_uses}
use Rattle.mp_program.specs.TokenPaths.{is_right_path, open_after, open_along}
use Rattle.mp_program.proofs.PathLaws.{root-front}
use Rattle.mp_vm.specs.Known.{is_none}
use Rattle.mp_vm.specs.Looks.{placed, with_looks, token_places, HasLooks}
use Rattle.mp_vm.proofs.LookLaws.{are_right_uses, right-front, no-looks, right-looks, with-looks, keeps-looks}
use Rattle.mp_vm.proofs.LookLaws.{placed-token_uses}

-- ---- one token more

root-more : (ks : Path) (k : NetToken) → is_none ks ≡ false → has_plain_root (ks ++ k ∷ []) ≡ has_plain_root ks
root-more [] k h = cc
root-more (j ∷ ks) k h = refl

none-is : (ks : Path) → is_none ks ≡ true → ks ≡ []
none-is [] h = refl
none-is (k ∷ ks) h = cc

uses-more : (ks js : Path) → path_uses (ks ++ js) ≡ path_uses ks ++ path_uses js
uses-more ks js = flat_map-append token_uses ks js

uses-one : (ks : Path) (k : NetToken) → path_uses (ks ++ k ∷ []) ≡ path_uses ks ++ token_uses k
uses-one ks k = uses-more ks (k ∷ []) ∙ ap (λ us. path_uses ks ++ us) (append-nil (token_uses k))

pub nodes-one : (ks : Path) (k : NetToken) → path_nodes (ks ++ k ∷ []) ≡ path_nodes ks + token_nodes k
nodes-one ks k = omega (arith, path_nodes-append ks (k ∷ []))

-- what no token opens
pub open-more : (fs : List ℕ) (ks : Path) (gs : List ℕ) (k : NetToken) → open_along fs ks ≡ Some gs
    → open_along fs (ks ++ k ∷ []) ≡ open_after gs k
open-more fs [] gs k h = by_open (open_after fs k) ∙ ap (λ hs. open_after hs k) (let e : fs ≡ gs = cc in e)
  where
    by_open : (o : Option (List ℕ)) → (elim o as (λ _. Option (List ℕ)) [ None ↦ None | Some hs ↦ Some hs ]) ≡ o
    by_open None = refl
    by_open (Some hs) = refl
open-more fs (j ∷ ks) gs k h = by_open (open_after fs j) h (λ hs e. open-more hs ks gs k e)
  where
    by_open : (o : Option (List ℕ))
        → (elim o as (λ _. Option (List ℕ)) [ None ↦ None | Some hs ↦ open_along hs ks ]) ≡ Some gs
        → ((hs : List ℕ) → open_along hs ks ≡ Some gs → open_along hs (ks ++ k ∷ []) ≡ open_after gs k)
        → (elim o as (λ _. Option (List ℕ)) [ None ↦ None | Some hs ↦ open_along hs (ks ++ k ∷ []) ]) ≡ open_after gs k
    by_open None h go = cc
    by_open (Some hs) h go = go hs h

-- where something is known of all tokens, it is of the first ones
pub open-front : (fs : List ℕ) (ks js : Path) (gs : List ℕ) → open_along fs (ks ++ js) ≡ Some gs
    → (hs : List ℕ) × (open_along fs ks ≡ Some hs)
open-front fs [] js gs h = (fs, refl)
open-front fs (k ∷ ks) js gs h = by_open (open_after fs k) h (λ hs e. open-front hs ks js gs e)
  where
    by_open : (o : Option (List ℕ))
        → (elim o as (λ _. Option (List ℕ)) [ None ↦ None | Some hs ↦ open_along hs (ks ++ js) ]) ≡ Some gs
        → ((hs : List ℕ) → open_along hs (ks ++ js) ≡ Some gs → (is : List ℕ) × (open_along hs ks ≡ Some is))
        → (is : List ℕ) × ((elim o as (λ _. Option (List ℕ)) [ None ↦ None | Some hs ↦ open_along hs ks ]) ≡ Some is)
    by_open None h go = cc
    by_open (Some hs) h go = go hs h

module _ (sig : Sig) (most : ℕ) where
  -- what a right path has
  pub record HasParts (ks : Path) : Type 0 where
    pub root : has_plain_root ks ≡ true
    pub enters : list_any (enters_comm sig) ks ≡ false
    pub nodes : path_nodes ks ≤ most
    pub uses : are_right_uses (path_uses ks) ≡ true

  pub right-parts : (ks : Path) → is_right_path sig most ks ≡ true → HasParts ks
  right-parts ks h =
      let a = and_parts (has_plain_root ks) _ h in
      let b = and_parts (not (list_any (enters_comm sig) ks)) _ a.1 in
      let c = and_parts (nat_le (path_nodes ks) most) _ b.1 in
      record {
        root = a.0;
        enters = not-true (list_any (enters_comm sig) ks) b.0;
        nodes = leb-true (path_nodes ks) most c.0;
        uses = c.1;
      }

  parts-right : (ks : Path) → HasParts ks → is_right_path sig most ks ≡ true
  parts-right ks h =
      and_from (has_plain_root ks) _ h.root
      (and_from (not (list_any (enters_comm sig) ks)) _ (not_from_false (list_any (enters_comm sig) ks) h.enters)
      (and_from (nat_le (path_nodes ks) most) _ (le-leb (path_nodes ks) most h.nodes) h.uses))

  -- no token is a right path
  pub right-none : is_right_path sig most [] ≡ true
  right-none = parts-right []
      (record { root = refl; enters = refl; nodes = omega arith; uses = right-looks [] [] no-looks })

  -- a right path begins with right ones
  pub right-begin : (ks js : Path) → is_right_path sig most (ks ++ js) ≡ true → is_right_path sig most ks ≡ true
  right-begin ks js h =
      let p = right-parts (ks ++ js) h in
      parts-right ks (record {
        root = root-front ks js p.root;
        enters = (or_parts (list_any (enters_comm sig) ks) (list_any (enters_comm sig) js)
            (sym (list_any-append (enters_comm sig) ks js) ∙ p.enters)).0;
        nodes = omega (arith, p.nodes, path_nodes-append ks js);
        uses = right-front (path_uses ks) (path_uses js) (ap are_right_uses (sym (uses-more ks js)) ∙ p.uses);
      })

  -- what isn't right with one token more
  wrong-if : (ks : Path) → (HasParts ks → ⊥) → is_right_path sig most ks ≡ false
  wrong-if ks none = false_from_ne_true (is_right_path sig most ks) (λ e. none (right-parts ks e))

  -- too many nodes
  pub wrong-nodes : (ks : Path) (k : NetToken) → most < path_nodes ks + token_nodes k
      → is_right_path sig most (ks ++ k ∷ []) ≡ false
  wrong-nodes ks k many = wrong-if (ks ++ k ∷ []) (λ p. absurd (omega (arith, p.nodes, nodes-one ks k, many)))

  module _ (ks : Path) (k : NetToken) (ws : List Wildcard) (looks : HasLooks (path_uses ks) ws) where
    looks-of : (o : Option (List Wildcard)) → with_looks ws (token_places k) ≡ o
        → with_looks ws (map placed (token_uses k)) ≡ o
    looks-of o e = ap (with_looks ws) (placed-token_uses k) ∙ e

    -- an occurrence that isn't the next one, or not alike
    pub wrong-looks : with_looks ws (token_places k) ≡ None → is_right_path sig most (ks ++ k ∷ []) ≡ false
    wrong-looks e = wrong-if (ks ++ k ∷ []) (λ p. keeps-looks (path_uses ks) ws (token_uses k) looks
        (ap are_right_uses (sym (uses-one ks k)) ∙ p.uses) (looks-of None e))

    -- the wildcards with one token more
    pub more-looks : (vs : List Wildcard) → with_looks ws (token_places k) ≡ Some vs
        → HasLooks (path_uses (ks ++ k ∷ [])) vs
    more-looks vs e = subst (λ us. HasLooks us vs) (sym (uses-one ks k))
        (with-looks (path_uses ks) ws (token_uses k) vs looks (looks-of (Some vs) e))

    -- a right path with one token more
    pub right-more : (vs : List Wildcard) → is_right_path sig most ks ≡ true
        → (is_none ks ≡ true → is_loose_token k ≡ false) → enters_comm sig k ≡ false
        → path_nodes ks + token_nodes k ≤ most → with_looks ws (token_places k) ≡ Some vs
        → is_right_path sig most (ks ++ k ∷ []) ≡ true
    right-more vs right firm enters few e =
        let p = right-parts ks right in
        parts-right (ks ++ k ∷ []) (record {
          root = by_none (is_none ks) refl p.root;
          enters = list_any-append (enters_comm sig) ks (k ∷ [])
              ∙ or_from (list_any (enters_comm sig) ks) (enters_comm sig k || false) p.enters
              (or_from (enters_comm sig k) false enters refl);
          nodes = omega (arith, few, nodes-one ks k);
          uses = right-looks (path_uses (ks ++ k ∷ [])) vs (more-looks vs e);
        })
      where
        by_none : (b : Bool) → is_none ks ≡ b → has_plain_root ks ≡ true → has_plain_root (ks ++ k ∷ []) ≡ true
        by_none true none root = ap (λ js. has_plain_root (js ++ k ∷ [])) (none-is ks none)
            ∙ not_from_false (is_loose_token k) (firm none)
        by_none false none root = root-more ks k none ∙ root
