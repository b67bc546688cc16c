-- The text of some trees: what stands at a place.
use Rattle.std.proofs.Common.{◌≡◌, ℕ, zero, suc, ◌+◌, ◌<◌, ◌≤◌, List, [], ◌∷◌, ◌++◌, length, get_or, take, drop}
use Rattle.std.proofs.Common.{refl, ap, sym, ◌∙◌, subst, inl, inr, arith, append_assoc}
use Rattle.std.proofs.Common.{true, false}
use Rattle.std.specs.Prelude.{nat_lt}
use Rattle.std.proofs.lemmas.Bool.Decides.{nat_tests}
use Rattle.std.proofs.lemmas.List.{drop_at, get_or-map, take-append-drop}
use Rattle.std.proofs.lemmas.List.{drop_more}
use Rattle.std.proofs.lemmas.List.{drop-drop, take_all, take_more}
use Rattle.mp_term.specs.Listing.{In}
use Rattle.mp_term.specs.Size.{node_count, all_nodes}
use Rattle.mp_term.specs.Tree.{Tree, symbol, trees}
use Rattle.mp_term.proofs.NormalSize.{all_nodes-append}
use Rattle.mp_table.specs.declared.node.Node.{Node}
use Rattle.mp_table.specs.Preorder.{preorder, all_preorder}
use Rattle.mp_table.specs.Subterms.{arguments}
use Rattle.mp_table.specs.Text.{shown, counts, IsText}
use Rattle.mp_table.proofs.PreorderLaws.{preorder_is, node_count_is, length-all_preorder, Begins}
use Rattle.mp_table.proofs.PreorderLaws.{all_begin}

-- the subterm at a place
abbrev pub term_in : List Tree → ℕ → Tree
term_in os i = get_or os i (symbol [])

-- what stands at a place is a member
pub in-place : (xs : List Tree) (i : ℕ) → i < length xs → In (term_in xs i) xs
in-place [] i h = absurd (omega arith)
in-place (x ∷ xs) zero h = inl refl
in-place (x ∷ xs) (suc i) h = inr (in-place xs i (omega arith))

first-is : (xs ys : List Tree) (x : Tree) (i : ℕ) → drop i xs ≡ x ∷ ys → (i < length xs) × (term_in xs i ≡ x)
first-is [] ys x zero e = cc
first-is [] ys x (suc i) e = cc
first-is (z ∷ xs) ys x zero e = let same : z ≡ x = cc in (omega arith, same)
first-is (z ∷ xs) ys x (suc i) e = let r = first-is xs ys x i e in (omega (arith, r.0), r.1)

all_preorder-append : (ts us : List Tree) → all_preorder (ts ++ us) ≡ all_preorder ts ++ all_preorder us
all_preorder-append [] us = refl
all_preorder-append (t ∷ ts) us =
    ap (λ l. preorder t ++ l) (all_preorder-append ts us)
    ∙ sym (append_assoc (preorder t) (all_preorder ts) (all_preorder us))

-- the count of a place
pub count_at : (text : List Node) (i : ℕ) (d : Node) → i < length text
    → (get_or text i d).nodes ≡ get_or (counts text) i 0
count_at text i d h = sym (get_or-map (λ n. n.nodes) text i d 0 h)

module _ (text : List Node) (is : IsText text) where
  abbrev os : List Tree
  os = shown text

  abbrev nodes : List ℕ
  nodes = counts text

  -- the subterms of what stands at a place follow it
  pub begins_at : (i : ℕ) → i < length os → Begins os i (symbol [])
  begins_at i h =
      let P : List Tree → Type 0 = λ l. i < length l → Begins l i (symbol []) in
      subst P (sym is.terms)
      (λ k. all_begin (trees is.roots) i (symbol []) (omega (arith, k, length-all_preorder is.roots))) h

  pub nodes_at : (i : ℕ) → i < length os → get_or nodes i 0 ≡ node_count (term_in os i)
  nodes_at i h = ap (λ ns. get_or ns i 0) is.nodes ∙ get_or-map node_count os i (symbol []) 0 h

  -- an argument begins behind those before it
  pub argument_at : (i : ℕ) → i < length os → (k : ℕ) → k < length (arguments (term_in os i))
      → (i + 1 + all_nodes (take k (arguments (term_in os i))) < length os)
      × (term_in os (i + 1 + all_nodes (take k (arguments (term_in os i)))) ≡ get_or (arguments (term_in os i)) k
      (symbol []))
  argument_at i h k l =
      let t = term_in os i in
      let us = arguments t in
      let before = all_preorder (take k us) in
      let a = get_or us k (symbol []) in
      let b = begins_at i h in
      let behind : drop (i + 1) os ≡ all_preorder us ++ b.0 =
      sym (drop-drop 1 i os) ∙ ap (drop 1) (b.1 ∙ ap (λ l. l ++ b.0) (preorder_is t)) in
      let parts : all_preorder us ≡ before ++ all_preorder (drop k us) =
      ap all_preorder (sym (take-append-drop k us)) ∙ all_preorder-append (take k us) (drop k us) in
      let there : drop (i + 1 + all_nodes (take k us)) os ≡ all_preorder (drop k us) ++ b.0 =
      sym (drop-drop (all_nodes (take k us)) (i + 1) os)
      ∙ ap (drop (all_nodes (take k us))) (behind ∙ ap (λ l. l ++ b.0) parts ∙ append_assoc before (all_preorder (drop
      k us)) b.0)
      ∙ drop_at before (all_preorder (drop k us) ++ b.0) (all_nodes (take k us)) (length-all_preorder (take k us)) in
      let head : all_preorder (drop k us) ++ b.0
      ≡ a ∷ ((all_preorder (arguments a) ++ all_preorder (drop (k + 1) us)) ++ b.0) =
      ap (λ l. all_preorder l ++ b.0) (drop_more us k (symbol []) l)
      ∙ ap (λ l. (l ++ all_preorder (drop (k + 1) us)) ++ b.0) (preorder_is a) in
      first-is os _ a _ (there ∙ head)

  -- While a place is before the end of a subterm, behind the first k of its arguments, the next argument is there.
  pub record IsNext (i k next : ℕ) : Type 0 where
    pub more : k < length (arguments (term_in os i))
    pub within : next < length os
    pub term : term_in os next ≡ get_or (arguments (term_in os i)) k (symbol [])
    pub width : get_or nodes next 0 ≡ node_count (get_or (arguments (term_in os i)) k (symbol []))
    pub after : next + get_or nodes next 0 ≡ i + 1 + all_nodes (take (k + 1) (arguments (term_in os i)))
    pub some : 1 ≤ get_or nodes next 0

  all_nodes-more : (us : List Tree) (k : ℕ) → k < length us
      → all_nodes (take (k + 1) us) ≡ all_nodes (take k us) + node_count (get_or us k (symbol []))
  all_nodes-more us k h =
      ap all_nodes (take_more us k (symbol []) h)
      ∙ all_nodes-append (take k us) (get_or us k (symbol []) ∷ [])
      ∙ ap (λ n. all_nodes (take k us) + n) (alone (get_or us k (symbol [])))
    where
      alone : (t : Tree) → all_nodes (t ∷ []) ≡ node_count t
      alone t = omega arith

  pub is_next : (i k next end : ℕ) → i < length os → end ≡ i + get_or nodes i 0
      → k ≤ length (arguments (term_in os i)) → next ≡ i + 1 + all_nodes (take k (arguments (term_in os i)))
      → next < end → IsNext i k next
  is_next i k next end h e few at less =
      let us = arguments (term_in os i) in
      elim (nat_lt k (length us)) as (λ b. nat_lt k (length us) ≡ b → IsNext i k next) [
        | true ↦ λ b. inside (grind (arith, nat_tests))
        | false ↦ λ b.
            let past : length us ≤ k = grind (arith, nat_tests) in
            let all : all_nodes (take k us) ≡ all_nodes us = ap all_nodes (take_all k us past) in
            absurd (omega (arith, all, at, less, e, nodes_at i h, node_count_is (term_in os i)))
      ] refl
    where
      inside : k < length (arguments (term_in os i)) → IsNext i k next
      inside m =
          let a = argument_at i h k m in
          let there : next < length os = omega (arith, a.0, at) in
          let term : term_in os next ≡ get_or (arguments (term_in os i)) k (symbol []) = ap (term_in os) at ∙ a.1 in
          let wide : get_or nodes next 0 ≡ node_count (get_or (arguments (term_in os i)) k (symbol [])) =
          nodes_at next there ∙ ap node_count term in
          record {
            more = m;
            within = there;
            term = term;
            width = wide;
            after = omega (arith, at, wide, all_nodes-more (arguments (term_in os i)) k m);
            some = omega (arith, wide, node_count_is (get_or (arguments (term_in os i)) k (symbol [])));
          }

  -- A place that isn't before the end is behind all arguments.
  pub all_behind : (i k next end : ℕ) → i < length os → end ≡ i + get_or nodes i 0
      → k ≤ length (arguments (term_in os i)) → next ≡ i + 1 + all_nodes (take k (arguments (term_in os i)))
      → end ≤ next → length (arguments (term_in os i)) ≤ k
  all_behind i k next end h e few at past =
      let us = arguments (term_in os i) in
      elim (nat_lt k (length us)) as (λ b. nat_lt k (length us) ≡ b → length us ≤ k) [
        | true ↦ λ b.
            let m : k < length us = grind (arith, nat_tests) in
            let parts : all_nodes us ≡ all_nodes (take k us) + all_nodes (drop k us) =
            ap all_nodes (sym (take-append-drop k us)) ∙ all_nodes-append (take k us) (drop k us) in
            let left : node_count (get_or us k (symbol [])) ≤ all_nodes (drop k us) =
            rw (drop_more us k (symbol []) m) (omega arith) in
            absurd (omega (
              arith,
              parts,
              left,
              node_count_is (get_or us k (symbol [])),
              at,
              past,
              e,
              nodes_at i h,
              node_count_is (term_in os i),
            ))
        | false ↦ λ b. grind (arith, nat_tests)
      ] refl
