-- Edits of a well formed term that break no number of arguments, with well formed new terms, give well formed terms.
use Rattle.std.proofs.Common.{◌≡◌, ◌∙◌, refl, ap, sym, ℕ, suc, ◌+◌, Bool, true, false, ◌||◌, ◌&&◌, not, cond, arith}
use Rattle.std.proofs.Common.{List, [], ◌∷◌, ◌++◌, length, map, length-append}
use Rattle.std.specs.Prelude.{Option, Some, None, IfSome, slice_get, option_map, option_and_then, find, bytes_eq}
use Rattle.std.specs.Prelude.{nat_lt, unwrap_or}
use Rattle.std.specs.Option.{option_map_or}
use Rattle.std.specs.List.{AllByRecursion, list_any}
use Rattle.std.proofs.lemmas.Bool.{and_parts, and_from, not-false}
use Rattle.std.proofs.lemmas.Bool.Decides.{nat_tests}
use Rattle.std.proofs.lemmas.Slice.Eq.{bytes_eq-Decides}
use Rattle.mp_term.specs.declared.edit.Edit.{Edit}
use Rattle.mp_term.specs.Tree.{Tree, symbol, app, Trees, no_trees, more_trees, tree_list, trees}
use Rattle.mp_term.specs.TreeLists.{tree_list-trees}
use Rattle.mp_term.specs.Positions.{subterm}
use Rattle.mp_term.specs.Signature.{Sig, holds_of, allows, all_in_order, well_formed, all_well_formed}
use Rattle.mp_term.specs.Normal.{normal}
use Rattle.mp_term.specs.Edited.{new_terms, edited_at, edited_args, edited_below, edited}
use Rattle.mp_term.specs.EditFault.{above, is_allowed, breaks, edit_fault}
use Rattle.mp_term.proofs.EditedLaws.{find-none, none-found, length-kept}
use Rattle.mp_term.proofs.EditFaultLaws.{above-argument, or-left, or-right, positive}
use Rattle.mp_term.proofs.ReplaceLaws.{none-breaks}
use Rattle.mp_term.proofs.WellFormedLaws.{well_formed-append}
use Rattle.mp_term.proofs.WellFormedNormal.{wf-normal}

module _ {X : Type 0} (test : X → Bool) where
  found_at : (P : X → Type 0) (x : X) (o : Option X) (b : Bool) → P x → IfSome o P → IfSome (cond b (Some x) o) P
  found_at P x o true h k = h
  found_at P x o false h k = k

  -- what holds of each item holds of the one that is found
  found-holds : (P : X → Type 0) (xs : List X) → AllByRecursion P xs → IfSome (find test xs) P
  found-holds P [] h = tt
  found-holds P (x ∷ xs) h = found_at P x (find test xs) (test x) h.0 (found-holds P xs h.1)

-- one step further down
subterm-further : (p : List ℕ) (t : Tree) (f i : ℕ) (ts : Trees) → subterm t p ≡ Some (app f ts)
    → subterm t (p ++ i ∷ []) ≡ slice_get (tree_list ts) i
subterm-further p t f i ts h = go p t h
  where
    last : (o : Option Tree) → option_and_then (λ (v : Tree). Some v) o ≡ o
    last None = refl
    last (Some v) = refl

    further : (p : List ℕ) (o : Option Tree)
        → ((t : Tree) → subterm t p ≡ Some (app f ts) → subterm t (p ++ i ∷ []) ≡ slice_get (tree_list ts) i)
        → option_and_then (λ t. subterm t p) o ≡ Some (app f ts)
        → option_and_then (λ t. subterm t (p ++ i ∷ [])) o ≡ slice_get (tree_list ts) i
    further p None each h = cc
    further p (Some t) each h = each t h

    go : (p : List ℕ) (t : Tree) → subterm t p ≡ Some (app f ts) → subterm t (p ++ i ∷ []) ≡ slice_get (tree_list ts) i
    go [] t h = let same : t ≡ app f ts = cc in rw same (last (slice_get (tree_list ts) i))
    go (k ∷ p) (symbol n) h = cc
    go (k ∷ p) (app g us) h = further p (slice_get (tree_list us) k) (go p) h

-- the new terms of the edit are well formed
abbrev pub HasFormedTerms : Sig → Edit → Type 0
HasFormedTerms sig e = all_well_formed sig (trees e.terms) ≡ true

module _ (sig : Sig) (t : Tree) (es : List Edit) where
  -- the edit stands at an argument of the application at the position
  abbrev is_below : List ℕ → Edit → Bool
  is_below q e = nat_lt 0 (length e.position) && bytes_eq (above e.position) q

  -- where an edit below it breaks nothing, an application has an allowed number of arguments after all edits
  allowed_at : (q : List ℕ) (f : ℕ) (ts : Trees) (e : Edit) → subterm t q ≡ Some (app f ts) → is_below q e ≡ true
      → breaks sig t es e ≡ false → is_allowed sig t (edited_below es q (app f ts)) ≡ true
  allowed_at q f ts e found here fine =
      let r = and_parts _ _ here in
      let same : above e.position ≡ q = (bytes_eq-Decides (above e.position) q).0 r.1 in
      let none : not (is_allowed sig t (edited_below es q (app f ts))) ≡ false =
      rw (positive (length e.position) r.0, same, found) at fine in
      not-false (is_allowed sig t (edited_below es q (app f ts))) none

  allowed-edited : (q : List ℕ) (f : ℕ) (ts : Trees) → subterm t q ≡ Some (app f ts) → (ds : List Edit)
      → list_any (is_below q) ds ≡ true → list_any (breaks sig t es) ds ≡ false
      → is_allowed sig t (edited_below es q (app f ts)) ≡ true
  allowed-edited q f ts found [] any fine = cc
  allowed-edited q f ts found (e ∷ ds) any fine =
      elim (is_below q e) as (λ b. is_below q e ≡ b → (b || list_any (is_below q) ds) ≡ true
      → is_allowed sig t (edited_below es q (app f ts)) ≡ true) [
        | true ↦ λ here _. allowed_at q f ts e found here
            (or-left (breaks sig t es e) (list_any (breaks sig t es) ds) fine)
        | false ↦ λ _ rest. allowed-edited q f ts found ds rest
            (or-right (breaks sig t es e) (list_any (breaks sig t es) ds) fine)
      ] refl any

  below_here : (q : List ℕ) (i : ℕ) (e : Edit) → bytes_eq e.position (q ++ i ∷ []) ≡ true → is_below q e ≡ true
  below_here q i e h =
      let is : e.position ≡ q ++ i ∷ [] = (bytes_eq-Decides e.position (q ++ i ∷ [])).0 h in
      let count : length e.position ≡ length q + 1 = ap length is ∙ length-append q (i ∷ []) in
      let some : nat_lt 0 (length e.position) ≡ true = grind (arith, nat_tests) in
      and_from _ _ some ((bytes_eq-Decides (above e.position) q).1 (ap above is ∙ above-argument q i))

  one-term : (q : List ℕ) → list_any (is_below q) es ≡ false → (k : ℕ)
      → option_map_or length (new_terms es (q ++ k ∷ [])) 1 ≡ 1
  one-term q none k =
      ap (λ o. option_map_or length (option_map (λ (e : Edit). e.terms) o) 1)
      (find-none (is_below q) (λ (e : Edit). bytes_eq e.position (q ++ k ∷ [])) (below_here q k) es
      (none-found (is_below q) es none))

  module _ (fine : list_any (breaks sig t es) es ≡ false) (each : AllByRecursion (HasFormedTerms sig) es) where
    allowed-arguments : (q : List ℕ) (f : ℕ) (ts : Trees) → subterm t q ≡ Some (app f ts)
        → holds_of (allows (length (tree_list ts))) (slice_get sig.ops f) ≡ true
        → is_allowed sig t (edited_below es q (app f ts)) ≡ true
    allowed-arguments q f ts found h =
        elim (list_any (is_below q) es) as (λ b. list_any (is_below q) es ≡ b
        → is_allowed sig t (edited_below es q (app f ts)) ≡ true) [
          | true ↦ λ any. allowed-edited q f ts found es any fine
          | false ↦ λ none.
              ap (λ n. holds_of (allows n) (slice_get sig.ops f))
              (ap length (tree_list-trees (edited_args es q 0 ts)) ∙ length-kept es q 0 ts (one-term q none)) ∙ h
        ] refl

    put_in-formed : (o : Option (List Tree)) (v : Tree) → IfSome o (λ ts. all_well_formed sig (trees ts) ≡ true)
        → well_formed sig v ≡ true → all_well_formed sig (trees (unwrap_or o (v ∷ []))) ≡ true
    put_in-formed None v k h = and_from _ _ h refl
    put_in-formed (Some ts) v k h = k

    terms-formed : (o : Option Edit) → IfSome o (HasFormedTerms sig)
        → IfSome (option_map (λ (e : Edit). e.terms) o) (λ ts. all_well_formed sig (trees ts) ≡ true)
    terms-formed None h = tt
    terms-formed (Some e) h = h

    -- what stands at a position is well formed, where the tree there with the edits below it is
    formed-here : (q : List ℕ) (v : Tree) → well_formed sig (edited_below es q v) ≡ true
        → all_well_formed sig (trees (edited_at es q v)) ≡ true
    formed-here q v h =
        let at = λ (e : Edit). bytes_eq e.position q in
        put_in-formed (new_terms es q) (edited_below es q v)
        (terms-formed (find at es) (found-holds at (HasFormedTerms sig) es each)) h

    mutual
      formed-below : (q : List ℕ) (v : Tree) → subterm t q ≡ Some v → well_formed sig v ≡ true
          → well_formed sig (edited_below es q v) ≡ true
      formed-below q (symbol n) found h = refl
      formed-below q (app f ts) found h =
          let r = and_parts _ _ h in
          and_from _ _ (allowed-arguments q f ts found r.0)
          (formed-arguments q 0 ts r.1 (λ i v at. ap (λ k. subterm t (q ++ k ∷ [])) (omega arith)
          ∙ subterm-further q t f i ts found ∙ at))

      formed-arguments : (q : List ℕ) (k : ℕ) (ts : Trees) → all_well_formed sig ts ≡ true
          → ((i : ℕ) (v : Tree) → slice_get (tree_list ts) i ≡ Some v → subterm t (q ++ (k + i) ∷ []) ≡ Some v)
          → all_well_formed sig (trees (edited_args es q k ts)) ≡ true
      formed-arguments q k no_trees h at = refl
      formed-arguments q k (more_trees v ts) h at =
          let r = and_parts _ _ h in
          let here : subterm t (q ++ k ∷ []) ≡ Some v =
          ap (λ m. subterm t (q ++ m ∷ [])) (omega arith) ∙ at 0 v refl in
          well_formed-append sig (edited_at es (q ++ k ∷ []) v) (edited_args es q (suc k) ts)
          ∙ and_from _ _ (formed-here (q ++ k ∷ []) v (formed-below (q ++ k ∷ []) v here r.0))
          (formed-arguments q (suc k) ts r.1 (λ i w e. ap (λ m. subterm t (q ++ m ∷ [])) (omega arith)
          ∙ at (suc i) w e))

  formed-edited : edit_fault sig t es ≡ None → well_formed sig t ≡ true → AllByRecursion (HasFormedTerms sig) es
      → all_well_formed sig (trees (edited es t)) ≡ true
  formed-edited none h each =
      let fine = none-breaks sig t es none in
      formed-here fine each [] t (formed-below fine each [] t refl h)

formed_single : (sig : Sig) → all_in_order sig.ops ≡ true → (ts : List Tree) (u : Tree)
    → all_well_formed sig (trees ts) ≡ true → map (normal sig) ts ≡ u ∷ [] → well_formed sig u ≡ true
formed_single sig ordered [] u h is = cc
formed_single sig ordered (t ∷ ts) u h is =
    let same : normal sig t ≡ u = cc in ap (well_formed sig) (sym same) ∙ wf-normal sig ordered t (and_parts _ _ h).0

-- the normal form of what edits give is well formed
pub formed-result : (sig : Sig) (t : Tree) (es : List Edit) (u : Tree) → all_in_order sig.ops ≡ true
    → edit_fault sig t es ≡ None → map (normal sig) (edited es t) ≡ u ∷ [] → well_formed sig t ≡ true
    → AllByRecursion (HasFormedTerms sig) es → well_formed sig u ≡ true
formed-result sig t es u ordered none is h each =
    formed_single sig ordered (edited es t) u (formed-edited sig t es none h each) is
