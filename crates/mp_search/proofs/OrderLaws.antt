-- What is left to each frame stays normal and in order.
use Rattle.std.proofs.Common.{◌≡◌, Bool, true, false, List, [], ◌∷◌, sym, subst}
use Rattle.std.specs.Prelude.{Some, if◌then◌else◌}
use Rattle.std.specs.List.{AllByRecursion}
use Rattle.mp_term.specs.Tree.{Tree, symbol, app, tree_list}
use Rattle.mp_term.specs.Signature.{Sig}
use Rattle.mp_term.specs.Order.{tree_cmp}
use Rattle.mp_term.specs.NormalTest.{passes}
use Rattle.mp_term.specs.Pieces.{is_piece}
use Rattle.mp_term.proofs.PiecesLaws.{sublist-from_piece, all-piece, all-without}
use Rattle.mp_pattern.specs.PatternTree.{Pattern, symbol_pattern, app_pattern, wild_pattern, no_patterns, more_patterns}
use Rattle.mp_pattern.specs.Variables.{comm_above}
use Rattle.mp_pattern.specs.Fits.{Entry, arranged}
use Rattle.mp_theory.specs.Frames.{Frame, Next, ended, refused, child, is_done, settle}
use Rattle.mp_theory.specs.Machine.{entered, taken_out, onward, reads}
use Rattle.mp_theory.specs.Trail.{allows}
use Rattle.mp_search.specs.At.{IsInOrder, AreInOrder}
use Rattle.std.proofs.Common.{eqb-true}
use Rattle.std.proofs.lemmas.Bool.{and_parts}
use Rattle.mp_term.specs.OrderLaws.{tree_cmp_total, tree_same}
use Rattle.mp_theory.proofs.Cuts.{apart-from_piece}
use Rattle.mp_theory.proofs.Wildcards.{put-single, arguments-in_order}
use Rattle.mp_theory.proofs.Walk.{fine-arguments}

module _ (sig : Sig) where
  order-settle : (fs : List Frame) → AllByRecursion (IsInOrder sig) fs → AreInOrder sig (settle fs)
  order-settle [] h = tt
  order-settle (f ∷ fs) h =
      elim f.children as
      (λ c. AreInOrder sig
      (elim c [
        | no_patterns ↦ if is_done f.left f.owes then settle fs else refused
        | more_patterns p ps ↦ child p (record f { children = ps }) fs
      ])) [
        | no_patterns ↦ elim (is_done f.left f.owes) as (λ b. AreInOrder sig (if b then settle fs else refused))
            [ true ↦ order-settle fs h.1 | false ↦ tt ]
        | more_patterns p ps ↦ (record { pass = h.0.pass; arranged = h.0.arranged }, h.1)
      ]

  -- what an entry that may stand there leaves behind
  order-taken : (p : Pattern) (f : Frame) (e : Entry) → is_piece tree_cmp (comm_above sig f.under) e.terms f.left ≡ true
      → IsInOrder sig f → IsInOrder sig (taken_out p e f)
  order-taken p f e h i = record {
    pass = all-without tree_cmp tree_cmp_total tree_same (λ t. passes sig t ≡ true) e.terms f.left i.pass;
    arranged = (apart-from_piece (comm_above sig f.under) e.terms f.left i.arranged h).rest_in_order;
  }

  pass-piece : (f : Frame) (l : List Tree) → is_piece tree_cmp (comm_above sig f.under) l f.left ≡ true
      → IsInOrder sig f → AllByRecursion (λ t. passes sig t ≡ true) l
  pass-piece f l h i = all-piece tree_cmp tree_cmp_total tree_same (λ t. passes sig t ≡ true) l f.left
      (sublist-from_piece tree_cmp tree_cmp_total tree_same (comm_above sig f.under) l f.left h) i.pass

  -- behind an entry that may stand next
  pub order-onward : (n : Next) (e : Entry) → AreInOrder sig n → allows sig n e ≡ true → AreInOrder sig (onward n e)
  order-onward ended e i h = cc
  order-onward refused e i h = cc
  order-onward (child p f fs) e i h =
      let k = and_parts (is_piece tree_cmp (comm_above sig f.under) e.terms f.left) (reads sig p f.under e) h in
      opened p e.terms e.collapsed (order-taken p f e k.0 i.0) (pass-piece f e.terms k.0 i.0) k.1
    where
      opened : (p : Pattern) (l : List Tree) (c : Bool)
          → IsInOrder sig (taken_out p (record { terms = l; collapsed = c }) f)
          → AllByRecursion (λ t. passes sig t ≡ true) l
          → reads sig p f.under (record { terms = l; collapsed = c }) ≡ true
          → AreInOrder sig (onward (child p f fs) (record { terms = l; collapsed = c }))
      opened (symbol_pattern n) l c j a r =
          order-settle (taken_out (symbol_pattern n) (record { terms = l; collapsed = c }) f ∷ fs) (j, i.1)
      opened (wild_pattern w x) l c j a r =
          order-settle (taken_out (wild_pattern w x) (record { terms = l; collapsed = c }) f ∷ fs) (j, i.1)
      opened (app_pattern g ps) [] true j a r = cc
      opened (app_pattern g ps) (t ∷ []) true j a r =
          order-settle
          (entered (app_pattern g ps) (record { terms = t ∷ []; collapsed = true })
          (taken_out (app_pattern g ps) (record { terms = t ∷ []; collapsed = true }) f ∷ fs)) (
            record { pass = a; arranged = put-single (comm_above sig (Some g)) t },
            (j, i.1),
          )
      opened (app_pattern g ps) (t ∷ u ∷ l) true j a r = cc
      opened (app_pattern g ps) [] false j a r = cc
      opened (app_pattern g ps) (symbol n ∷ []) false j a r = cc
      opened (app_pattern g ps) (app k ts ∷ []) false j a r =
          let fine = fine-arguments sig k ts a.0 in
          order-settle
          (entered (app_pattern g ps) (record { terms = app k ts ∷ []; collapsed = false })
          (taken_out (app_pattern g ps) (record { terms = app k ts ∷ []; collapsed = false }) f ∷ fs)) (
            record {
              pass = fine.pass;
              arranged = subst (λ m. arranged sig (Some m) (tree_list ts) ≡ tree_list ts) (sym (eqb-true g k r))
                  (arguments-in_order sig k ts a.0);
            },
            (j, i.1),
          )
      opened (app_pattern g ps) (t ∷ u ∷ l) false j a r = cc

  -- before the first child
  pub order-start : (f : Frame) → IsInOrder sig f → AreInOrder sig (settle (f ∷ []))
  order-start f h = order-settle (f ∷ []) (h, tt)
