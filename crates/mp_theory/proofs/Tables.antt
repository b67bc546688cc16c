-- `tables` lists exactly the tables with the shape, strictly ascending.
use Rattle.std.proofs.Common.{◌≡◌, ℕ, ◌+◌, List, [], ◌∷◌, ◌++◌, map, Bool, true, false, refl, ap, sym, ◌∙◌, ◌⊎◌, inl}
use Rattle.std.proofs.Common.{inr, subst, length, append_assoc, append-nil, arith}
use Rattle.std.specs.Prelude.{Some, None, ◌↔◌, if◌then◌else◌}
use Rattle.std.specs.declared.cmp.Ordering.TheVariants.{Less}
use Rattle.std.specs.Cmp.{IsTotalOrder, bool_cmp_total}
use Rattle.std.specs.Ordering.{ordering_then, bool_cmp}
use Rattle.std.specs.List.Sorted.{IsStrictlySortedBy}
use Rattle.std.proofs.lemmas.Cmp.{tied_itself, on_total, then_total}
use Rattle.std.proofs.lemmas.List.Kept.{IsStrictlySortedBy-filter}
use Rattle.mp_term.specs.Tree.{Tree}
use Rattle.mp_term.specs.Order.{tree_cmp, shortlex}
use Rattle.mp_term.specs.OrderLaws.{tree_cmp_total, tree_same, shortlex_total}
use Rattle.mp_term.specs.Signature.{Sig}
use Rattle.mp_pattern.specs.PatternTree.{Pattern, symbol_pattern, app_pattern, wild_pattern, no_patterns, more_patterns}
use Rattle.mp_pattern.specs.Size.{pattern_nodes, all_pattern_nodes}
use Rattle.mp_pattern.specs.Variables.{Use, uses, all_uses, comm_above}
use Rattle.mp_pattern.specs.Fits.{Table}
use Rattle.mp_pattern.specs.DerivationOrder.{entry_cmp, table_cmp}
use Rattle.mp_theory.specs.Frames.{Frame, Next, ended, refused, child, is_done, settle, start}
use Rattle.mp_term.specs.Search.{In, words, Accepts}
use Rattle.mp_term.specs.Pieces.{pieces}
use Rattle.mp_theory.specs.Machine.{entries, is_ended, entered, taken_out, onward, takes, reads, choices, HasShape}
use Rattle.mp_theory.specs.Machine.{tables}
use Rattle.mp_term.proofs.SearchLaws.{ascending-flat, words-complete, words-sound, words-ascending}
use Rattle.mp_term.proofs.PiecesLaws.{pieces-ascending}

-- the derivation order is total on entries
pub entry_cmp_total : IsTotalOrder entry_cmp
entry_cmp_total = then_total (on_total (λ e. e.terms) (shortlex_total tree_cmp_total))
    (on_total (λ e. e.collapsed) bool_cmp_total)

-- the nodes and the uses of variables that are still to come
abbrev nodes_in : List Frame → ℕ
nodes_in [] = 0
nodes_in (f ∷ fs) = all_pattern_nodes f.children + nodes_in fs

abbrev uses_in : List Frame → List Use
uses_in [] = []
uses_in (f ∷ fs) = all_uses f.under f.children ++ uses_in fs

abbrev pub nodes_at : Next → ℕ
nodes_at (child p f fs) = pattern_nodes p + nodes_in (f ∷ fs)
nodes_at _ = 0

abbrev pub uses_at : Next → List Use
uses_at (child p f fs) = uses f.under p ++ uses_in (f ∷ fs)
uses_at _ = []

-- the place has the nodes and the uses of the frames
record IsSettled (fs : List Frame) (n : Next) : Type 0 where
  nodes : nodes_at n ≡ nodes_in fs
  same_uses : uses_at n ≡ uses_in fs

abbrev IsRefusedOr : List Frame → Next → Type 0
IsRefusedOr fs n = (n ≡ refused) ⊎ IsSettled fs n

-- frames settle to a refusal or to a place with their nodes and uses
settled : (fs : List Frame) → (settle fs ≡ refused) ⊎ IsSettled fs (settle fs)
settled [] = inr (record { nodes = refl; same_uses = refl })
settled (f ∷ fs) =
    elim f.children as
    (λ c. IsRefusedOr (record f { children = c } ∷ fs)
    (elim c [
      | no_patterns ↦ if is_done f.left f.owes then settle fs else refused
      | more_patterns p ps ↦ child p (record f { children = ps }) fs
    ])) [
      | no_patterns ↦ elim (is_done f.left f.owes) as
          (λ b. IsRefusedOr (record f { children = no_patterns } ∷ fs) (if b then settle fs else refused)) [
            | true ↦
                elim (settled fs) [
                  | inl e ↦ inl e
                  | inr h ↦
                      inr (record { nodes = omega (arith, h.nodes); same_uses = h.same_uses })
                ]
            | false ↦ inl refl
          ]
      | more_patterns p ps ↦
          inr (record
          { nodes = omega arith; same_uses = sym (append_assoc (uses f.under p) (all_uses f.under ps) (uses_in fs)) })
    ]

module _ (sig : Sig) where
  -- the table is accepted from the place on
  abbrev Accepted : Next → Table → Type 0
  Accepted = Accepts (choices sig) onward is_ended

  -- what is read of the table accounts for the nodes and the uses
  pub record Accounts (n : Next) (T : Table) : Type 0 where
    pub nodes : length T ≡ nodes_at n
    pub same_uses : map (λ t. t.by) (takes n T) ≡ uses_at n

  -- nothing is accepted after a refusal
  refused_none : (T : Table) → Accepted refused T → ⊥
  refused_none [] h = cc
  refused_none (e ∷ T) h = h.0

  pub accounts-settled : (gs : List Frame) (T : Table) → Accepted (settle gs) T → Accounts (settle gs) T
      → (length T ≡ nodes_in gs) × (map (λ t. t.by) (takes (settle gs) T) ≡ uses_in gs)
  accounts-settled gs T a h =
      elim (settled gs) [
        | inl e ↦ absurd (refused_none T (subst (λ n. Accepted n T) e a))
        | inr k ↦ (h.nodes ∙ k.nodes, h.same_uses ∙ k.same_uses)
      ]

  -- an accepted table accounts for the place
  pub accounts : (n : Next) (T : Table) → Accepted n T → Accounts n T
  accounts ended [] a = record { nodes = refl; same_uses = refl }
  accounts refused [] a = cc
  accounts (child p f fs) [] a = cc
  accounts ended (e ∷ T) a = absurd a.0
  accounts refused (e ∷ T) a = absurd a.0
  accounts (child (symbol_pattern n) f fs) (e ∷ T) a =
      let i = accounts-settled (taken_out (symbol_pattern n) e f ∷ fs) T a.1
      (accounts (onward (child (symbol_pattern n) f fs) e) T a.1) in
      record { nodes = omega (arith, i.0); same_uses = i.1 }
  accounts (child (wild_pattern w None) f fs) (e ∷ T) a =
      let i = accounts-settled (taken_out (wild_pattern w None) e f ∷ fs) T a.1
      (accounts (onward (child (wild_pattern w None) f fs) e) T a.1) in
      record { nodes = omega (arith, i.0); same_uses = i.1 }
  accounts (child (wild_pattern w (Some x)) f fs) (e ∷ T) a =
      let i = accounts-settled (taken_out (wild_pattern w (Some x)) e f ∷ fs) T a.1
      (accounts (onward (child (wild_pattern w (Some x)) f fs) e) T a.1) in
      record {
        nodes = omega (arith, i.0);
        same_uses = ap (λ us. record { name = x; wildcard = w; under = f.under } ∷ us) i.1;
      }
  accounts (child (app_pattern g ps) f fs) (e ∷ T) a =
      let i = accounts-settled (entered (app_pattern g ps) e (taken_out (app_pattern g ps) e f ∷ fs)) T a.1
      (accounts (onward (child (app_pattern g ps) f fs) e) T a.1) in
      record { nodes = omega (arith, i.0); same_uses = i.1 }

  -- so a table with the shape has an entry for each node, and its takes are the uses of the variables
  pub shape-accounts : (p : Pattern) (t : Tree) (T : Table) → HasShape sig p t T
      → (length T ≡ pattern_nodes p) × (map (λ t. t.by) (takes (settle (start p t)) T) ≡ uses None p)
  shape-accounts p t T h = let i = accounts (settle (start p t)) T h in
      (omega (arith, i.nodes), i.same_uses ∙ append-nil (uses None p))

  -- the tables are exactly those with the shape
  pub tables-exact : (p : Pattern) (t : Tree) (T : Table) → In T (tables sig p t) ↔ HasShape sig p t T
  tables-exact p t T = (
    λ h. (words-sound (choices sig) onward is_ended (pattern_nodes p) (settle (start p t)) T h).1,
    λ h. subst (λ n. In T (words (choices sig) onward is_ended n (settle (start p t)))) (shape-accounts p t T h).0
        (words-complete (choices sig) onward is_ended (settle (start p t)) T h),
  )

  -- entries, choices and tables ascend
  pub entries-ascending : (ls : List (List Tree)) → IsStrictlySortedBy (shortlex tree_cmp) ls
      → IsStrictlySortedBy entry_cmp (entries ls)
  unfolding IsStrictlySortedBy
  entries-ascending ls h =
      ascending-flat (shortlex tree_cmp) entry_cmp
      (λ l. record { terms = l; collapsed = false } ∷ record { terms = l; collapsed = true } ∷ []) ls h
      (λ l. ((marked l, tt), (tt, tt)))
      (λ l m e. (
        (before l m false false e, (before l m false true e, tt)),
        ((before l m true false e, (before l m true true e, tt)), tt),
      ))
    where
      marked : (l : List Tree) → entry_cmp (record { terms = l; collapsed = false })
          (record { terms = l; collapsed = true }) ≡ Less
      marked l = ap (λ o. ordering_then o (bool_cmp false true)) (tied_itself (shortlex_total tree_cmp_total) l)

      before : (l m : List Tree) (b c : Bool) → shortlex tree_cmp l m ≡ Less
          → entry_cmp (record { terms = l; collapsed = b }) (record { terms = m; collapsed = c }) ≡ Less
      before l m b c e = ap (λ o. ordering_then o (bool_cmp b c)) e

  pub choices-ascending : (n : Next) → IsStrictlySortedBy entry_cmp (choices sig n)
  unfolding IsStrictlySortedBy
  choices-ascending ended = tt
  choices-ascending refused = tt
  choices-ascending (child p f fs) = IsStrictlySortedBy-filter entry_cmp (reads sig p f.under)
      (entries (pieces tree_cmp (comm_above sig f.under) f.left))
      (entries-ascending (pieces tree_cmp (comm_above sig f.under) f.left)
      (pieces-ascending tree_cmp tree_cmp_total tree_same (comm_above sig f.under) f.left))

  pub tables-ascending : (p : Pattern) (t : Tree) → IsStrictlySortedBy table_cmp (tables sig p t)
  tables-ascending p t = words-ascending (choices sig) onward is_ended entry_cmp entry_cmp_total choices-ascending
      (pattern_nodes p) (settle (start p t))
