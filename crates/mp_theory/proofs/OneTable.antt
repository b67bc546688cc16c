-- Where each wildcard has a name and none is optional, one table at most fits with a substitution.
use Rattle.std.proofs.Common.{◌≡◌, ℕ, List, [], ◌∷◌, true, false, refl, ap, sym, ◌∙◌, inl, inr, subst}
use Rattle.std.specs.Prelude.{Option, Some, None}
use Rattle.std.proofs.lemmas.Bool.{and_parts}
use Rattle.mp_term.specs.Tree.{Tree, app, trees}
use Rattle.mp_term.specs.Signature.{Sig}
use Rattle.mp_pattern.specs.PatternTree.{Wildcard, dot, kind, plus, star, counted, optional, Pattern}
use Rattle.mp_pattern.specs.PatternTree.{symbol_pattern, app_pattern, wild_pattern, Patterns, no_patterns}
use Rattle.mp_pattern.specs.PatternTree.{more_patterns}
use Rattle.mp_pattern.specs.Value.{Value, one, seq, bag, Subst}
use Rattle.mp_pattern.specs.Fits.{Table, joined, arranged, WildTakes, ByValue, TakesBy, AllTakeBy, Fits}
use Rattle.mp_pattern.specs.Instance.{is_fully_named, all_fully_named}
use Rattle.mp_pattern.specs.EachWildcard.{EachWildcard, AllEachWildcard}
use Rattle.mp_theory.specs.NoOptional.{IsNotOptional, HasNoOptional}
use Rattle.mp_theory.proofs.Instances.{none_left_out}

module _ (sig : Sig) where
  -- a wildcard takes one list at a value
  wild_same : (w : Wildcard) (f : Option ℕ) (v : Value) (l m : List Tree) → IsNotOptional w → WildTakes sig f w v l
      → WildTakes sig f w v m → l ≡ m
  wild_same dot f (one v) l m o h k = let q : Some l ≡ Some m = sym h ∙ k in cc
  wild_same (kind n) f (one v) l m o h k = h.0 ∙ sym k.0
  wild_same plus f (seq ts) l m o h k = h.0 ∙ sym k.0
  wild_same plus f (bag ts) l m o h k = h.0 ∙ sym k.0
  wild_same star f (seq ts) l m o h k = h ∙ sym k
  wild_same star f (bag ts) l m o h k = h ∙ sym k
  wild_same (counted n c) f (seq ts) l m o h k = h.0 ∙ sym k.0
  wild_same (counted n c) f (bag ts) l m o h k = h.0 ∙ sym k.0
  wild_same (optional d) f v l m o h k = absurd o
  wild_same dot f (seq ts) l m o h k = absurd h
  wild_same dot f (bag ts) l m o h k = absurd h
  wild_same (kind n) f (seq ts) l m o h k = absurd h
  wild_same (kind n) f (bag ts) l m o h k = absurd h
  wild_same plus f (one v) l m o h k = absurd h
  wild_same star f (one v) l m o h k = absurd h
  wild_same (counted n c) f (one v) l m o h k = absurd h

  module _ (s : Subst) where
    mutual
      -- so does a pattern, with one table
      takes_same : (p : Pattern) (f : Option ℕ) (l m : List Tree) (T U : Table) → is_fully_named p ≡ true
          → EachWildcard IsNotOptional p → TakesBy sig (ByValue sig s) f p l T → TakesBy sig (ByValue sig s) f p m U
          → (l ≡ m) × (T ≡ U)
      takes_same (symbol_pattern n) f l m T U a o h k =
          let e : l ≡ m = h.0 ∙ sym k.0 in
          (e, h.1 ∙ ap (λ ts. record { terms = ts; collapsed = false } ∷ []) e ∙ sym k.1)
      takes_same (wild_pattern w None) f l m T U a o h k = cc
      takes_same (wild_pattern w (Some x)) f l m T U a o h k =
          let q : Some h.0.0 ≡ Some k.0.0 = sym h.0.1 ∙ k.0.1 in
          let r : k.0.0 ≡ h.0.0 = cc in
          let e : l ≡ m = wild_same w f h.0.0 l m o h.0.2 (subst (λ v. WildTakes sig f w v m) r k.0.2) in
          (e, h.1 ∙ ap (λ ts. record { terms = ts; collapsed = false } ∷ []) e ∙ sym k.1)
      takes_same (app_pattern g ps) f l m T U a o (inl h) (inl k) =
          let i = all_take_same ps g h.takes k.takes h.tables k.tables a o h.children k.children in
          let e : l ≡ m =
          h.node ∙ ap (λ ls. app g (trees (arranged sig (Some g) (joined ls))) ∷ []) i.0 ∙ sym k.node in (
            e,
            h.table ∙ ap (λ ts. record { terms = ts; collapsed = false } ∷ joined h.tables) e
                ∙ ap (λ Ts. record { terms = m; collapsed = false } ∷ joined Ts) i.1 ∙ sym k.table,
          )
      takes_same (app_pattern g ps) f l m T U a o (inl h) (inr k) = let e : true ≡ false =
          sym k.left_out ∙ none_left_out ps k.takes o in cc
      takes_same (app_pattern g ps) f l m T U a o (inr h) k = let e : true ≡ false =
          sym h.left_out ∙ none_left_out ps h.takes o in cc

      all_take_same : (ps : Patterns) (g : ℕ) (ls ms : List (List Tree)) (Ts Us : List Table)
          → all_fully_named ps ≡ true → AllEachWildcard IsNotOptional ps → AllTakeBy sig (ByValue sig s) g ps ls Ts
          → AllTakeBy sig (ByValue sig s) g ps ms Us → (ls ≡ ms) × (Ts ≡ Us)
      all_take_same no_patterns g [] [] [] [] a o h k = (refl, refl)
      all_take_same no_patterns g [] [] [] (U ∷ Us) a o h k = absurd k
      all_take_same no_patterns g [] (m ∷ ms) [] Us a o h k = absurd k
      all_take_same no_patterns g [] ms (T ∷ Ts) Us a o h k = absurd h
      all_take_same no_patterns g (l ∷ ls) ms Ts Us a o h k = absurd h
      all_take_same (more_patterns p ps) g [] ms Ts Us a o h k = absurd h
      all_take_same (more_patterns p ps) g (l ∷ ls) ms [] Us a o h k = absurd h
      all_take_same (more_patterns p ps) g (l ∷ ls) [] (T ∷ Ts) Us a o h k = absurd k
      all_take_same (more_patterns p ps) g (l ∷ ls) (m ∷ ms) (T ∷ Ts) [] a o h k = absurd k
      all_take_same (more_patterns p ps) g (l ∷ ls) (m ∷ ms) (T ∷ Ts) (U ∷ Us) a o h k =
          let b = and_parts (is_fully_named p) (all_fully_named ps) a in
          let i = takes_same p (Some g) l m T U b.0 o.0 h.0 k.0 in
          let j = all_take_same ps g ls ms Ts Us b.1 o.1 h.1 k.1 in
          (ap (λ x. x ∷ ls) i.0 ∙ ap (λ xs. m ∷ xs) j.0, ap (λ V. V ∷ Ts) i.1 ∙ ap (λ Vs. U ∷ Vs) j.1)

  pub fits-same : (p : Pattern) (t : Tree) (s : Subst) (T U : Table) → is_fully_named p ≡ true → HasNoOptional p
      → Fits sig p t s T → Fits sig p t s U → T ≡ U
  fits-same p t s T U a o h k = (takes_same s p None (t ∷ []) (t ∷ []) T U a o h.takes k.takes).1
