-- What a syntactic pattern takes of a tree is the first substitution, and the only one, of its rule's one-list.
use Rattle.std.proofs.Common.{◌≡◌, ◌∙◌, ℕ, List, [], ◌∷◌, Bool, true, false, refl, ap, sym, inl}
use Rattle.std.proofs.Common.{◌<◌, map, length, arith, eqb-true}
use Rattle.std.specs.Prelude.{Option, Some, None, MatchBool, if◌then◌else◌, option_map, slice_get, nat_eq}
use Rattle.mp_term.specs.Normal.{IsNormal}
use Rattle.mp_term.specs.Signature.{Sig}
use Rattle.mp_term.specs.Tree.{Tree, trees}
use Rattle.mp_term.proofs.ListingLaws.{contains-from_in, in-from_contains}
use Rattle.mp_term.proofs.TestLaws.{found-behind}
use Rattle.mp_pattern.specs.Admission.{Rule, meets, Admits}
use Rattle.mp_pattern.specs.Lists.{IsOneList}
use Rattle.mp_pattern.specs.PatternTree.{Pattern, patterns}
use Rattle.mp_pattern.specs.Syntactic.{is_syntactic}
use Rattle.mp_pattern.specs.Value.{Value, one, Subst, same_name, value_of, merge}
use Rattle.mp_theory.specs.Filled.{filled}
use Rattle.mp_theory.specs.OneList.{one_list}
use Rattle.mp_theory.specs.Shape.{shape, of_kinds, takings, table_of}
use Rattle.mp_theory.specs.Solve.{bind, solve}
use Rattle.mp_theory.proofs.FilledLaws.{filled-solve}
use Rattle.mp_theory.proofs.OneListLaws.{one_list-is}
use Rattle.mp_theory.proofs.ShapeLaws.{fits-shape, shape-fits}
use Rattle.mp_cursor.specs.Direct.{taken, all_taken}

-- a variable with a value that isn't one term can't be bound to one
pub bind-unlike : (s : Subst) (x : List ℕ) (v : Value) (t : Tree) → value_of s x ≡ Some v → merge v (one t) ≡ None
    → bind s x (one t) ≡ None
bind-unlike [] x v t e h = cc
bind-unlike (b ∷ s) x v t e h = by_name (same_name b.name x) e (λ q. bind-unlike s x v t q h)
  where
    by_name : (k : Bool) → (if k then Some b.value else value_of s x) ≡ Some v
        → (value_of s x ≡ Some v → bind s x (one t) ≡ None)
        → (if k then option_map (λ w. record { name = b.name; value = w } ∷ s) (merge b.value (one t))
        else option_map (λ r. b ∷ r) (bind s x (one t))) ≡ None
    by_name true q i =
        let same : b.value ≡ v = cc in
        ap (option_map (λ w. record { name = b.name; value = w } ∷ s)) (ap (λ w. merge w (one t)) same ∙ h)
    by_name false q i = ap (option_map (λ r. b ∷ r)) (i q)

-- no pattern takes no tree
pub all_taken-empty : {X Y : Type 0} (sig : Sig) (f : X → Pattern) (xs : List X) (g : Y → Tree) (ys : List Y)
    (s : Subst) (b : Bool) → length xs < 1 → b ≡ nat_eq (length ys) 0
    → let o = all_taken sig (patterns (map f xs)) (trees (map g ys)) s in MatchBool b (o ≡ Some s) (o ≡ None)
all_taken-empty sig f [] g [] s true h e = refl
all_taken-empty sig f [] g [] s false h e = cc
all_taken-empty sig f [] g (y ∷ ys) s true h e =
    absurd (omega (arith, eqb-true (length (y ∷ ys)) 0 (sym e)))
all_taken-empty sig f [] g (y ∷ ys) s false h e = refl
all_taken-empty sig f (x ∷ xs) g ys s b h e = absurd (omega (arith, h))

module _ (sig : Sig) (r : Rule) (t : Tree) (n : IsNormal sig t) (k : is_syntactic sig r.pattern ≡ true)
    (free : r.condition ≡ None) where
  taken-admits : (s : Subst) → taken sig r.pattern t [] ≡ Some s → Admits sig r t s
  taken-admits s e =
      let p = r.pattern in
      let a = found-behind (shape p t) (filled sig p t []) s e in
      let b = found-behind (of_kinds sig p t) (solve sig [] (takings None p t)) s
      (sym (filled-solve sig None p t [] tt k) ∙ a.1) in
      record {
        table = table_of p t;
        fits = shape-fits sig p t s k n a.0 b.0 b.1;
        condition = ap (λ c. meets sig c s) free;
      }

  admits-taken : (s : Subst) → Admits sig r t s → taken sig r.pattern t [] ≡ Some s
  admits-taken s h =
      let p = r.pattern in
      let a = fits-shape sig p t s h.table k h.fits in
      (λ i. if a.0 i then filled sig p t [] else None) ∙ filled-solve sig None p t [] tt k
      ∙ (λ i. if a.1 i then solve sig [] (takings None p t) else None) ∙ a.2

  -- the pattern takes the subject in one way at most
  pub taken-first : taken sig r.pattern t [] ≡ slice_get (one_list sig r t) 0
  taken-first = go (taken sig r.pattern t []) refl (one_list sig r t) (one_list-is sig r t n)
    where
      go : (o : Option Subst) → taken sig r.pattern t [] ≡ o → (ss : List Subst) → IsOneList sig r t ss
          → o ≡ slice_get ss 0
      go None e [] h = refl
      go None e (s ∷ ss) h =
          let found = admits-taken s ((h.exactly s).0 (contains-from_in s (s ∷ ss) (inl refl))) in
          let none : None ≡ Some s = sym e ∙ found in
          cc
      go (Some s) e [] h = absurd (in-from_contains s [] ((h.exactly s).1 (taken-admits s e)))
      go (Some s) e (u ∷ ss) h =
          sym e ∙ admits-taken u ((h.exactly u).0 (contains-from_in u (u ∷ ss) (inl refl)))
