-- What holds of the states of a walk over a normal subject, step by step.
use Rattle.std.proofs.Common.{◌≡◌, ℕ, List, [], ◌∷◌, ◌++◌, map, Bool, true, false, refl, ap}
use Rattle.std.proofs.Common.{sym, ◌∙◌, inl, inr, subst, eqb-true}
use Rattle.std.specs.Prelude.{Option, Some, None, option_and_then, ◌||◌, if◌then◌else◌}
use Rattle.std.specs.List.{AllByRecursion}
use Rattle.std.proofs.lemmas.Bool.{and_parts}
use Rattle.mp_term.specs.Listing.{In}
use Rattle.mp_term.specs.NormalTest.{passes}
use Rattle.mp_term.specs.Order.{tree_cmp}
use Rattle.mp_term.specs.Pieces.{is_piece}
use Rattle.mp_term.specs.Signature.{Sig}
use Rattle.mp_term.specs.Tree.{Tree, symbol, app, tree_list}
use Rattle.mp_pattern.specs.Fits.{Entry}
use Rattle.mp_pattern.specs.PatternTree.{Wildcard, Pattern, app_pattern, wild_pattern}
use Rattle.mp_pattern.specs.PatternTree.{Patterns, no_patterns}
use Rattle.mp_pattern.specs.Value.{Subst, same_name}
use Rattle.mp_pattern.specs.Firsts.{add_new, is_known}
use Rattle.mp_pattern.proofs.NameLaws.{same_name-itself}
use Rattle.mp_pattern.specs.Variables.{comm_above}
use Rattle.mp_theory.specs.Frames.{Frame, child}
use Rattle.mp_theory.specs.Machine.{arguments, reads, said}
use Rattle.mp_theory.specs.Solve.{Taken, bind, given, solve}
use Rattle.mp_theory.proofs.Solving.{GivesFinal, bind-final, bind-names, then_some}
use Rattle.mp_theory.proofs.Walk.{choices-exact, fine-piece, fine-without, fine-arguments, fine-single}
use Rattle.mp_theory.proofs.Wildcards.{IsFine, given-final}
use Rattle.mp_ac.specs.CommItems.{NoneTwice, IsTrail}
use Rattle.mp_walk.proofs.ForestLaws.{none-append}
use Rattle.mp_walk.specs.TokenMachine.{Open, rest_of_open, taken_below, entries_for}
use Rattle.mp_walk.specs.TokenMachine.{told}

-- ---- trails

-- names of which none stands twice, and one more unless it is there
none-add_new : (ns : List (List ℕ)) (x : List ℕ) → NoneTwice ns → NoneTwice (add_new same_name ns x)
none-add_new ns x h = by_known (is_known same_name ns x) refl
  where
    known : (ns : List (List ℕ)) → In x ns → is_known same_name ns x ≡ true
    known [] i = absurd i
    known (n ∷ ns) (inl e) = rw (ap (λ z. same_name z x) (sym e) ∙ same_name-itself x) refl
    known (n ∷ ns) (inr i) = rw (known ns i)
        (elim (same_name n x) as (λ b. (b || true) ≡ true) [ true ↦ refl | false ↦ refl ])

    by_known : (b : Bool) → is_known same_name ns x ≡ b → NoneTwice (if b then ns else ns ++ (x ∷ []))
    by_known true e = h
    by_known false e = none-append ns (x ∷ []) h ((λ i. i), tt) (λ y i j. elim j [
      | inl q ↦ (let wrong : false ≡ true = sym e ∙ known ns (subst (λ z. In z ns) q i) in cc)
      | inr k ↦ k
    ])

module _ (sig : Sig) where
  -- what is solved over a trail is a trail
  pub solve-trail : (s : Subst) (ts : List Taken) (r : Subst) → solve sig s ts ≡ Some r → IsTrail sig s
      → AllByRecursion (GivesFinal sig) ts → IsTrail sig r
  solve-trail s [] r e t g = let q : s ≡ r = cc in subst (IsTrail sig) q t
  solve-trail s (k ∷ ts) r e t g =
      let v = then_some (λ w. option_and_then (λ u. solve sig u ts) (bind s k.by.name w))
      (given sig k.by.under k.by.wildcard k.terms) r e in
      let b = then_some (λ u. solve sig u ts) (bind s k.by.name v.0) r v.2 in
      solve-trail b.0 ts r b.2 (record {
        final = bind-final sig s k.by.name v.0 b.0 b.1 t.final (g.0 v.0 v.1);
        distinct = subst NoneTwice (sym (bind-names s k.by.name v.0 b.0 b.1))
            (none-add_new (map (λ b. b.name) s) k.by.name t.distinct);
      }) g.1

-- ---- steps

module _ (sig : Sig) where
  -- what is left to an open operation is fine
  abbrev pub IsFineOpen : Open → Type 0
  IsFineOpen f = IsFine sig f.under f.left

  -- the open operation as a frame without children
  abbrev frame_of : Open → Frame
  frame_of f = record { under = f.under; children = no_patterns; left = f.left; owes = f.owes }

  -- an entry that a child may have is a piece that the child reads
  pub entry-read : (f : Open) (p : Pattern) (e : Entry) → In e (entries_for sig f p)
      → (is_piece tree_cmp (comm_above sig f.under) e.terms f.left ≡ true) × (reads sig p f.under e ≡ true)
  entry-read f p e i = (choices-exact sig p (frame_of f) [] e.terms e.collapsed).0 i

  -- what is left behind it is fine
  pub rest-fine : (f : Open) (p q : Pattern) (e : Entry) → IsFineOpen f → In e (entries_for sig f p)
      → IsFineOpen (rest_of_open q e f)
  rest-fine f p q e h i = fine-without sig f.under e.terms f.left (entry-read f p e i).0 h

  -- what the children of an application take together is fine
  below-fine : (u : Option ℕ) (g : ℕ) (ps : Patterns) (left l : List Tree) (c : Bool) → IsFine sig u left
      → is_piece tree_cmp (comm_above sig u) l left ≡ true
      → reads sig (app_pattern g ps) u (record { terms = l; collapsed = c }) ≡ true
      → IsFine sig (Some g) (if c then l else arguments l)
  below-fine u g ps left [] true h i r = cc
  below-fine u g ps left (t ∷ []) true h i r = fine-single sig (Some g) t (fine-piece sig u (t ∷ []) left i h).pass.0
  below-fine u g ps left (t ∷ v ∷ l) true h i r = cc
  below-fine u g ps left [] false h i r = cc
  below-fine u g ps left (symbol n ∷ []) false h i r = cc
  below-fine u g ps left (app k ts ∷ []) false h i r =
      let pass : passes sig (app k ts) ≡ true = (fine-piece sig u (app k ts ∷ []) left i h).pass.0 in
      subst (λ m. IsFine sig (Some m) (tree_list ts)) (sym (eqb-true g k r)) (fine-arguments sig k ts pass)
  below-fine u g ps left (t ∷ v ∷ l) false h i r = cc

  pub taken_below-fine : (f : Open) (g : ℕ) (ps : Patterns) (e : Entry) → IsFineOpen f
      → In e (entries_for sig f (app_pattern g ps)) → IsFine sig (Some g) (taken_below e)
  taken_below-fine f g ps e h i =
      let k = entry-read f (app_pattern g ps) e i in
      below-fine f.under g ps f.left e.terms e.collapsed h k.0 k.1

  -- what an entry says of a wildcard's variable has a final value
  told-final : (f : Open) (w : Wildcard) (x : Option (List ℕ)) (e : Entry) → IsFineOpen f
      → In e (entries_for sig f (wild_pattern w x))
      → AllByRecursion (GivesFinal sig) (said (child (wild_pattern w x) (frame_of f) []) e)
  told-final f w None e h i = tt
  told-final f w (Some x) e h i =
      let k = entry-read f (wild_pattern w (Some x)) e i in (
        λ g q. given-final sig f.under w x e.terms g q (and_parts _ _ (and_parts _ _ k.1).1).1
            (fine-piece sig f.under e.terms f.left k.0 h),
        tt,
      )

  pub told-trail : (f : Open) (w : Wildcard) (x : Option (List ℕ)) (e : Entry) (s r : Subst) → IsFineOpen f
      → In e (entries_for sig f (wild_pattern w x)) → IsTrail sig s → told sig f (wild_pattern w x) e s ≡ Some r
      → IsTrail sig r
  told-trail f w x e s r h i t q =
      solve-trail sig s (said (child (wild_pattern w x) (frame_of f) []) e) r q t (told-final f w x e h i)
