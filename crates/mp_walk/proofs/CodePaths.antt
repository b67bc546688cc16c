-- The lists of the forest of a table are the paths of the instructions that accept.
use Rattle.std.proofs.Common.{◌≡◌, ℕ, zero, suc, ◌+◌, ◌<◌, ◌≤◌, List, [], ◌∷◌, ◌++◌, map, length, refl, ap, sym, ◌∙◌}
use Rattle.std.proofs.Common.{◌⊎◌, inl, inr, subst, arith}
use Rattle.std.specs.Prelude.{◌≢◌, Option, Some, None, slice_get, option_to_list, flat_map}
use Rattle.std.proofs.lemmas.List.{append_assoc}
use Rattle.std.proofs.lemmas.Option.{slice_get_past}
use Rattle.mp_term.specs.Listing.{In}
use Rattle.mp_term.specs.Signature.{Sig}
use Rattle.mp_term.proofs.SearchLaws.{in-left, in-right, from_in-append, from_in-map, in-flat}
use Rattle.mp_term.proofs.ListLaws.{some-same}
use Rattle.mp_pattern.specs.NetTokens.{NetToken}
use Rattle.mp_search.proofs.NumberLaws.{in-slice_get}
use Rattle.mp_ac.specs.CommItems.{NoneTwice}
use Rattle.mp_walk.specs.Instrs.{Instr, instr_at, targets}
use Rattle.mp_walk.specs.Forests.{Forest, node, none, beside, lists}
use Rattle.mp_walk.specs.CodeForest.{leaf, forest_within, forest_of, code_forest}
use Rattle.mp_walk.specs.Walkable.{Path, ArePaths, IsWhole, IsWalkable}
use Rattle.mp_walk.proofs.ForestLaws.{none-append, none-left, none-right, none-apart, numbers, numbers-beside}

abbrev Listed : Type 0
Listed = ℕ × Path

-- what stands at an index is no index slice_get_past the list
index-within : {X : Type 0} (xs : List X) (n : ℕ) (x : X) → slice_get xs n ≡ Some x → suc n ≤ length xs
index-within [] n x e = cc
index-within (y ∷ xs) zero x e = omega arith
index-within (y ∷ xs) (suc n) x e = let h = index-within xs n x e in omega arith

pub number-within : (code : List Instr) (n : ℕ) (i : Instr) → instr_at code n ≡ Some i → (1 ≤ n) × (n ≤ length code)
number-within code zero i e = cc
number-within code (suc n) i e = let h = index-within code n i e in (omega arith, omega arith)

none-beyond : (code : List Instr) (n : ℕ) → length code < n → instr_at code n ≡ None
none-beyond code zero h = refl
none-beyond code (suc n) h = slice_get_past code n (omega arith)

-- an instruction is one of the table, and there is one for each number
pub instr-in : (code : List Instr) (n : ℕ) (i : Instr) → instr_at code n ≡ Some i → In i code
instr-in code zero i e = cc
instr-in code (suc n) i e = in-slice_get code n i e

pub instr-there : (code : List Instr) (n : ℕ) → 1 ≤ n → n ≤ length code → (i : Instr) × (instr_at code n ≡ Some i)
instr-there code zero h k = absurd (omega arith)
instr-there code (suc n) h k = there code n (omega arith)
  where
    there : (is : List Instr) (m : ℕ) → m < length is → (i : Instr) × (slice_get is m ≡ Some i)
    there [] m h = absurd (omega arith)
    there (j ∷ is) zero h = (j, refl)
    there (j ∷ is) (suc m) h = there is m (omega arith)

-- each target is a later instruction of the table
abbrev pub IsForward : List Instr → Type 0
IsForward code = (n t : ℕ) (i : Instr) → instr_at code n ≡ Some i → In t (targets i) → (n < t) × (t ≤ length code)

pub down-target : (i : Instr) (t : ℕ) → i.down ≡ Some t → In t (targets i)
down-target i t e = in-left t (option_to_list i.down) (option_to_list i.over) (rw e (inl refl))

pub over-target : (i : Instr) (t : ℕ) → i.over ≡ Some t → In t (targets i)
over-target i t e = in-right t (option_to_list i.down) (option_to_list i.over) (rw e (inl refl))

-- ---- the forest of a target

-- the forest of an instruction, by the forests of its targets
abbrev pub forest_by : ℕ → Instr → Forest NetToken → Forest NetToken → Forest NetToken
forest_by n i down over = beside (node i.token (leaf n i.accepts) down) over

within-none : (d : ℕ) (code : List Instr) → forest_within d code None ≡ none
within-none zero code = refl
within-none (suc d) code = refl

within-beyond : (d : ℕ) (code : List Instr) (n : ℕ) → length code < n → forest_within d code (Some n) ≡ none
within-beyond zero code n h = refl
within-beyond (suc d) code n h = rw (none-beyond code n h, forest_within) refl

within-step : (d : ℕ) (code : List Instr) (n : ℕ) (i : Instr) → instr_at code n ≡ Some i
    → forest_within (suc d) code (Some n) ≡ forest_by n i (forest_within d code i.down) (forest_within d code i.over)
within-step d code n i e = rw (e, forest_within) refl

module _ (code : List Instr) (forward : IsForward code) where
  -- more instructions along a way than there are behind a target make no difference
  enough : (d e n : ℕ) → length code < d + n → length code < e + n
      → forest_within d code (Some n) ≡ forest_within e code (Some n)
  enough zero e n h k = sym (within-beyond e code n (omega arith))
  enough (suc d) zero n h k = within-beyond (suc d) code n (omega arith)
  enough (suc d) (suc e) n h k = by_instr (instr_at code n) refl (λ t g m. enough d e t g m)
    where
      by_instr : (o : Option Instr) → instr_at code n ≡ o
          → ((t : ℕ) → length code < d + t → length code < e + t
          → forest_within d code (Some t) ≡ forest_within e code (Some t))
          → forest_within (suc d) code (Some n) ≡ forest_within (suc e) code (Some n)
      by_instr None p go = rw (p, forest_within) refl
      by_instr (Some i) p go =
          within-step d code n i p
          ∙ ap (λ f. forest_by n i f (forest_within d code i.over)) (by_target i.down (λ t q. down-target i t q))
          ∙ ap (λ f. forest_by n i (forest_within e code i.down) f) (by_target i.over (λ t q. over-target i t q))
          ∙ sym (within-step e code n i p)
        where
          by_target : (o : Option ℕ) → ((t : ℕ) → o ≡ Some t → In t (targets i))
              → forest_within d code o ≡ forest_within e code o
          by_target None g = within-none d code ∙ sym (within-none e code)
          by_target (Some t) g =
              let f = forward n t i p (g t refl) in
              go t (let z : n < t = f.0 in omega arith) (let z : n < t = f.0 in omega arith)

  -- the forest of an instruction is its token with the forest below and the forest beside it
  pub forest-step : (n : ℕ) (i : Instr) → instr_at code n ≡ Some i
      → forest_of code (Some n) ≡ forest_by n i (forest_of code i.down) (forest_of code i.over)
  forest-step n i p =
      let w = number-within code n i p in
      enough (length code) (suc (length code)) n (let z : 1 ≤ n = w.0 in omega arith)
      (let z : 1 ≤ n = w.0 in omega arith)
      ∙ within-step (length code) code n i p

  -- there is no forest where there is no target, and none slice_get_past the table
  pub forest-none : forest_of code None ≡ none
  forest-none = within-none (length code) code

  pub forest-beyond : (n : ℕ) → instr_at code n ≡ None → 1 ≤ n → forest_of code (Some n) ≡ none
  forest-beyond n p h = by_room (length code)
    where
      by_room : (d : ℕ) → forest_within d code (Some n) ≡ none
      by_room zero = refl
      by_room (suc d) = rw (p, forest_within) refl

-- ---- the lists of a forest are paths

module _ (code : List Instr) (before : ℕ → Path) (paths : ArePaths code before) where
  -- instruction m accepts, and its path is what stands above and the list
  pub record IsPathOf (above : Path) (m : ℕ) (ks : Path) : Type 0 where
    pub instr : Instr
    pub held : instr_at code m ≡ Some instr
    pub accepts : instr.accepts ≢ []
    pub path : before m ++ (instr.token ∷ []) ≡ above ++ ks

  from-leaf : (n m : ℕ) (rs : List ℕ) → In m (leaf n rs) → (m ≡ n) × (rs ≢ [])
  from-leaf n m [] h = absurd h
  from-leaf n m (r ∷ rs) (inl e) = (e, λ q. cc)
  from-leaf n m (r ∷ rs) (inr h) = absurd h

  deeper : (above : Path) (k : NetToken) (m : ℕ) (ks js : Path) → js ≡ k ∷ ks → IsPathOf (above ++ k ∷ []) m ks
      → IsPathOf above m js
  deeper above k m ks js e p = record {
    instr = p.instr;
    held = p.held;
    accepts = p.accepts;
    path = p.path ∙ (append_assoc above (k ∷ []) ks ∙ ap (λ z. above ++ z) (sym e));
  }

  pub forest-paths : (d n m : ℕ) (ks : Path) → In {X = Listed} (m, ks) (lists (forest_within d code (Some n)))
      → IsPathOf (before n) m ks
  forest-paths zero n m ks h = absurd h
  forest-paths (suc d) n m ks h = by_instr (instr_at code n) refl h (λ t js i. forest-paths d t m js i)
    where
      Go : Type 0
      Go = (t : ℕ) (js : Path) → In {X = Listed} (m, js) (lists (forest_within d code (Some t)))
          → IsPathOf (before t) m js

      by_target : (t : Option ℕ) (js : Path) → In {X = Listed} (m, js) (lists (forest_within d code t)) → Go
          → (a : ℕ) × (t ≡ Some a) × IsPathOf (before a) m js
      by_target None js i go = absurd (subst (λ f. In {X = Listed} (m, js) (lists f)) (within-none d code) i)
      by_target (Some a) js i go = (a, refl, go a js i)

      by_instr : (o : Option Instr) → instr_at code n ≡ o
          → In {X = Listed} (m, ks) (lists (elim o [
            | None ↦ none
            | Some i ↦ beside (node i.token (leaf n i.accepts) (forest_within d code i.down))
                (forest_within d code i.over)
          ])) → Go → IsPathOf (before n) m ks
      by_instr None held h go = absurd h
      by_instr (Some i) held h go =
          elim (from_in-append (m, ks) (map (λ x. (x, i.token ∷ [])) (leaf n i.accepts))
          (map (λ x. (x.0, i.token ∷ x.1)) (lists (forest_within d code i.down))
          ++ lists (forest_within d code i.over)) h) [
            | inl j ↦
                let a = from_in-map (λ x. (x, i.token ∷ [])) (m, ks) (leaf n i.accepts) j in
                let l = from-leaf n a.0 i.accepts a.2 in
                let p : m ≡ n = ap (λ z. z.0) a.1 ∙ l.0 in
                record {
                  instr = i;
                  held = ap (instr_at code) p ∙ held;
                  accepts = l.1;
                  path = ap (λ z. before z ++ (i.token ∷ [])) p ∙ ap (λ z. before n ++ z) (sym (ap (λ z. z.1) a.1));
                }
            | inr j ↦
                elim (from_in-append (m, ks) (map (λ x. (x.0, i.token ∷ x.1)) (lists (forest_within d code i.down)))
                (lists (forest_within d code i.over)) j) [
                  | inl g ↦
                      let a = from_in-map (λ x. (x.0, i.token ∷ x.1)) (m, ks) (lists (forest_within d code i.down)) g in
                      let listed : In {X = Listed} (m, a.0.1) (lists (forest_within d code i.down)) =
                      subst (λ z. In {X = Listed} (z, a.0.1) (lists (forest_within d code i.down)))
                      (sym (ap (λ z. z.0) a.1)) a.2 in
                      let t = by_target i.down a.0.1 listed go in
                      deeper (before n) i.token m a.0.1 ks (ap (λ z. z.1) a.1)
                      (subst (λ z. IsPathOf z m a.0.1) (paths.down n t.0 i held t.1) t.2)
                  | inr g ↦
                      let t = by_target i.over ks g go in
                      subst (λ z. IsPathOf z m ks) (paths.over n t.0 i held t.1) t.2
                ]
          ]

-- ---- each instruction is reached in one way

-- what a function gives twice comes from one place
one-place : {X Y : Type 0} (f : X → List Y) (xs : List X) (y : Y) (a b : ℕ) (u v : X) → NoneTwice (flat_map f xs)
    → slice_get xs a ≡ Some u → slice_get xs b ≡ Some v → In y (f u) → In y (f v) → a ≡ b
one-place f [] y a b u v h p q i j = cc
one-place f (x ∷ xs) y zero zero u v h p q i j = refl
one-place f (x ∷ xs) y zero (suc b) u v h p q i j =
    absurd (none-apart (f x) (flat_map f xs) h y (subst (λ z. In y (f z)) (sym (some-same x u p)) i)
    (in-flat f v y xs (in-slice_get xs b v q) j))
one-place f (x ∷ xs) y (suc a) zero u v h p q i j =
    absurd (none-apart (f x) (flat_map f xs) h y (subst (λ z. In y (f z)) (sym (some-same x v q)) j)
    (in-flat f u y xs (in-slice_get xs a u p) i))
one-place f (x ∷ xs) y (suc a) (suc b) u v h p q i j =
    ap suc (one-place f xs y a b u v (none-right (f x) (flat_map f xs) h) p q i j)

module _ (code : List Instr) (forward : IsForward code) (once : NoneTwice (flat_map targets code)) where
  -- an instruction that leads to the other
  pub record LeadsTo (p m : ℕ) : Type 0 where
    pub instr : Instr
    pub held : instr_at code p ≡ Some instr
    pub target : In m (targets instr)

  -- the instruction m is reached from the instruction n by k steps
  abbrev Reach : ℕ → ℕ → ℕ → Type 0
  Reach zero n m = n ≡ m
  Reach (suc k) n m = (p : ℕ) × LeadsTo p m × Reach k n p

  one-lead : (p q m : ℕ) → LeadsTo p m → LeadsTo q m → p ≡ q
  one-lead zero q m a b = (let w = a.held in cc)
  one-lead (suc p) zero m a b = (let w = b.held in cc)
  one-lead (suc p) (suc q) m a b =
      ap suc (one-place targets code m p q a.instr b.instr once a.held b.held a.target b.target)

  reach-grows : (k n m : ℕ) → Reach k n m → n ≤ m
  reach-grows zero n m e = subst (λ z. n ≤ z) e (omega arith)
  reach-grows (suc k) n m r =
      let h = reach-grows k n r.0 r.2 in
      let f = (forward r.0 m r.1.instr r.1.held r.1.target).0 in
      omega arith

  reach-first : (k n t m : ℕ) → LeadsTo n t → Reach k t m → Reach (suc k) n m
  reach-first zero n t m l e = (n, subst (LeadsTo n) e l, refl)
  reach-first (suc k) n t m l r = (r.0, r.1, reach-first k n t r.0 l r.2)

  -- of two instructions from which one is reached, one is reached from the other
  comparable : (k j a b m : ℕ) → Reach k a m → Reach j b m → ((i : ℕ) × Reach i a b) ⊎ ((i : ℕ) × Reach i b a)
  comparable zero j a b m r s = inr (j, subst (Reach j b) (sym r) s)
  comparable (suc k) zero a b m r s = inl (suc k, subst (Reach (suc k) a) (sym s) r)
  comparable (suc k) (suc j) a b m r s =
      comparable k j a b r.0 r.2 (subst (Reach j b) (sym (one-lead r.0 s.0 m r.1 s.1)) s.2)

  -- two targets of one instruction do not reach each other
  no-reach : (i n a b : ℕ) → LeadsTo n a → LeadsTo n b → a ≢ b → Reach i a b → ⊥
  no-reach zero n a b l m d r = d r
  no-reach (suc i) n a b l m d r =
      let h = reach-grows i a r.0 r.2 in
      let e : r.0 ≡ n = one-lead r.0 n b r.1 m in
      let f = (forward n a l.instr l.held l.target).0 in
      (let z : a ≤ n = subst (λ z. a ≤ z) e h in omega arith)

  apart : (k j n a b m : ℕ) → LeadsTo n a → LeadsTo n b → a ≢ b → Reach k a m → Reach j b m → ⊥
  apart k j n a b m l o d r s =
      elim (comparable k j a b m r s) [
        | inl h ↦ no-reach h.0 n a b l o d h.1
        | inr h ↦ no-reach h.0 n b a o l (λ e. d (sym e)) h.1
      ]

  -- a number of the forest of an instruction is reached from it
  forest-reach : (d n m : ℕ) → In m (numbers (forest_within d code (Some n))) → (k : ℕ) × Reach k n m
  forest-reach zero n m h = absurd h
  forest-reach (suc d) n m h = by_instr (instr_at code n) refl (λ t i. forest-reach d t m i)
    where
      by_target : (i : Instr) → instr_at code n ≡ Some i → (o : Option ℕ) → ((t : ℕ) → o ≡ Some t → In t (targets i))
          → ((t : ℕ) → In m (numbers (forest_within d code (Some t))) → (k : ℕ) × Reach k t m)
          → In m (numbers (forest_within d code o)) → (k : ℕ) × Reach k n m
      by_target i p None g go j = absurd (subst (λ f. In m (numbers f)) (within-none d code) j)
      by_target i p (Some t) g go j =
          let r = go t j in
          (suc r.0, reach-first r.0 n t m (record { instr = i; held = p; target = g t refl }) r.1)

      by_instr : (o : Option Instr) → instr_at code n ≡ o
          → ((t : ℕ) → In m (numbers (forest_within d code (Some t))) → (k : ℕ) × Reach k t m) → (k : ℕ) × Reach k n m
      by_instr None p go = absurd (subst (λ o. In m (numbers (elim o [
        | None ↦ none
        | Some i ↦ beside (node i.token (leaf n i.accepts) (forest_within d code i.down))
            (forest_within d code i.over)
      ]))) p h)
      by_instr (Some i) p go =
          let l : In m (leaf n i.accepts ++
          (numbers (forest_within d code i.down) ++ numbers (forest_within d code i.over))) =
          subst (In m) (ap numbers (within-step d code n i p)
          ∙ numbers-beside i.token (leaf n i.accepts) (forest_within d code i.down)
          (forest_within d code i.over)) h in
          elim (from_in-append m (leaf n i.accepts)
          (numbers (forest_within d code i.down) ++ numbers (forest_within d code i.over)) l) [
            | inl j ↦ (0, sym (from_leaf n m i.accepts j))
            | inr j ↦
                elim (from_in-append m (numbers (forest_within d code i.down))
                (numbers (forest_within d code i.over)) j) [
                  | inl g ↦ by_target i p i.down (λ t q. down-target i t q) go g
                  | inr g ↦ by_target i p i.over (λ t q. over-target i t q) go g
                ]
          ]
        where
          from_leaf : (n m : ℕ) (rs : List ℕ) → In m (leaf n rs) → m ≡ n
          from_leaf n m [] h = absurd h
          from_leaf n m (r ∷ rs) (inl e) = e
          from_leaf n m (r ∷ rs) (inr h) = absurd h

  leaf-once : (n : ℕ) (rs : List ℕ) → NoneTwice (leaf n rs)
  leaf-once n [] = tt
  leaf-once n (r ∷ rs) = (λ i. i, tt)

  leaf-is : (n m : ℕ) (rs : List ℕ) → In m (leaf n rs) → m ≡ n
  leaf-is n m [] h = absurd h
  leaf-is n m (r ∷ rs) (inl e) = e
  leaf-is n m (r ∷ rs) (inr h) = absurd h

  -- what is reached from a target of an instruction, by the forest of the target
  record IsBelow (n : ℕ) (o : Option ℕ) (m : ℕ) : Type 0 where
    target : ℕ
    is : o ≡ Some target
    steps : ℕ
    reach : Reach steps target m

  below-reach : (d n : ℕ) (o : Option ℕ) (m : ℕ) → In m (numbers (forest_within d code o)) → IsBelow n o m
  below-reach d n None m i = absurd (subst (λ f. In m (numbers f)) (within-none d code) i)
  below-reach d n (Some t) m i =
      let r = forest-reach d t m i in
      record { target = t; is = refl; steps = r.0; reach = r.1 }

  -- the two targets of an instruction differ
  targets-differ : (n : ℕ) (i : Instr) (a b : ℕ) → instr_at code n ≡ Some i → i.down ≡ Some a → i.over ≡ Some b → a ≢ b
  targets-differ zero i a b p q r e = cc
  targets-differ (suc n) i a b p q r e =
      none-apart (option_to_list i.down) (option_to_list i.over) (own code n once p) a (rw q (inl refl)) (rw r (inl e))
    where
      own : (is : List Instr) (n : ℕ) → NoneTwice (flat_map targets is) → slice_get is n ≡ Some i
          → NoneTwice (targets i)
      own [] n h p = cc
      own (j ∷ is) zero h p = subst (λ z. NoneTwice (targets z)) (some-same j i p)
          (none-left (targets j) (flat_map targets is) h)
      own (j ∷ is) (suc n) h p = own is n (none-right (targets j) (flat_map targets is) h) p

  -- no number stands twice
  pub numbers-once : (d n : ℕ) → NoneTwice (numbers (forest_within d code (Some n)))
  numbers-once zero n = tt
  numbers-once (suc d) n = by_instr (instr_at code n) refl (λ t. numbers-once d t)
    where
      by_target : (o : Option ℕ) → ((t : ℕ) → NoneTwice (numbers (forest_within d code (Some t))))
          → NoneTwice (numbers (forest_within d code o))
      by_target None go = subst (λ f. NoneTwice (numbers f)) (sym (within-none d code)) tt
      by_target (Some t) go = go t

      by_instr : (o : Option Instr) → instr_at code n ≡ o
          → ((t : ℕ) → NoneTwice (numbers (forest_within d code (Some t))))
          → NoneTwice (numbers (forest_within (suc d) code (Some n)))
      by_instr None p go = rw (p, forest_within) tt
      by_instr (Some i) p go =
          subst NoneTwice (sym (ap numbers (within-step d code n i p)
          ∙ numbers-beside i.token (leaf n i.accepts) (forest_within d code i.down) (forest_within d code i.over)))
          (none-append (leaf n i.accepts) (numbers (forest_within d code i.down)
          ++ numbers (forest_within d code i.over))
          (leaf-once n i.accepts)
          (none-append (numbers (forest_within d code i.down)) (numbers (forest_within d code i.over))
          (by_target i.down go) (by_target i.over go) (λ m f g.
          let a = below-reach d n i.down m f in
          let b = below-reach d n i.over m g in
          apart a.steps b.steps n a.target b.target m
          (record { instr = i; held = p; target = down-target i a.target a.is })
          (record { instr = i; held = p; target = over-target i b.target b.is })
          (targets-differ n i a.target b.target p a.is b.is) a.reach b.reach))
          (λ m f g.
          let e = leaf-is n m i.accepts f in
          elim (from_in-append m (numbers (forest_within d code i.down)) (numbers (forest_within d code i.over)) g) [
            | inl h ↦
                let a = below-reach d n i.down m h in
                let k = reach-grows a.steps a.target m a.reach in
                let w = (forward n a.target i p (down-target i a.target a.is)).0 in
                (let z : a.target ≤ n = subst (λ z. a.target ≤ z) e k in omega arith)
            | inr h ↦
                let a = below-reach d n i.over m h in
                let k = reach-grows a.steps a.target m a.reach in
                let w = (forward n a.target i p (over-target i a.target a.is)).0 in
                (let z : a.target ≤ n = subst (λ z. a.target ≤ z) e k in omega arith)
          ]))

-- ---- tables that may be walked

module _ (sig : Sig) (code : List Instr) (walkable : IsWalkable sig code) where
  -- the path of each leaf is whole
  pub leaf-whole : (n : ℕ) (path : Path) → In {X = Listed} (n, path) (lists (code_forest code)) → IsWhole sig path
  leaf-whole n path i =
      let p = forest-paths code walkable.before walkable.paths (length code) 1 n path i in
      subst (IsWhole sig) (p.path ∙ ap (λ ks. ks ++ path) walkable.paths.first)
      (walkable.whole n p.instr p.held p.accepts)

  -- and its number stands once
  pub leaves-once : NoneTwice (numbers (code_forest code))
  leaves-once = numbers-once code walkable.forward walkable.once (length code) 1
