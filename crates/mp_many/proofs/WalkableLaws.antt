-- The tree of sound rules is a table that may be walked, and its paths are the token lists of the rules.
use Rattle.std.proofs.Common.{◌≡◌, ◌<◌, ◌≤◌, ℕ, zero, suc, ◌+◌, List, [], ◌∷◌, ◌++◌, length, drop, get_or, Bool}
use Rattle.std.proofs.Common.{true}
use Rattle.std.proofs.Common.{false, refl, ap, sym, ◌∙◌, inl, inr, subst, arith, append-nil}
use Rattle.std.specs.Prelude.{◌≢◌, Some, None, if◌then◌else◌, flat_map, slice_get}
use Rattle.std.specs.List.{AllByRecursion}
use Rattle.std.proofs.lemmas.List.{length-append}
use Rattle.std.proofs.lemmas.Option.{get_or_from_slice_get}
use Rattle.mp_term.specs.Listing.{In}
use Rattle.mp_term.specs.Signature.{Sig, is_comm}
use Rattle.mp_term.proofs.ListingLaws.{all_in}
use Rattle.mp_term.proofs.SearchLaws.{from_in-map, in-flat}
use Rattle.mp_pattern.specs.Admission.{Rule}
use Rattle.mp_pattern.specs.NetTokens.{NetToken, comm_token, enter_token, leave_token, renamed, all_tokens}
use Rattle.mp_pattern.specs.NetTokens.{tokens_of}
use Rattle.mp_pattern.specs.PatternTree.{Pattern, symbol_pattern, app_pattern, wild_pattern}
use Rattle.mp_pattern.specs.SoundRule.{IsSoundRule}
use Rattle.mp_pattern.specs.Variables.{variables}
pub use Rattle.mp_search.proofs.NumberLaws.{in-slice_get}
use Rattle.mp_walk.specs.CodeForest.{code_forest}
use Rattle.mp_walk.specs.Forests.{lists}
use Rattle.mp_walk.specs.Instrs.{Instr, instr_at, targets}
use Rattle.mp_walk.specs.Walkable.{Path, ArePaths, IsWhole, IsWalkable}
use Rattle.mp_walk.proofs.CodePaths.{forest-paths}
use Rattle.mp_walk.proofs.RuleLaws.{whole-sound_pattern}
use Rattle.mp_many.specs.Prefixes.{prefixes_within, same_tokens, without_last, child_among, next_child}
use Rattle.mp_many.specs.Prefixes.{accepted_by, token_lists, token_count, prefixes, IsState}
use Rattle.mp_many.specs.Laid.{Numbered, numbered_from, tree_of}
use Rattle.mp_many.proofs.TokenLists.{same_tokens-is, same_tokens-itself, is_child}
use Rattle.mp_many.proofs.LaidLaws.{bare-numbered, length-laid}
use Rattle.mp_many.proofs.StateLaws.{all_from-at, first-prefix, states-are}
use Rattle.mp_many.proofs.TreeLaws.{laid-inside, AreShort, laid-leads, laid-reached}

-- ---- lists

pub get-drop : {X : Type 0} (xs : List X) (m j : ℕ) → slice_get (drop m xs) j ≡ slice_get xs (m + j)
get-drop xs zero j = let e : j ≡ 0 + j = omega arith in ap (slice_get xs) e
get-drop [] (suc m) j = refl
get-drop (x ∷ xs) (suc m) j =
    let e : suc (m + j) ≡ suc m + j = omega arith in get-drop xs m j ∙ ap (slice_get (x ∷ xs)) e

without-last : (p : Path) (k : NetToken) → without_last (p ++ (k ∷ [])) ≡ p
without-last [] k = refl
without-last (a ∷ []) k = refl
without-last (a ∷ b ∷ p) k = ap (λ q. a ∷ q) (without-last (b ∷ p) k)

-- an instruction of the table is held
pub held-within : (code : List Instr) (n : ℕ) → 1 ≤ n → n ≤ length code → instr_at code n ≡ None → ⊥
held-within code zero h k e = omega (arith, h)
held-within code (suc m) h k e = at code m (omega (arith, k)) e
  where
    at : (is : List Instr) (j : ℕ) → suc j ≤ length is → slice_get is j ≡ None → ⊥
    at [] j k e = omega (arith, k)
    at (i ∷ is) zero k e = cc
    at (i ∷ is) (suc j) k e = at is j (omega (arith, k)) e

-- ---- children

-- a child that is found stands there, and goes one token beyond the parent
child-found : (full : List Path) (n : ℕ) (qs : List Path) (p : Path) (t : ℕ)
    → ((j : ℕ) (q : Path) → slice_get qs j ≡ Some q → slice_get full (n + j) ≡ Some q)
    → child_among n qs p ≡ Some t → (q : Path) × (slice_get full t ≡ Some q) × (without_last q ≡ p)
child-found full n [] p t f e = cc
child-found full n (q ∷ qs) p t f e =
    at (is_child p q) refl e
    (λ r. child-found full (suc n) qs p t (λ j x h. let m : n + suc j ≡ suc n + j = omega arith in
    ap (slice_get full) (sym m) ∙ f (suc j) x h) r)
  where
    at : (b : Bool) → is_child p q ≡ b → (if b then Some n else child_among (suc n) qs p) ≡ Some t
        → (child_among (suc n) qs p ≡ Some t → (r : Path) × (slice_get full t ≡ Some r) × (without_last r ≡ p))
        → (r : Path) × (slice_get full t ≡ Some r) × (without_last r ≡ p)
    at true s e rest =
        let here : t ≡ n = let h : Some n ≡ Some t = e in cc in
        let m : n + 0 ≡ n = omega arith in
        (q, ap (slice_get full) here ∙ ap (slice_get full) (sym m) ∙ f 0 q refl, same_tokens-is (without_last q) p s)
    at false s e rest = rest e

next-found : (all : List Path) (p : Path) (from t : ℕ) → next_child all p from ≡ Some t
    → (q : Path) × (slice_get ([] ∷ all) t ≡ Some q) × (without_last q ≡ p)
next-found all p from t e = child-found ([] ∷ all) (suc from) (drop from all) p t
    (λ j q h. let m : suc from + j ≡ suc (from + j) = omega arith in
    ap (slice_get ([] ∷ all)) m ∙ sym (get-drop all from j) ∙ h) e

-- ---- the lists that are a prefix

accepted-some : (m : ℕ) (ls : List Path) (p : Path) → accepted_by m ls p ≢ [] → In p ls
accepted-some m [] p h = absurd (h refl)
accepted-some m (l ∷ ls) p h = at (same_tokens l p) refl h (λ g. accepted-some (suc m) ls p g)
  where
    at : (b : Bool) → same_tokens l p ≡ b
        → (if b then m ∷ accepted_by (suc m) ls p else accepted_by (suc m) ls p) ≢ []
        → (accepted_by (suc m) ls p ≢ [] → In p ls) → In p (l ∷ ls)
    at true s h f = inl (sym (same_tokens-is l p s))
    at false s h f = inr (f h)

pub accepted-in : (m j : ℕ) (ls : List Path) (p : Path) → slice_get ls j ≡ Some p → In (m + j) (accepted_by m ls p)
accepted-in m j [] p e = cc
accepted-in m zero (l ∷ ls) p e =
    let same : l ≡ p = let w : Some l ≡ Some p = e in cc in
    let t : same_tokens l p ≡ true = ap (λ q. same_tokens q p) same ∙ same_tokens-itself p in
    let n : m + 0 ≡ m = omega arith in rw t (inl n)
accepted-in m (suc j) (l ∷ ls) p e =
    let n : suc m + j ≡ m + suc j = omega arith in
    let i = subst (λ k. In k (accepted_by (suc m) ls p)) n (accepted-in (suc m) j ls p e) in
    elim (same_tokens l p) as (λ b. In (m + suc j) (if b then m ∷ accepted_by (suc m) ls p
    else accepted_by (suc m) ls p)) [ true ↦ inr i | false ↦ i ]

pub from_in-accepted : (m n : ℕ) (ls : List Path) (p : Path) → In n (accepted_by m ls p)
    → (j : ℕ) × (n ≡ m + j) × (slice_get ls j ≡ Some p)
from_in-accepted m n [] p h = absurd h
from_in-accepted m n (l ∷ ls) p h = at (same_tokens l p) refl h (λ i. from_in-accepted (suc m) n ls p i)
  where
    later : (In n (accepted_by (suc m) ls p) → (j : ℕ) × (n ≡ suc m + j) × (slice_get ls j ≡ Some p))
        → In n (accepted_by (suc m) ls p) → (j : ℕ) × (n ≡ m + j) × (slice_get (l ∷ ls) j ≡ Some p)
    later f i = let r = f i in (suc r.0, omega (arith, r.1), r.2)

    at : (b : Bool) → same_tokens l p ≡ b
        → In n (if b then m ∷ accepted_by (suc m) ls p else accepted_by (suc m) ls p)
        → (In n (accepted_by (suc m) ls p) → (j : ℕ) × (n ≡ suc m + j) × (slice_get ls j ≡ Some p))
        → (j : ℕ) × (n ≡ m + j) × (slice_get (l ∷ ls) j ≡ Some p)
    at true s (inl e) f = (0, omega (arith, e), ap Some (same_tokens-is l p s))
    at true s (inr i) f = later f i
    at false s i f = later f i

pub none-accepted : (m : ℕ) (ls : List Path) (p : Path) → (n : ℕ) → n < m → In n (accepted_by m ls p) → ⊥
none-accepted m ls p n h i = let r = from_in-accepted m n ls p i in omega (arith, h, r.1)

-- ---- so many tokens at most

short-numbered : (d m : ℕ) (ls : List Path) → token_count ls ≤ d → AreShort d (numbered_from m ls)
short-numbered d m [] h = tt
short-numbered d m (l ∷ ls) h =
    let e = length-append l (flat_map (λ l. l) ls) in
    (omega (arith, e, h), short-numbered d (suc m) ls (omega (arith, e, h)))

numbered-in : (m j : ℕ) (ls : List Path) (p : Path) → slice_get ls j ≡ Some p
    → In {X = Numbered} (m + j, p) (numbered_from m ls)
numbered-in m j [] p e = cc
numbered-in m zero (l ∷ ls) p e =
    let same : p ≡ l = let w : Some l ≡ Some p = e in cc in
    let n : m + 0 ≡ m = omega arith in inl (λ i. (n i, same i))
numbered-in m (suc j) (l ∷ ls) p e =
    let n : suc m + j ≡ m + suc j = omega arith in
    inr (subst (λ k. In {X = Numbered} (k, p) (numbered_from (suc m) ls)) n (numbered-in (suc m) j ls p e))

-- a pattern has a token
tokens-some : (sig : Sig) (p : Pattern) → (k : NetToken) × (ks : Path) × (tokens_of sig p ≡ k ∷ ks)
tokens-some sig (symbol_pattern n) = (_, [], refl)
tokens-some sig (wild_pattern w x) = (_, [], refl)
tokens-some sig (app_pattern f ps) = at (is_comm sig f)
  where
    q : Pattern
    q = app_pattern f ps

    inside : Path
    inside = all_tokens sig (variables q) ps ++ (leave_token f ∷ [])

    at : (b : Bool) → (k : NetToken) × (ks : Path)
        × ((if b then comm_token (renamed (variables q) q) ∷ [] else (enter_token f ∷ inside)) ≡ k ∷ ks)
    at true = (comm_token (renamed (variables q) q), [], refl)
    at false = (enter_token f, inside, refl)

-- ---- the tree of rules

module _ (sig : Sig) (rules : List Rule) where
  abbrev all : List Path
  all = prefixes sig rules

  abbrev ls : List Path
  ls = token_lists sig rules

  abbrev code : List Instr
  code = tree_of sig rules

  pub length-tree : length (tree_of sig rules) ≡ length (prefixes sig rules)
  length-tree = length-laid (token_count ls) (numbered_from 0 ls) 1
      ∙ ap (λ ms. length (prefixes_within (token_count ls) ms)) (bare-numbered 0 ls)

  pub state-at : (n : ℕ) (i : Instr) → instr_at (tree_of sig rules) n ≡ Some i → IsState sig rules n i
  state-at zero i e = cc
  state-at (suc m) i e =
      let n : 1 + m ≡ suc m = omega arith in
      subst (λ k. IsState sig rules k i) n (all_from-at (IsState sig rules) 1 m code i (states-are sig rules) e)

  -- what stands above a state
  abbrev pub before : ℕ → Path
  before n = without_last (get_or ([] ∷ all) n [])

  before-is : (n : ℕ) (q p : Path) → slice_get ([] ∷ all) n ≡ Some q → without_last q ≡ p → before n ≡ p
  before-is n q p e w = ap without_last (get_or_from_slice_get ([] ∷ all) n q [] e) ∙ w

  before-parent : (n : ℕ) (i : Instr) (s : IsState sig rules n i) → before n ≡ s.parent
  before-parent n i s =
      before-is n (s.parent ++ (i.token ∷ [])) s.parent s.prefix (without-last s.parent i.token)

  first-before : before 1 ≡ []
  first-before = by_form all refl
    where
      by_form : (qs : List Path) → all ≡ qs → without_last (get_or ([] ∷ qs) 1 []) ≡ []
      by_form [] e = refl
      by_form (q ∷ qs) e = let f = first-prefix (token_count ls) ls q qs e in ap without_last f.1

  are-paths : ArePaths code before
  are-paths = record {
    first = first-before;
    down = λ n t i held e.
        let s = state-at n i held in
        let f = next-found all (s.parent ++ (i.token ∷ [])) 0 t (sym s.down ∙ e) in
        before-is t f.0 (s.parent ++ (i.token ∷ [])) f.1 f.2
        ∙ ap (λ p. p ++ (i.token ∷ [])) (sym (before-parent n i s));
    over = λ n t i held e.
        let s = state-at n i held in
        let f = next-found all s.parent n t (sym s.over ∙ e) in
        before-is t f.0 s.parent f.1 f.2 ∙ sym (before-parent n i s);
  }

  forward-at : (n t : ℕ) (i : Instr) → instr_at code n ≡ Some i → In t (targets i) → (n < t) × (t ≤ length code)
  forward-at zero t i e h = cc
  forward-at (suc m) t i e h =
      let are = laid-inside (token_count ls) (numbered_from 0 ls) 1 in
      let f = all_from-at (λ k j. (u : ℕ) → In u (targets j) → k < u) 1 m code i are.forward e t h in
      let g = are.inside t (in-flat targets i t code (in-slice_get code m i e) h) in
      (omega (arith, f), omega (arith, g.1))

  -- an instruction that accepts has the tokens of a rule
  accepts-rule : (n : ℕ) (i : Instr) → instr_at code n ≡ Some i → i.accepts ≢ []
      → (r : Rule) × In r rules × (before n ++ (i.token ∷ []) ≡ tokens_of sig r.pattern)
  accepts-rule n i held h =
      let s = state-at n i held in
      let p = s.parent ++ (i.token ∷ []) in
      let l = accepted-some 0 ls p (λ e. h (s.accepts ∙ e)) in
      let r = from_in-map (λ (q : Rule). tokens_of sig q.pattern) p rules l in
      (r.0, r.2, ap (λ q. q ++ (i.token ∷ [])) (before-parent n i s) ∙ r.1)

  pub walkable : AllByRecursion (IsSoundRule sig) rules → IsWalkable sig (tree_of sig rules)
  walkable sound =
      let are = laid-inside (token_count ls) (numbered_from 0 ls) 1 in
      record {
        before = before;
        paths = are-paths;
        forward = forward-at;
        once = are.once;
        leads = laid-leads (token_count ls) (numbered_from 0 ls) 1 (short-numbered (token_count ls) 0 ls (omega arith));
        whole = λ n i held h.
            let r = accepts-rule n i held h in
            subst (IsWhole sig) (sym r.2)
            (whole-sound_pattern sig r.0.pattern (all_in (IsSoundRule sig) rules r.0 sound r.1).pattern);
      }

  -- what stands above a state in its path is the state's parent
  pub before-state : (sound : AllByRecursion (IsSoundRule sig) rules) (n : ℕ) (i : Instr) (s : IsState sig rules n i)
      → (walkable sound).before n ≡ s.parent
  unfolding walkable
  before-state sound n i s = before-parent n i s

  -- a path to an instruction that accepts is the token list of the rules it accepts
  pub leaf-accepts : (n : ℕ) (ks : Path) → In {X = ℕ × Path} (n, ks) (lists (code_forest (tree_of sig rules)))
      → (i : Instr) × (instr_at (tree_of sig rules) n ≡ Some i) × (i.accepts ≡ accepted_by 0 (token_lists sig rules) ks)
      × (slice_get ([] ∷ prefixes sig rules) n ≡ Some ks) × (i.accepts ≢ [])
  leaf-accepts n ks h =
      let p = forest-paths code before are-paths (length code) 1 n ks h in
      let s = state-at n p.instr p.held in
      let e : s.parent ++ (p.instr.token ∷ []) ≡ ks =
      ap (λ q. q ++ (p.instr.token ∷ [])) (sym (before-parent n p.instr s)) ∙ p.path
      ∙ ap (λ q. q ++ ks) first-before in
      (p.instr, p.held, s.accepts ∙ ap (accepted_by 0 ls) e, s.prefix ∙ ap Some e, p.accepts)

  -- and the token list of each rule is such a path
  pub rule-reached : (j : ℕ) (l : Path) → slice_get (token_lists sig rules) j ≡ Some l
      → (n : ℕ) × In {X = ℕ × Path} (n, l) (lists (code_forest (tree_of sig rules)))
  rule-reached j l e =
      let r = from_in-map (λ (q : Rule). tokens_of sig q.pattern) l rules (in-slice_get ls j l e) in
      let t = tokens-some sig r.0.pattern in
      let is : l ≡ t.0 ∷ t.1 = r.1 ∙ t.2 in
      let listed = subst (λ q. In {X = Numbered} (0 + j, q) (numbered_from 0 ls)) is (numbered-in 0 j ls l e) in
      let found = laid-reached code forward-at (token_count ls) (numbered_from 0 ls) [] [] 1
      (short-numbered (token_count ls) 0 ls (omega arith)) refl (sym (append-nil code)) (0 + j) t.0 t.1 listed in
      subst (λ q. (n : ℕ) × In {X = ℕ × Path} (n, q) (lists (code_forest code))) (sym is) found
