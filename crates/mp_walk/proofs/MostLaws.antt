-- What comes where more terms are left than the tokens to come take.
use Rattle.std.proofs.Common.{◌≡◌, ◌≤◌, ◌<◌, ◌+◌, ◌-◌, ℕ, zero, suc, Bool, true, false, List, [], ◌∷◌, ◌++◌, length}
use Rattle.std.proofs.Common.{take, map, ◌⊎◌, inl, inr, refl, ap, sym, ◌∙◌, subst, arith}
use Rattle.std.specs.Prelude.{Option, Some, None, is_some, nat_eq, ◌&&◌, if◌then◌else◌, flat_map}
use Rattle.std.specs.List.{range_with_len}
use Rattle.std.proofs.lemmas.List.{length-drop, length-take-le}
use Rattle.mp_term.specs.declared.term.OpId.{OpId}
use Rattle.mp_term.specs.Listing.{In}
use Rattle.mp_term.specs.Signature.{Sig}
use Rattle.mp_term.specs.Tree.{Tree}
use Rattle.mp_term.proofs.SearchLaws.{from_in-map}
use Rattle.mp_term.proofs.TestLaws.{below_or_not}
use Rattle.mp_pattern.specs.Fits.{Table}
use Rattle.mp_pattern.specs.declared.net_token.NetToken as declared
use Rattle.mp_pattern.specs.declared.net_token.NetToken.TheVariants.{Sym, Enter, Leave, Dot, Kind, Plus, Star, Opt}
use Rattle.mp_pattern.specs.declared.net_token.NetToken.TheVariants.{Counted, Comm}
use Rattle.mp_pattern.specs.declared.pattern.Pattern as declared_pattern
use Rattle.mp_pattern.specs.NetTokenView.{net_token}
use Rattle.mp_pattern.specs.NetTokens.{NetToken, sym_token, leave_token, wild_token, comm_token}
use Rattle.mp_pattern.specs.PatternTree.{Wildcard, Pattern, is_sequence, symbol_pattern}
use Rattle.mp_pattern.specs.Value.{Subst}
use Rattle.mp_pattern.specs.Variables.{comm_above}
use Rattle.mp_pattern.specs.View.{pattern_tree}
use Rattle.mp_theory.specs.Frames.{is_done}
use Rattle.mp_theory.specs.Solve.{given}
use Rattle.mp_theory.specs.Trail.{listed_by}
use Rattle.mp_ac.proofs.FirstChild.{flat-flat}
use Rattle.mp_walk.specs.CodeForest.{leaf}
use Rattle.mp_walk.specs.Course.{unread, after_step, of_read, walk_from}
use Rattle.mp_walk.specs.Forests.{put_out}
use Rattle.mp_walk.specs.Instrs.{Instr, instr_at}
use Rattle.mp_walk.specs.Most.{TakesAtMost, TakeAtMost, IsIdle}
use Rattle.mp_walk.specs.TokenMachine.{Open, State, below_items, numbered_wildcard, rest_of_open, told, token_ends}
use Rattle.mp_walk.specs.TokenMachine.{token_steps}
use Rattle.mp_walk.specs.Trails.{shape_of, number_of}
use Rattle.mp_walk.specs.Walkable.{IsWalkable}
use Rattle.mp_walk.specs.Ways.{Step, first_entry, front_entry, front_steps, is_front, is_way, item_step, way_steps}
use Rattle.mp_walk.proofs.StepLaws.{left-ways}
use Rattle.mp_walk.proofs.TurnLaws.{none-to_come, unread-to_come}
use Rattle.mp_walk.proofs.WayLaws.{wild-beyond, wild-none, without-front}
use Rattle.mp_walk.proofs.WaySteps.{flat-none_in}

-- a front of so many terms takes no more
rest-length : (p : Pattern) (f : Open) (m : ℕ) (b : Bool)
    → length f.left ≤ m + length (rest_of_open p (record { terms = take m f.left; collapsed = b }) f).left
rest-length p f m b =
    let e = ap length (without-front m f.left) ∙ length-drop m f.left in omega (arith, e)

-- ---- what the steps of tokens leave open

module _ (sig : Sig) (f : Open) (fs : List Open) (s : Subst) where
  symbol-rest : (n : List ℕ) (way : ℕ) (r : Step) → In r (way_steps sig f fs s (sym_token n) way)
      → r.1.open_ones ≡ rest_of_open (symbol_pattern n) (front_entry f.left 1) f ∷ fs
  symbol-rest n zero r m = by_test (is_front sig f (symbol_pattern n) 1) m
    where
      taken : Step
      taken = (
        front_entry f.left 1 ∷ [],
        record { open_ones = rest_of_open (symbol_pattern n) (front_entry f.left 1) f ∷ fs; trail = s },
      )

      by_test : (b : Bool) → In r (if b then taken ∷ [] else [])
          → r.1.open_ones ≡ rest_of_open (symbol_pattern n) (front_entry f.left 1) f ∷ fs
      by_test true (inl e) = ap (λ q. q.1.open_ones) e
      by_test true (inr w) = absurd w
      by_test false w = absurd w
  symbol-rest n (suc way) r m = absurd m

  comm-rest : (p : Pattern) (way : ℕ) (r : Step) → In r (way_steps sig f fs s (comm_token p) way)
      → r.1.open_ones ≡ rest_of_open p (first_entry f.left way) f ∷ fs
  comm-rest p way r m = by_test (is_way sig f p way) m
    where
      by_test : (b : Bool) → In r (if b
          then map (item_step f fs p (first_entry f.left way)) (below_items sig p (first_entry f.left way) s) else [])
          → r.1.open_ones ≡ rest_of_open p (first_entry f.left way) f ∷ fs
      by_test true h =
          let i = from_in-map (item_step f fs p (first_entry f.left way)) r
          (below_items sig p (first_entry f.left way) s) h in
          ap (λ q. q.1.open_ones) i.1
      by_test false w = absurd w

  wild-rest : (w : Wildcard) (x : Option ℕ) (n : ℕ) (r : Step) → In r (way_steps sig f fs s (wild_token w x) n)
      → r.1.open_ones ≡ rest_of_open (numbered_wildcard w x) (front_entry f.left n) f ∷ fs
  wild-rest w x n r m = by_barred (f.collapsed && is_sequence w) m
    where
      Rest : Type 0
      Rest = r.1.open_ones ≡ rest_of_open (numbered_wildcard w x) (front_entry f.left n) f ∷ fs

      taken : Subst → List Step
      taken u = (
        front_entry f.left n ∷ [],
        record { open_ones = rest_of_open (numbered_wildcard w x) (front_entry f.left n) f ∷ fs; trail = u },
      ) ∷ []

      by_told : (o : Option Subst) → In r (listed_by taken o) → Rest
      by_told None h = absurd h
      by_told (Some u) (inl e) = ap (λ q. q.1.open_ones) e
      by_told (Some u) (inr h) = absurd h

      by_front : (b : Bool)
          → In r (if b then listed_by taken (told sig f (numbered_wildcard w x) (front_entry f.left n) s) else [])
          → Rest
      by_front true h = by_told (told sig f (numbered_wildcard w x) (front_entry f.left n) s) h
      by_front false h = absurd h

      by_barred : (b : Bool) → In r (if b then [] else front_steps sig f fs s w x n) → Rest
      by_barred true h = absurd h
      by_barred false h = by_front (is_front sig f (numbered_wildcard w x) n) h

  -- the length of the front is one that the wildcard may take
  wild-length : (w : Wildcard) (x : Option ℕ) (most : ℕ)
      → ((ts : List Tree) → is_some (given sig f.under w ts) ≡ true → length ts ≤ most) → (n : ℕ) (r : Step)
      → In r (way_steps sig f fs s (wild_token w x) n) → n ≤ most
  wild-length w x most h n r m = elim (below_or_not (length f.left) n) [
    | inl l ↦ absurd (subst (In r) (wild-beyond sig f fs s w x n l) m)
    | inr l ↦ by_test l (is_some (given sig f.under w (take n f.left))) refl
  ]
    where
      by_test : n ≤ length f.left → (b : Bool) → is_some (given sig f.under w (take n f.left)) ≡ b → n ≤ most
      by_test l true e =
          let same : length (take n f.left) ≡ n = length-take-le n f.left l in
          omega (arith, h (take n f.left) e, same)
      by_test l false e = absurd (subst (In r) (wild-none sig f fs s w x n e) m)

pub symbol-most : (sig : Sig) (u : Option ℕ) (n : List ℕ) → TakesAtMost sig u (sym_token n) 1
symbol-most sig u n f fs s way r e m = (
  rest_of_open (symbol_pattern n) (front_entry f.left 1) f,
  symbol-rest sig f fs s n way r m,
  e,
  rest-length (symbol_pattern n) f 1 false,
)

pub comm-most : (sig : Sig) (u : Option ℕ) (p : Pattern) → TakesAtMost sig u (comm_token p) 1
comm-most sig u p f fs s way r e m = (
  rest_of_open p (first_entry f.left way) f,
  comm-rest sig f fs s p way r m,
  e,
  rest-length p f 1 (nat_eq way 1),
)

pub wild-most : (sig : Sig) (u : Option ℕ) (w : Wildcard) (x : Option ℕ) (n : ℕ)
    → ((ts : List Tree) → is_some (given sig u w ts) ≡ true → length ts ≤ n) → TakesAtMost sig u (wild_token w x) n
wild-most sig u w x n h f fs s way r e m =
    let k = wild-length sig f fs s w x n (λ ts g. h ts (subst (λ v. is_some (given sig v w ts) ≡ true) e g)) way r m in
    let rest = rest-length (numbered_wildcard w x) f way false in (
      rest_of_open (numbered_wildcard w x) (front_entry f.left way) f,
      wild-rest sig f fs s w x way r m,
      e,
      omega (arith, k, rest),
    )

-- a token of one term, as the code knows it
pub one-most : (sig : Sig) (u : Option ℕ) (k : declared.NetToken)
    → ((n : List ℕ) × (k ≡ Sym n)) ⊎ ((p : declared_pattern.Pattern) × (k ≡ Comm p)) → TakesAtMost sig u (net_token k) 1
one-most sig u k (inl h) = subst (λ j. TakesAtMost sig u (net_token j) 1) (sym h.1) (symbol-most sig u h.0)
one-most sig u k (inr h) =
    subst (λ j. TakesAtMost sig u (net_token j) 1) (sym h.1) (comm-most sig u (pattern_tree h.0))

-- a wildcard
pub wild-known : (k : declared.NetToken) → ((n : List ℕ) → k ≡ Sym n → ⊥) → ((g : OpId) → k ≡ Enter g → ⊥)
    → ((g : OpId) → k ≡ Leave g → ⊥) → ((p : declared_pattern.Pattern) → k ≡ Comm p → ⊥)
    → net_token k ≡ wild_token (shape_of (net_token k)) (number_of (net_token k))
wild-known (Sym n) a b c d = absurd (a n refl)
wild-known (Enter g) a b c d = absurd (b g refl)
wild-known (Leave g) a b c d = absurd (c g refl)
wild-known (Comm p) a b c d = absurd (d p refl)
wild-known (Dot x) a b c d = refl
wild-known (Kind g x) a b c d = refl
wild-known (Plus x) a b c d = refl
wild-known (Star x) a b c d = refl
wild-known (Opt x t) a b c d = refl
wild-known (Counted n fixed x) a b c d = refl

-- ---- what comes of them

heads : (f g : Open) (fs gs : List Open) → f ∷ fs ≡ g ∷ gs → f ≡ g
heads f g fs gs e = cc

module _ (sig : Sig) (code : List Instr) (i : Instr) (u : Option ℕ) (most : ℕ)
    (behind : TakeAtMost sig code u i.down most) where
  -- a step that leaves more than the tokens behind it take
  pub more-idle : (r : Step) (g : Open) (gs : List Open) → r.1.open_ones ≡ g ∷ gs → g.under ≡ u
      → most < length g.left → IsIdle sig code i r
  more-idle r g gs e is more n before =
      rw (unfinished (leaf n i.accepts)) (behind r.1 g gs (before ++ r.0) e is more)
    where
      some-left : (ts : List Tree) (b : Bool) → most < length ts → is_done ts b ≡ false
      some-left [] b h = absurd (omega (arith, h))
      some-left (t ∷ ts) b h = refl

      not-ended : (hs : List Open) → token_ends (record { open_ones = g ∷ hs; trail = r.1.trail }) ≡ false
      not-ended [] = some-left g.left g.owes more
      not-ended (h ∷ hs) = refl

      unended : token_ends r.1 ≡ false
      unended = ap (λ os. token_ends (record { open_ones = os; trail = r.1.trail })) e ∙ not-ended gs

      unfinished : (ns : List ℕ) → put_out (token_steps sig) token_ends ns r.1 (before ++ r.0) ≡ []
      unfinished ns = rw unended refl

module _ (sig : Sig) (code : List Instr) (W : IsWalkable sig code) (u : Option ℕ)
    (ordered : comm_above sig u ≡ false) where
  -- no instruction takes anything
  pub none-most : TakeAtMost sig code u None 0
  none-most s f fs before e is more = none-to_come sig code W s before

  module _ (n : ℕ) (i : Instr) (held : instr_at code n ≡ Some i) (alone : i.over ≡ None) where
    -- where each step is idle, nothing comes from an instruction on beside which nothing stands
    idle-walk : (s : State) (f : Open) (fs : List Open) (before : Table) → s.open_ones ≡ f ∷ fs → f.under ≡ u
        → ((way : ℕ) (r : Step) → In r (way_steps sig f fs s.trail i.token way) → IsIdle sig code i r)
        → walk_from sig code (Some n) s before ≡ []
    idle-walk s f fs before e is idle =
        unread-to_come sig code W n i s before held
        (λ g gs o. subst (λ h. comm_above sig h.under ≡ false) (heads f g fs gs (sym e ∙ o))
        (subst (λ v. comm_above sig v ≡ false) (sym is) ordered))
        ∙ ap (λ o. elim o as (λ _. List (ℕ × Table))
        [ None ↦ [] | Some j ↦ of_read sig code before (unread n s) j ]) held
        ∙ ap (λ rs. flat_map (after_step sig code n i before) rs ++ walk_from sig code i.over s before)
        (left-ways sig i.token (unread n s) f fs e refl)
        ∙ ap (λ o. flat_map (after_step sig code n i before) (flat_map (way_steps sig f fs s.trail i.token) all)
        ++ walk_from sig code o s before) alone
        ∙ ap (λ is. is ++ walk_from sig code None s before) (flat-flat (after_step sig code n i before)
        (way_steps sig f fs s.trail i.token) all
        ∙ flat-none_in (λ way. flat_map (after_step sig code n i before) (way_steps sig f fs s.trail i.token way)) all
        (λ way _. flat-none_in (after_step sig code n i before) (way_steps sig f fs s.trail i.token way)
        (λ r m. idle way r m n before)))
        ∙ none-to_come sig code W s before
      where
        all : List ℕ
        all = range_with_len 0 (length f.left + 2 - 0)

    -- a token takes so many more than those behind it
    pub token-most : (here behind : ℕ) → TakesAtMost sig u i.token here → TakeAtMost sig code u i.down behind
        → TakeAtMost sig code u (Some n) (here + behind)
    token-most here behind own down s f fs before e is more =
        idle-walk s f fs before e is (λ way r m.
        let left = own f fs s.trail way r is m in
        more-idle sig code i u behind down r left.0 fs left.1 left.2 (omega (arith, more, left.3)))

    -- the end of an application takes nothing
    pub leave-most : (g : ℕ) → i.token ≡ leave_token g → TakeAtMost sig code u (Some n) 0
    leave-most g t s f fs before e is more =
        idle-walk s f fs before e is (λ way r m. absurd (none f.left refl more way r
        (subst (λ k. In r (way_steps sig f fs s.trail k way)) t m)))
      where
        none : (ts : List Tree) → f.left ≡ ts → 0 < length f.left → (way : ℕ) (r : Step)
            → In r (way_steps sig f fs s.trail (leave_token g) way) → ⊥
        none [] l h way r m = (let z = ap length l in omega (arith, h, z))
        none (t ∷ ts) l h zero r m =
            subst (λ us. In r (if is_done us f.owes then ([], record { open_ones = fs; trail = s.trail }) ∷ [] else []))
            l m
        none (t ∷ ts) l h (suc way) r m = m

-- a front of a wildcard that leaves more than the tokens behind it take
pub front-idle : (sig : Sig) (code : List Instr) (i : Instr) (u : Option ℕ) (most : ℕ)
    → TakeAtMost sig code u i.down most → i.token ≡ wild_token (shape_of i.token) (number_of i.token)
    → (f : Open) (fs : List Open) (s : Subst) (n : ℕ) (r : Step) → f.under ≡ u → n + most < length f.left
    → In r (way_steps sig f fs s i.token n) → IsIdle sig code i r
front-idle sig code i u most behind wild f fs s n r is more m =
    let w = shape_of i.token in
    let x = number_of i.token in
    let rest = rest-length (numbered_wildcard w x) f n false in
    more-idle sig code i u most behind r (rest_of_open (numbered_wildcard w x) (front_entry f.left n) f) fs
    (wild-rest sig f fs s w x n r (subst (λ k. In r (way_steps sig f fs s k n)) wild m)) is (omega (arith, rest, more))
