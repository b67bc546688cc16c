-- The tokens of a pattern open and close its operations: none is open behind all of them, and one is behind fewer.
use Rattle.std.proofs.Common.{◌≡◌, ℕ, List, [], ◌∷◌, ◌++◌, Bool, true, false, refl, ap, sym, ◌∙◌}
use Rattle.std.proofs.Common.{subst, append_assoc, append-nil, eq-eqb}
use Rattle.std.specs.Prelude.{Option, Some, None, if◌then◌else◌}
use Rattle.mp_term.specs.Signature.{Sig, is_comm}
use Rattle.mp_term.proofs.ListLaws.{both-empty}
use Rattle.mp_pattern.specs.NetTokens.{NetToken, enter_token, leave_token, comm_token, renamed, tokens, all_tokens}
use Rattle.mp_pattern.specs.PatternTree.{Pattern, symbol_pattern, app_pattern, wild_pattern, Patterns, no_patterns}
use Rattle.mp_pattern.specs.PatternTree.{more_patterns}
use Rattle.mp_walk.specs.Walkable.{Path}
use Rattle.mp_program.specs.TokenPaths.{open_after, open_along}
use Rattle.mp_program.proofs.ListLaws.{first-same, rest-same}

-- ---- lists in two ways

-- a list begins in the first of two parts, or goes on in the second
pub data Splits {X : Type 0} (ks rest xs ys : List X) : Type 0 where
  inside : (zs : List X) → ks ++ zs ≡ xs → zs ++ ys ≡ rest → Splits ks rest xs ys
  beyond : (z : X) (zs : List X) → ks ≡ xs ++ z ∷ zs → (z ∷ zs) ++ rest ≡ ys → Splits ks rest xs ys

pub splits : {X : Type 0} (ks rest xs ys : List X) → ks ++ rest ≡ xs ++ ys → Splits ks rest xs ys
splits [] rest xs ys e = inside xs refl (sym e)
splits (k ∷ ks) rest [] ys e = beyond k ks refl e
splits (k ∷ ks) rest (x ∷ xs) ys e =
    let same : k ≡ x = first-same k x (ks ++ rest) (xs ++ ys) e in
    elim (splits ks rest xs ys (rest-same k x (ks ++ rest) (xs ++ ys) e)) [
      | inside zs f g ↦ inside zs ((λ i. same i ∷ f i)) g
      | beyond z zs f g ↦ beyond z zs ((λ i. same i ∷ f i)) g
    ]

-- ---- open operations

open-append : (fs gs : List ℕ) (ks js : Path) → open_along fs ks ≡ Some gs
    → open_along fs (ks ++ js) ≡ open_along gs js
open-append fs gs [] js e = ap (λ l. open_along l js) (let z : Some fs ≡ Some gs = e in some fs gs z)
  where
    some : (a b : List ℕ) → Some a ≡ Some b → a ≡ b
    some a b z = cc
open-append fs gs (k ∷ ks) js e = go (open_after fs k) e (λ hs h. open-append hs gs ks js h)
  where
    go : (o : Option (List ℕ)) → elim o [ None ↦ None | Some hs ↦ open_along hs ks ] ≡ Some gs
        → ((hs : List ℕ) → open_along hs ks ≡ Some gs → open_along hs (ks ++ js) ≡ open_along gs js)
        → elim o [ None ↦ None | Some hs ↦ open_along hs (ks ++ js) ] ≡ open_along gs js
    go None h f = (let wrong : None ≡ Some gs = h in cc)
    go (Some hs) h f = f hs h

open-leave : (g : ℕ) (fs : List ℕ) → open_along (g ∷ fs) (leave_token g ∷ []) ≡ Some fs
open-leave g fs =
    ap (λ b. elim (if b then Some fs else None) [ None ↦ None | Some hs ↦ open_along hs [] ]) (eq-eqb g g refl)

module _ (sig : Sig) (vs : List (List ℕ)) where
  mutual
    -- behind the tokens of a pattern the operations are open that were before
    pub open-tokens : (p : Pattern) (fs : List ℕ) → open_along fs (tokens sig vs p) ≡ Some fs
    open-tokens (symbol_pattern n) [] = refl
    open-tokens (symbol_pattern n) (f ∷ fs) = refl
    open-tokens (wild_pattern w x) [] = refl
    open-tokens (wild_pattern w x) (f ∷ fs) = refl
    open-tokens (app_pattern g ps) fs = by_comm (is_comm sig g) fs (open-all_tokens ps (g ∷ fs))
      where
        by_comm : (b : Bool) (fs : List ℕ) → open_along (g ∷ fs) (all_tokens sig vs ps) ≡ Some (g ∷ fs)
            → open_along fs (if b then comm_token (renamed vs (app_pattern g ps)) ∷ []
            else (enter_token g ∷ (all_tokens sig vs ps ++ (leave_token g ∷ [])))) ≡ Some fs
        by_comm true [] h = refl
        by_comm true (f ∷ fs) h = refl
        by_comm false fs h = open-append (g ∷ fs) (g ∷ fs) (all_tokens sig vs ps) (leave_token g ∷ []) h
            ∙ open-leave g fs

    pub open-all_tokens : (ps : Patterns) (fs : List ℕ) → open_along fs (all_tokens sig vs ps) ≡ Some fs
    open-all_tokens no_patterns fs = refl
    open-all_tokens (more_patterns p ps) fs =
        open-append fs fs (tokens sig vs p) (all_tokens sig vs ps) (open-tokens p fs) ∙ open-all_tokens ps fs

  -- behind some tokens those and perhaps more are open
  pub record IsOpenOver (fs : List ℕ) (ks : Path) : Type 0 where
    pub more : List ℕ
    pub opened : open_along fs ks ≡ Some (more ++ fs)

  behind-all : (g : ℕ) (fs : List ℕ) (ps : Patterns) → IsOpenOver (g ∷ fs) (all_tokens sig vs ps)
  behind-all g fs ps = record { more = []; opened = open-all_tokens ps (g ∷ fs) }

  under : (g : ℕ) (fs : List ℕ) (ks : Path) → IsOpenOver (g ∷ fs) ks → IsOpenOver fs (enter_token g ∷ ks)
  under g fs ks h = record {
    more = h.more ++ g ∷ [];
    opened = under-open h.more fs h.opened;
  }
    where
      under-open : (gs hs : List ℕ) → open_along (g ∷ hs) ks ≡ Some (gs ++ g ∷ hs)
          → open_along hs (enter_token g ∷ ks) ≡ Some ((gs ++ g ∷ []) ++ hs)
      under-open gs [] e = e ∙ ap Some (sym (append_assoc gs (g ∷ []) []))
      under-open gs (f ∷ hs) e = e ∙ ap Some (sym (append_assoc gs (g ∷ []) (f ∷ hs)))

  -- a single token, which is all
  one-open : (p : Pattern) (fs : List ℕ) (k : NetToken) (ks rest : Path) (t : NetToken)
      → tokens sig vs p ≡ t ∷ [] → (k ∷ ks) ++ rest ≡ t ∷ [] → IsOpenOver fs (k ∷ ks)
  one-open p fs k [] rest t e h =
      let same = first-same k t rest [] h in
      record {
        more = [];
        opened = ap (λ x. open_along fs (x ∷ [])) same ∙ ap (open_along fs) (sym e) ∙ open-tokens p fs;
      }
  one-open p fs k (j ∷ ks) rest t e h = (let wrong = rest-same k t ((j ∷ ks) ++ rest) [] h in cc)

  mutual
    pub open-front : (p : Pattern) (fs : List ℕ) (ks rest : Path) → ks ++ rest ≡ tokens sig vs p → IsOpenOver fs ks
    open-front p fs [] rest e = record { more = []; opened = refl }
    open-front (symbol_pattern n) fs (k ∷ ks) rest e = one-open (symbol_pattern n) fs k ks rest _ refl e
    open-front (wild_pattern w x) fs (k ∷ ks) rest e = one-open (wild_pattern w x) fs k ks rest _ refl e
    open-front (app_pattern g ps) fs (k ∷ ks) rest e =
        by_comm (is_comm sig g) refl e (λ zs h. open-all_front ps (g ∷ fs) ks zs h)
      where
        by_comm : (b : Bool) → is_comm sig g ≡ b
            → (k ∷ ks) ++ rest ≡ (if b then comm_token (renamed vs (app_pattern g ps)) ∷ []
            else (enter_token g ∷ (all_tokens sig vs ps ++ (leave_token g ∷ []))))
            → ((zs : Path) → ks ++ zs ≡ all_tokens sig vs ps → IsOpenOver (g ∷ fs) ks) → IsOpenOver fs (k ∷ ks)
        by_comm true c h f = one-open (app_pattern g ps) fs k ks rest _ (rw c refl) h
        by_comm false c h f =
            let same = first-same k (enter_token g) (ks ++ rest) (all_tokens sig vs ps ++ (leave_token g ∷ [])) h in
            let inner = rest-same k (enter_token g) (ks ++ rest) (all_tokens sig vs ps ++ (leave_token g ∷ [])) h in
            elim (splits ks rest (all_tokens sig vs ps) (leave_token g ∷ []) inner) [
              | inside zs i j ↦ subst (λ t. IsOpenOver fs (t ∷ ks)) (sym same) (under g fs ks (f zs i))
              | beyond z zs i j ↦
                  let ends : (zs ≡ []) × (rest ≡ []) = ends_at z zs j in
                  let all : k ∷ ks ≡ tokens sig vs (app_pattern g ps) =
                  sym (append-nil (k ∷ ks)) ∙ ap (λ r. (k ∷ ks) ++ r) (sym ends.1) ∙ e in
                  record {
                    more = [];
                    opened = ap (open_along fs) all ∙ open-tokens (app_pattern g ps) fs;
                  }
            ]
          where
            ends_at : (z : NetToken) (zs : Path) → (z ∷ zs) ++ rest ≡ leave_token g ∷ [] → (zs ≡ []) × (rest ≡ [])
            ends_at z zs q = both-empty zs rest (rest-same z (leave_token g) (zs ++ rest) [] q)

    open-all_front : (ps : Patterns) (fs : List ℕ) (ks rest : Path) → ks ++ rest ≡ all_tokens sig vs ps
        → IsOpenOver fs ks
    open-all_front no_patterns fs [] rest e = record { more = []; opened = refl }
    open-all_front no_patterns fs (k ∷ ks) rest e = (let wrong : k ∷ (ks ++ rest) ≡ [] = e in cc)
    open-all_front (more_patterns p ps) fs ks rest e =
        elim (splits ks rest (tokens sig vs p) (all_tokens sig vs ps) e) [
          | inside zs i j ↦ open-front p fs ks zs i
          | beyond z zs i j ↦
              let r = open-all_front ps fs (z ∷ zs) rest j in
              record {
                more = r.more;
                opened = ap (open_along fs) i
                    ∙ open-append fs fs (tokens sig vs p) (z ∷ zs) (open-tokens p fs) ∙ r.opened;
              }
        ]

  -- behind fewer tokens than all an operation is open
  pub record IsOpen (ks : Path) : Type 0 where
    pub first : ℕ
    pub others : List ℕ
    pub opened : open_along [] ks ≡ Some (first ∷ others)

  single : (r : NetToken) (rest ks : Path) → ks ++ r ∷ rest ≡ [] → ⊥
  single r rest [] e = cc
  single r rest (j ∷ ks) e = cc

  pub open-before : (p : Pattern) (k : NetToken) (ks : Path) (r : NetToken) (rest : Path)
      → (k ∷ ks) ++ r ∷ rest ≡ tokens sig vs p → IsOpen (k ∷ ks)
  open-before (symbol_pattern n) k ks r rest e = absurd (single r rest ks (rest-same k _ (ks ++ r ∷ rest) [] e))
  open-before (wild_pattern w x) k ks r rest e = absurd (single r rest ks (rest-same k _ (ks ++ r ∷ rest) [] e))
  open-before (app_pattern g ps) k ks r rest e = by_comm (is_comm sig g) e
    where
      behind : (gs : List ℕ) → open_along (g ∷ []) ks ≡ Some (gs ++ g ∷ []) → k ≡ enter_token g → IsOpen (k ∷ ks)
      behind [] o same = record {
        first = g;
        others = [];
        opened = ap (λ t. open_along [] (t ∷ ks)) same ∙ o;
      }
      behind (f ∷ gs) o same = record {
        first = f;
        others = gs ++ g ∷ [];
        opened = ap (λ t. open_along [] (t ∷ ks)) same ∙ o;
      }

      by_comm : (b : Bool) → (k ∷ ks) ++ r ∷ rest ≡ (if b then comm_token (renamed vs (app_pattern g ps)) ∷ []
          else (enter_token g ∷ (all_tokens sig vs ps ++ (leave_token g ∷ [])))) → IsOpen (k ∷ ks)
      by_comm true h = absurd (single r rest ks (rest-same k _ (ks ++ r ∷ rest) [] h))
      by_comm false h =
          let same = first-same k (enter_token g) (ks ++ r ∷ rest) (all_tokens sig vs ps ++ (leave_token g ∷ [])) h in
          let inner = rest-same k (enter_token g) (ks ++ r ∷ rest) (all_tokens sig vs ps ++ (leave_token g ∷ [])) h in
          elim (splits ks (r ∷ rest) (all_tokens sig vs ps) (leave_token g ∷ []) inner) [
            | inside zs i j ↦ (let o = open-all_front ps (g ∷ []) ks zs i in behind o.more o.opened same)
            | beyond z zs i j ↦ absurd (single r rest zs (rest-same z (leave_token g) (zs ++ r ∷ rest) [] j))
          ]
