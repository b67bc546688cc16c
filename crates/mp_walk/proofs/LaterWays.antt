-- The ways of a token from a number on, beside all of them.
use Rattle.std.proofs.Common.{◌≡◌, ◌≤◌, ◌<◌, ◌+◌, ℕ, zero, suc, List, [], ◌++◌, map, refl, ap, sym, ◌∙◌, subst, arith}
use Rattle.std.specs.Prelude.{flat_map}
use Rattle.std.proofs.lemmas.Grind.{flat_map-append}
use Rattle.std.proofs.lemmas.List.{map-append}
use Rattle.mp_term.specs.Listing.{In}
use Rattle.mp_term.specs.Signature.{Sig}
use Rattle.mp_term.proofs.SearchLaws.{in-right}
use Rattle.mp_pattern.specs.NetTokens.{NetToken}
use Rattle.mp_pattern.specs.Value.{Subst}
use Rattle.mp_walk.specs.TokenMachine.{Open}
use Rattle.mp_walk.specs.Visits.{total}
use Rattle.mp_walk.specs.Ways.{Step, way_steps, ways_from}
use Rattle.mp_walk.proofs.VisitLaws.{total-append}
use Rattle.mp_walk.proofs.WayLaws.{ways-step}
use Rattle.mp_walk.proofs.WaySteps.{flat-none_in}

module _ (sig : Sig) (f : Open) (fs : List Open) (s : Subst) (k : NetToken) where
  -- their steps are steps of the token
  pub later-in : (from : ℕ) (r : Step) → In r (ways_from sig f fs s k from) → In r (ways_from sig f fs s k 0)
  later-in zero r m = m
  later-in (suc n) r m =
      later-in n r (subst (In r) (sym (ways-step sig f fs s k n))
      (in-right r (way_steps sig f fs s k n) (ways_from sig f fs s k (suc n)) m))

  -- where nothing comes of the steps of the ways before, the same comes of them
  pub later-flat : {Y : Type 0} (A : Step → List Y) (from : ℕ)
      → ((n : ℕ) (r : Step) → n < from → In r (way_steps sig f fs s k n) → A r ≡ [])
      → flat_map A (ways_from sig f fs s k 0) ≡ flat_map A (ways_from sig f fs s k from)
  later-flat A zero none = refl
  later-flat A (suc n) none =
      later-flat A n (λ w r l m. none w r (omega (arith, l)) m)
      ∙ ap (flat_map A) (ways-step sig f fs s k n)
      ∙ flat_map-append A (way_steps sig f fs s k n) (ways_from sig f fs s k (suc n))
      ∙ ap (λ ys. ys ++ flat_map A (ways_from sig f fs s k (suc n)))
      (flat-none_in A (way_steps sig f fs s k n) (λ r m. none n r (omega arith) m))

  -- they count no more
  pub later-total : (count : Step → ℕ) (from : ℕ)
      → total (map count (ways_from sig f fs s k from)) ≤ total (map count (ways_from sig f fs s k 0))
  later-total count zero = omega arith
  later-total count (suc n) =
      let h = later-total count n in
      let e = ap (λ rs. total (map count rs)) (ways-step sig f fs s k n)
      ∙ ap total (map-append count (way_steps sig f fs s k n) (ways_from sig f fs s k (suc n)))
      ∙ total-append (map count (way_steps sig f fs s k n)) (map count (ways_from sig f fs s k (suc n))) in
      omega (arith, h, e)
