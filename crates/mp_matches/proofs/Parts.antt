-- The matches of parts, one part after the other.
use Rattle.std.proofs.Common.{◌≡◌, ℕ, ◌+◌, ◌<◌, Bool, List, ◌++◌, length, map, drop, get_or, ap, subst}
use Rattle.std.specs.Prelude.{Option, Ok, Err, flat_map, ◌||◌}
use Rattle.std.specs.List.{AllByRecursion}
use Rattle.mp_io.specs.Devices.{Text}
use Rattle.mp_term.specs.Signature.{Sig}
use Rattle.mp_term.proofs.ListLaws.{drop-item}
use Rattle.mp_matches.specs.Left.{Left, printed}
use Rattle.mp_matches.specs.Match.{Match}
use Rattle.mp_matches.specs.Printed.{PrintsMatches}
use Rattle.mp_matches.specs.declared.stop.Stop.{Stop}
use Rattle.mp_matches.proofs.SoFar.{IsSoFar, so_far-more, so_far-stopped, stopped-append}

module _ {A X : Type 0} (view : A → X) where
  -- what holds of all items from an index on holds of the one there and of those after it
  pub AllByRecursion-drop : (P : X → Type 0) (xs : List A) (i : ℕ) (x : A) → i < length xs → x ≡ get_or xs i x
      → AllByRecursion P (map view (drop i xs)) → P (view x) × AllByRecursion P (map view (drop (i + 1) xs))
  AllByRecursion-drop P xs i x h is all = subst (λ ys. AllByRecursion P (map view ys)) (drop-item xs i x h is) all

  -- the parts of the items from an index on
  pub flat_map-drop : {Y : Type 0} (f : X → List Y) (xs : List A) (i : ℕ) (x : A) → i < length xs → x ≡ get_or xs i x
      → flat_map f (map view (drop i xs)) ≡ f (view x) ++ flat_map f (map view (drop (i + 1) xs))
  flat_map-drop f xs i x h is = ap (λ ys. flat_map f (map view ys)) (drop-item xs i x h is)

module _ {A X : Type 0} (view : A → X) (f : X → List Match) (sig : Sig) (xs : List A) (i : ℕ) (x : A)
    (within : i < length xs) (is : x ≡ get_or xs i x) (whole : Text × Option Left) (a b c : Option Text) (m n k : ℕ)
    (any : Bool) (before left : Left)
    (so : IsSoFar whole (printed sig before (flat_map f (map view (drop i xs))))
    (record { old = a; new = b; faults = m; faults_after = n }) any) where
  split : IsSoFar whole (printed sig before (f (view x) ++ flat_map f (map view (drop (i + 1) xs))))
      (record { old = a; new = b; faults = m; faults_after = n }) any
  split = subst (λ ms. IsSoFar whole (printed sig before ms)
      (record { old = a; new = b; faults = m; faults_after = n }) any) (flat_map-drop view f xs i x within is) so

  -- printing stopped in the part at the index
  pub parts-stopped : (e : Stop)
      → PrintsMatches (printed sig before (f (view x))) (record { old = b; new = c; faults = n; faults_after = k }) left
      (Err e)
      → PrintsMatches whole (record { old = a; new = c; faults = m; faults_after = k }) left (Err e)
  parts-stopped e h =
      let ns = flat_map f (map view (drop (i + 1) xs)) in
      so_far-stopped whole (printed sig before (f (view x) ++ ns)) a b c m n k any left e split
      (stopped-append sig before (f (view x)) ns (record { old = b; new = c; faults = n; faults_after = k }) left e h)

  -- the part at the index was printed, and those after it are still to come
  pub parts-more : (some : Bool)
      → PrintsMatches (printed sig before (f (view x))) (record { old = b; new = c; faults = n; faults_after = k }) left
      (Ok some)
      → IsSoFar whole (printed sig left (flat_map f (map view (drop (i + 1) xs))))
      (record { old = a; new = c; faults = m; faults_after = k }) (any || some)
  parts-more some h =
      so_far-more sig before (f (view x)) (flat_map f (map view (drop (i + 1) xs))) whole a b c m n k any some left
      split h
