-- The matches behind the one of a token are printed: those of the part that has it, and of the parts behind that.
use Rattle.std.proofs.Common.{◌≡◌, ℕ, Bool, List, ◌++◌, refl, sym, ap, subst, inl, true≢false}
use Rattle.std.specs.Prelude.{Option, Some, None, Result, Ok, Err, IsErrAnd, ◌||◌}
use Rattle.mp_io.specs.Moments.{Sunk}
use Rattle.mp_term.specs.Signature.{Sig}
use Rattle.mp_matches.specs.Left.{Left, printed}
use Rattle.mp_matches.specs.Match.{Match}
use Rattle.mp_matches.specs.Printed.{PrintsBehind, PrintsMatches}
use Rattle.mp_matches.specs.declared.stop.Stop.{Stop}
use Rattle.mp_matches.specs.declared.stop.Stop.TheVariants as stop
use Rattle.mp_matches.proofs.PrintedLaws.{printed-append}
use Rattle.mp_matches.proofs.BehindLaws.{appended}
use Rattle.mp_matches.proofs.SoFar.{IsSoFar, of-err, so_far-last, so_far-stopped, stopped-append}

module _ (sig : Sig) (before : Left) where
  pub behind-err : (ms : Option (List Match)) (out : Sunk) (left : Left) (e : Stop) (r : Result (Option Bool) Stop)
      → IsErrAnd r (λ x. x ≡ e) → PrintsBehind sig before ms out left (Err e) → PrintsBehind sig before ms out left r
  behind-err ms out left e r is h = of-err (λ a. PrintsBehind sig before ms out left a) r e is h

  -- the matches behind the token were printed
  pub behind-some : (ms : Option (List Match)) (l : List Match) (out : Sunk) (left : Left) (any : Bool) → ms ≡ Some l
      → PrintsMatches (printed sig before l) out left (Ok any) → PrintsBehind sig before ms out left (Ok (Some any))
  behind-some ms l out left any e h =
      subst (λ o. PrintsBehind sig before o out left (Ok (Some any))) (sym e) (refl, h)

  -- printing of them stopped
  pub behind-some_stopped : (ms : Option (List Match)) (l : List Match) (out : Sunk) (left : Left) (e : Stop)
      → ms ≡ Some l → PrintsMatches (printed sig before l) out left (Err e)
      → PrintsBehind sig before ms out left (Err e)
  behind-some_stopped ms l out left e is h =
      subst (λ o. PrintsBehind sig before o out left (Err e)) (sym is) (inl refl, h)

  -- printing stopped in the part of the token
  pub behind-stopped : (ms : Option (List Match)) (ns : List Match) (out : Sunk) (left : Left) (e : Stop)
      → PrintsBehind sig before ms out left (Err e) → PrintsBehind sig before (appended ms ns) out left (Err e)
  behind-stopped None ns out left e h = h
  behind-stopped (Some ms) ns out left e h = (inl refl, stopped-append sig before ms ns out left e h.1)

  -- no match of the part has the token
  pub behind-not : (ms : Option (List Match)) (ns : List Match) (out : Sunk) (left : Left)
      → PrintsBehind sig before ms out left (Ok None) → PrintsBehind sig before (appended ms ns) out left (Ok None)
  behind-not ms ns out left h = (ap (λ o. appended o ns) h.0, h.1)

  module _ (ms ns : List Match) (a b c : Option (List ℕ)) (m n k : ℕ) (any : Bool) (mid left : Left)
      (h : PrintsMatches (printed sig before ms) (record { old = a; new = b; faults = m; faults_after = n }) mid
      (Ok any))
    where
      so : IsSoFar (printed sig before (ms ++ ns)) (printed sig mid ns)
          (record { old = a; new = b; faults = m; faults_after = n }) any
      so = record {
        text = (printed sig before ms).0;
        split = printed-append sig before ms ns mid h.1;
        written = h.0;
        some = h.2;
      }

      some-stopped : (e : Stop)
          → PrintsMatches (printed sig mid ns) (record { old = b; new = c; faults = n; faults_after = k }) left (Err e)
          → PrintsMatches (printed sig before (ms ++ ns)) (record { old = a; new = c; faults = m; faults_after = k })
          left (Err e)
      some-stopped e p = so_far-stopped (printed sig before (ms ++ ns)) (printed sig mid ns) a b c m n k any left e so p

      some-all : (more : Bool)
          → PrintsMatches (printed sig mid ns) (record { old = b; new = c; faults = n; faults_after = k }) left
          (Ok more)
          → PrintsMatches (printed sig before (ms ++ ns)) (record { old = a; new = c; faults = m; faults_after = k })
          left (Ok (any || more))
      some-all more p = so_far-last (printed sig before (ms ++ ns)) (printed sig mid ns) a b c m n k any left more so p

  module _ (ms : Option (List Match)) (ns : List Match) (a b c : Option (List ℕ)) (m n k : ℕ) (any : Bool)
      (mid left : Left)
      (h : PrintsBehind sig before ms (record { old = a; new = b; faults = m; faults_after = n }) mid (Ok (Some any)))
    where
      -- printing stopped in the parts behind it
      pub behind-then_stopped : (e : Stop)
          → PrintsMatches (printed sig mid ns) (record { old = b; new = c; faults = n; faults_after = k }) left (Err e)
          → PrintsBehind sig before (appended ms ns) (record { old = a; new = c; faults = m; faults_after = k }) left
          (Err e)
      behind-then_stopped e p = go ms h
        where
          go : (o : Option (List Match))
              → PrintsBehind sig before o (record { old = a; new = b; faults = m; faults_after = n }) mid
              (Ok (Some any))
              → PrintsBehind sig before (appended o ns) (record { old = a; new = c; faults = m; faults_after = k }) left
              (Err e)
          go None q = absurd (true≢false (sym q.0))
          go (Some l) q = (inl refl, some-stopped l ns a b c m n k any mid left q.1 e p)

      -- all is printed
      pub behind-then_all : (more : Bool)
          → PrintsMatches (printed sig mid ns) (record { old = b; new = c; faults = n; faults_after = k }) left
          (Ok more)
          → PrintsBehind sig before (appended ms ns) (record { old = a; new = c; faults = m; faults_after = k }) left
          (Ok (Some (any || more)))
      behind-then_all more p = go ms h
        where
          go : (o : Option (List Match))
              → PrintsBehind sig before o (record { old = a; new = b; faults = m; faults_after = n }) mid
              (Ok (Some any))
              → PrintsBehind sig before (appended o ns) (record { old = a; new = c; faults = m; faults_after = k }) left
              (Ok (Some (any || more)))
          go None q = absurd (true≢false (sym q.0))
          go (Some l) q = (refl, some-all l ns a b c m n k any mid left q.1 more p)
