-- The paths of a table that may be walked are right and balanced, and what leads down accepts nothing.
use Rattle.std.proofs.Common.{◌≡◌, ◌≢◌, ℕ, List, [], ◌∷◌, ◌++◌, true, false, refl, ap, sym, ◌∙◌}
use Rattle.std.proofs.Common.{subst, arith, append_assoc}
use Rattle.std.specs.Prelude.{Option, Some, None, IsSome, is_some}
use Rattle.mp_term.specs.Signature.{Sig}
use Rattle.mp_term.proofs.ListingLaws.{all_in}
use Rattle.mp_pattern.specs.declared.limits.TheConstants.{MAX_PATTERN_NODES}
use Rattle.mp_pattern.specs.NetTokens.{NetToken}
use Rattle.mp_pattern.specs.Variables.{variables}
use Rattle.mp_walk.specs.Instrs.{Instr, instr_at}
use Rattle.mp_walk.specs.Walkable.{Path, IsWhole, IsWalkable}
use Rattle.mp_walk.proofs.CodePaths.{instr-in, instr-there, down-target}
use Rattle.mp_walk.proofs.EntryLaws.{none-some}
use Rattle.mp_walk.proofs.PathLaws.{path-goes_on}
use Rattle.mp_program.specs.TokenPaths.{is_right_path, open_along, is_balanced}
use Rattle.mp_gen.proofs.OpenLaws.{open-tokens, open-before}
use Rattle.mp_gen.proofs.PathVariables.{right-front}

-- an operation is open behind the tokens
abbrev pub OpenBehind : Path → Type 0
OpenBehind ks = (f : ℕ) × (fs : List ℕ) × (open_along [] ks ≡ Some (f ∷ fs))

pub whole-open : (sig : Sig) (path : Path) → IsWhole sig path → open_along [] path ≡ Some []
whole-open sig path w =
    ap (open_along []) (sym w.stands.tokens) ∙ open-tokens sig (variables w.pattern) w.pattern []

front-open : (sig : Sig) (ks : Path) (last r : NetToken) (rest : Path) → IsWhole sig ((ks ++ last ∷ []) ++ r ∷ rest)
    → OpenBehind (ks ++ last ∷ [])
front-open sig [] last r rest w =
    let o = open-before sig (variables w.pattern) w.pattern last [] r rest (sym w.stands.tokens) in
    (o.first, o.others, o.opened)
front-open sig (k ∷ ks) last r rest w =
    let o = open-before sig (variables w.pattern) w.pattern k (ks ++ last ∷ []) r rest (sym w.stands.tokens) in
    (o.first, o.others, o.opened)

module _ (sig : Sig) (code : List Instr) (w : IsWalkable sig code) (n : ℕ) (i : Instr)
    (held : instr_at code n ≡ Some i) where
  -- the path of an instruction
  abbrev path : Path
  path = w.before n ++ i.token ∷ []

  -- is right
  pub path-right : is_right_path sig MAX_PATTERN_NODES (w.before n ++ i.token ∷ []) ≡ true
  path-right = let g = path-goes_on sig code w n i held in
      right-front sig (w.before n ++ i.token ∷ []) g.rest g.whole

  down-open : (t : ℕ) → i.down ≡ Some t → OpenBehind (w.before n ++ i.token ∷ [])
  down-open t e =
      let f = w.forward n t i held (down-target i t e) in
      let j = instr-there code t (omega (arith, f.0)) f.1 in
      let g = path-goes_on sig code w t j.0 j.1 in
      front-open sig (w.before n) i.token j.0.token g.rest
      (subst (IsWhole sig)
      (ap (λ ks. (ks ++ j.0.token ∷ []) ++ g.rest) (w.paths.down n t i held e)
      ∙ append_assoc (w.before n ++ i.token ∷ []) (j.0.token ∷ []) g.rest) g.whole)

  -- what leads down accepts nothing
  pub down-accepts : (t : ℕ) → i.down ≡ Some t → i.accepts ≡ []
  down-accepts t e = by_accepts i.accepts refl
    where
      by_accepts : (rs : List ℕ) → i.accepts ≡ rs → i.accepts ≡ []
      by_accepts [] k = k
      by_accepts (r ∷ rs) k =
          let some : i.accepts ≢ [] = λ q. (let z : [] ≡ r ∷ rs = sym q ∙ k in cc) in
          let o = down-open t e in
          let both : Some [] ≡ Some (o.0 ∷ o.1) =
          sym (whole-open sig (w.before n ++ i.token ∷ []) (w.whole n i held some)) ∙ o.2 in
          cc

  -- what leads nowhere accepts
  pub end-accepts : i.down ≡ None → i.accepts ≢ []
  end-accepts e k =
      let some = all_in (λ j. j.accepts ≡ [] → IsSome j.down) code i w.leads (instr-in code n i held) k in
      none-some i.down e some

  -- an operation is open exactly where it leads down
  pub path-balanced : is_balanced (open_along [] (w.before n ++ i.token ∷ [])) (is_some i.down) ≡ true
  path-balanced = by_down i.down refl
    where
      by_down : (o : Option ℕ) → i.down ≡ o
          → is_balanced (open_along [] (w.before n ++ i.token ∷ [])) (is_some o) ≡ true
      by_down None e = ap (λ (q : Option (List ℕ)). is_balanced q false)
          (whole-open sig (w.before n ++ i.token ∷ []) (w.whole n i held (end-accepts e)))
      by_down (Some t) e = let o = down-open t e in
          ap (λ (q : Option (List ℕ)). is_balanced q true) o.2
