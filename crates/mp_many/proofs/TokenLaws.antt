-- Tokens that stand in the patterns of rules: their digests, and when they differ.
use Rattle.std.proofs.Common.{◌≡◌, ℕ, List}
use Rattle.std.proofs.Common.{refl, ap, sym, ◌∙◌, Bool, true, false, eq-eqb}
use Rattle.std.specs.Prelude.{not, nat_eq, Option}
use Rattle.mp_pattern.specs.NetTokens.{NetToken, renamed, all_renamed, same_token, wild_token}
use Rattle.mp_pattern.specs.NetTokenLaws.{same_token-is}
use Rattle.mp_pattern.specs.PatternTree.{Pattern, symbol_pattern, app_pattern, wild_pattern, Patterns, no_patterns}
use Rattle.mp_pattern.specs.PatternTree.{kind, more_patterns}
use Rattle.mp_many.specs.Digest.{mixed, pattern_digest, all_digest}

mutual
  -- the digest of a pattern is no matter of its variables' names
  pub digest-renamed : (xs : List (List ℕ)) (seed : ℕ) (p : Pattern)
      → pattern_digest seed (renamed xs p) ≡ pattern_digest seed p
  digest-renamed xs seed (symbol_pattern n) = refl
  digest-renamed xs seed (wild_pattern w x) = refl
  digest-renamed xs seed (app_pattern f ps) = all_digest-renamed xs (mixed (mixed seed 2) f) ps

  all_digest-renamed : (xs : List (List ℕ)) (seed : ℕ) (ps : Patterns)
      → all_digest seed (all_renamed xs ps) ≡ all_digest seed ps
  all_digest-renamed xs seed no_patterns = refl
  all_digest-renamed xs seed (more_patterns p ps) =
      ap (λ s. all_digest s (all_renamed xs ps)) (digest-renamed xs seed p)
      ∙ all_digest-renamed xs (pattern_digest seed p) ps

-- the kind of a wildcard that has one
abbrev kind_in : NetToken → ℕ
kind_in (wild_token (kind a) x) = a
kind_in k = 0

-- wildcards of different kinds are different tokens
pub kinds-apart : (j k : NetToken) (own others : ℕ × Option ℕ) → j ≡ wild_token (kind own.0) own.1
    → k ≡ wild_token (kind others.0) others.1 → not (nat_eq own.0 others.0) ≡ true → same_token j k ≡ false
kinds-apart j k own others e f h = at (same_token j k) (same_token-is j k)
  where
    at : (b : Bool) → (b ≡ true → j ≡ k) → b ≡ false
    at false is = refl
    at true is =
        let same : own.0 ≡ others.0 = ap kind_in (sym e ∙ is refl ∙ f) in
        let alike : nat_eq own.0 others.0 ≡ true = eq-eqb own.0 others.0 same in
        let wrong : not true ≡ true = ap not (sym alike) ∙ h in
        cc
