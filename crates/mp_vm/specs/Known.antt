-- What is known of a path that is right.
use Rattle.std.specs.Prelude.{◌≡◌, ℕ, Bool, true, false, List, [], ◌∷◌, map, reverse, take, drop, length, Some}
use Rattle.std.specs.Borrow.{Bor}
use Rattle.mp_term.specs.Signature.{Sig}
use Rattle.mp_pattern.specs.NetTokenView.{net_token}
use Rattle.mp_pattern.specs.NetTokens as plain
use Rattle.mp_pattern.specs.NetTokens.{enter_token, leave_token}
use Rattle.mp_pattern.specs.declared.net_token.NetToken.{NetToken}
use Rattle.mp_walk.specs.SoundTokens.{path_nodes}
use Rattle.mp_walk.specs.Walkable.{Path}
use Rattle.mp_program.specs.TokenPaths.{path_uses, is_right_path, open_after, open_along}
use Rattle.mp_vm.specs.Looks.{look_wildcard, HasLooks}
use Rattle.mp_vm.specs.declared.above.Above.{Above}
use Rattle.mp_vm.specs.declared.above.Before.{Before}

-- the tokens to which references point
abbrev pub tokens_in : List (Bor NetToken) → Path
tokens_in ks = map (λ (k : Bor NetToken). net_token k.now) ks

-- a right path, behind which these operations are open
pub record IsGoodPath (sig : Sig) (most : ℕ) (ks : Path) : Type 0 where
  pub right : is_right_path sig most ks ≡ true
  pub open_ones : List ℕ
  pub opens : open_along [] ks ≡ Some open_ones

-- no token
abbrev pub is_none : Path → Bool
is_none [] = true
is_none (k ∷ ks) = false

-- the tokens are a right path, and this is known of them, but for what is open
pub record Knows (sig : Sig) (most : ℕ) (a : Above) (ks : Path) : Type 0 where
  pub right : is_right_path sig most ks ≡ true
  pub first : a.is_first ≡ is_none ks
  pub nodes : a.nodes ≡ path_nodes ks
  pub looks : HasLooks (path_uses ks) (map look_wildcard a.looks.items)

-- the operations that are open, the innermost first
abbrev pub opened : Above → List ℕ
opened a = reverse (map (λ f. f.0) a.open.items)

-- the operations that were open before a token, where these are behind it
abbrev pub open_before : List ℕ → plain.NetToken → List ℕ
open_before fs (enter_token g) = drop 1 fs
open_before fs (leave_token g) = g ∷ fs
open_before fs _ = fs

-- this is known before the token
pub record IsBefore (k : plain.NetToken) (a : Above) (b : Before) : Type 0 where
  pub token : net_token b.token.now ≡ k
  pub nodes : b.nodes ≡ a.nodes
  pub looks : b.looks ≡ length a.looks.items
  pub first : b.is_first ≡ a.is_first

-- the token before which this was known is taken away
pub record IsBack (b : Before) (a z : Above) : Type 0 where
  pub nodes : z.nodes ≡ b.nodes
  pub looks : map look_wildcard z.looks.items ≡ take b.looks (map look_wildcard a.looks.items)
  pub first : z.is_first ≡ b.is_first
  pub opens : opened z ≡ open_before (opened a) (net_token b.token.now)

-- with the token behind the others these wildcards are new at most, and these operations are open
pub record IsMore (k : plain.NetToken) (a z : Above) : Type 0 where
  pub looks : take (length a.looks.items) (map look_wildcard z.looks.items) ≡ map look_wildcard a.looks.items
  pub opens : open_after (opened a) k ≡ Some (opened z)

-- all that is known of a right path
pub record IsGathered (sig : Sig) (most : ℕ) (a : Above) (ks : Path) : Type 0 where
  pub known : Knows sig most a ks
  pub opens : open_along [] ks ≡ Some (opened a)
