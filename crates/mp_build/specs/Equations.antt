-- The equations of operations.
use Rattle.std.specs.Prelude.{ℕ, Bool, ◌||◌}
use Rattle.mp_term.specs.Signature.{Sig, is_assoc, is_comm, is_one}

-- the operation is associative, commutative or one-identity
abbrev pub has_equation : Sig → ℕ → Bool
has_equation sig f = is_assoc sig f || (is_comm sig f || is_one sig f)
