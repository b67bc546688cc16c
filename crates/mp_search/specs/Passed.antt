-- What contracts see of a child that takes the next term and is bound at once.
use Rattle.std.specs.Prelude.{◌≡◌, ◌⊎◌, [], ◌∷◌, Some, None}
use Rattle.mp_pattern.specs.Fits.{Entry}
use Rattle.mp_subst.specs.Trail.{Trail}
use Rattle.mp_theory.specs.Frames.{Next}
use Rattle.mp_theory.specs.Machine.{choices, said}
use Rattle.mp_theory.specs.Solve.{solve}
use Rattle.mp_search.specs.declared.query.Query.{Query}
use Rattle.mp_search.specs.Reading.{subst_of}

-- the entry is the only choice, and what it says is bound
pub record IsPassed (q : Query) (n : Next) (t u : Trail) (e : Entry) : Type 0 where
  pub choice : choices q.sig.now n ≡ e ∷ []
  pub bound : solve q.sig.now (subst_of q t) (said n e) ≡ Some (subst_of q u)

-- there is no choice, and nothing is bound, or what the only one says clashes
abbrev pub IsShut : Query → Next → Trail → Trail → Entry → Type 0
IsShut q n t u e = ((choices q.sig.now n ≡ []) × (u ≡ t))
    ⊎ ((choices q.sig.now n ≡ e ∷ []) × (solve q.sig.now (subst_of q t) (said n e) ≡ None))
