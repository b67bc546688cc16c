-- The tokens that are read lead, step by step, from the first state to the one at hand.
use Rattle.std.specs.Prelude.{◌≡◌, ℕ, List, [], ◌∷◌, ◌++◌, Some}
use Rattle.mp_term.specs.Listing.{In}
use Rattle.mp_term.specs.Signature.{Sig}
use Rattle.mp_walk.specs.Course.{Read, Alike, read_entries, steps_left}
use Rattle.mp_walk.specs.Instrs.{Instr, instr_at}
use Rattle.mp_walk.specs.TokenMachine.{State, token_steps}
use Rattle.mp_walk.specs.Walkable.{Path}
use Rattle.mp_walk.specs.Ways.{Step}

module _ (sig : Sig) (code : List Instr) where
  -- the steps of a token that are left are steps of it
  abbrev pub IsOwed : Read → Type 0
  IsOwed l = (i : Instr) → instr_at code l.instr ≡ Some i → (r : Step) → In r (steps_left sig i.token l)
      → In r (token_steps sig l.state i.token)

  module _ (before : ℕ → Path) where
    -- the token, which stands behind the path, has taken the step, and put out its entries
    pub record IsStepOf (path : Path) (l : Read) (i : Instr) (r : Step) : Type 0 where
      pub is : instr_at code l.instr ≡ Some i
      pub behind : before l.instr ≡ path
      pub step : In r (token_steps sig l.state i.token)
      pub entries : r.0 ≡ read_entries code l

    -- the tokens behind a path lead from one state to another, and so it is with the path behind them
    module _ (Then : Path → Type 0) where
      abbrev pub IsChained : Path → State → List Read → State → Type 0
      IsChained path s [] e = Alike s e × Then path
      IsChained path s (l ∷ ls) e =
          Alike s l.state × IsOwed l
          × ((i : Instr) × (r : Step) × IsStepOf path l i r × IsChained (path ++ i.token ∷ []) r.1 ls e)
