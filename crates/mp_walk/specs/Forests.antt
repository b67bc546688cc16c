-- A table of tokens that lead down and over is a forest; what a walk over it puts out.
use Rattle.std.specs.Prelude.{ℕ, Bool, List, [], ◌∷◌, ◌++◌, map, flat_map, if◌then◌else◌}

mutual
  -- a token, the numbers that are put out after it, and what stands below it
  pub data Node (K : Type 0) : Type 0 where
    node : K → List ℕ → Forest K → Node K

  -- a node with what stands beside it
  pub data Forest (K : Type 0) : Type 0 where
    none : Forest K
    beside : Node K → Forest K → Forest K

-- the numbers, each with the list of tokens that leads to it
abbrev pub lists : {K : Type 0} → Forest K → List (ℕ × List K)
lists none = []
lists (beside (node k ns below) fs) =
    map (λ n. (n, k ∷ [])) ns ++ (map (λ l. (l.0, k ∷ l.1)) (lists below) ++ lists fs)

-- a step reads one token: what it puts out, and the state after it
module _ {S K O : Type 0} (steps : S → K → List (List O × S)) (ends : S → Bool) where
  -- what a list of tokens puts out from a state on, after what was put out before
  abbrev pub runs : List K → S → List O → List (List O)
  runs [] s before = if ends s then before ∷ [] else []
  runs (k ∷ ks) s before = flat_map (λ r. runs ks r.1 (before ++ r.0)) (steps s k)

  -- the numbers with what was put out, where the state is an end
  abbrev pub put_out : List ℕ → S → List O → List (ℕ × List O)
  put_out ns s before = if ends s then map (λ n. (n, before)) ns else []

  -- what a walk over the forest puts out: each token is read once for all that stands below it
  abbrev pub walk : Forest K → S → List O → List (ℕ × List O)
  walk none s before = []
  walk (beside (node k ns below) fs) s before =
      flat_map (λ r. put_out ns r.1 (before ++ r.0) ++ walk below r.1 (before ++ r.0)) (steps s k)
      ++ walk fs s before
