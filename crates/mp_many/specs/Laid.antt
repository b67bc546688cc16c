-- The tree of the prefixes of numbered lists as a table, state by state in preorder.
use Rattle.std.specs.Prelude.{ℕ, zero, suc, ◌+◌, Bool, List, [], ◌∷◌, ◌++◌, map, flat_map, length, Option, Some, None}
use Rattle.std.specs.Prelude.{if◌then◌else◌}
use Rattle.mp_term.specs.Signature.{Sig}
use Rattle.mp_pattern.specs.Admission.{Rule}
use Rattle.mp_pattern.specs.NetTokens.{NetToken}
use Rattle.mp_walk.specs.Instrs.{Instr}
use Rattle.mp_many.specs.Prefixes.{heads, rest_after, token_lists, token_count}

-- a list, or what is left of it, with its number
abbrev pub Numbered : Type 0
Numbered = ℕ × List NetToken

-- the lists without their numbers
abbrev pub bare : List Numbered → List (List NetToken)
bare ls = map (λ l. l.1) ls

-- what is left of the lists that begin with k
abbrev pub left_after : NetToken → List Numbered → List Numbered
left_after k ls = flat_map (λ l. map (λ ks. (l.0, ks)) (rest_after k l.1)) ls

-- the number of a list of which nothing is left
abbrev pub ended : Numbered → List ℕ
ended (n, []) = n ∷ []
ended (n, k ∷ ks) = []

-- the number, where there is something behind
abbrev pub target : {X : Type 0} → ℕ → List X → Option ℕ
target n [] = None
target n (x ∷ xs) = Some n

-- the states of the first tokens ks of the lists, each followed by what is below it; the first has the number n
abbrev pub each_laid : (List Numbered → ℕ → List Instr) → List Numbered → List NetToken → ℕ → List Instr
each_laid below ls [] n = []
each_laid below ls (k ∷ ks) n =
    let left = left_after k ls in
    let states = below left (suc n) in
    record {
      token = k;
      down = target (suc n) states;
      over = target (suc n + length states) ks;
      accepts = flat_map ended left;
    } ∷ (states ++ each_laid below ls ks (suc n + length states))

-- the states of the prefixes of numbered lists of at most d tokens, the first of which has the number n
abbrev pub laid : ℕ → List Numbered → ℕ → List Instr
laid zero ls n = []
laid (suc d) ls n = each_laid (laid d) ls (heads (bare ls)) n

-- a state that leads nowhere yet, of what is left behind its token
abbrev pub unlinked : NetToken → List Numbered → Instr
unlinked k left = record { token = k; down = None; over = None; accepts = flat_map ended left }

-- the first of the states behind so many leads down to the next of them, where there is one, and over to the state that
-- comes behind them, where more states come
abbrev pub linked : ℕ → Bool → List Instr → List Instr
linked n more [] = []
linked n more (i ∷ is) = record {
  token = i.token;
  down = target (suc (suc n)) is;
  over = if more then Some (suc (suc n) + length is) else None;
  accepts = i.accepts;
} ∷ is

-- the lists with their numbers, the first of which is n
abbrev pub numbered_from : ℕ → List (List NetToken) → List Numbered
numbered_from n [] = []
numbered_from n (l ∷ ls) = (n, l) ∷ numbered_from (suc n) ls

-- the table of the tree of rules
abbrev pub tree_of : Sig → List Rule → List Instr
tree_of sig rules = let ls = token_lists sig rules in laid (token_count ls) (numbered_from 0 ls) 1
