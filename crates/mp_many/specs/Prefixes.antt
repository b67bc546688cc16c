-- The prefixes of the token lists of rules, and the tree that they make.
use Rattle.std.specs.Prelude.{◌≡◌, ℕ, zero, suc, Bool, true, false, ◌&&◌, List, [], ◌∷◌, ◌++◌, map, flat_map, length}
use Rattle.std.specs.Prelude.{slice_get, drop, Option, Some, None, if◌then◌else◌}
use Rattle.mp_term.specs.Signature.{Sig}
use Rattle.mp_pattern.specs.Admission.{Rule}
use Rattle.mp_pattern.specs.Firsts.{firsts_after}
use Rattle.mp_pattern.specs.NetTokens.{NetToken, tokens_of, same_token}
use Rattle.mp_walk.specs.Instrs.{Instr}

-- the first token of a list, where it has one
abbrev pub head_of : List NetToken → List NetToken
head_of [] = []
head_of (k ∷ ks) = k ∷ []

-- the distinct first tokens of lists, in order of the first list that begins so
abbrev pub heads : List (List NetToken) → List NetToken
heads ls = firsts_after same_token [] (flat_map head_of ls)

-- the rest of a list, where it begins with k
abbrev pub rest_after : NetToken → List NetToken → List (List NetToken)
rest_after k [] = []
rest_after k (j ∷ ks) = if same_token j k then ks ∷ [] else []

-- the rests of the lists that begin with k
abbrev pub rests : NetToken → List (List NetToken) → List (List NetToken)
rests k ls = flat_map (rest_after k) ls

-- the distinct non-empty prefixes of lists of at most d tokens, in preorder: a prefix stands before those that go
-- beyond it, and the prefixes that begin with one token stand together, in order of the first list that begins so
abbrev pub prefixes_within : ℕ → List (List NetToken) → List (List NetToken)
prefixes_within zero ls = []
prefixes_within (suc d) ls =
    flat_map (λ k. (k ∷ []) ∷ map (λ ks. k ∷ ks) (prefixes_within d (rests k ls))) (heads ls)

-- the token lists of rules
abbrev pub token_lists : Sig → List Rule → List (List NetToken)
token_lists sig rules = map (λ r. tokens_of sig r.pattern) rules

-- so many tokens the lists have together
abbrev pub token_count : List (List NetToken) → ℕ
token_count ls = length (flat_map (λ l. l) ls)

-- the prefixes of the token lists of rules
abbrev pub prefixes : Sig → List Rule → List (List NetToken)
prefixes sig rules = prefixes_within (token_count (token_lists sig rules)) (token_lists sig rules)

-- the lists are equal
abbrev pub same_tokens : List NetToken → List NetToken → Bool
same_tokens [] [] = true
same_tokens (j ∷ js) (k ∷ ks) = same_token j k && same_tokens js ks
same_tokens _ _ = false

-- the list without its last token
abbrev pub without_last : List NetToken → List NetToken
without_last [] = []
without_last (k ∷ []) = []
without_last (k ∷ j ∷ ks) = k ∷ without_last (j ∷ ks)

-- the number of the first of the prefixes, which are numbered from n on, that goes one token beyond the parent
abbrev pub child_among : ℕ → List (List NetToken) → List NetToken → Option ℕ
child_among n [] parent = None
child_among n (p ∷ ps) parent = if same_tokens (without_last p) parent then Some n else child_among (suc n) ps parent

-- the number, from 1, of the first prefix behind so many that does
abbrev pub next_child : List (List NetToken) → List NetToken → ℕ → Option ℕ
next_child all parent from = child_among (suc from) (drop from all) parent

-- the numbers of the lists, the first of which has the number n, that are the prefix
abbrev pub accepted_by : ℕ → List (List NetToken) → List NetToken → List ℕ
accepted_by n [] p = []
accepted_by n (l ∷ ls) p = if same_tokens l p then n ∷ accepted_by (suc n) ls p else accepted_by (suc n) ls p

-- the state of the number, from 1, is the prefix at its place in preorder: its token is the prefix's last, `down` is
-- its first child, `over` its next sibling, and it accepts the rules whose tokens it is
pub record IsState (sig : Sig) (rules : List Rule) (number : ℕ) (i : Instr) : Type 0 where
  pub parent : List NetToken
  pub prefix : slice_get ([] ∷ prefixes sig rules) number ≡ Some (parent ++ (i.token ∷ []))
  pub down : i.down ≡ next_child (prefixes sig rules) (parent ++ (i.token ∷ [])) 0
  pub over : i.over ≡ next_child (prefixes sig rules) parent number
  pub accepts : i.accepts ≡ accepted_by 0 (token_lists sig rules) (parent ++ (i.token ∷ []))
