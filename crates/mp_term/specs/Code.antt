-- A tree as a list of tokens that gives it back: by this, a proof tells trees apart.
use Rattle.std.specs.Prelude.{◌≡◌, ℕ, zero, suc, List, [], ◌∷◌, length, refl}
use Rattle.std.proofs.Common.{◌∙◌, ap}
use Rattle.std.specs.Coded.{Coded, code_by, coded_ℕ, coded_list}
use Rattle.mp_term.specs.TreeLists.{trees-tree_list}
use Rattle.mp_term.specs.Tree.{Tree, symbol, app, Trees, no_trees, more_trees, tree_list, trees}

-- the end of a list of arguments is 0, a symbol is 1 with its bytes, and an application is 2 with its operation and how
-- many arguments it has
abbrev mutual
  -- the tokens of a tree, before the rest
  pub tokens : Tree → List (List ℕ) → List (List ℕ)
  tokens (symbol n) rest = (1 ∷ n) ∷ rest
  tokens (app f ts) rest = (2 ∷ f ∷ length (tree_list ts) ∷ []) ∷ all_tokens ts rest

  -- those of the trees of a list
  pub all_tokens : Trees → List (List ℕ) → List (List ℕ)
  all_tokens no_trees rest = (0 ∷ []) ∷ rest
  all_tokens (more_trees t ts) rest = tokens t (all_tokens ts rest)

-- the trees of the open list become the arguments of f
abbrev enclose : ℕ → List Tree → List (List Tree) → List Tree × List (List Tree)
enclose f ts [] = (ts, [])
enclose f ts (us ∷ rest) = (app f (trees ts) ∷ us, rest)

-- what the trees of the open list, and those of the lists around it, become by one token before them
abbrev step : List ℕ → List Tree × List (List Tree) → List Tree × List (List Tree)
step (suc zero ∷ n) s = (symbol n ∷ s.0, s.1)
step (suc (suc _) ∷ f ∷ _) s = enclose f s.0 s.1
step _ s = ([], s.0 ∷ s.1)

-- the trees that a list of tokens gives back
abbrev parsed : List (List ℕ) → List Tree × List (List Tree)
parsed [] = ([], [])
parsed (t ∷ ts) = step t (parsed ts)

mutual
  parsed-tokens : (t : Tree) (rest : List (List ℕ)) → parsed (tokens t rest) ≡ (t ∷ (parsed rest).0, (parsed rest).1)
  parsed-tokens (symbol n) rest = refl
  parsed-tokens (app f ts) rest =
      ap (step (2 ∷ f ∷ length (tree_list ts) ∷ [])) (parsed-all ts rest) ∙ rw (trees-tree_list ts) refl

  parsed-all : (ts : Trees) (rest : List (List ℕ))
      → parsed (all_tokens ts rest) ≡ (tree_list ts, (parsed rest).0 ∷ (parsed rest).1)
  parsed-all no_trees rest = refl
  parsed-all (more_trees t ts) rest = parsed-tokens t (all_tokens ts rest)
      ∙ ap (λ s. (t ∷ s.0, s.1)) (parsed-all ts rest)

-- the first item, or d where there is none
abbrev pub first : {T : Type 0} → T → List T → T
first d [] = d
first d (t ∷ ts) = t

-- the tree of tokens
abbrev pub tree_of : List (List ℕ) → Tree
tree_of ts = first (symbol []) (parsed ts).0

-- a tree is given back by its tokens
pub tree_of-tokens : (t : Tree) → tree_of (tokens t []) ≡ t
tree_of-tokens t = ap (λ s. first (symbol []) s.0) (parsed-tokens t [])

-- a tree as its tokens
abbrev pub coded_tree : Coded Tree
coded_tree = code_by (List (List ℕ)) (coded_list (coded_list coded_ℕ)) (λ t. tokens t []) tree_of tree_of-tokens
