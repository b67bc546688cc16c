-- Computed examples of trees of prefixes.
use Rattle.std.proofs.Common.{◌≡◌, ℕ, List, [], ◌∷◌, refl}
use Rattle.std.specs.Prelude.{None, Some, codes}
use Rattle.mp_pattern.specs.Admission.{Rule}
use Rattle.mp_pattern.specs.PatternTree.{dot, Pattern}
use Rattle.mp_pattern.specs.NetTokens.{NetToken, sym_token, enter_token, leave_token, wild_token, comm_token}
use Rattle.mp_pattern.proofs.ExampleWords.{sig, f, set, pattern, a_pattern, x_, y_}
use Rattle.mp_many.specs.Laid.{tree_of}
use Rattle.mp_many.specs.Prefixes.{prefixes, next_child, accepted_by, token_lists}

-- a rule with the pattern
rule : List ℕ → Pattern → Rule
rule name p = record { name = name; pattern = p; template = None; condition = None }

-- r: f(x_, y_) and q: f(x_, a)
two : List Rule
two = rule (codes "r") (pattern f (x_ dot ∷ y_ dot ∷ [])) ∷ rule (codes "q") (pattern f (x_ dot ∷ a_pattern ∷ [])) ∷ []

first : NetToken
first = wild_token dot (Some 0)

second : NetToken
second = wild_token dot (Some 1)

-- they share two of six prefixes
prefixes_of_two : prefixes sig two
    ≡ (enter_token f ∷ [])
    ∷ (enter_token f ∷ first ∷ [])
    ∷ (enter_token f ∷ first ∷ second ∷ [])
    ∷ (enter_token f ∷ first ∷ second ∷ leave_token f ∷ [])
    ∷ (enter_token f ∷ first ∷ sym_token (codes "a") ∷ [])
    ∷ (enter_token f ∷ first ∷ sym_token (codes "a") ∷ leave_token f ∷ [])
    ∷ []
unfolding two rule first second
prefixes_of_two = refl

-- and so they have six states
tree_of_two : tree_of sig two
    ≡ record { token = enter_token f; down = Some 2; over = None; accepts = [] }
    ∷ record { token = first; down = Some 3; over = None; accepts = [] }
    ∷ record { token = second; down = Some 4; over = Some 5; accepts = [] }
    ∷ record { token = leave_token f; down = None; over = None; accepts = 0 ∷ [] }
    ∷ record { token = sym_token (codes "a"); down = Some 6; over = None; accepts = [] }
    ∷ record { token = leave_token f; down = None; over = None; accepts = 1 ∷ [] }
    ∷ []
unfolding two rule first second
tree_of_two = refl

-- the third prefix has the fifth beside it, and its first child behind it; the last has none, and is the second rule
children_of_two : (next_child (prefixes sig two) (enter_token f ∷ first ∷ []) 3 ≡ Some 5)
    × (next_child (prefixes sig two) (enter_token f ∷ first ∷ second ∷ []) 0 ≡ Some 4)
    × (next_child (prefixes sig two) (enter_token f ∷ first ∷ sym_token (codes "a") ∷ leave_token f ∷ []) 0 ≡ None)
    × (accepted_by 0 (token_lists sig two) (enter_token f ∷ first ∷ sym_token (codes "a") ∷ leave_token f ∷ [])
    ≡ 1 ∷ [])
unfolding two rule first second
children_of_two = (refl, refl, refl, refl)

-- set(a) twice, and f(set(a)) between them: equal rules have one state, which accepts both
shared : List Rule
shared =
    rule (codes "r") (pattern set (a_pattern ∷ []))
    ∷ rule (codes "q") (pattern f (pattern set (a_pattern ∷ []) ∷ []))
    ∷ rule (codes "p") (pattern set (a_pattern ∷ []))
    ∷ []

set_token : NetToken
set_token = comm_token (pattern set (a_pattern ∷ []))

tree_of_shared : tree_of sig shared
    ≡ record { token = set_token; down = None; over = Some 2; accepts = 0 ∷ 2 ∷ [] }
    ∷ record { token = enter_token f; down = Some 3; over = None; accepts = [] }
    ∷ record { token = set_token; down = Some 4; over = None; accepts = [] }
    ∷ record { token = leave_token f; down = None; over = None; accepts = 1 ∷ [] }
    ∷ []
unfolding shared rule set_token
tree_of_shared = refl
