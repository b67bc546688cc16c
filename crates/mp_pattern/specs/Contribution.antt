-- What a value contributes to the arguments of an operation.
use Rattle.std.specs.Prelude.{ℕ, List, [], ◌∷◌, Option, Some, None, nat_eq, if◌then◌else◌}
use Rattle.mp_term.specs.Tree.{Tree, symbol, app, tree_list}
use Rattle.mp_term.specs.Signature.{Sig, is_assoc}

-- two arguments or more
abbrev pub if_several : List Tree → Option (List Tree)
if_several [] = None
if_several (t ∷ []) = None
if_several (t ∷ u ∷ ts) = Some (t ∷ u ∷ ts)

-- under an associative f: the arguments of a term that is headed by f, of which there must be two or more, and else the
-- term alone
abbrev pub spread : ℕ → Tree → Option (List Tree)
spread f (symbol n) = Some (symbol n ∷ [])
spread f (app g ts) = if nat_eq f g then if_several (tree_list ts) else Some (app g ts ∷ [])

-- under the operation above, and at the root the term alone
abbrev pub contribution : Sig → Option ℕ → Tree → Option (List Tree)
contribution sig None v = Some (v ∷ [])
contribution sig (Some f) v = if is_assoc sig f then spread f v else Some (v ∷ [])
