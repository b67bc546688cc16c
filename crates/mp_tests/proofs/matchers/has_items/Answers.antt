use Rattle.std.proofs.Common.{◌≡◌, ◌<◌, List, [], ◌∷◌, length, ap, subst, arith}
use Rattle.std.specs.Prelude.{Option, None, IsSome, slice_get, drop}
use Rattle.mp_ac.specs.Matcher.{item_of, to_come}
use Rattle.mp_tests.proofs.matchers.has_items.Goals as goal

-- a list that has a first item is longer than what is behind it
shorter : {X : Type 0} (xs ys : List X) (o : Option X) → o ≡ slice_get xs 0 → IsSome o → ys ≡ drop 1 xs
    → length ys < length xs
shorter {X = X} [] ys o e h d = (let k : IsSome {T = X} None = subst (IsSome {T = X}) e h in cc)
shorter (x ∷ xs) ys o e h d = (let z = ap length d in omega (arith, z))

pub loop-matcher-smaller : goal.loop-matcher-smaller
loop-matcher-smaller g c =
    shorter (to_come c.loop-matcher.matcher) (to_come c.next.new.self) (item_of c.next.new.self) c.next.ensures.item
    (c.in_ok-next.ensures.answer.0 c.if-branch.true) c.next.ensures.list
