-- Groups of rules that have a net together.
use Rattle.std.proofs.Common.{◌≡◌, ◌≤◌, ◌<◌, ◌-◌, ℕ, List, length, drop, map, get_or, refl, ap, sym, ◌∙◌}
use Rattle.std.proofs.Common.{subst, arith}
use Rattle.std.specs.Prelude.{Option, Some, None, slice_get, option_map, IfSome}
use Rattle.std.specs.declared.vec.Vec.{Vec}
use Rattle.std.proofs.lemmas.List.{length-drop}
use Rattle.std.proofs.lemmas.Option.{slice_get-get_or}
use Rattle.mp_net.specs.Net as net
use Rattle.mp_net.specs.View.{mark_of}
use Rattle.mp_net.specs.Items.{tables, opens, items_from}
use Rattle.mp_net.specs.NetOf.{IsNetOf, IsGroup}
use Rattle.mp_net.specs.Chain.{single}
use Rattle.mp_net.specs.declared.build.Net.{Net}
use Rattle.mp_net.specs.declared.mark.Mark.{Mark}
use Rattle.mp_net.proofs.ItemLaws.{held-map, items-from}
use Rattle.mp_term.proofs.ListLaws.{drop-held}

-- the marks of the rule at a place
pub tables-held : {Z : Type 0} (ms : List (Vec Mark Z)) (i : ℕ) (v : Vec Mark Z)
    → i < length ms → v ≡ get_or ms i v → slice_get (tables ms) i ≡ Some (map mark_of v.items)
tables-held ms i v h e =
    let held : slice_get ms i ≡ Some v = slice_get-get_or ms i v h ∙ ap Some (sym e) in
    held-map (λ w. map mark_of w.items) ms i ∙ ap (λ o. option_map (λ w. map mark_of w.items) o) held

-- a rule alone is a group
pub one-group : (ms : List (List net.Mark)) (i : ℕ) (m : List net.Mark) (n : Net)
    → slice_get ms i ≡ Some m → IsNetOf (single i m) n → IsGroup i (drop i ms) 1 n
one-group ms i m n e h = subst (λ ds. IsGroup i ds 1 n) (sym (drop-held ms i m e))
    (record { some = omega arith; within = omega arith; net = h })

-- so are rules one after the other that have a net
pub more-group : (ms : List (List net.Mark)) (i count : ℕ) (n : Net) → 1 ≤ count → count ≤ length ms - i
    → IsNetOf (opens ms (items_from i count)) n → IsGroup i (drop i ms) count n
more-group ms i count n some few h =
    let within : count ≤ length (drop i ms) = omega (arith, length-drop i ms) in
    record {
      some = some;
      within = within;
      net = subst (λ os. IsNetOf os n) (items-from ms (drop i ms) i count refl within) h;
    }

-- a bound below what fails, where anything does
pub below-fails : (o : Option ℕ) (a b most : ℕ) → IfSome o (λ n. (a < n) × (n ≤ most)) → IfSome o (λ n. b < n)
    → IfSome o (λ n. (b < n) × (n ≤ most))
below-fails None a b most h k = tt
below-fails (Some n) a b most h k = (k, h.1)
