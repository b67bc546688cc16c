-- What is known of the arguments of an argument has fewer marks than what is known of the arguments.
use Rattle.std.specs.Prelude.{◌≤◌, max, List, [], ◌∷◌, map}
use Rattle.std.proofs.Common.{arith}
use denote.Param.Weighed.{most}
use Rattle.mp_rewrite.specs.declared.known.Known.{Known}
use Rattle.mp_rewrite.specs.declared.known.Known.TheVariants.{Nothing, Dead, Inner}
use Rattle.mp_rewrite.specs.declared.known.KnownArgs.TheDeep.{deep-Known}
use Rattle.mp_rewrite.specs.MarkView.{mark_of}
use Rattle.mp_rewrite.specs.MarkSize.{all_marks}

pub falls : (ks : List Known) → max (most deep-Known ks) 0 ≤ all_marks (map mark_of ks)
falls [] = omega arith
falls (Nothing ∷ ks) = omega (arith, falls ks)
falls (Dead ∷ ks) = omega (arith, falls ks)
falls (Inner ms ∷ ks) = omega (arith, falls ks)
