-- What the checks of a subject let through is sound.
use Rattle.mp_build.proofs.Words.{is_name-IsName}
use Rattle.std.proofs.Common.{◌≡◌, ◌≤◌, true, false}
use Rattle.std.proofs.Common.{ltb, []}
use Rattle.std.proofs.Common.{arith}
use Rattle.std.proofs.lemmas.Bool.{ltb-false, or_parts}
use Rattle.mp_term.specs.Signature.{Sig, all_in_order}
use Rattle.mp_term.proofs.NormalSize.{depth-normal}
use Rattle.mp_parser.specs.Syntax.{Spot, Tree}
use Rattle.mp_parser.specs.Syntax.{Fits, IsName, HasNames}
use Rattle.mp_build.specs.Build.{term_of}
use Rattle.mp_text.specs.Subjects.{subject_of}
use Rattle.mp_build.specs.Checks.{nodes, is_large_term}
use Rattle.mp_build.specs.Checks.{term_faults}
use Rattle.mp_build.specs.Checks.{has_large_default}
use Rattle.mp_pattern.specs.declared.limits.TheConstants.{MAX_TERM_NODES, MAX_DEPTH}
use Rattle.mp_text.specs.Sound.{IsSoundSubject}
use Rattle.mp_build.proofs.SoundLaws.{sound-term_of, depth-term_of}

-- a subject without faults
pub sound-subject : (sig : Sig) → all_in_order sig.ops ≡ true → (name : Spot) (t : Tree) → IsName name.text → HasNames t
    → is_large_term t ≡ false → term_faults sig t ≡ [] → Fits MAX_DEPTH t → IsSoundSubject sig (subject_of sig name t)
sound-subject sig ordered name t named names small none fits =
    let few : nodes t ≤ MAX_TERM_NODES = ltb-false MAX_TERM_NODES (nodes t)
    (or_parts (ltb MAX_TERM_NODES (nodes t)) (has_large_default t) small).0 in
    record {
      name = is_name-IsName name.text named;
      term = sound-term_of sig ordered MAX_TERM_NODES t names none few;
      shallow = omega (arith, depth-normal sig (term_of sig t), depth-term_of sig MAX_DEPTH t fits);
    }
