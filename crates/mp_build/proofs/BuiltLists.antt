-- A list that is built item by item, until one has a fault.
use Rattle.std.proofs.Common.{◌≡◌, List, [], ◌∷◌, ◌++◌, map, append_assoc, sym, ap, ◌∙◌}
use Rattle.std.specs.Prelude.{flat_map}
use Rattle.mp_build.specs.declared.fault.TextFault.{TextFault}
use Rattle.mp_build.specs.declared.fault.TextError.{TextError}
use Rattle.mp_build.specs.Answers.{Fails}
use Rattle.mp_build.proofs.Fails.{fails-front, fails-along, none-append}

module _ {S : Type 0} {V : Type 0} (faults_of : S → List TextFault) (value : S → V) where
  -- what is done stands before the values of the others, and the faults are those of the others
  pub record IsBuilt (done : List V) (others all : List S) : Type 0 where
    pub built : done ++ map value others ≡ map value all
    pub faults : flat_map faults_of others ≡ flat_map faults_of all

  -- the value of the next one, which has no fault, was added
  pub built-next : (done new : List V) (s : S) (others left all : List S) (v : V) → left ≡ s ∷ others
      → IsBuilt done left all → faults_of s ≡ [] → v ≡ value s → new ≡ done ++ v ∷ [] → IsBuilt new others all
  built-next done new s others left all v here h none is added = record {
    built = ap (λ l. l ++ map value others) (added ∙ ap (λ w. done ++ w ∷ []) is)
        ∙ append_assoc done (value s ∷ []) (map value others) ∙ (rw here at h.built);
    faults = sym (none-append (faults_of s) (flat_map faults_of others) none) ∙ (rw here at h.faults);
  }

  -- the next one has a fault
  pub fails-next : (e : TextError) (done : List V) (s : S) (others left all : List S) → left ≡ s ∷ others
      → IsBuilt done left all → Fails e (faults_of s) → Fails e (flat_map faults_of all)
  fails-next e done s others left all here h fault =
      fails-along e (faults_of s ++ flat_map faults_of others) (flat_map faults_of all) (rw here at h.faults)
      (fails-front e (faults_of s) (flat_map faults_of others) fault)
