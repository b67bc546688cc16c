-- Checks of faults, one behind the other.
use Rattle.std.proofs.Common.{◌≡◌, ◌<◌, ◌+◌, ℕ, suc, List, [], ◌∷◌, ◌++◌, length, map, get_or, take, drop, Some}
use Rattle.std.proofs.Common.{None, sym, ap, subst, ◌∙◌, add-one}
use Rattle.std.specs.Prelude.{◌≢◌, Result, Ok, Err, IfOk, IsErrAnd}
use Rattle.std.proofs.lemmas.List.{map_more}
use Rattle.mp_term.proofs.ListLaws.{drop-item}
use Rattle.mp_program.specs.declared.fault.ProgramError.{ProgramError}
use Rattle.mp_program.specs.declared.fault.ProgramError.TheVariants.{Memory}
use Rattle.mp_program.specs.FormFaults.{faults_along}
use Rattle.mp_program.specs.Reading.{first_fault}
use Rattle.mp_vm.specs.Checked.{Checks}

-- two facts of a value at once
pub IfOk-both : {X E : Type 0} (r : Result X E) (P Q R : X → Type 0) → ((x : X) → P x → Q x → R x) → IfOk r P
    → IfOk r Q → IfOk r R
IfOk-both (Ok x) P Q R more p q = more x p q
IfOk-both (Err e) P Q R more p q = tt

-- ---- faults in two parts

-- the first fault, where there is none in the first part
pub first_fault-behind : (xs ys : List ProgramError) → xs ≡ [] → first_fault (xs ++ ys) ≡ first_fault ys
first_fault-behind xs ys none = ap (λ l. first_fault (l ++ ys)) none

-- where there is one
pub first_fault-before : (xs ys : List ProgramError) (f : ProgramError) → first_fault xs ≡ Some f
    → first_fault (xs ++ ys) ≡ Some f
first_fault-before [] ys f h = (let wrong : None ≡ Some f = h in cc)
first_fault-before (x ∷ xs) ys f h = h

-- a check of the second part, where there is none in the first one
pub checks-behind : {T : Type 0} (xs ys : List ProgramError) (r : Result T ProgramError) → xs ≡ [] → Checks ys r
    → Checks (xs ++ ys) r
checks-behind xs ys r none h = subst (λ l. Checks (l ++ ys) r) (sym none) h

-- a check of the first part that fails, where its error is passed on
pub checks-passed : (T : Type 0) {U : Type 0} (xs ys : List ProgramError) (f : ProgramError)
    → (r : Result U ProgramError) → IsErrAnd r (λ e. e ≡ f) → Checks {T = T} xs (Err f) → Checks (xs ++ ys) r
checks-passed T xs ys f (Ok v) same h = absurd same
checks-passed T xs ys f (Err e) same h = subst (λ x. x ≢ Memory → first_fault (xs ++ ys) ≡ Some x) (sym same)
    (λ other. first_fault-before xs ys f (h other))

-- ---- the faults of items

-- those of the items from an index on, behind those before it
module _ {X Y : Type 0} (faults : List Y → ℕ → Y → List ProgramError) (f : X → Y) (xs : List X) (i n : ℕ)
    (all : List ProgramError) (left : faults_along faults (map f (take i xs)) n (map f (drop i xs)) ≡ all) where
  module _ (x : X) (within : i < length xs) (at : x ≡ get_or xs i x) where
    parts : faults (map f (take i xs)) n (f x)
        ++ faults_along faults (map f (take i xs) ++ f x ∷ []) (suc n) (map f (drop (i + 1) xs)) ≡ all
    parts = sym (ap (λ l. faults_along faults (map f (take i xs)) n (map f l)) (drop-item xs i x within at)) ∙ left

    -- the items that are passed, with one more
    pub passed-more : map f (take (i + 1) xs) ≡ map f (take i xs) ++ f x ∷ []
    passed-more = map_more f xs i x within ∙ ap (λ y. map f (take i xs) ++ f y ∷ []) (sym at)

    -- nothing is wrong with an item
    pub along-next : faults (map f (take i xs)) n (f x) ≡ []
        → faults_along faults (map f (take (i + 1) xs)) (n + 1) (map f (drop (i + 1) xs)) ≡ all
    along-next none =
        ap (λ l. faults_along faults l (n + 1) (map f (drop (i + 1) xs))) passed-more
        ∙ ap (λ m. faults_along faults (map f (take i xs) ++ f x ∷ []) m (map f (drop (i + 1) xs))) (add-one n)
        ∙ sym (ap (λ l. l ++ faults_along faults (map f (take i xs) ++ f x ∷ []) (suc n) (map f (drop (i + 1) xs)))
        none) ∙ parts

    -- the fault of an item
    pub along-here : (e : ProgramError) → faults (map f (take i xs)) n (f x) ≡ e ∷ [] → first_fault all ≡ Some e
    along-here e here =
        ap first_fault (sym parts)
        ∙ ap (λ l. first_fault
        (l ++ faults_along faults (map f (take i xs) ++ f x ∷ []) (suc n) (map f (drop (i + 1) xs)))) here
