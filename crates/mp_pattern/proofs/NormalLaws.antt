-- `normal_pattern` at applications whose arguments are a list, and lists that are put in order.
use Rattle.std.proofs.Common.{◌≡◌, ℕ, List, [], ◌∷◌, map, true, false, refl, ap, sym, eq-eqb}
use Rattle.std.proofs.Common.{◌≤◌, ◌++◌, ◌∙◌, take, length, take_all}
use Rattle.std.proofs.Math.Seq.{take-append_seam}
use Rattle.std.specs.Prelude.{if◌then◌else◌}
use Rattle.std.specs.List.{AllByRecursion}
use Rattle.mp_term.specs.Sorting.{sorted}
use Rattle.mp_term.proofs.Sorting.{sorted_again}
use Rattle.mp_term.specs.Signature.{Sig, is_assoc, is_comm}
use Rattle.mp_pattern.specs.PatternTree.{Pattern, app_pattern, patterns}
use Rattle.mp_pattern.specs.PatternLists.{pattern_list-patterns}
use Rattle.mp_pattern.specs.Order.{pattern_cmp}
use Rattle.mp_pattern.specs.PatternOrderLaws.{pattern_cmp_total, pattern_same}
use Rattle.mp_pattern.specs.Normal.{parts, flattened, in_order, normal_pattern, normal_patterns}
use Rattle.mp_pattern.proofs.SortedLaws.{all-sorted}

pub normal_patterns-map : {X : Type 0} (sig : Sig) (f : X → Pattern) (xs : List X)
    → normal_patterns sig (patterns (map f xs)) ≡ map (λ x. normal_pattern sig (f x)) xs
normal_patterns-map sig f [] = refl
normal_patterns-map sig f (x ∷ xs) = ap (λ ps. normal_pattern sig (f x) ∷ ps) (normal_patterns-map sig f xs)

-- the items are normal forms, once so many of them are as there are
pub normal_patterns-done : {X : Type 0} (sig : Sig) (f : X → Pattern) (old new rest : List X) (ps : List Pattern)
    (n m : ℕ) → length old ≤ n → length new ≤ n → length new ≡ m
    → map f (take n new) ≡ map (λ x. normal_pattern sig (f x)) (take n old) → map f old ≡ ps
    → map f (take m (new ++ rest)) ≡ normal_patterns sig (patterns ps)
normal_patterns-done sig f old new rest ps n m all each long same view =
    ap (λ k. map f (take k (new ++ rest))) (sym long) ∙ ap (map f) (take-append_seam new rest)
    ∙ ap (map f) (sym (take_all n new each)) ∙ same ∙ ap (map (λ x. normal_pattern sig (f x))) (take_all n old all)
    ∙ sym (normal_patterns-map sig f old) ∙ ap (λ qs. normal_patterns sig (patterns qs)) view

pub parts_same : (sig : Sig) (f g : ℕ) (ps : List Pattern) → g ≡ f → is_assoc sig f ≡ true
    → parts sig f (app_pattern g (patterns ps)) ≡ ps
parts_same sig f g ps e a = rw (a, pattern_list-patterns ps, eq-eqb f g (sym e)) refl

-- an operation that isn't associative keeps its arguments
pub flattened-plain : (sig : Sig) (f : ℕ) (ps : List Pattern) → is_assoc sig f ≡ false → flattened sig f ps ≡ ps
flattened-plain sig f [] plain = refl
flattened-plain sig f (p ∷ ps) plain = rw (plain, flattened-plain sig f ps plain) refl

pub all-in_order : (P : Pattern → Type 0) (sig : Sig) (f : ℕ) (ps : List Pattern) → AllByRecursion P ps
    → AllByRecursion P (in_order sig f ps)
all-in_order P sig f ps h = elim (is_comm sig f) as (λ b. AllByRecursion P (if b then sorted pattern_cmp ps else ps))
    [ true ↦ all-sorted P pattern_cmp ps h | false ↦ h ]

pub in_order-in_order : (sig : Sig) (f : ℕ) (ps : List Pattern) → in_order sig f (in_order sig f ps) ≡ in_order sig f ps
in_order-in_order sig f ps =
    elim (is_comm sig f) as
    (λ b. (if b then sorted pattern_cmp (if b then sorted pattern_cmp ps else ps) else
    (if b then sorted pattern_cmp ps else ps)) ≡ (if b then sorted pattern_cmp ps else ps)) [
      | true ↦ sorted_again pattern_cmp pattern_cmp_total pattern_same ps
      | false ↦ refl
    ]
