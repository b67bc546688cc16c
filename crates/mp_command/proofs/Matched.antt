-- The matches of a file by an engine, as a relation, are those as a function.
use Rattle.std.proofs.Common.{◌≡◌, ◌<◌, ◌⊎◌, ℕ, Bool, false, not, List, [], ◌∷◌, length, refl, ap, ◌∙◌, subst, sym}
use Rattle.std.proofs.Common.{inl, inr, arith}
use Rattle.std.specs.Prelude.{◌↔◌, Option, Some, None, IfSome, find, flat_map, option_map, position, slice_get}
use Rattle.std.specs.Prelude.{if◌then◌else◌}
use Rattle.std.specs.List.{AllByRecursion}
use Rattle.std.proofs.lemmas.List.Folds.{find_at}
use Rattle.std.proofs.lemmas.Option.{slice_get_cases}
use Rattle.mp_term.specs.Tree.{Tree}
use Rattle.mp_term.specs.Signature.{Sig}
use Rattle.mp_term.proofs.ListLaws.{all-also}
use Rattle.mp_pattern.specs.Admission.{Rule}
use Rattle.mp_pattern.specs.Lists.{Pair, IsAllList}
use Rattle.mp_pattern.specs.Syntactic.{is_syntactic}
use Rattle.mp_many.specs.AllPairs.{all_pairs}
use Rattle.mp_many.proofs.AllPairsLaws.{all_pairs-all_list}
use Rattle.mp_net.specs.Nets as nets
use Rattle.mp_net.specs.declared.fault.NetFault.{NetFault}
use Rattle.mp_net.specs.declared.fault.NetFault.TheVariants as net_fault
use Rattle.mp_text.specs.File.{FileTree, Subject}
use Rattle.mp_text.specs.Sound.{IsSoundFile, IsSoundSubject}
use Rattle.mp_io.specs.Devices.{Text}
use Rattle.mp_matches.specs.AllListed.{IsAllListed, names_of}
use Rattle.mp_matches.specs.Computed.{listed, pair_lines}
use Rattle.mp_matches.specs.PairsListed.{front_lines}
use Rattle.mp_matches.proofs.MatchesLaws.{IsListOf}
use Rattle.mp_matches.proofs.PairsListedLaws.{IsPairsListed-exact}
use Rattle.mp_theory.proofs.AllList.{IsAllList-unique}
use Rattle.mp_matches.proofs.BehindLaws.{position-none, position-some}
use Rattle.mp_matches.proofs.ListedLaws.{IsListed-exact}
use Rattle.mp_words.specs.Words.{Request}
use Rattle.mp_words.specs.declared.request.Engine.{Engine}
use Rattle.mp_words.specs.declared.request.Engine.TheVariants as engine
use Rattle.mp_command.specs.Computed.{matched_whole, matches_by, over_syntactic}
use Rattle.mp_command.specs.Outcome.{IsMatchedBy, IsMatchedWhole, IsOverSyntactic, Outcome}
use Rattle.mp_command.specs.Outcome.{first_not_syntactic, matched}

-- ---- the first rule that isn't syntactic

module _ {X : Type 0} (test : X → Bool) where
  -- the item at the first place where the test passes is the first that passes
  find-position : (xs : List X) (k : ℕ) → position test xs ≡ Some k → find test xs ≡ slice_get xs k
  find-position xs k e = find_at test xs ∙ ap (slice_get xs) (position-some test xs k e).0

  -- where none passes none is found
  find-none : (xs : List X) → AllByRecursion (λ x. test x ≡ false) xs → find test xs ≡ None
  find-none [] h = refl
  find-none (x ∷ xs) h = ap (λ b. if b then Some x else find test xs) h.0 ∙ find-none xs h.1

-- where it would be absurd that there is a number, there is none
pub is-none : (o : Option ℕ) → IfSome o (λ k. ⊥) → o ≡ None
is-none None h = refl
is-none (Some k) h = absurd h

-- the rule of that number is told
pub first_not_syntactic-some : (sig : Sig) (rules : List Rule) (k : ℕ) → nets.first_not_syntactic sig rules ≡ Some k
    → (r : Rule) × (slice_get rules k ≡ Some r) × (first_not_syntactic sig rules ≡ Some r)
first_not_syntactic-some sig rules k e =
    let test : Rule → Bool = λ r. not (is_syntactic sig r.pattern) in
    let place = position-some test rules k e in
    let within : k < length rules = subst (λ n. n < length rules) place.0 place.1 in
    elim (slice_get_cases rules k).1 [
      | inl h ↦ (h.0, h.2, find-position test rules k e ∙ h.2)
      | inr h ↦ absurd (omega (arith, h.0, within))
    ]

-- the number is that of the fault
pub refused-some : (o : Option ℕ) (e : NetFault) (k : ℕ)
    → (option_map net_fault.NotSyntactic o ≡ Some e) ⊎ (e ≡ net_fault.Memory) → e ≡ net_fault.NotSyntactic k
    → o ≡ Some k
refused-some None e k (inl h) is = cc
refused-some (Some n) e k (inl h) is = cc
refused-some o e k (inr h) is = cc

-- where there is no such number, none is told
pub first_not_syntactic-none : (sig : Sig) (rules : List Rule) → nets.first_not_syntactic sig rules ≡ None
    → first_not_syntactic sig rules ≡ None
first_not_syntactic-none sig rules e =
    let test : Rule → Bool = λ r. not (is_syntactic sig r.pattern) in
    find-none test rules (position-none test rules e)

-- ---- the all-lists

module _ (file : FileTree) (sound : IsSoundFile file) (limit : Option ℕ) where
  abbrev pairs : Tree → List Pair
  pairs = all_pairs file.sig file.rules

  abbrev IsOnly : Subject → Type 0
  IsOnly s = IsListOf (IsAllList file.sig file.rules) pairs s.term

  each : AllByRecursion IsOnly file.subjects
  each = all-also (IsSoundSubject file.sig) IsOnly (λ s h qs.
      let listed = all_pairs-all_list file.sig s.term h.term.normal file.rules in (
        λ k. IsAllList-unique file.sig file.rules s.term qs (pairs s.term) k listed,
        λ e. subst (IsAllList file.sig file.rules s.term) (sym e) listed,
      )) file.subjects sound.subjects

  -- the lines of the all-lists
  abbrev pub all_text : Text
  all_text = front_lines limit (flat_map (pair_lines file (names_of file.rules) pairs) file.subjects)

  -- what is told is told of the all-lists
  pub all_listed : IsAllListed file limit all_text
  all_listed =
      (IsPairsListed-exact file (names_of file.rules) (IsAllList file.sig file.rules) pairs each limit all_text).1 refl

  pub IsMatchedWhole-exact : (o : Outcome) → IsMatchedWhole file limit o ↔ (o ≡ matched_whole file limit)
  IsMatchedWhole-exact o = (
    λ h. h.2 ∙ ap matched ((IsPairsListed-exact file (names_of file.rules) (IsAllList file.sig file.rules) pairs each
        limit h.0).0 h.1),
    λ e. (all_text, all_listed, e),
  )

-- ---- by an engine

pub matches_by-exact : (engine : Engine) (request : Request) (file : FileTree) (o : Outcome) → IsSoundFile file
    → IsMatchedBy engine request file o ↔ (o ≡ matches_by engine request file)
matches_by-exact engine.One request file o sound =
    let exact = IsListed-exact file sound request.resume request.limit in
    let told = listed file request.resume request.limit in
    (λ h. h.2 ∙ ap matched ((exact h.0).0 h.1), λ e. (told, (exact told).1 refl, e))
matches_by-exact engine.Many request file o sound = IsMatchedWhole-exact file sound request.limit o
matches_by-exact engine.Program request file o sound = IsMatchedWhole-exact file sound request.limit o
matches_by-exact engine.Net request file o sound = by_rules (first_not_syntactic file.sig file.rules)
  where
    by_rules : (found : Option Rule) → IsOverSyntactic (IsMatchedWhole file request.limit) found o
        ↔ (o ≡ over_syntactic (matched_whole file request.limit) found)
    by_rules None = IsMatchedWhole-exact file sound request.limit o
    by_rules (Some rule) = (λ h. h, λ h. h)
