-- The matches of a file are those that are computed.
use Rattle.std.proofs.Common.{◌≡◌, List, [], ◌∷◌, ◌++◌, refl, ap, ap₂, ◌∙◌, sym, subst}
use Rattle.std.specs.Prelude.{◌↔◌, flat_map}
use Rattle.std.specs.declared.cmp.Ordering.TheVariants.{Less, Equal, Greater}
use Rattle.std.specs.FinMap.{slice_cmp-IsAntisymmetric}
use Rattle.std.specs.Ordering.{ordering_reverse}
use Rattle.std.specs.List.{AllByRecursion}
use Rattle.std.proofs.lemmas.Cmp.{lists_total}
use Rattle.mp_term.specs.Listing.{In}
use Rattle.mp_term.specs.Normal.{IsNormal}
use Rattle.mp_term.specs.Signature.{Sig}
use Rattle.mp_term.specs.Tree.{Tree}
use Rattle.mp_term.proofs.ListLaws.{all-also, all-flat_map}
use Rattle.mp_term.proofs.SearchLaws.{all-map}
use Rattle.mp_pattern.specs.Admission.{AreLeast, IsLeast, Rule}
use Rattle.mp_pattern.specs.DerivationOrder.{table_cmp}
use Rattle.mp_pattern.specs.Fits.{Table}
use Rattle.mp_pattern.specs.Lists.{IsOneList}
use Rattle.mp_pattern.specs.PatternTree.{Pattern}
use Rattle.mp_pattern.specs.SoundRule.{IsSoundRule}
use Rattle.mp_pattern.specs.Value.{Subst}
use Rattle.mp_theory.specs.OneList.{AreItems, Item, item_list, item_substs, item_tables}
use Rattle.mp_theory.proofs.OneListLaws.{item_list-are}
use Rattle.mp_theory.proofs.Tables.{entry_cmp_total}
use Rattle.mp_theory.proofs.Unique.{IsOneList-unique, same_entry}
use Rattle.mp_text.specs.File.{FileTree, Subject}
use Rattle.mp_text.specs.Sound.{IsSoundFile, IsSoundSubject}
use Rattle.mp_matches.specs.Computed.{file_matches, match_of, matches_of, rule_matches, subject_matches}
use Rattle.mp_matches.specs.Match.{Match}
use Rattle.mp_matches.specs.Matches.{AreMatches, AreRuleMatches, IsJoinedBy, matches_with}

-- ---- lists of parts

-- the item has this list, and no other
abbrev pub IsListOf : {X Y : Type 0} → (X → List Y → Type 0) → (X → List Y) → X → Type 0
IsListOf {X} {Y} P list x = (ys : List Y) → P x ys ↔ (ys ≡ list x)

-- so have the items together
pub joined-exact : {X Y : Type 0} (P : X → List Y → Type 0) (list : X → List Y) (xs : List X)
    → AllByRecursion (IsListOf P list) xs
    → (ys : List Y) → IsJoinedBy P xs ys ↔ (ys ≡ flat_map list xs)
joined-exact P list [] each ys = (λ e. e, λ e. e)
joined-exact {Y = Y} P list (x ∷ xs) each ys =
    let after = joined-exact P list xs each.1 in (
      λ h. h.2 ∙ ap₂ (λ (front rest : List Y). front ++ rest) ((each.0 h.0).0 h.3) ((after h.1).0 h.4),
      λ e. (list x, flat_map list xs, e, (each.0 (list x)).1 refl, (after (flat_map list xs)).1 refl),
    )

-- ---- one rule on one subject

module _ (sig : Sig) (p : Pattern) (t : Tree) where
  -- a substitution has one least table
  least-same : (s : Subst) (T U : Table) → IsLeast sig p t s T → IsLeast sig p t s U → T ≡ U
  least-same s T U h k =
      elim (table_cmp T U) as (λ o. table_cmp T U ≡ o → T ≡ U) [
        | Less ↦ λ e. absurd (k.least T h.fits e)
        | Equal ↦ λ e. slice_cmp-IsAntisymmetric same_entry T U e
        | Greater ↦ λ e. absurd
            (h.least U k.fits ((lists_total entry_cmp_total).antisymm U T ∙ ap ordering_reverse e))
      ] refl

  -- so have the substitutions of a list
  least-all_same : (ss : List Subst) (Ts Us : List Table) → AreLeast sig p t ss Ts → AreLeast sig p t ss Us → Ts ≡ Us
  least-all_same [] [] [] h k = refl
  least-all_same [] [] (U ∷ Us) h k = absurd k
  least-all_same [] (T ∷ Ts) Us h k = absurd h
  least-all_same (s ∷ ss) [] Us h k = absurd h
  least-all_same (s ∷ ss) (T ∷ Ts) [] h k = absurd k
  least-all_same (s ∷ ss) (T ∷ Ts) (U ∷ Us) h k =
      ap₂ (λ (V : Table) Vs. V ∷ Vs) (least-same s T U h.0 k.0) (least-all_same ss Ts Us h.1 k.1)

-- a match for each item
matches_with-items : (subject : Subject) (rule : Rule) (is : List Item)
    → matches_with subject rule (item_substs is) (item_tables is) ≡ matches_of subject rule is
matches_with-items subject rule [] = refl
matches_with-items subject rule (i ∷ is) = ap (λ ms. match_of subject rule i ∷ ms) (matches_with-items subject rule is)

module _ (sig : Sig) (subject : Subject) (normal : IsNormal sig subject.term) where
  rule_matches-exact : (rule : Rule) → IsListOf (AreRuleMatches sig subject) (rule_matches sig subject) rule
  rule_matches-exact rule ms =
      let is = item_list sig rule subject.term in
      let items : AreItems sig rule subject.term is = item_list-are sig rule subject.term normal in
      let listed : IsOneList sig rule subject.term (item_substs is) = record {
        exactly = items.exactly;
        tables = item_tables is;
        least = items.least;
        ascending = items.ascending;
      } in (
        λ h.
            let substs : h.substs ≡ item_substs is =
            IsOneList-unique sig subject.term rule normal h.substs (item_substs is) h.listed listed in
            let tables : h.listed.tables ≡ item_tables is =
            least-all_same sig rule.pattern subject.term (item_substs is) h.listed.tables (item_tables is)
            (subst (λ ss. AreLeast sig rule.pattern subject.term ss h.listed.tables) substs h.listed.least)
            items.least in
            h.matches ∙ ap₂ (matches_with subject rule) substs tables ∙ matches_with-items subject rule is,
        λ e. record {
          substs = item_substs is;
          listed = listed;
          matches = e ∙ sym (matches_with-items subject rule is);
        },
      )

  subject_matches-exact : (rules : List Rule)
      → IsListOf (λ s. IsJoinedBy (AreRuleMatches sig s) rules) (subject_matches sig rules) subject
  subject_matches-exact rules =
      joined-exact (AreRuleMatches sig subject) (rule_matches sig subject) rules (each rules)
    where
      each : (rs : List Rule) → AllByRecursion (IsListOf (AreRuleMatches sig subject) (rule_matches sig subject)) rs
      each [] = tt
      each (r ∷ rs) = (rule_matches-exact r, each rs)

-- ---- a file

module _ (file : FileTree) (sound : IsSoundFile file) where
  -- a file has the matches that are computed, and no others
  pub file_matches-exact : (ms : List Match) → AreMatches file ms ↔ (ms ≡ file_matches file)
  file_matches-exact =
      joined-exact (λ subject. IsJoinedBy (AreRuleMatches file.sig subject) file.rules)
      (subject_matches file.sig file.rules) file.subjects
      (all-also (IsSoundSubject file.sig)
      (IsListOf (λ s. IsJoinedBy (AreRuleMatches file.sig s) file.rules) (subject_matches file.sig file.rules))
      (λ subject s. subject_matches-exact file.sig subject s.term.normal file.rules) file.subjects sound.subjects)

  -- what holds of each match of a sound rule on a sound subject holds of each
  pub file_matches-all : (P : Match → Type 0)
      → ((subject : Subject) (rule : Rule) (i : Item) → IsSoundSubject file.sig subject → IsSoundRule file.sig rule
      → In i (item_list file.sig rule subject.term) → P (match_of subject rule i))
      → AllByRecursion P (file_matches file)
  file_matches-all P each =
      all-flat_map P (IsSoundSubject file.sig) (subject_matches file.sig file.rules)
      (λ subject s. all-flat_map P (IsSoundRule file.sig) (rule_matches file.sig subject)
      (λ rule r. all-map P (match_of subject rule) (item_list file.sig rule subject.term)
      (λ i k. each subject rule i s r k)) file.rules sound.rules.each) file.subjects sound.subjects
