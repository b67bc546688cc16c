-- What is told of the pairs on the subjects of a file is one thing, and what is computed where the pairs are given.
use Rattle.std.proofs.Common.{◌≡◌, ℕ, List, [], ◌∷◌, ◌++◌, map, refl, ap, ap₂, ◌∙◌, sym}
use Rattle.std.specs.Prelude.{◌↔◌, flat_map, Option}
use Rattle.std.specs.List.{AllByRecursion}
use Rattle.mp_io.specs.Devices.{Text}
use Rattle.mp_term.specs.Signature.{Sig}
use Rattle.mp_term.specs.Tree.{Tree}
use Rattle.mp_term.proofs.ListLaws.{all-also}
use Rattle.mp_pattern.specs.Lists.{Pair, IsAllList}
use Rattle.mp_theory.proofs.AllList.{IsAllList-unique}
use Rattle.mp_text.specs.File.{FileTree, Subject}
use Rattle.mp_matches.specs.AllListed.{IsAllListed}
use Rattle.mp_matches.specs.PairsListed.{AreAllLines, AreSubjectLines, IsPairsListed, front_lines, pair_line}
use Rattle.mp_matches.specs.Computed.{pair_lines, pairs_listed}
use Rattle.mp_matches.specs.Listed.{lines}
use Rattle.mp_matches.specs.Matches.{IsJoinedBy}
use Rattle.mp_matches.proofs.MatchesLaws.{IsListOf, joined-exact}

-- a subject has these lines, where these pairs and no others are found on it
pub subject_lines-exact : (sig : Sig) (names : List Text) (finds : Tree → List Pair → Type 0) (subject : Subject)
    (pairs : List Pair) → ((qs : List Pair) → finds subject.term qs ↔ (qs ≡ pairs)) → (ls : List Text)
    → AreSubjectLines sig names finds subject ls ↔ (ls ≡ map (pair_line sig names subject) pairs)
subject_lines-exact sig names finds subject pairs exact ls = (
  λ h. h.2 ∙ ap (map (pair_line sig names subject)) ((exact h.0).0 h.1),
  λ e. (pairs, (exact pairs).1 refl, e),
)

module _ (file : FileTree) (names : List Text) (finds : Tree → List Pair → Type 0) (pairs : Tree → List Pair)
    (each : AllByRecursion (λ (s : Subject). IsListOf finds pairs s.term) file.subjects) where
  -- a file has these lines, where these are its pairs
  pub all_lines-exact : (ls : List Text)
      → AreAllLines file names finds ls ↔ (ls ≡ flat_map (pair_lines file names pairs) file.subjects)
  all_lines-exact =
      joined-exact (AreSubjectLines file.sig names finds) (pair_lines file names pairs) file.subjects
      (all-also (λ (s : Subject). IsListOf finds pairs s.term)
      (IsListOf (AreSubjectLines file.sig names finds) (pair_lines file names pairs))
      (λ subject exact. subject_lines-exact file.sig names finds subject (pairs subject.term) exact)
      file.subjects each)

  -- and what is printed of them is what is computed
  pub IsPairsListed-exact : (limit : Option ℕ) (text : Text)
      → IsPairsListed file names finds limit text ↔ (lines text ≡ pairs_listed file names pairs limit)
  IsPairsListed-exact limit text = (
    λ h. ap lines (h.text_of ∙ ap (front_lines limit) ((all_lines-exact h.lines).0 h.are_lines)),
    λ e. record {
      lines = flat_map (pair_lines file names pairs) file.subjects;
      are_lines = (all_lines-exact (flat_map (pair_lines file names pairs) file.subjects)).1 refl;
      text_of = text_same text (front_lines limit (flat_map (pair_lines file names pairs) file.subjects)) e;
    },
  )
    where
      text_same : (a b : Text) → lines a ≡ lines b → a ≡ b
      text_same a b e = cc

-- ---- other pairs

-- lists of parts are lists of other parts, where parts are
pub joined-under : {X Y : Type 0} (P Q : X → List Y → Type 0) (xs : List X) (ys : List Y)
    → AllByRecursion (λ x. (zs : List Y) → P x zs → Q x zs) xs → IsJoinedBy P xs ys → IsJoinedBy Q xs ys
joined-under P Q [] ys each h = h
joined-under P Q (x ∷ xs) ys each h = (h.0, h.1, h.2, each.0 h.0 h.3, joined-under P Q xs h.1 each.1 h.4)

-- and there is one, where there are parts
pub joined-there : {X Y : Type 0} (P : X → List Y → Type 0) (xs : List X)
    → AllByRecursion (λ x. (ys : List Y) × P x ys) xs → (ys : List Y) × IsJoinedBy P xs ys
joined-there P [] each = ([], refl)
joined-there P (x ∷ xs) each =
    let rest = joined-there P xs each.1 in
    (each.0.0 ++ rest.0, (each.0.0, rest.0, refl, each.0.1, rest.1))

module _ (file : FileTree) (names : List Text) where
  -- what is printed of the pairs that are found is what is printed of others, where they are those on each subject
  pub IsPairsListed-under : (F G : Tree → List Pair → Type 0)
      → AllByRecursion (λ (s : Subject). (ps : List Pair) → F s.term ps → G s.term ps) file.subjects
      → (limit : Option ℕ) (text : Text) → IsPairsListed file names F limit text → IsPairsListed file names G limit text
  IsPairsListed-under F G each limit text h = record {
    lines = h.lines;
    are_lines = joined-under (AreSubjectLines file.sig names F) (AreSubjectLines file.sig names G) file.subjects
        h.lines
        (all-also (λ (s : Subject). (ps : List Pair) → F s.term ps → G s.term ps)
        (λ s. (ls : List Text) → AreSubjectLines file.sig names F s ls → AreSubjectLines file.sig names G s ls)
        (λ s under ls k. (k.0, under k.0 k.1, k.2)) file.subjects each) h.are_lines;
    text_of = h.text_of;
  }

  -- something is printed, where there are pairs on each subject
  pub IsPairsListed-there : (F : Tree → List Pair → Type 0)
      → AllByRecursion (λ (s : Subject). (ps : List Pair) × F s.term ps) file.subjects → (limit : Option ℕ)
      → (text : Text) × IsPairsListed file names F limit text
  IsPairsListed-there F each limit =
      let found = joined-there (AreSubjectLines file.sig names F) file.subjects
      (all-also (λ (s : Subject). (ps : List Pair) × F s.term ps)
      (λ s. (ls : List Text) × AreSubjectLines file.sig names F s ls)
      (λ s h. (map (pair_line file.sig names s) h.0, (h.0, h.1, refl))) file.subjects each) in (
        front_lines limit found.0,
        record { lines = found.0; are_lines = found.1; text_of = refl },
      )

-- ---- one thing at most

-- lists of parts are the same where their parts are
joined-same : {X Y : Type 0} (P : X → List Y → Type 0) (same : (x : X) (ys zs : List Y) → P x ys → P x zs → ys ≡ zs)
    (xs : List X) (ys zs : List Y) → IsJoinedBy P xs ys → IsJoinedBy P xs zs → ys ≡ zs
joined-same P same [] ys zs h k = h ∙ sym k
joined-same {Y = Y} P same (x ∷ xs) ys zs h k =
    h.2 ∙ ap₂ (λ (front rest : List Y). front ++ rest) (same x h.0 k.0 h.3 k.3)
    (joined-same P same xs h.1 k.1 h.4 k.4) ∙ sym k.2

-- one text at most meets the definition, where one list at most is found on each subject
pub IsPairsListed-same : (file : FileTree) (names : List Text) (finds : Tree → List Pair → Type 0)
    → ((t : Tree) (qs rs : List Pair) → finds t qs → finds t rs → qs ≡ rs) → (limit : Option ℕ) (text other : Text)
    → IsPairsListed file names finds limit text → IsPairsListed file names finds limit other → text ≡ other
IsPairsListed-same file names finds same limit text other h k =
    h.text_of ∙ ap (front_lines limit) (joined-same (AreSubjectLines file.sig names finds)
    (λ subject ys zs a b. a.2
    ∙ ap (map (pair_line file.sig names subject)) (same subject.term a.0 b.0 a.1 b.1) ∙ sym b.2)
    file.subjects h.lines k.lines h.are_lines k.are_lines) ∙ sym k.text_of

pub IsAllListed-same : (file : FileTree) (limit : Option ℕ) (text other : Text) → IsAllListed file limit text
    → IsAllListed file limit other → text ≡ other
IsAllListed-same file =
    IsPairsListed-same file _ (IsAllList file.sig file.rules) (λ t. IsAllList-unique file.sig file.rules t)
