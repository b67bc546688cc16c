-- What is told of matches is what is computed, and nothing else.
use Rattle.std.proofs.Common.{◌≡◌, ◌<◌, ◌≤◌, ℕ, zero, suc, List, [], ◌∷◌, ◌++◌, length, Bool, true, false, Some, None}
use Rattle.std.proofs.Common.{refl, ap, sym, ◌∙◌, subst, inl, inr, arith, append_assoc}
use Rattle.std.specs.Prelude.{Option, ◌↔◌, nat_lt, if◌then◌else◌}
use Rattle.std.specs.Str.{bytes_eq}
use Rattle.std.specs.List.{AllByRecursion}
use Rattle.std.proofs.lemmas.Bool.Decides.{nat_tests}
use Rattle.std.proofs.lemmas.Slice.Eq.{bytes_eq-Decides}
use Rattle.mp_io.specs.Devices.{Text}
use Rattle.mp_term.specs.Signature.{Sig}
use Rattle.mp_term.proofs.ListLaws.{all-split}
use Rattle.mp_text.specs.File.{FileTree}
use Rattle.mp_text.specs.Sound.{IsSoundFile}
use Rattle.mp_token.specs.Machine.{spelling_fault}
use Rattle.mp_token.specs.Spelling.{IsSpelling, IsUnspelt}
use Rattle.mp_token.specs.declared.token.Token.{Token}
use Rattle.mp_token.proofs.SpellingFaults.{spelling_fault-None, spelling_fault-Some, spelling_fault-unspelt}
use Rattle.mp_theory.proofs.OneListLaws.{item_list-are}
use Rattle.mp_theory.specs.OneList.{item_list}
use Rattle.mp_matches.specs.Computed.{behind_token, file_matches, listed, match_of, refused, told, told_behind}
use Rattle.mp_matches.specs.Computed.{told_from}
use Rattle.mp_matches.specs.Left.{all, left_at_first, one_and, printed}
use Rattle.mp_matches.specs.Listed.{AreLines, IsCut, IsListed, IsListedOf, IsOfLines, IsOfNone, Listed, lines}
use Rattle.mp_matches.specs.Match.{IsTokenOf, Match, match_line, match_lines, more_line}
use Rattle.mp_matches.specs.TokenOf.{token_of}
use Rattle.mp_matches.proofs.MatchesLaws.{file_matches-all, file_matches-exact}
use Rattle.mp_matches.proofs.PrintedLaws.{behind_token-append_none, behind_token-first, behind_token-none}
use Rattle.mp_matches.proofs.TokenLaws.{least-in, token_of-fits, token_of-only}
use Rattle.mp_matches.proofs.TokenSpelling.{match_token, token_of-spells}

-- the match has the token that is computed, which is spelt as one
abbrev pub HasToken : Match → Type 0
HasToken m = IsTokenOf m (token_of m) × ((t : Token) × IsSpelling (token_of m) t)

-- ---- lines

module _ (sig : Sig) where
  -- where no limit is given there is a line for each match
  printed-all : (ms : List Match) → (printed sig all ms).0 ≡ match_lines sig ms
  printed-all [] = refl
  printed-all (m ∷ ms) = ap (λ l. match_line sig m ++ l) (printed-all ms)

  -- so there is where they are no more than it
  printed-few : (n : ℕ) (ms : List Match) → length ms ≤ suc n → (printed sig (one_and n) ms).0 ≡ match_lines sig ms
  printed-few zero [] h = refl
  printed-few zero (m ∷ []) h = refl
  printed-few zero (m ∷ k ∷ ms) h = absurd (omega arith)
  printed-few (suc n) [] h = refl
  printed-few (suc n) (m ∷ ms) h = ap (λ l. match_line sig m ++ l) (printed-few n ms (omega arith))

  -- and else as many as it, and one more
  printed-cut : (n : ℕ) (front : List Match) (last next : Match) (behind : List Match) → length front ≡ n
      → (printed sig (one_and n) (front ++ last ∷ next ∷ behind)).0
      ≡ match_lines sig (front ++ last ∷ []) ++ more_line (token_of last)
  printed-cut zero [] last next behind e = sym (append_assoc (match_line sig last) [] (more_line (token_of last)))
  printed-cut zero (m ∷ front) last next behind e = absurd (omega arith)
  printed-cut (suc n) [] last next behind e = absurd (omega arith)
  printed-cut (suc n) (m ∷ front) last next behind e =
      ap (λ l. match_line sig m ++ l) (printed-cut n front last next behind (omega arith))
      ∙ sym (append_assoc (match_line sig m) (match_lines sig (front ++ last ∷ [])) (more_line (token_of last)))

  -- the match at a place, where others follow
  split-at : (n : ℕ) (ms : List Match) → suc n < length ms
      → (front : List Match) × (last : Match) × (next : Match) × (behind : List Match)
      × (ms ≡ front ++ last ∷ next ∷ behind) × (length front ≡ n)
  split-at n [] h = absurd (omega arith)
  split-at zero (m ∷ []) h = absurd (omega arith)
  split-at zero (m ∷ k ∷ ms) h = ([], m, k, ms, refl, refl)
  split-at (suc n) (m ∷ ms) h =
      let r = split-at n ms (omega arith) in
      (m ∷ r.0, r.1, r.2, r.3, ap (λ l. m ∷ l) r.4, ap suc r.5)

  -- more matches than the limit are cut off
  cut-is : (n : ℕ) (ms : List Match) → AllByRecursion HasToken ms → suc n < length ms
      → IsCut sig n ms (printed sig (one_and n) ms).0
  cut-is n ms h more =
      let r = split-at n ms more in
      let parts = all-split HasToken r.0 (r.1 ∷ r.2 ∷ r.3) (subst (AllByRecursion HasToken) r.4 h) in
      record {
        front = r.0;
        last = r.1;
        next = r.2;
        behind = r.3;
        split = r.4;
        count = r.5;
        token = token_of r.1;
        token_of = parts.1.0.0;
        lines = ap (λ l. (printed sig (one_and n) l).0) r.4 ∙ printed-cut n r.0 r.1 r.2 r.3 r.5;
      }

  -- in one way
  cut-same : (n : ℕ) (ms : List Match) (text : Text) → IsCut sig n ms text → text ≡ (printed sig (one_and n) ms).0
  cut-same n ms text h =
      h.lines
      ∙ ap (λ t. match_lines sig (h.front ++ h.last ∷ []) ++ more_line t) (token_of-only h.last h.token h.token_of)
      ∙ sym (printed-cut n h.front h.last h.next h.behind h.count)
      ∙ ap (λ l. (printed sig (one_and n) l).0) (sym h.split)

  -- matches have the lines that are computed, and no others
  pub AreLines-exact : (limit : Option ℕ) (ms : List Match) → AllByRecursion HasToken ms → (text : Text)
      → AreLines sig limit ms text ↔ (text ≡ (printed sig (left_at_first limit) ms).0)
  AreLines-exact None ms h text = (λ e. e ∙ sym (printed-all ms), λ e. e ∙ printed-all ms)
  AreLines-exact (Some zero) ms h text = (λ e. e ∙ sym (printed-all ms), λ e. e ∙ printed-all ms)
  AreLines-exact (Some (suc n)) ms h text = (
    λ k. elim k [
      | inl few ↦ few.1 ∙ sym (printed-few n ms few.0)
      | inr cut ↦ cut-same n ms text cut
    ],
    by_length (nat_lt (suc n) (length ms)) refl,
  )
    where
      by_length : (b : Bool) → nat_lt (suc n) (length ms) ≡ b → text ≡ (printed sig (one_and n) ms).0
          → AreLines sig (Some (suc n)) ms text
      by_length true b e = inr (subst (IsCut sig n ms) (sym e) (cut-is n ms h (grind (arith, nat_tests))))
      by_length false b e =
          let few : length ms ≤ suc n = grind (arith, nat_tests) in
          inl (few, e ∙ printed-few n ms few)

  pub told-exact : (limit : Option ℕ) (ms : List Match) → AllByRecursion HasToken ms → (l : Listed)
      → IsOfLines sig limit ms l ↔ (l ≡ told sig limit ms)
  told-exact limit ms h l = (
    λ k. k.2 ∙ ap lines ((AreLines-exact limit ms h k.0).0 k.1),
    λ e. (
      (printed sig (left_at_first limit) ms).0,
      (AreLines-exact limit ms h (printed sig (left_at_first limit) ms).0).1 refl,
      e,
    ),
  )

-- ---- the token

module _ (token : Text) where
  -- a match with another token
  other-token : (m : Match) → bytes_eq (token_of m) token ≡ false → IsTokenOf m token → ⊥
  other-token m e k =
      let same : bytes_eq (token_of m) token ≡ true =
      (bytes_eq-Decides (token_of m) token).1 (sym (token_of-only m token k)) in
      let wrong : true ≡ false = sym same ∙ e in
      cc

  bytes_eq-other : (m : Match) → HasToken m → (IsTokenOf m token → ⊥) → bytes_eq (token_of m) token ≡ false
  bytes_eq-other m h none = go (bytes_eq (token_of m) token) refl
    where
      go : (b : Bool) → bytes_eq (token_of m) token ≡ b → b ≡ false
      go true e = absurd (none (subst (IsTokenOf m) ((bytes_eq-Decides (token_of m) token).0 e) h.0))
      go false e = refl

  -- the first match with the token, and those behind it
  abbrev IsSplit : List Match → List Match → Type 0
  IsSplit ms rest = (before : List Match) × (at : Match) × (ms ≡ before ++ at ∷ rest) × IsOfNone token before
      × IsTokenOf at token

  behind_token-split : (ms rest : List Match) → AllByRecursion HasToken ms → behind_token token ms ≡ Some rest
      → IsSplit ms rest
  behind_token-split [] rest h e = cc
  behind_token-split (m ∷ ms) rest h e =
      go (bytes_eq (token_of m) token) refl (behind_token-split ms rest h.1) e
    where
      go : (b : Bool) → bytes_eq (token_of m) token ≡ b → (behind_token token ms ≡ Some rest → IsSplit ms rest)
          → (if b then Some ms else behind_token token ms) ≡ Some rest → IsSplit (m ∷ ms) rest
      go true same later e =
          let rest_is : ms ≡ rest = cc in (
            [],
            m,
            ap (λ l. m ∷ l) rest_is,
            tt,
            subst (IsTokenOf m) ((bytes_eq-Decides (token_of m) token).0 same) h.0.0,
          )
      go false other later e =
          let r = later e in
          (m ∷ r.0, r.1, ap (λ l. m ∷ l) r.2, (other-token m other, r.3), r.4)

  -- where none of the matches has the token there are none behind it
  pub behind_token-of_none : (ms : List Match) → AllByRecursion HasToken ms → IsOfNone token ms
      → behind_token token ms ≡ None
  behind_token-of_none ms h none = behind_token-none token ms (others ms h none)
    where
      others : (ks : List Match) → AllByRecursion HasToken ks → IsOfNone token ks
          → AllByRecursion (λ m. bytes_eq (token_of m) token ≡ false) ks
      others [] h none = tt
      others (m ∷ ks) h none = (bytes_eq-other m h.0 none.0, others ks h.1 none.1)

  of_none-behind_token : (ms : List Match) → behind_token token ms ≡ None → IsOfNone token ms
  of_none-behind_token [] e = tt
  of_none-behind_token (m ∷ ms) e = go (bytes_eq (token_of m) token) refl (of_none-behind_token ms) e
    where
      go : (b : Bool) → bytes_eq (token_of m) token ≡ b → (behind_token token ms ≡ None → IsOfNone token ms)
          → (if b then Some ms else behind_token token ms) ≡ None → IsOfNone token (m ∷ ms)
      go true same later e = cc
      go false other later e = (other-token m other, later e)

  behind_token-found : (before : List Match) (m : Match) (behind : List Match) → AllByRecursion HasToken before
      → IsOfNone token before → IsTokenOf m token → behind_token token (before ++ m ∷ behind) ≡ Some behind
  behind_token-found before m behind h none k =
      behind_token-append_none token before (m ∷ behind) (behind_token-of_none before h none)
      ∙ behind_token-first token m behind ((bytes_eq-Decides (token_of m) token).1 (sym (token_of-only m token k)))

  -- a misspelt token is that of no match
  pub unspelt-none : (ms : List Match) → AllByRecursion HasToken ms → IsUnspelt token → IsOfNone token ms
  unspelt-none [] h unspelt = tt
  unspelt-none (m ∷ ms) h unspelt = (
    λ k. unspelt h.0.1.0 (subst (λ l. IsSpelling l h.0.1.0) (sym (token_of-only m token k)) h.0.1.1),
    unspelt-none ms h.1 unspelt,
  )

-- ---- what is told

module _ (sig : Sig) (limit : Option ℕ) (ms : List Match) (h : AllByRecursion HasToken ms) (l : Listed) where
  from_listed : (token : Text) → IsListedOf sig (Some token) limit ms l → l ≡ told_from sig limit (Some token) ms
  from_listed token (inl k) =
      let parts = all-split HasToken k.before (k.at ∷ k.behind) (subst (AllByRecursion HasToken) k.split h) in
      (told-exact sig limit k.behind parts.1.1 l).0 k.listed
      ∙ ap (told_behind sig limit token) (sym (ap (behind_token token) k.split
      ∙ behind_token-found token k.before k.at k.behind parts.0 k.first k.token_of))
  from_listed token (inr (inl k)) =
      k.3 ∙ ap refused (sym (spelling_fault-unspelt token k.0 k.1 k.2))
      ∙ ap (told_behind sig limit token) (sym (behind_token-of_none token ms h (unspelt-none token ms h k.1)))
  from_listed token (inr (inr k)) =
      k.2 ∙ ap refused (sym (spelt (spelling_fault token) refl))
      ∙ ap (told_behind sig limit token) (sym (behind_token-of_none token ms h k.1))
    where
      spelt : (o : Option ℕ) → spelling_fault token ≡ o → spelling_fault token ≡ None
      spelt None e = e
      spelt (Some at) e = absurd (k.0 (spelling_fault-Some token at e).0)

  to_listed : (token : Text) → l ≡ told_from sig limit (Some token) ms → IsListedOf sig (Some token) limit ms l
  to_listed token e = go (behind_token token ms) refl e
    where
      of_none : (o : Option ℕ) → spelling_fault token ≡ o → behind_token token ms ≡ None → l ≡ refused o
          → IsListedOf sig (Some token) limit ms l
      of_none None f b e = inr (inr (
        λ unspelt. (let r = spelling_fault-None token f in unspelt r.0 r.1),
        of_none-behind_token token ms b,
        e,
      ))
      of_none (Some at) f b e =
          let r = spelling_fault-Some token at f in inr (inl (at, r.0, r.1, e))

      go : (o : Option (List Match)) → behind_token token ms ≡ o → l ≡ told_behind sig limit token o
          → IsListedOf sig (Some token) limit ms l
      go None b e = of_none (spelling_fault token) refl b e
      go (Some rest) b e =
          let r = behind_token-split token ms rest h b in
          let parts = all-split HasToken r.0 (r.1 ∷ rest) (subst (AllByRecursion HasToken) r.2 h) in
          inl (record {
            before = r.0;
            at = r.1;
            behind = rest;
            split = r.2;
            first = r.3;
            token_of = r.4;
            listed = (told-exact sig limit rest parts.1.1 l).1 e;
          })

  pub told_from-exact : (resume : Option Text) → IsListedOf sig resume limit ms l ↔ (l ≡ told_from sig limit resume ms)
  told_from-exact None = told-exact sig limit ms h l
  told_from-exact (Some token) = (from_listed token, to_listed token)

-- ---- a file

module _ (file : FileTree) (sound : IsSoundFile file) where
  -- the matches of a sound file have tokens
  pub file_matches-tokens : AllByRecursion HasToken (file_matches file)
  file_matches-tokens = file_matches-all file sound HasToken (λ subject rule i s r k.
      let m = match_of subject rule i in
      let fit = (least-in file.sig rule subject.term (item_list file.sig rule subject.term) i
      (item_list-are file.sig rule subject.term s.term.normal).least k).fits in
      (token_of-fits file.sig m fit, (match_token m, token_of-spells file.sig m s r fit)))

  -- of a sound file is told what is computed, and nothing else
  pub IsListed-exact : (resume : Option Text) (limit : Option ℕ) (l : Listed)
      → IsListed file resume limit l ↔ (l ≡ listed file resume limit)
  IsListed-exact resume limit l = (
    λ h. (told_from-exact file.sig limit (file_matches file) file_matches-tokens l resume).0
        (subst (λ ms. IsListedOf file.sig resume limit ms l)
        ((file_matches-exact file sound h.matches).0 h.are_matches) h.listed),
    λ e. record {
      matches = file_matches file;
      are_matches = (file_matches-exact file sound (file_matches file)).1 refl;
      listed = (told_from-exact file.sig limit (file_matches file) file_matches-tokens l resume).1 e;
    },
  )
