-- What is answered where matches were printed, all of them or those behind the one of a token, or the token is that of
-- none.
use Rattle.std.proofs.Common.{◌≡◌, ℕ, List, [], Bool, true, refl, ap, ap₂, sym, ◌∙◌, subst, inl, inr}
use Rattle.std.specs.Prelude.{Option, Some, None, Result, Ok, Err}
use Rattle.mp_io.specs.Devices.{Text}
use Rattle.mp_io.specs.Moments.{Sunk}
use Rattle.mp_term.specs.Signature.{Sig}
use Rattle.mp_pattern.specs.Admission.{Rule}
use Rattle.mp_text.specs.File.{FileTree, Subject}
use Rattle.mp_text.specs.Sound.{IsSoundFile}
use Rattle.mp_token.specs.Machine.{spelling_fault}
use Rattle.mp_token.specs.Spelling.{IsFault, IsLongestBeginning, IsSpelling, IsUnspelt}
use Rattle.mp_token.specs.TokenText.{token_text}
use Rattle.mp_token.specs.declared.fault.TokenFault.{TokenFault}
use Rattle.mp_token.specs.declared.fault.TokenFault.TheVariants as unread
use Rattle.mp_token.specs.declared.token.Token.{Token}
use Rattle.mp_token.proofs.SpellingFaults.{spelling_fault-spelt, spelling_fault-unspelt}
use Rattle.mp_matches.specs.Computed.{all_matches, behind_token, file_matches, listed, refused, told_behind}
use Rattle.mp_matches.specs.Left.{Left, left_at_first, printed}
use Rattle.mp_matches.specs.Listed.{lines, misspelt}
use Rattle.mp_matches.specs.Match.{Match}
use Rattle.mp_matches.specs.Printed.{Lists, PrintsBehind, PrintsMatches}
use Rattle.mp_matches.specs.declared.fault.ListFault.{ListFault}
use Rattle.mp_matches.specs.declared.fault.ListFault.TheVariants as fault
use Rattle.mp_matches.specs.declared.stop.Stop.{Stop}
use Rattle.mp_matches.specs.declared.stop.Stop.TheVariants as stop
use Rattle.mp_matches.proofs.ListedLaws.{behind_token-of_none, file_matches-tokens, unspelt-none}
use Rattle.mp_matches.proofs.PrintedLaws.{has_some-long, printed-more}

-- matches were printed so, and what is told of them is answered so
abbrev pub Answers : Result Bool Stop → Result Bool ListFault → Type 0
Answers told result = (sig : Sig) (before after : Left) (ms : List Match) (out : Sunk)
    → PrintsMatches (printed sig before ms) out after told → Lists (lines (printed sig before ms).0) out result

-- the last line says that others follow
pub answers-More : Answers (Err stop.More) (Ok true)
answers-More sig before after ms out h =
    (refl, h.0, sym (has_some-long (printed sig before ms).0 (printed-more sig before ms h.1)))

module _ (sig : Sig) (limit : Option ℕ) (token : Text) (out : Sunk) (after : Left) where
  -- it is that of none
  pub behind-None : (ms : Option (List Match)) → spelling_fault token ≡ None
      → PrintsBehind sig (left_at_first limit) ms out after (Ok None)
      → Lists (told_behind sig limit token ms) out (Err fault.NotAnItem)
  behind-None ms e h = (ap (told_behind sig limit token) h.0 ∙ ap refused e, h.1)

  -- nothing was printed of those behind none
  front-refused : (o : Option ℕ) → PrintsMatches ([], None) out after (Err stop.Memory)
      → Lists (refused o) out (Err fault.Memory)
  front-refused None h = h
  front-refused (Some at) h = h

  -- printing stopped
  pub behind-Err : (ms : Option (List Match)) (e : Stop) (result : Result Bool ListFault) → Answers (Err e) result
      → (e ≡ stop.Memory → result ≡ Err fault.Memory)
      → PrintsBehind sig (left_at_first limit) ms out after (Err e)
      → Lists (told_behind sig limit token ms) out result
  behind-Err None e result answers memory (inl some, h) = cc
  behind-Err None e result answers memory (inr is, h) =
      subst (Lists (refused (spelling_fault token)) out) (sym (memory is))
      (front-refused (spelling_fault token) (subst (λ s. PrintsMatches ([], None) out after (Err s)) is h))
  behind-Err (Some ms) e result answers memory h = answers sig (left_at_first limit) after ms out h.1

-- ---- the matches of a file

module _ (file : FileTree) (limit : Option ℕ) (rules : List Rule) (subjects : List Subject) (left after : Left)
    (out : Sunk) (rules-are : rules ≡ file.rules) (subjects-are : subjects ≡ file.subjects)
    (at-first : left ≡ left_at_first limit) where
  -- all were printed, or printing stopped
  pub lists-all : (told : Result Bool Stop) (result : Result Bool ListFault) → Answers told result
      → PrintsMatches (printed file.sig left (all_matches file.sig rules subjects)) out after told
      → Lists (listed file None limit) out result
  lists-all told result answers h =
      let ms = all_matches file.sig rules subjects in
      subst (λ ks. Lists (lines (printed file.sig (left_at_first limit) ks).0) out result)
      (ap₂ (λ (rs : List Rule) (ss : List Subject). all_matches file.sig rs ss) rules-are subjects-are)
      (subst (λ l. Lists (lines (printed file.sig l ms).0) out result) at-first
      (answers file.sig left after ms out h))

  module _ (bytes text : Text) (token : Token) (same : bytes ≡ text) (spelt : IsSpelling bytes token) where
    -- those behind the token that was read are those behind its text
    pub printed-behind : (told : Result (Option Bool) Stop)
        → PrintsBehind file.sig left (behind_token (token_text token) (all_matches file.sig rules subjects)) out after
        told
        → PrintsBehind file.sig (left_at_first limit) (behind_token text (file_matches file)) out after told
    printed-behind told h =
        subst (λ l. PrintsBehind file.sig l (behind_token text (file_matches file)) out after told) at-first
        (subst (λ ms. PrintsBehind file.sig left ms out after told)
        (ap (λ t. behind_token t (all_matches file.sig rules subjects)) (sym spelt.text ∙ same)
        ∙ ap₂ (λ (rs : List Rule) (ss : List Subject). behind_token text (all_matches file.sig rs ss)) rules-are
        subjects-are) h)

    -- the text spells one
    pub spelt-text : spelling_fault text ≡ None
    spelt-text = spelling_fault-spelt text token (subst (λ t. IsSpelling t token) same spelt)

-- a token that is misspelt is told so
pub listed-misspelt : (file : FileTree) (limit : Option ℕ) (token : Text) (at : ℕ) → IsSoundFile file → IsUnspelt token
    → IsLongestBeginning token at → listed file (Some token) limit ≡ misspelt at
listed-misspelt file limit token at sound unspelt longest =
    let ms = file_matches file in
    let tokens = file_matches-tokens file sound in
    ap (told_behind file.sig limit token) (behind_token-of_none token ms tokens (unspelt-none token ms tokens unspelt))
    ∙ ap refused (spelling_fault-unspelt token at unspelt longest)

-- as it was read
pub listed-unread : (file : FileTree) (limit : Option ℕ) (bytes text : Text) (e : TokenFault) (at : ℕ)
    → IsSoundFile file → bytes ≡ text → e ≡ unread.Spelling at → IsFault bytes e
    → listed file (Some text) limit ≡ misspelt at
listed-unread file limit bytes text e at sound same is h =
    let fault : IsUnspelt text × IsLongestBeginning text at =
    subst (λ t. IsUnspelt t × IsLongestBeginning t at) same (subst (IsFault bytes) is h) in
    listed-misspelt file limit text at sound fault.0 fault.1
