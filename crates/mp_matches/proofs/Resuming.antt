-- The match of a token among those of a rule on a subject.
use Rattle.std.proofs.Common.{◌≡◌, ◌∙◌, List, [], ◌∷◌, map, refl, sym, ap, ap₂, subst}
use Rattle.std.specs.Prelude.{Some, None}
use Rattle.std.specs.List.{AllByRecursion}
use Rattle.mp_term.specs.Listing.{In}
use Rattle.mp_term.specs.Signature.{Sig}
use Rattle.mp_pattern.specs.Admission.{Rule}
use Rattle.mp_pattern.specs.Constants.{rule_constants}
use Rattle.mp_pattern.specs.Fits as fits
use Rattle.mp_pattern.specs.SoundRule.{IsSoundRule}
use Rattle.mp_table.specs.Table.{Table, IsTableOf}
use Rattle.mp_theory.specs.OneList.{Item, item_list}
use Rattle.mp_theory.proofs.OneListLaws.{item_list-are}
use Rattle.mp_text.specs.File.{Subject}
use Rattle.mp_text.specs.Sound.{IsSoundSubject}
use Rattle.mp_token.specs.Entry.{Entry}
use Rattle.mp_token.specs.Spelling.{IsSpelling, IsToken}
use Rattle.mp_token.specs.TokenText.{front_text, token_text}
use Rattle.mp_token.specs.declared.token.Token.{Token}
use Rattle.mp_token.proofs.SpellingLaws.{spelling_unique}
use Rattle.mp_cursor.specs.Listing.{Listing, ReadAs, StandForNone, StandsAt}
use Rattle.mp_matches.specs.Computed.{behind_token, match_of, matches_of, rule_matches, subject_matches}
use Rattle.mp_matches.specs.TokenOf.{entry_in, table_of, token_of}
use Rattle.mp_matches.proofs.BehindLaws.{behind-at, behind-none}
use Rattle.mp_matches.proofs.PrintedLaws.{behind_token-append_none}
use Rattle.mp_matches.proofs.TokenLaws.{IsTableOf-unique, entries-fit, least-in, table_of-is, token_of-only}
use Rattle.mp_matches.proofs.TokenSpelling.{match_token, token_of-spells}

-- the same ranks stand for one table
read-one : (t : Table) (es : List Entry) (a b : fits.Table) → ReadAs t es a → ReadAs t es b → a ≡ b
read-one t [] [] [] h k = refl
read-one t [] [] (e ∷ b) h k = absurd k
read-one t [] (d ∷ a) b h k = absurd h
read-one t (e ∷ es) [] b h k = absurd h
read-one t (e ∷ es) (d ∷ a) [] h k = absurd k
read-one t (e ∷ es) (d ∷ a) (f ∷ b) h k =
    let first : d ≡ f = ap₂ (λ ts c. record { terms = ts; collapsed = c }) (sym h.0.1 ∙ k.0.1) (sym h.0.2 ∙ k.0.2) in
    ap₂ (λ (x : fits.Entry) xs. x ∷ xs) first (read-one t es a b h.1 k.1)

module _ (sig : Sig) (subject : Subject) (rule : Rule) (s : IsSoundSubject sig subject) (r : IsSoundRule sig rule)
    (token : Token) (is : IsToken token) where
  item-fits : (i : Item) → In i (item_list sig rule subject.term)
      → fits.Fits sig rule.pattern subject.term i.1 i.0
  item-fits i k = (least-in sig rule subject.term (item_list sig rule subject.term) i
      (item_list-are sig rule subject.term s.term.normal).least k).fits

  -- an item with the text of the token has the token
  token-same : (i : Item) → In i (item_list sig rule subject.term)
      → token_of (match_of subject rule i) ≡ token_text token → token ≡ match_token (match_of subject rule i)
  token-same i k e = spelling_unique (token_text token) token (match_token (match_of subject rule i))
      (record { token = is; text = refl })
      (subst (λ b. IsSpelling b (match_token (match_of subject rule i))) e
      (token_of-spells sig (match_of subject rule i) s r (item-fits i k)))

  named : (i : Item) → In i (item_list sig rule subject.term)
      → token_of (match_of subject rule i) ≡ token_text token
      → (token.subject ≡ subject.name) × (token.rule ≡ rule.name)
  named i k e =
      let same = token-same i k e in (ap (λ (t : Token). t.subject) same, ap (λ (t : Token). t.rule) same)

  read : (t : Table) → IsTableOf subject.term (rule_constants rule) t → (i : Item)
      → In i (item_list sig rule subject.term) → token_of (match_of subject rule i) ≡ token_text token
      → ReadAs t token.entries i.0
  read t h i k e =
      let ranks = table_of subject.term (rule_constants rule) in
      let same : ranks ≡ t = IsTableOf-unique subject.term (rule_constants rule) ranks t
      (table_of-is subject.term (rule_constants rule)) h in
      subst (λ es. ReadAs t es i.0) (sym (ap (λ (t : Token). t.entries) (token-same i k e)))
      (subst (λ u. ReadAs u (map (entry_in ranks) i.0) i.0) same (entries-fit sig (match_of subject rule i)
      (item-fits i k)))

  -- the cursor stands at the item of the token, and the matches behind it are those to come
  pub resumed-at : (c : Listing) → IsTableOf subject.term (rule_constants rule) c.table
      → token.subject ≡ subject.name → token.rule ≡ rule.name
      → StandsAt token.entries (item_list sig rule subject.term) c
      → behind_token (token_text token) (rule_matches sig subject rule) ≡ Some (matches_of subject rule c.to_come)
  resumed-at c h p q st =
      let at = st.at in
      let spelt : token_text token ≡ front_text subject.name rule.name token.entries =
      ap₂ (λ a b. front_text a b token.entries) p q in
      let own = token_of-only (match_of subject rule at) (token_text token)
      (record { ranks = c.table; ranked = h; entries = token.entries; read = st.table; spelt = spelt }) in
      behind-at subject rule (token_text token) at (item_list sig rule subject.term)
      (item_list-are sig rule subject.term s.term.normal).ascending st.member (sym own)
      (λ i k e. read-one c.table token.entries i.0 at.0 (read c.table h i k e) st.table)
      ∙ ap (λ js. Some (matches_of subject rule js)) (sym st.to_come)

  -- the token is that of no item
  pub resumed-none : (t : Table) → IsTableOf subject.term (rule_constants rule) t
      → (token.rule ≡ rule.name → StandForNone t token.entries (item_list sig rule subject.term))
      → behind_token (token_text token) (rule_matches sig subject rule) ≡ None
  resumed-none t h none = behind-none subject rule (token_text token) (item_list sig rule subject.term)
      (λ i k e. none (named i k e).1 i k (read t h i k e))

  -- the token has the name of another rule
  pub other-rule : (rule.name ≡ token.rule → ⊥) → behind_token (token_text token) (rule_matches sig subject rule) ≡ None
  other-rule h = behind-none subject rule (token_text token) (item_list sig rule subject.term)
      (λ i k e. h (sym (named i k e).1))

  -- the token has the name of another subject
  pub other-subject : (subject.name ≡ token.subject → ⊥)
      → behind_token (token_text token) (rule_matches sig subject rule) ≡ None
  other-subject h = behind-none subject rule (token_text token) (item_list sig rule subject.term)
      (λ i k e. h (sym (named i k e).0))

-- the token has the name of another subject than that of some rules
pub other-subjects : (sig : Sig) (subject : Subject) (rules : List Rule) (token : Token) → IsSoundSubject sig subject
    → AllByRecursion (IsSoundRule sig) rules → IsToken token → (subject.name ≡ token.subject → ⊥)
    → behind_token (token_text token) (subject_matches sig rules subject) ≡ None
other-subjects sig subject [] token s all is h = refl
other-subjects sig subject (r ∷ rules) token s all is h =
    behind_token-append_none (token_text token) (rule_matches sig subject r) (subject_matches sig rules subject)
    (other-subject sig subject r s all.0 token is h)
    ∙ other-subjects sig subject rules token s all.1 is h
