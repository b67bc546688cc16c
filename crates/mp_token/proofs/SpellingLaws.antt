-- What runs over bytes say: which token they spell, and how far some token begins with them.
use Rattle.std.proofs.Common.{◌≡◌, ℕ, ◌+◌, ◌<◌, [], ◌∷◌, ◌++◌, length, take, drop, get_or, Option, Some, None}
use Rattle.std.proofs.Common.{refl, ap, sym, ◌∙◌, subst, arith, append_assoc, append-nil}
use Rattle.std.specs.Prelude.{IfSome, IfOk, IfErr, Result, Ok, Err, option_map, MatchOption, ⊤, true, false}
use Rattle.std.proofs.lemmas.List.{take_all, take-take, take-append-drop, take_more}
use Rattle.mp_io.specs.Devices.{Text}
use Rattle.mp_term.specs.Names.{is_name}
use Rattle.mp_token.specs.Spelling.{IsSpelling, Begins, IsFault}
use Rattle.mp_token.specs.declared.fault.TokenFault.{TokenFault}
use Rattle.mp_token.specs.declared.fault.TokenFault.TheVariants as fault
use Rattle.mp_token.specs.declared.reader.Spot.{Spot}
use Rattle.mp_token.specs.declared.reader.Spot.TheVariants.{InSubject, InRule, BeforeEntry, InNumber, AfterComma}
use Rattle.mp_token.specs.declared.reader.Spot.TheVariants.{AfterMark}
use Rattle.mp_token.specs.declared.token.Token.{Token}
use Rattle.mp_token.specs.Machine.{State, start, step, run, end_step, with_entry, token_of, HasNames}
use Rattle.mp_token.specs.Machine.{IsEndFault, rank}
use Rattle.mp_token.proofs.Runs.{run_refused, run_push, name_step-slash, from_Some, step-semicolon}
use Rattle.mp_token.proofs.EndedTexts.{before}
use Rattle.mp_token.proofs.TokenRuns.{spelling_run}
use Rattle.mp_token.proofs.ReadTexts.{Reads, Ends, ends_sound, step_sound, run_sound, start_reads}

-- ---- each state is left by some token

-- what goes on behind more bytes goes on
Begins-front : (bytes more : Text) → Begins (bytes ++ more) → Begins bytes
Begins-front bytes more h = record {
  token = h.token;
  rest = more ++ h.rest;
  spelt = subst (λ l. IsSpelling l h.token) (append_assoc bytes more h.rest) h.spelt;
}

-- bytes that spell a token begin it
Begins-spelling : (bytes : Text) (t : Token) → IsSpelling bytes t → Begins bytes
Begins-spelling bytes t is = record { token = t; rest = []; spelt = rw append-nil is }

-- some token goes on with a step
Begins-step : (bytes : Text) (s t : State) (b : ℕ) → Reads bytes s → step s b ≡ Some t
    → (Reads (bytes ++ b ∷ []) t → Begins (bytes ++ b ∷ [])) → Begins bytes
Begins-step bytes s t b reads is next = Begins-front bytes (b ∷ []) (next (step_sound bytes s t b reads is))

module _ (s : State) where
  -- an entry that may end ends some token
  entry_begins : (bytes : Text) (p : Spot) (t : State) → Reads bytes (record s { spot = p })
      → end_step (record s { spot = p }) p ≡ Some t → Begins bytes
  entry_begins bytes p t reads is =
      let ended : IfSome (Some t) (Ends bytes) =
      subst (λ o. IfSome o (Ends bytes)) is (ends_sound bytes (record s { spot = p }) reads) in
      Begins-spelling bytes (token_of t) ended.spelling

  -- the name of a rule goes on: where it has a byte by a slash
  named_begins : (bytes : Text) → 0 < length s.rule → Reads bytes (record s { spot = InRule }) → Begins bytes
  named_begins bytes some reads =
      Begins-step bytes (record s { spot = InRule }) (record s { spot = BeforeEntry }) 47 reads
      (ap (option_map (λ x. record s { rule = x.0; spot = x.1 })) (name_step-slash s.rule InRule BeforeEntry some))
      (λ next. entry_begins (bytes ++ 47 ∷ []) BeforeEntry (with_entry s s.ranks false) next refl)

-- and else by a letter
rule_begins : (bytes : Text) (s : State) → Reads bytes (record s { spot = InRule }) → Begins bytes
rule_begins bytes s reads = go s.rule reads
  where
    go : (rule : Text) → Reads bytes (record s { rule = rule; spot = InRule }) → Begins bytes
    go [] reads =
        Begins-step bytes (record s { rule = []; spot = InRule }) (record s { rule = 97 ∷ []; spot = InRule }) 97
        reads refl
        (λ next. named_begins (record s { rule = 97 ∷ [] }) (bytes ++ 97 ∷ []) (omega arith) next)
    go (c ∷ cs) reads = named_begins (record s { rule = c ∷ cs }) bytes (omega arith) reads

-- so does that of a subject
named_subject_begins : (bytes : Text) (s : State) → 0 < length s.subject → Reads bytes (record s { spot = InSubject })
    → Begins bytes
named_subject_begins bytes s some reads =
    Begins-step bytes (record s { spot = InSubject }) (record s { spot = InRule }) 47 reads
    (ap (option_map (λ x. record s { subject = x.0; spot = x.1 })) (name_step-slash s.subject InSubject InRule some))
    (λ next. rule_begins (bytes ++ 47 ∷ []) s next)

subject_begins : (bytes : Text) (s : State) → Reads bytes (record s { spot = InSubject }) → Begins bytes
subject_begins bytes s reads = go s.subject reads
  where
    go : (subject : Text) → Reads bytes (record s { subject = subject; spot = InSubject }) → Begins bytes
    go [] reads =
        Begins-step bytes (record s { subject = []; spot = InSubject })
        (record s { subject = 97 ∷ []; spot = InSubject }) 97 reads refl
        (λ next. named_subject_begins (bytes ++ 97 ∷ []) (record s { subject = 97 ∷ [] }) (omega arith) next)
    go (c ∷ cs) reads = named_subject_begins bytes (record s { subject = c ∷ cs }) (omega arith) reads

-- some token begins with what is read up to a state
reads_begins : (bytes : Text) (s : State) → Reads bytes s → Begins bytes
reads_begins bytes s reads = go s.spot reads
  where
    go : (p : Spot) → Reads bytes (record s { spot = p }) → Begins bytes
    go InSubject reads = subject_begins bytes s reads
    go InRule reads = rule_begins bytes s reads
    go BeforeEntry reads = entry_begins s bytes BeforeEntry (with_entry s s.ranks false) reads refl
    go (InNumber n) reads =
        entry_begins s bytes (InNumber n) (with_entry s (s.ranks ++ rank n ∷ []) false) reads refl
    go AfterComma reads =
        Begins-step bytes (record s { spot = AfterComma }) (record s { spot = InNumber 0 }) 48 reads refl
        (λ next. entry_begins s (bytes ++ 48 ∷ []) (InNumber 0) (with_entry s (s.ranks ++ rank 0 ∷ []) false) next refl)
    go AfterMark reads = entry_begins s bytes AfterMark (with_entry s s.ranks true) reads refl

-- ---- runs from the start

-- bytes that are passed begin some token
pub run_begins : (bytes : Text) (s : State) → run start bytes ≡ Some s → Begins bytes
run_begins bytes s is = reads_begins bytes s (run_sound [] bytes start s start_reads is)

-- bytes that begin some token aren't refused
pub run_refuses : (bytes : Text) → run start bytes ≡ None → Begins bytes → ⊥
run_refuses bytes refused h =
    let passed = spelling_run (bytes ++ h.rest) h.token h.spelt in
    let none = run_refused start bytes h.rest refused in
    let some = passed.1 in
    cc

-- the token that is read is the one that the bytes spell
pub run_spells : (bytes : Text) (s t : State) → run start bytes ≡ Some s → end_step s s.spot ≡ Some t
    → IsSpelling bytes (token_of t)
run_spells bytes s t is ended =
    let h : IfSome (Some t) (Ends bytes) =
    subst (λ o. IfSome o (Ends bytes)) ended (ends_sound bytes s (run_sound [] bytes start s start_reads is)) in
    h.spelling

-- the names that are read are names
pub run_names : (bytes : Text) (s : State) → run start bytes ≡ Some s → HasNames s
run_names bytes s is = go (end_step s s.spot) refl
  where
    go : (o : Option State) → end_step s s.spot ≡ o
        → MatchOption o ⊤ (λ t. (is_name t.subject ≡ true) × (is_name t.rule ≡ true))
    go None ended = tt
    go (Some t) ended =
        let h = run_spells bytes s t is ended in
        (h.token.subject, h.token.rule)

-- bytes spell at most one token
pub spelling_unique : (bytes : Text) (t u : Token) → IsSpelling bytes t → IsSpelling bytes u → t ≡ u
spelling_unique bytes t u p q =
    let first = spelling_run bytes t p in
    let second = spelling_run bytes u q in
    let same : first.0 ≡ second.0 = from_Some (sym first.1 ∙ second.1) in
    let ends : before t.subject t.rule t.entries ≡ before u.subject u.rule u.entries =
    from_Some (sym first.2 ∙ ap (λ s. step s 59) same ∙ second.2) in
    ap token_of ends

-- ---- faults

-- the byte at an index is the first that is refused
pub refused_fault : (bytes : Text) (i d : ℕ) (s : State) → i < length bytes → run start (take i bytes) ≡ Some s
    → step s (get_or bytes i d) ≡ None → IsFault bytes (fault.Spelling i)
refused_fault bytes i d s within passed refused =
    let front : run start (take (i + 1) bytes) ≡ None =
    ap (run start) (take_more bytes i d within)
    ∙ run_push start s (take i bytes) (get_or bytes i d) None passed refused in (
      λ t is. run_refuses bytes
          (ap (run start) (sym (take-append-drop (i + 1) bytes))
          ∙ run_refused start (take (i + 1) bytes) (drop (i + 1) bytes) front)
          (Begins-spelling bytes t is),
      record {
        within = omega arith;
        begins = run_begins (take i bytes) s passed;
        longest = λ n more small. run_refuses (take n bytes)
            (ap (run start) (sym (take-append-drop (i + 1) (take n bytes)))
            ∙ run_refused start (take (i + 1) (take n bytes)) (drop (i + 1) (take n bytes))
            (ap (run start) (take-take (i + 1) n bytes (omega arith)) ∙ front));
      },
    )

-- the bytes end where no token ends
end_fault : (bytes : Text) (s : State) (e : TokenFault) → run start bytes ≡ Some s
    → IsEndFault (end_step s s.spot) (length bytes) e → IsFault bytes e
end_fault bytes s fault.Memory passed h = tt
end_fault bytes s (fault.Spelling at) passed h =
    rw h.1 (
      λ t is.
          let found = spelling_run bytes t is in
          let same : found.0 ≡ s = from_Some (sym found.1 ∙ passed) in
          let ended : end_step s s.spot ≡ Some (before t.subject t.rule t.entries) =
          sym (step-semicolon s) ∙ ap (λ x. step x 59) (sym same) ∙ found.2 in
          let none = h.0 in
          cc,
      record {
        within = omega arith;
        begins = rw (take_all (length bytes) bytes (omega arith)) (run_begins bytes s passed);
        longest = λ n more small _. omega arith;
      },
    )

-- ---- answers

-- an answer of a token is what the bytes spell
pub answer_spells : (bytes : Text) (s : State) (r : Result Token TokenFault) → run start bytes ≡ Some s
    → IfOk r (λ t. option_map token_of (end_step s s.spot) ≡ Some t) → IfOk r (λ t. IsSpelling bytes t)
answer_spells bytes s (Ok t) passed h = go (end_step s s.spot) refl h
  where
    go : (o : Option State) → end_step s s.spot ≡ o → option_map token_of o ≡ Some t → IsSpelling bytes t
    go None ended h = absurd (cc)
    go (Some u) ended h = subst (IsSpelling bytes) (from_Some h) (run_spells bytes s u passed ended)
answer_spells bytes s (Err e) passed h = tt

-- an answer of a fault is why the bytes aren't read
pub answer_faults : (bytes : Text) (s : State) (r : Result Token TokenFault) → run start bytes ≡ Some s
    → IfErr r (λ e. IsEndFault (end_step s s.spot) (length bytes) e) → IfErr r (λ e. IsFault bytes e)
answer_faults bytes s (Ok t) passed h = tt
answer_faults bytes s (Err e) passed h = end_fault bytes s e passed h
