-- The texts of a token are the runs that settle as it, so the lexer takes the longest token.
use Rattle.std.proofs.Common.{◌≡◌, ℕ, ◌<◌, ◌≤◌, Bool, true, false, cond, List, ◌++◌, length, take, drop, refl, sym}
use Rattle.std.proofs.Common.{ap, subst, ◌∙◌, inl, inr, leb}
use Rattle.std.specs.Prelude.{◌⊎◌, ◌&&◌, codes}
use Rattle.std.specs.Str.{bytes_eq}
use Rattle.std.proofs.lemmas.Bool.{le-leb, leb-true, leb-false, lt-leb}
use Rattle.std.proofs.lemmas.Slice.Eq.{bytes_eq-Decides}
use Rattle.mp_parser.specs.declared.limits.TheConstants.{MAX_WORD_BYTES}
use Rattle.mp_parser.specs.Tokens.{Token, Word, Wildcard, Sign, Arrow, Punctuation, Long, Bad, End, IsWord, Spells}
use Rattle.mp_parser.specs.Tokens.{IsLongest}
use Rattle.mp_parser.specs.Lexing.{run_at, kind_at, settled}
use Rattle.mp_parser.proofs.Longest.{IsRun, IsToken, run_at-run, run_at-within, run-some, run_at-longest}
use Rattle.mp_parser.proofs.Longest.{run_at-is_longest}

-- the run that a text of the token t is
pub record Settles (text : List ℕ) (t : Token) : Type 0 where
  pub run : Token
  pub is_run : IsRun text run
  pub is : t ≡ settled run

settled-long-name : (a b : Bool) → a ≡ false → (t : Token) → Long ≡ cond (a && b) t Long
settled-long-name true b e t = absurd cc
settled-long-name false b e t = refl

settled-long-kind : (a b : Bool) → b ≡ false → (t : Token) → Long ≡ cond (a && b) t Long
settled-long-kind true b e t = rw e refl
settled-long-kind false b e t = refl

-- a text of a token is a run that settles as it
pub spells-settles : (text : List ℕ) (t : Token) → Spells text t → Settles text t
spells-settles text (Word w) h =
    record { run = Word w; is_run = (h.0, h.1); is = rw (le-leb (length w) MAX_WORD_BYTES h.2) refl }
spells-settles text (Wildcard name marks kind) h =
    record {
      run = Wildcard name marks kind;
      is_run = h.0;
      is = rw (le-leb (length name) MAX_WORD_BYTES h.1, le-leb (length kind) MAX_WORD_BYTES h.2) refl;
    }
spells-settles text (Sign s) h = record { run = Sign s; is_run = (h.0, h.1); is = go (bytes_eq s (codes "->")) refl }
  where
    go : (v : Bool) → bytes_eq s (codes "->") ≡ v → Sign s ≡ cond v Arrow (Sign s)
    go true e = absurd (h.2 ((bytes_eq-Decides s (codes "->")).0 e))
    go false e = refl
spells-settles text Arrow h =
    record { run = Sign (codes "->"); is_run = (h, record { some = λ e. absurd cc; bytes = refl }); is = refl }
spells-settles text (Punctuation p) h = record { run = Punctuation p; is_run = h; is = refl }
spells-settles text Long (inl h) =
    record { run = Word text; is_run = (refl, h.0); is = rw (lt-leb (length text) MAX_WORD_BYTES h.1) refl }
spells-settles text Long (inr h) = record { run = Wildcard h.name h.marks h.kind; is_run = h.wildcard; is = go h.long }
  where
    go : (MAX_WORD_BYTES < length h.name) ⊎ (MAX_WORD_BYTES < length h.kind)
        → Long ≡ settled (Wildcard h.name h.marks h.kind)
    go (inl e) = settled-long-name (leb (length h.name) MAX_WORD_BYTES) (leb (length h.kind) MAX_WORD_BYTES)
        (lt-leb (length h.name) MAX_WORD_BYTES e) (Wildcard h.name h.marks h.kind)
    go (inr e) = settled-long-kind (leb (length h.name) MAX_WORD_BYTES) (leb (length h.kind) MAX_WORD_BYTES)
        (lt-leb (length h.kind) MAX_WORD_BYTES e) (Wildcard h.name h.marks h.kind)
spells-settles text Bad h = absurd h
spells-settles text End h = absurd h

-- a run is a text of what it settles as
pub run-spells : (text : List ℕ) (t : Token) → IsRun text t → Spells text (settled t)
run-spells text (Word w) h = go (leb (length w) MAX_WORD_BYTES) refl
  where
    go : (v : Bool) → leb (length w) MAX_WORD_BYTES ≡ v → Spells text (cond v (Word w) Long)
    go true e = (h.0, h.1, leb-true (length w) MAX_WORD_BYTES e)
    go false e =
        inl (subst (λ l. IsWord l × (MAX_WORD_BYTES < length l)) (sym h.0) (h.1, leb-false (length w) MAX_WORD_BYTES e))
run-spells text (Wildcard name marks kind) h =
    go (leb (length name) MAX_WORD_BYTES) (leb (length kind) MAX_WORD_BYTES) refl refl
  where
    go : (v w : Bool) → leb (length name) MAX_WORD_BYTES ≡ v → leb (length kind) MAX_WORD_BYTES ≡ w
        → Spells text (cond (v && w) (Wildcard name marks kind) Long)
    go true true e f = (h, leb-true (length name) MAX_WORD_BYTES e, leb-true (length kind) MAX_WORD_BYTES f)
    go true false e f =
        inr (record {
          name = name;
          marks = marks;
          kind = kind;
          wildcard = h;
          long = inr (leb-false (length kind) MAX_WORD_BYTES f);
        })
    go false w e f =
        inr (record {
          name = name;
          marks = marks;
          kind = kind;
          wildcard = h;
          long = inl (leb-false (length name) MAX_WORD_BYTES e);
        })
run-spells text (Sign s) h = go (bytes_eq s (codes "->")) refl
  where
    go : (v : Bool) → bytes_eq s (codes "->") ≡ v → Spells text (cond v Arrow (Sign s))
    go true e = h.0 ∙ (bytes_eq-Decides s (codes "->")).0 e
    go false e = (h.0, h.1, λ is. absurd (differs is e))
      where
        differs : s ≡ codes "->" → bytes_eq s (codes "->") ≡ false → ⊥
        differs is e = let same : bytes_eq s (codes "->") ≡ true = ap (λ l. bytes_eq l (codes "->")) is in absurd cc
run-spells text (Punctuation p) h = h
run-spells text _ h = absurd h

-- a token settles from one
pub IsToken-settled : (t : Token) → IsToken (settled t) → IsToken t
IsToken-settled Bad h = h
IsToken-settled End h = h
IsToken-settled _ h = tt

-- a token's text is no bad byte and no end
pub spells-token : (text : List ℕ) (t : Token) → Spells text t → IsToken t
spells-token text (Word w) h = tt
spells-token text (Wildcard name marks kind) h = tt
spells-token text (Sign s) h = tt
spells-token text Arrow h = tt
spells-token text (Punctuation p) h = tt
spells-token text Long h = tt
spells-token text Bad h = absurd h
spells-token text End h = absurd h

-- a token's text has a byte
pub spells-some : (text : List ℕ) (t : Token) → Spells text t → 0 < length text
spells-some text t h = let r = spells-settles text t h in run-some text r.run r.is_run

-- the longest token at the front is what the lexer takes
pub kind_at-longest : (text rest : List ℕ) (t : Token) → Spells text t → IsLongest text rest
    → kind_at (text ++ rest) ≡ (t, length text)
kind_at-longest text rest t h longest =
    let r = spells-settles text t h in
    let raw : run_at (text ++ rest) ≡ (r.run, length text) =
    run_at-longest text rest r.run r.is_run
    (λ more after u e is. longest more after (settled u) e (run-spells (text ++ more) u is)) in
    ap (λ (x : Token × ℕ). (settled x.0, x.1)) raw ∙ ap (λ t. (t, length text)) (sym r.is)

-- what the lexer takes is the longest
pub kind_at-is_longest : (bytes : List ℕ) → IsLongest (take (kind_at bytes).1 bytes) (drop (kind_at bytes).1 bytes)
kind_at-is_longest bytes more after t e h =
    let r = spells-settles (take (run_at bytes).1 bytes ++ more) t h in
    run_at-is_longest bytes more after r.run e r.is_run

-- what the lexer takes is a text of the token
pub kind_at-spells : (bytes : List ℕ) → IsToken (kind_at bytes).0
    → Spells (take (kind_at bytes).1 bytes) (kind_at bytes).0
kind_at-spells bytes h = run-spells (take (run_at bytes).1 bytes) (run_at bytes).0
    (run_at-run bytes (IsToken-settled (run_at bytes).0 h))

-- the lexer takes no more than there is
pub kind_at-within : (bytes : List ℕ) → (kind_at bytes).1 ≤ length bytes
kind_at-within bytes = (run_at-within bytes).0
