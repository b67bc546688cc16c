-- The word that begins a statement, and how large the term of a subject is.
use Rattle.std.proofs.Common.{◌≡◌, ◌-◌, ℕ, true, false, List, ◌∷◌, arith, rules, ltb, ap, ◌∙◌}
use Rattle.std.proofs.lemmas.Slice.Eq.{bytes_eq-Decides}
use Rattle.mp_parser.specs.Tokens.{Token, Word, Placed}
use Rattle.mp_parser.specs.Lexing.{behind}
use Rattle.mp_parser.specs.Syntax.{Tree, Statement}
use Rattle.mp_parser.specs.Machine.{State, Top, Go, keyword, is_word, step, run}
use Rattle.mp_parser.proofs.ConditionRuns.{behind-word}
use Rattle.mp_parser.proofs.Runs.{one-step}
use Rattle.mp_pattern.specs.declared.limits.TheConstants.{MAX_TERM_NODES}
use Rattle.mp_build.specs.Checks.{nodes, has_large_default, is_large_term}

-- a word that begins a statement leads on
step-keyword : (text : List ℕ) (to : State) (t : Placed) → keyword text ≡ Go to → is_word text t.token ≡ true
    → step Top t ≡ Go to
step-keyword text to t begins h = go t.token h
  where
    go : (s : Token) → is_word text s ≡ true → step Top (record { token = s; place = t.place }) ≡ Go to
    go (Word w) k = ap keyword ((bytes_eq-Decides w text).0 k) ∙ begins
    go _ k = absurd cc

-- a run over such a word
pub over-keyword : (text : List ℕ) (to : State) (done : List Statement) (t : Placed) (old new : List Placed)
    → keyword text ≡ Go to → old ≡ t ∷ behind t.token new → is_word text t.token ≡ true
    → run done Top old ≡ run done to new
over-keyword text to done t old new begins e h = ap (run done Top) e
    ∙ one-step done Top t new (Go to) (behind-word text t.token new h) (step-keyword text to t begins h)

-- nothing that is taken from a number is more than it
ltb-taken : (most left n : ℕ) → most - left ≡ n → ltb most n ≡ false
ltb-taken most left n e = search (rules, arith, e)

-- a term whose nodes were taken from those that there may be isn't large
pub is_large_term-taken : (e : Tree) (left : ℕ) → MAX_TERM_NODES - left ≡ nodes e → has_large_default e ≡ false
    → is_large_term e ≡ false
is_large_term-taken e left taken small = rw (ltb-taken MAX_TERM_NODES left (nodes e) taken) small
