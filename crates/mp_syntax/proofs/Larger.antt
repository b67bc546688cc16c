-- A larger limit lets through a bracket that a smaller one refuses, and changes nothing else.
use Rattle.std.proofs.Common.{inl, inr, ◌≡◌, ℕ, suc, ◌<◌, ◌≤◌, Bool, true, false, cond, List, [], ◌∷◌, Option, Some}
use Rattle.std.proofs.Common.{None, refl, sym, ap, ◌∙◌, arith, leb}
use Rattle.std.specs.Prelude.{◌⊎◌, codes}
use Rattle.std.proofs.lemmas.Bool.{leb-false, lt-leb}
use Rattle.mp_parser.specs.declared.token.Punct.TheVariants.{Open, Close, OpenSquare, CloseSquare}
use Rattle.mp_parser.specs.declared.fault.FaultKind.TheVariants.{TooDeep}
use Rattle.mp_parser.specs.Tokens.{Placed}
use Rattle.mp_parser.specs.Syntax.{Apply, Symbol, Listed, trees}
use Rattle.mp_parser.specs.Machine.{InChange, Listing, AfterArrow, AfterSquare, AfterChange, change, Frame, Arguments}
use Rattle.mp_parser.specs.Machine.{Bracket, Operand, Square, no_level, Site, site, open_count, Within, State}
use Rattle.mp_parser.specs.Machine.{BeforeExpr, AfterWord, AfterOpen, AfterExpr, BeforeLiteral, BeforeBody}
use Rattle.mp_parser.specs.Machine.{BeforeOperand, Step, Go, Refuse, is_punct, is_word, word_of, wildcard_at, refuse}
use Rattle.mp_parser.specs.Machine.{on_word, step_in, step_atom, step_body, step_behind, step_open, step_expr}
use Rattle.mp_parser.specs.Machine.{step_wildcard}
use Rattle.mp_syntax.proofs.GoesOn.{count}

-- a step at a limit beside the same at a larger one, with c brackets open: they are the same, or only the larger one
-- leads on
abbrev pub Beside : (ℕ → Step) → ℕ → ℕ → Type 0
Beside at c low =
    ((high : ℕ) → low ≤ high → at high ≡ at low)
    ⊎ ((at low ≡ Refuse TooDeep) × (next : State) × ((high : ℕ) → c < high → at high ≡ Go next))

-- a step that no limit concerns
free : (s : Step) (c low : ℕ) → Beside (λ limit. s) c low
free s c low = inl (λ high le. refl)

branch : (v : Bool) (a b : ℕ → Step) (c low : ℕ) → Beside a c low → Beside b c low
    → Beside (λ limit. cond v (a limit) (b limit)) c low
branch true a b c low h k = h
branch false a b c low h k = k

opens : (k : List Frame) (next : State) (low : ℕ) → Beside (λ limit. step_open limit k next) (open_count k) low
opens k next low = go (leb low (open_count k)) refl
  where
    go : (v : Bool) → leb low (open_count k) ≡ v → Beside (λ limit. step_open limit k next) (open_count k) low
    go true e =
        inr (
          ap (λ v. cond v (Refuse TooDeep) (Go next)) e,
          next,
          λ high lt. ap (λ v. cond v (Refuse TooDeep) (Go next))
              (lt-leb high (open_count k) lt),
        )
    go false e =
        inl (λ high le. let lt =
        leb-false low (open_count k) e in ap (λ v. cond v (Refuse TooDeep) (Go next))
        (lt-leb high (open_count k) (omega (arith, lt, le)) ∙ sym e))

expr : (x : Within) (k : List Frame) (t : Placed) (low : ℕ)
    → Beside (λ limit. step_expr limit x k t (word_of t.token)) (open_count k) low
expr x k t low = go (word_of t.token)
  where
    go : (o : Option (List ℕ)) → Beside (λ limit. step_expr limit x k t o) (open_count k) low
    go (Some w) = inl (λ high le. refl)
    go None =
        branch (is_punct Open t.token) (λ limit. step_open limit k (BeforeExpr x (Bracket t.place ∷ k)))
        (λ limit. step_wildcard x k t (wildcard_at t.token t.place)) (open_count k) low
        (opens k (BeforeExpr x (Bracket t.place ∷ k)) low)
        (free (step_wildcard x k t (wildcard_at t.token t.place)) (open_count k) low)

body : (x : Within) (k : List Frame) (s : Site) (t : Placed) (low : ℕ)
    → Beside (λ limit. step_body limit x k s t) (open_count k) low
body x k s t low =
    branch (is_punct OpenSquare t.token) (λ limit. step_open limit k (BeforeLiteral x (Square s ∷ k) no_level))
    (λ limit. on_word t (λ w. step_atom x k s w)) (open_count k) low
    (opens k (BeforeLiteral x (Square s ∷ k) no_level) low)
    (free (on_word t (λ w. step_atom x k s w)) (open_count k) low)

-- each step
pub step-beside : (at : State) (t : Placed) (low : ℕ) → Beside (λ limit. step_in limit at t) (count at) low
step-beside (BeforeExpr x k) t low = expr x k t low
step-beside (AfterWord x k w) t low =
    branch (is_punct Open t.token) (λ limit. step_open limit k (AfterOpen x k w))
    (λ limit. step_behind x k (Symbol w) t) (open_count k) low (opens k (AfterOpen x k w) low)
    (free (step_behind x k (Symbol w) t) (open_count k) low)
step-beside (AfterOpen x k w) t low =
    branch (is_punct Close t.token) (λ limit. Go (AfterExpr x k (Apply w (trees []))))
    (λ limit. step_expr limit x (Arguments w [] ∷ k) t (word_of t.token)) (suc (open_count k)) low
    (free (Go (AfterExpr x k (Apply w (trees [])))) (suc (open_count k)) low) (expr x (Arguments w [] ∷ k) t low)
step-beside (BeforeLiteral x k v) t low =
    branch (is_word (codes "not") t.token) (λ limit. Go (BeforeBody x k (site v true)))
    (λ limit. step_body limit x k (site v false) t) (open_count k) low
    (free (Go (BeforeBody x k (site v true))) (open_count k) low) (body x k (site v false) t low)
step-beside (BeforeBody x k s) t low = body x k s t low
step-beside (BeforeOperand x k s lead) t low =
    branch (is_punct Open t.token) (λ limit. step_open limit k (BeforeExpr x (Operand s lead ∷ k)))
    (λ limit. refuse t.token) (open_count k) low (opens k (BeforeExpr x (Operand s lead ∷ k)) low)
    (free (refuse t.token) (open_count k) low)
step-beside (AfterArrow d p) t low =
    branch (is_punct OpenSquare t.token) (λ limit. step_open limit [] (AfterSquare d p))
    (λ limit. step_expr limit (InChange d p) [] t (word_of t.token)) 0 low (opens [] (AfterSquare d p) low)
    (expr (InChange d p) [] t low)
step-beside (AfterSquare d p) t low =
    branch (is_punct CloseSquare t.token) (λ limit. Go (AfterChange d (change p (Listed (trees [])))))
    (λ limit. step_expr limit (InChange d p) (Listing [] ∷ []) t (word_of t.token)) 1 low
    (free (Go (AfterChange d (change p (Listed (trees []))))) 1 low) (expr (InChange d p) (Listing [] ∷ []) t low)
step-beside at t low = inl (λ high le. refl)
