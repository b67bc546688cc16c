-- Tokens that lead from one state to another, as tokens are added and taken away.
use Rattle.std.proofs.Common.{◌≡◌, ℕ, List, [], ◌∷◌, ◌++◌, refl, ap, sym, ◌∙◌, inl, inr, subst}
use Rattle.std.specs.Prelude.{Some}
use Rattle.mp_term.specs.Listing.{In}
use Rattle.mp_term.specs.Signature.{Sig}
use Rattle.mp_pattern.specs.Value.{Subst, value_of}
use Rattle.mp_walk.specs.Chained.{IsChained, IsOwed}
use Rattle.mp_walk.specs.Course.{Read, Alike, IsStepTaken, steps_left, read_entries}
use Rattle.mp_walk.specs.Instrs.{Instr, instr_at}
use Rattle.mp_walk.specs.TokenMachine.{State, token_steps}
use Rattle.mp_walk.specs.Walkable.{Path}
use Rattle.mp_walk.specs.Ways.{Step}

-- a state is like itself
pub alike-same : (r s : State) → r ≡ s → Alike r s
alike-same r s e = record { open_ones = ap (λ z. z.open_ones) e; trail = λ x. ap (λ z. value_of z.trail x) e }

module _ (sig : Sig) (code : List Instr) (before : ℕ → Path) where
  abbrev Chain : (Path → Type 0) → Path → State → List Read → State → Type 0
  Chain = IsChained sig code before

  -- the path stands before a token
  abbrev pub StandsAfter : ℕ → Path → Type 0
  StandsAfter n path = before n ≡ path

  -- where the tokens lead to, a state like it
  pub chain-end : (Then Other : Path → Type 0) (path : Path) (s : State) (ls : List Read) (e f : State)
      → Chain Then path s ls e → Alike e f → ((p : Path) → Then p → Other p) → Chain Other path s ls f
  chain-end Then Other path s [] e f c a h = (
    record { open_ones = c.0.open_ones ∙ a.open_ones; trail = λ x. c.0.trail x ∙ a.trail x },
    h path c.1,
  )
  chain-end Then Other path s (l ∷ ls) e f c a h =
      (c.0, c.1, (c.2.0, c.2.1, c.2.2, chain-end Then Other (path ++ c.2.0.token ∷ []) c.2.1.1 ls e f c.2.3 a h))

  -- one token more, which has taken a step
  pub chain-more : (Then : Path → Type 0) (path : Path) (s : State) (ls : List Read) (l : Read) (i : Instr) (r : Step)
      (e : State) → Chain (StandsAfter l.instr) path s ls l.state → IsOwed sig code l → instr_at code l.instr ≡ Some i
      → In r (token_steps sig l.state i.token) → r.0 ≡ read_entries code l → Alike r.1 e
      → Then (before l.instr ++ i.token ∷ []) → Chain Then path s (ls ++ l ∷ []) e
  chain-more Then path s [] l i r e c owed is step entries a h = (
    c.0,
    owed,
    (
      i,
      r,
      record { is = is; behind = c.1; step = step; entries = entries },
      (a, subst (λ p. Then (p ++ i.token ∷ [])) c.1 h),
    ),
  )
  chain-more Then path s (k ∷ ls) l i r e c owed is step entries a h = (
    c.0,
    c.1,
    (c.2.0, c.2.1, c.2.2, chain-more Then (path ++ c.2.0.token ∷ []) c.2.1.1 ls l i r e c.2.3 owed is step entries a h),
  )

  -- the last token taken away
  pub chain-last : (Then : Path → Type 0) (path : Path) (s : State) (ls : List Read) (l : Read) (e : State)
      → Chain Then path s (ls ++ l ∷ []) e
      → Chain (StandsAfter l.instr) path s ls l.state × IsOwed sig code l
  chain-last Then path s [] l e c = ((c.0, c.2.2.behind), c.1)
  chain-last Then path s (k ∷ ls) l e c =
      let h = chain-last Then (path ++ c.2.0.token ∷ []) c.2.1.1 ls l e c.2.3 in
      ((c.0, c.1, (c.2.0, c.2.1, c.2.2, h.0)), h.1)

  -- a step that is taken is one of the token, and what is left then too
  pub owed-taken : (i : Instr) (old new : Read) (u : Subst) → IsOwed sig code old → instr_at code old.instr ≡ Some i
      → new.instr ≡ old.instr → new.state ≡ old.state → (h : IsStepTaken sig i.token old new u)
      → In h.step (token_steps sig old.state i.token) × IsOwed sig code new
  owed-taken i old new u owed is same state h = (
    owed i is h.step (subst (In h.step) (sym h.left) (inl refl)),
    λ j at r m.
        let one : Some i ≡ Some j = sym is ∙ (ap (instr_at code) (sym same) ∙ at) in
        let k : i ≡ j = cc in
        let left : In r (steps_left sig i.token new) = subst (λ (x : Instr). In r (steps_left sig x.token new))
        (sym k) m in
        subst (λ (x : Instr). In r (token_steps sig new.state x.token)) k
        (subst (λ z. In r (token_steps sig z i.token)) (sym state)
        (owed i is r (subst (In r) (sym h.left) (inr left)))),
  )

  -- where no step is left, all that are left are steps of the token
  pub owed-none : (i : Instr) (l : Read) → instr_at code l.instr ≡ Some i → steps_left sig i.token l ≡ []
      → IsOwed sig code l
  owed-none i l is none j at r m =
      let one : Some j ≡ Some i = sym at ∙ is in
      let k : j ≡ i = cc in
      absurd (subst (In r) none (subst (λ (x : Instr). In r (steps_left sig x.token l)) k m))
