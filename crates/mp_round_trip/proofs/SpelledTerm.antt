-- A well formed term is spelled in names, and in as many brackets as it is deep.
use Rattle.std.proofs.Common.{◌≡◌, ℕ, zero, suc, ◌≤◌, true, length, Some, arith}
use Rattle.std.specs.Prelude.{slice_get}
use Rattle.std.proofs.lemmas.Bool.{and_parts}
use Rattle.mp_term.specs.Tree as term
use Rattle.mp_term.specs.Tree.{symbol, app}
use Rattle.mp_term.specs.Size.{depth, greatest_depth}
use Rattle.mp_term.specs.Signature.{Sig, allows, well_formed, all_well_formed}
use Rattle.mp_pattern.specs.SoundRule.{HasSymbols, HaveSymbols}
use Rattle.mp_parser.specs.Syntax.{Fits, AreFit, HasNames, HaveNames, HasNoDefault}
use Rattle.mp_round_trip.specs.Spelled.{term_spelling, term_spellings}
use Rattle.mp_build.proofs.Words.{IsName-is_name}
use Rattle.mp_build.proofs.SoundLaws.{Found, found-held}
use Rattle.mp_round_trip.proofs.SpelledHead.{HasOps, held_spelling-cases, HasNames-held, Fits-held}

module _ (sig : Sig) (h : HasOps sig) where
  -- the operation of a well formed application
  op-of : (f : ℕ) (ts : term.Trees) → well_formed sig (app f ts) ≡ true
      → Found sig (Some f) (allows (length (term.tree_list ts)))
  op-of f ts w = found-held sig f (allows (length (term.tree_list ts))) (and_parts _ _ w).0

  -- it has no default
  pub HasNoDefault-term_spelling : (t : term.Tree) → well_formed sig t ≡ true → HasNoDefault (term_spelling sig t)
  HasNoDefault-term_spelling (symbol n) w = tt
  HasNoDefault-term_spelling (app f ts) w = let d = op-of f ts w in
      held_spelling-cases HasNoDefault (slice_get sig.ops f) d.decl (term_spellings sig ts) d.held tt
      (λ sign e some. tt)

  mutual
    -- its words are names and its signs are signs
    pub HasNames-term_spelling : (t : term.Tree) → well_formed sig t ≡ true → HasSymbols sig t
        → HasNames (term_spelling sig t)
    HasNames-term_spelling (symbol n) w s = IsName-is_name n s.name
    HasNames-term_spelling (app f ts) w s =
        let d = op-of f ts w in
        HasNames-held sig h f d.decl d.held (term_spellings sig ts) (HaveNames-term_spellings ts (and_parts _ _ w).1 s)

    HaveNames-term_spellings : (ts : term.Trees) → all_well_formed sig ts ≡ true → HaveSymbols sig ts
        → HaveNames (term_spellings sig ts)
    HaveNames-term_spellings term.no_trees w s = tt
    HaveNames-term_spellings (term.more_trees t ts) w s =
        let p = and_parts _ _ w in
        (HasNames-term_spelling t p.0 s.0, HaveNames-term_spellings ts p.1 s.1)

  mutual
    -- no more brackets stand open in it at once than it is deep
    pub Fits-term_spelling : (t : term.Tree) (room : ℕ) → well_formed sig t ≡ true → depth t ≤ room
        → Fits room (term_spelling sig t)
    Fits-term_spelling (symbol n) zero w few = tt
    Fits-term_spelling (symbol n) (suc room) w few = tt
    Fits-term_spelling (app f ts) zero w few = absurd (omega arith)
    Fits-term_spelling (app f ts) (suc room) w few =
        let d = op-of f ts w in
        Fits-held sig h f d.decl d.held room (term_spellings sig ts)
        (AreFit-term_spellings ts room (and_parts _ _ w).1 (omega arith))

    AreFit-term_spellings : (ts : term.Trees) (room : ℕ) → all_well_formed sig ts ≡ true → greatest_depth ts ≤ room
        → AreFit room (term_spellings sig ts)
    AreFit-term_spellings term.no_trees room w few = tt
    AreFit-term_spellings (term.more_trees t ts) room w few =
        let p = and_parts _ _ w in
        (Fits-term_spelling t room p.0 (omega arith), AreFit-term_spellings ts room p.1 (omega arith))
