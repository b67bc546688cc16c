-- A condition that is read of a text begins with a part: no conjunction and no disjunction at its begin is empty.
use Rattle.std.proofs.Common.{ℕ, zero, suc, true, false, None, sym, subst}
use Rattle.mp_io.specs.Devices.{Text}
use Rattle.mp_term.specs.Signature.{Sig}
use Rattle.mp_pattern.specs.CondTree.{Cond, no_conds, more_conds, all_of, any_of}
use Rattle.mp_parser.specs.declared.condition_tree.Property.TheVariants.{Kind, Head}
use Rattle.mp_parser.specs.declared.condition_tree.Relation.TheVariants.{Same, Less, Free}
use Rattle.mp_parser.specs.Syntax.{Atom, Compare, Relate, Test, Literal, AtomOf, Bracketed, Literals, no_literals}
use Rattle.mp_parser.specs.Syntax.{more_literals, Condition, no_alternatives, more_alternatives, HasLiteral}
use Rattle.mp_parser.specs.Syntax.{HasAlternative, FitsLiteral, LiteralsFit, AlternativesFit}
use Rattle.mp_build.specs.AloneCondition.{IsCondOf}
use Rattle.mp_build.specs.Conditions.{joined, atom_of, literal_of, literals_of, alternatives_of}
use Rattle.mp_print.specs.PrintedCond.{cond_text}
use Rattle.mp_program.specs.RightForm.{IsRightCond}
use Rattle.mp_line.proofs.OpeningLaws.{IsFilled, Opens}

-- such a condition is no empty conjunction
filled-of : (c : Cond) → Opens c → IsFilled c
filled-of (all_of no_conds) h = h
filled-of (all_of (more_conds c cs)) h = tt
filled-of c h = tt

module _ (sig : Sig) where
  atom-opens : (a : Atom) → Opens (atom_of sig a)
  atom-opens (Compare m s n) = tt
  atom-opens (Relate Same t u) = tt
  atom-opens (Relate Less t u) = tt
  atom-opens (Relate Free t u) = tt
  atom-opens (Test Kind t n) = tt
  atom-opens (Test Head t n) = tt

  mutual
    literal-opens : (room : ℕ) (l : Literal) → FitsLiteral room l → Opens (literal_of sig l)
    literal-opens room (AtomOf true a) h = tt
    literal-opens room (AtomOf false a) h = atom-opens a
    literal-opens room (Bracketed true c) h = tt
    literal-opens zero (Bracketed false c) h = absurd h
    literal-opens (suc room) (Bracketed false c) h = condition-opens room c h.0 h.1

    alternative-opens : (room : ℕ) (ls : Literals) → HasLiteral ls → LiteralsFit room ls
        → Opens (joined all_of (literals_of sig ls))
    alternative-opens room no_literals some h = absurd some
    alternative-opens room (more_literals l no_literals) some h = literal-opens room l h.0
    alternative-opens room (more_literals l (more_literals m ls)) some h = tt

    condition-opens : (room : ℕ) (c : Condition) → HasAlternative c → AlternativesFit room c
        → Opens (joined any_of (alternatives_of sig c))
    condition-opens room no_alternatives some h = absurd some
    condition-opens room (more_alternatives a no_alternatives) some h = alternative-opens room a h.0 h.1
    condition-opens room (more_alternatives a (more_alternatives b c)) some h =
        filled-of (joined all_of (literals_of sig a)) (alternative-opens room a h.0 h.1)

  -- so of a condition that is read
  pub cond-opens : (text : Text) (c : Cond) → IsCondOf sig None text c → Opens c
  cond-opens text c h =
      let syntax = h.syntax.0 in
      subst Opens (sym h.is)
      (condition-opens _ h.syntax_tree.condition syntax.fits.0 syntax.fits.1)

  -- and of one that is read of its printed text
  pub right-opens : (c : Cond) → IsRightCond sig c → Opens c
  right-opens c h = cond-opens (cond_text sig c) c h
