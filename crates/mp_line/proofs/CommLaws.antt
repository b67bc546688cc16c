-- The pattern of a token is read of its text, and its variables and wildcards are right one by one.
use Rattle.std.proofs.Common.{ℕ, Option, Some, None, sym, subst}
use Rattle.std.specs.List.{AllByRecursion}
use Rattle.mp_io.specs.Devices.{Text}
use Rattle.mp_term.specs.Signature.{Sig}
use Rattle.mp_term.proofs.ListLaws.{all-append, all-split}
use Rattle.mp_pattern.specs.declared.pattern.Pattern as code
use Rattle.mp_pattern.specs.EachWildcard.{EachWildcard, AllEachWildcard}
use Rattle.mp_pattern.specs.PatternTree.{Pattern, symbol_pattern, app_pattern, wild_pattern, Patterns, no_patterns}
use Rattle.mp_pattern.specs.PatternTree.{more_patterns}
use Rattle.mp_pattern.specs.Variables.{Use, uses, all_uses}
use Rattle.mp_build.specs.Alone.{IsPatternOf}
use Rattle.mp_program.specs.declared.format.Format.{Format}
use Rattle.mp_program.specs.RightForm.{IsNumberedName, IsWildcardOf}
use Rattle.mp_line.specs.Finds.{IsOnly}
use Rattle.mp_line.specs.LineTexts.{IsExactPattern, HasRightWildcards, HaveRightWildcards, IsCommTree, IsCommText}

module _ (format : Format) where
  -- a use of a variable that is called by a number
  abbrev IsNumberedUse : Use → Type 0
  IsNumberedUse u = IsNumberedName u.name

  mutual
    names-of : (f : Option ℕ) (p : Pattern) → HasRightWildcards format p → AllByRecursion IsNumberedUse (uses f p)
    names-of f (symbol_pattern n) h = tt
    names-of f (app_pattern g ps) h = all_names-of (Some g) ps h
    names-of f (wild_pattern w None) h = tt
    names-of f (wild_pattern w (Some x)) h = (h.1, tt)

    all_names-of : (f : Option ℕ) (ps : Patterns) → HaveRightWildcards format ps
        → AllByRecursion IsNumberedUse (all_uses f ps)
    all_names-of f no_patterns h = tt
    all_names-of f (more_patterns p ps) h =
        all-append IsNumberedUse (uses f p) (all_uses f ps) (names-of f p h.0) (all_names-of f ps h.1)

  mutual
    wildcards-of : (p : Pattern) → HasRightWildcards format p → EachWildcard (IsWildcardOf format) p
    wildcards-of (symbol_pattern n) h = tt
    wildcards-of (app_pattern g ps) h = all_wildcards-of ps h
    wildcards-of (wild_pattern w x) h = h.0

    all_wildcards-of : (ps : Patterns) → HaveRightWildcards format ps → AllEachWildcard (IsWildcardOf format) ps
    all_wildcards-of no_patterns h = tt
    all_wildcards-of (more_patterns p ps) h = (wildcards-of p h.0, all_wildcards-of ps h.1)

  mutual
    right-of : (f : Option ℕ) (p : Pattern) → AllByRecursion IsNumberedUse (uses f p)
        → EachWildcard (IsWildcardOf format) p → HasRightWildcards format p
    right-of f (symbol_pattern n) h g = tt
    right-of f (app_pattern o ps) h g = all_right-of (Some o) ps h g
    right-of f (wild_pattern w None) h g = (g, tt)
    right-of f (wild_pattern w (Some x)) h g = (g, h.0)

    all_right-of : (f : Option ℕ) (ps : Patterns) → AllByRecursion IsNumberedUse (all_uses f ps)
        → AllEachWildcard (IsWildcardOf format) ps → HaveRightWildcards format ps
    all_right-of f no_patterns h g = tt
    all_right-of f (more_patterns p ps) h g =
        let parts = all-split IsNumberedUse (uses f p) (all_uses f ps) h in
        (right-of f p parts.0 g.0, all_right-of f ps parts.1 g.1)

  module _ (sig : Sig) (text : Text) where
    -- a text of which no pattern is read is none of a token
    pub no-pattern : ((p : Pattern) → IsExactPattern sig text p → ⊥) → (p : Pattern) → IsCommText sig format text p → ⊥
    no-pattern none p h = none p (record {
      read = subst (λ t. IsPatternOf sig t p) h.spelled h.right.read;
      spelled = h.spelled;
    })

    -- the pattern that is read of the text is that of a token
    pub comm-found : (p : Pattern) → IsOnly (IsExactPattern sig text) p → IsCommTree sig format p
        → IsOnly (IsCommText sig format text) p
    comm-found p h t = record {
      is = record {
        right = record {
          read = subst (λ x. IsPatternOf sig x p) (sym h.is.spelled) h.is.read;
          rooted = t.rooted;
          flat = t.flat;
          names = names-of None p t.wildcards;
          wildcards = wildcards-of p t.wildcards;
        };
        spelled = h.is.spelled;
      };
      only = λ q g. h.only q (record {
        read = subst (λ x. IsPatternOf sig x q) g.spelled g.right.read;
        spelled = g.spelled;
      });
    }

    -- or else none is
    pub comm-none : (p : Pattern) → IsOnly (IsExactPattern sig text) p → (IsCommTree sig format p → ⊥) → (q : Pattern)
        → IsCommText sig format text q → ⊥
    comm-none p h none q g =
        let same = h.only q (record {
          read = subst (λ x. IsPatternOf sig x q) g.spelled g.right.read;
          spelled = g.spelled;
        }) in
        none (subst (IsCommTree sig format) same (record {
          rooted = g.right.rooted;
          flat = g.right.flat;
          wildcards = right-of None q g.right.names g.right.wildcards;
        }))
