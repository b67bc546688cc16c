-- A formed pattern is spelled in names, and in as many brackets as it is deep, with its defaults.
use Rattle.std.proofs.Common.{◌≡◌, ◌≢◌, ℕ, zero, suc, ◌≤◌, ◌<◌, true, List, [], Option, Some, None, unwrap_or, refl}
use Rattle.std.proofs.Common.{arith}
use Rattle.std.specs.Prelude.{not, slice_get, decimal}
use Rattle.mp_io.specs.Devices.{Text}
use Rattle.mp_term.specs.Signature.{Sig, holds_of}
use Rattle.mp_pattern.specs.Depth.{wildcard_depth, pattern_depth, greatest_pattern_depth}
use Rattle.mp_pattern.specs.PatternTree as pattern
use Rattle.mp_pattern.specs.PatternTree.{Pattern, symbol_pattern, app_pattern, wild_pattern, Patterns, no_patterns}
use Rattle.mp_pattern.specs.PatternTree.{more_patterns, pattern_list}
use Rattle.mp_pattern.specs.SoundRule.{allows_patterns, IsSoundWildcard, IsVariable, IsFormed, AreFormed}
use Rattle.mp_print.specs.Printing.{kind_name_text}
use Rattle.mp_parser.specs.Syntax.{Fits, AreFit, IsName, HasParts, HasNames, HaveNames}
use Rattle.mp_parser.proofs.Trees.{wild-fits, counted-fits, optional-fits}
use Rattle.mp_round_trip.specs.Spelled.{piece, wildcard_piece, term_spelling, wildcard_spelling, pattern_spelling}
use Rattle.mp_round_trip.specs.Spelled.{pattern_spellings}
use Rattle.mp_build.proofs.Words.{IsName-is_name}
use Rattle.mp_build.proofs.SoundLaws.{Found, found-held}
use Rattle.mp_round_trip.proofs.SpelledHead.{HasOps, held-kind, HasNames-held, Fits-held}
use Rattle.mp_round_trip.proofs.SpelledDeclarations.{number-written, name-written}
use Rattle.mp_round_trip.proofs.SpelledTerm.{HasNoDefault-term_spelling, HasNames-term_spelling, Fits-term_spelling}

module _ (sig : Sig) where
  -- the operation of a formed application
  op-of : (f : ℕ) (ps : Patterns) → holds_of (allows_patterns (pattern_list ps)) (slice_get sig.ops f) ≡ true
      → Found sig (Some f) (allows_patterns (pattern_list ps))
  op-of f ps = found-held sig f (allows_patterns (pattern_list ps))

  -- the name of a variable, where it has one
  named-IsVariable : (x : Option (List ℕ)) → IsVariable sig x → unwrap_or x [] ≢ [] → IsName (unwrap_or x [])
  named-IsVariable None h some = absurd (some refl)
  named-IsVariable (Some x) h some = IsName-is_name x h

  -- a wildcard of this name and without a kind
  parts-named : (x : Option (List ℕ)) (marks : ℕ) → IsVariable sig x → 0 < marks → marks ≤ 3
      → HasParts (wildcard_piece (unwrap_or x []) marks [])
  parts-named x marks n some few = record {
    name = named-IsVariable x n;
    some_marks = some;
    few_marks = few;
    kind = λ some. absurd (some refl);
    kind_behind_one = λ some. absurd (some refl);
  }

  module _ (h : HasOps sig) where
    HasNames-wildcard_spelling : (w : pattern.Wildcard) (x : Option (List ℕ)) → IsSoundWildcard sig w → IsVariable sig x
        → HasNames (wildcard_spelling sig w (unwrap_or x []))
    HasNames-wildcard_spelling pattern.dot x r n = parts-named x 1 n (omega arith) (omega arith)
    HasNames-wildcard_spelling (pattern.kind k) x r n =
        record {
          name = named-IsVariable x n;
          some_marks = omega arith;
          few_marks = omega arith;
          kind = λ some. (held-kind sig h k r).name;
          kind_behind_one = λ some. refl;
        }
    HasNames-wildcard_spelling pattern.plus x r n = parts-named x 2 n (omega arith) (omega arith)
    HasNames-wildcard_spelling pattern.star x r n = parts-named x 3 n (omega arith) (omega arith)
    HasNames-wildcard_spelling (pattern.counted c fixed) x r n =
        (parts-named x 1 n (omega arith) (omega arith), name-written c (omega (arith, r.1)))
    HasNames-wildcard_spelling (pattern.optional t) x r n =
        (parts-named x 1 n (omega arith) (omega arith), tt, HasNames-term_spelling sig h t r.formed r.symbols)

    Fits-wildcard_spelling : (room : ℕ) (w : pattern.Wildcard) (x : Text) → IsSoundWildcard sig w
        → wildcard_depth w ≤ room → Fits room (wildcard_spelling sig w x)
    Fits-wildcard_spelling room pattern.dot x r few = wild-fits room (wildcard_piece x 1 [])
    Fits-wildcard_spelling room (pattern.kind k) x r few = wild-fits room (wildcard_piece x 1 (kind_name_text sig k))
    Fits-wildcard_spelling room pattern.plus x r few = wild-fits room (wildcard_piece x 2 [])
    Fits-wildcard_spelling room pattern.star x r few = wild-fits room (wildcard_piece x 3 [])
    Fits-wildcard_spelling room (pattern.counted n fixed) x r few =
        counted-fits room (wildcard_piece x 1 []) (piece (decimal n)) (not fixed)
        (record { one_mark = refl; no_kind = refl }) (number-written n (omega (arith, r.1))).writes.are_digits
    Fits-wildcard_spelling room (pattern.optional t) x r few =
        optional-fits room (wildcard_piece x 1 []) [] (term_spelling sig t)
        (record { one_mark = refl; no_kind = refl }, tt) (HasNoDefault-term_spelling sig h t r.formed)
        (Fits-term_spelling sig h t room r.formed few)

    mutual
      -- its words are names and its signs are signs
      pub HasNames-pattern_spelling : (p : Pattern) → IsFormed sig p → HasNames (pattern_spelling sig p)
      HasNames-pattern_spelling (symbol_pattern n) s = IsName-is_name n s.name
      HasNames-pattern_spelling (app_pattern f ps) s = let d = op-of f ps s.0 in
          HasNames-held sig h f d.decl d.held (pattern_spellings sig ps) (HaveNames-pattern_spellings ps s.1)
      HasNames-pattern_spelling (wild_pattern w x) s = HasNames-wildcard_spelling w x s.0 s.1

      HaveNames-pattern_spellings : (ps : Patterns) → AreFormed sig ps → HaveNames (pattern_spellings sig ps)
      HaveNames-pattern_spellings no_patterns s = tt
      HaveNames-pattern_spellings (more_patterns p ps) s =
          (HasNames-pattern_spelling p s.0, HaveNames-pattern_spellings ps s.1)

    mutual
      -- no more brackets stand open in it at once than it is deep, with its defaults
      pub Fits-pattern_spelling : (p : Pattern) (room : ℕ) → IsFormed sig p → pattern_depth p ≤ room
          → Fits room (pattern_spelling sig p)
      Fits-pattern_spelling (symbol_pattern n) zero s few = tt
      Fits-pattern_spelling (symbol_pattern n) (suc room) s few = tt
      Fits-pattern_spelling (app_pattern f ps) zero s few = absurd (omega arith)
      Fits-pattern_spelling (app_pattern f ps) (suc room) s few = let d = op-of f ps s.0 in
          Fits-held sig h f d.decl d.held room (pattern_spellings sig ps)
          (AreFit-pattern_spellings ps room s.1 (omega arith))
      Fits-pattern_spelling (wild_pattern w x) room s few = Fits-wildcard_spelling room w (unwrap_or x []) s.0 few

      AreFit-pattern_spellings : (ps : Patterns) (room : ℕ) → AreFormed sig ps → greatest_pattern_depth ps ≤ room
          → AreFit room (pattern_spellings sig ps)
      AreFit-pattern_spellings no_patterns room s few = tt
      AreFit-pattern_spellings (more_patterns p ps) room s few =
          (Fits-pattern_spelling p room s.0 (omega arith), AreFit-pattern_spellings ps room s.1 (omega arith))
