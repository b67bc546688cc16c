-- A formed template is spelled in names, and in as many brackets as it is deep.
use Rattle.std.proofs.Common.{◌≡◌, ℕ, zero, suc, ◌≤◌, true, arith, List, Some}
use Rattle.std.specs.Prelude.{slice_get}
use Rattle.mp_term.specs.Names.{is_name}
use Rattle.mp_term.specs.Signature.{Sig, holds_of}
use Rattle.mp_pattern.specs.Depth.{template_depth, greatest_template_depth}
use Rattle.mp_pattern.specs.Extent.{allows_extent, extent_named, templates_extent}
use Rattle.mp_pattern.specs.PatternTree.{Pattern}
use Rattle.mp_pattern.specs.SoundRule.{IsVariableOf, IsFormedTemplate, AreFormedTemplates}
use Rattle.mp_pattern.specs.TemplateTree.{Template, symbol_template, app_template, variable_template, Templates}
use Rattle.mp_pattern.specs.TemplateTree.{no_templates, more_templates}
use Rattle.mp_parser.specs.Syntax.{Fits, AreFit, HasNames, HaveNames}
use Rattle.mp_round_trip.specs.Spelled.{template_spelling, template_spellings}
use Rattle.mp_build.proofs.Words.{IsName-is_name}
use Rattle.mp_build.proofs.SoundLaws.{Found, found-held}
use Rattle.mp_round_trip.proofs.SpelledHead.{HasOps, HasNames-held, Fits-held}

module _ (sig : Sig) (h : HasOps sig) (p : Pattern)
    (named : (x : List ℕ) → IsVariableOf sig p x → is_name x ≡ true) where
  -- the operation of a formed application
  op-of : (f : ℕ) (xs : Templates)
      → holds_of (allows_extent (templates_extent (extent_named p) xs)) (slice_get sig.ops f) ≡ true
      → Found sig (Some f) (allows_extent (templates_extent (extent_named p) xs))
  op-of f xs = found-held sig f (allows_extent (templates_extent (extent_named p) xs))

  mutual
    -- its words are names and its signs are signs
    pub HasNames-template_spelling : (x : Template) → IsFormedTemplate sig p x → HasNames (template_spelling sig x)
    HasNames-template_spelling (symbol_template n) s = IsName-is_name n s.name
    HasNames-template_spelling (app_template f xs) s = let d = op-of f xs s.0 in
        HasNames-held sig h f d.decl d.held (template_spellings sig xs) (HaveNames-template_spellings xs s.1)
    HasNames-template_spelling (variable_template x) s = IsName-is_name x (named x s)

    HaveNames-template_spellings : (xs : Templates) → AreFormedTemplates sig p xs
        → HaveNames (template_spellings sig xs)
    HaveNames-template_spellings no_templates s = tt
    HaveNames-template_spellings (more_templates x xs) s =
        (HasNames-template_spelling x s.0, HaveNames-template_spellings xs s.1)

  mutual
    -- no more brackets stand open in it at once than it is deep
    pub Fits-template_spelling : (x : Template) (room : ℕ) → IsFormedTemplate sig p x → template_depth x ≤ room
        → Fits room (template_spelling sig x)
    Fits-template_spelling (symbol_template n) zero s few = tt
    Fits-template_spelling (symbol_template n) (suc room) s few = tt
    Fits-template_spelling (app_template f xs) zero s few = absurd (omega arith)
    Fits-template_spelling (app_template f xs) (suc room) s few = let d = op-of f xs s.0 in
        Fits-held sig h f d.decl d.held room (template_spellings sig xs)
        (AreFit-template_spellings xs room s.1 (omega arith))
    Fits-template_spelling (variable_template x) zero s few = tt
    Fits-template_spelling (variable_template x) (suc room) s few = tt

    AreFit-template_spellings : (xs : Templates) (room : ℕ) → AreFormedTemplates sig p xs
        → greatest_template_depth xs ≤ room → AreFit room (template_spellings sig xs)
    AreFit-template_spellings no_templates room s few = tt
    AreFit-template_spellings (more_templates x xs) room s few =
        (Fits-template_spelling x room s.0 (omega arith), AreFit-template_spellings xs room s.1 (omega arith))
