-- The matches that a cursor has still to come, the next of them first.
use Rattle.std.proofs.Common.{◌≡◌, ◌∙◌, Bool, true, List, [], ◌∷◌, drop, refl, ap, sym, subst, true≢false}
use Rattle.std.specs.Prelude.{Option, Some, None, IsSome, slice_get, Ok, Err, ⊤}
use Rattle.mp_io.specs.Devices.{Text}
use Rattle.mp_io.specs.declared.devices.Sink.{Ghosts as SinkWords}
use Rattle.mp_io.specs.declared.writer.Writer.{Writer}
use Rattle.mp_term.specs.Signature.{Sig}
use Rattle.mp_pattern.specs.Admission.{Rule}
use Rattle.mp_pattern.specs.Constants.{rule_constants}
use Rattle.mp_table.specs.Table.{IsTableOf}
use Rattle.mp_theory.specs.OneList.{Item}
use Rattle.mp_text.specs.File.{Subject}
use Rattle.mp_cursor.specs.Listing.{Listing, advanced}
use Rattle.mp_matches.specs.Computed.{match_of, matches_of}
use Rattle.mp_matches.specs.Left.{Left, printed}
use Rattle.mp_matches.specs.Match.{GoesOver, Match}
use Rattle.mp_matches.specs.Put.{PutsMatches, PutsOne}
use Rattle.mp_matches.specs.declared.stop.Stop.{Stop}
use Rattle.mp_matches.proofs.PutLaws.{IsPutSoFar, put_so_far-one, put_so_far-stopped}

-- where there is a next item, it is the first of the list
next-first : {X : Type 0} (xs : List X) (next : Option X) → next ≡ slice_get xs 0 → IsSome next
    → (x : X) × (next ≡ Some x) × (xs ≡ x ∷ drop 1 xs)
next-first [] None e some = absurd (true≢false (sym some))
next-first [] (Some x) e some = cc
next-first (x ∷ xs) next e some = (x, e, refl)

module _ (s : Subject) (r : Rule) (old new : Listing) (moved : new ≡ advanced old) where
  -- it goes on over the same
  pub over-next : GoesOver s r old → GoesOver s r new
  over-next h = record {
    rule = ap (λ (l : Listing). l.rule) moved ∙ h.rule;
    table = subst (IsTableOf s.term (rule_constants r)) (sym (ap (λ (l : Listing). l.table) moved)) h.table;
  }

  -- the match at which it stands, and those to come
  coming-split : IsSome new.item
      → (i : Item) × (new.item ≡ Some i) × (matches_of s r old.to_come ≡ match_of s r i ∷ matches_of s r new.to_come)
  coming-split some =
      let first = next-first old.to_come new.item (ap (λ (l : Listing). l.item) moved) some in (
        first.0,
        first.1,
        ap (matches_of s r) (first.2 ∙ ap (λ js. first.0 ∷ js) (sym (ap (λ (l : Listing). l.to_come) moved))),
      )

  module _ {K : Type 0} (words : SinkWords K) (sig : Sig) (some : IsSome new.item) (own : new.sig ≡ sig)
      (whole : Text × Option Left) (u v w : Writer K) (any : Bool) (before left : Left)
      (so : IsPutSoFar words whole (printed sig before (matches_of s r old.to_come)) u v any)
    where
      next-so : IsPutSoFar words whole
          (printed sig before (match_of s r (coming-split some).0 ∷ matches_of s r new.to_come)) u v any
      next-so = subst (λ ms. IsPutSoFar words whole (printed sig before ms) u v any) (coming-split some).2 so

      -- its match is put
      pub coming-one : (t : ⊤)
          → ((i : Item) (ms : List Match) → new.item ≡ Some i
          → PutsOne words (printed new.sig before (match_of s r i ∷ ms)) (printed new.sig left ms) v w left (Ok t))
          → IsPutSoFar words whole (printed sig left (matches_of s r new.to_come)) u w true
      coming-one t h =
          let i = (coming-split some).0 in
          let ms = matches_of s r new.to_come in
          put_so_far-one words whole (printed sig before (match_of s r i ∷ ms)) u v w any left next-so
          (printed sig left ms) t
          (subst (λ g. PutsOne words (printed g before (match_of s r i ∷ ms)) (printed g left ms) v w left (Ok t)) own
          (h i ms (coming-split some).1))

      -- it ends in its match
      pub coming-stopped : (e : Stop)
          → ((i : Item) (ms : List Match) → new.item ≡ Some i
          → PutsOne words (printed new.sig before (match_of s r i ∷ ms)) (printed new.sig left ms) v w left (Err e))
          → PutsMatches words whole u w left (Err e)
      coming-stopped e h =
          let i = (coming-split some).0 in
          let ms = matches_of s r new.to_come in
          put_so_far-stopped words whole (printed sig before (match_of s r i ∷ ms)) u v w any left next-so e
          (subst (λ g. PutsMatches words (printed g before (match_of s r i ∷ ms)) v w left (Err e)) own
          (h i ms (coming-split some).1))
