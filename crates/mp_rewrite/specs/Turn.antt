-- What rewriting in place carries along, and what one step of it comes to.
use Rattle.std.specs.Prelude.{◌≡◌, List, [], ◌∷◌, Option, Some, None, Result, Ok, Err}
use Rattle.mp_term.specs.Tree.{Tree}
use Rattle.mp_term.specs.Excess.{excess}
use Rattle.mp_term.specs.Normal.{normal}
use Rattle.mp_term.specs.View.{tree}
use Rattle.mp_term.specs.Size.{node_count}
use Rattle.mp_term.specs.Signature.{Sig}
use Rattle.mp_pattern.specs.Admission.{Rule}
use Rattle.mp_pattern.specs.Step.{Stepped, stepped, exceeded}
use Rattle.mp_rewrite.specs.Rewritable.{IsRewritable}
use Rattle.mp_rewrite.specs.MarkView.{mark_of}
use Rattle.mp_rewrite.specs.Known.{IsKnown}
use Rattle.mp_rewrite.specs.declared.in_place.Marked.{Marked}
use Rattle.mp_rewrite.specs.declared.stop.Stop.{Stop}
use Rattle.mp_rewrite.specs.declared.stop.Stop.TheVariants.{Exceeded, Memory}
use Rattle.mp_rewrite.specs.declared.turn.Turn.{Turn}
use Rattle.mp_rewrite.specs.declared.turn.Turn.TheVariants.{Made, Ended}

-- the term can be rewritten, what is known of it is right, and its nodes are counted
pub record IsHere (sig : Sig) (rules : List Rule) (m : Marked) : Type 0 where
  pub rewritable : IsRewritable sig (tree m.term)
  pub known : IsKnown sig rules (mark_of m.known) (tree m.term)
  pub nodes : m.nodes ≡ node_count (tree m.term)

-- the answer tells how large or how deep a term the step would make; memory may run out
abbrev pub IsStopped : Option Stepped → Stop → Type 0
IsStopped o (Exceeded e) = o ≡ Some (exceeded e)
IsStopped o Memory = Unit {0}

-- the answer tells what the step that is made at a redex comes to
abbrev pub IsMade : Option Stepped → Result Marked Stop → Type 0
IsMade o (Ok m) = o ≡ Some (stepped (tree m.term))
IsMade o (Err stop) = IsStopped o stop

-- the same of the next step of the term t, where there may be none
abbrev pub IsTurn : Option Stepped → Marked → Result Turn Stop → Type 0
IsTurn o before (Ok (Ended t)) = (o ≡ None) × (tree t ≡ tree before.term)
IsTurn o before (Ok (Made m)) = o ≡ Some (stepped (tree m.term))
IsTurn o before (Err stop) = IsStopped o stop

-- the term with a new one put in before it is normalised is too large or too deep, or the answer is its normal form;
-- memory may run out
abbrev pub IsPutIn : Sig → Tree → Result Marked Stop → Type 0
IsPutIn sig t (Ok m) = (excess (t ∷ []) ≡ None) × (tree m.term ≡ normal sig t)
IsPutIn sig t (Err (Exceeded e)) = excess (t ∷ []) ≡ Some e
IsPutIn sig t (Err Memory) = Unit {0}

-- the step leads to such a term
abbrev pub IsNextTurn : Sig → List Rule → Turn → Type 0
IsNextTurn sig rules (Made m) = IsHere sig rules m
IsNextTurn sig rules (Ended t) = Unit {0}
