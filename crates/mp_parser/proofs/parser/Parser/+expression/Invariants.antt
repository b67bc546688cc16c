use Rattle.std.proofs.Common.{◌≡◌, ◌≤◌, ◌+◌, ◌*◌, List, [], ◌∷◌, ◌++◌, length, map}
use Rattle.mp_parser.specs.declared.place.Place.{Place}
use Rattle.mp_parser.specs.declared.tree.Expr.{Expr}
use Rattle.mp_parser.specs.Syntax.{Tree, Statement}
use Rattle.mp_parser.specs.Lexing.{token_of}
use Rattle.mp_parser.specs.Machine.{Within, Frame, Operands, BeforeExpr, AfterExpr, run, State, wildcard_at}
use Rattle.mp_parser.specs.View.{spot_of_sign, expr_tree}
use Rattle.mp_parser.specs.Parsing.{ahead, HasRoom, IsRow}
use Rattle.mp_parser.proofs.Runs.{levels}
use Rattle.mp_parser.proofs.parser.Parser.+expression.Given as goal

abbrev pub decreases-row : goal.decreases-row
decreases-row l = 7 * l.room + 7

abbrev pub decreases-push_expr : goal.decreases-push_expr
decreases-push_expr l = 7 * l.room + 6

abbrev pub decreases-behind_wildcard : goal.decreases-behind_wildcard
decreases-behind_wildcard l = 7 * l.room + 4

abbrev pub decreases-behind_chain : goal.decreases-behind_chain
decreases-behind_chain l = 7 * l.room + 3

abbrev pub decreases-behind_word : goal.decreases-behind_word
decreases-behind_word l = 7 * l.room + 1

abbrev pub decreases-expression : goal.decreases-expression
decreases-expression l = 7 * l.room + levels (wildcard_at (token_of l.self.now.token.kind) l.self.now.token.place)

abbrev pub decreases-infix : goal.decreases-infix
decreases-infix l = 7 * l.room + 1

abbrev pub decreases-operands : goal.decreases-operands
decreases-operands l = 7 * l.room + 7

-- the expressions so far are those that the open bracket holds, and the last that is read, behind what was pending
abbrev pub invariant-row-loop-self : goal.invariant-row-loop-self
invariant-row-loop-self l = record {
  before : List Expr;
  last : Expr;
  items : l.arena.pending.items ≡ l.fn.arena.pending.items ++ (before ++ last ∷ []);
  read : (done : List Statement) (x : Within) (k : List Frame) (frame : List Tree → Frame) (to : List Tree → State)
      → IsRow l.closes x k frame to → ((es : List Tree) → HasRoom (frame es ∷ k) l.room)
      → run done (BeforeExpr x (frame [] ∷ k)) (ahead l.fn.self)
      ≡ run done (AfterExpr x (frame (map expr_tree before) ∷ k) (expr_tree last)) (ahead l.self);
  shorter : length (ahead l.self) ≤ length (ahead l.fn.self);
}

abbrev pub decreases-row-loop-self : goal.decreases-row-loop-self
decreases-row-loop-self l = length (ahead l.self)

-- the operands so far are the first, and the others that the open bracket holds, behind what was pending
abbrev pub invariant-operands-loop-self : goal.invariant-operands-loop-self
invariant-operands-loop-self l = record {
  others : List Expr;
  items : l.arena.pending.items ≡ l.fn.arena.pending.items ++ (l.fn.first ∷ others);
  read : (done : List Statement) (x : Within) (k : List Frame) (place : Place)
      → HasRoom (Operands place (spot_of_sign l.sign) (expr_tree l.fn.first) [] ∷ k) l.room
      → run done (BeforeExpr x (Operands place (spot_of_sign l.sign) (expr_tree l.fn.first) [] ∷ k)) (ahead l.fn.self)
      ≡ run done (BeforeExpr x (Operands place (spot_of_sign l.sign) (expr_tree l.fn.first) (map expr_tree others) ∷ k))
      (ahead l.self);
  shorter : length (ahead l.self) ≤ length (ahead l.fn.self);
}

abbrev pub decreases-operands-loop-self : goal.decreases-operands-loop-self
decreases-operands-loop-self l = length (ahead l.self)
