-- A name that no operation has is a symbol's text.
use Rattle.std.proofs.Common.{◌≡◌, ◌++◌, false, Option, Some, None, refl, sym, ap, subst, ◌∙◌}
use Rattle.std.specs.Prelude.{codes, is_some, option_map, position, Result, Ok, Err, IfOk, IfSome}
use Rattle.std.proofs.lemmas.List.{append_cancel_left}
use Rattle.mp_io.specs.Devices.{Text}
use Rattle.mp_term.specs.declared.term.OpId.{OpId}
use Rattle.mp_term.specs.Tree as term
use Rattle.mp_term.specs.Signature.{Sig, has_name}
use Rattle.mp_pattern.specs.NetTokens.{NetToken, sym_token, wild_token}
use Rattle.mp_pattern.specs.PatternTree.{dot}
use Rattle.mp_parser.specs.Tokens.{first_place}
use Rattle.mp_parser.specs.Syntax.{Spot, Tree, Symbol, IsExprOf}
use Rattle.mp_syntax.specs.Printed.{unplaced_tree, unplaced_spot}
use Rattle.mp_syntax.proofs.Printed.{printed_expr-again}
use Rattle.mp_build.specs.Alone.{IsTermOf}
use Rattle.mp_build.specs.Build.{op_number}
use Rattle.mp_build.specs.declared.fault.TextKind.TheVariants.{BareOperation}
use Rattle.mp_build.proofs.Faultless.{none-fault_if}
use Rattle.mp_build.proofs.Words.{IsName-is_name}
use Rattle.mp_program.specs.declared.format.Format.{Format}
use Rattle.mp_line.specs.Finds.{IsOnly, Finds}
use Rattle.mp_line.specs.LineTexts.{IsNameText, IsFreeName, IsTokenText}
use Rattle.mp_line.proofs.WordLaws.{apart}

-- an expression that is a word but for its place is one
record IsWordOf (t : Tree) (name : Text) : Type 0 where
  word : Spot
  is : t ≡ Symbol word
  text : word.text ≡ name

word-of : (t : Tree) (s : Spot) → unplaced_tree t ≡ Symbol (unplaced_spot s) → IsWordOf t s.text
word-of (Symbol w) s e =
    let same : unplaced_spot w ≡ unplaced_spot s = cc in
    record { word = w; is = refl; text = ap (λ (x : Spot). x.text) same }
word-of t s e = cc

module _ (sig : Sig) (text name : Text) (h : IsFreeName sig text name) where
  -- the name is read as its symbol
  free-term : IsTermOf sig name (term.symbol name)
  free-term =
      let spot : Spot = record { text = name; place = first_place } in
      let again = printed_expr-again (Symbol spot) (IsName-is_name name h.right) tt in
      let w = word-of again.0 spot again.2 in
      record {
        syntax_tree = Symbol w.word;
        syntax = subst (IsExprOf name) w.is again.1;
        faultless = none-fault_if (is_some (op_number sig w.word.text)) BareOperation w.word.place
            (ap (λ x. is_some (op_number sig x)) w.text ∙ ap is_some h.free);
        is = ap term.symbol (sym w.text);
      }

-- its text is that of the symbol's token
pub free-token : (sig : Sig) (format : Format) (text name : Text) → IsFreeName sig text name
    → IsOnly (IsTokenText sig format (codes "sym " ++ text)) (sym_token name)
free-token sig format text name h = record {
  is = record { right = free-term sig text name h; spelled = ap (λ x. codes "sym " ++ x) h.text };
  only = only;
}
  where
    only : (k : NetToken) → IsTokenText sig format (codes "sym " ++ text) k → k ≡ sym_token name
    only (wild_token dot x) g = absurd (apart 4 _ _ refl g.spelled)
    only (sym_token n) g = ap sym_token (append_cancel_left (codes "sym ") n text g.spelled ∙ sym h.text)
    only k g = absurd (apart 4 _ _ refl g.spelled)

-- what is found as a name, where no operation is found by the text, is such
pub name-free : (sig : Sig) (text : Text) (found : Option OpId) {E : Type 0} (r : Result (Option Text) E)
    → is_some found ≡ false → option_map (λ (id : OpId). id.0) found ≡ position (has_name text) sig.ops
    → IfOk r (λ o. Finds (λ n. n) (IsNameText text) o) → IfOk r (λ o. IfSome o (λ n. IsFreeName sig text n))
name-free sig text (Some id) r none at h = cc
name-free sig text None (Err e) none at h = h
name-free sig text None (Ok None) none at h = tt
name-free sig text None (Ok (Some n)) none at h = record {
  right = h.is.right;
  free = ap (λ x. position (has_name x) sig.ops) h.is.text ∙ sym at;
  text = h.is.text;
}
