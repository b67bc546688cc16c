use Rattle.std.proofs.Common.{◌≡◌, ◌∙◌, ℕ, List, ap, sym}
use Rattle.std.specs.Prelude.{bytes_eq}
use Rattle.std.specs.Ordering.{is_eq}
use Rattle.std.proofs.lemmas.Map.Text.{is_eq-slice_cmp}
use Rattle.mp_term.specs.Order.{tree_cmp}
use Rattle.mp_term.specs.Tree.{Tree, symbol, app}
use Rattle.mp_table.specs.Table.{term_at}
use Rattle.mp_walk.specs.Ways.{is_first_symbol}
use Rattle.mp_walk.proofs.frame.Frame.first_name.Goals as goal

pub returns-in-Sym : goal.returns-in-Sym
returns-in-Sym c = λ name.
    ap (is_first_symbol name) c.in_ok-first.ensures.term
    ∙ of-symbol (term_at c.args.table.now c.in_ok-first.first) c.in-Sym.name.now name c.in-Sym.ensures
    ∙ ap (λ own. bytes_eq own name) (sym c.bytes.ensures.bytes)
  where
    of-symbol : (t : Tree) (own name : List ℕ)
        → (elim t as (λ x. Type 0) [ symbol n ↦ own ≡ n | app f ts ↦ ⊥ ])
        → is_eq (tree_cmp t (symbol name)) ≡ bytes_eq own name
    of-symbol (symbol n) own name e =
        ap (λ m. is_eq (tree_cmp (symbol m) (symbol name))) (sym e) ∙ is_eq-slice_cmp own name
    of-symbol (app f ts) own name e = absurd e
