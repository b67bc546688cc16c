-- A tree is known by its head and its arguments, and is compared by them.
use Rattle.std.proofs.Common.{◌≡◌, ◌∙◌, List, ap, sym}
use Rattle.mp_term.specs.Order.{tree_cmp, shortlex}
use Rattle.mp_term.specs.OrderLaws.{app_cmp-same_head}
use Rattle.mp_term.specs.Tree.{Tree, symbol, app, trees}
use Rattle.mp_term.specs.TreeLists.{trees-tree_list}
use Rattle.mp_term.specs.declared.term.OpId.{OpId}
use Rattle.mp_table.specs.declared.rank.Head.TheVariants as shown
use Rattle.mp_table.specs.Reading.{IsHeadOf}
use Rattle.mp_table.specs.Subterms.{arguments}

pub app_is : (t : Tree) (op : OpId) (us : List Tree) → IsHeadOf (shown.App op) t → us ≡ arguments t
    → app op.0 (trees us) ≡ t
app_is (symbol n) op us h e = absurd h
app_is (app f ts) op us h e = (λ i. app (h i) (trees (e i))) ∙ ap (app f) (trees-tree_list ts)

-- beside an application of the same operation
pub app_beside : (t : Tree) (own op : OpId) (xs us : List Tree) → IsHeadOf (shown.App own) t → xs ≡ arguments t
    → own.0 ≡ op.0 → tree_cmp t (app op.0 (trees us)) ≡ shortlex tree_cmp xs us
app_beside t own op xs us h e same =
    ap (λ v. tree_cmp v (app op.0 (trees us))) (sym (app_is t own xs h e))
    ∙ app_cmp-same_head own.0 op.0 xs us same
