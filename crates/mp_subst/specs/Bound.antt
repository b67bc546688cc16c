-- The value of a variable by ranks in a table.
use Rattle.std.specs.Prelude.{◌≡◌, ⊤, ℕ, List, [], length, slice_index_or, Option, Some, None, IfSome, option_map}
use Rattle.mp_term.specs.declared.term.OpId.{OpId}
use Rattle.mp_term.specs.Tree.{symbol, app, trees}
use Rattle.mp_term.specs.Sorting.{sorted}
use Rattle.mp_pattern.specs.Value.{Value, one, seq, bag, Form, one_form, seq_form, bag_form}
use Rattle.mp_pattern.specs.PlanView.{form}
use Rattle.mp_pattern.specs.declared.entry.Form as declared_form
use Rattle.mp_table.specs.Table.{Table, terms_at, HasRanks, rank_of, rank_cmp}
use Rattle.mp_table.specs.declared.rank.Rank.{Rank}
use Rattle.mp_subst.specs.declared.bound.Bound as declared_bound

-- the form, the operation that is applied to the terms, if there is one, and the ranks of the terms
pub record Bound : Type 0 where
  pub form : Form
  pub wrap : Option ℕ
  pub ranks : List Rank

-- that of a form, an operation and ranks
abbrev pub bound_from : declared_form.Form → Option OpId → List Rank → Bound
bound_from f w rs = record { form = form f; wrap = option_map (λ op. op.0) w; ranks = rs }

-- the record that a bound is read as
abbrev pub bound_of : declared_bound.Bound → Bound
bound_of b = bound_from b.form b.wrap b.ranks.now

-- the value of ranks, by the form and the operation that is applied to their terms
abbrev pub value_from : Table → Form → Option ℕ → List Rank → Value
value_from t one_form None rs = one (slice_index_or (terms_at t rs) 0 (symbol []))
value_from t one_form (Some f) rs = one (app f (trees (terms_at t rs)))
value_from t seq_form w rs = seq (terms_at t rs)
value_from t bag_form w rs = bag (terms_at t rs)

-- the value that a bound stands for
abbrev pub value_in : Table → Bound → Value
value_in t b = value_from t b.form b.wrap b.ranks

-- a single term that isn't applied to has one rank, only a single term is applied, and the ranks of a multiset ascend
abbrev pub AreRanksOf : Form → Option ℕ → List Rank → Type 0
AreRanksOf one_form None rs = length rs ≡ 1
AreRanksOf one_form (Some f) rs = ⊤
AreRanksOf seq_form None rs = ⊤
AreRanksOf seq_form (Some f) rs = ⊥
AreRanksOf bag_form None rs = sorted rank_cmp rs ≡ rs
AreRanksOf bag_form (Some f) rs = ⊥

-- the table has the ranks, which fit the form, and it doesn't hold the term that an operation makes of theirs
pub record IsBoundIn (t : Table) (b : Bound) : Type 0 where
  pub ranks : HasRanks t b.ranks
  pub formed : AreRanksOf b.form b.wrap b.ranks
  pub wrap : IfSome b.wrap (λ f. rank_of t (app f (trees (terms_at t b.ranks))) ≡ None)
