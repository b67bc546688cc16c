-- What a variable stands for when it is bound to a value too.
use Rattle.std.proofs.Common.{◌≡◌, ℕ, List, [], ◌∷◌, get_or, ap, sym, ◌∙◌}
use Rattle.std.specs.Prelude.{Option, Some, None, IfSome, option_map}
use Rattle.std.specs.Option.{option_and_then}
use Rattle.std.proofs.lemmas.Option.{slice_get_within, get_or_from_slice_get}
use Rattle.mp_term.specs.Tree.{symbol, app, trees}
use Rattle.mp_term.specs.declared.term.OpId.{OpId}
use Rattle.mp_pattern.specs.Value.{Value, one, merge}
use Rattle.mp_pattern.specs.PlanView.{form}
use Rattle.mp_pattern.specs.declared.entry.Form.{Form}
use Rattle.mp_pattern.specs.declared.entry.Form.TheVariants.{One, Seq, Bag}
use Rattle.mp_table.specs.Table.{Table, terms_at, HasRank, IsTable, rank_of}
use Rattle.mp_table.specs.declared.rank.Rank.{Rank}
use Rattle.mp_table.proofs.RankLaws.{slice_get-rank_of}
use Rattle.mp_subst.specs.Bound.{Bound, bound_from, value_in, AreRanksOf, IsBoundIn}
use Rattle.mp_subst.specs.Trail.{last_value, joined}
use Rattle.mp_subst.specs.TrailView.{entry_value, stack_of, last_place}
use Rattle.mp_subst.specs.Outcome.{IsOutcome, Suits}
use Rattle.mp_subst.specs.Choice.{chosen}
use Rattle.mp_subst.specs.declared.trail.Entry.{Entry}
use Rattle.mp_subst.specs.declared.merging.Choice.{Choice}
use Rattle.mp_subst.specs.declared.merging.Choice.TheVariants as choice
use Rattle.mp_subst.specs.declared.binding.Outcome.TheVariants as outcome
use Rattle.mp_subst.proofs.TrailLaws.{last_value-all}
use Rattle.mp_subst.proofs.TrailViewLaws.{last_value-none, last_value-at, entry-at}

-- an unbound variable
pub first-outcome : (rs : List Rank) (es : List Entry) (x : ℕ) (w : Bound) → last_place es x ≡ None → (t : Table)
    → IsOutcome t (stack_of rs es) x w outcome.New
first-outcome rs es x w h t =
    ap (λ o. elim o as (λ _. Option Value) [
      | None ↦ Some (value_in t w)
      | Some b ↦ merge (value_in t b) (value_in t w)
    ]) (last_value-none rs es x h)

-- a variable whose last entry has the value b, where the choice is that of b and the new value w
module _ (rs : List Rank) (es : List Entry) (x i : ℕ) (d : Entry) (place : last_place es x ≡ Some i) (b w : Bound)
    (is : b ≡ entry_value rs (get_or es i d)) (o : Choice)
    (join : (t : Table) → IsTable t → IsBoundIn t b → IsBoundIn t w
    → chosen (value_in t b) (value_in t w) o ≡ merge (value_in t b) (value_in t w)) where
  standing : (t : Table) → Suits t (stack_of rs es) w
      → joined t (stack_of rs es) x (value_in t w) ≡ chosen (value_in t b) (value_in t w) o
  standing t s =
      let last : last_value (stack_of rs es) x ≡ Some b = (last_value-at rs es x i d place).1 ∙ ap Some (sym is) in
      ap (λ l. elim l as (λ _. Option Value) [
        | None ↦ Some (value_in t w)
        | Some c ↦ merge (value_in t c) (value_in t w)
      ]) last
      ∙ sym (join t s.table (last_value-all (IsBoundIn t) (stack_of rs es) x b s.values last) s.new)

  pub old-outcome : o ≡ choice.Old → (t : Table) → Suits t (stack_of rs es) w
      → IsOutcome t (stack_of rs es) x w (outcome.Old i)
  old-outcome h t s e at =
      standing t s ∙ ap (chosen (value_in t b) (value_in t w)) h
      ∙ ap (λ c. Some (value_in t c)) (is ∙ sym (ap (λ y. y.value) (entry-at rs es i d e at)))

  pub new-outcome : o ≡ choice.New → (t : Table) → Suits t (stack_of rs es) w
      → IsOutcome t (stack_of rs es) x w outcome.New
  new-outcome h t s = standing t s ∙ ap (chosen (value_in t b) (value_in t w)) h

  pub no-outcome : o ≡ choice.Neither → (t : Table) → Suits t (stack_of rs es) w
      → IsOutcome t (stack_of rs es) x w outcome.Neither
  no-outcome h t s = standing t s ∙ ap (chosen (value_in t b) (value_in t w)) h

-- the rank of the term that an operation makes
abbrev pub held_rank : Table → Option OpId → List Rank → Option ℕ
held_rank t w rs = option_and_then (λ f. rank_of t (app f.0 (trees (terms_at t rs)))) w

-- a term that the table doesn't hold
pub not_held : (t : Table) (w : Option OpId) (rs : List Rank) → held_rank t w rs ≡ None
    → IfSome (option_map (λ op. op.0) w) (λ f. rank_of t (app f (trees (terms_at t rs))) ≡ None)
not_held t None rs h = tt
not_held t (Some f) rs h = h

-- a term that it holds
pub held : (t : Table) (f : Form) (w : Option OpId) (rs : List Rank) (r : Rank)
    → AreRanksOf (form f) (option_map (λ op. op.0) w) rs → held_rank t w rs ≡ Some r.0
    → HasRank t r × (value_in t (bound_from One None (r ∷ [])) ≡ value_in t (bound_from f w rs))
held t f None rs r h e = cc
held t One (Some op) rs r h e =
    let there = slice_get-rank_of t (app op.0 (trees (terms_at t rs))) r.0 e in (
      slice_get_within t.terms r.0 (app op.0 (trees (terms_at t rs))) there,
      ap one (get_or_from_slice_get t.terms r.0 (app op.0 (trees (terms_at t rs))) (symbol []) there),
    )
held t Seq (Some op) rs r h e = absurd h
held t Bag (Some op) rs r h e = absurd h
