use Rattle.std.proofs.Common.{◌≡◌, ◌∙◌, ap, sym, rules, List, Bool}
use Rattle.mp_table.specs.declared.rank.Rank.{Rank}
use Rattle.mp_search.specs.Levels.{take_of}
use Rattle.mp_cursor.specs.Kept.{kept_of}
use Rattle.mp_cursor.proofs.kept.Kept.is_take_of.Goals as goal

pairs : (a b : List Rank × Bool) → a.0 ≡ b.0 → a.1 ≡ b.1 → a ≡ b
pairs a b p q = ap (λ rs. (rs, a.1)) p ∙ ap (λ c. (b.0, c)) q

pub returns-then-level-self : goal.returns-then-level-self
returns-then-level-self c =
    let q : c.args.level.now.collapsed ≡ c.args.self.now.collapsed = search (rules, c.if-level-self.true) in (
      λ h. pairs (take_of c.args.level.now) (kept_of c.args.self.now)
          (sym c.as_slice.ensures ∙ c.same_ranks.ensures.0 h ∙ c.as_slice-then-level-self.ensures) q,
      λ e. c.same_ranks.ensures.1 (c.as_slice.ensures ∙ ap (λ k. k.0) e ∙ sym c.as_slice-then-level-self.ensures),
    )
