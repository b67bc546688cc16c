use Rattle.std.proofs.Common.{false, ◌∙◌, ap}
use Rattle.mp_search.proofs.NextLaws.{next-taken, first-front}
use Rattle.mp_search.proofs.next.take_next.Goals as goal

pub returns-in-len1-up-clause-choice : goal.returns-in-len1-up-clause-choice
returns-in-len1-up-clause-choice c =
    next-taken c.args.query.now c.args.site.now (record { 0 = 0 }) c.set.new.self c.as_slice.result.now c.reads.result
    c.in-len1-up.len_at_least c.requires.next
    (c.set.ensures.take ∙ ap (λ rs. (rs, false)) c.from_ref.ensures.value) c.as_slice.ensures c.reads.ensures

pub returns-in-len1-up-clause-taken : goal.returns-in-len1-up-clause-taken
returns-in-len1-up-clause-taken c = λ h. (
  c.in-len1-up.len_at_least,
  ap (λ z. z.0) (c.set.ensures.take ∙ ap (λ rs. (rs, false)) c.from_ref.ensures.value)
      ∙ first-front c.args.site.now.left.now (record { 0 = 0 }) c.in-len1-up.len_at_least,
)
