use Rattle.std.proofs.Common.{ap₂, ◌≡◌, ◌∙◌, codes}
use Rattle.std.proofs.lemmas.Result.{IfOk-weaker}
use Rattle.clap.specs.Words.{App, app_of, new_app, with_rule}
use Rattle.mp_words.specs.Words.{action_rule, option_rule, rest_rule}
use Rattle.mp_words.proofs.words.make_command.Goals as goal

abbrev first : App
first = with_rule (new_app (codes "matchpy")) action_rule

abbrev both : App
both = with_rule first rest_rule

abbrev engine : App
engine = with_rule both (option_rule (codes "engine"))

abbrev limit : App
limit = with_rule engine (option_rule (codes "limit"))

abbrev resume : App
resume = with_rule limit (option_rule (codes "resume"))

abbrev max : App
max = with_rule resume (option_rule (codes "max"))

pub returns : goal.returns
returns c =
    let first_is : app_of c.in_ok-first.first ≡ first = c.in_ok-first.ensures.shape c.make_action.ensures.local
    ∙ ap₂ with_rule c.new-bare.ensures.app c.make_action.ensures.rule in
    let both_is : app_of c.in_ok-both.both ≡ both = c.in_ok-both.ensures.shape c.make_rest.ensures.local
    ∙ ap₂ with_rule first_is c.make_rest.ensures.rule in
    let engine_is : app_of c.in_ok-engine.engine ≡ engine = c.in_ok-engine.ensures.shape c.make_option.ensures.local
    ∙ ap₂ with_rule both_is c.make_option.ensures.rule in
    let limit_is : app_of c.in_ok-limit.limit ≡ limit = c.in_ok-limit.ensures.shape c.make_option-2.ensures.local
    ∙ ap₂ with_rule engine_is c.make_option-2.ensures.rule in
    let resume_is : app_of c.in_ok-resume.resume ≡ resume = c.in_ok-resume.ensures.shape c.make_option-3.ensures.local
    ∙ ap₂ with_rule limit_is c.make_option-3.ensures.rule in
    let max_is : app_of c.in_ok-max.max ≡ max = c.in_ok-max.ensures.shape c.make_option-4.ensures.local
    ∙ ap₂ with_rule resume_is c.make_option-4.ensures.rule in
    IfOk-weaker c.arg-7.result _ _ (λ made adds. adds.shape c.make_option-5.ensures.local
    ∙ ap₂ with_rule max_is c.make_option-5.ensures.rule) c.arg-7.ensures
