use Rattle.std.proofs.Common.{◌∙◌}
use Rattle.clap.specs.Words.{found_of}
use Rattle.mp_words.proofs.Command.{request_by-found}
use Rattle.mp_words.proofs.words.request_in.Goals as goal

pub returns : goal.returns
returns c = c.request_by.ensures ∙ request_by-found (found_of c.args.matches.now) _ _ _ _ _ _ _ c.get_str-name.ensures
    c.get_strs-rest.ensures c.get_str-engine.ensures c.get_str-limit.ensures c.get_str-resume.ensures
    c.get_str-max.ensures c.get_str-from.ensures
