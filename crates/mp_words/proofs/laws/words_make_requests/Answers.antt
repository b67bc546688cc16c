use Rattle.std.proofs.Common.{refl}
use Rattle.clap.proofs.OnLiterals.{clap_on_literals}
use Rattle.mp_words.specs.Words.{is_taken, request_from, rows_at}
use Rattle.mp_words.proofs.laws.words_make_requests.Goals as goal

pub returns : goal.returns
unfolding clap_on_literals is_taken rows_at request_from
returns c = record {
  matched = refl;
  many = refl;
  netted = refl;
  rewritten = refl;
  shown = refl;
  compiled = refl;
  run = refl;
  help = refl;
  other = refl;
  token = refl;
  many_token = refl;
  range = refl;
  files = refl;
  no_program = refl;
  inputs = refl;
}
