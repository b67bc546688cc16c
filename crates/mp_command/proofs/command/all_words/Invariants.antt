use Rattle.std.proofs.Common.{◌≡◌, ◌∷◌, ◌++◌, drop, map}
use Rattle.std.specs.Prelude.{codes}
use Rattle.mp_command.specs.Run.{words_of}
use Rattle.mp_command.proofs.command.all_words.Given as goal

-- the program's name and the words so far
abbrev pub invariant-loop-word : goal.invariant-loop-word
invariant-loop-word l = map (λ w. w.now) l.all.items ++ words_of (drop l.word-index l.words)
    ≡ codes "matchpy" ∷ words_of l.words
