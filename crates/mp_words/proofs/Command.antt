-- What clap gives for the command, by the definition of a request.
use Rattle.std.proofs.Common.{◌≡◌, ◌∙◌, inl, inr, sym, ap, ap₂, subst, refl, true, false, List, [], ◌∷◌}
use Rattle.std.proofs.Common.{Option, None, codes, drop, option_map, if◌then◌else◌}
use Rattle.clap.proofs.OnLiterals.{clap_on_literals}
use Rattle.clap.proofs.WalkLemmas.{first_value-rows, raw_values-rows}
use Rattle.clap.specs.Faults.{built_fault}
use Rattle.clap.specs.Kinds.{HasKind, IsAmong, Kinds}
use Rattle.clap.specs.Simple.{argument_words, names_of}
use Rattle.clap.specs.Walk.{nothing_held, rows_after}
use Rattle.clap.specs.Words.{App, HasMatchesOf, Text, built, fault_of, first_value, found_of, is_simple}
use Rattle.clap.specs.Words.{is_simple_and_free, kind_of, matched_of, matches_of, raw_values, rows_of}
use Rattle.clap.specs.declared.error.Error.{Error}
use Rattle.clap.specs.declared.error.kind.ErrorKind.{ErrorKind}
use Rattle.clap.specs.declared.error.kind.ErrorKind.TheVariants.{OutOfMemory}
use Rattle.clap.specs.declared.parser.matches.ArgMatches.{ArgMatches}
use Rattle.clap.specs.declared.parser.matches.Found.{Found}
use Rattle.mp_words.specs.Words.{Options, command, has_none, is_taken, request_at, request_by, request_from, request_of}
use Rattle.mp_words.specs.Words.{rows_at}

-- clap's statements on simple commands hold of this one
simple : is_simple command ≡ true
unfolding clap_on_literals
simple = refl

free : is_simple_and_free command ≡ true
unfolding clap_on_literals
free = refl

-- the program's name may be any
argument_words-named : (a : App) (name : Text) (all : List Text) → a.top.no_binary_name ≡ false
    → argument_words a (name ∷ drop 1 all) ≡ argument_words a all
argument_words-named a name all e = rw e refl

fault_of-named : (a : App) (name : Text) (all : List Text) → a.top.no_binary_name ≡ false
    → fault_of a (name ∷ drop 1 all) ≡ fault_of a all
fault_of-named a name all e = ap (built_fault (built a) nothing_held) (argument_words-named a name all e)

matches_of-named : (a : App) (name : Text) (all : List Text) → a.top.no_binary_name ≡ false
    → matches_of a (name ∷ drop 1 all) ≡ matches_of a all
matches_of-named a name all e =
    ap (rows_after (built a).top.rules (names_of (built a))) (argument_words-named a name all e)

-- the options of these values
abbrev options_of : Option Text → Option Text → Option Text → Option Text → Option Text → Options
options_of engine limit resume max from = (codes "engine", engine) ∷ (codes "limit", limit)
    ∷ (codes "resume", resume) ∷ (codes "max", max) ∷ (codes "from", from) ∷ []

-- what the getters read is what the rows have
pub request_by-found : (f : Found) (name : Option Text) (rest : Option (List Text))
    (engine limit resume max from : Option Text)
    → name ≡ first_value f (codes "action") → rest ≡ option_map raw_values (matched_of f (codes "rest"))
    → engine ≡ first_value f (codes "engine") → limit ≡ first_value f (codes "limit")
    → resume ≡ first_value f (codes "resume") → max ≡ first_value f (codes "max")
    → from ≡ first_value f (codes "from")
    → request_by name rest (options_of engine limit resume max from) ≡ request_at (rows_of f)
request_by-found f name rest engine limit resume max from n r e l s m o =
    let name_is = n ∙ first_value-rows f (codes "action") in
    let rest_is = r ∙ raw_values-rows f (codes "rest") in
    let engine_is = e ∙ first_value-rows f (codes "engine") in
    let limit_is = l ∙ first_value-rows f (codes "limit") in
    let resume_is = s ∙ first_value-rows f (codes "resume") in
    let max_is = m ∙ first_value-rows f (codes "max") in
    let from_is = o ∙ first_value-rows f (codes "from") in
    λ i. request_by (name_is i) (rest_is i)
    (options_of (engine_is i) (limit_is i) (resume_is i) (max_is i) (from_is i))

-- the request of words that clap takes
request_of-taken : (all : List Text) → fault_of command all ≡ []
    → request_at (matches_of command all) ≡ request_of (drop 1 all)
unfolding is_taken rows_at request_from
request_of-taken all none = sym (ap₂ (λ kinds rows. if has_none kinds then request_at rows else None)
    (fault_of-named command (codes "matchpy") all refl ∙ none) (matches_of-named command (codes "matchpy") all refl))

pub request_at-taken : (app : App) (all : List Text) (m : ArgMatches) → app ≡ command
    → (is_simple_and_free app ≡ true → fault_of app all ≡ []) → HasMatchesOf app all m
    → request_at (rows_of (found_of m)) ≡ request_of (drop 1 all)
request_at-taken app all m is kinds matches =
    let Takes : App → Type 0 = λ a. is_simple_and_free a ≡ true → fault_of a all ≡ [] in
    let Matches : App → Type 0 = λ a. HasMatchesOf a all m in
    ap request_at (subst Matches is matches simple).0 ∙ request_of-taken all (subst Takes is kinds free)

-- words that clap refuses make no request
kinds_known : (kinds : Kinds) (k : ErrorKind) → IsAmong k kinds → has_none kinds ≡ false
kinds_known [] k among = absurd among
kinds_known (kind ∷ kinds) k among = refl

some_kind : (kinds : Kinds) (e : Error) → HasKind kinds e → (kind_of e ≡ OutOfMemory → ⊥) → has_none kinds ≡ false
some_kind kinds e has other = elim has [
  | inl memory ↦ absurd (other memory)
  | inr among ↦ kinds_known kinds (kind_of e) among
]

request_of-failed : (all : List Text) → has_none (fault_of command all) ≡ false → None ≡ request_of (drop 1 all)
unfolding is_taken request_from
request_of-failed all fails = sym (ap
    (λ taken. if taken then request_at (rows_at (codes "matchpy" ∷ drop 1 all)) else None)
    (ap has_none (fault_of-named command (codes "matchpy") all refl) ∙ fails))

pub request_of-refused : (app : App) (all : List Text) (e : Error) → app ≡ command
    → (is_simple_and_free app ≡ true → HasKind (fault_of app all) e) → (kind_of e ≡ OutOfMemory → ⊥)
    → None ≡ request_of (drop 1 all)
request_of-refused app all e is kinds other =
    let Fails : App → Type 0 = λ a. is_simple_and_free a ≡ true → HasKind (fault_of a all) e in
    request_of-failed all (some_kind (fault_of command all) e (subst Fails is kinds free) other)
