-- The declarations of operations and kinds are read again as they are spelled, and have no faults.
use Rattle.std.proofs.Common.{◌≡◌, ◌≢◌, ◌≤◌, ◌<◌, ◌+◌, ◌-◌, ◌*◌, ◌/◌, ◌%◌, ◌^◌, ℕ, Bool, true, false, ◌||◌, cond, not}
use Rattle.std.proofs.Common.{leb, ltb, List, [], ◌∷◌, ◌++◌, map, length, count_by, Option, Some, None, refl, sym, ap}
use Rattle.std.proofs.Common.{subst, ◌∙◌, arith, rules}
use Rattle.std.specs.Prelude.{option_map, decimal, flat_map}
use Rattle.std.specs.List.{list_all, list_any, AllByRecursion, dedup, dedup_from}
use Rattle.std.specs.Char.{is_ascii_digit}
use Rattle.std.specs.Cmp.Lexicographic.{slice_cmp}
use Rattle.std.specs.declared.cmp.Ordering.{Ordering}
use Rattle.std.specs.declared.cmp.Ordering.TheVariants.{Less, Equal, Greater}
use Rattle.std.specs.Ordering.{nat_cmp, eq_by_cmp, is_lt, is_gt, is_eq, ordering_reverse}
use Rattle.std.proofs.lemmas.Cmp.{nat_list_cmp_total}
use Rattle.std.proofs.lemmas.Fmt.{decimal_by_steps, length-decimal-le}
use Rattle.std.proofs.lemmas.List.{length-map}
use Rattle.std.proofs.lemmas.List.Sums.{sum_by-cons}
use Rattle.std.proofs.lemmas.List.Folds.{list_all-append}
use Rattle.std.proofs.lemmas.Bool.{or_parts}
use Rattle.std.proofs.Math.Bool.{not-not}
use Rattle.mp_io.specs.Devices.{Text}
use Rattle.mp_parser.specs.declared.limits.TheConstants.{MAX_OPEN, MAX_WORD_BYTES}
use Rattle.mp_pattern.specs.declared.limits.TheConstants.{MAX_NUMBER}
use Rattle.mp_term.specs.declared.limits.TheConstants.{MAX_ARITY, MAX_OPS, MAX_KINDS, MAX_KIND_SYMBOLS}
use Rattle.mp_term.specs.declared.signature.OpDecl.{OpDecl}
use Rattle.mp_term.specs.Names.{name_set, names_ascend}
use Rattle.mp_term.specs.Sorting.{insert_sorted, sorted}
use Rattle.mp_term.specs.Signature.{Kind, has_name, has_sign, shares_sign, clashes, kind_names}
use Rattle.mp_term.proofs.ListLaws.{both-empty}
use Rattle.mp_parser.specs.Tokens.{AreWordBytes, is_word_byte}
use Rattle.mp_syntax.specs.Printed.{unplaced_spot, unplaced_flag, unplaced}
use Rattle.mp_parser.specs.Syntax.{Spot, Flag, Assoc, Comm, One, Infixed, Statement, OpOf, KindOf, FitsStatement}
use Rattle.mp_parser.specs.Syntax.{IsName, HasSign, HaveSigns, AreNames, StatementHasNames}
use Rattle.mp_build.specs.declared.fault.TextKind.TheVariants.{DuplicateName, TooMany, BadFlags}
use Rattle.mp_build.specs.Build.{op_decl, sig_with}
use Rattle.mp_build.specs.Checks.{fault_if, symbol_faults, name_faults, has_bad_flags, held_sign_faults, op_faults}
use Rattle.mp_build.specs.Checks.{kind_faults}
use Rattle.mp_build.specs.Flags.{says_assoc, says_comm, says_one, says_infix, is_said, some_flag_twice, sign_spot}
use Rattle.mp_build.specs.Flags.{is_long_sign}
use Rattle.mp_build.specs.Names.{is_among, number_of}
use Rattle.mp_round_trip.specs.Spelled.{piece, flag_if, sign_flags, op_flags, op_spelling, kind_spelling}
use Rattle.mp_build.proofs.Declared.{is_among-has_name}
use Rattle.mp_build.proofs.Faultless.{nil-both, none-fault_if}
use Rattle.mp_build.proofs.Words.{first-of, second-of, IsName-is_name}
use Rattle.mp_build.proofs.Numbers.{number_after-append, is_ascii_digit-digit}
use Rattle.mp_pattern.specs.SoundRule.{IsSymbol}
use Rattle.mp_text.proofs.DeclaredParts.{IsSomeSign, short-sign, IsDeclaredOp, IsDeclaredKind}
use Rattle.mp_round_trip.proofs.TermAgain.{none-symbol}

-- ---- numbers

-- digits that are a word and write the number
pub record Writes (n : ℕ) (digits : List ℕ) : Type 0 where
  pub value : number_of digits ≡ n
  pub are_digits : list_all is_ascii_digit digits ≡ true
  pub some : digits ≢ []
  pub word : AreWordBytes digits

word-digit : (b : ℕ) → is_ascii_digit b ≡ true → is_word_byte b ≡ true
word-digit b h = rw h refl

-- what decimal digits write
writes-decimal : (n : ℕ) → n < 2 ^ 64 → Writes n (decimal n)
writes-decimal = decimal_by_steps Writes one more
  where
    one : (n : ℕ) → n < 10 → Writes n ((48 + n) ∷ [])
    one n small =
        let digit = is_ascii_digit-digit n small in
        record {
          value = omega arith;
          are_digits = rw digit refl;
          some = λ e. absurd cc;
          word = rw (word-digit (48 + n) digit) refl;
        }

    more : (n : ℕ) (ds : List ℕ) → 10 ≤ n → Writes (n / 10) ds → Writes n (ds ++ ((48 + n % 10) ∷ []))
    more n ds large w =
        let small : n % 10 < 10 = omega arith in
        let digit = is_ascii_digit-digit (n % 10) small in
        let front = w.value in
        let last : 10 * number_of ds + ((48 + n % 10) - 48) ≡ n = omega arith in
        record {
          value = number_after-append 0 ds ((48 + n % 10) ∷ []) ∙ last;
          are_digits = list_all-append is_ascii_digit ds ((48 + n % 10) ∷ []) ∙ rw (w.are_digits, digit) refl;
          some = λ e. absurd (let none = (both-empty ds ((48 + n % 10) ∷ []) e).1 in cc);
          word = list_all-append is_word_byte ds ((48 + n % 10) ∷ [])
              ∙ rw (w.word, word-digit (48 + n % 10) digit) refl;
        }

-- a number as it is written
pub record IsWrittenNumber (n : ℕ) : Type 0 where
  pub writes : Writes n (decimal n)
  pub short : length (decimal n) ≤ MAX_WORD_BYTES

pub number-written : (n : ℕ) → n ≤ MAX_NUMBER → IsWrittenNumber n
number-written n small =
    let few : n < 2 ^ 64 = omega arith in
    let short : length (decimal n) ≤ 7 = length-decimal-le 7 n (omega arith) (omega arith) few in
    record { writes = writes-decimal n few; short = omega arith }

-- its digits are a name
pub name-written : (n : ℕ) → n ≤ MAX_NUMBER → IsName (decimal n)
name-written n small = let w = number-written n small in
    record { is_word = record { some = w.writes.some; bytes = w.writes.word }; is_short = w.short }

-- ---- flags

-- the flag of a sign, where there is one
abbrev infix_flags : Option Spot → List Flag
infix_flags None = []
infix_flags (Some w) = Infixed w ∷ []

-- what begins with a flag apart from places begins with it, where the flag has no place
front-alike : (v : Bool) (flag : Flag) → ((f : Flag) → unplaced_flag f ≡ unplaced_flag flag → f ≡ flag)
    → (rest flags : List Flag) → map unplaced_flag flags ≡ map unplaced_flag (flag_if v flag ++ rest)
    → (gs : List Flag) × (flags ≡ flag_if v flag ++ gs) × (map unplaced_flag gs ≡ map unplaced_flag rest)
front-alike false flag plain rest flags e = (flags, refl, e)
front-alike true flag plain rest [] e = absurd cc
front-alike true flag plain rest (f ∷ fs) e = (fs, ap (λ g. g ∷ fs) (plain f cc), cc)

last-alike : (sign : Option Text) (flags : List Flag) → map unplaced_flag flags ≡ map unplaced_flag (sign_flags sign)
    → (w : Option Spot) × (flags ≡ infix_flags w) × (option_map (λ s. s.text) w ≡ sign)
last-alike None [] e = (None, refl, refl)
last-alike (Some sign) (Infixed w ∷ []) e =
    let spot : unplaced_spot w ≡ unplaced_spot (piece sign) = cc in
    (Some w, refl, ap (λ (s : Spot). Some s.text) spot)
last-alike _ _ e = absurd cc

plain-assoc : (f : Flag) → unplaced_flag f ≡ Assoc → f ≡ Assoc
plain-assoc Assoc e = refl
plain-assoc _ e = absurd cc

plain-comm : (f : Flag) → unplaced_flag f ≡ Comm → f ≡ Comm
plain-comm Comm e = refl
plain-comm _ e = absurd cc

plain-one : (f : Flag) → unplaced_flag f ≡ One → f ≡ One
plain-one One e = refl
plain-one _ e = absurd cc

-- how often a test holds of a flag that may be there and of those behind it
count-if : (says : Flag → Bool) (v : Bool) (flag : Flag) (rest : List Flag)
    → count_by says (flag_if v flag ++ rest) ≡ cond (says flag) (cond v 1 0) 0 + count_by says rest
count-if says true flag rest = sum_by-cons (λ f. cond (says f) 1 0) flag rest
count-if says false flag rest = elim (says flag) as (λ b. count_by says rest ≡ cond b 0 0 + count_by says rest)
    [ true ↦ omega arith | false ↦ omega arith ]

-- what is said once or not at all
said : (v : Bool) (n : ℕ) → n ≡ cond v 1 0 → (ltb 0 n ≡ v) × (ltb 1 n ≡ false)
said true n e = (ap (ltb 0) e, ap (ltb 1) e)
said false n e = (ap (ltb 0) e, ap (ltb 1) e)

-- the sign stands behind a flag without one
behind-flag : (v : Bool) (flag : Flag) → ((rest : List Flag) → sign_spot (flag ∷ rest) ≡ sign_spot rest)
    → (rest : List Flag) → sign_spot (flag_if v flag ++ rest) ≡ sign_spot rest
behind-flag true flag each rest = each rest
behind-flag false flag each rest = refl

-- flags that say just this
pub record Say (d : OpDecl) (flags : List Flag) : Type 0 where
  pub assoc : is_said says_assoc flags ≡ d.assoc
  pub comm : is_said says_comm flags ≡ d.comm
  pub one : is_said says_one flags ≡ d.one
  pub sign : option_map (λ s. s.text) (sign_spot flags) ≡ d.sign
  pub once : some_flag_twice flags ≡ false

say-front : (d : OpDecl) (last : List Flag) (infixed : Bool) → count_by says_assoc last ≡ 0
    → count_by says_comm last ≡ 0 → count_by says_one last ≡ 0 → count_by says_infix last ≡ cond infixed 1 0
    → option_map (λ s. s.text) (sign_spot last) ≡ d.sign
    → Say d (flag_if d.assoc Assoc ++ (flag_if d.comm Comm ++ (flag_if d.one One ++ last)))
say-front d last infixed a c o i sign =
    let third = flag_if d.one One ++ last in
    let second = flag_if d.comm Comm ++ third in
    let total : (says : Flag → Bool) → count_by says (flag_if d.assoc Assoc ++ second)
    ≡ cond (says Assoc) (cond d.assoc 1 0) 0
    + (cond (says Comm) (cond d.comm 1 0) 0 + (cond (says One) (cond d.one 1 0) 0 + count_by says last)) = λ says.
    count-if says d.assoc Assoc second ∙ ap (λ n. cond (says Assoc) (cond d.assoc 1 0) 0 + n)
    (count-if says d.comm Comm third ∙ ap (λ n. cond (says Comm) (cond d.comm 1 0) 0 + n)
    (count-if says d.one One last)) in
    let x = said d.assoc (count_by says_assoc (flag_if d.assoc Assoc ++ second)) (omega (arith, total says_assoc, a)) in
    let y = said d.comm (count_by says_comm (flag_if d.assoc Assoc ++ second)) (omega (arith, total says_comm, c)) in
    let z = said d.one (count_by says_one (flag_if d.assoc Assoc ++ second)) (omega (arith, total says_one, o)) in
    let w = said infixed (count_by says_infix (flag_if d.assoc Assoc ++ second)) (omega (arith, total says_infix, i)) in
    record {
      assoc = x.0;
      comm = y.0;
      one = z.0;
      sign = ap (option_map (λ s. s.text)) (behind-flag d.assoc Assoc (λ rest. refl) second
          ∙ behind-flag d.comm Comm (λ rest. refl) third ∙ behind-flag d.one One (λ rest. refl) last) ∙ sign;
      once = rw (x.1, y.1, z.1, w.1) refl;
    }

say-last : (d : OpDecl) (w : Option Spot) → option_map (λ s. s.text) w ≡ d.sign
    → Say d (flag_if d.assoc Assoc ++ (flag_if d.comm Comm ++ (flag_if d.one One ++ infix_flags w)))
say-last d None e = say-front d [] false refl refl refl refl e
say-last d (Some w) e = say-front d (Infixed w ∷ []) true refl refl refl refl e

-- what are the flags of an operation apart from places say them
pub say-alike : (d : OpDecl) (flags : List Flag) → map unplaced_flag flags ≡ map unplaced_flag (op_flags d)
    → Say d flags
say-alike d flags e =
    let a = front-alike d.assoc Assoc plain-assoc _ flags e in
    let c = front-alike d.comm Comm plain-comm _ a.0 a.2 in
    let o = front-alike d.one One plain-one _ c.0 c.2 in
    let w = last-alike d.sign o.0 o.2 in
    subst (Say d)
    (sym (a.1 ∙ ap (λ l. flag_if d.assoc Assoc ++ l)
    (c.1 ∙ ap (λ l. flag_if d.comm Comm ++ l) (o.1 ∙ ap (λ l. flag_if d.one One ++ l) w.1)))) (say-last d w.0 w.2)

-- ---- operations

-- what is the declaration of an operation apart from places declares it
pub op_decl-alike : (d : OpDecl) → d.least ≤ MAX_ARITY → (name least : Spot) (more : Bool) (flags : List Flag)
    → unplaced (OpOf name least more flags) ≡ unplaced (op_spelling d)
    → (op_decl name least more flags ≡ d) × (some_flag_twice flags ≡ false)
op_decl-alike d small name least more flags e =
    let names : unplaced_spot name ≡ unplaced_spot (piece d.name) = cc in
    let numbers : unplaced_spot least ≡ unplaced_spot (piece (decimal d.least)) = cc in
    let free : more ≡ not d.fixed = cc in
    let own : map unplaced_flag flags ≡ map unplaced_flag (op_flags d) = cc in
    let say = say-alike d flags own in
    let count = ap (λ (s : Spot). number_of s.text) numbers ∙ (number-written d.least (omega arith)).writes.value in (
      λ i. record {
        name = ap (λ (s : Spot). s.text) names i;
        least = count i;
        fixed = (ap not free ∙ not-not d.fixed) i;
        assoc = say.assoc i;
        comm = say.comm i;
        one = say.one i;
        sign = say.sign i;
      },
      say.once,
    )

HaveSigns-flag_if : (v : Bool) (flag : Flag) (flags : List Flag) → HasSign flag → HaveSigns flags
    → HaveSigns (flag_if v flag ++ flags)
HaveSigns-flag_if true flag flags h k = (h, k)
HaveSigns-flag_if false flag flags h k = k

HaveSigns-sign_flags : (sign : Option Text) → IsSomeSign sign → HaveSigns (sign_flags sign)
HaveSigns-sign_flags None h = tt
HaveSigns-sign_flags (Some sign) h = (h, tt)

HaveSigns-op_flags : (d : OpDecl) → IsSomeSign d.sign → HaveSigns (op_flags d)
HaveSigns-op_flags d h = HaveSigns-flag_if d.assoc Assoc _ tt
    (HaveSigns-flag_if d.comm Comm _ tt (HaveSigns-flag_if d.one One _ tt (HaveSigns-sign_flags d.sign h)))

-- its words are names and its sign is one
pub StatementHasNames-op_spelling : (d : OpDecl) → IsDeclaredOp d → StatementHasNames (op_spelling d)
StatementHasNames-op_spelling d h =
    (h.names.name, name-written d.least (omega (arith, h.small)), HaveSigns-op_flags d h.names.sign)

-- its number is of digits
pub FitsStatement-op_spelling : (d : OpDecl) → IsDeclaredOp d → FitsStatement MAX_OPEN (op_spelling d)
FitsStatement-op_spelling d h = (number-written d.least (omega (arith, h.small))).writes.are_digits

-- a test that fails wherever another one does
none-also : {X : Type 0} (p q : X → Bool) → ((x : X) → p x ≡ false → q x ≡ false) → (xs : List X)
    → list_any p xs ≡ false → list_any q xs ≡ false
none-also p q also [] h = refl
none-also p q also (x ∷ xs) h =
    let o = or_parts (p x) (list_any p xs) h in
    rw (also x o.0) (none-also p q also xs o.1)

-- the faults at a name that is new among few
pub none-name_faults : (most : ℕ) (earlier : List Text) (large : Bool) (name : Spot)
    → is_among name.text earlier ≡ false → length earlier < most → large ≡ false
    → name_faults most earlier large name ≡ []
none-name_faults most earlier large name new few small =
    let test : leb most (length earlier) ≡ false = search (rules, few) in
    let room : (leb most (length earlier) || large) ≡ false = rw (test, small) refl in
    nil-both (fault_if (is_among name.text earlier) DuplicateName name.place)
    (fault_if (leb most (length earlier) || large) TooMany name.place)
    (none-fault_if (is_among name.text earlier) DuplicateName name.place new)
    (none-fault_if (leb most (length earlier) || large) TooMany name.place room)

none-held_sign_faults : (ds : List OpDecl) (d : OpDecl) (sign : Option Spot) → d.sign ≡ option_map (λ s. s.text) sign
    → list_any (clashes d) ds ≡ false → held_sign_faults ds sign ≡ []
none-held_sign_faults ds d None e h = refl
none-held_sign_faults ds d (Some sign) e h =
    none-fault_if (list_any (has_sign sign.text) ds) _ sign.place
    (none-also (clashes d) (has_sign sign.text)
    (λ c apart. ap (λ o. shares_sign o c) (sym e) ∙ (or_parts (has_name d.name c) (shares_sign d.sign c) apart).1)
    ds h)

-- behind operations that it doesn't clash with, a declaration has no faults
pub none-op_faults : (ds : List OpDecl) (name least : Spot) (more : Bool) (flags : List Flag)
    → IsDeclaredOp (op_decl name least more flags) → some_flag_twice flags ≡ false
    → list_any (clashes (op_decl name least more flags)) ds ≡ false → length ds < MAX_OPS
    → op_faults ds name least more flags ≡ []
none-op_faults ds name least more flags h once apart few =
    let d = op_decl name least more flags in
    let others : is_among d.name (map (λ c. c.name) ds) ≡ false = sym (is_among-has_name d.name ds)
    ∙ none-also (clashes d) (has_name d.name)
    (λ c a. (or_parts (has_name d.name c) (shares_sign d.sign c) a).0) ds apart in
    let room : length (map (λ c. c.name) ds) < MAX_OPS = omega (arith, length-map ds (λ c. c.name)) in
    let bound : number_of least.text ≤ MAX_ARITY = h.small in
    let large : ltb MAX_ARITY (number_of least.text) ≡ false = search (rules, bound) in
    let long : is_long_sign (sign_spot flags) ≡ false = sym (short-sign (sign_spot flags)) ∙ h.short in
    let bad : has_bad_flags name least more flags ≡ false = rw (once, long, h.ordered) refl in
    nil-both (name_faults MAX_OPS (map (λ c. c.name) ds) false name) _
    (none-name_faults MAX_OPS (map (λ c. c.name) ds) false name others room refl)
    (nil-both (fault_if (has_bad_flags name least more flags) BadFlags name.place) _
    (none-fault_if (has_bad_flags name least more flags) BadFlags name.place bad)
    (nil-both (fault_if (ltb MAX_ARITY (number_of least.text)) TooMany least.place) _
    (none-fault_if (ltb MAX_ARITY (number_of least.text)) TooMany least.place large)
    (none-held_sign_faults ds d (sign_spot flags) refl apart)))

-- ---- kinds

abbrev cmp : Text → Text → Ordering
cmp = slice_cmp nat_cmp

less-not_greater : (r : Ordering) → is_lt r ≡ true → is_gt r ≡ false
less-not_greater Less h = refl
less-not_greater Equal h = refl
less-not_greater Greater h = cc

less-not_equal : (r s : Ordering) → s ≡ ordering_reverse r → is_lt r ≡ true → is_eq s ≡ false
less-not_equal Less s e h = ap is_eq e
less-not_equal Equal s e h = cc
less-not_equal Greater s e h = cc

-- names that ascend are in order
sorted-names_ascend : (ns : List Text) → names_ascend ns ≡ true → sorted cmp ns ≡ ns
sorted-names_ascend [] h = refl
sorted-names_ascend (n ∷ []) h = refl
sorted-names_ascend (m ∷ n ∷ ns) h =
    let less : is_lt (cmp m n) ≡ true = first-of (is_lt (cmp m n)) (names_ascend (n ∷ ns)) h in
    ap (insert_sorted cmp m) (sorted-names_ascend (n ∷ ns) (second-of (is_lt (cmp m n)) (names_ascend (n ∷ ns)) h))
    ∙ rw (less-not_greater (cmp m n) less) refl

-- names that ascend stand once each
dedup_from-names_ascend : (n : Text) (ns : List Text) → names_ascend (n ∷ ns) ≡ true
    → dedup_from (eq_by_cmp cmp) n ns ≡ n ∷ ns
dedup_from-names_ascend m [] h = refl
dedup_from-names_ascend m (n ∷ ns) h =
    let less : is_lt (cmp m n) ≡ true = first-of (is_lt (cmp m n)) (names_ascend (n ∷ ns)) h in
    let other : is_eq (cmp n m) ≡ false = less-not_equal (cmp m n) (cmp n m) (nat_list_cmp_total.antisymm n m) less in
    rw other (ap (λ l. m ∷ l) (dedup_from-names_ascend n ns (second-of (is_lt (cmp m n)) (names_ascend (n ∷ ns)) h)))

dedup-names_ascend : (ns : List Text) → names_ascend ns ≡ true → dedup (eq_by_cmp cmp) ns ≡ ns
dedup-names_ascend [] h = refl
dedup-names_ascend (n ∷ ns) h = dedup_from-names_ascend n ns h

-- names that ascend are their set
pub name_set-names_ascend : (ns : List Text) → names_ascend ns ≡ true → name_set ns ≡ ns
name_set-names_ascend ns h = ap (dedup (eq_by_cmp cmp)) (sorted-names_ascend ns h) ∙ dedup-names_ascend ns h

texts-alike : (members : List Spot) (texts : List Text)
    → map unplaced_spot members ≡ map unplaced_spot (map piece texts) → map (λ s. s.text) members ≡ texts
texts-alike [] [] e = refl
texts-alike (m ∷ members) (text ∷ texts) e =
    let spot : unplaced_spot m ≡ unplaced_spot (piece text) = cc in
    let rest : map unplaced_spot members ≡ map unplaced_spot (map piece texts) = cc in
    λ i. ap (λ (s : Spot). s.text) spot i ∷ texts-alike members texts rest i
texts-alike _ _ e = absurd cc

-- what is the declaration of a kind apart from places has its name and its members
pub kind_decl-alike : (k : Kind) (name : Spot) (members : List Spot)
    → unplaced (KindOf name members) ≡ unplaced (kind_spelling k)
    → (name.text ≡ k.name) × (map (λ s. s.text) members ≡ k.members)
kind_decl-alike k name members e =
    let spot : unplaced_spot name ≡ unplaced_spot (piece k.name) = cc in
    (ap (λ (s : Spot). s.text) spot, texts-alike members k.members cc)

AreNames-pieces : (ds : List OpDecl) (members : List Text) → AllByRecursion (IsSymbol (sig_with ds [])) members
    → AreNames (map piece members)
AreNames-pieces ds [] h = tt
AreNames-pieces ds (m ∷ members) h = (IsName-is_name m h.0.name, AreNames-pieces ds members h.1)

-- its words are names
pub StatementHasNames-kind_spelling : (ds : List OpDecl) (k : Kind) → IsDeclaredKind ds k
    → StatementHasNames (kind_spelling k)
StatementHasNames-kind_spelling ds k h = (h.name, AreNames-pieces ds k.members h.members)

-- it has a member
pub FitsStatement-kind_spelling : (ds : List OpDecl) (k : Kind) → IsDeclaredKind ds k
    → FitsStatement MAX_OPEN (kind_spelling k)
FitsStatement-kind_spelling ds k h e = absurd (omega (arith, h.some, length-map k.members piece, ap length e))

none-member_faults : (ds : List OpDecl) (ss : List Statement) (members : List Spot)
    → AllByRecursion (IsSymbol (sig_with ds [])) (map (λ s. s.text) members)
    → flat_map (symbol_faults (sig_with ds ss)) members ≡ []
none-member_faults ds ss [] h = refl
none-member_faults ds ss (m ∷ members) h =
    nil-both (symbol_faults (sig_with ds ss) m) (flat_map (symbol_faults (sig_with ds ss)) members)
    (none-symbol (sig_with ds []) m m.text refl h.0) (none-member_faults ds ss members h.1)

-- behind kinds of other names, a declaration has no faults
pub none-kind_faults : (ds : List OpDecl) (ss : List Statement) (name : Spot) (members : List Spot)
    → AllByRecursion (IsSymbol (sig_with ds [])) (map (λ s. s.text) members)
    → length (map (λ s. s.text) members) ≤ MAX_KIND_SYMBOLS
    → is_among name.text (kind_names (sig_with ds ss)) ≡ false → length (kind_names (sig_with ds ss)) < MAX_KINDS
    → kind_faults (sig_with ds ss) name members ≡ []
none-kind_faults ds ss name members symbols few new room =
    let count : length members ≤ MAX_KIND_SYMBOLS = omega (arith, few, length-map members (λ s. s.text)) in
    let large : ltb MAX_KIND_SYMBOLS (length members) ≡ false = search (rules, count) in
    nil-both (name_faults MAX_KINDS (kind_names (sig_with ds ss)) (ltb MAX_KIND_SYMBOLS (length members)) name) _
    (none-name_faults MAX_KINDS (kind_names (sig_with ds ss))
    (ltb MAX_KIND_SYMBOLS (length members)) name new room large) (none-member_faults ds ss members symbols)
