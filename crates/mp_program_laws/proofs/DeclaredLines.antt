-- The lines of the declarations of a signature.
use Rattle.std.proofs.Common.{◌≡◌, ◌≤◌, List, [], ◌∷◌, ◌++◌, map, true, Bool, false, refl, ap, sym, ◌∙◌, subst, arith}
use Rattle.std.proofs.Common.{ℕ, append_assoc}
use Rattle.std.specs.Prelude.{Option, Some, None, not, flat_map, is_some, unwrap_or, nat_eq, nat_le, codes, decimal}
use Rattle.std.specs.Prelude.{if◌then◌else◌}
use Rattle.std.specs.List.{AllByRecursion, list_all, list_any}
use Rattle.std.proofs.lemmas.Bool.{and_parts, or_parts}
use Rattle.std.proofs.lemmas.Bool.Decides.{nat_tests}
use Rattle.mp_io.specs.Devices.{Text}
use Rattle.mp_term.specs.declared.limits.TheConstants.{MAX_ARITY}
use Rattle.mp_term.specs.declared.signature.OpDecl.{OpDecl}
use Rattle.mp_term.specs.Names.{is_name}
use Rattle.mp_term.specs.Signature.{Sig, Kind}
use Rattle.mp_print.specs.Printing.{text_if, separated}
use Rattle.mp_print.specs.PrintedSignature.{op_text, kind_text, signature_text}
use Rattle.mp_round_trip.specs.Readable.{IsSpelledSign, IsSpelledOp, IsSpelledSignature}
use Rattle.mp_program.specs.FormText.{begin_line_with, lines_of}
use Rattle.mp_program.specs.RightForm.{IsDeclaration}
use Rattle.mp_program.proofs.LineLaws.{IsOneLine, lines_of-append, lines_of-line}
use Rattle.mp_program.proofs.PrintedLines.{op-ended}
use Rattle.mp_program_laws.proofs.LineFeeds.{IsOneLineOp, IsOneLineSign, HasOneLines, line-append, name-line}
use Rattle.mp_program_laws.proofs.LineFeeds.{sign-line, decimal-line, if-line}

-- ---- declarations

-- a statement of a word: one line, with a semicolon and a line feed at its end
pub record IsStatement (word t : Text) : Type 0 where
  pub middle : Text
  pub is : t ≡ word ++ (middle ++ 59 ∷ 10 ∷ [])
  pub line : IsOneLine middle

ended-more : (s t u : Text) → t ≡ u ++ 59 ∷ 10 ∷ [] → s ++ t ≡ (s ++ u) ++ 59 ∷ 10 ∷ []
ended-more s t u e = ap (λ l. s ++ l) e ∙ sym (append_assoc s u (59 ∷ 10 ∷ []))

-- texts that end so
pub record Ends (t : Text) : Type 0 where
  pub front : Text
  pub is : t ≡ front ++ 59 ∷ 10 ∷ []
  pub line : IsOneLine front

pub ends-more : (s t : Text) → IsOneLine s → Ends t → Ends (s ++ t)
ends-more s t h e = record {
  front = s ++ e.front;
  is = ended-more s t e.front e.is;
  line = line-append s e.front h e.line;
}

pub statement-ends : (word t : Text) → Ends t → IsStatement word (word ++ t)
statement-ends word t e = record { middle = e.front; is = ap (λ l. word ++ l) e.is; line = e.line }

-- the lines of statements are declarations
pub declared-lines : {X : Type 0} (word : Text) (f : X → Text) (xs : List X) → IsOneLine word
    → AllByRecursion (λ x. IsStatement word (f x)) xs
    → AllByRecursion (IsDeclaration word) (lines_of (flat_map f xs))
declared-lines word f [] h k = tt
declared-lines word f (x ∷ xs) h k =
    let m = k.0.middle in
    let own : Text = word ++ (m ++ codes ";") in
    let line : IsOneLine own =
    line-append word (m ++ codes ";") h (line-append m (codes ";") k.0.line refl) in
    let whole : f x ≡ own ++ 10 ∷ [] =
    k.0.is ∙ ap (λ l. word ++ l) (sym (append_assoc m (codes ";") (10 ∷ [])))
    ∙ sym (append_assoc word (m ++ codes ";") (10 ∷ [])) in
    let lines : lines_of (f x ++ flat_map f xs) ≡ own ∷ lines_of (flat_map f xs) =
    ap (λ t. lines_of (t ++ flat_map f xs)) whole ∙ lines_of-line own (flat_map f xs) line in
    subst (AllByRecursion (IsDeclaration word)) (sym lines) ((m, refl), declared-lines word f xs h k.1)

-- ---- signatures

op-lines : (d : OpDecl) → IsSpelledOp d → IsOneLineOp d
op-lines d h = (name-line d.name h.name, by_sign d.sign h.sign)
  where
    by_sign : (s : Option Text) → IsSpelledSign s → IsOneLineSign s
    by_sign None h = tt
    by_sign (Some s) h = sign-line s h

op-statement : (d : OpDecl) → IsOneLineOp d → d.least ≤ MAX_ARITY → IsStatement (codes "op ") (op_text d)
op-statement d h few = statement-ends (codes "op ") _
    (ends-more d.name _ h.0 (ends-more (codes " ") _ refl
    (ends-more (decimal d.least) _ (decimal-line d.least (omega (arith, few)))
    (ends-more (text_if (not d.fixed) (codes "+")) _ (if-line (not d.fixed) (codes "+") refl)
    (ends-more (text_if d.assoc (codes " assoc")) _ (if-line d.assoc (codes " assoc") refl)
    (ends-more (text_if d.comm (codes " comm")) _ (if-line d.comm (codes " comm") refl)
    (ends-more (text_if d.one (codes " one")) _ (if-line d.one (codes " one") refl)
    (ends-more (text_if (is_some d.sign) (codes " infix ")) _ (if-line (is_some d.sign) (codes " infix ") refl)
    (ends-more (unwrap_or d.sign []) _ (by_sign d.sign h.1)
    (record { front = []; is = refl; line = refl }))))))))))
  where
    by_sign : (s : Option Text) → IsOneLineSign s → IsOneLine (unwrap_or s [])
    by_sign None i = refl
    by_sign (Some s) i = i

module _ (sig : Sig) (spelled : IsSpelledSignature sig) where
  -- the names and signs of a signature have no line feed
  pub spelled-lines : HasOneLines sig
  spelled-lines = record { ops = each_op sig.ops spelled.ops; kinds = (refl, each_kind sig.kinds spelled.kinds) }
    where
      each_op : (ds : List OpDecl) → AllByRecursion IsSpelledOp ds → AllByRecursion IsOneLineOp ds
      each_op [] h = tt
      each_op (d ∷ ds) h = (op-lines d h.0, each_op ds h.1)

      each_kind : (ks : List Kind) → AllByRecursion (λ k. is_name k.name ≡ true) ks
          → AllByRecursion IsOneLine (map (λ k. k.name) ks)
      each_kind [] h = tt
      each_kind (k ∷ ks) h = (name-line k.name h.0, each_kind ks h.1)

  pub op-declared : AllByRecursion (IsDeclaration (codes "op ")) (lines_of (flat_map op_text sig.ops))
  op-declared = declared-lines (codes "op ") op_text sig.ops refl
      (each sig.ops spelled.ops spelled.signature.least_counts)
    where
      each : (ds : List OpDecl) → AllByRecursion IsSpelledOp ds → list_all (λ d. nat_le d.least MAX_ARITY) ds ≡ true
          → AllByRecursion (λ d. IsStatement (codes "op ") (op_text d)) ds
      each [] h k = tt
      each (d ∷ ds) h k =
          let both = and_parts (nat_le d.least MAX_ARITY) (list_all (λ e. nat_le e.least MAX_ARITY) ds) k in
          let few : d.least ≤ MAX_ARITY = (let t = both.0 in grind (arith, nat_tests, t)) in
          (op-statement d (op-lines d h.0) few, each ds h.1 both.1)

-- ---- the parts of declarations

-- what begins with one word doesn't begin with the other
other-word : (l : Text) → IsDeclaration (codes "op ") l → (t : Text) → l ≡ codes "kind " ++ t → ⊥
other-word l d t e =
    (let wrong : true ≡ false = ap begins (sym d.1 ∙ e) in cc)
  where
    begins : Text → Bool
    begins [] = false
    begins (c ∷ cs) = nat_eq c 111

begins-byte : (b : ℕ) (ls : List Text) (l : Text) (ms : List Text) → begin_line_with b ls ≡ l ∷ ms
    → (m : Text) × (ls ≡ m ∷ ms) × (l ≡ b ∷ m)
begins-byte b [] l ms e = (let wrong : [] ≡ l ∷ ms = e in cc)
begins-byte b (m ∷ rest) l ms e =
    let all : (b ∷ m) ∷ rest ≡ l ∷ ms = e in
    let is : l ≡ b ∷ m = cc in
    let behind : rest ≡ ms = cc in
    (m, ap (λ t. m ∷ t) behind, is)

-- the first line begins with what stands before its end
front-word : (word t : Text) → IsOneLine word → (l : Text) (ms : List Text) → lines_of (word ++ t) ≡ l ∷ ms
    → (s : Text) × (l ≡ word ++ s)
front-word [] t h l ms e = (l, refl)
front-word (b ∷ word) t h l ms e =
    let both = or_parts (nat_eq b 10) (list_any (λ c. nat_eq c 10) word) h in
    let here : begin_line_with b (lines_of (word ++ t)) ≡ l ∷ ms =
    sym (ap (λ v. if v then [] ∷ lines_of (word ++ t) else begin_line_with b (lines_of (word ++ t))) both.0) ∙ e in
    let rest = begins-byte b (lines_of (word ++ t)) l ms here in
    let more = front-word word t both.1 rest.0 ms rest.1 in
    (more.0, rest.2 ∙ ap (λ s. b ∷ s) more.1)

-- the first line of declarations of kinds begins so
record BeginsKinds (ls : List Text) : Type 0 where
  first : (l : Text) (ms : List Text) → ls ≡ l ∷ ms → (t : Text) × (l ≡ codes "kind " ++ t)

kinds-begin : (ks : List Kind) → BeginsKinds (lines_of (flat_map kind_text ks))
kinds-begin [] = record { first = λ l ms e. (let wrong : [] ≡ l ∷ ms = e in cc) }
kinds-begin (k ∷ ks) = record {
  first = front-word (codes "kind ")
      (((k.name ++ codes ": ") ++ (separated (codes " ") k.members ++ codes ";\n")) ++ flat_map kind_text ks) refl;
}

-- lines of operations and of kinds behind them are so in one way
split-same : (xs ys zs ws : List Text) → AllByRecursion (IsDeclaration (codes "op ")) xs
    → AllByRecursion (IsDeclaration (codes "kind ")) ys → AllByRecursion (IsDeclaration (codes "op ")) zs
    → BeginsKinds ws → xs ++ ys ≡ zs ++ ws → (xs ≡ zs) × (ys ≡ ws)
split-same [] ys [] ws h k i j e = (refl, e)
split-same [] [] (z ∷ zs) ws h k i j e = (let wrong : [] ≡ z ∷ (zs ++ ws) = e in cc)
split-same [] (y ∷ ys) (z ∷ zs) ws h k i j e =
    let same : z ≡ y = (let all : y ∷ ys ≡ z ∷ (zs ++ ws) = e in cc) in
    absurd (other-word z i.0 (k.0.0 ++ codes ";") (same ∙ k.0.1))
split-same (x ∷ xs) ys [] ws h k i j e =
    let begin = j.first x (xs ++ ys) (sym e) in
    absurd (other-word x h.0 begin.0 begin.1)
split-same (x ∷ xs) ys (z ∷ zs) ws h k i j e =
    let all : x ∷ (xs ++ ys) ≡ z ∷ (zs ++ ws) = e in
    let here : x ≡ z = cc in
    let behind : xs ++ ys ≡ zs ++ ws = cc in
    let rest = split-same xs ys zs ws h.1 k i.1 j behind in
    ((λ n. here n ∷ rest.0 n), rest.1)

-- declarations of operations and of kinds are those of the signature where they are its lines
pub declared-parts : (sig : Sig) → IsSpelledSignature sig → (ops kinds : List Text)
    → AllByRecursion (IsDeclaration (codes "op ")) ops → AllByRecursion (IsDeclaration (codes "kind ")) kinds
    → ops ++ kinds ≡ lines_of (signature_text sig)
    → (ops ≡ lines_of (flat_map op_text sig.ops)) × (kinds ≡ lines_of (flat_map kind_text sig.kinds))
declared-parts sig spelled ops kinds h k e =
    split-same ops kinds (lines_of (flat_map op_text sig.ops)) (lines_of (flat_map kind_text sig.kinds)) h k
    (op-declared sig spelled) (kinds-begin sig.kinds)
    (e ∙ lines_of-append op_text sig.ops (flat_map kind_text sig.kinds) op-ended)
