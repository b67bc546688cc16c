-- What the statements declare: names and counts of operations and kinds, statement by statement.
use Rattle.std.proofs.Common.{◌≡◌, ℕ, Bool, ◌||◌, List, [], ◌∷◌, ◌++◌, map, length, append-nil, Result, Ok, Err, refl}
use Rattle.std.proofs.Common.{◌+◌, ◌<◌, take, get_or, add-one, sym, ap, ◌∙◌, subst}
use Rattle.std.specs.Prelude.{Option, position, is_some, option_map}
use Rattle.std.specs.List.{list_any}
use Rattle.std.specs.Str.{bytes_eq}
use Rattle.std.proofs.lemmas.List.{map-append}
use Rattle.std.proofs.Math.Seq.{take-suc}
use Rattle.std.proofs.lemmas.Slice.Eq.{bytes_eq-Decides}
use Rattle.std.proofs.lemmas.Bool.Decides.{same_from_decides}
use Rattle.mp_term.specs.declared.signature.OpDecl.{OpDecl}
use Rattle.mp_term.specs.Names.{name_set}
use Rattle.mp_term.specs.Signature.{Sig, Kind, has_name, has_sign}
use Rattle.mp_term.proofs.SignatureLaws.{is_some-position, is_some-option_map}
use Rattle.mp_parser.specs.declared.word.Word.{Word}
use Rattle.mp_parser.specs.declared.tree.Statement as code
use Rattle.mp_parser.specs.declared.tree.Statement.TheVariants as statements
use Rattle.mp_parser.specs.declared.tree.Flag as code_flag
use Rattle.mp_parser.specs.View.{statement_tree}
use Rattle.std.specs.Global.{Vec}
use Rattle.mp_parser.specs.Syntax.{Spot, Flag, Statement, OpOf, KindOf, RuleOf, SubjectOf, EditOf}
use Rattle.mp_build.specs.declared.fault.TextFault.{TextFault}
use Rattle.mp_build.specs.declared.fault.TextError.{TextError}
use Rattle.mp_build.specs.Answers.{Gives}
use Rattle.mp_build.specs.Checks.{op_faults, kind_faults, op_statement_faults, kind_statement_faults}
use Rattle.mp_build.specs.Names.{is_among}
use Rattle.mp_build.specs.Build.{op_decl, op_decls, kind_decl, kind_decls, sig_with}

-- ---- equal bytes

-- equality of bytes in the other order
pub bytes_eq_comm : (a b : List ℕ) → bytes_eq a b ≡ bytes_eq b a
bytes_eq_comm a b =
    let d = bytes_eq-Decides b a in
    same_from_decides (bytes_eq a b) (bytes_eq b a) (bytes_eq-Decides a b) (λ h. sym (d.0 h), λ h. d.1 (sym h))

-- ---- names that are held

-- a name that equals one of the names is among them
pub is_among-list_any : (name : List ℕ) (names : List (List ℕ)) → list_any (bytes_eq name) names ≡ is_among name names
is_among-list_any name [] = refl
is_among-list_any name (n ∷ ns) = ap (λ b. b || list_any (bytes_eq name) ns) (bytes_eq_comm name n)
    ∙ ap (λ b. bytes_eq n name || b) (is_among-list_any name ns)

-- an operation has the name exactly where that is among the operations' names
pub is_among-has_name : (name : List ℕ) (ds : List OpDecl)
    → list_any (has_name name) ds ≡ is_among name (map (λ d. d.name) ds)
is_among-has_name name [] = refl
is_among-has_name name (d ∷ ds) = ap (λ b. b || list_any (has_name name) ds) (bytes_eq_comm name d.name)
    ∙ ap (λ b. bytes_eq d.name name || b) (is_among-has_name name ds)

-- an operation is found exactly where its name is held
pub is_some-found_op : {X : Type 0} (f : X → ℕ) (found : Option X) (name : List ℕ) (ds : List OpDecl)
    → option_map f found ≡ position (has_name name) ds → is_some found ≡ is_among name (map (λ d. d.name) ds)
is_some-found_op f found name ds h = sym (is_some-option_map f found) ∙ ap is_some h
    ∙ is_some-position (has_name name) ds ∙ is_among-has_name name ds

-- an operation is found exactly where its sign is held
pub is_some-found_sign : {X : Type 0} (f : X → ℕ) (found : Option X) (sign : List ℕ) (ds : List OpDecl)
    → option_map f found ≡ position (has_sign sign) ds → is_some found ≡ list_any (has_sign sign) ds
is_some-found_sign f found sign ds h = sym (is_some-option_map f found) ∙ ap is_some h
    ∙ is_some-position (has_sign sign) ds

-- a name is found exactly where it is held
pub is_some-found : (found : Option ℕ) (name : List ℕ) (names : List (List ℕ)) → found ≡ position (bytes_eq name) names
    → is_some found ≡ is_among name names
is_some-found found name names h = ap is_some h ∙ is_some-position (bytes_eq name) names ∙ is_among-list_any name names

-- a kind is found exactly where its name is held
pub is_some-found_kind : {X : Type 0} (f : X → ℕ) (found : Option X) (name : List ℕ) (names : List (List ℕ))
    → option_map f found ≡ position (bytes_eq name) names → is_some found ≡ is_among name names
is_some-found_kind f found name names h = sym (is_some-option_map f found)
    ∙ is_some-found (option_map f found) name names h

-- ---- operations and kinds

-- the operations of statements in two parts
pub op_decls-append : (a b : List Statement) → op_decls (a ++ b) ≡ op_decls a ++ op_decls b
op_decls-append [] b = refl
op_decls-append (OpOf name least more flags ∷ ss) b = ap (λ l. op_decl name least more flags ∷ l) (op_decls-append ss b)
op_decls-append (KindOf name members ∷ ss) b = op_decls-append ss b
op_decls-append (RuleOf name p x c ∷ ss) b = op_decls-append ss b
op_decls-append (SubjectOf name t ∷ ss) b = op_decls-append ss b
op_decls-append (EditOf subject changes ∷ ss) b = op_decls-append ss b

-- the kinds of statements in two parts
pub kind_decls-append : (a b : List Statement) → kind_decls (a ++ b) ≡ kind_decls a ++ kind_decls b
kind_decls-append [] b = refl
kind_decls-append (OpOf name least more flags ∷ ss) b = kind_decls-append ss b
kind_decls-append (KindOf name members ∷ ss) b = ap (λ l. kind_decl name members ∷ l) (kind_decls-append ss b)
kind_decls-append (RuleOf name p x c ∷ ss) b = kind_decls-append ss b
kind_decls-append (SubjectOf name t ∷ ss) b = kind_decls-append ss b
kind_decls-append (EditOf subject changes ∷ ss) b = kind_decls-append ss b

-- a statement that declares no operation adds none
pub op_decls-other : (ss : List Statement) (s : Statement) → op_decls (s ∷ []) ≡ []
    → op_decls (ss ++ s ∷ []) ≡ op_decls ss
op_decls-other ss s h = op_decls-append ss (s ∷ []) ∙ ap (λ l. op_decls ss ++ l) h ∙ append-nil (op_decls ss)

-- a statement that declares no kind adds none
pub kind_decls-other : (ss : List Statement) (s : Statement) → kind_decls (s ∷ []) ≡ []
    → kind_decls (ss ++ s ∷ []) ≡ kind_decls ss
kind_decls-other ss s h = kind_decls-append ss (s ∷ []) ∙ ap (λ l. kind_decls ss ++ l) h ∙ append-nil (kind_decls ss)

-- the kinds of this signature
abbrev with_kinds : List OpDecl → List Kind → Sig
with_kinds ds ks = record { ops = ds; kinds = ks }

-- a statement that is no operation's has no fault as one, and declares none
pub no_op : (s : code.Statement) → ((name least : Word) (more : Bool) (flags : Vec code_flag.Flag)
    → s ≡ statements.Op name least more flags → ⊥) → (earlier : List Statement)
    → (op_statement_faults earlier (statement_tree s) ≡ []) × (op_decls (statement_tree s ∷ []) ≡ [])
no_op (statements.Op name least more flags) other earlier = absurd (other name least more flags refl)
no_op (statements.Kind name members) other earlier = (refl, refl)
no_op (statements.Rule name p x c) other earlier = (refl, refl)
no_op (statements.Subject name t) other earlier = (refl, refl)
no_op (statements.Edit subject changes) other earlier = (refl, refl)

-- a statement that is no kind's has no fault as one, and declares none
pub no_kind : (s : code.Statement) → ((name : Word) (members : Vec Word) → s ≡ statements.Kind name members → ⊥)
    → (ds : List OpDecl) (earlier : List Statement)
    → (kind_statement_faults ds earlier (statement_tree s) ≡ []) × (kind_decls (statement_tree s ∷ []) ≡ [])
no_kind (statements.Op name least more flags) other ds earlier = (refl, refl)
no_kind (statements.Kind name members) other ds earlier = absurd (other name members refl)
no_kind (statements.Rule name p x c) other ds earlier = (refl, refl)
no_kind (statements.Subject name t) other ds earlier = (refl, refl)
no_kind (statements.Edit subject changes) other ds earlier = (refl, refl)

-- the statements so far and one more
pub so_far-item : (ss : List code.Statement) (i : ℕ) (s : code.Statement) → i < length ss → s ≡ get_or ss i s
    → map statement_tree (take (i + 1) ss) ≡ map statement_tree (take i ss) ++ statement_tree s ∷ []
so_far-item ss i s within is = ap (λ n. map statement_tree (take n ss)) (add-one i)
    ∙ ap (map statement_tree) (take-suc ss i s within ∙ ap (λ x. take i ss ++ x ∷ []) (sym is))
    ∙ map-append statement_tree (take i ss) (s ∷ [])

-- another fact of the value
gives-map : {T : Type 0} (r : Result T TextError) (fs : List TextFault) (P Q : T → Type 0) → ((v : T) → P v → Q v)
    → Gives r fs P → Gives r fs Q
gives-map (Ok v) fs P Q step g = (g.0, step v g.1)
gives-map (Err e) fs P Q step g = g

-- what declaring an operation gives, over the signature of the statements before
pub gives-OpOf : (sig new : Sig) (ss : List Statement) (name least : Spot) (more : Bool) (flags : List Flag)
    (r : Result (Unit {0}) TextError) → sig ≡ sig_with (op_decls ss) []
    → Gives r (op_faults sig.ops name least more flags)
    (λ _. new ≡ record sig { ops = sig.ops ++ op_decl name least more flags ∷ [] })
    → Gives r (op_faults (op_decls ss) name least more flags)
    (λ _. new ≡ sig_with (op_decls (ss ++ OpOf name least more flags ∷ [])) [])
gives-OpOf sig new ss name least more flags r h g =
    let P : Sig → Type 0 = λ s. Gives r (op_faults s.ops name least more flags)
    (λ _. new ≡ record s { ops = s.ops ++ op_decl name least more flags ∷ [] }) in
    gives-map r (op_faults (op_decls ss) name least more flags)
    (λ _. new ≡ with_kinds (op_decls ss ++ op_decl name least more flags ∷ []) [])
    (λ _. new ≡ sig_with (op_decls (ss ++ OpOf name least more flags ∷ [])) [])
    (λ _ e. e ∙ ap (λ l. sig_with l []) (sym (op_decls-append ss (OpOf name least more flags ∷ [])))) (subst P h g)

-- what declaring a kind gives, over the signature of the operations and of the statements before
pub gives-KindOf : (sig new : Sig) (ds : List OpDecl) (ss : List Statement) (name : Spot) (members : List Spot)
    (r : Result (Unit {0}) TextError) → sig ≡ sig_with ds ss
    → Gives r (kind_faults sig name members)
    (λ _. new ≡ record sig { kinds = sig.kinds ++ kind_decl name members ∷ [] })
    → Gives r (kind_faults (sig_with ds ss) name members) (λ _. new ≡ sig_with ds (ss ++ KindOf name members ∷ []))
gives-KindOf sig new ds ss name members r h g =
    let P : Sig → Type 0 = λ s. Gives r (kind_faults s name members)
    (λ _. new ≡ record s { kinds = s.kinds ++ kind_decl name members ∷ [] }) in
    gives-map r (kind_faults (sig_with ds ss) name members)
    (λ _. new ≡ with_kinds ds (kind_decls ss ++ kind_decl name members ∷ []))
    (λ _. new ≡ sig_with ds (ss ++ KindOf name members ∷ []))
    (λ _ e. e ∙ ap (with_kinds ds) (sym (kind_decls-append ss (KindOf name members ∷ [])))) (subst P h g)

-- the kind that is added
pub kind_added : (sig new : Sig) (word : List ℕ) (names : List (List ℕ)) (name : Spot) (members : List Spot)
    → new ≡ record sig { kinds = sig.kinds ++ record { name = word; members = name_set names } ∷ [] }
    → word ≡ name.text → names ≡ map (λ m. m.text) members
    → new ≡ record sig { kinds = sig.kinds ++ kind_decl name members ∷ [] }
kind_added sig new word names name members added w m =
    let kind : List ℕ → List (List ℕ) → Kind = λ x y. record { name = x; members = name_set y } in
    let with_kind : Kind → Sig = λ k. record sig { kinds = sig.kinds ++ k ∷ [] } in
    added ∙ ap (λ x. with_kind (kind x names)) w ∙ ap (λ y. with_kind (kind name.text y)) m
