-- An operation that is held is found by its name and by its sign, so that an application of it is read as it is
-- spelled.
use Rattle.std.proofs.Common.{◌≡◌, ℕ, zero, suc, ◌+◌, Bool, true, false, cond, leb, not, List, [], ◌∷◌, length, Option}
use Rattle.std.proofs.Common.{Some, None, refl, sym, ap, subst, ◌∙◌, arith, add-one}
use Rattle.std.specs.Prelude.{slice_get, option_map, position, is_some, unwrap_or}
use Rattle.std.specs.List.{list_all, AllByRecursion}
use Rattle.std.specs.Option.{option_map_or}
use Rattle.std.specs.Str.{bytes_eq}
use Rattle.std.proofs.lemmas.Bool.{leb-true, not-true, or_parts}
use Rattle.std.proofs.lemmas.Slice.Eq.{bytes_eq-Decides}
use Rattle.mp_io.specs.Devices.{Text}
use Rattle.mp_term.specs.declared.signature.OpDecl.{OpDecl}
use Rattle.mp_term.specs.Names.{are_distinct}
use Rattle.mp_term.specs.Signature.{Sig, has_name, is_that_sign, has_sign, shares_sign, clashes, none_clash, kind_names}
use Rattle.mp_term.proofs.SignatureLaws.{position-behind, position-first}
use Rattle.mp_term.proofs.NameLaws.{position-distinct, position-name}
use Rattle.mp_term.proofs.ListLaws.{all-get}
use Rattle.mp_pattern.specs.SoundRule.{HoldsOp, HoldsKind}
use Rattle.mp_print.specs.Printing.{kind_name_text}
use Rattle.mp_print.specs.PrintedCond.{op_name_text}
use Rattle.mp_parser.specs.Tokens.{first_place}
use Rattle.mp_parser.specs.Syntax.{Tree, Apply, InfixOf, Trees, no_trees, more_trees, tree_list, AreSeveral, Fits}
use Rattle.mp_parser.specs.Syntax.{AreFit, IsName, HasNames, HaveNames}
use Rattle.mp_build.specs.Build.{kind_number, op_number, sign_number}
use Rattle.mp_round_trip.specs.Spelled.{piece, application_spelling, held_spelling}
use Rattle.mp_text.proofs.DeclaredParts.{IsSomeSign, HasOpNames}
use Rattle.mp_build.proofs.Words.{first-of, second-of}

-- ---- operations that don't clash

-- a test that an operation passes, and no operation that doesn't clash with it
module _ (test : OpDecl → Bool) (d : OpDecl) (passes : test d ≡ true)
    (others : (e : OpDecl) → clashes d e ≡ false → test e ≡ false) where
  -- an operation doesn't clash with a later one
  apart-at : (e : OpDecl) (ds : List OpDecl) (i : ℕ) → list_all (λ c. not (clashes c e)) ds ≡ true
      → slice_get ds i ≡ Some d → clashes d e ≡ false
  apart-at e [] i h here = cc
  apart-at e (c ∷ ds) zero h here =
      let same : c ≡ d = cc in
      subst (λ x. clashes x e ≡ false) same
      (not-true (clashes c e) (first-of (not (clashes c e)) (list_all (λ c. not (clashes c e)) ds) h))
  apart-at e (c ∷ ds) (suc i) h here = apart-at e ds i
      (second-of (not (clashes c e)) (list_all (λ c. not (clashes c e)) ds) h) here

  -- it is the first one that passes, where none clash
  position-held : (ds : List OpDecl) (i : ℕ) → none_clash ds ≡ true → slice_get ds i ≡ Some d
      → position test ds ≡ Some i
  position-held [] i h here = cc
  position-held (e ∷ ds) zero h here =
      let same : d ≡ e = cc in
      position-first test e ds (subst (λ x. test x ≡ true) same passes)
  position-held (e ∷ ds) (suc i) h here =
      position-behind test e ds
      (others e (apart-at e ds i (first-of (list_all (λ c. not (clashes c e)) ds) (none_clash ds) h) here))
      ∙ ap (option_map (λ k. k + 1))
      (position-held ds i (second-of (list_all (λ c. not (clashes c e)) ds) (none_clash ds) h) here)
      ∙ ap Some (add-one i)

bytes_eq-itself : (bytes : List ℕ) → bytes_eq bytes bytes ≡ true
bytes_eq-itself bytes = (bytes_eq-Decides bytes bytes).1 refl

-- the first operation of the name of one is that one
pub position-has_name : (ds : List OpDecl) (i : ℕ) (d : OpDecl) → none_clash ds ≡ true → slice_get ds i ≡ Some d
    → position (has_name d.name) ds ≡ Some i
position-has_name ds i d h here = position-held (has_name d.name) d (bytes_eq-itself d.name)
    (λ e apart. (or_parts (has_name d.name e) (shares_sign d.sign e) apart).0) ds i h here

-- the first operation of the sign of one is that one
pub position-has_sign : (ds : List OpDecl) (i : ℕ) (d : OpDecl) (sign : Text) → none_clash ds ≡ true
    → slice_get ds i ≡ Some d → d.sign ≡ Some sign → position (has_sign sign) ds ≡ Some i
position-has_sign ds i d sign h here e =
    position-held (has_sign sign) d (ap (is_that_sign sign) e ∙ bytes_eq-itself sign)
    (λ c apart. ap (λ o. shares_sign o c) (sym e) ∙ (or_parts (has_name d.name c) (shares_sign d.sign c) apart).1) ds i
    h here

-- ---- signatures and symbols that have a spelling

-- the operations have names and signs, and no two clash; the kinds have names, and no two have one
pub record HasOps (sig : Sig) : Type 0 where
  pub apart : none_clash sig.ops ≡ true
  pub named : AllByRecursion HasOpNames sig.ops
  pub kinds_apart : are_distinct (kind_names sig) ≡ true
  pub kinds_named : AllByRecursion IsName (kind_names sig)

-- the name of a kind that is found by a name
pub kind_name_text-found : (sig : Sig) (name : Text) (k : ℕ) → kind_number sig name ≡ Some k
    → kind_name_text sig k ≡ name
kind_name_text-found sig name k h = ap (λ o. unwrap_or o []) (position-name name (kind_names sig) k h)

-- a kind with a name, by which it is found
pub record IsHeldKind (sig : Sig) (k : ℕ) : Type 0 where
  pub name : IsName (kind_name_text sig k)
  pub found : kind_number sig (kind_name_text sig k) ≡ Some k

pub held-kind : (sig : Sig) → HasOps sig → (k : ℕ) → HoldsKind sig k → IsHeldKind sig k
held-kind sig h k held = go (slice_get (kind_names sig) k) refl held
  where
    go : (o : Option Text) → slice_get (kind_names sig) k ≡ o → is_some o ≡ true → IsHeldKind sig k
    go None e s = cc
    go (Some n) e s =
        let text : kind_name_text sig k ≡ n = ap (λ o. unwrap_or o []) e in
        record {
          name = subst IsName (sym text) (all-get IsName (kind_names sig) k n h.kinds_named e);
          found = ap (kind_number sig) text ∙ position-distinct (kind_names sig) k n h.kinds_apart e;
        }

-- the operation of a number that is held has a name, by which it is found
pub record IsHeldOp (sig : Sig) (f : ℕ) : Type 0 where
  pub name : IsName (op_name_text sig f)
  pub found : op_number sig (op_name_text sig f) ≡ Some f

pub held-op : (sig : Sig) → HasOps sig → (f : ℕ) → HoldsOp sig f → IsHeldOp sig f
held-op sig h f held = go (slice_get sig.ops f) refl held
  where
    go : (o : Option OpDecl) → slice_get sig.ops f ≡ o → is_some o ≡ true → IsHeldOp sig f
    go None e s = cc
    go (Some d) e s =
        let text : op_name_text sig f ≡ d.name = ap (λ o. option_map_or (λ d. d.name) o []) e in
        record {
          name = subst IsName (sym text) (all-get HasOpNames sig.ops f d h.named e).name;
          found = ap (op_number sig) text ∙ position-has_name sig.ops f d h.apart e;
        }

-- ---- applications

-- two expressions or more
several : (ts : Trees) → leb 2 (length (tree_list ts)) ≡ true → AreSeveral ts
several no_trees h = absurd (omega (arith, leb-true 2 0 h))
several (more_trees t no_trees) h = absurd (omega (arith, leb-true 2 1 h))
several (more_trees t (more_trees u us)) h = tt

-- what holds of an operation before its arguments, and between two arguments or more where it has a sign, holds of it
-- as it is spelled
pub held_spelling-cases : (P : Tree → Type 0) (o : Option OpDecl) (d : OpDecl) (ts : Trees) → o ≡ Some d
    → P (Apply (piece d.name) ts)
    → ((sign : Text) → d.sign ≡ Some sign → AreSeveral ts → P (InfixOf first_place (piece sign) ts))
    → P (held_spelling o ts)
held_spelling-cases P o d ts here before between = subst (λ o. P (held_spelling o ts)) (sym here) (by_sign d.sign refl)
  where
    by_count : (sign : Text) (v : Bool) → d.sign ≡ Some sign → leb 2 (length (tree_list ts)) ≡ v
        → P (cond v (InfixOf first_place (piece sign) ts) (Apply (piece d.name) ts))
    by_count sign true e h = between sign e (several ts h)
    by_count sign false e h = before

    by_sign : (sign : Option Text) → d.sign ≡ sign → P (application_spelling d sign ts)
    by_sign None e = before
    by_sign (Some sign) e = by_count sign (leb 2 (length (tree_list ts))) e refl

-- an application of an operation that is held, as it is spelled
module _ (sig : Sig) (h : HasOps sig) (f : ℕ) (d : OpDecl) (here : slice_get sig.ops f ≡ Some d) where
  -- the operation is found by its name
  pub op_number-held : op_number sig d.name ≡ Some f
  op_number-held = position-has_name sig.ops f d h.apart here

  -- the operation is found by its sign
  pub sign_number-held : (sign : Text) → d.sign ≡ Some sign → sign_number sig sign ≡ Some f
  sign_number-held sign e = position-has_sign sig.ops f d sign h.apart here e

  -- its names and signs
  pub HasNames-held : (ts : Trees) → HaveNames ts → HasNames (held_spelling (slice_get sig.ops f) ts)
  HasNames-held ts names =
      let own = all-get HasOpNames sig.ops f d h.named here in
      held_spelling-cases HasNames (slice_get sig.ops f) d ts here (own.name, names)
      (λ sign e some. (subst IsSomeSign e own.sign, names))

  -- its brackets
  pub Fits-held : (room : ℕ) (ts : Trees) → AreFit room ts → Fits (suc room) (held_spelling (slice_get sig.ops f) ts)
  Fits-held room ts fit = held_spelling-cases (Fits (suc room)) (slice_get sig.ops f) d ts here fit
      (λ sign e some. (some, fit))
