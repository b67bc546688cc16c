-- Computed examples of the definitions.
use Rattle.std.proofs.Common.{◌≡◌, ℕ, Bool, List, [], ◌∷◌, true, false, refl}
use Rattle.std.specs.Prelude.{Some, None, codes}
use Rattle.std.specs.declared.cmp.Ordering.TheVariants.{Less, Greater}
use Rattle.mp_term.specs.declared.signature.OpDecl.{OpDecl}
use Rattle.mp_term.specs.declared.signature.SigFault.TheVariants.{DuplicateName, BadFlags}
use Rattle.mp_term.specs.Tree.{Tree, symbol, app, trees}
use Rattle.mp_term.specs.Size.{node_count, depth}
use Rattle.mp_term.specs.Order.{tree_cmp}
use Rattle.mp_term.specs.Names.{is_name, is_sign, name_set}
use Rattle.mp_term.specs.Signature.{Sig, is_number, in_kind, op_fault, kind_fault, well_formed}
use Rattle.mp_term.specs.Positions.{subterm}
use Rattle.mp_term.specs.Normal.{normal}

-- an operation of one argument or more, associative, commutative and one-identity, with the sign +
abbrev pub plus_decl : OpDecl
plus_decl = record {
  name = codes "plus";
  least = 1;
  fixed = false;
  assoc = true;
  comm = true;
  one = true;
  sign = Some (codes "+");
}

-- an operation without flags and without a sign
abbrev pub plain_decl : List ℕ → ℕ → Bool → OpDecl
plain_decl n k e = record { name = n; least = k; fixed = e; assoc = false; comm = false; one = false; sign = None }

-- an operation of two arguments
abbrev pub pair_decl : OpDecl
pair_decl = plain_decl (codes "pair") 2 true

-- both operations, and a kind of two symbols
abbrev pub example : Sig
example = record {
  ops = plus_decl ∷ pair_decl ∷ [];
  kinds = record { name = codes "letter"; members = codes "a" ∷ codes "b" ∷ [] } ∷ [];
}

abbrev pub plus : List Tree → Tree
plus ts = app 0 (trees ts)

abbrev pub pair : Tree → Tree → Tree
pair t u = app 1 (trees (t ∷ u ∷ []))

abbrev pub a : Tree
a = symbol (codes "a")

abbrev pub b : Tree
b = symbol (codes "b")

abbrev pub c : Tree
c = symbol (codes "c")

-- plus(b, (c + a)) is (a + b + c)
normal-flattens_and_sorts : normal example (plus (b ∷ plus (c ∷ a ∷ []) ∷ [])) ≡ plus (a ∷ b ∷ c ∷ [])
normal-flattens_and_sorts = refl

-- plus(plus(b)) is b
normal-collapses : normal example (plus (plus (b ∷ []) ∷ [])) ≡ b
normal-collapses = refl

-- pair(b, a) stays
normal-keeps_order : normal example (pair b a) ≡ pair b a
normal-keeps_order = refl

-- arguments are normalised first: pair(plus(c, a), plus(b))
normal-below : normal example (pair (plus (c ∷ a ∷ [])) (plus (b ∷ []))) ≡ pair (plus (a ∷ c ∷ [])) b
normal-below = refl

-- a symbol comes before an application, and one operation before a later one
symbols_first : tree_cmp c (plus (a ∷ [])) ≡ Less
symbols_first = refl

-- fewer arguments come first, whatever they are
fewer_arguments_first : tree_cmp (plus (a ∷ a ∷ [])) (plus (c ∷ [])) ≡ Greater
fewer_arguments_first = refl

-- (a + b) before (a + c)
arguments_from_the_left : tree_cmp (plus (a ∷ b ∷ [])) (plus (a ∷ c ∷ [])) ≡ Less
arguments_from_the_left = refl

sizes : node_count (pair (plus (c ∷ a ∷ [])) b) ≡ 5
sizes = refl

depths : depth (pair (plus (c ∷ a ∷ [])) b) ≡ 2
depths = refl

depth-no_arguments : depth (plus []) ≡ 1
depth-no_arguments = refl

-- the second argument of the first argument
subterm-below : subterm (pair (plus (c ∷ a ∷ [])) b) (0 ∷ 1 ∷ []) ≡ Some a
subterm-below = refl

subterm-root : subterm a [] ≡ Some a
subterm-root = refl

no_subterm-past_arguments : subterm (pair a b) (2 ∷ []) ≡ None
no_subterm-past_arguments = refl

no_subterm-below_symbol : subterm (pair a b) (0 ∷ 0 ∷ []) ≡ None
no_subterm-below_symbol = refl

well_formed-count : well_formed example (pair a (plus (b ∷ []))) ≡ true
well_formed-count = refl

not_well_formed-count : well_formed example (pair a (plus [])) ≡ false
not_well_formed-count = refl

not_well_formed-operation : well_formed example (app 2 (trees [])) ≡ false
not_well_formed-operation = refl

empty_is_no_name : is_name [] ≡ false
empty_is_no_name = refl

letters_and_digits : is_name (codes "a1Z") ≡ true
letters_and_digits = refl

sign-characters : is_sign (codes "<=>") ≡ true
sign-characters = refl

arrow_is_no_sign : is_sign (codes "->") ≡ false
arrow_is_no_sign = refl

five_characters_are_no_sign : is_sign (codes "+++++") ≡ false
five_characters_are_no_sign = refl

digits_are_a_number : is_number (codes "042") ≡ true
digits_are_a_number = refl

empty_is_no_number : is_number [] ≡ false
empty_is_no_number = refl

letter_is_no_number : is_number (codes "4a") ≡ false
letter_is_no_number = refl

members_of_a_kind : in_kind example 1 b ≡ true
members_of_a_kind = refl

others_are_not : in_kind example 1 c ≡ false
others_are_not = refl

no_kind_of_that_number : in_kind example 2 a ≡ false
no_kind_of_that_number = refl

ascending_once : name_set (codes "b" ∷ codes "a" ∷ codes "b" ∷ []) ≡ codes "a" ∷ codes "b" ∷ []
ascending_once = refl

-- a held name is refused first, also where the flags are wrong
held_name_first : op_fault example
    (record { name = codes "pair"; least = 2; fixed = true; assoc = true; comm = false; one = false; sign = None })
    ≡ Some DuplicateName
held_name_first = refl

held_sign : op_fault example
    (record {
      name = codes "sum";
      least = 0;
      fixed = false;
      assoc = false;
      comm = false;
      one = false;
      sign = Some (codes "+");
    }) ≡ Some DuplicateName
held_sign = refl

-- a fixed count isn't associative
fixed_is_not_associative : op_fault example
    (record { name = codes "f"; least = 2; fixed = true; assoc = true; comm = false; one = false; sign = None })
    ≡ Some BadFlags
fixed_is_not_associative = refl

-- a sign needs two arguments, where their count is fixed
sign_of_one_argument : op_fault example
    (record {
      name = codes "f";
      least = 1;
      fixed = true;
      assoc = false;
      comm = false;
      one = false;
      sign = Some (codes "-");
    }) ≡ Some BadFlags
sign_of_one_argument = refl

in_order_is_added : op_fault example
    (record { name = codes "f"; least = 2; fixed = false; assoc = true; comm = false; one = false; sign = None }) ≡ None
in_order_is_added = refl

-- the kind of numbers is built in
num_is_held : kind_fault example (codes "num") ≡ Some DuplicateName
num_is_held = refl
