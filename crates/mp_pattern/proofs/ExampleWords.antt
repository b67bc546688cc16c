-- The signature, terms and patterns of the computed examples.
use Rattle.std.proofs.Common.{ℕ, List, [], ◌∷◌, true, false}
use Rattle.std.specs.Prelude.{None, Some, codes}
use Rattle.mp_term.specs.Tree.{Tree, symbol, app, trees}
use Rattle.mp_term.specs.Signature.{Sig}
use Rattle.mp_term.proofs.Examples.{plain_decl}
use Rattle.mp_pattern.specs.PatternTree.{Wildcard, Pattern, symbol_pattern, app_pattern, wild_pattern, patterns}
use Rattle.mp_pattern.specs.Value.{Value, Binding}
use Rattle.mp_pattern.specs.Fits.{Entry}

-- op f 0+; op set 0+ comm; op list 0+ assoc; op sum 0+ assoc comm one; op product 0+ assoc comm one; kind v: x y;
abbrev pub sig : Sig
sig = record {
  ops =
      plain_decl (codes "f") 0 false
      ∷ record { name = codes "set"; least = 0; fixed = false; assoc = false; comm = true; one = false; sign = None }
      ∷ record { name = codes "list"; least = 0; fixed = false; assoc = true; comm = false; one = false; sign = None }
      ∷ record { name = codes "sum"; least = 0; fixed = false; assoc = true; comm = true; one = true; sign = None }
      ∷ record { name = codes "product"; least = 0; fixed = false; assoc = true; comm = true; one = true; sign = None }
      ∷ [];
  kinds = record { name = codes "v"; members = codes "x" ∷ codes "y" ∷ [] } ∷ [];
}

-- the operations by their numbers
abbrev pub f : ℕ
f = 0

abbrev pub set : ℕ
set = 1

abbrev pub list : ℕ
list = 2

abbrev pub sum : ℕ
sum = 3

abbrev pub product : ℕ
product = 4

-- the kinds by theirs
abbrev pub num : ℕ
num = 0

abbrev pub v : ℕ
v = 1

-- an operation of terms, and of patterns
abbrev pub term : ℕ → List Tree → Tree
term g ts = app g (trees ts)

abbrev pub pattern : ℕ → List Pattern → Pattern
pattern g ps = app_pattern g (patterns ps)

abbrev pub a : Tree
a = symbol (codes "a")

abbrev pub b : Tree
b = symbol (codes "b")

abbrev pub c : Tree
c = symbol (codes "c")

abbrev pub d : Tree
d = symbol (codes "d")

abbrev pub nought : Tree
nought = symbol (codes "0")

-- the symbol a as a pattern
abbrev pub a_pattern : Pattern
a_pattern = symbol_pattern (codes "a")

-- the wildcards of the variables x, y and z, and one without a name
abbrev pub x_ : Wildcard → Pattern
x_ w = wild_pattern w (Some (codes "x"))

abbrev pub y_ : Wildcard → Pattern
y_ w = wild_pattern w (Some (codes "y"))

abbrev pub z_ : Wildcard → Pattern
z_ w = wild_pattern w (Some (codes "z"))

abbrev pub unnamed : Wildcard → Pattern
unnamed w = wild_pattern w None

-- the bindings of x, y and z
abbrev pub x→ : Value → Binding
x→ w = record { name = codes "x"; value = w }

abbrev pub y→ : Value → Binding
y→ w = record { name = codes "y"; value = w }

abbrev pub z→ : Value → Binding
z→ w = record { name = codes "z"; value = w }

-- the entry of a node that takes the list, by arguments or collapsed
abbrev pub entry : List Tree → Entry
entry l = record { terms = l; collapsed = false }

abbrev pub collapsed_entry : List Tree → Entry
collapsed_entry l = record { terms = l; collapsed = true }
