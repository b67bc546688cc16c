-- The token of a match, as it is computed.
use Rattle.std.specs.Prelude.{ℕ, List, ◌∷◌, map, Option, Some, None}
use Rattle.std.specs.List.{dedup}
use Rattle.std.specs.Ordering.{eq_by_cmp}
use Rattle.mp_io.specs.Devices.{Text}
use Rattle.mp_term.specs.Tree.{Tree}
use Rattle.mp_term.specs.Order.{tree_cmp}
use Rattle.mp_term.specs.Sorting.{sorted}
use Rattle.mp_pattern.specs.Fits as fits
use Rattle.mp_pattern.specs.Constants.{rule_constants}
use Rattle.mp_table.specs.Preorder.{all_preorder}
use Rattle.mp_table.specs.Table.{Table, rank_of}
use Rattle.mp_table.specs.declared.rank.Rank.{Rank}
use Rattle.mp_token.specs.Entry.{Entry}
use Rattle.mp_token.specs.TokenText.{front_text}
use Rattle.mp_matches.specs.Match.{Match}

-- the number that is there, and else 0
abbrev pub number_or_0 : Option ℕ → ℕ
number_or_0 None = 0
number_or_0 (Some n) = n

-- the table of a subject and of constants
abbrev pub table_of : Tree → List Tree → Table
table_of subject constants =
    let terms = dedup (eq_by_cmp tree_cmp) (sorted tree_cmp (all_preorder (subject ∷ constants))) in
    record { terms = terms; root = number_or_0 (rank_of (record { terms = terms; root = 0 }) subject) }

-- the rank of a term that the table holds
abbrev pub rank_in : Table → Tree → Rank
rank_in table u = record { 0 = number_or_0 (rank_of table u) }

-- what a node takes, by ranks
abbrev pub entry_in : Table → fits.Entry → Entry
entry_in table e = (map (rank_in table) e.terms, e.collapsed)

-- the match's token
abbrev pub token_of : Match → Text
token_of m = front_text m.subject.name m.rule.name
    (map (entry_in (table_of m.subject.term (rule_constants m.rule))) m.table)
