-- The text of resume tokens.
use Rattle.std.specs.Prelude.{ℕ, Bool, List, [], ◌++◌, map, if◌then◌else◌, codes, decimal}
use Rattle.std.specs.List.{join_with_byte}
use Rattle.mp_io.specs.Devices.{Text}
use Rattle.mp_io.specs.Printing.{gap_text}
use Rattle.mp_table.specs.declared.rank.Rank.{Rank}
use Rattle.mp_token.specs.Entry.{Entry}
use Rattle.mp_token.specs.declared.token.Token.{Token}

-- the ranks in decimal, with a comma, byte 44, between each two
abbrev pub ranks_text : List Rank → Text
ranks_text rs = join_with_byte 44 (map (λ r. decimal r.0) rs)

-- `!`, where an entry is collapsed
abbrev pub mark_text : Bool → Text
mark_text collapsed = if collapsed then codes "!" else []

-- the ranks, and behind them the mark
abbrev pub entry_text : Entry → Text
entry_text e = ranks_text e.0 ++ mark_text e.1

-- the entries, with a semicolon, byte 59, between each two
abbrev pub entries_text : List Entry → Text
entries_text es = join_with_byte 59 (map entry_text es)

-- SUBJECT/RULE/ and the entries
abbrev pub front_text : Text → Text → List Entry → Text
front_text subject rule es = subject ++ (codes "/" ++ (rule ++ (codes "/" ++ entries_text es)))

-- the text of a token
abbrev pub token_text : Token → Text
token_text t = front_text t.subject t.rule t.entries

-- the entry of an index, and the semicolon before it where it isn't the first
abbrev pub next_entry_text : ℕ → Entry → Text
next_entry_text index e = gap_text (codes ";") index ++ entry_text e
