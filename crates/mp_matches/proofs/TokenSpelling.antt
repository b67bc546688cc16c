-- The token of a match of a sound rule on a sound subject is spelt as one.
use Rattle.std.proofs.Common.{◌≡◌, ◌<◌, ◌≤◌, ◌+◌, ◌^◌, ℕ, suc, List, [], ◌∷◌, true, false, Bool, map, length, refl, ap}
use Rattle.std.proofs.Common.{sym, cond, subst, inl, inr, arith, append-nil}
use Rattle.std.specs.Prelude.{Contains, Option, None}
use Rattle.std.specs.Ordering.{eq_by_cmp}
use Rattle.std.specs.List.{AllByRecursion, dedup, dedup_from}
use Rattle.std.proofs.lemmas.List.{length-map}
use Rattle.mp_term.specs.Listing.{In, IsListing}
use Rattle.mp_term.specs.Order.{tree_cmp}
use Rattle.mp_term.specs.OrderLaws.{tree_cmp_total}
use Rattle.mp_term.specs.Signature.{Sig}
use Rattle.mp_term.specs.Size.{all_nodes, node_count}
use Rattle.mp_term.specs.Sorting.{sorted}
use Rattle.mp_term.specs.Tree.{Tree}
use Rattle.mp_term.proofs.ListingLaws.{contains-from_in, in-from_contains, same_members}
use Rattle.mp_term.proofs.Sorting.{length-sorted}
use Rattle.mp_pattern.specs.Constants.{IsConstantOf, rule_constants}
use Rattle.mp_pattern.specs.Fits as fits
use Rattle.mp_pattern.specs.Fits.{Fits, TakesBy}
use Rattle.mp_pattern.specs.PatternTree.{Pattern, Wildcard, app_pattern, symbol_pattern, wild_pattern}
use Rattle.mp_pattern.specs.SoundRule.{IsSoundRule}
use Rattle.mp_pattern.proofs.ConstantLaws.{constants-nodes}
use Rattle.mp_table.specs.Preorder.{all_preorder}
use Rattle.mp_table.specs.Subterms.{IsSubterm, IsSubtermOf}
use Rattle.mp_table.specs.Table.{HasRanks, Table}
use Rattle.mp_table.specs.declared.rank.Rank.{Rank}
use Rattle.mp_table.proofs.PreorderLaws.{length-all_preorder}
use Rattle.mp_text.specs.Sound.{IsSoundSubject}
use Rattle.mp_token.specs.Entry.{Entry, IsEntry, IsRank}
use Rattle.mp_token.specs.Spelling.{IsSpelling}
use Rattle.mp_token.specs.declared.token.Token.{Token}
use Rattle.mp_cursor.specs.Listing.{ReadAs}
use Rattle.mp_matches.specs.Match.{Match}
use Rattle.mp_matches.specs.TokenOf.{entry_in, table_of, token_of}
use Rattle.mp_matches.proofs.TokenLaws.{distinct-listing, entries-fit, table_of-is}

-- ---- how many terms a table has

-- without repeats there are no more
length-dedup_from : {X : Type 0} (same : X → X → Bool) (k : X) (xs : List X)
    → length (dedup_from same k xs) ≤ suc (length xs)
length-dedup_from same k [] = omega arith
length-dedup_from same k (x ∷ xs) = go (same x k) (length-dedup_from same k xs) (length-dedup_from same x xs)
  where
    go : (b : Bool) → length (dedup_from same k xs) ≤ suc (length xs)
        → length (dedup_from same x xs) ≤ suc (length xs)
        → length (cond b (dedup_from same k xs) (k ∷ dedup_from same x xs)) ≤ suc (suc (length xs))
    go true h l = omega arith
    go false h l = omega arith

length-dedup : {X : Type 0} (same : X → X → Bool) (xs : List X) → length (dedup same xs) ≤ length xs
length-dedup same [] = omega arith
length-dedup same (x ∷ xs) = length-dedup_from same x xs

-- no more terms than the trees have nodes
length-table_of : (subject : Tree) (constants : List Tree)
    → length (table_of subject constants).terms ≤ node_count subject + all_nodes constants
length-table_of subject constants =
    let all = all_preorder (subject ∷ constants) in
    omega (
      arith,
      length-dedup (eq_by_cmp tree_cmp) (sorted tree_cmp all),
      length-sorted tree_cmp all,
      length-all_preorder (subject ∷ constants),
    )

-- a subterm of some trees is one of a member, and the other way round
subterm_of-member : (ts : List Tree) (u : Tree) → IsSubtermOf ts u → (t : Tree) × In t ts × IsSubterm t u
subterm_of-member [] u h = absurd h
subterm_of-member (t ∷ ts) u (inl s) = (t, inl refl, s)
subterm_of-member (t ∷ ts) u (inr h) = let r = subterm_of-member ts u h in (r.0, inr r.1, r.2)

pub member-subterm_of : (ts : List Tree) (t u : Tree) → In t ts → IsSubterm t u → IsSubtermOf ts u
member-subterm_of [] t u i s = absurd i
member-subterm_of (v ∷ ts) t u (inl e) s = inl (subst (λ w. IsSubterm w u) e s)
member-subterm_of (v ∷ ts) t u (inr i) s = inr (member-subterm_of ts t u i s)

subterms-members : (subject : Tree) (cs ds : List Tree) → ((c : Tree) → In c cs → In c ds) → (u : Tree)
    → IsSubtermOf (subject ∷ cs) u → IsSubtermOf (subject ∷ ds) u
subterms-members subject cs ds move u (inl s) = inl s
subterms-members subject cs ds move u (inr h) =
    let r = subterm_of-member cs u h in inr (member-subterm_of ds r.0 u (move r.0 r.1) r.2)

-- constants with the same members have the same table
pub table_of-members : (subject : Tree) (cs ds : List Tree) → ((c : Tree) → In c cs → In c ds)
    → ((c : Tree) → In c ds → In c cs) → (table_of subject cs).terms ≡ (table_of subject ds).terms
table_of-members subject cs ds there back =
    let h = (table_of-is subject cs).listing in
    let k = (table_of-is subject ds).listing in
    same_members tree_cmp tree_cmp_total (table_of subject cs).terms (table_of subject ds).terms h.ascending k.ascending
    (λ u i. in-from_contains u (table_of subject ds).terms ((k.exactly u).1 (subterms-members subject cs ds there u
    ((h.exactly u).0 (contains-from_in u (table_of subject cs).terms i)))))
    (λ u i. in-from_contains u (table_of subject cs).terms ((h.exactly u).1 (subterms-members subject ds cs back u
    ((k.exactly u).0 (contains-from_in u (table_of subject ds).terms i)))))

-- the table of a match has fewer terms than there are numbers of 32 bits
few-terms : (sig : Sig) (m : Match) → IsSoundSubject sig m.subject → IsSoundRule sig m.rule
    → length (table_of m.subject.term (rule_constants m.rule)).terms < 2 ^ 32
few-terms sig m s r =
    let cs = rule_constants m.rule in
    let ds = dedup (eq_by_cmp tree_cmp) (sorted tree_cmp cs) in
    let plain : IsListing tree_cmp (Contains cs) ds =
    distinct-listing cs (Contains cs) (λ u i. contains-from_in u cs i) (λ u c. in-from_contains u cs c) in
    let listing : IsListing tree_cmp (IsConstantOf (m.rule ∷ [])) ds =
    subst (λ l. IsListing tree_cmp (Contains l) ds) (sym (append-nil cs)) plain in
    let same : (table_of m.subject.term cs).terms ≡ (table_of m.subject.term ds).terms =
    table_of-members m.subject.term cs ds
    (λ c i. in-from_contains c ds ((plain.exactly c).1 (contains-from_in c cs i)))
    (λ c i. in-from_contains c cs ((plain.exactly c).0 (contains-from_in c ds i))) in
    omega (
      arith,
      ap length same,
      length-table_of m.subject.term ds,
      constants-nodes sig (m.rule ∷ []) ds (r, tt) listing,
      s.term.few_nodes,
    )

-- ---- entries

-- a take table has an entry
takes-some : (sig : Sig) (line : Option ℕ → Wildcard → Option (List ℕ) → List Tree → Type 0) (f : Option ℕ)
    (p : Pattern) (l : List Tree) (W : fits.Table) → TakesBy sig line f p l W → 0 < length W
takes-some sig line f (symbol_pattern n) l W h = omega (arith, ap length h.1)
takes-some sig line f (wild_pattern w x) l W h = omega (arith, ap length h.1)
takes-some sig line f (app_pattern g ps) l W (inl h) = omega (arith, ap length h.table)
takes-some sig line f (app_pattern g ps) l W (inr h) = omega (arith, ap length h.table)

-- the ranks of a small table have 32 bits
small-ranks : (t : Table) → length t.terms < 2 ^ 32 → (rs : List Rank) → HasRanks t rs → AllByRecursion IsRank rs
small-ranks t few [] h = tt
small-ranks t few (r ∷ rs) h = (omega (arith, few, h.0), small-ranks t few rs h.1)

small-entries : (t : Table) → length t.terms < 2 ^ 32 → (es : List Entry) (W : fits.Table) → ReadAs t es W
    → AllByRecursion IsEntry es
small-entries t few [] W h = tt
small-entries t few (e ∷ es) [] h = absurd h
small-entries t few (e ∷ es) (d ∷ W) h = (small-ranks t few e.0 h.0.0, small-entries t few es W h.1)

-- ---- tokens

-- the token of a match
abbrev pub match_token : Match → Token
match_token m = record {
  subject = m.subject.name;
  rule = m.rule.name;
  entries = map (entry_in (table_of m.subject.term (rule_constants m.rule))) m.table;
}

-- the text that is computed spells it
pub token_of-spells : (sig : Sig) (m : Match) → IsSoundSubject sig m.subject → IsSoundRule sig m.rule
    → Fits sig m.rule.pattern m.subject.term m.subst m.table → IsSpelling (token_of m) (match_token m)
token_of-spells sig m s r h =
    let ranks = table_of m.subject.term (rule_constants m.rule) in
    let some = takes-some sig (fits.ByValue sig m.subst) None m.rule.pattern (m.subject.term ∷ []) m.table h.takes in
    record {
      token = record {
        subject = s.name;
        rule = r.name;
        some = omega (arith, some, length-map m.table (entry_in ranks));
        entries = small-entries ranks (few-terms sig m s r) (map (entry_in ranks) m.table) m.table
            (entries-fit sig m h);
      };
      text = refl;
    }
