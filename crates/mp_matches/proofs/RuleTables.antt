-- The table of a subject and of the constants of a planned rule.
use Rattle.std.proofs.Common.{◌≤◌, List, [], ◌∷◌, refl, sym, subst, inl, inr, append-nil, arith}
use Rattle.std.specs.Prelude.{flat_map}
use Rattle.std.specs.List.{AllByRecursion}
use Rattle.mp_term.specs.Tree.{Tree}
use Rattle.mp_term.specs.Size.{all_nodes}
use Rattle.mp_term.specs.Normal.{IsNormal}
use Rattle.mp_term.specs.Order.{tree_cmp}
use Rattle.mp_term.specs.Listing.{In, IsListing}
use Rattle.mp_term.specs.Signature.{Sig}
use Rattle.mp_term.proofs.ListingLaws.{contains-from_in, in-from_contains}
use Rattle.mp_pattern.specs.Admission.{Rule}
use Rattle.mp_pattern.specs.Constants.{rule_constants, IsConstantOf}
use Rattle.mp_pattern.specs.Planned.{IsPlanned, RulePlan}
use Rattle.mp_pattern.proofs.ConstantLaws.{constants-normal, constants-nodes}
use Rattle.mp_table.specs.Subterms.{IsSubtermOf}
use Rattle.mp_table.specs.Table.{Table, IsTableOf}
use Rattle.mp_table.specs.declared.limits.TheConstants.{MAX_CONSTANT_NODES}
use Rattle.mp_matches.proofs.TokenSpelling.{member-subterm_of}

-- a subterm of a member is one of the list's
-- a subterm of some trees is one of all of them
subterm_of-part : (ts us : List Tree) → ((t : Tree) → In t ts → In t us) → (u : Tree) → IsSubtermOf ts u
    → IsSubtermOf us u
subterm_of-part [] us part u s = absurd s
subterm_of-part (t ∷ ts) us part u (inl s) = member-subterm_of us t u (part t (inl refl)) s
subterm_of-part (t ∷ ts) us part u (inr s) = subterm_of-part ts us (λ v i. part v (inr i)) u s

-- the table of a subject and of some constants is that of the same constants in another list
table_of-same : (subject : Tree) (ts us : List Tree) (table : Table) → ((t : Tree) → In t ts → In t us)
    → ((t : Tree) → In t us → In t ts) → IsTableOf subject ts table → IsTableOf subject us table
table_of-same subject ts us table there back h = record {
  listing = record {
    exactly = λ u. (
      λ k. to u ((h.listing.exactly u).0 k),
      λ k. (h.listing.exactly u).1 (from u k),
    );
    ascending = h.listing.ascending;
  };
  root = h.root;
}
  where
    to : (u : Tree) → IsSubtermOf (subject ∷ ts) u → IsSubtermOf (subject ∷ us) u
    to u (inl s) = inl s
    to u (inr s) = inr (subterm_of-part ts us there u s)

    from : (u : Tree) → IsSubtermOf (subject ∷ us) u → IsSubtermOf (subject ∷ ts) u
    from u (inl s) = inl s
    from u (inr s) = inr (subterm_of-part us ts back u s)

module _ (r : Rule) (cs : List Tree) (l : IsListing tree_cmp (IsConstantOf (r ∷ [])) cs) where
  in-constants : (t : Tree) → In t cs → In t (rule_constants r)
  in-constants t i = subst (In t) (append-nil (rule_constants r))
      (in-from_contains t (flat_map rule_constants (r ∷ [])) ((l.exactly t).0 (contains-from_in t cs i)))

  constants-in : (t : Tree) → In t (rule_constants r) → In t cs
  constants-in t i = in-from_contains t cs ((l.exactly t).1 (contains-from_in t (flat_map rule_constants (r ∷ []))
      (subst (In t) (sym (append-nil (rule_constants r))) i)))

  -- the table of a subject and of a rule's constants, each once, is that of the rule's constants
  pub table_of-constants : (subject : Tree) (table : Table) → IsTableOf subject cs table
      → IsTableOf subject (rule_constants r) table
  table_of-constants subject table h = table_of-same subject cs (rule_constants r) table in-constants constants-in h

module _ (sig : Sig) (p : RulePlan) (h : IsPlanned sig p) where
  -- the constants of a planned rule are normal
  pub planned-normal : AllByRecursion (IsNormal sig) p.constants
  planned-normal = constants-normal sig (p.rule ∷ []) p.constants (h.sound, tt) h.constants

  -- and have few nodes
  pub planned-few : all_nodes p.constants ≤ MAX_CONSTANT_NODES
  planned-few = omega (arith, constants-nodes sig (p.rule ∷ []) p.constants (h.sound, tt) h.constants)
