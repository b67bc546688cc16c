-- A commutative pattern has no items where one of its leading children has no choice.
use Rattle.std.proofs.Common.{◌≡◌, ℕ, List, [], ◌∷◌, ◌++◌, Bool, true, ap, sym, ◌∙◌, subst, inl, inr}
use Rattle.std.specs.Prelude.{◌⊎◌, Option, slice_get}
use Rattle.std.specs.List.{AllByRecursion}
use Rattle.std.specs.List.Sorted.{IsStrictlySortedBy}
use Rattle.mp_term.specs.Order.{tree_cmp}
use Rattle.mp_term.specs.Pieces.{without}
use Rattle.mp_term.specs.Search.{In}
use Rattle.mp_term.specs.Signature.{Sig}
use Rattle.mp_term.specs.Tree.{Tree}
use Rattle.mp_term.proofs.ListLaws.{all-get}
use Rattle.mp_pattern.specs.PatternLists.{pattern_list-patterns}
use Rattle.mp_pattern.specs.PatternTree.{Pattern, app_pattern, patterns, pattern_list}
use Rattle.mp_pattern.specs.Value.{Subst}
use Rattle.mp_table.specs.Table.{Table, term_at}
use Rattle.mp_table.specs.declared.rank.Rank.{Rank}
use Rattle.mp_theory.specs.Shape.{shape}
use Rattle.mp_ac.specs.Asked.{root_list}
use Rattle.mp_ac.specs.Begin.{AreNone, IsBlocked}
use Rattle.mp_ac.specs.Candidates.{AreChoices, IsBarred}
use Rattle.mp_ac.specs.Seek.{IsCommutative, with_children}
use Rattle.mp_ac.specs.TakesOne.{takes_one}
use Rattle.mp_ac.proofs.FirstChild.{comm_list-first}
use Rattle.mp_ac.proofs.SeekLaws.{in-without, root-first, root-none}

module _ (sig : Sig) (t : Table) (g : ℕ) (others : List Pattern) (us : List Tree) (owes : Bool) where
  abbrev rest : Pattern
  rest = app_pattern g (patterns others)

  -- among no choices is no term
  no_choice : (p : Pattern) (next : Option Pattern) (rs : List Rank) → rs ≡ [] → AreChoices t p next us rs → (u : Tree)
      → In u us → shape p u ≡ true → In u [] ⊎ IsBarred next us p u
  no_choice p next rs e h u i k = by_choice (h.all u i k)
    where
      by_choice : ((r : Rank) × In r rs × (term_at t r ≡ u)) ⊎ IsBarred next us p u → In u [] ⊎ IsBarred next us p u
      by_choice (inl c) = absurd (subst (λ ss. In c.0 ss) e c.1)
      by_choice (inr barred) = inr barred

  blocked-none : IsCommutative sig rest → (ps : List Pattern) → AllByRecursion (λ q. takes_one sig q ≡ true) ps
      → IsBlocked t us ps → (left : List Tree) → ((u : Tree) → In u left → In u us) → (s : Subst)
      → root_list sig (with_children ps rest) left owes s ≡ []
  unfolding IsStrictlySortedBy
  blocked-none comm [] each blocked left within s = absurd blocked
  blocked-none comm (p ∷ ps) each (rs, choices, inl none) left within s =
      root-first sig p ps left owes s rest comm each.0 (λ n. all-get (λ q. takes_one sig q ≡ true) ps 0 n each.1) us []
      within tt
      (λ u i h. no_choice p (slice_get ps 0) rs none choices u (within u i) h)
  blocked-none comm (p ∷ ps) each (rs, choices, inr later) left within s =
      comm_list-first sig g p (patterns (ps ++ pattern_list (patterns others))) left owes s comm each.0 [] tt
      (λ u i h. inr (root-none sig p ps left owes s rest u h (λ r f.
      blocked-none comm ps each.1 later (without tree_cmp (u ∷ []) left)
      (λ v j. within v (in-without u left v j)) r)))

-- where one of the leading children has no choice there is no item
pub none-blocked : (sig : Sig) (t : Table) (q : Pattern) (us : List Tree) → IsCommutative sig q → AreNone sig t q us
    → (owes : Bool) (s : Subst) → root_list sig q us owes s ≡ []
none-blocked sig t q us comm h owes s =
    let whole : q ≡ with_children h.leading (app_pattern h.op (patterns h.others)) =
    h.is ∙ ap (λ ps. app_pattern h.op (patterns (h.leading ++ ps))) (sym (pattern_list-patterns h.others)) in
    ap (λ p. root_list sig p us owes s) whole
    ∙ blocked-none sig t h.op h.others us owes (subst (IsCommutative sig) h.is comm) h.leading h.each h.blocked us
    (λ u i. i) s
