-- The tokens and the instructions of the tree of sound rules are right, and their texts have no line feed.
use Rattle.std.proofs.Common.{◌≡◌, ℕ, List, [], ◌∷◌, map, refl, ap}
use Rattle.std.proofs.Common.{◌∙◌, inr, subst, arith}
use Rattle.std.specs.Prelude.{Option, Some, None}
use Rattle.std.specs.List.{AllByRecursion}
use Rattle.mp_term.specs.Listing.{In}
use Rattle.mp_term.specs.Normal.{normal}
use Rattle.mp_term.specs.Signature.{Sig}
use Rattle.mp_term.specs.Tree.{Tree, symbol}
use Rattle.mp_term.proofs.ListingLaws.{all_in}
use Rattle.mp_term.proofs.SearchLaws.{in-map, all-from_in}
use Rattle.mp_pattern.specs.Admission.{Rule}
use Rattle.mp_pattern.specs.NetTokens.{NetToken, sym_token, enter_token, leave_token, wild_token, comm_token}
use Rattle.mp_pattern.specs.PatternTree.{Wildcard, dot, kind, plus, star, optional, counted, Pattern}
use Rattle.mp_pattern.specs.SoundRule.{IsSoundRule, AreSoundRules}
use Rattle.mp_pattern.specs.Value.{same_name}
use Rattle.mp_pattern.specs.Variables.{Use, uses, variables}
use Rattle.mp_pattern.proofs.NameLaws.{same_name-is}
use Rattle.mp_pattern.proofs.PlanParts.{plan_fault-parts}
use Rattle.mp_theory.proofs.FirstItems.{in-firsts_after}
use Rattle.mp_walk.specs.Instrs.{Instr, instr_at}
use Rattle.mp_walk.specs.SoundTokens.{IsVariableNumber, IsSoundComm, IsSoundToken}
use Rattle.mp_walk.proofs.CodePaths.{instr-in}
use Rattle.mp_walk.proofs.PathLaws.{token-sound}
use Rattle.mp_print.specs.Printing.{term_text}
use Rattle.mp_print.specs.PrintedPattern.{pattern_text}
use Rattle.mp_build.specs.Alone.{IsTermOf, IsPatternOf}
use Rattle.mp_round_trip.specs.Readable.{IsReadableTerm, IsReadablePattern}
use Rattle.mp_many.specs.Prefixes.{token_lists, token_count}
use Rattle.mp_many.specs.Laid.{numbered_from, tree_of}
use Rattle.mp_many.proofs.ConstantLaws.{all-laid, all-numbered}
use Rattle.mp_many.proofs.WalkableLaws.{walkable}
use Rattle.mp_program.specs.declared.format.Format.TheVariants.{Two}
use Rattle.mp_program.specs.RightForm.{IsNumberedName, IsShortTarget, is_comm_rooted, IsRightComm}
use Rattle.mp_program.specs.RightForm.{IsRightWildcard, IsRightToken}
use Rattle.mp_program_laws.proofs.CodeAgain.{any-wildcard, each-wildcard}
use Rattle.mp_gen.proofs.FlatPatterns.{IsFormedWildcard, IsFormedToken, flat-normal, formed-tokens}

-- each term that may be read is read of its printed text
abbrev pub AreTermsRead : Sig → Type 0
AreTermsRead sig = (t : Tree) → IsReadableTerm sig t → IsTermOf sig (term_text sig t) (normal sig t)

-- and so is each pattern
abbrev pub ArePatternsRead : Sig → Type 0
ArePatternsRead sig = (p : Pattern) → IsReadablePattern sig p → IsPatternOf sig (pattern_text sig p) p

pub short-variable : (x : Option ℕ) → IsVariableNumber x → IsShortTarget x
short-variable None h = tt
short-variable (Some x) h = omega (arith, h)

module _ (sig : Sig) (terms : AreTermsRead sig) (patterns : ArePatternsRead sig) where
  right-wildcard : (w : Wildcard) → IsFormedWildcard sig w → IsRightWildcard sig w
  right-wildcard dot h = tt
  right-wildcard (kind k) h = h.0
  right-wildcard plus h = tt
  right-wildcard star h = tt
  right-wildcard (optional t) h = (
    subst (IsTermOf sig (term_text sig t)) h.0.normal
        (terms t (record {
          formed = h.0.formed;
          symbols = h.0.symbols;
          few_nodes = (let l = h.0.few_nodes in omega (arith, l));
          shallow = h.1;
        })),
    h.0.few_nodes,
  )
  right-wildcard (counted n exact) h = h.0

  right-comm : (p : Pattern) → IsFormedToken sig (comm_token p) → IsSoundComm sig p → IsRightComm sig Two p
  right-comm p h s =
      let plan = plan_fault-parts p s.planned in
      record {
        read = patterns p (record {
          formed = h.0;
          plain_root = plan.firm;
          no_clash = plan.no_clash;
          few_nodes = plan.few_nodes;
          few_variables = plan.few_variables;
          shallow = h.2;
        });
        rooted = ap (is_comm_rooted sig) s.is ∙ s.comm;
        flat = h.1;
        names = all-from_in (λ (u : Use). IsNumberedName u.name) (uses None p) (λ u i. numbered_use u i);
        wildcards = each-wildcard p;
      }
    where
      numbered_use : (u : Use) → In u (uses None p) → IsNumberedName u.name
      numbered_use u i =
          let n = s.names u.name (in-firsts_after same_name same_name-is [] (map (λ (z : Use). z.name) (uses None p))
          u.name (inr (in-map (λ (z : Use). z.name) u (uses None p) i))) in
          record { number = n.number; short = (let l = n.few in omega (arith, l)); name = n.name }

  -- a formed token that is sound is right
  pub right-token : (k : NetToken) → IsFormedToken sig k → IsSoundToken sig k → IsRightToken sig Two k
  right-token (sym_token n) h s =
      terms (symbol n) (record { formed = refl; symbols = h; few_nodes = omega arith; shallow = omega arith })
  right-token (enter_token f) h s = h
  right-token (leave_token f) h s = h
  right-token (wild_token w x) h s = (right-wildcard w h, any-wildcard w, short-variable x s.1)
  right-token (comm_token p) h s = right-comm p h s

module _ (sig : Sig) (rules : List Rule) (sound : AreSoundRules sig rules) where
  lists-formed : (rs : List Rule) → AllByRecursion (IsSoundRule sig) rs
      → AllByRecursion (AllByRecursion (IsFormedToken sig)) (token_lists sig rs)
  lists-formed [] h = tt
  lists-formed (r ∷ rs) h =
      let p = h.0.pattern in (
        formed-tokens sig (variables r.pattern) p.few_variables r.pattern p.formed (flat-normal sig r.pattern p.normal)
            p.shallow,
        lists-formed rs h.1,
      )

  -- the tokens of the tree are formed
  pub tree-formed : AllByRecursion (λ (i : Instr). IsFormedToken sig i.token) (tree_of sig rules)
  tree-formed = let ls = token_lists sig rules in
      all-laid (IsFormedToken sig) (token_count ls) (numbered_from 0 ls) 1
      (all-numbered (IsFormedToken sig) 0 ls (lists-formed rules sound.each))

  -- and right
  pub tree-token : AreTermsRead sig → ArePatternsRead sig → (n : ℕ) (i : Instr)
      → instr_at (tree_of sig rules) n ≡ Some i → IsRightToken sig Two i.token
  tree-token terms patterns n i held =
      right-token sig terms patterns i.token
      (all_in (λ (j : Instr). IsFormedToken sig j.token) (tree_of sig rules) i tree-formed
      (instr-in (tree_of sig rules) n i held))
      (token-sound sig (tree_of sig rules) (walkable sig rules sound.each) n i held)
