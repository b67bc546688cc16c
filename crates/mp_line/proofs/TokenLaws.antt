-- The text of a token begins with its word, so that each sort is read of its own texts.
use Rattle.std.proofs.Common.{◌≡◌, ◌≤◌, ◌++◌, ℕ, Bool, true, false, ◌∷◌, Option, Some, None, refl, sym}
use Rattle.std.proofs.Common.{ap}
use Rattle.std.proofs.Common.{subst, ◌∙◌}
use Rattle.std.proofs.Common.{arith}
use Rattle.std.specs.Prelude.{codes, decimal, not, slice_get, IsSome}
use Rattle.std.specs.List.{list_all}
use Rattle.std.specs.Char.{is_ascii_digit}
use Rattle.std.proofs.lemmas.Bool.{and_parts}
use Rattle.std.proofs.lemmas.List.{append-nil, append_cancel_left, append_cancel_right}
use Rattle.std.proofs.lemmas.List.Folds.{list_all-append}
use Rattle.mp_io.specs.Devices.{Text}
use Rattle.mp_term.specs.Size.{node_count}
use Rattle.mp_term.specs.Tree.{Tree, symbol}
use Rattle.mp_pattern.specs.declared.limits.TheConstants.{MAX_DEFAULT_NODES}
use Rattle.mp_term.specs.Signature.{Sig, kind_names}
use Rattle.mp_pattern.specs.NetTokens.{NetToken, sym_token, enter_token, leave_token, wild_token, comm_token}
use Rattle.mp_pattern.specs.PatternTree.{dot, kind, plus, star, optional, counted, Pattern}
use Rattle.mp_print.specs.Printing.{text_if, kind_name_text, term_text}
use Rattle.mp_build.specs.Alone.{IsTermOf}
use Rattle.mp_program.specs.declared.format.Format.{Format}
use Rattle.mp_program.specs.declared.format.Format.TheVariants.{One, Two}
use Rattle.mp_program.specs.FormText.{variable_text}
use Rattle.mp_program.specs.RightForm.{IsShortTarget, IsWildcardOf}
use Rattle.mp_line.specs.Finds.{IsOnly, Finds}
use Rattle.mp_line.specs.LineTexts.{IsVariableText, IsExactTerm, IsHeldOp, IsHeldKind, IsDefaultText}
use Rattle.mp_line.specs.LineTexts.{IsSymbolOf, IsCountWord, IsCountText, IsCommText, IsTokenText}
use Rattle.mp_line.specs.Words.{IsWithout, IsSplitAtFirst, IsSplitAtLast}
use Rattle.mp_line.proofs.FindsLaws.{Finds-like, Finds-through}
use Rattle.mp_line.proofs.NumberLaws.{without-decimal, decimal-text}
use Rattle.mp_line.proofs.WordLaws.{first-only, last-only, apart}

-- what holds in each format
either : (P : Format → Type 0) → P One → P Two → (format : Format) → P format
either P one two One = one
either P one two Two = two

-- the word of a variable has no blank
pub bare-variable : (x : Option ℕ) → IsShortTarget x → IsWithout 32 (variable_text x)
bare-variable None short = refl
bare-variable (Some n) short = without-decimal 32 n refl (omega arith)

-- the token of a symbol
pub symbol-found : (t : Tree) (name : Text) → t ≡ symbol name → IsOnly (IsSymbolOf t) (sym_token name)
symbol-found t name e = record {
  is = record { name = name; term = e; token = refl };
  only = λ k h. (
      let both : symbol h.name ≡ symbol name = sym h.term ∙ e in
      let same : h.name ≡ name = cc in
      h.token ∙ ap sym_token same
      );
}

-- the term of a default isn't too large
pub default-found : (sig : Sig) (text : Text) (t : Tree) → IsOnly (IsExactTerm sig text) t
    → node_count t ≤ MAX_DEFAULT_NODES → IsOnly (IsDefaultText sig text) t
default-found sig text t h small = record {
  is = record { exact = h.is; small = small };
  only = λ u g. h.only u g.exact;
}

module _ (sig : Sig) (format : Format) where
  -- ---- symbols and whole applications

  -- the token of a symbol is found by its term
  pub symbol-through : {T : Type 0} (view : T → NetToken) (name : Text) (t : Tree) (r : Option T)
      → IsOnly (IsExactTerm sig name) t → Finds view (IsSymbolOf t) r
      → Finds view (IsTokenText sig format (codes "sym " ++ name)) r
  symbol-through view name t r h =
      Finds-like view (IsSymbolOf t) (IsTokenText sig format (codes "sym " ++ name)) r to from
    where
      to : (k : NetToken) → IsSymbolOf t k → IsTokenText sig format (codes "sym " ++ name) k
      to k s =
          let same : s.name ≡ name = sym (ap (term_text sig) s.term) ∙ h.is.spelled in
          subst (IsTokenText sig format (codes "sym " ++ name)) (sym s.token) (record {
            right = subst (λ u. IsTermOf sig u (symbol s.name)) (sym same)
                (subst (λ u. IsTermOf sig name u) s.term h.is.read);
            spelled = ap (λ x. codes "sym " ++ x) same;
          })

      from : (k : NetToken) → IsTokenText sig format (codes "sym " ++ name) k → IsSymbolOf t k
      from (wild_token dot x) g = absurd (apart 4 _ _ refl g.spelled)
      from (sym_token n) g =
          let same : n ≡ name = append_cancel_left (codes "sym ") n name g.spelled in
          record {
            name = n;
            term = sym (h.only (symbol n) (record {
              read = subst (λ u. IsTermOf sig u (symbol n)) same g.right;
              spelled = same;
            }));
            token = refl;
          }
      from k g = absurd (apart 4 _ _ refl g.spelled)

  -- without a term there is none
  pub no-symbol : (name : Text) → ((t : Tree) → IsExactTerm sig name t → ⊥) → (k : NetToken)
      → IsTokenText sig format (codes "sym " ++ name) k → ⊥
  no-symbol name none (wild_token dot x) g = apart 4 _ _ refl g.spelled
  no-symbol name none (sym_token n) g =
      let same : n ≡ name = append_cancel_left (codes "sym ") n name g.spelled in
      none (symbol n) (record { read = subst (λ u. IsTermOf sig u (symbol n)) same g.right; spelled = same })
  no-symbol name none k g = apart 4 _ _ refl g.spelled

  -- a token of a whole application is found by its pattern
  pub comm-through : {T : Type 0} (view : T → Pattern) (text : Text) (r : Option T)
      → Finds view (IsCommText sig format text) r
      → Finds (λ t. comm_token (view t)) (IsTokenText sig format (codes "comm " ++ text)) r
  comm-through view text r =
      Finds-through view comm_token (IsCommText sig format text) (IsTokenText sig format (codes "comm " ++ text)) r
      (λ p h. record { right = h.right; spelled = ap (λ x. codes "comm " ++ x) h.spelled }) from
    where
      from : (k : NetToken) → IsTokenText sig format (codes "comm " ++ text) k
          → (p : Pattern) × (k ≡ comm_token p) × IsCommText sig format text p
      from (wild_token dot x) g = absurd (apart 4 _ _ refl g.spelled)
      from (comm_token p) g =
          (p, refl, record { right = g.right; spelled = append_cancel_left (codes "comm ") _ _ g.spelled })
      from k g = absurd (apart 4 _ _ refl g.spelled)

  -- ---- operations

  -- the begin of an application is found by its operation
  pub enter-through : {T : Type 0} (view : T → ℕ) (name : Text) (r : Option T) → Finds view (IsHeldOp sig name) r
      → Finds (λ t. enter_token (view t)) (IsTokenText sig format (codes "enter " ++ name)) r
  enter-through view name r =
      Finds-through view enter_token (IsHeldOp sig name) (IsTokenText sig format (codes "enter " ++ name)) r
      (λ f h. record { right = h.held; spelled = ap (λ x. codes "enter " ++ x) h.text }) from
    where
      from : (k : NetToken) → IsTokenText sig format (codes "enter " ++ name) k
          → (f : ℕ) × (k ≡ enter_token f) × IsHeldOp sig name f
      from (wild_token dot x) g = absurd (apart 4 _ _ refl g.spelled)
      from (enter_token f) g =
          (f, refl, record { held = g.right; text = append_cancel_left (codes "enter ") _ _ g.spelled })
      from k g = absurd (apart 4 _ _ refl g.spelled)

  -- so is the end
  pub leave-through : {T : Type 0} (view : T → ℕ) (name : Text) (r : Option T) → Finds view (IsHeldOp sig name) r
      → Finds (λ t. leave_token (view t)) (IsTokenText sig format (codes "leave " ++ name)) r
  leave-through view name r =
      Finds-through view leave_token (IsHeldOp sig name) (IsTokenText sig format (codes "leave " ++ name)) r
      (λ f h. record { right = h.held; spelled = ap (λ x. codes "leave " ++ x) h.text }) from
    where
      from : (k : NetToken) → IsTokenText sig format (codes "leave " ++ name) k
          → (f : ℕ) × (k ≡ leave_token f) × IsHeldOp sig name f
      from (wild_token dot x) g = absurd (apart 4 _ _ refl g.spelled)
      from (leave_token f) g =
          (f, refl, record { held = g.right; text = append_cancel_left (codes "leave ") _ _ g.spelled })
      from k g = absurd (apart 4 _ _ refl g.spelled)

  -- ---- wildcards that are a word alone

  -- a dot wildcard is found by its variable
  pub dot-through : {T : Type 0} (view : T → Option ℕ) (word : Text) (r : Option T) → Finds view (IsVariableText word) r
      → Finds (λ t. wild_token dot (view t)) (IsTokenText sig format (codes "dot " ++ word)) r
  dot-through view word r =
      Finds-through view (wild_token dot) (IsVariableText word) (IsTokenText sig format (codes "dot " ++ word)) r
      (λ x h. record {
        right = (tt, either (λ f. IsWildcardOf f dot) tt tt format, h.short);
        spelled = ap (λ x. codes "dot " ++ x) h.text;
      }) from
    where
      from : (k : NetToken) → IsTokenText sig format (codes "dot " ++ word) k
          → (x : Option ℕ) × (k ≡ wild_token dot x) × IsVariableText word x
      from (wild_token dot x) g =
          (x, refl, record { short = g.right.2; text = append_cancel_left (codes "dot ") _ _ g.spelled })
      from k g = absurd (apart 4 _ _ refl g.spelled)

  -- so is a plus wildcard
  pub plus-through : {T : Type 0} (view : T → Option ℕ) (word : Text) (r : Option T)
      → Finds view (IsVariableText word) r
      → Finds (λ t. wild_token plus (view t)) (IsTokenText sig format (codes "plus " ++ word)) r
  plus-through view word r =
      Finds-through view (wild_token plus) (IsVariableText word) (IsTokenText sig format (codes "plus " ++ word)) r
      (λ x h. record {
        right = (tt, either (λ f. IsWildcardOf f plus) tt tt format, h.short);
        spelled = ap (λ x. codes "plus " ++ x) h.text;
      }) from
    where
      from : (k : NetToken) → IsTokenText sig format (codes "plus " ++ word) k
          → (x : Option ℕ) × (k ≡ wild_token plus x) × IsVariableText word x
      from (wild_token plus x) g =
          (x, refl, record { short = g.right.2; text = append_cancel_left (codes "plus ") _ _ g.spelled })
      from k g = absurd (apart 4 _ _ refl g.spelled)

  -- so is a star wildcard
  pub star-through : {T : Type 0} (view : T → Option ℕ) (word : Text) (r : Option T)
      → Finds view (IsVariableText word) r
      → Finds (λ t. wild_token star (view t)) (IsTokenText sig format (codes "star " ++ word)) r
  star-through view word r =
      Finds-through view (wild_token star) (IsVariableText word) (IsTokenText sig format (codes "star " ++ word)) r
      (λ x h. record {
        right = (tt, either (λ f. IsWildcardOf f star) tt tt format, h.short);
        spelled = ap (λ x. codes "star " ++ x) h.text;
      }) from
    where
      from : (k : NetToken) → IsTokenText sig format (codes "star " ++ word) k
          → (x : Option ℕ) × (k ≡ wild_token star x) × IsVariableText word x
      from (wild_token star x) g =
          (x, refl, record { short = g.right.2; text = append_cancel_left (codes "star ") _ _ g.spelled })
      from k g = absurd (apart 4 _ _ refl g.spelled)

  -- ---- wildcards of several words

  -- the words of a wildcard of a kind
  pub kind-words : (text : Text) (k : NetToken) → IsTokenText sig format (codes "kind " ++ text) k
      → (n : ℕ) × (x : Option ℕ) × (k ≡ wild_token (kind n) x) × IsSome (slice_get (kind_names sig) n)
      × IsShortTarget x × IsSplitAtLast 32 text (kind_name_text sig n) (variable_text x)
  kind-words text (wild_token (kind n) x) g = (
    n,
    x,
    refl,
    g.right.0,
    g.right.2,
    record {
      parts = sym (append_cancel_left (codes "kind ") _ _ g.spelled);
      last = bare-variable x g.right.2;
    },
  )
  kind-words text k g = absurd (apart 4 _ _ refl g.spelled)

  -- those of an optional wildcard
  pub optional-words : (text : Text) (k : NetToken) → IsTokenText sig format (codes "opt " ++ text) k
      → (t : Tree) × (x : Option ℕ) × (k ≡ wild_token (optional t) x) × IsDefaultText sig (term_text sig t) t
      × IsShortTarget x × IsSplitAtFirst 32 text (variable_text x) (term_text sig t)
  optional-words text (wild_token (optional t) x) g = (
    t,
    x,
    refl,
    record { exact = record { read = g.right.0.0; spelled = refl }; small = g.right.0.1 },
    g.right.2,
    record {
      parts = sym (append_cancel_left (codes "opt ") _ _ g.spelled);
      first = bare-variable x g.right.2;
    },
  )
  optional-words text k g = absurd (apart 4 _ _ refl g.spelled)

  -- each of its words is what it should be
  pub kind-parts : (text name word : Text) (k : NetToken) → IsSplitAtLast 32 text name word
      → IsTokenText sig format (codes "kind " ++ text) k
      → (n : ℕ) × (x : Option ℕ) × IsHeldKind sig name n × IsVariableText word x
  kind-parts text name word k split g =
      let m = kind-words text k g in
      let same = last-only 32 text (kind_name_text sig m.0) (variable_text m.1) name word m.5 split in
      (m.0, m.1, record { held = m.3; text = same.0 }, record { short = m.4; text = same.1 })

  -- an optional wildcard has a variable before the first blank, and its default behind it
  pub optional-parts : (text word default : Text) (k : NetToken) → IsSplitAtFirst 32 text word default
      → IsTokenText sig format (codes "opt " ++ text) k
      → (t : Tree) × (x : Option ℕ) × IsDefaultText sig default t × IsVariableText word x
  optional-parts text word default k split g =
      let m = optional-words text k g in
      let same = first-only 32 text (variable_text m.1) (term_text sig m.0) word default m.5 split in
      (m.0, m.1, subst (λ v. IsDefaultText sig v m.0) same.1 m.3, record { short = m.4; text = same.0 })

  -- the wildcard of a kind is found by its words
  pub kind-found : (text name word : Text) (n : ℕ) (x : Option ℕ) → IsSplitAtLast 32 text name word
      → IsOnly (IsVariableText word) x → IsOnly (IsHeldKind sig name) n
      → IsOnly (IsTokenText sig format (codes "kind " ++ text)) (wild_token (kind n) x)
  kind-found text name word n x split h g = record {
    is = record {
      right = (g.is.held, either (λ f. IsWildcardOf f (kind n)) tt tt format, h.is.short);
      spelled = ap (λ t. codes "kind " ++ t) (
          ap (λ t. t ++ 32 ∷ variable_text x) g.is.text ∙ (ap (λ t. name ++ 32 ∷ t) h.is.text ∙ sym split.parts)
          );
    };
    only = λ k t. (
        let m = kind-words text k t in
        let same = last-only 32 text (kind_name_text sig m.0) (variable_text m.1) name word m.5 split in
        m.2 ∙ (ap (λ i. wild_token (kind i) m.1) (g.only m.0 (record { held = m.3; text = same.0 }))
        ∙ ap (wild_token (kind n)) (h.only m.1 (record { short = m.4; text = same.1 })))
        );
  }

  -- the optional wildcard is found by its words
  pub optional-found : (text word default : Text) (t : Tree) (x : Option ℕ) → IsSplitAtFirst 32 text word default
      → IsOnly (IsVariableText word) x → IsOnly (IsDefaultText sig default) t
      → IsOnly (IsTokenText sig format (codes "opt " ++ text)) (wild_token (optional t) x)
  optional-found text word default t x split h g =
      let spelled : term_text sig t ≡ default = g.is.exact.spelled in
      record {
        is = record {
          right = (
            (subst (λ u. IsTermOf sig u t) (sym spelled) g.is.exact.read, g.is.small),
            either (λ f. IsWildcardOf f (optional t)) tt tt format,
            h.is.short,
          );
          spelled = ap (λ u. codes "opt " ++ u) (
              ap (λ u. u ++ 32 ∷ term_text sig t) h.is.text ∙ (ap (λ u. word ++ 32 ∷ u) spelled ∙ sym split.parts)
              );
        };
        only = λ k u. (
            let m = optional-words text k u in
            let same = first-only 32 text (variable_text m.1) (term_text sig m.0) word default m.5 split in
            m.2 ∙ (ap (λ i. wild_token (optional i) m.1)
            (g.only m.0 (subst (λ v. IsDefaultText sig v m.0) same.1 m.3))
            ∙ ap (wild_token (optional t)) (h.only m.1 (record { short = m.4; text = same.0 })))
            );
      }
  -- ---- texts of no token

-- ---- counted wildcards

module _ (sig : Sig) where
  -- the words of a counted wildcard
  pub counted-words : (text : Text) (k : NetToken) → IsTokenText sig Two (codes "counted " ++ text) k
      → (n : ℕ) × (fixed : Bool) × (x : Option ℕ) × (k ≡ wild_token (counted n fixed) x)
      × IsCountText (decimal n ++ text_if (not fixed) (codes "+")) n fixed × IsShortTarget x
      × IsSplitAtFirst 32 text (variable_text x) (decimal n ++ text_if (not fixed) (codes "+"))
  counted-words text (wild_token (counted n fixed) x) g = (
    n,
    fixed,
    x,
    refl,
    record { least = g.right.0.0; most = g.right.0.1; spelled = refl },
    g.right.2,
    record {
      parts = sym (append_cancel_left (codes "counted ") _ _ g.spelled);
      first = bare-variable x g.right.2;
    },
  )
  counted-words text k g = absurd (apart 4 _ _ refl g.spelled)

  -- the counted wildcard is found by its words
  pub counted-found : (text word count : Text) (n : ℕ) (fixed : Bool) (x : Option ℕ) → IsSplitAtFirst 32 text word count
      → IsOnly (IsVariableText word) x → IsOnly (λ (p : ℕ × Bool). IsCountText count p.0 p.1) (n, fixed)
      → IsOnly (IsTokenText sig Two (codes "counted " ++ text)) (wild_token (counted n fixed) x)
  counted-found text word count n fixed x split h g = record {
    is = record {
      right = ((g.is.least, g.is.most), tt, h.is.short);
      spelled = ap (λ u. codes "counted " ++ u) (
          ap (λ u. u ++ 32 ∷ (decimal n ++ text_if (not fixed) (codes "+"))) h.is.text
          ∙ (ap (λ u. word ++ 32 ∷ u) g.is.spelled ∙ sym split.parts)
          );
    };
    only = λ k u. (
        let m = counted-words text k u in
        let spelling = decimal m.0 ++ text_if (not m.1) (codes "+") in
        let same = first-only 32 text (variable_text m.2) spelling word count m.6 split in
        let counts = g.only (m.0, m.1) (subst (λ v. IsCountText v m.0 m.1) same.1 m.4) in
        m.3 ∙ (ap (λ (p : ℕ × Bool). wild_token (counted p.0 p.1) m.2) counts
        ∙ ap (wild_token (counted n fixed)) (h.only m.2 (record { short = m.5; text = same.0 })))
        );
  }

  -- each of its words is what it should be
  pub counted-parts : (text word count : Text) (k : NetToken) → IsSplitAtFirst 32 text word count
      → IsTokenText sig Two (codes "counted " ++ text) k
      → (x : Option ℕ) × (p : ℕ × Bool) × IsVariableText word x × IsCountText count p.0 p.1
  counted-parts text word count k split g =
      let m = counted-words text k g in
      let spelling = decimal m.0 ++ text_if (not m.1) (codes "+") in
      let same = first-only 32 text (variable_text m.2) spelling word count m.6 split in
      (m.2, (m.0, m.1), record { short = m.5; text = same.0 }, subst (λ v. IsCountText v m.0 m.1) same.1 m.4)

  -- in format 1 there is no counted wildcard
  pub not-counted : (text : Text) (k : NetToken) → IsTokenText sig One (codes "counted " ++ text) k → ⊥
  not-counted text (wild_token (counted n fixed) x) g = g.right.1
  not-counted text k g = apart 4 _ _ refl g.spelled

-- ---- counts

-- a count with `+` behind it
pub open-count : (text word : Text) (n : ℕ) (fixed : Bool) → text ≡ word ++ codes "+" → IsCountText text n fixed
    → IsCountWord word false n fixed
open-count text word n false e h = record {
  number = record {
    short = omega (arith, h.most);
    text = append_cancel_right (decimal n) word (codes "+") (h.spelled ∙ e);
  };
  least = h.least;
  most = h.most;
  same = refl;
}
open-count text word n true e h =
    let same : decimal n ≡ word ++ codes "+" = sym (append-nil (decimal n)) ∙ (h.spelled ∙ e) in
    let digits = sym (list_all-append is_ascii_digit word (codes "+")) ∙ (ap (list_all is_ascii_digit) (sym same)
    ∙ (decimal-text n (omega (arith, h.most))).are_digits) in
    let wrong : false ≡ true = (and_parts (list_all is_ascii_digit word) false digits).1 in cc

-- a count without it
pub fixed-count : (text : Text) (n : ℕ) (fixed : Bool) → ((front : Text) → text ≡ front ++ codes "+" → ⊥)
    → IsCountText text n fixed → IsCountWord text true n fixed
fixed-count text n true none h = record {
  number = record { short = omega (arith, h.most); text = sym (append-nil (decimal n)) ∙ h.spelled };
  least = h.least;
  most = h.most;
  same = refl;
}
fixed-count text n false none h = absurd (none (decimal n) (sym h.spelled))

-- what a count says of the text
pub count-open : (text word : Text) (n : ℕ) (fixed : Bool) → text ≡ word ++ codes "+" → IsCountWord word false n fixed
    → IsCountText text n fixed
count-open text word n true e h = (let wrong = h.same in cc)
count-open text word n false e h = record {
  least = h.least;
  most = h.most;
  spelled = ap (λ t. t ++ codes "+") h.number.text ∙ sym e;
}
