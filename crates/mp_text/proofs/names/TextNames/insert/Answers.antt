use Rattle.std.proofs.Common.{◌≡◌, ◌++◌, ◌∷◌, [], false, true, map, refl, sym, ap, ◌∙◌}
use Rattle.std.specs.Prelude.{not, is_some, bytes_eq}
use Rattle.std.specs.List.{list_any}
use Rattle.std.proofs.Math.Bool.{not-not}
use Rattle.std.proofs.lemmas.Bool.{not-true}
use Rattle.mp_term.proofs.SignatureLaws.{position-map, is_some-position, map-insert_key}
use Rattle.mp_text.proofs.names.TextNames.insert.Goals as goal

pub returns-clause-new : goal.returns-clause-new
returns-clause-new c =
    let p = bytes_eq c.args.name.now in
    let keys = c.self.inside.names.keys in
    c.in_ok-insert.ensures.added ∙ ap not
    (sym (is_some-position (λ k. p k.now) keys) ∙ sym (ap is_some (position-map p (λ k. k.now) keys))
    ∙ is_some-position p (map (λ k. k.now) keys) ∙ ap (list_any p) c.self.view_is)

pub returns-clause-names : goal.returns-clause-names
returns-clause-names c = λ new.
    let n = c.args.name.now in
    let keys = c.self.inside.names.keys in
    let absent : list_any (bytes_eq n) (map (λ k. k.now) keys) ≡ false =
    sym (is_some-position (bytes_eq n) (map (λ k. k.now) keys))
    ∙ ap is_some (position-map (bytes_eq n) (λ k. k.now) keys)
    ∙ is_some-position (λ k. bytes_eq n k.now) keys ∙ not-true _ (sym c.in_ok-insert.ensures.added ∙ new) in
    map-insert_key (λ k. k.now) keys c.insert.new.self.keys c.args.name n refl absent c.in_ok-insert.ensures.keys
    ∙ ap (λ ns. ns ++ n ∷ []) c.self.view_is

pub returns-clause-kept : goal.returns-clause-kept
returns-clause-kept c = λ old.
    let keys = c.self.inside.names.keys in
    let there : list_any (λ k. bytes_eq c.args.name.now k.now) keys ≡ true =
    sym (not-not _) ∙ ap not (sym c.in_ok-insert.ensures.added ∙ old) in
    let same : c.insert.new.self.keys ≡ keys = rw there at c.in_ok-insert.ensures.keys in
    ap (map (λ k. k.now)) same ∙ c.self.view_is
