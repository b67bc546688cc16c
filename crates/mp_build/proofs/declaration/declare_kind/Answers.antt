use Rattle.mp_term.specs.declared.limits.TheConstants.{MAX_KINDS, MAX_KIND_SYMBOLS}
use Rattle.std.proofs.Common.{◌≡◌, ◌++◌, List, [], length, map, ltb, rules, sym, ap, ◌∙◌}
use Rattle.std.proofs.lemmas.Result.{err_from_is_err_and}
use Rattle.std.proofs.lemmas.List.{length-map}
use Rattle.std.specs.Prelude.{flat_map}
use Rattle.mp_term.specs.declared.signature.KindId.{KindId}
use Rattle.mp_term.specs.declared.signature.SigFault.TheVariants.{Memory}
use Rattle.mp_term.specs.Signature.{Sig, kind_names, kind_fault}
use Rattle.mp_parser.specs.declared.word.Word as code
use Rattle.mp_parser.specs.Syntax.{Spot}
use Rattle.mp_parser.specs.View.{spot_of}
use Rattle.mp_build.specs.Checks.{symbol_faults, name_faults, kind_faults}
use Rattle.mp_build.proofs.Fails.{fails-front, fails-behind, fails-along, none-append}
use Rattle.mp_build.proofs.Declared.{is_some-found_kind, kind_added}
use Rattle.mp_build.proofs.OpLaws.{kind_fault-kind_faults, only-memory}
use Rattle.mp_build.proofs.declaration.declare_kind.Goals as goal
use Rattle.mp_build.proofs.declaration.declare_kind.Goals.{After-add_kind}

-- the faults of a kind whose members the code holds in a list
kind_faults-members : (sig : Sig) (name : Spot) (members : List code.Word)
    → name_faults MAX_KINDS (kind_names sig) (ltb MAX_KIND_SYMBOLS (length members)) name
    ++ flat_map (symbol_faults sig) (map spot_of members) ≡ kind_faults sig name (map spot_of members)
kind_faults-members sig name members = ap
    (λ n. name_faults MAX_KINDS (kind_names sig) (ltb MAX_KIND_SYMBOLS n) name
    ++ flat_map (symbol_faults sig) (map spot_of members)) (sym (length-map members spot_of))

pub returns-in_err-check_name : goal.returns-in_err-check_name
returns-in_err-check_name c =
    let p = err_from_is_err_and c.from_residual.result c.from_residual.ensures.1 in
    let e = c.in_err-check_name.field-0.0 in
    let names = kind_names c.args.sig.now in
    let held = c.is_some-is_held.ensures ∙ is_some-found_kind
    (λ (id : KindId). id.0) c.find_kind.result c.args.name.text.now names c.find_kind.ensures in
    rw (p.1, p.2) (fails-along e _ _ (kind_faults-members c.args.sig.now (spot_of c.args.name) c.args.members.now)
    (fails-front e _ _ (c.in_err-check_name.ensures.first names held c.kind_count.ensures.count)))

pub returns-in_err-members : goal.returns-in_err-members
returns-in_err-members c =
    let p = err_from_is_err_and c.from_residual-in_err-members.result c.from_residual-in_err-members.ensures.1 in
    let e = c.in_err-members.field-0.0 in
    let names = kind_names c.args.sig.now in
    let held = c.is_some-is_held.ensures ∙ is_some-found_kind
    (λ (id : KindId). id.0) c.find_kind.result c.args.name.text.now names c.find_kind.ensures in
    rw (p.1, p.2)
    (fails-along e _ _ (kind_faults-members c.args.sig.now (spot_of c.args.name) c.args.members.now)
    (fails-behind e _ _ (c.in_ok-check_name.ensures.first names held c.kind_count.ensures.count).0
    c.in_err-members.ensures))

-- the kind has no faults, since its name and its members have none
faultless : (c : After-add_kind)
    → kind_faults c.args.sig.now (spot_of c.args.name) (map spot_of c.args.members.now) ≡ []
faultless c =
    let names = kind_names c.args.sig.now in
    let held = c.is_some-is_held.ensures ∙ is_some-found_kind
    (λ (id : KindId). id.0) c.find_kind.result c.args.name.text.now names c.find_kind.ensures in
    sym (kind_faults-members c.args.sig.now (spot_of c.args.name) c.args.members.now)
    ∙ none-append _ _ (c.in_ok-check_name.ensures.first names held c.kind_count.ensures.count).0
    ∙ c.in_ok-members.ensures.0

pub returns-in-Ok : goal.returns-in-Ok
returns-in-Ok c = (
  faultless (goal.at.returns-in-Ok c).After-add_kind,
  kind_added c.args.sig.now c.add_kind.new.self _ _ (spot_of c.args.name)
      (map spot_of c.args.members.now) c.in-Ok.ensures.ok c.in_ok-name.ensures.1 c.in_ok-members.ensures.1,
)

pub unreachable-requires : goal.unreachable-requires
unreachable-requires c =
    let none = kind_fault-kind_faults c.args.sig.now (spot_of c.args.name) (map spot_of c.args.members.now)
    (faultless (goal.at.unreachable-requires c).After-add_kind) in
    let memory : c.in-Err.field-0 ≡ Memory =
    only-memory (ap (kind_fault c.args.sig.now) c.in_ok-name.ensures.1 ∙ none) c.in-Err.ensures.only_refused in
    search rules
