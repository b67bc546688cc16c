use Rattle.std.proofs.lemmas.Simd.{map-map}
use Rattle.mp_term.specs.View.{tree}
use Rattle.mp_print.specs.Printing.{term_text}
use Rattle.mp_print.proofs.subst_printer.put_terms.Goals as goal

pub returns : goal.returns
returns g c = rw (map-map (term_text c.args.sig.now) tree c.args.terms.now) c.put_enclosed.ensures
