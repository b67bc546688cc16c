use Rattle.mp_search.specs.Reading.{subst_of}
use Rattle.mp_search.proofs.SiteLaws.{site-node}
use Rattle.mp_search.proofs.prepare.draw.Goals as goal

pub number_at-requires : goal.number_at-requires
number_at-requires c = record {
  query = c.requires.query;
  child = site-node c.args.query.now c.args.site.now c.requires.site;
}

pub returns-in-Sym-clause-made : goal.returns-in-Sym-clause-made
returns-in-Sym-clause-made c = c.draw_symbol.ensures.made (subst_of c.args.query.now c.args.trail.now)

pub returns-in-None : goal.returns-in-None
returns-in-None c = record {
  made = c.draw_open.ensures.made;
  beside = c.draw_open.ensures.beside;
}
