-- The mark that what is known is read as.
use Rattle.mp_rewrite.specs.Marks.{Mark, unknown, dead, inner, marks}
use Rattle.mp_rewrite.specs.declared.known.Known.{Known}
use Rattle.mp_rewrite.specs.declared.known.Known.TheVariants.{Nothing, Dead, Inner}

-- the mark of what is known
abbrev pub mark_of : Known → Mark
mark_of Nothing = unknown
mark_of Dead = dead
mark_of (Inner ms) = inner (marks ms)
