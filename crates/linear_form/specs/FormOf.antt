-- What forms and literals in memory stand for.
use Rattle.std.specs.Prelude.{option_map, map}
use Rattle.term_base.specs.Trees.{tree}
use Rattle.term_base.specs.Lits.{lit}
use Rattle.linear_form.specs.declared.forms.Form as memory
use Rattle.linear_form.specs.declared.normal.Known.{Known}
use Rattle.linear_form.specs.Forms.{Form}
use Rattle.linear_form.specs.Normal.{WithForm}

-- the form over trees
abbrev pub form_at : memory.Form → Form
form_at f = record { terms = map tree f.terms; sum = f.sum; reduced = f.reduced; turned = f.turned }

-- the literal and its form over trees
abbrev pub known : Known → WithForm
known k = record { literal = lit k.literal; form = option_map form_at k.form }
