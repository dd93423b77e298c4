use Rattle.std.proofs.Common.{sym, ◌∙◌, ap}
use Rattle.aea_sites.specs.Words.{is_word, some_passes}
use Rattle.aea_sites.proofs.ByFates.{none_past}
use Rattle.aea_sites.proofs.few.is_word_at.Goals as goal

pub returns-in-Some-Word : goal.returns-in-Some-Word
returns-in-Some-Word c = sym (ap (some_passes is_word) c.in-Some-Word.ensures ∙ ap is_word c.in-Some-Word.field-0-is)

pub returns-in-Some-Sum : goal.returns-in-Some-Sum
returns-in-Some-Sum c = sym (ap (some_passes is_word) c.in-Some-Sum.ensures ∙ ap is_word c.in-Some-Sum.field-0-is)

pub returns-in-None : goal.returns-in-None
returns-in-None c = sym (none_past is_word c.args.fates.now c.args.k c.in-None.ensures)
