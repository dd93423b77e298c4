use Rattle.std.proofs.Common.{sym, ◌∙◌, subst}
use Rattle.aea_shelf.specs.Intact.{IsRecorded}
use Rattle.aea_shelf.proofs.Cells.{padded_intact}
use Rattle.aea_shelf.proofs.facts.plain_damage_stays.Goals as goal

pub returns : goal.returns
returns c = λ l shape recorded old new plain b has_b same intact.
    plain b has_b (subst (IsRecorded b (recorded b)) (sym (padded_intact shape b (recorded b) new intact) ∙ same) intact.here)
