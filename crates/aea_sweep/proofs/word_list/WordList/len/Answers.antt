use Rattle.std.proofs.Common.{List, ℕ, length, sym, ◌∙◌, ap}
use Rattle.aea_sweep.proofs.Cutting.{lists-length}
use Rattle.aea_sweep.proofs.word_list.WordList.len.Goals as goal

pub returns : goal.returns
returns c =
    c.len.ensures ∙ c.self.inside.starts.ok.0 ∙ sym (lists-length c.self.inside.starts.items c.self.inside.nodes.items)
    ∙ ap (λ (xs : List (List ℕ)). length xs) c.self.view_is
