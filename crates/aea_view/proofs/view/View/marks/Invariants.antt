use Rattle.std.proofs.Common.{◌≡◌, ◌<◌, Bool}
use Rattle.aea_lattice.specs.declared.blocks.BlockId.{BlockId}
use Rattle.aea_lattice.specs.Blocks.{HasBlock, number_of}
use Rattle.aea_view.specs.Presence.{AnswersAs}
use Rattle.aea_view.specs.Marked.{IsWhole, is_marked}
use Rattle.aea_view.proofs.Filling.{marks_in}
use Rattle.aea_view.proofs.view.View.marks.Given as goal

abbrev pub invariant-loop-k : goal.invariant-loop-k
invariant-loop-k g l = record {
  same : l.marks.lattice ≡ l.self.lattice;
  whole : IsWhole l.marks;
  marks : (known : BlockId → Bool) → AnswersAs (goal.F-post g) l.self.lattice l.self.predicate known
      → (b : BlockId) → HasBlock l.self.lattice b → number_of l.self.lattice b < l.k → is_marked (marks_in l.self.lattice l.marks.marks) b ≡ known b;
}
