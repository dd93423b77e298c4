use Rattle.std.proofs.Common.{◌≡◌, Option, Some, None, sym, ap, ◌∙◌}
use Rattle.std.specs.Prelude.{option_map}
use Rattle.std.specs.Option.{option_or}
use Rattle.aea_lattice.specs.declared.blocks.BlockId.{BlockId}
use Rattle.aea_lattice.specs.Blocks.{blocks_count}
use Rattle.aea_view.specs.Marked.{is_marked}
use Rattle.aea_walk.specs.Missing.{missing}
use Rattle.aea_verify.specs.declared.verdict.Why.TheVariants.{Missing, WrongCount}
use Rattle.aea_verify.specs.Rules.{unless}
use Rattle.aea_verify.specs.Tallies.{counts_are}
use Rattle.aea_verify.proofs.tally.Tally.broken_behind.Goals as goal

pub returns-in-Some : goal.returns-in-Some
returns-in-Some c =
    let l = c.args.marks.now.lattice in
    let t = c.args.self.now in
    let count = c.blocks-count.ensures.count ∙ ap blocks_count c.lattice.ensures.lattice in
    let found : missing l (is_marked c.args.marks.now) t.least (blocks_count l) ≡ Some c.in-Some.block =
    ap (λ n. missing l (is_marked c.args.marks.now) t.least n) (sym count) ∙ sym c.least_missing.ensures ∙ c.in-Some.is in
    ap (λ (o : Option BlockId). option_or (option_map (λ b. (t.line, Missing b)) o) (option_map (λ why. (4, why)) (unless (counts_are c.args.head.now t.peeled t.solved t.lost) WrongCount))) (sym found)

pub returns-in-None : goal.returns-in-None
returns-in-None c =
    let l = c.args.marks.now.lattice in
    let t = c.args.self.now in
    let count = c.blocks-count.ensures.count ∙ ap blocks_count c.lattice.ensures.lattice in
    let found : missing l (is_marked c.args.marks.now) t.least (blocks_count l) ≡ None =
    ap (λ n. missing l (is_marked c.args.marks.now) t.least n) (sym count) ∙ sym c.least_missing.ensures ∙ c.in-None.is in
    c.broken_counts.ensures
    ∙ ap (λ (o : Option BlockId). option_or (option_map (λ b. (t.line, Missing b)) o) (option_map (λ why. (4, why)) (unless (counts_are c.args.head.now t.peeled t.solved t.lost) WrongCount))) (sym found)
