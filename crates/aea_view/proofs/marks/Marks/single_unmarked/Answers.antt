use Rattle.std.proofs.Common.{true, false, option_map, IfSome, refl, sym, ◌∙◌, ap, subst}
use Rattle.aea_lattice.specs.declared.grid.Lattice.{Lattice}
use Rattle.aea_lattice.specs.Blocks.{HasBlock, block_of}
use Rattle.aea_lattice.specs.Strands.{previous}
use Rattle.aea_lattice.specs.Closure.{IsForcedBy}
use Rattle.aea_lattice.proofs.Equations.{spent_settled, output_by_marks, datum_by_marks, input_by_marks, input_inside}
use Rattle.aea_view.specs.Marked.{Marked, is_marked}
use Rattle.aea_view.proofs.Forcing.{marks_read}
use Rattle.aea_view.proofs.marks.Marks.single_unmarked.Goals as goal

pub has_input-input-requires : goal.has_input-input-requires
has_input-input-requires c = λ x e.
    subst (λ b. IfSome b (HasBlock c.args.self.now.lattice)) (sym (c.equation-blocks.ensures.input ∙ ap (λ (l : Lattice). option_map (λ g. block_of g c.args.e.class) (previous l c.args.e.class c.args.e.node)) (ap (λ (m : Marked). m.lattice) c.self.view_is)) ∙ e)
    (input_inside c.args.self.now.lattice c.args.e (previous c.args.self.now.lattice c.args.e.class c.args.e.node) refl c.requires)

pub returns-in-true-true-false-clause-forced : goal.returns-in-true-true-false-clause-forced
returns-in-true-true-false-clause-forced c =
    subst (λ b. IsForcedBy c.args.self.now.lattice (is_marked c.args.self.now) b c.args.e) (sym c.equation-blocks.ensures.output)
    (output_by_marks c.args.self.now.lattice (is_marked c.args.self.now) c.args.e false c.requires
    (marks_read c.args.self.now c.self.inside.lattice c.args.e c.equation-blocks.result true true false (ap (λ (m : Marked). m.lattice) c.self.view_is)
    c.equation-blocks.ensures.input c.equation-blocks.ensures.datum c.equation-blocks.ensures.output
    c.in-true-true-false.ensures c.in-true-true-false.ensures' c.in-true-true-false.ensures''))

pub returns-in-true-false-true-clause-forced : goal.returns-in-true-false-true-clause-forced
returns-in-true-false-true-clause-forced c =
    subst (λ b. IsForcedBy c.args.self.now.lattice (is_marked c.args.self.now) b c.args.e) (sym c.equation-blocks.ensures.datum)
    (datum_by_marks c.args.self.now.lattice (is_marked c.args.self.now) c.args.e false c.requires
    (marks_read c.args.self.now c.self.inside.lattice c.args.e c.equation-blocks.result true false true (ap (λ (m : Marked). m.lattice) c.self.view_is)
    c.equation-blocks.ensures.input c.equation-blocks.ensures.datum c.equation-blocks.ensures.output
    c.in-true-false-true.ensures c.in-true-false-true.ensures' c.in-true-false-true.ensures''))

pub returns-in-false-true-true-clause-forced : goal.returns-in-false-true-true-clause-forced
returns-in-false-true-true-clause-forced c =
    subst (λ o. IfSome o (λ b. IsForcedBy c.args.self.now.lattice (is_marked c.args.self.now) b c.args.e)) (sym (c.equation-blocks.ensures.input ∙ ap (λ (l : Lattice). option_map (λ g. block_of g c.args.e.class) (previous l c.args.e.class c.args.e.node)) (ap (λ (m : Marked). m.lattice) c.self.view_is)))
    (input_by_marks c.args.self.now.lattice (is_marked c.args.self.now) c.args.e (previous c.args.self.now.lattice c.args.e.class c.args.e.node) refl c.requires
    (marks_read c.args.self.now c.self.inside.lattice c.args.e c.equation-blocks.result false true true (ap (λ (m : Marked). m.lattice) c.self.view_is)
    c.equation-blocks.ensures.input c.equation-blocks.ensures.datum c.equation-blocks.ensures.output
    c.in-false-true-true.ensures c.in-false-true-true.ensures' c.in-false-true-true.ensures''))

pub returns-in-false-true-true-clause-inside : goal.returns-in-false-true-true-clause-inside
returns-in-false-true-true-clause-inside c =
    subst (λ b. IfSome b (HasBlock c.args.self.now.lattice)) (sym (c.equation-blocks.ensures.input ∙ ap (λ (l : Lattice). option_map (λ g. block_of g c.args.e.class) (previous l c.args.e.class c.args.e.node)) (ap (λ (m : Marked). m.lattice) c.self.view_is)))
    (input_inside c.args.self.now.lattice c.args.e (previous c.args.self.now.lattice c.args.e.class c.args.e.node) refl c.requires)

pub returns-in_default-clause-spent : goal.returns-in_default-clause-spent
returns-in_default-clause-spent c =
    spent_settled c.args.self.now.lattice (is_marked c.args.self.now) c.args.e true true true refl
    (marks_read c.args.self.now c.self.inside.lattice c.args.e c.equation-blocks.result true true true (ap (λ (m : Marked). m.lattice) c.self.view_is)
    c.equation-blocks.ensures.input c.equation-blocks.ensures.datum c.equation-blocks.ensures.output
    c.in_default.ensures c.in_default.ensures' c.in_default.ensures'')

pub returns-in_default-2-clause-spent : goal.returns-in_default-2-clause-spent
returns-in_default-2-clause-spent c =
    spent_settled c.args.self.now.lattice (is_marked c.args.self.now) c.args.e true false false refl
    (marks_read c.args.self.now c.self.inside.lattice c.args.e c.equation-blocks.result true false false (ap (λ (m : Marked). m.lattice) c.self.view_is)
    c.equation-blocks.ensures.input c.equation-blocks.ensures.datum c.equation-blocks.ensures.output
    c.in_default.ensures c.in_default.ensures' c.in_default.ensures'')

pub returns-in_default-3-clause-spent : goal.returns-in_default-3-clause-spent
returns-in_default-3-clause-spent c =
    spent_settled c.args.self.now.lattice (is_marked c.args.self.now) c.args.e false true false refl
    (marks_read c.args.self.now c.self.inside.lattice c.args.e c.equation-blocks.result false true false (ap (λ (m : Marked). m.lattice) c.self.view_is)
    c.equation-blocks.ensures.input c.equation-blocks.ensures.datum c.equation-blocks.ensures.output
    c.in_default.ensures c.in_default.ensures' c.in_default.ensures'')

pub returns-in_default-4-clause-spent : goal.returns-in_default-4-clause-spent
returns-in_default-4-clause-spent c =
    spent_settled c.args.self.now.lattice (is_marked c.args.self.now) c.args.e false false c.get-output.result refl
    (marks_read c.args.self.now c.self.inside.lattice c.args.e c.equation-blocks.result false false c.get-output.result (ap (λ (m : Marked). m.lattice) c.self.view_is)
    c.equation-blocks.ensures.input c.equation-blocks.ensures.datum c.equation-blocks.ensures.output
    c.in_default.ensures c.in_default.ensures' c.get-output.ensures)
