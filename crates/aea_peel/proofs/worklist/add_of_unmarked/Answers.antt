use Rattle.std.proofs.Common.{◌≡◌, length, inl, inr, IsTrue, sym, ◌∙◌, ap, subst, arith}
use Rattle.std.proofs.lemmas.Bool.{cases_lt}
use Rattle.aea_lattice.specs.Blocks.{number_of}
use Rattle.aea_lattice.specs.Equations.{is_in_equation}
use Rattle.aea_lattice.proofs.Equations.{number_equal}
use Rattle.aea_peel.proofs.Queues.{still}
use Rattle.aea_peel.proofs.Around.{AreFlipped, not_clear, around_all, IsQueue-flipped}
use Rattle.aea_peel.proofs.worklist.add_of_unmarked.Goals as goal

pub loop-k-init : goal.loop-k-init
loop-k-init c = record {
  inside = λ e contains. absurd (let none = ap length c.requires.none in omega (arith, contains.1, none));
  rest = λ b has below clear e has_e stands. absurd (omega (arith, below));
}

pub loop-k-preserved : goal.loop-k-preserved
loop-k-preserved c =
    let l = c.args.lattice.now in
    let m = c.args.marks.now in
    let open' = c.in_ok-open.open in
    let flipped : AreFlipped l m open' = record { same = c.requires.same; flipped = c.in_ok-open.ensures.lattice; marks = c.in_ok-open.ensures.marks; whole = c.in_ok-open.ensures.whole } in
    let next = c.in-Some.ensures.found in
    record {
      inside = λ e contains. elim (c.in_ok-add_around.ensures.adds.inside e contains) [
        | inl old ↦ c.loop-k.invariant.inside e old
        | inr has ↦ has
      ];
      rest = λ b has below clear e has_e stands. elim (cases_lt (number_of l b) c.loop-k.from) [
        | inl earlier ↦
            still l m.marks 3 c.loop-k.waiting.items c.add_around.new.waiting.items e c.in_ok-add_around.ensures.adds
            (c.loop-k.invariant.rest b has earlier clear e has_e stands)
        | inr past ↦ elim (cases_lt (number_of l b) c.in-Some.k) [
          | inl between ↦ absurd (not_clear l m open' c.loop-k.from c.in-Some.k flipped next.clear b has clear past between)
          | inr at ↦
              let number : number_of l b ≡ c.in-Some.k = omega (arith, below, at) in
              let same = number_equal l b c.block.result has c.block.ensures.block (number ∙ sym c.block.ensures.number) in
              c.in_ok-add_around.ensures.added e has_e (subst (λ d. IsTrue (is_in_equation l e d)) same stands)
        ]
      ];
    }

pub returns : goal.returns
returns c =
    let l = c.args.lattice.now in
    let m = c.args.marks.now in
    let open' = c.in_ok-open.open in
    let flipped : AreFlipped l m open' = record { same = c.requires.same; flipped = c.in_ok-open.ensures.lattice; marks = c.in_ok-open.ensures.marks; whole = c.in_ok-open.ensures.whole } in
    IsQueue-flipped l m.marks c.loop-k.waiting.items c.reverse.new.self.items c.reverse.ensures.permutation
    (record {
      inside = c.loop-k.invariant.inside;
      rest = around_all l m open' c.loop-k.from c.loop-k.waiting.items flipped c.in_default.ensures.none c.loop-k.invariant.rest;
    })
