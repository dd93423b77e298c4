use Rattle.std.proofs.Common.{◌≡◌, ◌-◌, ◌++◌, ℕ, suc, sym, ◌∙◌, subst, arith, refl}
use Rattle.aea_lattice.specs.Blocks.{block_of, class_number}
use Rattle.aea_view.specs.Marked.{is_marked}
use Rattle.aea_sweep.specs.States.{AreSwept}
use Rattle.aea_sweep.specs.Tables.{HasPlaces}
use Rattle.aea_sweep.proofs.Losing.{places_clean}
use Rattle.aea_sweep.proofs.Meeting.{pass_on}
use Rattle.aea_sweep.proofs.Places.{parity_at}
use Rattle.aea_sweep.proofs.sweep.go_over_parity.Goals as goal

pub returns-then-get-clause-swept : goal.returns-then-get-clause-swept
returns-then-get-clause-swept c =
    let l = c.args.lattice.now in
    let class = c.args.class in
    let q = class_number class - 1 in
    let parity = c.requires.class.parity in
    let next : suc q ≡ class_number class = omega arith in
    subst (λ (n : ℕ). AreSwept l (is_marked c.args.known.now) c.args.node n (c.meet_parity.new.words.items ++ c.args.closed.now) c.meet_parity.new.heads) next
    (c.in_ok-meet_parity.ensures.met l (is_marked c.args.known.now) c.args.closed.now c.args.node q (block_of c.args.node class) c.requires.spare
    (parity_at l c.args.node c.place-at.result class c.requires.node c.requires.class c.place-at.ensures.place)
    (sym c.get.ensures ∙ c.if-get.true) c.requires.swept)

pub end_strand-requires-clause-places : goal.end_strand-requires-clause-places
end_strand-requires-clause-places c =
    subst (λ (n : ℕ). HasPlaces n c.args.heads.now) (sym c.requires.spare)
    (places_clean c.args.lattice.now (is_marked c.args.known.now) c.args.node (class_number c.args.class - 1) (c.args.words.now.items ++ c.args.closed.now) c.args.heads.now c.requires.swept.are_open)

pub returns-in-Some-clause-swept : goal.returns-in-Some-clause-swept
returns-in-Some-clause-swept c =
    let l = c.args.lattice.now in
    let class = c.args.class in
    let q = class_number class - 1 in
    let parity = c.requires.class.parity in
    let next : suc q ≡ class_number class = omega arith in
    let j = c.in-Some.field-0 in
    let goes = (c.in-Some.ensures.next j).0 refl in
    subst (λ (n : ℕ). AreSwept l (is_marked c.args.known.now) c.args.node n (c.args.words.now.items ++ c.args.closed.now) c.args.heads.now) next
    (pass_on l (is_marked c.args.known.now) c.args.node q c.place-at.result j (block_of c.args.node class)
    (parity_at l c.args.node c.place-at.result class c.requires.node c.requires.class c.place-at.ensures.place)
    (sym c.get.ensures ∙ c.if-get.false) c.in-Some.ensures.later.0 c.in-Some.ensures.later.1 goes.1 (c.args.words.now.items ++ c.args.closed.now) c.args.heads.now c.requires.swept)

pub returns-in_ok-end_strand-in-None-clause-swept : goal.returns-in_ok-end_strand-in-None-clause-swept
returns-in_ok-end_strand-in-None-clause-swept c =
    let l = c.args.lattice.now in
    let class = c.args.class in
    let q = class_number class - 1 in
    let parity = c.requires.class.parity in
    let next : suc q ≡ class_number class = omega arith in
    subst (λ (n : ℕ). AreSwept l (is_marked c.args.known.now) c.args.node n (c.end_strand.new.words.items ++ c.end_strand.new.closed) c.end_strand.new.heads) next
    (c.in_ok-end_strand-in-None.ensures.ended l (is_marked c.args.known.now) c.args.node q (block_of c.args.node class) c.requires.spare
    (parity_at l c.args.node c.place-at.result class c.requires.node c.requires.class c.place-at.ensures.place)
    (sym c.get.ensures ∙ c.if-get.false) c.in-None.ensures.next c.requires.swept)
