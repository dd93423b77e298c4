use Rattle.std.proofs.Common.{◌++◌, ℕ, refl, sym, ◌∙◌, subst}
use Rattle.std.specs.Prelude.{slice_set}
use Rattle.aea_lattice.specs.declared.blocks.Class.TheVariants.{Datum}
use Rattle.aea_lattice.specs.Blocks.{block_of}
use Rattle.aea_view.specs.Marked.{is_marked}
use Rattle.aea_sweep.specs.Tables.{HasPlaces}
use Rattle.aea_sweep.proofs.Losing.{places_clean}
use Rattle.aea_sweep.proofs.Places.{known_node, lost_at}
use Rattle.aea_sweep.proofs.sweep.go_over_datum.Goals as goal

pub returns-then-get-clause-swept : goal.returns-then-get-clause-swept
returns-then-get-clause-swept c =
    known_node c.args.lattice.now (is_marked c.args.known.now) c.args.node (c.args.words.now.items ++ c.args.closed.now) c.args.heads.now c.requires.node
    (sym c.get.ensures ∙ c.if-get.true) c.requires.swept

pub settle-requires-clause-places : goal.settle-requires-clause-places
settle-requires-clause-places c =
    let clean =
    lost_at c.args.lattice.now (is_marked c.args.known.now) c.args.node c.args.spare c.args.words.now.items c.args.closed.now c.push.new.self c.index_mut.result.now c.args.heads.now c.heads_of.result
    c.requires.spare c.requires.sized c.requires.node (sym c.get.ensures ∙ c.if-get.false) c.in_ok-push.ensures c.index_mut.ensures.value c.heads_of.ensures c.requires.swept in
    subst (λ (n : ℕ). HasPlaces n (slice_set c.args.heads.now c.args.spare c.heads_of.result)) (sym c.requires.spare)
    (places_clean c.args.lattice.now (is_marked c.args.known.now) c.args.node 0 (slice_set c.args.words.now.items c.args.spare c.push.new.self ++ c.args.closed.now)
    (slice_set c.args.heads.now c.args.spare c.heads_of.result) clean.are_open)

pub returns-clause-swept : goal.returns-clause-swept
returns-clause-swept c =
    c.in_ok-settle.ensures.settled c.args.lattice.now (is_marked c.args.known.now) c.args.node 0 (block_of c.args.node Datum) c.requires.spare refl refl
    (lost_at c.args.lattice.now (is_marked c.args.known.now) c.args.node c.args.spare c.args.words.now.items c.args.closed.now c.push.new.self c.index_mut.result.now c.args.heads.now c.heads_of.result
    c.requires.spare c.requires.sized c.requires.node (sym c.get.ensures ∙ c.if-get.false) c.in_ok-push.ensures c.index_mut.ensures.value c.heads_of.ensures c.requires.swept)
