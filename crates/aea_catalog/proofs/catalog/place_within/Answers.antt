use Rattle.std.proofs.Common.{◌≡◌, [], ◌+◌, ◌-◌, ◌/◌, get_or, arith, ◌∙◌}
use Rattle.std.proofs.lemmas.List.{get_or_read}
use Rattle.aea_catalog.proofs.Searches.{in_entries, lesser_through, greater_from, found_there, gap_there}
use Rattle.aea_catalog.proofs.catalog.place_within.Goals as goal

pub compare_at-requires : goal.compare_at-requires
compare_at-requires c =
    let is : c.indices-indices.result.now ≡ get_or c.args.pieces.now c.args.piece [] = c.indices-indices.ensures ∙ get_or_read c.args.pieces.now c.args.piece _ c.requires.within c.index-pieces-piece.is [] in
    in_entries c.args.entries.now c.args.pieces.now c.requires.kept c.args.name.now c.args.piece (c.loop-low.low + (c.loop-low.high - c.loop-low.low) / 2) c.indices-indices.result.now c.requires.within is (omega arith)

pub loop-low-preserved-in-Less : goal.loop-low-preserved-in-Less
loop-low-preserved-in-Less c =
    let is : c.indices-indices.result.now ≡ get_or c.args.pieces.now c.args.piece [] = c.indices-indices.ensures ∙ get_or_read c.args.pieces.now c.args.piece _ c.requires.within c.index-pieces-piece.is [] in
    record {
      ordered = omega arith;
      within = omega arith;
      before = lesser_through c.args.entries.now c.args.pieces.now c.requires.kept c.args.name.now c.args.piece (c.loop-low.low + (c.loop-low.high - c.loop-low.low) / 2) c.indices-indices.result.now c.requires.within is (omega arith) c.in-Less.ensures;
      after = c.loop-low.invariant.after;
    }

pub returns-in-Equal-clause-found : goal.returns-in-Equal-clause-found
returns-in-Equal-clause-found c =
    let is : c.indices-indices.result.now ≡ get_or c.args.pieces.now c.args.piece [] = c.indices-indices.ensures ∙ get_or_read c.args.pieces.now c.args.piece _ c.requires.within c.index-pieces-piece.is [] in
    found_there c.args.entries.now c.args.pieces.now c.requires.kept c.args.name.now c.args.piece (c.loop-low.low + (c.loop-low.high - c.loop-low.low) / 2) c.indices-indices.result.now c.requires.within is (omega arith) c.in-Equal.ensures

pub loop-low-preserved : goal.loop-low-preserved
loop-low-preserved c =
    let is : c.indices-indices.result.now ≡ get_or c.args.pieces.now c.args.piece [] = c.indices-indices.ensures ∙ get_or_read c.args.pieces.now c.args.piece _ c.requires.within c.index-pieces-piece.is [] in
    record {
      ordered = omega arith;
      within = omega arith;
      before = c.loop-low.invariant.before;
      after = greater_from c.args.entries.now c.args.pieces.now c.requires.kept c.args.name.now c.args.piece (c.loop-low.low + (c.loop-low.high - c.loop-low.low) / 2) c.indices-indices.result.now c.requires.within is (omega arith) c.in-Greater.ensures;
    }

pub returns-clause-absent : goal.returns-clause-absent
returns-clause-absent c =
    let is : c.indices-indices.result.now ≡ get_or c.args.pieces.now c.args.piece [] = c.indices-indices.ensures ∙ get_or_read c.args.pieces.now c.args.piece _ c.requires.within c.index-pieces-piece.is [] in
    let high : c.loop-low.high ≡ c.loop-low.low = omega arith in
    gap_there c.args.entries.now c.args.pieces.now c.requires.kept c.args.name.now c.args.piece c.loop-low.low c.indices-indices.result.now c.requires.within is (omega arith) c.loop-low.invariant.before
    (λ k le lt. c.loop-low.invariant.after k (omega arith) lt)
