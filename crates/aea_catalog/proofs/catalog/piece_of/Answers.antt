use Rattle.std.proofs.Common.{◌≡◌, [], ◌+◌, ◌-◌, ◌/◌, ◌<◌, length, get_or, arith, ◌∙◌, subst, List, ℕ, sym}
use Rattle.std.proofs.lemmas.List.{get_or_read}
use Rattle.aea_catalog.proofs.Searches.{in_entries, lesser_through, lesser_before_tie, greater_from}
use Rattle.aea_catalog.proofs.catalog.piece_of.Goals as goal

pub compare_at-requires : goal.compare_at-requires
compare_at-requires c =
    let pieces = c.args.pieces.now in
    let m = c.loop-low.low + (c.loop-low.high - c.loop-low.low) / 2 in
    let within : m < length pieces = omega arith in
    let is : c.indices.result.now ≡ get_or pieces m [] = c.indices.ensures ∙ get_or_read pieces m _ within c.index-pieces-middle.is [] in
    let some : 0 < length c.indices.result.now = subst (λ (l : List ℕ). 0 < length l) (sym is) (c.requires.filled m [] within).some in
    in_entries c.args.entries.now pieces c.requires.kept c.args.name.now m 0 c.indices.result.now within is some

pub loop-low-preserved-in-Less : goal.loop-low-preserved-in-Less
loop-low-preserved-in-Less c =
    let pieces = c.args.pieces.now in
    let m = c.loop-low.low + (c.loop-low.high - c.loop-low.low) / 2 in
    let within : m < length pieces = omega arith in
    let is : c.indices.result.now ≡ get_or pieces m [] = c.indices.ensures ∙ get_or_read pieces m _ within c.index-pieces-middle.is [] in
    let some : 0 < length c.indices.result.now = subst (λ (l : List ℕ). 0 < length l) (sym is) (c.requires.filled m [] within).some in
    record {
      ordered = omega arith;
      within = omega arith;
      before = λ k lt. lesser_through c.args.entries.now pieces c.requires.kept c.args.name.now m 0 c.indices.result.now within is some c.in-Less.ensures k (omega arith);
      after = c.loop-low.invariant.after;
    }

pub loop-low-preserved-in-Equal : goal.loop-low-preserved-in-Equal
loop-low-preserved-in-Equal c =
    let pieces = c.args.pieces.now in
    let m = c.loop-low.low + (c.loop-low.high - c.loop-low.low) / 2 in
    let within : m < length pieces = omega arith in
    let is : c.indices.result.now ≡ get_or pieces m [] = c.indices.ensures ∙ get_or_read pieces m _ within c.index-pieces-middle.is [] in
    let some : 0 < length c.indices.result.now = subst (λ (l : List ℕ). 0 < length l) (sym is) (c.requires.filled m [] within).some in
    record {
      ordered = omega arith;
      within = omega arith;
      before = λ k lt. lesser_before_tie c.args.entries.now pieces c.requires.kept c.args.name.now m 0 c.indices.result.now within is some c.in-Equal.ensures k (omega arith);
      after = c.loop-low.invariant.after;
    }

pub loop-low-preserved : goal.loop-low-preserved
loop-low-preserved c =
    let pieces = c.args.pieces.now in
    let m = c.loop-low.low + (c.loop-low.high - c.loop-low.low) / 2 in
    let within : m < length pieces = omega arith in
    let is : c.indices.result.now ≡ get_or pieces m [] = c.indices.ensures ∙ get_or_read pieces m _ within c.index-pieces-middle.is [] in
    let some : 0 < length c.indices.result.now = subst (λ (l : List ℕ). 0 < length l) (sym is) (c.requires.filled m [] within).some in
    record {
      ordered = omega arith;
      within = omega arith;
      before = c.loop-low.invariant.before;
      after = λ k le lt. greater_from c.args.entries.now pieces c.requires.kept c.args.name.now m 0 c.indices.result.now within is some c.in-Greater.ensures k (omega arith) lt;
    }
