use Rattle.std.proofs.Common.{◌≢◌, ◌≤◌, ◌++◌, inl, length, length-append, refl, sym, ap, subst, arith}
use Rattle.std.proofs.lemmas.List.Elements.{All-nil}
use Rattle.aea_reader.specs.Words.{IsFree}
use Rattle.aea_reader.proofs.Pieces.{gathers_none, gathers_most}
use Rattle.aea_reader.proofs.Steps.{step_ended}
use Rattle.aea_reader.proofs.lines.read_line.Goals as goal

pub pieces-init : goal.pieces-init
pieces-init g c = record {
  gathers = gathers_none c.args.ahead.now (g.S.Source.state c.args.source.now).left _ (ap (λ xs. xs ++ c.args.ahead.now) c.requires);
  plain = subst (IsFree 10) (sym c.requires) (All-nil (λ x. x ≢ 10));
  room = inl c.requires;
  kept = omega arith;
  still = refl;
}

pub returns-in_default-clause-most : goal.returns-in_default-clause-most
returns-in_default-clause-most g c =
    let short = c.take_piece.ensures.short in
    let few : length (c.pieces.line.items ++ c.pieces.ahead) ≤ 16777217 = omega (arith, length-append c.pieces.line.items c.pieces.ahead) in
    gathers_most c.args.ahead.now (g.S.Source.state c.args.source.now).left (g.S.Source.state c.pieces.source).left (c.pieces.line.items ++ c.pieces.ahead) 16777217 few c.pieces.invariant.gathers

pub returns-then-met-clause-line : goal.returns-then-met-clause-line
returns-then-met-clause-line g c =
    step_ended c.args.ahead.now (g.S.Source.state c.args.source.now).left (g.S.Source.state c.pieces.source).left c.pieces.line.items c.pieces.ahead
    c.take_piece.new.line.items c.take_piece.new.ahead c.in-Ok.met c.pieces.invariant.gathers c.in-Ok.ensures.moves c.if-met.true c.take_piece.ensures.short

pub returns-then-met-clause-most : goal.returns-then-met-clause-most
returns-then-met-clause-most g c =
    let short = c.take_piece.ensures.short in
    let few : length (c.pieces.line.items ++ c.pieces.ahead) ≤ 16777217 = omega (arith, length-append c.pieces.line.items c.pieces.ahead) in
    gathers_most c.args.ahead.now (g.S.Source.state c.args.source.now).left (g.S.Source.state c.pieces.source).left (c.pieces.line.items ++ c.pieces.ahead) 16777217 few c.pieces.invariant.gathers
