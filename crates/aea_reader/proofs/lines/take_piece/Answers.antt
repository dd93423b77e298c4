use Rattle.std.proofs.Common.{◌≡◌, ◌==◌, ◌++◌, [], Some, None, length, take, position, sym, ◌∙◌, ap, arith}
use Rattle.std.proofs.lemmas.Bool.{true≢false}
use Rattle.std.proofs.lemmas.List.{drop_all}
use Rattle.aea_reader.proofs.Pieces.{moved_found, plain_found, moved_whole, plain_more}
use Rattle.aea_reader.proofs.lines.take_piece.Goals as goal

pub returns-in_ok-append-in-Some-clause-moves : goal.returns-in_ok-append-in-Some-clause-moves
returns-in_ok-append-in-Some-clause-moves c =
    let line = c.args.line.now.items in
    let ahead = c.args.ahead.now in
    let grown = c.append.new.line.items in
    let after = c.skip.new.self in
    let end = c.in-Some.end in
    let found : position (λ x. x == 10) ahead ≡ Some end = ap (position (λ x. x == 10)) (sym c.bytes-text.ensures.bytes) ∙ sym c.find_newline.ensures.found ∙ c.in-Some.is in
    let grows : grown ≡ line ++ take end ahead = c.in_ok-append-in-Some.ensures ∙ ap (λ xs. line ++ take end xs) c.bytes-text.ensures.bytes in
    record {
      are = moved_found line ahead grown after end found grows c.skip.ensures;
      plain = plain_found line ahead grown end found grows;
      rest = λ h. absurd (true≢false h);
    }

pub returns-in_ok-append-in-None-clause-moves : goal.returns-in_ok-append-in-None-clause-moves
returns-in_ok-append-in-None-clause-moves c =
    let line = c.args.line.now.items in
    let ahead = c.args.ahead.now in
    let grown = c.append-in-None.new.line.items in
    let after = c.skip-in-None.new.self in
    let found : position (λ x. x == 10) ahead ≡ None = ap (position (λ x. x == 10)) (sym c.bytes-text.ensures.bytes) ∙ sym c.find_newline.ensures.found ∙ c.in-None.is in
    let grows : grown ≡ line ++ ahead = c.in_ok-append-in-None.ensures ∙ ap (λ xs. line ++ xs) c.bytes-text.ensures.bytes in
    let none : after ≡ [] = c.skip-in-None.ensures ∙ drop_all _ ahead (omega (arith, ap length c.bytes-text.ensures.bytes)) in
    record {
      are = moved_whole line ahead grown after grows none;
      plain = plain_more line ahead grown found grows;
      rest = λ h. none;
    }
