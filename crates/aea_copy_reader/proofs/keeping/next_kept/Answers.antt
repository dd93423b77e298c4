use Rattle.std.proofs.Common.{◌≡◌, length, take, drop, sym, ap, ◌∙◌, arith}
use Rattle.std.proofs.lemmas.List.{take-take, length-take, length-drop}
use Rattle.std.proofs.lemmas.Slice.Eq.{bytes_eq-Decides}
use Rattle.aea_copy_reader.proofs.Seeing.{differ, seen_there, seen_end}
use Rattle.aea_copy_reader.proofs.keeping.next_kept.Goals as goal

pub returns-then-same-clause-kept : goal.returns-then-same-clause-kept
returns-then-same-clause-kept g c = λ reveals.
    let file = (g.D.Disk.state c.args.disk.now).files c.args.file in
    let e = c.in_ok-reach.ensures in
    let there = c.look-there.result.now in
    let equal = (bytes_eq-Decides there (take (length there) c.args.part.now)).0 (sym c.eq-same.ensures ∙ c.if-same.true) in
    sym (seen_there file there c.reach.new.self c.args.at (length c.args.part.now) (e.seen reveals) e.covers.from e.covers.within c.look-there.ensures.size c.look-there.ensures.part) ∙ equal

pub returns-then-same-clause-none : goal.returns-then-same-clause-none
returns-then-same-clause-none g c = λ none reveals whole.
    let file = (g.D.Disk.state c.args.disk.now).files c.args.file in
    let e = c.in_ok-reach.ensures in
    let there = c.look-there.result.now in
    let end = seen_end file c.reach.new.self c.args.at (length c.args.part.now) (length there) (e.seen reveals) e.covers c.requires.some c.look-there.ensures.size none in
    omega (arith, ap length whole, length-take (length c.args.part.now) (drop c.args.at file), length-drop c.args.at file, end, c.requires.some)

pub returns-clause-none : goal.returns-clause-none
returns-clause-none g c = λ none reveals whole.
    let file = (g.D.Disk.state c.args.disk.now).files c.args.file in
    let e = c.in_ok-reach.ensures in
    let there = c.look-there.result.now in
    let seen = seen_there file there c.reach.new.self c.args.at (length c.args.part.now) (e.seen reveals) e.covers.from e.covers.within c.look-there.ensures.size c.look-there.ensures.part in
    let front : there ≡ take (length there) c.args.part.now =
    seen ∙ sym (take-take (length there) (length c.args.part.now) (drop c.args.at file) (omega (arith, c.look-there.ensures.size))) ∙ ap (take (length there)) whole in
    let equal = c.eq-same.ensures ∙ (bytes_eq-Decides there (take (length there) c.args.part.now)).1 front in
    absurd (differ (sym equal ∙ c.if-same.false))
