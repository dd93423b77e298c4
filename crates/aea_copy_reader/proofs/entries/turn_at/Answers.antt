use Rattle.std.proofs.Common.{rules, ◌≡◌, ◌↔◌, ◌+◌, ℕ, true, List, length, take, drop, refl, sym, ap, ◌∙◌, subst, arith, inl, inr}
use Rattle.std.proofs.lemmas.List.{take-take, length-take}
use Rattle.aea_disk.proofs.Frames.{reads_both, reads_as}
use Rattle.aea_records.specs.TableLaws.{AreBytes}
use Rattle.aea_copy_reader.specs.Heads.{IsHead}
use Rattle.aea_copy_reader.specs.Judging.{IsSame}
use Rattle.aea_copy_reader.proofs.Seeing.{seen_whole, seen_over}
use Rattle.aea_copy_reader.proofs.Walking.{same_turn}
use Rattle.aea_copy_reader.proofs.Turns.{bad_head, bad_first, ends, turn_as}
use Rattle.aea_copy_reader.proofs.Parting.{ok_from, ok_with}
use Rattle.aea_copy_reader.proofs.entries.turn_at.Goals as goal

pub returns-in_err-before-in-Piece-clause-reads : goal.returns-in_err-before-in-Piece-clause-reads
returns-in_err-before-in-Piece-clause-reads g c =
    reads_both g.D.Disk.reveals ⊥ _ (g.D.Disk.state c.args.disk.now) (g.D.Disk.state c.reach.new.disk) (g.D.Disk.state c.keeps.new.disk) (λ none. none)
    (reads_as g.D.Disk.reveals _ ⊥ _ _ (λ none. absurd none) (λ none. absurd (cc)) c.in_ok-reach.ensures.reads)
    (reads_as g.D.Disk.reveals _ _ _ _ (λ e. search rules) (λ e. search rules) c.in_err-before-in-Piece.ensures.reads)

pub returns-in_ok-before-in-Piece-clause-reads : goal.returns-in_ok-before-in-Piece-clause-reads
returns-in_ok-before-in-Piece-clause-reads g c =
    reads_both g.D.Disk.reveals ⊥ _ (g.D.Disk.state c.args.disk.now) (g.D.Disk.state c.reach.new.disk) (g.D.Disk.state c.entry_at.new.disk) (λ none. none)
    (reads_as g.D.Disk.reveals _ ⊥ _ _ (λ none. absurd none) (λ none. absurd (cc)) c.in_ok-reach.ensures.reads)
    (reads_both g.D.Disk.reveals ⊥ _ (g.D.Disk.state c.reach.new.disk) (g.D.Disk.state c.keeps.new.disk) (g.D.Disk.state c.entry_at.new.disk) (λ none. none)
    (reads_as g.D.Disk.reveals _ ⊥ _ _ (λ none. absurd none) (λ none. absurd (cc)) c.in_ok-before-in-Piece.ensures.reads)
    c.entry_at.ensures.reads)

pub keeps-requires-clause-seen : goal.keeps-requires-clause-seen
keeps-requires-clause-seen g c = λ reveals.
    seen_over (g.D.Disk.state c.args.disk.now).files (g.D.Disk.state c.reach.new.disk).files c.args.pair.other _ (c.in_ok-reach.ensures.reads.contents reveals) (c.requires.seen reveals).twin

pub entry_at-requires-clause-seen : goal.entry_at-requires-clause-seen
entry_at-requires-clause-seen g c = λ reveals.
    let one = c.in_ok-reach.ensures.reads.contents reveals in
    let two = c.in_ok-before-in-Piece.ensures.reads.contents reveals ∙ one in
    record {
      own = seen_over (g.D.Disk.state c.args.disk.now).files (g.D.Disk.state c.keeps.new.disk).files c.args.pair.file _ two (c.in_ok-reach.ensures.seen reveals);
      twin = seen_over (g.D.Disk.state c.reach.new.disk).files (g.D.Disk.state c.keeps.new.disk).files c.args.pair.other _ (c.in_ok-before-in-Piece.ensures.reads.contents reveals) (c.in_ok-before-in-Piece.ensures.seen reveals);
      ledger = seen_over (g.D.Disk.state c.args.disk.now).files (g.D.Disk.state c.keeps.new.disk).files 0 _ two (c.requires.seen reveals).ledger;
    }

pub entry_at-requires-clause-head : goal.entry_at-requires-clause-head
entry_at-requires-clause-head g c = λ reveals.
    let file = (g.D.Disk.state c.args.disk.now).files c.args.pair.file in
    let e = c.in_ok-reach.ensures in
    let all = ap (λ (f : ℕ → List ℕ). f c.args.pair.file) (c.in_ok-before-in-Piece.ensures.reads.contents reveals ∙ e.reads.contents reveals) in
    let front = seen_whole file c.look-head.result.now c.reach.new.self c.args.stands.now.place 11 (e.seen reveals) e.covers c.look-head.ensures.size c.look-head.ensures.part in
    let found = rw c.in-Piece.is at c.opening_in.ensures in
    subst (λ (k : ℕ). IsHead c.args.stands.now.first (take 11 (drop c.args.stands.now.place ((g.D.Disk.state c.keeps.new.disk).files c.args.pair.file))) k) (sym c.from.ensures)
    (subst (λ (l : List ℕ). IsHead c.args.stands.now.first (take 11 (drop c.args.stands.now.place l)) c.in-Piece.len) (sym all)
    (subst (λ (l : List ℕ). IsHead c.args.stands.now.first l c.in-Piece.len) front found))

pub entry_at-requires-clause-bytes : goal.entry_at-requires-clause-bytes
entry_at-requires-clause-bytes g c = λ reveals.
    let file = (g.D.Disk.state c.args.disk.now).files c.args.pair.file in
    let e = c.in_ok-reach.ensures in
    let all = ap (λ (f : ℕ → List ℕ). f c.args.pair.file) (c.in_ok-before-in-Piece.ensures.reads.contents reveals ∙ e.reads.contents reveals) in
    let front = seen_whole file c.look-head.result.now c.reach.new.self c.args.stands.now.place 11 (e.seen reveals) e.covers c.look-head.ensures.size c.look-head.ensures.part in
    subst (λ (l : List ℕ). AreBytes (take 11 (drop c.args.stands.now.place l))) (sym all) (subst AreBytes front c.are_bytes.ensures)

pub returns-in-Broken-clause-turn : goal.returns-in-Broken-clause-turn
returns-in-Broken-clause-turn g c = λ reveals pieces stands.
    let file = (g.D.Disk.state c.args.disk.now).files c.args.pair.file in
    let e = c.in_ok-reach.ensures in
    let front = seen_whole file c.look-head.result.now c.reach.new.self c.args.stands.now.place 11 (e.seen reveals) e.covers c.look-head.ensures.size c.look-head.ensures.part in
    let found = rw c.in-Broken.is at c.opening_in.ensures in
    bad_head ((g.D.Disk.state c.args.disk.now).files 0) file pieces c.args.stands.now c.look-head.result.now stands c.requires.place front found.0 found.1 found.2

pub returns-in-Missing-clause-turn : goal.returns-in-Missing-clause-turn
returns-in-Missing-clause-turn g c = λ reveals pieces stands.
    let file = (g.D.Disk.state c.args.disk.now).files c.args.pair.file in
    let e = c.in_ok-reach.ensures in
    let front = seen_whole file c.look-head.result.now c.reach.new.self c.args.stands.now.place 11 (e.seen reveals) e.covers c.look-head.ensures.size c.look-head.ensures.part in
    let found = rw c.in-Missing.is at c.opening_in.ensures in
    bad_first ((g.D.Disk.state c.args.disk.now).files 0) file pieces c.args.stands.now c.look-head.result.now stands c.requires.place front (inl found)

pub returns-then-stands-clause-turn : goal.returns-then-stands-clause-turn
returns-then-stands-clause-turn g c = λ reveals pieces stands.
    let file = (g.D.Disk.state c.args.disk.now).files c.args.pair.file in
    let e = c.in_ok-reach.ensures in
    let front = seen_whole file c.look-head.result.now c.reach.new.self c.args.stands.now.place 11 (e.seen reveals) e.covers c.look-head.ensures.size c.look-head.ensures.part in
    let found = rw c.in-Closed.is at c.opening_in.ensures in
    bad_first ((g.D.Disk.state c.args.disk.now).files 0) file pieces c.args.stands.now c.look-head.result.now stands c.requires.place front (inr (c.if-stands.true, found.0, found.1))

pub returns-else-stands-clause-turn : goal.returns-else-stands-clause-turn
returns-else-stands-clause-turn g c = λ reveals pieces stands.
    let file = (g.D.Disk.state c.args.disk.now).files c.args.pair.file in
    let e = c.in_ok-reach.ensures in
    let front = seen_whole file c.look-head.result.now c.reach.new.self c.args.stands.now.place 11 (e.seen reveals) e.covers c.look-head.ensures.size c.look-head.ensures.part in
    let found = rw c.in-Closed.is at c.opening_in.ensures in
    ends ((g.D.Disk.state c.args.disk.now).files 0) file pieces c.args.stands.now c.look-head.result.now stands c.requires.place c.if-stands.false front found.0 found.1

pub returns-in_ok-before-in-Piece-clause-turn : goal.returns-in_ok-before-in-Piece-clause-turn
returns-in_ok-before-in-Piece-clause-turn g c =
    ok_from c.entry_at.result
    (λ turn found reveals pieces.
    let all = c.in_ok-before-in-Piece.ensures.reads.contents reveals ∙ c.in_ok-reach.ensures.reads.contents reveals in
    turn_as ((g.D.Disk.state c.args.disk.now).files 0) ((g.D.Disk.state c.args.disk.now).files c.args.pair.file) ((g.D.Disk.state c.keeps.new.disk).files 0) ((g.D.Disk.state c.keeps.new.disk).files c.args.pair.file) pieces c.args.stands.now turn
    (ap (λ (f : ℕ → List ℕ). f 0) all) (ap (λ (f : ℕ → List ℕ). f c.args.pair.file) all) (found reveals pieces))
    c.entry_at.ensures.turn

pub returns-in_ok-before-in-Piece-clause-same : goal.returns-in_ok-before-in-Piece-clause-same
returns-in_ok-before-in-Piece-clause-same g c =
    ok_with c.entry_at.result
    (λ turn on rest reveals.
    let old = (g.D.Disk.state c.args.disk.now).files in
    let e = c.in_ok-reach.ensures in
    let place = c.args.stands.now.place in
    let head = c.look-head.result.now in
    let one = e.reads.contents reveals in
    let two = c.in_ok-before-in-Piece.ensures.reads.contents reveals ∙ one in
    let front = seen_whole (old c.args.pair.file) head c.reach.new.self place 11 (e.seen reveals) e.covers c.look-head.ensures.size c.look-head.ensures.part in
    let found = rw c.in-Piece.is at c.opening_in.ensures in
    let five : length (take 5 head) ≡ 5 = omega (arith, length-take 5 head, found.long) in
    let start : take 5 head ≡ take 5 (drop place (old c.args.pair.file)) = ap (take 5) front ∙ take-take 5 11 (drop place (old c.args.pair.file)) (omega arith) in
    same_turn (old c.args.pair.file) (old c.args.pair.other) (take 5 head) place (length (take 5 head)) c.args.stands.now c.args.had c.in_ok-before-in-Piece.before turn refl five start
    (subst (λ (f : ℕ → List ℕ). c.in_ok-before-in-Piece.before ≡ true ↔ ((c.args.had ≡ true) × (take (length (take 5 head)) (drop place (f c.args.pair.other)) ≡ take 5 head))) one (c.in_ok-before-in-Piece.ensures.is reveals))
    on
    (subst (λ (f : ℕ → List ℕ). IsSame (f c.args.pair.file) (f c.args.pair.other) (place + 5) c.in_ok-before-in-Piece.before turn) two (rest reveals)))
    c.entry_at.ensures.on c.entry_at.ensures.same
