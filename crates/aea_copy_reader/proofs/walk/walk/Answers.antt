use Rattle.std.proofs.Common.{rules, ◌≡◌, ⊎_elim, ◌+◌, ◌-◌, ◌≤◌, ℕ, List, [], ◌∷◌, take, drop, ◌++◌, sym, ap, subst}
use Rattle.aea_disk.specs.Ends.{greatest_place}
use Rattle.aea_disk.proofs.Frames.{reads_none, reads_both, reads_as}
use Rattle.aea_copy_reader.specs.Judging.{IsSame}
use Rattle.aea_copy_reader.specs.declared.known.Standing.{Standing}
use Rattle.aea_copy_reader.specs.declared.known.Turn.TheVariants.{Ends, BadHere, GoesOn}
use Rattle.aea_copy_reader.proofs.Seeing.{are_seen_over}
use Rattle.aea_copy_reader.proofs.Turns.{turn_as}
use Rattle.aea_copy_reader.proofs.Walking.{together_first, together_ends, together_on, ends_here, bad_here}
use Rattle.aea_copy_reader.proofs.walk.walk.Goals as goal

pub entries-init : goal.entries-init
entries-init g c =
    let old = (g.D.Disk.state c.args.disk.now).files in (
      c.requires.place,
      c.requires.small,
      c.requires.place,
      c.requires.small,
      c.requires.seen,
      c.requires.read,
      λ reveals had pieces one two. together_first (old 0) (old c.args.pair.file) (old c.args.pair.other) pieces c.args.from.now c.args.had had one two,
      reads_none g.D.Disk.reveals ⊥ (g.D.Disk.state c.args.disk.now) (λ none. none),
    )

pub turn_at-requires-clause-seen : goal.turn_at-requires-clause-seen
turn_at-requires-clause-seen g c = λ reveals.
    are_seen_over (g.D.Disk.state c.args.disk.now).files (g.D.Disk.state c.entries.disk).files c.args.pair.file c.args.pair.other c.entries.own c.entries.twin c.entries.ledger (c.entries.invariant.7.contents reveals) (c.entries.invariant.4 reveals)

pub returns-in_err-turn_at-clause-reads : goal.returns-in_err-turn_at-clause-reads
returns-in_err-turn_at-clause-reads g c =
    reads_both g.D.Disk.reveals ⊥ _ (g.D.Disk.state c.args.disk.now) (g.D.Disk.state c.entries.disk) (g.D.Disk.state c.turn_at.new.disk) (λ none. none) c.entries.invariant.7
    (reads_as g.D.Disk.reveals _ _ _ _ (λ e. search rules) (λ e. search rules) c.in_err-turn_at.ensures.reads)

pub returns-in-Ends-clause-reads : goal.returns-in-Ends-clause-reads
returns-in-Ends-clause-reads g c =
    reads_both g.D.Disk.reveals ⊥ _ (g.D.Disk.state c.args.disk.now) (g.D.Disk.state c.entries.disk) (g.D.Disk.state c.turn_at.new.disk) (λ none. none) c.entries.invariant.7
    (reads_as g.D.Disk.reveals _ _ _ _ (λ e. absurd (cc)) (λ e. absurd (cc)) c.in_ok-turn_at.ensures.reads)

pub returns-in-BadHere-clause-reads : goal.returns-in-BadHere-clause-reads
returns-in-BadHere-clause-reads g c =
    reads_both g.D.Disk.reveals ⊥ _ (g.D.Disk.state c.args.disk.now) (g.D.Disk.state c.entries.disk) (g.D.Disk.state c.turn_at.new.disk) (λ none. none) c.entries.invariant.7
    (reads_as g.D.Disk.reveals _ _ _ _ (λ e. absurd (cc)) (λ e. absurd (cc)) c.in_ok-turn_at.ensures.reads)

pub returns-in-Ends-clause-seen : goal.returns-in-Ends-clause-seen
returns-in-Ends-clause-seen g c = λ reveals.
    are_seen_over (g.D.Disk.state c.entries.disk).files (g.D.Disk.state c.args.disk.now).files c.args.pair.file c.args.pair.other _ _ _ (sym (c.entries.invariant.7.contents reveals)) (c.in_ok-turn_at.ensures.seen reveals)

pub returns-in-BadHere-clause-seen : goal.returns-in-BadHere-clause-seen
returns-in-BadHere-clause-seen g c = λ reveals.
    are_seen_over (g.D.Disk.state c.entries.disk).files (g.D.Disk.state c.args.disk.now).files c.args.pair.file c.args.pair.other _ _ _ (sym (c.entries.invariant.7.contents reveals)) (c.in_ok-turn_at.ensures.seen reveals)

pub returns-in-Ends-clause-judged : goal.returns-in-Ends-clause-judged
returns-in-Ends-clause-judged g c = λ reveals.
    let old = (g.D.Disk.state c.args.disk.now).files in
    let mid = (g.D.Disk.state c.entries.disk).files in
    let all = c.entries.invariant.7.contents reveals in
    let has = c.entries.invariant.5 reveals in
    let copy = turn_as (old 0) (old c.args.pair.file) (mid 0) (mid c.args.pair.file) has.0 c.entries.stands Ends (ap (λ (f : ℕ → List ℕ). f 0) all) (ap (λ (f : ℕ → List ℕ). f c.args.pair.file) all)
    ((rw c.in-Ends.is at c.in_ok-turn_at.ensures.turn) reveals has.0) has.1 in
    record { pieces = has.0; copy = copy; text = has.1.text; link = has.1.link; in_ledger = has.1.in_ledger }

pub returns-in-BadHere-clause-judged : goal.returns-in-BadHere-clause-judged
returns-in-BadHere-clause-judged g c = λ reveals.
    let old = (g.D.Disk.state c.args.disk.now).files in
    let mid = (g.D.Disk.state c.entries.disk).files in
    let all = c.entries.invariant.7.contents reveals in
    let has = c.entries.invariant.5 reveals in
    turn_as (old 0) (old c.args.pair.file) (mid 0) (mid c.args.pair.file) has.0 c.entries.stands BadHere (ap (λ (f : ℕ → List ℕ). f 0) all) (ap (λ (f : ℕ → List ℕ). f c.args.pair.file) all)
    ((rw c.in-BadHere.is at c.in_ok-turn_at.ensures.turn) reveals has.0) has.1

pub returns-in-Ends-clause-common : goal.returns-in-Ends-clause-common
returns-in-Ends-clause-common g c = λ reveals had pieces one two.
    let old = (g.D.Disk.state c.args.disk.now).files in
    let mid = (g.D.Disk.state c.entries.disk).files in
    let all = c.entries.invariant.7.contents reveals in
    together_ends (old 0) (old c.args.pair.file) (old c.args.pair.other) c.entries.stands c.entries.common c.entries.same _ Ends (c.entries.invariant.6 reveals had pieces one two)
    (λ ps has. turn_as (old 0) (old c.args.pair.file) (mid 0) (mid c.args.pair.file) ps c.entries.stands Ends (ap (λ (f : ℕ → List ℕ). f 0) all) (ap (λ (f : ℕ → List ℕ). f c.args.pair.file) all)
    ((rw c.in-Ends.is at c.in_ok-turn_at.ensures.turn) reveals ps) has)
    ends_here

pub returns-in-BadHere-clause-common : goal.returns-in-BadHere-clause-common
returns-in-BadHere-clause-common g c = λ reveals had pieces one two.
    let old = (g.D.Disk.state c.args.disk.now).files in
    let mid = (g.D.Disk.state c.entries.disk).files in
    let all = c.entries.invariant.7.contents reveals in
    together_ends (old 0) (old c.args.pair.file) (old c.args.pair.other) c.entries.stands c.entries.common c.entries.same _ BadHere (c.entries.invariant.6 reveals had pieces one two)
    (λ ps has. turn_as (old 0) (old c.args.pair.file) (mid 0) (mid c.args.pair.file) ps c.entries.stands BadHere (ap (λ (f : ℕ → List ℕ). f 0) all) (ap (λ (f : ℕ → List ℕ). f c.args.pair.file) all)
    ((rw c.in-BadHere.is at c.in_ok-turn_at.ensures.turn) reveals ps) has)
    bad_here

pub entries-preserved : goal.entries-preserved
entries-preserved g c =
    let s = c.entries.stands in
    let t = c.in-GoesOn.next in
    let old = (g.D.Disk.state c.args.disk.now).files in
    let mid = (g.D.Disk.state c.entries.disk).files in
    let on = rw c.in-GoesOn.is at c.in_ok-turn_at.ensures.on in
    let turn = rw c.in-GoesOn.is at c.in_ok-turn_at.ensures.turn in
    let same = rw c.in-GoesOn.is at c.in_ok-turn_at.ensures.same in
    let either = c.further-common.ensures.either in (
      on.2,
      on.3,
      ⊎_elim (λ (e : c.further-common.result ≡ t). subst (λ (x : Standing). x.place ≤ greatest_place) (sym e) on.2) (λ (e : c.further-common.result ≡ c.entries.common). subst (λ (x : Standing). x.place ≤ greatest_place) (sym e) c.entries.invariant.2) either,
      ⊎_elim (λ (e : c.further-common.result ≡ t). subst (λ (x : Standing). x.text ≤ x.place) (sym e) on.3) (λ (e : c.further-common.result ≡ c.entries.common). subst (λ (x : Standing). x.text ≤ x.place) (sym e) c.entries.invariant.3) either,
      λ reveals. are_seen_over mid old c.args.pair.file c.args.pair.other _ _ _ (sym (c.entries.invariant.7.contents reveals)) (c.in_ok-turn_at.ensures.seen reveals),
      λ reveals.
          let all = c.entries.invariant.7.contents reveals in
          let has = c.entries.invariant.5 reveals in (
            has.0 ++ take (t.text - s.text) (drop (s.place + 5) (old c.args.pair.file)) ∷ [],
            turn_as (old 0) (old c.args.pair.file) (mid 0) (mid c.args.pair.file) has.0 s (GoesOn t c.in-GoesOn.still) (ap (λ (f : ℕ → List ℕ). f 0) all) (ap (λ (f : ℕ → List ℕ). f c.args.pair.file) all) (turn reveals has.0) has.1,
          ),
      λ reveals had pieces one two.
          let all = c.entries.invariant.7.contents reveals in
          together_on (old 0) (old c.args.pair.file) (old c.args.pair.other) s c.entries.common t c.further-common.result c.entries.same c.in-GoesOn.still (c.entries.invariant.6 reveals had pieces one two)
          (λ ps has. turn_as (old 0) (old c.args.pair.file) (mid 0) (mid c.args.pair.file) ps s (GoesOn t c.in-GoesOn.still) (ap (λ (f : ℕ → List ℕ). f 0) all) (ap (λ (f : ℕ → List ℕ). f c.args.pair.file) all) (turn reveals ps) has)
          (subst (λ (f : ℕ → List ℕ). IsSame (f c.args.pair.file) (f c.args.pair.other) s.place c.entries.same (GoesOn t c.in-GoesOn.still)) all (same reveals))
          c.further-common.ensures.on c.further-common.ensures.stays,
      reads_both g.D.Disk.reveals ⊥ ⊥ (g.D.Disk.state c.args.disk.now) (g.D.Disk.state c.entries.disk) (g.D.Disk.state c.turn_at.new.disk) (λ none. none) c.entries.invariant.7
          (reads_as g.D.Disk.reveals _ ⊥ _ _ (λ none. absurd none) (λ none. absurd (cc)) c.in_ok-turn_at.ensures.reads),
    )
