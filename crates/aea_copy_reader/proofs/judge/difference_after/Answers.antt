use Rattle.std.proofs.Common.{rules, ◌≡◌, ◌+◌, ◌-◌, ℕ, true, List, take, drop, ap, ◌∙◌, subst, arith}
use Rattle.aea_disk.proofs.Frames.{reads_both, reads_as}
use Rattle.aea_copy_reader.specs.Taking.{PartsAt}
use Rattle.aea_copy_reader.specs.declared.known.Turn.TheVariants.{GoesOn}
use Rattle.aea_copy_reader.proofs.Seeing.{swapped_over}
use Rattle.aea_copy_reader.proofs.Turns.{turn_as}
use Rattle.aea_copy_reader.proofs.Comparing.{first_ends, second_ends, both_part, both_same}
use Rattle.aea_copy_reader.proofs.judge.difference_after.Goals as goal

pub returns-in_default : goal.returns-in_default
returns-in_default g c = record {
  differ = λ reveals pieces far.
      let old = (g.D.Disk.state c.args.disk.now).files in
      first_ends (old 0) (old 65) (old 66) pieces c.args.stands.now c.in_ok-a.field-0 far.one far.two (c.in_ok-a.ensures.turn reveals pieces far.one) c.in_default.not-GoesOn;
  reads = reads_as g.D.Disk.reveals _ _ _ _ (λ e. absurd (cc)) (λ e. absurd (cc)) c.in_ok-a.ensures.reads;
}

pub turn_at-requires-2-clause-seen : goal.turn_at-requires-2-clause-seen
turn_at-requires-2-clause-seen g c = λ reveals.
    let all = c.in_ok-a.ensures.reads.contents reveals in
    swapped_over (g.D.Disk.state c.args.disk.now).files (g.D.Disk.state c.turn_at.new.disk).files 65 66 _ _ _ all (c.in_ok-a.ensures.seen reveals)

pub returns-in_err-b-clause-reads : goal.returns-in_err-b-clause-reads
returns-in_err-b-clause-reads g c =
    reads_both g.D.Disk.reveals ⊥ _ (g.D.Disk.state c.args.disk.now) (g.D.Disk.state c.turn_at.new.disk) (g.D.Disk.state c.turn_at-2.new.disk) (λ none. none)
    (reads_as g.D.Disk.reveals _ ⊥ _ _ (λ none. absurd none) (λ none. absurd (cc)) c.in_ok-a.ensures.reads)
    (reads_as g.D.Disk.reveals _ _ _ _ (λ e. search rules) (λ e. search rules) c.in_err-b.ensures.reads)

pub returns-in_default-2 : goal.returns-in_default-2
returns-in_default-2 g c = record {
  differ = λ reveals pieces far.
      let old = (g.D.Disk.state c.args.disk.now).files in
      let mid = (g.D.Disk.state c.turn_at.new.disk).files in
      let all = c.in_ok-a.ensures.reads.contents reveals in
      second_ends (old 0) (old 65) (old 66) pieces c.args.stands.now c.in_ok-b.field-0 far.one far.two
      (turn_as (old 0) (old 66) (mid 0) (mid 66) pieces c.args.stands.now c.in_ok-b.field-0 (ap (λ (f : ℕ → List ℕ). f 0) all) (ap (λ (f : ℕ → List ℕ). f 66) all) (c.in_ok-b.ensures.turn reveals pieces) far.two)
      c.in_default-2.not-GoesOn;
  reads =
      reads_both g.D.Disk.reveals ⊥ _ (g.D.Disk.state c.args.disk.now) (g.D.Disk.state c.turn_at.new.disk) (g.D.Disk.state c.turn_at-2.new.disk) (λ none. none)
      (reads_as g.D.Disk.reveals _ ⊥ _ _ (λ none. absurd none) (λ none. absurd (cc)) c.in_ok-a.ensures.reads)
      (reads_as g.D.Disk.reveals _ _ _ _ (λ e. absurd (cc)) (λ e. absurd (cc)) c.in_ok-b.ensures.reads);
}

pub returns-in_err-at-clause-reads : goal.returns-in_err-at-clause-reads
returns-in_err-at-clause-reads g c =
    reads_both g.D.Disk.reveals ⊥ _ (g.D.Disk.state c.args.disk.now) (g.D.Disk.state c.turn_at.new.disk) (g.D.Disk.state c.range_parting.new.disk) (λ none. none)
    (reads_as g.D.Disk.reveals _ ⊥ _ _ (λ none. absurd none) (λ none. absurd (cc)) c.in_ok-a.ensures.reads)
    (reads_both g.D.Disk.reveals ⊥ _ (g.D.Disk.state c.turn_at.new.disk) (g.D.Disk.state c.turn_at-2.new.disk) (g.D.Disk.state c.range_parting.new.disk) (λ none. none)
    (reads_as g.D.Disk.reveals _ ⊥ _ _ (λ none. absurd none) (λ none. absurd (cc)) c.in_ok-b.ensures.reads)
    (reads_as g.D.Disk.reveals _ _ _ _ (λ e. search rules) (λ e. search rules) c.in_err-at.ensures.reads))

pub returns-in-Some-clause-reads : goal.returns-in-Some-clause-reads
returns-in-Some-clause-reads g c =
    reads_both g.D.Disk.reveals ⊥ _ (g.D.Disk.state c.args.disk.now) (g.D.Disk.state c.turn_at.new.disk) (g.D.Disk.state c.range_parting.new.disk) (λ none. none)
    (reads_as g.D.Disk.reveals _ ⊥ _ _ (λ none. absurd none) (λ none. absurd (cc)) c.in_ok-a.ensures.reads)
    (reads_both g.D.Disk.reveals ⊥ _ (g.D.Disk.state c.turn_at.new.disk) (g.D.Disk.state c.turn_at-2.new.disk) (g.D.Disk.state c.range_parting.new.disk) (λ none. none)
    (reads_as g.D.Disk.reveals _ ⊥ _ _ (λ none. absurd none) (λ none. absurd (cc)) c.in_ok-b.ensures.reads)
    (reads_as g.D.Disk.reveals _ _ _ _ (λ e. absurd (cc)) (λ e. absurd (cc)) c.in_ok-at.ensures.reads))

pub returns-in-None-clause-reads : goal.returns-in-None-clause-reads
returns-in-None-clause-reads g c =
    reads_both g.D.Disk.reveals ⊥ _ (g.D.Disk.state c.args.disk.now) (g.D.Disk.state c.turn_at.new.disk) (g.D.Disk.state c.range_parting.new.disk) (λ none. none)
    (reads_as g.D.Disk.reveals _ ⊥ _ _ (λ none. absurd none) (λ none. absurd (cc)) c.in_ok-a.ensures.reads)
    (reads_both g.D.Disk.reveals ⊥ _ (g.D.Disk.state c.turn_at.new.disk) (g.D.Disk.state c.turn_at-2.new.disk) (g.D.Disk.state c.range_parting.new.disk) (λ none. none)
    (reads_as g.D.Disk.reveals _ ⊥ _ _ (λ none. absurd none) (λ none. absurd (cc)) c.in_ok-b.ensures.reads)
    (reads_as g.D.Disk.reveals _ _ _ _ (λ e. absurd (cc)) (λ e. absurd (cc)) c.in_ok-at.ensures.reads))

pub returns-in-Some-clause-differ : goal.returns-in-Some-clause-differ
returns-in-Some-clause-differ g c = λ reveals pieces far.
    let s = c.args.stands.now in
    let t = c.in-GoesOn.a in
    let u = c.in-GoesOn-2.b in
    let old = (g.D.Disk.state c.args.disk.now).files in
    let mid = (g.D.Disk.state c.turn_at.new.disk).files in
    let one = c.in_ok-a.ensures.reads.contents reveals in
    let all : (g.D.Disk.state c.turn_at-2.new.disk).files ≡ old = c.in_ok-b.ensures.reads.contents reveals ∙ one in
    let on = rw c.in-GoesOn.is at c.in_ok-a.ensures.on in
    let up = rw c.in-GoesOn-2.is at c.in_ok-b.ensures.on in
    let parts = (rw c.in-Some.is at c.in_ok-at.ensures.parts) reveals in
    both_part (old 0) (old 65) (old 66) pieces s t u (c.min.result - s.text) c.in-Some.at far
    ((rw c.in-GoesOn.is at c.in_ok-a.ensures.turn) reveals pieces far.one)
    (turn_as (old 0) (old 66) (mid 0) (mid 66) pieces s (GoesOn u true) (ap (λ (f : ℕ → List ℕ). f 0) one) (ap (λ (f : ℕ → List ℕ). f 66) one) ((rw c.in-GoesOn-2.is at c.in_ok-b.ensures.turn) reveals pieces) far.two)
    on.1 on.0 up.1 up.0 (omega (arith, c.min.ensures))
    (subst (λ (f : ℕ → List ℕ). PartsAt c.in-Some.at (take (c.min.result - s.text) (drop (s.place + 5) (f 65))) (take (c.min.result - s.text) (drop (s.place + 5) (f 66)))) all parts)

pub returns-in-None-clause-differ : goal.returns-in-None-clause-differ
returns-in-None-clause-differ g c = λ reveals pieces far.
    let s = c.args.stands.now in
    let t = c.in-GoesOn.a in
    let u = c.in-GoesOn-2.b in
    let old = (g.D.Disk.state c.args.disk.now).files in
    let mid = (g.D.Disk.state c.turn_at.new.disk).files in
    let one = c.in_ok-a.ensures.reads.contents reveals in
    let all : (g.D.Disk.state c.turn_at-2.new.disk).files ≡ old = c.in_ok-b.ensures.reads.contents reveals ∙ one in
    let on = rw c.in-GoesOn.is at c.in_ok-a.ensures.on in
    let up = rw c.in-GoesOn-2.is at c.in_ok-b.ensures.on in
    let same = (rw c.in-None.is at c.in_ok-at.ensures.same) reveals in
    absurd
    (both_same (old 0) (old 65) (old 66) pieces s t u (c.min.result - s.text) far
    ((rw c.in-GoesOn.is at c.in_ok-a.ensures.turn) reveals pieces far.one)
    (turn_as (old 0) (old 66) (mid 0) (mid 66) pieces s (GoesOn u true) (ap (λ (f : ℕ → List ℕ). f 0) one) (ap (λ (f : ℕ → List ℕ). f 66) one) ((rw c.in-GoesOn-2.is at c.in_ok-b.ensures.turn) reveals pieces) far.two)
    on.1 on.0 up.1 up.0 (omega (arith, c.min.ensures))
    (subst (λ (f : ℕ → List ℕ). take (c.min.result - s.text) (drop (s.place + 5) (f 65)) ≡ take (c.min.result - s.text) (drop (s.place + 5) (f 66))) all same))
