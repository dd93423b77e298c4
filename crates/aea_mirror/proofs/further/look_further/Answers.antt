use Rattle.std.proofs.Common.{rules, ◌+◌, ◌^◌, ◌≤◌, ℕ, List, take, drop, refl, ap, subst, arith, inl, inr}
use Rattle.aea_disk.specs.Files.{Files}
use Rattle.aea_disk.proofs.Frames.{reads_none, reads_both, reads_as}
use Rattle.aea_mirror.specs.Looking.{IsLook}
use Rattle.aea_mirror.specs.declared.further.Look.TheVariants.{Closed, Record, NoRecord}
use Rattle.aea_mirror.proofs.Walking.{walked_none, walked_on, walked_far, walked_broken, walked_nothing, walked_until}
use Rattle.aea_mirror.proofs.further.look_further.Goals as goal

pub records-init : goal.records-init
records-init g c = (
  c.requires.places.1,
  c.requires.places.0,
  omega arith,
  λ revealed before place. walked_none ((g.D.Disk.state c.args.disk.now).files 0) before c.args.end c.args.gate place,
  reads_none g.D.Disk.reveals ⊥ (g.D.Disk.state c.args.disk.now) (λ none. none),
)

pub returns-in_err-look_at-clause-reads : goal.returns-in_err-look_at-clause-reads
returns-in_err-look_at-clause-reads g c =
    reads_both g.D.Disk.reveals ⊥ _ (g.D.Disk.state c.args.disk.now) (g.D.Disk.state c.records.disk) (g.D.Disk.state c.look_at.new.disk) (λ none. none) c.records.invariant.4
    (reads_as g.D.Disk.reveals _ _ _ _ (λ e. refl) (λ e. search rules) c.in_err-look_at.ensures.reads)

pub returns-then-at-end-clause-reads : goal.returns-then-at-end-clause-reads
returns-then-at-end-clause-reads g c =
    reads_both g.D.Disk.reveals ⊥ _ (g.D.Disk.state c.args.disk.now) (g.D.Disk.state c.records.disk) (g.D.Disk.state c.look_at.new.disk) (λ none. none) c.records.invariant.4
    c.in_ok-look_at.ensures.reads

pub returns-in-Closed-clause-reads : goal.returns-in-Closed-clause-reads
returns-in-Closed-clause-reads g c =
    reads_both g.D.Disk.reveals ⊥ _ (g.D.Disk.state c.args.disk.now) (g.D.Disk.state c.records.disk) (g.D.Disk.state c.look_at.new.disk) (λ none. none) c.records.invariant.4
    c.in_ok-look_at.ensures.reads

pub returns-in-NoRecord-clause-reads : goal.returns-in-NoRecord-clause-reads
returns-in-NoRecord-clause-reads g c =
    reads_both g.D.Disk.reveals ⊥ _ (g.D.Disk.state c.args.disk.now) (g.D.Disk.state c.records.disk) (g.D.Disk.state c.look_at.new.disk) (λ none. none) c.records.invariant.4
    c.in_ok-look_at.ensures.reads

pub returns-then-copy-gt-GREATEST_PLACE-clause-reads : goal.returns-then-copy-gt-GREATEST_PLACE-clause-reads
returns-then-copy-gt-GREATEST_PLACE-clause-reads g c =
    reads_both g.D.Disk.reveals ⊥ _ (g.D.Disk.state c.args.disk.now) (g.D.Disk.state c.records.disk) (g.D.Disk.state c.look_at.new.disk) (λ none. none) c.records.invariant.4
    c.in_ok-look_at.ensures.reads

pub returns-then-at-end-clause-further : goal.returns-then-at-end-clause-further
returns-then-at-end-clause-further g c = λ revealed before place.
    let same = ap (λ (f : Files). f 0) (c.records.invariant.4.contents revealed) in
    let look : IsLook (take 6 (drop c.records.at ((g.D.Disk.state c.records.disk).files 0))) Closed = (rw c.in-Closed.is at c.in_ok-look_at.ensures.look) revealed in
    walked_nothing ((g.D.Disk.state c.args.disk.now).files 0) before c.args.end c.records.at c.records.copy (c.records.invariant.3 revealed before place)
    (subst (λ (l : List ℕ). IsLook (take 6 (drop c.records.at l)) Closed) same look) c.if-at-end.true

pub returns-in-Closed-clause-further : goal.returns-in-Closed-clause-further
returns-in-Closed-clause-further g c = λ revealed before place.
    let same = ap (λ (f : Files). f 0) (c.records.invariant.4.contents revealed) in
    let look : IsLook (take 6 (drop c.records.at ((g.D.Disk.state c.records.disk).files 0))) Closed = (rw c.in-Closed.is at c.in_ok-look_at.ensures.look) revealed in
    walked_until ((g.D.Disk.state c.args.disk.now).files 0) before c.args.end c.records.at c.records.copy (c.records.invariant.3 revealed before place)
    (subst (λ (l : List ℕ). IsLook (take 6 (drop c.records.at l)) Closed) same look) c.if-at-end.false

pub returns-in-NoRecord-clause-further : goal.returns-in-NoRecord-clause-further
returns-in-NoRecord-clause-further g c = λ revealed before place.
    let same = ap (λ (f : Files). f 0) (c.records.invariant.4.contents revealed) in
    let look : IsLook (take 6 (drop c.records.at ((g.D.Disk.state c.records.disk).files 0))) NoRecord = (rw c.in-NoRecord.is at c.in_ok-look_at.ensures.look) revealed in
    walked_broken ((g.D.Disk.state c.args.disk.now).files 0) before c.args.end c.records.at c.records.copy (c.records.invariant.3 revealed before place)
    (subst (λ (l : List ℕ). IsLook (take 6 (drop c.records.at l)) NoRecord) same look)

pub returns-then-copy-gt-GREATEST_PLACE-clause-further : goal.returns-then-copy-gt-GREATEST_PLACE-clause-further
returns-then-copy-gt-GREATEST_PLACE-clause-further g c = λ revealed before place.
    let same = ap (λ (f : Files). f 0) (c.records.invariant.4.contents revealed) in
    let look : IsLook (take 6 (drop c.records.at ((g.D.Disk.state c.records.disk).files 0))) (Record c.in-Record.size) = (rw c.in-Record.is at c.in_ok-look_at.ensures.look) revealed in
    walked_far ((g.D.Disk.state c.args.disk.now).files 0) before c.args.end c.records.at c.records.copy c.in-Record.size (c.records.invariant.3 revealed before place)
    (subst (λ (l : List ℕ). IsLook (take 6 (drop c.records.at l)) (Record c.in-Record.size)) same look) (inl (omega (arith, c.if-copy-gt-GREATEST_PLACE.true)))

pub returns-then-at-gt-GREATEST_PLACE-clause-reads : goal.returns-then-at-gt-GREATEST_PLACE-clause-reads
returns-then-at-gt-GREATEST_PLACE-clause-reads g c =
    reads_both g.D.Disk.reveals ⊥ _ (g.D.Disk.state c.args.disk.now) (g.D.Disk.state c.records.disk) (g.D.Disk.state c.look_at.new.disk) (λ none. none) c.records.invariant.4
    c.in_ok-look_at.ensures.reads

pub returns-then-at-gt-GREATEST_PLACE-clause-further : goal.returns-then-at-gt-GREATEST_PLACE-clause-further
returns-then-at-gt-GREATEST_PLACE-clause-further g c = λ revealed before place.
    let same = ap (λ (f : Files). f 0) (c.records.invariant.4.contents revealed) in
    let look : IsLook (take 6 (drop c.records.at ((g.D.Disk.state c.records.disk).files 0))) (Record c.in-Record.size) = (rw c.in-Record.is at c.in_ok-look_at.ensures.look) revealed in
    walked_far ((g.D.Disk.state c.args.disk.now).files 0) before c.args.end c.records.at c.records.copy c.in-Record.size (c.records.invariant.3 revealed before place)
    (subst (λ (l : List ℕ). IsLook (take 6 (drop c.records.at l)) (Record c.in-Record.size)) same look) (inr (omega (arith, c.if-at-gt-GREATEST_PLACE.true)))

pub records-preserved : goal.records-preserved
records-preserved g c =
    let size = rw c.in-Record.is at c.in_ok-look_at.ensures.size in
    let near : c.records.copy + (37 + c.in-Record.size) ≤ 2 ^ 58 = omega (arith, c.if-copy-gt-GREATEST_PLACE.false) in (
      near,
      omega (arith, c.if-at-gt-GREATEST_PLACE.false),
      omega (arith, c.records.invariant.2),
      λ revealed before place.
          let same = ap (λ (f : Files). f 0) (c.records.invariant.4.contents revealed) in
          let look : IsLook (take 6 (drop c.records.at ((g.D.Disk.state c.records.disk).files 0))) (Record c.in-Record.size) = (rw c.in-Record.is at c.in_ok-look_at.ensures.look) revealed in
          walked_on ((g.D.Disk.state c.args.disk.now).files 0) before c.args.end c.records.at c.records.copy c.in-Record.size (c.records.invariant.3 revealed before place)
          (subst (λ (l : List ℕ). IsLook (take 6 (drop c.records.at l)) (Record c.in-Record.size)) same look) near,
      reads_both g.D.Disk.reveals ⊥ ⊥ (g.D.Disk.state c.args.disk.now) (g.D.Disk.state c.records.disk) (g.D.Disk.state c.look_at.new.disk) (λ none. none) c.records.invariant.4
          (reads_as g.D.Disk.reveals _ ⊥ _ _ (λ none. absurd none) (λ e. absurd (cc)) c.in_ok-look_at.ensures.reads),
    )
