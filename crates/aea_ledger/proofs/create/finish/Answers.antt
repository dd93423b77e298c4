use Rattle.std.proofs.Common.{◌≡◌, ◌≢◌, ℕ, List, [], ◌∷◌, length, inl, refl, sym, subst, arith}
use Rattle.std.proofs.lemmas.Result.{on_ok_weaker}
use Rattle.std.proofs.lemmas.Bool.{false≢true}
use Rattle.aea_disk.specs.Files.{Files, ChangesFile, ChangesOnly, Torn, overwritten}
use Rattle.aea_disk.specs.State.{IsReady}
use Rattle.aea_disk.proofs.Frames.{writes_faulted, writes_wider, writes_both, keeps_both}
use Rattle.aea_disk.proofs.Moments.{during_both, during_change, synced_fixed}
use Rattle.aea_ledger.specs.Stops.{IsNoneOrEmpty, empty_ledger}
use Rattle.aea_ledger.specs.Taking.{FitsMaking, TakesThrough, FitsThrough}
use Rattle.aea_ledger.proofs.Making.{fits_filling, fits_opening}
use Rattle.aea_ledger.proofs.Takings.{bare_behind, bare_begun, bare_full, empty_ends}
use Rattle.aea_ledger.proofs.Creates.{none_behind, filled, none_or_empty, empty_opened}
use Rattle.aea_ledger.proofs.create.finish.Goals as goal

pub returns-clause-any_moment : goal.returns-clause-any_moment
returns-clause-any_moment g c revealed =
    let first = g.D.Disk.state c.args.disk.now in
    let second = g.D.Disk.state c.write_through.new.disk in
    let third = g.D.Disk.state c.write_through-2.new.disk in
    let shape = c.args.shape.now in
    let rest = c.behind_gate.result in
    let full : second.files 0 ≡ 0 ∷ rest = filled shape rest (first.files 0) (second.files 0) (c.requires.begun revealed) c.behind_gate.ensures (c.in_ok-write_through.ensures.written revealed).here in
    let P : Files → Type 0 = λ d. IsNoneOrEmpty shape (d 0) in
    during_both first second third P c.write_through.ensures.writes.time c.write_through-2.ensures.writes.time
    (during_change 0 (Torn 1 (length rest)) first second (IsNoneOrEmpty shape) c.write_through.ensures.writes.crash (c.requires.fixed revealed)
    (λ xs torn. inl (none_behind (length rest) (first.files 0) xs (c.requires.begun revealed) torn)))
    (during_change 0 (Torn 0 1) second third (IsNoneOrEmpty shape) c.write_through-2.ensures.writes.crash (synced_fixed second 0 (c.in_ok-write_through.ensures.durable revealed))
    (λ xs torn. none_or_empty shape rest (second.files 0) xs full c.behind_gate.ensures torn))

pub returns-clause-reads : goal.returns-clause-reads
returns-clause-reads g c revealed =
    let first = g.D.Disk.state c.args.disk.now in
    let second = g.D.Disk.state c.write_through.new.disk in
    let third = g.D.Disk.state c.write_through-2.new.disk in
    let shape = c.args.shape.now in
    let rest = c.behind_gate.result in
    let full : second.files 0 ≡ 0 ∷ rest = filled shape rest (first.files 0) (second.files 0) (c.requires.begun revealed) c.behind_gate.ensures (c.in_ok-write_through.ensures.written revealed).here in
    none_or_empty shape rest (second.files 0) (third.files 0) full c.behind_gate.ensures (c.write_through-2.ensures.writes.contents revealed).here

pub returns-clause-created : goal.returns-clause-created
returns-clause-created g c =
    let first = g.D.Disk.state c.args.disk.now in
    let second = g.D.Disk.state c.write_through.new.disk in
    let third = g.D.Disk.state c.write_through-2.new.disk in
    let shape = c.args.shape.now in
    let rest = c.behind_gate.result in
    on_ok_weaker c.write_through-2.result
    (λ written revealed.
    let full : second.files 0 ≡ 0 ∷ rest = filled shape rest (first.files 0) (second.files 0) (c.requires.begun revealed) c.behind_gate.ensures (c.in_ok-write_through.ensures.written revealed).here in
    empty_opened shape rest (second.files 0) (third.files 0) full c.behind_gate.ensures (written revealed).here)
    c.write_through-2.ensures.written

pub returns-in_err-write_through-clause-writes : goal.returns-in_err-write_through-clause-writes
returns-in_err-write_through-clause-writes g c =
    let first = g.D.Disk.state c.args.disk.now in
    let rest = c.behind_gate.result in
    let n = length rest in
    let D = c.args.disk.now in
    writes_wider g.D.Disk.reveals (TakesThrough first 1 rest) (FitsThrough first 1 rest) (IsReady first) (FitsMaking first c.args.shape.now) _ (ChangesFile 0 (Torn 1 n)) (ChangesOnly 0) first (g.D.Disk.state c.write_through.new.disk) (λ d e changes. changes.others)
    (λ revealed ready. record {
      here = g.met.D.Disk.later_taken D 0 (first.files 0) 0 1 (omega arith) (g.met.D.Disk.bare_taken D (first.files 0) (first.files 0) ready.0 (bare_begun (first.files 0) (c.requires.begun revealed)) ready.1);
      then = (0, g.met.D.Disk.bare_taken D (first.files 0) (overwritten (first.files 0) 1 rest) ready.0 (bare_behind (first.files 0) rest (c.requires.begun revealed)) ready.1);
    })
    (λ revealed fit. fits_filling first c.args.shape.now rest (g.met.D.Disk.bare_kept D) (g.met.D.Disk.smaller_fits D) (c.requires.begun revealed) c.behind_gate.ensures fit)
    (writes_faulted g.D.Disk.reveals (TakesThrough first 1 rest) (FitsThrough first 1 rest) _ _ (ChangesFile 0 (Torn 1 n)) first (g.D.Disk.state c.write_through.new.disk) c.in_err-write_through.ensures.writes refl (cc))

pub returns-clause-writes : goal.returns-clause-writes
returns-clause-writes g c =
    let first = g.D.Disk.state c.args.disk.now in
    let second = g.D.Disk.state c.write_through.new.disk in
    let third = g.D.Disk.state c.write_through-2.new.disk in
    let shape = c.args.shape.now in
    let rest = c.behind_gate.result in
    let n = length rest in
    let D = c.args.disk.now in
    let E = c.write_through.new.disk in
    let there = overwritten (second.files 0) 0 (1 ∷ []) in
    writes_both g.D.Disk.reveals (IsReady first) (TakesThrough first 1 rest) (TakesThrough second 0 (1 ∷ [])) (FitsMaking first c.args.shape.now) (FitsThrough first 1 rest) (FitsThrough second 0 (1 ∷ [])) _ _
    (ChangesFile 0 (Torn 1 n)) (ChangesFile 0 (Torn 0 1)) (ChangesOnly 0) first second third false≢true
    (λ d e one. one.others) (λ d e f one two. keeps_both (λ k. k ≢ 0) d e f one.others two.others)
    (λ revealed ready. record {
      here = g.met.D.Disk.later_taken D 0 (first.files 0) 0 1 (omega arith) (g.met.D.Disk.bare_taken D (first.files 0) (first.files 0) ready.0 (bare_begun (first.files 0) (c.requires.begun revealed)) ready.1);
      then = (0, g.met.D.Disk.bare_taken D (first.files 0) (overwritten (first.files 0) 1 rest) ready.0 (bare_behind (first.files 0) rest (c.requires.begun revealed)) ready.1);
    })
    (λ revealed ready step goes.
    let has = goes 0 (first.files 0) ready.0 ready.1 in
    let full : second.files 0 ≡ 0 ∷ rest = filled shape rest (first.files 0) (second.files 0) (c.requires.begun revealed) c.behind_gate.ensures (c.in_ok-write_through.ensures.written revealed).here in
    let whole : there ≡ empty_ledger shape = empty_opened shape rest (second.files 0) there full c.behind_gate.ensures refl in
    record {
      here = g.met.D.Disk.bare_taken E (first.files 0) (second.files 0) ready.0 (bare_full rest (second.files 0) full) has;
      then = (17, subst (λ (l : List ℕ). second.takes 0 l 17) (sym whole) (g.met.D.Disk.ended_taken E (first.files 0) (empty_ledger shape) ready.0 17 (empty_ends shape) has));
    })
    (λ revealed fit. fits_filling first c.args.shape.now rest (g.met.D.Disk.bare_kept D) (g.met.D.Disk.smaller_fits D) (c.requires.begun revealed) c.behind_gate.ensures fit)
    (λ revealed fit step passes.
    let full : second.files 0 ≡ 0 ∷ rest = filled shape rest (first.files 0) (second.files 0) (c.requires.begun revealed) c.behind_gate.ensures (c.in_ok-write_through.ensures.written revealed).here in
    fits_opening first second shape (g.met.D.Disk.smaller_fits E) (empty_opened shape rest (second.files 0) there full c.behind_gate.ensures refl) passes fit)
    c.in_ok-write_through.ensures.writes c.write_through-2.ensures.writes
