use Rattle.std.proofs.Common.{◌≡◌, ◌+◌, ℕ, List, [], ◌∷◌, ◌++◌, length, refl, sym, ◌∙◌, subst, arith, length-append}
use Rattle.aea_disk.specs.Files.{ChangesOnly}
use Rattle.aea_disk.specs.State.{IsReady, HasRoomTo}
use Rattle.aea_disk.proofs.Frames.{writes_as, writes_wider}
use Rattle.aea_ledger.specs.Stops.{IsAdded, closed, committed}
use Rattle.aea_ledger.specs.Taking.{TakesCommit, FitsCommit, FitsAdding}
use Rattle.aea_ledger.specs.Values.{IsThisOne}
use Rattle.aea_ledger.proofs.Adding.{takes_added, fits_added}
use Rattle.aea_records.specs.Format.{Record, body, entry}
use Rattle.aea_ledger.proofs.Appends.{is_added, closed_is, length-closed, has_more, this_one}
use Rattle.aea_ledger.proofs.entry.write_next_entry.Goals as goal

pub returns-in_err-write_entry-clause-leaves : goal.returns-in_err-write_entry-clause-leaves
returns-in_err-write_entry-clause-leaves g c = λ v r at is next. record {
  any_moment = λ revealed records its. c.in_err-write_entry.ensures.any_moment revealed v.shape records r (is_added v records r ((g.D.Disk.state c.args.disk.now).files 0) (closed c.args.front.now c.args.rest.now) c.args.end at next its (closed_is c.args.front.now c.args.rest.now r is));
  stays = λ revealed records its. c.in_err-write_entry.ensures.stays revealed v.shape records r (is_added v records r ((g.D.Disk.state c.args.disk.now).files 0) (closed c.args.front.now c.args.rest.now) c.args.end at next its (closed_is c.args.front.now c.args.rest.now r is));
  reads = λ revealed records its. c.in_err-write_entry.ensures.reads revealed v.shape records r (is_added v records r ((g.D.Disk.state c.args.disk.now).files 0) (closed c.args.front.now c.args.rest.now) c.args.end at next its (closed_is c.args.front.now c.args.rest.now r is));
  long = λ revealed. omega (arith, c.in_err-write_entry.ensures.length revealed, at, length-closed c.args.front.now c.args.rest.now r is);
}

pub returns-clause-leaves : goal.returns-clause-leaves
returns-clause-leaves g c = λ v r at is next. record {
  any_moment = λ revealed records its. c.in_ok-write_entry.ensures.any_moment revealed v.shape records r (is_added v records r ((g.D.Disk.state c.args.disk.now).files 0) (closed c.args.front.now c.args.rest.now) c.args.end at next its (closed_is c.args.front.now c.args.rest.now r is));
  stays = λ revealed records its. c.in_ok-write_entry.ensures.stays revealed v.shape records r (is_added v records r ((g.D.Disk.state c.args.disk.now).files 0) (closed c.args.front.now c.args.rest.now) c.args.end at next its (closed_is c.args.front.now c.args.rest.now r is));
  reads = λ revealed records its. c.in_ok-write_entry.ensures.reads revealed v.shape records r (is_added v records r ((g.D.Disk.state c.args.disk.now).files 0) (closed c.args.front.now c.args.rest.now) c.args.end at next its (closed_is c.args.front.now c.args.rest.now r is));
  long = λ revealed. omega (arith, c.in_ok-write_entry.ensures.length revealed, at, length-closed c.args.front.now c.args.rest.now r is);
}

-- the bytes of the commit are as many as those of the entry
length-closed_all : (front rest : List ℕ) (r : Record) → front ++ rest ≡ body r → length (closed front rest) ≡ length (entry r)
length-closed_all front rest r is = omega (arith, length-append front (rest ++ 0 ∷ []), length-append rest (0 ∷ []), length-closed front rest r is)

-- the space up to the new ending gate
room_same : (end at written entered : ℕ) → end ≡ at → written ≡ entered → at + 1 + written ≡ end + entered + 1
room_same end at written entered same size = omega (arith, same, size)

pub returns-clause-committed : goal.returns-clause-committed
returns-clause-committed g c = λ v w r at is next this taken. record {
  value = λ records has. has_more v w records r taken has (next records has);
  same_shape = taken.shape;
  live = taken.live;
  this_one = λ revealed. this_one v w r ((g.D.Disk.state c.args.disk.now).files 0) ((g.D.Disk.state c.write_entry.new.disk).files 0) taken next (this revealed)
      (λ records its. c.in_ok-write_entry.ensures.appended revealed v.shape records r (is_added v records r ((g.D.Disk.state c.args.disk.now).files 0) (closed c.args.front.now c.args.rest.now) c.args.end at next its (closed_is c.args.front.now c.args.rest.now r is)));
  exactly = λ revealed. c.in_ok-write_entry.ensures.exactly revealed ∙ (λ i. committed ((g.D.Disk.state c.args.disk.now).files 0) (sym at i) (closed_is c.args.front.now c.args.rest.now r is i));
  appended = λ revealed records its. c.in_ok-write_entry.ensures.appended revealed v.shape records r (is_added v records r ((g.D.Disk.state c.args.disk.now).files 0) (closed c.args.front.now c.args.rest.now) c.args.end at next its (closed_is c.args.front.now c.args.rest.now r is));
  durable = c.in_ok-write_entry.ensures.durable;
  room = λ room. subst (λ (n : ℕ). HasRoomTo (g.D.Disk.state c.args.disk.now) 0 n) (room_same v.end c.args.end (length c.args.front.now + (length c.args.rest.now + 1)) (length (entry r)) at (length-closed c.args.front.now c.args.rest.now r is)) (c.in_ok-write_entry.ensures.full room);
}

pub returns-clause-writes : goal.returns-clause-writes
returns-clause-writes g c = λ v r at is next this.
    let first = g.D.Disk.state c.args.disk.now in
    let behind = closed c.args.front.now c.args.rest.now in
    let added : g.D.Disk.reveals → (its : IsThisOne v (first.files 0)) → IsAdded v.shape its.records r (first.files 0) c.args.end behind =
    λ revealed its. is_added v its.records r (first.files 0) behind c.args.end at next (record { has = its.has; ledger = its.ledger }) (closed_is c.args.front.now c.args.rest.now r is) in
    writes_wider g.D.Disk.reveals (TakesCommit first c.args.end behind) (FitsCommit first c.args.end behind) (IsReady first) (FitsAdding first 1 (v.end + length (entry r))) _ (ChangesOnly 0) (ChangesOnly 0) first (g.D.Disk.state c.write_entry.new.disk)
    (λ d e step. step)
    (λ revealed ready. takes_added first v.shape (this revealed).records r c.args.end behind (g.met.D.Disk.later_taken c.args.disk.now) (g.met.D.Disk.ended_taken c.args.disk.now) (added revealed (this revealed)) ready)
    (λ revealed fit. fits_added first v.shape (this revealed).records r c.args.end behind (g.met.D.Disk.alike_kept c.args.disk.now) (added revealed (this revealed)) (length-closed_all c.args.front.now c.args.rest.now r is) (subst (λ (n : ℕ). FitsAdding first 1 (n + length (entry r))) at fit))
    (writes_as g.D.Disk.reveals (TakesCommit first c.args.end behind) (FitsCommit first c.args.end behind) _ _ (ChangesOnly 0) first (g.D.Disk.state c.write_entry.new.disk) (λ none. cc) (λ is. cc) c.in_ok-write_entry.ensures.writes)

pub returns-in_err-write_entry-clause-writes : goal.returns-in_err-write_entry-clause-writes
returns-in_err-write_entry-clause-writes g c = λ v r at is next this.
    let first = g.D.Disk.state c.args.disk.now in
    let behind = closed c.args.front.now c.args.rest.now in
    let added : g.D.Disk.reveals → (its : IsThisOne v (first.files 0)) → IsAdded v.shape its.records r (first.files 0) c.args.end behind =
    λ revealed its. is_added v its.records r (first.files 0) behind c.args.end at next (record { has = its.has; ledger = its.ledger }) (closed_is c.args.front.now c.args.rest.now r is) in
    writes_wider g.D.Disk.reveals (TakesCommit first c.args.end behind) (FitsCommit first c.args.end behind) (IsReady first) (FitsAdding first 1 (v.end + length (entry r))) _ (ChangesOnly 0) (ChangesOnly 0) first (g.D.Disk.state c.write_entry.new.disk)
    (λ d e step. step)
    (λ revealed ready. takes_added first v.shape (this revealed).records r c.args.end behind (g.met.D.Disk.later_taken c.args.disk.now) (g.met.D.Disk.ended_taken c.args.disk.now) (added revealed (this revealed)) ready)
    (λ revealed fit. fits_added first v.shape (this revealed).records r c.args.end behind (g.met.D.Disk.alike_kept c.args.disk.now) (added revealed (this revealed)) (length-closed_all c.args.front.now c.args.rest.now r is) (subst (λ (n : ℕ). FitsAdding first 1 (n + length (entry r))) at fit))
    (writes_as g.D.Disk.reveals (TakesCommit first c.args.end behind) (FitsCommit first c.args.end behind) _ _ (ChangesOnly 0) first (g.D.Disk.state c.write_entry.new.disk) (λ none. refl) (λ is. cc) c.in_err-write_entry.ensures.writes)
