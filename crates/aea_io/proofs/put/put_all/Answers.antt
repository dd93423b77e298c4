use Rattle.std.proofs.Common.{rules, ◌≡◌, ℕ, ◌-◌, ◌≤◌, length, Some, arith, ap, ◌∙◌}
use Rattle.std.proofs.lemmas.Bool.{false≢true}
use Rattle.aea_io.proofs.Pieces.{Appends-more, HasNotFallen-trans}
use Rattle.aea_io.proofs.put.put_all.Goals as goal

pub returns-in_err-done-clause-in_room : goal.returns-in_err-done-clause-in_room
returns-in_err-done-clause-in_room g c =
    let refused : (room : ℕ) → (g.O.Sink.state c.args.sink.now).room ≡ Some room → length c.args.bytes.now ≤ room → ⊥ =
    λ room e h. false≢true (c.in_err-done.ensures.in_room.fits (room - c.loop-done.done) (c.loop-done.invariant.left room e).1 (omega arith)) in
    record {
      fits = λ room e h. absurd (refused room e h);
      left = λ room e h. absurd (refused room e h);
      steady = λ room e h. absurd (refused room e h);
    }

pub loop-done-preserved : goal.loop-done-preserved
loop-done-preserved g c =
    record {
      within = search rules;
      appended = Appends-more _ _ _ _ _ _ c.loop-done.invariant.appended c.in_ok-done.ensures.bytes;
      flushed = HasNotFallen-trans _ _ _ c.loop-done.invariant.flushed c.write.ensures.flushed;
      left = λ room e.
          let before = c.loop-done.invariant.left room e in
          let after = c.in_ok-done.ensures.in_room.left (room - c.loop-done.done) before.1 in
          (omega (arith, before.0, after.0), after.1 ∙ ap Some (omega (arith, before.0, after.0)));
      still = c.in_ok-done.ensures.cause.still ∙ c.loop-done.invariant.still;
    }
