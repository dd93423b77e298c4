use Rattle.std.proofs.Common.{inl, inr, refl, sym, ◌∙◌, ap, Err}
use Rattle.aea_disk.proofs.Moments.{lasts_lent}
use Rattle.aea_command.proofs.OpeningCases.{err_with}
use Rattle.aea_mirror.proofs.Ready.{made_synced}
use Rattle.aea_cli.proofs.Adopted.{unadopted_from, adopted_from}
use Rattle.aea_cli.proofs.program.carry_out_over.Goals as goal

pub returns-in_err-adopted-clause-beneath : goal.returns-in_err-adopted-clause-beneath
returns-in_err-adopted-clause-beneath g c =
    let f = c.in_err-adopted.field-0.0 in
    let given = c.in_err-adopted.ensures.adopts in
    let un = unadopted_from g.D.Disk.reveals (g.D.Disk.state c.args.disk.now) (g.D.Disk.state c.adopt_copies.new.disk) f given.0 given.1 given.2 in
    rw (err_with c.from_residual.result f c.from_residual.ensures.1)
    (inr (inl (record { fault = un.0; adopts = un.1; is = ap Err un.2; input = refl; out = refl })))

pub carry_out_mirrored-requires-clause-synced : goal.carry_out_mirrored-requires-clause-synced
carry_out_mirrored-requires-clause-synced g c revealed =
    let m = c.new-mirror.ensures in
    let a = c.in_ok-adopted.adopted in
    rw (m.now, m.on, m.end, m.alive, m.none)
    (made_synced g.D.Disk.reveals (g.D.Disk.state c.adopt_copies.new.disk) a c.new-mirror.result.disk.ghost_name c.in_ok-adopted.ensures.synced c.in_ok-adopted.ensures.revealed)

pub returns-clause-beneath : goal.returns-clause-beneath
returns-clause-beneath g c =
    let m = c.new-mirror.ensures in
    let a = c.in_ok-adopted.adopted in
    let given = c.in_ok-adopted.ensures.adopts in
    let w = c.carry_out_mirrored.new.mirror in
    let e = c.carry_out_mirrored.ensures in
    rw (c.disk-1.given.1 (sym (e.lent ∙ m.same)))
    (inr (inr (record {
      mid = c.adopt_copies.new.disk;
      adopted = a;
      adopts = adopted_from g.D.Disk.reveals (g.D.Disk.state c.args.disk.now) (g.D.Disk.state c.adopt_copies.new.disk) a given.0 given.1 given.2;
      name = c.new-mirror.result.disk.ghost_name;
      kept = record { name = w.disk.ghost_name; on = w.on; end = w.end; dead = w.dead; own = w.own };
      named = e.lent;
      set = λ not. (lasts_lent _ _ (e.time not).lasts).set ∙ m.on;
      runs = rw (m.now, m.on, m.end, m.alive, m.none) at e.runs;
      sound = rw (m.now, m.on, m.end, m.alive, m.none) at e.sound;
      time = λ not. rw (m.now, m.on, m.end, m.alive, m.none) at (e.time not);
      goes = rw m.now at e.goes;
      makes = λ is. rw (m.now, m.on) at (e.makes is);
    })))
