use Rattle.aea_disk.proofs.Moments.{lasts_lent, goes_lent}
use Rattle.aea_mirror.specs.Mirrored.{shown, SeesTo}
use Rattle.aea_dispatch.proofs.Runs.Copies.{copies_runs, copies_sound}
use Rattle.aea_cli.proofs.program.carry_out_mirrored.Goals as goal

pub returns-in-Copies-clause-runs : goal.returns-in-Copies-clause-runs
returns-in-Copies-clause-runs g c = let e = c.copies.ensures in rw c.in-Copies.is (copies_runs g.D.Disk.reveals _ _ (g.S.Source.state c.args.input.now) _ _ _ e.begins e.refuses e.clash)

pub returns-in-Copies-clause-sound : goal.returns-in-Copies-clause-sound
returns-in-Copies-clause-sound g c = let e = c.copies.ensures in copies_sound g.D.Disk.reveals _ _ _ _ _ _ (g.S.Source.state c.args.input.now) _ _ _ e.begins e.over e.input e.flushed e.out_kept e.out_cause e.out_still

pub returns-in-Copies-clause-time : goal.returns-in-Copies-clause-time
returns-in-Copies-clause-time g c not = absurd (not c.in-Copies.is)

pub returns-in-Copies-clause-goes : goal.returns-in-Copies-clause-goes
returns-in-Copies-clause-goes g c = c.copies.ensures.over.goes

pub returns-in-Copies-clause-makes : goal.returns-in-Copies-clause-makes
returns-in-Copies-clause-makes g c is = c.copies.ensures.over.makes

pub returns-in_default : goal.returns-in_default
returns-in_default g c =
    let e = c.carry_out.ensures in
    let m = c.args.mirror.now in
    let w = c.carry_out.new.disk in
    let old = g.D.Disk.state m.disk.now in
    let new = g.D.Disk.state w.disk.now in
    let lent = lasts_lent (shown g.D.Disk.reveals old m.disk.ghost_name m.on m.end m.dead m.own) (shown g.D.Disk.reveals new w.disk.ghost_name w.on w.end w.dead w.own) e.time.lasts in
    record {
      runs = e.runs;
      sound = e.sound;
      time = λ not. e.time;
      goes = goes_lent m.disk.ghost_name w.disk.ghost_name m.on w.on (SeesTo g.D.Disk.reveals m.on) (SeesTo g.D.Disk.reveals w.on) old new lent;
      makes = λ is. absurd (c.in_default.not-Copies is);
      words = e.words;
      input = e.input;
      lent = lent.name;
    }
