use Rattle.aea_cli.proofs.StayGood.{stay_good, kept_adopted}
use Rattle.aea_cli.proofs.keeping.copies_stay_good.Goals as goal

pub returns-clause-good : goal.returns-clause-good
returns-clause-good g c revealed command old new i j o p answer run = stay_good _ g.D.Disk.reveals g.D.Disk.state revealed command old new i j o p answer run

pub returns-clause-found : goal.returns-clause-found
returns-clause-found g c revealed command old new i j o p answer beneath kept = kept_adopted _ g.D.Disk.reveals g.D.Disk.state revealed command old new i j o p answer beneath kept
