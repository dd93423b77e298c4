use Rattle.aea_sites.proofs.Passing.{goes_one}
use Rattle.aea_sites.proofs.pass.mark_by.Goals as goal

pub returns-in-Some : goal.returns-in-Some
returns-in-Some c =
    goes_one c.args.marks.now c.set.new.self c.in-Some.block _
    (record {
      block = c.in-Some.ensures.inside;
      whole = c.set.ensures.whole;
      same = c.set.ensures.lattice;
      marks = c.set.ensures.marks;
    })
    c.in-Some.ensures.forced
