use Rattle.aea_copy_reader.proofs.Seeing.{seen_passed}
use Rattle.aea_copy_reader.proofs.window.Window.go_to.Goals as goal

pub returns-in-Some-clause-seen : goal.returns-in-Some-clause-seen
returns-in-Some-clause-seen c = λ file seen.
    let passed = rw c.in-Some.is at c.passed.ensures in
    seen_passed file c.pass.new.self.bytes c.args.self.now c.in-Some.count c.pass.new.self.place passed.0 c.pass.ensures.bytes c.pass.ensures.place seen
