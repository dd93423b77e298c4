use Rattle.std.proofs.Common.{◌∙◌, arith}
use Rattle.aea_rehearse.proofs.Fresh.{fresh_site}
use Rattle.aea_call_tests.proofs.rehearsing.run_once.Goals as goal

pub rehearse-answer-requires-clause-site_rooms : goal.rehearse-answer-requires-clause-site_rooms
rehearse-answer-requires-clause-site_rooms c f first last =
    let room = c.in_ok-disk.ensures.rooms f (omega (arith, last)) ∙ fresh_site _ 14680400 f first last in
    omega (arith, room)
