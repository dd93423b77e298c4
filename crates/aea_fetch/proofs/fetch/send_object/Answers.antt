use Rattle.aea_fetch.proofs.fetch.send_object.Goals as goal

pub send_payloads-requires-clause-ready : goal.send_payloads-requires-clause-ready
send_payloads-requires-clause-ready g c = λ k d below. c.requires.buffer
