use Rattle.aea_report.proofs.Writes.{sent_ok, sent_part}
use Rattle.aea_report.proofs.write.write_head.Goals as goal

pub returns-in_err-send-clause-text : goal.returns-in_err-send-clause-text
returns-in_err-send-clause-text g c =
    sent_part c.new-page.ensures c.from_residual-in_err-send.result c.from_residual-in_err-send.ensures.0 c.in_ok-print_head.ensures c.in_err-send.ensures.prints

pub returns-clause-text : goal.returns-clause-text
returns-clause-text g c = sent_ok c.new-page.ensures c.in_ok-send.ensures.empty c.in_ok-print_head.ensures c.in_ok-send.ensures.prints
