use Rattle.std.proofs.Common.{◌≡◌, Result, Ok, refl, ◌∙◌, subst}
use Rattle.aea_reader.specs.declared.fault.ReportFault.{ReportFault}
use Rattle.aea_reader.specs.declared.answer.Next.{Next}
use Rattle.aea_reader.specs.Readings.{HasRead}
use Rattle.aea_reader.proofs.reader.Reader.next.Goals as goal

pub returns-in-Ok-Line-clause-line : goal.returns-in-Ok-Line-clause-line
returns-in-Ok-Line-clause-line g c line e =
    let is = subst (λ (n : Next). ◌≡◌ {A = Result Next ReportFault} (Ok c.in-Ok-Line.field-0) (Ok n)) c.in-Ok-Line.field-0-is refl in
    c.in-Ok-Line.ensures.line line (is ∙ e)

pub returns-in-Ok-Line-clause-settles : goal.returns-in-Ok-Line-clause-settles
returns-in-Ok-Line-clause-settles g c open_before =
    let is = subst (λ (n : Next). ◌≡◌ {A = Result Next ReportFault} (Ok c.in-Ok-Line.field-0) (Ok n)) c.in-Ok-Line.field-0-is refl in
    (c.in-Ok-Line.ensures.line c.in-Ok-Line.line is).open_still

pub returns-in-Ok-End-clause-read : goal.returns-in-Ok-End-clause-read
returns-in-Ok-End-clause-read g c input h lines reads =
    let left = (g.S.Source.state c.advance.new.source).left in
    let found = subst (λ (n : Next). HasRead input h lines c.advance.new.self left (Ok n)) c.in-Ok-End.field-0-is (c.in-Ok-End.ensures.read input h lines reads) in
    (found.0, c.settle.ensures.ahead ∙ found.1, found.2)
