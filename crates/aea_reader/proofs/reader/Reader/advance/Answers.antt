use Rattle.std.proofs.Common.{◌≡◌, ◌+◌, Ok, refl, sym, ◌∙◌, ap, subst}
use Rattle.std.proofs.lemmas.Result.{err_from_is_err_and}
use Rattle.std.specs.Prelude.{IfSome, IfNone}
use Rattle.aea_lattice.specs.Blocks.{number_of}
use Rattle.aea_report.specs.declared.line.Line.{Line}
use Rattle.aea_report.specs.Format.{line_text, report_texts}
use Rattle.aea_report.specs.Grammar.{IsLine}
use Rattle.aea_reader.specs.Places.{HasText, IsFault, HasFound}
use Rattle.aea_reader.specs.Readings.{Reading, IsReading, HasRead}
use Rattle.aea_reader.proofs.NextLines.{reading_at, reading_more, reading_end}
use Rattle.aea_reader.proofs.ReadAnswers.{read_fault, read_bad}
use Rattle.aea_reader.proofs.reader.Reader.advance.Goals as goal

pub returns-in_err-next_line-clause-read : goal.returns-in_err-next_line-clause-read
returns-in_err-next_line-clause-read g c input h lines reads =
    let v : Reading = record { lattice = c.self.inside.lattice; line = c.self.inside.line; least = c.self.inside.least; ahead = c.self.inside.ahead; settled = c.self.inside.settled } in
    let old = (g.S.Source.state c.args.source.now).left in
    let left = (g.S.Source.state c.next_line.new.source).left in
    let texts = report_texts h lines in
    let is = subst (λ (u : Reading). IsReading input h lines u old) (sym c.self.view_is) reads in
    let at = reading_at input h lines v old is in
    let w : Reading = record { lattice = c.self.inside.lattice; line = c.self.inside.line; least = c.self.inside.least; ahead = c.next_line.new.ahead; settled = c.self.inside.settled } in
    let p = err_from_is_err_and c.from_residual.result c.from_residual.ensures.1 in
    subst (HasRead input h lines w left) (sym p.1)
    (read_fault input h lines v w old left p.0 is (subst (IsFault input c.self.inside.line left) (sym p.2) (c.in_err-next_line.ensures.found input texts at)))

pub returns-then-not-branch-clause-read : goal.returns-then-not-branch-clause-read
returns-then-not-branch-clause-read g c input h lines reads =
    let v : Reading = record { lattice = c.self.inside.lattice; line = c.self.inside.line; least = c.self.inside.least; ahead = c.self.inside.ahead; settled = c.self.inside.settled } in
    let old = (g.S.Source.state c.args.source.now).left in
    let left = (g.S.Source.state c.next_line.new.source).left in
    let texts = report_texts h lines in
    let is = subst (λ (u : Reading). IsReading input h lines u old) (sym c.self.view_is) reads in
    let at = reading_at input h lines v old is in
    let found =
    subst (λ b. HasFound input c.self.inside.line texts c.next_line.new.line.items c.next_line.new.ahead left (Ok b)) c.if-not-branch.true (c.in_ok-next_line.ensures.found input texts at) in
    (reading_end input h lines v old c.self.inside.line is found.0, found.1, found.2)

pub returns-in-Ok-Some-clause-read : goal.returns-in-Ok-Some-clause-read
returns-in-Ok-Some-clause-read g c input h lines reads =
    let v : Reading = record { lattice = c.self.inside.lattice; line = c.self.inside.line; least = c.self.inside.least; ahead = c.self.inside.ahead; settled = c.self.inside.settled } in
    let old = (g.S.Source.state c.args.source.now).left in
    let left = (g.S.Source.state c.next_line.new.source).left in
    let texts = report_texts h lines in
    let is = subst (λ (u : Reading). IsReading input h lines u old) (sym c.self.view_is) reads in
    let at = reading_at input h lines v old is in
    let found =
    subst (λ b. HasFound input c.self.inside.line texts c.next_line.new.line.items c.next_line.new.ahead left (Ok b)) c.if-not-branch.false (c.in_ok-next_line.ensures.found input texts at) in
    let w : Reading = record { lattice = c.self.inside.lattice; line = c.self.inside.line + 1; least = c.number.result + 1; ahead = c.next_line.new.ahead; settled = c.self.inside.settled } in
    let line = c.in-Ok-Some.line in
    let judged =
    subst (λ o. IfSome o (λ (x : Line). (c.deref.result.now ≡ line_text x) × IsLine c.self.inside.lattice c.self.inside.least x)) c.in-Ok-Some.field-0-is c.in-Ok-Some.ensures.found in
    let has = subst (λ t. HasText input c.self.inside.line texts t c.next_line.new.ahead left) (sym c.deref.ensures.value ∙ judged.0) found in
    reading_more input h lines v w old left line is has judged.1 refl refl
    (ap (λ n. n + 1) (c.number.ensures.value ∙ ap (number_of c.self.inside.lattice) c.block.ensures)) is.open_still

pub returns-in-Ok-None-clause-read : goal.returns-in-Ok-None-clause-read
returns-in-Ok-None-clause-read g c input h lines reads =
    let v : Reading = record { lattice = c.self.inside.lattice; line = c.self.inside.line; least = c.self.inside.least; ahead = c.self.inside.ahead; settled = c.self.inside.settled } in
    let old = (g.S.Source.state c.args.source.now).left in
    let left = (g.S.Source.state c.next_line.new.source).left in
    let texts = report_texts h lines in
    let is = subst (λ (u : Reading). IsReading input h lines u old) (sym c.self.view_is) reads in
    let at = reading_at input h lines v old is in
    let found =
    subst (λ b. HasFound input c.self.inside.line texts c.next_line.new.line.items c.next_line.new.ahead left (Ok b)) c.if-not-branch.false (c.in_ok-next_line.ensures.found input texts at) in
    let none = subst (λ o. IfNone o ((x : Line) → IsLine c.self.inside.lattice c.self.inside.least x → c.deref.result.now ≡ line_text x → ⊥)) c.in-Ok-None.field-0-is c.in-Ok-None.ensures.none in
    read_bad c.reports_have_one_reading.ensures input h lines v v old left c.next_line.new.line.items c.next_line.new.ahead is found
    (λ x valid e. none x valid (c.deref.ensures.value ∙ e))
