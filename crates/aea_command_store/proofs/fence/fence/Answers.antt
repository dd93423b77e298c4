use Rattle.std.proofs.Common.{◌≢◌, inl, inr, ℕ, refl, ap, Result, Ok, Err}
use Rattle.aea_command.specs.declared.refusal.Failure.{Failure}
use Rattle.aea_command.specs.declared.refusal.Failure.TheVariants as failure
use Rattle.aea_command.specs.declared.status.Status.TheVariants.{Done}
use Rattle.aea_command_store.specs.Fence.{FenceCauses}
use Rattle.aea_command_store.proofs.Adding.Running.{printing_refuses}
use Rattle.aea_command_store.proofs.FenceLemmas.Running.{fences_failed, fences_added}
use Rattle.aea_command.proofs.OpeningCases.{err_with}
use Rattle.aea_command.proofs.Refusing.{refuses_as}
use Rattle.aea_command.proofs.Texts.{text_printed, text_broken}
use Rattle.aea_command_store.proofs.fence.fence.Goals as goal

not_output : (f : Failure) → (let one : Result ℕ Failure = Err f in one ≢ Err failure.Output) → f ≢ failure.Output
not_output f differs e = differs (ap Err e)

pub returns-in_err-nodes-clause-fences : goal.returns-in_err-nodes-clause-fences
returns-in_err-nodes-clause-fences g c =
    let f = c.in_err-nodes.field-0.0 in
    rw (err_with c.from_residual.result f c.from_residual.ensures.1)
    (fences_failed g.D.Disk.reveals (g.D.Disk.state c.args.disk.now) (g.D.Disk.state c.add_fence.new.disk) (g.O.Sink.state c.args.out.now) f (not_output f c.in_err-nodes.ensures.output) c.in_err-nodes.ensures.adds)

pub returns-in_err-nodes-clause-refuses : goal.returns-in_err-nodes-clause-refuses
returns-in_err-nodes-clause-refuses g c =
    let f = c.in_err-nodes.field-0.0 in
    rw (err_with c.from_residual.result f c.from_residual.ensures.1)
    (refuses_as g.D.Disk.reveals (FenceCauses ((g.D.Disk.state c.args.disk.now).files 0)) f (Err f) refl c.in_err-nodes.ensures.refuses)

pub returns-in_err-write_line-clause-fences : goal.returns-in_err-write_line-clause-fences
returns-in_err-write_line-clause-fences g c =
    rw (err_with c.from_residual-in_err-write_line.result failure.Output c.from_residual-in_err-write_line.ensures.1)
    (fences_added g.D.Disk.reveals (g.D.Disk.state c.args.disk.now) (g.D.Disk.state c.add_fence.new.disk) (g.O.Sink.state c.args.out.now) (g.O.Sink.state c.write_line.new.out) c.in_ok-nodes.nodes (Err failure.Output) (inr refl)
    c.in_ok-nodes.ensures.small c.in_ok-nodes.ensures.nodes c.in_ok-nodes.ensures.adds (text_broken c.in_err-write_line.ensures.prints))

pub returns-in_err-write_line-clause-refuses : goal.returns-in_err-write_line-clause-refuses
returns-in_err-write_line-clause-refuses g c =
    rw (err_with c.from_residual-in_err-write_line.result failure.Output c.from_residual-in_err-write_line.ensures.1)
    (printing_refuses g.D.Disk.reveals (FenceCauses ((g.D.Disk.state c.args.disk.now).files 0)) c.in_ok-nodes.nodes (Err failure.Output) (inr refl) c.in_ok-nodes.ensures.refuses)

pub returns-clause-fences : goal.returns-clause-fences
returns-clause-fences g c =
    fences_added g.D.Disk.reveals (g.D.Disk.state c.args.disk.now) (g.D.Disk.state c.add_fence.new.disk) (g.O.Sink.state c.args.out.now) (g.O.Sink.state c.write_line.new.out) c.in_ok-nodes.nodes (Ok Done) (inl refl)
    c.in_ok-nodes.ensures.small c.in_ok-nodes.ensures.nodes c.in_ok-nodes.ensures.adds (text_printed Done c.in_ok-write_line.ensures.prints)

pub returns-clause-refuses : goal.returns-clause-refuses
returns-clause-refuses g c =
    printing_refuses g.D.Disk.reveals (FenceCauses ((g.D.Disk.state c.args.disk.now).files 0)) c.in_ok-nodes.nodes (Ok Done) (inl refl) c.in_ok-nodes.ensures.refuses
