use Rattle.std.proofs.Common.{rules, ◌≡◌, false, true, ℕ, List, get_or, refl, ap, subst, arith}
use Rattle.aea_disk.specs.Files.{Files}
use Rattle.aea_disk.proofs.Frames.{reads_as, reads_both}
use Rattle.aea_mirror.specs.declared.further.Further.TheVariants.{Nothing, Until, Broken}
use Rattle.aea_mirror.specs.Looking.{IsFurther}
use Rattle.aea_mirror.proofs.Beginning.{ends_at_header, ends_at_last, broken_never_ends}
use Rattle.aea_mirror.proofs.Ended.{on_here}
use Rattle.aea_mirror.proofs.begin.records_end.Goals as goal

pub returns-in_err-look_further-clause-reads : goal.returns-in_err-look_further-clause-reads
returns-in_err-look_further-clause-reads g c =
    reads_both g.D.Disk.reveals (false ≡ true) _ (g.D.Disk.state c.args.disk.now) (g.D.Disk.state c.is_headed.new.disk) (g.D.Disk.state c.look_further.new.disk) (λ is. absurd (cc)) c.in_ok-is_headed.ensures.reads
    (reads_as g.D.Disk.reveals _ _ _ _ (λ is. refl) (λ is. search rules) c.in_err-look_further.ensures.reads)

pub returns-in-Nothing-clause-ends : goal.returns-in-Nothing-clause-ends
returns-in-Nothing-clause-ends g c = λ revealed.
    let header : get_or ((g.D.Disk.state c.args.disk.now).files 0) 0 0 ≡ 1 = (c.in_ok-is_headed.ensures.headed revealed).0 (on_here c.in_ok-is_headed.field-0 (λ is. let h = c.if-not-branch.false in cc)) in
    let found : IsFurther ((g.D.Disk.state c.args.disk.now).files 0) 0 17 Nothing = subst (λ (l : List ℕ). IsFurther l 0 17 Nothing) (ap (λ (x : Files). x 0) (c.in_ok-is_headed.ensures.reads.contents revealed)) ((rw c.in-Nothing.is at c.in_ok-look_further.ensures.further) revealed 0 (omega arith)) in
    ends_at_header ((g.D.Disk.state c.args.disk.now).files 0) header found

pub returns-in-Nothing-clause-reads : goal.returns-in-Nothing-clause-reads
returns-in-Nothing-clause-reads g c = reads_both g.D.Disk.reveals (false ≡ true) (false ≡ true) (g.D.Disk.state c.args.disk.now) (g.D.Disk.state c.is_headed.new.disk) (g.D.Disk.state c.look_further.new.disk) (λ is. absurd (cc)) c.in_ok-is_headed.ensures.reads c.in_ok-look_further.ensures.reads

pub returns-in-Until-clause-ends : goal.returns-in-Until-clause-ends
returns-in-Until-clause-ends g c = λ revealed.
    let header : get_or ((g.D.Disk.state c.args.disk.now).files 0) 0 0 ≡ 1 = (c.in_ok-is_headed.ensures.headed revealed).0 (on_here c.in_ok-is_headed.field-0 (λ is. let h = c.if-not-branch.false in cc)) in
    let found : IsFurther ((g.D.Disk.state c.args.disk.now).files 0) 0 17 (Until c.in-Until.last) = subst (λ (l : List ℕ). IsFurther l 0 17 (Until c.in-Until.last)) (ap (λ (x : Files). x 0) (c.in_ok-is_headed.ensures.reads.contents revealed)) ((rw c.in-Until.is at c.in_ok-look_further.ensures.further) revealed 0 (omega arith)) in
    ends_at_last ((g.D.Disk.state c.args.disk.now).files 0) c.in-Until.last header found

pub returns-in-Until-clause-reads : goal.returns-in-Until-clause-reads
returns-in-Until-clause-reads g c = reads_both g.D.Disk.reveals (false ≡ true) (false ≡ true) (g.D.Disk.state c.args.disk.now) (g.D.Disk.state c.is_headed.new.disk) (g.D.Disk.state c.look_further.new.disk) (λ is. absurd (cc)) c.in_ok-is_headed.ensures.reads c.in_ok-look_further.ensures.reads

pub returns-in-Broken-clause-ends : goal.returns-in-Broken-clause-ends
returns-in-Broken-clause-ends g c = λ revealed.
    let found : IsFurther ((g.D.Disk.state c.args.disk.now).files 0) 0 17 Broken = subst (λ (l : List ℕ). IsFurther l 0 17 Broken) (ap (λ (x : Files). x 0) (c.in_ok-is_headed.ensures.reads.contents revealed)) ((rw c.in-Broken.is at c.in_ok-look_further.ensures.further) revealed 0 (omega arith)) in
    broken_never_ends ((g.D.Disk.state c.args.disk.now).files 0) found

pub returns-in-Broken-clause-reads : goal.returns-in-Broken-clause-reads
returns-in-Broken-clause-reads g c = reads_both g.D.Disk.reveals (false ≡ true) (false ≡ true) (g.D.Disk.state c.args.disk.now) (g.D.Disk.state c.is_headed.new.disk) (g.D.Disk.state c.look_further.new.disk) (λ is. absurd (cc)) c.in_ok-is_headed.ensures.reads c.in_ok-look_further.ensures.reads
