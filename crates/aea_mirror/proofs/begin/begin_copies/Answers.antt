use Rattle.std.proofs.Common.{rules, ◌≡◌, false, true, ℕ, List, refl, sym, ap, subst}
use Rattle.aea_disk.specs.Ends.{EndsAt}
use Rattle.aea_disk.specs.Files.{Files}
use Rattle.aea_disk.specs.Frames.{OnlyReads}
use Rattle.aea_disk.proofs.Frames.{reads_failed, reads_made, reads_as, reads_both, reads_synced, writes_as}
use Rattle.aea_copies.specs.Grammar.{IsBegun}
use Rattle.aea_copy_writer.specs.Anew.{CanMake}
use Rattle.aea_copy_writer.specs.Parts.{part_of}
use Rattle.aea_records.specs.TableLaws.{AreBytes}
use Rattle.aea_mirror.proofs.Beginning.{can_same, none_during, begun_during, shows_kept, begun_shown, begun_reads, begun_writes, begun_none, same_end}
use Rattle.aea_mirror.proofs.Wholes.{ledger_pieces}
use Rattle.aea_mirror.proofs.begin.begin_copies.Goals as goal

pub returns-in_err-sync-clause-any_moment : goal.returns-in_err-sync-clause-any_moment
returns-in_err-sync-clause-any_moment g c revealed last pieces ends can = none_during (g.D.Disk.state c.args.disk.now) (g.D.Disk.state c.sync.new.self) pieces (c.requires.none revealed) (c.requires.fixed revealed) c.in_err-sync.ensures.crash

pub returns-in_err-sync-clause-shown : goal.returns-in_err-sync-clause-shown
returns-in_err-sync-clause-shown g c revealed = shows_kept (g.D.Disk.state c.args.disk.now) (g.D.Disk.state c.sync.new.self) c.in_err-sync.ensures.crash

pub returns-in_err-sync-clause-bare : goal.returns-in_err-sync-clause-bare
returns-in_err-sync-clause-bare g c revealed never = record { reads = c.in_err-sync.ensures.contents; images = c.in_err-sync.ensures.crash }

pub returns-in_err-sync-clause-writes : goal.returns-in_err-sync-clause-writes
returns-in_err-sync-clause-writes g c =
    let e = c.in_err-sync.ensures in
    begun_reads g.D.Disk.reveals _ (g.D.Disk.state c.args.disk.now) (g.D.Disk.state c.sync.new.self) (λ (free : (g.D.Disk.state c.args.disk.now).free). (0, g.met.D.Disk.free_taken c.args.disk.now 0 ((g.D.Disk.state c.args.disk.now).files 0) 0 free))
    (reads_failed g.D.Disk.reveals _ (g.D.Disk.state c.args.disk.now) (g.D.Disk.state c.sync.new.self) _ refl (search rules) e.contents e.crash e.settled e.time e.cause e.sure)

pub returns-in_err-end-clause-any_moment : goal.returns-in_err-end-clause-any_moment
returns-in_err-end-clause-any_moment g c revealed last pieces ends can =
    let e = c.in_ok-sync.ensures in
    let first : OnlyReads g.D.Disk.reveals (false ≡ true) (g.D.Disk.state c.args.disk.now) (g.D.Disk.state c.sync.new.self) = reads_made g.D.Disk.reveals (false ≡ true) (g.D.Disk.state c.args.disk.now) (g.D.Disk.state c.sync.new.self) _ (cc) (λ is. absurd (cc)) e.contents e.crash e.settled e.time e.cause e.sure in
    let reads : OnlyReads g.D.Disk.reveals (true ≡ true) (g.D.Disk.state c.args.disk.now) (g.D.Disk.state c.records_end.new.disk) = reads_both g.D.Disk.reveals (false ≡ true) (true ≡ true) (g.D.Disk.state c.args.disk.now) (g.D.Disk.state c.sync.new.self) (g.D.Disk.state c.records_end.new.disk) (λ is. absurd (cc)) first (reads_as g.D.Disk.reveals _ _ _ _ (λ is. refl) (λ is. search rules) c.in_err-end.ensures.reads) in
    none_during (g.D.Disk.state c.args.disk.now) (g.D.Disk.state c.records_end.new.disk) pieces (c.requires.none revealed) (c.requires.fixed revealed) reads.crash

pub returns-in_err-end-clause-shown : goal.returns-in_err-end-clause-shown
returns-in_err-end-clause-shown g c revealed =
    let e = c.in_ok-sync.ensures in
    let first : OnlyReads g.D.Disk.reveals (false ≡ true) (g.D.Disk.state c.args.disk.now) (g.D.Disk.state c.sync.new.self) = reads_made g.D.Disk.reveals (false ≡ true) (g.D.Disk.state c.args.disk.now) (g.D.Disk.state c.sync.new.self) _ (cc) (λ is. absurd (cc)) e.contents e.crash e.settled e.time e.cause e.sure in
    let reads : OnlyReads g.D.Disk.reveals (true ≡ true) (g.D.Disk.state c.args.disk.now) (g.D.Disk.state c.records_end.new.disk) = reads_both g.D.Disk.reveals (false ≡ true) (true ≡ true) (g.D.Disk.state c.args.disk.now) (g.D.Disk.state c.sync.new.self) (g.D.Disk.state c.records_end.new.disk) (λ is. absurd (cc)) first (reads_as g.D.Disk.reveals _ _ _ _ (λ is. refl) (λ is. search rules) c.in_err-end.ensures.reads) in
    shows_kept (g.D.Disk.state c.args.disk.now) (g.D.Disk.state c.records_end.new.disk) reads.crash

pub returns-in_err-end-clause-bare : goal.returns-in_err-end-clause-bare
returns-in_err-end-clause-bare g c revealed never =
    let e = c.in_ok-sync.ensures in
    let first : OnlyReads g.D.Disk.reveals (false ≡ true) (g.D.Disk.state c.args.disk.now) (g.D.Disk.state c.sync.new.self) = reads_made g.D.Disk.reveals (false ≡ true) (g.D.Disk.state c.args.disk.now) (g.D.Disk.state c.sync.new.self) _ (cc) (λ is. absurd (cc)) e.contents e.crash e.settled e.time e.cause e.sure in
    let reads : OnlyReads g.D.Disk.reveals (true ≡ true) (g.D.Disk.state c.args.disk.now) (g.D.Disk.state c.records_end.new.disk) = reads_both g.D.Disk.reveals (false ≡ true) (true ≡ true) (g.D.Disk.state c.args.disk.now) (g.D.Disk.state c.sync.new.self) (g.D.Disk.state c.records_end.new.disk) (λ is. absurd (cc)) first (reads_as g.D.Disk.reveals _ _ _ _ (λ is. refl) (λ is. search rules) c.in_err-end.ensures.reads) in
    begun_none g.D.Disk.reveals _ (g.D.Disk.state c.args.disk.now) (g.D.Disk.state c.records_end.new.disk) reads

pub returns-in_err-end-clause-writes : goal.returns-in_err-end-clause-writes
returns-in_err-end-clause-writes g c =
    let e = c.in_ok-sync.ensures in
    let first : OnlyReads g.D.Disk.reveals (false ≡ true) (g.D.Disk.state c.args.disk.now) (g.D.Disk.state c.sync.new.self) = reads_made g.D.Disk.reveals (false ≡ true) (g.D.Disk.state c.args.disk.now) (g.D.Disk.state c.sync.new.self) _ (cc) (λ is. absurd (cc)) e.contents e.crash e.settled e.time e.cause e.sure in
    let reads : OnlyReads g.D.Disk.reveals (true ≡ true) (g.D.Disk.state c.args.disk.now) (g.D.Disk.state c.records_end.new.disk) = reads_both g.D.Disk.reveals (false ≡ true) (true ≡ true) (g.D.Disk.state c.args.disk.now) (g.D.Disk.state c.sync.new.self) (g.D.Disk.state c.records_end.new.disk) (λ is. absurd (cc)) first (reads_as g.D.Disk.reveals _ _ _ _ (λ is. refl) (λ is. search rules) c.in_err-end.ensures.reads) in
    begun_reads g.D.Disk.reveals _ (g.D.Disk.state c.args.disk.now) (g.D.Disk.state c.records_end.new.disk) (λ (free : (g.D.Disk.state c.args.disk.now).free). (0, g.met.D.Disk.free_taken c.args.disk.now 0 ((g.D.Disk.state c.args.disk.now).files 0) 0 free)) (reads_as g.D.Disk.reveals _ _ _ _ (λ is. refl) (λ is. search rules) reads)

pub returns-in_default-clause-any_moment : goal.returns-in_default-clause-any_moment
returns-in_default-clause-any_moment g c revealed last pieces ends can =
    let e = c.in_ok-sync.ensures in
    let first : OnlyReads g.D.Disk.reveals (false ≡ true) (g.D.Disk.state c.args.disk.now) (g.D.Disk.state c.sync.new.self) = reads_made g.D.Disk.reveals (false ≡ true) (g.D.Disk.state c.args.disk.now) (g.D.Disk.state c.sync.new.self) _ (cc) (λ is. absurd (cc)) e.contents e.crash e.settled e.time e.cause e.sure in
    let reads : OnlyReads g.D.Disk.reveals (false ≡ true) (g.D.Disk.state c.args.disk.now) (g.D.Disk.state c.records_end.new.disk) = reads_both g.D.Disk.reveals (false ≡ true) (false ≡ true) (g.D.Disk.state c.args.disk.now) (g.D.Disk.state c.sync.new.self) (g.D.Disk.state c.records_end.new.disk) (λ is. absurd (cc)) first c.in_ok-end.ensures.reads in
    none_during (g.D.Disk.state c.args.disk.now) (g.D.Disk.state c.records_end.new.disk) pieces (c.requires.none revealed) (c.requires.fixed revealed) reads.crash

pub returns-in_default-clause-shown : goal.returns-in_default-clause-shown
returns-in_default-clause-shown g c revealed =
    let e = c.in_ok-sync.ensures in
    let first : OnlyReads g.D.Disk.reveals (false ≡ true) (g.D.Disk.state c.args.disk.now) (g.D.Disk.state c.sync.new.self) = reads_made g.D.Disk.reveals (false ≡ true) (g.D.Disk.state c.args.disk.now) (g.D.Disk.state c.sync.new.self) _ (cc) (λ is. absurd (cc)) e.contents e.crash e.settled e.time e.cause e.sure in
    let reads : OnlyReads g.D.Disk.reveals (false ≡ true) (g.D.Disk.state c.args.disk.now) (g.D.Disk.state c.records_end.new.disk) = reads_both g.D.Disk.reveals (false ≡ true) (false ≡ true) (g.D.Disk.state c.args.disk.now) (g.D.Disk.state c.sync.new.self) (g.D.Disk.state c.records_end.new.disk) (λ is. absurd (cc)) first c.in_ok-end.ensures.reads in
    shows_kept (g.D.Disk.state c.args.disk.now) (g.D.Disk.state c.records_end.new.disk) reads.crash

pub returns-in_default-clause-bare : goal.returns-in_default-clause-bare
returns-in_default-clause-bare g c revealed never =
    let e = c.in_ok-sync.ensures in
    let first : OnlyReads g.D.Disk.reveals (false ≡ true) (g.D.Disk.state c.args.disk.now) (g.D.Disk.state c.sync.new.self) = reads_made g.D.Disk.reveals (false ≡ true) (g.D.Disk.state c.args.disk.now) (g.D.Disk.state c.sync.new.self) _ (cc) (λ is. absurd (cc)) e.contents e.crash e.settled e.time e.cause e.sure in
    let reads : OnlyReads g.D.Disk.reveals (false ≡ true) (g.D.Disk.state c.args.disk.now) (g.D.Disk.state c.records_end.new.disk) = reads_both g.D.Disk.reveals (false ≡ true) (false ≡ true) (g.D.Disk.state c.args.disk.now) (g.D.Disk.state c.sync.new.self) (g.D.Disk.state c.records_end.new.disk) (λ is. absurd (cc)) first c.in_ok-end.ensures.reads in
    begun_none g.D.Disk.reveals _ (g.D.Disk.state c.args.disk.now) (g.D.Disk.state c.records_end.new.disk) reads

pub returns-in_default-clause-writes : goal.returns-in_default-clause-writes
returns-in_default-clause-writes g c =
    let e = c.in_ok-sync.ensures in
    let first : OnlyReads g.D.Disk.reveals (false ≡ true) (g.D.Disk.state c.args.disk.now) (g.D.Disk.state c.sync.new.self) = reads_made g.D.Disk.reveals (false ≡ true) (g.D.Disk.state c.args.disk.now) (g.D.Disk.state c.sync.new.self) _ (cc) (λ is. absurd (cc)) e.contents e.crash e.settled e.time e.cause e.sure in
    let reads : OnlyReads g.D.Disk.reveals (false ≡ true) (g.D.Disk.state c.args.disk.now) (g.D.Disk.state c.records_end.new.disk) = reads_both g.D.Disk.reveals (false ≡ true) (false ≡ true) (g.D.Disk.state c.args.disk.now) (g.D.Disk.state c.sync.new.self) (g.D.Disk.state c.records_end.new.disk) (λ is. absurd (cc)) first c.in_ok-end.ensures.reads in
    begun_reads g.D.Disk.reveals _ (g.D.Disk.state c.args.disk.now) (g.D.Disk.state c.records_end.new.disk) (λ (free : (g.D.Disk.state c.args.disk.now).free). (0, g.met.D.Disk.free_taken c.args.disk.now 0 ((g.D.Disk.state c.args.disk.now).files 0) 0 free)) reads

pub returns-in_default-clause-made : goal.returns-in_default-clause-made
returns-in_default-clause-made g c revealed last pieces ends can =
    let e = c.in_ok-sync.ensures in
    let first : OnlyReads g.D.Disk.reveals (false ≡ true) (g.D.Disk.state c.args.disk.now) (g.D.Disk.state c.sync.new.self) = reads_made g.D.Disk.reveals (false ≡ true) (g.D.Disk.state c.args.disk.now) (g.D.Disk.state c.sync.new.self) _ (cc) (λ is. absurd (cc)) e.contents e.crash e.settled e.time e.cause e.sure in
    let reads : OnlyReads g.D.Disk.reveals (false ≡ true) (g.D.Disk.state c.args.disk.now) (g.D.Disk.state c.records_end.new.disk) = reads_both g.D.Disk.reveals (false ≡ true) (false ≡ true) (g.D.Disk.state c.args.disk.now) (g.D.Disk.state c.sync.new.self) (g.D.Disk.state c.records_end.new.disk) (λ is. absurd (cc)) first c.in_ok-end.ensures.reads in
    let never = (rw c.in_default.is at c.in_ok-end.ensures.ends) revealed in
    never last (subst (λ (l : List ℕ). EndsAt l last) (sym (ap (λ (x : Files). x 0) (first.contents revealed))) ends)

pub make_both-requires-clause-synced : goal.make_both-requires-clause-synced
make_both-requires-clause-synced g c = λ revealed. reads_synced g.D.Disk.reveals (false ≡ true) (g.D.Disk.state c.sync.new.self) (g.D.Disk.state c.records_end.new.disk) revealed c.in_ok-end.ensures.reads (c.in_ok-sync.ensures.durable revealed)

pub make_both-requires-clause-none : goal.make_both-requires-clause-none
make_both-requires-clause-none g c = λ revealed.
    let e = c.in_ok-sync.ensures in
    let first : OnlyReads g.D.Disk.reveals (false ≡ true) (g.D.Disk.state c.args.disk.now) (g.D.Disk.state c.sync.new.self) = reads_made g.D.Disk.reveals (false ≡ true) (g.D.Disk.state c.args.disk.now) (g.D.Disk.state c.sync.new.self) _ (cc) (λ is. absurd (cc)) e.contents e.crash e.settled e.time e.cause e.sure in
    let reads : OnlyReads g.D.Disk.reveals (false ≡ true) (g.D.Disk.state c.args.disk.now) (g.D.Disk.state c.records_end.new.disk) = reads_both g.D.Disk.reveals (false ≡ true) (false ≡ true) (g.D.Disk.state c.args.disk.now) (g.D.Disk.state c.sync.new.self) (g.D.Disk.state c.records_end.new.disk) (λ is. absurd (cc)) first c.in_ok-end.ensures.reads in
    λ f is begun. c.requires.none revealed f is (subst (λ (x : Files). IsBegun (x f)) (reads.contents revealed) begun)

pub returns-in_err-first-clause-any_moment : goal.returns-in_err-first-clause-any_moment
returns-in_err-first-clause-any_moment g c revealed last pieces ends can =
    let e = c.in_ok-sync.ensures in
    let first : OnlyReads g.D.Disk.reveals (false ≡ true) (g.D.Disk.state c.args.disk.now) (g.D.Disk.state c.sync.new.self) = reads_made g.D.Disk.reveals (false ≡ true) (g.D.Disk.state c.args.disk.now) (g.D.Disk.state c.sync.new.self) _ (cc) (λ is. absurd (cc)) e.contents e.crash e.settled e.time e.cause e.sure in
    let reads : OnlyReads g.D.Disk.reveals (false ≡ true) (g.D.Disk.state c.args.disk.now) (g.D.Disk.state c.records_end.new.disk) = reads_both g.D.Disk.reveals (false ≡ true) (false ≡ true) (g.D.Disk.state c.args.disk.now) (g.D.Disk.state c.sync.new.self) (g.D.Disk.state c.records_end.new.disk) (λ is. absurd (cc)) first c.in_ok-end.ensures.reads in
    let here : EndsAt ((g.D.Disk.state c.records_end.new.disk).files 0) c.in-Some.end = subst (λ (l : List ℕ). EndsAt l c.in-Some.end) (sym (ap (λ (x : Files). x 0) (c.in_ok-end.ensures.reads.contents revealed))) ((rw c.in-Some.is at c.in_ok-end.ensures.ends) revealed) in
    let same : (g.D.Disk.state c.records_end.new.disk).files 0 ≡ (g.D.Disk.state c.args.disk.now).files 0 = ap (λ (x : Files). x 0) (reads.contents revealed) in
    let last_is = same_end ((g.D.Disk.state c.args.disk.now).files 0) ((g.D.Disk.state c.records_end.new.disk).files 0) last c.in-Some.end same ends here in
    let also = can_same pieces c.in-Some.end ((g.D.Disk.state c.args.disk.now).files 0) ((g.D.Disk.state c.records_end.new.disk).files 0) same (subst (λ (n : ℕ). CanMake pieces n ((g.D.Disk.state c.args.disk.now).files 0)) last_is can) in
    begun_during (g.D.Disk.state c.args.disk.now) (g.D.Disk.state c.records_end.new.disk) (g.D.Disk.state c.make_both.new.disk) pieces (c.requires.none revealed) (c.requires.fixed revealed) reads.crash reads.time c.in_err-first.ensures.writes.time (c.in_err-first.ensures.any_moment revealed pieces also)

pub returns-in_err-first-clause-shown : goal.returns-in_err-first-clause-shown
returns-in_err-first-clause-shown g c revealed =
    let e = c.in_ok-sync.ensures in
    let first : OnlyReads g.D.Disk.reveals (false ≡ true) (g.D.Disk.state c.args.disk.now) (g.D.Disk.state c.sync.new.self) = reads_made g.D.Disk.reveals (false ≡ true) (g.D.Disk.state c.args.disk.now) (g.D.Disk.state c.sync.new.self) _ (cc) (λ is. absurd (cc)) e.contents e.crash e.settled e.time e.cause e.sure in
    let reads : OnlyReads g.D.Disk.reveals (false ≡ true) (g.D.Disk.state c.args.disk.now) (g.D.Disk.state c.records_end.new.disk) = reads_both g.D.Disk.reveals (false ≡ true) (false ≡ true) (g.D.Disk.state c.args.disk.now) (g.D.Disk.state c.sync.new.self) (g.D.Disk.state c.records_end.new.disk) (λ is. absurd (cc)) first c.in_ok-end.ensures.reads in
    let here : EndsAt ((g.D.Disk.state c.records_end.new.disk).files 0) c.in-Some.end = subst (λ (l : List ℕ). EndsAt l c.in-Some.end) (sym (ap (λ (x : Files). x 0) (c.in_ok-end.ensures.reads.contents revealed))) ((rw c.in-Some.is at c.in_ok-end.ensures.ends) revealed) in
    let pieces = ledger_pieces ((g.D.Disk.state c.records_end.new.disk).files 0) c.in-Some.end here in
    begun_shown g.D.Disk.reveals _ _ _ (g.D.Disk.state c.args.disk.now) (g.D.Disk.state c.records_end.new.disk) (g.D.Disk.state c.make_both.new.disk) pieces.0 c.in-Some.end (λ t d image. g.met.D.Disk.as_it_reads c.args.disk.now t d revealed image) reads.crash reads.time (reads.contents revealed)
    (reads_synced g.D.Disk.reveals (false ≡ true) (g.D.Disk.state c.sync.new.self) (g.D.Disk.state c.records_end.new.disk) revealed c.in_ok-end.ensures.reads (e.durable revealed)) here pieces.1 c.in_err-first.ensures.writes (c.in_err-first.ensures.any_moment revealed pieces.0 pieces.1)

pub returns-in_err-first-clause-bare : goal.returns-in_err-first-clause-bare
returns-in_err-first-clause-bare g c revealed never =
    let e = c.in_ok-sync.ensures in
    let first : OnlyReads g.D.Disk.reveals (false ≡ true) (g.D.Disk.state c.args.disk.now) (g.D.Disk.state c.sync.new.self) = reads_made g.D.Disk.reveals (false ≡ true) (g.D.Disk.state c.args.disk.now) (g.D.Disk.state c.sync.new.self) _ (cc) (λ is. absurd (cc)) e.contents e.crash e.settled e.time e.cause e.sure in
    let reads : OnlyReads g.D.Disk.reveals (false ≡ true) (g.D.Disk.state c.args.disk.now) (g.D.Disk.state c.records_end.new.disk) = reads_both g.D.Disk.reveals (false ≡ true) (false ≡ true) (g.D.Disk.state c.args.disk.now) (g.D.Disk.state c.sync.new.self) (g.D.Disk.state c.records_end.new.disk) (λ is. absurd (cc)) first c.in_ok-end.ensures.reads in
    let here : EndsAt ((g.D.Disk.state c.records_end.new.disk).files 0) c.in-Some.end = subst (λ (l : List ℕ). EndsAt l c.in-Some.end) (sym (ap (λ (x : Files). x 0) (c.in_ok-end.ensures.reads.contents revealed))) ((rw c.in-Some.is at c.in_ok-end.ensures.ends) revealed) in
    let same : (g.D.Disk.state c.records_end.new.disk).files 0 ≡ (g.D.Disk.state c.args.disk.now).files 0 = ap (λ (x : Files). x 0) (reads.contents revealed) in
    absurd (never c.in-Some.end (subst (λ (l : List ℕ). EndsAt l c.in-Some.end) same here))

pub returns-in_err-first-clause-writes : goal.returns-in_err-first-clause-writes
returns-in_err-first-clause-writes g c =
    let e = c.in_ok-sync.ensures in
    let first : OnlyReads g.D.Disk.reveals (false ≡ true) (g.D.Disk.state c.args.disk.now) (g.D.Disk.state c.sync.new.self) = reads_made g.D.Disk.reveals (false ≡ true) (g.D.Disk.state c.args.disk.now) (g.D.Disk.state c.sync.new.self) _ (cc) (λ is. absurd (cc)) e.contents e.crash e.settled e.time e.cause e.sure in
    let reads : OnlyReads g.D.Disk.reveals (false ≡ true) (g.D.Disk.state c.args.disk.now) (g.D.Disk.state c.records_end.new.disk) = reads_both g.D.Disk.reveals (false ≡ true) (false ≡ true) (g.D.Disk.state c.args.disk.now) (g.D.Disk.state c.sync.new.self) (g.D.Disk.state c.records_end.new.disk) (λ is. absurd (cc)) first c.in_ok-end.ensures.reads in
    begun_writes g.D.Disk.reveals (false ≡ true) _ (g.D.Disk.state c.args.disk.now) (g.D.Disk.state c.records_end.new.disk) (g.D.Disk.state c.make_both.new.disk) c.in-Some.end (λ is. absurd (cc)) (λ (free : (g.D.Disk.state c.args.disk.now).free). (0, g.met.D.Disk.free_taken c.args.disk.now 0 ((g.D.Disk.state c.args.disk.now).files 0) 0 free))
    (λ revealed. subst (λ (l : List ℕ). EndsAt l c.in-Some.end) (sym (ap (λ (x : Files). x 0) (c.in_ok-end.ensures.reads.contents revealed))) ((rw c.in-Some.is at c.in_ok-end.ensures.ends) revealed)) reads
    (writes_as g.D.Disk.reveals _ _ (true ≡ true) _ _ (g.D.Disk.state c.records_end.new.disk) (g.D.Disk.state c.make_both.new.disk) (λ is. refl) (λ is. search rules) c.in_err-first.ensures.writes)

pub returns-in_default-2-clause-any_moment : goal.returns-in_default-2-clause-any_moment
returns-in_default-2-clause-any_moment g c revealed last pieces ends can =
    let e = c.in_ok-sync.ensures in
    let first : OnlyReads g.D.Disk.reveals (false ≡ true) (g.D.Disk.state c.args.disk.now) (g.D.Disk.state c.sync.new.self) = reads_made g.D.Disk.reveals (false ≡ true) (g.D.Disk.state c.args.disk.now) (g.D.Disk.state c.sync.new.self) _ (cc) (λ is. absurd (cc)) e.contents e.crash e.settled e.time e.cause e.sure in
    let reads : OnlyReads g.D.Disk.reveals (false ≡ true) (g.D.Disk.state c.args.disk.now) (g.D.Disk.state c.records_end.new.disk) = reads_both g.D.Disk.reveals (false ≡ true) (false ≡ true) (g.D.Disk.state c.args.disk.now) (g.D.Disk.state c.sync.new.self) (g.D.Disk.state c.records_end.new.disk) (λ is. absurd (cc)) first c.in_ok-end.ensures.reads in
    let here : EndsAt ((g.D.Disk.state c.records_end.new.disk).files 0) c.in-Some.end = subst (λ (l : List ℕ). EndsAt l c.in-Some.end) (sym (ap (λ (x : Files). x 0) (c.in_ok-end.ensures.reads.contents revealed))) ((rw c.in-Some.is at c.in_ok-end.ensures.ends) revealed) in
    let same : (g.D.Disk.state c.records_end.new.disk).files 0 ≡ (g.D.Disk.state c.args.disk.now).files 0 = ap (λ (x : Files). x 0) (reads.contents revealed) in
    let last_is = same_end ((g.D.Disk.state c.args.disk.now).files 0) ((g.D.Disk.state c.records_end.new.disk).files 0) last c.in-Some.end same ends here in
    let also = can_same pieces c.in-Some.end ((g.D.Disk.state c.args.disk.now).files 0) ((g.D.Disk.state c.records_end.new.disk).files 0) same (subst (λ (n : ℕ). CanMake pieces n ((g.D.Disk.state c.args.disk.now).files 0)) last_is can) in
    begun_during (g.D.Disk.state c.args.disk.now) (g.D.Disk.state c.records_end.new.disk) (g.D.Disk.state c.make_both.new.disk) pieces (c.requires.none revealed) (c.requires.fixed revealed) reads.crash reads.time c.in_ok-first.ensures.writes.time (c.in_ok-first.ensures.any_moment revealed pieces also)

pub returns-in_default-2-clause-shown : goal.returns-in_default-2-clause-shown
returns-in_default-2-clause-shown g c revealed =
    let e = c.in_ok-sync.ensures in
    let first : OnlyReads g.D.Disk.reveals (false ≡ true) (g.D.Disk.state c.args.disk.now) (g.D.Disk.state c.sync.new.self) = reads_made g.D.Disk.reveals (false ≡ true) (g.D.Disk.state c.args.disk.now) (g.D.Disk.state c.sync.new.self) _ (cc) (λ is. absurd (cc)) e.contents e.crash e.settled e.time e.cause e.sure in
    let reads : OnlyReads g.D.Disk.reveals (false ≡ true) (g.D.Disk.state c.args.disk.now) (g.D.Disk.state c.records_end.new.disk) = reads_both g.D.Disk.reveals (false ≡ true) (false ≡ true) (g.D.Disk.state c.args.disk.now) (g.D.Disk.state c.sync.new.self) (g.D.Disk.state c.records_end.new.disk) (λ is. absurd (cc)) first c.in_ok-end.ensures.reads in
    let here : EndsAt ((g.D.Disk.state c.records_end.new.disk).files 0) c.in-Some.end = subst (λ (l : List ℕ). EndsAt l c.in-Some.end) (sym (ap (λ (x : Files). x 0) (c.in_ok-end.ensures.reads.contents revealed))) ((rw c.in-Some.is at c.in_ok-end.ensures.ends) revealed) in
    let pieces = ledger_pieces ((g.D.Disk.state c.records_end.new.disk).files 0) c.in-Some.end here in
    begun_shown g.D.Disk.reveals _ _ _ (g.D.Disk.state c.args.disk.now) (g.D.Disk.state c.records_end.new.disk) (g.D.Disk.state c.make_both.new.disk) pieces.0 c.in-Some.end (λ t d image. g.met.D.Disk.as_it_reads c.args.disk.now t d revealed image) reads.crash reads.time (reads.contents revealed)
    (reads_synced g.D.Disk.reveals (false ≡ true) (g.D.Disk.state c.sync.new.self) (g.D.Disk.state c.records_end.new.disk) revealed c.in_ok-end.ensures.reads (e.durable revealed)) here pieces.1 c.in_ok-first.ensures.writes (c.in_ok-first.ensures.any_moment revealed pieces.0 pieces.1)

pub returns-in_default-2-clause-bare : goal.returns-in_default-2-clause-bare
returns-in_default-2-clause-bare g c revealed never =
    let e = c.in_ok-sync.ensures in
    let first : OnlyReads g.D.Disk.reveals (false ≡ true) (g.D.Disk.state c.args.disk.now) (g.D.Disk.state c.sync.new.self) = reads_made g.D.Disk.reveals (false ≡ true) (g.D.Disk.state c.args.disk.now) (g.D.Disk.state c.sync.new.self) _ (cc) (λ is. absurd (cc)) e.contents e.crash e.settled e.time e.cause e.sure in
    let reads : OnlyReads g.D.Disk.reveals (false ≡ true) (g.D.Disk.state c.args.disk.now) (g.D.Disk.state c.records_end.new.disk) = reads_both g.D.Disk.reveals (false ≡ true) (false ≡ true) (g.D.Disk.state c.args.disk.now) (g.D.Disk.state c.sync.new.self) (g.D.Disk.state c.records_end.new.disk) (λ is. absurd (cc)) first c.in_ok-end.ensures.reads in
    let here : EndsAt ((g.D.Disk.state c.records_end.new.disk).files 0) c.in-Some.end = subst (λ (l : List ℕ). EndsAt l c.in-Some.end) (sym (ap (λ (x : Files). x 0) (c.in_ok-end.ensures.reads.contents revealed))) ((rw c.in-Some.is at c.in_ok-end.ensures.ends) revealed) in
    let same : (g.D.Disk.state c.records_end.new.disk).files 0 ≡ (g.D.Disk.state c.args.disk.now).files 0 = ap (λ (x : Files). x 0) (reads.contents revealed) in
    absurd (never c.in-Some.end (subst (λ (l : List ℕ). EndsAt l c.in-Some.end) same here))

pub returns-in_default-2-clause-writes : goal.returns-in_default-2-clause-writes
returns-in_default-2-clause-writes g c =
    let e = c.in_ok-sync.ensures in
    let first : OnlyReads g.D.Disk.reveals (false ≡ true) (g.D.Disk.state c.args.disk.now) (g.D.Disk.state c.sync.new.self) = reads_made g.D.Disk.reveals (false ≡ true) (g.D.Disk.state c.args.disk.now) (g.D.Disk.state c.sync.new.self) _ (cc) (λ is. absurd (cc)) e.contents e.crash e.settled e.time e.cause e.sure in
    let reads : OnlyReads g.D.Disk.reveals (false ≡ true) (g.D.Disk.state c.args.disk.now) (g.D.Disk.state c.records_end.new.disk) = reads_both g.D.Disk.reveals (false ≡ true) (false ≡ true) (g.D.Disk.state c.args.disk.now) (g.D.Disk.state c.sync.new.self) (g.D.Disk.state c.records_end.new.disk) (λ is. absurd (cc)) first c.in_ok-end.ensures.reads in
    begun_writes g.D.Disk.reveals (false ≡ true) _ (g.D.Disk.state c.args.disk.now) (g.D.Disk.state c.records_end.new.disk) (g.D.Disk.state c.make_both.new.disk) c.in-Some.end (λ is. absurd (cc)) (λ (free : (g.D.Disk.state c.args.disk.now).free). (0, g.met.D.Disk.free_taken c.args.disk.now 0 ((g.D.Disk.state c.args.disk.now).files 0) 0 free))
    (λ revealed. subst (λ (l : List ℕ). EndsAt l c.in-Some.end) (sym (ap (λ (x : Files). x 0) (c.in_ok-end.ensures.reads.contents revealed))) ((rw c.in-Some.is at c.in_ok-end.ensures.ends) revealed)) reads
    c.in_ok-first.ensures.writes

pub returns-in_default-2-clause-made : goal.returns-in_default-2-clause-made
returns-in_default-2-clause-made g c revealed last pieces ends can =
    let e = c.in_ok-sync.ensures in
    let first : OnlyReads g.D.Disk.reveals (false ≡ true) (g.D.Disk.state c.args.disk.now) (g.D.Disk.state c.sync.new.self) = reads_made g.D.Disk.reveals (false ≡ true) (g.D.Disk.state c.args.disk.now) (g.D.Disk.state c.sync.new.self) _ (cc) (λ is. absurd (cc)) e.contents e.crash e.settled e.time e.cause e.sure in
    let reads : OnlyReads g.D.Disk.reveals (false ≡ true) (g.D.Disk.state c.args.disk.now) (g.D.Disk.state c.records_end.new.disk) = reads_both g.D.Disk.reveals (false ≡ true) (false ≡ true) (g.D.Disk.state c.args.disk.now) (g.D.Disk.state c.sync.new.self) (g.D.Disk.state c.records_end.new.disk) (λ is. absurd (cc)) first c.in_ok-end.ensures.reads in
    let here : EndsAt ((g.D.Disk.state c.records_end.new.disk).files 0) c.in-Some.end = subst (λ (l : List ℕ). EndsAt l c.in-Some.end) (sym (ap (λ (x : Files). x 0) (c.in_ok-end.ensures.reads.contents revealed))) ((rw c.in-Some.is at c.in_ok-end.ensures.ends) revealed) in
    let same : (g.D.Disk.state c.records_end.new.disk).files 0 ≡ (g.D.Disk.state c.args.disk.now).files 0 = ap (λ (x : Files). x 0) (reads.contents revealed) in
    let last_is = same_end ((g.D.Disk.state c.args.disk.now).files 0) ((g.D.Disk.state c.records_end.new.disk).files 0) last c.in-Some.end same ends here in
    let also = can_same pieces c.in-Some.end ((g.D.Disk.state c.args.disk.now).files 0) ((g.D.Disk.state c.records_end.new.disk).files 0) same (subst (λ (n : ℕ). CanMake pieces n ((g.D.Disk.state c.args.disk.now).files 0)) last_is can) in
    (rw c.in_default-2.is at c.in_ok-first.ensures.made) revealed pieces also

pub returns-clause-any_moment : goal.returns-clause-any_moment
returns-clause-any_moment g c revealed last pieces ends can =
    let e = c.in_ok-sync.ensures in
    let first : OnlyReads g.D.Disk.reveals (false ≡ true) (g.D.Disk.state c.args.disk.now) (g.D.Disk.state c.sync.new.self) = reads_made g.D.Disk.reveals (false ≡ true) (g.D.Disk.state c.args.disk.now) (g.D.Disk.state c.sync.new.self) _ (cc) (λ is. absurd (cc)) e.contents e.crash e.settled e.time e.cause e.sure in
    let reads : OnlyReads g.D.Disk.reveals (false ≡ true) (g.D.Disk.state c.args.disk.now) (g.D.Disk.state c.records_end.new.disk) = reads_both g.D.Disk.reveals (false ≡ true) (false ≡ true) (g.D.Disk.state c.args.disk.now) (g.D.Disk.state c.sync.new.self) (g.D.Disk.state c.records_end.new.disk) (λ is. absurd (cc)) first c.in_ok-end.ensures.reads in
    let here : EndsAt ((g.D.Disk.state c.records_end.new.disk).files 0) c.in-Some.end = subst (λ (l : List ℕ). EndsAt l c.in-Some.end) (sym (ap (λ (x : Files). x 0) (c.in_ok-end.ensures.reads.contents revealed))) ((rw c.in-Some.is at c.in_ok-end.ensures.ends) revealed) in
    let same : (g.D.Disk.state c.records_end.new.disk).files 0 ≡ (g.D.Disk.state c.args.disk.now).files 0 = ap (λ (x : Files). x 0) (reads.contents revealed) in
    let last_is = same_end ((g.D.Disk.state c.args.disk.now).files 0) ((g.D.Disk.state c.records_end.new.disk).files 0) last c.in-Some.end same ends here in
    let also = can_same pieces c.in-Some.end ((g.D.Disk.state c.args.disk.now).files 0) ((g.D.Disk.state c.records_end.new.disk).files 0) same (subst (λ (n : ℕ). CanMake pieces n ((g.D.Disk.state c.args.disk.now).files 0)) last_is can) in
    begun_during (g.D.Disk.state c.args.disk.now) (g.D.Disk.state c.records_end.new.disk) (g.D.Disk.state c.make_both.new.disk) pieces (c.requires.none revealed) (c.requires.fixed revealed) reads.crash reads.time c.in_ok-first.ensures.writes.time (c.in_ok-first.ensures.any_moment revealed pieces also)

pub returns-clause-shown : goal.returns-clause-shown
returns-clause-shown g c revealed =
    let e = c.in_ok-sync.ensures in
    let first : OnlyReads g.D.Disk.reveals (false ≡ true) (g.D.Disk.state c.args.disk.now) (g.D.Disk.state c.sync.new.self) = reads_made g.D.Disk.reveals (false ≡ true) (g.D.Disk.state c.args.disk.now) (g.D.Disk.state c.sync.new.self) _ (cc) (λ is. absurd (cc)) e.contents e.crash e.settled e.time e.cause e.sure in
    let reads : OnlyReads g.D.Disk.reveals (false ≡ true) (g.D.Disk.state c.args.disk.now) (g.D.Disk.state c.records_end.new.disk) = reads_both g.D.Disk.reveals (false ≡ true) (false ≡ true) (g.D.Disk.state c.args.disk.now) (g.D.Disk.state c.sync.new.self) (g.D.Disk.state c.records_end.new.disk) (λ is. absurd (cc)) first c.in_ok-end.ensures.reads in
    let here : EndsAt ((g.D.Disk.state c.records_end.new.disk).files 0) c.in-Some.end = subst (λ (l : List ℕ). EndsAt l c.in-Some.end) (sym (ap (λ (x : Files). x 0) (c.in_ok-end.ensures.reads.contents revealed))) ((rw c.in-Some.is at c.in_ok-end.ensures.ends) revealed) in
    let pieces = ledger_pieces ((g.D.Disk.state c.records_end.new.disk).files 0) c.in-Some.end here in
    begun_shown g.D.Disk.reveals _ _ _ (g.D.Disk.state c.args.disk.now) (g.D.Disk.state c.records_end.new.disk) (g.D.Disk.state c.make_both.new.disk) pieces.0 c.in-Some.end (λ t d image. g.met.D.Disk.as_it_reads c.args.disk.now t d revealed image) reads.crash reads.time (reads.contents revealed)
    (reads_synced g.D.Disk.reveals (false ≡ true) (g.D.Disk.state c.sync.new.self) (g.D.Disk.state c.records_end.new.disk) revealed c.in_ok-end.ensures.reads (e.durable revealed)) here pieces.1 c.in_ok-first.ensures.writes (c.in_ok-first.ensures.any_moment revealed pieces.0 pieces.1)

pub returns-clause-bare : goal.returns-clause-bare
returns-clause-bare g c revealed never =
    let e = c.in_ok-sync.ensures in
    let first : OnlyReads g.D.Disk.reveals (false ≡ true) (g.D.Disk.state c.args.disk.now) (g.D.Disk.state c.sync.new.self) = reads_made g.D.Disk.reveals (false ≡ true) (g.D.Disk.state c.args.disk.now) (g.D.Disk.state c.sync.new.self) _ (cc) (λ is. absurd (cc)) e.contents e.crash e.settled e.time e.cause e.sure in
    let reads : OnlyReads g.D.Disk.reveals (false ≡ true) (g.D.Disk.state c.args.disk.now) (g.D.Disk.state c.records_end.new.disk) = reads_both g.D.Disk.reveals (false ≡ true) (false ≡ true) (g.D.Disk.state c.args.disk.now) (g.D.Disk.state c.sync.new.self) (g.D.Disk.state c.records_end.new.disk) (λ is. absurd (cc)) first c.in_ok-end.ensures.reads in
    let here : EndsAt ((g.D.Disk.state c.records_end.new.disk).files 0) c.in-Some.end = subst (λ (l : List ℕ). EndsAt l c.in-Some.end) (sym (ap (λ (x : Files). x 0) (c.in_ok-end.ensures.reads.contents revealed))) ((rw c.in-Some.is at c.in_ok-end.ensures.ends) revealed) in
    let same : (g.D.Disk.state c.records_end.new.disk).files 0 ≡ (g.D.Disk.state c.args.disk.now).files 0 = ap (λ (x : Files). x 0) (reads.contents revealed) in
    absurd (never c.in-Some.end (subst (λ (l : List ℕ). EndsAt l c.in-Some.end) same here))

pub returns-clause-writes : goal.returns-clause-writes
returns-clause-writes g c =
    let e = c.in_ok-sync.ensures in
    let first : OnlyReads g.D.Disk.reveals (false ≡ true) (g.D.Disk.state c.args.disk.now) (g.D.Disk.state c.sync.new.self) = reads_made g.D.Disk.reveals (false ≡ true) (g.D.Disk.state c.args.disk.now) (g.D.Disk.state c.sync.new.self) _ (cc) (λ is. absurd (cc)) e.contents e.crash e.settled e.time e.cause e.sure in
    let reads : OnlyReads g.D.Disk.reveals (false ≡ true) (g.D.Disk.state c.args.disk.now) (g.D.Disk.state c.records_end.new.disk) = reads_both g.D.Disk.reveals (false ≡ true) (false ≡ true) (g.D.Disk.state c.args.disk.now) (g.D.Disk.state c.sync.new.self) (g.D.Disk.state c.records_end.new.disk) (λ is. absurd (cc)) first c.in_ok-end.ensures.reads in
    begun_writes g.D.Disk.reveals (false ≡ true) _ (g.D.Disk.state c.args.disk.now) (g.D.Disk.state c.records_end.new.disk) (g.D.Disk.state c.make_both.new.disk) c.in-Some.end (λ is. absurd (cc)) (λ (free : (g.D.Disk.state c.args.disk.now).free). (0, g.met.D.Disk.free_taken c.args.disk.now 0 ((g.D.Disk.state c.args.disk.now).files 0) 0 free))
    (λ revealed. subst (λ (l : List ℕ). EndsAt l c.in-Some.end) (sym (ap (λ (x : Files). x 0) (c.in_ok-end.ensures.reads.contents revealed))) ((rw c.in-Some.is at c.in_ok-end.ensures.ends) revealed)) reads
    c.in_ok-first.ensures.writes

pub returns-clause-made : goal.returns-clause-made
returns-clause-made g c revealed last pieces ends can =
    let e = c.in_ok-sync.ensures in
    let first : OnlyReads g.D.Disk.reveals (false ≡ true) (g.D.Disk.state c.args.disk.now) (g.D.Disk.state c.sync.new.self) = reads_made g.D.Disk.reveals (false ≡ true) (g.D.Disk.state c.args.disk.now) (g.D.Disk.state c.sync.new.self) _ (cc) (λ is. absurd (cc)) e.contents e.crash e.settled e.time e.cause e.sure in
    let reads : OnlyReads g.D.Disk.reveals (false ≡ true) (g.D.Disk.state c.args.disk.now) (g.D.Disk.state c.records_end.new.disk) = reads_both g.D.Disk.reveals (false ≡ true) (false ≡ true) (g.D.Disk.state c.args.disk.now) (g.D.Disk.state c.sync.new.self) (g.D.Disk.state c.records_end.new.disk) (λ is. absurd (cc)) first c.in_ok-end.ensures.reads in
    let here : EndsAt ((g.D.Disk.state c.records_end.new.disk).files 0) c.in-Some.end = subst (λ (l : List ℕ). EndsAt l c.in-Some.end) (sym (ap (λ (x : Files). x 0) (c.in_ok-end.ensures.reads.contents revealed))) ((rw c.in-Some.is at c.in_ok-end.ensures.ends) revealed) in
    let same : (g.D.Disk.state c.records_end.new.disk).files 0 ≡ (g.D.Disk.state c.args.disk.now).files 0 = ap (λ (x : Files). x 0) (reads.contents revealed) in
    let last_is = same_end ((g.D.Disk.state c.args.disk.now).files 0) ((g.D.Disk.state c.records_end.new.disk).files 0) last c.in-Some.end same ends here in
    let also = can_same pieces c.in-Some.end ((g.D.Disk.state c.args.disk.now).files 0) ((g.D.Disk.state c.records_end.new.disk).files 0) same (subst (λ (n : ℕ). CanMake pieces n ((g.D.Disk.state c.args.disk.now).files 0)) last_is can) in
    let has = (rw c.in-Some-2.is at c.in_ok-first.ensures.made) revealed pieces also in
    record { text = has.text; one = has.one; two = has.two; whole = has.whole }

pub returns-clause-ends : goal.returns-clause-ends
returns-clause-ends g c revealed =
    let e = c.in_ok-sync.ensures in
    let first : OnlyReads g.D.Disk.reveals (false ≡ true) (g.D.Disk.state c.args.disk.now) (g.D.Disk.state c.sync.new.self) = reads_made g.D.Disk.reveals (false ≡ true) (g.D.Disk.state c.args.disk.now) (g.D.Disk.state c.sync.new.self) _ (cc) (λ is. absurd (cc)) e.contents e.crash e.settled e.time e.cause e.sure in
    let reads : OnlyReads g.D.Disk.reveals (false ≡ true) (g.D.Disk.state c.args.disk.now) (g.D.Disk.state c.records_end.new.disk) = reads_both g.D.Disk.reveals (false ≡ true) (false ≡ true) (g.D.Disk.state c.args.disk.now) (g.D.Disk.state c.sync.new.self) (g.D.Disk.state c.records_end.new.disk) (λ is. absurd (cc)) first c.in_ok-end.ensures.reads in
    let here : EndsAt ((g.D.Disk.state c.records_end.new.disk).files 0) c.in-Some.end = subst (λ (l : List ℕ). EndsAt l c.in-Some.end) (sym (ap (λ (x : Files). x 0) (c.in_ok-end.ensures.reads.contents revealed))) ((rw c.in-Some.is at c.in_ok-end.ensures.ends) revealed) in
    let same : (g.D.Disk.state c.records_end.new.disk).files 0 ≡ (g.D.Disk.state c.args.disk.now).files 0 = ap (λ (x : Files). x 0) (reads.contents revealed) in
    (subst (λ (l : List ℕ). EndsAt l c.in-Some.end) same here, subst (λ (l : List ℕ). AreBytes (part_of l 0 c.in-Some.end)) same ((rw c.in-Some-2.is at c.in_ok-first.ensures.bytes) revealed))
