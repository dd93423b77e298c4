use Rattle.aea_disk.proofs.Stays.{earlier_none}
use Rattle.aea_disk.proofs.Frames.{reads_none, reads_as}
use Rattle.aea_append.proofs.Loaded.{loaded_values, damaged_named, heads_come}
use Rattle.aea_append.proofs.heads.load_heads.Goals as goal

pub returns-in_default-clause-earlier : goal.returns-in_default-clause-earlier
returns-in_default-clause-earlier g c = earlier_none (g.D.Disk.state c.args.disk.now)

pub returns-in_default-clause-reads : goal.returns-in_default-clause-reads
returns-in_default-clause-reads g c = reads_as g.D.Disk.reveals ⊥ _ (g.D.Disk.state c.args.disk.now) (g.D.Disk.state c.args.disk.now) (λ is. absurd (let e = is in cc)) (λ none. absurd none) (reads_none g.D.Disk.reveals ⊥ (g.D.Disk.state c.args.disk.now) (λ none. none))

pub returns-clause-values : goal.returns-clause-values
returns-clause-values g c =
    loaded_values c.lasts_are_values.ensures c.last_parities_are_sums.ensures g.D.Disk.reveals c.args.ledger.now (g.D.Disk.state c.args.disk.now).files (g.D.Disk.state c.ready_heads.new.disk).files c.ready_heads.result
    c.ready_heads.ensures.lattice c.ready_heads.ensures.size c.ready_heads.ensures.woven

pub returns-clause-head_refused : goal.returns-clause-head_refused
returns-clause-head_refused g c revealed a damaged =
    damaged_named g.D.Disk.reveals c.args.ledger.now (g.D.Disk.state c.args.disk.now) c.ready_heads.result c.ready_heads.ensures.intact revealed a damaged

pub returns-clause-complete : goal.returns-clause-complete
returns-clause-complete g c revealed intact still =
    heads_come g.D.Disk.reveals c.args.ledger.now (g.D.Disk.state c.args.disk.now) (g.D.Disk.state c.ready_heads.new.disk) c.ready_heads.result c.ready_heads.ensures.head c.ready_heads.ensures.reads revealed intact still
