use Rattle.std.proofs.Common.{Bool, IsErr, subst}
use Rattle.aea_disk.proofs.Frames.{ok_fine, reads_none, reads_both, reads_as}
use Rattle.aea_lattice.specs.declared.blocks.BlockId.{BlockId}
use Rattle.aea_lattice.specs.declared.grid.Lattice.{Lattice}
use Rattle.aea_gauss.specs.Fates.{IsFate}
use Rattle.aea_search.specs.declared.searching.Search.{Search}
use Rattle.aea_search.specs.Searches.{IsRightBy}
use Rattle.aea_explain.specs.declared.explaining.Explanation.{Explanation}
use Rattle.aea_explain.specs.declared.explaining.ExplainFault.TheVariants.{DiskFault}
use Rattle.aea_explain.proofs.Explanations.{explains, around_as, same_fault, made_no_fault, memory_no_fault}
use Rattle.aea_explain.proofs.explaining.explain.Goals as goal

pub returns-in_default-clause-reads : goal.returns-in_default-clause-reads
returns-in_default-clause-reads g c = reads_none g.D.Disk.reveals _ (g.D.Disk.state c.args.disk.now) (memory_no_fault Explanation)

pub returns-in-Err-search_around-clause-reads : goal.returns-in-Err-search_around-clause-reads
returns-in-Err-search_around-clause-reads g c =
    let reveals = g.D.Disk.reveals in
    let old = g.D.Disk.state c.args.disk.now in
    let mid = g.D.Disk.state c.is_block_intact.new.disk in
    let new = g.D.Disk.state c.search_around.new.disk in
    let fault = c.in-Err-search_around.fault in
    reads_both reveals ⊥ _ old mid new (λ none. none)
    (reads_as reveals (IsErr c.is_block_intact.result) ⊥ old mid (λ none. absurd none) (ok_fine c.in-Ok-is_block_intact.is) c.is_block_intact.ensures.reads)
    (reads_as reveals _ _ mid new (same_fault Explanation Search fault DiskFault) (same_fault Search Explanation fault DiskFault) c.in-Err-search_around.ensures.reads)

pub returns-in-Ok-fate_of-clause-reads : goal.returns-in-Ok-fate_of-clause-reads
returns-in-Ok-fate_of-clause-reads g c =
    let reveals = g.D.Disk.reveals in
    let old = g.D.Disk.state c.args.disk.now in
    let mid = g.D.Disk.state c.is_block_intact.new.disk in
    let new = g.D.Disk.state c.search_around.new.disk in
    reads_both reveals ⊥ _ old mid new (λ none. none)
    (reads_as reveals (IsErr c.is_block_intact.result) ⊥ old mid (λ none. absurd none) (ok_fine c.in-Ok-is_block_intact.is) c.is_block_intact.ensures.reads)
    (reads_as reveals _ _ mid new (λ is. absurd (made_no_fault _ DiskFault is))
    (λ is. absurd (made_no_fault c.in-Ok-search_around.search DiskFault is)) c.in-Ok-search_around.ensures.reads)

pub returns-clause-reads : goal.returns-clause-reads
returns-clause-reads g c =
    let reveals = g.D.Disk.reveals in
    let old = g.D.Disk.state c.args.disk.now in
    let mid = g.D.Disk.state c.is_block_intact.new.disk in
    let new = g.D.Disk.state c.search_around.new.disk in
    reads_both reveals ⊥ _ old mid new (λ none. none)
    (reads_as reveals (IsErr c.is_block_intact.result) ⊥ old mid (λ none. absurd none) (ok_fine c.in-Ok-is_block_intact.is) c.is_block_intact.ensures.reads)
    (reads_as reveals _ _ mid new (λ is. absurd (memory_no_fault Explanation is)) (λ is. absurd (made_no_fault c.in-Ok-search_around.search DiskFault is)) c.in-Ok-search_around.ensures.reads)

pub returns-in-Ok-fate_of-clause-explains : goal.returns-in-Ok-fate_of-clause-explains
returns-in-Ok-fate_of-clause-explains g c =
    let reveals = g.D.Disk.reveals in
    let v = c.args.ledger.now in
    let old = (g.D.Disk.state c.args.disk.now).files in
    let mid = (g.D.Disk.state c.is_block_intact.new.disk).files in
    let b = c.args.block in
    let l = c.lattice-lattice.result in
    let s = c.in-Ok-search_around.search in
    let fate = c.in-Ok-fate_of.fate in
    explains c.words_stay.ensures c.survivors_are_revealed.ensures reveals v l old b (record { intact = c.in-Ok-is_block_intact.intact; fate = fate }) s
    c.lattice-lattice.ensures.value c.lattice-lattice.ensures.of_shape c.requires
    c.in-Ok-is_block_intact.ensures.intact
    (around_as reveals v mid old b s c.is_block_intact.ensures.reads.contents c.in-Ok-search_around.ensures.around)
    c.in-Ok-fate_of.ensures.block
    (subst (λ (x : Lattice). (known : BlockId → Bool) → IsRightBy x known s → IsFate x known fate) c.lattice-lattice.ensures.value c.in-Ok-fate_of.ensures.fate)
