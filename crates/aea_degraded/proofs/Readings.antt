-- What a payload is over any disk: the XOR of payloads that were read and have their digests.
use Rattle.std.proofs.Common.{◌≡◌, ℕ, List, [], ◌∷◌, replicate, sym, subst}
use Rattle.std.proofs.lemmas.List.Elements.{All-cons, All-nil}
use Rattle.aea_lattice.specs.declared.blocks.BlockId.{BlockId}
use Rattle.aea_lattice.specs.Blocks.{HasBlock}
use Rattle.aea_lattice.specs.Data.{value_of}
use Rattle.aea_lattice.proofs.Sums.{length-value_at, xor_bytes-zeros}
use Rattle.aea_disk.specs.Files.{Files}
use Rattle.aea_gauss.specs.declared.fates.Fate.{Fate}
use Rattle.aea_gauss.specs.Fates.{block_of_fate}
use Rattle.aea_ledger.specs.Values.{Opened}
use Rattle.aea_restore.specs.Judged.{IsJudged}
use Rattle.aea_restore.proofs.Judging.{judged_one, judged_moved}
use Rattle.aea_restore.proofs.Sums.{sum_one}
use Rattle.aea_degraded.specs.Fetched.{IsOfReadings}
use Rattle.aea_degraded.specs.Summed.{IsSumIn, IsSummed, summands}
use Rattle.aea_degraded.proofs.Summing.{of_summands}

-- one that was read is the XOR of itself
pub read_alone : (reveals : Type 0) (v : Opened) (c : Files) (b : BlockId) (payload : List ℕ) → HasBlock v.lattice b → IsJudged reveals v c b payload → IsOfReadings reveals v c b payload
read_alone reveals v c b payload has is = record {
  blocks = b ∷ [];
  has = All-cons (HasBlock v.lattice) b [] has (All-nil (HasBlock v.lattice));
  sum = λ w datas is_data. sym (sum_one w (value_of v.lattice w datas) b (length-value_at v.lattice w datas b.node b.class is_data));
  judged = judged_one reveals v c b (replicate v.shape.block 0) payload payload is (sym (xor_bytes-zeros v.shape.block payload is.home.size));
}

-- one that was computed is that of what the equations of the block leave over beside it
pub read_summed : (reveals : Type 0) (v : Opened) (c : Files) (b : BlockId) (fate : Fate) (payload : List ℕ) → block_of_fate fate ≡ b → IsSumIn v.lattice fate → IsSummed reveals v c fate payload → IsOfReadings reveals v c b payload
read_summed reveals v c b fate payload same sum summed =
    let of = of_summands v.lattice fate sum in
    subst (λ (a : BlockId). IsOfReadings reveals v c a payload) same
    (record { blocks = summands v.lattice fate; has = λ k d lt. (of.1 k d lt).0; sum = of.0; judged = summed })

-- where the contents are known, the files read the same
pub readings_moved : (reveals : Type 0) (v : Opened) (c d : Files) (b : BlockId) (payload : List ℕ) → (reveals → c ≡ d) → IsOfReadings reveals v c b payload → IsOfReadings reveals v d b payload
readings_moved reveals v c d b payload same is = record {
  blocks = is.blocks;
  has = is.has;
  sum = is.sum;
  judged = judged_moved reveals v d c (replicate v.shape.block 0) payload is.blocks same is.judged;
}
