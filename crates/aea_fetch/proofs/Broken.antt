-- Payloads of cells, and files that read the same. For calls that use `get` or its second pass after others that only read.
use Rattle.std.proofs.Common.{◌≡◌, ℕ, List, length, ◌∙◌, ap, subst}
use Rattle.aea_io.specs.Streams.{SinkState}
use Rattle.aea_lattice.specs.declared.blocks.BlockId.{BlockId}
use Rattle.aea_lattice.specs.declared.shape.Shape.{Shape}
use Rattle.aea_disk.specs.Files.{Files}
use Rattle.aea_shelf.specs.Intact.{payload_at}
use Rattle.aea_archive.specs.Blocks.{IsIntactBy}
use Rattle.aea_archive.specs.Objects.{ArePayloads}
use Rattle.aea_fetch.specs.Payloads.{IsPayload}
use Rattle.aea_fetch.specs.Copies.{HasSent}
use Rattle.aea_fetch.specs.Gets.{HasBroken}
use Rattle.aea_fetch.specs.declared.fault.GetFault.{GetFault}
use Rattle.aea_fetch.specs.declared.fault.GetFault.TheVariants.{WriteFault}
use Rattle.aea_fetch.proofs.Payloads.{payloads_as}
use Rattle.aea_fetch.proofs.Copies.{cut_as, sent_as}

module _ (reveals : Type 0) (shape : Shape) (digests : List (List ℕ)) (c : Files) where
  -- a payload has the bytes of a block
  pub payload_wide : (b : BlockId) (p : List ℕ) → IsPayload reveals shape digests c b p → length p ≡ shape.block
  payload_wide b p is = is.wide

-- ---- files that read the same, where the contents are known

module _ (reveals : Type 0) (shape : Shape) (digests : List (List ℕ)) (c d : Files) (same : reveals → c ≡ d) where
  -- a payload by the one is a payload by the other
  pub payload_also : (b : BlockId) (p : List ℕ) → IsPayload reveals shape digests c b p → IsPayload reveals shape digests d b p
  payload_also b p is = record {
    wide = is.wide;
    digest = is.digest;
    home = λ revealed. is.home revealed ∙ ap (λ (f : Files). payload_at shape f b) (same revealed);
    intact = λ revealed. subst (λ (f : Files). IsIntactBy shape digests f b) (same revealed) (is.intact revealed);
  }

  -- and so are those of several blocks. For a call that got an object after others that only read
  pub payloads_at : (bs : List BlockId) (ps : List (List ℕ)) → ArePayloads (IsPayload reveals shape digests c) bs ps → ArePayloads (IsPayload reveals shape digests d) bs ps
  payloads_at bs ps are = payloads_as (IsPayload reveals shape digests c) (IsPayload reveals shape digests d) payload_also bs ps are

  pub broken_at : (bs : List BlockId) (most : ℕ) (a b : SinkState) (p : List ℕ) (fault : GetFault) → HasBroken reveals shape digests c bs most a p b fault → HasBroken reveals shape digests d bs most a p b fault
  broken_at bs most a b p fault one = record {
    cut = cut_as (IsPayload reveals shape digests c) (IsPayload reveals shape digests d) payload_also bs most a b p (fault ≡ WriteFault) (fault ≡ WriteFault) (λ is. is) one.cut;
    damaged = λ k e. let both = one.damaged k e in (both.0, λ revealed. subst (λ (f : Files). IsIntactBy shape digests f k → ⊥) (same revealed) (both.1 revealed));
  }

  pub sent_at : (bs : List BlockId) (most : ℕ) (a b : SinkState) → HasSent (IsPayload reveals shape digests c) bs most a b → HasSent (IsPayload reveals shape digests d) bs most a b
  sent_at bs most a b one = sent_as (IsPayload reveals shape digests c) (IsPayload reveals shape digests d) payload_also bs most a b one
