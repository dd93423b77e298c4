-- Payloads that are copied block by block, from cells.
use Rattle.std.proofs.Common.{◌≡◌, ℕ, List, [], ◌∷◌, take, sym, ◌∙◌, ap, subst, Ok, Err}
use Rattle.aea_io.specs.Pages.{Prints}
use Rattle.aea_io.specs.Streams.{SinkState}
use Rattle.aea_io.proofs.Printing.{prints_as, prints_then_nothing}
use Rattle.aea_lattice.specs.declared.blocks.BlockId.{BlockId}
use Rattle.aea_lattice.specs.declared.shape.Shape.{Shape}
use Rattle.aea_disk.specs.Files.{Files}
use Rattle.aea_archive.specs.Blocks.{IsIntactBy}
use Rattle.aea_archive.specs.Objects.{IsOneOf}
use Rattle.aea_fetch.specs.Payloads.{IsPayload}
use Rattle.aea_fetch.specs.Copies.{HasCopied}
use Rattle.aea_fetch.specs.Gets.{HasBroken}
use Rattle.aea_fetch.specs.declared.fault.GetFault.{GetFault}
use Rattle.aea_fetch.specs.declared.fault.GetFault.TheVariants.{Damaged, DiskFault, WriteFault}
use Rattle.aea_fetch.proofs.Broken.{payload_wide, payloads_at, broken_at}
use Rattle.aea_fetch.proofs.Copies.{cut_still, cut_one, sent_cut}
use Rattle.aea_fetch.proofs.Firsts.{among_left, among_right}
use Rattle.aea_fetch.proofs.Loops.{HasReached, reached_cut}

module _ (reveals : Type 0) (shape : Shape) (digests : List (List ℕ)) (c : Files) where
  -- ---- one block

  -- it is damaged: nothing was printed
  pub broken_damaged : (b k : BlockId) (most : ℕ) (s : SinkState) (gathered : List ℕ) → k ≡ b → (reveals → IsIntactBy shape digests c b → ⊥)
      → HasBroken reveals shape digests c (b ∷ []) most s gathered s (Damaged k)
  broken_damaged b k most s gathered is bad = record {
    cut = cut_still (IsPayload reveals shape digests c) (b ∷ []) most s gathered (Damaged k ≡ WriteFault) (λ e. let other = e in cc);
    damaged = λ j e.
        let one : k ≡ j = (let same = e in cc) in
        let here : b ≡ j = sym is ∙ one in (
          record { before = []; after = []; are = ap (λ (x : BlockId). x ∷ []) here },
          λ revealed intact. bad revealed (subst (IsIntactBy shape digests c) (sym here) intact),
        );
  }

  -- the disk failed at it
  pub broken_disk : (blocks : List BlockId) (most : ℕ) (s : SinkState) (gathered : List ℕ) → HasBroken reveals shape digests c blocks most s gathered s DiskFault
  broken_disk blocks most s gathered = record {
    cut = cut_still (IsPayload reveals shape digests c) blocks most s gathered (DiskFault ≡ WriteFault) (λ e. let other = e in cc);
    damaged = λ j e. absurd (let other : DiskFault ≡ Damaged j = e in cc);
  }

  -- the output did
  pub broken_output : {T E : Type 0} {e : E} (b : BlockId) (p : List ℕ) (most : ℕ) (old new : SinkState) (before after : List ℕ) → IsPayload reveals shape digests c b p
      → Prints {T = T} old before new after (Err e) (take most p) → HasBroken reveals shape digests c (b ∷ []) most old before new WriteFault
  broken_output b p most old new before after is prints = record {
    cut = cut_one (IsPayload reveals shape digests c) b p most old new before after (WriteFault ≡ WriteFault) is prints;
    damaged = λ j e. absurd (let other : WriteFault ≡ Damaged j = e in cc);
  }

  -- ---- the end of the page

  module _ (blocks : List BlockId) (most : ℕ) (old mid new : SinkState) (q : List ℕ) (copied : HasCopied (IsPayload reveals shape digests c) blocks most old [] mid q) where
    -- it was written
    pub copied_end : {T E : Type 0} {v : T} → Prints {E = E} mid q new [] (Ok v) [] → HasCopied (IsPayload reveals shape digests c) blocks most old [] new []
    copied_end {T} {E} {v} last = record { payloads = copied.payloads; are = copied.are; prints = prints_as tt (prints_then_nothing copied.prints last) }

    -- the output failed at that
    pub broken_end : {T E : Type 0} {e : E} {r : List ℕ} → Prints {T = T} mid q new r (Err e) [] → HasBroken reveals shape digests c blocks most old [] new WriteFault
    broken_end {T} {E} {e} {r} last = record {
      cut = sent_cut (IsPayload reveals shape digests c) blocks most old mid new q copied (WriteFault ≡ WriteFault) last;
      damaged = λ j e. absurd (let other : WriteFault ≡ Damaged j = e in cc);
    }

-- ---- files that read the same, where the contents are known

module _ (reveals : Type 0) (shape : Shape) (digests : List (List ℕ)) (c d : Files) (same : reveals → d ≡ c) where
  pub copied_at : (blocks : List BlockId) (most : ℕ) (old new : SinkState) (before after : List ℕ) → HasCopied (IsPayload reveals shape digests d) blocks most old before new after
      → HasCopied (IsPayload reveals shape digests c) blocks most old before new after
  copied_at blocks most old new before after one = record { payloads = one.payloads; are = payloads_at reveals shape digests d c same blocks one.payloads one.are; prints = one.prints }

  -- the next of all blocks broke
  pub broken_there : (all left : List BlockId) (b : BlockId) (most rest : ℕ) (old mid new : SinkState) (p q : List ℕ) (fault : GetFault)
      → HasReached (IsPayload reveals shape digests c) shape.block all (b ∷ left) most rest old p mid q → HasBroken reveals shape digests d (b ∷ []) rest mid q new fault → HasBroken reveals shape digests c all most old p new fault
  broken_there all left b most rest old mid new p q fault reached one =
      let here = broken_at reveals shape digests d c same (b ∷ []) rest mid new q fault one in
      record {
        cut = reached_cut (IsPayload reveals shape digests c) shape.block (payload_wide reveals shape digests c) all left b most rest old mid new p q (fault ≡ WriteFault) reached here.cut;
        damaged = λ k e.
            let both = here.damaged k e in (
              subst (λ (bs : List BlockId). IsOneOf bs k) (sym reached.are) (among_right reached.front (b ∷ left) k (among_left (b ∷ []) left k both.0)),
              both.1,
            );
      }
