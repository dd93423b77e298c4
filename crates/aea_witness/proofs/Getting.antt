-- The first object of the archive of the witness, as it is got.
use Rattle.std.proofs.Common.{◌≡◌, ℕ, ◌-◌, ◌≤◌, List, [], ◌∷◌, ◌++◌, length, length-append, Option, Some, None, refl, sym, ◌∙◌, ap, subst, arith}
use Rattle.std.specs.Prelude.{vec_len}
use Rattle.std.specs.FinMap.{get}
use Rattle.aea_io.specs.declared.sure.SureSink.{SureSink}
use Rattle.aea_lattice.specs.declared.blocks.BlockId.{BlockId}
use Rattle.aea_lattice.specs.declared.blocks.Class.TheVariants.{Datum}
use Rattle.aea_lattice.specs.Blocks.{block_of}
use Rattle.aea_disk.specs.Files.{Files}
use Rattle.aea_catalog.specs.declared.objects.Extent.{Extent}
use Rattle.aea_catalog.specs.Catalogs.{Placed}
use Rattle.aea_ledger.specs.Values.{Opened}
use Rattle.aea_archive.specs.Blocks.{IsIntactBy}
use Rattle.aea_archive.specs.Next.{NewObject}
use Rattle.aea_archive.specs.Objects.{data_of, IsOneOf}
use Rattle.aea_witness.specs.Objects.{IsFirst, HasPuts}
use Rattle.aea_witness.specs.Rooms.{IsEmptySink}

-- what is found under a name is one
same_placed : (p q : Placed) → (let one : Option Placed = Some p in one ≡ Some q) → p ≡ q
same_placed p q same = cc

no_placed : (p : Placed) → (let one : Option Placed = Some p in one ≡ None) → ⊥
no_placed p same = cc

-- the blocks of a list of one
same_block : (a b : BlockId) (before after : List BlockId) → a ∷ [] ≡ before ++ b ∷ after → b ≡ a
same_block a b [] after same = cc
same_block a b (x ∷ before) after same = absurd (let long = ap length same in omega (arith, long, length-append before (b ∷ after)))

the_datum : (parts : List Extent) (b : BlockId) → parts ≡ record { first = 1; count = 1 } ∷ [] → IsOneOf (data_of parts) b → b ≡ block_of 1 Datum
the_datum parts b one is = same_block (block_of 1 Datum) b is.before is.after (sym (ap data_of one) ∙ is.are)

module _ (v : Opened) (o : NewObject) (more : List NewObject) (c : Files) (name : List ℕ) (p : HasPuts v (o ∷ more) c) (named : o.name ≡ name) where
  pub is_first : IsFirst v o
  is_first = p.first o more refl

  pub found : get v.objects name ≡ Some is_first.placed
  found = ap (get v.objects) (sym named) ∙ is_first.found

  -- the name is known
  pub is_known : get v.objects name ≡ None → ⊥
  is_known none = no_placed is_first.placed (sym found ∙ none)

  -- its block is intact
  pub is_intact : (placed : Placed) (b : BlockId) → get v.objects name ≡ Some placed → IsOneOf (data_of placed.parts) b → IsIntactBy v.shape v.digests c b
  is_intact placed b here one =
      let same : placed ≡ is_first.placed = same_placed placed is_first.placed (sym here ∙ found) in
      let datum : b ≡ block_of 1 Datum = the_datum placed.parts b (ap (λ (q : Placed). q.parts) same ∙ is_first.parts) one in
      let n = p.nodes in
      subst (IsIntactBy v.shape v.digests c) (sym datum) (p.intact (block_of 1 Datum) (record { first = omega arith; last = omega (arith, n); used = omega arith }))

  -- there is space for its bytes
  pub has_space : (sink : SureSink) → IsEmptySink 512 sink → length o.bytes ≤ 512 → is_first.placed.object.length ≤ sink.room - vec_len sink.bytes
  has_space sink empty small =
      let long = is_first.long in
      let room = empty.space in
      let count = sink.bytes.ok.0 in
      let none = ap length empty.empty in
      omega (arith, long, room, count, none, small)
