-- What the catalogue found.
use Rattle.std.proofs.Common.{◌≡◌, ℕ, List, [], Option, Some, None, refl, ap, subst}
use Rattle.std.specs.Prelude.{option_map}
use Rattle.aea_io.specs.Streams.{SinkState}
use Rattle.aea_lattice.specs.declared.blocks.BlockId.{BlockId}
use Rattle.aea_lattice.specs.declared.shape.Shape.{Shape}
use Rattle.aea_catalog.specs.declared.objects.ObjectRef.{ObjectRef}
use Rattle.aea_catalog.specs.Catalogs.{Placed}
use Rattle.aea_disk.specs.Files.{Files}
use Rattle.aea_archive.specs.Objects.{data_of, data_under}
use Rattle.aea_fetch.specs.Copies.{HasSent}
use Rattle.aea_fetch.specs.Gets.{IsFound, HasBroken}
use Rattle.aea_fetch.specs.declared.fault.GetFault.{GetFault}

pub placed_of : (o : Option Placed) (object : ObjectRef) → option_map (λ p. p.object) o ≡ Some object → (p : Placed) × (o ≡ Some p) × (p.object ≡ object)
placed_of None object is = let h : None ≡ Some object = is in cc
placed_of (Some p) object is = (p, refl, (let h : Some p.object ≡ Some object = is in cc))

-- ---- what is said of the data blocks of what is under a name, where an object is

-- what was found among them
pub found_under : (reveals : Type 0) (shape : Shape) (digests : List (List ℕ)) (c : Files) (o : Option Placed) (p : Placed) {r s : Option BlockId} → o ≡ Some p → r ≡ s → IsFound reveals shape digests c (data_under o) r → IsFound reveals shape digests c (data_of p.parts) s
found_under reveals shape digests c o p {r} {s} is same found =
    subst (IsFound reveals shape digests c (data_of p.parts)) same (subst (λ (bs : List BlockId). IsFound reveals shape digests c bs r) (ap data_under is) found)

-- what was appended of them
pub sent_under : (has : BlockId → List ℕ → Type 0) (o : Option Placed) (p : Placed) (most : ℕ) (a b : SinkState) → o ≡ Some p → HasSent has (data_under o) most a b → HasSent has (data_of p.parts) most a b
sent_under has o p most a b is sent = subst (λ (bs : List BlockId). HasSent has bs most a b) (ap data_under is) sent

-- and what was where a fault came
pub broken_under : (reveals : Type 0) (shape : Shape) (digests : List (List ℕ)) (c : Files) (o : Option Placed) (p : Placed) (most : ℕ) (a b : SinkState) (fault : GetFault) → o ≡ Some p → HasBroken reveals shape digests c (data_under o) most a [] b fault → HasBroken reveals shape digests c (data_of p.parts) most a [] b fault
broken_under reveals shape digests c o p most a b fault is broken = subst (λ (bs : List BlockId). HasBroken reveals shape digests c bs most a [] b fault) (ap data_under is) broken
