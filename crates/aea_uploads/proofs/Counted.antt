-- How many blocks are woven of an upload.
use Rattle.std.proofs.Common.{◌≡◌, ℕ, ◌+◌, ◌-◌, ◌*◌, ◌/◌, ◌<◌, ◌++◌, length, ◌∙◌, ap, arith, length-append, length-drop}
use Rattle.std.proofs.Math.Nat.{mul-add-div_right}
use Rattle.aea_records.specs.Format.{nodes_for}
use Rattle.aea_archive.specs.Next.{object_blocks}
use Rattle.aea_archive.proofs.Pieces.{cut-length}
use Rattle.aea_machine.specs.Machine.{full_blocks}
use Rattle.aea_uploads.specs.Laws.{FilledAreCounted}
use Rattle.aea_uploads.proofs.Filled.{kept-long, kept-count}

-- whole blocks, and what the others fill
past_blocks : (n size more : ℕ) → 0 < size → (n * size + more) / size - n ≡ more / size
past_blocks n size more some = let e = mul-add-div_right {m = size} some n more in omega (arith, e)

pub filled-counted : FilledAreCounted
filled-counted shape datas s u bytes wide k =
    let some : 0 < shape.block = (let less = k.less in omega (arith, less)) in
    let long = kept-long shape datas s u wide k in
    let count = kept-count shape datas s u wide k in
    let all : length (u.bytes ++ bytes) ≡ length u.nodes * shape.block + (s.have + length bytes) = length-append u.bytes bytes ∙ omega (arith, long) in
    let object : length u.bytes + shape.block - 1 ≡ length u.nodes * shape.block + (s.have + shape.block - 1) = omega (arith, long, some) in (
      length-drop (length u.bytes / shape.block) (full_blocks shape (u.bytes ++ bytes))
          ∙ ap (λ (n : ℕ). n - length u.bytes / shape.block) (cut-length shape.block (length (u.bytes ++ bytes) / shape.block) (u.bytes ++ bytes))
          ∙ ap (λ (n : ℕ). length (u.bytes ++ bytes) / shape.block - n) count
          ∙ ap (λ (n : ℕ). n / shape.block - length u.nodes) all
          ∙ past_blocks (length u.nodes) shape.block (s.have + length bytes) some,
      length-drop (length u.bytes / shape.block) (object_blocks shape u.bytes)
          ∙ ap (λ (n : ℕ). n - length u.bytes / shape.block) (cut-length shape.block (nodes_for shape (length u.bytes)) u.bytes)
          ∙ ap (λ (n : ℕ). nodes_for shape (length u.bytes) - n) count
          ∙ ap (λ (n : ℕ). n / shape.block - length u.nodes) object
          ∙ past_blocks (length u.nodes) shape.block (s.have + shape.block - 1) some,
    )
