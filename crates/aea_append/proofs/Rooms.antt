-- The space that the ledger's limit leaves, in nodes and in bytes.
use Rattle.std.proofs.Common.{◌≡◌, ℕ, ◌+◌, ◌-◌, ◌*◌, ◌/◌, ◌<◌, ◌≤◌, Bool, true, false, sym, ◌∙◌, ap, subst, arith, List, length, Option, None, Some, length-append}
use Rattle.std.specs.Io.KnownBytes.{Consumes, IsAtEnd}
use Rattle.std.proofs.lemmas.Bool.Decides.{nat_tests}
use Rattle.std.proofs.Math.Nat.{div-lt_iff_lt-mul, mul-le-mul_right}
use Rattle.aea_lattice.specs.declared.grid.Lattice.{Lattice}
use Rattle.aea_lattice.specs.declared.shape.Shape.{Shape}
use Rattle.aea_lattice.specs.Profile.{greatest_nodes}
use Rattle.aea_records.specs.Format.{nodes_for, limit_when}
use Rattle.aea_records.specs.Laws.{RecordsAreFew}
use Rattle.aea_ledger.specs.Values.{Opened, HasSomeRecords}
use Rattle.aea_disk.specs.Files.{Files}
use Rattle.aea_disk.specs.State.{State}
use Rattle.aea_shelf.specs.Writes.{KeepsPadded}
use Rattle.aea_archive.specs.Blocks.{IsBlockIn}
use Rattle.aea_archive.specs.Cells.{WritesCells}
use Rattle.aea_append.specs.Taking.{room_left}
use Rattle.aea_archive.proofs.Writes.{cells_as}
use Rattle.aea_append.proofs.Cuts.{some_bytes}

-- no limit is greater than that of lattices
pub limit_most : (raised : Bool) → limit_when raised ≤ greatest_nodes
limit_most true = omega arith
limit_most false = omega arith

-- the nodes of an opened ledger are within its limit
pub within_limit : RecordsAreFew → (v : Opened) → HasSomeRecords v → v.lattice.n ≤ limit_when v.raised
within_limit law v some =
    let few = law v.shape some.0 some.1.valid in
    subst (λ (b : Bool). v.lattice.n ≤ limit_when b) (sym some.1.raised) (omega (arith, some.1.lattice.n, few.nodes))

-- so many bytes take no more nodes
nodes-within : (shape : Shape) (n k : ℕ) → k ≤ n * shape.block → nodes_for shape k ≤ n
nodes-within shape n k few =
    let some = some_bytes shape in
    let e : (n + 1) * shape.block ≡ n * shape.block + shape.block = omega arith in
    let below : (k + shape.block - 1) / shape.block < n + 1 = (div-lt_iff_lt-mul {k = shape.block} {x = k + shape.block - 1} {y = n + 1} (omega (arith, some))).1 (omega (arith, e, few, some)) in
    omega (arith, below)

-- what the nodes that are left can hold fits
pub room_fits : RecordsAreFew → (v : Opened) (k : ℕ) → HasSomeRecords v → k ≤ room_left v → v.lattice.n + nodes_for v.shape k ≤ limit_when v.raised
room_fits law v k some few =
    let within = within_limit law v some in
    let nodes = nodes-within v.shape (limit_when v.raised - v.lattice.n) k few in
    omega (arith, within, nodes)

-- a block has no more bytes than the profile allows
block_few : (shape : Shape) → shape.block ≤ 65536
block_few shape = let h = shape.in_profile in grind (arith, nat_tests)

-- and is within what a lattice can have
pub room_within : (v : Opened) → room_left v ≤ (greatest_nodes - v.lattice.n) * v.shape.block
room_within v =
    let most = limit_most v.raised in
    let less : limit_when v.raised - v.lattice.n ≤ greatest_nodes - v.lattice.n = omega (arith, most) in
    mul-le-mul_right v.shape.block less

-- and is no great number
pub room_few : (v : Opened) → room_left v ≤ 68719476736
room_few v =
    let most = limit_most v.raised in
    let less : limit_when v.raised - v.lattice.n ≤ 1048576 = omega (arith, most) in
    let bytes : (limit_when v.raised - v.lattice.n) * v.shape.block ≤ 1048576 * v.shape.block = mul-le-mul_right v.shape.block less in
    let wide = block_few v.shape in
    omega (arith, bytes, wide)

-- ---- what getters of a ledger returned, as its value has it

-- what the getters of a ledger returned gives its space: the nodes that are left times the bytes of a block
pub limit_is : (v : Opened) (limit n from block from2 : ℕ) (l : Lattice) (shape : Shape) → limit ≡ limit_when v.raised → l ≡ v.lattice → n ≡ l.n → from ≡ limit - n → shape ≡ v.shape → block ≡ shape.block → from2 ≡ block → from * from2 ≡ room_left v
limit_is v limit n from block from2 l shape a b c d e f g =
    let one : from ≡ limit_when v.raised - v.lattice.n = omega (arith, d, a, c, ap (λ (m : Lattice). m.n) b) in
    let two : from2 ≡ v.shape.block = g ∙ f ∙ ap (λ (s : Shape). s.block) e in
    ap (λ (x : ℕ). x * from2) one ∙ ap (λ (x : ℕ). (limit_when v.raised - v.lattice.n) * x) two

-- cells that were written within the rows of every count of nodes that holds the old ones and the bytes left were
-- written within the limit of the ledger, whose shape and lattice these are
pub all_writes : RecordsAreFew → (reveals fault other : Type 0) (v : Opened) (shape : Shape) (l : Lattice) (limit : ℕ) (old new : State) → HasSomeRecords v → shape ≡ v.shape → l ≡ v.lattice → limit ≤ room_left v → (other → fault) → (fault → other)
    → ((nodes : ℕ) → l.n + nodes_for shape limit ≤ nodes → WritesCells reveals shape nodes (IsBlockIn shape l.n) fault old new)
    → WritesCells reveals v.shape (limit_when v.raised) (IsBlockIn v.shape v.lattice.n) other old new
all_writes law reveals fault other v shape l limit old new some same grid is so back writes =
    let one = subst (λ (s : Shape). (nodes : ℕ) → l.n + nodes_for s limit ≤ nodes → WritesCells reveals s nodes (IsBlockIn s l.n) fault old new) same writes in
    let two = subst (λ (k : Lattice). (nodes : ℕ) → k.n + nodes_for v.shape limit ≤ nodes → WritesCells reveals v.shape nodes (IsBlockIn v.shape k.n) fault old new) grid one in
    cells_as reveals fault other v.shape (limit_when v.raised) (IsBlockIn v.shape v.lattice.n) old new so back
    (two (limit_when v.raised) (room_fits law v limit some (omega (arith, is))))

-- the homes that are kept, with zeros past the ends, by a ledger's shape and lattice as its getters returned them
-- are kept by those of its value
pub all_padded : (v : Opened) (shape : Shape) (l : Lattice) (old new : Files) → shape ≡ v.shape → l ≡ v.lattice → KeepsPadded shape (IsBlockIn shape l.n) old new → KeepsPadded v.shape (IsBlockIn v.shape v.lattice.n) old new
all_padded v shape l old new same grid padded =
    subst (λ (k : Lattice). KeepsPadded v.shape (IsBlockIn v.shape k.n) old new) grid (subst (λ (s : Shape). KeepsPadded s (IsBlockIn s l.n) old new) same padded)

-- so many nodes hold the bytes
nodes-hold : (shape : Shape) (k : ℕ) → k ≤ nodes_for shape k * shape.block
nodes-hold shape k = let h = shape.in_profile in grind (arith, nat_tests)

-- what fits is within the space
pub fits_room : (v : Opened) (k : ℕ) → v.lattice.n + nodes_for v.shape k ≤ limit_when v.raised → k ≤ room_left v
fits_room v k fits =
    let less : nodes_for v.shape k ≤ limit_when v.raised - v.lattice.n = omega (arith, fits) in
    let bytes : nodes_for v.shape k * v.shape.block ≤ (limit_when v.raised - v.lattice.n) * v.shape.block = mul-le-mul_right v.shape.block less in
    let hold = nodes-hold v.shape k in
    omega (arith, bytes, hold)

-- ---- bytes that were taken of a source whose bytes are known

taken_some : (bytes xs : List ℕ) (rest : Option (List ℕ)) → Consumes (Some bytes) rest xs → length xs ≤ length bytes
taken_some bytes xs None none = absurd none
taken_some bytes xs (Some ys) is = omega (arith, ap length is, length-append xs ys)

-- what was taken of a source whose bytes are known is no longer than these
pub taken_long : (left : Option (List ℕ)) (bytes xs : List ℕ) (rest : Option (List ℕ)) → left ≡ Some bytes → Consumes left rest xs → length xs ≤ length bytes
taken_long left bytes xs rest is taken = taken_some bytes xs rest (subst (λ (l : Option (List ℕ)). Consumes l rest xs) is taken)

all_some : (bytes xs : List ℕ) (rest : Option (List ℕ)) → Consumes (Some bytes) rest xs → IsAtEnd rest → length xs ≡ length bytes
all_some bytes xs None none end = absurd none
all_some bytes xs (Some ys) is end = omega (arith, ap length is, length-append xs ys, ap length end)

-- what was taken of a source whose bytes are known, up to its end, is as long as these
pub all_long : (left : Option (List ℕ)) (bytes xs : List ℕ) (rest : Option (List ℕ)) → left ≡ Some bytes → Consumes left rest xs → IsAtEnd rest → length xs ≡ length bytes
all_long left bytes xs rest is taken end = all_some bytes xs rest (subst (λ (l : Option (List ℕ)). Consumes l rest xs) is taken) end

-- what is not less is at least as much
pub not_less : (a b : ℕ) → (a < b → ⊥) → b ≤ a
not_less a b not = omega (arith, not)

-- and what is not at most it is less
pub less_by : (a b : ℕ) → (b ≤ a → ⊥) → a < b
less_by a b not = omega (arith, not)
