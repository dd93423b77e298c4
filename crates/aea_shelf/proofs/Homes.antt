-- Homes of two blocks are apart, and what a write at one leaves of the other.
use Rattle.std.proofs.Common.{◌≡◌, ◌≢◌, ◌⊎◌, ⊎_elim, inl, inr, ℕ, min, ◌+◌, ◌-◌, ◌*◌, ◌/◌, ◌%◌, ◌^◌, ◌<◌, ◌≤◌, List, ◌++◌, length, take, drop, replicate, get_or, refl, sym, ◌∙◌, ap, subst, arith, length-append, length-take, length-drop}
use Rattle.std.proofs.lemmas.Bool.{cases_eq, cases_lt}
use Rattle.std.proofs.lemmas.Nat.{div-mul-add, mul-le, mul-add-lt, le-div}
use Rattle.std.proofs.Math.Nat.{mod-lt, mul-le-mul_right, div-mul-le_self}
use Rattle.std.proofs.lemmas.List.{length-replicate, get_or-take, get_or-drop, get_or-replicate, get_or-append_right, get_or_append_left, get_or_past, ext_get_or}
use Rattle.std.proofs.lemmas.Bool.Decides.{nat_tests}
use Rattle.aea_lattice.specs.declared.blocks.Class.{Class}
use Rattle.aea_lattice.specs.declared.blocks.Class.TheVariants.{Datum, Horiz, Right, Left}
use Rattle.aea_lattice.specs.declared.blocks.BlockId.{BlockId}
use Rattle.aea_lattice.specs.declared.shape.Shape.{Shape}
use Rattle.aea_lattice.specs.Blocks.{class_number, block_of}
use Rattle.aea_lattice.specs.Shapes.{IsBlockOf, number_in}
use Rattle.aea_place.specs.Facts.{RowsGoOverSites}
use Rattle.aea_disk.specs.Files.{Files, ChangesFile, Torn, Holds, overwritten}
use Rattle.aea_disk.specs.Steps.{get_or-overwritten_before, get_or-overwritten_gap, get_or-overwritten_after}
use Rattle.aea_disk.proofs.Moments.{range_kept}
use Rattle.aea_shelf.specs.Places.{cell_size, rows_of, site_bytes, home_file, home_place}
use Rattle.aea_shelf.specs.Writes.{KeepsHomes, KeepsPadded}

-- an archive has a site, and its blocks at most 65,536 bytes
pub some_sites : (shape : Shape) → 1 ≤ shape.sites
some_sites shape = let h = shape.in_profile in grind (arith, nat_tests)

pub few_sites : (shape : Shape) → shape.sites ≤ 64
few_sites shape = let h = shape.in_profile in grind (arith, nat_tests)

-- the file of a home is one of its sites'
pub home_on_sites : (shape : Shape) (b : BlockId) → (1 ≤ home_file shape b) × (home_file shape b ≤ shape.sites)
home_on_sites shape b =
    let number = number_in shape b in
    (omega arith, omega (arith, mod-lt (number % shape.sites + number / shape.sites) {m = shape.sites} (some_sites shape)))

-- a block of an archive has at most 65,536 bytes
pub few_bytes : (shape : Shape) → shape.block ≤ 65536
few_bytes shape = let h = shape.in_profile in grind (arith, nat_tests)

-- the end of a cell, by its row and the bytes of a block
pub place_below : (r block n : ℕ) → r ≤ n → n < 2 ^ 22 → block ≤ 65536 → r * (block + 48) + (block + 48) ≤ 2 ^ 40
place_below r block n row few small = omega (arith, mul-le r (block + 48) 4194304 65584 (omega (arith, row, few)) (omega (arith, small)), small)

-- a class is known by its number
one_class : (c d : Class) → class_number c ≡ class_number d → c ≡ d
one_class Datum Datum same = refl
one_class Horiz Horiz same = refl
one_class Right Right same = refl
one_class Left Left same = refl
one_class c d same = absurd (omega arith)

-- two numbers in mixed base are the same
same_digits : (w x y c d : ℕ) → c < w → d < w → x * w + c ≡ y * w + d → (x ≡ y) × (c ≡ d)
same_digits w x y c d c_below d_below same =
    let high : x ≡ y = sym (div-mul-add x w c c_below) ∙ ap (λ (n : ℕ). n / w) same ∙ div-mul-add y w d d_below in
    let whole : y * w + c ≡ y * w + d = subst (λ (n : ℕ). n * w + c ≡ y * w + d) high same in
    (high, omega (arith, whole))

-- a block is known by its number
pub number_equal : (shape : Shape) (a b : BlockId) → IsBlockOf shape a → IsBlockOf shape b → number_in shape a ≡ number_in shape b → a ≡ b
number_equal shape a b has_a has_b same =
    let below_a : class_number a.class < 1 + shape.alpha = omega (arith, has_a.used) in
    let below_b : class_number b.class < 1 + shape.alpha = omega (arith, has_b.used) in
    let parts = same_digits (1 + shape.alpha) (a.node - 1) (b.node - 1) (class_number a.class) (class_number b.class) below_a below_b same in
    let node : a.node ≡ b.node = omega (arith, parts.0, has_a.first, has_b.first) in
    let class : a.class ≡ b.class = one_class a.class b.class parts.1 in
    ap (λ i. block_of i a.class) node ∙ ap (block_of b.node) class

-- cells of two rows are apart
rows_apart : (w r q : ℕ) → r ≢ q → (r * w + w ≤ q * w) ⊎ (q * w + w ≤ r * w)
rows_apart w r q other =
    ⊎_elim
    (λ below. inl (let more : (r + 1) * w ≤ q * w = mul-le-mul_right w (omega (arith, below)) in omega (arith, more)))
    (λ above. inr (let more : (q + 1) * w ≤ r * w = mul-le-mul_right w (omega (arith, above, other)) in omega (arith, more)))
    (cases_lt r q)

-- the homes of two blocks have no byte in common
pub homes_apart : RowsGoOverSites → (shape : Shape) (a b : BlockId) → 1 ≤ shape.sites → IsBlockOf shape a → IsBlockOf shape b → a ≢ b → home_file shape a ≡ home_file shape b
    → (home_place shape a + cell_size shape ≤ home_place shape b) ⊎ (home_place shape b + cell_size shape ≤ home_place shape a)
homes_apart rows shape a b some has_a has_b other same =
    rows_apart (cell_size shape) (number_in shape a / shape.sites) (number_in shape b / shape.sites)
    (λ row. other (number_equal shape a b has_a has_b (rows shape.sites (number_in shape a) (number_in shape b) some row same)))

-- a change of one home keeps the others
pub keeps_homes : RowsGoOverSites → (shape : Shape) (b : BlockId) (old new : Files) → 1 ≤ shape.sites → IsBlockOf shape b
    → ChangesFile (home_file shape b) (Torn (home_place shape b) (cell_size shape)) old new → KeepsHomes shape (λ a. a ≢ b) old new
keeps_homes rows shape b old new some has_b changes a bytes has_a other short here =
    range_kept (home_file shape b) (home_place shape b) (cell_size shape) old new (home_file shape a) (home_place shape a) bytes changes
    (λ same. ⊎_elim
    (λ before. inl (omega (arith, before, short)))
    (λ after. inr after)
    (homes_apart rows shape a b some has_a has_b other same))
    here

-- a range with zeros past the end of the list, byte by byte
get_or-padded : (n at : ℕ) (xs : List ℕ) (k : ℕ) → k < n → get_or (take n (take n (drop at xs) ++ replicate n 0)) k 0 ≡ get_or xs (at + k) 0
get_or-padded n at xs k below =
    let part = take n (drop at xs) in
    let long : length part ≡ min n (length xs - at) = omega (arith, length-take n (drop at xs), length-drop at xs) in
    get_or-take n (part ++ replicate n 0) k 0 below
    ∙ ⊎_elim
    (λ within. get_or_append_left part (replicate n 0) 0 k within ∙ get_or-take n (drop at xs) k 0 below ∙ get_or-drop at xs k 0)
    (λ past.
    get_or-append_right part (replicate n 0) (length part) k 0 refl past ∙ get_or-replicate n (k - length part) 0 0 (omega (arith, below))
    ∙ sym (get_or_past xs (at + k) 0 (omega (arith, long, below, past))))
    (cases_lt k (length part))

length-padded : (n at : ℕ) (xs : List ℕ) → length (take n (take n (drop at xs) ++ replicate n 0)) ≡ n
length-padded n at xs = omega (arith, length-take n (take n (drop at xs) ++ replicate n 0), length-append (take n (drop at xs)) (replicate n 0), length-replicate {A = ℕ} n 0)

-- a byte that the write doesn't meet, where those past the end are zeros
get_or-apart : (old : List ℕ) (at : ℕ) (bytes : List ℕ) (k : ℕ) → (k < at) ⊎ (at + length bytes ≤ k) → get_or (overwritten old at bytes) k 0 ≡ get_or old k 0
get_or-apart old at bytes k (inl before) =
    ⊎_elim
    (λ within. get_or-overwritten_before old at bytes k before within)
    (λ past. get_or-overwritten_gap old at bytes k before past ∙ sym (get_or_past old k 0 past))
    (cases_lt k (length old))
get_or-apart old at bytes k (inr after) = get_or-overwritten_after old at bytes k after

-- a range that a write doesn't meet is as before, where the bytes past the end are zeros
padded_apart : (n a at : ℕ) (old bytes : List ℕ) → (a + n ≤ at) ⊎ (at + length bytes ≤ a)
    → take n (take n (drop a (overwritten old at bytes)) ++ replicate n 0) ≡ take n (take n (drop a old) ++ replicate n 0)
padded_apart n a at old bytes apart =
    ext_get_or 0 _ _ (length-padded n a (overwritten old at bytes) ∙ sym (length-padded n a old))
    (λ k within.
    let below : k < n = omega (arith, within, length-padded n a (overwritten old at bytes)) in
    get_or-padded n a (overwritten old at bytes) k below
    ∙ get_or-apart old at bytes (a + k) (⊎_elim (λ before. inl (omega (arith, before, below))) (λ after. inr (omega (arith, after))) apart)
    ∙ sym (get_or-padded n a old k below))

-- a write at one home leaves the others as they read with zeros past the ends
pub keeps_padded : RowsGoOverSites → (shape : Shape) (b : BlockId) (bytes : List ℕ) (old new : Files) → 1 ≤ shape.sites → IsBlockOf shape b → length bytes ≡ cell_size shape
    → ChangesFile (home_file shape b) (Holds (home_place shape b) bytes) old new → KeepsPadded shape (λ a. a ≢ b) old new
keeps_padded rows shape b bytes old new some has_b size changes a has_a other =
    ⊎_elim
    (λ same.
    let here : new (home_file shape a) ≡ overwritten (old (home_file shape a)) (home_place shape b) bytes =
    subst (λ (f : ℕ). new f ≡ overwritten (old f) (home_place shape b) bytes) (sym same) changes.here in
    ap (λ (xs : List ℕ). take (cell_size shape) (take (cell_size shape) (drop (home_place shape a) xs) ++ replicate (cell_size shape) 0)) here
    ∙ padded_apart (cell_size shape) (home_place shape a) (home_place shape b) (old (home_file shape a)) bytes
    (⊎_elim (λ before. inl before) (λ after. inr (omega (arith, after, size))) (homes_apart rows shape a b some has_a has_b other same)))
    (λ apart. ap (λ (xs : List ℕ). take (cell_size shape) (take (cell_size shape) (drop (home_place shape a) xs) ++ replicate (cell_size shape) 0)) (changes.others (home_file shape a) apart))
    (cases_eq (home_file shape a) (home_file shape b))

-- a number below a bound is in one of the rows that the bound gives
row_below : (k n m : ℕ) → 1 ≤ m → k < n → k / m + 1 ≤ (n + m - 1) / m
row_below k n m some below =
    let whole : k / m * m ≤ k = div-mul-le_self k m in
    le-div (k / m + 1) (n + m - 1) m (omega (arith, some)) (omega (arith, whole, below, some))

-- the number of a block is below that of all blocks
number_below : (alpha class node most : ℕ) → 1 ≤ node → node ≤ most → class ≤ alpha → (node - 1) * (1 + alpha) + class < (1 + alpha) * most
number_below alpha class node most first last used = mul-add-lt (node - 1) (1 + alpha) class most (omega (arith, first, last)) (omega (arith, used))

-- a home ends within the rows of so many nodes, where the block's node is one of them
pub home_in_rows : (shape : Shape) (n : ℕ) (b : BlockId) → IsBlockOf shape b → b.node ≤ n → home_place shape b + cell_size shape ≤ site_bytes shape n
home_in_rows shape n b has_b last =
    let below = number_below shape.alpha (class_number b.class) b.node n has_b.first last has_b.used in
    let row = row_below (number_in shape b) ((1 + shape.alpha) * n) shape.sites (some_sites shape) below in
    let more : (number_in shape b / shape.sites + 1) * cell_size shape ≤ rows_of shape n * cell_size shape = mul-le-mul_right (cell_size shape) row in
    omega (arith, more)

-- more nodes have no fewer rows
pub rows_more : (shape : Shape) (n m : ℕ) → n ≤ m → site_bytes shape n ≤ site_bytes shape m
rows_more shape n m more =
    let blocks : (1 + shape.alpha) * n ≤ (1 + shape.alpha) * m = mul-le (1 + shape.alpha) n (1 + shape.alpha) m (omega arith) more in
    let rows : rows_of shape n ≤ rows_of shape m =
    let whole : rows_of shape n * shape.sites ≤ (1 + shape.alpha) * n + shape.sites - 1 = div-mul-le_self ((1 + shape.alpha) * n + shape.sites - 1) shape.sites in
    le-div (rows_of shape n) ((1 + shape.alpha) * m + shape.sites - 1) shape.sites (omega (arith, some_sites shape)) (omega (arith, whole, blocks)) in
    mul-le-mul_right (cell_size shape) rows
