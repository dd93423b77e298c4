-- How the shelf goes on from call to call: the lemmas by which a client composes its reads and writes of cells, and its
-- other calls of the disk. Each takes the states before, between and after the calls.
use Rattle.std.proofs.Common.{◌≡◌, ◌≢◌, ⊎_elim, ℕ, ◌<◌, ◌≤◌, List, ◌++◌, length, take, drop, replicate, refl, sym, ◌∙◌, ap, subst, arith}
use Rattle.std.proofs.lemmas.Bool.{cases_lt}
use Rattle.aea_lattice.specs.declared.blocks.BlockId.{BlockId}
use Rattle.aea_lattice.specs.declared.shape.Shape.{Shape}
use Rattle.aea_lattice.specs.Shapes.{IsBlockOf}
use Rattle.aea_disk.specs.Files.{Files}
use Rattle.aea_disk.specs.State.{State, Passes, KeepsImages, KeepsOthers, EveryImage, During, IsSynced}
use Rattle.aea_shelf.specs.Places.{cell_size, home_file, home_place, home_bytes, HasAtHome}
use Rattle.aea_shelf.specs.Intact.{IsIntact, IsBlockHeld}
use Rattle.aea_shelf.specs.Writes.{KeepsHomes, KeepsPadded, KeepsShelf}
use Rattle.aea_shelf.proofs.Homes.{home_on_sites}
use Rattle.aea_shelf.proofs.Cells.{length-home, at_home, at_intact, keeps_intact}

-- files of which those with the homes are the same
homes_same : (shape : Shape) (keep : BlockId → Type 0) (old new : Files) → ((a : BlockId) → keep a → new (home_file shape a) ≡ old (home_file shape a)) → KeepsHomes shape keep old new
homes_same shape keep old new same a bytes has_a kept short here =
    subst (λ (xs : List ℕ). take (length bytes) (drop (home_place shape a) xs) ≡ bytes) (sym (same a kept)) here

homes_both : (shape : Shape) (keep : BlockId → Type 0) (old mid new : Files) → KeepsHomes shape keep old mid → KeepsHomes shape keep mid new → KeepsHomes shape keep old new
homes_both shape keep old mid new first second a bytes has_a kept short here = second a bytes has_a kept short (first a bytes has_a kept short here)

homes_less : (shape : Shape) (keep less : BlockId → Type 0) (old new : Files) → ((a : BlockId) → less a → keep a) → KeepsHomes shape keep old new → KeepsHomes shape less old new
homes_less shape keep less old new fewer keeps a bytes has_a kept short here = keeps a bytes has_a (fewer a kept) short here

-- a shelf from what it says of the homes
shelf_of : (reveals : Type 0) (shape : Shape) (keep : BlockId → Type 0) (old new : State) → (reveals → KeepsHomes shape keep old.files new.files)
    → ((t : ℕ) (c : Files) → old.moment ≤ t → t ≤ new.moment → new.image t c → (d : Files) × old.image old.moment d × KeepsHomes shape keep d c) → KeepsShelf reveals shape keep old new
shelf_of reveals shape keep old new reads images = record {
  homes = reads;
  intact = λ revealed. keeps_intact shape keep old.files new.files (reads revealed);
  images = λ t c from to here. let was = images t c from to here in (was.0, was.1, was.2, keeps_intact shape keep was.0 c was.2);
}

-- before the first call
pub shelf_none : (reveals : Type 0) (shape : Shape) (keep : BlockId → Type 0) (s : State) → KeepsShelf reveals shape keep s s
shelf_none reveals shape keep s =
    shelf_of reveals shape keep s s (λ revealed. homes_same shape keep s.files s.files (λ a kept. refl))
    (λ t c from to here. let is : t ≡ s.moment = omega arith in (c, subst (λ (m : ℕ). s.image m c) is here, homes_same shape keep c c (λ a kept. refl)))

-- two runs, one after the other
pub shelf_both : (reveals : Type 0) (shape : Shape) (keep : BlockId → Type 0) (old mid new : State) → Passes old mid → Passes mid new → KeepsShelf reveals shape keep old mid → KeepsShelf reveals shape keep mid new → KeepsShelf reveals shape keep old new
shelf_both reveals shape keep old mid new first second early late =
    shelf_of reveals shape keep old new (λ revealed. homes_both shape keep old.files mid.files new.files (early.homes revealed) (late.homes revealed))
    (λ t c from to here.
    ⊎_elim
    (λ before. let was = early.images t c from (omega arith) ((second.keeps t c (omega arith)).0 here) in (was.0, was.1, was.2))
    (λ after.
    let one = late.images t c (omega arith) to here in
    let two = early.images mid.moment one.0 first.later (omega arith) one.1 in
    (two.0, two.1, homes_both shape keep two.0 one.0 c two.2 one.2))
    (cases_lt t mid.moment))

-- fewer blocks that are to stay
pub shelf_less : (reveals : Type 0) (shape : Shape) (keep less : BlockId → Type 0) (old new : State) → ((a : BlockId) → less a → keep a) → KeepsShelf reveals shape keep old new → KeepsShelf reveals shape less old new
shelf_less reveals shape keep less old new fewer shelf =
    shelf_of reveals shape less old new (λ revealed. homes_less shape keep less old.files new.files fewer (shelf.homes revealed))
    (λ t c from to here. let was = shelf.images t c from to here in (was.0, was.1, homes_less shape keep less was.0 c fewer was.2))

-- a call that keeps the images, as a read of a cell or a sync
pub shelf_kept : (reveals : Type 0) (shape : Shape) (keep : BlockId → Type 0) (old new : State) → KeepsImages old new → (reveals → new.files ≡ old.files) → KeepsShelf reveals shape keep old new
shelf_kept reveals shape keep old new keeps same =
    shelf_of reveals shape keep old new (λ revealed. homes_same shape keep old.files new.files (λ a kept. ap (λ (c : Files). c (home_file shape a)) (same revealed)))
    (λ t c from to here. (c, keeps t c from to here, homes_same shape keep c c (λ a kept. refl)))

-- calls on one file that has none of the homes, as the ledger
pub shelf_others : (reveals : Type 0) (shape : Shape) (keep : BlockId → Type 0) (file : ℕ) (old new : State) → ((a : BlockId) → keep a → home_file shape a ≢ file) → KeepsOthers reveals file old new → KeepsShelf reveals shape keep old new
shelf_others reveals shape keep file old new apart others =
    shelf_of reveals shape keep old new (λ revealed. homes_same shape keep old.files new.files (λ a kept. others.reads revealed (home_file shape a) (apart a kept)))
    (λ t c from to here. let was = others.images t c from to here in (was.0, was.1, homes_same shape keep was.0 c (λ a kept. was.2 (home_file shape a) (apart a kept))))

-- no home is in the ledger's file
pub no_home_in_ledger : (shape : Shape) (a : BlockId) → home_file shape a ≢ 0
no_home_in_ledger shape a same = omega (arith, same)

-- nor in a file past those of the sites
pub no_home_outside : (shape : Shape) (a : BlockId) (file : ℕ) → shape.sites < file → home_file shape a ≢ file
no_home_outside shape a file past same = omega (arith, same, past, (home_on_sites shape a).1)

-- what every image had at a home that stays, every image of every moment has
pub during_shelf : (reveals : Type 0) (shape : Shape) (keep : BlockId → Type 0) (old new : State) (a : BlockId) (bytes : List ℕ) → IsBlockOf shape a → keep a → length bytes ≤ cell_size shape → KeepsShelf reveals shape keep old new
    → EveryImage old (HasAtHome shape a bytes) → During old new (HasAtHome shape a bytes)
during_shelf reveals shape keep old new a bytes has_a kept short shelf held t c from to here =
    let was = shelf.images t c from to here in was.2 a bytes has_a kept short (held was.0 was.1)

-- a block that is held and stays is held
pub held_by_shelf : (reveals : Type 0) (shape : Shape) (keep : BlockId → Type 0) (old new : State) (a : BlockId) (recorded : List ℕ) → reveals → IsBlockOf shape a → keep a → old.moment ≤ new.moment → KeepsShelf reveals shape keep old new
    → IsBlockHeld shape a recorded old → IsBlockHeld shape a recorded new
held_by_shelf reveals shape keep old new a recorded revealed has_a kept later shelf held =
    let bytes = home_bytes shape a old.files in
    let size : length (home_bytes shape a old.files) ≡ cell_size shape = length-home shape a old.files held.intact.within in
    let short : length (home_bytes shape a old.files) ≤ cell_size shape = omega (arith, size) in
    let reads = at_home shape a (home_bytes shape a old.files) new.files size (shelf.homes revealed a (home_bytes shape a old.files) has_a kept short (at_intact shape a recorded old.files held.intact)) in
    record {
      intact = shelf.intact revealed a recorded has_a kept held.intact;
      images = λ c here. subst (λ (xs : List ℕ). HasAtHome shape a xs c) (sym reads.0) (during_shelf reveals shape keep old new a (home_bytes shape a old.files) has_a kept short shelf held.images new.moment c later (omega arith) here);
    }

-- after a sync each intact block is held
pub synced_held : (shape : Shape) (b : BlockId) (recorded : List ℕ) (s : State) → IsSynced s → IsIntact shape b recorded s.files → IsBlockHeld shape b recorded s
synced_held shape b recorded s synced intact = record {
  intact = intact;
  images = λ c here. subst (λ (xs : List ℕ). take (length (home_bytes shape b s.files)) (drop (home_place shape b) xs) ≡ home_bytes shape b s.files) (sym (synced c here (home_file shape b))) (at_intact shape b recorded s.files intact);
}

-- no call, as the homes read with zeros past the ends
pub padded_none : (shape : Shape) (keep : BlockId → Type 0) (c : Files) → KeepsPadded shape keep c c
padded_none shape keep c a has_a kept = refl

-- fewer blocks that are to stay
pub padded_less : (shape : Shape) (keep less : BlockId → Type 0) (old new : Files) → ((a : BlockId) → less a → keep a) → KeepsPadded shape keep old new → KeepsPadded shape less old new
padded_less shape keep less old new fewer keeps a has_a kept = keeps a has_a (fewer a kept)

-- calls that leave the files with the homes, as a read, a sync, and calls on a file without a home
pub padded_same : (shape : Shape) (keep : BlockId → Type 0) (old new : Files) → ((a : BlockId) → keep a → new (home_file shape a) ≡ old (home_file shape a)) → KeepsPadded shape keep old new
padded_same shape keep old new same a has_a kept =
    ap (λ (xs : List ℕ). take (cell_size shape) (take (cell_size shape) (drop (home_place shape a) xs) ++ replicate (cell_size shape) 0)) (same a kept)

-- a call that leaves all files
pub padded_kept : (shape : Shape) (keep : BlockId → Type 0) (old new : Files) → new ≡ old → KeepsPadded shape keep old new
padded_kept shape keep old new same = padded_same shape keep old new (λ a kept. ap (λ (c : Files). c (home_file shape a)) same)

-- calls on one file that has none of the homes, as the ledger
pub padded_others : (shape : Shape) (keep : BlockId → Type 0) (file : ℕ) (old new : Files) → ((a : BlockId) → keep a → home_file shape a ≢ file) → ((f : ℕ) → f ≢ file → new f ≡ old f) → KeepsPadded shape keep old new
padded_others shape keep file old new apart others = padded_same shape keep old new (λ a kept. others (home_file shape a) (apart a kept))

-- writes of several cells, as the homes read with zeros past the ends
pub padded_both : (shape : Shape) (keep : BlockId → Type 0) (old mid new : Files) → KeepsPadded shape keep old mid → KeepsPadded shape keep mid new → KeepsPadded shape keep old new
padded_both shape keep old mid new first second a has_a kept = second a has_a kept ∙ first a has_a kept
