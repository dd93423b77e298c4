-- The disk that is lent to one that keeps copies up, while an archive is opened over that and copies are begun.
use Rattle.std.proofs.Common.{◌≡◌, inl, inr, ⊎_elim, ℕ, ◌<◌, ◌≤◌, sym, ◌∙◌, ap, arith}
use Rattle.std.proofs.lemmas.Bool.{cases_lt}
use Rattle.aea_disk.specs.Files.{Files, KeepsFiles}
use Rattle.aea_disk.specs.State.{State, Passes, Follows, During, KeepsImages, IsSynced}
use Rattle.aea_disk.proofs.Moments.{lasts_lent}
use Rattle.aea_ledger.specs.Stops.{HasOpening, StaysAll}
use Rattle.aea_mirror.specs.declared.tail.Tail.{Tail}
use Rattle.aea_mirror.specs.Guarding.{Guards}
use Rattle.aea_mirror.specs.Mirrored.{Kept, mirror_state, outer}
use Rattle.aea_mirror.specs.Shown.{AreAs}
use Rattle.aea_mirror.specs.States.{outer_near, shows_outer}
use Rattle.aea_mirror.proofs.Seeing.{guarded_as}

-- files that are shown alike are the same, but for the copies
pub shown_near : (c d : Files) → outer c ≡ outer d → (f : ℕ) → f ≤ 64 → c f ≡ d f
shown_near c d same f near = sym (outer_near c f near) ∙ ap (λ (e : Files). e f) same ∙ outer_near d f near

-- where nothing is pending on what is shown, calls over it that keep what is shown keep the ledger and the sites in each image
pub stays_over : (reveals : Type 0) (old new : State) (k l : Kept) → (reveals → IsSynced (mirror_state reveals old k)) → KeepsImages (mirror_state reveals old k) (mirror_state reveals new l) → reveals → During old new (KeepsFiles (λ f. f ≤ 64) old.files)
stays_over reveals old new k l synced keeps revealed t c from to here f near =
    let was = keeps t (outer c) from to (revealed, (c, here, shows_outer c)) in
    let same = synced revealed (outer c) was f in
    sym (outer_near c f near) ∙ same ∙ outer_near old.files f near

-- calls over it leave the copies as they are: good while copies are on, and not begun while they are not
pub copies_over : (reveals : Type 0) (old new : State) (k l : Kept) (end : ℕ) (first second : Tail) → (reveals → ∥ Guards old k.on end first second ∥₁) → Passes (mirror_state reveals old k) (mirror_state reveals new l) → reveals → During old new (AreAs k.on)
copies_over reveals old new k l end first second guards time revealed t c from to here =
    (lasts_lent _ _ time.lasts).holds (λ d there revealed_. guarded_as old k.on end first second (guards revealed) d there) t c from to here revealed

-- calls over the disk itself, after calls over what is shown of it
pub during_over : (reveals : Type 0) (old mid new : State) (k j : Kept) (P : Files → Type 0) → Passes (mirror_state reveals old k) (mirror_state reveals mid j) → Passes mid new → During old mid P → During mid new P → During old new P
during_over reveals old mid new k j P first second early late t c from to here =
    ⊎_elim
    (λ (before : t < mid.moment). early t c from (omega (arith, before)) ((second.keeps t c (omega (arith, before))).0 here))
    (λ (after : mid.moment ≤ t). late t c after to here)
    (cases_lt t mid.moment)

-- which keep the ledger and the sites
pub near_over : (reveals : Type 0) (old mid new : State) (k j : Kept) → Passes (mirror_state reveals old k) (mirror_state reveals mid j) → Passes mid new → During old mid (KeepsFiles (λ f. f ≤ 64) old.files) → Follows (KeepsFiles (λ f. f ≤ 64)) mid new
    → During old new (KeepsFiles (λ f. f ≤ 64) old.files)
near_over reveals old mid new k j first second early follows =
    during_over reveals old mid new k j (KeepsFiles (λ f. f ≤ 64) old.files) first second early
    (λ t c from to here f near.
    let was = follows t c from to here in
    let later = first.later in
    was.2 f near ∙ early mid.moment was.0 later (omega arith) was.1 f near)

-- what is shown of both together
pub images_over : (reveals : Type 0) (old mid new : State) (k j l : Kept) → Passes (mirror_state reveals old k) (mirror_state reveals mid j) → Passes mid new → KeepsImages (mirror_state reveals old k) (mirror_state reveals mid j) → KeepsImages (mirror_state reveals mid j) (mirror_state reveals new l)
    → KeepsImages (mirror_state reveals old k) (mirror_state reveals new l)
images_over reveals old mid new k j l first second early late t c from to here =
    let later = first.later in
    ⊎_elim
    (λ (before : t < mid.moment). early t c from (omega (arith, before)) (here.0, (here.1.0, (second.keeps t here.1.0 (omega (arith, before))).0 here.1.1, here.1.2)))
    (λ (after : mid.moment ≤ t). early mid.moment c later (omega arith) (late t c after to here))
    (cases_lt t mid.moment)

-- the first sync of the first has succeeded
pub opening_over : (reveals : Type 0) (old mid new : State) (k j l : Kept) → Passes (mirror_state reveals old k) (mirror_state reveals mid j) → Passes mid new → KeepsImages (mirror_state reveals mid j) (mirror_state reveals new l)
    → HasOpening (mirror_state reveals old k) (mirror_state reveals mid j) (StaysAll (outer old.files)) → HasOpening (mirror_state reveals old k) (mirror_state reveals new l) (StaysAll (outer old.files))
opening_over reveals old mid new k j l first second late (inl keeps) = inl (images_over reveals old mid new k j l first second keeps late)
opening_over reveals old mid new k j l first second late (inr opened) =
    let to = opened.to in
    let later = second.later in
    inr (record {
      moment = opened.moment;
      from = opened.from;
      to = omega (arith, to, later);
      before = λ t c from upto here. opened.before t c from upto (back t c (omega (arith, upto, to)) here);
      sure = λ c here. opened.sure c (back opened.moment c to here);
      later = λ t c from upto here. ⊎_elim
          (λ (before : t < mid.moment). opened.later t c from (omega (arith, before)) (back t c (omega (arith, before)) here))
          (λ (after : mid.moment ≤ t). opened.later mid.moment c to (omega arith) (late t c after upto here))
          (cases_lt t mid.moment);
    })
  where
    back : (t : ℕ) (c : Files) → t ≤ mid.moment → (mirror_state reveals new l).image t c → (mirror_state reveals mid j).image t c
    back t c early here = (here.0, (here.1.0, (second.keeps t here.1.0 early).0 here.1.1, here.1.2))
