-- The laws of a Mirror's state that the trait of a disk asks for, and what it shows of the files.
use Rattle.std.proofs.Common.{◌≡◌, ◌≢◌, ◌⊎◌, inl, inr, ⊎_elim, ◌<◌, ◌≤◌, ℕ, Bool, false, if◌then◌else◌, nat_le, List, [], length, get_or, refl, sym, ◌∙◌, ap, subst, arith}
use Rattle.std.proofs.lemmas.Bool.{cases_lt}
use Rattle.std.proofs.lemmas.Bool.Decides.{nat_tests}
use Rattle.aea_disk.specs.Files.{Files}
use Rattle.aea_disk.specs.Ends.{EndsAt, IsBare}
use Rattle.aea_disk.specs.State.{State}
use Rattle.aea_mirror.specs.Shown.{Shows}
use Rattle.aea_mirror.specs.Mirrored.{Kept, Takes, HasCopyRoom, Keeps, mirror_state, outer}
use Rattle.aea_mirror.specs.Ending.{ends_once, reaches_le}

-- a file of the ledger or of a site is shown as it is, and one of the copies empty
pub outer_near : (c : Files) (f : ℕ) → f ≤ 64 → outer c f ≡ c f
outer_near c f near = grind (arith, nat_tests)

pub outer_far : (c : Files) (f : ℕ) → 64 < f → outer c f ≡ []
outer_far c f far = grind (arith, nat_tests)

pub outer_same : (c d : Files) (f : ℕ) → c f ≡ d f → outer c f ≡ outer d f
outer_same c d f same = ap (λ (l : List ℕ). if nat_le f 64 then l else []) same

-- what is shown of two files with the same ledger and sites is the same
pub outer_all : (c d : Files) → ((f : ℕ) → f ≤ 64 → c f ≡ d f) → outer c ≡ outer d
outer_all c d same = λ i f. (at f) i
  where
    at : (f : ℕ) → outer c f ≡ outer d f
    at f = ⊎_elim
        (λ (far : 64 < f). outer_far c f far ∙ sym (outer_far d f far))
        (λ (near : f ≤ 64). outer_near c f near ∙ same f near ∙ sym (outer_near d f near))
        (cases_lt 64 f)

-- files are shown as they read
pub shows_outer : (c : Files) → Shows c (outer c)
shows_outer c = record { sites = λ f some near. outer_near c f near; copies = λ f far. outer_far c f (omega (arith, far)); ledger = inl refl }

pub shown_as_read : (reveals : Type 0) (s : State) (kept : Kept) → ((t : ℕ) (c : Files) → reveals → s.image t c → s.image s.moment s.files)
    → (t : ℕ) (c : Files) → (mirror_state reveals s kept).image t c → (mirror_state reveals s kept).image s.moment (outer s.files)
shown_as_read reveals s kept law t c here = (here.0, (s.files, law t here.1.0 here.0 here.1.1, shows_outer s.files))

pub takes_later : (reveals : Type 0) (s : State) (kept : Kept) (f : ℕ) (b : List ℕ) (m n : ℕ) → m ≤ n → Takes reveals s kept f b m → Takes reveals s kept f b n
takes_later reveals s kept f b m n le has = record {
  revealed = has.revealed;
  sound = has.sound;
  near = has.near;
  allowed =
      ⊎_elim (λ (off : kept.on ≡ false). inl off)
      (λ (rest : IsBare b ⊎ ((last : ℕ) × EndsAt b last × (f ≡ 0 → last ≤ m))).
      inr (⊎_elim (λ (bare : IsBare b). inl bare) (λ (some : (last : ℕ) × EndsAt b last × (f ≡ 0 → last ≤ m)). inr (some.0, some.1, λ is. let before = some.2 is in omega (arith, before, le))) rest)) has.allowed;
}

pub takes_sites : (reveals : Type 0) (s : State) (kept : Kept) (f : ℕ) (b : List ℕ) (m n : ℕ) → 1 ≤ f → f ≤ 64 → Takes reveals s kept 0 b m → Takes reveals s kept f b n
takes_sites reveals s kept f b m n some near has = record {
  revealed = has.revealed;
  sound = has.sound;
  near = near;
  allowed =
      ⊎_elim (λ (off : kept.on ≡ false). inl off)
      (λ (rest : IsBare b ⊎ ((last : ℕ) × EndsAt b last × (0 ≡ 0 → last ≤ m))).
      inr (⊎_elim (λ (bare : IsBare b). inl bare) (λ (ends : (last : ℕ) × EndsAt b last × (0 ≡ 0 → last ≤ m)). inr (ends.0, ends.1, λ (is : f ≡ 0). absurd (omega (arith, is, some)))) rest)) has.allowed;
}

pub takes_ended : (reveals : Type 0) (s : State) (kept : Kept) (b c : List ℕ) (m n : ℕ) → EndsAt c n → Takes reveals s kept 0 b m → Takes reveals s kept 0 c n
takes_ended reveals s kept b c m n ends has = record { revealed = has.revealed; sound = has.sound; near = has.near; allowed = inr (inr (n, ends, λ is. omega arith)) }

pub takes_bare : (reveals : Type 0) (s : State) (kept : Kept) (b c : List ℕ) (m : ℕ) → IsBare c → Takes reveals s kept 0 b m → Takes reveals s kept 0 c 0
takes_bare reveals s kept b c m bare has = record { revealed = has.revealed; sound = has.sound; near = has.near; allowed = inr (inl bare) }

-- what a sync needs is decided by the length of the text and the number of its records
pub keeps_alike : (s : State) (on : Bool) → ((b c : List ℕ) (n : ℕ) (one : EndsAt b n) (two : EndsAt c n) → one.records ≡ two.records → s.keeps b → s.keeps c)
    → (b c : List ℕ) (n : ℕ) (one : EndsAt b n) (two : EndsAt c n) → one.records ≡ two.records → Keeps s on b → Keeps s on c
keeps_alike s on alike b c n one two same has = (
  has.0,
  alike b c n one two same has.1,
  ⊎_elim
      (λ (off : on ≡ false). inl off)
      (λ (some : (last : ℕ) × (ends : EndsAt b last) × HasCopyRoom s ends.records last).
      let once = ends_once b some.0 n some.1 one in
      inr (n, two, subst (λ (k : ℕ). HasCopyRoom s k n) (once.0 ∙ same) (subst (HasCopyRoom s some.1.records) once.1 some.2)))
      has.2,
)

-- a file without a ledger has no records that end
pub bare_never_ends : (b : List ℕ) (n : ℕ) → IsBare b → EndsAt b n → ⊥
bare_never_ends b n bare ends =
    ⊎_elim
    (λ (short : length b < 18). let from = reaches_le b 0 ends.records 17 n ends.reaches in let there = ends.there in omega (arith, short, from, there))
    (λ (shut : get_or b 0 0 ≢ 1). shut ends.header)
    bare

pub keeps_bare : (s : State) (on : Bool) → ((b c : List ℕ) → IsBare b → IsBare c → s.keeps b → s.keeps c) → (b c : List ℕ) → IsBare b → IsBare c → Keeps s on b → Keeps s on c
keeps_bare s on bare b c one two has = (
  has.0,
  bare b c one two has.1,
  ⊎_elim
      (λ (off : on ≡ false). inl off)
      (λ (some : (last : ℕ) × (ends : EndsAt b last) × HasCopyRoom s ends.records last). absurd (bare_never_ends b some.0 one some.1))
      has.2,
)
