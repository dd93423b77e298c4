-- A disk in memory with given files.
use Rattle.std.proofs.Common.{◌≡◌, ⊎_elim, ℕ, zero, suc, ◌+◌, ◌<◌, ◌≤◌, List, [], ◌∷◌, length, refl, sym, ◌∙◌, ap, arith}
use Rattle.std.specs.Prelude.{slice_index_or}
use Rattle.std.proofs.lemmas.Bool.{cases_lt}
use Rattle.aea_disk.specs.Files.{Files}
use Rattle.aea_disk.specs.Space.{Extent, empty_extent}
use Rattle.aea_disk.specs.Spaces.{Memory}
use Rattle.aea_run_laws.specs.Meeting.{HasFiles}

-- a file with space
abbrev extent : Files → ℕ → ℕ → Extent
extent c room f = record { bytes = c f; room = room }

-- so many files from this one on
abbrev spaces_from : ℕ → ℕ → Files → ℕ → List Extent
spaces_from zero first c room = []
spaces_from (suc n) first c room = extent c room first ∷ spaces_from n (suc first) c room

spaces_long : (n first : ℕ) (c : Files) (room : ℕ) → length (spaces_from n first c room) ≡ n
spaces_long zero first c room = refl
spaces_long (suc n) first c room = ap suc (spaces_long n (suc first) c room)

space_is : (n first k : ℕ) (c : Files) (room : ℕ) → k < n → slice_index_or (spaces_from n first c room) k empty_extent ≡ extent c room (first + k)
space_is zero first k c room below = absurd (omega (arith, below))
space_is (suc n) first zero c room below = ap (extent c room) (let same : first ≡ first + 0 = omega arith in same)
space_is (suc n) first (suc k) c room below =
    space_is n (suc first) k c room (omega (arith, below)) ∙ ap (extent c room) (let same : suc first + k ≡ first + suc k = omega arith in same)

space_past : (n first k : ℕ) (c : Files) (room : ℕ) → n ≤ k → slice_index_or (spaces_from n first c room) k empty_extent ≡ empty_extent
space_past zero first k c room past = refl
space_past (suc n) first zero c room past = absurd (omega (arith, past))
space_past (suc n) first (suc k) c room past = space_past n (suc first) k c room (omega (arith, past))

pub memory_with : Files → ℕ → Memory
memory_with c room = record { spaces = spaces_from 67 0 c room; faults = 0 }

pub has_all_files : (c : Files) (room : ℕ) → ((f : ℕ) → 66 < f → c f ≡ []) → HasFiles c room (memory_with c room)
unfolding memory_with
has_all_files c room bare = record {
  count = spaces_long 67 0 c room;
  files = λ f.
      ⊎_elim
      (λ (far : 66 < f). ap (λ (e : Extent). e.bytes) (space_past 67 0 f c room (omega (arith, far))) ∙ sym (bare f (omega (arith, far))))
      (λ (near : f ≤ 66). ap (λ (e : Extent). e.bytes) (space_is 67 0 f c room (omega (arith, near))) ∙ ap c (let same : 0 + f ≡ f = omega arith in same))
      (cases_lt 66 f);
  rooms = λ f near. ap (λ (e : Extent). e.room) (space_is 67 0 f c room near);
  steady = refl;
}

pub has_files : (c : Files) (room : ℕ) → ((f : ℕ) → 64 < f → c f ≡ []) → HasFiles c room (memory_with c room)
has_files c room bare = has_all_files c room (λ f far. bare f (omega (arith, far)))
