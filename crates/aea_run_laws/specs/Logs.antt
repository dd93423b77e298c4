-- These archives on a disk that lists its calls, of which all images are known.
use Rattle.std.specs.Prelude.{◌≡◌, ◌↔◌, ℕ}
use Rattle.aea_disk.specs.Files.{Files}
use Rattle.aea_disk.specs.Log.{Log}
use Rattle.aea_disk.specs.Logged.{IsLogged, log_state}
use Rattle.aea_disk.specs.State.{IsSynced}

-- A disk that lists its calls, which read so: it has images at its moment, and each of them has the files as they read.
pub record HasOneImage (c : Files) (g : Log) : Type 0 where
  pub logged : IsLogged g.spaces g.calls g.bytes
  pub files : (f : ℕ) → (log_state g).files f ≡ c f
  pub image : (x : Files) → (log_state g).image (log_state g).moment x ↔ ((f : ℕ) → x f ≡ c f)
  pub synced : IsSynced (log_state g)
