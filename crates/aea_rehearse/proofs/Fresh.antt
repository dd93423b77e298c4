-- A disk that is made with the space of a rehearsal has it.
use Rattle.std.proofs.Common.{◌≡◌, ℕ, ◌≤◌, arith}
use Rattle.std.proofs.lemmas.Bool.Decides.{nat_tests}
use Rattle.aea_disk.specs.Spaces.{room_for}

-- each of its ten sites has the space of a site: what a caller of `rehearse` shows of the disk that it makes
pub fresh_site : (ledger site f : ℕ) → 1 ≤ f → f ≤ 10 → room_for 10 ledger site f ≡ site
fresh_site ledger site f first last = grind (arith, nat_tests)
