use Rattle.std.proofs.Common.{◌≡◌, ◌+◌, ℕ, List, [], ◌∷◌, ◌++◌, length, take, ◌∙◌, ap, subst, arith, length-append}
use Rattle.std.specs.Prelude.{IsErr}
use Rattle.aea_disk.specs.Files.{ChangesFile, Torn}
use Rattle.aea_disk.specs.Frames.{OnlyWrites}
use Rattle.aea_disk.proofs.Frames.{writes_wider}
use Rattle.aea_ledger.specs.Stops.{closed}
use Rattle.aea_ledger.specs.Taking.{TakesBehind, TakesThrough, FitsThrough}
use Rattle.aea_ledger.proofs.Takings.{behind_through}
use Rattle.aea_ledger.proofs.entry.write_short.Goals as goal

pub returns-clause-writes : goal.returns-clause-writes
returns-clause-writes g c =
    let reveals = g.D.Disk.reveals in
    let first = g.D.Disk.state c.args.disk.now in
    let second = g.D.Disk.state c.write_through.new.disk in
    let at = c.args.at in
    let behind = closed c.args.front.now c.args.rest.now in
    let size : length (closed c.args.front.now c.args.rest.now) ≡ length c.args.front.now + (length c.args.rest.now + 1) = omega (arith, length-append c.args.front.now (c.args.rest.now ++ 0 ∷ []), length-append c.args.rest.now (0 ∷ [])) in
    let same : take (length c.args.front.now + length c.args.rest.now + 1) c.joined-bytes.result ≡ closed c.args.front.now c.args.rest.now =
    ap (λ (n : ℕ). take n c.joined-bytes.result) (let e : length c.args.front.now + length c.args.rest.now + 1 ≡ length c.args.front.now + (length c.args.rest.now + 1) = omega arith in e) ∙ c.joined-bytes.ensures in
    let step = ChangesFile 0 (Torn at (length c.args.front.now + (length c.args.rest.now + 1))) in
    writes_wider reveals (TakesThrough first at behind) (FitsThrough first at behind) (TakesBehind first at) (FitsThrough first at behind) (IsErr c.write_through.result) step step first second
    (λ a b is. is)
    (λ revealed is. behind_through first at behind (g.met.D.Disk.later_taken c.args.disk.now) is)
    (λ revealed fit. fit)
    (subst (λ (n : ℕ). OnlyWrites reveals (TakesThrough first at behind) (FitsThrough first at behind) (IsErr c.write_through.result) (ChangesFile 0 (Torn at n)) first second) size
    (subst (λ (l : List ℕ). OnlyWrites reveals (TakesThrough first at l) (FitsThrough first at l) (IsErr c.write_through.result) (ChangesFile 0 (Torn at (length l))) first second) same c.write_through.ensures.writes))
