-- What a disk takes while an archive is made.
use Rattle.std.proofs.Common.{◌≡◌, ⊎_elim, inl, inr, ◌≤◌, ℕ, List, [], ◌∷◌, length, take, get_or, refl, sym, ◌∙◌, ap, subst, arith}
use Rattle.aea_lattice.specs.declared.shape.Shape.{Shape}
use Rattle.aea_disk.specs.Files.{Torn, MayBeCut, overwritten}
use Rattle.aea_records.specs.Faults.{IsNoArchive}
use Rattle.aea_disk.specs.Steps.{length-overwritten, get_or-overwritten_before, overwritten_torn, torn_front}
use Rattle.aea_disk.specs.State.{State, KeepsTaking}
use Rattle.aea_ledger.specs.Taking.{TakesBehind, TakesThrough}
use Rattle.aea_disk.specs.Ends.{EndsAt, IsBare}
use Rattle.aea_ledger.specs.Stops.{empty_ledger}

-- bytes that were written to a file without any are no ledger, where they are few
pub bare_written : (old bytes : List ℕ) → old ≡ [] → length bytes ≤ 17 → IsBare (overwritten old 0 bytes)
bare_written old bytes empty few =
    let none : length old ≡ 0 = ap length empty in
    inl (omega (arith, length-overwritten old 0 bytes, none, few))

-- what is written past a closed gate leaves it closed
pub bare_behind : (old bytes : List ℕ) → old ≡ 0 ∷ [] → IsBare (overwritten old 1 bytes)
bare_behind old bytes begun =
    let size : length old ≡ 1 = ap length begun in
    inr (λ (is : get_or (overwritten old 1 bytes) 0 0 ≡ 1).
    let same = get_or-overwritten_before old 1 bytes 0 (omega arith) (omega (arith, size)) in
    let was : get_or old 0 0 ≡ 0 = ap (λ (l : List ℕ). get_or l 0 0) begun in
    absurd (omega (arith, is, same, was)))

-- the empty ledger ends at its one gate
pub empty_ends : (shape : Shape) → EndsAt (empty_ledger shape) 17
empty_ends shape =
    let size : length (empty_ledger shape) ≡ 18 = refl in
    let gate : get_or (empty_ledger shape) 17 0 ≡ 0 = refl in
    record { header = refl; records = 0; reaches = refl; there = omega (arith, size); shut = λ is. absurd (omega (arith, is, gate)) }

-- a file of one closed gate, and one whose first gate is closed, are no ledger
pub bare_begun : (old : List ℕ) → old ≡ 0 ∷ [] → IsBare old
bare_begun old begun = let size : length old ≡ 1 = ap length begun in inl (omega (arith, size))

pub bare_full : (rest old : List ℕ) → old ≡ 0 ∷ rest → IsBare old
bare_full rest old full = inr (λ (is : get_or old 0 0 ≡ 1). let was : get_or old 0 0 ≡ 0 = ap (λ (l : List ℕ). get_or l 0 0) full in absurd (omega (arith, is, was)))

-- what a cut and a write of one byte leave of a file without a ledger
pub cut_bare : (old new : List ℕ) → IsNoArchive old → MayBeCut 0 old new → IsNoArchive new
cut_bare old new none cut =
    ⊎_elim (λ (same : new ≡ old). subst IsNoArchive (sym same) none)
    (λ (gone : new ≡ []). let size : length new ≡ 0 = ap length gone in inl (omega (arith, size))) cut

pub torn_bare : (old new : List ℕ) → old ≡ [] → Torn 0 1 old new → IsNoArchive new
torn_bare old new empty torn =
    let size : length old ≡ 0 = ap length empty in
    let most = torn.no_longer in
    inl (omega (arith, size, most))

-- what is taken past a place is taken from there on, whatever was written past it
pub behind_torn : (old mid : State) (at place n : ℕ) → (b : TakesBehind old at) → at ≤ place → Torn place n (old.files 0) (mid.files 0) → KeepsTaking old mid → TakesBehind mid at
behind_torn old mid at place n b later torn goes =
    let same : take b.from (mid.files 0) ≡ take b.from (old.files 0) = torn_front place n (old.files 0) (mid.files 0) b.from (let k = b.before in omega (arith, k, later)) b.there torn in
    record {
      from = b.from;
      before = b.before;
      there = let k = torn.no_shorter in let l = b.there in omega (arith, k, l);
      behind = λ bytes long is. goes 0 bytes b.from (b.behind bytes long (is ∙ same));
    }

pub behind_more : (s : State) (at place : ℕ) → at ≤ place → TakesBehind s at → TakesBehind s place
behind_more s at place le b = record { from = b.from; before = let k = b.before in omega (arith, k, le); there = b.there; behind = b.behind }

-- and so is a write and a sync
pub behind_through : (s : State) (at : ℕ) (bytes : List ℕ) (later : (f : ℕ) (b : List ℕ) (m n : ℕ) → m ≤ n → s.takes f b m → s.takes f b n) → TakesBehind s at → TakesThrough s at bytes
behind_through s at bytes later b =
    let torn = overwritten_torn at bytes (s.files 0) in
    record {
      here = later 0 (s.files 0) b.from at b.before (b.behind (s.files 0) b.there refl);
      then = (b.from, b.behind (overwritten (s.files 0) at bytes) (let k = torn.no_shorter in let l = b.there in omega (arith, k, l)) (torn_front at (length bytes) (s.files 0) (overwritten (s.files 0) at bytes) b.from b.before b.there torn));
    }
