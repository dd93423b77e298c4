-- Both copies are extended, one after the other.
use Rattle.std.proofs.Common.{◌≡◌, ⊎_elim, inl, inr, ℕ, ◌+◌, ◌<◌, ◌≤◌, ◌==◌, false, List, length, get_or, refl, sym, ap, ◌∙◌, subst, arith}
use Rattle.std.proofs.lemmas.Bool.{cases_lt}
use Rattle.aea_disk.specs.Ends.{greatest_place}
use Rattle.aea_disk.specs.Files.{ChangesOnly, KeepsFiles}
use Rattle.aea_disk.specs.Frames.{OnlyWrites}
use Rattle.aea_disk.specs.State.{State, Passes, During, IsSynced}
use Rattle.aea_disk.proofs.Frames.{reads_none, writes_wider, writes_both}
use Rattle.aea_records.specs.Format.{open_gate}
use Rattle.aea_copies.specs.Format.{chain}
use Rattle.aea_copy_writer.specs.Entries.{HasPieces, FitsEntries}
use Rattle.aea_mirror.specs.declared.tail.Tail.{Tail}
use Rattle.aea_mirror.specs.Extending.{IsShut, IsGated, Extends, IsGateOf, Phase, HasEntries, EndsAfter, FitsBoth, HasExtended, FitsExtending}
use Rattle.aea_mirror.proofs.Phases.{phase_reads, phase_extends}

-- where nothing is pending, a copy with a closed gate has nothing pending
pub gated_here : (s : State) (file gate : ℕ) → IsSynced s → IsShut gate (s.files file) → IsGated s file gate
gated_here s file gate synced shut = record { fixed = λ c here. synced c here file; closed = shut }

-- the phase in which the first copy is extended
pub phase_one : (reveals taken fits fault : Type 0) (first second : ℕ) (s n : State) → reveals → IsSynced s → ((f g : ℕ) → IsGateOf first second f g → IsShut g (s.files f))
    → Extends 65 first s n → OnlyWrites reveals taken fits fault (ChangesOnly 65) s n → Phase first second s n
phase_one reveals taken fits fault first second s n revealed synced shut extends writes =
    phase_extends reveals taken fits fault first second 65 first s s n revealed
    (phase_reads reveals ⊥ first second s s revealed synced (λ f g of. (shut f g of).there) (reads_none reveals ⊥ s (λ none. none))) synced (inl (refl, refl)) extends writes

pub phase_two : (reveals taken fits fault : Type 0) (first second : ℕ) (s m n : State) → reveals → Phase first second s m → IsSynced m → Extends 66 second m n → OnlyWrites reveals taken fits fault (ChangesOnly 66) m n → Phase first second s n
phase_two reveals taken fits fault first second s m n revealed early synced extends writes = phase_extends reveals taken fits fault first second 66 second s m n revealed early synced (inr (refl, refl)) extends writes

-- while the first is extended, the entries follow its gate where that is open; that of the second is closed
pub bodies_one : (reveals taken fits fault : Type 0) (first second : Tail) (more : List (List ℕ)) (s n : State) → IsSynced s → ((f g : ℕ) → IsGateOf first.gate second.gate f g → IsShut g (s.files f))
    → OnlyWrites reveals taken fits fault (ChangesOnly 65) s n → During s n (λ c. get_or (c 65) first.gate 0 ≡ open_gate → HasEntries first.gate first.link more (c 65))
    → During s n (λ c. (f g : ℕ) → IsGateOf first.gate second.gate f g → get_or (c f) g 0 ≡ open_gate → HasEntries g first.link more (c f))
bodies_one reveals taken fits fault first second more s n synced shut writes body t c from to here f g of opened =
    ⊎_elim
    (λ (a : (f ≡ 65) × (g ≡ first.gate)).
    subst (λ (x : ℕ). HasEntries g first.link more (c x)) (sym a.0) (subst (λ (y : ℕ). HasEntries y first.link more (c 65)) (sym a.1)
    (body t c from to here (ap (λ (y : ℕ). get_or (c 65) y 0) (sym a.1) ∙ ap (λ (x : ℕ). get_or (c x) g 0) (sym a.0) ∙ opened))))
    (λ (b : (f ≡ 66) × (g ≡ second.gate)).
    let was = writes.crash t c from to here in
    let same : c f ≡ s.files f = was.2 f (λ is. omega (arith, is, b.0)) ∙ synced was.0 was.1 f in
    absurd ((shut f g of).shut (ap (λ (l : List ℕ). get_or l g 0) (sym same) ∙ opened)))
    of

-- while the second is, the first has its entries
pub bodies_two : (reveals taken fits fault : Type 0) (first second : Tail) (more : List (List ℕ)) (s m n : State) → second.link ≡ first.link → Passes s m
    → During s m (λ c. (f g : ℕ) → IsGateOf first.gate second.gate f g → get_or (c f) g 0 ≡ open_gate → HasEntries g first.link more (c f))
    → IsSynced m → HasEntries first.gate first.link more (m.files 65)
    → OnlyWrites reveals taken fits fault (ChangesOnly 66) m n → During m n (λ c. get_or (c 66) second.gate 0 ≡ open_gate → HasEntries second.gate second.link more (c 66))
    → During s n (λ c. (f g : ℕ) → IsGateOf first.gate second.gate f g → get_or (c f) g 0 ≡ open_gate → HasEntries g first.link more (c f))
bodies_two reveals taken fits fault first second more s m n links time early synced has writes body t c from to here f g of opened =
    ⊎_elim
    (λ (before : t < m.moment). early t c from (omega (arith, before)) ((writes.time.keeps t c (omega (arith, before))).0 here) f g of opened)
    (λ (after : m.moment ≤ t).
    ⊎_elim
    (λ (a : (f ≡ 65) × (g ≡ first.gate)).
    let was = writes.crash t c after to here in
    let same : c f ≡ m.files 65 = was.2 f (λ is. omega (arith, is, a.0)) ∙ synced was.0 was.1 f ∙ ap m.files a.0 in
    subst (λ (l : List ℕ). HasEntries g first.link more l) (sym same) (subst (λ (y : ℕ). HasEntries y first.link more (m.files 65)) (sym a.1) has))
    (λ (b : (f ≡ 66) × (g ≡ second.gate)).
    let own = body t c after to here (ap (λ (y : ℕ). get_or (c 66) y 0) (sym b.1) ∙ ap (λ (x : ℕ). get_or (c x) g 0) (sym b.0) ∙ opened) in
    subst (λ (x : ℕ). HasEntries g first.link more (c x)) (sym b.0) (subst (λ (y : ℕ). HasEntries y first.link more (c 66)) (sym b.1) (subst (λ (l : List ℕ). HasEntries second.gate l more (c 66)) links own)))
    of)
    (cases_lt t m.moment)

-- the second is extended by the same pieces
pub fits_second : (first second : Tail) (more : List (List ℕ)) (from until : ℕ) (old new : List ℕ) → new ≡ old → FitsBoth first second more from until old
    → HasPieces false more from until new × (second.gate + length (chain second.link more) ≤ greatest_place)
fits_second first second more from until old new same fits = (
  subst (HasPieces false more from until) (sym same) fits.has,
  subst (λ (l : List ℕ). second.gate + length (chain l more) ≤ greatest_place) (sym fits.links) (omega (arith, fits.fits, fits.gates)),
)

-- what both have then
pub both_extended : (reveals taken fits fault : Type 0) (first second one two : Tail) (more : List (List ℕ)) (s m n : State) → reveals → second.link ≡ first.link → EndsAfter first one more → EndsAfter second two more
    → (get_or (m.files 65) first.gate 0 ≡ open_gate) × HasEntries first.gate first.link more (m.files 65)
    → (get_or (n.files 66) second.gate 0 ≡ open_gate) × HasEntries second.gate second.link more (n.files 66)
    → OnlyWrites reveals taken fits fault (ChangesOnly 66) m n → HasExtended first second one two more n.files
both_extended reveals taken fits fault first second one two more s m n revealed links ends others opened last writes = record {
  one = ends;
  two = others;
  opened = λ f g of.
      ⊎_elim
      (λ (a : (f ≡ 65) × (g ≡ first.gate)).
      let same : n.files f ≡ m.files 65 = writes.contents revealed f (λ is. omega (arith, is, a.0)) ∙ ap m.files a.0 in (
        ap (λ (l : List ℕ). get_or l g 0) same ∙ ap (λ (y : ℕ). get_or (m.files 65) y 0) a.1 ∙ opened.0,
        subst (λ (l : List ℕ). HasEntries g first.link more l) (sym same) (subst (λ (y : ℕ). HasEntries y first.link more (m.files 65)) (sym a.1) opened.1),
      ))
      (λ (b : (f ≡ 66) × (g ≡ second.gate)). (
        ap (λ (x : ℕ). get_or (n.files x) g 0) b.0 ∙ ap (λ (y : ℕ). get_or (n.files 66) y 0) b.1 ∙ last.0,
        subst (λ (x : ℕ). HasEntries g first.link more (n.files x)) (sym b.0) (subst (λ (y : ℕ). HasEntries y first.link more (n.files 66)) (sym b.1) (subst (λ (l : List ℕ). HasEntries second.gate l more (n.files 66)) links last.1)),
      ))
      of;
}

-- a change of a copy alone changes no ledger and no site
pub copy_only : (reveals taken fits fault : Type 0) (file : ℕ) (s n : State) → 64 < file → OnlyWrites reveals taken fits fault (ChangesOnly file) s n → OnlyWrites reveals taken fits fault (KeepsFiles (λ f. f ≤ 64)) s n
copy_only reveals taken fits fault file s n far writes =
    writes_wider reveals taken fits taken fits fault (ChangesOnly file) (KeepsFiles (λ f. f ≤ 64)) s n (λ c d changes f near. changes f (λ is. omega (arith, is, near, far))) (λ revealed is. is) (λ revealed fit. fit) writes

pub writes_one_copy : (reveals fault : Type 0) (first second : Tail) (from until : ℕ) (s n : State) → OnlyWrites reveals s.free (FitsEntries s 65 first.gate first.link from until) fault (ChangesOnly 65) s n
    → OnlyWrites reveals s.free (FitsExtending s first second from until) fault (KeepsFiles (λ f. f ≤ 64)) s n
writes_one_copy reveals fault first second from until s n writes =
    writes_wider reveals s.free (FitsEntries s 65 first.gate first.link from until) s.free (FitsExtending s first second from until) fault (KeepsFiles (λ f. f ≤ 64)) (KeepsFiles (λ f. f ≤ 64)) s n
    (λ c d keeps. keeps) (λ revealed is. is) (λ revealed fit. fit.one) (copy_only reveals s.free (FitsEntries s 65 first.gate first.link from until) fault 65 s n (omega arith) writes)

pub writes_two_copies : (reveals fault late : Type 0) (first second : Tail) (from until : ℕ) (s m n : State) → (fault → ⊥)
    → OnlyWrites reveals s.free (FitsEntries s 65 first.gate first.link from until) fault (ChangesOnly 65) s m
    → OnlyWrites reveals m.free (FitsEntries m 66 second.gate second.link from until) late (ChangesOnly 66) m n
    → OnlyWrites reveals s.free (FitsExtending s first second from until) late (KeepsFiles (λ f. f ≤ 64)) s n
writes_two_copies reveals fault late first second from until s m n fine early late_writes =
    writes_both reveals s.free s.free m.free (FitsExtending s first second from until) (FitsExtending s first second from until) (FitsEntries m 66 second.gate second.link from until) fault late
    (KeepsFiles (λ f. f ≤ 64)) (KeepsFiles (λ f. f ≤ 64)) (KeepsFiles (λ f. f ≤ 64)) s m n fine
    (λ c d keeps. keeps) (λ c d e one two f near. two f near ∙ one f near)
    (λ revealed free. free) (λ revealed free step takes. early.time.free free)
    (λ revealed fit. fit)
    (λ revealed fit step passes. later fit.two (step 0 (omega arith)) passes)
    (writes_one_copy reveals fault first second from until s m early)
    (copy_only reveals m.free (FitsEntries m 66 second.gate second.link from until) late 66 m n (omega arith) late_writes)
  where
    later : FitsEntries s 66 second.gate second.link from until → m.files 0 ≡ s.files 0 → Passes s m → FitsEntries m 66 second.gate second.link from until
    later fit same passes = record {
      pieces = fit.pieces;
      has = subst (HasPieces (from == 0) fit.pieces from until) (sym same) fit.has;
      change = record {
        room = passes.room 66 _ fit.change.room;
        sync = λ c changes. passes.syncs (c 0) (subst s.keeps (sym (changes 0 (λ is. omega (arith, is)) ∙ same)) (fit.change.sync s.files (λ f other. refl)));
      };
    }
