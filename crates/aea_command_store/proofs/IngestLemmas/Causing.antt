-- Why the frame that a run stopped at was not stored, as the causes of its refusals say it.
use Rattle.std.proofs.Common.{◌≡◌, ◌≢◌, ◌⊎◌, inl, inr, ⊎_elim, ℕ, suc, ◌+◌, ◌<◌, ◌≤◌, List, length, All, refl, sym, ◌∙◌, ap, subst, arith, None}
use Rattle.std.specs.FinMap.{get, len}
use Rattle.aea_lattice.specs.declared.blocks.BlockId.{BlockId}
use Rattle.aea_lattice.specs.declared.shape.Shape.{Shape}
use Rattle.aea_disk.specs.Files.{Files}
use Rattle.aea_catalog.specs.Names.{IsName}
use Rattle.aea_records.specs.Format.{Record, stored_of, nodes_for, limit_when}
use Rattle.aea_records.specs.Laws.{ObjectsAreCounted, NewNamesAreFree}
use Rattle.aea_ledger.specs.Values.{Opened, HasRecords}
use Rattle.aea_archive.specs.Next.{NewObject}
use Rattle.aea_append.specs.Causes.{MayEnter}
use Rattle.aea_append.specs.Frames.{HasHead, HasNoName, HasBadName, HasEntry, FitsFrame, IsTooLong, EndsInHead, EndsInside, frame_name, object_length, frame_length}
use Rattle.aea_command.specs.declared.refusal.Refusal.{Refusal}
use Rattle.aea_command.specs.declared.refusal.Refusal.TheVariants.{NoArchive, LedgerBad, BadName, NameTaken, CatalogFull, HeadDamaged, Full, BadStream}
use Rattle.aea_command.specs.Causes.{place_of}
use Rattle.aea_command_store.specs.Ingest.{Filled, filled_by, MayHaveName, HasPlace, FitsLimit, FrameCauses}
use Rattle.aea_command_store.proofs.IngestLemmas.Filling.{of_objects, of_names, names_long, HasNoFrame}
use Rattle.aea_command_store.proofs.IngestLemmas.Parsing.{BeginsWithFrame, begins_with_frame}

-- ---- an opened ledger, as it is filled

module _ (count : ObjectsAreCounted) (free : NewNamesAreFree) (w : Opened) (records : List Record) (has : HasRecords w records) where
  abbrev now : Filled
  now = filled_by records

  pub names_are_free : (name : List ℕ) → All (λ n. n ≢ name) (filled_by records).names → get w.objects name ≡ None
  names_are_free name all = ap (λ m. get m name) has.objects ∙ (free records name).0 (of_objects (λ n. n ≢ name) (stored_of records) all)

  pub free_are_new : (name : List ℕ) → get w.objects name ≡ None → All (λ n. n ≢ name) (filled_by records).names
  free_are_new name none = of_names (λ n. n ≢ name) (stored_of records) ((free records name).1 (sym (ap (λ m. get m name) has.objects) ∙ none))

  pub as_many : len w.objects ≡ length (filled_by records).names
  as_many = ap len has.objects ∙ count w.shape records has.valid ∙ sym (names_long (stored_of records))

  pub enters : (name : List ℕ) → MayHaveName (filled_by records) name → MayEnter w name
  enters name may = record { named = may.named; free = names_are_free name may.new; few = λ most. may.few (sym as_many ∙ most) }

  pub entered : (name : List ℕ) → MayEnter w name → MayHaveName (filled_by records) name
  entered name may = record { named = may.named; new = free_are_new name may.free; few = λ most. may.few (as_many ∙ most) }

  pub place_of_entry : (stream : List ℕ) → HasEntry w stream → HasPlace (filled_by records) stream
  place_of_entry stream entry = record { head = entry.head; name = entered (frame_name stream) entry.enters }

  pub entry_of_place : (stream : List ℕ) → HasPlace (filled_by records) stream → HasEntry w stream
  entry_of_place stream place = record { head = place.head; enters = enters (frame_name stream) place.name }

  pub limit_is : limit_when w.raised ≡ (filled_by records).limit
  limit_is = ap limit_when has.raised

  pub too_long : (stream : List ℕ) → IsTooLong w stream → (filled_by records).limit < (filled_by records).nodes + nodes_for w.shape (object_length stream)
  too_long stream past = omega (arith, past, limit_is, has.lattice.n)

  pub is_too_long : (stream : List ℕ) → (filled_by records).limit < (filled_by records).nodes + nodes_for w.shape (object_length stream) → IsTooLong w stream
  is_too_long stream past = omega (arith, past, limit_is, has.lattice.n)

  pub fits_limit : (stream : List ℕ) → FitsFrame w stream → FitsLimit w.shape (filled_by records) stream
  fits_limit stream fits = omega (arith, fits, limit_is, has.lattice.n)

  pub fits_frame : (stream : List ℕ) → FitsLimit w.shape (filled_by records) stream → FitsFrame w stream
  fits_frame stream fits = omega (arith, fits, limit_is, has.lattice.n)

  pub inside : (stream : List ℕ) → EndsInside w stream → EndsInHead stream ⊎ (HasPlace (filled_by records) stream × FitsLimit w.shape (filled_by records) stream × (length stream < frame_length stream))
  inside stream ends = ⊎_elim (λ head. inl head) (λ bytes. inr (place_of_entry stream bytes.0, fits_limit stream bytes.1, bytes.2)) ends

  pub ends_inside : (stream : List ℕ) → EndsInHead stream ⊎ (HasPlace (filled_by records) stream × FitsLimit w.shape (filled_by records) stream × (length stream < frame_length stream)) → EndsInside w stream
  ends_inside stream ends = ⊎_elim (λ head. inl head) (λ bytes. inr (entry_of_place stream bytes.0, fits_frame stream bytes.1, bytes.2)) ends

-- ---- the causes exclude each other

-- a length that is none of a name is not the head of a frame
no_name_no_head : (stream : List ℕ) → HasNoName stream → HasHead stream → ⊥
no_name_no_head stream none head = ⊎_elim (λ zero. (let l = head.name.least in omega (arith, zero, l))) (λ past. (let m = head.name.most in omega (arith, past, m))) none.none

bad_not_named : (stream : List ℕ) → HasBadName stream → HasHead stream → IsName (frame_name stream) → ⊥
bad_not_named stream bad head named = ⊎_elim (λ none. no_name_no_head stream none head) (λ other. other.1 named) bad

-- a stream that ends in its head has none
in_head_no_head : (stream : List ℕ) → EndsInHead stream → HasHead stream → ⊥
in_head_no_head stream ends head = ⊎_elim (λ one. (let t = head.there in omega (arith, one, t))) (λ cut. (let t = head.there in let c = cut.1 in omega (arith, t, c))) ends

in_head_not_bad : (stream : List ℕ) → EndsInHead stream → HasBadName stream → ⊥
in_head_not_bad stream ends bad = ⊎_elim
    (λ none. ⊎_elim
    (λ one. (let t = none.there in omega (arith, one, t)))
    (λ cut. ⊎_elim (λ zero. (let l = cut.0.least in omega (arith, zero, l))) (λ past. (let m = cut.0.most in omega (arith, past, m))) none.none)
    ends)
    (λ other. in_head_no_head stream ends other.0)
    bad

module _ (shape : Shape) (f : Filled) (files : Files) (long : ℕ) (before : List NewObject) (stream : List ℕ) where
  abbrev cause : Refusal → Type 0
  cause = FrameCauses shape f files long before stream

  -- before each of them there is none that comes earlier, but for a damaged last parity
  pub none_before_bad : (other : Refusal) → place_of other < place_of BadName → cause other → ⊥
  none_before_bad NoArchive earlier is = is
  none_before_bad (LedgerBad at) earlier is = is
  none_before_bad BadName earlier is = omega arith
  none_before_bad NameTaken earlier is = omega arith
  none_before_bad CatalogFull earlier is = omega arith
  none_before_bad (HeadDamaged b) earlier is = omega arith
  none_before_bad (Full n) earlier is = omega arith
  none_before_bad (BadStream n) earlier is = omega arith
  none_before_bad other earlier is = is

  pub none_before_taken : HasHead stream → IsName (frame_name stream) → (other : Refusal) → place_of other < place_of NameTaken → cause other → ⊥
  none_before_taken head named NoArchive earlier is = is
  none_before_taken head named (LedgerBad at) earlier is = is
  none_before_taken head named BadName earlier is = bad_not_named stream is head named
  none_before_taken head named NameTaken earlier is = omega arith
  none_before_taken head named CatalogFull earlier is = omega arith
  none_before_taken head named (HeadDamaged b) earlier is = omega arith
  none_before_taken head named (Full n) earlier is = omega arith
  none_before_taken head named (BadStream n) earlier is = omega arith
  none_before_taken head named other earlier is = is

  pub none_before_many : HasHead stream → IsName (frame_name stream) → All (λ n. n ≢ frame_name stream) f.names → (other : Refusal) → place_of other < place_of CatalogFull → cause other → ⊥
  none_before_many head named new NoArchive earlier is = is
  none_before_many head named new (LedgerBad at) earlier is = is
  none_before_many head named new BadName earlier is = bad_not_named stream is head named
  none_before_many head named new NameTaken earlier is = is.2 new
  none_before_many head named new CatalogFull earlier is = omega arith
  none_before_many head named new (HeadDamaged b) earlier is = omega arith
  none_before_many head named new (Full n) earlier is = omega arith
  none_before_many head named new (BadStream n) earlier is = omega arith
  none_before_many head named new other earlier is = is

  pub none_before_place : HasPlace f stream → (other : Refusal) → place_of other < suc (place_of CatalogFull) → cause other → ⊥
  none_before_place place NoArchive earlier is = is
  none_before_place place (LedgerBad at) earlier is = is
  none_before_place place BadName earlier is = bad_not_named stream is place.head place.name.named
  none_before_place place NameTaken earlier is = is.2 place.name.new
  none_before_place place CatalogFull earlier is = place.name.few is.3
  none_before_place place (HeadDamaged b) earlier is = omega arith
  none_before_place place (Full n) earlier is = omega arith
  none_before_place place (BadStream n) earlier is = omega arith
  none_before_place place other earlier is = is

  -- where the last parities are intact, none before an object that is too long, or cut
  pub none_before_length : HasPlace f stream → ((b : BlockId) → cause (HeadDamaged b) → ⊥) → (other : Refusal) → place_of other < place_of (Full 0) → cause other → ⊥
  none_before_length place intact NoArchive earlier is = is
  none_before_length place intact (LedgerBad at) earlier is = is
  none_before_length place intact BadName earlier is = bad_not_named stream is place.head place.name.named
  none_before_length place intact NameTaken earlier is = is.2 place.name.new
  none_before_length place intact CatalogFull earlier is = place.name.few is.3
  none_before_length place intact (HeadDamaged b) earlier is = intact b is
  none_before_length place intact (Full n) earlier is = omega arith
  none_before_length place intact (BadStream n) earlier is = omega arith
  none_before_length place intact other earlier is = is

  pub none_before_cut : EndsInHead stream → (other : Refusal) → place_of other < place_of (Full 0) → cause other → ⊥
  none_before_cut ends NoArchive earlier is = is
  none_before_cut ends (LedgerBad at) earlier is = is
  none_before_cut ends BadName earlier is = in_head_not_bad stream ends is
  none_before_cut ends NameTaken earlier is = in_head_no_head stream ends is.0
  none_before_cut ends CatalogFull earlier is = in_head_no_head stream ends is.0
  none_before_cut ends (HeadDamaged b) earlier is = in_head_no_head stream ends is.1.head
  none_before_cut ends (Full n) earlier is = omega arith
  none_before_cut ends (BadStream n) earlier is = omega arith
  none_before_cut ends other earlier is = is

  -- where a frame begins whose object may be stored, no reason for refusal holds, but for a damaged last parity
  pub no_cause : (name_long : (name : List ℕ) → IsName name → (1 ≤ length name) × (length name ≤ 255)) (why : Refusal) → ((b : BlockId) → why ≢ HeadDamaged b) → cause why → HasNoFrame shape f stream
  no_cause name_long why apart is o rest begins may =
      let lengths = name_long o.name may.name.named in
      let has = begins_with_frame o rest stream lengths.0 lengths.1 may.size begins in
      let named : IsName (frame_name stream) = subst IsName (sym has.name) may.name.named in
      let new : All (λ n. n ≢ frame_name stream) f.names = subst (λ (m : List ℕ). All (λ n. n ≢ m) f.names) (sym has.name) may.name.new in
      against why apart is has named new
    where
      against : (why : Refusal) → ((b : BlockId) → why ≢ HeadDamaged b) → cause why → BeginsWithFrame o rest stream → IsName (frame_name stream) → All (λ n. n ≢ frame_name stream) f.names → ⊥
      against NoArchive apart is has named new = is
      against (LedgerBad at) apart is has named new = is
      against BadName apart is has named new = bad_not_named stream is has.head named
      against NameTaken apart is has named new = is.2 new
      against CatalogFull apart is has named new = may.name.few is.3
      against (HeadDamaged b) apart is has named new = apart b refl
      against (Full n) apart is has named new = (let past = is.2 in let fits = may.fits in omega (arith, past, fits, ap (nodes_for shape) has.size))
      against (BadStream n) apart is has named new = ⊎_elim (λ ends. in_head_no_head stream ends has.head) (λ cut. (let short = cut.2 in let l = has.long in omega (arith, short, l))) is.1
      against other apart is has named new = is
