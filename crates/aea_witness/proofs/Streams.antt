-- The stream of the witness: the whole frame that it begins with, and the cut one after it.
use Rattle.std.proofs.Common.{◌≡◌, ◌≢◌, ◌⊎◌, inl, inr, ℕ, ◌+◌, ◌*◌, ◌<◌, ◌≤◌, max, Bool, true, false, List, [], ◌∷◌, ◌++◌, length, length-append, append_assoc, Option, Some, None, Result, Ok, Err, refl, sym, ◌∙◌, ap, subst, arith}
use Rattle.std.specs.Prelude.{OnOk}
use Rattle.std.specs.declared.alloc.AllocError.{AllocError}
use Rattle.std.proofs.lemmas.Bool.{false≢true}
use Rattle.std.specs.Int.{w16, w64, to_be_bytes}
use Rattle.std.specs.Io.KnownBytes.{Consumes, IsAtEnd}
use Rattle.aea_io.specs.Taken.{Counts}
use Rattle.aea_disk.specs.Files.{Files}
use Rattle.aea_disk.specs.State.{State}
use Rattle.aea_shelf.specs.Writes.{KeepsHomes}
use Rattle.aea_catalog.specs.Names.{IsName}
use Rattle.aea_records.specs.Format.{nodes_for, limit_when}
use Rattle.aea_records.specs.Laws.{DigestsAreCounted}
use Rattle.aea_ledger.specs.Values.{Opened}
use Rattle.aea_archive.specs.Blocks.{IsBlockIn}
use Rattle.aea_archive.specs.Next.{NewObject}
use Rattle.aea_append.specs.declared.ingest.Ingest.{Ingest}
use Rattle.aea_append.specs.declared.ingest.Ingest.TheVariants as ingest
use Rattle.aea_append.specs.declared.ingest.IngestFault.{IngestFault}
use Rattle.aea_append.specs.declared.ingest.IngestFault.TheVariants.{BadName, NameTaken, CatalogFull, HeadDamaged, Full, BadStream, ReadFault, DiskFault, NoMemory}
use Rattle.aea_append.specs.declared.store.Stored.{Stored}
use Rattle.aea_append.specs.Causes.{MayEnter, next_end}
use Rattle.aea_append.specs.Puts.{HasStored}
use Rattle.aea_append.specs.Frames.{frame_head, frame_of, IsFramed, HasBadName, EndsInside, IsTooLong, IsReadOrHeadFault, HasFrameRoom, frame_length}
use Rattle.aea_fetch.specs.Puts.{PutsGoOn}
use Rattle.aea_rehearse.proofs.Built.{nodes-512}
use Rattle.aea_witness.specs.Objects.{IsSmall, HasPuts}
use Rattle.aea_witness.specs.Rooms.{HasWitnessRoom}
use Rattle.aea_witness.proofs.Frames.{BeginsWithHead, begins_with_head, one_head, one_frame}
use Rattle.aea_witness.proofs.Putting.{puts_more}
use Rattle.aea_witness.proofs.Rooms.{one_node, ends_within, rows_fit}

-- what is left after bytes that were taken
revealed_some : (stream bytes : List ℕ) (rest : Option (List ℕ)) → Consumes (Some stream) rest bytes → (ys : List ℕ) × (stream ≡ bytes ++ ys)
revealed_some stream bytes None none = absurd none
revealed_some stream bytes (Some ys) is = (ys, is)

pub length-head : (name : List ℕ) (size : ℕ) → length (frame_head name size) ≡ 10 + length name
length-head name size = length-append (to_be_bytes w16 (length name)) (name ++ to_be_bytes w64 size) ∙ omega (arith, length-append name (to_be_bytes w64 size), (let e : length (to_be_bytes w16 (length name)) ≡ 2 = refl in e), (let f : length (to_be_bytes w64 size) ≡ 8 = refl in f))

-- there is space for the frame that a stream begins with
pub frame_room : (v : Opened) (puts : List NewObject) (name : List ℕ) (size : ℕ) (rest stream : List ℕ) (s : State) → HasPuts v puts s.files → length puts ≤ 3 → length name ≤ 16 → size ≤ 512 → length stream ≤ 1000
    → stream ≡ frame_head name size ++ rest → HasWitnessRoom s → HasFrameRoom v (Some stream) s
frame_room v puts name size rest stream s p few short small brief is room = record {
  sites = rows_fit v puts s p room;
  ledger = λ q ys framed enters intact fits.
      let other = q.name in
      let more = length q.bytes in
      let revealed = revealed_some stream (frame_of q) ys framed in
      let behind = q.bytes ++ revealed.0 in
      let whole : stream ≡ frame_head other more ++ behind = revealed.1 ∙ append_assoc (frame_head other more) q.bytes revealed.0 in
      let long = ap length whole in
      let limit : limit_when v.raised ≡ 65536 = ap limit_when p.raised in
      let nodes = nodes-512 v.shape more p.shape in
      let one = one_head name other size more rest behind (omega (arith, short)) (omega (arith, long, brief, length-append (frame_head other more) behind, length-head other more)) (omega (arith, small)) (omega (arith, long, brief, length-append (frame_head other more) behind, length-append q.bytes revealed.0)) (sym is ∙ whole) in
      let size_is = one.sizes in
      let name_is = ap length one.names in
      let end = ends_within v puts s p in
      let before = p.long in
      let four : nodes_for v.shape more * (1 + v.shape.alpha) ≡ nodes_for v.shape more * 4 = ap (λ (a : ℕ). nodes_for v.shape more * (1 + a)) p.shape.alpha in
      record {
        room = room.ledger (next_end v.end (length other) (nodes_for v.shape more * (1 + v.shape.alpha)) + 1) (omega (arith, end, before, few, short, small, size_is, name_is, nodes, four));
        now = room.cells.syncs (s.files 0);
        then = λ xs last one two more. room.cells.syncs xs;
      };
}

-- A stream that begins with the whole frame of a small object that may enter:
module _ (v : Opened) (puts : List NewObject) (o : NewObject) (rest stream : List ℕ) (c : Files) (p : HasPuts v puts c) (small : IsSmall o) (few : length puts ≤ 3) (enters : MayEnter v o.name) (is : stream ≡ frame_of o ++ rest) where
  pub in_head : stream ≡ frame_head o.name (length o.bytes) ++ (o.bytes ++ rest)
  in_head = is ∙ append_assoc (frame_head o.name (length o.bytes)) o.bytes rest

  pub begins : BeginsWithHead o.name (length o.bytes) (o.bytes ++ rest) stream
  begins =
      let short = small.short in
      let most = small.block in
      begins_with_head o.name (length o.bytes) (o.bytes ++ rest) stream small.named (omega (arith, short)) (omega (arith, most)) in_head

  -- it is not at its end
  pub not_end : IsAtEnd (Some stream) → ⊥
  not_end end =
      let none = ap length end in
      let long = begins.long in
      absurd (omega (arith, none, long))

  -- the name is one
  pub not_bad : HasBadName stream → ⊥
  not_bad (inl none) =
      let number = begins.number in
      let some = small.named in
      let short = small.short in
      elim none.none [
        | inl zero ↦ absurd (omega (arith, number, zero, some))
        | inr more ↦ absurd (omega (arith, number, more, short))
      ]
  not_bad (inr bad) = bad.1 (subst IsName (sym begins.name_is) small.name)

  -- it fits
  pub not_long : IsTooLong v stream → ⊥
  not_long more =
      let one = ap (nodes_for v.shape) begins.size_is ∙ one_node v o p.shape small in
      let limit : limit_when v.raised ≡ 65536 = ap limit_when p.raised in
      let n = p.nodes in
      absurd (omega (arith, more, one, limit, n, few))

  -- and it does not end inside
  pub not_inside : EndsInside v stream → ⊥
  not_inside (inl (inl one)) = let long = begins.long in absurd (omega (arith, one, long))
  not_inside (inl (inr cut)) = let there = begins.head.there in let short = cut.1 in absurd (omega (arith, there, short))
  not_inside (inr cut) =
      let long = begins.long in
      let number = begins.number in
      let size = begins.size_is in
      let short = cut.2 in
      absurd (omega (arith, long, number, size, short, length-append o.bytes rest))

-- A stream that ends inside the bytes of a small object that may enter.
pub ends_inside : (v : Opened) (puts : List NewObject) (o : NewObject) (front stream : List ℕ) (c : Files) → HasPuts v puts c → IsSmall o → length puts ≤ 3 → MayEnter v o.name → stream ≡ frame_head o.name (length o.bytes) ++ front
    → length front < length o.bytes → EndsInside v stream
ends_inside v puts o front stream c p small few enters is cut =
    let short = small.short in
    let most = small.block in
    let b = begins_with_head o.name (length o.bytes) front stream small.named (omega (arith, short)) (omega (arith, most)) is in
    let one = ap (nodes_for v.shape) b.size_is ∙ one_node v o p.shape small in
    let limit : limit_when v.raised ≡ 65536 = ap limit_when p.raised in
    let n = p.nodes in
    let long = b.long in
    let number = b.number in
    let size = b.size_is in
    inr (record { head = b.head; enters = subst (MayEnter v) (sym b.name_is) enters }, omega (arith, one, limit, n, few), omega (arith, long, number, size, cut))

-- what is returned of such a stream
abbrev pub is_of_cut : IngestFault → Bool
is_of_cut BadName = false
is_of_cut NameTaken = false
is_of_cut CatalogFull = false
is_of_cut (HeadDamaged block) = true
is_of_cut (Full nodes) = false
is_of_cut (BadStream at) = true
is_of_cut ReadFault = true
is_of_cut DiskFault = true
is_of_cut NoMemory = true

-- one of these faults comes
abbrev pub IsCutOrOutside : Result Ingest IngestFault → ℕ → Type 0
IsCutOrOutside result n = (result ≡ Err (BadStream n)) ⊎ IsReadOrHeadFault result

cut_fault : (result : Result Ingest IngestFault) (n : ℕ) → IsCutOrOutside result n → (f : IngestFault) × (result ≡ Err f) × (is_of_cut f ≡ true)
cut_fault result n (inl bad) = (BadStream n, bad, refl)
cut_fault result n (inr (inl read)) = (ReadFault, read, refl)
cut_fault result n (inr (inr (inl head))) = (HeadDamaged head.0, head.1, refl)
cut_fault result n (inr (inr (inr (inl disk)))) = (DiskFault, disk, refl)
cut_fault result n (inr (inr (inr (inr none)))) = (NoMemory, none, refl)

same_fault : (f g : IngestFault) → (let one : Result Ingest IngestFault = Err f in one ≡ Err g) → f ≡ g
same_fault f g same = cc

not_both : (x : Ingest) (f : IngestFault) → (let one : Result Ingest IngestFault = Ok x in one ≡ Err f) → ⊥
not_both x f same = cc

pub never_stored : (result : Result Ingest IngestFault) (n : ℕ) (x : Ingest) → IsCutOrOutside result n → result ≡ Ok x → ⊥
never_stored result n x either is = let f = cut_fault result n either in not_both x f.0 (sym is ∙ f.1)

pub never_other : (result : Result Ingest IngestFault) (n : ℕ) (g : IngestFault) → IsCutOrOutside result n → is_of_cut g ≡ false → result ≡ Err g → ⊥
never_other result n g either other is =
    let f = cut_fault result n either in
    false≢true (sym other ∙ ap is_of_cut (same_fault g f.0 (sym is ∙ f.1)) ∙ f.2)

-- what was counted is what was taken
pub counts_all : (stream rest : List ℕ) (before after most : ℕ) → Counts (Some stream) (Some rest) before after most → after + length rest ≡ before + length stream
counts_all stream rest before after most c =
    let counted = c.counted in
    let all = ap length c.taken in
    omega (arith, counted, all, length-append c.bytes rest)

-- at a cut nothing was put, and the disk did not fail
pub no_disk_fault : (result : Result Ingest IngestFault) (n : ℕ) → result ≡ Err (BadStream n) → result ≢ Err DiskFault
no_disk_fault result n is other = cc

pub not_put : (result : Result Ingest IngestFault) (n : ℕ) → result ≡ Err (BadStream n) → (name : List ℕ) (stored : Stored) → result ≢ Ok (ingest.Stored name stored)
not_put result n is name stored other = cc

-- what holds after Ok holds of a result by what it is
pub on_ok : (r : Result (Unit {0}) AllocError) (P : Type 0) → r ≡ Ok tt → P → OnOk r P
on_ok r P is holds = subst (λ (q : Result (Unit {0}) AllocError). OnOk q P) (sym is) holds

pub on_err : (r : Result (Unit {0}) AllocError) (P : Type 0) (e : AllocError) → r ≡ Err e → OnOk r P
on_err r P e is = subst (λ (q : Result (Unit {0}) AllocError). OnOk q P) (sym is) tt

-- what was taken of a stream that begins with the frame of a small object is this object, and it is put
pub taken_more : PutsGoOn → DigestsAreCounted → (reveals : Type 0) → reveals → (v w : Opened) (o : NewObject) (rest stream ys name : List ℕ) (before after : ℕ) (old new : State) (stored : Stored) (puts : List NewObject)
    → HasPuts v puts old.files → IsSmall o → length puts ≤ 3 → MayEnter v o.name → stream ≡ frame_of o ++ rest
    → after ≤ before + frame_length stream → after ≡ before + 10 + length name + stored.length
    → ((q : NewObject) × (q.name ≡ name) × IsFramed (Some stream) (Some ys) q × HasStored reveals v w q old new stored)
    → KeepsHomes v.shape (IsBlockIn v.shape v.lattice.n) old.files new.files
    → length (new.files 0) ≤ max (length (old.files 0)) (next_end v.end (length name) (stored.nodes * (1 + v.shape.alpha)) + 1)
    → HasPuts w (puts ++ o ∷ []) new.files × (ys ≡ rest)
taken_more goes counted reveals revealed v w o rest stream ys name before after old new stored puts p small few enters is within exact put keeps most =
    let q = put.0 in
    let h = put.3 in
    let b = begins v puts o rest stream old.files p small few enters is in
    let number = b.number in
    let size = b.size_is in
    let short = small.short in
    let block = small.block in
    let long = h.size in
    let named = ap length put.1 in
    let one = one_frame o q rest ys (omega (arith, short)) (omega (arith, named, within, exact, number, size, short, block)) (omega (arith, block)) (omega (arith, long, within, exact, number, size, short, block)) (sym is ∙ put.2) in
    let own : HasStored reveals v w o old new stored = subst (λ (x : NewObject). HasStored reveals v w x old new stored) (sym one.0) h in
    let name_is : name ≡ o.name = sym put.1 ∙ ap (λ (x : NewObject). x.name) (sym one.0) in (
      puts_more goes counted reveals revealed v w o old new stored puts p small enters.free own keeps
          (subst (λ (n : List ℕ). length (new.files 0) ≤ max (length (old.files 0)) (next_end v.end (length n) (stored.nodes * (1 + v.shape.alpha)) + 1)) name_is most),
      sym one.1,
    )
