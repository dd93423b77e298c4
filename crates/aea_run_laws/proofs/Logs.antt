-- A disk that lists one write for each of the first files, and a sync.
use Rattle.std.proofs.Common.{◌≡◌, ◌≢◌, ◌<◌, ◌≤◌, ℕ, zero, suc, ◌+◌, List, [], ◌∷◌, ◌++◌, length, take, drop, refl, sym, ◌∙◌, ap, arith, append_assoc, length-append}
use Rattle.std.proofs.lemmas.List.{append-nil, take_at, drop_at}
use Rattle.std.proofs.Math.Seq.{drop-nil}
use Rattle.std.specs.Prelude.{slice_index_or}
use Rattle.aea_disk.specs.declared.mem.Call.{Call}
use Rattle.aea_disk.specs.declared.mem.Call.TheVariants.{Len, Write, Sync}
use Rattle.aea_disk.specs.Files.{Files, overwritten}
use Rattle.aea_disk.specs.Log.{Log}
use Rattle.aea_disk.specs.Logged.{events_of, end_of, file_of, end_in_file}
use Rattle.aea_disk.specs.Spaces.{room_of}
use Rattle.aea_disk.specs.Events.{Wrote, after, reads_at}
use Rattle.aea_disk.specs.Replays.{after_wrote}
use Rattle.aea_run_laws.specs.Logs.{HasOneImage}
use Rattle.aea_run_laws.specs.Meeting.{HasFiles}
use Rattle.aea_run_laws.proofs.Memories.{memory_with, has_files}

-- bytes that are written to an empty file are all of it
all_written : (bytes : List ℕ) → overwritten [] 0 bytes ≡ bytes
all_written bytes = ap (λ (l : List ℕ). bytes ++ l) (drop-nil (0 + length bytes)) ∙ append-nil bytes

-- a part of a list of bytes
part_there : (before part after : List ℕ) → take (length part) (drop (length before) (before ++ (part ++ after))) ≡ part
part_there before part after = ap (take (length part)) (drop_at before (part ++ after) (length before) refl) ∙ take_at part after (length part) refl

module _ (c : Files) (bare : (f : ℕ) → 4 < f → c f ≡ []) where
  abbrev p1 : List ℕ
  p1 = c 0

  abbrev p2 : List ℕ
  p2 = p1 ++ c 1

  abbrev p3 : List ℕ
  p3 = p2 ++ c 2

  abbrev p4 : List ℕ
  p4 = p3 ++ c 3

  abbrev bytes : List ℕ
  bytes = p4 ++ c 4

  abbrev calls : List Call
  calls =
      Write 0 0 0 (length (c 0)) ∷ Write 1 0 (length p1) (length (c 1)) ∷ Write 2 0 (length p2) (length (c 2)) ∷ Write 3 0 (length p3) (length (c 3))
      ∷ Write 4 0 (length p4) (length (c 4)) ∷ Sync ∷ []

  abbrev space : ℕ
  space = length bytes

  pub log_with : Log
  log_with = record { spaces = (memory_with c space).spaces; calls = calls; bytes = bytes; calls_room = 6; bytes_room = length bytes; faults = 0 }

  -- the bytes, from the end of a part on
  third : bytes ≡ p2 ++ (c 2 ++ (c 3 ++ c 4))
  third = append_assoc p3 (c 3) (c 4) ∙ append_assoc p2 (c 2) (c 3 ++ c 4)

  second : bytes ≡ p1 ++ (c 1 ++ (c 2 ++ (c 3 ++ c 4)))
  second = third ∙ append_assoc p1 (c 1) (c 2 ++ (c 3 ++ c 4))

  fourth : bytes ≡ p3 ++ (c 3 ++ c 4)
  fourth = append_assoc p3 (c 3) (c 4)

  fifth : bytes ≡ p4 ++ (c 4 ++ [])
  fifth = ap (λ (l : List ℕ). p4 ++ l) (sym (append-nil (c 4)))

  part_of : (before part after : List ℕ) → bytes ≡ before ++ (part ++ after) → overwritten [] 0 (take (length part) (drop (length before) bytes)) ≡ part
  part_of before part after are =
      ap (λ (l : List ℕ). overwritten [] 0 (take (length part) (drop (length before) l))) are
      ∙ ap (overwritten [] 0) (part_there before part after) ∙ all_written part

  -- no other file is written
  passed : (t file at n from f : ℕ) → f ≢ file → after (Wrote file at (take n (drop from bytes))) (reads_at (events_of calls bytes) t) f ≡ reads_at (events_of calls bytes) t f
  passed t file at n from f other = (after_wrote file at (take n (drop from bytes)) (reads_at (events_of calls bytes) t)).others f other

  past : (f : ℕ) → 4 < f → reads_at (events_of calls bytes) 6 f ≡ []
  past f far =
      passed 4 4 0 (length (c 4)) (length p4) f (λ e. omega (arith, far, e)) ∙ passed 3 3 0 (length (c 3)) (length p3) f (λ e. omega (arith, far, e))
      ∙ passed 2 2 0 (length (c 2)) (length p2) f (λ e. omega (arith, far, e)) ∙ passed 1 1 0 (length (c 1)) (length p1) f (λ e. omega (arith, far, e))
      ∙ passed 0 0 0 (length (c 0)) 0 f (λ e. omega (arith, far, e))

  reads : (f : ℕ) → reads_at (events_of calls bytes) 6 f ≡ c f
  reads zero = part_of [] (c 0) (c 1 ++ (c 2 ++ (c 3 ++ c 4))) second
  reads (suc zero) = part_of p1 (c 1) (c 2 ++ (c 3 ++ c 4)) second
  reads (suc (suc zero)) = part_of p2 (c 2) (c 3 ++ c 4) third
  reads (suc (suc (suc zero))) = part_of p3 (c 3) (c 4) fourth
  reads (suc (suc (suc (suc zero)))) = part_of p4 (c 4) [] fifth
  reads (suc (suc (suc (suc (suc f))))) = past (suc (suc (suc (suc (suc f))))) (omega arith) ∙ sym (bare (suc (suc (suc (suc (suc f))))) (omega arith))

  far : (f : ℕ) → 64 < f → c f ≡ []
  far f past = bare f (omega (arith, past))

  there : HasFiles c space (memory_with c space)
  there = has_files c space far

  sizes : (length (c 0) + length (c 1) + length (c 2) + length (c 3) + length (c 4)) ≡ length bytes
  sizes = let a = length-append p4 (c 4) in let b = length-append p3 (c 3) in let d = length-append p2 (c 2) in let e = length-append p1 (c 1) in omega (arith, a, b, d, e)

  within : (k : ℕ) → end_of (slice_index_or calls k Len) ≤ length bytes
  within zero = let s = sizes in omega (arith, s)
  within (suc zero) = let s = sizes in omega (arith, s)
  within (suc (suc zero)) = let s = sizes in let e = length-append p1 (c 1) in omega (arith, s, e)
  within (suc (suc (suc zero))) = let s = sizes in let e = length-append p1 (c 1) in let d = length-append p2 (c 2) in omega (arith, s, e, d)
  within (suc (suc (suc (suc zero)))) = let a = length-append p4 (c 4) in omega (arith, a)
  within (suc (suc (suc (suc (suc zero))))) = omega arith
  within (suc (suc (suc (suc (suc (suc k)))))) = omega arith

  numbers : (k : ℕ) → file_of (slice_index_or calls k Len) < 67
  numbers zero = omega arith
  numbers (suc zero) = omega arith
  numbers (suc (suc zero)) = omega arith
  numbers (suc (suc (suc zero))) = omega arith
  numbers (suc (suc (suc (suc zero)))) = omega arith
  numbers (suc (suc (suc (suc (suc zero))))) = omega arith
  numbers (suc (suc (suc (suc (suc (suc k)))))) = omega arith

  rooms : (k : ℕ) → end_in_file (slice_index_or calls k Len) ≤ room_of (memory_with c space).spaces (file_of (slice_index_or calls k Len))
  rooms zero = let s = sizes in let r = there.rooms 0 (omega arith) in omega (arith, s, r)
  rooms (suc zero) = let s = sizes in let r = there.rooms 1 (omega arith) in omega (arith, s, r)
  rooms (suc (suc zero)) = let s = sizes in let r = there.rooms 2 (omega arith) in omega (arith, s, r)
  rooms (suc (suc (suc zero))) = let s = sizes in let r = there.rooms 3 (omega arith) in omega (arith, s, r)
  rooms (suc (suc (suc (suc zero)))) = let s = sizes in let r = there.rooms 4 (omega arith) in omega (arith, s, r)
  rooms (suc (suc (suc (suc (suc zero))))) = omega arith
  rooms (suc (suc (suc (suc (suc (suc k)))))) = omega arith

  pub has_one_image : HasOneImage c log_with
  unfolding log_with
  has_one_image = record {
    logged = record { reads = λ f. there.files f ∙ sym (reads f); within = within; numbers = numbers; rooms = rooms };
    files = reads;
    image = λ x. (λ here f. here.1 f ∙ reads f, λ same. (omega arith, λ f. same f ∙ sym (reads f)));
    synced = λ x here f. here.1 f;
  }
