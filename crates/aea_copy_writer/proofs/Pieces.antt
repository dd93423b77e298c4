-- Pieces of the ledger, and how one is seen by its first bytes.
use Rattle.std.proofs.Common.{◌≡◌, ◌≢◌, ⊎_elim, ℕ, zero, suc, ◌+◌, ◌-◌, ◌≤◌, ◌*◌, Bool, true, false, eqb, List, [], ◌∷◌, ◌++◌, length, take, drop, get_or, refl, sym, ap, ◌∙◌, subst, arith}
use Rattle.std.specs.Int.{w32, from_be_bytes}
use Rattle.std.proofs.lemmas.Bool.{eq-eqb, cases_eq}
use Rattle.std.proofs.lemmas.List.{length-append, length-take, length-drop, take_at, take-take, get_or-take}
use Rattle.std.proofs.Math.Dec.{eqb-suc-zero}
use Rattle.aea_copies.specs.Format.{link_after, copy_entry, chain, text_of}
use Rattle.aea_copies.specs.Grammar.{IsRecordPiece}
use Rattle.aea_copies.specs.Kept.{IsCopyFile}
use Rattle.aea_copies.proofs.Entries.{length-entry}
use Rattle.aea_copy_writer.specs.Entries.{HasPieces, IsShaped}
use Rattle.aea_copy_writer.specs.Parts.{part_of}

-- a front of a front, and a range of one
pub front_of : (xs : List ℕ) (at n k : ℕ) → k ≤ n → take k (drop at xs) ≡ take k (take n (drop at xs))
front_of xs at n k le = sym (take-take k n (drop at xs) le)

-- a piece is not empty
pub some_bytes : (first : Bool) (p : List ℕ) → IsShaped first p → 6 ≤ length p
some_bytes true p is = omega (arith, is.kind.long)
some_bytes false p is = is.kind.long

pub is_open : (first : Bool) (p : List ℕ) → IsShaped first p → get_or p 0 0 ≡ 1
is_open true p is = is.kind.gate
is_open false p is = is.kind.gate

-- the first piece is where it begins, and it ends in time
pub first_there : (first : Bool) (p : List ℕ) (ps : List (List ℕ)) (from until : ℕ) (bytes : List ℕ) → HasPieces first (p ∷ ps) from until bytes → take (length p) (drop from bytes) ≡ p
first_there first p ps from until bytes has =
    front_of bytes from (length (p ++ text_of ps)) (length p) (omega (arith, length-append p (text_of ps))) ∙ ap (take (length p)) has.there ∙ take_at p (text_of ps) (length p) refl

pub first_ends : (first : Bool) (p : List ℕ) (ps : List (List ℕ)) (from until : ℕ) (bytes : List ℕ) → HasPieces first (p ∷ ps) from until bytes → from + length p ≤ until
first_ends first p ps from until bytes has = omega (arith, has.place, length-append p (text_of ps))

pub first_within : (first : Bool) (p : List ℕ) (ps : List (List ℕ)) (from until : ℕ) (bytes : List ℕ) → HasPieces first (p ∷ ps) from until bytes → from + length p ≤ length bytes
first_within first p ps from until bytes has =
    omega (arith, ap length (first_there first p ps from until bytes has), length-take (length p) (drop from bytes), length-drop from bytes, some_bytes first p has.shaped.0)

-- its first bytes are what is read there
pub first_read : (p buf bytes : List ℕ) (from : ℕ) → 6 ≤ length p → take (length p) (drop from bytes) ≡ p → buf ≡ part_of bytes from 6 → buf ≡ take 6 p
first_read p buf bytes from some there read = read ∙ front_of bytes from (length p) 6 some ∙ ap (take 6) there

pub gate_read : (p buf : List ℕ) → 6 ≤ length p → buf ≡ take 6 p → get_or p 0 0 ≡ 1 → get_or buf 0 0 ≡ 1
gate_read p buf some is gate = ap (λ (l : List ℕ). get_or l 0 0) is ∙ get_or-take 6 p 0 0 (omega arith) ∙ gate

-- and how long a further piece is
pub size_read : (p buf : List ℕ) → IsRecordPiece p → buf ≡ take 6 p → from_be_bytes w32 (drop 2 buf) + 6 ≡ length p
size_read p buf is read =
    let four : drop 2 buf ≡ take 4 (drop 2 p) = ap (drop 2) read ∙ drop_front p in
    ap (λ (l : List ℕ). from_be_bytes w32 l + 6) four ∙ is.size
  where
    drop_front : (xs : List ℕ) → drop 2 (take 6 xs) ≡ take 4 (drop 2 xs)
    drop_front [] = refl
    drop_front (x ∷ []) = refl
    drop_front (x ∷ (y ∷ xs)) = refl

-- how long entries are
pub length-chain : (link : List ℕ) (ps : List (List ℕ)) → length (chain link ps) ≡ 37 * length ps + length (text_of ps)
length-chain link [] = refl
length-chain link (p ∷ ps) =
    omega (arith, length-append (copy_entry link p) (chain (link_after link p) ps), length-entry link p, length-chain (link_after link p) ps, length-append p (text_of ps))

pub not_zero : (n : ℕ) → n ≢ 0 → eqb n 0 ≡ false
not_zero zero other = absurd (other refl)
not_zero (suc n) other = eqb-suc-zero n

-- the length of a piece, as it is read: of the first one it is that of a header
pub len_read : (at len : ℕ) (p buf : List ℕ) → IsShaped (eqb at 0) p → buf ≡ take 6 p → (at ≡ 0 → len ≡ 17) → (at ≢ 0 → len ≡ from_be_bytes w32 (drop 2 buf) + 6) → len ≡ length p
len_read at len p buf is read header record_ =
    ⊎_elim
    (λ (zero : at ≡ 0). header zero ∙ sym (subst (λ (b : Bool). IsShaped b p) (eq-eqb at 0 zero) is).kind.long)
    (λ (other : at ≢ 0). record_ other ∙ size_read p buf (subst (λ (b : Bool). IsShaped b p) (not_zero at other) is).kind read)
    (cases_eq at 0)

-- a copy's file is not the ledger's
pub copy_some : (file : ℕ) → IsCopyFile file → 1 ≤ file
copy_some file is = ⊎_elim (λ (one : file ≡ 65). omega (arith, one)) (λ (two : file ≡ 66). omega (arith, two)) is
