-- What the fields of a header spell, and that they spell no other.
use Rattle.std.proofs.Common.{◌≡◌, ℕ, ◌+◌, ◌^◌, ◌<◌, ◌≤◌, Bool, true, false, ◌&&◌, List, [], ◌∷◌, ◌++◌, length, take, drop, None, Some, inl, refl, sym, ap, ◌∙◌, arith}
use Rattle.std.specs.Prelude.{nat_le, slice_index, codes}
use Rattle.std.specs.Str.{bytes_eq}
use Rattle.std.specs.Int.{w32, to_be_bytes}
use Rattle.std.proofs.lemmas.List.{drop_more, get_or-take, take_at, length-take}
use Rattle.std.proofs.lemmas.List.Elements.{All-take}
use Rattle.std.proofs.lemmas.Slice.Eq.{bytes_eq-Decides}
use Rattle.aea_lattice.specs.declared.shape.Shape.{Shape}
use Rattle.aea_records.specs.Format.{open_gate, header}
use Rattle.aea_records.specs.Tables.{bytes_at}
use Rattle.aea_records.specs.Faults.{first_bad, number_at, header_fields, HasOpenHeader, IsBadAt, is_alpha, is_s, is_p}
use Rattle.aea_records.specs.TableLaws.{AreBytes}
use Rattle.aea_records.proofs.Stretches.{part_splits, front-bytes_at}
use Rattle.aea_records.proofs.Numbers.{wide32, number_splits, front-number_at}
use Rattle.std.proofs.lemmas.Bool.{false≢true}
use Rattle.aea_records.proofs.Shapes.{same_shape, shape_small, ArePassing, is_shape-passing, passing-is_shape}
use Rattle.std.proofs.lemmas.Nat.{from_be_bytes-to_be_bytes_4}

-- each field of the table passes
abbrev pub EachPasses : List (ℕ × Bool) → Type 0
EachPasses [] = Unit {0}
EachPasses (field ∷ fields) = (field.1 ≡ true) × EachPasses fields

-- where each passes none is bad, and the other way round
pub passing-none : (fields : List (ℕ × Bool)) → EachPasses fields → first_bad fields ≡ None
passing-none [] h = refl
passing-none ((at, true) ∷ fields) h = passing-none fields h.1
passing-none ((at, false) ∷ fields) h = absurd (false≢true h.0)

pub none-passing : (fields : List (ℕ × Bool)) → first_bad fields ≡ None → EachPasses fields
none-passing [] e = tt
none-passing ((at, true) ∷ fields) e = (refl, none-passing fields e)
none-passing ((at, false) ∷ fields) e = absurd cc

-- What the bytes of a header are read as: no field is bad, and the fields are the numbers of the shape.
pub record IsHeader (shape : Shape) (bytes : List ℕ) : Type 0 where
  pub passes : first_bad (header_fields bytes) ≡ None
  pub gate : slice_index bytes 0 ≡ open_gate
  pub alpha : slice_index bytes 9 ≡ shape.alpha
  pub s : slice_index bytes 10 ≡ shape.s
  pub p : slice_index bytes 11 ≡ shape.p
  pub sites : slice_index bytes 12 ≡ shape.sites
  pub block : number_at w32 13 bytes ≡ shape.block

-- what is spelled is read
pub spelled_header : (shape : Shape) (rest bytes : List ℕ) → bytes ≡ header shape ++ rest → IsHeader shape bytes
spelled_header shape rest bytes spelling =
    let tests = is_shape-passing shape.alpha shape.s shape.p shape.block shape.sites shape.in_profile in
    let small = shape_small shape in
    let alpha : slice_index bytes 9 ≡ shape.alpha = ap (λ (l : List ℕ). slice_index l 9) spelling in
    let s : slice_index bytes 10 ≡ shape.s = ap (λ (l : List ℕ). slice_index l 10) spelling in
    let p : slice_index bytes 11 ≡ shape.p = ap (λ (l : List ℕ). slice_index l 11) spelling in
    let sites : slice_index bytes 12 ≡ shape.sites = ap (λ (l : List ℕ). slice_index l 12) spelling in
    let block : number_at w32 13 bytes ≡ shape.block =
    ap (number_at w32 13) spelling ∙ from_be_bytes-to_be_bytes_4 shape.block (omega (arith, small.block_small)) in
    record {
      passes = passing-none (header_fields bytes) (
        ap (λ (l : List ℕ). bytes_eq (bytes_at 8 1 l) (codes "AEALEDG1")) spelling,
        (
          ap is_alpha alpha ∙ tests.alpha_fits,
          (
            (λ i. is_s (alpha i) (s i)) ∙ tests.s_fits,
            (
              (λ i. is_p (alpha i) (s i) (p i)) ∙ tests.p_fits,
              (
                (λ i. nat_le 1 (sites i) && nat_le (sites i) 64) ∙ tests.sites_fit,
                ((λ i. nat_le 16 (block i) && nat_le (block i) 65536) ∙ tests.block_fits, tt),
              ),
            ),
          ),
        ),
      );
      gate = ap (λ (l : List ℕ). slice_index l 0) spelling;
      alpha = alpha;
      s = s;
      p = p;
      sites = sites;
      block = block;
    }

-- a header is one of one shape
pub one_shape : (a b : Shape) (bytes : List ℕ) → IsHeader a bytes → IsHeader b bytes → a ≡ b
one_shape a b bytes x y =
    same_shape a b (sym x.alpha ∙ y.alpha) (sym x.s ∙ y.s) (sym x.p ∙ y.p) (sym x.block ∙ y.block) (sym x.sites ∙ y.sites)

cell_at : (bytes : List ℕ) (at : ℕ) → at < length bytes → drop at bytes ≡ slice_index bytes at ∷ drop (at + 1) bytes
cell_at bytes at h = drop_more bytes at 0 h

-- The bytes are a header and what follows it.
pub record IsShapeOf (bytes : List ℕ) : Type 0 where
  pub shape : Shape
  pub alpha : shape.alpha ≡ slice_index bytes 9
  pub s : shape.s ≡ slice_index bytes 10
  pub p : shape.p ≡ slice_index bytes 11
  pub sites : shape.sites ≡ slice_index bytes 12
  pub block : shape.block ≡ number_at w32 13 bytes
  pub spelling : bytes ≡ header shape ++ drop 17 bytes

-- the cells of a header, one after the other
join_header : (w x1 x9 x10 x11 x12 x13 x17 mark block : List ℕ) (alpha s p sites : ℕ) → w ≡ 1 ∷ x1 → x1 ≡ mark ++ x9 → x9 ≡ alpha ∷ x10
    → x10 ≡ s ∷ x11 → x11 ≡ p ∷ x12 → x12 ≡ sites ∷ x13
    → x13 ≡ block ++ x17 → w ≡ 1 ∷ (mark ++ (alpha ∷ s ∷ p ∷ sites ∷ (block ++ x17)))
join_header w x1 x9 x10 x11 x12 x13 x17 mark block alpha s p sites e1 e2 e3 e4 e5 e6 e7 = cc

-- what passes is spelled
pub header_spells : (bytes : List ℕ) → HasOpenHeader bytes → AreBytes (take 17 bytes) → first_bad (header_fields bytes) ≡ None → IsShapeOf bytes
header_spells bytes opened fits passes =
    let each = none-passing (header_fields bytes) passes in
    let mark : bytes_at 8 1 bytes ≡ codes "AEALEDG1" = (bytes_eq-Decides (bytes_at 8 1 bytes) (codes "AEALEDG1")).0 each.0 in
    let passing : ArePassing (slice_index bytes 9) (slice_index bytes 10) (slice_index bytes 11) (number_at w32 13 bytes) (slice_index bytes 12) = record {
      alpha_fits = each.1.0;
      s_fits = each.1.1.0;
      p_fits = each.1.1.1.0;
      block_fits = each.1.1.1.1.1.0;
      sites_fit = each.1.1.1.1.0;
    } in
    let shape : Shape = record {
      alpha = slice_index bytes 9;
      s = slice_index bytes 10;
      p = slice_index bytes 11;
      block = number_at w32 13 bytes;
      sites = slice_index bytes 12;
      in_profile = passing-is_shape (slice_index bytes 9) (slice_index bytes 10) (slice_index bytes 11) (number_at w32 13 bytes) (slice_index bytes 12) passing;
    } in
    let long = opened.long in
    let e1 : bytes ≡ 1 ∷ drop 1 bytes = cell_at bytes 0 (omega arith) ∙ ap (λ (b : ℕ). b ∷ drop 1 bytes) opened.gate in
    let e2 : drop 1 bytes ≡ codes "AEALEDG1" ++ drop 9 bytes = part_splits bytes 1 8 9 refl ∙ ap (λ (l : List ℕ). l ++ drop 9 bytes) mark in
    let e7 : drop 13 bytes ≡ to_be_bytes w32 (number_at w32 13 bytes) ++ drop 17 bytes =
    (number_splits w32 (2 ^ 32) wide32 bytes 13 17 17 refl (omega arith) (omega arith) fits).1 in
    record {
      shape = shape;
      alpha = refl;
      s = refl;
      p = refl;
      sites = refl;
      block = refl;
      spelling = join_header bytes (drop 1 bytes) (drop 9 bytes) (drop 10 bytes) (drop 11 bytes) (drop 12 bytes) (drop 13 bytes) (drop 17 bytes)
          (codes "AEALEDG1") (to_be_bytes w32 (number_at w32 13 bytes))
          (slice_index bytes 9) (slice_index bytes 10) (slice_index bytes 11) (slice_index bytes 12) e1 e2 (cell_at bytes 9 (omega arith))
          (cell_at bytes 10 (omega arith)) (cell_at bytes 11 (omega arith)) (cell_at bytes 12 (omega arith)) e7;
    }

-- a header is judged by its first 17 bytes alone, or more of them
pub take_header_fields : (bytes : List ℕ) (window : ℕ) → 17 ≤ window → first_bad (header_fields (take window bytes)) ≡ first_bad (header_fields bytes)
take_header_fields bytes window h =
    let mark : bytes_at 8 1 (take window bytes) ≡ bytes_at 8 1 bytes = front-bytes_at bytes 1 8 window (omega arith) in
    let alpha : slice_index (take window bytes) 9 ≡ slice_index bytes 9 = get_or-take window bytes 9 0 (omega arith) in
    let s : slice_index (take window bytes) 10 ≡ slice_index bytes 10 = get_or-take window bytes 10 0 (omega arith) in
    let p : slice_index (take window bytes) 11 ≡ slice_index bytes 11 = get_or-take window bytes 11 0 (omega arith) in
    let sites : slice_index (take window bytes) 12 ≡ slice_index bytes 12 = get_or-take window bytes 12 0 (omega arith) in
    let block : number_at w32 13 (take window bytes) ≡ number_at w32 13 bytes = front-number_at w32 bytes 13 window (omega arith) in
    λ i. first_bad (
    (1, bytes_eq (mark i) (codes "AEALEDG1"))
    ∷ (9, is_alpha (alpha i))
    ∷ (10, is_s (alpha i) (s i))
    ∷ (11, is_p (alpha i) (s i) (p i))
    ∷ (12, nat_le 1 (sites i) && nat_le (sites i) 64)
    ∷ (13, nat_le 16 (block i) && nat_le (block i) 65536)
    ∷ [])

-- a header whose fields pass is that of its shape
pub header_read : (window : List ℕ) (shape : Shape) → 18 ≤ length window → slice_index window 0 ≡ open_gate → AreBytes window → first_bad (header_fields window) ≡ None
    → shape.alpha ≡ slice_index window 9 → shape.s ≡ slice_index window 10 → shape.p ≡ slice_index window 11 → shape.sites ≡ slice_index window 12 → shape.block ≡ number_at w32 13 window
    → take 17 window ≡ header shape
header_read window shape long gate bytes passes alpha s p sites block =
    let of = header_spells window (record { long = long; gate = gate }) (All-take (λ b. b < 2 ^ 8) 17 window bytes) passes in
    let same : of.shape ≡ shape = same_shape of.shape shape (of.alpha ∙ sym alpha) (of.s ∙ sym s) (of.p ∙ sym p) (of.block ∙ sym block) (of.sites ∙ sym sites) in
    ap (take 17) of.spelling ∙ take_at (header of.shape) (drop 17 window) 17 refl ∙ ap header same

-- a header that is bad
pub bad_header : (window file : List ℕ) (at : ℕ) → 18 ≤ length window → slice_index window 0 ≡ open_gate → first_bad (header_fields window) ≡ Some at → window ≡ take 18 file → IsBadAt file at
bad_header window file at long gate bad is = record {
  header = record {
    long = omega (arith, ap length is, length-take 18 file, long);
    gate = sym (get_or-take 18 file 0 0 (omega arith)) ∙ ap (λ (l : List ℕ). slice_index l 0) (sym is) ∙ gate;
  };
  bad = inl (sym (take_header_fields file 18 (omega arith)) ∙ ap (λ (l : List ℕ). first_bad (header_fields l)) (sym is) ∙ bad);
}
