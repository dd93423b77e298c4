-- Seals, read off their digits.
use Rattle.std.proofs.Common.{◌≡◌, ℕ, ◌<◌, ◌^◌, inl, inr, List, length, get_or, false, arith, refl, sym, ◌∙◌, ap, subst, slice_index, Ok, Err}
use Rattle.std.specs.Prelude.{All, Result, MatchResult, is_err}
use Rattle.std.proofs.lemmas.Bool.{cases_lt, true≢false}
use Rattle.std.proofs.lemmas.List.{get_or_past}
use Rattle.std.proofs.lemmas.List.Elements.{All-from_get_or}
use Rattle.hex.specs.declared.error.FromHexError.{FromHexError}
use Rattle.hex.specs.Hex.{IsBytes as AreBytes, encode_lower, decode_sized}
use Rattle.hex.proofs.HexLemmas.{decode_of-ok, decode_sized-ok, decode_sized-twice, decode_sized-encode_lower}
use Rattle.aea_lattice.specs.Data.{IsBytes}

-- bytes of a list, and the zeros after it
are_bytes : (xs : List ℕ) → All (λ x. x < 2 ^ 8) xs → AreBytes xs
are_bytes xs small i = elim (cases_lt i (length xs)) [
  | inl lt ↦ small i 0 lt
  | inr ge ↦ let zero_here : slice_index xs i ≡ 0 = get_or_past xs i 0 ge in omega arith
]

-- the digits of a seal are read as this seal
pub seal_read : (text seal out : List ℕ) (n : ℕ) (r : Result (Unit {0}) FromHexError)
    → MatchResult (decode_sized text n) (λ bytes. (r ≡ Ok tt) × (out ≡ bytes)) (λ e. r ≡ Err e) → n ≡ 32 → IsBytes 32 seal → text ≡ encode_lower seal → (r ≡ Ok tt) × (out ≡ seal)
seal_read text seal out n r value room valid digits =
    let read : decode_sized text n ≡ Ok seal = ap (λ t. decode_sized t n) digits ∙ decode_sized-encode_lower seal n (valid.wide ∙ sym room) (are_bytes seal valid.each) in
    subst (λ (d : Result (List ℕ) FromHexError). MatchResult d (λ bytes. (r ≡ Ok tt) × (out ≡ bytes)) (λ e. r ≡ Err e)) read value

-- ---- what was read are bytes

bytes_at : (text out : List ℕ) (n : ℕ) (r : Result (Unit {0}) FromHexError) (d : Result (List ℕ) FromHexError) → decode_sized text n ≡ d
    → MatchResult d (λ bytes. (r ≡ Ok tt) × (out ≡ bytes)) (λ e. r ≡ Err e) → is_err r ≡ false → All (λ x. x < 2 ^ 8) out
bytes_at text out n r (Ok bytes) e value well =
    let long = decode_sized-ok text n bytes e in
    let of = decode_of-ok text bytes (sym (decode_sized-twice text n long) ∙ e) in
    All-from_get_or (λ x. x < 2 ^ 8) out 0 (λ i lt. subst (λ xs. get_or xs i 0 < 2 ^ 8) (sym value.1) (of.3 i))
bytes_at text out n r (Err f) e value well = absurd (true≢false (sym (ap is_err value) ∙ well))

pub seal_bytes : (text out : List ℕ) (n : ℕ) (r : Result (Unit {0}) FromHexError) → MatchResult (decode_sized text n) (λ bytes. (r ≡ Ok tt) × (out ≡ bytes)) (λ e. r ≡ Err e)
    → is_err r ≡ false → All (λ x. x < 2 ^ 8) out
seal_bytes text out n r value well = bytes_at text out n r (decode_sized text n) refl value well
