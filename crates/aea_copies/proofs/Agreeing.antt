-- Two chains, and two texts, that begin in the same bytes: one of them goes on from the other.
use Rattle.std.proofs.Common.{◌≡◌, ◌≢◌, ◌⊎◌, ⊎_elim, inl, inr, ℕ, ◌+◌, ◌<◌, ◌≤◌, ◌^◌, Bool, true, false, List, [], ◌∷◌, ◌++◌, length, take, drop, get_or, refl, sym, ap, ◌∙◌, arith}
use Rattle.std.specs.Int.{w32, to_be_bytes, from_be_bytes}
use Rattle.std.proofs.lemmas.List.{append_assoc, append_cancel_left, take_at, take-append-le, drop-append-le, length-drop}
use Rattle.std.proofs.lemmas.Nat.{from_be_bytes-to_be_bytes_4}
use Rattle.aea_records.specs.Format.{open_gate}
use Rattle.aea_copies.specs.Format.{first_link, link_after, last_link, copy_entry, copy_mark, chain, copied, text_of}
use Rattle.aea_copies.specs.Grammar.{IsKind, ArePieces}
use Rattle.aea_copies.proofs.Entries.{entry_shows}

number_again : (n m : ℕ) → n < 2 ^ 32 → m < 2 ^ 32 → to_be_bytes w32 n ≡ to_be_bytes w32 m → n ≡ m
number_again n m small little same = sym (from_be_bytes-to_be_bytes_4 n small) ∙ ap (from_be_bytes w32) same ∙ from_be_bytes-to_be_bytes_4 m little

-- entries behind one link that begin the same bytes are the same
pub entry_agrees : (link p q x y : List ℕ) → length p < 2 ^ 32 → length q < 2 ^ 32 → copy_entry link p ++ x ≡ copy_entry link q ++ y → (p ≡ q) × (x ≡ y)
entry_agrees link p q x y small little same =
    let all = copy_entry link p ++ x in
    let a = entry_shows all link p x refl in
    let b = entry_shows all link q y same in
    let long : length p ≡ length q = number_again (length p) (length q) small little (sym a.size ∙ b.size) in
    let piece : p ≡ q = sym a.text ∙ ap (λ (k : ℕ). take k (drop 5 all)) long ∙ b.text in
    (piece, append_cancel_left (copy_entry link q) x y (ap (λ (l : List ℕ). copy_entry link l ++ x) (sym piece) ∙ same))

-- the second chain goes on from the first
pub record Follows (link : List ℕ) (ps qs : List (List ℕ)) (x y : List ℕ) : Type 0 where
  pub more : List (List ℕ)
  pub pieces : qs ≡ ps ++ more
  pub rest : x ≡ chain (last_link link ps) more ++ y

pub chains_agree : (first : Bool) (link : List ℕ) (ps qs : List (List ℕ)) (x y : List ℕ) → ArePieces first ps → ArePieces first qs → chain link ps ++ x ≡ chain link qs ++ y → Follows link ps qs x y ⊎ Follows link qs ps y x
chains_agree first link [] qs x y are others same = inl (record { more = qs; pieces = refl; rest = same })
chains_agree first link (p ∷ ps) [] x y are others same = inr (record { more = p ∷ ps; pieces = refl; rest = sym same })
chains_agree first link (p ∷ ps) (q ∷ qs) x y are others same =
    let both : copy_entry link p ++ (chain (link_after link p) ps ++ x) ≡ copy_entry link q ++ (chain (link_after link q) qs ++ y) =
    sym (append_assoc (copy_entry link p) (chain (link_after link p) ps) x) ∙ same ∙ append_assoc (copy_entry link q) (chain (link_after link q) qs) y in
    let heads = entry_agrees link p q (chain (link_after link p) ps ++ x) (chain (link_after link q) qs ++ y) are.0.short others.0.short both in
    let rest : chain (link_after link p) ps ++ x ≡ chain (link_after link p) qs ++ y = heads.1 ∙ ap (λ (l : List ℕ). chain (link_after link l) qs ++ y) (sym heads.0) in
    ⊎_elim
    (λ (on : Follows (link_after link p) ps qs x y).
    inl (record { more = on.more; pieces = ap (λ (l : List ℕ). l ∷ qs) (sym heads.0) ∙ ap (λ (l : List (List ℕ)). p ∷ l) on.pieces; rest = on.rest }))
    (λ (on : Follows (link_after link p) qs ps y x).
    inr
    (record {
      more = on.more;
      pieces = ap (λ (l : List ℕ). l ∷ ps) heads.0 ∙ ap (λ (l : List (List ℕ)). q ∷ l) on.pieces;
      rest = on.rest ∙ ap (λ (l : List ℕ). chain (last_link (link_after link l) qs) on.more ++ x) heads.0;
    }))
    (chains_agree false (link_after link p) ps qs x y are.1 others.1 rest)

pub copied_split : (ps : List (List ℕ)) (x : List ℕ) → copied ps ++ x ≡ (open_gate ∷ copy_mark) ++ (chain first_link ps ++ x)
copied_split ps x = ap (λ (l : List ℕ). open_gate ∷ l) (append_assoc copy_mark (chain first_link ps) x)

pub copied_agree : (ps qs : List (List ℕ)) (x y : List ℕ) → ArePieces true ps → ArePieces true qs → copied ps ++ x ≡ copied qs ++ y → Follows first_link ps qs x y ⊎ Follows first_link qs ps y x
copied_agree ps qs x y are others same =
    chains_agree true first_link ps qs x y are others
    (append_cancel_left (open_gate ∷ copy_mark) (chain first_link ps ++ x) (chain first_link qs ++ y) (sym (copied_split ps x) ∙ same ∙ copied_split qs y))

-- behind a gate that is not open no entry goes on
pub no_more : (link : List ℕ) (more : List (List ℕ)) (gate : ℕ) (after y : List ℕ) → gate ≢ open_gate → gate ∷ after ≡ chain link more ++ y → more ≡ []
no_more link [] gate after y closed same = refl
no_more link (m ∷ more) gate after y closed same = absurd (closed (ap (λ (l : List ℕ). get_or l 0 0) same))

-- a range of the front of joined lists
front_range : (p x : List ℕ) (at n : ℕ) → at + n ≤ length p → take n (drop at (p ++ x)) ≡ take n (drop at p)
front_range p x at n within = ap (take n) (drop-append-le at p x (omega (arith, within))) ∙ take-append-le n (drop at p) x (omega (arith, within, length-drop at p))

-- what a text shows of its pieces: their kinds
abbrev pub AreKinds : Bool → List (List ℕ) → Type 0
AreKinds first [] = Unit {0}
AreKinds first (piece ∷ pieces) = IsKind first piece × AreKinds false pieces

pub kinds_of : (first : Bool) (ps : List (List ℕ)) → ArePieces first ps → AreKinds first ps
kinds_of first [] are = tt
kinds_of first (p ∷ ps) are = (are.0.kind, kinds_of false ps are.1)

-- pieces of one kind that begin the same bytes are the same
pub piece_agrees : (first : Bool) (p q x y : List ℕ) → IsKind first p → IsKind first q → p ++ x ≡ q ++ y → (p ≡ q) × (x ≡ y)
piece_agrees first p q x y is other same =
    let long : length p ≡ length q = sized first is other in
    let piece : p ≡ q = sym (take_at p x (length q) long) ∙ ap (take (length q)) same ∙ take_at q y (length q) refl in
    (piece, append_cancel_left q x y (ap (λ (l : List ℕ). l ++ x) (sym piece) ∙ same))
  where
    sized : (b : Bool) → IsKind b p → IsKind b q → length p ≡ length q
    sized true a b = a.long ∙ sym b.long
    sized false a b =
        let size : take 4 (drop 2 p) ≡ take 4 (drop 2 q) =
        sym (front_range p x 2 4 a.long) ∙ ap (λ (l : List ℕ). take 4 (drop 2 l)) same ∙ front_range q y 2 4 b.long in
        sym a.size ∙ ap (λ (l : List ℕ). from_be_bytes w32 l + 6) size ∙ b.size

-- the second text goes on from the first
pub record Continues (ps qs : List (List ℕ)) (x y : List ℕ) : Type 0 where
  pub more : List (List ℕ)
  pub pieces : qs ≡ ps ++ more
  pub rest : x ≡ text_of more ++ y

pub texts_agree : (first : Bool) (ps qs : List (List ℕ)) (x y : List ℕ) → AreKinds first ps → AreKinds first qs → text_of ps ++ x ≡ text_of qs ++ y → Continues ps qs x y ⊎ Continues qs ps y x
texts_agree first [] qs x y are others same = inl (record { more = qs; pieces = refl; rest = same })
texts_agree first (p ∷ ps) [] x y are others same = inr (record { more = p ∷ ps; pieces = refl; rest = sym same })
texts_agree first (p ∷ ps) (q ∷ qs) x y are others same =
    let both : p ++ (text_of ps ++ x) ≡ q ++ (text_of qs ++ y) = sym (append_assoc p (text_of ps) x) ∙ same ∙ append_assoc q (text_of qs) y in
    let heads = piece_agrees first p q (text_of ps ++ x) (text_of qs ++ y) are.0 others.0 both in
    ⊎_elim
    (λ (on : Continues ps qs x y).
    inl (record { more = on.more; pieces = ap (λ (l : List ℕ). l ∷ qs) (sym heads.0) ∙ ap (λ (l : List (List ℕ)). p ∷ l) on.pieces; rest = on.rest }))
    (λ (on : Continues qs ps y x).
    inr (record { more = on.more; pieces = ap (λ (l : List ℕ). l ∷ ps) heads.0 ∙ ap (λ (l : List (List ℕ)). q ∷ l) on.pieces; rest = on.rest }))
    (texts_agree false ps qs x y are.1 others.1 heads.1)
