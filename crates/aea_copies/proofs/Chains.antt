-- Chains of entries, one entry longer.
use Rattle.std.proofs.Common.{◌≡◌, ℕ, true, false, List, [], ◌∷◌, ◌++◌, refl, sym, ap, ◌∙◌}
use Rattle.std.proofs.lemmas.List.{append_assoc, append-nil, flat_map_more}
use Rattle.aea_records.specs.Format.{open_gate}
use Rattle.aea_copies.specs.Format.{first_link, link_after, last_link, copy_entry, copy_mark, chain, copied, text_of}
use Rattle.aea_copies.specs.Grammar.{is_first, IsPiece, ArePieces}

pub chain_push : (link : List ℕ) (pieces : List (List ℕ)) (piece : List ℕ) → chain link (pieces ++ piece ∷ []) ≡ chain link pieces ++ copy_entry (last_link link pieces) piece
chain_push link [] piece = append-nil (copy_entry link piece)
chain_push link (p ∷ pieces) piece =
    ap (λ (l : List ℕ). copy_entry link p ++ l) (chain_push (link_after link p) pieces piece)
    ∙ sym (append_assoc (copy_entry link p) (chain (link_after link p) pieces) (copy_entry (last_link (link_after link p) pieces) piece))

pub last_link_push : (link : List ℕ) (pieces : List (List ℕ)) (piece : List ℕ) → last_link link (pieces ++ piece ∷ []) ≡ link_after (last_link link pieces) piece
last_link_push link [] piece = refl
last_link_push link (p ∷ pieces) piece = last_link_push (link_after link p) pieces piece

pub copied_push : (pieces : List (List ℕ)) (piece : List ℕ) → copied (pieces ++ piece ∷ []) ≡ copied pieces ++ copy_entry (last_link first_link pieces) piece
copied_push pieces piece =
    ap (λ (l : List ℕ). open_gate ∷ (copy_mark ++ l)) (chain_push first_link pieces piece)
    ∙ ap (λ (l : List ℕ). open_gate ∷ l) (sym (append_assoc copy_mark (chain first_link pieces) (copy_entry (last_link first_link pieces) piece)))

pub are_pieces_push : (pieces : List (List ℕ)) (piece : List ℕ) → ArePieces true pieces → IsPiece (is_first pieces) piece → ArePieces true (pieces ++ piece ∷ [])
are_pieces_push [] piece are is = (is, tt)
are_pieces_push (p ∷ pieces) piece are is = (are.0, more pieces piece are.1 is)
  where
    more : (others : List (List ℕ)) (last : List ℕ) → ArePieces false others → IsPiece false last → ArePieces false (others ++ last ∷ [])
    more [] last are is = (is, tt)
    more (q ∷ others) last are is = (are.0, more others last are.1 is)

pub first_push : (pieces : List (List ℕ)) (piece : List ℕ) → is_first (pieces ++ piece ∷ []) ≡ false
first_push [] piece = refl
first_push (p ∷ pieces) piece = refl

pub text_push : (pieces : List (List ℕ)) (piece : List ℕ) → text_of (pieces ++ piece ∷ []) ≡ text_of pieces ++ piece
text_push pieces piece = sym (flat_map_more (λ p. p) [] pieces piece)
