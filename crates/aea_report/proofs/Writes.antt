-- The texts of reports, put together of pieces.
use Rattle.std.proofs.Common.{◌≡◌, ℕ, zero, suc, ◌+◌, arith, List, [], ◌∷◌, ◌++◌, take, drop, codes, decimal, append_assoc, sym, ◌∙◌, ap, subst, Ok, Err}
use Rattle.std.specs.Prelude.{Result, IsErr, slice_get, Some}
use Rattle.std.specs.Io.KnownBytes.{Appends}
use Rattle.std.proofs.lemmas.Bool.{false≢true}
use Rattle.std.proofs.lemmas.List.{append-nil, take-append-drop}
use Rattle.std.proofs.lemmas.List.Concat.{flat_map-append}
use Rattle.aea_lattice.specs.declared.blocks.BlockId.{BlockId}
use Rattle.aea_lattice.specs.Texts.{text_of}
use Rattle.aea_io.specs.Streams.{SinkState}
use Rattle.aea_io.specs.Written.{AppendsPart, PutsAll}
use Rattle.aea_io.specs.Pages.{Prints}
use Rattle.aea_io.proofs.Printing.{prints_then_nothing}
use Rattle.aea_report.specs.Format.{newline, numbers_text, lost_text}

lost_regroup : (w b v nodes nl : List ℕ) → (w ++ (b ++ (v ++ nodes))) ++ nl ≡ ((w ++ b ++ v) ++ nodes) ++ nl
lost_regroup w b v nodes nl = simp append_assoc

-- the line of a lost block, in its pieces
pub lost_pieces : (b : BlockId) (nodes : List ℕ) → lost_text b nodes ++ newline ≡ ((codes "lost " ++ text_of b ++ codes " by") ++ nodes) ++ newline
lost_pieces b nodes = lost_regroup (codes "lost ") (text_of b) (codes " by") nodes newline

lost_rest : (w b v nodes nl : List ℕ) → (w ++ (b ++ (v ++ nodes))) ++ nl ≡ (w ++ b ++ v) ++ (nodes ++ nl)
lost_rest w b v nodes nl = simp append_assoc

-- the same, the word and the block before the rest
pub lost_first : (b : BlockId) (nodes : List ℕ) → lost_text b nodes ++ newline ≡ (codes "lost " ++ text_of b ++ codes " by") ++ (nodes ++ newline)
lost_first b nodes = lost_rest (codes "lost ") (text_of b) (codes " by") nodes newline

one_more : (k : ℕ) → k + 1 ≡ suc k
one_more k = omega arith

take-one : (xs : List ℕ) (k x : ℕ) → slice_get xs k ≡ Some x → take (suc k) xs ≡ take k xs ++ x ∷ []
take-one [] k x here = cc
take-one (y ∷ ys) zero x here = let e : y ≡ x = cc in rw e
take-one (y ∷ ys) (suc k) x here = ap (λ zs. y ∷ zs) (take-one ys k x here)

drop-one : (xs : List ℕ) (k x : ℕ) → slice_get xs k ≡ Some x → drop k xs ≡ x ∷ drop (suc k) xs
drop-one [] k x here = cc
drop-one (y ∷ ys) zero x here = let e : y ≡ x = cc in rw e
drop-one (y ∷ ys) (suc k) x here = drop-one ys k x here

-- the text of one number more
pub numbers-more : (nodes : List ℕ) (k n : ℕ) → slice_get nodes k ≡ Some n → numbers_text (take (k + 1) nodes) ≡ numbers_text (take k nodes) ++ numbers_text (n ∷ [])
numbers-more nodes k n here =
    ap (λ j. numbers_text (take j nodes)) (one_more k)
    ∙ ap numbers_text (take-one nodes k n here)
    ∙ flat_map-append (λ i. codes " " ++ decimal i) (take k nodes) (n ∷ [])

-- the text of all numbers, around one of them
pub numbers-around : (nodes : List ℕ) (k n : ℕ) → slice_get nodes k ≡ Some n → numbers_text nodes ≡ (numbers_text (take k nodes) ++ numbers_text (n ∷ [])) ++ numbers_text (drop (suc k) nodes)
numbers-around nodes k n here =
    ap numbers_text (sym (take-append-drop k nodes))
    ∙ flat_map-append (λ i. codes " " ++ decimal i) (take k nodes) (drop k nodes)
    ∙ ap (λ xs. numbers_text (take k nodes) ++ numbers_text xs) (drop-one nodes k n here)
    ∙ ap (λ xs. numbers_text (take k nodes) ++ xs) (flat_map-append (λ i. codes " " ++ decimal i) (n ∷ []) (drop (suc k) nodes))
    ∙ sym (append_assoc (numbers_text (take k nodes)) (numbers_text (n ∷ [])) (numbers_text (drop (suc k) nodes)))

-- what was printed through a page of its own, and the page sent
pub sent_ok : {T U E F : Type 0} {a b : SinkState} {p q : List ℕ} {one : T} {two : U} {x : List ℕ} → p ≡ [] → q ≡ []
    → {c : SinkState} {r : List ℕ} → Prints {E = E} a p c r (Ok one) x → Prints {E = F} c r b q (Ok two) [] → Appends a.written b.written x
sent_ok {a} {b} {p} {q} {x} none empty first second =
    let sent = prints_then_nothing first second in
    let all : p ++ x ≡ sent.bytes.0 ++ q = sent.bytes.2 in
    subst (λ (bytes : List ℕ). Appends a.written b.written bytes)
    (sym (ap (λ page. page ++ x) (sym none) ∙ all ∙ ap (λ page. sent.bytes.0 ++ page) empty ∙ append-nil sent.bytes.0))
    sent.bytes.1

part_put : {T E : Type 0} (a b : SinkState) (result : Result T E) (x : List ℕ) → IsErr result → AppendsPart a.written b.written x → PutsAll a.written b.written result x
part_put a b (Ok v) x err part = absurd (false≢true err)
part_put a b (Err e) x err part = part

-- the same where the page was not sent
pub sent_part : {T U V E F G : Type 0} {a b : SinkState} {p q : List ℕ} {one : T} {e : F} {x : List ℕ} → p ≡ [] → (result : Result V G) → IsErr result
    → {c : SinkState} {r : List ℕ} → Prints {E = E} a p c r (Ok one) x → Prints {T = U} c r b q (Err e) [] → PutsAll a.written b.written result x
sent_part {a} {b} {p} {x} none result err first second =
    let sent = prints_then_nothing first second in
    part_put a b result x err (subst (λ page. AppendsPart a.written b.written (page ++ x)) none sent.bytes)
