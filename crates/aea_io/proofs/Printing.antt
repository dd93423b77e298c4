-- Pieces that are printed one after the other.
use Rattle.std.proofs.Common.{◌≡◌, ℕ, ◌+◌, ◌-◌, ◌≤◌, List, [], ◌++◌, length, length-append, append_assoc, take, drop, arith, refl, sym, ◌∙◌, ap, Ok, Err, subst}
use Rattle.std.specs.Prelude.{Result, MatchResult, IsErr}
use Rattle.std.specs.Io.KnownBytes.{Appends}
use Rattle.std.proofs.KnownBytes.{Appends-nil, Appends-trans}
use Rattle.std.proofs.lemmas.List.{append-nil, take-append-drop, take_rest}
use Rattle.std.proofs.lemmas.Bool.{false≢true}
use Rattle.aea_faults.specs.Faults.{HasCause, Rose}
use Rattle.aea_io.specs.Streams.{SinkState}
use Rattle.aea_io.specs.Written.{AppendsPart, PutsAll, PutsInRoom}
use Rattle.aea_io.proofs.Puts.{AppendsPart-first, AppendsPart-then}
use Rattle.aea_io.specs.Pages.{Gathers, Prints}

-- two pieces after each other
gathers_then : (a b c : SinkState) (p q r x y : List ℕ) → Gathers a p b q x → Gathers b q c r y → Gathers a p c r (x ++ y)
gathers_then a b c p q r x y one two = (
  one.0 ++ two.0,
  Appends-trans a.written b.written c.written one.0 two.0 one.1 two.1,
  sym (append_assoc p x y) ∙ ap (λ zs. zs ++ y) one.2 ∙ append_assoc one.0 q y ∙ ap (λ zs. one.0 ++ zs) two.2 ∙ sym (append_assoc one.0 two.0 r),
)

regroup : (p q x y sent : List ℕ) → p ++ x ≡ sent ++ q → sent ++ (q ++ y) ≡ p ++ (x ++ y)
regroup p q x y sent e = sym (append_assoc sent q y) ∙ ap (λ zs. zs ++ y) (sym e) ∙ append_assoc p x y

longer : (p x y : List ℕ) → length (p ++ (x ++ y)) ≡ length (p ++ x) + length y
longer p x y = ap length (sym (append_assoc p x y)) ∙ length-append (p ++ x) y

bytes_then : {T E : Type 0} (a b c : SinkState) (p q r : List ℕ) (result : Result T E) (x y : List ℕ) → Gathers a p b q x
    → MatchResult result (λ _. Gathers b q c r y) (λ _. AppendsPart b.written c.written (q ++ y))
    → MatchResult result (λ _. Gathers a p c r (x ++ y)) (λ _. AppendsPart a.written c.written (p ++ (x ++ y)))
bytes_then a b c p q r (Ok v) x y one two = gathers_then a b c p q r x y one two
bytes_then a b c p q r (Err e) x y one two =
    rw (← regroup p q x y one.0 one.2) (AppendsPart-then a.written b.written c.written one.0 (q ++ y) one.1 two)

cause_then : {T E : Type 0} (a b c : ℕ) (result : Result T E) → b ≡ a → HasCause b c result → HasCause a c result
cause_then a b c result same cause = subst (λ (n : ℕ). HasCause n c result) same cause

-- a piece, and then another, is both
pub prints_then : {T U E F : Type 0} {a b c : SinkState} {p q r : List ℕ} {one : T} {result : Result U E} {x y : List ℕ} → Prints {E = F} a p b q (Ok one) x → Prints b q c r result y → Prints a p c r result (x ++ y)
prints_then {a} {b} {c} {p} {q} {r} {result} {x} {y} first second =
    let e = longer p x y in
    let f = length-append q y in
    record {
      bytes = bytes_then a b c p q r result x y first.bytes second.bytes;
      fits = λ room revealed enough. let l = first.left room revealed (omega arith) in let le = l.2 in second.fits l.0 l.1 (omega arith);
      left = λ room revealed enough.
          let l = first.left room revealed (omega arith) in let le = l.2 in
          let m = second.left l.0 l.1 (omega arith) in let me = m.2 in
          (m.0, m.1, omega arith);
      steady = λ room revealed enough. let l = first.left room revealed (omega arith) in let le = l.2 in second.steady l.0 l.1 (omega arith) ∙ first.steady room revealed (omega arith);
      cause = cause_then a.faults b.faults c.faults result first.cause.still second.cause;
    }

-- nothing more is printed
pub prints_then_nothing : {T U E F : Type 0} {a b c : SinkState} {p q r : List ℕ} {one : T} {result : Result U E} {x : List ℕ} → Prints {E = F} a p b q (Ok one) x → Prints b q c r result [] → Prints a p c r result x
prints_then_nothing {a} {c} {p} {r} {result} {x} first second =
    subst (λ zs. Prints a p c r result zs) (append-nil x) (prints_then first second)

stopped_bytes : {T E : Type 0} (a b : SinkState) (p q : List ℕ) (result : Result T E) (x y : List ℕ) → IsErr result → AppendsPart a.written b.written (p ++ x)
    → MatchResult result (λ _. Gathers a p b q (x ++ y)) (λ _. AppendsPart a.written b.written (p ++ (x ++ y)))
stopped_bytes a b p q (Ok v) x y stopped part = absurd (false≢true stopped)
stopped_bytes a b p q (Err f) x y stopped part = rw (← append_assoc p x y) (AppendsPart-first a.written b.written (p ++ x) y part)

stopped_cause : {T E : Type 0} (a b : ℕ) (result : Result T E) → IsErr result → a ≤ b → Rose a b → HasCause a b result
stopped_cause a b (Ok v) stopped kept rose = absurd (false≢true stopped)
stopped_cause a b (Err f) stopped kept rose = record { kept = kept; rose = rose; still = tt }

-- a write failed before a further piece
pub prints_stopped : {T U E F : Type 0} {a b : SinkState} {p q : List ℕ} {e : E} {result : Result U F} {x : List ℕ} (y : List ℕ) → IsErr result → Prints {T = T} a p b q (Err e) x → Prints a p b q result (x ++ y)
prints_stopped {a} {b} {p} {q} {result} {x} y stopped first =
    let l = longer p x y in
    record {
      bytes = stopped_bytes a b p q result x y stopped first.bytes;
      fits = λ room revealed enough. absurd (false≢true (first.fits room revealed (omega arith)));
      left = λ room revealed enough. absurd (false≢true (first.fits room revealed (omega arith)));
      steady = λ room revealed enough. absurd (false≢true (first.fits room revealed (omega arith)));
      cause = stopped_cause a.faults b.faults result stopped first.cause.kept first.cause.rose;
    }

failed_bytes : {T E : Type 0} (a b : SinkState) (p q : List ℕ) (result : Result T E) (x : List ℕ) → IsErr result → AppendsPart a.written b.written (p ++ x)
    → MatchResult result (λ _. Gathers a p b q x) (λ _. AppendsPart a.written b.written (p ++ x))
failed_bytes a b p q (Ok v) x failed part = absurd (false≢true failed)
failed_bytes a b p q (Err f) x failed part = part

-- a fault that is handed on; the page does not matter then
pub prints_failed : {T U E F : Type 0} {a b : SinkState} {p q r : List ℕ} {e : E} {result : Result U F} {x : List ℕ} → IsErr result → Prints {T = T} a p b q (Err e) x → Prints a p b r result x
prints_failed {a} {b} {p} {r} {result} {x} failed first =
    record {
      bytes = failed_bytes a b p r result x failed first.bytes;
      fits = λ room revealed enough. absurd (false≢true (first.fits room revealed enough));
      left = λ room revealed enough. absurd (false≢true (first.fits room revealed enough));
      steady = λ room revealed enough. absurd (false≢true (first.fits room revealed enough));
      cause = stopped_cause a.faults b.faults result failed first.cause.kept first.cause.rose;
    }

-- another answer with what is printed
pub prints_as : {T U E F : Type 0} {a b : SinkState} {p q : List ℕ} {v : T} {x : List ℕ} (u : U) → Prints {E = E} a p b q (Ok v) x → Prints {E = F} a p b q (Ok u) x
prints_as u first = record { bytes = first.bytes; fits = λ room revealed enough. refl; left = first.left; steady = first.steady; cause = record { kept = first.cause.kept; rose = tt; still = first.cause.still } }

-- nothing is printed
pub prints_none : {T E : Type 0} (a : SinkState) (p : List ℕ) (v : T) → Prints {E = E} a p a p (Ok v) []
prints_none a p v =
    let e = ap length (append-nil p) in
    record {
      bytes = ([], Appends-nil a.written, append-nil p);
      fits = λ room revealed enough. refl;
      left = λ room revealed enough. (room, revealed, omega arith);
      steady = λ room revealed enough. refl;
      cause = record { kept = omega arith; rose = tt; still = refl };
    }

-- all of the page is written
pub prints_page : {T E : Type 0} {a b : SinkState} {p : List ℕ} {v : T} → Appends a.written b.written p → PutsInRoom {E = E} a b (Ok v) p → HasCause {T = T} {E = E} a.faults b.faults (Ok v)
    → Prints {E = E} a p b [] (Ok v) []
prints_page {p} appended room cause =
    let e = ap length (append-nil p) in
    record {
      bytes = (p, appended, refl);
      fits = λ n revealed enough. refl;
      left = λ n revealed enough. (n - length p, room.left n revealed (omega arith), omega arith);
      steady = λ n revealed enough. room.steady n revealed (omega arith);
      cause = cause;
    }

put_bytes : {T E : Type 0} (a b : SinkState) (p : List ℕ) (result : Result T E) (piece : List ℕ) → p ≡ [] → PutsAll a.written b.written result piece
    → MatchResult result (λ _. Gathers a p b p piece) (λ _. AppendsPart a.written b.written (p ++ piece))
put_bytes a b p (Ok v) piece none put = (piece, put, rw none (sym (append-nil piece)))
put_bytes a b p (Err e) piece none put = rw none put

-- a piece that goes past an empty page
pub prints_past : {T E : Type 0} {a b : SinkState} {p : List ℕ} {result : Result T E} {piece : List ℕ} → p ≡ [] → PutsAll a.written b.written result piece → PutsInRoom a b result piece → HasCause a.faults b.faults result
    → Prints a p b p result piece
prints_past {a} {b} {p} {result} {piece} none put room cause =
    let e : length (p ++ piece) ≡ length piece = rw none in
    let z : length p ≡ 0 = rw none in
    record {
      bytes = put_bytes a b p result piece none put;
      fits = λ n revealed enough. room.fits n revealed (omega arith);
      left = λ n revealed enough. (n - length piece, room.left n revealed (omega arith), omega arith);
      steady = λ n revealed enough. room.steady n revealed (omega arith);
      cause = cause;
    }

-- a piece that is put on the page
prints_held : {T E : Type 0} (a : SinkState) (p x : List ℕ) (v : T) → Prints {E = E} a p a (p ++ x) (Ok v) x
prints_held a p x v =
    record {
      bytes = ([], Appends-nil a.written, refl);
      fits = λ room revealed enough. refl;
      left = λ room revealed enough. (room, revealed, refl);
      steady = λ room revealed enough. refl;
      cause = record { kept = omega arith; rose = tt; still = refl };
    }

-- the front of a piece is put on the page, which is then written, and the rest is printed
pub prints_in_two : {T U E F : Type 0} {a b c : SinkState} {p held q r : List ℕ} {one : T} {result : Result U E} {piece : List ℕ} (count : ℕ) → held ≡ p ++ take count piece
    → Prints {E = F} a held b q (Ok one) [] → Prints b q c r result (take (length piece - count) (drop count piece)) → Prints a p c r result piece
prints_in_two {F = F} {a} {b} {c} {p} {q = q} {r} {one} {result} {piece} count is sent rest =
    subst (λ zs. Prints a p c r result zs) (take-append-drop count piece)
    (prints_then {F = F} (prints_then_nothing {E = F} {F = F} (prints_held a p (take count piece) one) (subst (λ zs. Prints {E = F} a zs b q (Ok one) []) is sent))
    (subst (λ zs. Prints b q c r result zs) (take_rest piece count) rest))

-- the front of a piece is put on the page, and the write of the page fails
pub prints_cut : {T U E F : Type 0} {a b : SinkState} {p held q : List ℕ} {e : E} {result : Result U F} {piece : List ℕ} (count : ℕ) (v : T) → IsErr result → held ≡ p ++ take count piece
    → Prints {T = T} a held b q (Err e) [] → Prints a p b q result piece
prints_cut {T} {E = E} {a = a} {b} {p} {q = q} {e} {result} {piece} count v failed is sent =
    subst (λ zs. Prints a p b q result zs) (take-append-drop count piece)
    (prints_stopped {T = T} (drop count piece) failed
    (prints_then_nothing {E = E} {F = E} (prints_held a p (take count piece) v) (subst (λ zs. Prints {T = T} a zs b q (Err e) []) is sent)))
