-- Writes one after the other, and what a buffer has.
use Rattle.std.proofs.Common.{◌≡◌, ℕ, ◌+◌, ◌-◌, ◌<◌, ◌≤◌, ◌^◌, List, [], ◌++◌, length, take, drop, replicate, refl, sym, ap, ◌∙◌, subst, arith}
use Rattle.std.proofs.lemmas.List.{append_assoc, append-nil, take_at, drop_at, drop-drop, length-append, length-take, length-drop, length-replicate, take-append-drop}
use Rattle.aea_disk.specs.Files.{Files, ChangesFile, overwritten, Holds}
use Rattle.aea_disk.specs.Steps.{length-overwritten}
use Rattle.std.proofs.lemmas.List.Elements.{All-append}
use Rattle.aea_records.specs.TableLaws.{AreBytes}
use Rattle.aea_copies.proofs.Ranges.{range_both}
use Rattle.sha2.specs.declared.Sha256.{Sha256}
use Rattle.sha2.specs.Hashers.{Holds256}
use Rattle.aea_copy_writer.specs.Parts.{part_of, IsThere, Takes}
use Rattle.aea_copy_writer.proofs.Stretches.{change_both}

-- a write of nothing within the file
pub overwritten_none : (old : List ℕ) (at : ℕ) → at ≤ length old → overwritten old at [] ≡ old
overwritten_none old at within =
    let gap : at - length old ≡ 0 = omega (arith, within) in
    ap (λ (n : ℕ). take at old ++ replicate n 0 ++ [] ++ drop (at + 0) old) gap
    ∙ ap (λ (l : List ℕ). l ++ [] ++ drop (at + 0) old) (append-nil (take at old)) ∙ ap (λ (l : List ℕ). l ++ drop (at + 0) old) (append-nil (take at old))
    ∙ ap (λ (n : ℕ). take at old ++ drop n old) (omega arith) ∙ take-append-drop at old

-- a write right after another is one with it
pub overwritten_then : (old a b : List ℕ) (at next : ℕ) → next ≡ at + length a → overwritten (overwritten old at a) next b ≡ overwritten old at (a ++ b)
overwritten_then old a b at next is =
    let front = take at old ++ replicate (at - length old) 0 in
    let rest = drop (at + length a) old in
    let size : length front ≡ at = omega (arith, length-append (take at old) (replicate (at - length old) 0), length-take at old, length-replicate {A = ℕ} (at - length old) 0) in
    let long : length (front ++ a) ≡ next = omega (arith, size, is, length-append front a) in
    let all : length ((front ++ a) ++ rest) ≡ next + length rest = omega (arith, long, length-append (front ++ a) rest) in
    let gap : next - length ((front ++ a) ++ rest) ≡ 0 = omega (arith, all) in
    let last : drop (next + length b) ((front ++ a) ++ rest) ≡ drop (at + length (a ++ b)) old =
    ap (λ (n : ℕ). drop n ((front ++ a) ++ rest)) (omega arith) ∙ sym (drop-drop (length b) next ((front ++ a) ++ rest)) ∙ ap (drop (length b)) (drop_at (front ++ a) rest next long)
    ∙ drop-drop (length b) (at + length a) old ∙ ap (λ (n : ℕ). drop n old) (omega (arith, length-append a b)) in
    ap (λ (l : List ℕ). l ++ replicate (next - length ((front ++ a) ++ rest)) 0 ++ b ++ drop (next + length b) ((front ++ a) ++ rest)) (take_at (front ++ a) rest next long)
    ∙ ap (λ (n : ℕ). (front ++ a) ++ replicate n 0 ++ b ++ drop (next + length b) ((front ++ a) ++ rest)) gap
    ∙ ap (λ (l : List ℕ). l ++ b ++ drop (next + length b) ((front ++ a) ++ rest)) (append-nil (front ++ a))
    ∙ ap (λ (l : List ℕ). l ++ drop (next + length b) ((front ++ a) ++ rest)) (append_assoc front a b)
    ∙ ap (λ (l : List ℕ). (front ++ (a ++ b)) ++ l) last

pub holds_then : (at next : ℕ) (a b x y z : List ℕ) → next ≡ at + length a → Holds at a x y → Holds next b y z → Holds at (a ++ b) x z
holds_then at next a b x y z is one two = two ∙ ap (λ (l : List ℕ). overwritten l next b) one ∙ overwritten_then x a b at next is

pub change_then : (file at next : ℕ) (a b : List ℕ) (c d e : Files) → next ≡ at + length a → ChangesFile file (Holds at a) c d → ChangesFile file (Holds next b) d e → ChangesFile file (Holds at (a ++ b)) c e
change_then file at next a b c d e is one two = change_both file (Holds at a) (Holds next b) (Holds at (a ++ b)) c d e (λ x y z. holds_then at next a b x y z is) one two

-- how long a file is after a write
pub holds_long : (at : ℕ) (a x y : List ℕ) → Holds at a x y → at + length a ≤ length y
holds_long at a x y holds = omega (arith, ap length holds, length-overwritten x at a)

-- a part is two, one after the other
pub part_both : (xs : List ℕ) (from a b next : ℕ) → next ≡ from + a → part_of xs from (a + b) ≡ part_of xs from a ++ part_of xs next b
part_both xs from a b next is = range_both xs from a b ∙ ap (λ (n : ℕ). take a (drop from xs) ++ take b (drop n xs)) (sym is)

-- and all of it is there where both are
pub there_both : (xs : List ℕ) (from a b next : ℕ) → next ≡ from + a → IsThere xs from a → IsThere xs next b → IsThere xs from (a + b)
there_both xs from a b next is one two =
    let both = part_both xs from a b next is in
    record {
      all = omega (arith, one.all, two.all, ap length both, length-append (part_of xs from a) (part_of xs next b));
      are = subst AreBytes (sym both) (All-append (λ b. b < 2 ^ 8) (part_of xs from a) (part_of xs next b) one.are two.are);
    }

pub there_none : (xs : List ℕ) (from : ℕ) → IsThere xs from 0
there_none xs from = record { all = refl; are = λ k d below. absurd (omega (arith, below)) }

-- what is there is within the file
pub there_within : (xs : List ℕ) (from n : ℕ) → IsThere xs from n → 1 ≤ n → from + n ≤ length xs
there_within xs from n there some = omega (arith, there.all, some, length-take n (drop from xs), length-drop from xs)

-- no part is written and taken
pub put_none : (file to : ℕ) (c : Files) (from : ℕ) → to ≤ length (c file) → ChangesFile file (Holds to (part_of (c 0) from 0)) c c
put_none file to c from within = record { here = sym (overwritten_none (c file) to within); others = λ f other. refl }

pub takes_none : (xs : List ℕ) (from : ℕ) (h : Sha256) → Takes h (part_of xs from 0) h
takes_none xs from h message held = subst (Holds256 h) (sym (append-nil message)) held

-- one part more of the ledger
pub put_next : (file to from a n : ℕ) (c d e : Files) → 1 ≤ file → IsThere (c 0) from a → ChangesFile file (Holds to (part_of (c 0) from a)) c d → ChangesFile file (Holds (to + a) (part_of (d 0) (from + a) n)) d e
    → ChangesFile file (Holds to (part_of (c 0) from (a + n))) c e
put_next file to from a n c d e some there one two =
    let same : d 0 ≡ c 0 = one.others 0 (λ is. omega (arith, is, some)) in
    let next : ChangesFile file (Holds (to + a) (part_of (c 0) (from + a) n)) d e = subst (λ (l : List ℕ). ChangesFile file (Holds (to + a) (part_of l (from + a) n)) d e) same two in
    subst (λ (l : List ℕ). ChangesFile file (Holds to l) c e) (sym (part_both (c 0) from a n (from + a) refl))
    (change_then file to (to + a) (part_of (c 0) from a) (part_of (c 0) (from + a) n) c d e (omega (arith, there.all)) one next)

pub takes_next : (xs ys : List ℕ) (from a n : ℕ) (before mid after : Sha256) → ys ≡ xs → Takes before (part_of xs from a) mid → Takes mid (part_of ys (from + a) n) after → Takes before (part_of xs from (a + n)) after
takes_next xs ys from a n before mid after same one two message held =
    subst (Holds256 after)
    (ap (λ (l : List ℕ). (message ++ part_of xs from a) ++ part_of l (from + a) n) same ∙ append_assoc message (part_of xs from a) (part_of xs (from + a) n) ∙ ap (λ (l : List ℕ). message ++ l) (sym (part_both xs from a n (from + a) refl)))
    (two (message ++ part_of xs from a) (one message held))
