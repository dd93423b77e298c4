-- A piece in parts.
use Rattle.std.proofs.Common.{◌≡◌, ℕ, ◌+◌, ◌-◌, ◌≤◌, List, ◌++◌, length, sym, ap, ◌∙◌, subst, arith}
use Rattle.std.proofs.lemmas.List.{append_assoc, length-append}
use Rattle.sha2.specs.declared.Sha256.{Sha256}
use Rattle.sha2.specs.Hashers.{Holds256}
use Rattle.sha2.specs.Sha256.{sha256}
use Rattle.aea_disk.specs.Files.{Files, ChangesFile, Holds}
use Rattle.aea_copy_writer.specs.Parts.{part_of, IsThere, Takes, IsLinkOf}
use Rattle.aea_copy_writer.proofs.Writing.{part_both, change_then}

-- a part more, after a number and a part
pub put_more : (file to next from two a n h : ℕ) (num : List ℕ) (c d e : Files) → 1 ≤ file → length num ≡ h → two ≡ from + a → next ≡ to + (h + a) → IsThere (c 0) from a
    → ChangesFile file (Holds to (num ++ part_of (c 0) from a)) c d → ChangesFile file (Holds next (part_of (d 0) two n)) d e → ChangesFile file (Holds to (num ++ part_of (c 0) from (a + n))) c e
put_more file to next from two a n h num c d e some long is here there one late =
    let same : d 0 ≡ c 0 = one.others 0 (λ (no : 0 ≡ file). omega (arith, no, some)) in
    let both : ChangesFile file (Holds to ((num ++ part_of (c 0) from a) ++ part_of (d 0) two n)) c e =
    change_then file to next (num ++ part_of (c 0) from a) (part_of (d 0) two n) c d e (omega (arith, here, long, there.all, length-append num (part_of (c 0) from a))) one late in
    subst (λ (l : List ℕ). ChangesFile file (Holds to l) c e)
    (ap (λ (l : List ℕ). (num ++ part_of (c 0) from a) ++ part_of l two n) same ∙ append_assoc num (part_of (c 0) from a) (part_of (c 0) two n) ∙ ap (λ (l : List ℕ). num ++ l) (sym (part_both (c 0) from a n two is)))
    both

-- the last part, and what is after it
pub put_end : (file to next from two a n h : ℕ) (num last : List ℕ) (c d e : Files) → 1 ≤ file → length num ≡ h → two ≡ from + a → next ≡ to + (h + a) → IsThere (c 0) from a
    → ChangesFile file (Holds to (num ++ part_of (c 0) from a)) c d → ChangesFile file (Holds next (part_of (d 0) two n ++ last)) d e → ChangesFile file (Holds to ((num ++ part_of (c 0) from (a + n)) ++ last)) c e
put_end file to next from two a n h num last c d e some long is here there one late =
    let same : d 0 ≡ c 0 = one.others 0 (λ (no : 0 ≡ file). omega (arith, no, some)) in
    let both : ChangesFile file (Holds to ((num ++ part_of (c 0) from a) ++ (part_of (d 0) two n ++ last))) c e =
    change_then file to next (num ++ part_of (c 0) from a) (part_of (d 0) two n ++ last) c d e (omega (arith, here, long, there.all, length-append num (part_of (c 0) from a))) one late in
    subst (λ (l : List ℕ). ChangesFile file (Holds to l) c e)
    (ap (λ (l : List ℕ). (num ++ part_of (c 0) from a) ++ (part_of l two n ++ last)) same ∙ regroup num (part_of (c 0) from a) (part_of (c 0) two n) last ∙ ap (λ (l : List ℕ). (num ++ l) ++ last) (sym (part_both (c 0) from a n two is)))
    both
  where
    regroup : (p q r l : List ℕ) → (p ++ q) ++ (r ++ l) ≡ (p ++ (q ++ r)) ++ l
    regroup p q r l = simp append_assoc

-- its link
pub linked_end : (xs ys : List ℕ) (from two a n : ℕ) (before mid : Sha256) (link : List ℕ) → ys ≡ xs → two ≡ from + a → Takes before (part_of xs from a) mid → IsLinkOf mid (part_of ys two n) link → IsLinkOf before (part_of xs from (a + n)) link
linked_end xs ys from two a n before mid link same is one late message held =
    late (message ++ part_of xs from a) (one message held)
    ∙ ap (λ (l : List ℕ). sha256 ((message ++ part_of xs from a) ++ part_of l two n)) same
    ∙ ap sha256 (append_assoc message (part_of xs from a) (part_of xs two n) ∙ ap (λ (l : List ℕ). message ++ l) (sym (part_both xs from a n two is)))

pub taken_more : (xs ys : List ℕ) (from two a n : ℕ) (before mid after : Sha256) → ys ≡ xs → two ≡ from + a → Takes before (part_of xs from a) mid → Takes mid (part_of ys two n) after → Takes before (part_of xs from (a + n)) after
taken_more xs ys from two a n before mid after same is one late message held =
    subst (Holds256 after)
    (ap (λ (l : List ℕ). (message ++ part_of xs from a) ++ part_of l two n) same ∙ append_assoc message (part_of xs from a) (part_of xs two n) ∙ ap (λ (l : List ℕ). message ++ l) (sym (part_both xs from a n two is)))
    (late (message ++ part_of xs from a) (one message held))
