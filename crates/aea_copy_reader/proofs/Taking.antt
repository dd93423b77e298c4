-- Ranges of a file that were put into a hash, one behind the other.
use Rattle.std.proofs.Common.{◌≡◌, ◌+◌, ◌<◌, ◌^◌, ℕ, List, ◌++◌, take, drop, sym, ap, ◌∙◌, subst, arith}
use Rattle.std.specs.Prelude.{Option, Some, None, IfNone}
use Rattle.std.proofs.lemmas.List.{append-nil, append_assoc}
use Rattle.std.proofs.lemmas.List.Elements.{All-nil, All-append}
use Rattle.sha2.specs.declared.Sha256.{Sha256}
use Rattle.sha2.specs.Hashers.{Holds256}
use Rattle.aea_records.specs.TableLaws.{AreBytes}
use Rattle.aea_copy_reader.specs.Taking.{HasTaken}
use Rattle.aea_copies.proofs.Ranges.{range_both}

pub taken_none : (file : List ℕ) (at : ℕ) (h : Sha256) → HasTaken file at 0 h h
taken_none file at h = record {
  bytes = All-nil (λ b. b < 2 ^ 8);
  there = omega arith;
  holds = λ message held. subst (Holds256 h) (sym (append-nil message)) held;
}

pub taken_both : (file : List ℕ) (at a b : ℕ) (old mid new : Sha256) → HasTaken file at a old mid → HasTaken file (at + a) b mid new → HasTaken file at (a + b) old new
taken_both file at a b old mid new one two =
    let both = range_both file at a b in
    record {
      bytes = subst AreBytes (sym both) (All-append (λ n. n < 2 ^ 8) (take a (drop at file)) (take b (drop (at + a) file)) one.bytes two.bytes);
      there = omega (arith, one.there, two.there);
      holds = λ message held.
          subst (Holds256 new) (append_assoc message (take a (drop at file)) (take b (drop (at + a) file)) ∙ ap (λ (l : List ℕ). message ++ l) (sym both))
          (two.holds (message ++ take a (drop at file)) (one.holds message held));
    }

-- what follows of the whole range is at hand of its next part
pub taken_next : (file other : List ℕ) (at a b n : ℕ) (old mid new : Sha256) → other ≡ file → n ≡ b → HasTaken file at a old mid → HasTaken other (at + a) n mid new → HasTaken file at (a + b) old new
taken_next file other at a b n old mid new same size one two =
    taken_both file at a b old mid new one
    (subst (λ (l : List ℕ). HasTaken l (at + a) b mid new) same (subst (λ (k : ℕ). HasTaken other (at + a) k mid new) size two))

pub none_from : {T P Q : Type 0} (r : Option T) → (P → Q) → IfNone r P → IfNone r Q
none_from None f p = f p
none_from (Some x) f p = tt
