-- A file that is read after the first bytes of a buffer.
use Rattle.std.proofs.Common.{◌≡◌, ◌≤◌, ◌<◌, ◌+◌, ◌-◌, ℕ, min, List, ◌++◌, length, take, drop, sym, ap, ◌∙◌, arith}
use Rattle.std.specs.Prelude.{nat_lt}
use Rattle.std.proofs.Math.Seq.{take-append-add}
use Rattle.std.proofs.lemmas.Bool.{ltb-true}
use Rattle.std.proofs.lemmas.List.{length-take, length-drop, take_min, take-append-drop, take-take, drop-take, drop-drop}
use Rattle.aea_copy_reader.specs.Seen.{IsSeen}

-- the first ones, and as many of the file as there are
pub bytes_after : (kept k at : ℕ) (front new buffer file : List ℕ) → front ≡ take kept buffer → length front ≡ kept → length new ≡ length buffer - kept → k ≡ min (length new) (length file - at) → take k new ≡ take k (drop at file)
    → take (kept + k) (front ++ new) ≡ take kept buffer ++ take (length buffer - kept) (drop at file)
bytes_after kept k at front new buffer file is long rest count bytes =
    ap (λ (n : ℕ). take (n + k) (front ++ new)) (sym long) ∙ take-append-add front new k ∙ ap (λ (l : List ℕ). front ++ l) (bytes ∙ ap (λ (n : ℕ). take n (drop at file)) size ∙ take_min (length new) (drop at file))
    ∙ ap (λ (l : List ℕ). l ++ take (length new) (drop at file)) is ∙ ap (λ (n : ℕ). take kept buffer ++ take n (drop at file)) rest
  where
    size : k ≡ min (length new) (length (drop at file))
    size = count ∙ ap (min (length new)) (sym (length-drop at file))

-- so many, and then so many more
in_two : (a b : ℕ) (l : List ℕ) → take (a + b) l ≡ take a l ++ take b (drop a l)
in_two a b l =
    sym (take-append-drop a (take (a + b) l)) ∙ ap (λ (r : List ℕ). r ++ drop a (take (a + b) l)) (take-take a (a + b) l (omega arith)) ∙ ap (λ (r : List ℕ). take a l ++ r) (drop-take a b l)

-- where the first bytes were seen of the file, all that are there now are; and where there is space left the file has none after them
pub seen_after : (start kept more size : ℕ) (old new bytes file : List ℕ) → take kept old ≡ bytes → kept ≤ size → length old ≡ size → length new ≡ size → bytes ≡ take (length bytes) (drop start file)
    → take (kept + more) new ≡ take kept old ++ take (length old - kept) (drop (start + kept) file) → more ≡ min (length old - kept) (length file - (start + kept)) → kept + more ≤ length new
    → IsSeen file (record { place = start; bytes = take (kept + more) new; ended = nat_lt (kept + more) size })
seen_after start kept more size old new bytes file view few was is seen front count bound = record {
  same = front ∙ ap (λ (l : List ℕ). l ++ take (length old - kept) (drop (start + kept) file)) first ∙ ap (λ (l : List ℕ). take kept (drop start file) ++ l) second
      ∙ sym (in_two kept more (drop start file)) ∙ ap (λ (n : ℕ). take n (drop start file)) (sym all);
  last = λ ended. let less : kept + more < size = ltb-true (kept + more) size ended in omega (arith, less, count, was, all);
}
  where
    all : length (take (kept + more) new) ≡ kept + more
    all = omega (arith, length-take (kept + more) new, bound)

    some : length bytes ≡ kept
    some = omega (arith, ap length view, length-take kept old, was, few)

    first : take kept old ≡ take kept (drop start file)
    first = view ∙ seen ∙ ap (λ (n : ℕ). take n (drop start file)) some

    rest : drop (start + kept) file ≡ drop kept (drop start file)
    rest = sym (drop-drop kept start file)

    size_is : more ≡ min (length old - kept) (length (drop (start + kept) file))
    size_is = count ∙ ap (min (length old - kept)) (sym (length-drop (start + kept) file))

    second : take (length old - kept) (drop (start + kept) file) ≡ take more (drop kept (drop start file))
    second =
        sym (take_min (length old - kept) (drop (start + kept) file)) ∙ ap (λ (n : ℕ). take n (drop (start + kept) file)) (sym size_is) ∙ ap (take more) rest
