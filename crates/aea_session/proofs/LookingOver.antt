-- The reply to a patrol: the blocks of a range, one after the other, and the numbers that are printed.
use Rattle.std.proofs.Common.{◌≡◌, ◌≢◌, ◌⊎◌, ⊎_elim, inl, inr, ℕ, zero, suc, ◌+◌, ◌-◌, ◌*◌, ◌<◌, ◌≤◌, Bool, true, false, cond, eqb, List, [], ◌∷◌, ◌++◌, length, take, drop, get_or, Result, refl, sym, ◌∙◌, ap, subst, arith, append_assoc, length-append}
use Rattle.std.specs.Prelude.{not, filter, ◌↔◌, IsTrue, ◌&&◌, nat_le, if◌then◌else◌, IfOk, IfErr}
use Rattle.std.specs.List.{flat_map, range_with_len}
use Rattle.std.specs.Int.{w32, to_be_bytes}
use Rattle.std.proofs.lemmas.Bool.{cases_lt}
use Rattle.std.proofs.lemmas.Bool.Decides.{nat_tests}
use Rattle.std.proofs.lemmas.List.{append-nil, take-append-drop}
use Rattle.std.proofs.lemmas.List.Concat.{flat_map-append}
use Rattle.std.proofs.lemmas.List.Elements.{filter-append}
use Rattle.aea_lattice.specs.declared.blocks.BlockId.{BlockId}
use Rattle.aea_lattice.specs.declared.grid.Lattice.{Lattice}
use Rattle.aea_lattice.specs.Blocks.{HasBlock, number_of, class_number}
use Rattle.aea_lattice.specs.Shapes.{number_in}
use Rattle.aea_lattice.proofs.Equations.{number_equal}
use Rattle.aea_disk.specs.Files.{Files}
use Rattle.aea_ledger.specs.Values.{Opened}
use Rattle.aea_archive.specs.Blocks.{IsIntactBy}
use Rattle.aea_fetch.specs.Payloads.{IsPayload}
use Rattle.aea_messages.specs.declared.message.Message.{Message}
use Rattle.aea_messages.specs.declared.message.Message.TheVariants.{Patrol}
use Rattle.aea_io.specs.Streams.{SinkState}
use Rattle.aea_machine.specs.Machine.{Machine, Answer, Patrols, BadRange, step, stays, greatest_patrol}
use Rattle.aea_machine.specs.Replies.{reply, numbers_body, IsRangeReply, IsReply}
use Rattle.aea_session.specs.declared.fault.TakeFault.{TakeFault}
use Rattle.aea_session.specs.declared.work.Work.{Work}
use Rattle.aea_session.specs.Looks.{AreDamaged, has_range, IsReplyOfRange, IsReplyTo, MayBegin, Replies, RepliesPart, greatest_reply}
use Rattle.aea_session.specs.Stands.{KeepsMachine}
use Rattle.aea_session.proofs.LookingPrinted.{ok_as, err_with}

-- ---- numbers one after the other

range-suc : (a n : ℕ) → range_with_len a (suc n) ≡ range_with_len a n ++ (a + n) ∷ []
range-suc a zero = let e : a ≡ a + 0 = omega arith in ap (λ (k : ℕ). k ∷ []) e
range-suc a (suc n) =
    let e : (a + 1) + n ≡ a + suc n = omega arith in
    ap (λ (l : List ℕ). a ∷ l) (range-suc (a + 1) n ∙ ap (λ (k : ℕ). range_with_len (a + 1) n ++ k ∷ []) e)

pub length-range : (a n : ℕ) → length (range_with_len a n) ≡ n
length-range a zero = refl
length-range a (suc n) = ap suc (length-range (a + 1) n)

-- tests that are the same on a range keep the same of it
filter-same : (p q : ℕ → Bool) (a n : ℕ) → ((k : ℕ) → a ≤ k → k < a + n → p k ≡ q k) → filter p (range_with_len a n) ≡ filter q (range_with_len a n)
filter-same p q a zero same = refl
filter-same p q a (suc n) same =
    let rest : filter p (range_with_len (a + 1) n) ≡ filter q (range_with_len (a + 1) n) =
    filter-same p q (a + 1) n (λ k from to. same k (omega (arith, from)) (omega (arith, to))) in
    ap (λ (x : Bool). cond x (a ∷ filter p (range_with_len (a + 1) n)) (filter p (range_with_len (a + 1) n))) (same a (omega arith) (omega arith))
    ∙ ap (λ (l : List ℕ). cond (q a) (a ∷ l) l) rest

-- a filter keeps no more than there is
cond-most : (b : Bool) (x : ℕ) (xs : List ℕ) (n : ℕ) → length xs ≤ n → length (cond b (x ∷ xs) xs) ≤ suc n
cond-most true x xs n most = omega (arith, most)
cond-most false x xs n most = omega (arith, most)

pub filter-most : (p : ℕ → Bool) (xs : List ℕ) → length (filter p xs) ≤ length xs
filter-most p [] = omega arith
filter-most p (x ∷ xs) = cond-most (p x) x (filter p xs) (length xs) (filter-most p xs)

-- ---- the blocks of a range

-- the test with this answer at a number
abbrev with_answer : (ℕ → Bool) → ℕ → Bool → ℕ → Bool
with_answer intact at answer k = cond (eqb k at) answer (intact k)

with-same : (intact : ℕ → Bool) (at : ℕ) (answer : Bool) → with_answer intact at answer at ≡ answer
with-same intact at answer = grind (arith, nat_tests)

with-other : (intact : ℕ → Bool) (at k : ℕ) (answer : Bool) → k ≢ at → with_answer intact at answer k ≡ intact k
with-other intact at k answer other = grind (arith, nat_tests)

one-filtered : (p : ℕ → Bool) (at : ℕ) (b : Bool) → p at ≡ b → filter (λ k. not (p k)) (at ∷ []) ≡ cond b [] (at ∷ [])
one-filtered p at true is = ap (λ (x : Bool). cond (not x) (at ∷ []) []) is
one-filtered p at false is = ap (λ (x : Bool). cond (not x) (at ∷ []) []) is

-- no block of the range was looked at
pub damaged_none : (reveals : Type 0) (v : Opened) (c : Files) (first : ℕ) → AreDamaged reveals v c first 0 []
damaged_none reveals v c first = record {
  intact = λ k. true;
  by = λ revealed b block from to. absurd (omega (arith, from, to));
  are = refl;
}

module _ (reveals : Type 0) (v : Opened) (c : Files) (first n : ℕ) (xs : List ℕ) (a : BlockId) (l : Lattice) (answer : Bool) where
  -- one block more was
  pub damaged_more : AreDamaged reveals v c first n xs → l.alpha ≡ v.shape.alpha → l.n ≡ v.lattice.n → HasBlock l a → number_of l a ≡ first + n → (reveals → IsTrue answer ↔ IsIntactBy v.shape v.digests c a)
      → (ys : List ℕ) → ys ≡ xs ++ cond answer [] ((first + n) ∷ []) → AreDamaged reveals v c first (n + 1) ys
  damaged_more before alpha nodes has_a number says ys is =
      let at : ℕ = first + n in
      let test : ℕ → Bool = with_answer before.intact at answer in
      let here : number_in v.shape a ≡ at = ap (λ (k : ℕ). (a.node - 1) * (1 + k) + class_number a.class) (sym alpha) ∙ number in
      let old : filter (λ k. not (before.intact k)) (range_with_len first n) ≡ filter (λ k. not (test k)) (range_with_len first n) =
      filter-same (λ k. not (before.intact k)) (λ k. not (test k)) first n (λ k from to. ap not (sym (with-other before.intact at k answer (λ e. absurd (omega (arith, e, to)))))) in
      let more : range_with_len first (n + 1) ≡ range_with_len first n ++ at ∷ [] = ap (range_with_len first) (let e : n + 1 ≡ suc n = omega arith in e) ∙ range-suc first n in
      record {
        intact = test;
        by = λ revealed b block from to.
            elim (cases_lt (number_in v.shape b) at) [
              | inl less ↦
                  subst (λ (x : Bool). IsTrue x ↔ IsIntactBy v.shape v.digests c b) (sym (with-other before.intact at (number_in v.shape b) answer (λ e. absurd (omega (arith, e, less)))))
                  (before.by revealed b block from less)
              | inr past ↦
                  let same : number_in v.shape b ≡ at = omega (arith, past, to) in
                  let has_b : HasBlock l b = record { first = omega (arith, block.after); last = omega (arith, block.most, nodes); used = omega (arith, block.used, alpha) } in
                  let is_number : number_of l b ≡ at = ap (λ (k : ℕ). (b.node - 1) * (1 + k) + class_number b.class) alpha ∙ same in
                  let one : a ≡ b = number_equal l a b has_a has_b (number ∙ sym is_number) in
                  subst (λ (d : BlockId). IsTrue (test (number_in v.shape d)) ↔ IsIntactBy v.shape v.digests c d) one
                  (subst (λ (x : Bool). IsTrue x ↔ IsIntactBy v.shape v.digests c a) (sym (ap test here ∙ with-same before.intact at answer)) (says revealed))
            ];
        are =
            is ∙ ap (λ (l : List ℕ). l ++ cond answer [] (at ∷ [])) (before.are ∙ old)
            ∙ ap (λ (l : List ℕ). filter (λ k. not (test k)) (range_with_len first n) ++ l) (sym (one-filtered test at answer (with-same before.intact at answer)))
            ∙ sym (filter-append (λ k. not (test k)) (range_with_len first n) (at ∷ []))
            ∙ ap (filter (λ k. not (test k))) (sym more);
      }

-- ---- numbers that are printed

-- in 4 bytes each
abbrev pub numbers_text : List ℕ → List ℕ
numbers_text xs = flat_map (to_be_bytes w32) xs

text-suc : (xs : List ℕ) (k x : ℕ) → k < length xs → x ≡ get_or xs k 0 → numbers_text (take (suc k) xs) ≡ numbers_text (take k xs) ++ to_be_bytes w32 x
text-suc [] k x below is = absurd (omega (arith, below))
text-suc (y ∷ xs) zero x below is = append-nil (to_be_bytes w32 y) ∙ ap (to_be_bytes w32) (sym is)
text-suc (y ∷ xs) (suc k) x below is =
    ap (λ (l : List ℕ). to_be_bytes w32 y ++ l) (text-suc xs k x (omega (arith, below)) is) ∙ sym (append_assoc (to_be_bytes w32 y) (numbers_text (take k xs)) (to_be_bytes w32 x))

pub text_next : (xs : List ℕ) (k x : ℕ) → k < length xs → x ≡ get_or xs k 0 → numbers_text (take (k + 1) xs) ≡ numbers_text (take k xs) ++ to_be_bytes w32 x
text_next xs k x below is = ap (λ (n : ℕ). numbers_text (take n xs)) (let next : k + 1 ≡ suc k = omega arith in next) ∙ text-suc xs k x below is

-- those before a number, its own, and those after it
pub text_around : (xs : List ℕ) (k x : ℕ) → k < length xs → x ≡ get_or xs k 0 → numbers_text xs ≡ (numbers_text (take k xs) ++ to_be_bytes w32 x) ++ numbers_text (drop (k + 1) xs)
text_around xs k x below is =
    ap numbers_text (sym (take-append-drop (k + 1) xs)) ∙ flat_map-append (to_be_bytes w32) (take (k + 1) xs) (drop (k + 1) xs)
    ∙ ap (λ (l : List ℕ). l ++ numbers_text (drop (k + 1) xs)) (text_next xs k x below is)

pub text_all : (xs : List ℕ) (k : ℕ) → length xs ≤ k → numbers_text (take k xs) ≡ numbers_text xs
text_all [] zero most = refl
text_all [] (suc k) most = refl
text_all (x ∷ xs) zero most = absurd (omega (arith, most))
text_all (x ∷ xs) (suc k) most = ap (λ (l : List ℕ). to_be_bytes w32 x ++ l) (text_all xs k (omega (arith, most)))

pub length-text : (xs : List ℕ) → length (numbers_text xs) ≡ 4 * length xs
length-text [] = refl
length-text (x ∷ xs) = let h = length-text xs in let l = length-append (to_be_bytes w32 x) (numbers_text xs) in let four : length (to_be_bytes w32 x) ≡ 4 = refl in omega (arith, h, l, four)

-- ---- the reply

-- numbers of damaged blocks are that of the range
pub range_reply : (reveals : Type 0) (v : Opened) (c : Files) (message : Message) (first count : ℕ) (numbers : List ℕ) → AreDamaged reveals v c first count numbers → IsReplyOfRange reveals v c message first count 0 (reply message 0 (numbers_body numbers))
range_reply reveals v c message first count numbers are = (are.intact, are.by, refl, ap (λ (xs : List ℕ). reply message 0 (numbers_body xs)) are.are)

pub length-range_reply : (message : Message) (numbers : List ℕ) → length (reply message 0 (numbers_body numbers)) ≡ 6 + 4 * length numbers
length-range_reply message numbers =
    let l = length-append (to_be_bytes w32 (length numbers)) (numbers_text numbers) in
    let four : length (to_be_bytes w32 (length numbers)) ≡ 4 = refl in
    let t = length-text numbers in
    let two : length (reply message 0 (numbers_body numbers)) ≡ suc (suc (length (numbers_body numbers))) = refl in
    omega (arith, l, four, t, two)

-- ---- the reply of a session

module _ (w : Work) (m : Machine) (keeps : KeepsMachine w m) (message : Message) (first count : ℕ) (kind : message ≡ Patrol first count) where
  answer_is : (b : Bool) → has_range w.ledger first count ≡ b → (step w.ledger.shape m message).answer ≡ (if b then stays m (Patrols first count) else stays m BadRange).answer
  answer_is b is =
      ap (λ (x : Message). (step w.ledger.shape m x).answer) kind
      ∙ ap (λ (n : ℕ). (if nat_le 1 count && nat_le count greatest_patrol && nat_le (first + count) (n * (1 + w.ledger.shape.alpha)) then stays m (Patrols first count) else stays m BadRange).answer) keeps.datas
      ∙ ap (λ (x : Bool). (if x then stays m (Patrols first count) else stays m BadRange).answer) is

  pub bad_reply : (reveals : Type 0) (c : Files) → has_range w.ledger first count ≡ false → IsReplyTo reveals w.ledger m c message 11 (reply message 11 [])
  bad_reply reveals c none =
      subst (λ (x : Answer). IsReply reveals (IsPayload reveals w.ledger.shape w.ledger.digests c) w.ledger.shape (length m.datas) w.ledger.digests c message x 11 (reply message 11 []))
      (sym (answer_is false none)) (refl, refl)

  pub bad_room : (room : ℕ) → has_range w.ledger first count ≡ false → greatest_reply (step w.ledger.shape m message).answer ≤ room → 2 ≤ room
  bad_room room none enough = subst (λ (x : Answer). greatest_reply x ≤ room) (answer_is false none) enough

  pub range_room : (room : ℕ) → has_range w.ledger first count ≡ true → greatest_reply (step w.ledger.shape m message).answer ≤ room → 6 + 4 * count ≤ room
  range_room room has enough = subst (λ (x : Answer). greatest_reply x ≤ room) (answer_is true has) enough

  pub range_to : (reveals : Type 0) (c : Files) (n code : ℕ) (bytes : List ℕ) → has_range w.ledger first count ≡ true → n ≡ count → IsReplyOfRange reveals w.ledger c message first n code bytes → IsReplyTo reveals w.ledger m c message code bytes
  range_to reveals c n code bytes has is one =
      subst (λ (x : Answer). IsReply reveals (IsPayload reveals w.ledger.shape w.ledger.digests c) w.ledger.shape (length m.datas) w.ledger.digests c message x code bytes)
      (sym (answer_is true has))
      (subst (λ (k : ℕ). IsRangeReply reveals w.ledger.shape k w.ledger.digests c message first count code bytes) (sym keeps.datas)
      (subst (λ (k : ℕ). IsReplyOfRange reveals w.ledger c message first k code bytes) is one))

module _ (reveals : Type 0) (w : Work) (c : Files) (message : Message) (first count : ℕ) (kind : message ≡ Patrol first count) (has : has_range w.ledger first count ≡ true) (n : ℕ) (is : n ≡ count) (a b : SinkState) (result : Result ℕ TakeFault) where
  pub session_range : IfOk result (λ code. Replies (IsReplyOfRange reveals w.ledger c message first n code) a b)
      → IfOk result (λ code. (m : Machine) → KeepsMachine w m → Replies (IsReplyTo reveals w.ledger m c message code) a b)
  session_range one =
      ok_as result (λ code. Replies (IsReplyOfRange reveals w.ledger c message first n code) a b)
      (λ code. (m : Machine) → KeepsMachine w m → Replies (IsReplyTo reveals w.ledger m c message code) a b)
      (λ code r m keeps. (r.0, range_to w m keeps message first count kind reveals c n code r.0 has is r.1, r.2, r.3)) one

  pub session_range_part : (P : Type 0) → IfErr result (λ fault. P ⊎ RepliesPart (λ bytes. (code : ℕ) × IsReplyOfRange reveals w.ledger c message first n code bytes) a b)
      → IfErr result (λ fault. (m : Machine) → KeepsMachine w m → P ⊎ RepliesPart (MayBegin reveals w.ledger m c message) a b)
  session_range_part P one =
      err_with result (λ fault. P ⊎ RepliesPart (λ bytes. (code : ℕ) × IsReplyOfRange reveals w.ledger c message first n code bytes) a b)
      (λ fault. (m : Machine) → KeepsMachine w m → P ⊎ RepliesPart (MayBegin reveals w.ledger m c message) a b)
      (λ fault either m keeps.
      ⊎_elim (λ (none : P). inl none)
      (λ (r : RepliesPart (λ bytes. (code : ℕ) × IsReplyOfRange reveals w.ledger c message first n code bytes) a b).
      inr (r.0, inl (r.1.0, range_to w m keeps message first count kind reveals c n r.1.0 r.0 has is r.1.1), r.2)) either) one
