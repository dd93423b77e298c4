-- How stretches in which records are added go on: where none is added, where one is appended, and two of them one after the
-- other. They rest on the law that each file has one reading.
use Rattle.std.proofs.Common.{◌≡◌, ⊎_elim, ℕ, zero, suc, ◌+◌, ◌-◌, ◌≤◌, List, [], ◌∷◌, ◌++◌, length, take, refl, sym, ◌∙◌, ap, subst, arith, length-append, append_assoc}
use Rattle.std.proofs.lemmas.Bool.{cases_lt}
use Rattle.std.proofs.lemmas.List.{length-take, append-nil}
use Rattle.aea_lattice.specs.declared.blocks.BlockId.{BlockId}
use Rattle.aea_lattice.specs.declared.shape.Shape.{Shape}
use Rattle.aea_lattice.specs.Shapes.{IsBlockOf}
use Rattle.aea_envelope.specs.Cells.{cell_of}
use Rattle.aea_disk.specs.Files.{Files}
use Rattle.aea_disk.specs.State.{State, Passes, EveryImage, During, Stays, SomeGivesEvery, HasEarlier, KeepsOthers}
use Rattle.aea_disk.proofs.Moments.{during_both, during_more, held_by_others}
use Rattle.aea_disk.proofs.Stays.{stays_both, stays_during, stays_same, stays_never, gives_none, gives_every, gives_both}
use Rattle.aea_shelf.specs.Places.{cell_size, home_file, home_place, HasAtHome}
use Rattle.aea_shelf.specs.Writes.{KeepsShelf}
use Rattle.aea_shelf.proofs.Runs.{during_shelf, no_home_in_ledger}
use Rattle.aea_records.specs.Format.{Record, nodes_of}
use Rattle.aea_records.specs.Grammar.{IsLedger}
use Rattle.aea_records.specs.Laws.{HasOneReading}
use Rattle.aea_records.proofs.OneMore.{nodes_of-append}
use Rattle.aea_ledger.specs.Stops.{HasLedger, HasOldOrNew}
use Rattle.aea_ledger.specs.Values.{Opened}
use Rattle.aea_ledger.specs.Next.{AreItsRecords}
use Rattle.aea_archive.specs.Blocks.{IsBlockOn, IsBlockIn}
use Rattle.aea_archive.specs.Stretches.{HasAtLeast, HasPrefix, Adds}

-- ---- records in order

take_front : (xs ys : List Record) (k : ℕ) → k ≤ length xs → take k (xs ++ ys) ≡ take k xs
take_front xs ys zero few = refl
take_front [] ys (suc k) few = absurd (omega arith)
take_front (x ∷ xs) ys (suc k) few = ap (λ (l : List Record). x ∷ l) (take_front xs ys k (omega arith))

take_back : (xs ys : List Record) (k : ℕ) → take (length xs + k) (xs ++ ys) ≡ xs ++ take k ys
take_back [] ys k = let e : 0 + k ≡ k = omega arith in ap (λ (n : ℕ). take n ys) e
take_back (x ∷ xs) ys k =
    let e : length (x ∷ xs) + k ≡ suc (length xs + k) = omega arith in
    ap (λ (n : ℕ). take n (x ∷ (xs ++ ys))) e ∙ ap (λ (l : List Record). x ∷ l) (take_back xs ys k)

take_all : (xs : List Record) → take (length xs) xs ≡ xs
take_all [] = refl
take_all (x ∷ xs) = ap (λ (l : List Record). x ∷ l) (take_all xs)

-- fewer records have no more nodes
nodes_take : (records xs : List Record) (k : ℕ) → nodes_of (records ++ take k xs) ≤ nodes_of (records ++ xs)
nodes_take records xs zero = omega (arith, nodes_of-append records (take 0 xs), nodes_of-append records xs)
nodes_take records [] (suc k) = omega arith
nodes_take records (x ∷ xs) (suc k) =
    let rest = nodes_take (records ++ x ∷ []) xs k in
    let one = ap nodes_of (append_assoc records (x ∷ []) (take k xs)) in
    let two = ap nodes_of (append_assoc records (x ∷ []) xs) in
    omega (arith, rest, one, two)

-- ---- what a file has

-- the ledger without any of the added records
pub at_none : (shape : Shape) (records added : List Record) (k : ℕ) (bytes : List ℕ) → k ≡ 0 → HasLedger shape records bytes → HasAtLeast shape records added k bytes
at_none shape records added k bytes none has = record {
  count = 0;
  enough = omega (arith, none);
  within = omega arith;
  ledger = subst (λ (l : List Record). HasLedger shape l bytes) (sym (append-nil records)) has;
}

-- the ledger with all of them
pub at_all : (shape : Shape) (records added : List Record) (k : ℕ) (bytes : List ℕ) → k ≤ length added → HasLedger shape (records ++ added) bytes → HasAtLeast shape records added k bytes
at_all shape records added k bytes few has = record {
  count = length added;
  enough = few;
  within = omega arith;
  ledger = subst (λ (l : List Record). HasLedger shape (records ++ l) bytes) (sym (take_all added)) has;
}

-- and back
pub all_at : (shape : Shape) (records added : List Record) (k : ℕ) (bytes : List ℕ) → k ≡ length added → HasAtLeast shape records added k bytes → HasLedger shape (records ++ added) bytes
all_at shape records added k bytes all has =
    let is : has.count ≡ length added = let a = has.enough in let b = has.within in omega (arith, all, a, b) in
    subst (λ (l : List Record). HasLedger shape (records ++ l) bytes) (ap (λ (n : ℕ). take n added) is ∙ take_all added) has.ledger

-- fewer of them
pub at_less : (shape : Shape) (records added : List Record) (k m : ℕ) (bytes : List ℕ) → m ≤ k → HasAtLeast shape records added k bytes → HasAtLeast shape records added m bytes
at_less shape records added k m bytes fewer has = record { count = has.count; enough = (let a = has.enough in omega (arith, fewer, a)); within = has.within; ledger = has.ledger }

-- a file that has the records has none of the added ones
pub not_more : HasOneReading → (shape : Shape) (records added : List Record) (k : ℕ) (bytes : List ℕ) → 1 ≤ k → HasLedger shape records bytes → HasAtLeast shape records added k bytes → ⊥
not_more one shape records added k bytes some old new =
    let same = one bytes shape shape records (records ++ take new.count added) _ _ old new.ledger in
    let e : length records ≡ length (records ++ take new.count added) = ap length same.1.0 in
    let a = new.enough in
    let b = new.within in
    omega (arith, e, length-append records (take new.count added), length-take new.count added, a, b, some)

-- the bytes that an opened ledger was read from have its records
pub has_ledger : (v : Opened) (records : List Record) (bytes : List ℕ) → AreItsRecords v records bytes → HasLedger v.shape records bytes
has_ledger v records bytes its = subst (IsLedger bytes v.shape records) its.has.end its.ledger

-- ---- a stretch in which nothing is added

-- every image has the old records
pub adds_nothing : HasOneReading → (shape : Shape) (records added : List Record) (payload : BlockId → List ℕ) (old new : State) → HasEarlier old new
    → During old new (λ c. HasLedger shape records (c 0)) → HasLedger shape records (new.files 0) → Adds shape records added payload old new
adds_nothing one shape records added payload old new earlier during reads = record {
  prefix = during_more old new (λ c. HasLedger shape records (c 0)) (λ c. HasPrefix shape records added (c 0)) (λ c has. at_none shape records added 0 (c 0) refl has) during;
  reads = at_none shape records added 0 (new.files 0) refl reads;
  stays = λ k few. ⊎_elim
      (λ none.
      stays_during old new (λ c. HasAtLeast shape records added k (c 0))
      (during_more old new (λ c. HasLedger shape records (c 0)) (λ c. HasAtLeast shape records added k (c 0)) (λ c has. at_none shape records added k (c 0) (omega (arith, none)) has) during))
      (λ some.
      stays_never old new (λ c. HasAtLeast shape records added k (c 0)) earlier
      (λ t c from to here has. not_more one shape records added k (c 0) some (during t c from to here) has))
      (cases_lt k 1);
  held = λ k b few on. ⊎_elim
      (λ none.
      let is : k ≡ 0 = omega (arith, none) in
      let on_none : IsBlockOn shape (nodes_of records) (nodes_of (records ++ take 0 added)) b = subst (λ (n : ℕ). IsBlockOn shape (nodes_of records) (nodes_of (records ++ take n added)) b) is on in
      absurd (let a = on_none.after in let m = on_none.most in omega (arith, a, m, ap nodes_of (append-nil records))))
      (λ some.
      gives_none old new (λ c. HasAtLeast shape records added k (c 0)) (HasAtHome shape b (cell_of b (payload b)))
      (λ t c from to here has. not_more one shape records added k (c 0) some (during t c from to here) has))
      (cases_lt k 1);
}

-- ---- a record that is appended

-- every image has the cells of its blocks before it
pub adds_append : (reveals : Type 0) (shape : Shape) (records : List Record) (r : Record) (payload : BlockId → List ℕ) (old new : State)
    → ((b : BlockId) → IsBlockOn shape (nodes_of records) (nodes_of (records ++ r ∷ [])) b → EveryImage old (HasAtHome shape b (cell_of b (payload b))))
    → During old new (λ c. HasOldOrNew shape records r (c 0)) → HasOldOrNew shape records r (new.files 0)
    → Stays old new (λ c. HasLedger shape (records ++ r ∷ []) (c 0)) → KeepsOthers reveals 0 old new
    → Adds shape records (r ∷ []) payload old new
adds_append reveals shape records r payload old new stands during reads stays others =
    let prefix_of : (bytes : List ℕ) → HasOldOrNew shape records r bytes → HasPrefix shape records (r ∷ []) bytes =
    λ bytes has. ⊎_elim (λ before. at_none shape records (r ∷ []) 0 bytes refl before) (λ after. at_all shape records (r ∷ []) 0 bytes (omega arith) after) has in
    let prefix : During old new (λ c. HasPrefix shape records (r ∷ []) (c 0)) =
    during_more old new (λ c. HasOldOrNew shape records r (c 0)) (λ c. HasPrefix shape records (r ∷ []) (c 0)) (λ c has. prefix_of (c 0) has) during in
    record {
      prefix = prefix;
      reads = prefix_of (new.files 0) reads;
      stays = λ k few. ⊎_elim
          (λ none.
          stays_during old new (λ c. HasAtLeast shape records (r ∷ []) k (c 0))
          (during_more old new (λ c. HasPrefix shape records (r ∷ []) (c 0)) (λ c. HasAtLeast shape records (r ∷ []) k (c 0)) (λ c has. at_less shape records (r ∷ []) 0 k (c 0) (omega (arith, none)) has) prefix))
          (λ some.
          stays_same old new (λ c. HasLedger shape (records ++ r ∷ []) (c 0)) (λ c. HasAtLeast shape records (r ∷ []) k (c 0))
          (λ c has. at_all shape records (r ∷ []) k (c 0) few has)
          (λ c has. all_at shape records (r ∷ []) k (c 0) (omega (arith, few, some)) has)
          stays)
          (cases_lt k 1);
      held = λ k b few on.
          gives_every old new (λ c. HasAtLeast shape records (r ∷ []) k (c 0)) (HasAtHome shape b (cell_of b (payload b)))
          (held_by_others reveals 0 old new (home_file shape b) (home_place shape b) (cell_of b (payload b)) (no_home_in_ledger shape b) others
          (stands b (record { after = on.after; most = (let m = on.most in omega (arith, m, nodes_take records (r ∷ []) k)); used = on.used })));
    }

-- ---- two stretches, one after the other

-- the first of two lists of added records
at_front : (shape : Shape) (records xs ys : List Record) (k : ℕ) (bytes : List ℕ) → HasAtLeast shape records xs k bytes → HasAtLeast shape records (xs ++ ys) k bytes
at_front shape records xs ys k bytes has = record {
  count = has.count;
  enough = has.enough;
  within = (let w = has.within in omega (arith, w, length-append xs ys));
  ledger = subst (λ (l : List Record). HasLedger shape (records ++ l) bytes) (sym (take_front xs ys has.count has.within)) has.ledger;
}

back_is : (records xs ys : List Record) (k : ℕ) → (records ++ xs) ++ take k ys ≡ records ++ take (length xs + k) (xs ++ ys)
back_is records xs ys k = append_assoc records xs (take k ys) ∙ ap (λ (l : List Record). records ++ l) (sym (take_back xs ys k))

-- the second
at_back : (shape : Shape) (records xs ys : List Record) (k m : ℕ) (bytes : List ℕ) → m ≤ length xs + k → HasAtLeast shape (records ++ xs) ys k bytes → HasAtLeast shape records (xs ++ ys) m bytes
at_back shape records xs ys k m bytes few has = record {
  count = length xs + has.count;
  enough = (let a = has.enough in omega (arith, few, a));
  within = (let w = has.within in omega (arith, w, length-append xs ys));
  ledger = subst (λ (l : List Record). HasLedger shape l bytes) (back_is records xs ys has.count) has.ledger;
}

back_at : (shape : Shape) (records xs ys : List Record) (k m : ℕ) (bytes : List ℕ) → m ≡ length xs + k → HasAtLeast shape records (xs ++ ys) m bytes → HasAtLeast shape (records ++ xs) ys k bytes
back_at shape records xs ys k m bytes is has =
    let a = has.enough in
    let w = has.within in
    let rest : has.count ≡ length xs + (has.count - length xs) = omega (arith, is, a) in
    record {
      count = has.count - length xs;
      enough = omega (arith, is, a);
      within = omega (arith, w, length-append xs ys);
      ledger = subst (λ (l : List Record). HasLedger shape l bytes) (sym (back_is records xs ys (has.count - length xs)))
          (subst (λ (n : ℕ). HasLedger shape (records ++ take n (xs ++ ys)) bytes) rest has.ledger);
    }

-- one file has one number of added records
same_count : HasOneReading → (shape : Shape) (records xs ys : List Record) (i j : ℕ) (bytes : List ℕ) → i ≤ length xs → j ≤ length ys → HasLedger shape (records ++ take i xs) bytes → HasLedger shape (records ++ take j ys) bytes → i ≡ j
same_count one shape records xs ys i j bytes few many first second =
    let same = one bytes shape shape (records ++ take i xs) (records ++ take j ys) _ _ first second in
    let e : length (records ++ take i xs) ≡ length (records ++ take j ys) = ap length same.1.0 in
    omega (arith, e, length-append records (take i xs), length-append records (take j ys), length-take i xs, length-take j ys)

-- a file with a prefix of the first list has no more than that
front_at : HasOneReading → (shape : Shape) (records xs ys : List Record) (k : ℕ) (bytes : List ℕ) → HasPrefix shape records xs bytes → HasAtLeast shape records (xs ++ ys) k bytes → HasAtLeast shape records xs k bytes
front_at one shape records xs ys k bytes prefix has =
    let is : prefix.count ≡ has.count = same_count one shape records xs (xs ++ ys) prefix.count has.count bytes prefix.within has.within prefix.ledger has.ledger in
    record {
      count = prefix.count;
      enough = (let a = has.enough in omega (arith, is, a));
      within = prefix.within;
      ledger = prefix.ledger;
    }

-- facts that mean the same of what every image has
stays_where : (old new : State) (A P Q : Files → Type 0) → During old new A → ((c : Files) → A c → P c → Q c) → ((c : Files) → A c → Q c → P c) → Stays old new P → Stays old new Q
stays_where old new A P Q during there back stays t u from later to every c here =
    there c (during u c (omega arith) to here) (stays t u from later to (λ d was. back d (during t d from (omega arith) was) (every d was)) c here)

gives_where : (old new : State) (A P Q B : Files → Type 0) → During old new A → ((c : Files) → A c → Q c → P c) → SomeGivesEvery old new P B → SomeGivesEvery old new Q B
gives_where old new A P Q B during back gives t from to c d here has there = gives t from to c d here (back c (during t c from to here) has) there

-- The records of both stretches, where all of the first are there between them. Their payloads are given by one function.
pub adds_both : HasOneReading → (reveals : Type 0) (shape : Shape) (records xs ys : List Record) (payload : BlockId → List ℕ) (old mid new : State)
    → Passes old mid → Passes mid new → HasEarlier old mid
    → Adds shape records xs payload old mid
    → EveryImage mid (λ c. HasLedger shape (records ++ xs) (c 0))
    → ((b : BlockId) → IsBlockOn shape (nodes_of records) (nodes_of (records ++ xs)) b → IsBlockOf shape b × (length (cell_of b (payload b)) ≤ cell_size shape))
    → KeepsShelf reveals shape (IsBlockIn shape (nodes_of (records ++ xs))) mid new
    → Adds shape (records ++ xs) ys payload mid new
    → Adds shape records (xs ++ ys) payload old new
adds_both one reveals shape records xs ys payload old mid new t1 t2 earlier first all blocks shelf second =
    let l1 = t1.later in
    let all_xs : (c : Files) → mid.image mid.moment c → HasAtLeast shape records xs (length xs) (c 0) =
    λ c here. at_all shape records xs (length xs) (c 0) (omega arith) (all c here) in
    let stands : (b : BlockId) → IsBlockOn shape (nodes_of records) (nodes_of (records ++ xs)) b → EveryImage mid (HasAtHome shape b (cell_of b (payload b))) =
    λ b on d there. first.held (length xs) b (omega arith) (subst (λ (l : List Record). IsBlockOn shape (nodes_of records) (nodes_of (records ++ l)) b) (sym (take_all xs)) on) mid.moment l1 (omega arith) d d there (all_xs d there) there in
    let kept_on : (b : BlockId) → IsBlockOn shape (nodes_of records) (nodes_of (records ++ xs)) b → (A : Files → Type 0) → SomeGivesEvery mid new A (HasAtHome shape b (cell_of b (payload b))) =
    λ b on A. gives_every mid new A (HasAtHome shape b (cell_of b (payload b)))
    (during_shelf reveals shape (IsBlockIn shape (nodes_of (records ++ xs))) mid new b (cell_of b (payload b)) (blocks b on).0 (record { after = (let a = on.after in omega (arith, a)); most = on.most; used = on.used }) (blocks b on).1 shelf (stands b on)) in
    let after : (k : ℕ) → k ≤ length xs → During mid new (λ c. HasAtLeast shape records (xs ++ ys) k (c 0)) =
    λ k few. during_more mid new (λ c. HasPrefix shape (records ++ xs) ys (c 0)) (λ c. HasAtLeast shape records (xs ++ ys) k (c 0)) (λ c has. at_back shape records xs ys 0 k (c 0) (omega (arith, few)) has) second.prefix in
    record {
      prefix = during_both old mid new (λ c. HasPrefix shape records (xs ++ ys) (c 0)) t1 t2
          (during_more old mid (λ c. HasPrefix shape records xs (c 0)) (λ c. HasPrefix shape records (xs ++ ys) (c 0)) (λ c has. at_front shape records xs ys 0 (c 0) has) first.prefix)
          (after 0 (omega arith));
      reads = at_back shape records xs ys 0 0 (new.files 0) (omega arith) second.reads;
      stays = λ k few. ⊎_elim
          (λ past.
          -- of the second list
          let back : k ≡ length xs + (k - length xs) = omega (arith, past) in
          stays_both old mid new (λ c. HasAtLeast shape records (xs ++ ys) k (c 0)) t1 t2
          (stays_never old mid (λ c. HasAtLeast shape records (xs ++ ys) k (c 0)) earlier
          (λ t c from to here has.
          let short = front_at one shape records xs ys k (c 0) (first.prefix t c from to here) has in
          let a = short.enough in
          let w = short.within in
          omega (arith, past, a, w)))
          (stays_same mid new (λ c. HasAtLeast shape (records ++ xs) ys (k - length xs) (c 0)) (λ c. HasAtLeast shape records (xs ++ ys) k (c 0))
          (λ c has. at_back shape records xs ys (k - length xs) k (c 0) (omega (arith, back)) has)
          (λ c has. back_at shape records xs ys (k - length xs) k (c 0) back has)
          (second.stays (k - length xs) (omega (arith, few, length-append xs ys)))))
          (λ within.
          -- of the first
          stays_both old mid new (λ c. HasAtLeast shape records (xs ++ ys) k (c 0)) t1 t2
          (stays_where old mid (λ c. HasPrefix shape records xs (c 0)) (λ c. HasAtLeast shape records xs k (c 0)) (λ c. HasAtLeast shape records (xs ++ ys) k (c 0)) first.prefix
          (λ c prefix has. at_front shape records xs ys k (c 0) has)
          (λ c prefix has. front_at one shape records xs ys k (c 0) prefix has)
          (first.stays k within))
          (stays_during mid new (λ c. HasAtLeast shape records (xs ++ ys) k (c 0)) (after k within)))
          (cases_lt (length xs) k);
      held = λ k b few on. ⊎_elim
          (λ past.
          -- on nodes of the first list, or of the second
          let back : k ≡ length xs + (k - length xs) = omega (arith, past) in
          let nodes : nodes_of (records ++ take k (xs ++ ys)) ≡ nodes_of ((records ++ xs) ++ take (k - length xs) ys) =
          ap (λ (n : ℕ). nodes_of (records ++ take n (xs ++ ys))) back ∙ ap nodes_of (sym (back_is records xs ys (k - length xs))) in
          gives_both old mid new (λ c. HasAtLeast shape records (xs ++ ys) k (c 0)) (HasAtHome shape b (cell_of b (payload b))) t1 t2
          (gives_none old mid (λ c. HasAtLeast shape records (xs ++ ys) k (c 0)) (HasAtHome shape b (cell_of b (payload b)))
          (λ t c from to here has.
          let short = front_at one shape records xs ys k (c 0) (first.prefix t c from to here) has in
          let a = short.enough in
          let w = short.within in
          omega (arith, past, a, w)))
          (⊎_elim
          (λ new_node.
          gives_where mid new (λ c. HasPrefix shape (records ++ xs) ys (c 0)) (λ c. HasAtLeast shape (records ++ xs) ys (k - length xs) (c 0)) (λ c. HasAtLeast shape records (xs ++ ys) k (c 0)) (HasAtHome shape b (cell_of b (payload b))) second.prefix
          (λ c prefix has. back_at shape records xs ys (k - length xs) k (c 0) back has)
          (second.held (k - length xs) b (omega (arith, few, length-append xs ys)) (record { after = new_node; most = (let m = on.most in omega (arith, m, nodes)); used = on.used })))
          (λ old_node. kept_on b (record { after = on.after; most = old_node; used = on.used }) (λ c. HasAtLeast shape records (xs ++ ys) k (c 0)))
          (cases_lt (nodes_of (records ++ xs)) b.node)))
          (λ within.
          let nodes : nodes_of (records ++ take k (xs ++ ys)) ≡ nodes_of (records ++ take k xs) = ap (λ (l : List Record). nodes_of (records ++ l)) (take_front xs ys k within) in
          let on_xs : IsBlockOn shape (nodes_of records) (nodes_of (records ++ take k xs)) b = record { after = on.after; most = (let m = on.most in omega (arith, m, nodes)); used = on.used } in
          gives_both old mid new (λ c. HasAtLeast shape records (xs ++ ys) k (c 0)) (HasAtHome shape b (cell_of b (payload b))) t1 t2
          (gives_where old mid (λ c. HasPrefix shape records xs (c 0)) (λ c. HasAtLeast shape records xs k (c 0)) (λ c. HasAtLeast shape records (xs ++ ys) k (c 0)) (HasAtHome shape b (cell_of b (payload b))) first.prefix
          (λ c prefix has. front_at one shape records xs ys k (c 0) prefix has)
          (first.held k b within on_xs))
          (kept_on b (record { after = on_xs.after; most = (let m = on_xs.most in omega (arith, m, nodes_take records xs k)); used = on_xs.used }) (λ c. HasAtLeast shape records (xs ++ ys) k (c 0))))
          (cases_lt (length xs) k);
    }

-- A stretch that adds nothing, and then one that adds: the records of the second.
pub adds_later : HasOneReading → (reveals : Type 0) (shape : Shape) (records ys : List Record) (payload : BlockId → List ℕ) (old mid new : State)
    → Passes old mid → Passes mid new → HasEarlier old mid
    → During old mid (λ c. HasLedger shape records (c 0)) → HasLedger shape records (mid.files 0)
    → KeepsShelf reveals shape (IsBlockIn shape (nodes_of records)) mid new
    → Adds shape records ys payload mid new → Adds shape records ys payload old new
adds_later one reveals shape records ys payload old mid new t1 t2 earlier during reads shelf second =
    let l1 = t1.later in
    let nil : records ++ [] ≡ records = append-nil records in
    adds_both one reveals shape records [] ys payload old mid new t1 t2 earlier (adds_nothing one shape records [] payload old mid earlier during reads)
    (λ c here. subst (λ (l : List Record). HasLedger shape l (c 0)) (sym nil) (during mid.moment c l1 (omega arith) here))
    (λ b on. absurd (let a = on.after in let m = on.most in omega (arith, a, m, ap nodes_of nil)))
    (subst (λ (l : List Record). KeepsShelf reveals shape (IsBlockIn shape (nodes_of l)) mid new) (sym nil) shelf)
    (subst (λ (l : List Record). Adds shape l ys payload mid new) (sym nil) second)
