-- What stays so from image to image over calls, and which image gives what another had: the lemmas by which a client composes its calls.
use Rattle.std.proofs.Common.{◌≡◌, ◌↔◌, ⊎_elim, ℕ, sym, subst, arith}
use Rattle.std.proofs.lemmas.Bool.{cases_lt}
use Rattle.aea_disk.specs.Files.{Files}
use Rattle.aea_disk.specs.State.{State, Passes, Follows, KeepsImages, Settles, During, Stays, SomeGivesEvery, HasEarlier}

-- a fact that means the same
pub stays_same : (old new : State) (P Q : Files → Type 0) → ((c : Files) → P c → Q c) → ((c : Files) → Q c → P c) → Stays old new P → Stays old new Q
stays_same old new P Q there back stays t u from later to every c here = there c (stays t u from later to (λ d was. back d (every d was)) c here)

-- a fact that means the same on the images of the call
pub stays_same_during : (old new : State) (P Q : Files → Type 0) → During old new (λ c. P c ↔ Q c) → Stays old new P → Stays old new Q
stays_same_during old new P Q same stays t u from later to every c here =
    (same u c (omega arith) to here).0 (stays t u from later to (λ d was. (same t d from (omega arith) was).1 (every d was)) c here)

-- a fact that every image has at each moment stays
pub stays_during : (old new : State) (P : Files → Type 0) → During old new P → Stays old new P
stays_during old new P during t u from later to every c here = during u c (omega arith) to here

-- one call, whose step keeps the fact
pub stays_step : (step : Files → Files → Type 0) (old new : State) (P : Files → Type 0) → Follows step old new → Settles old new → ((d c : Files) → old.image old.moment d → P d → step d c → P c) → Passes old new → Stays old new P
stays_step step old new P follows settles keeps passes t u from later to every c here =
    ⊎_elim
    (λ after. every c (settles t u c after later to here))
    (λ entry.
    let is : t ≡ old.moment = omega arith in
    let was = follows u c (omega arith) to here in
    let then = subst (λ (m : ℕ). new.image m was.0) (sym is) ((passes.keeps old.moment was.0 (omega arith)).1 was.1) in
    keeps was.0 c was.1 (every was.0 then) was.2)
    (cases_lt old.moment t)

-- one call that keeps the images
pub stays_kept : (old new : State) (P : Files → Type 0) → KeepsImages old new → Settles old new → Passes old new → Stays old new P
stays_kept old new P keeps settles passes t u from later to every c here =
    ⊎_elim
    (λ after. every c (settles t u c after later to here))
    (λ entry.
    let is : t ≡ old.moment = omega arith in
    every c (subst (λ (m : ℕ). new.image m c) (sym is) ((passes.keeps old.moment c (omega arith)).1 (keeps u c (omega arith) to here))))
    (cases_lt old.moment t)

-- no call
pub stays_none : (s : State) (P : Files → Type 0) → Stays s s P
stays_none s P t u from later to every c here = let is : u ≡ t = omega arith in every c (subst (λ (m : ℕ). s.image m c) is here)

-- two runs, one after the other
pub stays_both : (old mid new : State) (P : Files → Type 0) → Passes old mid → Passes mid new → Stays old mid P → Stays mid new P → Stays old new P
stays_both old mid new P first second early late t u from later to every c here =
    let keeps = second.keeps in
    let before = first.later in
    ⊎_elim
    (λ both. early t u from later (omega arith) (λ d was. every d ((keeps t d (omega arith)).1 was)) c ((keeps u c (omega arith)).0 here))
    (λ past. ⊎_elim
    (λ between.
    let at_middle = early t mid.moment from (omega arith) (omega arith) (λ d was. every d ((keeps t d (omega arith)).1 was)) in
    late mid.moment u (omega arith) (omega arith) to (λ d was. at_middle d ((keeps mid.moment d (omega arith)).0 was)) c here)
    (λ after. late t u (omega arith) later to every c here)
    (cases_lt t mid.moment))
    (cases_lt u mid.moment)

-- where no image has the fact, it stays
pub stays_never : (old new : State) (P : Files → Type 0) → HasEarlier old new → During old new (λ c. P c → ⊥) → Stays old new P
stays_never old new P earlier never t u from later to every c here =
    let was = earlier t u c from later to here in absurd (never t was.0 from (omega arith) was.1 (every was.0 was.1))

-- no call
pub earlier_none : (s : State) → HasEarlier s s
earlier_none s t u c from later to here = let is : u ≡ t = omega arith in (c, subst (λ (m : ℕ). s.image m c) is here)

-- one call
pub earlier_step : (step : Files → Files → Type 0) (old new : State) → Follows step old new → Settles old new → Passes old new → HasEarlier old new
earlier_step step old new follows settles passes t u c from later to here =
    ⊎_elim
    (λ after. (c, settles t u c after later to here))
    (λ entry.
    let is : t ≡ old.moment = omega arith in
    let was = follows u c (omega arith) to here in
    (was.0, subst (λ (m : ℕ). new.image m was.0) (sym is) ((passes.keeps old.moment was.0 (omega arith)).1 was.1)))
    (cases_lt old.moment t)

-- one call that keeps the images
pub earlier_kept : (old new : State) → KeepsImages old new → Settles old new → Passes old new → HasEarlier old new
earlier_kept old new keeps settles passes t u c from later to here =
    ⊎_elim
    (λ after. (c, settles t u c after later to here))
    (λ entry.
    let is : t ≡ old.moment = omega arith in
    (c, subst (λ (m : ℕ). new.image m c) (sym is) ((passes.keeps old.moment c (omega arith)).1 (keeps u c (omega arith) to here))))
    (cases_lt old.moment t)

-- two runs, one after the other
pub earlier_both : (old mid new : State) → Passes old mid → Passes mid new → HasEarlier old mid → HasEarlier mid new → HasEarlier old new
earlier_both old mid new first second early late t u c from later to here =
    let keeps = second.keeps in
    let before = first.later in
    ⊎_elim
    (λ both.
    let was = early t u c from later (omega arith) ((keeps u c (omega arith)).0 here) in
    (was.0, (keeps t was.0 (omega arith)).1 was.1))
    (λ past. ⊎_elim
    (λ between.
    let at_middle = late mid.moment u c (omega arith) (omega arith) to here in
    let was = early t mid.moment at_middle.0 from (omega arith) (omega arith) ((keeps mid.moment at_middle.0 (omega arith)).0 at_middle.1) in
    (was.0, (keeps t was.0 (omega arith)).1 was.1))
    (λ after. late t u c (omega arith) later to here)
    (cases_lt t mid.moment))
    (cases_lt u mid.moment)

-- every image has B
pub gives_every : (old new : State) (A B : Files → Type 0) → During old new B → SomeGivesEvery old new A B
gives_every old new A B every t from to c d here has there = every t d from to there

-- no image has A
pub gives_none : (old new : State) (A B : Files → Type 0) → During old new (λ c. A c → ⊥) → SomeGivesEvery old new A B
gives_none old new A B none t from to c d here has there = absurd (none t c from to here has)

-- two runs, one after the other
pub gives_both : (old mid new : State) (A B : Files → Type 0) → Passes old mid → Passes mid new → SomeGivesEvery old mid A B → SomeGivesEvery mid new A B → SomeGivesEvery old new A B
gives_both old mid new A B first second early late t from to c d here has there =
    ⊎_elim
    (λ before.
    let same = λ (e : Files). second.keeps t e (omega arith) in
    early t from (omega arith) c d ((same c).0 here) has ((same d).0 there))
    (λ after. late t (omega arith) to c d here has there)
    (cases_lt t mid.moment)
