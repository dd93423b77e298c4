-- The reply to a read: the two passes over the data blocks of an object.
use Rattle.std.proofs.Common.{◌≡◌, ◌≢◌, ◌⊎◌, ⊎_elim, inl, inr, ℕ, zero, suc, ◌+◌, ◌≤◌, List, [], ◌++◌, length, take, Option, Some, None, Result, Ok, Err, refl, sym, ◌∙◌, ap, subst, arith, length-append}
use Rattle.std.specs.Prelude.{IfOk, IfErr, OnOk, option_map}
use Rattle.std.specs.FinMap.{get}
use Rattle.std.specs.Int.{w32, w64, to_be_bytes}
use Rattle.std.specs.Io.KnownBytes.{Appends}
use Rattle.std.proofs.lemmas.List.{append-nil}
use Rattle.std.proofs.lemmas.Bool.{false≢true}
use Rattle.aea_faults.specs.Faults.{Rose}
use Rattle.aea_io.specs.Streams.{SinkState}
use Rattle.aea_io.specs.Written.{AppendsPart}
use Rattle.aea_io.specs.Pages.{Prints}
use Rattle.aea_io.proofs.Printing.{prints_then}
use Rattle.aea_io.proofs.Puts.{AppendsPart-then}
use Rattle.aea_lattice.specs.declared.blocks.BlockId.{BlockId}
use Rattle.aea_lattice.specs.Shapes.{number_in}
use Rattle.aea_disk.specs.Files.{Files}
use Rattle.aea_catalog.specs.declared.objects.ObjectRef.{ObjectRef}
use Rattle.aea_catalog.specs.Catalogs.{Placed, Objects}
use Rattle.aea_ledger.specs.Lying.{LiesWithin}
use Rattle.aea_ledger.specs.Values.{Opened}
use Rattle.aea_archive.specs.Blocks.{IsIntactBy}
use Rattle.aea_archive.specs.Objects.{data_of, data_under, ArePayloads, joined, IsFront, IsOneOf}
use Rattle.aea_fetch.specs.Payloads.{IsPayload}
use Rattle.aea_fetch.specs.Copies.{HasCopied, HasCut}
use Rattle.aea_fetch.specs.Gets.{IsFound}
use Rattle.aea_fetch.proofs.Broken.{payload_wide, payloads_at}
use Rattle.aea_fetch.proofs.Copies.{long_enough, most_bytes}
use Rattle.aea_fetch.proofs.Firsts.{none_of}
use Rattle.aea_messages.specs.declared.message.Message.{Message}
use Rattle.aea_messages.specs.declared.message.Message.TheVariants.{Read}
use Rattle.aea_machine.specs.Machine.{Machine, Answer, step, read_in}
use Rattle.aea_machine.specs.Replies.{reply, damaged_code, IsReply}
use Rattle.aea_session.specs.Looks.{TakesSpace, HasSentBehind, IsReplyOfObject, BeginsObject, MayBeginObject, IsReplyTo, MayBegin, Replies, RepliesPart, greatest_reply}
use Rattle.aea_session.specs.declared.fault.TakeFault.{TakeFault}
use Rattle.aea_session.specs.declared.fault.TakeFault.TheVariants.{WriteFault}
use Rattle.aea_session.specs.declared.work.Work.{Work}
use Rattle.aea_session.specs.Stands.{KeepsMachine}
use Rattle.aea_session.proofs.Spaces.{space_printed}
use Rattle.aea_session.proofs.LookingPrinted.{printed_all, printed_part, ok_with, ok_as, err_with, at_err, kept_with}

take_nothing : (most : ℕ) → take most (joined []) ≡ []
take_nothing zero = refl
take_nothing (suc most) = refl

-- ---- payloads behind a head

module _ (has : BlockId → List ℕ → Type 0) (blocks : List BlockId) (most : ℕ) (head : List ℕ) where
  -- the output failed at the head
  pub cut_head : {T E : Type 0} {e : E} {r : List ℕ} (a b : SinkState) (output : Type 0) → Prints {T = T} a [] b r (Err e) head → HasCut has blocks most a head b output
  cut_head {T} {E} {e} {r} a b output prints =
      let none : head ≡ head ++ take most (joined []) = sym (append-nil head) ∙ ap (λ (l : List ℕ). head ++ l) (sym (take_nothing most)) in
      record {
        front = [];
        is_front = record { after = blocks; are = refl };
        payloads = [];
        are = tt;
        part = subst (λ (l : List ℕ). AppendsPart a.written b.written l) none (printed_part prints);
        kept = prints.cause.kept;
        cause = λ _. prints.cause.rose;
        fits = λ room revealed enough. absurd (false≢true (prints.fits room revealed (subst (λ (l : List ℕ). length l ≤ room) (sym none) enough)));
      }

  module _ {T E : Type 0} {v : T} (a b d : SinkState) (first : Prints {E = E} a [] b [] (Ok v) head) where
    -- the head was printed, and then all payloads
    pub sent_behind : HasCopied has blocks most b [] d [] → HasSentBehind has blocks most head a d
    sent_behind copied =
        let whole : Prints {T = Unit {0}} {E = Unit {0}} a [] d [] (Ok tt) (head ++ take most (joined copied.payloads)) = prints_then first copied.prints in
        record { payloads = copied.payloads; are = copied.are; appended = printed_all whole; space = space_printed whole }

    -- and then they were cut short
    pub cut_behind : (output : Type 0) → HasCut has blocks most b [] d output → HasCut has blocks most a head d output
    cut_behind output cut =
        let text : List ℕ = take most (joined cut.payloads) in
        let long = length-append head text in
        let still : b.faults ≡ a.faults = first.cause.still in
        record {
          front = cut.front;
          is_front = cut.is_front;
          payloads = cut.payloads;
          are = cut.are;
          part = AppendsPart-then a.written b.written d.written head text (printed_all first) cut.part;
          kept = let k = cut.kept in omega (arith, k, still);
          cause = λ is. subst (λ (n : ℕ). Rose n d.faults) still (cut.cause is);
          fits = λ room revealed enough.
              let left = first.left room revealed (omega (arith, long, enough)) in
              let sum = left.2 in
              let then = cut.fits left.0 left.1 (omega (arith, long, enough, sum)) in
              (then.0, then.1 ∙ still);
        }

-- ---- the reply

-- what was found among the data blocks of what is under a name, where an object is
found_at : (reveals : Type 0) (v : Opened) (c : Files) (o : Option Placed) (p : Placed) (r : Option BlockId) → o ≡ Some p → IsFound reveals v.shape v.digests c (data_under o) r → IsFound reveals v.shape v.digests c (data_of p.parts) r
found_at reveals v c o p r is found = subst (λ (bs : List BlockId). IsFound reveals v.shape v.digests c bs r) (ap data_under is) found

module _ (reveals : Type 0) (v : Opened) (c : Files) (message : Message) (o : Option Placed) (p : Placed) (is : o ≡ Some p) where
  -- a damaged block was found
  pub damaged_reply : (b : BlockId) (n : ℕ) → n ≡ number_in v.shape b → IsFound reveals v.shape v.digests c (data_under o) (Some b) → IsReplyOfObject reveals v c message p damaged_code (reply message damaged_code (to_be_bytes w32 n))
  damaged_reply b n at found =
      let here = found_at reveals v c o p (Some b) is found in
      inr (b, here.0, here.1, refl, ap (λ (k : ℕ). reply message damaged_code (to_be_bytes w32 k)) at)

  module _ (d : Files) (same : reveals → d ≡ c) (size : ℕ) (long : p.object.length ≡ size) (found : IsFound reveals v.shape v.digests c (data_under o) None) where
    -- all are intact, and their payloads were appended
    pub object_reply : (a b : SinkState) → LiesWithin v.shape v.lattice.n p
        → HasSentBehind (IsPayload reveals v.shape v.digests d) (data_under o) size (reply message 0 (to_be_bytes w64 size)) a b
        → Replies (IsReplyOfObject reveals v c message p 0) a b
    object_reply a b lies sent =
        let blocks : List BlockId = data_of p.parts in
        let has = IsPayload reveals v.shape v.digests c in
        let are : ArePayloads has blocks sent.payloads =
        payloads_at reveals v.shape v.digests d c same blocks sent.payloads
        (subst (λ (bs : List BlockId). ArePayloads (IsPayload reveals v.shape v.digests d) bs sent.payloads) (ap data_under is) sent.are) in
        let bytes : List ℕ = reply message 0 (to_be_bytes w64 p.object.length ++ take p.object.length (joined sent.payloads)) in
        let text : reply message 0 (to_be_bytes w64 size) ++ take size (joined sent.payloads) ≡ bytes =
        ap (λ (n : ℕ). reply message 0 (to_be_bytes w64 n ++ take n (joined sent.payloads))) (sym long) in (
          bytes,
          inl (
            sent.payloads,
            are,
            found_at reveals v c o p None is found,
            long_enough has v.shape.block (payload_wide reveals v.shape v.digests c) v.shape p sent.payloads refl are lies.sum lies.count,
            refl,
            refl,
          ),
          subst (λ (l : List ℕ). Appends a.written b.written l) text sent.appended,
          subst (λ (l : List ℕ). TakesSpace a b (length l)) text sent.space,
        )

    -- or were cut short
    pub object_part : (a b : SinkState) (output : Type 0)
        → HasCut (IsPayload reveals v.shape v.digests d) (data_under o) size a (reply message 0 (to_be_bytes w64 size)) b output
        → RepliesPart (MayBeginObject reveals v c message p) a b
    object_part a b output cut =
        let blocks : List BlockId = data_of p.parts in
        let bytes : List ℕ = reply message 0 (to_be_bytes w64 p.object.length ++ take p.object.length (joined cut.payloads)) in
        let text : reply message 0 (to_be_bytes w64 size) ++ take size (joined cut.payloads) ≡ bytes =
        ap (λ (n : ℕ). reply message 0 (to_be_bytes w64 n ++ take n (joined cut.payloads))) (sym long) in (
          bytes,
          inr (record {
            front = cut.front;
            is_front = subst (λ (bs : List BlockId). IsFront cut.front bs) (ap data_under is) cut.is_front;
            payloads = cut.payloads;
            are = payloads_at reveals v.shape v.digests d c same cut.front cut.payloads cut.are;
            intact = found_at reveals v c o p None is found;
            bytes_are = refl;
          }),
          subst (λ (l : List ℕ). AppendsPart a.written b.written l) text cut.part,
        )

    -- a reply of an object has no more bytes than its head and its length
    pub object_fits : (a b : SinkState) (output : Type 0) (room : ℕ) → a.room ≡ Some room → 10 + p.object.length ≤ room
        → HasCut (IsPayload reveals v.shape v.digests d) (data_under o) size a (reply message 0 (to_be_bytes w64 size)) b output → output → ⊥
    object_fits a b output room revealed enough cut =
        let most = most_bytes size cut.payloads in
        let all = length-append (reply message 0 (to_be_bytes w64 size)) (take size (joined cut.payloads)) in
        (cut.fits room revealed (omega (arith, most, all, enough, long))).0

-- no block that was found intact is damaged
pub none_damaged : (reveals : Type 0) (v : Opened) (c d : Files) (o : Option Placed) (b : BlockId) → (reveals → d ≡ c) → IsFound reveals v.shape v.digests c (data_under o) None
    → IsOneOf (data_under o) b × (reveals → IsIntactBy v.shape v.digests d b → ⊥) → IsOneOf (data_under o) b × (reveals → ⊥)
none_damaged reveals v c d o b same found damaged = (
  damaged.0,
  λ revealed. none_of (IsIntactBy v.shape v.digests c) (data_under o) b (found revealed) damaged.0
      (subst (λ (f : Files). IsIntactBy v.shape v.digests f b → ⊥) (same revealed) (damaged.1 revealed)),
)

-- ---- the second pass, whatever it came to

module _ (reveals : Type 0) (v : Opened) (c d : Files) (same : reveals → d ≡ c) (message : Message) (o : Option Placed) (size : ℕ) (long : (p : Placed) → o ≡ Some p → p.object.length ≡ size)
    (found : IsFound reveals v.shape v.digests c (data_under o) None) (a b : SinkState) (result : Result ℕ TakeFault) where
  pub object_replies : ((p : Placed) → o ≡ Some p → LiesWithin v.shape v.lattice.n p) → IfOk result (λ code. code ≡ 0)
      → OnOk result (HasSentBehind (IsPayload reveals v.shape v.digests d) (data_under o) size (reply message 0 (to_be_bytes w64 size)) a b)
      → IfOk result (λ code. (p : Placed) → o ≡ Some p → Replies (IsReplyOfObject reveals v c message p code) a b)
  object_replies lies at sent =
      ok_with result (HasSentBehind (IsPayload reveals v.shape v.digests d) (data_under o) size (reply message 0 (to_be_bytes w64 size)) a b) (λ code. (p : Placed) → o ≡ Some p → Replies (IsReplyOfObject reveals v c message p code) a b)
      (λ all p is. object_reply reveals v c message o p is d same size (long p is) found a b (lies p is) all) at sent

  pub object_parts : (P : Type 0) → IfErr result (λ fault. HasCut (IsPayload reveals v.shape v.digests d) (data_under o) size a (reply message 0 (to_be_bytes w64 size)) b (fault ≡ WriteFault))
      → IfErr result (λ fault. (p : Placed) → o ≡ Some p → P ⊎ RepliesPart (MayBeginObject reveals v c message p) a b)
  object_parts P cut =
      err_with result (λ fault. HasCut (IsPayload reveals v.shape v.digests d) (data_under o) size a (reply message 0 (to_be_bytes w64 size)) b (fault ≡ WriteFault))
      (λ fault. (p : Placed) → o ≡ Some p → P ⊎ RepliesPart (MayBeginObject reveals v c message p) a b)
      (λ fault one p is. inr (object_part reveals v c message o p is d same size (long p is) found a b (fault ≡ WriteFault) one)) cut

  pub object_in_room : IfErr result (λ fault. HasCut (IsPayload reveals v.shape v.digests d) (data_under o) size a (reply message 0 (to_be_bytes w64 size)) b (fault ≡ WriteFault))
      → (p : Placed) (room : ℕ) → o ≡ Some p → a.room ≡ Some room → 10 + p.object.length ≤ room → result ≢ Err WriteFault
  object_in_room cut p room is revealed enough fails =
      object_fits reveals v c message o p is d same size (long p is) found a b (WriteFault ≡ WriteFault) room revealed enough
      (at_err result WriteFault (λ fault. HasCut (IsPayload reveals v.shape v.digests d) (data_under o) size a (reply message 0 (to_be_bytes w64 size)) b (fault ≡ WriteFault)) fails cut) refl

module _ (has : BlockId → List ℕ → Type 0) (blocks : List BlockId) (size : ℕ) (head : List ℕ) (a b : SinkState) (result : Result ℕ TakeFault)
    (cut : IfErr result (λ fault. HasCut has blocks size a head b (fault ≡ WriteFault))) where
  pub object_rose : result ≡ Err WriteFault → Rose a.faults b.faults
  object_rose fails = (at_err result WriteFault (λ fault. HasCut has blocks size a head b (fault ≡ WriteFault)) fails cut).cause refl

  pub object_kept : (result ≢ Err WriteFault → b.faults ≡ a.faults) → a.faults ≤ b.faults
  object_kept still = kept_with result (λ fault. HasCut has blocks size a head b (fault ≡ WriteFault)) (λ fault one. one.kept) cut still

-- ---- the reply of a session

module _ (w : Work) (m : Machine) (keeps : KeepsMachine w m) (message : Message) (name : List ℕ) (kind : message ≡ Read name) where
  answer_is : (o : Option Placed) → get w.ledger.objects name ≡ o → (step w.ledger.shape m message).answer ≡ (read_in m o).answer
  answer_is o is =
      ap (λ (x : Message). (step w.ledger.shape m x).answer) kind ∙ ap (λ (q : Option Placed). (read_in m q).answer) (ap (λ (x : Objects). get x name) keeps.objects ∙ is)

  pub unknown_reply : (reveals : Type 0) (c : Files) → get w.ledger.objects name ≡ None → IsReplyTo reveals w.ledger m c message 9 (reply message 9 [])
  unknown_reply reveals c none =
      subst (λ (x : Answer). IsReply reveals (IsPayload reveals w.ledger.shape w.ledger.digests c) w.ledger.shape (length m.datas) w.ledger.digests c message x 9 (reply message 9 []))
      (sym (answer_is None none)) (refl, refl)

  pub unknown_room : (room : ℕ) → get w.ledger.objects name ≡ None → greatest_reply (step w.ledger.shape m message).answer ≤ room → 2 ≤ room
  unknown_room room none enough = subst (λ (x : Answer). greatest_reply x ≤ room) (answer_is None none) enough

  module _ (p : Placed) (is : get w.ledger.objects name ≡ Some p) where
    pub object_room : (room : ℕ) → greatest_reply (step w.ledger.shape m message).answer ≤ room → 10 + p.object.length ≤ room
    object_room room enough = subst (λ (x : Answer). greatest_reply x ≤ room) (answer_is (Some p) is) enough

    pub object_to : (reveals : Type 0) (c : Files) (code : ℕ) (bytes : List ℕ) → IsReplyOfObject reveals w.ledger c message p code bytes → IsReplyTo reveals w.ledger m c message code bytes
    object_to reveals c code bytes one =
        subst (λ (x : Answer). IsReply reveals (IsPayload reveals w.ledger.shape w.ledger.digests c) w.ledger.shape (length m.datas) w.ledger.digests c message x code bytes)
        (sym (answer_is (Some p) is)) one

    pub begin_to : (reveals : Type 0) (c : Files) (bytes : List ℕ) → MayBeginObject reveals w.ledger c message p bytes → MayBegin reveals w.ledger m c message bytes
    begin_to reveals c bytes may =
        ⊎_elim (λ (whole : (code : ℕ) × IsReplyOfObject reveals w.ledger c message p code bytes). inl (whole.0, object_to reveals c whole.0 bytes whole.1))
        (λ (begins : BeginsObject reveals w.ledger c message p bytes). inr (p, answer_is (Some p) is, begins)) may

module _ (reveals : Type 0) (w : Work) (c : Files) (message : Message) (name : List ℕ) (kind : message ≡ Read name) (p : Placed) (is : get w.ledger.objects name ≡ Some p) (a b : SinkState) (result : Result ℕ TakeFault) where
  pub session_replies : IfOk result (λ code. (q : Placed) → get w.ledger.objects name ≡ Some q → Replies (IsReplyOfObject reveals w.ledger c message q code) a b)
      → IfOk result (λ code. (m : Machine) → KeepsMachine w m → Replies (IsReplyTo reveals w.ledger m c message code) a b)
  session_replies one =
      ok_as result (λ code. (q : Placed) → get w.ledger.objects name ≡ Some q → Replies (IsReplyOfObject reveals w.ledger c message q code) a b)
      (λ code. (m : Machine) → KeepsMachine w m → Replies (IsReplyTo reveals w.ledger m c message code) a b)
      (λ code all m keeps. let r = all p is in (r.0, object_to w m keeps message name kind p is reveals c code r.0 r.1, r.2, r.3)) one

  pub session_parts : (P : Type 0) → IfErr result (λ fault. (q : Placed) → get w.ledger.objects name ≡ Some q → P ⊎ RepliesPart (MayBeginObject reveals w.ledger c message q) a b)
      → IfErr result (λ fault. (m : Machine) → KeepsMachine w m → P ⊎ RepliesPart (MayBegin reveals w.ledger m c message) a b)
  session_parts P one =
      err_with result (λ fault. (q : Placed) → get w.ledger.objects name ≡ Some q → P ⊎ RepliesPart (MayBeginObject reveals w.ledger c message q) a b)
      (λ fault. (m : Machine) → KeepsMachine w m → P ⊎ RepliesPart (MayBegin reveals w.ledger m c message) a b)
      (λ fault all m keeps.
      ⊎_elim (λ (none : P). inl none)
      (λ (r : RepliesPart (MayBeginObject reveals w.ledger c message p) a b). inr (r.0, begin_to w m keeps message name kind p is reveals c r.0 r.1, r.2)) (all p is)) one

-- what the catalogue found
pub long_of : (o : Option Placed) (p : Placed) (object : ObjectRef) → option_map (λ q. q.object) o ≡ Some object → o ≡ Some p → p.object.length ≡ object.length
long_of o p object found is =
    let h : Some p.object ≡ Some object = sym (ap (option_map (λ (q : Placed). q.object)) is) ∙ found in
    let same : p.object ≡ object = cc in
    ap (λ (x : ObjectRef). x.length) same

pub none_found : (o : Option Placed) → option_map (λ q. q.object) o ≡ None → o ≡ None
none_found None is = refl
none_found (Some p) is = absurd (let h : Some p.object ≡ None = is in cc)
