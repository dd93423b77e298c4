-- What the verdict on a report says.
use Rattle.std.proofs.Common.{◌≡◌, ℕ, ◌+◌, ◌≤◌, List, [], ◌∷◌, Bool, true, false, Result, Ok, Err, refl, sym, ◌∙◌, ap, subst, arith, inl, inr}
use Rattle.std.specs.Prelude.{◌↔◌, All, Contains}
use Rattle.std.proofs.lemmas.Bool.{cases_Bool, false≢true}
use Rattle.std.proofs.lemmas.Bool.Decides.{nat_tests}
use Rattle.std.proofs.lemmas.List.Elements.{All-nil, All-cons, All-contains}
use Rattle.aea_lattice.specs.declared.blocks.BlockId.{BlockId}
use Rattle.aea_lattice.specs.declared.grid.Lattice.{Lattice}
use Rattle.aea_lattice.specs.Blocks.{HasBlock, number_of}
use Rattle.aea_disk.specs.Files.{Files}
use Rattle.aea_ledger.specs.Recorded.{IsLatticeOf}
use Rattle.aea_ledger.specs.Values.{Opened}
use Rattle.aea_archive.specs.Blocks.{IsBlockIn, RevealsSurvivors}
use Rattle.aea_report.specs.declared.head.Head.{Head}
use Rattle.aea_report.specs.declared.line.Line.{Line}
use Rattle.aea_report.specs.declared.line.Line.TheVariants.{Lost}
use Rattle.aea_report.specs.Format.{block_in}
use Rattle.aea_report.specs.Grammar.{AreLinesFrom, AreLines, IsReport}
use Rattle.aea_report.specs.Faults.{IsBadLine, IsLongLine}
use Rattle.aea_report.specs.Fits.{Fits}
use Rattle.aea_report.specs.Laws.{HaveOneReading, ReportsAreNotBad, AreBadAtOneLine}
use Rattle.aea_reader.specs.declared.fault.ReportFault.{ReportFault}
use Rattle.aea_reader.specs.declared.fault.ReportFault.TheVariants as reading
use Rattle.aea_verify.specs.declared.verdict.Why.TheVariants.{OtherArchive}
use Rattle.aea_verify.specs.declared.verdict.Verdict.{Verdict}
use Rattle.aea_verify.specs.declared.verdict.Verdict.TheVariants.{Accepted, Rejected}
use Rattle.aea_verify.specs.declared.verdict.VerifyFault.{VerifyFault}
use Rattle.aea_verify.specs.declared.verdict.VerifyFault.TheVariants.{BadLine, LineTooLong, ReadFault, DiskFault, NoMemory}
use Rattle.aea_verify.specs.Rules.{has_lattice, verdict_of}
use Rattle.aea_verify.specs.Shown.{AcceptedAreFitting, LostAreOpen}
use Rattle.aea_verify.specs.Judged.{FaultSays, HasVerdict}
use Rattle.aea_verify.specs.Answers.{IsJudged, IsFree, IsReadAs, IsAnswered, fault_of}
use Rattle.aea_verify.proofs.Judged.{lattice_of_fit}
use Rattle.aea_verify.proofs.Agree.{verdict-agree, lines-same, head-same, other-lattice}

-- ---- the tests that distinguish the survivors

-- the blocks of the lattice are in the archive
abbrev pub AreInside : Opened → Type 0
AreInside v = (b : BlockId) → HasBlock v.lattice b → IsBlockIn v.shape v.lattice.n b

pub are-inside : (v : Opened) (l : Lattice) → l ≡ v.lattice → IsLatticeOf v.shape l.n l.fences l → AreInside v
are-inside v l same of_shape b has = record {
  after = has.first;
  most = has.last;
  used = (let u = has.used in let e = of_shape.alpha in let a = ap (λ (k : Lattice). k.alpha) same in omega (arith, u, e, a));
}

same_truth : (x y : Bool) → (x ≡ true → y ≡ true) → (y ≡ true → x ≡ true) → x ≡ y
same_truth true y to from = sym (to refl)
same_truth false true to from = from refl
same_truth false false to from = refl

tests_agree : (v : Opened) (c : Files) (i j : BlockId → Bool) → AreInside v → RevealsSurvivors v.shape v.lattice.n v.digests c i → RevealsSurvivors v.shape v.lattice.n v.digests c j
    → (b : BlockId) → HasBlock v.lattice b → i b ≡ j b
tests_agree v c i j inside first second b has =
    let one = first b (inside b has) in
    let two = second b (inside b has) in
    same_truth (i b) (j b) (λ is. two.1 (one.0 is)) (λ is. one.1 (two.0 is))

-- ---- reports of this lattice, and of others

lines_inside : (l : Lattice) (least : ℕ) (lines : List Line) → AreLinesFrom l least lines → All (λ line. HasBlock l (block_in line)) lines
lines_inside l least [] are = All-nil (λ line. HasBlock l (block_in line))
lines_inside l least (line ∷ lines) are =
    All-cons (λ x. HasBlock l (block_in x)) line lines are.0.block (lines_inside l (number_of l (block_in line) + 1) lines are.1)

module _ (l : Lattice) (seal : List ℕ) (input : List ℕ) (h : Head) (lines : List Line) (report : IsReport input h lines) where
  lines_of_this : has_lattice l h ≡ true → AreLines l lines
  lines_of_this fits = lines-same l report.lattice (head-same l report.lattice h fits report.head) lines report.valid

  same_verdict : (i j : BlockId → Bool) → ((b : BlockId) → HasBlock l b → i b ≡ j b) → verdict_of l seal i h lines ≡ verdict_of l seal j h lines
  same_verdict i j same =
      elim (cases_Bool (has_lattice l h)) [
        | inl fits ↦ verdict-agree l i j same seal h lines (lines_of_this fits)
        | inr other ↦ other-lattice l seal i h lines other ∙ sym (other-lattice l seal j h lines other)
      ]

  rejected_accepted : (k : ℕ) → Rejected k OtherArchive ≡ Accepted → ⊥
  rejected_accepted k e = cc

  -- a report of any lattice is accepted exactly where it fits
  accepted_fit : AcceptedAreFitting → (i : BlockId → Bool) → (verdict_of l seal i h lines ≡ Accepted) ↔ Fits l seal i h lines
  accepted_fit law i =
      elim (cases_Bool (has_lattice l h)) [
        | inl fits ↦ law l seal i h lines (lines_of_this fits)
        | inr other ↦ (
          λ accepted. absurd (rejected_accepted 2 (sym (other-lattice l seal i h lines other) ∙ accepted)),
          λ fit. absurd (false≢true (sym other ∙ lattice_of_fit l seal i h lines fit)),
        )
      ]

  block_of_lost : (b : BlockId) (nodes : List ℕ) → has_lattice l h ≡ true → Contains lines (Lost b nodes) → HasBlock l b
  block_of_lost b nodes fits has = All-contains (λ line. HasBlock l (block_in line)) lines (Lost b nodes) (lines_inside l 0 lines (lines_of_this fits)) has

-- ---- a verdict

pub judged : (v : Opened) (c : Files) (intact : BlockId → Bool) (input : List ℕ) (verdict : Verdict) → AreInside v → RevealsSurvivors v.shape v.lattice.n v.digests c intact
    → HasVerdict v.lattice v.seal intact input verdict → IsJudged v c input verdict
judged v c intact input verdict inside revealed has = record {
  head = has.head;
  lines = has.lines;
  report = has.report;
  verdict_is = λ test reveals.
      has.verdict_is ∙ same_verdict v.lattice v.seal input has.head has.lines has.report intact test (tests_agree v c intact test inside revealed reveals);
}

some_bytes : (v : Opened) → 1 ≤ v.shape.block
some_bytes v = let h = v.shape.in_profile in grind (arith, nat_tests)

same_ok : (a b : Verdict) → ◌≡◌ {A = Result Verdict VerifyFault} (Ok a) (Ok b) → a ≡ b
same_ok a b e = cc

module _ (one : HaveOneReading) (fitting : AcceptedAreFitting) (lost : LostAreOpen) (v : Opened) (c : Files) (input : List ℕ) where
  fits_exactly : (verdict : Verdict) → IsJudged v c input verdict → (test : BlockId → Bool) (h : Head) (lines : List Line) → RevealsSurvivors v.shape v.lattice.n v.digests c test → IsReport input h lines
      → (verdict ≡ Accepted) ↔ Fits v.lattice v.seal test h lines
  fits_exactly verdict is test h lines revealed report =
      let same = one input is.head h is.lines lines is.report report in
      let e : verdict ≡ verdict_of v.lattice v.seal test h lines =
      is.verdict_is test revealed ∙ ap (λ x. verdict_of v.lattice v.seal test x is.lines) same.0 ∙ ap (verdict_of v.lattice v.seal test h) same.1 in
      let exactly = accepted_fit v.lattice v.seal input h lines report fitting test in
      (λ accepted. exactly.0 (sym e ∙ accepted), λ fit. e ∙ exactly.1 fit)

  pub answered-ok : (verdict : Verdict) → IsJudged v c input verdict → IsAnswered v c input (Ok verdict)
  answered-ok verdict is = record {
    fits = λ test h lines revealed report ok.
        let exactly = fits_exactly verdict is test h lines revealed report in
        (λ accepted. exactly.0 (same_ok verdict Accepted accepted), λ fit. ap Ok (exactly.1 fit));
    shows = λ test h lines b nodes revealed report accepted has.
        let fit = (fits_exactly verdict is test h lines revealed report).0 (same_ok verdict Accepted accepted) in
        let block = block_of_lost v.lattice v.seal input h lines report b nodes (lattice_of_fit v.lattice v.seal test h lines fit) has in
        (block, lost v.lattice v.seal test h lines v.shape.block (some_bytes v) fit b nodes block has);
  }

no_ok : (fault : VerifyFault) (verdict : Verdict) → ◌≡◌ {A = Result Verdict VerifyFault} (Err fault) (Ok verdict) → ⊥
no_ok fault verdict e = cc

-- of a fault there is nothing to say
pub answered-err : (v : Opened) (c : Files) (input : List ℕ) (fault : VerifyFault) → IsAnswered v c input (Err fault)
answered-err v c input fault = record {
  fits = λ test h lines revealed report ok. absurd (false≢true ok);
  shows = λ test h lines b nodes revealed report accepted has. absurd (no_ok fault Accepted accepted);
}

-- ---- what the input alone decides

-- a fault of the source or the disk, and lack of memory, name no line
free_bad : (fault : VerifyFault) → IsFree (Err fault) → (k : ℕ) → ◌≡◌ {A = Result Verdict VerifyFault} (Err fault) (Err (BadLine k)) → ⊥
free_bad fault free k e = elim free [
  | inl read ↦ let h : ◌≡◌ {A = Result Verdict VerifyFault} (Err ReadFault) (Err (BadLine k)) = sym read ∙ e in cc
  | inr other ↦ elim other [
    | inl disk ↦ let h : ◌≡◌ {A = Result Verdict VerifyFault} (Err DiskFault) (Err (BadLine k)) = sym disk ∙ e in cc
    | inr memory ↦ let h : ◌≡◌ {A = Result Verdict VerifyFault} (Err NoMemory) (Err (BadLine k)) = sym memory ∙ e in cc
  ]
]

free_long : (fault : VerifyFault) → IsFree (Err fault) → (k : ℕ) → ◌≡◌ {A = Result Verdict VerifyFault} (Err fault) (Err (LineTooLong k)) → ⊥
free_long fault free k e = elim free [
  | inl read ↦ let h : ◌≡◌ {A = Result Verdict VerifyFault} (Err ReadFault) (Err (LineTooLong k)) = sym read ∙ e in cc
  | inr other ↦ elim other [
    | inl disk ↦ let h : ◌≡◌ {A = Result Verdict VerifyFault} (Err DiskFault) (Err (LineTooLong k)) = sym disk ∙ e in cc
    | inr memory ↦ let h : ◌≡◌ {A = Result Verdict VerifyFault} (Err NoMemory) (Err (LineTooLong k)) = sym memory ∙ e in cc
  ]
]

pub read-free : (input : List ℕ) (fault : VerifyFault) → IsFree (Err fault) → IsReadAs input (Err fault)
read-free input fault free = record {
  judged = λ ok. absurd (false≢true ok);
  named_bad = λ k e. absurd (free_bad fault free k e);
  named_long = λ k e. absurd (free_long fault free k e);
  report = λ h lines report. inr free;
  bad = λ k bad. inr free;
  long = λ k long. inr free;
}

ok_bad : (verdict : Verdict) (fault : VerifyFault) → ◌≡◌ {A = Result Verdict VerifyFault} (Ok verdict) (Err fault) → ⊥
ok_bad verdict fault e = cc

bad_bad : (k j : ℕ) → ◌≡◌ {A = Result Verdict VerifyFault} (Err (BadLine k)) (Err (BadLine j)) → k ≡ j
bad_bad k j e = cc

long_long : (k j : ℕ) → ◌≡◌ {A = Result Verdict VerifyFault} (Err (LineTooLong k)) (Err (LineTooLong j)) → k ≡ j
long_long k j e = cc

bad_long : (k j : ℕ) → ◌≡◌ {A = Result Verdict VerifyFault} (Err (BadLine k)) (Err (LineTooLong j)) → ⊥
bad_long k j e = cc

module _ (not_bad : ReportsAreNotBad) (once : AreBadAtOneLine) (input : List ℕ) where
  pub read-ok : (verdict : Verdict) (h : Head) (lines : List Line) → IsReport input h lines → IsReadAs input (Ok verdict)
  read-ok verdict h lines report = record {
    judged = λ ok. (h, lines, report);
    named_bad = λ k e. absurd (ok_bad verdict (BadLine k) e);
    named_long = λ k e. absurd (ok_bad verdict (LineTooLong k) e);
    report = λ g ls other. inl refl;
    bad = λ k bad. absurd ((not_bad input h lines k report).0 bad);
    long = λ k long. absurd ((not_bad input h lines k report).1 long);
  }

  read_bad : (k : ℕ) → IsBadLine input k → IsReadAs input (Err (BadLine k))
  read_bad k says = record {
    judged = λ ok. absurd (false≢true ok);
    named_bad = λ j e. subst (IsBadLine input) (bad_bad k j e) says;
    named_long = λ j e. absurd (bad_long k j e);
    report = λ h lines report. absurd ((not_bad input h lines k report).0 says);
    bad = λ j bad. inl (ap (λ n. Err (BadLine n)) ((once input k j).0 says bad));
    long = λ j long. absurd ((once input k j).2 says long);
  }

  read_long : (k : ℕ) → IsLongLine input k → IsReadAs input (Err (LineTooLong k))
  read_long k says = record {
    judged = λ ok. absurd (false≢true ok);
    named_bad = λ j e. absurd (bad_long j k (sym e));
    named_long = λ j e. subst (IsLongLine input) (long_long k j e) says;
    report = λ h lines report. absurd ((not_bad input h lines k report).1 says);
    bad = λ j bad. absurd ((once input j k).2 bad says);
    long = λ j long. inl (ap (λ n. Err (LineTooLong n)) ((once input k j).1 says long));
  }

  pub read-err : (fault : ReportFault) → FaultSays input fault → IsReadAs input (Err (fault_of fault))
  read-err (reading.BadLine k) says = read_bad k says
  read-err (reading.LineTooLong k) says = read_long k says
  read-err reading.ReadFault says = read-free input ReadFault (inl refl)
  read-err reading.NoMemory says = read-free input NoMemory (inr (inr refl))

-- the verdict by the lattice and the seal of the ledger
pub verdict-here : (v : Opened) (l : Lattice) (seal : List ℕ) (intact : BlockId → Bool) (input : List ℕ) (verdict : Verdict) → l ≡ v.lattice → seal ≡ v.seal
    → HasVerdict l seal intact input verdict → HasVerdict v.lattice v.seal intact input verdict
verdict-here v l seal intact input verdict a b has =
    subst (λ (m : Lattice). HasVerdict m v.seal intact input verdict) a (subst (λ (s : List ℕ). HasVerdict l s intact input verdict) b has)
