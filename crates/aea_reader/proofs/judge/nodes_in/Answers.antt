use Rattle.std.proofs.Common.{◌≡◌, ◌<◌, ◌++◌, ◌∷◌, [], length, length-append, sym, subst, arith}
use Rattle.std.proofs.lemmas.Bool.Decides.{nat_tests}
use Rattle.std.proofs.lemmas.List.{nil_from_length}
use Rattle.aea_report.specs.Format.{numbers_text}
use Rattle.aea_report.specs.Grammar.{RiseFrom}
use Rattle.aea_reader.proofs.Nodes.{continues, stops, spelled_more, rises_more, all_read, some_text}
use Rattle.aea_reader.proofs.judge.nodes_in.Goals as goal

pub returns-then-is_empty-clause-none : goal.returns-then-is_empty-clause-none
returns-then-is_empty-clause-none c nodes are spelled =
    let none : length c.args.text.now ≡ 0 = grind (arith, nat_tests, c.is_empty.ensures, c.if-is_empty.true) in
    some_text c.args.lattice.now nodes c.args.text.now are spelled (nil_from_length c.args.text.now none)

pub returns-in_default-clause-none : goal.returns-in_default-clause-none
returns-in_default-clause-none c nodes are spelled =
    let some : 0 < length c.loop-rest.rest.now = grind (arith, nat_tests, c.is_empty-in-loop-rest.ensures, c.loop-rest-test.true) in
    stops c.args.lattice.now c.loop-rest.last c.loop-rest.rest.now c.node_after.result c.in_default.is c.node_after.ensures.reads some (c.loop-rest.invariant.reads nodes are.1 spelled)

pub loop-rest-preserved : goal.loop-rest-preserved
loop-rest-preserved c =
    let l = c.args.lattice.now in
    let nodes = c.loop-rest.nodes in
    let node = c.in-Some.node in
    let last = c.loop-rest.last in
    let rest = c.loop-rest.rest.now in
    let after = c.in-Some.more.now in
    let some : 0 < length c.loop-rest.rest.now = grind (arith, nat_tests, c.is_empty-in-loop-rest.ensures, c.loop-rest-test.true) in
    let grown : c.push.new.self ≡ c.loop-rest.nodes ++ c.in-Some.node ∷ [] = c.in_ok-push.ensures.ok in
    record {
      spelled = subst (λ ns. c.args.text.now ≡ numbers_text ns ++ after) (sym grown) (spelled_more nodes node c.args.text.now rest after c.loop-rest.invariant.spelled c.in-Some.ensures.found);
      some = λ _. subst (λ ns. 0 < length ns) (sym grown) (omega (arith, length-append nodes (node ∷ [])));
      rises = λ more rise.
          subst (λ ns. RiseFrom l 0 (ns ++ more)) (sym grown) (rises_more l nodes last node c.in-Some.ensures.rises.0 c.in-Some.ensures.rises.1 c.loop-rest.invariant.rises more rise);
      reads = λ all rise text.
          continues l last rest c.node_after.result (node, c.in-Some.more) c.in-Some.is c.node_after.ensures.reads some (c.loop-rest.invariant.reads all rise text);
    }

pub returns-clause-found : goal.returns-clause-found
returns-clause-found c =
    let none : length c.loop-rest.rest.now ≡ 0 = grind (arith, nat_tests, c.is_empty-in-loop-rest.ensures, c.loop-rest-test.false) in
    all_read c.args.lattice.now c.loop-rest.nodes c.loop-rest.last c.args.text.now c.loop-rest.rest.now c.loop-rest.invariant.spelled (nil_from_length c.loop-rest.rest.now none)
    (c.loop-rest.invariant.some none) c.loop-rest.invariant.rises
